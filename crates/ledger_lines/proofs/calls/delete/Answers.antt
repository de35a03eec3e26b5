use Rattle.std.proofs.Common.{refl, inl}
use Rattle.ledger_lines.proofs.calls.delete.Goals as goal

pub returns-in-Ok-ambulkdelete-clause-replies : goal.returns-in-Ok-ambulkdelete-clause-replies
returns-in-Ok-ambulkdelete-clause-replies g c = λ are. record {
  stats = c.in-Ok-ambulkdelete.stats;
  removed_is = refl;
  deletes = record {
    dead = c.in-Ok.dead;
    named = c.in-Ok.ensures are;
    is = record { made = c.in-Ok-ambulkdelete.ensures.made; deletes = c.in-Ok-ambulkdelete.ensures.deletes };
  };
}

pub returns-clause-replies : goal.returns-clause-replies
returns-clause-replies g c = λ are. inl (record {
  dead = c.in-Ok.dead;
  named = c.in-Ok.ensures are;
  is = record { made = c.in-Err.ensures.made; deletes = c.in-Err.ensures.deletes };
})
