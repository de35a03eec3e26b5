use Rattle.std.proofs.Common.{Some, Err, refl, sym, inr, ◌∙◌}
use Rattle.ledger_lines.proofs.session.reply_to.Goals as goal

-- what has no form of a line spells none, and no key or row is at fault
pub returns-in-None-clause-replies : goal.returns-in-None-clause-replies
returns-in-None-clause-replies g c =
    inr (record {
      no_line = λ line valid spelled. (let is = sym c.in-None.is ∙ c.parse.ensures.only line valid spelled in cc);
      replies = λ fault fails. (let is = sym c.in-None.is ∙ c.parse.ensures.only_refused fault fails in cc);
      unchanged = refl;
      silent = refl;
    })
