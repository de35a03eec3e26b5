use Rattle.std.proofs.Common.{ℕ, ap, inl, inr, length, refl, ◌∙◌}
use Rattle.std.proofs.lemmas.List.{length-replicate}
use Rattle.device.specs.Disk.{Trace}
use Rattle.index_model.specs.Formats.{made}
use Rattle.command_line.proofs.NoIndex.{not_created, refused_so}
use Rattle.command_line.proofs.engine.Engine.new.Goals as goal

pub returns : goal.returns
returns c =
    let tree = c.new_indexes_are_trees.ensures (made c.args.setting.now.limits) _ c.in_ok-create.ensures.own in
    record {
      setting = refl;
      sets = c.in_ok-opened.ensures.sets;
      empty = record {
        pages = tree.pages;
        empty = tree.empty;
        begins = c.in_ok-opened.ensures.begins (c.is_valid.ensures.0 c.if-not-is_valid.false).sizes (made c.args.setting.now.limits) tree.pages tree.now tree.tree;
      };
      cause = tt;
    }

pub returns-then-not-is_valid-clause-cause : goal.returns-then-not-is_valid-clause-cause
returns-then-not-is_valid-clause-cause c = inl (refl, λ allowed. absurd (let valid = c.is_valid.ensures.1 allowed in cc))

pub returns-in_err-device-clause-cause : goal.returns-in_err-device-clause-cause
returns-in_err-device-clause-cause c =
    refused_so c.from_residual.result c.in_err-device.field-0.0 _ c.from_residual.ensures.1 (inr (inl c.in_err-device.ensures.fault))

pub returns-in_err-create-clause-cause : goal.returns-in_err-create-clause-cause
returns-in_err-create-clause-cause c =
    refused_so c.from_residual-in_err-create.result c.in_err-create.field-0.0 _ c.from_residual-in_err-create.ensures.1
    (not_created ℕ c.args.setting.now _ _ _ _ _ (c.is_valid.ensures.0 c.if-not-is_valid.false)
    (ap (λ (t : Trace). length t.now.seen) c.in_ok-device.ensures.bytes ∙ length-replicate _ _ ∙ c.needed_len.ensures) c.in_err-create.ensures.ends)

pub returns-in_err-opened-clause-cause : goal.returns-in_err-opened-clause-cause
returns-in_err-opened-clause-cause c =
    let tree = c.new_indexes_are_trees.ensures (made c.args.setting.now.limits) _ c.in_ok-create.ensures.own in
    refused_so c.from_residual-in_err-opened.result c.in_err-opened.field-0.0 _ c.from_residual-in_err-opened.ensures.1
    (inr (c.in_err-opened.ensures.begins (c.is_valid.ensures.0 c.if-not-is_valid.false).sizes (made c.args.setting.now.limits) tree.pages tree.now tree.tree))
