-- Why a check is refused, and what it finds.
use Rattle.std.specs.Prelude.{◌≡◌, suc, true, not, nat_lt}
use Rattle.index_model.specs.Faults.{Circumstances, HasCause}
use Rattle.page_action.specs.Causes.{nothing_wrong, has_failed, pinned_blocks, count_apart}
use Rattle.page_action.specs.States.{State, Backing}
use Rattle.amcheck.specs.declared.report.CheckFault.{CheckFault}
use Rattle.amcheck.specs.declared.report.CheckFault.TheVariants.{Damage, Refused}

-- every page is read, in room that is made for it; a page is damaged only if the device did not keep
-- its model
abbrev pub causes_of_checked : State → Backing → Backing → Circumstances
causes_of_checked st old new = record nothing_wrong {
  growth_refused = true;
  device_failed = has_failed old new;
  is_stopped = old.stopped;
  frames_are_pinned = nat_lt st.frames (suc (count_apart (pinned_blocks st.table)));
  page_is_damaged = λ b. not new.honest;
}

-- Damage is found only if the pages are not as they are to be, as far as the device kept its model;
-- and what is refused has its cause.
abbrev pub IsCheckFault : State → Backing → Backing → Type 0 → CheckFault → Type 0
IsCheckFault st old new sound (Damage number block) = new.honest ≡ true → sound → ⊥
IsCheckFault st old new sound (Refused fault) = HasCause (causes_of_checked st old new) fault
