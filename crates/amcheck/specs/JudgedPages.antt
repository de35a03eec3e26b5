-- What a check of the pages of a store does and answers.
use Rattle.std.specs.Prelude.{◌≡◌, Bool, true, Result, Err, IfOk, IfErr}
use Rattle.index_model.specs.declared.fault.Fault.TheVariants.{NoMemory}
use Rattle.latch_table.specs.Holdings.{pinned_blocks}
use Rattle.page_action.specs.Room.{KeepsRoom}
use Rattle.page_action.specs.States.{Continues}
use Rattle.page_action.specs.declared.page_store.PageStore.{Ghosts}
use Rattle.tree_acts.specs.TheoremKeys.{IsTreeFor}
use Rattle.amcheck.specs.Answers.{IsAnswer}
use Rattle.amcheck.specs.Checks.{IsCheckFault}
use Rattle.amcheck.specs.Laws.{IsAnswered}
use Rattle.amcheck.specs.Reading.{AreFetched, IsRestBut}
use Rattle.amcheck.specs.Reports.{IsReport}
use Rattle.amcheck.specs.declared.report.CheckFault.{CheckFault}
use Rattle.amcheck.specs.declared.report.CheckFault.TheVariants.{Refused}
use Rattle.amcheck.specs.declared.report.Report.{Report}

-- The pages of a store are judged, with parents and children or without: each is read, none is changed, and a
-- report, the first damage or a fault is answered.
pub record JudgesPages {S : Type 0} (g : Ghosts S) (parents : Bool) (result : Result Report CheckFault) (old new : S) : Type 0 where
  pub steps : Continues g.follows old new
  pub state : g.state new ≡ g.state old
  pub room : KeepsRoom (g.state old) (g.backing old) (g.backing new)
  -- Nothing is forced or written except for the frames that the pages take.
  pub frames : AreFetched (g.state old) (g.memory old) (g.memory new) (g.backing old) (g.backing new)
  pub order : IsRestBut (pinned_blocks (g.state old).table) (g.backing new).changed (g.backing old).changed
  -- The log isn't stopped if a check answers.
  pub alive : IsAnswered result → (g.backing new).stopped ≡ true → (g.backing old).stopped ≡ true
  pub report : (g.backing new).honest ≡ true → IfOk result (IsReport (g.state old).pages)
  -- It answers the first damage that there is, if there is one.
  pub answer : (g.backing new).honest ≡ true
      → IsAnswer parents (g.state old).format.unique (g.state old).pages result
  pub fault : IfErr result (IsCheckFault (g.state old) (g.backing old) (g.backing new)
      (IsTreeFor (g.state old).format (g.state old).pages))
  pub unread : result ≡ Err (Refused NoMemory) → new ≡ old
