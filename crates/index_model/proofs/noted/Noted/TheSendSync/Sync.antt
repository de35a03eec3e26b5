-- It owns nothing, so it may be shared by threads.
use denote.RattleType.{RattleType}
use denote.Param.Send.{IsSync, part_keyless}
use Rattle.index_model.specs.contracts.noted.Noted.{the_row}
use Rattle.index_model.proofs.noted.Noted.TheSendSync.Send.{send}

pub sync : (V : RattleType) → IsSync (the_row V)
sync V = record { shared = λ d b o κ q. part_keyless (the_row V) (send V) q d b o }
