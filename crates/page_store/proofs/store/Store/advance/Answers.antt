use Rattle.page_store.specs.Stores.{held_by}
use Rattle.page_store.proofs.FollowLaws.{follows_both}
use Rattle.page_store.proofs.store.Store.advance.Goals as goal

pub returns-clause-steps : goal.returns-clause-steps
returns-clause-steps g c = λ first before. follows_both _ (held_by g.D.Device c.args.self.now) _ before c.advance.ensures.steps
