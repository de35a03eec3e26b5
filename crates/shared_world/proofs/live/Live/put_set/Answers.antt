use Rattle.shared_world.proofs.Putting.{put_beside, put_in_order}
use Rattle.shared_world.proofs.live.Live.put_set.Goals as goal

pub invariant_of-self : goal.invariant_of-self
invariant_of-self g c =
    let self = c.args.self.now in
    let put = c.put_set.ensures in
    let world = c.put_set.new.self in
    put_in_order self world c.args.at c.requires.may put.store put.calls
    (put_beside g.T.DeadRows.is_in c.put_set.result (λ w. w.sets.items) self.world world c.args.at c.args.set put.put put.refused)
    put.fits put.keeps
