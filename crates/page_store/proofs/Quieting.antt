-- How calls that make no act follow one another.
use Rattle.std.proofs.Common.{◌≡◌, ◌≤◌, ◌∙◌, refl, ap, inl, inr, arith}
use Rattle.buffer_pool.specs.Pools.{changed_of}
use Rattle.page_store.proofs.Imports.{Ghosts, Follows, follows_same, held_of, backing_of, SameButDevice, IsSameButWritten, LoggedPages, IsPartOf, WaitsOn, waiting_blocks}
use Rattle.page_store.proofs.Ordering.{part_same, part_both, part_is}
use Rattle.page_store.proofs.FollowLaws.{follows_both}

pub quiet_same : {D : Type 0} (g : Ghosts D) (a : LoggedPages D g) → IsSameButWritten g a a
quiet_same g a = record {
  follows = follows_same (held_of g a);
  pages = record { format = refl; history = refl; used = refl; acts = refl };
  promised = refl;
  idle = λ all. refl;
  order = part_same (changed_of a.pool);
  waits = inl refl;
}

-- what waits waits on
pub waits_both : {D : Type 0} (g : Ghosts D) (a b c : LoggedPages D g) → b.acts ≡ a.acts → c.acts ≡ b.acts → b.durable ≤ c.durable
    → WaitsOn a.acts (backing_of (held_of g a)) (backing_of (held_of g b)) → WaitsOn b.acts (backing_of (held_of g b)) (backing_of (held_of g c))
    → WaitsOn a.acts (backing_of (held_of g a)) (backing_of (held_of g c))
waits_both g a b c first second later f (inr forced) = inr (forced.0, forced.1 ∙ first)
waits_both g a b c first second later (inl was) (inl same) = inl (same ∙ was)
waits_both g a b c first second later (inr forced) (inl same) =
    let few : c.durable ≤ c.acts = c.not_ahead in
    inr (same ∙ forced.0, omega (arith, forced.1, few, later, first, second))

pub quiet_both : {D : Type 0} (g : Ghosts D) (a b c : LoggedPages D g) → IsSameButWritten g a b → IsSameButWritten g b c → IsSameButWritten g a c
quiet_both g a b c f s = record {
  follows = follows_both (held_of g a) (held_of g b) (held_of g c) f.follows s.follows;
  pages = record {
    format = s.pages.format ∙ f.pages.format;
    history = s.pages.history ∙ f.pages.history;
    used = s.pages.used ∙ f.pages.used;
    acts = s.pages.acts ∙ f.pages.acts;
  };
  promised = s.promised ∙ f.promised;
  idle = λ all.
      let durable : a.durable ≤ b.durable = f.follows.later.durable in
      let few : b.durable ≤ b.acts = b.not_ahead in
      let same : b.acts ≡ a.acts = f.pages.acts in
      let here : b.durable ≡ b.acts = omega arith in
      s.idle here ∙ f.idle all;
  order = part_both (changed_of c.pool) (changed_of b.pool) (changed_of a.pool) s.order f.order;
  waits = waits_both g a b c f.pages.acts s.pages.acts s.follows.later.durable f.waits s.waits;
}

-- if the store is as it was except for the pool, of which some changed pages are noted as written
pub quiet_noted : {D : Type 0} (g : Ghosts D) (a b : LoggedPages D g) → b.format ≡ a.format → b.history.value ≡ a.history.value → b.used ≡ a.used
    → b.acts ≡ a.acts → b.promised ≡ a.promised → b.room ≡ a.room → b.log ≡ a.log → IsPartOf (changed_of b.pool) (changed_of a.pool)
    → Follows (held_of g a) (held_of g b) → IsSameButWritten g a b
quiet_noted g a b format history used acts promised room log order follows = record {
  follows = follows;
  pages = record { format = format; history = history; used = used; acts = acts };
  promised = promised;
  idle = λ all. room;
  order = order;
  waits = inl (ap waiting_blocks log);
}

-- if the device alone is another
pub quiet_device : {D : Type 0} (g : Ghosts D) (a b : LoggedPages D g) → Follows (held_of g a) (held_of g b) → SameButDevice g a b → IsSameButWritten g a b
quiet_device g a b follows same =
    record {
      follows = follows;
      pages = same.pages;
      promised = same.room.promised;
      idle = λ all. same.room.room;
      order =
          part_is (changed_of b.pool) (changed_of a.pool) (ap changed_of same.pool);
      waits = inl (ap waiting_blocks same.log);
    }
