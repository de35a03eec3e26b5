-- How pages over a device follow one another.
use Rattle.std.proofs.Common.{◌≡◌, List, [], ◌++◌, refl, sym, ap, subst, ◌∙◌, arith, append_assoc}
use Rattle.page_action.proofs.Laters.{later_trans}
use Rattle.page_store.proofs.Imports.{append-nil, goes_weaker, goes_on, Format, Page, IsLater, format_of, Log, RestartsToPart, Held, backing_of, part_of_more, GrowsTo, Follows, follows_same}

grows_on : (a b c : Held) → IsLater (backing_of a) (backing_of b) → GrowsTo a b → GrowsTo b c → GrowsTo a c
grows_on a b c later f s = record {
  own = s.own;
  format = s.format ∙ f.format;
  start = s.start ∙ f.start;
  more = f.more ++ s.more;
  acts = s.acts ∙ (ap (λ (as' : List (List Page)). as' ++ s.more) f.acts ∙ append_assoc a.history.acts f.more s.more);
  moments = goes_on _ a.trace b.trace c.trace
      (goes_weaker _ _ a.trace b.trace
      (λ m leaves image left. part_of_more (format_of a.log) b.history c.history s.more a.durable a.durable image s.start s.acts (omega arith) (leaves image left)) f.moments)
      (goes_weaker _ _ b.trace c.trace (λ m leaves image left.
      subst (λ (l : Format). RestartsToPart l c.history a.durable image) f.format
      (part_of_more (format_of b.log) c.history c.history [] a.durable b.durable image refl (sym (append-nil c.history.acts)) later.durable (leaves image left))) s.moments);
}

pub follows_both : (a b c : Held) → Follows a b → Follows b c → Follows a c
follows_both a b c f s = record {
  later = later_trans (backing_of a) (backing_of b) (backing_of c) f.later s.later;
  grows = λ own. let first = f.grows own in grows_on a b c f.later first (s.grows first.own);
}

-- if the log is the same
pub follows_log : (held : Held) (log : Log) → log ≡ held.log → Follows held (record held { log = log })
follows_log held log same = subst (λ (l : Log). Follows held (record held { log = l })) (sym same) (follows_same held)
