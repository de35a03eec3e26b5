use Rattle.tree_acts.proofs.Meanings.{metapage_shows, passed_shows, live_shows, internal_shows, leaf_shows, frontier_shows, trail_begins_here, trail_moves_right, trail_is_short_here, places_widen, high_key_shows, neighbour_shows, straight_shows, root_covers_all}
use Rattle.tree_acts.proofs.Removing.{leaf_begins_trail}
use Rattle.tree_acts.proofs.laws.pages_show_the_way.Goals as goal

pub returns-clause-metapage : goal.returns-clause-metapage
returns-clause-metapage c = metapage_shows

pub returns-clause-passed : goal.returns-clause-passed
returns-clause-passed c = passed_shows

pub returns-clause-live : goal.returns-clause-live
returns-clause-live c = live_shows

pub returns-clause-internal : goal.returns-clause-internal
returns-clause-internal c = internal_shows

pub returns-clause-leaf : goal.returns-clause-leaf
returns-clause-leaf c = leaf_shows

pub returns-clause-frontier : goal.returns-clause-frontier
returns-clause-frontier c = frontier_shows

pub returns-clause-begins : goal.returns-clause-begins
returns-clause-begins c = trail_begins_here

pub returns-clause-goes_on : goal.returns-clause-goes_on
returns-clause-goes_on c = trail_moves_right

pub returns-clause-short : goal.returns-clause-short
returns-clause-short c = trail_is_short_here

pub returns-clause-farther : goal.returns-clause-farther
returns-clause-farther c = places_widen

pub returns-clause-high : goal.returns-clause-high
returns-clause-high c = high_key_shows

pub returns-clause-neighbour : goal.returns-clause-neighbour
returns-clause-neighbour c = neighbour_shows

pub returns-clause-straight : goal.returns-clause-straight
returns-clause-straight c = straight_shows

pub returns-clause-root_covers : goal.returns-clause-root_covers
returns-clause-root_covers c = root_covers_all

pub returns-clause-leaf_begins : goal.returns-clause-leaf_begins
returns-clause-leaf_begins c = leaf_begins_trail
