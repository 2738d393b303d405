use Rattle.cub_base.proofs.Members.{contains_Has, has_Contains}
use Rattle.updates.specs.Ways.{way, ways}
use Rattle.updates.proofs.WayLemmas.{counts_from, way_found, way_in, in_ways}
use Rattle.updates.proofs.laws.ways_are_exact.Goals as goal

pub returns-clause-counts : goal.returns-clause-counts
returns-clause-counts c p s places u w state processes fits inside holds =
    counts_from p s places state processes u.branches u.last w.branch w.fails fits (way_in u.branches w (contains_Has (ways u.branches) w inside)) holds

pub returns-clause-found : goal.returns-clause-found
returns-clause-found c p s places u state processes fits =
    let found = way_found p s places state processes u.branches fits in
    (way found.branch found.fails, has_Contains (ways u.branches) (way found.branch found.fails) (in_ways u.branches found.branch found.fails found.is), found.holds)
