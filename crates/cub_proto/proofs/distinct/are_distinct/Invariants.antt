use Rattle.std.proofs.Common.{◌≡◌, ℕ, List, map, take, drop, bytes_eq}
use Rattle.std.specs.List.{list_any}
use Rattle.cub_proto.specs.Seen.{has_name}
use Rattle.cub_proto.specs.Fits.{are_new, are_distinct}
use Rattle.cub_proto.proofs.distinct.are_distinct.Given as goal

-- the set holds the names so far, and whether all are distinct rests on those to come
abbrev pub invariant-loop-name : goal.invariant-loop-name
invariant-loop-name l =
    (are_new (take l.name-index (map (λ name. name.now) l.names)) (drop l.name-index (map (λ name. name.now) l.names)) ≡ are_distinct (map (λ name. name.now) l.names))
    × ((q : List ℕ) → has_name l.seen q ≡ list_any (bytes_eq q) (take l.name-index (map (λ name. name.now) l.names)))
