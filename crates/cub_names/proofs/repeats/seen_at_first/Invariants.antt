use Rattle.std.proofs.Common.{◌≡◌, ℕ, List, map, take, bytes_eq}
use Rattle.std.specs.List.{list_any}
use Rattle.cub_names.specs.Seen.{has_name}
use Rattle.cub_names.proofs.repeats.seen_at_first.Given as goal

abbrev pub invariant-loop-name : goal.invariant-loop-name
invariant-loop-name l = (q : List ℕ) → has_name l.seen q ≡ list_any (bytes_eq q) (map (λ name. name.now) (take l.name-index l.taken))
