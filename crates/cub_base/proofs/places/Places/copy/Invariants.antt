use Rattle.std.proofs.Common.{◌≡◌, ◌≤◌, length, take}
use Rattle.cub_base.proofs.places.Places.copy.Given as goal

abbrev pub invariant-loop-place : goal.invariant-loop-place
invariant-loop-place l = (l.copy ≡ take l.place-index l.place-items) × (l.place-items ≡ l.self) × (length l.place-items ≤ 12)
