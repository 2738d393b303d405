use Rattle.std.proofs.Common.{◌≡◌, ◌+◌, ◌≤◌, take}
use Rattle.cub_lexer.specs.Place.{line_at, column_at}
use Rattle.cub_lexer.proofs.PlaceLaws.{Counts}
use Rattle.cub_lexer.proofs.places.place.Given as goal

abbrev pub invariant-loop-byte : goal.invariant-loop-byte
invariant-loop-byte l = (l.byte-items ≡ take l.at l.text) × Counts l.text l.at l.byte-index l.line l.column
