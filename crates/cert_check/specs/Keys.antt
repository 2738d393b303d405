-- What a cover line is about, and the order of cover lines.
use Rattle.std.specs.Prelude.{Bool, true, false, ◌&&◌, ◌||◌, ◌==◌, nat_lt, List, [], ◌∷◌}
use Rattle.cub_proto.specs.declared.cover.CoverLine.{CoverLine}
use Rattle.cert_check.specs.declared.keys.Key.{Key}

-- the goal, or the piece of a cube, that the line is about
abbrev pub key_of : CoverLine → Key
key_of (CoverLine.Unsafe goal by places) = Key.Goal goal
key_of (CoverLine.Piece cube piece by places) = Key.Piece cube piece

-- goals come first, by number, then pieces, by the numbers of their cube and of themselves
abbrev pub is_before : Key → Key → Bool
is_before (Key.Goal n) (Key.Goal m) = nat_lt n m
is_before (Key.Goal n) (Key.Piece k m) = true
is_before (Key.Piece j n) (Key.Goal m) = false
is_before (Key.Piece j n) (Key.Piece k m) = nat_lt j k || (j == k && nat_lt n m)

-- each line comes after the one before it
abbrev pub lines_rise : List CoverLine → Bool
lines_rise [] = true
lines_rise (line ∷ []) = true
lines_rise (line ∷ next ∷ lines) = is_before (key_of line) (key_of next) && lines_rise (next ∷ lines)
