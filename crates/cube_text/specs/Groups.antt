-- The groups of words between `&&`, from a word on.
use Rattle.std.specs.Prelude.{ℕ, nat_le, if◌then◌else◌, List, [], length, drop}
use Rattle.cube_text.specs.Form.{parted, is_and}

-- those from the word with that number on; none behind the last word
abbrev pub groups_from : List (List ℕ) → ℕ → List (List (List ℕ))
groups_from words at = if nat_le at (length words) then parted is_and (drop at words) else []
