-- Lines of a text: each ends with a line feed.
use Rattle.std.specs.Prelude.{ℕ, ◌+◌, Bool, not, ◌==◌, nat_lt, if◌then◌else◌, List, [], ◌∷◌, ◌++◌, length, take, drop, flat_map, Option, Some, None}
use Rattle.std.specs.List.{prefix_len}

-- the bytes of a line, and its line feed
abbrev pub ended : List ℕ → List ℕ
ended line = line ++ 10 ∷ []

-- the text of these lines
abbrev pub text_of : List (List ℕ) → List ℕ
text_of lines = flat_map ended lines

-- how many bytes stand before the first line feed
abbrev pub line_len : List ℕ → ℕ
line_len text = prefix_len (λ b. not (b == 10)) text

-- the first line of the text without its line feed, and the text behind it; none where no line feed is left
abbrev pub line_at : List ℕ → Option (List ℕ × List ℕ)
line_at text = if nat_lt (line_len text) (length text) then Some (take (line_len text) text, drop (line_len text + 1) text) else None
