-- Lines and columns, both from 1 on.
use Rattle.std.specs.Prelude.{ℕ, suc, ◌+◌, ◌==◌, List, take, count_by, reverse}
use Rattle.std.specs.List.{prefix_len}
use Rattle.std.specs.Prelude.{not}

-- the line is 1 plus the line feeds before
abbrev pub line_at : List ℕ → ℕ → ℕ
line_at text at = 1 + count_by (λ b. b == 10) (take at text)

-- the column is 1 plus the bytes since the last line feed
abbrev pub column_at : List ℕ → ℕ → ℕ
column_at text at = 1 + prefix_len (λ b. not (b == 10)) (reverse (take at text))
