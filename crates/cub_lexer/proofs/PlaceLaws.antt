-- One byte more of a place.
use Rattle.std.proofs.Common.{◌≡◌, ℕ, ◌+◌, ◌<◌, ◌≤◌, Bool, true, false, not, cond, eqb, List, [], ◌∷◌, ◌++◌, length, take, get_or, reverse, count_by, refl, ap, ◌∙◌, sym, arith}
use Rattle.std.specs.List.{prefix_len}
use Rattle.std.proofs.lemmas.List.{take_more, reverse-append, take-take}
use Rattle.std.proofs.lemmas.Grind.{common_steps}
use Rattle.cub_lexer.specs.Place.{line_at, column_at}

-- after `seen` of the first `at` bytes the line and the column are right, and no greater than there are bytes
pub record Counts (text : List ℕ) (at seen line column : ℕ) : Type 0 where
  pub line_is : line ≡ line_at (take at text) seen
  pub column_is : column ≡ column_at (take at text) seen
  pub line_small : line ≤ seen + 1
  pub column_small : column ≤ seen + 1

reverse_more : (xs : List ℕ) (i : ℕ) → i < length xs → reverse (take (i + 1) xs) ≡ get_or xs i 0 ∷ reverse (take i xs)
reverse_more xs i h = ap reverse (take_more xs i 0 h) ∙ reverse-append (take i xs) (get_or xs i 0 ∷ [])

pub column_more : (xs : List ℕ) (i : ℕ) → i < length xs → column_at xs (i + 1) ≡ cond (eqb (get_or xs i 0) 10) 1 (1 + column_at xs i)
column_more xs i h = ap (λ ys. 1 + prefix_len (λ b. not (eqb b 10)) ys) (reverse_more xs i h) ∙ cases (eqb (get_or xs i 0) 10)
  where
    cases : (b : Bool) → 1 + cond (not b) (1 + prefix_len (λ b. not (eqb b 10)) (reverse (take i xs))) 0 ≡ cond b 1 (1 + column_at xs i)
    cases true = refl
    cases false = refl

pub line_more : (xs : List ℕ) (i : ℕ) → i < length xs → line_at xs (i + 1) ≡ line_at xs i + cond (eqb (get_or xs i 0) 10) 1 0
line_more xs i h = grind (arith, common_steps)
