-- The reading of marks that stand apart.
use Rattle.std.proofs.Common.{◌≡◌, ℕ, ◌+◌, List, [], ◌∷◌, ◌++◌, length, drop, Ok, refl, sym, subst, inl}
use Rattle.cub_lexer.specs.Reading.{Reads, ends, token, gap as blank_read}
use Rattle.cub_print.specs.Mark.{Mark, gap, word, spelled}
use Rattle.cub_print.specs.Tokens.{tokens_from, StandApart, MarksAreRead}

drop_front : (xs ys : List ℕ) → drop (length xs) (xs ++ ys) ≡ ys
drop_front [] ys = refl
drop_front (x ∷ xs) ys = drop_front xs ys

read_from : (at : ℕ) (ms : List Mark) → StandApart ms → Reads at (spelled ms) (Ok (tokens_from at ms))
read_from at [] apart = ends
read_from at (gap byte ∷ rest) apart = blank_read 1 (inl (apart.0, refl)) (read_from (at + 1) rest apart.1)
read_from at (word kind bytes ∷ rest) apart =
    token (Ok (tokens_from (at + length bytes) rest)) kind (length bytes) apart.0
    (subst (λ t. Reads (at + length bytes) t (Ok (tokens_from (at + length bytes) rest))) (sym (drop_front bytes (spelled rest)))
    (read_from (at + length bytes) rest apart.1))
    _ refl

pub marks_are_read : MarksAreRead
marks_are_read = read_from 0
