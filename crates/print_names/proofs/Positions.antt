-- What bytes stand at a spot of a text.
use Rattle.std.proofs.Common.{◌≡◌, ℕ, zero, suc, ◌+◌, List, [], ◌∷◌, ◌++◌, length, take, drop, refl, sym, ap, subst, ◌∙◌, arith, append_assoc, length-append}
use Rattle.cub_lexer.specs.declared.token.TokenKind.{TokenKind}
use Rattle.cub_names.specs.Words.{word_of}
use Rattle.cub_print.specs.Mark.{Mark, gap, word, spelled}
use Rattle.cub_print.proofs.Spelling.{spelled-append}
use Rattle.print_laws.specs.Spot.{Spot, first, past, leaf}

-- the marks stand in the text from the spot on
abbrev pub At : List ℕ → Spot → List Mark → Type 0
At text s ms = (rest : List ℕ) × (drop s.at text ≡ spelled ms ++ rest)

past_at : (ms : List Mark) (s : Spot) → (past s ms).at ≡ s.at + length (spelled ms)
past_at [] s = omega arith
past_at (gap b ∷ ms) s = omega (arith, past_at ms (record { number = s.number; at = s.at + 1 }))
past_at (word kind bytes ∷ ms) s = omega (arith, past_at ms (record { number = s.number + 1; at = s.at + length bytes }), length-append bytes (spelled ms))

drop_zero : (xs : List ℕ) → drop 0 xs ≡ xs
drop_zero xs = refl

drop_more_of : (m n : ℕ) (xs : List ℕ) → drop (m + n) xs ≡ drop n (drop m xs)
drop_more_of zero n xs = let same : 0 + n ≡ n = omega arith in ap (λ k. drop k xs) same
drop_more_of (suc m) zero [] = let same : suc m + 0 ≡ suc m = omega arith in ap (λ k. drop {A = ℕ} k []) same
drop_more_of (suc m) (suc n) [] = let same : suc m + suc n ≡ suc (m + suc n) = omega arith in ap (λ k. drop {A = ℕ} k []) same
drop_more_of (suc m) n (x ∷ xs) = let same : suc m + n ≡ suc (m + n) = omega arith in ap (λ k. drop k (x ∷ xs)) same ∙ drop_more_of m n xs

drop_front : (xs ys : List ℕ) → drop (length xs) (xs ++ ys) ≡ ys
drop_front [] ys = refl
drop_front (x ∷ xs) ys = drop_front xs ys

take_front : (xs ys : List ℕ) → take (length xs) (xs ++ ys) ≡ xs
take_front [] ys = refl
take_front (x ∷ xs) ys = ap (λ zs. x ∷ zs) (take_front xs ys)

module _ (text : List ℕ) (s : Spot) where
  pub at_left : (a b : List Mark) → At text s (a ++ b) → At text s a
  at_left a b h = (spelled b ++ h.0, h.1 ∙ ap (λ xs. xs ++ h.0) (spelled-append a b) ∙ append_assoc (spelled a) (spelled b) h.0)

  pub at_right : (a b : List Mark) → At text s (a ++ b) → At text (past s a) b
  unfolding at_left
  at_right a b h =
      let front = at_left a b h in
      (h.0, ap (λ n. drop n text) (past_at a s) ∙ drop_more_of s.at (length (spelled a)) text ∙ ap (drop (length (spelled a))) front.1 ∙ drop_front (spelled a) (spelled b ++ h.0))

  pub at_regrouped : (a b c : List Mark) → At text s (a ++ b ++ c) → At text s (a ++ (b ++ c))
  at_regrouped a b c h = subst (At text s) (append_assoc a b c) h

  pub word_is : (kind : TokenKind) (bytes : List ℕ) (ms : List Mark) → At text s (word kind bytes ∷ ms) → word_of text (leaf kind bytes s) ≡ bytes
  word_is kind bytes ms h = ap (take (length bytes)) (h.1 ∙ append_assoc bytes (spelled ms) h.0) ∙ take_front bytes (spelled ms ++ h.0)

pub at_start : (ms : List Mark) → At (spelled ms) first ms
at_start ms = ([], sym (nothing_behind (spelled ms)))
  where
    nothing_behind : (xs : List ℕ) → xs ++ [] ≡ xs
    nothing_behind [] = refl
    nothing_behind (x ∷ xs) = ap (λ ys. x ∷ ys) (nothing_behind xs)
