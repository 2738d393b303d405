-- Words of another number than three or five are no literal.
use Rattle.std.proofs.Common.{◌≡◌, ℕ, ◌<◌, ◌≤◌, false, None, List, [], ◌∷◌, length, map, refl, subst, sym, arith}
use Rattle.std.proofs.lemmas.List.{length-map}
use Rattle.cub_proto.specs.declared.protocol.Protocol.{Protocol}
use Rattle.cube_text.specs.Form.{is_literal, is_cube}
use Rattle.cube_text.specs.Meaning.{literal_in, cube_in}

few_words : (ws : List (List ℕ)) → length ws < 3 → false ≡ is_literal ws
few_words [] h = refl
few_words (a ∷ []) h = refl
few_words (a ∷ b ∷ []) h = refl
few_words (a ∷ b ∷ c ∷ ws) h = absurd (omega (arith, h))

four_words : (ws : List (List ℕ)) → 4 ≤ length ws → length ws < 5 → false ≡ is_literal ws
four_words [] l h = refl
four_words (a ∷ []) l h = refl
four_words (a ∷ b ∷ []) l h = refl
four_words (a ∷ b ∷ c ∷ []) l h = absurd (omega (arith, l))
four_words (a ∷ b ∷ c ∷ d ∷ []) l h = refl
four_words (a ∷ b ∷ c ∷ d ∷ e ∷ ws) l h = absurd (omega (arith, h))

many_words : (ws : List (List ℕ)) → 6 ≤ length ws → false ≡ is_literal ws
many_words [] l = refl
many_words (a ∷ []) l = refl
many_words (a ∷ b ∷ []) l = refl
many_words (a ∷ b ∷ c ∷ []) l = absurd (omega (arith, l))
many_words (a ∷ b ∷ c ∷ d ∷ []) l = refl
many_words (a ∷ b ∷ c ∷ d ∷ e ∷ []) l = absurd (omega (arith, l))
many_words (a ∷ b ∷ c ∷ d ∷ e ∷ f ∷ ws) l = refl

module _ {X : Type 0} (f : X → List ℕ) (xs : List X) where
  pub few_mapped : length xs < 3 → false ≡ is_literal (map f xs)
  few_mapped h = few_words (map f xs) (subst (λ n. n < 3) (sym (length-map xs f)) h)

  pub four_mapped : 4 ≤ length xs → length xs < 5 → false ≡ is_literal (map f xs)
  four_mapped l h = four_words (map f xs) (subst (λ n. 4 ≤ n) (sym (length-map xs f)) l) (subst (λ n. n < 5) (sym (length-map xs f)) h)

  pub many_mapped : 6 ≤ length xs → false ≡ is_literal (map f xs)
  many_mapped l = many_words (map f xs) (subst (λ n. 6 ≤ n) (sym (length-map xs f)) l)

-- and name none
no_few_words : (p : Protocol) (width : ℕ) (ws : List (List ℕ)) → length ws < 3 → None ≡ literal_in p width ws
no_few_words p width [] h = refl
no_few_words p width (a ∷ []) h = refl
no_few_words p width (a ∷ b ∷ []) h = refl
no_few_words p width (a ∷ b ∷ c ∷ ws) h = absurd (omega (arith, h))

no_four_words : (p : Protocol) (width : ℕ) (ws : List (List ℕ)) → 4 ≤ length ws → length ws < 5 → None ≡ literal_in p width ws
no_four_words p width [] l h = refl
no_four_words p width (a ∷ []) l h = refl
no_four_words p width (a ∷ b ∷ []) l h = refl
no_four_words p width (a ∷ b ∷ c ∷ []) l h = absurd (omega (arith, l))
no_four_words p width (a ∷ b ∷ c ∷ d ∷ []) l h = refl
no_four_words p width (a ∷ b ∷ c ∷ d ∷ e ∷ ws) l h = absurd (omega (arith, h))

no_many_words : (p : Protocol) (width : ℕ) (ws : List (List ℕ)) → 6 ≤ length ws → None ≡ literal_in p width ws
no_many_words p width [] l = refl
no_many_words p width (a ∷ []) l = refl
no_many_words p width (a ∷ b ∷ []) l = refl
no_many_words p width (a ∷ b ∷ c ∷ []) l = absurd (omega (arith, l))
no_many_words p width (a ∷ b ∷ c ∷ d ∷ []) l = refl
no_many_words p width (a ∷ b ∷ c ∷ d ∷ e ∷ []) l = absurd (omega (arith, l))
no_many_words p width (a ∷ b ∷ c ∷ d ∷ e ∷ f ∷ ws) l = refl

module _ (p : Protocol) (width : ℕ) {X : Type 0} (f : X → List ℕ) (xs : List X) where
  pub no_few_mapped : length xs < 3 → None ≡ literal_in p width (map f xs)
  no_few_mapped h = no_few_words p width (map f xs) (subst (λ n. n < 3) (sym (length-map xs f)) h)

  pub no_four_mapped : 4 ≤ length xs → length xs < 5 → None ≡ literal_in p width (map f xs)
  no_four_mapped l h = no_four_words p width (map f xs) (subst (λ n. 4 ≤ n) (sym (length-map xs f)) l) (subst (λ n. n < 5) (sym (length-map xs f)) h)

  pub no_many_mapped : 6 ≤ length xs → None ≡ literal_in p width (map f xs)
  no_many_mapped l = no_many_words p width (map f xs) (subst (λ n. 6 ≤ n) (sym (length-map xs f)) l)

-- fewer than two words are no cube
abbrev pub IsNoCube : List (List ℕ) → Type 0
IsNoCube ws = (false ≡ is_cube ws) × ((p : Protocol) (widest : ℕ) → None ≡ cube_in p widest ws)

no_cube : (ws : List (List ℕ)) → length ws < 2 → IsNoCube ws
no_cube [] h = (refl, λ p widest. refl)
no_cube (a ∷ []) h = (refl, λ p widest. refl)
no_cube (a ∷ b ∷ ws) h = absurd (omega (arith, h))

pub no_cube_mapped : {X : Type 0} (f : X → List ℕ) (xs : List X) → length xs < 2 → IsNoCube (map f xs)
no_cube_mapped f xs h = no_cube (map f xs) (subst (λ n. n < 2) (sym (length-map xs f)) h)
