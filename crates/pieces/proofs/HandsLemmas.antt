-- What is handed on: one part after the other.
use Rattle.std.proofs.Common.{◌≡◌, ◌⊎◌, ℕ, zero, suc, ◌+◌, List, [], ◌∷◌, ◌++◌, refl, sym, ap, ◌∙◌, subst, arith, inl, inr}
use Rattle.std.specs.List.{flat_map, range_with_len}
use Rattle.std.proofs.lemmas.List.{append_assoc, append-nil}
use Rattle.std.proofs.lemmas.List.Concat.{flat_map-append}
use Rattle.cub_cube.specs.Kept.{Keeps}
use Rattle.pieces.specs.Handed.{TakesAll, Hands}

keeps_append : {A : Type 0} (P : A → Type 0) (xs ys us vs : List A) → Keeps P xs us → Keeps P ys vs → Keeps P (xs ++ ys) (us ++ vs)
keeps_append P [] ys us vs h k = subst (λ zs. Keeps P ys (zs ++ vs)) (sym h) k
keeps_append {A} P (x ∷ xs) ys us vs h k = by h (λ zs own. keeps_append P xs ys zs vs own k)
  where
    by : (P x × ((zs : List A) × (us ≡ x ∷ zs) × Keeps P xs zs)) ⊎ ((P x → ⊥) × Keeps P xs us) → ((zs : List A) → Keeps P xs zs → Keeps P (xs ++ ys) (zs ++ vs)) → Keeps P (x ∷ xs ++ ys) (us ++ vs)
    by (inl kept) rest = inl (kept.0, (kept.1.0 ++ vs, ap (λ zs. zs ++ vs) kept.1.1, rest kept.1.0 kept.1.2))
    by (inr dropped) rest = inr (dropped.0, rest us dropped.1)

taken_append : {S A : Type 0} (takes : S → A → S → Type 0) (old mid new : S) (xs ys : List A) → TakesAll takes old xs mid → TakesAll takes mid ys new → TakesAll takes old (xs ++ ys) new
taken_append takes old mid new [] ys h k = subst (λ s. TakesAll takes s ys new) h k
taken_append takes old mid new (x ∷ xs) ys h k = (h.0, h.1, taken_append takes h.0 mid new xs ys h.2 k)

pub hands_nothing : {S A : Type 0} (P : A → Type 0) (takes : S → A → S → Type 0) (xs : List A) (old new : S) → new ≡ old → Keeps P xs [] → Hands P takes xs old new
hands_nothing P takes xs old new same none = record { kept = []; keeps = none; taken = same }

pub hands_one : {S A : Type 0} (P : A → Type 0) (takes : S → A → S → Type 0) (x : A) (old new : S) → P x → takes old x new → Hands P takes (x ∷ []) old new
hands_one P takes x old new h took = record { kept = x ∷ []; keeps = inl (h, ([], refl, refl)); taken = (new, took, refl) }

pub hands_more : {S A : Type 0} (P : A → Type 0) (takes : S → A → S → Type 0) (xs ys : List A) (old mid new : S) → Hands P takes xs old mid → Hands P takes ys mid new → Hands P takes (xs ++ ys) old new
hands_more P takes xs ys old mid new h k = record {
  kept = h.kept ++ k.kept;
  keeps = keeps_append P xs ys h.kept k.kept h.keeps k.keeps;
  taken = taken_append takes old mid new h.kept k.kept h.taken k.taken;
}

-- a list to whose end each item is put
pub listed : {A : Type 0} (old xs new : List A) → TakesAll (λ (us : List A) (x : A) (vs : List A). vs ≡ us ++ x ∷ []) old xs new → new ≡ old ++ xs
listed old [] new h = h ∙ sym (append-nil old)
listed old (x ∷ xs) new h = listed h.0 xs new h.2 ∙ ap (λ us. us ++ xs) h.1 ∙ append_assoc old (x ∷ []) xs

-- ---- lists of options by number
range_more : (from n : ℕ) → range_with_len from (suc n) ≡ range_with_len from n ++ (from + n) ∷ []
range_more from zero = let none : from ≡ from + 0 = omega arith in ap (λ m. m ∷ []) none
range_more from (suc n) =
    let same : from + 1 + n ≡ from + suc n = omega arith in
    ap (λ xs. from ∷ xs) (range_more (from + 1) n ∙ ap (λ m. range_with_len (from + 1) n ++ m ∷ []) same)

pub range_end : (n : ℕ) → range_with_len 0 (n + 1) ≡ range_with_len 0 n ++ n ∷ []
range_end n =
    let one : n + 1 ≡ suc n = omega arith in
    let none : 0 + n ≡ n = omega arith in
    ap (range_with_len 0) one ∙ range_more 0 n ∙ ap (λ m. range_with_len 0 n ++ m ∷ []) none

pub options_more : {A : Type 0} (f : ℕ → List A) (n : ℕ) → flat_map f (range_with_len 0 (n + 1)) ≡ flat_map f (range_with_len 0 n) ++ f n
options_more f n = ap (flat_map f) (range_end n) ∙ flat_map-append f (range_with_len 0 n) (n ∷ []) ∙ ap (λ xs. flat_map f (range_with_len 0 n) ++ xs) (append-nil (f n))

-- one more option
pub hands_turn : {S A B : Type 0} (P : B → Type 0) (takes : S → B → S → Type 0) (g : A → List B) (f : ℕ → List A) (n : ℕ) (old mid new : S) → Hands P takes (flat_map g (flat_map f (range_with_len 0 n))) old mid → Hands P takes (flat_map g (f n)) mid new
    → Hands P takes (flat_map g (flat_map f (range_with_len 0 (n + 1)))) old new
hands_turn P takes g f n old mid new h k =
    let same = ap (flat_map g) (options_more f n) ∙ flat_map-append g (flat_map f (range_with_len 0 n)) (f n) in
    subst (λ xs. Hands P takes xs old new) (sym same) (hands_more P takes (flat_map g (flat_map f (range_with_len 0 n))) (flat_map g (f n)) old mid new h k)
