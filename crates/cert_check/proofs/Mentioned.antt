-- Literals under places: those that it mentions alone count.
use Rattle.std.proofs.Common.{◌≡◌, ℕ, ◌+◌, ◌<◌, ◌≤◌, Bool, true, false, List, length, take, drop, refl, sym, ap, ◌∙◌, subst, arith, inl, inr, ◌⊎◌}
use Rattle.std.specs.Prelude.{IsTrue, ◌&&◌, ◌==◌, not, slice_index}
use Rattle.std.proofs.lemmas.List.{get_or_append_left, take-append-drop, length-take-le}
use Rattle.cub_proto.specs.declared.literal.Term.{Term}
use Rattle.cub_proto.specs.declared.literal.PSide.{PSide}
use Rattle.cub_proto.specs.declared.literal.ISide.{ISide}
use Rattle.cub_proto.specs.declared.literal.ISide.TheVariants.{Zero, At}
use Rattle.cub_proto.specs.declared.literal.Lit.{Lit}
use Rattle.cub_proto.specs.declared.literal.Lit.TheVariants.{FinIn, FinEq, FinNe, ProcEq, ProcNe, Diff}
use Rattle.cub_proto.specs.Fits.{place_fits}
use Rattle.cub_cube.specs.Rename.{renamed, renamed_term, renamed_process_side, renamed_integer_side, is_within, process_side_within, integer_side_within}
use Rattle.cub_base.proofs.Bools.{and_left, and_right, and_both, less_is, same_is, true_or_false}
use Rattle.cert_check.specs.Stand.{term_stands, process_side_stands, integer_side_stands, stands, ends_at, is_alone, is_joint}

-- a test of the sides that a literal has
abbrev all_sides : (Term → Bool) → (PSide → Bool) → (ISide → Bool) → Lit → Bool
all_sides T P I (FinIn t mask) = T t
all_sides T P I (FinEq a b) = T a && T b
all_sides T P I (FinNe a b) = T a && T b
all_sides T P I (ProcEq a b) = P a && P b
all_sides T P I (ProcNe a b) = P a && P b
all_sides T P I (Diff a b bound) = I a && I b

within_sides : (n : ℕ) (l : Lit) → is_within n l ≡ all_sides (place_fits n) (process_side_within n) (integer_side_within n) l
within_sides n (FinIn t mask) = refl
within_sides n (FinEq a b) = refl
within_sides n (FinNe a b) = refl
within_sides n (ProcEq a b) = refl
within_sides n (ProcNe a b) = refl
within_sides n (Diff a b bound) = refl

stands_sides : (k : ℕ) (l : Lit) → stands k l ≡ all_sides (term_stands k) (process_side_stands k) (integer_side_stands k) l
stands_sides k (FinIn t mask) = refl
stands_sides k (FinEq a b) = refl
stands_sides k (FinNe a b) = refl
stands_sides k (ProcEq a b) = refl
stands_sides k (ProcNe a b) = refl
stands_sides k (Diff a b bound) = refl

-- where renaming agrees on all sides, it agrees on the literal
module _ (r q : List ℕ) (T : Term → Bool) (P : PSide → Bool) (I : ISide → Bool)
    (term : (t : Term) → IsTrue (T t) → renamed_term r t ≡ renamed_term q t)
    (process : (a : PSide) → IsTrue (P a) → renamed_process_side r a ≡ renamed_process_side q a)
    (integer : (a : ISide) → IsTrue (I a) → renamed_integer_side r a ≡ renamed_integer_side q a) where
  same_renamed : (l : Lit) → IsTrue (all_sides T P I l) → renamed r l ≡ renamed q l
  same_renamed (FinIn t mask) h = ap (λ x. FinIn x mask) (term t h)
  same_renamed (FinEq a b) h = ap (λ x. FinEq x (renamed_term r b)) (term a (and_left (T a) (T b) h)) ∙ ap (λ x. FinEq (renamed_term q a) x) (term b (and_right (T a) (T b) h))
  same_renamed (FinNe a b) h = ap (λ x. FinNe x (renamed_term r b)) (term a (and_left (T a) (T b) h)) ∙ ap (λ x. FinNe (renamed_term q a) x) (term b (and_right (T a) (T b) h))
  same_renamed (ProcEq a b) h = ap (λ x. ProcEq x (renamed_process_side r b)) (process a (and_left (P a) (P b) h)) ∙ ap (λ x. ProcEq (renamed_process_side q a) x) (process b (and_right (P a) (P b) h))
  same_renamed (ProcNe a b) h = ap (λ x. ProcNe x (renamed_process_side r b)) (process a (and_left (P a) (P b) h)) ∙ ap (λ x. ProcNe (renamed_process_side q a) x) (process b (and_right (P a) (P b) h))
  same_renamed (Diff a b bound) h = ap (λ x. Diff x (renamed_integer_side r b) bound) (integer a (and_left (I a) (I b) h)) ∙ ap (λ x. Diff (renamed_integer_side q a) x bound) (integer b (and_right (I a) (I b) h))

-- ---- the places below a width count
module _ (n : ℕ) (r q : List ℕ) (agree : (p : ℕ) → p < n → slice_index r p ≡ slice_index q p) where
  below_term : (t : Term) → IsTrue (place_fits n t) → renamed_term r t ≡ renamed_term q t
  below_term (Term.Global g) h = refl
  below_term (Term.Cell a p) h = ap (λ x. Term.Cell a x) (agree p (less_is p n h))

  below_process : (a : PSide) → IsTrue (process_side_within n a) → renamed_process_side r a ≡ renamed_process_side q a
  below_process (PSide.Global g) h = refl
  below_process (PSide.Place p) h = ap PSide.Place (agree p (less_is p n h))

  below_integer : (a : ISide) → IsTrue (integer_side_within n a) → renamed_integer_side r a ≡ renamed_integer_side q a
  below_integer Zero h = refl
  below_integer (At t) h = ap At (below_term t h)

  pub below_renamed : (l : Lit) → IsTrue (is_within n l) → renamed r l ≡ renamed q l
  below_renamed l h =
      same_renamed r q (place_fits n) (process_side_within n) (integer_side_within n) below_term below_process below_integer l (sym (within_sides n l) ∙ h)

-- ---- one place counts
module _ (k : ℕ) (r q : List ℕ) (agree : slice_index r k ≡ slice_index q k) where
  at_place : (p : ℕ) → IsTrue (p == k) → slice_index r p ≡ slice_index q p
  at_place p h = let is : p ≡ k = same_is p k h in subst (λ x. slice_index r x ≡ slice_index q x) (sym is) agree

  alone_term : (t : Term) → IsTrue (term_stands k t) → renamed_term r t ≡ renamed_term q t
  alone_term (Term.Global g) h = refl
  alone_term (Term.Cell a p) h = ap (λ x. Term.Cell a x) (at_place p h)

  alone_process : (a : PSide) → IsTrue (process_side_stands k a) → renamed_process_side r a ≡ renamed_process_side q a
  alone_process (PSide.Global g) h = refl
  alone_process (PSide.Place p) h = ap PSide.Place (at_place p h)

  alone_integer : (a : ISide) → IsTrue (integer_side_stands k a) → renamed_integer_side r a ≡ renamed_integer_side q a
  alone_integer Zero h = refl
  alone_integer (At t) h = ap At (alone_term t h)

  stands_renamed : (l : Lit) → IsTrue (stands k l) → renamed r l ≡ renamed q l
  stands_renamed l h =
      same_renamed r q (term_stands k) (process_side_stands k) (integer_side_stands k) alone_term alone_process alone_integer l (sym (stands_sides k l) ∙ h)

  pub alone_renamed : (l : Lit) → IsTrue (is_alone k l) → renamed r l ≡ renamed q l
  alone_renamed l h = stands_renamed l (and_right (ends_at k l) (stands k l) h)

-- ---- what the front of a list says
pub take_renamed : (n : ℕ) (r : List ℕ) (l : Lit) → n ≤ length r → IsTrue (is_within n l) → renamed r l ≡ renamed (take n r) l
take_renamed n r l room h = below_renamed n r (take n r) agree l h
  where
    agree : (p : ℕ) → p < n → slice_index r p ≡ slice_index (take n r) p
    agree p below =
        ap (λ x. slice_index x p) (sym (take-append-drop n r))
        ∙ get_or_append_left (take n r) (drop n r) 0 p (let size : length (take n r) ≡ n = length-take-le n r room in omega arith)

pub fronts_renamed : (n : ℕ) (r q : List ℕ) (l : Lit) → n ≤ length r → n ≤ length q → take n r ≡ take n q → IsTrue (is_within n l) → renamed r l ≡ renamed q l
fronts_renamed n r q l room more same h = take_renamed n r l room h ∙ ap (λ x. renamed x l) same ∙ sym (take_renamed n q l more h)

pub plain_renamed : (r q : List ℕ) (l : Lit) → IsTrue (is_within 0 l) → renamed r l ≡ renamed q l
plain_renamed r q l h = below_renamed 0 r q (λ p below. absurd (omega arith)) l h

-- ---- a literal ends below a place, or at it: alone, or with another
pub ends_within : (k : ℕ) (l : Lit) → IsTrue (ends_at k l) → IsTrue (is_within (k + 1) l)
ends_within k l h = and_left (is_within (k + 1) l) (not (is_within k l)) h

pub alone_within : (k : ℕ) (l : Lit) → IsTrue (is_alone k l) → IsTrue (is_within (k + 1) l)
alone_within k l h = ends_within k l (and_left (ends_at k l) (stands k l) h)

pub joint_within : (k : ℕ) (l : Lit) → IsTrue (is_joint k l) → IsTrue (is_within (k + 1) l)
joint_within k l h = ends_within k l (and_left (ends_at k l) (not (stands k l)) h)

not_true : (a : Bool) → a ≡ false → IsTrue (not a)
not_true true h = cc
not_true false h = refl

pub within_cases : (k : ℕ) (l : Lit) → IsTrue (is_within (k + 1) l) → IsTrue (is_within k l) ⊎ (IsTrue (is_alone k l) ⊎ IsTrue (is_joint k l))
within_cases k l h = by (true_or_false (is_within k l)) (true_or_false (stands k l))
  where
    ends : is_within k l ≡ false → IsTrue (ends_at k l)
    ends e = and_both (is_within (k + 1) l) (not (is_within k l)) h (not_true (is_within k l) e)

    by : (is_within k l ≡ true) ⊎ (is_within k l ≡ false) → (stands k l ≡ true) ⊎ (stands k l ≡ false) → IsTrue (is_within k l) ⊎ (IsTrue (is_alone k l) ⊎ IsTrue (is_joint k l))
    by (inl e) s = inl e
    by (inr e) (inl s) = inr (inl (and_both (ends_at k l) (stands k l) (ends e) s))
    by (inr e) (inr s) = inr (inr (and_both (ends_at k l) (not (stands k l)) (ends e) (not_true (stands k l) s)))
