-- A list rises where each literal comes before the next.
use Rattle.std.proofs.Common.{◌≡◌, ℕ, zero, suc, ◌-◌, ◌<◌, ◌≤◌, Bool, true, false, List, [], ◌∷◌, length, get_or, drop, refl, sym, ap, ◌∙◌, subst, arith}
use Rattle.std.specs.Prelude.{◌&&◌, IsTrue}
use Rattle.std.specs.List.{list_all}
use Rattle.std.specs.Ordering.{is_lt}
use Rattle.cub_proto.specs.declared.literal.Lit.{Lit}
use Rattle.cub_cube.specs.Normal.{subject_cmp, subjects_rise}
use Rattle.cub_base.proofs.Bools.{and_left, and_right, and_both}
use Rattle.cub_cube.proofs.Form.{below_all, below_less}

abbrev pub neighbours_rise : List Lit → Bool
neighbours_rise [] = true
neighbours_rise (l ∷ []) = true
neighbours_rise (l ∷ m ∷ ms) = is_lt (subject_cmp l m) && neighbours_rise (m ∷ ms)

rises_from : (lits : List Lit) → IsTrue (neighbours_rise lits) → IsTrue (subjects_rise lits)
rises_from [] h = refl
rises_from (l ∷ []) h = refl
rises_from (l ∷ m ∷ ms) h =
    let first = and_left (is_lt (subject_cmp l m)) (neighbours_rise (m ∷ ms)) h in
    let rest = rises_from (m ∷ ms) (and_right (is_lt (subject_cmp l m)) (neighbours_rise (m ∷ ms)) h) in
    and_both (list_all (λ x. is_lt (subject_cmp l x)) (m ∷ ms)) (subjects_rise (m ∷ ms))
    (and_both (is_lt (subject_cmp l m)) (list_all (λ x. is_lt (subject_cmp l x)) ms) first
    (below_all l m ms (below_less l m first) (and_left (list_all (λ x. is_lt (subject_cmp m x)) ms) (subjects_rise ms) rest)))
    rest

neighbours_from : (lits : List Lit) → IsTrue (subjects_rise lits) → IsTrue (neighbours_rise lits)
neighbours_from [] h = refl
neighbours_from (l ∷ []) h = refl
neighbours_from (l ∷ m ∷ ms) h =
    and_both (is_lt (subject_cmp l m)) (neighbours_rise (m ∷ ms))
    (and_left (is_lt (subject_cmp l m)) (list_all (λ x. is_lt (subject_cmp l x)) ms) (and_left (list_all (λ x. is_lt (subject_cmp l x)) (m ∷ ms)) (subjects_rise (m ∷ ms)) h))
    (neighbours_from (m ∷ ms) (and_right (list_all (λ x. is_lt (subject_cmp l x)) (m ∷ ms)) (subjects_rise (m ∷ ms)) h))

same_tests : (a b : Bool) → (IsTrue a → IsTrue b) → (IsTrue b → IsTrue a) → a ≡ b
same_tests true b f g = sym (f refl)
same_tests false true f g = g refl
same_tests false false f g = refl

pub neighbours_suffice : (lits : List Lit) → neighbours_rise lits ≡ subjects_rise lits
neighbours_suffice lits = same_tests (neighbours_rise lits) (subjects_rise lits) (rises_from lits) (neighbours_from lits)

pub neighbours_step : (lits : List Lit) (i : ℕ) (d e : Lit) → suc i < length lits
    → neighbours_rise (drop i lits) ≡ (is_lt (subject_cmp (get_or lits i d) (get_or lits (suc i) e)) && neighbours_rise (drop (suc i) lits))
neighbours_step [] i d e h = absurd (omega arith)
neighbours_step (l ∷ []) i d e h = absurd (omega arith)
neighbours_step (l ∷ m ∷ ms) zero d e h = refl
neighbours_step (l ∷ m ∷ ms) (suc i) d e h = neighbours_step (m ∷ ms) i d e (omega arith)

pub neighbours_end : (lits : List Lit) (i : ℕ) → length lits ≤ suc i → IsTrue (neighbours_rise (drop i lits))
neighbours_end [] zero h = refl
neighbours_end [] (suc i) h = refl
neighbours_end (l ∷ []) zero h = refl
neighbours_end (l ∷ []) (suc i) h = neighbours_end [] i (omega arith)
neighbours_end (l ∷ m ∷ ms) zero h = absurd (omega arith)
neighbours_end (l ∷ m ∷ ms) (suc i) h = neighbours_end (m ∷ ms) i (omega arith)

-- the same, numbered from the later neighbour
pub before_step : (lits : List Lit) (i : ℕ) (d e : Lit) → 1 ≤ i → i < length lits
    → neighbours_rise (drop (i - 1) lits) ≡ (is_lt (subject_cmp (get_or lits (i - 1) d) (get_or lits i e)) && neighbours_rise (drop i lits))
before_step lits i d e some h =
    let same : suc (i - 1) ≡ i = omega arith in
    let step = neighbours_step lits (i - 1) d e (omega arith) in
    subst (λ j. neighbours_rise (drop (i - 1) lits) ≡ (is_lt (subject_cmp (get_or lits (i - 1) d) (get_or lits j e)) && neighbours_rise (drop j lits))) same step

pub falls_at : (lits : List Lit) (i : ℕ) (d e : Lit) (b : Bool) → 1 ≤ i → i < length lits → neighbours_rise (drop (i - 1) lits) ≡ neighbours_rise lits
    → b ≡ is_lt (subject_cmp (get_or lits (i - 1) d) (get_or lits i e)) → b ≡ false → false ≡ subjects_rise lits
falls_at lits i d e b some within so_far is fails =
    sym (sym (neighbours_suffice lits) ∙ sym so_far ∙ before_step lits i d e some within ∙ ap (λ x. x && neighbours_rise (drop i lits)) (sym is ∙ fails))

pub rises_next : (lits : List Lit) (i : ℕ) (d e : Lit) (b : Bool) → 1 ≤ i → i < length lits → neighbours_rise (drop (i - 1) lits) ≡ neighbours_rise lits
    → b ≡ is_lt (subject_cmp (get_or lits (i - 1) d) (get_or lits i e)) → b ≡ true → neighbours_rise (drop i lits) ≡ neighbours_rise lits
rises_next lits i d e b some within so_far is holds =
    sym (before_step lits i d e some within ∙ ap (λ x. x && neighbours_rise (drop i lits)) (sym is ∙ holds)) ∙ so_far

pub rises_all : (lits : List Lit) (i : ℕ) → length lits ≤ i → neighbours_rise (drop (i - 1) lits) ≡ neighbours_rise lits → true ≡ subjects_rise lits
rises_all lits i past so_far = sym (sym (neighbours_suffice lits) ∙ sym so_far ∙ neighbours_end lits (i - 1) (omega arith))
