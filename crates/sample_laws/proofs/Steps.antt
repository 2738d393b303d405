-- What a step of the sample protocol asks, and what it changes.
use Rattle.std.proofs.Common.{◌≡◌, ◌≢◌, ◌⊎◌, ℕ, zero, suc, ◌+◌, ◌-◌, ◌<◌, ◌≤◌, ◌^◌, Bool, true, false, List, [], ◌∷◌, ◌++◌, map, length, get_or, refl, sym, ap, ◌∙◌, subst, arith, inl, inr}
use Rattle.std.specs.Prelude.{IsTrue, Option, Some, None, ◌&&◌, ◌||◌, ◌==◌, if◌then◌else◌, slice_get, slice_index_or, Contains}
use Rattle.std.specs.List.{range_with_len}
use Rattle.std.proofs.lemmas.Bool.{cases_lt, false≢true, ne_eqb}
use Rattle.std.proofs.lemmas.List.{get_or_past}
use Rattle.cub_proto.specs.declared.literal.Term.{Term}
use Rattle.cub_proto.specs.declared.literal.Lit.{Lit}
use Rattle.cub_proto.specs.declared.literal.Value.TheVariants as Value
use Rattle.cub_proto.specs.declared.transition.Transition.{Transition}
use Rattle.cub_proto.specs.declared.state.Slot.{Slot}
use Rattle.cub_proto.specs.declared.state.Val.{Val}
use Rattle.cub_proto.specs.declared.state.Val.TheVariants.{Con}
use Rattle.cub_proto.specs.Configuration.{Configuration, IsAlive, is_alive, value_at}
use Rattle.cub_proto.specs.Truth.{constructor_of, is_true, any_true, term_value}
use Rattle.cub_proto.specs.Effect.{fired, cells_after, cell_after, updated, settled}
use Rattle.cub_base.specs.Numbered.{map_from}
use Rattle.cub_base.proofs.Numbered.{get_or-map_from_zero, length-map_from}
use Rattle.cub_base.proofs.Bools.{same_is}
use Rattle.cub_cube.proofs.Replaced.{one_bit}
use Rattle.sample_gen.specs.Sample.{is_on, step, climb, transitions}
use Rattle.sample_laws.specs.Climbing.{level_at}

-- ---- literals
pub on_level : (s : Configuration) (places : List ℕ) (place level : ℕ) → IsTrue (is_true s places (is_on place level)) → constructor_of (term_value s places (Term.Cell 0 place)) ≡ level
on_level s places place level h =
    sym (same_is level (constructor_of (term_value s places (Term.Cell 0 place))) (sym (one_bit level (constructor_of (term_value s places (Term.Cell 0 place)))) ∙ h))

pub only_one : (b : Bool) → IsTrue ((b && true) || false) → IsTrue b
only_one true h = refl
only_one false h = h

-- ---- which steps there are
abbrev pub IsClimb : Transition → Type 0
IsClimb t = (others : List (List Lit)) × (from : ℕ) × (t ≡ step others from) × (((from ≡ 0) × (others ≡ (is_on 1 0 ∷ []) ∷ [])) ⊎ (1 ≤ from))

some_is : {A : Type 0} (x y : A) → Some x ≡ Some y → x ≡ y
some_is x y h = cc

free_steps : (a m n : ℕ) (t : Transition) → slice_get (map (step ([] ∷ [])) (range_with_len a m)) n ≡ Some t → (from : ℕ) × (t ≡ step ([] ∷ []) from) × (a ≤ from)
free_steps a zero n t h = absurd (nothing h)
  where
    nothing : None ≡ Some t → ⊥
    nothing e = cc
free_steps a (suc m) zero t h = (a, sym (some_is (step ([] ∷ []) a) t h), omega arith)
free_steps a (suc m) (suc n) t h = let found = free_steps (a + 1) m n t h in (found.0, found.1, let more = found.2 in omega arith)

pub is_climb : (top number : ℕ) (t : Transition) → slice_get (transitions top) number ≡ Some t → IsClimb t
is_climb top zero t h = ((is_on 1 0 ∷ []) ∷ [], 0, sym (some_is (step ((is_on 1 0 ∷ []) ∷ []) 0) t h), inl (refl, refl))
is_climb top (suc zero) t h = (_, 1, sym (some_is _ t h), inr (omega arith))
is_climb top (suc (suc n)) t h =
    let found = free_steps 2 (top - 2) n t h in
    ([] ∷ [], found.0, found.1, inr (let more = found.2 in omega arith))

-- ---- what a step changes
module _ (s : Configuration) (q level : ℕ) (pick : Slot → Option Val) (i : ℕ) (alive : IsAlive s i) (apart : i ≢ q) where
  others_stay : (old : Val) → updated s (q ∷ i ∷ []) (Some (climb level)) (pick (Slot.Cell 0 i)) old ≡ value_at s (Slot.Cell 0 i)
  others_stay old =
      ap (λ b. settled s (q ∷ i ∷ []) (if b && true then Value.Con level else Value.Read (Term.Cell 0 1)) (pick (Slot.Cell 0 i)) old) (ne_eqb q i (λ same. apart (sym same)))

  cell_stays : (old : Val) → cell_after s (q ∷ []) (Some (climb level)) pick 0 i old ≡ value_at s (Slot.Cell 0 i)
  cell_stays old = ap (λ b. if b then updated s (q ∷ i ∷ []) (Some (climb level)) (pick (Slot.Cell 0 i)) old else old) alive ∙ others_stay old

  pub stays_low : level_at s i ≡ 0 → level_at (fired s (q ∷ []) (climb level ∷ []) pick) i ≡ 0
  stays_low low = by_arrays s.arrays
    where
      by_arrays : (arrays : List (List Val)) → constructor_of (slice_index_or (slice_index_or (map_from (cells_after s (q ∷ []) (climb level ∷ []) pick) 0 arrays) 0 []) i (Con 0)) ≡ 0
      by_arrays [] = refl
      by_arrays (cells ∷ rest) = by_cells (cases_lt i (length cells))
        where
          after : List Val
          after = map_from (cell_after s (q ∷ []) (Some (climb level)) pick 0) 0 cells

          by_cells : (i < length cells) ⊎ (length cells ≤ i) → constructor_of (slice_index_or after i (Con 0)) ≡ 0
          by_cells (inl inside) =
              ap constructor_of (get_or-map_from_zero (cell_after s (q ∷ []) (Some (climb level)) pick 0) cells i (Con 0) (Con 0) inside ∙ cell_stays (get_or cells i (Con 0))) ∙ low
          by_cells (inr past) = ap constructor_of (get_or_past after i (Con 0) (let size = length-map_from (cell_after s (q ∷ []) (Some (climb level)) pick 0) 0 cells in omega arith))
