-- The one law of renaming: a renamed literal, value or conjunction at places is the given one at the composed places.
use Rattle.std.proofs.Common.{◌≡◌, ℕ, suc, ◌<◌, List, [], ◌∷◌, length, refl, sym, ap, ◌∙◌, arith}
use Rattle.std.specs.Prelude.{◌&&◌, ◌==◌, not, IsTrue, slice_index, int_le, ◌-ℤ◌, ◌+ℤ◌, All}
use Rattle.std.specs.List.{list_all}
use Rattle.std.proofs.lemmas.List.{get_or-map, length-map}
use Rattle.cub_proto.specs.declared.literal.Term.{Term}
use Rattle.cub_proto.specs.declared.literal.PSide.{PSide}
use Rattle.cub_proto.specs.declared.literal.ISide.{ISide}
use Rattle.cub_proto.specs.declared.literal.ISide.TheVariants.{Zero, At}
use Rattle.cub_proto.specs.declared.literal.Lit.{Lit}
use Rattle.cub_proto.specs.declared.literal.Lit.TheVariants.{FinIn, FinEq, FinNe, ProcEq, ProcNe, Diff}
use Rattle.cub_proto.specs.declared.literal.Value.{Value}
use Rattle.cub_proto.specs.declared.state.Slot.TheVariants as Slot
use Rattle.cub_proto.specs.declared.state.Val.{Val}
use Rattle.cub_proto.specs.declared.state.Val.TheVariants.{Proc, Int}
use Rattle.cub_proto.specs.Configuration.{Configuration, value_at}
use Rattle.cub_proto.specs.Fits.{place_fits}
use Rattle.cub_proto.specs.Truth.{term_value, constructor_of, constructor_at, process_at, integer_of, integer_at, has_bit, is_true, all_true}
use Rattle.cub_proto.specs.Effect.{meaning_of}
use Rattle.cub_cube.specs.Rename.{renamed_term, renamed_process_side, renamed_integer_side, renamed, renamed_all, renamed_value, along, is_within, process_side_within, integer_side_within, value_within}
use Rattle.cub_base.proofs.Bools.{and_left, and_right, less_is}

-- what is at a place of the small thing
pub at_along : (r places : List ℕ) (p : ℕ) → p < length r → slice_index (along r places) p ≡ slice_index places (slice_index r p)
at_along r places p below = get_or-map (λ q. slice_index places q) r p 0 0 below

pub length-along : (r places : List ℕ) → length (along r places) ≡ length r
length-along r places = length-map r (λ q. slice_index places q)

-- composing once more
pub along-along : (q r places : List ℕ) → All (λ p. p < length r) q → along (along q r) places ≡ along q (along r places)
along-along [] r places within = refl
along-along (p ∷ q) r places within =
    ap (λ i. i ∷ along (along q r) places) (sym (at_along r places p (within 0 0 (omega arith))))
    ∙ ap (λ xs. slice_index (along r places) p ∷ xs) (along-along q r places (λ k d below. within (suc k) d (omega arith)))

module _ (s : Configuration) (r places : List ℕ) where
  pub renamed_term_value : (t : Term) → IsTrue (place_fits (length r) t) → term_value s places (renamed_term r t) ≡ term_value s (along r places) t
  renamed_term_value (Term.Global g) h = refl
  renamed_term_value (Term.Cell a p) h = ap (λ i. value_at s (Slot.Cell a i)) (sym (at_along r places p (less_is p (length r) h)))

  pub renamed_process : (a : PSide) → IsTrue (process_side_within (length r) a) → process_at s places (renamed_process_side r a) ≡ process_at s (along r places) a
  renamed_process (PSide.Global g) h = refl
  renamed_process (PSide.Place p) h = sym (at_along r places p (less_is p (length r) h))

  pub renamed_integer : (a : ISide) → IsTrue (integer_side_within (length r) a) → integer_at s places (renamed_integer_side r a) ≡ integer_at s (along r places) a
  renamed_integer Zero h = refl
  renamed_integer (At t) h = ap integer_of (renamed_term_value t h)

  renamed_constructor : (t : Term) → IsTrue (place_fits (length r) t) → constructor_at s places (renamed_term r t) ≡ constructor_at s (along r places) t
  renamed_constructor t h = ap constructor_of (renamed_term_value t h)

  terms_alike : (a b : Term) → IsTrue (place_fits (length r) a && place_fits (length r) b)
      → (constructor_at s places (renamed_term r a) == constructor_at s places (renamed_term r b)) ≡ (constructor_at s (along r places) a == constructor_at s (along r places) b)
  terms_alike a b h =
      ap (λ x. x == constructor_at s places (renamed_term r b)) (renamed_constructor a (and_left (place_fits (length r) a) (place_fits (length r) b) h))
      ∙ ap (λ x. constructor_at s (along r places) a == x) (renamed_constructor b (and_right (place_fits (length r) a) (place_fits (length r) b) h))

  processes_alike : (a b : PSide) → IsTrue (process_side_within (length r) a && process_side_within (length r) b)
      → (process_at s places (renamed_process_side r a) == process_at s places (renamed_process_side r b)) ≡ (process_at s (along r places) a == process_at s (along r places) b)
  processes_alike a b h =
      ap (λ x. x == process_at s places (renamed_process_side r b)) (renamed_process a (and_left (process_side_within (length r) a) (process_side_within (length r) b) h))
      ∙ ap (λ x. process_at s (along r places) a == x) (renamed_process b (and_right (process_side_within (length r) a) (process_side_within (length r) b) h))

  pub renamed_true : (l : Lit) → IsTrue (is_within (length r) l) → is_true s places (renamed r l) ≡ is_true s (along r places) l
  renamed_true (FinIn t mask) h = ap (has_bit mask) (renamed_constructor t h)
  renamed_true (FinEq a b) h = terms_alike a b h
  renamed_true (FinNe a b) h = ap not (terms_alike a b h)
  renamed_true (ProcEq a b) h = processes_alike a b h
  renamed_true (ProcNe a b) h = ap not (processes_alike a b h)
  renamed_true (Diff a b bound) h =
      ap (λ x. int_le (x -ℤ integer_at s places (renamed_integer_side r b)) bound) (renamed_integer a (and_left (integer_side_within (length r) a) (integer_side_within (length r) b) h))
      ∙ ap (λ x. int_le (integer_at s (along r places) a -ℤ x) bound) (renamed_integer b (and_right (integer_side_within (length r) a) (integer_side_within (length r) b) h))

  pub renamed_all_true : (lits : List Lit) → IsTrue (list_all (is_within (length r)) lits) → all_true s places (renamed_all r lits) ≡ all_true s (along r places) lits
  renamed_all_true [] h = refl
  renamed_all_true (l ∷ ls) h =
      ap (λ b. b && all_true s places (renamed_all r ls)) (renamed_true l (and_left (is_within (length r) l) (list_all (is_within (length r)) ls) h))
      ∙ ap (λ b. is_true s (along r places) l && b) (renamed_all_true ls (and_right (is_within (length r) l) (list_all (is_within (length r)) ls) h))

  pub renamed_meaning : (v : Value) (old : Val) → IsTrue (value_within (length r) v) → meaning_of s places (renamed_value r v) old ≡ meaning_of s (along r places) v old
  renamed_meaning (Value.Con c) old h = refl
  renamed_meaning (Value.Read t) old h = renamed_term_value t h
  renamed_meaning (Value.Proc side) old h = ap (λ i. Proc i) (renamed_process side h)
  renamed_meaning (Value.Sum base add) old h = ap (λ n. Int (n +ℤ add)) (renamed_integer base h)
  renamed_meaning Value.Any old h = refl
