-- Only the places below the width count.
use Rattle.std.proofs.Common.{◌≡◌, ℕ, List, [], ◌∷◌, refl, ap, ◌∙◌}
use Rattle.std.specs.Prelude.{◌&&◌, ◌==◌, not, IsTrue, int_le, ◌-ℤ◌, ◌+ℤ◌}
use Rattle.std.specs.List.{list_all}
use Rattle.cub_proto.specs.declared.literal.Term.{Term}
use Rattle.cub_proto.specs.declared.literal.PSide.{PSide}
use Rattle.cub_proto.specs.declared.literal.ISide.{ISide}
use Rattle.cub_proto.specs.declared.literal.ISide.TheVariants.{Zero, At}
use Rattle.cub_proto.specs.declared.literal.Lit.{Lit}
use Rattle.cub_proto.specs.declared.literal.Lit.TheVariants.{FinIn, FinEq, FinNe, ProcEq, ProcNe, Diff}
use Rattle.cub_proto.specs.declared.literal.Value.{Value}
use Rattle.cub_proto.specs.declared.state.Slot.TheVariants as Slot
use Rattle.cub_proto.specs.declared.state.Val.{Val}
use Rattle.cub_proto.specs.declared.state.Val.TheVariants.{Proc, Int}
use Rattle.cub_proto.specs.Configuration.{Configuration, value_at}
use Rattle.cub_proto.specs.Fits.{place_fits}
use Rattle.cub_proto.specs.Truth.{term_value, constructor_of, constructor_at, process_at, integer_of, integer_at, has_bit, is_true, all_true}
use Rattle.cub_proto.specs.Effect.{meaning_of}
use Rattle.cub_cube.specs.Rename.{Agree, is_within, process_side_within, integer_side_within, value_within}
use Rattle.cub_base.proofs.Bools.{and_left, and_right, less_is}

module _ (s : Configuration) (width : ℕ) (places others : List ℕ) (agree : Agree width places others) where
  pub agree_term : (t : Term) → IsTrue (place_fits width t) → term_value s places t ≡ term_value s others t
  agree_term (Term.Global g) h = refl
  agree_term (Term.Cell a p) h = ap (λ i. value_at s (Slot.Cell a i)) (agree p (less_is p width h))

  pub agree_process : (a : PSide) → IsTrue (process_side_within width a) → process_at s places a ≡ process_at s others a
  agree_process (PSide.Global g) h = refl
  agree_process (PSide.Place p) h = agree p (less_is p width h)

  pub agree_integer : (a : ISide) → IsTrue (integer_side_within width a) → integer_at s places a ≡ integer_at s others a
  agree_integer Zero h = refl
  agree_integer (At t) h = ap integer_of (agree_term t h)

  terms_alike : (a b : Term) → IsTrue (place_fits width a && place_fits width b) → (constructor_at s places a == constructor_at s places b) ≡ (constructor_at s others a == constructor_at s others b)
  terms_alike a b h =
      ap (λ v. constructor_of v == constructor_at s places b) (agree_term a (and_left (place_fits width a) (place_fits width b) h))
      ∙ ap (λ v. constructor_at s others a == constructor_of v) (agree_term b (and_right (place_fits width a) (place_fits width b) h))

  processes_alike : (a b : PSide) → IsTrue (process_side_within width a && process_side_within width b) → (process_at s places a == process_at s places b) ≡ (process_at s others a == process_at s others b)
  processes_alike a b h =
      ap (λ i. i == process_at s places b) (agree_process a (and_left (process_side_within width a) (process_side_within width b) h))
      ∙ ap (λ i. process_at s others a == i) (agree_process b (and_right (process_side_within width a) (process_side_within width b) h))

  pub agree_true : (l : Lit) → IsTrue (is_within width l) → is_true s places l ≡ is_true s others l
  agree_true (FinIn t mask) h = ap (λ v. has_bit mask (constructor_of v)) (agree_term t h)
  agree_true (FinEq a b) h = terms_alike a b h
  agree_true (FinNe a b) h = ap not (terms_alike a b h)
  agree_true (ProcEq a b) h = processes_alike a b h
  agree_true (ProcNe a b) h = ap not (processes_alike a b h)
  agree_true (Diff a b bound) h =
      ap (λ x. int_le (x -ℤ integer_at s places b) bound) (agree_integer a (and_left (integer_side_within width a) (integer_side_within width b) h))
      ∙ ap (λ x. int_le (integer_at s others a -ℤ x) bound) (agree_integer b (and_right (integer_side_within width a) (integer_side_within width b) h))

  pub agree_meaning : (v : Value) (old : Val) → IsTrue (value_within width v) → meaning_of s places v old ≡ meaning_of s others v old
  agree_meaning (Value.Con c) old h = refl
  agree_meaning (Value.Read t) old h = agree_term t h
  agree_meaning (Value.Proc side) old h = ap (λ i. Proc i) (agree_process side h)
  agree_meaning (Value.Sum base add) old h = ap (λ n. Int (n +ℤ add)) (agree_integer base h)
  agree_meaning Value.Any old h = refl

pub agree_all_true : (s : Configuration) (width : ℕ) (places others : List ℕ) (lits : List Lit) → IsTrue (list_all (is_within width) lits) → Agree width places others → all_true s places lits ≡ all_true s others lits
agree_all_true s width places others [] h agree = refl
agree_all_true s width places others (l ∷ ls) h agree =
    ap (λ b. b && all_true s places ls) (agree_true s width places others agree l (and_left (is_within width l) (list_all (is_within width) ls) h))
    ∙ ap (λ b. is_true s others l && b) (agree_all_true s width places others ls (and_right (is_within width l) (list_all (is_within width) ls) h) agree)
