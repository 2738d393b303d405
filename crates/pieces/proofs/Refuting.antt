-- No state meets a conjunction in which a literal is false alone.
use Rattle.std.proofs.Common.{◌≡◌, ℕ, zero, suc, ℤ, pos, Bool, true, false, List, [], ◌∷◌, length, drop, refl, sym, ap, ◌∙◌, subst, arith}
use Rattle.std.specs.Prelude.{IsTrue, ◌==◌, not, int_le, ◌-ℤ◌, slice_index}
use Rattle.std.specs.List.{list_all}
use Rattle.std.proofs.lemmas.Int.{ints}
use Rattle.std.proofs.lemmas.Nat.Bits.{bit_at-zero}
use Rattle.cub_base.proofs.Bools.{and_left, and_right, and_both, same_is, same_refl}
use Rattle.cub_proto.specs.declared.literal.PSide.{PSide}
use Rattle.cub_proto.specs.declared.literal.ISide.{ISide}
use Rattle.cub_proto.specs.declared.literal.ISide.TheVariants.{Zero, At}
use Rattle.cub_proto.specs.declared.literal.Lit.{Lit}
use Rattle.cub_proto.specs.declared.literal.Lit.TheVariants.{FinIn, FinEq, FinNe, ProcEq, ProcNe, Diff}
use Rattle.cub_proto.specs.declared.protocol.Protocol.{Protocol}
use Rattle.cub_proto.specs.Configuration.{Configuration}
use Rattle.cub_proto.specs.StateOf.{IsStateOf, signature_of}
use Rattle.cub_proto.specs.Fits.{literal_fits}
use Rattle.cub_proto.specs.Truth.{is_true, all_true, has_bit, constructor_at, process_at}
use Rattle.cub_proto.specs.Legal.{AreDistinctAlive}
use Rattle.cub_cube.specs.Meaning.{IsConsistent}
use Rattle.cub_cube.proofs.Alone.{alone_true}
use Rattle.pieces.specs.Alone.{are_one_place, is_below_zero, is_false_alone, may_be_met}

nothing_below : (bound : ℤ) → not (int_le (pos 0) bound) ≡ true → int_le (pos 0 -ℤ pos 0) bound ≡ true → ⊥
nothing_below bound h k = grind (arith, ints)

no_bit : (mask c : ℕ) → (mask == 0) ≡ true → has_bit mask c ≡ true → ⊥
no_bit mask c h met =
    let none : has_bit mask c ≡ false = ap (λ m. has_bit m c) (same_is mask 0 h) ∙ ap (λ b. b == 1) (bit_at-zero c) in
    let clash : true ≡ false = sym met ∙ none in
    cc

both : (b : Bool) → not b ≡ true → b ≡ true → ⊥
both true h k = let clash : false ≡ true = h in cc
both false h k = let clash : false ≡ true = k in cc

module _ (p : Protocol) (s : Configuration) (places : List ℕ) (state : IsStateOf p s) (distinct : AreDistinctAlive s places) where
  one_process : (a b : PSide) → IsTrue (are_one_place a b) → (process_at s places a == process_at s places b) ≡ true
  one_process (PSide.Global g) b h = let clash : false ≡ true = h in cc
  one_process (PSide.Place i) (PSide.Global g) h = let clash : false ≡ true = h in cc
  one_process (PSide.Place i) (PSide.Place j) h = ap (λ k. slice_index places i == slice_index places k) (sym (same_is i j h)) ∙ same_refl (slice_index places i)

  below_zero : (a b : ISide) (bound : ℤ) → IsTrue (is_below_zero a b bound) → is_true s places (Diff a b bound) ≡ true → ⊥
  below_zero Zero Zero bound h met = nothing_below bound h met
  below_zero Zero (At u) bound h met = let clash : false ≡ true = h in cc
  below_zero (At t) b bound h met = let clash : false ≡ true = h in cc

  refuted : (l : Lit) → IsTrue (literal_fits (signature_of p) (length places) l) → is_true s places l ≡ true → IsTrue (is_false_alone l) → ⊥
  refuted (FinIn t mask) fits met h = no_bit mask (constructor_at s places t) h met
  refuted (FinEq a b) fits met h = let clash : false ≡ true = h in cc
  refuted (FinNe a b) fits met h = let clash : false ≡ true = h in cc
  refuted (ProcEq a b) fits met h = both (process_at s places a == process_at s places b) (alone_true p s places state distinct (ProcNe a b) fits h) met
  refuted (ProcNe a b) fits met h = both (process_at s places a == process_at s places b) met (one_process a b h)
  refuted (Diff a b bound) fits met h = below_zero a b bound h met

  open_literal : (l : Lit) → IsTrue (literal_fits (signature_of p) (length places) l) → is_true s places l ≡ true → IsTrue (not (is_false_alone l))
  open_literal l fits met = by (is_false_alone l) (refuted l fits met)
    where
      by : (b : Bool) → (IsTrue b → ⊥) → IsTrue (not b)
      by true never = absurd (never refl)
      by false never = refl

  open_all : (ls : List Lit) → IsTrue (list_all (literal_fits (signature_of p) (length places)) ls) → IsTrue (all_true s places ls) → IsTrue (may_be_met ls)
  open_all [] fits met = refl
  open_all (l ∷ ls) fits met =
      let test = literal_fits (signature_of p) (length places) in
      and_both (not (is_false_alone l)) (may_be_met ls)
      (open_literal l (and_left (test l) (list_all test ls) fits) (and_left (is_true s places l) (all_true s places ls) met))
      (open_all ls (and_right (test l) (list_all test ls) fits) (and_right (is_true s places l) (all_true s places ls) met))

drop_all : {A : Type 0} (test : A → Bool) (n : ℕ) (xs : List A) → IsTrue (list_all test xs) → IsTrue (list_all test (drop n xs))
drop_all test zero xs h = h
drop_all test (suc n) [] h = h
drop_all test (suc n) (x ∷ xs) h = drop_all test n xs (and_right (test x) (list_all test xs) h)

-- some of the literals from a number on is false alone
pub never_met : (p : Protocol) (width n : ℕ) (ls : List Lit) → IsTrue (list_all (literal_fits (signature_of p) width) ls) → may_be_met (drop n ls) ≡ false → IsConsistent p width ls → ⊥
never_met p width n ls fits refused (s, state, (places, sat)) =
    let here = subst (λ w. IsTrue (list_all (literal_fits (signature_of p) w) ls)) (sym sat.one_each) fits in
    let kept : IsTrue (may_be_met (drop n ls)) = drop_all (λ l. not (is_false_alone l)) n ls (open_all p s places state sat.processes ls here sat.holds) in
    let clash : true ≡ false = sym kept ∙ refused in
    cc
