-- The negation of a fitting literal fits.
use Rattle.std.proofs.Common.{◌≡◌, ℕ, ◌-◌, ◌^◌, true}
use Rattle.std.specs.Prelude.{◌&&◌, IsTrue, nat_lt}
use Rattle.std.proofs.Common.{arith}
use Rattle.std.proofs.lemmas.Nat.{pow_pos}
use Rattle.cub_proto.specs.declared.literal.Lit.{Lit}
use Rattle.cub_proto.specs.declared.literal.Lit.TheVariants.{FinIn, FinEq, FinNe, ProcEq, ProcNe, Diff}
use Rattle.cub_proto.specs.Signature.{Signature, sort_of, constructors_at}
use Rattle.cub_proto.specs.Fits.{literal_fits, is_finite, place_fits, integer_side_fits}
use Rattle.cub_proto.specs.Negation.{negated}
use Rattle.cub_base.proofs.Bools.{and_left, and_right, and_both, is_less}

complement_fits : (n m : ℕ) → nat_lt (2 ^ n - 1 - m) (2 ^ n) ≡ true
complement_fits n m = let some = pow_pos n in is_less (2 ^ n - 1 - m) (2 ^ n) (omega (arith, some))

pub negated_fits : (sig : Signature) (width : ℕ) (l : Lit) → IsTrue (literal_fits sig width l) → IsTrue (literal_fits sig width (negated sig l))
negated_fits sig width (FinIn t mask) fits =
    and_both (is_finite (sort_of sig t) && place_fits width t) (nat_lt (2 ^ constructors_at sig t - 1 - mask) (2 ^ constructors_at sig t))
    (and_left (is_finite (sort_of sig t) && place_fits width t) (nat_lt mask (2 ^ constructors_at sig t)) fits) (complement_fits (constructors_at sig t) mask)
negated_fits sig width (FinEq a b) fits = fits
negated_fits sig width (FinNe a b) fits = fits
negated_fits sig width (ProcEq a b) fits = fits
negated_fits sig width (ProcNe a b) fits = fits
negated_fits sig width (Diff a b bound) fits =
    and_both (integer_side_fits sig width b) (integer_side_fits sig width a) (and_right (integer_side_fits sig width a) (integer_side_fits sig width b) fits)
    (and_left (integer_side_fits sig width a) (integer_side_fits sig width b) fits)
