-- Small bounds are integers of 64 bits.
use Rattle.std.proofs.Common.{◌≡◌, ℤ, Bool, true, sym, subst, arith, SFits, to_z, of_z, w64}
use Rattle.std.specs.Prelude.{IsTrue, nat_le, unsigned_abs}
use Rattle.std.proofs.lemmas.Int.{ints, to_z-of_z}
use Rattle.std.proofs.lemmas.Bool.Decides.{nat_tests}
use Rattle.cub_dnf.specs.Fits.{greatest_formula_bound}

is_small : (z : ℤ) → nat_le (unsigned_abs z) greatest_formula_bound ≡ true → SFits w64 z
is_small z h = grind (arith, ints, nat_tests)

pub bound_is_read : (z : ℤ) → IsTrue (nat_le (unsigned_abs z) greatest_formula_bound) → IsTrue (nat_le (unsigned_abs (to_z w64 (of_z w64 z))) greatest_formula_bound)
bound_is_read z h = subst (λ x. IsTrue (nat_le (unsigned_abs x) greatest_formula_bound)) (sym (to_z-of_z w64 z (is_small z h))) h
