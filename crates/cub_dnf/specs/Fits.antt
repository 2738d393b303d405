-- Which formulas have normal forms that can be computed, and which have those of a protocol.
use Rattle.std.specs.Prelude.{ℕ, ℤ, pos, negsuc, Bool, true, ◌&&◌, nat_le, int_le, unsigned_abs, List}
use Rattle.std.specs.List.{list_all}
use Rattle.cub_proto.specs.declared.literal.Lit.{Lit}
use Rattle.cub_proto.specs.declared.literal.Lit.TheVariants.{FinIn, FinEq, FinNe, ProcEq, ProcNe, Diff}
use Rattle.cub_proto.specs.Signature.{Signature}
use Rattle.cub_proto.specs.Fits.{literal_fits, integer_side_fits, is_bounded}
use Rattle.cub_dnf.specs.declared.formula.Formula.{Formula}
use Rattle.cub_dnf.specs.declared.formula.Formula.TheOpen.{Formula-F}
use Rattle.cub_dnf.specs.declared.formula.Formula.TheFolds.{fold-Formula}

-- the greatest size of a bound in a formula, 2 ^ 48 - 1
abbrev pub greatest_formula_bound : ℕ
greatest_formula_bound = 281474976710655

-- every part passes
abbrev pub all_pass : List Bool → Bool
all_pass parts = list_all (λ part. part) parts

-- the literals are of the signature, with places below the width, and bounds are below 2 ^ 48 in size
abbrev pub fits_step : Signature → ℕ → Formula-F Bool → Bool
fits_step sig width (Formula-F.Const value) = true
fits_step sig width (Formula-F.One lit) = literal_fits sig width lit && is_bounded greatest_formula_bound lit
fits_step sig width (Formula-F.IntEq a b bound) =
    integer_side_fits sig width a && integer_side_fits sig width b && nat_le (unsigned_abs bound) greatest_formula_bound
fits_step sig width (Formula-F.Not part) = part
fits_step sig width (Formula-F.All parts) = all_pass parts
fits_step sig width (Formula-F.Any parts) = all_pass parts

abbrev pub fits : Signature → ℕ → Formula → Bool
fits sig width = fold-Formula Bool (fits_step sig width)

-- the bound is one that a comparison of two sides of a text has, each side with a constant of at most 1,000,000,000
-- in size; so is the bound of the negation
abbrev pub has_text_bound : Lit → Bool
has_text_bound (FinIn t mask) = true
has_text_bound (FinEq a b) = true
has_text_bound (FinNe a b) = true
has_text_bound (ProcEq a b) = true
has_text_bound (ProcNe a b) = true
has_text_bound (Diff a b bound) = int_le (negsuc 2000000000) bound && int_le bound (pos 2000000000)

abbrev pub text_bounds_step : Formula-F Bool → Bool
text_bounds_step (Formula-F.Const value) = true
text_bounds_step (Formula-F.One lit) = has_text_bound lit
text_bounds_step (Formula-F.IntEq a b bound) = nat_le (unsigned_abs bound) 2000000000
text_bounds_step (Formula-F.Not part) = part
text_bounds_step (Formula-F.All parts) = all_pass parts
text_bounds_step (Formula-F.Any parts) = all_pass parts

-- all bounds are such bounds
abbrev pub has_text_bounds : Formula → Bool
has_text_bounds = fold-Formula Bool text_bounds_step
