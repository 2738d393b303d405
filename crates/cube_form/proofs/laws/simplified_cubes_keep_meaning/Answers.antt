use Rattle.std.proofs.Common.{◌≤◌, ℕ, length, sym, subst, arith}
use Rattle.std.specs.Prelude.{IsTrue}
use Rattle.std.specs.List.{list_all}
use Rattle.cub_proto.specs.StateOf.{signature_of}
use Rattle.cub_proto.specs.Fits.{literal_fits, is_bounded}
use Rattle.cube_form.proofs.Simplifying.{simplified_one, drops_all, drops_normal, drops_is_there, drops_same}
use Rattle.cube_form.proofs.laws.simplified_cubes_keep_meaning.Goals as goal

pub returns-clause-one : goal.returns-clause-one
returns-clause-one c p cube a b h k = simplified_one p cube a b h k

pub returns-clause-meaning : goal.returns-clause-meaning
returns-clause-meaning c p cube simple h = drops_same p cube.width (length cube.lits) cube.lits simple.lits (omega arith) h.lits

pub returns-clause-some : goal.returns-clause-some
returns-clause-some c p cube simple l h there = drops_is_there p cube.width (length cube.lits) cube.lits simple.lits l h.lits there

pub returns-clause-fit : goal.returns-clause-fit
returns-clause-fit c p widest limit cube simple h fit = record {
  narrow = subst (λ (n : ℕ). n ≤ widest) (sym h.width) fit.narrow;
  fits =
      subst (λ (n : ℕ). IsTrue (list_all (literal_fits (signature_of p) n) simple.lits)) (sym h.width)
      (drops_all (literal_fits (signature_of p) cube.width) p cube.width (length cube.lits) cube.lits simple.lits h.lits fit.fits);
  normal = drops_normal (signature_of p) p cube.width (length cube.lits) cube.lits simple.lits h.lits fit.normal;
  bounded = drops_all (is_bounded limit) p cube.width (length cube.lits) cube.lits simple.lits h.lits fit.bounded;
}
