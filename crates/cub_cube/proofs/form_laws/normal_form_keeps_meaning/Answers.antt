use Rattle.std.proofs.Common.{sym, subst}
use Rattle.std.specs.Prelude.{IsTrue, []}
use Rattle.std.specs.List.{list_all}
use Rattle.cub_proto.specs.Fits.{literal_fits}
use Rattle.cub_proto.specs.StateOf.{signature_of}
use Rattle.cub_cube.proofs.Form.{fold_true}
use Rattle.cub_cube.proofs.form_laws.normal_form_keeps_meaning.Goals as goal

pub returns : goal.returns
returns c p width lits fits s places at =
    fold_true p s places at.state at.processes [] lits (subst (λ w. IsTrue (list_all (literal_fits (signature_of p) w) lits)) (sym at.one_each) fits)
