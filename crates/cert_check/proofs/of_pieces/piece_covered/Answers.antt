use Rattle.std.proofs.Common.{List, sym, subst}
use Rattle.std.specs.Prelude.{IsTrue, ◌↔◌}
use Rattle.cub_proto.specs.declared.literal.Lit.{Lit}
use Rattle.cub_cube.specs.Cover.{IsCovered}
use Rattle.cub_cube.specs.Meaning.{IsConsistent}
use Rattle.theory_laws.specs.Fitting.{AreFitting}
use Rattle.cert_check.specs.Injections.{cube_of}
use Rattle.cert_check.proofs.of_pieces.piece_covered.Goals as goal

pub is_covered-requires-clause-fitting : goal.is_covered-requires-clause-fitting
is_covered-requires-clause-fitting c = subst (λ (xs : List Lit). AreFitting c.args.protocol.now c.args.piece.now.cube.width xs) (sym c.as_slice.ensures) c.requires.askable.fitting

pub returns-clause-exact : goal.returns-clause-exact
returns-clause-exact c =
    let exact : IsTrue c.is_covered.result ↔ (IsConsistent c.args.protocol.now c.args.piece.now.cube.width c.args.piece.now.cube.lits → IsCovered c.args.protocol.now c.args.cubes.now c.args.piece.now.cube) =
    subst (λ (xs : List Lit). IsTrue c.is_covered.result ↔ (IsConsistent c.args.protocol.now c.args.piece.now.cube.width xs → IsCovered c.args.protocol.now c.args.cubes.now (cube_of c.args.piece.now.cube.width xs))) c.as_slice.ensures c.is_covered.ensures.exact in
    ((λ h. exact.0 h c.requires.askable.possible), (λ covered. exact.1 (λ consistent. covered)))
