use Rattle.std.proofs.Common.{List, IsTrue, sym, subst}
use Rattle.std.specs.List.{list_all}
use Rattle.cub_proto.specs.declared.transition.Update.{Update}
use Rattle.cub_proto.specs.StateOf.{signature_of}
use Rattle.cub_cube.specs.Replace.{can_replace_all}
use Rattle.updates.specs.Chosen.{values_by}
use Rattle.pieces.proofs.whole.cube_by.Goals as goal

pub push_before-requires-clause-can : goal.push_before-requires-clause-can
push_before-requires-clause-can c =
    let d = c.args.work.now in
    subst (λ (us : List Update). IsTrue (list_all (can_replace_all (signature_of c.args.protocol.now) d.width (values_by us d.params d.choices)) c.args.lits.now)) (sym c.as_slice.ensures) c.requires.whole.can
