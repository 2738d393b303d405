use Rattle.std.proofs.Common.{◌≤◌, length, subst, sym}
use Rattle.cub_proto.proofs.Constructors.{declared_size}
use Rattle.cube_text.proofs.writer.names_of_sort.Goals as goal

pub returns-in-Some-clause-few : goal.returns-in-Some-clause-few
returns-in-Some-clause-few c =
    subst (λ xs. length xs ≤ 64) (sym c.as_slice.ensures)
    (declared_size c.args.protocol.now c.in-Some-Fin.number c.in-Some.decl.now (sym c.in-Some.ensures.value)).few
