use Rattle.std.proofs.Common.{◌≡◌, take, [], IsTrue}
use Rattle.std.specs.Prelude.{fold}
use Rattle.cub_proto.specs.StateOf.{signature_of}
use Rattle.cub_cube.specs.Normal.{placed, subjects_rise}
use Rattle.cub_cube.proofs.normal.normal_form.Given as goal

abbrev pub invariant-loop-lit : goal.invariant-loop-lit
invariant-loop-lit l = record {
  so_far : l.form.items ≡ fold (placed (signature_of l.protocol)) [] (take l.lit-index l.lits);
  rises : IsTrue (subjects_rise l.form.items);
}
