use Rattle.std.proofs.Common.{IsTrue, sym, subst, length}
use Rattle.std.specs.List.{list_all}
use Rattle.cub_proto.specs.StateOf.{signature_of}
use Rattle.cub_cube.specs.Rename.{is_within}
use Rattle.cub_cube.proofs.RenamedFits.{all_fits_within}
use Rattle.updates.specs.Ways.{condition}
use Rattle.updates.proofs.Fitting.{condition_fits, first_fit}
use Rattle.updates.proofs.ways.push_way.Goals as goal

pub push_renamed-requires : goal.push_renamed-requires
push_renamed-requires c =
    subst (λ ls. IsTrue (list_all (is_within (length c.args.places.now)) ls)) (sym c.condition.ensures)
    (all_fits_within (signature_of c.args.protocol.now) (length c.args.places.now) (condition c.args.branches.now c.args.branch)
    (condition_fits c.args.protocol.now (length c.args.places.now) c.args.branches.now c.args.branch c.requires.fits))

pub push_failing-requires-clause-fits : goal.push_failing-requires-clause-fits
push_failing-requires-clause-fits c = first_fit c.args.protocol.now (length c.args.places.now) c.args.branches.now c.args.branch c.requires.fits
