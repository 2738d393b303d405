use Rattle.cub_proto.specs.StateOf.{signature_of}
use Rattle.cub_cube.proofs.RenamedFits.{all_fits_within}
use Rattle.tables.proofs.forming.normal_name.Goals as goal

pub normal_name-requires-clause-within : goal.normal_name-requires-clause-within
normal_name-requires-clause-within c = all_fits_within (signature_of c.args.protocol.now) c.before.in_ok-cube.cube.width c.before.in_ok-cube.cube.lits c.in_ok-cube.ensures.fits
