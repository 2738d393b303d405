use Rattle.std.proofs.Common.{◌≤◌, sym, subst, arith}
use Rattle.std.specs.Prelude.{unsigned_abs}
use Rattle.std.proofs.lemmas.Int.{ints, to_z-of_z}
use Rattle.cub_proto.specs.Fits.{greatest_constant}
use Rattle.updates.specs.Chosen.{value_in}
use Rattle.updates.proofs.Replacing.{small_added}
use Rattle.updates.proofs.values.difference.Goals as goal

pub moved-requires-clause-first : goal.moved-requires-clause-first
moved-requires-clause-first c =
    let small : unsigned_abs c.replaced_added-first.result ≤ greatest_constant = subst (λ n. unsigned_abs n ≤ greatest_constant) (sym c.replaced_added-first.ensures)
    (small_added c.args.protocol.now c.args.width (value_in c.args.terms.now c.args.values.now) c.args.a c.args.b c.requires.fits c.requires.can).first in
    grind (arith, ints, to_z-of_z)

pub moved-requires-clause-second : goal.moved-requires-clause-second
moved-requires-clause-second c =
    let small : unsigned_abs c.replaced_added-second.result ≤ greatest_constant = subst (λ n. unsigned_abs n ≤ greatest_constant) (sym c.replaced_added-second.ensures)
    (small_added c.args.protocol.now c.args.width (value_in c.args.terms.now c.args.values.now) c.args.a c.args.b c.requires.fits c.requires.can).second in
    grind (arith, ints, to_z-of_z)
