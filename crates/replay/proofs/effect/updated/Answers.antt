use Rattle.std.proofs.Common.{sym, subst}
use Rattle.replay.specs.Reads.{ReadsValue}
use Rattle.replay.proofs.Counting.{of_chosen}
use Rattle.replay.proofs.effect.updated.Goals as goal

pub settled-requires : goal.settled-requires
settled-requires c =
    let s = c.args.state.now in
    let places = c.args.places.now in
    let u = c.args.update.now in
    subst (ReadsValue s places) (sym c.counting.ensures)
    (of_chosen (ReadsValue s places) s places u.branches u.last c.requires.values c.requires.last)
