use Rattle.std.proofs.Common.{◌≡◌, ◌<◌, nat_le, length, sym, subst, arith}
use Rattle.std.proofs.lemmas.Bool.{and_parts}
use Rattle.std.proofs.lemmas.List.Elements.{All-weaker}
use Rattle.cub_proto.specs.Configuration.{process_count, IsAlive}
use Rattle.cub_proto.specs.Fits.{conjunction_fits}
use Rattle.cub_proto.specs.StateOf.{signature_of}
use Rattle.cub_proto.specs.Truth.{HasLiterals}
use Rattle.cub_proto.proofs.Readable.{Fills, has_conjunction}
use Rattle.cub_proto.proofs.StateValues.{alive_within}
use Rattle.replay.proofs.unsafe_state.satisfies.Goals as goal

pub all_hold-requires : goal.all_hold-requires
all_hold-requires c =
    let p = c.args.protocol.now in
    let s = c.args.state.now in
    let g = c.args.goal.now in
    let places = c.args.places.now in
    let same : length places ≡ g.width = omega arith in
    let both = c.are_distinct_alive.ensures.0 c.if-not-are_distinct_alive.false in
    let fills : Fills s places g.width = record {
      one_each = same;
      processes = All-weaker (IsAlive s) (λ i. i < process_count s) (λ i h. alive_within s i h) places both.alive;
    } in
    let fits = (and_parts (nat_le g.width 4) (conjunction_fits (signature_of p) g.width g.lits) c.requires.fits).1 in
    subst (HasLiterals s places) (sym c.as_slice.ensures)
    (has_conjunction p s c.requires.state_of g.width places fills g.lits fits)
