use Rattle.std.proofs.Common.{◌<◌, [], ◌∷◌, ◌&&◌, nat_le, length, All, refl, sym, subst}
use Rattle.std.specs.List.{list_all}
use Rattle.std.proofs.lemmas.Bool.{and_parts}
use Rattle.std.proofs.lemmas.List.Elements.{All-cons, All-nil}
use Rattle.cub_proto.specs.Configuration.{process_count}
use Rattle.cub_proto.specs.Fits.{conjunction_fits, compares_no_place}
use Rattle.cub_proto.specs.StateOf.{signature_of}
use Rattle.cub_proto.specs.Truth.{HasLiterals}
use Rattle.cub_proto.proofs.Readable.{Fills, has_conjunctions}
use Rattle.replay.proofs.start.begins.Goals as goal

pub any_holds-requires : goal.any_holds-requires
any_holds-requires c =
    let p = c.args.protocol.now in
    let s = c.args.state.now in
    let i = c.args.process in
    let few = nat_le (length p.start) 1 in
    let fit = list_all (conjunction_fits (signature_of p) 1) p.start in
    let parts = and_parts few fit (and_parts (few && fit) (list_all (list_all compares_no_place) p.start) p.start_fits).0 in
    let fills : Fills s (i ∷ []) 1 = record { one_each = refl; processes = All-cons (λ j. j < process_count s) i [] c.requires.process (All-nil (λ j. j < process_count s)) } in
    subst (λ conjs. All (λ lits. HasLiterals s (i ∷ []) lits) conjs) (sym c.as_slice.ensures)
    (has_conjunctions p s c.requires.state_of 1 (i ∷ []) fills p.start parts.1)
