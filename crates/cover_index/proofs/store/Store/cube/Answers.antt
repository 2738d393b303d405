use Rattle.std.proofs.Common.{◌≡◌, ◌<◌, ◌/◌, ◌%◌, ◌∙◌, length, sym, ap, subst, arith}
use Rattle.std.proofs.lemmas.List.{get_or_read}
use Rattle.log_form.specs.Links.{cube_at, no_cube}
use Rattle.cover_index.specs.Sealed.{Sealed, no_segment}
use Rattle.cover_index.specs.Stored.{Stored, segment_at}
use Rattle.cover_index.proofs.Storing.{cubes_size, cube_is, segment_below}
use Rattle.cover_index.proofs.store.Store.cube.Goals as goal

pub index-requires : goal.index-requires
index-requires c =
    let segments = c.self.inside.segments.items in
    let count = c.self.inside.count in
    let below : c.args.number < count = subst (λ n. c.args.number < n) (ap (λ (x : Stored). length x.cubes) (sym c.self.view_is) ∙ cubes_size segments count) c.requires in
    let there = segment_below segments count c.args.number below c.self.invariant.0 in
    omega (arith, there, c.self.inside.segments.ok.0)

pub bounds-cubes-number : goal.bounds-cubes-number
bounds-cubes-number c =
    let segments = c.self.inside.segments.items in
    let count = c.self.inside.count in
    let number = c.args.number in
    let below : number < count = subst (λ n. number < n) (ap (λ (x : Stored). length x.cubes) (sym c.self.view_is) ∙ cubes_size segments count) c.requires in
    let there : c.index.result.now ≡ segment_at segments (number / 64) = get_or_read segments (number / 64) c.index.result.now (segment_below segments count number below c.self.invariant.0) c.index.ensures no_segment in
    let same : c.cubes.result.now ≡ (segment_at segments (number / 64)).cubes = c.cubes.ensures ∙ ap (λ (x : Sealed). x.cubes) (c.get-segment.ensures ∙ there) in
    subst (λ cs. number % 64 < length cs) (sym same) (c.self.invariant.1 number below)

pub returns : goal.returns
returns c =
    let segments = c.self.inside.segments.items in
    let count = c.self.inside.count in
    let number = c.args.number in
    let below : number < count = subst (λ n. number < n) (ap (λ (x : Stored). length x.cubes) (sym c.self.view_is) ∙ cubes_size segments count) c.requires in
    let there : c.index.result.now ≡ segment_at segments (number / 64) = get_or_read segments (number / 64) c.index.result.now (segment_below segments count number below c.self.invariant.0) c.index.ensures no_segment in
    let same : c.cubes.result.now ≡ (segment_at segments (number / 64)).cubes = c.cubes.ensures ∙ ap (λ (x : Sealed). x.cubes) (c.get-segment.ensures ∙ there) in
    let bound : number % 64 < length c.cubes.result.now = subst (λ cs. number % 64 < length cs) (sym same) (c.self.invariant.1 number below) in
    get_or_read c.cubes.result.now (number % 64) c.index-cubes-number.result bound c.index-cubes-number.is no_cube
    ∙ ap (λ cs. cube_at cs (number % 64)) same
    ∙ sym (cube_is segments count number below)
    ∙ ap (λ (x : Stored). cube_at x.cubes number) c.self.view_is
