use Rattle.std.proofs.Common.{◌≡◌, ◌+◌, ◌-◌, ◌<◌, ◌/◌, ◌%◌, ◌∙◌, length, sym, ap, subst, arith}
use Rattle.std.proofs.lemmas.List.{get_or_read}
use Rattle.cover_index.specs.Sealed.{Sealed, no_segment}
use Rattle.cover_index.specs.Stored.{Stored, Shows, shown, segment_at}
use Rattle.cover_index.proofs.Storing.{cubes_size, segment_below, shows}
use Rattle.cover_index.proofs.store.Store.segment.Goals as goal

pub index-requires : goal.index-requires
index-requires c =
    let segments = c.self.inside.segments.items in
    let count = c.self.inside.count in
    let below : c.args.number < count = subst (λ n. c.args.number < n) (ap (λ (x : Stored). length x.cubes) (sym c.self.view_is) ∙ cubes_size segments count) c.requires in
    let there = segment_below segments count c.args.number below c.self.invariant.0 in
    omega (arith, there, c.self.inside.segments.ok.0)

pub returns : goal.returns
returns c =
    let segments = c.self.inside.segments.items in
    let count = c.self.inside.count in
    let number = c.args.number in
    let base = number - number % 64 in
    let below : number < count = subst (λ n. number < n) (ap (λ (x : Stored). length x.cubes) (sym c.self.view_is) ∙ cubes_size segments count) c.requires in
    let there : c.index.result.now ≡ segment_at segments (number / 64) = get_or_read segments (number / 64) c.index.result.now (segment_below segments count number below c.self.invariant.0) c.index.ensures no_segment in
    let from : base + number % 64 ≡ number = omega arith in
    subst (λ (x : Stored). Shows x base c.get.result.now) c.self.view_is
    (subst (λ (s : Sealed). Shows (shown segments count) base s) (sym (c.get.ensures ∙ there)) (shows segments count number base below from c.self.invariant.1))
