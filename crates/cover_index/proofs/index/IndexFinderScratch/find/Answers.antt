use Rattle.std.proofs.Common.{refl, sym, subst}
use Rattle.cover_index.specs.Indexed.{Indexed, IsServing}
use Rattle.cover_index.proofs.Serving.{summed_in, grouped_in, larger_in}
use Rattle.cover_index.proofs.index.IndexFinderScratch.find.Goals as goal

pub first_cover-requires-clause-summed : goal.first_cover-requires-clause-summed
first_cover-requires-clause-summed c =
    let s : Indexed = record { cubes = c.self.inside.store.cubes; retired = c.self.inside.retired.items; summaries = c.self.inside.store.summaries; groups = c.self.inside.groups.items; larger = c.self.inside.larger.items; met = c.self.inside.met } in
    summed_in c.args.protocol.now s (subst (λ (x : Indexed). IsServing c.args.protocol.now x) (sym c.self.view_is) c.requires.serves) s.cubes refl s.summaries refl c.self.invariant.1

pub first_cover-requires-clause-groups : goal.first_cover-requires-clause-groups
first_cover-requires-clause-groups c =
    let s : Indexed = record { cubes = c.self.inside.store.cubes; retired = c.self.inside.retired.items; summaries = c.self.inside.store.summaries; groups = c.self.inside.groups.items; larger = c.self.inside.larger.items; met = c.self.inside.met } in
    grouped_in c.args.protocol.now s (subst (λ (x : Indexed). IsServing c.args.protocol.now x) (sym c.self.view_is) c.requires.serves) s.cubes refl c.as_slice.result.now c.as_slice.ensures.value

pub first_cover-requires-clause-larger : goal.first_cover-requires-clause-larger
first_cover-requires-clause-larger c =
    let s : Indexed = record { cubes = c.self.inside.store.cubes; retired = c.self.inside.retired.items; summaries = c.self.inside.store.summaries; groups = c.self.inside.groups.items; larger = c.self.inside.larger.items; met = c.self.inside.met } in
    larger_in c.args.protocol.now s (subst (λ (x : Indexed). IsServing c.args.protocol.now x) (sym c.self.view_is) c.requires.serves) s.cubes refl c.as_slice-2.result.now c.as_slice-2.ensures.value
