use Rattle.std.proofs.Common.{refl, sym, subst}
use Rattle.cover_index.specs.Indexed.{Indexed, IsServing}
use Rattle.cover_index.proofs.Serving.{summed_in, grouped_in, larger_in, retired_in}
use Rattle.cover_index.proofs.index.IndexFinderScratch.is_covered.Goals as goal

pub some_cover-requires-clause-summed : goal.some_cover-requires-clause-summed
some_cover-requires-clause-summed c =
    let s : Indexed = record { cubes = c.self.inside.store.cubes; retired = c.self.inside.retired.items; summaries = c.self.inside.store.summaries; groups = c.self.inside.groups.items; larger = c.self.inside.larger.items; met = c.self.inside.met } in
    summed_in c.args.protocol.now s (subst (λ (x : Indexed). IsServing c.args.protocol.now x) (sym c.self.view_is) c.requires.serves) s.cubes refl s.summaries refl c.self.invariant.1

pub some_cover-requires-clause-groups : goal.some_cover-requires-clause-groups
some_cover-requires-clause-groups c =
    let s : Indexed = record { cubes = c.self.inside.store.cubes; retired = c.self.inside.retired.items; summaries = c.self.inside.store.summaries; groups = c.self.inside.groups.items; larger = c.self.inside.larger.items; met = c.self.inside.met } in
    grouped_in c.args.protocol.now s (subst (λ (x : Indexed). IsServing c.args.protocol.now x) (sym c.self.view_is) c.requires.serves) s.cubes refl c.as_slice.result.now c.as_slice.ensures.value

pub some_cover-requires-clause-larger : goal.some_cover-requires-clause-larger
some_cover-requires-clause-larger c =
    let s : Indexed = record { cubes = c.self.inside.store.cubes; retired = c.self.inside.retired.items; summaries = c.self.inside.store.summaries; groups = c.self.inside.groups.items; larger = c.self.inside.larger.items; met = c.self.inside.met } in
    larger_in c.args.protocol.now s (subst (λ (x : Indexed). IsServing c.args.protocol.now x) (sym c.self.view_is) c.requires.serves) s.cubes refl c.as_slice-2.result.now c.as_slice-2.ensures.value

pub some_cover-requires-clause-covered : goal.some_cover-requires-clause-covered
some_cover-requires-clause-covered c =
    let s : Indexed = record { cubes = c.self.inside.store.cubes; retired = c.self.inside.retired.items; summaries = c.self.inside.store.summaries; groups = c.self.inside.groups.items; larger = c.self.inside.larger.items; met = c.self.inside.met } in
    retired_in c.args.protocol.now s (subst (λ (x : Indexed). IsServing c.args.protocol.now x) (sym c.self.view_is) c.requires.serves) s.cubes refl c.as_slice-3.result.now c.as_slice-3.ensures.value
