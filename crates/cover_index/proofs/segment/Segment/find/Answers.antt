use Rattle.std.proofs.Common.{◌<◌, List, length, sym, subst, arith}
use Rattle.cub_cube.specs.declared.cube.Cube.{Cube}
use Rattle.cub_cube.specs.Cover.{DoesCover}
use Rattle.log_form.specs.Links.{cube_at}
use Rattle.cover_index.specs.Asked.{AreSummed}
use Rattle.cover_index.specs.Sealed.{Sealed, IsSealedFor}
use Rattle.cover_index.proofs.Searching.{askable_at}
use Rattle.cover_index.proofs.Parting.{summed_whole}
use Rattle.cover_index.proofs.segment.Segment.find.Goals as goal

pub returns-then-passes_over-clause-first : goal.returns-then-passes_over-clause-first
returns-then-passes_over-clause-first c i low high =
    let p = c.args.protocol.now in
    let s : Sealed = record { cubes = c.self.inside.cubes; summaries = c.self.inside.summaries; all = c.self.inside.all; met = c.self.inside.met } in
    let serves : IsSealedFor p s = subst (λ (x : Sealed). IsSealedFor p x) (sym c.self.view_is) c.requires.serves in
    let below : i < length s.cubes = subst (λ (x : Sealed). i < length x.cubes) (sym c.self.view_is) high in
    subst (λ (x : Sealed). DoesCover p (cube_at x.cubes i) c.args.cube.now → ⊥) c.self.view_is
    (c.passes_over.ensures.none c.if-passes_over.true p (cube_at s.cubes i) c.args.cube.now (serves.joined i below) c.of-own.ensures.own (askable_at p s.cubes i serves.summed.askable below) c.requires.fit c.load_small-consistent.ensures.exact.0)

pub first_among-requires-clause-summed : goal.first_among-requires-clause-summed
first_among-requires-clause-summed c =
    let p = c.args.protocol.now in
    let s : Sealed = record { cubes = c.self.inside.cubes; summaries = c.self.inside.summaries; all = c.self.inside.all; met = c.self.inside.met } in
    let serves : IsSealedFor p s = subst (λ (x : Sealed). IsSealedFor p x) (sym c.self.view_is) c.requires.serves in
    let cubes = c.as_slice-cubes.result.now in
    summed_whole p cubes s.summaries (length cubes) (omega arith) (subst (λ (cs : List Cube). AreSummed p cs s.summaries) (sym c.as_slice-cubes.ensures) serves.summed)
