use Rattle.std.proofs.Common.{◌≡◌, ◌<◌, ◌≤◌, List, length, sym, subst, arith}
use Rattle.std.proofs.lemmas.Bool.{leb-true}
use Rattle.cub_cube.specs.declared.cube.Cube.{Cube}
use Rattle.cub_cube.specs.Cover.{DoesCover}
use Rattle.log_form.specs.Links.{cube_at}
use Rattle.cover_index.specs.Asked.{AreSummed, AreMet}
use Rattle.cover_index.specs.Sealed.{Sealed, IsSealedFor}
use Rattle.cover_index.proofs.Searching.{askable_at}
use Rattle.cover_index.proofs.Parting.{summed_whole}
use Rattle.cover_index.proofs.segment.Segment.under.Goals as goal

pub returns-then-passes_over-clause-first : goal.returns-then-passes_over-clause-first
returns-then-passes_over-clause-first c i low high =
    let p = c.args.protocol.now in
    let s : Sealed = record { cubes = c.self.inside.cubes; summaries = c.self.inside.summaries; all = c.self.inside.all; met = c.self.inside.met } in
    let serves : IsSealedFor p s = subst (λ (x : Sealed). IsSealedFor p x) (sym c.self.view_is) c.requires.serves in
    let below : i < length s.cubes = subst (λ (x : Sealed). i < length x.cubes) (sym c.self.view_is) high in
    let size : length c.as_slice-cubes.result.now ≡ length s.cubes = subst (λ (cs : List Cube). length c.as_slice-cubes.result.now ≡ length cs) c.as_slice-cubes.ensures (omega arith) in
    subst (λ (x : Sealed). DoesCover p c.args.cube.now (cube_at x.cubes i) → ⊥) c.self.view_is
    (c.passes_over.ensures.none c.if-passes_over.true p c.args.cube.now (cube_at s.cubes i) c.of-own.ensures.own (serves.joined i below) c.requires.fit (askable_at p s.cubes i serves.summed.askable below)
    (λ h. let all : length c.as_slice-cubes.result.now ≤ s.met = leb-true _ _ h in serves.first_met i (omega (arith, all, size, below)) below))

pub first_among-requires-clause-summed : goal.first_among-requires-clause-summed
first_among-requires-clause-summed c =
    let p = c.args.protocol.now in
    let s : Sealed = record { cubes = c.self.inside.cubes; summaries = c.self.inside.summaries; all = c.self.inside.all; met = c.self.inside.met } in
    let serves : IsSealedFor p s = subst (λ (x : Sealed). IsSealedFor p x) (sym c.self.view_is) c.requires.serves in
    let cubes = c.as_slice-cubes.result.now in
    summed_whole p cubes s.summaries (length cubes) (omega arith) (subst (λ (cs : List Cube). AreSummed p cs s.summaries) (sym c.as_slice-cubes.ensures) serves.summed)

pub first_among-requires-clause-met : goal.first_among-requires-clause-met
first_among-requires-clause-met c =
    let p = c.args.protocol.now in
    let s : Sealed = record { cubes = c.self.inside.cubes; summaries = c.self.inside.summaries; all = c.self.inside.all; met = c.self.inside.met } in
    let serves : IsSealedFor p s = subst (λ (x : Sealed). IsSealedFor p x) (sym c.self.view_is) c.requires.serves in
    subst (λ (cs : List Cube). AreMet p cs s.met) (sym c.as_slice-cubes.ensures) serves.first_met
