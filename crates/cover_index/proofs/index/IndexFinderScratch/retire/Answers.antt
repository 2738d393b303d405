use Rattle.std.proofs.Common.{◌≡◌, ◌<◌, length, sym, subst}
use Rattle.cub_cube.specs.Cover.{DoesCover}
use Rattle.log_form.specs.Links.{cube_at}
use Rattle.cover_index.specs.Indexed.{Indexed, IsServing}
use Rattle.cover_index.proofs.Serving.{retire_serves}
use Rattle.cover_index.proofs.index.IndexFinderScratch.retire.Goals as goal

pub returns-clause-serves : goal.returns-clause-serves
returns-clause-serves c =
    let s : Indexed = record { cubes = c.self.inside.store.cubes; retired = c.self.inside.retired.items; summaries = c.self.inside.store.summaries; groups = c.self.inside.groups.items; larger = c.self.inside.larger.items; met = c.self.inside.met } in
    let same : c.args.self.now ≡ s = sym c.self.view_is in
    retire_serves c.args._protocol.now s c.args.number c.args.by c.self.invariant.0
    (subst (λ (x : Indexed). IsServing c.args._protocol.now x) same c.requires.serves) c.requires.later
    (subst (λ (x : Indexed). c.args.by < length x.cubes) same c.requires.inside)
    (subst (λ (x : Indexed). DoesCover c.args._protocol.now (cube_at x.cubes c.args.by) (cube_at x.cubes c.args.number)) same c.requires.covers)
