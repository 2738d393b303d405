use Rattle.std.proofs.Common.{refl, sym, subst}
use Rattle.cover_index.specs.Indexed.{Indexed, IsServing}
use Rattle.cover_index.proofs.Serving.{askable_in, met_in, more_met}
use Rattle.cover_index.proofs.index.IndexFinderScratch.under.Goals as goal

pub count_met-self-inside-requires-clause-askable : goal.count_met-self-inside-requires-clause-askable
count_met-self-inside-requires-clause-askable c =
    let s : Indexed = record { cubes = c.self.inside.store.cubes; retired = c.self.inside.retired.items; summaries = c.self.inside.store.summaries; groups = c.self.inside.groups.items; larger = c.self.inside.larger.items; met = c.self.inside.met } in
    askable_in c.args.protocol.now s (subst (λ (x : Indexed). IsServing c.args.protocol.now x) (sym c.self.view_is) c.requires.serves) s.cubes refl

pub count_met-self-inside-requires-clause-known : goal.count_met-self-inside-requires-clause-known
count_met-self-inside-requires-clause-known c =
    let s : Indexed = record { cubes = c.self.inside.store.cubes; retired = c.self.inside.retired.items; summaries = c.self.inside.store.summaries; groups = c.self.inside.groups.items; larger = c.self.inside.larger.items; met = c.self.inside.met } in
    met_in c.args.protocol.now s (subst (λ (x : Indexed). IsServing c.args.protocol.now x) (sym c.self.view_is) c.requires.serves) s.cubes refl s.met refl

pub returns-clause-serves : goal.returns-clause-serves
returns-clause-serves c =
    let s : Indexed = record { cubes = c.self.inside.store.cubes; retired = c.self.inside.retired.items; summaries = c.self.inside.store.summaries; groups = c.self.inside.groups.items; larger = c.self.inside.larger.items; met = c.self.inside.met } in
    more_met c.args.protocol.now s c.count_met-self-inside.result (subst (λ (x : Indexed). IsServing c.args.protocol.now x) (sym c.self.view_is) c.requires.serves)
    c.count_met-self-inside.ensures.known
