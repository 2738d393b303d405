use Rattle.std.proofs.Common.{◌≡◌, ◌≤◌, ◌∙◌, ℕ, List, length, take, map, sym, ap, subst, arith}
use Rattle.std.proofs.lemmas.List.{with_items_is}
use Rattle.cub_cube.specs.declared.cube.Cube.{Cube}
use Rattle.subsume.specs.declared.summary.Summary.{Summary}
use Rattle.subsume.proofs.Retiring.{kept_by}
use Rattle.cover_index.specs.Indexed.{Indexed, IsServing}
use Rattle.cover_index.specs.Stored.{Stored}
use Rattle.cover_index.proofs.Serving.{cut_serves}
use Rattle.cover_index.proofs.index.IndexFinderScratch.cut.Goals as goal

pub returns-clause-serves : goal.returns-clause-serves
returns-clause-serves c p serves =
    let s : Indexed = record { cubes = c.self.inside.store.cubes; retired = c.self.inside.retired.items; summaries = c.self.inside.store.summaries; groups = c.self.inside.groups.items; larger = c.self.inside.larger.items; met = c.self.inside.met } in
    let same : c.args.self.now ≡ s = sym c.self.view_is in
    let count = c.args.count in
    let g = c.groups_of.result in
    let l = c.groups_of-2.result in
    let met = c.min-self-inside.result in
    let few : count ≤ length s.cubes = subst (λ (x : Indexed). count ≤ length x.cubes) same c.requires in
    let start : c.deref_mut.result.now ≡ take count s.retired = c.deref_mut.ensures.value ∙ c.truncate-3.ensures.items in
    let mapped : c.revive.new.retired ≡ map (kept_by count) (take count s.retired) = c.revive.ensures ∙ ap (λ (xs : List ℕ). map (kept_by count) xs) start in
    let sized : length c.revive.new.retired ≡ c.truncate-3.new.self.len = c.revive.auto.retired ∙ c.deref_mut.ensures.len in
    let stored = with_items_is c.truncate-3.new.self c.revive.new.retired sized ∙ mapped in
    let fewer : met ≤ s.met = omega arith in
    let cubes : List Cube = take count s.cubes in
    let retired : List ℕ = map (kept_by count) (take count s.retired) in
    let summaries : List Summary = take count s.summaries in
    let groups : List Summary = take g s.groups in
    subst (λ (rs : List ℕ). IsServing p (record { cubes = c.cut.new.self.cubes; retired = rs; summaries = c.cut.new.self.summaries; groups = c.truncate.new.self.items; larger = c.truncate-2.new.self.items; met = met })) (sym stored)
    (subst (λ (x : Stored). IsServing p (record { cubes = x.cubes; retired = retired; summaries = x.summaries; groups = c.truncate.new.self.items; larger = c.truncate-2.new.self.items; met = met })) (sym c.cut.ensures)
    (subst (λ (ss : List Summary). IsServing p (record { cubes = cubes; retired = retired; summaries = summaries; groups = ss; larger = c.truncate-2.new.self.items; met = met })) (sym c.truncate.ensures.items)
    (subst (λ (ss : List Summary). IsServing p (record { cubes = cubes; retired = retired; summaries = summaries; groups = groups; larger = ss; met = met })) (sym c.truncate-2.ensures.items)
    (cut_serves p s count g l met c.self.invariant.0 few c.groups_of.ensures.room c.groups_of-2.ensures.room fewer (subst (λ (x : Indexed). IsServing p x) same serves)))))
