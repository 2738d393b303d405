use Rattle.std.proofs.Common.{◌≡◌, ◌≤◌, ◌∙◌, ℕ, List, length, take, map, sym, ap, subst}
use Rattle.std.proofs.lemmas.List.{with_items_is}
use Rattle.cub_cube.specs.declared.cube.Cube.{Cube}
use Rattle.subsume.specs.Scanned.{Scanned, IsServing}
use Rattle.subsume.proofs.Retiring.{cut_serves, kept_by}
use Rattle.subsume.proofs.scan.ScanFinderScratch.cut.Goals as goal

pub returns-clause-serves : goal.returns-clause-serves
returns-clause-serves c p serves =
    let s : Scanned = record { cubes = c.self.inside.cubes; retired = c.self.inside.retired.items } in
    let same : c.args.self.now ≡ s = sym c.self.view_is in
    let few : c.args.count ≤ length s.cubes = subst (λ (x : Scanned). c.args.count ≤ length x.cubes) same c.requires in
    let start : c.deref_mut.result.now ≡ take c.args.count s.retired = c.deref_mut.ensures.value ∙ c.truncate-2.ensures.items in
    let mapped : c.revive.new.retired ≡ map (kept_by c.args.count) (take c.args.count s.retired) = c.revive.ensures ∙ ap (λ (xs : List ℕ). map (kept_by c.args.count) xs) start in
    let sized : length c.revive.new.retired ≡ c.truncate-2.new.self.len = c.revive.auto.retired ∙ c.deref_mut.ensures.len in
    let stored = with_items_is c.truncate-2.new.self c.revive.new.retired sized ∙ mapped in
    subst (λ (rs : List ℕ). IsServing p (record { cubes = c.truncate.new.self; retired = rs })) (sym stored)
    (subst (λ (cs : List Cube). IsServing p (record { cubes = cs; retired = map (kept_by c.args.count) (take c.args.count s.retired) })) (sym c.truncate.ensures)
    (cut_serves p s c.args.count c.self.invariant.0 few (subst (λ (x : Scanned). IsServing p x) same serves)))
