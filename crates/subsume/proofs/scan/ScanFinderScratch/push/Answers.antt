use Rattle.std.proofs.Common.{◌≡◌, ◌++◌, ◌∷◌, [], ℕ, List, sym, subst}
use Rattle.cub_cube.specs.declared.cube.Cube.{Cube}
use Rattle.subsume.specs.Scanned.{Scanned, IsServing}
use Rattle.subsume.proofs.Retiring.{push_serves}
use Rattle.subsume.proofs.scan.ScanFinderScratch.push.Goals as goal

pub returns-in-Ok-push-clause-serves : goal.returns-in-Ok-push-clause-serves
returns-in-Ok-push-clause-serves c =
    let s : Scanned = record { cubes = c.self.inside.cubes; retired = c.self.inside.retired.items } in
    let same : c.args.self.now ≡ s = sym c.self.view_is in
    let pushed : c.push.new.self.items ≡ s.retired ++ 0 ∷ [] = c.in-Ok.ensures.items in
    let cubes : c.push-2.new.self ≡ s.cubes ++ c.args.cube ∷ [] = c.in-Ok-push.ensures.ok in
    subst (λ (rs : List ℕ). IsServing c.args._protocol.now (record { cubes = c.push-2.new.self; retired = rs })) (sym pushed)
    (subst (λ (cs : List Cube). IsServing c.args._protocol.now (record { cubes = cs; retired = s.retired ++ 0 ∷ [] })) (sym cubes)
    (push_serves c.args._protocol.now s c.args.cube c.self.invariant.0 (subst (λ (x : Scanned). IsServing c.args._protocol.now x) same c.requires.serves) c.requires.fit))
