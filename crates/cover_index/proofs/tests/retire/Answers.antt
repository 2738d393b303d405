use Rattle.std.proofs.Common.{◌≡◌, ◌∙◌, sym, ap, subst}
use Rattle.cub_cube.specs.declared.cube.Cube.{Cube}
use Rattle.cub_cube.specs.Cover.{DoesCover}
use Rattle.log_form.specs.Links.{cube_at}
use Rattle.cover_index.proofs.tests.retire.Goals as goal

pub retire-requires-clause-covers : goal.retire-requires-clause-covers
retire-requires-clause-covers g c =
    let found = c.in-Some.ensures.first in
    let p = c.args.protocol.now in
    let covers : DoesCover p (cube_at (g.F.Finder.list c.args.finder.now) c.in-Some.by) c.in_ok-cube.cube = (c.in-Some._places, found.2.covers) in
    let same : c.in_ok-cube.cube ≡ cube_at (g.F.Finder.list c.args.finder.now) c.args.number = c.in_ok-cube.ensures ∙ c.cube.ensures in
    let here = subst (λ (x : Cube). DoesCover p (cube_at (g.F.Finder.list c.args.finder.now) c.in-Some.by) x) same covers in
    subst (λ cs. DoesCover p (cube_at cs c.in-Some.by) (cube_at cs c.args.number)) (sym c.find.ensures.same) here
