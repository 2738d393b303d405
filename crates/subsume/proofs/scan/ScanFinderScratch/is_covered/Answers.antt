use Rattle.std.proofs.Common.{◌∙◌, List, ℕ, sym, ap, subst}
use Rattle.std.specs.Prelude.{All}
use Rattle.cub_cube.specs.declared.cube.Cube.{Cube}
use Rattle.log_form.specs.Pieces.{IsAskable}
use Rattle.subsume.specs.Scanned.{Scanned, AreRetired}
use Rattle.subsume.proofs.scan.ScanFinderScratch.is_covered.Goals as goal

pub some_cover-requires-clause-askable : goal.some_cover-requires-clause-askable
some_cover-requires-clause-askable c =
    subst (λ (xs : List Cube). All (IsAskable c.args.protocol.now) xs) (sym (c.as_slice.ensures ∙ ap (λ (s : Scanned). s.cubes) c.self.view_is)) c.requires.serves.askable

pub some_cover-requires-clause-covered : goal.some_cover-requires-clause-covered
some_cover-requires-clause-covered c =
    subst (λ (xs : List Cube). AreRetired c.args.protocol.now xs c.as_slice-2.result.now) (sym (c.as_slice.ensures ∙ ap (λ (s : Scanned). s.cubes) c.self.view_is))
    (subst (λ (rs : List ℕ). AreRetired c.args.protocol.now c.args.self.now.cubes rs) (sym (c.as_slice-2.ensures.value ∙ ap (λ (s : Scanned). s.retired) c.self.view_is)) c.requires.serves.covered)
