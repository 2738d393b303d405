use Rattle.std.proofs.Common.{◌∙◌, List, sym, ap, subst}
use Rattle.std.specs.Prelude.{All}
use Rattle.cub_cube.specs.declared.cube.Cube.{Cube}
use Rattle.log_form.specs.Pieces.{IsAskable}
use Rattle.subsume.specs.Scanned.{Scanned}
use Rattle.subsume.proofs.scan.ScanFinderScratch.find.Goals as goal

pub first_cover-requires-clause-askable : goal.first_cover-requires-clause-askable
first_cover-requires-clause-askable c =
    subst (λ (xs : List Cube). All (IsAskable c.args.protocol.now) xs) (sym (c.as_slice.ensures ∙ ap (λ (s : Scanned). s.cubes) c.self.view_is)) c.requires.serves.askable
