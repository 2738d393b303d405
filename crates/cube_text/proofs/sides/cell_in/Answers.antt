use Rattle.std.proofs.Common.{◌≡◌, Some, ap, sym, ◌∙◌}
use Rattle.std.specs.Prelude.{option_and_then}
use Rattle.cube_text.specs.Form.{before}
use Rattle.cube_text.specs.Meaning.{behind_first, cell_at, declared_in, place_in}
use Rattle.cube_text.proofs.sides.cell_in.Goals as goal

pub returns : goal.returns
returns c =
    let place : place_in c.args.width (before 93 (behind_first c.args.index.now)) ≡ Some c.in_ok-place.place =
    ap (place_in c.args.width) (sym (c.before-2.ensures ∙ ap (before 93) c.behind_first.ensures)) ∙ sym c.in_ok-place.ensures in
    let array : declared_in c.args.protocol.now.arrays (before 91 c.args.word.now) ≡ Some c.in_ok-array.array =
    ap (declared_in c.args.protocol.now.arrays) (sym c.before-3.ensures)
    ∙ ap (λ decls. declared_in decls c.before-3.result.now) (sym c.as_slice.ensures) ∙ sym c.in_ok-array.ensures in
    sym (ap (option_and_then (cell_at (declared_in c.args.protocol.now.arrays (before 91 c.args.word.now)))) place
    ∙ ap (λ o. cell_at o c.in_ok-place.place) array)
