use Rattle.std.proofs.Common.{sym, subst, ◌∙◌}
use Rattle.piece_choices.specs.declared.piece.Piece.{Piece}
use Rattle.cover_lines.specs.Obligations.{OfPiece}
use Rattle.cover_lines.specs.Added.{AddsLine}
use Rattle.cover_lines.proofs.AddLemmas.{pieces_more}
use Rattle.cover_lines.proofs.walking.push_lines_of.Goals as goal

pub loop-number-preserved : goal.loop-number-preserved
loop-number-preserved g c =
    let p = c.args.protocol.now in
    let cubes = g.F.Finder.list c.args.finder.now in
    let invariant = c.loop-number.invariant in
    let called = c.push_piece_line.ensures in
    let x = c.index-list-number.result in
    record {
      made = called.made;
      serves = called.serves;
      same = called.same ∙ invariant.same;
      lines = pieces_more p cubes c.args.of c.loop-number.number c.args.list.now x c.args.lines.now c.loop-number.lines c.push_piece_line.new.lines c.loop-number-test.true c.index-list-number.is invariant.lines
          (subst (λ cs. AddsLine p cs (OfPiece c.args.of c.loop-number.number x.cube) c.loop-number.lines c.push_piece_line.new.lines) invariant.same
          (subst (λ (y : Piece). AddsLine p (g.F.Finder.list c.loop-number.finder) (OfPiece c.args.of c.loop-number.number y.cube) c.loop-number.lines c.push_piece_line.new.lines) (sym c.index-list-number.is) c.in_ok-push_piece_line.ensures.line));
    }
