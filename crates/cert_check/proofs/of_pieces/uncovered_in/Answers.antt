use Rattle.std.proofs.Common.{◌≡◌, ◌∙◌, Some, sym, subst, arith}
use Rattle.std.specs.Prelude.{slice_get}
use Rattle.std.proofs.lemmas.Bool.{true≢false}
use Rattle.cub_cube.specs.Cover.{IsCovered}
use Rattle.piece_choices.specs.declared.piece.Piece.{Piece}
use Rattle.cert_check.specs.Listed.{IsAskable, CoveredIn}
use Rattle.cert_check.proofs.Owing.{item_at, get_at, one_item, hold_more}
use Rattle.cert_check.proofs.Walking.{get_inside}
use Rattle.cert_check.proofs.of_pieces.uncovered_in.Goals as goal

pub piece_covered-requires-clause-askable : goal.piece_covered-requires-clause-askable
piece_covered-requires-clause-askable c = item_at (IsAskable c.args.protocol.now) c.args.list.now c.loop-n.n c.index-list-n.result c.requires.askable (omega arith) c.index-list-n.is

pub returns-then-not-piece_covered-clause-first : goal.returns-then-not-piece_covered-clause-first
returns-then-not-piece_covered-clause-first c = record {
  before = c.loop-n.invariant.hold;
  fails = λ covered.
      true≢false
      (sym (c.piece_covered.ensures.exact.1 (covered c.index-list-n.result (get_at c.args.list.now c.loop-n.n c.index-list-n.result c.index-list-n.result (omega arith) (sym c.index-list-n.is)))) ∙ c.if-not-piece_covered.true);
}

pub loop-n-preserved : goal.loop-n-preserved
loop-n-preserved c = record {
  made = c.piece_covered.ensures.made;
  hold = hold_more (CoveredIn c.args.protocol.now c.args.cubes.now c.args.list.now) c.loop-n.n c.loop-n.invariant.hold
      (λ x e.
      let here : slice_get c.args.list.now c.loop-n.n ≡ Some c.index-list-n.result = get_at c.args.list.now c.loop-n.n c.index-list-n.result c.index-list-n.result (omega arith) (sym c.index-list-n.is) in
      subst (λ (z : Piece). IsCovered c.args.protocol.now c.args.cubes.now z.cube) (one_item c.args.list.now c.loop-n.n c.index-list-n.result x here e) (c.piece_covered.ensures.exact.0 c.if-not-piece_covered.false));
}

pub returns-clause-first : goal.returns-clause-first
returns-clause-first c m x e = let inside = get_inside c.args.list.now m x e in c.loop-n.invariant.hold m (omega arith) x e
