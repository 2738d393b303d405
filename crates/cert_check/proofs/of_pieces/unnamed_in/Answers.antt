use Rattle.std.proofs.Common.{◌≡◌, ◌∙◌, ℕ, length, Some, sym, subst, arith}
use Rattle.std.specs.Prelude.{slice_get}
use Rattle.std.proofs.lemmas.Bool.{true≢false}
use Rattle.piece_choices.specs.declared.piece.Piece.{Piece}
use Rattle.cert_check.specs.declared.keys.Key.{Key}
use Rattle.cert_check.specs.Listed.{IsAskable, NamedIn}
use Rattle.cert_check.specs.Named.{IsNamed}
use Rattle.cert_check.specs.Obligations.{IsOwed}
use Rattle.cert_check.specs.Walked.{HasCome}
use Rattle.cert_check.proofs.Owing.{item_at, get_at, one_item, hold_more, is_piece}
use Rattle.cert_check.proofs.Walking.{get_inside}
use Rattle.cert_check.proofs.of_pieces.unnamed_in.Goals as goal

pub piece_named-requires-clause-askable : goal.piece_named-requires-clause-askable
piece_named-requires-clause-askable c = item_at (IsAskable c.args.protocol.now) c.args.list.now c.loop-n.n c.index-list-n.result c.requires.askable (omega arith) c.index-list-n.is

pub piece_named-requires-clause-owed : goal.piece_named-requires-clause-owed
piece_named-requires-clause-owed c = (
  c.index-list-n.result,
  is_piece c.args.protocol.now c.args.cubes.now c.args.k c.args.cube.now c.args.list.now c.requires.its c.requires.list c.loop-n.n c.index-list-n.result
      (get_at c.args.list.now c.loop-n.n c.index-list-n.result c.index-list-n.result (omega arith) (sym c.index-list-n.is)),
)

pub returns-then-not-piece_named-clause-first : goal.returns-then-not-piece_named-clause-first
returns-then-not-piece_named-clause-first c = record {
  before = c.loop-n.invariant.hold;
  fails = λ named.
      true≢false
      (sym (c.piece_named.ensures.exact.1 (named c.index-list-n.result (get_at c.args.list.now c.loop-n.n c.index-list-n.result c.index-list-n.result (omega arith) (sym c.index-list-n.is)))) ∙ c.if-not-piece_named.true);
}

pub loop-n-preserved : goal.loop-n-preserved
loop-n-preserved c = record {
  made = c.piece_named.ensures.made;
  come = c.piece_named.ensures.come;
  hold = hold_more (NamedIn c.args.protocol.now c.args.cubes.now c.args.lines.now c.args.k c.args.list.now) c.loop-n.n c.loop-n.invariant.hold
      (λ x e.
      let here : slice_get c.args.list.now c.loop-n.n ≡ Some c.index-list-n.result = get_at c.args.list.now c.loop-n.n c.index-list-n.result c.index-list-n.result (omega arith) (sym c.index-list-n.is) in
      subst (λ (z : Piece). IsNamed c.args.protocol.now c.args.cubes.now c.args.lines.now (Key.Piece c.args.k c.loop-n.n) z.cube) (one_item c.args.list.now c.loop-n.n c.index-list-n.result x here e) (c.piece_named.ensures.exact.0 c.if-not-piece_named.false));
}

pub returns-clause-come : goal.returns-clause-come
returns-clause-come c e =
    let end : c.loop-n.n ≡ length c.args.list.now = omega (arith, c.loop-n.auto.n-end, c.loop-n-test.false) in
    subst (λ (n : ℕ). HasCome (IsOwed c.args.protocol.now c.args.cubes.now) c.args.lines.now (Key.Piece c.args.k n) c.loop-n.cursor) end c.loop-n.invariant.come

pub returns-clause-first : goal.returns-clause-first
returns-clause-first c m x e = let inside = get_inside c.args.list.now m x e in c.loop-n.invariant.hold m (omega arith) x e
