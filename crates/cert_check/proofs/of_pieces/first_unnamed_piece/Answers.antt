use Rattle.std.proofs.Common.{◌≡◌, ℕ, List, Option, Some, sym, subst, arith}
use Rattle.std.specs.Prelude.{MatchOption, slice_get}
use Rattle.cub_cube.specs.declared.cube.Cube.{Cube}
use Rattle.piece_choices.specs.declared.piece.Piece.{Piece}
use Rattle.piece_choices.specs.Pieces.{ArePieces}
use Rattle.cert_check.specs.First.{IsFirstWithout}
use Rattle.cert_check.specs.declared.keys.Key.{Key}
use Rattle.cert_check.specs.Obligations.{PieceNamed, IsOwed}
use Rattle.cert_check.proofs.Owing.{get_at, one_item, contains_get, hold_more, cubes_end}
use Rattle.cert_check.proofs.Walking.{get_inside, come_end}
use Rattle.cert_check.proofs.of_pieces.first_unnamed_piece.Goals as goal

pub returns-in-Some-clause-first : goal.returns-in-Some-clause-first
returns-in-Some-clause-first c = record {
  earlier = λ i m h. c.loop-k.invariant.hold i h m;
  here = subst (λ (o : Option ℕ). MatchOption o ((n : ℕ) → PieceNamed c.args.protocol.now c.args.cubes.now c.args.lines.now c.loop-k.k n) (λ n. IsFirstWithout (PieceNamed c.args.protocol.now c.args.cubes.now c.args.lines.now c.loop-k.k) n)) c.in-Some.is c.in_ok-found.ensures.first;
}

pub loop-k-preserved : goal.loop-k-preserved
loop-k-preserved c = record {
  made = c.unnamed_of.ensures.made;
  come = c.in_ok-found.ensures.come (cc);
  listed = hold_more (λ (j : ℕ). (d : Cube) → slice_get c.args.cubes.now j ≡ Some d → (xs : List Piece) × ArePieces c.args.protocol.now d xs) c.loop-k.k c.loop-k.invariant.listed
      (λ d e.
      let here : slice_get c.args.cubes.now c.loop-k.k ≡ Some c.index-cubes-k.result = get_at c.args.cubes.now c.loop-k.k c.index-cubes-k.result c.index-cubes-k.result (omega arith) (sym c.index-cubes-k.is) in
      subst (λ (z : Cube). (xs : List Piece) × ArePieces c.args.protocol.now z xs) (one_item c.args.cubes.now c.loop-k.k c.index-cubes-k.result d here e) c.in_ok-found.ensures.listed);
  hold = hold_more (λ (j : ℕ). (m : ℕ) → PieceNamed c.args.protocol.now c.args.cubes.now c.args.lines.now j m) c.loop-k.k c.loop-k.invariant.hold
      (subst (λ (o : Option ℕ). MatchOption o ((n : ℕ) → PieceNamed c.args.protocol.now c.args.cubes.now c.args.lines.now c.loop-k.k n) (λ n. IsFirstWithout (PieceNamed c.args.protocol.now c.args.cubes.now c.args.lines.now c.loop-k.k) n)) c.in-None.is c.in_ok-found.ensures.first);
}

pub returns-clause-first : goal.returns-clause-first
returns-clause-first c = (
  (λ j m x piece. let inside = get_inside c.args.cubes.now j piece.cube piece.its in c.loop-k.invariant.hold j (omega arith) m x piece),
  (λ d inside. let at = contains_get c.args.cubes.now d inside in let less = get_inside c.args.cubes.now at.0 d at.1 in c.loop-k.invariant.listed at.0 (omega arith) d at.1),
  come_end (IsOwed c.args.protocol.now c.args.cubes.now) c.args.lines.now (Key.Piece c.loop-k.k 0) c.loop-k.cursor c.loop-k.invariant.come (cubes_end c.args.protocol.now c.args.cubes.now c.loop-k.k (omega arith)),
)
