-- A refusal against the tests, and two refusals of the same certificate.
use Rattle.std.proofs.Common.{◌≡◌, ℕ, ◌<◌, ◌≤◌, List, Some, refl, ap, ◌∙◌, subst, sym, inl, inr, ◌⊎◌}
use Rattle.std.specs.Prelude.{◌≢◌, slice_get, Contains}
use Rattle.cub_proto.specs.declared.protocol.Protocol.{Protocol}
use Rattle.cub_proto.specs.declared.cover.CoverLine.{CoverLine}
use Rattle.cub_cube.specs.declared.cube.Cube.{Cube}
use Rattle.cub_cube.proofs.KeptLemmas.{kept_from}
use Rattle.piece_choices.specs.Pieces.{candidates, IsPossible}
use Rattle.piece_laws.specs.Test.{IsOfObligation, PassesTest, PassesLines}
use Rattle.cert_check.specs.declared.refused.Refused.{Refused}
use Rattle.cert_check.specs.declared.refused.Refused.TheVariants.{Start, Unsafe, Piece, Extra, Memory}
use Rattle.cert_check.specs.First.{IsFirstWithout, IsFirstPairWithout}
use Rattle.cert_check.specs.Keys.{key_of}
use Rattle.cert_check.specs.Obligations.{StartHolds, GoalCovered, PieceCovered, GoalNamed, PieceNamed, IsOwed, LineNeeded}
use Rattle.cert_check.specs.Refusal.{StartsHold, GoalsCovered, PiecesCovered, PiecesNamed, FailsFirst, FailsFirstOrExtra}
use Rattle.cert_check.proofs.Order.{three}
use Rattle.cert_check.proofs.Owing.{get_contains}
use Rattle.cert_check.proofs.Passing.{has_piece, is_piece_of}

-- ---- what passes has no refusal
module _ (p : Protocol) (cubes : List Cube) where
  test_starts : PassesTest p cubes → StartsHold p cubes
  test_starts passes k c at = passes.start c (get_contains cubes k c at)

  test_goals : PassesTest p cubes → GoalsCovered p cubes
  test_goals passes n g has = passes.goals g (get_contains p.goals n g has.0) has.1

  test_pieces : PassesTest p cubes → PiecesCovered p cubes
  test_pieces passes k n x piece =
      let kept = kept_from (IsPossible p) (candidates p piece.cube) piece.pieces x piece.all (get_contains piece.pieces n x piece.there) in
      passes.pieces piece.cube (get_contains cubes k piece.cube piece.its) x kept.0 kept.1

  pub no_test : (r : Refused) → r ≢ Memory → FailsFirst p cubes r → PassesTest p cubes → ⊥
  no_test (Start k) known first passes = first.fails (test_starts passes k)
  no_test (Unsafe n) known fails passes = let first = fails.1 in first.fails (test_goals passes n)
  no_test (Piece k n) known fails passes = let first = fails.2.here in first.fails (test_pieces passes k n)
  no_test (Extra l) known fails passes = fails
  no_test Memory known fails passes = known refl

  module _ (lines : List CoverLine) where
    lines_starts : PassesLines p cubes lines → StartsHold p cubes
    lines_starts passes k c at = passes.start c (get_contains cubes k c at)

    lines_pieces : PassesLines p cubes lines → PiecesNamed p cubes lines
    lines_pieces passes k n x piece = passes.covered k n x (has_piece p cubes passes.pieces passes.are_pieces k n x piece)

    lines_needed : PassesLines p cubes lines → (l : ℕ) → LineNeeded p cubes lines l
    lines_needed passes l line at = owed line (passes.needed line (get_contains lines l line at))
      where
        owed : (its : CoverLine) → IsOfObligation p passes.pieces its → IsOwed p cubes (key_of its)
        owed (CoverLine.Unsafe goal number places) own = own
        owed (CoverLine.Piece cube piece number places) own = (own.0, is_piece_of p cubes passes.pieces passes.are_pieces cube piece own.0 own.1)

    pub no_lines : (r : Refused) → r ≢ Memory → FailsFirstOrExtra p cubes lines r → PassesLines p cubes lines → ⊥
    no_lines (Start k) known first passes = first.fails (lines_starts passes k)
    no_lines (Unsafe n) known fails passes = let first = fails.1 in first.fails (passes.goals n)
    no_lines (Piece k n) known fails passes = let first = fails.2.here in first.fails (lines_pieces passes k n)
    no_lines (Extra l) known fails passes = let first = fails.3 in first.fails (lines_needed passes l)
    no_lines Memory known fails passes = known refl

-- ---- one refusal
first_one : (P : ℕ → Type 0) (n m : ℕ) → IsFirstWithout P n → IsFirstWithout P m → n ≡ m
first_one P n m a b = by (three n m)
  where
    by : (n < m) ⊎ ((n ≡ m) ⊎ (m < n)) → n ≡ m
    by (inl less) = absurd (a.fails (b.before n less))
    by (inr (inl same)) = same
    by (inr (inr more)) = absurd (b.fails (a.before m more))

pair_one : (P : ℕ → ℕ → Type 0) (j n k m : ℕ) → IsFirstPairWithout P j n → IsFirstPairWithout P k m → (j ≡ k) × (n ≡ m)
pair_one P j n k m a b = by (three j k)
  where
    inner : j ≡ k → IsFirstWithout (P k) n
    inner same = subst (λ i. IsFirstWithout (P i) n) same a.here

    by : (j < k) ⊎ ((j ≡ k) ⊎ (k < j)) → (j ≡ k) × (n ≡ m)
    by (inl less) = absurd (let first = a.here in first.fails (b.earlier j n less))
    by (inr (inl same)) = (same, first_one (P k) n m (inner same) b.here)
    by (inr (inr more)) = absurd (let first = b.here in first.fails (a.earlier k m more))

-- refusals over any four kinds of obligations, in their order
module _ (S G : ℕ → Type 0) (P : ℕ → ℕ → Type 0) (L : ℕ → Type 0) where
  abbrev Fails : Refused → Type 0
  Fails (Start k) = IsFirstWithout S k
  Fails (Unsafe n) = ((k : ℕ) → S k) × IsFirstWithout G n
  Fails (Piece k n) = ((i : ℕ) → S i) × ((i : ℕ) → G i) × IsFirstPairWithout P k n
  Fails (Extra l) = ((i : ℕ) → S i) × ((i : ℕ) → G i) × ((i j : ℕ) → P i j) × IsFirstWithout L l
  Fails Memory = Unit {0}

  one : (r q : Refused) → r ≢ Memory → q ≢ Memory → Fails r → Fails q → r ≡ q
  one (Start k) (Start m) known other a b = ap (λ z. Start z) (first_one S k m a b)
  one (Start k) (Unsafe m) known other a b = absurd (let first = a in first.fails (b.0 k))
  one (Start k) (Piece i m) known other a b = absurd (let first = a in first.fails (b.0 k))
  one (Start k) (Extra m) known other a b = absurd (let first = a in first.fails (b.0 k))
  one (Start k) Memory known other a b = absurd (other refl)
  one (Unsafe k) (Start m) known other a b = absurd (let first = b in first.fails (a.0 m))
  one (Unsafe k) (Unsafe m) known other a b = ap (λ z. Unsafe z) (first_one G k m a.1 b.1)
  one (Unsafe k) (Piece i m) known other a b = absurd (let first = a.1 in first.fails (b.1 k))
  one (Unsafe k) (Extra m) known other a b = absurd (let first = a.1 in first.fails (b.1 k))
  one (Unsafe k) Memory known other a b = absurd (other refl)
  one (Piece k n) (Start m) known other a b = absurd (let first = b in first.fails (a.0 m))
  one (Piece k n) (Unsafe m) known other a b = absurd (let first = b.1 in first.fails (a.1 m))
  one (Piece k n) (Piece i m) known other a b = (let same = pair_one P k n i m a.2 b.2 in ap (λ z. Piece z n) same.0 ∙ ap (λ z. Piece i z) same.1)
  one (Piece k n) (Extra m) known other a b = absurd (let first = a.2.here in first.fails (b.2 k n))
  one (Piece k n) Memory known other a b = absurd (other refl)
  one (Extra k) (Start m) known other a b = absurd (let first = b in first.fails (a.0 m))
  one (Extra k) (Unsafe m) known other a b = absurd (let first = b.1 in first.fails (a.1 m))
  one (Extra k) (Piece i m) known other a b = absurd (let first = b.2.here in first.fails (a.2 i m))
  one (Extra k) (Extra m) known other a b = ap (λ z. Extra z) (first_one L k m a.3 b.3)
  one (Extra k) Memory known other a b = absurd (other refl)
  one Memory q known other a b = absurd (known refl)

module _ (p : Protocol) (cubes : List Cube) where
  -- in version 1 no line is refused
  Never : ℕ → Type 0
  Never l = ⊥

  plain : (r : Refused) → FailsFirst p cubes r → Fails (StartHolds p cubes) (GoalCovered p cubes) (PieceCovered p cubes) Never r
  plain (Start k) fails = fails
  plain (Unsafe n) fails = fails
  plain (Piece k n) fails = fails
  plain (Extra l) fails = absurd fails
  plain Memory fails = fails

  pub one_refusal : (r q : Refused) → r ≢ Memory → q ≢ Memory → FailsFirst p cubes r → FailsFirst p cubes q → r ≡ q
  one_refusal r q known other a b = one (StartHolds p cubes) (GoalCovered p cubes) (PieceCovered p cubes) Never r q known other (plain r a) (plain q b)

  module _ (lines : List CoverLine) where
    lined : (r : Refused) → FailsFirstOrExtra p cubes lines r → Fails (StartHolds p cubes) (GoalNamed p cubes lines) (PieceNamed p cubes lines) (LineNeeded p cubes lines) r
    lined (Start k) fails = fails
    lined (Unsafe n) fails = fails
    lined (Piece k n) fails = fails
    lined (Extra l) fails = fails
    lined Memory fails = fails

    pub one_lined_refusal : (r q : Refused) → r ≢ Memory → q ≢ Memory → FailsFirstOrExtra p cubes lines r → FailsFirstOrExtra p cubes lines q → r ≡ q
    one_lined_refusal r q known other a b =
        one (StartHolds p cubes) (GoalNamed p cubes lines) (PieceNamed p cubes lines) (LineNeeded p cubes lines) r q known other (lined r a) (lined q b)
