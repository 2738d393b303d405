-- The lines of the obligations pass the test of a certificate with cover lines.
use Rattle.std.proofs.Common.{◌⊎◌, ℕ, List, sym, subst, inl, inr}
use Rattle.std.specs.Prelude.{Contains, map}
use Rattle.std.proofs.lemmas.Option.{slice_get-get_or}
use Rattle.cub_base.proofs.Members.{Has, has_Contains, contains_Has, has_left, has_right, has_cases, map_has}
use Rattle.cub_proto.specs.declared.cover.CoverLine.{CoverLine}
use Rattle.cub_proto.specs.declared.protocol.Goal.{Goal}
use Rattle.cub_proto.specs.declared.protocol.Protocol.{Protocol}
use Rattle.cub_cube.specs.declared.cube.Cube.{Cube}
use Rattle.cub_cube.specs.Goals.{goal_cube}
use Rattle.cub_cube.specs.Meaning.{IsConsistent}
use Rattle.piece_choices.specs.declared.piece.Piece.{Piece}
use Rattle.piece_laws.specs.Test.{PassesTest, PassesLines, CoversAt, HasGoal, HasPiece, IsOfObligation}
use Rattle.log_form.specs.Links.{cube_at, no_cube}
use Rattle.log_form.proofs.Rooted.{root_is}
use Rattle.cover_lines.specs.Obligations.{Obligation, OfGoal, OfPiece, goal_obligation, all_piece_obligations, obligations}
use Rattle.cover_lines.specs.Lines.{IsFirstOf, IsLineOf, AreCoverLines}
use Rattle.cover_lines.proofs.ZipLemmas.{zip_has_left, zip_has_right, get_has}
use Rattle.cover_lines.proofs.ObligationLemmas.{piece_is, has_piece, goal_possible, possible_goal, has_goal}

module _ (p : Protocol) (cubes : List Cube) where
  covers_at : (c : Cube) (by : ℕ) (places : List ℕ) → IsFirstOf p cubes c by places → CoversAt p cubes by c places
  covers_at c by places (low, high, least, none) = (cube_at cubes by, slice_get-get_or cubes by no_cube high, least.covers)

  goal_line : (lines : List CoverLine) (n : ℕ) (c : Cube) (line : CoverLine) → IsLineOf p cubes (OfGoal n c) line → Contains lines line
      → (by : ℕ) × (places : List ℕ) × Contains lines (CoverLine.Unsafe n by places) × CoversAt p cubes by c places
  goal_line lines n c (CoverLine.Piece cube piece by places) h among = absurd h
  goal_line lines n c (CoverLine.Unsafe goal by places) (is, first) among =
      (by, places, subst (λ m. Contains lines (CoverLine.Unsafe m by places)) is among, covers_at c by places first)

  piece_line : (lines : List CoverLine) (k n : ℕ) (c : Cube) (line : CoverLine) → IsLineOf p cubes (OfPiece k n c) line → Contains lines line
      → (by : ℕ) × (places : List ℕ) × Contains lines (CoverLine.Piece k n by places) × CoversAt p cubes by c places
  piece_line lines k n c (CoverLine.Unsafe goal by places) h among = absurd h
  piece_line lines k n c (CoverLine.Piece cube piece by places) (is, at, first) among =
      (by, places, subst (λ m. Contains lines (CoverLine.Piece k m by places)) at (subst (λ m. Contains lines (CoverLine.Piece m piece by places)) is among), covers_at c by places first)

  -- the line of an obligation is of that obligation
  of_goal : (pieces : List (List Piece)) (n : ℕ) (g : Goal) (c : Cube) (line : CoverLine) → HasGoal p n g → IsLineOf p cubes (OfGoal n c) line → IsOfObligation p pieces line
  of_goal pieces n g c (CoverLine.Piece cube piece by places) has h = absurd h
  of_goal pieces n g c (CoverLine.Unsafe goal by places) has (is, first) = (g, subst (λ m. HasGoal p m g) (sym is) has)

  of_piece : (pieces : List (List Piece)) (k n : ℕ) (x : Piece) (line : CoverLine) → HasPiece pieces k n x → IsLineOf p cubes (OfPiece k n x.cube) line → IsOfObligation p pieces line
  of_piece pieces k n x (CoverLine.Unsafe goal by places) has h = absurd h
  of_piece pieces k n x (CoverLine.Piece cube piece by places) has (is, at, first) =
      (x, subst (λ m. HasPiece pieces m piece x) (sym is) (subst (λ m. HasPiece pieces k m x) (sym at) has))

  pub pass_lines : (lines : List CoverLine) → PassesTest p cubes → AreCoverLines p cubes lines → PassesLines p cubes lines
  pass_lines lines passes cover = record {
    start = passes.start;
    goals = λ n g has.
        let (at, possible) = has in
        let inside = has_Contains p.goals g (get_has p.goals n g at) in
        let o = OfGoal n (goal_cube p g) in
        let (line, among, is) = zip_has_left (IsLineOf p cubes) all lines o cover.one_each
        (has_left (map goal_obligation cover.roots) (all_piece_obligations cover.pieces) o (has_goal p cover.roots n g cover.are_roots at (possible_goal p g inside possible))) in
        goal_line lines n (goal_cube p g) line is (has_Contains lines line among);
    pieces = cover.pieces;
    are_pieces = cover.are_pieces;
    covered = λ k n x has.
        let o = OfPiece k n x.cube in
        let (line, among, is) = zip_has_left (IsLineOf p cubes) all lines o cover.one_each
        (has_right (map goal_obligation cover.roots) (all_piece_obligations cover.pieces) o (has_piece cover.pieces k n has.0 x has.1 has.2)) in
        piece_line lines k n x.cube line is (has_Contains lines line among);
    needed = λ line inside.
        let (o, among, is) = zip_has_right (IsLineOf p cubes) all lines line cover.one_each (contains_Has lines line inside) in
        of_one o line is (has_cases (map goal_obligation cover.roots) (all_piece_obligations cover.pieces) o among);
  }
    where
      all : List Obligation
      all = obligations cover.roots cover.pieces

      of_one : (o : Obligation) (line : CoverLine) → IsLineOf p cubes o line → Has (map goal_obligation cover.roots) o ⊎ Has (all_piece_obligations cover.pieces) o → IsOfObligation p cover.pieces line
      of_one o line is (inl here) =
          let (r, among, same) = map_has goal_obligation cover.roots o here in
          let root = root_is p cover.roots r cover.are_roots (has_Contains cover.roots r among) in
          let inside = has_Contains p.goals root.goal (get_has p.goals r.number root.goal root.is_there) in
          of_goal cover.pieces r.number root.goal r.cube line
          (root.is_there, goal_possible p root.goal inside (subst (λ (c : Cube). IsConsistent p c.width c.lits) root.is root.possible))
          (subst (λ q. IsLineOf p cubes q line) (sym same) is)
      of_one o line is (inr later) =
          let of = piece_is cover.pieces o later in
          of_piece cover.pieces of.of of.number of.piece line (of.list, of.its_list, of.its) (subst (λ q. IsLineOf p cubes q line) (sym of.is) is)
