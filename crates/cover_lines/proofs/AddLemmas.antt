-- Lines that are appended one after the other.
use Rattle.std.proofs.Common.{◌≡◌, ℕ, ◌+◌, ◌<◌, ◌^◌, List, [], ◌∷◌, ◌++◌, map, length, get_or, take, refl, sym, ap, ◌∙◌, subst, arith, inl, inr, append_assoc, All, zero-add}
use Rattle.std.specs.List.{AllZip, flat_map}
use Rattle.std.proofs.lemmas.List.{take_more, map_push, length-take-le}
use Rattle.std.proofs.lemmas.List.Elements.{All-push}
use Rattle.cub_base.specs.Numbered.{map_from}
use Rattle.cub_proto.specs.declared.cover.CoverLine.{CoverLine}
use Rattle.cub_proto.specs.declared.protocol.Goal.{Goal}
use Rattle.cub_proto.specs.declared.protocol.Protocol.{Protocol}
use Rattle.cub_cube.specs.declared.cube.Cube.{Cube}
use Rattle.cub_cube.specs.Goals.{goal_cube}
use Rattle.piece_choices.specs.declared.piece.Piece.{Piece}
use Rattle.piece_choices.specs.Pieces.{ArePieces}
use Rattle.log_form.specs.Numbering.{with_number}
use Rattle.log_steps.proofs.RootLemmas.{root_kept, root_dropped}
use Rattle.log_form.specs.Links.{cube_at, no_cube}
use Rattle.cover_lines.specs.Obligations.{Obligation, OfGoal, OfPiece, goal_obligation, piece_obligation, piece_obligations, all_piece_obligations, obligations}
use Rattle.cover_lines.specs.Lines.{IsLineOf, AreCoverLines}
use Rattle.cover_lines.specs.Added.{AddsLines, AddsLine, AddsGoalLine, AddsGoalLines, AddsCubeLines, AddsPieceLines}
use Rattle.cover_lines.proofs.ZipLemmas.{zip_append, zip_length, map_from_push, flat_push}

module _ (p : Protocol) (cubes : List Cube) where
  pub adds_none : (lines : List CoverLine) → AddsLines p cubes [] lines lines
  adds_none lines = record { own = []; are = tt; added = no_end lines }
    where
      no_end : (ys : List CoverLine) → ys ≡ ys ++ []
      no_end [] = refl
      no_end (y ∷ ys) = ap (λ zs. y ∷ zs) (no_end ys)

  pub adds_more : (xs ys : List Obligation) (old mid new : List CoverLine) → AddsLines p cubes xs old mid → AddsLines p cubes ys mid new → AddsLines p cubes (xs ++ ys) old new
  adds_more xs ys old mid new a b = record {
    own = a.own ++ b.own;
    are = zip_append (IsLineOf p cubes) xs ys a.own b.own a.are b.are;
    added = b.added ∙ ap (λ ls. ls ++ b.own) a.added ∙ append_assoc old a.own b.own;
  }

  pub adds_one : (o : Obligation) (line : CoverLine) (old new : List CoverLine) → IsLineOf p cubes o line → new ≡ old ++ line ∷ [] → AddsLine p cubes o old new
  adds_one o line old new h e = record { own = line ∷ []; are = (h, tt); added = e }

  -- ---- goals
  pub no_goals : (lines : List CoverLine) → AddsGoalLines p cubes [] lines lines
  no_goals lines = record { roots = []; are = refl; lines = adds_none lines }

  pub goals_more : (i : ℕ) (g : Goal) (old mid new : List CoverLine) → i < length p.goals → g ≡ get_or p.goals i g
      → AddsGoalLines p cubes (take i p.goals) old mid → AddsGoalLine p cubes i g mid new → AddsGoalLines p cubes (take (i + 1) p.goals) old new
  goals_more i g old mid new below is sofar (inl (possible, line)) = record {
    roots = sofar.roots ++ with_number i (goal_cube p g) ∷ [];
    are = root_kept p i i g (goal_cube p g) sofar.roots (sofar.roots ++ with_number i (goal_cube p g) ∷ []) below is refl refl possible refl sofar.are;
    lines = subst (λ os. AddsLines p cubes os old new) (sym (map_push goal_obligation sofar.roots (with_number i (goal_cube p g))))
        (adds_more (map goal_obligation sofar.roots) (OfGoal i (goal_cube p g) ∷ []) old mid new sofar.lines line);
  }
  goals_more i g old mid new below is sofar (inr (impossible, same)) = record {
    roots = sofar.roots;
    are = root_dropped p i i g (goal_cube p g) sofar.roots below is refl refl impossible sofar.are;
    lines = subst (AddsLines p cubes (map goal_obligation sofar.roots) old) (sym same) sofar.lines;
  }

  -- ---- pieces of a cube
  pub pieces_more : (of i : ℕ) (pieces : List Piece) (x : Piece) (old mid new : List CoverLine) → i < length pieces → x ≡ get_or pieces i x
      → AddsLines p cubes (piece_obligations of (take i pieces)) old mid → AddsLine p cubes (OfPiece of i x.cube) mid new → AddsLines p cubes (piece_obligations of (take (i + 1) pieces)) old new
  pieces_more of i pieces x old mid new below is sofar line =
      let taken : i ≡ 0 + length (take i pieces) = sym (length-take-le i pieces (omega arith)) ∙ sym (zero-add (length (take i pieces))) in
      let longer : piece_obligations of (take i pieces) ++ OfPiece of i x.cube ∷ [] ≡ piece_obligations of (take (i + 1) pieces) =
      sym (map_from_push (piece_obligation of) 0 i (take i pieces) x taken)
      ∙ ap (piece_obligations of) (ap (λ y. take i pieces ++ y ∷ []) is ∙ sym (take_more pieces i x below)) in
      subst (λ os. AddsLines p cubes os old new) longer (adds_more (piece_obligations of (take i pieces)) (OfPiece of i x.cube ∷ []) old mid new sofar line)

  -- ---- pieces of all cubes
  pub no_cubes : (lines : List CoverLine) → AddsPieceLines p cubes [] lines lines
  no_cubes lines = record { pieces = []; are = tt; few = λ k d below. absurd (omega arith); lines = adds_none lines }

  pub cubes_more : (of : ℕ) (old mid new : List CoverLine) → of < length cubes
      → AddsPieceLines p cubes (take of cubes) old mid → AddsCubeLines p cubes of mid new → AddsPieceLines p cubes (take (of + 1) cubes) old new
  cubes_more of old mid new below sofar more =
      let c = cube_at cubes of in
      let taken : of ≡ 0 + length sofar.pieces = sym (length-take-le of cubes (omega arith)) ∙ zip_length (ArePieces p) (take of cubes) sofar.pieces sofar.are ∙ sym (zero-add (length sofar.pieces)) in
      let longer : all_piece_obligations sofar.pieces ++ piece_obligations of more.pieces ≡ all_piece_obligations (sofar.pieces ++ more.pieces ∷ []) =
      sym (flat_push (map_from piece_obligations 0 sofar.pieces) (piece_obligations of more.pieces))
      ∙ ap (flat_map (λ xs. xs)) (sym (map_from_push piece_obligations 0 of sofar.pieces more.pieces taken)) in
      record {
        pieces = sofar.pieces ++ more.pieces ∷ [];
        are = subst (λ cs. AllZip (ArePieces p) cs (sofar.pieces ++ more.pieces ∷ [])) (sym (take_more cubes of no_cube below))
            (zip_append (ArePieces p) (take of cubes) (c ∷ []) sofar.pieces (more.pieces ∷ []) sofar.are (more.are, tt));
        few = All-push (λ (xs : List Piece). length xs < 2 ^ 64) sofar.pieces more.pieces sofar.few more.few;
        lines = subst (λ os. AddsLines p cubes os old new) longer (adds_more (all_piece_obligations sofar.pieces) (piece_obligations of more.pieces) old mid new sofar.lines more.lines);
      }

-- all lines
pub record AreAll (p : Protocol) (cubes : List Cube) (lines : List CoverLine) : Type 0 where
  pub cover : AreCoverLines p cubes lines
  pub few : All (λ xs. length xs < 2 ^ 64) cover.pieces

pub all_lines : (p : Protocol) (cubes a b : List Cube) (start mid new : List CoverLine) → start ≡ [] → a ≡ cubes → b ≡ cubes
    → AddsGoalLines p a p.goals start mid → AddsPieceLines p b b mid new → AreAll p cubes new
all_lines p cubes a b start mid new none same also h k =
    let goals = subst (λ cs. AddsGoalLines p cs p.goals [] mid) same (subst (λ ls. AddsGoalLines p a p.goals ls mid) none h) in
    let pieces = subst (λ cs. AddsPieceLines p cs cs mid new) also k in
    let both = adds_more p cubes (map goal_obligation goals.roots) (all_piece_obligations pieces.pieces) [] mid new goals.lines pieces.lines in
    record {
      cover = record {
        roots = goals.roots;
        are_roots = goals.are;
        pieces = pieces.pieces;
        are_pieces = pieces.are;
        one_each = subst (AllZip (IsLineOf p cubes) (obligations goals.roots pieces.pieces)) (sym both.added) both.are;
      };
      few = pieces.few;
    }
