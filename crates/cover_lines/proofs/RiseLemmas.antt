-- Lines of obligations rise.
use Rattle.std.proofs.Common.{true, ◌≡◌, ◌⊎◌, ℕ, ◌+◌, ◌<◌, ◌≤◌, List, [], ◌∷◌, ◌++◌, refl, sym, ◌∙◌, subst, arith, inl, inr}
use Rattle.std.specs.Prelude.{Option, Some, None, IsTrue, ◌&&◌, ◌==◌, nat_lt, map}
use Rattle.std.specs.List.{AllZip, flat_map}
use Rattle.cub_base.specs.Numbered.{map_from}
use Rattle.cub_base.proofs.Bools.{and_both, or_intro_left, or_intro_right, is_less, same_refl}
use Rattle.cub_proto.specs.declared.cover.CoverLine.{CoverLine}
use Rattle.cub_proto.specs.declared.protocol.Protocol.{Protocol}
use Rattle.cub_cube.specs.declared.cube.Cube.{Cube}
use Rattle.cub_cube.specs.Kept.{Keeps}
use Rattle.piece_choices.specs.declared.piece.Piece.{Piece}
use Rattle.log_form.specs.declared.numbered.Numbered.{Numbered}
use Rattle.log_form.specs.Numbering.{with_number}
use Rattle.cert_text.specs.Lawful.{comes_after, lines_rise}
use Rattle.cover_lines.specs.Obligations.{OfGoal, goal_obligation, piece_obligation, piece_obligations, all_piece_obligations, obligations}
use Rattle.cover_lines.specs.Lines.{IsLineOf}
use Rattle.cover_lines.proofs.ZipLemmas.{zip_split}

-- the last line is on a goal before that number, if there is one
abbrev IsBeforeGoal : ℕ → Option CoverLine → Type 0
IsBeforeGoal n None = Unit {0}
IsBeforeGoal n (Some (CoverLine.Unsafe goal by places)) = goal < n
IsBeforeGoal n (Some (CoverLine.Piece cube piece by places)) = ⊥

-- it is on a goal, or on a piece of an earlier cube, or on an earlier piece of this cube
abbrev IsBeforePiece : ℕ → ℕ → Option CoverLine → Type 0
IsBeforePiece of n None = Unit {0}
IsBeforePiece of n (Some (CoverLine.Unsafe goal by places)) = Unit {0}
IsBeforePiece of n (Some (CoverLine.Piece cube piece by places)) = (cube < of) ⊎ ((cube ≡ of) × (piece < n))

goal_later : (n m : ℕ) (last : Option CoverLine) → n ≤ m → IsBeforeGoal n last → IsBeforeGoal m last
goal_later n m None le h = tt
goal_later n m (Some (CoverLine.Unsafe goal by places)) le h = omega arith
goal_later n m (Some (CoverLine.Piece cube piece by places)) le h = absurd h

goal_piece : (n of m : ℕ) (last : Option CoverLine) → IsBeforeGoal n last → IsBeforePiece of m last
goal_piece n of m None h = tt
goal_piece n of m (Some (CoverLine.Unsafe goal by places)) h = tt
goal_piece n of m (Some (CoverLine.Piece cube piece by places)) h = absurd h

next_cube : (of n : ℕ) (last : Option CoverLine) → IsBeforePiece of n last → IsBeforePiece (of + 1) 0 last
next_cube of n None h = tt
next_cube of n (Some (CoverLine.Unsafe goal by places)) h = tt
next_cube of n (Some (CoverLine.Piece cube piece by places)) (inl less) = inl (omega arith)
next_cube of n (Some (CoverLine.Piece cube piece by places)) (inr (same, less)) = inl (omega arith)

goal_after : (n goal by : ℕ) (places : List ℕ) (last : Option CoverLine) → goal ≡ n → IsBeforeGoal n last → IsTrue (comes_after last (CoverLine.Unsafe goal by places))
goal_after n goal by places None e h = refl
goal_after n goal by places (Some (CoverLine.Unsafe other by' places')) e h = is_less other goal (omega arith)
goal_after n goal by places (Some (CoverLine.Piece cube piece by' places')) e h = absurd h

piece_after : (of n cube piece by : ℕ) (places : List ℕ) (last : Option CoverLine) → cube ≡ of → piece ≡ n → IsBeforePiece of n last → IsTrue (comes_after last (CoverLine.Piece cube piece by places))
piece_after of n cube piece by places None e f h = refl
piece_after of n cube piece by places (Some (CoverLine.Unsafe goal by' places')) e f h = refl
piece_after of n cube piece by places (Some (CoverLine.Piece cube' piece' by' places')) e f (inl less) =
    or_intro_left (nat_lt cube' cube) (cube' == cube && nat_lt piece' piece) (is_less cube' cube (omega arith))
piece_after of n cube piece by places (Some (CoverLine.Piece cube' piece' by' places')) e f (inr (same, less)) =
    or_intro_right (nat_lt cube' cube) (cube' == cube && nat_lt piece' piece)
    (and_both (cube' == cube) (nat_lt piece' piece) (subst (λ k. (cube' == k) ≡ true) (same ∙ sym e) (same_refl cube')) (is_less piece' piece (omega arith)))

module _ (p : Protocol) (cubes : List Cube) where
  -- ---- the pieces of one cube, before lines that rise
  cube_rise : (of n : ℕ) (xs : List Piece) (own rest : List CoverLine) (last : Option CoverLine) → AllZip (IsLineOf p cubes) (map_from (piece_obligation of) n xs) own → IsBeforePiece of n last
      → ((end : Option CoverLine) → IsBeforePiece (of + 1) 0 end → IsTrue (lines_rise end rest)) → IsTrue (lines_rise last (own ++ rest))
  cube_rise of n [] [] rest last zip before next = next last (next_cube of n last before)
  cube_rise of n [] (line ∷ own) rest last zip before next = absurd zip
  cube_rise of n (x ∷ xs) [] rest last zip before next = absurd zip
  cube_rise of n (x ∷ xs) (CoverLine.Unsafe goal by places ∷ own) rest last zip before next = absurd zip.0
  cube_rise of n (x ∷ xs) (CoverLine.Piece cube piece by places ∷ own) rest last zip before next =
      let line = CoverLine.Piece cube piece by places in
      and_both (comes_after last line) (lines_rise (Some line) (own ++ rest)) (piece_after of n cube piece by places last zip.0.0 zip.0.1 before)
      (cube_rise of (n + 1) xs own rest (Some line) zip.1 (inr (zip.0.0, (let e = zip.0.1 in omega arith))) next)

  cubes_rise : (of : ℕ) (pieces : List (List Piece)) (lines : List CoverLine) (last : Option CoverLine)
      → AllZip (IsLineOf p cubes) (flat_map (λ xs. xs) (map_from piece_obligations of pieces)) lines → IsBeforePiece of 0 last → IsTrue (lines_rise last lines)
  cubes_rise of [] [] last zip before = refl
  cubes_rise of [] (line ∷ lines) last zip before = absurd zip
  cubes_rise of (xs ∷ pieces) lines last zip before =
      let split = zip_split (IsLineOf p cubes) (piece_obligations of xs) (flat_map (λ ys. ys) (map_from piece_obligations (of + 1) pieces)) lines zip in
      subst (λ ls. IsTrue (lines_rise last ls)) (sym split.joined)
      (cube_rise of 0 xs split.front split.back last split.first before (λ end h. cubes_rise (of + 1) pieces split.back end split.second h))

  -- ---- the goals, before lines that rise
  goals_rise : (P : Numbered → Type 0) (n : ℕ) (cs : List Cube) (roots : List Numbered) (own rest : List CoverLine) (last : Option CoverLine) → Keeps P (map_from with_number n cs) roots
      → AllZip (IsLineOf p cubes) (map goal_obligation roots) own → IsBeforeGoal n last
      → ((end : Option CoverLine) (m : ℕ) → IsBeforeGoal m end → IsTrue (lines_rise end rest)) → IsTrue (lines_rise last (own ++ rest))
  goals_rise P n [] roots own rest last keeps zip before next = by own (subst (λ rs. AllZip (IsLineOf p cubes) (map goal_obligation rs) own) keeps zip)
    where
      by : (own : List CoverLine) → AllZip (IsLineOf p cubes) [] own → IsTrue (lines_rise last (own ++ rest))
      by [] h = next last n before
      by (line ∷ own) h = absurd h
  goals_rise P n (c ∷ cs) roots own rest last (inr (out, keeps)) zip before next =
      goals_rise P (n + 1) cs roots own rest last keeps zip (goal_later n (n + 1) last (omega arith) before) next
  goals_rise P n (c ∷ cs) roots own rest last (inl (holds, (zs, is, keeps))) zip before next =
      by own (subst (λ rs. AllZip (IsLineOf p cubes) (map goal_obligation rs) own) is zip)
      (λ own end h k. goals_rise P (n + 1) cs zs own rest end keeps h k next)
    where
      by : (own : List CoverLine) → AllZip (IsLineOf p cubes) (OfGoal n c ∷ map goal_obligation zs) own
          → ((own : List CoverLine) (end : Option CoverLine) → AllZip (IsLineOf p cubes) (map goal_obligation zs) own → IsBeforeGoal (n + 1) end → IsTrue (lines_rise end (own ++ rest)))
          → IsTrue (lines_rise last (own ++ rest))
      by [] h again = absurd h
      by (CoverLine.Piece cube piece by' places ∷ own) h again = absurd h.0
      by (CoverLine.Unsafe goal by' places ∷ own) h again =
          let line = CoverLine.Unsafe goal by' places in
          and_both (comes_after last line) (lines_rise (Some line) (own ++ rest)) (goal_after n goal by' places last h.0.0 before)
          (again own (Some line) h.1 (let e = h.0.0 in omega arith))

  pub all_rise : (P : Numbered → Type 0) (cs : List Cube) (roots : List Numbered) (pieces : List (List Piece)) (lines : List CoverLine) → Keeps P (map_from with_number 0 cs) roots
      → AllZip (IsLineOf p cubes) (obligations roots pieces) lines → IsTrue (lines_rise None lines)
  all_rise P cs roots pieces lines keeps zip =
      let split = zip_split (IsLineOf p cubes) (map goal_obligation roots) (all_piece_obligations pieces) lines zip in
      subst (λ ls. IsTrue (lines_rise None ls)) (sym split.joined)
      (goals_rise P 0 cs roots split.front split.back None keeps split.first tt (λ end m h. cubes_rise 0 pieces split.back end split.second (goal_piece m 0 0 end h)))
