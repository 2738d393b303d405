-- A certificate with the lines of its obligations may be written and read.
use Rattle.std.proofs.Common.{◌≡◌, ◌⊎◌, ℕ, ◌<◌, ◌≤◌, ◌^◌, Bool, true, false, List, [], ◌∷◌, length, get_or, refl, sym, subst, arith, inl, inr, All}
use Rattle.std.specs.Prelude.{Some, None, IsTrue, ◌&&◌, ◌||◌, ◌==◌, not, nat_lt, map, slice_get}
use Rattle.std.specs.List.{list_all, list_any}
use Rattle.std.proofs.lemmas.Option.{slice_get-get_or}
use Rattle.cub_base.proofs.Bools.{and_both, is_less, same_is, same_refl}
use Rattle.cub_base.proofs.Elements.{from_all}
use Rattle.cub_base.proofs.Members.{Has, Distinct, pairs_distinct, has_Contains, has_all, has_cases, map_has, all_has}
use Rattle.cub_proto.specs.declared.cover.CoverLine.{CoverLine}
use Rattle.cub_proto.specs.declared.protocol.Protocol.{Protocol}
use Rattle.cub_cube.specs.declared.cube.Cube.{Cube}
use Rattle.cub_cube.specs.Rename.{IsInjection}
use Rattle.piece_choices.specs.declared.piece.Piece.{Piece}
use Rattle.piece_choices.specs.Pieces.{ArePieces}
use Rattle.log_form.specs.declared.numbered.Numbered.{Numbered}
use Rattle.log_form.specs.Numbering.{AreRoots}
use Rattle.log_form.specs.Links.{cube_at, no_cube}
use Rattle.log_form.proofs.Depths.{goal_fit}
use Rattle.log_form.proofs.Rooted.{root_is}
use Rattle.cert_text.specs.Lawful.{are_apart, are_places, is_lawful_line, lines_rise, are_lawful_lines}
use Rattle.cover_lines.specs.Obligations.{Obligation, OfGoal, OfPiece, goal_obligation, all_piece_obligations, obligations}
use Rattle.cover_lines.specs.Lines.{IsFirstOf, IsLineOf, AreCoverLines}
use Rattle.cover_lines.proofs.ZipLemmas.{zip_has_right, zip_length, get_has, get_below}
use Rattle.cover_lines.proofs.ObligationLemmas.{piece_is}
use Rattle.cover_lines.proofs.RiseLemmas.{all_rise}

-- ---- places that differ
not_among : (x : ℕ) (xs : List ℕ) → (Has xs x → ⊥) → not (list_any (λ y. x == y) xs) ≡ true
not_among x [] out = refl
not_among x (y ∷ xs) out = by (x == y) refl (not_among x xs (λ h. out (inr h)))
  where
    by : (b : Bool) → (x == y) ≡ b → not (list_any (λ z. x == z) xs) ≡ true → not (list_any (λ z. x == z) (y ∷ xs)) ≡ true
    by true is rest = absurd (out (inl (sym (same_is x y is))))
    by false is rest = subst (λ b. not (b || list_any (λ z. x == z) xs) ≡ true) (sym is) rest

apart_are : (xs : List ℕ) → Distinct xs → IsTrue (are_apart xs)
apart_are [] h = refl
apart_are (x ∷ xs) h = and_both (not (list_any (λ y. x == y) xs)) (are_apart xs) (not_among x xs h.0) (apart_are xs h.1)

places_are : (d : Cube) (width : ℕ) (places : List ℕ) → width ≤ 11 → IsInjection d.width width places → IsTrue (are_places (Some d) places)
places_are d width places narrow injection =
    and_both (length places == d.width && list_all (λ i. nat_lt i 11) places) (are_apart places)
    (and_both (length places == d.width) (list_all (λ i. nat_lt i 11) places)
    (subst (λ k. (length places == k) ≡ true) injection.one_each (same_refl (length places)))
    (from_all (λ i. nat_lt i 11) places (λ k e below. is_less (get_or places k e) 11 (let small = injection.within k e below in omega arith))))
    (apart_are places (pairs_distinct places injection.apart))

-- ---- what is asked of each obligation: it is there, and its cube is narrow
abbrev pub IsSmall : Protocol → List Cube → Obligation → Type 0
IsSmall p cubes (OfGoal n c) = (n < length p.goals) × (c.width ≤ 11)
IsSmall p cubes (OfPiece of n c) = (of < length cubes) × (n < 2 ^ 64) × (c.width ≤ 11)

module _ (p : Protocol) (cubes : List Cube) where
  by_is : (c : Cube) (by : ℕ) (places : List ℕ) → c.width ≤ 11 → IsFirstOf p cubes c by places → IsTrue (are_places (slice_get cubes by) places)
  by_is c by places narrow (low, high, least, none) =
      subst (λ o. IsTrue (are_places o places)) (sym (slice_get-get_or cubes by no_cube high)) (places_are (cube_at cubes by) c.width places narrow least.covers.injection)

  line_is : (o : Obligation) (line : CoverLine) → IsSmall p cubes o → IsLineOf p cubes o line → IsTrue (is_lawful_line p cubes line)
  line_is (OfGoal n c) (CoverLine.Piece cube piece by places) small h = absurd h
  line_is (OfPiece of n c) (CoverLine.Unsafe goal by places) small h = absurd h
  line_is (OfGoal n c) (CoverLine.Unsafe goal by places) (inside, narrow) (is, first) =
      and_both (nat_lt goal (length p.goals)) (are_places (slice_get cubes by) places) (is_less goal (length p.goals) (omega arith)) (by_is c by places narrow first)
  line_is (OfPiece of n c) (CoverLine.Piece cube piece by places) (inside, few, narrow) (is, at, first) =
      and_both (nat_lt cube (length cubes) && nat_lt piece (2 ^ 64)) (are_places (slice_get cubes by) places)
      (and_both (nat_lt cube (length cubes)) (nat_lt piece (2 ^ 64)) (is_less cube (length cubes) (omega arith)) (is_less piece (2 ^ 64) (omega arith)))
      (by_is c by places narrow first)

  root_small : (roots : List Numbered) (o : Obligation) → AreRoots p roots → Has (map goal_obligation roots) o → IsSmall p cubes o
  root_small roots o are h =
      let (r, among, same) = map_has goal_obligation roots o h in
      let root = root_is p roots r are (has_Contains roots r among) in
      let fit = goal_fit p root.goal (has_Contains p.goals root.goal (get_has p.goals r.number root.goal root.is_there)) in
      let narrow : r.cube.width ≤ 11 = subst (λ (c : Cube). c.width ≤ 11) (sym root.is) fit.narrow in
      subst (IsSmall p cubes) same (get_below p.goals r.number root.goal root.is_there, narrow)

  piece_small : (pieces : List (List Piece)) (o : Obligation) → length pieces ≤ length cubes → All (λ xs. length xs < 2 ^ 64) pieces
      → ((k : ℕ) (xs : List Piece) (n : ℕ) (x : Piece) → slice_get pieces k ≡ Some xs → slice_get xs n ≡ Some x → x.cube.width ≤ 11)
      → Has (all_piece_obligations pieces) o → IsSmall p cubes o
  piece_small pieces o count few narrow h =
      let of = piece_is pieces o h in
      let below = get_below pieces of.of of.list of.its_list in
      let short : length of.list < 2 ^ 64 = all_has (λ (xs : List Piece). length xs < 2 ^ 64) pieces of.list few (get_has pieces of.of of.list of.its_list) in
      let inside = get_below of.list of.number of.piece of.its in
      subst (IsSmall p cubes) of.is (omega arith, omega arith, narrow of.of of.list of.number of.piece of.its_list of.its)

  pub small_obligations : (roots : List Numbered) (pieces : List (List Piece)) (o : Obligation) → AreRoots p roots → length pieces ≤ length cubes → All (λ xs. length xs < 2 ^ 64) pieces
      → ((k : ℕ) (xs : List Piece) (n : ℕ) (x : Piece) → slice_get pieces k ≡ Some xs → slice_get xs n ≡ Some x → x.cube.width ≤ 11)
      → Has (obligations roots pieces) o → IsSmall p cubes o
  small_obligations roots pieces o are count few narrow h = by (has_cases (map goal_obligation roots) (all_piece_obligations pieces) o h)
    where
      by : Has (map goal_obligation roots) o ⊎ Has (all_piece_obligations pieces) o → IsSmall p cubes o
      by (inl here) = root_small roots o are here
      by (inr later) = piece_small pieces o count few narrow later

  pub lawful_lines : (lines : List CoverLine) (cover : AreCoverLines p cubes lines) → All (λ xs. length xs < 2 ^ 64) cover.pieces
      → ((k : ℕ) (xs : List Piece) (n : ℕ) (x : Piece) → slice_get cover.pieces k ≡ Some xs → slice_get xs n ≡ Some x → x.cube.width ≤ 11)
      → IsTrue (are_lawful_lines p cubes lines)
  lawful_lines lines cover few narrow =
      and_both (list_all (is_lawful_line p cubes) lines) (lines_rise None lines)
      (from_all (is_lawful_line p cubes) lines (has_all (λ line. IsTrue (is_lawful_line p cubes line)) lines (λ line among.
      let (o, inside, is) = zip_has_right (IsLineOf p cubes) (obligations cover.roots cover.pieces) lines line cover.one_each among in
      line_is o line (small_obligations cover.roots cover.pieces o cover.are_roots (let e = zip_length (ArePieces p) cubes cover.pieces cover.are_pieces in omega arith) few narrow inside) is)))
      (all_rise p cubes _ _ cover.roots cover.pieces lines cover.are_roots cover.one_each)
