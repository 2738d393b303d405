-- A list of cubes has one list of cover lines at most.
use Rattle.std.proofs.Common.{◌≡◌, ℕ, List, [], ◌∷◌, length, refl, ap, ◌∙◌, subst}
use Rattle.std.specs.Prelude.{Option, Some, None}
use Rattle.std.specs.List.{AllZip}
use Rattle.cub_proto.specs.declared.cover.CoverLine.{CoverLine}
use Rattle.cub_proto.specs.declared.protocol.Protocol.{Protocol}
use Rattle.cub_cube.specs.declared.cube.Cube.{Cube}
use Rattle.cub_cube.proofs.KeptLemmas.{kept_unique}
use Rattle.piece_choices.specs.Pieces.{candidates, IsPossible, ArePieces}
use Rattle.log_form.specs.Links.{Link}
use Rattle.log_form.proofs.Rooted.{one_roots}
use Rattle.log_form.proofs.FirstCovers.{one_first}
use Rattle.cover_lines.specs.Obligations.{Obligation, OfGoal, OfPiece, obligations}
use Rattle.cover_lines.specs.Lines.{IsFirstOf, IsLineOf, AreCoverLines}

zip_unique : {A B : Type 0} (R : A → B → Type 0) (one : (x : A) (y z : B) → R x y → R x z → y ≡ z) (xs : List A) (ys zs : List B) → AllZip R xs ys → AllZip R xs zs → ys ≡ zs
zip_unique R one [] [] [] h k = refl
zip_unique R one [] [] (z ∷ zs) h k = absurd k
zip_unique R one [] (y ∷ ys) zs h k = absurd h
zip_unique R one (x ∷ xs) [] zs h k = absurd h
zip_unique R one (x ∷ xs) (y ∷ ys) [] h k = absurd k
zip_unique {A} {B} R one (x ∷ xs) (y ∷ ys) (z ∷ zs) h k = ap (λ v. v ∷ ys) (one x y z h.0 k.0) ∙ ap (λ vs. z ∷ vs) (zip_unique R one xs ys zs h.1 k.1)

abbrev link_or : Option Link → Link
link_or None = (0, [])
link_or (Some link) = link

module _ (p : Protocol) (cubes : List Cube) where
  first_one : (c : Cube) (by by' : ℕ) (places places' : List ℕ) → IsFirstOf p cubes c by places → IsFirstOf p cubes c by' places' → (by ≡ by') × (places ≡ places')
  first_one c by by' places places' h k =
      let same = one_first p cubes 0 (length cubes) c (Some (by, places)) (Some (by', places')) h k in
      (ap (λ o. (link_or o).0) same, ap (λ o. (link_or o).1) same)

  line_one : (o : Obligation) (a b : CoverLine) → IsLineOf p cubes o a → IsLineOf p cubes o b → a ≡ b
  line_one (OfGoal n c) (CoverLine.Piece cube piece by places) b h k = absurd h
  line_one (OfGoal n c) (CoverLine.Unsafe goal by places) (CoverLine.Piece cube piece by' places') h k = absurd k
  line_one (OfGoal n c) (CoverLine.Unsafe goal by places) (CoverLine.Unsafe goal' by' places') (is, first) (is', first') =
      let (e, f) = first_one c by by' places places' first first' in cc
  line_one (OfPiece of n c) (CoverLine.Unsafe goal by places) b h k = absurd h
  line_one (OfPiece of n c) (CoverLine.Piece cube piece by places) (CoverLine.Unsafe goal by' places') h k = absurd k
  line_one (OfPiece of n c) (CoverLine.Piece cube piece by places) (CoverLine.Piece cube' piece' by' places') (is, at, first) (is', at', first') =
      let (e, f) = first_one c by by' places places' first first' in cc

  pub lines_one : (lines others : List CoverLine) → AreCoverLines p cubes lines → AreCoverLines p cubes others → lines ≡ others
  lines_one lines others a b =
      let roots = one_roots p a.roots b.roots a.are_roots b.are_roots in
      let pieces = zip_unique (ArePieces p) (λ c xs ys. kept_unique (IsPossible p) (candidates p c) xs ys) cubes a.pieces b.pieces a.are_pieces b.are_pieces in
      zip_unique (IsLineOf p cubes) line_one (obligations b.roots b.pieces) lines others
      (subst (λ rs. AllZip (IsLineOf p cubes) (obligations rs b.pieces) lines) roots
      (subst (λ ps. AllZip (IsLineOf p cubes) (obligations a.roots ps) lines) pieces a.one_each)) b.one_each
