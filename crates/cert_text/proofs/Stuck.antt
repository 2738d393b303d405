-- Behind the cubes of version 2, the first bytes decide which lines may stand there.
use Rattle.std.proofs.Common.{◌≡◌, ℕ, true, false, List, ◌∷◌, ◌++◌, Some, refl, ap, ◌∙◌, inl, inr, codes}
use Rattle.cub_proto.specs.declared.protocol.Protocol.{Protocol}
use Rattle.cub_proto.specs.declared.cover.CoverLine.{CoverLine}
use Rattle.cub_cube.specs.declared.cube.Cube.{Cube}
use Rattle.text_lines.specs.Line.{line_at}
use Rattle.text_lines.proofs.LineLaws.{line_split}
use Rattle.cert_text.specs.Text.{cover_text}
use Rattle.cert_text.specs.Cover.{begins_cover}
use Rattle.cert_text.specs.Place.{Place, Covers, TakesCover, takes}

-- a cover line begins as one, and the line `end` does not
pub cover_begins : (l : CoverLine) (more : List ℕ) → begins_cover (cover_text l ++ more) ≡ true
cover_begins (CoverLine.Unsafe goal by_cube places) more = refl
cover_begins (CoverLine.Piece cube piece by_cube places) more = refl

pub end_begins_not : (more : List ℕ) → begins_cover (codes "end" ++ 10 ∷ more) ≡ false
end_begins_not more = refl

module _ (p : Protocol) (cubes : List Cube) (read : List CoverLine) (text bytes rest : List ℕ) (at : line_at text ≡ Some (bytes, rest)) where
  as_cover : (l : CoverLine) → bytes ≡ cover_text l → begins_cover text ≡ true
  as_cover l is = ap begins_cover (line_split text bytes rest at ∙ ap (λ b. b ++ 10 ∷ rest) is) ∙ cover_begins l (10 ∷ rest)

  as_end : bytes ≡ codes "end" → begins_cover text ≡ false
  as_end is = ap begins_cover (line_split text bytes rest at ∙ ap (λ b. b ++ 10 ∷ rest) is) ∙ end_begins_not rest

  pub no_cover_stands : begins_cover text ≡ true → ((l : CoverLine) → TakesCover p cubes read bytes l → ⊥)
      → (q : Place) → takes p (Covers cubes read) bytes q → ⊥
  no_cover_stands begins none q (inl (l, t, to)) = none l t
  no_cover_stands begins none q (inr (is, to)) = let other = as_end is in cc

  pub no_end_stands : begins_cover text ≡ false → (bytes ≡ codes "end" → ⊥) → (q : Place) → takes p (Covers cubes read) bytes q → ⊥
  no_end_stands begins none q (inl (l, t, to)) = let other = as_cover l t.text in cc
  no_end_stands begins none q (inr (is, to)) = none is
