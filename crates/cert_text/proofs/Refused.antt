-- A line that does not tell what it should tells nothing: whatever it told, it would be written otherwise.
use Rattle.std.proofs.Common.{◌≡◌, ℕ, true, false, List, sym, subst, ◌∙◌, ap, bytes_eq}
use Rattle.cub_proto.specs.declared.protocol.Protocol.{Protocol}
use Rattle.cub_proto.specs.declared.cover.CoverLine.{CoverLine}
use Rattle.cub_cube.specs.declared.cube.Cube.{Cube}
use Rattle.text_lines.proofs.NumberLaws.{same_bytes}
use Rattle.cert_text.specs.Told.{cover_told}
use Rattle.cert_text.specs.Place.{TakesCover}
use Rattle.cert_text.proofs.ToldLaws.{cover_is_told}

pub differs : (xs ys : List ℕ) → bytes_eq xs ys ≡ false → ys ≡ xs → ⊥
differs xs ys no_match same =
    let equal : bytes_eq xs ys ≡ true = ap (bytes_eq xs) same ∙ same_bytes xs in
    cc

pub cover_unique : (p : Protocol) (cubes : List Cube) (read : List CoverLine) (line : List ℕ) (l : CoverLine) → TakesCover p cubes read line l → cover_told cubes line ≡ l
cover_unique p cubes read line l t = ap (cover_told cubes) t.text ∙ cover_is_told p cubes t.few l t.lawful

pub no_cover : (p : Protocol) (cubes : List Cube) (read : List CoverLine) (line : List ℕ) (told : CoverLine) → told ≡ cover_told cubes line
    → (TakesCover p cubes read line told → ⊥) → (l : CoverLine) → TakesCover p cubes read line l → ⊥
no_cover p cubes read line told is bad l t = bad (subst (λ x. TakesCover p cubes read line x) (sym (is ∙ cover_unique p cubes read line l t)) t)
