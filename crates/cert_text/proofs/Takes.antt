-- A line tells one value, so a place and a line lead to one place.
use Rattle.std.proofs.Common.{◌≡◌, ℕ, Bool, true, false, List, [], ◌∷◌, ◌++◌, drop, Some, Result, Ok, refl, ap, sym, ◌∙◌, arith, inl, inr, codes}
use Rattle.cub_proto.specs.declared.protocol.Protocol.{Protocol}
use Rattle.cub_proto.specs.declared.cover.CoverLine.{CoverLine}
use Rattle.cub_cube.specs.declared.cube.Cube.{Cube}
use Rattle.cube_text.specs.declared.fault.CubeFault.{CubeFault}
use Rattle.cert_text.specs.declared.certificate.Certificate.{Certificate}
use Rattle.cert_text.specs.Text.{version_text, count_text}
use Rattle.cert_text.specs.Numbers.{number_of}
use Rattle.cert_text.specs.Cover.{begins_cover}
use Rattle.cert_text.specs.Place.{Place, Heading, Version, Count, Cubes, Ending, Covers, Done, TakesCover, takes, certificate_at, behind_cubes}
use Rattle.cert_text.proofs.Refused.{cover_unique}
use Rattle.cert_text.proofs.Stuck.{cover_begins}

same_version : (c d : Bool) → version_text c ≡ version_text d → c ≡ d
same_version true true h = refl
same_version true false h = absurd (let l : 50 ≡ 49 = ap last_byte h in omega arith)
  where
    last_byte : List ℕ → ℕ
    last_byte [] = 0
    last_byte (b ∷ []) = b
    last_byte (b ∷ d ∷ ds) = last_byte (d ∷ ds)
same_version false true h = absurd (let l : 49 ≡ 50 = ap last_byte h in omega arith)
  where
    last_byte : List ℕ → ℕ
    last_byte [] = 0
    last_byte (b ∷ []) = b
    last_byte (b ∷ d ∷ ds) = last_byte (d ∷ ds)
same_version false false h = refl

same_digits : (d e : List ℕ) → count_text d ≡ count_text e → d ≡ e
same_digits d e h = ap (drop 6) h

abbrev accepted : Cube → Result Cube CubeFault
accepted c = Ok c

same_cube : (c d : Cube) → accepted c ≡ accepted d → c ≡ d
same_cube c d h = cc

apart : (p : Protocol) (cubes : List Cube) (read : List CoverLine) (line : List ℕ) (l : CoverLine) → TakesCover p cubes read line l → line ≡ codes "end" → ⊥
apart p cubes read line l t is =
    let yes : begins_cover (line ++ []) ≡ true = ap (λ b. begins_cover (b ++ [])) t.text ∙ cover_begins l [] in
    let none : begins_cover (line ++ []) ≡ false = ap (λ b. begins_cover (b ++ [])) is in
    absurd cc

-- a place and a line lead to one place
pub one : (p : Protocol) (place q r : Place) (line : List ℕ) → takes p place line q → takes p place line r → q ≡ r
one p Heading q r line (is, to) (js, also) = to ∙ sym also
one p Version q r line (c, is, to) (d, js, also) =
    let same = same_version c d (sym is ∙ js) in
    to ∙ ap Count same ∙ sym also
one p (Count two) q r line (d, ok, is, to) (e, fine, js, also) =
    let same = same_digits d e (sym is ∙ js) in
    to ∙ ap (λ x. behind_cubes two (number_of x) []) same ∙ sym also
one p (Cubes two wanted read) q r line (c, is, to) (d, js, also) =
    let same = same_cube c d (sym is ∙ js) in
    to ∙ ap (λ x. behind_cubes two wanted (read ++ x ∷ [])) same ∙ sym also
one p (Ending cubes) q r line (is, to) (js, also) = to ∙ sym also
one p (Covers cubes read) q r line (inl (l, t, to)) (inl (m, u, also)) =
    let same : l ≡ m = sym (cover_unique p cubes read line l t) ∙ cover_unique p cubes read line m u in
    to ∙ ap (λ x. Covers cubes (read ++ x ∷ [])) same ∙ sym also
one p (Covers cubes read) q r line (inl (l, t, to)) (inr (js, also)) = absurd (apart p cubes read line l t js)
one p (Covers cubes read) q r line (inr (is, to)) (inl (m, u, also)) = absurd (apart p cubes read line m u is)
one p (Covers cubes read) q r line (inr (is, to)) (inr (js, also)) = to ∙ sym also
one p (Done c) q r line h k = absurd h

pub closed : (p : Protocol) (place q : Place) (line : List ℕ) (c : Certificate) → certificate_at place ≡ Some c → takes p place line q → ⊥
closed p Heading q line c h k = cc
closed p Version q line c h k = cc
closed p (Count two) q line c h k = cc
closed p (Cubes two wanted read) q line c h k = cc
closed p (Ending cubes) q line c h k = cc
closed p (Covers cubes read) q line c h k = cc
closed p (Done d) q line c h k = k
