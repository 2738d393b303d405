-- What the loops of the reader keep.
use Rattle.std.proofs.Common.{◌≡◌, ℕ, suc, ◌+◌, ◌-◌, ◌<◌, ◌≤◌, Bool, true, false, List, [], ◌∷◌, ◌++◌, length, min, Option, Some, None, All, IsTrue, refl, ap, sym, ◌∙◌, arith, append_assoc}
use Rattle.std.specs.Prelude.{slice_get, ◌↔◌}
use Rattle.std.specs.List.{list_all}
use Rattle.std.proofs.lemmas.Bool.{and_parts, and_from, cond-false}
use Rattle.cub_proto.specs.declared.protocol.Protocol.{Protocol}
use Rattle.cub_proto.specs.declared.cover.CoverLine.{CoverLine}
use Rattle.cub_cube.specs.declared.cube.Cube.{Cube}
use Rattle.text_lines.specs.Number.{counted}
use Rattle.text_lines.specs.Word.{word, behind}
use Rattle.cube_text.specs.Reading.{IsLawful}
use Rattle.cert_text.specs.Told.{places_told}
use Rattle.cert_text.specs.Lawful.{widest, is_lawful_line, comes_after, lines_rise, are_lawful_lines}
use Rattle.cert_text.specs.Place.{Cubes, Covers, is_reached, behind_cubes, at_tail, last_of, GoesOn}

pub record IsToldPlaces (count : ℕ) (bytes : List ℕ) (counter : ℕ) (rest : List ℕ) (places : List ℕ) : Type 0 where
  pub counts : length places ≡ counter
  pub told : places ++ places_told (count - counter) rest ≡ places_told count bytes

pub places_step : (count i : ℕ) (t found : List ℕ) → i < count
    → (found ++ min (counted (word t)) 255 ∷ []) ++ places_told (count - (i + 1)) (behind t) ≡ found ++ places_told (count - i) t
places_step count i t found h =
    let e : count - i ≡ suc (count - (i + 1)) = omega arith in
    append_assoc found (min (counted (word t)) 255 ∷ []) (places_told (count - (i + 1)) (behind t)) ∙ ap (λ n. found ++ places_told n t) (sym e)

pub record IsReadCubes (p : Protocol) (wanted : Option ℕ) (cubes : List Cube) (at : ℕ) (rest : List ℕ) (text : List ℕ) : Type 0 where
  pub lawful : All (IsLawful p widest) cubes
  pub counts : length cubes + 4 ≡ at
  pub room : at + length rest ≤ 4 + length text
  pub goes : (two : Bool) → GoesOn p (behind_cubes two wanted cubes) at rest (behind_cubes two wanted []) 4 text

pub record IsReadCovers (p : Protocol) (cubes : List Cube) (lines : List CoverLine) (at : ℕ) (rest : List ℕ) (line : ℕ) (text : List ℕ) : Type 0 where
  pub lawful : IsTrue (are_lawful_lines p cubes lines)
  pub room : at + length rest ≤ line + length text
  pub goes : GoesOn p (Covers cubes lines) at rest (Covers cubes []) line text

-- while more cubes are wanted, a cube stands next
pub open_place : (two : Bool) (wanted : Option ℕ) (cubes : List Cube) → is_reached (length cubes) wanted ≡ false → behind_cubes two wanted cubes ≡ Cubes two wanted cubes
open_place two wanted cubes is = cond-false (is_reached (length cubes) wanted) (at_tail two cubes) (Cubes two wanted cubes) is

-- one cover line more
last_from : Option CoverLine → List CoverLine → Option CoverLine
last_from last [] = last
last_from last (line ∷ lines) = last_from (Some line) lines

last_same : (line : CoverLine) (lines : List CoverLine) → last_from (Some line) lines ≡ last_of (line ∷ lines)
unfolding last_from
last_same line [] = refl
last_same line (next ∷ lines) = last_same next lines

rise_more : (last : Option CoverLine) (lines : List CoverLine) (l : CoverLine) → lines_rise last lines ≡ true → comes_after (last_from last lines) l ≡ true
    → lines_rise last (lines ++ l ∷ []) ≡ true
unfolding last_from
rise_more last [] l h after = and_from (comes_after last l) true after refl
rise_more last (line ∷ lines) l h after =
    let parts = and_parts (comes_after last line) (lines_rise (Some line) lines) h in
    and_from (comes_after last line) (lines_rise (Some line) (lines ++ l ∷ [])) parts.0 (rise_more (Some line) lines l parts.1 after)

last_is : (lines : List CoverLine) → last_from None lines ≡ last_of lines
unfolding last_from
last_is [] = refl
last_is (line ∷ lines) = last_same line lines

pub lawful_more : (p : Protocol) (cubes : List Cube) (lines : List CoverLine) (l : CoverLine) → are_lawful_lines p cubes lines ≡ true → is_lawful_line p cubes l ≡ true
    → comes_after (last_of lines) l ≡ true → are_lawful_lines p cubes (lines ++ l ∷ []) ≡ true
lawful_more p cubes lines l h lawful after =
    let parts = and_parts (list_all (is_lawful_line p cubes) lines) (lines_rise None lines) h in
    let rise = rise_more None lines l parts.1 (ap (λ o. comes_after o l) (last_is lines) ∙ after) in
    and_from (list_all (is_lawful_line p cubes) (lines ++ l ∷ [])) (lines_rise None (lines ++ l ∷ [])) (all_more lines parts.0) rise
  where
    all_more : (xs : List CoverLine) → list_all (is_lawful_line p cubes) xs ≡ true → list_all (is_lawful_line p cubes) (xs ++ l ∷ []) ≡ true
    all_more [] k = and_from (is_lawful_line p cubes l) true lawful refl
    all_more (x ∷ xs) k =
        let both = and_parts (is_lawful_line p cubes x) (list_all (is_lawful_line p cubes) xs) k in
        and_from (is_lawful_line p cubes x) (list_all (is_lawful_line p cubes) (xs ++ l ∷ [])) both.0 (all_more xs both.1)

-- the last line stands at the last place
last_at : (line : CoverLine) (lines : List CoverLine) → slice_get (line ∷ lines) (length lines) ≡ last_of (line ∷ lines)
last_at line [] = refl
last_at line (next ∷ lines) = last_at next lines

pub last_got : (lines : List CoverLine) (b : Bool) (n : ℕ) → IsTrue b ↔ (lines ≡ []) → b ≡ false → n ≡ length lines → slice_get lines (n - 1) ≡ last_of lines
last_got [] b n h is len = absurd (let t : b ≡ true = h.1 refl in cc)
last_got (line ∷ lines) b n h is len =
    let before : n - 1 ≡ length lines = omega (arith, len) in
    ap (slice_get (line ∷ lines)) before ∙ last_at line lines
