-- Lines that are read rise.
use Rattle.std.proofs.Common.{◌≡◌, true, List, [], ◌∷◌, Option, Some, None, refl, subst}
use Rattle.std.specs.Prelude.{IsTrue}
use Rattle.std.specs.List.{list_all}
use Rattle.cub_proto.specs.declared.protocol.Protocol.{Protocol}
use Rattle.cub_proto.specs.declared.cover.CoverLine.{CoverLine}
use Rattle.cub_cube.specs.declared.cube.Cube.{Cube}
use Rattle.cub_base.proofs.Bools.{and_left, and_right, and_both}
use Rattle.cert_text.specs.Lawful.{is_lawful_line, comes_before, are_lawful_covers, lines_rise as text_rise}
use Rattle.cert_check.specs.Keys.{key_of, is_before, lines_rise}

before : (a b : CoverLine) → IsTrue (comes_before a b) → IsTrue (is_before (key_of a) (key_of b))
before (CoverLine.Unsafe goal by places) (CoverLine.Unsafe other by2 places2) h = h
before (CoverLine.Unsafe goal by places) (CoverLine.Piece cube piece by2 places2) h = h
before (CoverLine.Piece cube piece by places) (CoverLine.Unsafe other by2 places2) h = h
before (CoverLine.Piece cube piece by places) (CoverLine.Piece cube2 piece2 by2 places2) h = h

behind : (last : CoverLine) (lines : List CoverLine) → IsTrue (text_rise (Some last) lines) → IsTrue (lines_rise (last ∷ lines))
behind last [] h = refl
behind last (line ∷ lines) h =
    and_both (is_before (key_of last) (key_of line)) (lines_rise (line ∷ lines))
    (before last line (and_left (comes_before last line) (text_rise (Some line) lines) h))
    (behind line lines (and_right (comes_before last line) (text_rise (Some line) lines) h))

all_rise : (lines : List CoverLine) → IsTrue (text_rise None lines) → IsTrue (lines_rise lines)
all_rise [] h = refl
all_rise (line ∷ lines) h = behind line lines (and_right true (text_rise (Some line) lines) h)

pub rises : (p : Protocol) (cubes : List Cube) (covers : Option (List CoverLine)) (lines : List CoverLine) → covers ≡ Some lines → IsTrue (are_lawful_covers p cubes covers) → IsTrue (lines_rise lines)
rises p cubes covers lines is lawful = all_rise lines (and_right (list_all (is_lawful_line p cubes) lines) (text_rise None lines) (subst (λ these. IsTrue (are_lawful_covers p cubes these)) is lawful))
