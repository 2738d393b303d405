-- What a line says that is to be a cover line: its form, and where it stands among the others.
use Rattle.std.specs.Prelude.{ℕ, ◌+◌, Bool, true, false, ◌&&◌, ◌||◌, ◌==◌, List, [], ◌∷◌, length, take, get_or, codes, bytes_eq, Option, Some, None}
use Rattle.std.specs.List.{list_all}
use Rattle.cub_proto.specs.declared.cover.CoverLine.{CoverLine}
use Rattle.cube_text.specs.Form.{words_of, before, onward, is_empty, is_number, is_place}
use Rattle.cert_text.specs.Numbers.{number_of, is_below, is_same}

-- the word stands at the front
abbrev pub begins : List ℕ → List ℕ → Bool
begins front text = bytes_eq (take (length front) text) front

-- what is read as a cover line, and as a cube
abbrev pub begins_cover : List ℕ → Bool
begins_cover text = begins (codes "unsafe ") text || begins (codes "piece ") text

abbrev pub begins_cube : List ℕ → Bool
begins_cube text = begins (codes "cube ") text

-- `(#1 #2)`
abbrev pub is_brackets : List ℕ → Bool
is_brackets [] = false
is_brackets (b ∷ bs) =
    b == 40 && (is_empty (before 41 bs) || list_all is_place (words_of (before 41 bs))) && bytes_eq (onward 41 bs) (codes ")")

abbrev pub word_at : List (List ℕ) → ℕ → List ℕ
word_at words n = get_or words n []

-- the words before the brackets; the last is empty, since a blank stands before these
abbrev pub front_words : List ℕ → List (List ℕ)
front_words line = words_of (before 40 line)

-- `by 2 ` stands there
abbrev pub has_by : List (List ℕ) → ℕ → Bool
has_by words n = bytes_eq (word_at words n) (codes "by") && is_number (word_at words (n + 1)) && is_empty (word_at words (n + 2))

-- `unsafe 1 by 2 `
abbrev pub is_unsafe_front : List (List ℕ) → Bool
is_unsafe_front words =
    length words == 5 && bytes_eq (word_at words 0) (codes "unsafe") && is_number (word_at words 1) && has_by words 2

-- `piece 1 of cube 2 by 3 `
abbrev pub is_piece_front : List (List ℕ) → Bool
is_piece_front words =
    length words == 8 && bytes_eq (word_at words 0) (codes "piece") && is_number (word_at words 1) && bytes_eq (word_at words 2) (codes "of")
    && bytes_eq (word_at words 3) (codes "cube") && is_number (word_at words 4) && has_by words 5

-- the form of a cover line
abbrev pub has_cover_form : List ℕ → Bool
has_cover_form line = (is_unsafe_front (front_words line) || is_piece_front (front_words line)) && is_brackets (onward 40 line)

-- a line with these front words comes after the last one
abbrev pub rises_after : Option CoverLine → List (List ℕ) → Bool
rises_after None words = true
rises_after (Some (CoverLine.Unsafe goal by places)) words = is_piece_front words || is_below (goal + 1) (number_of (word_at words 1))
rises_after (Some (CoverLine.Piece cube piece by places)) words =
    is_piece_front words
    && (is_below (cube + 1) (number_of (word_at words 4))
    || (is_same (cube + 1) (number_of (word_at words 4)) && is_below (piece + 1) (number_of (word_at words 1))))
