-- What a line says where a line of an event, or a closing line, belongs: its form, whatever it names.
use Rattle.std.specs.Prelude.{ℕ, Bool, false, ◌&&◌, ◌||◌, ◌==◌, if◌then◌else◌, List, [], ◌∷◌, length, get_or, take, drop, codes, bytes_eq, Option, Some, None, Result, Ok, Err}
use Rattle.std.specs.List.{list_all}
use Rattle.cub_proto.specs.declared.protocol.Protocol.{Protocol}
use Rattle.cub_cube.specs.declared.cube.Cube.{Cube}
use Rattle.text_lines.specs.Line.{line_at}
use Rattle.cube_text.specs.declared.fault.CubeFault.{CubeFault}
use Rattle.cube_text.specs.Form.{words_of, before, onward, is_empty, is_number, is_place}
use Rattle.cube_text.specs.Reading.{reading}
use Rattle.journal_text.specs.declared.look.Look.{Look}
use Rattle.journal_text.specs.declared.look.Look.TheVariants.{Formless, Faulty, Item, Expand, Roots, Closing}

-- the greatest width of a cube of a journal
abbrev pub widest : ℕ
widest = 11

-- the word stands at the front
abbrev pub begins : List ℕ → List ℕ → Bool
begins front text = bytes_eq (take (length front) text) front

-- `(#1 #2)`
abbrev pub is_brackets : List ℕ → Bool
is_brackets [] = false
is_brackets (b ∷ bs) =
    b == 40 && (is_empty (before 41 bs) || list_all is_place (words_of (before 41 bs))) && bytes_eq (onward 41 bs) (codes ")")

abbrev pub word_at : List (List ℕ) → ℕ → List ℕ
word_at words n = get_or words n []

-- the name and a number, and where a bracket follows an empty word behind them
abbrev pub is_numbered : List ℕ → List (List ℕ) → Bool
is_numbered name words = length words == 2 && bytes_eq (word_at words 0) name && is_number (word_at words 1)

abbrev pub is_numbered_front : List ℕ → List (List ℕ) → Bool
is_numbered_front name words =
    length words == 3 && bytes_eq (word_at words 0) name && is_number (word_at words 1) && is_empty (word_at words 2)

-- what the line of an added cube is called, where it is made from an unsafe conjunction, and from a piece of a node
abbrev pub item_name : Option ℕ → List ℕ
item_name None = codes "root"
item_name (Some n) = codes "new"

-- the bytes before the first colon, and those from it on
abbrev pub item_front : List ℕ → List ℕ
item_front line = before 58 line

abbrev pub item_back : List ℕ → List ℕ
item_back line = onward 58 line

-- `new 1 (#2 #1): ` and anything behind
abbrev pub is_item : Option ℕ → List ℕ → Bool
is_item node line =
    is_numbered_front (item_name node) (words_of (before 40 (item_front line))) && is_brackets (onward 40 (item_front line))
    && begins (codes ": ") (item_back line)

-- what stands behind it, to be read as a cube
abbrev pub cube_part : List ℕ → List ℕ
cube_part line = drop 2 (item_back line)

-- `expand 1`, `wide 1`
abbrev pub is_expand : List ℕ → Bool
is_expand line = is_numbered (codes "expand") (words_of line)

abbrev pub is_wide : List ℕ → Bool
is_wide line = is_numbered (codes "wide") (words_of line)

-- `full 1 needs 1`, and `full roots needs 1`
abbrev pub is_needs : List (List ℕ) → Bool
is_needs words =
    length words == 4 && bytes_eq (word_at words 0) (codes "full") && bytes_eq (word_at words 2) (codes "needs") && is_number (word_at words 3)

abbrev pub is_full : List ℕ → Bool
is_full line = is_needs (words_of line) && is_number (word_at (words_of line) 1)

abbrev pub is_full_roots : List ℕ → Bool
is_full_roots line = is_needs (words_of line) && bytes_eq (word_at (words_of line) 1) (codes "roots")

-- an added cube, or a fault of the cube
abbrev pub cube_look : Result Cube CubeFault → Look
cube_look (Ok c) = Item
cube_look (Err fault) = Faulty

-- a line that is no added cube
abbrev pub plain_look : List ℕ → Look
plain_look line =
    if is_expand line then Expand
    else (if is_full_roots line then Roots else (if is_full line || is_wide line || bytes_eq line (codes "end") then Closing else Formless))

-- what a line is where cubes of the roots, or of a node, may stand
abbrev pub look_at : Protocol → Option ℕ → List ℕ → Look
look_at p node line = if is_item node line then cube_look (reading p widest (cube_part line)) else plain_look line

-- the end of the text is a closing line that is missing, and bytes without an end of the line have no form
abbrev pub look_cut : Protocol → Option ℕ → Bool → Option (List ℕ × List ℕ) → Look
look_cut p from empty None = if empty then Closing else Formless
look_cut p from empty (Some cut) = look_at p from cut.0

-- what stands next
abbrev pub look_of : Protocol → Option ℕ → List ℕ → Look
look_of p node text = look_cut p node (is_empty text) (line_at text)
