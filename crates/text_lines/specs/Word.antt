-- Words of a line: runs of bytes between blanks, brackets, commas, colons, number signs and line feeds.
use Rattle.std.specs.Prelude.{ℕ, Bool, ◌||◌, ◌==◌, not, if◌then◌else◌, List, [], ◌∷◌}

-- what stands between words: a blank, a bracket, a comma, a colon, a number sign or a line feed
abbrev pub is_separator : ℕ → Bool
is_separator b =
    b == 32 || b == 40 || b == 41 || b == 91 || b == 93 || b == 123 || b == 125 || b == 35 || b == 44 || b == 58 || b == 10

abbrev pub is_word_byte : ℕ → Bool
is_word_byte b = not (is_separator b)

-- the bytes from the first word on
abbrev pub skip : List ℕ → List ℕ
skip [] = []
skip (b ∷ bs) = if is_separator b then skip bs else b ∷ bs

-- the bytes up to the first separator
abbrev pub front : List ℕ → List ℕ
front [] = []
front (b ∷ bs) = if is_separator b then [] else b ∷ front bs

-- the bytes from the first separator on
abbrev pub back : List ℕ → List ℕ
back [] = []
back (b ∷ bs) = if is_separator b then b ∷ bs else back bs

-- the first word; empty where there is none
abbrev pub word : List ℕ → List ℕ
word bytes = front (skip bytes)

-- the bytes behind the first word
abbrev pub behind : List ℕ → List ℕ
behind bytes = back (skip bytes)
