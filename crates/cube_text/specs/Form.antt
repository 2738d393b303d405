-- Which bytes have the form of a cube, whatever they name. Words stand between single blanks, and `&&` between literals.
use Rattle.std.specs.Prelude.{ℕ, Bool, true, false, ◌&&◌, ◌||◌, ◌==◌, not, if◌then◌else◌, List, [], ◌∷◌, codes, bytes_eq}
use Rattle.std.specs.List.{list_all}
use Rattle.std.specs.Char.{is_ascii_digit}
use Rattle.cub_base.specs.Name.{has_name_form}

-- the parts of a list between the items that pass the test; one more than these
abbrev pub in_first : {X : Type 0} → X → List (List X) → List (List X)
in_first x [] = (x ∷ []) ∷ []
in_first x (part ∷ parts) = (x ∷ part) ∷ parts

abbrev pub parted : {X : Type 0} → (X → Bool) → List X → List (List X)
parted test [] = [] ∷ []
parted test (x ∷ xs) = if test x then [] ∷ parted test xs else in_first x (parted test xs)

abbrev pub words_of : List ℕ → List (List ℕ)
words_of text = parted (λ b. b == 32) text

abbrev pub is_and : List ℕ → Bool
is_and word = bytes_eq word (codes "&&")

-- the bytes before the first byte c, and those from it on
abbrev pub before : ℕ → List ℕ → List ℕ
before c [] = []
before c (b ∷ bs) = if b == c then [] else b ∷ before c bs

abbrev pub onward : ℕ → List ℕ → List ℕ
onward c [] = []
onward c (b ∷ bs) = if b == c then b ∷ bs else onward c bs

abbrev pub is_empty : List ℕ → Bool
is_empty [] = true
is_empty (b ∷ bs) = false

-- digits without a leading zero
abbrev pub is_number : List ℕ → Bool
is_number [] = false
is_number (d ∷ []) = is_ascii_digit d
is_number (d ∷ e ∷ ds) = is_ascii_digit d && not (d == 48) && list_all is_ascii_digit (e ∷ ds)

-- a number, or one other than 0 behind a minus
abbrev pub is_integer : List ℕ → Bool
is_integer [] = false
is_integer (b ∷ bs) = if b == 45 then is_number bs && not (bytes_eq bs (codes "0")) else is_number (b ∷ bs)

-- `#1`
abbrev pub is_place : List ℕ → Bool
is_place [] = false
is_place (b ∷ bs) = b == 35 && is_number bs

-- `[#1]`
abbrev pub is_index : List ℕ → Bool
is_index [] = false
is_index (b ∷ bs) = b == 91 && is_place (before 93 bs) && bytes_eq (onward 93 bs) (codes "]")

-- `X` or `A[#1]`
abbrev pub is_term : List ℕ → Bool
is_term word = has_name_form (before 91 word) && (is_empty (onward 91 word) || is_index (onward 91 word))

-- two sides of an equation; a place stands first only before a place
abbrev pub are_sides : List ℕ → List ℕ → Bool
are_sides a b = (is_term a && (is_term b || is_place b)) || (is_place a && is_place b)

-- a side of a difference
abbrev pub is_integer_side : List ℕ → Bool
is_integer_side word = bytes_eq word (codes "0") || is_term word

-- `{C,D}`, and `{}`
abbrev pub are_names : List ℕ → Bool
are_names bytes = is_empty bytes || list_all has_name_form (parted (λ b. b == 44) bytes)

abbrev pub is_set : List ℕ → Bool
is_set [] = false
is_set (b ∷ bs) = b == 123 && are_names (before 125 bs) && bytes_eq (onward 125 bs) (codes "}")

abbrev pub three_words : List ℕ → List ℕ → List ℕ → Bool
three_words a op b =
    ((bytes_eq op (codes "=") || bytes_eq op (codes "<>")) && are_sides a b) || (bytes_eq op (codes "in") && is_term a && is_set b)

abbrev pub five_words : List ℕ → List ℕ → List ℕ → List ℕ → List ℕ → Bool
five_words a minus b most bound =
    bytes_eq minus (codes "-") && bytes_eq most (codes "<=") && is_integer_side a && is_integer_side b && is_integer bound

-- the words of a literal
abbrev pub is_literal : List (List ℕ) → Bool
is_literal [] = false
is_literal (a ∷ []) = false
is_literal (a ∷ b ∷ []) = false
is_literal (a ∷ op ∷ b ∷ []) = three_words a op b
is_literal (a ∷ b ∷ c ∷ d ∷ []) = false
is_literal (a ∷ minus ∷ b ∷ most ∷ bound ∷ []) = five_words a minus b most bound
is_literal (a ∷ b ∷ c ∷ d ∷ e ∷ f ∷ gs) = false

-- the one word `true`
abbrev pub is_true_word : List (List ℕ) → Bool
is_true_word [] = false
is_true_word (w ∷ []) = bytes_eq w (codes "true")
is_true_word (w ∷ v ∷ vs) = false

abbrev pub are_literals : List (List ℕ) → Bool
are_literals words = is_true_word words || list_all is_literal (parted is_and words)

-- `cube`, the width with its colon, and literals
abbrev pub is_cube : List (List ℕ) → Bool
is_cube [] = false
is_cube (c ∷ []) = false
is_cube (c ∷ width ∷ words) =
    bytes_eq c (codes "cube") && is_number (before 58 width) && bytes_eq (onward 58 width) (codes ":") && are_literals words

abbrev pub has_form : List ℕ → Bool
has_form text = is_cube (words_of text)
