-- Blanks and comments. Comments nest, and all bytes may stand inside.
use Rattle.std.specs.Prelude.{ℕ, suc, zero, ◌+◌, Bool, false, ◌&&◌, ◌||◌, ◌==◌, if◌then◌else◌, List, [], ◌∷◌, drop, Option, Some, None}

-- space, tab, line feed and carriage return
abbrev pub is_blank : ℕ → Bool
is_blank b = b == 32 || b == 9 || b == 10 || b == 13

abbrev pub starts_blank : List ℕ → Bool
starts_blank [] = false
starts_blank (b ∷ bs) = is_blank b

-- `(*`
abbrev pub is_opening : ℕ → ℕ → Bool
is_opening b c = b == 40 && c == 42

-- `*)`
abbrev pub is_closing : ℕ → ℕ → Bool
is_closing b c = b == 42 && c == 41

abbrev pub opens : List ℕ → Bool
opens [] = false
opens (b ∷ []) = false
opens (b ∷ c ∷ bs) = is_opening b c

-- Inside so many comments, with the bytes from place `at` on: where the outermost ends. The bytes are read from the
-- left, and no byte belongs to two of the pairs.
unfoldable pub end_of : ℕ → ℕ → List ℕ → Option ℕ
end_of zero at bytes = Some at
end_of (suc depth) at [] = None
end_of (suc depth) at (b ∷ []) = None
end_of (suc depth) at (b ∷ c ∷ bs) =
    if is_opening b c then end_of (suc (suc depth)) (at + 2) bs else (
    if is_closing b c then end_of depth (at + 2) bs else
    end_of (suc depth) (at + 1) (c ∷ bs))

-- how long the comment is that opens here, if it is closed
abbrev pub comment_len : List ℕ → Option ℕ
comment_len bytes = end_of 1 2 (drop 2 bytes)
