-- Words that stand apart, by their kinds alone. Each word is of a class that says how it is spelled, and how what follows
-- it must begin (its seam). Whether marks fit one another is then computed from left to right.
use Rattle.std.proofs.Common.{◌≡◌, ℕ, ◌≤◌, Bool, true, false, List, [], ◌∷◌, ◌++◌, Option, Some, None, refl, ◌∙◌}
use Rattle.std.specs.Prelude.{◌==◌, IsTrue, not, if◌then◌else◌, codes, flat_map}
use Rattle.std.specs.List.{list_any}
use Rattle.std.specs.Fmt.{decimal}
use Rattle.cub_base.specs.Name.{is_declarable}
use Rattle.cub_lexer.specs.declared.token.TokenKind.{TokenKind}
use Rattle.cub_lexer.specs.declared.token.TokenKind.TheVariants as k
use Rattle.cub_print.specs.Mark.{Mark, gap, word}

-- any byte but a star; a blank or a sign that ends a word; a blank
pub data Seam : Type 0 where
  free : Seam
  held : Seam
  tight : Seam

abbrev pub gaps : List ℕ
gaps = 32 ∷ 10 ∷ []

abbrev pub ends : List ℕ
ends = 32 ∷ 10 ∷ 91 ∷ 93 ∷ 41 ∷ 46 ∷ 59 ∷ []

abbrev pub is_among : List ℕ → ℕ → Bool
is_among bytes b = list_any (λ c. b == c) bytes

abbrev pub front : Seam → ℕ → Bool
front free b = not (b == 42)
front held b = is_among ends b
front tight b = is_among gaps b

-- bytes that begin so
abbrev pub Front : Seam → List ℕ → Type 0
Front seam [] = Unit {0}
Front seam (b ∷ bs) = IsTrue (front seam b)

pub data Class : Type 0 where
  named : Class
  numeral : Class
  fixed : List ℕ → Seam → Class
  unprinted : Class

abbrev pub class_of : TokenKind → Class
class_of k.Name = named
class_of k.Number = numeral
class_of k.TypeWord = fixed (codes "type") held
class_of k.VarWord = fixed (codes "var") held
class_of k.ArrayWord = fixed (codes "array") held
class_of k.InitWord = fixed (codes "init") held
class_of k.UnsafeWord = fixed (codes "unsafe") held
class_of k.InvariantWord = unprinted
class_of k.TransitionWord = fixed (codes "transition") held
class_of k.RequiresWord = fixed (codes "requires") held
class_of k.ForallOtherWord = fixed (codes "forall_other") held
class_of k.CaseWord = fixed (codes "case") held
class_of k.NotWord = unprinted
class_of k.ProcWord = fixed (codes "proc") held
class_of k.BoolWord = fixed (codes "bool") held
class_of k.IntWord = fixed (codes "int") held
class_of k.Underscore = fixed (codes "_") held
class_of k.BraceOpen = fixed (codes "{") free
class_of k.BraceClose = fixed (codes "}") held
class_of k.ParenOpen = fixed (codes "(") free
class_of k.ParenClose = fixed (codes ")") held
class_of k.BracketOpen = fixed (codes "[") free
class_of k.BracketClose = fixed (codes "]") held
class_of k.Bar = fixed (codes "|") tight
class_of k.Colon = fixed (codes ":") tight
class_of k.Semicolon = fixed (codes ";") free
class_of k.Dot = fixed (codes ".") free
class_of k.Comma = unprinted
class_of k.Equal = fixed (codes "=") free
class_of k.Less = fixed (codes "<") tight
class_of k.Greater = unprinted
class_of k.Plus = fixed (codes "+") free
class_of k.Minus = fixed (codes "-") free
class_of k.Star = unprinted
class_of k.Question = fixed (codes "?") held
class_of k.Assign = fixed (codes ":=") free
class_of k.NotEqual = fixed (codes "<>") free
class_of k.LessOrEqual = fixed (codes "<=") free
class_of k.GreaterOrEqual = unprinted
class_of k.And = fixed (codes "&&") free
class_of k.Or = fixed (codes "||") free

-- what must follow a word of the class
abbrev pub behind : Class → Seam
behind named = held
behind numeral = held
behind (fixed spelling seam) = seam
behind unprinted = held

-- the bytes are a word of the class
abbrev pub IsOfClass : Class → List ℕ → Type 0
IsOfClass named bytes = IsTrue (is_declarable bytes)
IsOfClass numeral bytes = (n : ℕ) × (n ≤ 1000000000) × (bytes ≡ decimal n)
IsOfClass (fixed spelling seam) bytes = bytes ≡ spelling
IsOfClass unprinted bytes = ⊥

abbrev pub starts : Seam → List ℕ → Bool
starts seam [] = false
starts seam (b ∷ bs) = front seam b

abbrev pub is_free : Seam → Bool
is_free free = true
is_free held = false
is_free tight = false

-- a word of the class may stand at the seam
abbrev pub may_follow : Seam → Class → Bool
may_follow seam named = is_free seam
may_follow seam numeral = is_free seam
may_follow seam (fixed spelling after) = starts seam spelling
may_follow seam unprinted = false

-- each word is of its class
abbrev pub Lawful : List Mark → Type 0
Lawful [] = Unit {0}
Lawful (gap b ∷ ms) = Lawful ms
Lawful (word kind bytes ∷ ms) = IsOfClass (class_of kind) bytes × Lawful ms

-- the seam behind all marks, if each may stand where it does
abbrev pub walk : Seam → List Mark → Option Seam
walk seam [] = Some seam
walk seam (gap b ∷ ms) = if is_among gaps b then walk free ms else None
walk seam (word kind bytes ∷ ms) = if may_follow seam (class_of kind) then walk (behind (class_of kind)) ms else None

-- marks that go on from one seam to the other
abbrev pub Goes : Seam → List Mark → Seam → Type 0
Goes from ms to = walk from ms ≡ Some to

none_of : {A : Type 0} (b : Bool) (x : Option A) (y : A) → (if b then x else None) ≡ Some y → b ≡ true
none_of true x y h = refl
none_of false x y h = cc

then_of : {A : Type 0} (b : Bool) (x : Option A) (y : A) → (if b then x else None) ≡ Some y → x ≡ Some y
then_of true x y h = h
then_of false x y h = cc

pub gap_fits : (seam to : Seam) (b : ℕ) (ms : List Mark) → Goes seam (gap b ∷ ms) to → IsTrue (is_among gaps b)
gap_fits seam to b ms h = none_of (is_among gaps b) _ _ h

pub gap_rest : (seam to : Seam) (b : ℕ) (ms : List Mark) → Goes seam (gap b ∷ ms) to → Goes free ms to
gap_rest seam to b ms h = then_of (is_among gaps b) _ _ h

pub word_fits : (seam to : Seam) (kind : TokenKind) (bytes : List ℕ) (ms : List Mark) → Goes seam (word kind bytes ∷ ms) to → IsTrue (may_follow seam (class_of kind))
word_fits seam to kind bytes ms h = none_of (may_follow seam (class_of kind)) _ _ h

pub word_rest : (seam to : Seam) (kind : TokenKind) (bytes : List ℕ) (ms : List Mark) → Goes seam (word kind bytes ∷ ms) to → Goes (behind (class_of kind)) ms to
word_rest seam to kind bytes ms h = then_of (may_follow seam (class_of kind)) _ _ h

-- marks behind marks
pub on : (from mid : Seam) (a b : List Mark) → Goes from a mid → walk from (a ++ b) ≡ walk mid b
on from mid [] b h = let same : from ≡ mid = cc in rw same refl
on from mid (gap byte ∷ a) b h = rw (gap_fits from mid byte a h) (on free mid a b (gap_rest from mid byte a h))
on from mid (word kind bytes ∷ a) b h =
    rw (word_fits from mid kind bytes a h) (on (behind (class_of kind)) mid a b (word_rest from mid kind bytes a h))

pub goes_on : (from mid to : Seam) (a b : List Mark) → Goes from a mid → Goes mid b to → Goes from (a ++ b) to
goes_on from mid to a b h g = on from mid a b h ∙ g

pub lawful_on : (a b : List Mark) → Lawful a → Lawful b → Lawful (a ++ b)
lawful_on [] b h g = g
lawful_on (gap byte ∷ a) b h g = lawful_on a b h g
lawful_on (word kind bytes ∷ a) b h g = (h.0, lawful_on a b h.1 g)

-- the same marks for each item
pub goes_each : {A : Type 0} (seam : Seam) (f : A → List Mark) (xs : List A) → ((x : A) → Goes seam (f x) seam) → Goes seam (flat_map f xs) seam
goes_each seam f [] h = refl
goes_each seam f (x ∷ xs) h = goes_on seam seam seam (f x) (flat_map f xs) (h x) (goes_each seam f xs h)

-- a fact of each item
abbrev pub Every : {A : Type 0} → (A → Type 0) → List A → Type 0
Every P [] = Unit {0}
Every P (x ∷ xs) = P x × Every P xs

pub lawful_each : {A : Type 0} (P : A → Type 0) (f : A → List Mark) (xs : List A) → ((x : A) → P x → Lawful (f x)) → Every P xs → Lawful (flat_map f xs)
lawful_each P f [] h e = tt
lawful_each P f (x ∷ xs) h e = lawful_on (f x) (flat_map f xs) (h x e.0) (lawful_each P f xs h e.1)
