-- The reading of a text: blanks and comments, and between them the longest tokens, up to the end or the first fault.
use Rattle.std.specs.Prelude.{◌≡◌, ℕ, ◌+◌, ◌<◌, ◌≤◌, Bool, true, false, ◌⊎◌, List, [], ◌∷◌, length, take, drop, Option, Some, None, Result, Ok, Err}
use Rattle.cub_lexer.specs.declared.fault.LexKind.{LexKind}
use Rattle.cub_lexer.specs.declared.fault.LexKind.TheVariants.{L1, L2, L3, L4}
use Rattle.cub_lexer.specs.declared.fault.LexFault.{LexFault}
use Rattle.cub_lexer.specs.declared.fault.LexFault.TheVariants as faults
use Rattle.cub_lexer.specs.declared.token.Token.{Token}
use Rattle.cub_lexer.specs.declared.token.TokenKind.{TokenKind}
use Rattle.cub_lexer.specs.declared.token.TokenKind.TheVariants.{Name, Number}
use Rattle.cub_lexer.specs.Comment.{starts_blank, opens, comment_len}
use Rattle.cub_lexer.specs.Lexeme.{kind_of}
use Rattle.cub_lexer.specs.Number.{value_of}

-- no name has more bytes
abbrev pub name_limit : ℕ
name_limit = 64

-- no number is greater
abbrev pub number_limit : ℕ
number_limit = 1000000000

-- neither a blank nor a comment begins here
abbrev pub IsBetweenGaps : List ℕ → Type 0
IsBetweenGaps t = (starts_blank t ≡ false) × (opens t ≡ false)

-- the first n bytes are a blank, or a comment up to its end
abbrev pub IsGap : ℕ → List ℕ → Type 0
IsGap n t = ((starts_blank t ≡ true) × (n ≡ 1)) ⊎ ((opens t ≡ true) × (comment_len t ≡ Some n))

-- the first n bytes are a token, and no greater number of bytes is one
pub record IsLongest (kind : TokenKind) (n : ℕ) (t : List ℕ) : Type 0 where
  pub between : IsBetweenGaps t
  pub within : n ≤ length t
  pub is_kind : kind_of (take n t) ≡ Some kind
  pub longest : (m : ℕ) → n < m → m ≤ length t → kind_of (take m t) ≡ None

-- a token within the limits
pub record IsToken (kind : TokenKind) (n : ℕ) (t : List ℕ) : Type 0 where
  pub is_longest : IsLongest kind n t
  pub small : kind ≡ Number → value_of (take n t) ≤ number_limit
  pub short : kind ≡ Name → n ≤ name_limit

-- what is wrong where the reading can't go on: the byte begins no token, the comment is not closed, the number or the
-- name is above its limit
abbrev pub IsFault : LexKind → List ℕ → Type 0
IsFault L1 t = (0 < length t) × IsBetweenGaps t × ((m : ℕ) → m ≤ length t → kind_of (take m t) ≡ None)
IsFault L2 t = (opens t ≡ true) × (comment_len t ≡ None)
IsFault L3 t = (n : ℕ) × IsLongest Number n t × (number_limit < value_of (take n t))
IsFault L4 t = (n : ℕ) × IsLongest Name n t × (name_limit < n)

-- the tokens, or the place and kind of the first fault
abbrev pub Outcome : Type 0
Outcome = Result (List Token) (ℕ × LexKind)

-- a token before the others
abbrev pub with_token : Token → Outcome → Outcome
with_token x (Ok xs) = Ok (x ∷ xs)
with_token x (Err e) = Err e

-- with these bytes from place `at` on, the reading gives this
pub data Reads : ℕ → List ℕ → Outcome → Type 0 where
  ends : {at : ℕ} → Reads at [] (Ok [])
  gap : {at : ℕ} {t : List ℕ} {o : Outcome} (n : ℕ) → IsGap n t → Reads (at + n) (drop n t) o → Reads at t o
  token : {at : ℕ} {t : List ℕ} (o : Outcome) (kind : TokenKind) (n : ℕ) → IsToken kind n t → Reads (at + n) (drop n t) o →
      (p : Outcome) → p ≡ with_token (record { kind = kind; at = at; len = n }) o → Reads at t p
  stops : {at : ℕ} {t : List ℕ} (kind : LexKind) → IsFault kind t → Reads at t (Err (at, kind))

-- what was answered is the reading of the text, unless memory ran out
abbrev pub IsFaultOf : List ℕ → LexFault → Type 0
IsFaultOf text (faults.Fault at kind) = Reads 0 text (Err (at, kind))
IsFaultOf text faults.Memory = Unit {0}

-- a text has one reading
abbrev pub OneReading : Type 0
OneReading = (at : ℕ) (t : List ℕ) (o p : Outcome) → Reads at t o → Reads at t p → o ≡ p
