-- How far the cover lines were gone through beside the obligations.
use Rattle.std.specs.Prelude.{◌≡◌, ℕ, ◌<◌, ◌≤◌, false, List, length, Option, Some, None, slice_get, IsTrue}
use Rattle.cub_proto.specs.declared.cover.CoverLine.{CoverLine}
use Rattle.cert_check.specs.declared.cursor.Cursor.{Cursor}
use Rattle.cert_check.specs.declared.keys.Key.{Key}
use Rattle.cert_check.specs.Keys.{key_of, is_before}
use Rattle.cert_check.specs.First.{IsFirstWithout}

-- the line with that number is about what is owed
abbrev pub IsNeeded : (Key → Type 0) → List CoverLine → ℕ → Type 0
IsNeeded Owed lines l = (line : CoverLine) → slice_get lines l ≡ Some line → Owed (key_of line)

-- the first of the lines gone through that is about nothing owed, if there is one
abbrev pub IsExtra : (Key → Type 0) → List CoverLine → ℕ → Option ℕ → Type 0
IsExtra Owed lines at None = (l : ℕ) → l < at → IsNeeded Owed lines l
IsExtra Owed lines at (Some l) = IsFirstWithout (IsNeeded Owed lines) l

-- all lines gone through come before the key
pub record IsPast (lines : List CoverLine) (key : Key) (c : Cursor) : Type 0 where
  pub inside : c.at ≤ length lines
  pub before : (l : ℕ) (line : CoverLine) → l < c.at → slice_get lines l ≡ Some line → IsTrue (is_before (key_of line) key)

-- and those to come that do so are about nothing owed
pub record HasCome (Owed : Key → Type 0) (lines : List CoverLine) (key : Key) (c : Cursor) : Type 0 where
  pub past : IsPast lines key c
  pub idle : (l : ℕ) (line : CoverLine) → c.at ≤ l → slice_get lines l ≡ Some line → IsTrue (is_before (key_of line) key) → Owed (key_of line) → ⊥
  pub extra : IsExtra Owed lines c.at c.extra

-- no line gone through comes after the key, and all to come do
pub record HasTaken (Owed : Key → Type 0) (lines : List CoverLine) (key : Key) (c : Cursor) : Type 0 where
  pub inside : c.at ≤ length lines
  pub before : (l : ℕ) (line : CoverLine) → l < c.at → slice_get lines l ≡ Some line → is_before key (key_of line) ≡ false
  pub after : (l : ℕ) (line : CoverLine) → c.at ≤ l → slice_get lines l ≡ Some line → IsTrue (is_before key (key_of line))
  pub extra : IsExtra Owed lines c.at c.extra

-- no line to come is about anything owed
pub record HasEnded (Owed : Key → Type 0) (lines : List CoverLine) (c : Cursor) : Type 0 where
  pub inside : c.at ≤ length lines
  pub idle : (l : ℕ) (line : CoverLine) → c.at ≤ l → slice_get lines l ≡ Some line → Owed (key_of line) → ⊥
  pub extra : IsExtra Owed lines c.at c.extra
