-- Rows of what was found: one more row at the end.
use Rattle.std.proofs.Common.{◌≡◌, ◌∙◌, ℕ, Bool, true, false, ◌||◌, List, [], ◌∷◌, ◌++◌, Option, Some, None, refl, ap}
use Rattle.std.specs.Prelude.{is_some, slice_get, option_and_then, find, if◌then◌else◌}
use Rattle.std.specs.List.{list_all, list_any}
use Rattle.std.specs.Str.{bytes_eq}
use Rattle.std.proofs.lemmas.Bool.{or_parts, and_parts}
use Rattle.std.proofs.lemmas.List.{append-nil}
use Rattle.clap.specs.Values.{reading_of}
use Rattle.clap.specs.Walk.{Row, Rule, Text, at_row, has_row, first_of, more_values, used}
use Rattle.clap.specs.declared.builder.action.ArgAction.TheVariants.{Set}
use Rattle.clap.specs.declared.builder.value_parser.ValueParser.TheVariants as vp
use Rattle.clap.specs.declared.parser.matches.ValueSource.TheVariants.{CommandLine}

-- the row of one value
abbrev pub made : Text → Text → Row
made id value = record { id = id; values = value ∷ []; count = None; source = Some CommandLine; reading = reading_of vp.String }

-- what is built of an argument that takes one value
abbrev pub built_rule : Text → Option Text → Option ℕ → Rule
built_rule id long index = record {
  id = id;
  long = long;
  aliases = [];
  short = None;
  short_aliases = [];
  index = index;
  action = Some Set;
  range = Some (record { start_inclusive = 1; end_inclusive = 1 });
  value_names = 0;
  defaults = [];
  missing = [];
  trailing_var_arg = false;
  parser = Some vp.String;
  ignore_case = false;
  required = false;
  is_simple = true;
  is_free = true;
}

-- a row that is not there yet comes last
at_new : (id : Text) (change : Row → List Row) (missing rows : List Row) → has_row id rows ≡ false → at_row id change missing rows ≡ rows ++ missing
at_new id change missing [] none = refl
at_new id change missing (r ∷ rs) none =
    let parts = or_parts (bytes_eq r.id id) (has_row id rs) none in
    rw (parts.0, at_new id change missing rs parts.1) refl

-- the first use of an argument
pub used_new : (id : Text) (long : Option Text) (index : Option ℕ) (value : Text) (rows : List Row) → has_row id rows ≡ false
    → used (built_rule id long index) (value ∷ []) rows ≡ rows ++ made id value ∷ []
used_new id long index value rows none =
    ap (at_row id (more_values CommandLine (value ∷ [])) (made id value ∷ [])) (at_new id (λ _. []) [] rows none ∙ append-nil rows)
    ∙ at_new id (more_values CommandLine (value ∷ [])) (made id value ∷ []) rows none

-- a search over one more row
find_before : (test : Row → Bool) (r : Row) (rows : List Row) → test r ≡ false → find test (rows ++ r ∷ []) ≡ find test rows
find_before test r [] other = rw other refl
find_before test r (x ∷ xs) other = ap (λ rest. if test x then Some x else rest) (find_before test r xs other)

find_at : (test : Row → Bool) (r : Row) (rows : List Row) → list_any test rows ≡ false → test r ≡ true → find test (rows ++ r ∷ []) ≡ Some r
find_at test r [] none here = rw here refl
find_at test r (x ∷ xs) none here =
    let parts = or_parts (test x) (list_any test xs) none in
    rw (parts.0, find_at test r xs parts.1 here) refl

-- what was found before is found after
pub kept_text : (id other value : Text) (rows : List Row) → bytes_eq id other ≡ false → first_of other (rows ++ made id value ∷ []) ≡ first_of other rows
kept_text id other value rows apart =
    ap (option_and_then (λ (r : Row). slice_get r.values 0)) (find_before (λ r. bytes_eq r.id other) (made id value) rows apart)

-- and the new value is
pub new_text : (id value : Text) (rows : List Row) → has_row id rows ≡ false → bytes_eq id id ≡ true → first_of id (rows ++ made id value ∷ []) ≡ Some value
new_text id value rows none same =
    ap (option_and_then (λ (r : Row). slice_get r.values 0)) (find_at (λ r. bytes_eq r.id id) (made id value) rows none same)

-- each row has a value
abbrev pub has_value : Row → Bool
has_value r = is_some (slice_get r.values 0)

pub record IsWhole (rows : List Row) : Type 0 where
  pub each : list_all has_value rows ≡ true

added : (id value : Text) (rows : List Row) → list_all has_value rows ≡ true → list_all has_value (rows ++ made id value ∷ []) ≡ true
added id value [] each = refl
added id value (r ∷ rs) each =
    let parts = and_parts (has_value r) (list_all has_value rs) each in
    rw (parts.0, added id value rs parts.1) refl

pub whole_after : (id value : Text) (rows : List Row) → IsWhole rows → IsWhole (rows ++ made id value ∷ [])
whole_after id value rows w = record { each = added id value rows w.each }

-- a row is there exactly where its text is
seen : (test : Row → Bool) (rows : List Row) → list_all has_value rows ≡ true → list_any test rows ≡ is_some (option_and_then (λ (r : Row). slice_get r.values 0) (find test rows))
seen test [] each = refl
seen test (r ∷ rs) each =
    let parts = and_parts (has_value r) (list_all has_value rs) each in
    go (test r) parts.0 (seen test rs parts.1)
  where
    go : (b : Bool) → has_value r ≡ true → list_any test rs ≡ is_some (option_and_then (λ (r : Row). slice_get r.values 0) (find test rs))
        → (b || list_any test rs) ≡ is_some (option_and_then (λ (r : Row). slice_get r.values 0) (if b then Some r else find test rs))
    go true here rest = rw here refl
    go false here rest = rest

pub row_seen : (id : Text) (rows : List Row) → IsWhole rows → has_row id rows ≡ is_some (first_of id rows)
row_seen id rows w = seen (λ r. bytes_eq r.id id) rows w.each
