-- What was found so far, against what the reading was given so far.
use Rattle.std.proofs.Common.{◌≡◌, ◌∙◌, ◌⊎◌, inl, inr, ℕ, true, false, List, [], ◌∷◌, ◌++◌, Option, Some, refl, ap, sym, subst, codes}
use Rattle.std.specs.Prelude.{is_some, option_map, option_and_then}
use Rattle.std.specs.Str.{bytes_eq}
use Rattle.clap.specs.Walk.{Row, Text, first_of, has_row}
use Rattle.cub_words.specs.declared.given.Given.{Given}
use Rattle.cub_words.specs.declared.table.CommandName.{CommandName}
use Rattle.cub_words.specs.declared.table.OptionName.{OptionName}
use Rattle.cub_words.specs.Table.{least_of, greatest_of}
use Rattle.cub_words.specs.Words.{number_within}
use Rattle.cub_words.specs.Given.{value_given, with_value}
use Rattle.cub_words.specs.Reading.{word_at}
use Rattle.word_parser.specs.Found.{name_of}
use Rattle.word_parser.proofs.Rows.{IsWhole, made, kept_text, new_text, row_seen, whole_after}

-- ---- names and values apart from one another

apart_command : (o : OptionName) → bytes_eq (name_of o) (codes "command") ≡ false
apart_command OptionName.Workers = refl
apart_command OptionName.Cubes = refl
apart_command OptionName.Width = refl
apart_command OptionName.Format = refl

apart_first : (o : OptionName) → bytes_eq (name_of o) (codes "first") ≡ false
apart_first OptionName.Workers = refl
apart_first OptionName.Cubes = refl
apart_first OptionName.Width = refl
apart_first OptionName.Format = refl

apart_second : (o : OptionName) → bytes_eq (name_of o) (codes "second") ≡ false
apart_second OptionName.Workers = refl
apart_second OptionName.Cubes = refl
apart_second OptionName.Width = refl
apart_second OptionName.Format = refl

first_apart : (o : OptionName) → bytes_eq (codes "first") (name_of o) ≡ false
first_apart OptionName.Workers = refl
first_apart OptionName.Cubes = refl
first_apart OptionName.Width = refl
first_apart OptionName.Format = refl

second_apart : (o : OptionName) → bytes_eq (codes "second") (name_of o) ≡ false
second_apart OptionName.Workers = refl
second_apart OptionName.Cubes = refl
second_apart OptionName.Width = refl
second_apart OptionName.Format = refl

pub same_name : (o : OptionName) → bytes_eq (name_of o) (name_of o) ≡ true
same_name OptionName.Workers = refl
same_name OptionName.Cubes = refl
same_name OptionName.Width = refl
same_name OptionName.Format = refl

own : (o : OptionName) (value : ℕ) (g : Given) → value_given o (with_value o value g) ≡ Some value
own OptionName.Workers value g = refl
own OptionName.Cubes value g = refl
own OptionName.Width value g = refl
own OptionName.Format value g = refl

-- another option keeps its value
IsOther : ℕ → Given → OptionName → OptionName → Type 0
IsOther value g o p = (bytes_eq (name_of o) (name_of p) ≡ false) × (value_given p (with_value o value g) ≡ value_given p g)

other : (value : ℕ) (g : Given) (o p : OptionName) → (o ≡ p) ⊎ IsOther value g o p
unfolding IsOther
other value g OptionName.Workers OptionName.Workers = inl refl
other value g OptionName.Workers OptionName.Cubes = inr (refl, refl)
other value g OptionName.Workers OptionName.Width = inr (refl, refl)
other value g OptionName.Workers OptionName.Format = inr (refl, refl)
other value g OptionName.Cubes OptionName.Workers = inr (refl, refl)
other value g OptionName.Cubes OptionName.Cubes = inl refl
other value g OptionName.Cubes OptionName.Width = inr (refl, refl)
other value g OptionName.Cubes OptionName.Format = inr (refl, refl)
other value g OptionName.Width OptionName.Workers = inr (refl, refl)
other value g OptionName.Width OptionName.Cubes = inr (refl, refl)
other value g OptionName.Width OptionName.Width = inl refl
other value g OptionName.Width OptionName.Format = inr (refl, refl)
other value g OptionName.Format OptionName.Workers = inr (refl, refl)
other value g OptionName.Format OptionName.Cubes = inr (refl, refl)
other value g OptionName.Format OptionName.Width = inr (refl, refl)
other value g OptionName.Format OptionName.Format = inl refl

pub same_values : (g more : Given) → more.workers ≡ g.workers → more.cubes ≡ g.cubes → more.width ≡ g.width → more.format ≡ g.format
    → (o : OptionName) → value_given o more ≡ value_given o g
same_values g more workers cubes width format OptionName.Workers = workers
same_values g more workers cubes width format OptionName.Cubes = cubes
same_values g more workers cubes width format OptionName.Width = width
same_values g more workers cubes width format OptionName.Format = format

-- ---- the files of the words

module _ (all : List Text) where
  abbrev pub at_word : ℕ → Text
  at_word number = word_at all (Some number)

  abbrev pub are_files : Option ℕ → Option ℕ → Option Text → Option Text → Type 0
  are_files first second a b = (a ≡ option_map at_word first) × (b ≡ option_map at_word second)

  abbrev pub are_levels : Option ℕ → Option Text → Type 0
  are_levels levels a = (option_and_then (number_within 2 63) a ≡ levels) × (is_some a ≡ is_some levels)

  abbrev pub NamesFit : CommandName → Option ℕ → Option ℕ → Option ℕ → Option Text → Option Text → Type 0
  NamesFit CommandName.Check first second levels a b = are_files first second a b
  NamesFit CommandName.Verify first second levels a b = are_files first second a b
  NamesFit CommandName.Replay first second levels a b = are_files first second a b
  NamesFit CommandName.Print first second levels a b = are_files first second a b
  NamesFit CommandName.Sample first second levels a b = are_levels levels a

  -- what was found is what was given
  pub record Fits (command : CommandName) (g : Given) (rows : List Row) : Type 0 where
    pub whole : IsWhole rows
    pub named : first_of (codes "command") rows ≡ Some (at_word 1)
    pub names : NamesFit command g.first g.second g.levels (first_of (codes "first") rows) (first_of (codes "second") rows)
    pub order : is_some (first_of (codes "first") rows) ≡ false → is_some (first_of (codes "second") rows) ≡ false
    pub values : (o : OptionName) → option_and_then (number_within (least_of o) (greatest_of o)) (first_of (name_of o) rows) ≡ value_given o g
    pub given : (o : OptionName) → is_some (first_of (name_of o) rows) ≡ is_some (value_given o g)

  -- one more value of an option
  module _ (command : CommandName) (o : OptionName) (word : Text) (value : ℕ) (g : Given) (rows : List Row) (f : Fits command g rows)
      (none : is_some (value_given o g) ≡ false) (number : number_within (least_of o) (greatest_of o) word ≡ Some value) where
    abbrev after : List Row
    after = rows ++ made (name_of o) word ∷ []

    pub option_new : has_row (name_of o) rows ≡ false
    option_new = row_seen (name_of o) rows f.whole ∙ f.given o ∙ none

    found : first_of (name_of o) after ≡ Some word
    found = new_text (name_of o) word rows option_new (same_name o)

    pub option_first : first_of (codes "first") after ≡ first_of (codes "first") rows
    option_first = kept_text (name_of o) (codes "first") word rows (apart_first o)

    pub option_second : first_of (codes "second") after ≡ first_of (codes "second") rows
    option_second = kept_text (name_of o) (codes "second") word rows (apart_second o)

    kept_first : (p : OptionName) → (with_value p value g).first ≡ g.first
    kept_first OptionName.Workers = refl
    kept_first OptionName.Cubes = refl
    kept_first OptionName.Width = refl
    kept_first OptionName.Format = refl

    kept_second : (p : OptionName) → (with_value p value g).second ≡ g.second
    kept_second OptionName.Workers = refl
    kept_second OptionName.Cubes = refl
    kept_second OptionName.Width = refl
    kept_second OptionName.Format = refl

    kept_levels : (p : OptionName) → (with_value p value g).levels ≡ g.levels
    kept_levels OptionName.Workers = refl
    kept_levels OptionName.Cubes = refl
    kept_levels OptionName.Width = refl
    kept_levels OptionName.Format = refl

    abbrev Value : OptionName → Type 0
    Value p = option_and_then (number_within (least_of p) (greatest_of p)) (first_of (name_of p) after) ≡ value_given p (with_value o value g)

    abbrev GivenOnce : OptionName → Type 0
    GivenOnce p = is_some (first_of (name_of p) after) ≡ is_some (value_given p (with_value o value g))

    values_after : (p : OptionName) → Value p
    unfolding IsOther
    values_after p =
        elim (other value g o p) [
          | inl e ↦ subst (λ (q : OptionName). Value q) e (ap (option_and_then (number_within (least_of o) (greatest_of o))) found ∙ number ∙ sym (own o value g))
          | inr h ↦ ap (option_and_then (number_within (least_of p) (greatest_of p))) (kept_text (name_of o) (name_of p) word rows h.0) ∙ f.values p ∙ sym h.1
        ]

    given_after : (p : OptionName) → GivenOnce p
    unfolding IsOther
    given_after p =
        elim (other value g o p) [
          | inl e ↦ subst (λ (q : OptionName). GivenOnce q) e (ap is_some found ∙ sym (ap is_some (own o value g)))
          | inr h ↦ ap is_some (kept_text (name_of o) (name_of p) word rows h.0) ∙ f.given p ∙ sym (ap is_some h.1)
        ]

    pub option_fits : Fits command (with_value o value g) after
    option_fits = record {
      whole = whole_after (name_of o) word rows f.whole;
      named = kept_text (name_of o) (codes "command") word rows (apart_command o) ∙ f.named;
      names = rw (kept_first o, kept_second o, kept_levels o, option_first, option_second) f.names;
      order = rw (option_first, option_second) f.order;
      values = values_after;
      given = given_after;
    }

  -- an option whose value is to come
  pub waiting_fits : (command : CommandName) (waiting : Option OptionName) (g : Given) (rows : List Row) → Fits command g rows → Fits command (record g { waiting = waiting }) rows
  waiting_fits command waiting g rows f =
      let same = same_values g (record g { waiting = waiting }) refl refl refl refl in
      record {
        whole = f.whole;
        named = f.named;
        names = f.names;
        order = f.order;
        values = λ o. f.values o ∙ sym (same o);
        given = λ o. f.given o ∙ sym (ap is_some (same o));
      }

  -- one more name, the first
  module _ (command : CommandName) (word : Text) (g more : Given) (rows : List Row) (f : Fits command g rows)
      (none : is_some (first_of (codes "first") rows) ≡ false) (same : (o : OptionName) → value_given o more ≡ value_given o g) where
    pub first_new : has_row (codes "first") rows ≡ false
    first_new = row_seen (codes "first") rows f.whole ∙ none

    pub first_found : first_of (codes "first") (rows ++ made (codes "first") word ∷ []) ≡ Some word
    first_found = new_text (codes "first") word rows first_new refl

    pub first_second : first_of (codes "second") (rows ++ made (codes "first") word ∷ []) ≡ first_of (codes "second") rows
    first_second = kept_text (codes "first") (codes "second") word rows refl

    pub first_fits : NamesFit command more.first more.second more.levels (Some word) (first_of (codes "second") rows) → Fits command more (rows ++ made (codes "first") word ∷ [])
    first_fits names = record {
      whole = whole_after (codes "first") word rows f.whole;
      named = kept_text (codes "first") (codes "command") word rows refl ∙ f.named;
      names = rw (first_found, first_second) names;
      order = rw first_found (λ e. cc);
      values = λ o. ap (option_and_then (number_within (least_of o) (greatest_of o))) (kept_text (codes "first") (name_of o) word rows (first_apart o)) ∙ f.values o ∙ sym (same o);
      given = λ o. ap is_some (kept_text (codes "first") (name_of o) word rows (first_apart o)) ∙ f.given o ∙ sym (ap is_some (same o));
    }

  -- the second
  module _ (command : CommandName) (word : Text) (g more : Given) (rows : List Row) (f : Fits command g rows)
      (some : is_some (first_of (codes "first") rows) ≡ true) (none : is_some (first_of (codes "second") rows) ≡ false)
      (same : (o : OptionName) → value_given o more ≡ value_given o g) where
    pub second_new : has_row (codes "second") rows ≡ false
    second_new = row_seen (codes "second") rows f.whole ∙ none

    pub second_found : first_of (codes "second") (rows ++ made (codes "second") word ∷ []) ≡ Some word
    second_found = new_text (codes "second") word rows second_new refl

    pub second_first : first_of (codes "first") (rows ++ made (codes "second") word ∷ []) ≡ first_of (codes "first") rows
    second_first = kept_text (codes "second") (codes "first") word rows refl

    pub second_fits : NamesFit command more.first more.second more.levels (first_of (codes "first") rows) (Some word) → Fits command more (rows ++ made (codes "second") word ∷ [])
    second_fits names = record {
      whole = whole_after (codes "second") word rows f.whole;
      named = kept_text (codes "second") (codes "command") word rows refl ∙ f.named;
      names = rw (second_found, second_first) names;
      order = rw (second_first, some) (λ e. cc);
      values = λ o. ap (option_and_then (number_within (least_of o) (greatest_of o))) (kept_text (codes "second") (name_of o) word rows (second_apart o)) ∙ f.values o ∙ sym (same o);
      given = λ o. ap is_some (kept_text (codes "second") (name_of o) word rows (second_apart o)) ∙ f.given o ∙ sym (ap is_some (same o));
    }
