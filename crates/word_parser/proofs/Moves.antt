-- One more word of the reading is one more word of the walk.
use Rattle.std.proofs.Common.{◌≡◌, ◌∙◌, ℕ, Bool, true, false, not, List, ◌∷◌, Option, Some, None, Ok, Err, Result, refl, ap, sym, subst, codes}
use Rattle.std.specs.Prelude.{is_some, if◌then◌else◌, option_map}
use Rattle.clap.specs.Simple.{Shape}
use Rattle.clap.specs.Walk.{Held, Row, Text, Walk, idle, option, first_of}
use Rattle.cub_words.specs.declared.given.Given.{Given}
use Rattle.cub_words.specs.declared.request.WordsFault.{WordsFault}
use Rattle.cub_words.specs.declared.request.WordsKind.TheVariants.{U4, U8, U9}
use Rattle.cub_words.specs.declared.table.CommandName.{CommandName}
use Rattle.cub_words.specs.declared.table.OptionName.{OptionName}
use Rattle.cub_words.specs.Table.{option_named, has_option, least_of, greatest_of}
use Rattle.cub_words.specs.Words.{is_marked, name_part, number_within, value_part}
use Rattle.cub_words.specs.Given.{is_full, value_given, with_file, with_value}
use Rattle.cub_words.specs.Reading.{fault, given_option, named_option, step, step_of, taken, wanted_name, with_levels, with_option}
use Rattle.word_parser.specs.Found.{name_of}
use Rattle.word_parser.proofs.Steps.{walk_at}
use Rattle.word_parser.proofs.WordForms.{IsPlainWord, plain_word}
use Rattle.word_parser.proofs.Fitting.{Fits, NamesFit, are_files, at_word, same_values}
use Rattle.word_parser.proofs.OneWord.{Awaits, IsLine, IsSettled, IsWaiting, Stepped, first_step, option_is, option_step, place, second_step, value_step, valued_step, waiting_for}

settled_value : (o : OptionName) (value : ℕ) (g : Given) → (with_value o value g).waiting ≡ None
settled_value OptionName.Workers value g = refl
settled_value OptionName.Cubes value g = refl
settled_value OptionName.Width value g = refl
settled_value OptionName.Format value g = refl

module _ (s : Shape) (t : IsLine s) (all : List Text) (command : CommandName) (number : ℕ) (word : Text) (here : at_word all number ≡ word) (g done : Given)
    (h : Held) (rows : List Row) (f : Fits all command g rows) where
  abbrev Comes : Given → Walk → Type 0
  Comes more walk = Stepped s t all command more more.waiting walk word

  -- what was given is the end of this word
  ends : (more : Given) (waiting : Option OptionName) (walk : Walk) → more.waiting ≡ waiting → more ≡ done → Stepped s t all command more waiting walk word → Comes done walk
  ends more waiting walk is same stepped =
      subst (λ (x : Given). Comes x walk) same (subst (λ (w : Option OptionName). Stepped s t all command more w walk word) (sym is) stepped)

  module _ (o : OptionName) where
    -- a value, in its own word
    value_comes : IsWaiting s t all command g o h rows → (r : Option ℕ) → number_within (least_of o) (greatest_of o) word ≡ r
        → taken o number r g ≡ Ok done → Comes done (walk_at (option (name_of o)) h (place rows))
    value_comes w (Some value) is given =
        ends (with_value o value g) None (walk_at (option (name_of o)) h (place rows)) (settled_value o value g) (cc) (value_step s t all command o word value g h rows f w is)
    value_comes w None is given = cc

    -- a value, in the word of its option
    valued_comes : IsSettled s t all command h rows → name_part word ≡ 45 ∷ 45 ∷ name_of o → is_some (value_given o g) ≡ false → (text : Text) → value_part word ≡ Some text
        → (r : Option ℕ) → number_within (least_of o) (greatest_of o) text ≡ r → taken o number r g ≡ Ok done → Comes done (walk_at idle h (place rows))
    valued_comes settled named none text behind (Some value) is given =
        ends (with_value o value g) None (walk_at idle h (place rows)) (settled_value o value g) (cc)
        (valued_step s t all command o word text value g h rows f settled named behind none is)
    valued_comes settled named none text behind None is given = cc

    new_comes : IsSettled s t all command h rows → name_part word ≡ 45 ∷ 45 ∷ name_of o → is_some (value_given o g) ≡ false → (v : Option Text) → value_part word ≡ v
        → given_option o number v g ≡ Ok done → Comes done (walk_at idle h (place rows))
    new_comes settled named none (Some text) behind given = valued_comes settled named none text behind (number_within (least_of o) (greatest_of o) text) refl given
    new_comes settled named none None behind given =
        ends (record g { waiting = Some o }) (Some o) (walk_at idle h (place rows)) refl (cc) (option_step s t all command o word g h rows f settled named behind none)

    -- an option
    option_comes : IsSettled s t all command h rows → name_part word ≡ 45 ∷ 45 ∷ name_of o → with_option command o number (value_part word) g ≡ Ok done
        → Comes done (walk_at idle h (place rows))
    option_comes settled named given = own (not (has_option command o)) given
      where
        once : (b : Bool) → is_some (value_given o g) ≡ b → (if b then fault number U8 else given_option o number (value_part word) g) ≡ Ok done
            → Comes done (walk_at idle h (place rows))
        once true is e = cc
        once false is e = new_comes settled named is (value_part word) refl e

        own : (b : Bool) → (if b then fault number U9 else if is_some (value_given o g) then fault number U8 else given_option o number (value_part word) g) ≡ Ok done
            → Comes done (walk_at idle h (place rows))
        own true e = cc
        own false e = once (is_some (value_given o g)) refl e

  marked_comes : IsSettled s t all command h rows → (r : Option OptionName) → option_named (name_part word) ≡ r → named_option command r number (value_part word) g ≡ Ok done
      → Comes done (walk_at idle h (place rows))
  marked_comes settled (Some o) is given = option_comes o settled (option_is (name_part word) o is) given
  marked_comes settled None is given = cc

  -- ---- names

  -- a file where the command has files
  abbrev HasFiles : Type 0
  HasFiles = (first second levels : Option ℕ) (a b : Option Text) → are_files all first second a b → NamesFit all command first second levels a b

  first_file : IsSettled s t all command h rows → IsPlainWord word → HasFiles → g.first ≡ None → g.waiting ≡ None
      → are_files all g.first g.second (first_of (codes "first") rows) (first_of (codes "second") rows)
      → record g { first = Some number } ≡ done → Comes done (walk_at idle h (place rows))
  first_file settled plain files none idle_is fits same =
      let empty : is_some (first_of (codes "first") rows) ≡ false = ap is_some (fits.0 ∙ ap (option_map (at_word all)) none) in
      ends (record g { first = Some number }) None (walk_at idle h (place rows)) idle_is same
      (first_step s t all command word h rows g (record g { first = Some number }) f plain settled empty (same_values g (record g { first = Some number }) refl refl refl refl)
      (files (Some number) g.second g.levels (Some word) (first_of (codes "second") rows) (ap Some (sym here), fits.1)))

  second_file : IsSettled s t all command h rows → IsPlainWord word → HasFiles → is_some g.first ≡ true → is_some g.second ≡ false → g.waiting ≡ None
      → are_files all g.first g.second (first_of (codes "first") rows) (first_of (codes "second") rows)
      → record g { second = Some number } ≡ done → Comes done (walk_at idle h (place rows))
  second_file settled plain files some none idle_is fits same =
      let mapped : (x : Option ℕ) → is_some (option_map (at_word all) x) ≡ is_some x = mapped_some in
      let full : is_some (first_of (codes "first") rows) ≡ true = ap is_some fits.0 ∙ mapped g.first ∙ some in
      let empty : is_some (first_of (codes "second") rows) ≡ false = ap is_some fits.1 ∙ mapped g.second ∙ none in
      ends (record g { second = Some number }) None (walk_at idle h (place rows)) idle_is same
      (second_step s t all command word h rows g (record g { second = Some number }) f plain settled full empty (same_values g (record g { second = Some number }) refl refl refl refl)
      (files g.first (Some number) g.levels (first_of (codes "first") rows) (Some word) (fits.0, ap Some (sym here))))
    where
      mapped_some : (x : Option ℕ) → is_some (option_map (at_word all) x) ≡ is_some x
      mapped_some (Some n) = refl
      mapped_some None = refl

  file_comes : IsSettled s t all command h rows → IsPlainWord word → HasFiles → g.waiting ≡ None
      → are_files all g.first g.second (first_of (codes "first") rows) (first_of (codes "second") rows)
      → (is_some g.first ≡ true → is_some g.second ≡ false) → with_file number g ≡ done → Comes done (walk_at idle h (place rows))
  file_comes settled plain files idle_is fits free same = split g.first refl same
    where
      split : (x : Option ℕ) → g.first ≡ x → (if is_some x then record g { second = Some number } else record g { first = Some number }) ≡ done
          → Comes done (walk_at idle h (place rows))
      split (Some n) is e = second_file settled plain files (ap is_some is) (free (ap is_some is)) idle_is fits e
      split None is e = first_file settled plain files is idle_is fits e

  levels_come : IsSettled s t all command h rows → IsPlainWord word → g.waiting ≡ None → is_some (first_of (codes "first") rows) ≡ false
      → ((levels : ℕ) → number_within 2 63 word ≡ Some levels → NamesFit all command g.first g.second (Some levels) (Some word) (first_of (codes "second") rows))
      → (r : Option ℕ) → number_within 2 63 word ≡ r → with_levels number r g ≡ Ok done → Comes done (walk_at idle h (place rows))
  levels_come settled plain idle_is none names (Some levels) is given =
      ends (record g { levels = Some levels }) None (walk_at idle h (place rows)) idle_is (cc)
      (first_step s t all command word h rows g (record g { levels = Some levels }) f plain settled none (same_values g (record g { levels = Some levels }) refl refl refl refl) (names levels is))
  levels_come settled plain idle_is none names None is given = cc

-- what passed a test that refuses
passed : (b : Bool) (e : WordsFault) (x : Result Given WordsFault) (done : Given) → (if b then Err e else x) ≡ Ok done → (b ≡ false) × (x ≡ Ok done)
passed true e x done given = cc
passed false e x done given = (refl, given)

module _ (s : Shape) (t : IsLine s) (all : List Text) where
  name_comes : (command : CommandName) (number : ℕ) (word : Text) (here : at_word all number ≡ word) (g done : Given) (h : Held) (rows : List Row)
      (f : Fits all command g rows) → IsSettled s t all command h rows → IsPlainWord word → g.waiting ≡ None
      → (if is_full command g then fault number U4 else wanted_name command number word g) ≡ Ok done
      → Comes s t all command number word here g done h rows f done (walk_at idle h (place rows))
  name_comes CommandName.Check number word here g done h rows f settled plain idle_is given =
      let p = passed (is_some g.first) (record { word = number; kind = U4 }) (Ok (with_file number g)) done given in
      file_comes s t all CommandName.Check number word here g done h rows f settled plain (λ first second levels a b fits. fits) idle_is f.names (λ some. cc) (cc)
  name_comes CommandName.Print number word here g done h rows f settled plain idle_is given =
      let p = passed (is_some g.first) (record { word = number; kind = U4 }) (Ok (with_file number g)) done given in
      file_comes s t all CommandName.Print number word here g done h rows f settled plain (λ first second levels a b fits. fits) idle_is f.names (λ some. cc) (cc)
  name_comes CommandName.Verify number word here g done h rows f settled plain idle_is given =
      let p = passed (is_some g.second) (record { word = number; kind = U4 }) (Ok (with_file number g)) done given in
      file_comes s t all CommandName.Verify number word here g done h rows f settled plain (λ first second levels a b fits. fits) idle_is f.names (λ some. p.0) (cc)
  name_comes CommandName.Replay number word here g done h rows f settled plain idle_is given =
      let p = passed (is_some g.second) (record { word = number; kind = U4 }) (Ok (with_file number g)) done given in
      file_comes s t all CommandName.Replay number word here g done h rows f settled plain (λ first second levels a b fits. fits) idle_is f.names (λ some. p.0) (cc)
  name_comes CommandName.Sample number word here g done h rows f settled plain idle_is given =
      let p = passed (is_some g.levels) (record { word = number; kind = U4 }) (with_levels number (number_within 2 63 word) g) done given in
      levels_come s t all CommandName.Sample number word here g done h rows f settled plain idle_is (f.names.1 ∙ p.0) (λ levels is. (is, refl))
      (number_within 2 63 word) refl p.1

  pub one_step : (command : CommandName) (number : ℕ) (word : Text) (here : at_word all number ≡ word) (g done : Given) (h : Held) (rows : List Row)
      (f : Fits all command g rows) → Awaits s t all command g g.waiting h rows → step command number word g ≡ Ok done
      → Stepped s t all command done done.waiting (walk_at (waiting_for s t all command g.waiting) h (place rows)) word
  one_step command number word here g done h rows f awaits given = go g.waiting refl awaits given
    where
      marks : (b : Bool) → is_marked word ≡ b → g.waiting ≡ None → IsSettled s t all command h rows
          → (if b then named_option command (option_named (name_part word)) number (value_part word) g
          else if is_full command g then fault number U4 else wanted_name command number word g) ≡ Ok done
          → Stepped s t all command done done.waiting (walk_at idle h (place rows)) word
      marks true is idle_is settled e = marked_comes s t all command number word here g done h rows f settled (option_named (name_part word)) refl e
      marks false is idle_is settled e = name_comes command number word here g done h rows f settled (plain_word word is) idle_is e

      go : (w : Option OptionName) → g.waiting ≡ w → Awaits s t all command g w h rows → step_of w command number word g ≡ Ok done
          → Stepped s t all command done done.waiting (walk_at (waiting_for s t all command w) h (place rows)) word
      go (Some o) is a e = value_comes s t all command number word here g done h rows f o a (number_within (least_of o) (greatest_of o) word) refl e
      go None is a e = marks (is_marked word) refl is a e
