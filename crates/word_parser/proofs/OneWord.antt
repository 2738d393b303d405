-- One more word: what the reading makes of it and what clap makes of it fit.
use Rattle.std.proofs.Common.{◌≡◌, ◌∙◌, ℕ, ◌+◌, min, Bool, true, false, List, [], ◌∷◌, ◌++◌, Option, Some, None, refl, ap, sym, subst, codes}
use Rattle.std.specs.Prelude.{is_some, if◌then◌else◌}
use Rattle.std.specs.Str.{bytes_eq}
use Rattle.std.proofs.lemmas.Slice.Eq.{bytes_eq-Decides}
use Rattle.clap.specs.Lexer.{usize_max, long_of}
use Rattle.clap.specs.Simple.{Shape}
use Rattle.clap.specs.Takes.{settle_passes, turn_passes}
use Rattle.clap.specs.Walk.{Held, Row, Rule, Text, Waiting, Walk, idle, option, arg_by_id, arg_by_index, arg_by_long, first_of, has_row, settled_rows, used, walked}
use Rattle.cub_words.specs.declared.given.Given.{Given}
use Rattle.cub_words.specs.declared.table.CommandName.{CommandName}
use Rattle.cub_words.specs.declared.table.OptionName.{OptionName}
use Rattle.cub_words.specs.Table.{option_named, least_of, greatest_of}
use Rattle.cub_words.specs.Words.{name_part, number_within, value_part}
use Rattle.cub_words.specs.Given.{value_given, with_value}
use Rattle.word_parser.specs.Found.{name_of}
use Rattle.word_parser.proofs.Rows.{built_rule, made, used_new}
use Rattle.word_parser.proofs.WordForms.{IsOptionWord, IsPlainWord, number_plain, option_word, plain_word}
use Rattle.word_parser.proofs.Steps.{pending_in, walk_at, name_passes, name_walks, option_passes, option_walks, settles, settles_passing, value_passes, value_walks, valued_passes, valued_walks}
use Rattle.word_parser.proofs.Fitting.{Fits, NamesFit, first_fits, first_found, first_new, first_second, option_first, option_fits, option_new, option_second, same_name, same_values, second_first, second_fits, second_found, second_new, waiting_fits}

-- what is built of an option, and of a name
abbrev pub option_rule : OptionName → Rule
option_rule o = built_rule (name_of o) (Some (name_of o)) None

abbrev pub place_rule : Text → ℕ → Rule
place_rule id index = built_rule id None (Some index)

-- the arguments of the command line
pub record IsLine (s : Shape) : Type 0 where
  pub first : arg_by_index s.rules 2 ≡ Some (place_rule (codes "first") 2)
  pub second : arg_by_index s.rules 3 ≡ Some (place_rule (codes "second") 3)
  pub first_id : arg_by_id s.rules (codes "first") ≡ Some (place_rule (codes "first") 2)
  pub second_id : arg_by_id s.rules (codes "second") ≡ Some (place_rule (codes "second") 3)
  pub long : (o : OptionName) → arg_by_long s.rules (name_of o) ≡ Some (option_rule o)
  pub long_id : (o : OptionName) → arg_by_id s.rules (name_of o) ≡ Some (option_rule o)

-- the place of the next name
abbrev pub place : List Row → ℕ
place rows = if is_some (first_of (codes "first") rows) then (if is_some (first_of (codes "second") rows) then 4 else 3) else 2

-- the name of an option, behind its dashes
pub option_is : (word : Text) (o : OptionName) → option_named word ≡ Some o → word ≡ 45 ∷ 45 ∷ name_of o
option_is word o given = workers (bytes_eq word (codes "--workers")) refl given
  where
    format : (b : Bool) → bytes_eq word (codes "--format") ≡ b → (if b then Some OptionName.Format else None) ≡ Some o → word ≡ 45 ∷ 45 ∷ name_of o
    format true e g = let is : OptionName.Format ≡ o = cc in subst (λ (p : OptionName). word ≡ 45 ∷ 45 ∷ name_of p) is ((bytes_eq-Decides word (codes "--format")).0 e)
    format false e g = cc

    width : (b : Bool) → bytes_eq word (codes "--width") ≡ b
        → (if b then Some OptionName.Width else if bytes_eq word (codes "--format") then Some OptionName.Format else None) ≡ Some o → word ≡ 45 ∷ 45 ∷ name_of o
    width true e g = let is : OptionName.Width ≡ o = cc in subst (λ (p : OptionName). word ≡ 45 ∷ 45 ∷ name_of p) is ((bytes_eq-Decides word (codes "--width")).0 e)
    width false e g = format (bytes_eq word (codes "--format")) refl g

    cubes : (b : Bool) → bytes_eq word (codes "--cubes") ≡ b
        → (if b then Some OptionName.Cubes else if bytes_eq word (codes "--width") then Some OptionName.Width else if bytes_eq word (codes "--format") then Some OptionName.Format else None) ≡ Some o
        → word ≡ 45 ∷ 45 ∷ name_of o
    cubes true e g = let is : OptionName.Cubes ≡ o = cc in subst (λ (p : OptionName). word ≡ 45 ∷ 45 ∷ name_of p) is ((bytes_eq-Decides word (codes "--cubes")).0 e)
    cubes false e g = width (bytes_eq word (codes "--width")) refl g

    workers : (b : Bool) → bytes_eq word (codes "--workers") ≡ b
        → (if b then Some OptionName.Workers else if bytes_eq word (codes "--cubes") then Some OptionName.Cubes else if bytes_eq word (codes "--width") then Some OptionName.Width else if bytes_eq word (codes "--format") then Some OptionName.Format else None) ≡ Some o
        → word ≡ 45 ∷ 45 ∷ name_of o
    workers true e g = let is : OptionName.Workers ≡ o = cc in subst (λ (p : OptionName). word ≡ 45 ∷ 45 ∷ name_of p) is ((bytes_eq-Decides word (codes "--workers")).0 e)
    workers false e g = cubes (bytes_eq word (codes "--cubes")) refl g

as_option : (word : Text) (o : OptionName) → name_part word ≡ 45 ∷ 45 ∷ name_of o → IsOptionWord word (name_of o)
as_option word OptionName.Workers e = option_word 119 (codes "orkers") word e
as_option word OptionName.Cubes e = option_word 99 (codes "ubes") word e
as_option word OptionName.Width e = option_word 119 (codes "idth") word e
as_option word OptionName.Format e = option_word 102 (codes "ormat") word e

module _ (s : Shape) (t : IsLine s) (all : List Text) (command : CommandName) where
  -- between two words with nothing to come
  pub record IsSettled (h : Held) (rows : List Row) : Type 0 where
    pub settled : settled_rows s.rules h.pending h.rows ≡ rows
    pub passes : settle_passes s.rules s.args_override_self h ≡ true

  -- the value of an option is to come
  pub record IsWaiting (g : Given) (o : OptionName) (h : Held) (rows : List Row) : Type 0 where
    pub skip : ℕ
    pub held : h ≡ pending_in (name_of o) [] rows skip
    pub none : is_some (value_given o g) ≡ false

  abbrev pub Awaits : Given → Option OptionName → Held → List Row → Type 0
  Awaits g None h rows = IsSettled h rows
  Awaits g (Some o) h rows = IsWaiting g o h rows

  abbrev pub waiting_for : Option OptionName → Waiting
  waiting_for None = idle
  waiting_for (Some o) = option (name_of o)

  -- a word was walked over, and what was found fits what is given
  pub record Stepped (g : Given) (waiting : Option OptionName) (walk : Walk) (word : Text) : Type 0 where
    pub held : Held
    pub rows : List Row
    pub passes : turn_passes s [] walk word ≡ true
    pub walks : walked s.rules [] walk word ≡ walk_at (waiting_for waiting) held (place rows)
    pub awaits : Awaits g waiting held rows
    pub fits : Fits all command g rows

  -- a name, at its place
  name_step : (id : Text) (index : ℕ) (word : Text) (h : Held) (rows : List Row) (more : Given)
      → arg_by_index s.rules index ≡ Some (place_rule id index) → arg_by_id s.rules id ≡ Some (place_rule id index) → IsPlainWord word → IsSettled h rows
      → has_row id rows ≡ false → place rows ≡ index → min (index + 1) usize_max ≡ place (rows ++ made id word ∷ []) → Fits all command more (rows ++ made id word ∷ [])
      → Stepped more None (walk_at idle h (place rows)) word
  name_step id index word h rows more by_index by_id plain settled new here next fits =
      let there : arg_by_index s.rules (place rows) ≡ Some (place_rule id index) = ap (arg_by_index s.rules) here ∙ by_index in
      record {
        held = pending_in id (word ∷ []) rows h.skip;
        rows = rows ++ made id word ∷ [];
        passes = name_passes s id None (Some index) (place rows) word h there plain settled.passes;
        walks =
            name_walks s id None (Some index) (place rows) word h there plain
            ∙ ap (λ (found : List Row). walk_at idle (pending_in id (word ∷ []) found h.skip) (min (place rows + 1) usize_max)) settled.settled
            ∙ ap (walk_at idle (pending_in id (word ∷ []) rows h.skip)) (ap (λ (p : ℕ). min (p + 1) usize_max) here ∙ next);
        awaits = record {
          settled = settles s id None (Some index) word rows by_id new;
          passes = settles_passing s id None (Some index) word rows h.skip by_id new;
        };
        fits = fits;
      }

  pub first_step : (word : Text) (h : Held) (rows : List Row) (g more : Given) → Fits all command g rows → IsPlainWord word → IsSettled h rows
      → is_some (first_of (codes "first") rows) ≡ false → ((o : OptionName) → value_given o more ≡ value_given o g)
      → NamesFit all command more.first more.second more.levels (Some word) (first_of (codes "second") rows) → Stepped more None (walk_at idle h (place rows)) word
  first_step word h rows g more f plain settled none same names =
      name_step (codes "first") 2 word h rows more t.first t.first_id plain settled (first_new all command word g more rows f none same)
      (rw none refl) (rw (first_found all command word g more rows f none same, first_second all command word g more rows f none same, f.order none) refl)
      (first_fits all command word g more rows f none same names)

  pub second_step : (word : Text) (h : Held) (rows : List Row) (g more : Given) → Fits all command g rows → IsPlainWord word → IsSettled h rows
      → is_some (first_of (codes "first") rows) ≡ true → is_some (first_of (codes "second") rows) ≡ false → ((o : OptionName) → value_given o more ≡ value_given o g)
      → NamesFit all command more.first more.second more.levels (first_of (codes "first") rows) (Some word) → Stepped more None (walk_at idle h (place rows)) word
  second_step word h rows g more f plain settled some none same names =
      name_step (codes "second") 3 word h rows more t.second t.second_id plain settled (second_new all command word g more rows f some none same)
      (rw (some, none) refl) (rw (second_found all command word g more rows f some none same, second_first all command word g more rows f some none same, some) refl)
      (second_fits all command word g more rows f some none same names)

  -- the value of an option, in the word behind it
  pub value_step : (o : OptionName) (word : Text) (value : ℕ) (g : Given) (h : Held) (rows : List Row) → Fits all command g rows → IsWaiting g o h rows
      → number_within (least_of o) (greatest_of o) word ≡ Some value → Stepped (with_value o value g) None (walk_at (option (name_of o)) h (place rows)) word
  value_step o word value g h rows f waits number =
      let plain = plain_word word (number_plain (least_of o) (greatest_of o) word value number) in
      let new = option_new all command o word value g rows f waits.none number in
      let place_is : place rows ≡ place (rows ++ made (name_of o) word ∷ []) =
      rw (option_first all command o word value g rows f waits.none number, option_second all command o word value g rows f waits.none number) refl in
      record {
        held = pending_in (name_of o) (word ∷ []) rows waits.skip;
        rows = rows ++ made (name_of o) word ∷ [];
        passes =
            subst (λ (x : Held). turn_passes s [] (walk_at (option (name_of o)) x (place rows)) word ≡ true) (sym waits.held)
            (value_passes s (name_of o) (Some (name_of o)) None (place rows) waits.skip word rows plain);
        walks =
            ap (λ (x : Held). walked s.rules [] (walk_at (option (name_of o)) x (place rows)) word) waits.held
            ∙ value_walks s (name_of o) (Some (name_of o)) None (place rows) waits.skip word rows (t.long_id o) (same_name o) plain
            ∙ ap (walk_at idle (pending_in (name_of o) (word ∷ []) rows waits.skip)) place_is;
        awaits = record {
          settled = settles s (name_of o) (Some (name_of o)) None word rows (t.long_id o) new;
          passes = settles_passing s (name_of o) (Some (name_of o)) None word rows waits.skip (t.long_id o) new;
        };
        fits = option_fits all command o word value g rows f waits.none number;
      }

  -- and in the word of the option itself
  pub valued_step : (o : OptionName) (word text : Text) (value : ℕ) (g : Given) (h : Held) (rows : List Row) → Fits all command g rows → IsSettled h rows
      → name_part word ≡ 45 ∷ 45 ∷ name_of o → value_part word ≡ Some text → is_some (value_given o g) ≡ false
      → number_within (least_of o) (greatest_of o) text ≡ Some value → Stepped (with_value o value g) None (walk_at idle h (place rows)) word
  valued_step o word text value g h rows f settled named behind none number =
      let form = as_option word o named in
      let parted : long_of word ≡ Some (name_of o, Some text) = form.parted ∙ ap (λ (v : Option Text). Some (name_of o, v)) behind in
      let new = option_new all command o text value g rows f none number in
      let place_is : place rows ≡ place (rows ++ made (name_of o) text ∷ []) =
      rw (option_first all command o text value g rows f none number, option_second all command o text value g rows f none number) refl in
      record {
        held = record { rows = rows ++ made (name_of o) text ∷ []; pending = None; skip = h.skip };
        rows = rows ++ made (name_of o) text ∷ [];
        passes =
            valued_passes s (name_of o) (Some (name_of o)) None (place rows) word text h form.longer parted (t.long o) settled.passes
            (ap (has_row (name_of o)) settled.settled ∙ new);
        walks =
            valued_walks s (name_of o) (Some (name_of o)) None (place rows) word text h form.longer parted (t.long o)
            ∙ ap (λ (found : List Row). walk_at idle (record { rows = found; pending = None; skip = h.skip }) (place rows))
            (ap (used (option_rule o) (text ∷ [])) settled.settled ∙ used_new (name_of o) (Some (name_of o)) None text rows new)
            ∙ ap (walk_at idle (record { rows = rows ++ made (name_of o) text ∷ []; pending = None; skip = h.skip })) place_is;
        awaits = record { settled = refl; passes = refl };
        fits = option_fits all command o text value g rows f none number;
      }

  -- an option whose value is to come
  pub option_step : (o : OptionName) (word : Text) (g : Given) (h : Held) (rows : List Row) → Fits all command g rows → IsSettled h rows
      → name_part word ≡ 45 ∷ 45 ∷ name_of o → value_part word ≡ None → is_some (value_given o g) ≡ false
      → Stepped (record g { waiting = Some o }) (Some o) (walk_at idle h (place rows)) word
  option_step o word g h rows f settled named behind none =
      let form = as_option word o named in
      let parted : long_of word ≡ Some (name_of o, None) = form.parted ∙ ap (λ (v : Option Text). Some (name_of o, v)) behind in
      record {
        held = pending_in (name_of o) [] rows h.skip;
        rows = rows;
        passes = option_passes s (name_of o) (Some (name_of o)) None (place rows) word h form.longer parted (t.long o) settled.passes;
        walks =
            option_walks s (name_of o) (Some (name_of o)) None (place rows) word h form.longer parted (t.long o)
            ∙ ap (λ (found : List Row). walk_at (option (name_of o)) (pending_in (name_of o) [] found h.skip) (place rows)) settled.settled;
        awaits = record {
          skip = h.skip;
          held = refl;
          none = ap is_some (same_values g (record g { waiting = Some o }) refl refl refl refl o) ∙ none;
        };
        fits = waiting_fits all command (Some o) g rows f;
      }
