-- Words that ask for a command are taken, and what is found in them is that command.
use Rattle.std.proofs.Common.{◌≡◌, ◌∙◌, ℕ, zero, suc, ◌+◌, ◌-◌, Bool, true, false, ◌==◌, List, [], ◌∷◌, length, drop, get_or, Option, Some, None, Ok, Err, Result, refl, ap, sym, subst, arith, codes}
use Rattle.std.specs.Prelude.{is_some, if◌then◌else◌, fold, option_map, option_and_then, unwrap_or}
use Rattle.std.specs.List.{list_all}
use Rattle.std.proofs.lemmas.Bool.{and_from, and_parts, eqb-true}
use Rattle.clap.specs.Simple.{Shape, built, matches_of}
use Rattle.clap.specs.Takes.{level_passes, settle_passes, takes, turn_passes, walk_passes}
use Rattle.clap.specs.Walk.{Held, Row, Rule, Text, Walk, arg_by_id, arg_by_long, default_rows, finished, first_of, has_row, idle, is_empty, nothing_held, reading_by, walk, walked, with_default}
use Rattle.clap.proofs.TakesLemmas.{leaf_takes}
use Rattle.cub_words.specs.declared.given.Given.{Given}
use Rattle.cub_words.specs.declared.request.WordsFault.{WordsFault}
use Rattle.cub_words.specs.declared.request.WordsKind.TheVariants.{U3, U6}
use Rattle.cub_words.specs.declared.table.CommandName.{CommandName}
use Rattle.cub_words.specs.declared.table.OptionName.{OptionName}
use Rattle.cub_words.specs.Table.{command_named, greatest_of, least_of, usual_of}
use Rattle.cub_words.specs.Words.{is_marked, number_within}
use Rattle.cub_words.specs.Given.{is_full, nothing_given, value_given}
use Rattle.cub_words.specs.Reading.{Request, fault, named_command, read_from, reading, request_of, step, then_read, value_of, word_at}
use Rattle.word_parser.specs.Line.{line}
use Rattle.word_parser.specs.Found.{IsFound, name_of, request_with, value_found}
use Rattle.word_parser.proofs.Rows.{made}
use Rattle.word_parser.proofs.WordForms.{IsPlainWord, plain_word}
use Rattle.word_parser.proofs.Steps.{name_passes, name_walks, pending_in, settles, settles_passing, walk_at}
use Rattle.word_parser.proofs.Fitting.{Fits, NamesFit, at_word}
use Rattle.word_parser.proofs.OneWord.{Awaits, IsLine, IsSettled, option_rule, place, waiting_for}
use Rattle.word_parser.proofs.Moves.{one_step}

-- the front of what is left
dropped : (n : ℕ) (xs : List Text) (y : Text) (ys : List Text) → drop n xs ≡ y ∷ ys → (get_or xs n [] ≡ y) × (drop (suc n) xs ≡ ys)
dropped zero [] y ys left = cc
dropped zero (x ∷ xs) y ys left = (cc, cc)
dropped (suc n) [] y ys left = cc
dropped (suc n) (x ∷ xs) y ys left = dropped n xs y ys left

module _ (s : Shape) (t : IsLine s) (all : List Text) (command : CommandName) where
  pub record Walked (final : Given) (start : Walk) (words : List Text) : Type 0 where
    pub held : Held
    pub rows : List Row
    pub passes : walk_passes s [] start words ≡ true
    pub walks : fold (walked s.rules []) start words ≡ walk_at idle held (place rows)
    pub settled : IsSettled s t all command held rows
    pub fits : Fits all command final rows

  at_end : (w : Option OptionName) (g final : Given) (h : Held) (rows : List Row) (number : ℕ) → Awaits s t all command g w h rows → Fits all command g rows
      → (if is_some w then fault (number - 1) U6 else if is_full command g then Ok g else fault number U3) ≡ Ok final
      → Walked final (walk_at (waiting_for s t all command w) h (place rows)) []
  unfolding walk_passes
  at_end (Some o) g final h rows number awaits f e = cc
  at_end None g final h rows number awaits f e = full (is_full command g) e
    where
      full : (b : Bool) → (if b then Ok g else fault number U3) ≡ Ok final → Walked final (walk_at idle h (place rows)) []
      full true is =
          let same : g ≡ final = cc in
          record { held = h; rows = rows; passes = refl; walks = refl; settled = awaits; fits = subst (λ (x : Given). Fits all command x rows) same f }
      full false is = cc

  pub read_walks : (words : List Text) (number n : ℕ) (g final : Given) (h : Held) (rows : List Row) → number ≡ n + 1 → drop n all ≡ words
      → Awaits s t all command g g.waiting h rows → Fits all command g rows → read_from command number words g ≡ Ok final
      → Walked final (walk_at (waiting_for s t all command g.waiting) h (place rows)) words
  unfolding walk_passes
  read_walks [] number n g final h rows is left awaits f e = at_end g.waiting g final h rows number awaits f e
  read_walks (word ∷ rest) number n g final h rows is left awaits f e =
      let parts = dropped n all word rest left in
      let back : number - 1 ≡ n = omega arith in
      let more : n + 1 ≡ suc n = omega arith in
      go (ap (λ (k : ℕ). get_or all k []) back ∙ parts.0)
      (λ (g : Given) (h : Held) (rows : List Row) (awaits : Awaits s t all command g g.waiting h rows) (f : Fits all command g rows) (e : read_from command (number + 1) rest g ≡ Ok final).
      read_walks rest (number + 1) (n + 1) g final h rows (ap (λ (k : ℕ). k + 1) is) (ap (λ (k : ℕ). drop k all) more ∙ parts.1) awaits f e)
      (step command number word g) refl e
    where
      go : at_word all number ≡ word
          → ((g : Given) (h : Held) (rows : List Row) → Awaits s t all command g g.waiting h rows → Fits all command g rows → read_from command (number + 1) rest g ≡ Ok final
          → Walked final (walk_at (waiting_for s t all command g.waiting) h (place rows)) rest)
          → (r : Result Given WordsFault) → step command number word g ≡ r → then_read r (λ given. read_from command (number + 1) rest given) ≡ Ok final
          → Walked final (walk_at (waiting_for s t all command g.waiting) h (place rows)) (word ∷ rest)
      go here later (Err x) stepped e = cc
      go here later (Ok given) stepped e =
          let st = one_step s t all command number word here g given h rows f awaits stepped in
          let l = later given st.held st.rows st.awaits st.fits e in
          record {
            held = l.held;
            rows = l.rows;
            passes =
                and_from (turn_passes s [] (walk_at (waiting_for s t all command g.waiting) h (place rows)) word)
                (walk_passes s [] (walked s.rules [] (walk_at (waiting_for s t all command g.waiting) h (place rows)) word) rest) st.passes
                (subst (λ (w : Walk). walk_passes s [] w rest ≡ true) (sym st.walks) l.passes);
            walks = ap (λ (w : Walk). fold (walked s.rules []) w rest) st.walks ∙ l.walks;
            settled = l.settled;
            fits = l.fits;
          }

-- ---- the command line

abbrev shape : Shape
shape = (built line).top

line_is : IsLine shape
line_is = record { first = refl; second = refl; first_id = refl; second_id = refl; long = long_is; long_id = id_is }
  where
    long_is : (o : OptionName) → arg_by_long shape.rules (name_of o) ≡ Some (option_rule o)
    long_is OptionName.Workers = refl
    long_is OptionName.Cubes = refl
    long_is OptionName.Width = refl
    long_is OptionName.Format = refl

    id_is : (o : OptionName) → arg_by_id shape.rules (name_of o) ≡ Some (option_rule o)
    id_is OptionName.Workers = refl
    id_is OptionName.Cubes = refl
    id_is OptionName.Width = refl
    id_is OptionName.Format = refl

-- no argument has a default
no_defaults : (rules : List Rule) (rows : List Row) → list_all (λ (a : Rule). is_empty a.defaults) rules ≡ true → fold with_default rows rules ≡ rows
no_defaults [] rows none = refl
no_defaults (a ∷ rest) rows none =
    let parts = and_parts (is_empty a.defaults) (list_all (λ (b : Rule). is_empty b.defaults) rest) none in
    ap (λ (r : List Row). fold with_default r rest) (kept (has_row a.id rows) a.defaults parts.0) ∙ no_defaults rest rows parts.1
  where
    kept : (b : Bool) (ds : List Text) → is_empty ds ≡ true → (if b then rows else default_rows a.id (reading_by a) ds rows) ≡ rows
    kept true ds none = refl
    kept false [] none = refl
    kept false (d ∷ ds) none = let bad : suc (length ds) ≡ 0 = eqb-true (suc (length ds)) 0 none in absurd (omega arith)

command_plain : (word : Text) (command : CommandName) → command_named word ≡ Some command → is_marked word ≡ false
command_plain [] command named = cc
command_plain (byte ∷ bytes) command named = go (byte == 45) refl
  where
    go : (b : Bool) → (byte == 45) ≡ b → b ≡ false
    go false e = refl
    go true e =
        let bad : command_named (45 ∷ bytes) ≡ Some command = subst (λ (x : ℕ). command_named (x ∷ bytes) ≡ Some command) (eqb-true byte 45 e) named in
        cc

-- ---- words whose first names a command

module _ (word : Text) (rest : List Text) (command : CommandName) (named : command_named word ≡ Some command) (final : Given)
    (given : read_from command 2 rest nothing_given ≡ Ok final) where
  abbrev all : List Text
  all = word ∷ rest

  plain : IsPlainWord word
  plain = plain_word word (command_plain word command named)

  abbrev start : Held
  start = pending_in (codes "command") (word ∷ []) [] 0

  abbrev start_rows : List Row
  start_rows = made (codes "command") word ∷ []

  start_passes : turn_passes shape [] (walk_at idle nothing_held 1) word ≡ true
  start_passes = name_passes shape (codes "command") None (Some 1) 1 word nothing_held refl plain refl

  start_walks : walked shape.rules [] (walk_at idle nothing_held 1) word ≡ walk_at idle start 2
  start_walks = name_walks shape (codes "command") None (Some 1) 1 word nothing_held refl plain

  start_settled : IsSettled shape line_is all command start start_rows
  start_settled = record {
    settled = settles shape (codes "command") None (Some 1) word [] refl refl;
    passes = settles_passing shape (codes "command") None (Some 1) word [] 0 refl refl;
  }

  start_names : (c : CommandName) → NamesFit all c None None None None None
  start_names CommandName.Check = (refl, refl)
  start_names CommandName.Verify = (refl, refl)
  start_names CommandName.Replay = (refl, refl)
  start_names CommandName.Print = (refl, refl)
  start_names CommandName.Sample = (refl, refl)

  start_values : (o : OptionName) → option_and_then (number_within (least_of o) (greatest_of o)) (first_of (name_of o) start_rows) ≡ value_given o nothing_given
  start_values OptionName.Workers = refl
  start_values OptionName.Cubes = refl
  start_values OptionName.Width = refl
  start_values OptionName.Format = refl

  start_given : (o : OptionName) → is_some (first_of (name_of o) start_rows) ≡ is_some (value_given o nothing_given)
  start_given OptionName.Workers = refl
  start_given OptionName.Cubes = refl
  start_given OptionName.Width = refl
  start_given OptionName.Format = refl

  start_fits : Fits all command nothing_given start_rows
  start_fits = record {
    whole = record { each = refl };
    named = refl;
    names = start_names command;
    order = λ none. refl;
    values = start_values;
    given = start_given;
  }

  end : Walked shape line_is all command final (walk_at idle start 2) rest
  end = read_walks shape line_is all command rest 2 1 nothing_given final start start_rows refl refl start_settled start_fits given

  walk_is : walk shape.rules [] nothing_held all ≡ walk_at idle end.held (place end.rows)
  walk_is = ap (λ (w : Walk). fold (walked shape.rules []) w rest) start_walks ∙ end.walks

  all_pass : level_passes shape [] nothing_held all false ≡ true
  unfolding walk_passes
  all_pass =
      let walk_held = (walk shape.rules [] nothing_held all).held in
      and_from (walk_passes shape [] (walk_at idle nothing_held 1) all) _
      (and_from (turn_passes shape [] (walk_at idle nothing_held 1) word) (walk_passes shape [] (walked shape.rules [] (walk_at idle nothing_held 1) word) rest) start_passes
      (subst (λ (w : Walk). walk_passes shape [] w rest ≡ true) (sym start_walks) end.passes))
      (and_from (settle_passes shape.rules shape.args_override_self walk_held) _
      (subst (λ (w : Walk). settle_passes shape.rules shape.args_override_self w.held ≡ true) (sym walk_is) end.settled.passes) refl)

  pub are_taken : takes line all ≡ true
  are_taken = leaf_takes (built line) nothing_held all refl all_pass

  rows_are : matches_of line all ≡ end.rows
  rows_are =
      ap (λ (w : Walk). finished shape.rules w.held) walk_is
      ∙ ap (λ (r : List Row). fold with_default r shape.rules) end.settled.settled
      ∙ no_defaults shape.rules end.rows refl

  -- ---- what was found

  value_is : (o : OptionName) → value_found o end.rows ≡ value_of o final
  value_is o = ap (λ (x : Option ℕ). unwrap_or x (usual_of o)) (end.fits.values o)

  file_is : (x : Option ℕ) (a : Option Text) → a ≡ option_map (at_word all) x → unwrap_or a [] ≡ word_at all x
  file_is None a is = ap (λ (y : Option Text). unwrap_or y []) is
  file_is (Some n) a is = ap (λ (y : Option Text). unwrap_or y []) is

  request_is : (c : CommandName) → NamesFit all c final.first final.second final.levels (first_of (codes "first") end.rows) (first_of (codes "second") end.rows)
      → request_with c end.rows ≡ request_of c all final
  request_is CommandName.Check names =
      let first = file_is final.first (first_of (codes "first") end.rows) names.0 in
      rw (first, value_is OptionName.Cubes, value_is OptionName.Width, value_is OptionName.Workers, value_is OptionName.Format) refl
  request_is CommandName.Verify names =
      rw (file_is final.first (first_of (codes "first") end.rows) names.0, file_is final.second (first_of (codes "second") end.rows) names.1) refl
  request_is CommandName.Replay names =
      rw (file_is final.first (first_of (codes "first") end.rows) names.0, file_is final.second (first_of (codes "second") end.rows) names.1) refl
  request_is CommandName.Print names = rw (file_is final.first (first_of (codes "first") end.rows) names.0) refl
  request_is CommandName.Sample names =
      let levels = ap (λ (x : Option ℕ). unwrap_or x 2) names.0 in
      rw (levels, value_is OptionName.Cubes, value_is OptionName.Width, value_is OptionName.Workers) refl

  pub is_found : IsFound (matches_of line all) (request_of command all final)
  is_found =
      subst (λ (rows : List Row). IsFound rows (request_of command all final)) (sym rows_are) (record {
        command = command;
        named = ap (λ (x : Option Text). command_named (unwrap_or x [])) end.fits.named ∙ named;
        makes = request_is command end.fits.names;
      })

pub record IsAccepted (words : List Text) (request : Request) : Type 0 where
  pub taken : takes line words ≡ true
  pub found : IsFound (matches_of line words) request

pub accepted : (words : List Text) (request : Request) → reading words ≡ Ok request → IsAccepted words request
accepted [] request given = cc
accepted (word ∷ rest) request given = go (command_named word) refl given
  where
    ends : (command : CommandName) → command_named word ≡ Some command → (r : Result Given WordsFault) → read_from command 2 rest nothing_given ≡ r
        → then_read r (λ final. Ok (request_of command (word ∷ rest) final)) ≡ Ok request → IsAccepted (word ∷ rest) request
    ends command named (Err x) is e = cc
    ends command named (Ok final) is e =
        let same : request_of command (word ∷ rest) final ≡ request = cc in
        record {
          taken = are_taken word rest command named final is;
          found = subst (λ (r : Request). IsFound (matches_of line (word ∷ rest)) r) same (is_found word rest command named final is);
        }

    go : (r : Option CommandName) → command_named word ≡ r → named_command r (word ∷ rest) rest ≡ Ok request → IsAccepted (word ∷ rest) request
    go None is e = cc
    go (Some command) is e = ends command is (read_from command 2 rest nothing_given) refl e
