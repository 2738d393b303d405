-- One more word of the walk that clap makes.
use Rattle.std.proofs.Common.{◌≡◌, ℕ, ◌+◌, true, false, ◌&&◌, min, List, [], ◌∷◌, ◌++◌, Option, Some, None, refl}
use Rattle.std.specs.Str.{bytes_eq}
use Rattle.std.proofs.lemmas.Bool.{and_right, or_right}
use Rattle.clap.specs.Lexer.{usize_max, long_of}
use Rattle.clap.specs.Simple.{Shape}
use Rattle.clap.specs.Takes.{settle_passes, turn_passes}
use Rattle.clap.specs.Walk.{Held, Row, Text, Waiting, Walk, idle, option, arg_by_id, arg_by_index, arg_by_long, has_row, is_pending, settled_rows, used, walked}
use Rattle.word_parser.proofs.Rows.{built_rule, made, used_new}
use Rattle.word_parser.proofs.WordForms.{IsPlainWord}

-- between two words, with nothing behind `--` and no subcommand
abbrev pub walk_at : Waiting → Held → ℕ → Walk
walk_at waiting h position = record { held = h; waiting = waiting; position = position; is_trailing = false; stopped = None }

-- an argument that waits for its value, or has it
abbrev pub pending_in : Text → List Text → List Row → ℕ → Held
pending_in id values rows skip = record { rows = rows; pending = Some (id, values); skip = skip }

module _ (s : Shape) (id : Text) (long : Option Text) (index : Option ℕ) where
  -- a name
  pub name_passes : (position : ℕ) (word : Text) (h : Held) → arg_by_index s.rules position ≡ Some (built_rule id long index) → IsPlainWord word
      → settle_passes s.rules s.args_override_self h ≡ true → turn_passes s [] (walk_at idle h position) word ≡ true
  name_passes position word h there plain passes =
      rw (plain.longer, plain.long, plain.short, there, or_right (is_pending (built_rule id long index) h.pending && false) (settle_passes s.rules s.args_override_self h) passes) refl

  pub name_walks : (position : ℕ) (word : Text) (h : Held) → arg_by_index s.rules position ≡ Some (built_rule id long index) → IsPlainWord word
      → walked s.rules [] (walk_at idle h position) word
      ≡ walk_at idle (pending_in id (word ∷ []) (settled_rows s.rules h.pending h.rows) h.skip) (min (position + 1) usize_max)
  unfolding walked
  name_walks position word h there plain = rw (plain.longer, plain.long, plain.short, there, and_right (is_pending (built_rule id long index) h.pending) false refl) refl

  -- the value that an option waits for
  pub value_passes : (position skip : ℕ) (word : Text) (rows : List Row) → IsPlainWord word
      → turn_passes s [] (walk_at (option id) (pending_in id [] rows skip) position) word ≡ true
  value_passes position skip word rows plain = rw (plain.longer, plain.long, plain.short) refl

  pub value_walks : (position skip : ℕ) (word : Text) (rows : List Row) → arg_by_id s.rules id ≡ Some (built_rule id long index) → bytes_eq id id ≡ true → IsPlainWord word
      → walked s.rules [] (walk_at (option id) (pending_in id [] rows skip) position) word
      ≡ walk_at idle (pending_in id (word ∷ []) rows skip) position
  unfolding walked
  value_walks position skip word rows there same plain = rw (plain.longer, plain.long, plain.short, there, same) refl

  -- an option whose value is to come
  pub option_passes : (position : ℕ) (word : Text) (h : Held) → bytes_eq word (45 ∷ 45 ∷ []) ≡ false → long_of word ≡ Some (id, None)
      → arg_by_long s.rules id ≡ Some (built_rule id long index)
      → settle_passes s.rules s.args_override_self h ≡ true → turn_passes s [] (walk_at idle h position) word ≡ true
  option_passes position word h longer named there passes = rw (longer, named, there, passes) refl

  pub option_walks : (position : ℕ) (word : Text) (h : Held) → bytes_eq word (45 ∷ 45 ∷ []) ≡ false → long_of word ≡ Some (id, None)
      → arg_by_long s.rules id ≡ Some (built_rule id long index)
      → walked s.rules [] (walk_at idle h position) word ≡ walk_at (option id) (pending_in id [] (settled_rows s.rules h.pending h.rows) h.skip) position
  unfolding walked
  option_walks position word h longer named there = rw (longer, named, there) refl

  -- an option with its value
  pub valued_passes : (position : ℕ) (word value : Text) (h : Held) → bytes_eq word (45 ∷ 45 ∷ []) ≡ false → long_of word ≡ Some (id, Some value)
      → arg_by_long s.rules id ≡ Some (built_rule id long index)
      → settle_passes s.rules s.args_override_self h ≡ true → has_row id (settled_rows s.rules h.pending h.rows) ≡ false
      → turn_passes s [] (walk_at idle h position) word ≡ true
  valued_passes position word value h longer named there passes new = rw (longer, named, there, passes, new) refl

  pub valued_walks : (position : ℕ) (word value : Text) (h : Held) → bytes_eq word (45 ∷ 45 ∷ []) ≡ false → long_of word ≡ Some (id, Some value)
      → arg_by_long s.rules id ≡ Some (built_rule id long index)
      → walked s.rules [] (walk_at idle h position) word
      ≡ walk_at idle (record { rows = used (built_rule id long index) (value ∷ []) (settled_rows s.rules h.pending h.rows); pending = None; skip = h.skip }) position
  unfolding walked
  valued_walks position word value h longer named there = rw (longer, named, there) refl

  -- what has its value is settled
  pub settles : (value : Text) (rows : List Row) → arg_by_id s.rules id ≡ Some (built_rule id long index) → has_row id rows ≡ false
      → settled_rows s.rules (Some (id, value ∷ [])) rows ≡ rows ++ made id value ∷ []
  settles value rows there new = rw there (used_new id long index value rows new)

  pub settles_passing : (value : Text) (rows : List Row) (skip : ℕ) → arg_by_id s.rules id ≡ Some (built_rule id long index) → has_row id rows ≡ false
      → settle_passes s.rules s.args_override_self (pending_in id (value ∷ []) rows skip) ≡ true
  settles_passing value rows skip there new = rw (there, new) refl
