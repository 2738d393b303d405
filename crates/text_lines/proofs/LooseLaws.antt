-- What was written is read from its words.
use Rattle.std.proofs.Common.{◌≡◌, ℕ, zero, suc, ◌+◌, ◌-◌, ◌^◌, ◌<◌, ◌≤◌, Bool, true, false, not, ◌&&◌, if◌then◌else◌, min, List, [], ◌∷◌, ◌++◌, length, Option, Some, None, unwrap_or, ℤ, pos, negsuc, refl, ap, sym, subst, ◌∙◌, arith, append_assoc, codes, decimal, flat_map, unsigned_abs, leb-true, lt-ltb}
use Rattle.std.specs.Prelude.{slice_get, IsTrue}
use Rattle.std.specs.List.{join_by}
use Rattle.std.specs.Option.{option_map_or}
use Rattle.std.specs.Fmt.{signed_decimal}
use Rattle.cub_proto.specs.declared.literal.Sort.{Sort}
use Rattle.cub_proto.specs.declared.literal.Sort.TheVariants as Sort
use Rattle.cub_proto.specs.declared.protocol.SortDecl.{SortDecl}
use Rattle.cub_proto.specs.declared.protocol.Protocol.{Protocol}
use Rattle.cub_proto.specs.declared.protocol.Decl.{Decl}
use Rattle.cub_proto.specs.declared.state.Slot.{Slot}
use Rattle.cub_proto.specs.declared.state.Slot.TheVariants as Slot
use Rattle.cub_proto.specs.declared.state.Val.{Val}
use Rattle.cub_proto.specs.declared.state.Val.TheVariants.{Con, Proc, Int}
use Rattle.cub_proto.specs.Signature.{constructors_of, declared_sort}
use Rattle.cub_proto.specs.StateOf.{signature_of, IsOfSort}
use Rattle.cub_proto.proofs.Constructors.{declared_size}
use Rattle.text_lines.specs.Word.{is_separator, skip, front, back, word, behind}
use Rattle.text_lines.specs.Number.{counted, integer_of}
use Rattle.text_lines.specs.Named.{number_of}
use Rattle.text_lines.specs.Spelling.{process_text, processes_text, name_of, slot_text, constructor_text, constructor_of_sort, value_text, slot_sort, entry_text}
use Rattle.text_lines.specs.Loose.{processes_in, behind_words, constructor_in, value_in, opens_bracket, slot_in, slot_words, behind_equal, entry_value}
use Rattle.text_lines.proofs.WordLaws.{AreWordBytes, Stops, first_word, behind_first, skip_word}
use Rattle.text_lines.proofs.NumberLaws.{decimal_words, decimal_some, counted_written, integer_positive, integer_negative}
use Rattle.std.specs.Prelude.{nat_le}
use Rattle.std.proofs.lemmas.Bool.{and_parts}
use Rattle.cub_base.specs.Name.{is_declarable}
use Rattle.cub_base.proofs.Elements.{from_all}
use Rattle.cub_proto.specs.Signature.{same_sort}
use Rattle.cub_proto.specs.Fits.{global_fits, array_fits, sort_is_there, integers_in}
use Rattle.text_lines.proofs.NameLaws.{constructor_found, constructor_word, global_found, array_found, name_is_word, all_at}

-- `#1`
module _ (i : ℕ) (rest : List ℕ) (small : i ≤ 4294967295) (stop : Stops rest) where
  fits : i + 1 < 2 ^ 64
  fits = omega arith

  pub process_word : word (process_text i ++ rest) ≡ decimal (i + 1)
  process_word = first_word (decimal (i + 1)) rest (decimal_words (i + 1) fits) (decimal_some (i + 1) fits) stop

  pub process_read : counted (word (process_text i ++ rest)) ≡ i
  process_read = ap counted process_word ∙ counted_written i small

  pub behind_process : behind (process_text i ++ rest) ≡ rest
  behind_process = behind_first (decimal (i + 1)) rest (decimal_words (i + 1) fits) (decimal_some (i + 1) fits) stop

-- processes that a `u32` holds
abbrev pub AreSmall : List ℕ → Type 0
AreSmall [] = Unit {0}
AreSmall (i ∷ is) = (i ≤ 4294967295) × AreSmall is

others_text : List ℕ → List ℕ → List ℕ
others_text is rest = flat_map (λ i. (32 ∷ []) ++ process_text i) is ++ 41 ∷ rest

others_stop : (is rest : List ℕ) → Stops (others_text is rest)
unfolding others_text
others_stop [] rest = refl
others_stop (i ∷ is) rest = refl

others_open : (i : ℕ) (is rest : List ℕ) → others_text (i ∷ is) rest ≡ 32 ∷ process_text i ++ others_text is rest
unfolding others_text
others_open i is rest = append_assoc ((32 ∷ []) ++ process_text i) (flat_map (λ j. (32 ∷ []) ++ process_text j) is) (41 ∷ rest)

others_read : (is rest : List ℕ) → AreSmall is → processes_in (length is) (others_text is rest) ≡ is
others_read [] rest small = refl
others_read (i ∷ is) rest small =
    let stop = others_stop is rest in
    ap (processes_in (suc (length is))) (others_open i is rest)
    ∙ ap (λ j. j ∷ processes_in (length is) (behind (process_text i ++ others_text is rest))) (process_read i (others_text is rest) small.0 stop)
    ∙ ap (λ t. i ∷ processes_in (length is) t) (behind_process i (others_text is rest) small.0 stop)
    ∙ ap (λ js. i ∷ js) (others_read is rest small.1)

behind_others : (is rest : List ℕ) → AreSmall is → skip (behind_words (length is) (others_text is rest)) ≡ skip rest
unfolding others_text
behind_others [] rest small = refl
behind_others (i ∷ is) rest small =
    ap (λ t. skip (behind_words (suc (length is)) t)) (others_open i is rest)
    ∙ ap (λ t. skip (behind_words (length is) t)) (behind_process i (others_text is rest) small.0 (others_stop is rest))
    ∙ behind_others is rest small.1

list_open : (i : ℕ) (is rest : List ℕ) → processes_text (i ∷ is) ++ rest ≡ 40 ∷ process_text i ++ others_text is rest
unfolding others_text
list_open i is rest = ap (λ t. 40 ∷ t)
    (append_assoc (process_text i ++ flat_map (λ j. (32 ∷ []) ++ process_text j) is) (41 ∷ []) rest
    ∙ append_assoc (process_text i) (flat_map (λ j. (32 ∷ []) ++ process_text j) is) (41 ∷ rest))

-- `(#1 #2)`
pub processes_read : (is rest : List ℕ) → AreSmall is → processes_in (length is) (processes_text is ++ rest) ≡ is
processes_read [] rest small = refl
processes_read (i ∷ is) rest small =
    let stop = others_stop is rest in
    ap (processes_in (suc (length is))) (list_open i is rest)
    ∙ ap (λ j. j ∷ processes_in (length is) (behind (process_text i ++ others_text is rest))) (process_read i (others_text is rest) small.0 stop)
    ∙ ap (λ t. i ∷ processes_in (length is) t) (behind_process i (others_text is rest) small.0 stop)
    ∙ ap (λ js. i ∷ js) (others_read is rest small.1)

pub behind_processes : (is rest : List ℕ) → AreSmall is → skip (behind_words (length is) (processes_text is ++ rest)) ≡ skip rest
behind_processes [] rest small = refl
behind_processes (i ∷ is) rest small =
    ap (λ t. skip (behind_words (suc (length is)) t)) (list_open i is rest)
    ∙ ap (λ t. skip (behind_words (length is) t)) (behind_process i (others_text is rest) small.0 (others_stop is rest))
    ∙ behind_others is rest small.1

-- a value of its sort, with a constructor, process and integer that its type holds
pub record IsWritable (p : Protocol) (n : ℕ) (sort : Sort) (v : Val) : Type 0 where
  pub of_sort : IsOfSort (signature_of p) n sort v
  pub few : n ≤ 4294967295
  pub whole : (z : ℤ) → v ≡ Int z → unsigned_abs z < 2 ^ 63

nth : {X : Type 0} (xs : List X) (i : ℕ) → i < length xs → (x : X) × (slice_get xs i ≡ Some x)
nth [] i h = absurd (omega arith)
nth (x ∷ xs) zero h = (x, refl)
nth (x ∷ xs) (suc i) h = nth xs i (omega arith)

module _ (p : Protocol) (n : ℕ) (rest : List ℕ) (stop : Stops rest) where
  constructor_read : (k c : ℕ) → c < constructors_of (signature_of p) (Sort.Fin k)
      → (value_in p (Some (Sort.Fin k)) (word (value_text p (Some (Sort.Fin k)) (Con c) ++ rest)) ≡ Con c)
      × (behind (value_text p (Some (Sort.Fin k)) (Con c) ++ rest) ≡ rest)
  constructor_read k c within = by (slice_get p.sorts k) refl within
    where
      by : (o : Option SortDecl) → slice_get p.sorts k ≡ o → c < option_map_or (λ d. length d.cons) o 0
          → (Con (constructor_in o (word (constructor_text o c ++ rest))) ≡ Con c) × (behind (constructor_text o c ++ rest) ≡ rest)
      by None is inside = absurd (omega arith)
      by (Some d) is inside =
          let there = nth d.cons c inside in
          let w = constructor_word p k d c there.0 is there.1 in
          let size = declared_size p k d is in
          let text : constructor_text (Some d) c ≡ there.0 = ap (λ o. option_map_or (λ name. name) o []) there.1 in
          let number = constructor_found p k d c there.0 is there.1 (omega (arith, size.few)) in (
            ap (λ t. Con (constructor_in (Some d) (word (t ++ rest)))) text
                ∙ ap (λ t. Con (constructor_in (Some d) t)) (first_word there.0 rest w.0 w.1 stop)
                ∙ ap (λ m. Con (min m 255)) number ∙ ap (λ m. Con m) (let least : min c 255 ≡ c = omega (arith, size.few) in least),
            ap (λ t. behind (t ++ rest)) text ∙ behind_first there.0 rest w.0 w.1 stop,
          )

  -- a value
  pub value_read : (sort : Sort) (v : Val) → IsWritable p n sort v
      → (value_in p (Some sort) (word (value_text p (Some sort) v ++ rest)) ≡ v) × (behind (value_text p (Some sort) v ++ rest) ≡ rest)
  value_read (Sort.Fin k) (Con c) w = constructor_read k c w.of_sort
  value_read (Sort.Fin k) (Proc i) w = absurd w.of_sort
  value_read (Sort.Fin k) (Int z) w = absurd w.of_sort
  value_read Sort.Proc (Con c) w = absurd w.of_sort
  value_read Sort.Proc (Proc i) w =
      let inside : i < n = w.of_sort in
      let small : i ≤ 4294967295 = omega (arith, w.few) in
      (ap (λ j. Proc j) (process_read i rest small stop), behind_process i rest small stop)
  value_read Sort.Proc (Int z) w = absurd w.of_sort
  value_read Sort.Int (Con c) w = absurd w.of_sort
  value_read Sort.Int (Proc i) w = absurd w.of_sort
  value_read Sort.Int (Int (pos m)) w =
      let small : m < 2 ^ 63 = w.whole (pos m) refl in
      let wide : m < 2 ^ 64 = omega arith in (
        ap (λ t. Int (unwrap_or (integer_of t) (pos 0))) (first_word (decimal m) rest (decimal_words m wide) (decimal_some m wide) stop)
            ∙ ap (λ o. Int (unwrap_or o (pos 0))) (integer_positive m small),
        behind_first (decimal m) rest (decimal_words m wide) (decimal_some m wide) stop,
      )
  value_read Sort.Int (Int (negsuc m)) w =
      let small : suc m < 2 ^ 63 = w.whole (negsuc m) refl in
      let wide : suc m < 2 ^ 64 = omega arith in
      let words : AreWordBytes (45 ∷ decimal (suc m)) = (refl, decimal_words (suc m) wide) in (
        ap (λ t. Int (unwrap_or (integer_of t) (pos 0))) (first_word (45 ∷ decimal (suc m)) rest words (omega arith) stop)
            ∙ ap (λ o. Int (unwrap_or o (pos 0))) (integer_negative m small),
        behind_first (45 ∷ decimal (suc m)) rest words (omega arith) stop,
      )

within_list : {X : Type 0} (xs : List X) (i : ℕ) (x : X) → slice_get xs i ≡ Some x → i < length xs
within_list [] i x h = cc
within_list (y ∷ ys) zero x h = omega arith
within_list (y ∷ ys) (suc i) x h = omega (arith, within_list ys i x h)

-- the slot is there
abbrev pub HasDecl : Protocol → ℕ → Slot → Type 0
HasDecl p n (Slot.Global g) = (d : Decl) × (slice_get p.globals g ≡ Some d)
HasDecl p n (Slot.Cell a i) = (d : Decl) × (slice_get p.arrays a ≡ Some d) × (i < n)

module _ (p : Protocol) where
  pub few_decls : (length p.globals ≤ 64) × (length p.arrays ≤ 32)
  few_decls =
      let few = p.few in
      let a = nat_le (length p.sorts) 257 in
      let b = nat_le (length p.globals) 64 in
      let c = nat_le (integers_in p.globals) 16 in
      let d = nat_le (length p.arrays) 32 in
      let e = nat_le (integers_in p.arrays) 8 in
      let f = nat_le (length p.goals) 4096 in
      let g = nat_le (length p.transitions) 256 in
      let five = (and_parts (a && b && c && d && e) f (and_parts (a && b && c && d && e && f) g few).0).0 in
      let four = (and_parts (a && b && c && d) e five).0 in
      let three = and_parts (a && b && c) d four in
      let two = (and_parts (a && b) c three.0).0 in
      (leb-true (length p.globals) 64 (and_parts a b two).1, leb-true (length p.arrays) 32 three.1)

  pub global_word : (g : ℕ) (d : Decl) → slice_get p.globals g ≡ Some d → AreWordBytes d.name × (0 < length d.name)
  global_word g d is =
      let fit = all_at (global_fits p.sorts) p.globals g d (from_all (global_fits p.sorts) p.globals p.globals_fit) is in
      name_is_word d.name (and_parts (is_declarable d.name) (sort_is_there p.sorts d.sort) fit).0

  pub array_word : (a : ℕ) (d : Decl) → slice_get p.arrays a ≡ Some d → AreWordBytes d.name × (0 < length d.name)
  array_word a d is =
      let fit = all_at (array_fits p.sorts) p.arrays a d (from_all (array_fits p.sorts) p.arrays p.arrays_fit) is in
      name_is_word d.name (and_parts (is_declarable d.name) (sort_is_there p.sorts d.sort)
      (and_parts (is_declarable d.name && sort_is_there p.sorts d.sort) (not (same_sort d.sort Sort.Proc)) fit).0).0

  module _ (n : ℕ) (small : n ≤ 4294967295) (more : List ℕ) where
    abbrev equal : List ℕ
    equal = 32 ∷ 61 ∷ 32 ∷ more

    cell_open : (a i : ℕ) → slot_text p (Slot.Cell a i) ++ equal ≡ name_of p.arrays a ++ (91 ∷ process_text i ++ 93 ∷ equal)
    cell_open a i =
        append_assoc (name_of p.arrays a ++ 91 ∷ process_text i) (93 ∷ []) equal ∙ append_assoc (name_of p.arrays a) (91 ∷ process_text i) (93 ∷ equal)

    -- the slot of an entry, and what stands behind its `=`
    pub slot_read : (slot : Slot) → HasDecl p n slot → (slot_in p (slot_text p slot ++ equal) ≡ slot) × (behind_equal slot (slot_text p slot ++ equal) ≡ 32 ∷ more)
    slot_read (Slot.Global g) (d, is) =
        let w = global_word g d is in
        let text : name_of p.globals g ≡ d.name = ap (λ o. option_map_or (λ x. x.name) o []) is in
        let here : word (name_of p.globals g ++ equal) ≡ d.name = ap (λ t. word (t ++ equal)) text ∙ first_word d.name equal w.0 w.1 refl in
        let next : behind (name_of p.globals g ++ equal) ≡ equal = ap (λ t. behind (t ++ equal)) text ∙ behind_first d.name equal w.0 w.1 refl in
        let number = global_found p g d is (omega (arith, few_decls.0, within_list p.globals g d is)) in (
          ap (λ t. if opens_bracket t then Slot.Cell (number_of (λ x. x.name) p.arrays (word (name_of p.globals g ++ equal))) (counted (word t)) else Slot.Global (number_of (λ x. x.name) p.globals (word (name_of p.globals g ++ equal)))) next
              ∙ ap (λ t. Slot.Global (number_of (λ x. x.name) p.globals t)) here ∙ ap (λ m. Slot.Global m) number,
          ap behind next,
        )
    slot_read (Slot.Cell a i) (d, is, inside) =
        let w = array_word a d is in
        let tail = 91 ∷ process_text i ++ 93 ∷ equal in
        let text : name_of p.arrays a ≡ d.name = ap (λ o. option_map_or (λ x. x.name) o []) is in
        let opened : slot_text p (Slot.Cell a i) ++ equal ≡ d.name ++ tail = cell_open a i ∙ ap (λ t. t ++ tail) text in
        let here : word (slot_text p (Slot.Cell a i) ++ equal) ≡ d.name = ap word opened ∙ first_word d.name tail w.0 w.1 refl in
        let next : behind (slot_text p (Slot.Cell a i) ++ equal) ≡ tail = ap behind opened ∙ behind_first d.name tail w.0 w.1 refl in
        let process : counted (word tail) ≡ i = process_read i (93 ∷ equal) (omega (arith, small, inside)) refl in
        let third : behind tail ≡ 93 ∷ equal = behind_process i (93 ∷ equal) (omega (arith, small, inside)) refl in
        let number = array_found p a d is (omega (arith, few_decls.1, within_list p.arrays a d is)) in (
          ap (λ t. if opens_bracket t then Slot.Cell (number_of (λ x. x.name) p.arrays (word (slot_text p (Slot.Cell a i) ++ equal))) (counted (word t)) else Slot.Global (number_of (λ x. x.name) p.globals (word (slot_text p (Slot.Cell a i) ++ equal)))) next
              ∙ ap (λ t. Slot.Cell (number_of (λ x. x.name) p.arrays t) (counted (word tail))) here
              ∙ ap (λ m. Slot.Cell m (counted (word tail))) number ∙ ap (λ j. Slot.Cell a j) process,
          ap (λ t. behind (behind t)) next ∙ ap behind third,
        )

  entry_open : (slot : Slot) (v : Val) (rest : List ℕ) → entry_text p slot v ++ rest ≡ slot_text p slot ++ 32 ∷ 61 ∷ 32 ∷ (value_text p (slot_sort p slot) v ++ rest)
  entry_open slot v rest =
      append_assoc (slot_text p slot ++ codes " = ") (value_text p (slot_sort p slot) v) rest
      ∙ append_assoc (slot_text p slot) (codes " = ") (value_text p (slot_sort p slot) v ++ rest)

  -- an entry
  module _ (n : ℕ) (slot : Slot) (v : Val) (rest : List ℕ) (has : HasDecl p n slot) (sort : Sort) (sorted : slot_sort p slot ≡ Some sort) (w : IsWritable p n sort v) (stop : Stops rest) where
    abbrev tail : List ℕ
    tail = value_text p (slot_sort p slot) v ++ rest

    value_here : (value_in p (slot_sort p slot) (word tail) ≡ v) × (behind tail ≡ rest)
    value_here =
        let P : Option Sort → Type 0 = λ o. (value_in p o (word (value_text p o v ++ rest)) ≡ v) × (behind (value_text p o v ++ rest) ≡ rest) in
        subst P (sym sorted) (value_read p n rest stop sort v w)

    after : behind_equal slot (entry_text p slot v ++ rest) ≡ 32 ∷ tail
    after = ap (behind_equal slot) (entry_open slot v rest) ∙ (slot_read n w.few tail slot has).1

    pub entry_slot : slot_in p (entry_text p slot v ++ rest) ≡ slot
    entry_slot = ap (slot_in p) (entry_open slot v rest) ∙ (slot_read n w.few tail slot has).0

    pub entry_val : entry_value p slot (entry_text p slot v ++ rest) ≡ v
    entry_val = ap (λ t. value_in p (slot_sort p slot) (word t)) after ∙ value_here.0

    pub behind_entry : behind (behind_equal slot (entry_text p slot v ++ rest)) ≡ rest
    behind_entry = ap behind after ∙ value_here.1
