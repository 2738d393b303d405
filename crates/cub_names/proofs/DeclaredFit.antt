-- Declarations without a fault declare the parts of a protocol.
use Rattle.std.proofs.Common.{◌≡◌, ℕ, suc, ◌+◌, ◌≤◌, ◌<◌, Bool, true, false, not, List, [], ◌∷◌, ◌++◌, length, map, drop, Option, Some, None, option_map, refl, ap, ◌∙◌, arith, nat_lt, nat_le, cond}
use Rattle.std.specs.Prelude.{if◌then◌else◌, IfSome, ◌&&◌, filter, is_none, unwrap_or, codes}
use Rattle.std.specs.List.{list_all, flat_map}
use Rattle.std.proofs.lemmas.List.{length-map, length-append}
use Rattle.std.proofs.lemmas.List.Folds.{list_all-map}
use Rattle.std.proofs.lemmas.List.Sums.{sum_by-append}
use Rattle.cub_base.proofs.Bools.{and_left, and_right, and_both, is_le, is_less}
use Rattle.cub_base.proofs.Elements.{all_from}
use Rattle.cub_base.proofs.Conjunctions.{list_all_front, list_all_back, list_all_weaker}
use Rattle.cub_base.specs.Name.{is_declarable}
use Rattle.cub_lexer.specs.declared.token.TokenKind.{TokenKind}
use Rattle.cub_lexer.specs.declared.token.TokenKind.TheVariants as k
use Rattle.cub_parse.specs.declared.tree.Leaf.{Leaf}
use Rattle.cub_parse.specs.declared.tree.DeclNode.{DeclNode}
use Rattle.cub_parse.specs.declared.tree.DeclNode.TheVariants.{Enumeration, Var, Array}
use Rattle.cub_proto.specs.declared.literal.Sort.{Sort}
use Rattle.cub_proto.specs.declared.protocol.SortDecl.{SortDecl}
use Rattle.cub_proto.specs.declared.protocol.Decl.{Decl}
use Rattle.cub_proto.specs.Signature.{is_sort, same_sort}
use Rattle.cub_proto.specs.Fits.{are_distinct, are_new, sort_decl_fits, sort_is_there, global_fits, array_fits, counts_fit, integers_in, value_names}
use Rattle.cub_proto.specs.Parts.{AreParts}
use Rattle.cub_names.specs.declared.fault.TypeKind.TheVariants as t
use Rattle.cub_names.specs.declared.lists.Typed.{Typed}
use Rattle.cub_names.specs.Words.{word_of, may_declare, begins_with_underscore}
use Rattle.cub_names.specs.Lists.{repeated}
use Rattle.cub_names.specs.Meaning.{number_from}
use Rattle.cub_names.specs.Declarations.{at_each, types_of, globals_of, arrays_of, values_of, words_of, sort_named, sort_at, unknown_sorts, process_sorts, integer_names, declared_as, typed_name, forbidden, uncounted, truth_names, type_faults, value_faults, typed_faults, declared, declared_faults, sort_of_node, bool_sort}
use Rattle.cub_names.proofs.Empty.{nil_left, nil_right, nil_map, nil_drop}
use Rattle.cub_names.proofs.NamedSteps.{number_within}
use Rattle.cub_names.proofs.NamesDistinct.{none_repeated, values_distinct, type_words}

-- none fails a test where none is left over
pub none_fails : {A : Type 0} (p : A → Bool) (xs : List A) → filter (λ x. not (p x)) xs ≡ [] → list_all p xs ≡ true
none_fails p [] h = refl
none_fails p (x ∷ xs) h = by (p x) h (λ none. none_fails p xs none)
  where
    by : (b : Bool) → cond (not b) (x ∷ filter (λ y. not (p y)) xs) (filter (λ y. not (p y)) xs) ≡ [] → (filter (λ y. not (p y)) xs ≡ [] → list_all p xs ≡ true) → (b && list_all p xs) ≡ true
    by true e rest = rest e
    by false e rest = cc

module _ (text : List ℕ) where
  -- the leaf may be declared
  abbrev may : Leaf → Bool
  may l = may_declare (word_of text l)

  declarable : (l : Leaf) → may l ≡ true → is_declarable (word_of text l) ≡ true
  declarable l h = and_left (is_declarable (word_of text l)) (not (begins_with_underscore (word_of text l))) h

  all_declarable : (ls : List Leaf) → list_all may ls ≡ true → list_all is_declarable (map (word_of text) ls) ≡ true
  all_declarable ls h = list_all-map is_declarable (word_of text) ls ∙ list_all_weaker may (λ l. is_declarable (word_of text l)) declarable ls h

  counted : (name : Leaf) (cons : List Leaf) → uncounted (Enumeration name cons) ≡ [] → (nat_lt 0 (length (map (word_of text) cons)) ≡ true) × (nat_le (length (map (word_of text) cons)) 64 ≡ true)
  counted name [] h = cc
  counted name (c ∷ cs) h =
      let few = nil_drop 64 (c ∷ cs) h in
      let size = length-map (c ∷ cs) (word_of text) in
      (is_less 0 (length (map (word_of text) (c ∷ cs))) (omega arith), is_le (length (map (word_of text) (c ∷ cs))) 64 (omega (arith, few, size)))

  -- types with 1 to 64 constructors, and names that may be declared
  sorts_are_fit : (decls : List DeclNode) → list_all may (types_of decls) ≡ true → list_all may (values_of decls) ≡ true → flat_map uncounted decls ≡ []
      → list_all sort_decl_fits (flat_map (sort_of_node text) decls) ≡ true
  sorts_are_fit [] types values h = refl
  sorts_are_fit (Enumeration name cons ∷ decls) types values h =
      let words = map (word_of text) cons in
      let size = counted name cons (nil_left (uncounted (Enumeration name cons)) (flat_map uncounted decls) h) in
      let named = is_declarable (word_of text name) in
      and_both (named && nat_lt 0 (length words) && nat_le (length words) 64 && list_all is_declarable words) (list_all sort_decl_fits (flat_map (sort_of_node text) decls))
      (and_both (named && nat_lt 0 (length words) && nat_le (length words) 64) (list_all is_declarable words)
      (and_both (named && nat_lt 0 (length words)) (nat_le (length words) 64)
      (and_both named (nat_lt 0 (length words)) (declarable name (and_left (may name) (list_all may (types_of decls)) types)) size.0) size.1)
      (all_declarable cons (list_all_front may cons (values_of decls) values)))
      (sorts_are_fit decls (and_right (may name) (list_all may (types_of decls)) types) (list_all_back may cons (values_of decls) values) (nil_right (uncounted (Enumeration name cons)) (flat_map uncounted decls) h))
  sorts_are_fit (Var name sort ∷ decls) types values h = sorts_are_fit decls types (and_right (may name) (list_all may (values_of decls)) values) h
  sorts_are_fit (Array name sort ∷ decls) types values h = sorts_are_fit decls types (and_right (may name) (list_all may (values_of decls)) values) h

  global_names : (decls : List DeclNode) → list_all may (values_of decls) ≡ true → list_all (λ d. may d.name) (globals_of decls) ≡ true
  global_names [] h = refl
  global_names (Enumeration name cons ∷ decls) h = global_names decls (list_all_back may cons (values_of decls) h)
  global_names (Var name sort ∷ decls) h = and_both (may name) (list_all (λ d. may d.name) (globals_of decls)) (and_left (may name) (list_all may (values_of decls)) h) (global_names decls (and_right (may name) (list_all may (values_of decls)) h))
  global_names (Array name sort ∷ decls) h = global_names decls (and_right (may name) (list_all may (values_of decls)) h)

  array_names : (decls : List DeclNode) → list_all may (values_of decls) ≡ true → list_all (λ d. may d.name) (arrays_of decls) ≡ true
  array_names [] h = refl
  array_names (Enumeration name cons ∷ decls) h = array_names decls (list_all_back may cons (values_of decls) h)
  array_names (Var name sort ∷ decls) h = array_names decls (and_right (may name) (list_all may (values_of decls)) h)
  array_names (Array name sort ∷ decls) h = and_both (may name) (list_all (λ d. may d.name) (arrays_of decls)) (and_left (may name) (list_all may (values_of decls)) h) (array_names decls (and_right (may name) (list_all may (values_of decls)) h))

  sorts_length : (decls : List DeclNode) → length (flat_map (sort_of_node text) decls) ≡ length (types_of decls)
  sorts_length [] = refl
  sorts_length (Enumeration name cons ∷ decls) = ap suc (sorts_length decls)
  sorts_length (Var name sort ∷ decls) = sorts_length decls
  sorts_length (Array name sort ∷ decls) = sorts_length decls

  module _ (types : List (List ℕ)) (sorts : List SortDecl) (many : length sorts ≡ suc (length types)) where
    numbered : (number : Option ℕ) → IfSome number (λ n. n < 1 + length types) → IfSome (option_map Sort.Fin number) (λ s. sort_is_there sorts s ≡ true)
    numbered None h = tt
    numbered (Some n) h = is_less n (length sorts) (omega (arith, h, many))

    named_there : (kind : TokenKind) (number : Option ℕ) → IfSome number (λ n. n < 1 + length types) → IfSome (sort_named kind number) (λ s. sort_is_there sorts s ≡ true)
    named_there k.BoolWord number h = is_less 0 (length sorts) (omega (arith, many))
    named_there k.IntWord number h = refl
    named_there k.ProcWord number h = refl
    named_there kind number h = numbered number h

    sort_there : (l : Leaf) → IfSome (sort_at text types l) (λ s. sort_is_there sorts s ≡ true)
    sort_there l = named_there l.token.kind (number_from 1 types (word_of text l)) (number_within 1 types (word_of text l))

    known_by : (l : Leaf) (found : Option Sort) → IfSome found (λ s. sort_is_there sorts s ≡ true) → (if is_none found then l ∷ [] else []) ≡ [] → sort_is_there sorts (unwrap_or found Sort.Proc) ≡ true
    known_by l None h none = cc
    known_by l (Some s) h none = h

    known : (d : Typed) → (if is_none (sort_at text types d.sort) then d.sort ∷ [] else []) ≡ [] → sort_is_there sorts (declared_as text types d).sort ≡ true
    known d none = known_by d.sort (sort_at text types d.sort) (sort_there d.sort) none

    globals_are_fit : (ds : List Typed) → list_all (λ d. may d.name) ds ≡ true → unknown_sorts text types ds ≡ [] → list_all (global_fits sorts) (map (declared_as text types) ds) ≡ true
    globals_are_fit [] names h = refl
    globals_are_fit (d ∷ ds) names h =
        let here = if is_none (sort_at text types d.sort) then d.sort ∷ [] else [] in
        let there = sort_is_there sorts (declared_as text types d).sort in
        and_both (is_declarable (word_of text d.name) && there) (list_all (global_fits sorts) (map (declared_as text types) ds))
        (and_both (is_declarable (word_of text d.name)) there (declarable d.name (and_left (may d.name) (list_all (λ e. may e.name) ds) names)) (known d (nil_left here (unknown_sorts text types ds) h)))
        (globals_are_fit ds (and_right (may d.name) (list_all (λ e. may e.name) ds) names) (nil_right here (unknown_sorts text types ds) h))

    process_by : (l : Leaf) (found : Option Sort) → (if is_none found then l ∷ [] else []) ≡ [] → (if is_sort found Sort.Proc then l ∷ [] else []) ≡ [] → not (same_sort (unwrap_or found Sort.Proc) Sort.Proc) ≡ true
    process_by l None none h = cc
    process_by l (Some (Sort.Fin n)) none h = refl
    process_by l (Some Sort.Proc) none h = cc
    process_by l (Some Sort.Int) none h = refl

    arrays_are_fit : (ds : List Typed) → list_all (λ d. may d.name) ds ≡ true → unknown_sorts text types ds ≡ [] → process_sorts text types ds ≡ [] → list_all (array_fits sorts) (map (declared_as text types) ds) ≡ true
    arrays_are_fit [] names h g = refl
    arrays_are_fit (d ∷ ds) names h g =
        let here = if is_none (sort_at text types d.sort) then d.sort ∷ [] else [] in
        let processes = if is_sort (sort_at text types d.sort) Sort.Proc then d.sort ∷ [] else [] in
        let there = sort_is_there sorts (declared_as text types d).sort in
        let plain = not (same_sort (declared_as text types d).sort Sort.Proc) in
        and_both (is_declarable (word_of text d.name) && there && plain) (list_all (array_fits sorts) (map (declared_as text types) ds))
        (and_both (is_declarable (word_of text d.name) && there) plain
        (and_both (is_declarable (word_of text d.name)) there (declarable d.name (and_left (may d.name) (list_all (λ e. may e.name) ds) names)) (known d (nil_left here (unknown_sorts text types ds) h)))
        (process_by d.sort (sort_at text types d.sort) (nil_left here (unknown_sorts text types ds) h) (nil_left processes (process_sorts text types ds) g)))
        (arrays_are_fit ds (and_right (may d.name) (list_all (λ e. may e.name) ds) names) (nil_right here (unknown_sorts text types ds) h) (nil_right processes (process_sorts text types ds) g))

  module _ (types : List (List ℕ)) where
    integer_by : (name : Leaf) (found : Option Sort) → length (if is_sort found Sort.Int then name ∷ [] else []) ≡ cond (same_sort (unwrap_or found Sort.Proc) Sort.Int) 1 0
    integer_by name None = refl
    integer_by name (Some (Sort.Fin n)) = refl
    integer_by name (Some Sort.Proc) = refl
    integer_by name (Some Sort.Int) = refl

    integers : (ds : List Typed) → integers_in (map (declared_as text types) ds) ≡ length (integer_names text types ds)
    integers [] = refl
    integers (d ∷ ds) =
        let here = if is_sort (sort_at text types d.sort) Sort.Int then d.name ∷ [] else [] in
        omega (
          arith,
          sum_by-append (λ e. cond (same_sort e.sort Sort.Int) 1 0) (declared_as text types d ∷ []) (map (declared_as text types) ds),
          integer_by d.name (sort_at text types d.sort),
          length-append here (integer_names text types ds),
          integers ds,
        )

  -- the limits of globals, or of arrays
  few_typed : (types : List (List ℕ)) (limit most : ℕ) (ds : List Typed) → typed_faults text types limit most ds ≡ []
      → (unknown_sorts text types ds ≡ []) × (length (map (declared_as text types) ds) ≤ limit) × (integers_in (map (declared_as text types) ds) ≤ most)
  few_typed types limit most ds h =
      let front = at_each t.T01 (unknown_sorts text types ds) ++ at_each t.T16 (map typed_name (drop limit ds)) in
      let back = at_each t.T16 (drop most (integer_names text types ds)) in
      let first = nil_left front back h in
      let few = nil_drop limit ds (nil_map typed_name (drop limit ds) (nil_map _ (map typed_name (drop limit ds)) (nil_right (at_each t.T01 (unknown_sorts text types ds)) _ first))) in
      let small = nil_drop most (integer_names text types ds) (nil_map _ (drop most (integer_names text types ds)) (nil_right front back h)) in (
        nil_map _ (unknown_sorts text types ds) (nil_left (at_each t.T01 (unknown_sorts text types ds)) (at_each t.T16 (map typed_name (drop limit ds))) first),
        omega (arith, few, length-map ds (declared_as text types)),
        omega (arith, small, integers types ds),
      )

-- the counts of declarations alone
counts_of : (sorts : List SortDecl) (globals arrays : List Decl) → length sorts ≤ 257 → length globals ≤ 64 → integers_in globals ≤ 16 → length arrays ≤ 32 → integers_in arrays ≤ 8
    → counts_fit sorts globals arrays [] [] ≡ true
counts_of sorts globals arrays a b c d e =
    let la = nat_le (length sorts) 257 in
    let lb = nat_le (length globals) 64 in
    let lc = nat_le (integers_in globals) 16 in
    let ld = nat_le (length arrays) 32 in
    let le = nat_le (integers_in arrays) 8 in
    and_both (la && lb && lc && ld && le && true) true
    (and_both (la && lb && lc && ld && le) true
    (and_both (la && lb && lc && ld) le (and_both (la && lb && lc) ld (and_both (la && lb) lc (and_both la lb (is_le (length sorts) 257 a) (is_le (length globals) 64 b)) (is_le (integers_in globals) 16 c)) (is_le (length arrays) 32 d)) (is_le (integers_in arrays) 8 e)) refl) refl

-- what is declared without a fault, with no start formula, goals and transitions
pub declared_parts : (text : List ℕ) (decls : List DeclNode) → declared_faults text decls ≡ []
    → AreParts (declared text decls).sorts (declared text decls).globals (declared text decls).arrays [] [] []
declared_parts text decls h =
    let types = words_of text (types_of decls) in
    let tf = type_faults text decls in
    let vf = value_faults text decls in
    let gf = typed_faults text types 64 16 (globals_of decls) in
    let of_arrays = typed_faults text types 32 8 (arrays_of decls) in
    let processes = at_each t.T12 (process_sorts text types (arrays_of decls)) in
    let front = nil_left (tf ++ vf ++ gf) (of_arrays ++ processes) h in
    let back = nil_right (tf ++ vf ++ gf) (of_arrays ++ processes) h in
    let no_tf = nil_left tf vf (nil_left (tf ++ vf) gf front) in
    let no_vf = nil_right tf vf (nil_left (tf ++ vf) gf front) in
    let bad_types = at_each t.T18 (forbidden text (types_of decls)) in
    let many_types = at_each t.T16 (drop 256 (types_of decls)) in
    let twice = at_each t.T02 (repeated text (codes "bool" ∷ []) (types_of decls)) in
    let sizes = at_each t.T16 (flat_map uncounted decls) in
    let three = nil_left (bad_types ++ many_types ++ twice) sizes no_tf in
    let two = nil_left (bad_types ++ many_types) twice three in
    let may_types = none_fails (may text) (types_of decls) (nil_map _ (forbidden text (types_of decls)) (nil_left bad_types many_types two)) in
    let few_types = nil_drop 256 (types_of decls) (nil_map _ (drop 256 (types_of decls)) (nil_right bad_types many_types two)) in
    let new_types = none_repeated text (codes "bool" ∷ []) (types_of decls) (nil_map _ (repeated text (codes "bool" ∷ []) (types_of decls)) (nil_right (bad_types ++ many_types) twice three)) in
    let counted_types = nil_map _ (flat_map uncounted decls) (nil_right (bad_types ++ many_types ++ twice) sizes no_tf) in
    let bad_values = at_each t.T18 (forbidden text (values_of decls)) in
    let again = at_each t.T02 (repeated text truth_names (values_of decls)) in
    let may_values = none_fails (may text) (values_of decls) (nil_map _ (forbidden text (values_of decls)) (nil_left bad_values again no_vf)) in
    let new_values = none_repeated text truth_names (values_of decls) (nil_map _ (repeated text truth_names (values_of decls)) (nil_right bad_values again no_vf)) in
    let globals = few_typed text types 64 16 (globals_of decls) (nil_right (tf ++ vf) gf front) in
    let arrays = few_typed text types 32 8 (arrays_of decls) (nil_left of_arrays processes back) in
    let no_processes = nil_map _ (process_sorts text types (arrays_of decls)) (nil_right of_arrays processes back) in
    let sig = declared text decls in
    let many : length sig.sorts ≡ suc (length types) = omega (arith, sorts_length text decls, length-map (types_of decls) (word_of text)) in
    record {
      few = counts_of sig.sorts sig.globals sig.arrays (omega (arith, sorts_length text decls, few_types)) globals.1 globals.2 arrays.1 arrays.2;
      sorts = sorts_are_fit text decls may_types may_values counted_types;
      distinct = and_both (are_distinct (map (λ d. d.name) sig.sorts) && are_distinct (value_names sig.sorts sig.globals sig.arrays)) true
          (and_both (are_distinct (map (λ d. d.name) sig.sorts)) (are_distinct (value_names sig.sorts sig.globals sig.arrays))
          (ap (are_new (codes "bool" ∷ [])) (type_words text decls) ∙ new_types) (values_distinct text types decls new_values)) refl;
      globals = all_from (global_fits sig.sorts) sig.globals (globals_are_fit text types sig.sorts many (globals_of decls) (global_names text decls may_values) globals.0);
      arrays = all_from (array_fits sig.sorts) sig.arrays (arrays_are_fit text types sig.sorts many (arrays_of decls) (array_names text decls may_values) arrays.0 no_processes);
      start = refl;
      goals = λ i d below. absurd (omega arith);
      transitions = λ i d below. absurd (omega arith);
    }

-- lists that equal what is declared
pub parts_along : (text : List ℕ) (decls : List DeclNode) {types : List (List ℕ)} {sorts : List SortDecl} {globals arrays : List Decl} {named celled : List Typed}
    → types ≡ words_of text (types_of decls) → declared_faults text decls ≡ [] → sorts ≡ bool_sort ∷ flat_map (sort_of_node text) decls
    → named ≡ globals_of decls → globals ≡ map (declared_as text types) named → celled ≡ arrays_of decls → arrays ≡ map (declared_as text types) celled
    → AreParts sorts globals arrays [] [] []
parts_along text decls {types} {sorts} {globals} {arrays} {named} {celled} is none es en eg ec ea =
    rw (es, eg, ea, en, ec, is) (declared_parts text decls none)
