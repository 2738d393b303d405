-- What a text declares without a fault has names that do not begin with `_`.
use Rattle.std.proofs.Common.{◌≡◌, ℕ, Bool, true, not, List, [], ◌∷◌, ◌++◌, map, drop, refl, ◌∙◌}
use Rattle.std.specs.Prelude.{◌&&◌, flat_map, codes}
use Rattle.std.specs.List.{list_all}
use Rattle.std.proofs.lemmas.List.Folds.{list_all-map}
use Rattle.cub_base.specs.Name.{is_declarable}
use Rattle.cub_base.proofs.Bools.{and_left, and_right, and_both}
use Rattle.cub_base.proofs.Conjunctions.{list_all_front, list_all_back, list_all_weaker}
use Rattle.cub_parse.specs.declared.tree.Leaf.{Leaf}
use Rattle.cub_parse.specs.declared.tree.DeclNode.{DeclNode}
use Rattle.cub_parse.specs.declared.tree.DeclNode.TheVariants.{Enumeration, Var, Array}
use Rattle.cub_names.specs.declared.fault.TypeKind.TheVariants as t
use Rattle.cub_names.specs.declared.lists.Typed.{Typed}
use Rattle.cub_names.specs.Words.{word_of, may_declare, begins_with_underscore}
use Rattle.cub_names.specs.Lists.{repeated}
use Rattle.cub_names.specs.Declarations.{at_each, types_of, globals_of, arrays_of, values_of, words_of, declared_as, forbidden, uncounted, truth_names, type_faults, value_faults, typed_faults, array_faults, declared, declared_faults, sort_of_node, bool_sort}
use Rattle.cub_names.proofs.Empty.{nil_left, nil_right, nil_map}
use Rattle.cub_names.proofs.DeclaredFit.{none_fails}
use Rattle.cub_proto.specs.Signature.{Signature}
use Rattle.print_names.specs.Plain.{is_plain, has_plain_names, are_plain}

-- the names of a signature are those of texts
abbrev pub has_plain_signature : Signature → Bool
has_plain_signature sig = list_all has_plain_names sig.sorts && are_plain sig.globals && are_plain sig.arrays

module _ (text : List ℕ) where
  abbrev may : Leaf → Bool
  may l = may_declare (word_of text l)

  plain_of : (l : Leaf) → may l ≡ true → is_plain (word_of text l) ≡ true
  plain_of l h = and_right (is_declarable (word_of text l)) (not (begins_with_underscore (word_of text l))) h

  all_plain : (ls : List Leaf) → list_all may ls ≡ true → list_all is_plain (map (word_of text) ls) ≡ true
  all_plain ls h = list_all-map is_plain (word_of text) ls ∙ list_all_weaker may (λ l. is_plain (word_of text l)) plain_of ls h

  sorts_plain : (decls : List DeclNode) → list_all may (types_of decls) ≡ true → list_all may (values_of decls) ≡ true → list_all has_plain_names (flat_map (sort_of_node text) decls) ≡ true
  sorts_plain [] types values = refl
  sorts_plain (Enumeration name cons ∷ decls) types values =
      let words = map (word_of text) cons in
      and_both (is_plain (word_of text name) && list_all is_plain words) (list_all has_plain_names (flat_map (sort_of_node text) decls))
      (and_both (is_plain (word_of text name)) (list_all is_plain words) (plain_of name (and_left (may name) (list_all may (types_of decls)) types))
      (all_plain cons (list_all_front may cons (values_of decls) values)))
      (sorts_plain decls (and_right (may name) (list_all may (types_of decls)) types) (list_all_back may cons (values_of decls) values))
  sorts_plain (Var name sort ∷ decls) types values = sorts_plain decls types (and_right (may name) (list_all may (values_of decls)) values)
  sorts_plain (Array name sort ∷ decls) types values = sorts_plain decls types (and_right (may name) (list_all may (values_of decls)) values)

  abbrev named : Typed → Bool
  named d = is_plain (word_of text d.name)

  globals_plain : (decls : List DeclNode) → list_all may (values_of decls) ≡ true → list_all named (globals_of decls) ≡ true
  globals_plain [] h = refl
  globals_plain (Enumeration name cons ∷ decls) h = globals_plain decls (list_all_back may cons (values_of decls) h)
  globals_plain (Var name sort ∷ decls) h =
      and_both (is_plain (word_of text name)) (list_all named (globals_of decls)) (plain_of name (and_left (may name) (list_all may (values_of decls)) h))
      (globals_plain decls (and_right (may name) (list_all may (values_of decls)) h))
  globals_plain (Array name sort ∷ decls) h = globals_plain decls (and_right (may name) (list_all may (values_of decls)) h)

  arrays_plain : (decls : List DeclNode) → list_all may (values_of decls) ≡ true → list_all named (arrays_of decls) ≡ true
  arrays_plain [] h = refl
  arrays_plain (Enumeration name cons ∷ decls) h = arrays_plain decls (list_all_back may cons (values_of decls) h)
  arrays_plain (Var name sort ∷ decls) h = arrays_plain decls (and_right (may name) (list_all may (values_of decls)) h)
  arrays_plain (Array name sort ∷ decls) h =
      and_both (is_plain (word_of text name)) (list_all named (arrays_of decls)) (plain_of name (and_left (may name) (list_all may (values_of decls)) h))
      (arrays_plain decls (and_right (may name) (list_all may (values_of decls)) h))

  -- the leaves of types and of values may be declared where no fault stands
  may_be_declared : (decls : List DeclNode) → declared_faults text decls ≡ [] → (list_all may (types_of decls) ≡ true) × (list_all may (values_of decls) ≡ true)
  may_be_declared decls h =
      let types = words_of text (types_of decls) in
      let tf = type_faults text decls in
      let vf = value_faults text decls in
      let gf = typed_faults text types 64 16 (globals_of decls) in
      let front = nil_left (tf ++ vf) gf (nil_left (tf ++ vf ++ gf) (array_faults text types decls) h) in
      let bad_types = at_each t.T18 (forbidden text (types_of decls)) in
      let many_types = at_each t.T16 (drop 256 (types_of decls)) in
      let twice = at_each t.T02 (repeated text (codes "bool" ∷ []) (types_of decls)) in
      let sizes = at_each t.T16 (flat_map uncounted decls) in
      let bad_values = at_each t.T18 (forbidden text (values_of decls)) in
      let again = at_each t.T02 (repeated text truth_names (values_of decls)) in
      let no_types = nil_left bad_types many_types (nil_left (bad_types ++ many_types) twice (nil_left (bad_types ++ many_types ++ twice) sizes (nil_left tf vf front))) in
      let no_values = nil_left bad_values again (nil_right tf vf front) in (
        none_fails may (types_of decls) (nil_map _ (forbidden text (types_of decls)) no_types),
        none_fails may (values_of decls) (nil_map _ (forbidden text (values_of decls)) no_values),
      )

  pub declared_plain : (decls : List DeclNode) → declared_faults text decls ≡ [] → has_plain_signature (declared text decls) ≡ true
  declared_plain decls h =
      let types = words_of text (types_of decls) in
      let found = may_be_declared decls h in
      let sig = declared text decls in
      let sorts = list_all has_plain_names sig.sorts in
      let globals = are_plain sig.globals in
      let arrays = are_plain sig.arrays in
      and_both (sorts && globals) arrays
      (and_both sorts globals (and_both (has_plain_names bool_sort) (list_all has_plain_names (flat_map (sort_of_node text) decls)) refl (sorts_plain decls found.0 found.1))
      (list_all-map (λ d. is_plain d.name) (declared_as text types) (globals_of decls) ∙ globals_plain decls found.1))
      (list_all-map (λ d. is_plain d.name) (declared_as text types) (arrays_of decls) ∙ arrays_plain decls found.1)
