-- The declarations of a printed protocol declare what it does, without a fault.
use Rattle.std.proofs.Common.{◌≡◌, ℕ, zero, suc, ◌+◌, ◌<◌, ◌≤◌, Bool, true, false, List, [], ◌∷◌, ◌++◌, length, map, drop, Some, refl, sym, ap, subst, ◌∙◌, arith, append_assoc, append-nil}
use Rattle.std.specs.Prelude.{◌==◌, ◌&&◌, IsTrue, not, flat_map, bytes_eq, codes, nat_lt, nat_le, slice_get, if◌then◌else◌}
use Rattle.std.specs.List.{AllZip, list_all}
use Rattle.std.specs.Option.{option_map_or}
use Rattle.std.proofs.lemmas.Grind.{flat_map-append}
use Rattle.std.proofs.lemmas.List.{map-id}
use Rattle.std.proofs.lemmas.List.Folds.{list_all-append}
use Rattle.std.proofs.lemmas.Slice.Eq.{bytes_eq-Decides}
use Rattle.cub_base.specs.Name.{is_declarable}
use Rattle.cub_base.proofs.Bools.{and_left, and_right, and_both, same_is, less_is, le_is}
use Rattle.cub_base.proofs.Elements.{from_all}
use Rattle.cub_lexer.specs.declared.token.TokenKind.TheVariants as k
use Rattle.cub_parse.specs.declared.tree.Leaf.{Leaf}
use Rattle.cub_parse.specs.declared.tree.DeclNode.{DeclNode}
use Rattle.cub_parse.specs.declared.tree.DeclNode.TheVariants.{Enumeration}
use Rattle.cub_names.specs.declared.lists.Typed.{Typed}
use Rattle.cub_names.specs.Declarations.{types_of, globals_of, arrays_of, values_of, words_of, sort_at, forbidden, uncounted, truth_names, type_faults, value_faults, typed_faults, array_faults, declared_faults, sort_of_node, bool_sort, declared, process_sorts, declared_as}
use Rattle.cub_names.specs.Lists.{type_name, global_of, array_of, value_names, repeated}
use Rattle.cub_names.specs.Meaning.{number_from}
use Rattle.cub_names.specs.Words.{word_of, may_declare}
use Rattle.cub_proto.specs.declared.literal.Sort.{Sort}
use Rattle.cub_proto.specs.declared.protocol.SortDecl.{SortDecl}
use Rattle.cub_proto.specs.declared.protocol.Decl.{Decl}
use Rattle.cub_proto.specs.declared.protocol.Protocol.{Protocol}
use Rattle.cub_proto.specs.Fits as fits
use Rattle.cub_proto.specs.Fits.{are_new, are_distinct, sort_decl_fits, sorts_fit, is_bool, constructors_are_false_true, sort_is_there, global_fits, array_fits, integers_in, counts_fit}
use Rattle.cub_proto.specs.Signature.{signature, same_sort}
use Rattle.cub_proto.specs.StateOf.{signature_of}
use Rattle.cub_print.specs.Mark.{Mark, blank, line_feed, name, joined}
use Rattle.cub_print.specs.Mark.Mark.{word}
use Rattle.cub_print.specs.Printed.{bar_marks, sort_mark, type_marks, global_marks, array_marks, protocol_marks}
use Rattle.print_laws.specs.Spot.{Spot, first, past, leaf, in_row}
use Rattle.print_laws.specs.Tree.{sort_tree, constructors_tree, type_tree, global_tree, array_tree}
use Rattle.print_laws.proofs.Phrases.{Any, any}
use Rattle.print_laws.proofs.Whole as whole
use Rattle.print_words.proofs.Seams.{Every}
use Rattle.print_words.proofs.NameFacts.{declared_fit, all_weaker}
use Rattle.print_names.specs.Plain.{is_plain, has_plain_names, are_plain, declares_plain_names}
use Rattle.print_names.specs.Declaring.{text_of}
use Rattle.print_names.proofs.Positions.{At, at_left, at_right, word_is, at_start}
use Rattle.print_names.proofs.Fresh.{new_right, found_named}
use Rattle.print_names.proofs.Standing.{all_cons, plain_sorts, plain_globals, plain_arrays}
use Rattle.print_names.proofs.Rows.{row_zip, zip_map, zip_length, row_none, row_one, none_behind, AreWords, words_on, none_forbidden, none_repeated}
use Rattle.print_names.proofs.TypedLists.{IsTyped, typed_decls, none_process, none_typed}

-- ---- types
further_words : (text : List ℕ) (cs : List (List ℕ)) (s : Spot) → At text s (flat_map (λ d. bar_marks ++ name d ∷ []) cs)
    → AreWords text (in_row (λ d. bar_marks ++ name d ∷ []) (λ d r. leaf k.Name d (past r bar_marks)) cs s) cs
further_words text cs s at =
    row_zip text Any (λ l n. word_of text l ≡ n) (λ d. bar_marks ++ name d ∷ []) (λ d r. leaf k.Name d (past r bar_marks))
    (λ d r is here. word_is text (past r bar_marks) k.Name d [] (at_right text r bar_marks (name d ∷ []) here)) cs (any cs) s at

constructor_words : (text : List ℕ) (cs : List (List ℕ)) (s : Spot) → At text s (joined bar_marks (λ c. name c ∷ []) cs ++ line_feed ∷ []) → AreWords text (constructors_tree cs s) cs
constructor_words text [] s at = tt
constructor_words text (c ∷ cs) s at =
    let others = flat_map (λ d. bar_marks ++ name d ∷ []) cs in
    let there = past s (name c ∷ []) in (
      word_is text s k.Name c (others ++ line_feed ∷ []) at,
      further_words text cs there (at_left text there others (line_feed ∷ []) (at_right text s (name c ∷ []) (others ++ line_feed ∷ []) at)),
    )

few_counted : (name_leaf : Leaf) (ls : List Leaf) → 0 < length ls → length ls ≤ 64 → uncounted (Enumeration name_leaf ls) ≡ []
few_counted name_leaf [] some few = absurd (omega arith)
few_counted name_leaf (l ∷ ls) some few = none_behind 64 (l ∷ ls) few

-- the node declares the type
record IsTypeOf (text : List ℕ) (node : DeclNode) (d : SortDecl) : Type 0 where
  sort : sort_of_node text node ≡ d ∷ []
  its_name : AreWords text (type_name node) (d.name ∷ [])
  cons : AreWords text (value_names node) d.cons
  few : uncounted node ≡ []

words_equal : (text : List ℕ) (ls : List Leaf) (ns : List (List ℕ)) → AreWords text ls ns → map (word_of text) ls ≡ ns
words_equal text ls ns z = zip_map (word_of text) (λ (n : List ℕ). n) ls ns z ∙ map-id ns

type_read : (text : List ℕ) (d : SortDecl) (s : Spot) → IsTrue (sort_decl_fits d) → At text s (type_marks d) → IsTypeOf text (type_tree d s) d
type_read text d s fit at =
    let front = word k.TypeWord (codes "type") ∷ blank ∷ [] in
    let named = past s front in
    let ending = name d.name ∷ blank ∷ word k.Equal (codes "=") ∷ blank ∷ [] in
    let there = past named ending in
    let marks = joined bar_marks (λ c. name c ∷ []) d.cons ++ line_feed ∷ [] in
    let at_name : At text named (ending ++ marks) = at_right text s front (ending ++ marks) at in
    let own = word_is text named k.Name d.name (blank ∷ word k.Equal (codes "=") ∷ blank ∷ marks) at_name in
    let cons_words = constructor_words text d.cons there (at_right text named ending marks at_name) in
    let named_ = is_declarable d.name in
    let some = nat_lt 0 (length d.cons) in
    let few = nat_le (length d.cons) 64 in
    let heading : IsTrue ((named_ && some) && few) = and_left ((named_ && some) && few) (list_all is_declarable d.cons) fit in
    let below : length d.cons ≤ 64 = le_is (length d.cons) 64 (and_right (named_ && some) few heading) in
    let above : 0 < length d.cons = less_is 0 (length d.cons) (and_right named_ some (and_left (named_ && some) few heading)) in
    let long : length (constructors_tree d.cons there) ≡ length d.cons = zip_length (λ l n. word_of text l ≡ n) (constructors_tree d.cons there) d.cons cons_words in
    record {
      sort = rw (own, words_equal text (constructors_tree d.cons there) d.cons cons_words) refl;
      its_name = (own, tt);
      cons = cons_words;
      few = few_counted (leaf k.Name d.name named) (constructors_tree d.cons there) (omega arith) (omega arith);
    }

-- ---- sorts
name_at : (es : List SortDecl) (i : ℕ) → i < length es → slice_get (map (λ d. d.name) es) i ≡ Some (option_map_or (λ d. d.name) (slice_get es i) [])
name_at [] i h = absurd (omega arith)
name_at (e ∷ es) zero h = refl
name_at (e ∷ es) (suc i) h = name_at es i (omega arith)

type_number : (ds : List SortDecl) (j : ℕ) → IsTrue (sorts_fit ds) → are_new [] (map (λ d. d.name) ds) ≡ true → (j == 0) ≡ false → IsTrue (nat_lt j (length ds))
    → number_from 1 (map (λ d. d.name) (drop 1 ds)) (option_map_or (λ d. d.name) (slice_get ds j) []) ≡ Some j
type_number [] j fit new some below = cc
type_number (d ∷ es) zero fit new some below = cc
type_number (d ∷ es) (suc i) fit new some below =
    let inside : suc i < length (d ∷ es) = less_is (suc i) (length (d ∷ es)) below in
    let names = map (λ (e : SortDecl). e.name) es in
    let word_ = option_map_or (λ (e : SortDecl). e.name) (slice_get es i) [] in
    let others : are_new (d.name ∷ []) names ≡ true = and_right true (are_new (d.name ∷ []) names) new in
    let more : are_new (d.name ∷ []) (map (λ (x : List ℕ). x) names) ≡ true = subst (λ xs. are_new (d.name ∷ []) xs ≡ true) (sym (map-id names)) others in
    let is : slice_get names i ≡ Some word_ = name_at es i (omega arith) in
    let number : 1 + i ≡ suc i = omega arith in
    found_named (λ (x : List ℕ). x) (λ n x. n) 1 names (d.name ∷ []) i word_ more is ∙ ap Some number

sort_read : (p : Protocol) (text : List ℕ) (sort : Sort) (s : Spot) (ms : List Mark) → IsTrue (sort_is_there p.sorts sort) → At text s (sort_mark p sort ∷ ms)
    → sort_at text (map (λ d. d.name) (drop 1 p.sorts)) (sort_tree p sort s) ≡ Some sort
sort_read p text (Sort.Fin j) s ms there at = by (j == 0) refl at
  where
    new : are_new [] (map (λ d. d.name) p.sorts) ≡ true
    new =
        let sorts_new = are_distinct (map (λ d. d.name) p.sorts) in
        let all_new = are_distinct (fits.value_names p.sorts p.globals p.arrays) in
        and_left sorts_new all_new (and_left (sorts_new && all_new) (are_distinct (map (λ t. t.name) p.transitions)) p.distinct)

    by : (bool : Bool) → (j == 0) ≡ bool → At text s ((if bool then word k.BoolWord (codes "bool") else name (option_map_or (λ d. d.name) (slice_get p.sorts j) [])) ∷ ms)
        → sort_at text (map (λ d. d.name) (drop 1 p.sorts)) (if bool then leaf k.BoolWord (codes "bool") s else leaf k.Name (option_map_or (λ d. d.name) (slice_get p.sorts j) []) s) ≡ Some (Sort.Fin j)
    by true e h = ap (λ n. Some (Sort.Fin n)) (sym (same_is j 0 e))
    by false e h =
        let own = word_is text s k.Name (option_map_or (λ d. d.name) (slice_get p.sorts j) []) ms h in
        rw (own, type_number p.sorts j p.sorts_fit new e there) refl
sort_read p text Sort.Proc s ms there at = refl
sort_read p text Sort.Int s ms there at = refl

-- ---- globals and arrays
typed_global : Protocol → Decl → Spot → Typed
typed_global p d s =
    let named = past s (word k.VarWord (codes "var") ∷ blank ∷ []) in
    record { name = leaf k.Name d.name named; sort = sort_tree p d.sort (past named (name d.name ∷ blank ∷ word k.Colon (codes ":") ∷ blank ∷ [])) }

global_read : (p : Protocol) (text : List ℕ) (d : Decl) (s : Spot) → IsTrue (global_fits p.sorts d) → At text s (global_marks p d)
    → IsTyped text (map (λ e. e.name) (drop 1 p.sorts)) (typed_global p d s) d
unfolding typed_global
global_read p text d s fit at =
    let front = word k.VarWord (codes "var") ∷ blank ∷ [] in
    let named = past s front in
    let ending = name d.name ∷ blank ∷ word k.Colon (codes ":") ∷ blank ∷ [] in
    let marks = sort_mark p d.sort ∷ line_feed ∷ [] in
    let at_name : At text named (ending ++ marks) = at_right text s front (ending ++ marks) at in
    record {
      name = word_is text named k.Name d.name (blank ∷ word k.Colon (codes ":") ∷ blank ∷ marks) at_name;
      sort = sort_read p text d.sort (past named ending) (line_feed ∷ []) (and_right (is_declarable d.name) (sort_is_there p.sorts d.sort) fit) (at_right text named ending marks at_name);
    }

typed_array : Protocol → Decl → Spot → Typed
typed_array p d s =
    let named = past s (word k.ArrayWord (codes "array") ∷ blank ∷ []) in
    let before = name d.name ∷ word k.BracketOpen (codes "[") ∷ word k.ProcWord (codes "proc") ∷ word k.BracketClose (codes "]") ∷ blank ∷ word k.Colon (codes ":") ∷ blank ∷ [] in
    record { name = leaf k.Name d.name named; sort = sort_tree p d.sort (past named before) }

array_read : (p : Protocol) (text : List ℕ) (d : Decl) (s : Spot) → IsTrue (array_fits p.sorts d) → At text s (array_marks p d)
    → IsTyped text (map (λ e. e.name) (drop 1 p.sorts)) (typed_array p d s) d
unfolding typed_array
array_read p text d s fit at =
    let front = word k.ArrayWord (codes "array") ∷ blank ∷ [] in
    let named = past s front in
    let before = word k.BracketOpen (codes "[") ∷ word k.ProcWord (codes "proc") ∷ word k.BracketClose (codes "]") ∷ blank ∷ word k.Colon (codes ":") ∷ blank ∷ [] in
    let marks = sort_mark p d.sort ∷ line_feed ∷ [] in
    let at_name : At text named (name d.name ∷ before ++ marks) = at_right text s front (name d.name ∷ before ++ marks) at in
    let there : IsTrue (is_declarable d.name && sort_is_there p.sorts d.sort) = and_left (is_declarable d.name && sort_is_there p.sorts d.sort) (not (same_sort d.sort Sort.Proc)) fit in
    record {
      name = word_is text named k.Name d.name (before ++ marks) at_name;
      sort = sort_read p text d.sort (past named (name d.name ∷ before)) (line_feed ∷ []) (and_right (is_declarable d.name) (sort_is_there p.sorts d.sort) there) (at_right text named (name d.name ∷ before) marks at_name);
    }

-- ---- names
both_tests : (f g : List ℕ → Bool) (xs : List (List ℕ)) → list_all f xs ≡ true → list_all g xs ≡ true → list_all (λ x. f x && g x) xs ≡ true
both_tests f g [] a b = refl
both_tests f g (x ∷ xs) a b =
    and_both (f x && g x) (list_all (λ y. f y && g y) xs) (and_both (f x) (g x) (and_left (f x) (list_all f xs) a) (and_left (g x) (list_all g xs) b))
    (both_tests f g xs (and_right (f x) (list_all f xs) a) (and_right (g x) (list_all g xs) b))

types_may : (ds : List SortDecl) → list_all sort_decl_fits ds ≡ true → list_all has_plain_names ds ≡ true → list_all may_declare (map (λ d. d.name) ds) ≡ true
types_may [] a b = refl
types_may (d ∷ ds) a b =
    let named = is_declarable d.name in
    let some = nat_lt 0 (length d.cons) in
    let few = nat_le (length d.cons) 64 in
    let own = and_left named some (and_left (named && some) few (and_left ((named && some) && few) (list_all is_declarable d.cons) (and_left (sort_decl_fits d) (list_all sort_decl_fits ds) a))) in
    let plain = and_left (is_plain d.name) (list_all is_plain d.cons) (and_left (has_plain_names d) (list_all has_plain_names ds) b) in
    and_both (may_declare d.name) (list_all may_declare (map (λ e. e.name) ds)) (and_both named (is_plain d.name) own plain)
    (types_may ds (and_right (sort_decl_fits d) (list_all sort_decl_fits ds) a) (and_right (has_plain_names d) (list_all has_plain_names ds) b))

cons_may : (ds : List SortDecl) → list_all sort_decl_fits ds ≡ true → list_all has_plain_names ds ≡ true → list_all may_declare (all_cons ds) ≡ true
cons_may [] a b = refl
cons_may (d ∷ ds) a b =
    let front = (is_declarable d.name && nat_lt 0 (length d.cons)) && nat_le (length d.cons) 64 in
    let own = and_right front (list_all is_declarable d.cons) (and_left (sort_decl_fits d) (list_all sort_decl_fits ds) a) in
    let plain = and_right (is_plain d.name) (list_all is_plain d.cons) (and_left (has_plain_names d) (list_all has_plain_names ds) b) in
    list_all-append may_declare d.cons (all_cons ds)
    ∙ and_both (list_all may_declare d.cons) (list_all may_declare (all_cons ds)) (both_tests is_declarable is_plain d.cons own plain)
    (cons_may ds (and_right (sort_decl_fits d) (list_all sort_decl_fits ds) a) (and_right (has_plain_names d) (list_all has_plain_names ds) b))

decls_may : (ds : List Decl) → list_all (λ d. is_declarable d.name) ds ≡ true → are_plain ds ≡ true → list_all may_declare (map (λ d. d.name) ds) ≡ true
decls_may [] a b = refl
decls_may (d ∷ ds) a b =
    let rest_declarable = list_all (λ (e : Decl). is_declarable e.name) ds in
    and_both (may_declare d.name) (list_all may_declare (map (λ e. e.name) ds))
    (and_both (is_declarable d.name) (is_plain d.name) (and_left (is_declarable d.name) rest_declarable a) (and_left (is_plain d.name) (are_plain ds) b))
    (decls_may ds (and_right (is_declarable d.name) rest_declarable a) (and_right (is_plain d.name) (are_plain ds) b))

behind_first : (ds : List SortDecl) → list_all has_plain_names ds ≡ true → list_all has_plain_names (drop 1 ds) ≡ true
behind_first [] h = refl
behind_first (d ∷ ds) h = and_right (has_plain_names d) (list_all has_plain_names ds) h

-- the first sort is `bool`
same_list : (xs ys : List ℕ) → IsTrue (bytes_eq xs ys) → xs ≡ ys
same_list xs ys h = (bytes_eq-Decides xs ys).0 h

truth_cons : (cs : List (List ℕ)) → IsTrue (constructors_are_false_true cs) → cs ≡ truth_names
truth_cons [] h = cc
truth_cons (c ∷ []) h = cc
truth_cons (c ∷ d ∷ []) h =
    let first_is = same_list c (codes "False") (and_left (bytes_eq c (codes "False")) (bytes_eq d (codes "True")) h) in
    let second_is = same_list d (codes "True") (and_right (bytes_eq c (codes "False")) (bytes_eq d (codes "True")) h) in
    rw (first_is, second_is) refl
truth_cons (c ∷ d ∷ e ∷ cs) h = cc

first_cons : (d : SortDecl) → IsTrue (is_bool d) → d.cons ≡ truth_names
first_cons d h = truth_cons d.cons (and_right (bytes_eq d.name (codes "bool")) (constructors_are_false_true d.cons) h)

first_name : (d : SortDecl) → IsTrue (is_bool d) → d.name ≡ codes "bool"
first_name d h = same_list d.name (codes "bool") (and_left (bytes_eq d.name (codes "bool")) (constructors_are_false_true d.cons) h)

with_bool : (ds : List SortDecl) → IsTrue (sorts_fit ds) → bool_sort ∷ drop 1 ds ≡ ds
with_bool [] h = cc
with_bool (d ∷ ds) h =
    let first_is = and_left (is_bool d) (list_all sort_decl_fits ds) h in
    let name_is : codes "bool" ≡ d.name = sym (first_name d first_is) in
    let cons_is : truth_names ≡ d.cons = sym (first_cons d first_is) in
    ap (λ n. (record { name = n; cons = truth_names }) ∷ ds) name_is ∙ ap (λ cs. (record { name = d.name; cons = cs }) ∷ ds) cons_is

values_new : (ds : List SortDecl) (gs as_ : List (List ℕ)) → IsTrue (sorts_fit ds) → are_new [] (all_cons ds ++ gs ++ as_) ≡ true → are_new truth_names (all_cons (drop 1 ds) ++ (gs ++ as_)) ≡ true
values_new [] gs as_ h new = cc
values_new (d ∷ ds) gs as_ h new =
    let cons_is = first_cons d (and_left (is_bool d) (list_all sort_decl_fits ds) h) in
    let grouped : d.cons ++ all_cons ds ++ gs ++ as_ ≡ d.cons ++ (all_cons ds ++ (gs ++ as_)) =
    append_assoc (d.cons ++ all_cons ds) gs as_ ∙ append_assoc d.cons (all_cons ds) (gs ++ as_) in
    subst (λ cs. are_new cs (all_cons ds ++ (gs ++ as_)) ≡ true) cons_is
    (new_right d.cons (all_cons ds ++ (gs ++ as_)) [] (subst (λ xs. are_new [] xs ≡ true) grouped new))

types_new : (ds : List SortDecl) → IsTrue (sorts_fit ds) → are_new [] (map (λ d. d.name) ds) ≡ true → are_new (codes "bool" ∷ []) (map (λ d. d.name) (drop 1 ds)) ≡ true
types_new [] h new = cc
types_new (d ∷ ds) h new =
    let names = map (λ (e : SortDecl). e.name) ds in
    subst (λ n. are_new (n ∷ []) names ≡ true) (first_name d (and_left (is_bool d) (list_all sort_decl_fits ds) h)) (and_right true (are_new (d.name ∷ []) names) new)

-- words of what each node gives
words_flat : {A : Type 0} (text : List ℕ) (g : DeclNode → List Leaf) (h : A → List (List ℕ)) (nodes : List DeclNode) (xs : List A) → AllZip (λ n x. AreWords text (g n) (h x)) nodes xs
    → AreWords text (flat_map g nodes) (flat_map h xs)
words_flat text g h [] [] z = tt
words_flat text g h [] (x ∷ xs) z = absurd z
words_flat text g h (n ∷ ns) [] z = absurd z
words_flat text g h (n ∷ ns) (x ∷ xs) z = words_on text (g n) (flat_map g ns) (h x) (flat_map h xs) z.0 (words_flat text g h ns xs z.1)

flat_one : {A B : Type 0} (f : A → B) (xs : List A) → flat_map (λ x. f x ∷ []) xs ≡ map f xs
flat_one f [] = refl
flat_one f (x ∷ xs) = ap (λ ys. f x ∷ ys) (flat_one f xs)

typed_words : (text : List ℕ) (types : List (List ℕ)) (ts : List Typed) (ds : List Decl) → AllZip (IsTyped text types) ts ds → AreWords text (map (λ t. t.name) ts) (map (λ d. d.name) ds)
typed_words text types [] [] z = tt
typed_words text types [] (d ∷ ds) z = absurd z
typed_words text types (t ∷ ts) [] z = absurd z
typed_words text types (t ∷ ts) (d ∷ ds) z = (z.0.name, typed_words text types ts ds z.1)

row_names : {A : Type 0} (marks : A → List Mark) (typed : A → Spot → Typed) (xs : List A) (s : Spot) → in_row marks (λ x r. (typed x r).name) xs s ≡ map (λ t. t.name) (in_row marks typed xs s)
row_names marks typed [] s = refl
row_names marks typed (x ∷ xs) s = ap (λ ys. (typed x s).name ∷ ys) (row_names marks typed xs (past s (marks x)))

every_true : {A : Type 0} (test : A → Bool) (xs : List A) → list_all test xs ≡ true → Every (λ x. IsTrue (test x)) xs
every_true test [] h = tt
every_true test (x ∷ xs) h = (and_left (test x) (list_all test xs) h, every_true test xs (and_right (test x) (list_all test xs) h))

module _ (p : Protocol) where
  abbrev text_ : List ℕ
  text_ = text_of p

  abbrev types_ : List SortDecl
  types_ = drop 1 p.sorts

  abbrev names_ : List (List ℕ)
  names_ = map (λ d. d.name) types_

  abbrev at_globals_ : Spot
  at_globals_ = past first (whole.types p)

  abbrev at_arrays_ : Spot
  at_arrays_ = past at_globals_ (whole.globals p)

  abbrev type_nodes : List DeclNode
  type_nodes = in_row type_marks type_tree types_ first

  abbrev global_nodes : List DeclNode
  global_nodes = in_row (global_marks p) (global_tree p) p.globals at_globals_

  abbrev array_nodes : List DeclNode
  array_nodes = in_row (array_marks p) (array_tree p) p.arrays at_arrays_

  abbrev nodes : List DeclNode
  nodes = type_nodes ++ (global_nodes ++ array_nodes)

  abbrev typed_globals : List Typed
  typed_globals = in_row (global_marks p) (typed_global p) p.globals at_globals_

  abbrev typed_arrays : List Typed
  typed_arrays = in_row (array_marks p) (typed_array p) p.arrays at_arrays_

  at_whole : At text_ first (whole.types p ++ (whole.globals p ++ (whole.arrays p ++ whole.behind_declarations p)))
  at_whole = subst (At text_ first) (whole.grouped p) (at_start (protocol_marks p))

  at_behind_types : At text_ at_globals_ (whole.globals p ++ (whole.arrays p ++ whole.behind_declarations p))
  at_behind_types = at_right text_ first (whole.types p) (whole.globals p ++ (whole.arrays p ++ whole.behind_declarations p)) at_whole

  at_behind_globals : At text_ at_arrays_ (whole.arrays p ++ whole.behind_declarations p)
  at_behind_globals = at_right text_ at_globals_ (whole.globals p) (whole.arrays p ++ whole.behind_declarations p) at_behind_types

  pub at_behind_arrays : At text_ (past at_arrays_ (whole.arrays p)) (whole.behind_declarations p)
  at_behind_arrays = at_right text_ at_arrays_ (whole.arrays p) (whole.behind_declarations p) at_behind_globals

  types_read : AllZip (IsTypeOf text_) type_nodes types_
  types_read = row_zip text_ (λ d. IsTrue (sort_decl_fits d)) (IsTypeOf text_) type_marks type_tree (type_read text_) types_ (every_true sort_decl_fits types_ (declared_fit p.sorts p.sorts_fit)) first
      (at_left text_ first (whole.types p) (whole.globals p ++ (whole.arrays p ++ whole.behind_declarations p)) at_whole)

  globals_read : AllZip (IsTyped text_ names_) typed_globals p.globals
  globals_read = row_zip text_ (λ d. IsTrue (global_fits p.sorts d)) (IsTyped text_ names_) (global_marks p) (typed_global p) (global_read p text_) p.globals
      (every_true (global_fits p.sorts) p.globals (from_all (global_fits p.sorts) p.globals p.globals_fit)) at_globals_
      (at_left text_ at_globals_ (whole.globals p) (whole.arrays p ++ whole.behind_declarations p) at_behind_types)

  arrays_read : AllZip (IsTyped text_ names_) typed_arrays p.arrays
  arrays_read = row_zip text_ (λ d. IsTrue (array_fits p.sorts d)) (IsTyped text_ names_) (array_marks p) (typed_array p) (array_read p text_) p.arrays
      (every_true (array_fits p.sorts) p.arrays (from_all (array_fits p.sorts) p.arrays p.arrays_fit)) at_arrays_
      (at_left text_ at_arrays_ (whole.arrays p) (whole.behind_declarations p) at_behind_globals)

  -- what all nodes give, by what those of each kind give
  apart : {B : Type 0} (g : DeclNode → List B) (xs ys zs : List B) → flat_map g type_nodes ≡ xs → flat_map g global_nodes ≡ ys → flat_map g array_nodes ≡ zs → flat_map g nodes ≡ xs ++ (ys ++ zs)
  apart g xs ys zs a b c =
      flat_map-append g type_nodes (global_nodes ++ array_nodes) ∙ ap (λ l. l ++ flat_map g (global_nodes ++ array_nodes)) a
      ∙ ap (λ l. xs ++ l) (flat_map-append g global_nodes array_nodes ∙ ap (λ l. l ++ flat_map g array_nodes) b ∙ ap (λ l. ys ++ l) c)

  globals_are : globals_of nodes ≡ typed_globals
  unfolding typed_global
  globals_are =
      apart global_of [] typed_globals [] (row_none global_of type_marks type_tree (λ d s. refl) types_ first)
      (row_one global_of (global_marks p) (global_tree p) (typed_global p) (λ d s. refl) p.globals at_globals_)
      (row_none global_of (array_marks p) (array_tree p) (λ d s. refl) p.arrays at_arrays_) ∙ append-nil typed_globals

  arrays_are : arrays_of nodes ≡ typed_arrays
  unfolding typed_array
  arrays_are =
      apart array_of [] [] typed_arrays (row_none array_of type_marks type_tree (λ d s. refl) types_ first)
      (row_none array_of (global_marks p) (global_tree p) (λ d s. refl) p.globals at_globals_)
      (row_one array_of (array_marks p) (array_tree p) (typed_array p) (λ d s. refl) p.arrays at_arrays_)

  types_are : types_of nodes ≡ flat_map type_name type_nodes
  types_are =
      apart type_name (flat_map type_name type_nodes) [] [] refl (row_none type_name (global_marks p) (global_tree p) (λ d s. refl) p.globals at_globals_)
      (row_none type_name (array_marks p) (array_tree p) (λ d s. refl) p.arrays at_arrays_) ∙ append-nil (flat_map type_name type_nodes)

  type_words : AreWords text_ (types_of nodes) names_
  type_words =
      subst (λ ls. AreWords text_ ls names_) (sym types_are)
      (subst (AreWords text_ (flat_map type_name type_nodes)) (flat_one (λ (d : SortDecl). d.name) types_)
      (words_flat text_ type_name (λ d. d.name ∷ []) type_nodes types_ (names_of type_nodes types_ types_read)))
    where
      names_of : (ns : List DeclNode) (ds : List SortDecl) → AllZip (IsTypeOf text_) ns ds → AllZip (λ n d. AreWords text_ (type_name n) (d.name ∷ [])) ns ds
      names_of [] [] z = tt
      names_of [] (d ∷ ds) z = absurd z
      names_of (n ∷ ns) [] z = absurd z
      names_of (n ∷ ns) (d ∷ ds) z = (z.0.its_name, names_of ns ds z.1)

  words_are : words_of text_ (types_of nodes) ≡ names_
  words_are = words_equal text_ (types_of nodes) names_ type_words

  values_are : values_of nodes ≡ flat_map value_names type_nodes ++ (map (λ t. t.name) typed_globals ++ map (λ t. t.name) typed_arrays)
  unfolding typed_global typed_array
  values_are =
      apart value_names (flat_map value_names type_nodes) (map (λ t. t.name) typed_globals) (map (λ t. t.name) typed_arrays) refl
      (row_one value_names (global_marks p) (global_tree p) (λ d s. (typed_global p d s).name) (λ d s. refl) p.globals at_globals_ ∙ row_names (global_marks p) (typed_global p) p.globals at_globals_)
      (row_one value_names (array_marks p) (array_tree p) (λ d s. (typed_array p d s).name) (λ d s. refl) p.arrays at_arrays_ ∙ row_names (array_marks p) (typed_array p) p.arrays at_arrays_)

  value_words : AreWords text_ (values_of nodes) (all_cons types_ ++ (map (λ d. d.name) p.globals ++ map (λ d. d.name) p.arrays))
  value_words =
      subst (λ ls. AreWords text_ ls (all_cons types_ ++ (map (λ d. d.name) p.globals ++ map (λ d. d.name) p.arrays))) (sym values_are)
      (words_on text_ (flat_map value_names type_nodes) (map (λ t. t.name) typed_globals ++ map (λ t. t.name) typed_arrays) (all_cons types_) (map (λ d. d.name) p.globals ++ map (λ d. d.name) p.arrays)
      (words_flat text_ value_names (λ d. d.cons) type_nodes types_ (cons_of type_nodes types_ types_read))
      (words_on text_ (map (λ t. t.name) typed_globals) (map (λ t. t.name) typed_arrays) (map (λ d. d.name) p.globals) (map (λ d. d.name) p.arrays)
      (typed_words text_ names_ typed_globals p.globals globals_read) (typed_words text_ names_ typed_arrays p.arrays arrays_read)))
    where
      cons_of : (ns : List DeclNode) (ds : List SortDecl) → AllZip (IsTypeOf text_) ns ds → AllZip (λ n d. AreWords text_ (value_names n) d.cons) ns ds
      cons_of [] [] z = tt
      cons_of [] (d ∷ ds) z = absurd z
      cons_of (n ∷ ns) [] z = absurd z
      cons_of (n ∷ ns) (d ∷ ds) z = (z.0.cons, cons_of ns ds z.1)

  none_uncounted : flat_map uncounted nodes ≡ []
  none_uncounted =
      apart uncounted [] [] [] (few_of type_nodes types_ types_read) (row_none uncounted (global_marks p) (global_tree p) (λ d s. refl) p.globals at_globals_)
      (row_none uncounted (array_marks p) (array_tree p) (λ d s. refl) p.arrays at_arrays_)
    where
      few_of : (ns : List DeclNode) (ds : List SortDecl) → AllZip (IsTypeOf text_) ns ds → flat_map uncounted ns ≡ []
      few_of [] [] z = refl
      few_of [] (d ∷ ds) z = absurd z
      few_of (n ∷ ns) [] z = absurd z
      few_of (n ∷ ns) (d ∷ ds) z = rw (z.0.few, few_of ns ds z.1) refl

  sorts_are : flat_map (sort_of_node text_) nodes ≡ types_
  sorts_are =
      apart (sort_of_node text_) types_ [] [] (sorts_from type_nodes types_ types_read) (row_none (sort_of_node text_) (global_marks p) (global_tree p) (λ d s. refl) p.globals at_globals_)
      (row_none (sort_of_node text_) (array_marks p) (array_tree p) (λ d s. refl) p.arrays at_arrays_) ∙ append-nil types_
    where
      sorts_from : (ns : List DeclNode) (ds : List SortDecl) → AllZip (IsTypeOf text_) ns ds → flat_map (sort_of_node text_) ns ≡ ds
      sorts_from [] [] z = refl
      sorts_from [] (d ∷ ds) z = absurd z
      sorts_from (n ∷ ns) [] z = absurd z
      sorts_from (n ∷ ns) (d ∷ ds) z = rw (z.0.sort, sorts_from ns ds z.1) refl

  pub declared_is : declared text_ nodes ≡ signature_of p
  declared_is =
      let sorts_ : bool_sort ∷ flat_map (sort_of_node text_) nodes ≡ p.sorts = ap (λ ds. bool_sort ∷ ds) sorts_are ∙ with_bool p.sorts p.sorts_fit in
      let globals_ : map (declared_as text_ (words_of text_ (types_of nodes))) (globals_of nodes) ≡ p.globals =
      ap (λ ws. map (declared_as text_ ws) (globals_of nodes)) words_are ∙ ap (map (declared_as text_ names_)) globals_are ∙ typed_decls text_ names_ typed_globals p.globals globals_read in
      let arrays_ : map (declared_as text_ (words_of text_ (types_of nodes))) (arrays_of nodes) ≡ p.arrays =
      ap (λ ws. map (declared_as text_ ws) (arrays_of nodes)) words_are ∙ ap (map (declared_as text_ names_)) arrays_are ∙ typed_decls text_ names_ typed_arrays p.arrays arrays_read in
      ap (λ ds. signature ds (map (declared_as text_ (words_of text_ (types_of nodes))) (globals_of nodes)) (map (declared_as text_ (words_of text_ (types_of nodes))) (arrays_of nodes))) sorts_
      ∙ ap (λ ds. signature p.sorts ds (map (declared_as text_ (words_of text_ (types_of nodes))) (arrays_of nodes))) globals_ ∙ ap (λ ds. signature p.sorts p.globals ds) arrays_

  -- ---- limits
  abbrev sorts_few : Bool
  sorts_few = nat_le (length p.sorts) 257

  abbrev globals_few : Bool
  globals_few = nat_le (length p.globals) 64

  abbrev global_integers : Bool
  global_integers = nat_le (integers_in p.globals) 16

  abbrev arrays_few : Bool
  arrays_few = nat_le (length p.arrays) 32

  abbrev array_integers : Bool
  array_integers = nat_le (integers_in p.arrays) 8

  counted_arrays : IsTrue (sorts_few && globals_few && global_integers && arrays_few && array_integers)
  counted_arrays =
      let all = sorts_few && globals_few && global_integers && arrays_few && array_integers in
      let goals = nat_le (length p.goals) 4096 in
      and_left all goals (and_left (all && goals) (nat_le (length p.transitions) 256) p.few)

  counted_front : IsTrue (sorts_few && globals_few && global_integers && arrays_few)
  counted_front = and_left (sorts_few && globals_few && global_integers && arrays_few) array_integers counted_arrays

  counted_globals : IsTrue (sorts_few && globals_few && global_integers)
  counted_globals = and_left (sorts_few && globals_few && global_integers) arrays_few counted_front

  counted_sorts : IsTrue (sorts_few && globals_few)
  counted_sorts = and_left (sorts_few && globals_few) global_integers counted_globals

  few_types : length (types_of nodes) ≤ 256
  few_types =
      let all : length p.sorts ≤ 257 = le_is (length p.sorts) 257 (and_left sorts_few globals_few counted_sorts) in
      let named : length names_ ≤ 256 = fewer p.sorts p.sorts_fit all in
      omega (arith, zip_length (λ l n. word_of text_ l ≡ n) (types_of nodes) names_ type_words, named)
    where
      long_map : (ds : List SortDecl) → length (map (λ d. d.name) ds) ≡ length ds
      long_map [] = refl
      long_map (d ∷ ds) = let more : length (map (λ (e : SortDecl). e.name) ds) ≡ length ds = long_map ds in omega (arith, more)

      fewer : (ds : List SortDecl) → IsTrue (sorts_fit ds) → length ds ≤ 257 → length (map (λ d. d.name) (drop 1 ds)) ≤ 256
      fewer [] h few = cc
      fewer (d ∷ ds) h few = omega (arith, long_map ds)

  module _ (plain : IsTrue (declares_plain_names p)) where
    abbrev sorts_new_ : Bool
    sorts_new_ = are_distinct (map (λ d. d.name) p.sorts)

    abbrev values_new_ : Bool
    values_new_ = are_distinct (fits.value_names p.sorts p.globals p.arrays)

    names_new : IsTrue (sorts_new_ && values_new_)
    names_new = and_left (sorts_new_ && values_new_) (are_distinct (map (λ t. t.name) p.transitions)) p.distinct

    none_in_types : type_faults text_ nodes ≡ []
    none_in_types =
        let bad : forbidden text_ (types_of nodes) ≡ [] = none_forbidden text_ (types_of nodes) names_ type_words
        (types_may types_ (declared_fit p.sorts p.sorts_fit) (behind_first p.sorts (plain_sorts p plain))) in
        let many : drop 256 (types_of nodes) ≡ [] = none_behind 256 (types_of nodes) few_types in
        let twice : repeated text_ (codes "bool" ∷ []) (types_of nodes) ≡ [] = none_repeated text_ (types_of nodes) names_ (codes "bool" ∷ []) type_words
        (types_new p.sorts p.sorts_fit (and_left sorts_new_ values_new_ names_new)) in
        rw (bad, many, twice, none_uncounted) refl

    none_in_values : value_faults text_ nodes ≡ []
    none_in_values =
        let globals_ = map (λ (d : Decl). d.name) p.globals in
        let arrays_ = map (λ (d : Decl). d.name) p.arrays in
        let all = all_cons types_ ++ (globals_ ++ arrays_) in
        let globals_may = decls_may p.globals (all_weaker (global_fits p.sorts) (λ d. is_declarable d.name) p.globals
        (λ d h. and_left (is_declarable d.name) (sort_is_there p.sorts d.sort) h) (from_all (global_fits p.sorts) p.globals p.globals_fit)) (plain_globals p plain) in
        let arrays_may = decls_may p.arrays (all_weaker (array_fits p.sorts) (λ d. is_declarable d.name) p.arrays
        (λ d h. and_left (is_declarable d.name) (sort_is_there p.sorts d.sort) (and_left (is_declarable d.name && sort_is_there p.sorts d.sort) (not (same_sort d.sort Sort.Proc)) h))
        (from_all (array_fits p.sorts) p.arrays p.arrays_fit)) (plain_arrays p plain) in
        let may : list_all may_declare all ≡ true =
        list_all-append may_declare (all_cons types_) (globals_ ++ arrays_)
        ∙ and_both (list_all may_declare (all_cons types_)) (list_all may_declare (globals_ ++ arrays_)) (cons_may types_ (declared_fit p.sorts p.sorts_fit) (behind_first p.sorts (plain_sorts p plain)))
        (list_all-append may_declare globals_ arrays_ ∙ and_both (list_all may_declare globals_) (list_all may_declare arrays_) globals_may arrays_may) in
        let bad : forbidden text_ (values_of nodes) ≡ [] = none_forbidden text_ (values_of nodes) all value_words may in
        let twice : repeated text_ truth_names (values_of nodes) ≡ [] = none_repeated text_ (values_of nodes) all truth_names value_words
        (values_new p.sorts globals_ arrays_ p.sorts_fit (and_right sorts_new_ values_new_ names_new)) in
        rw (bad, twice) refl

    none_in_globals : typed_faults text_ (words_of text_ (types_of nodes)) 64 16 (globals_of nodes) ≡ []
    none_in_globals =
        rw (words_are, globals_are) (none_typed text_ names_ 64 16 typed_globals p.globals globals_read
        (le_is (length p.globals) 64 (and_right sorts_few globals_few counted_sorts)) (le_is (integers_in p.globals) 16 (and_right (sorts_few && globals_few) global_integers counted_globals)))

    none_in_arrays : array_faults text_ (words_of text_ (types_of nodes)) nodes ≡ []
    none_in_arrays =
        let typed : typed_faults text_ names_ 32 8 typed_arrays ≡ [] = none_typed text_ names_ 32 8 typed_arrays p.arrays arrays_read
        (le_is (length p.arrays) 32 (and_right (sorts_few && globals_few && global_integers) arrays_few counted_front))
        (le_is (integers_in p.arrays) 8 (and_right (sorts_few && globals_few && global_integers && arrays_few) array_integers counted_arrays)) in
        let processes : process_sorts text_ names_ typed_arrays ≡ [] = none_process text_ names_ typed_arrays p.arrays arrays_read
        (all_weaker (array_fits p.sorts) (λ d. not (same_sort d.sort Sort.Proc)) p.arrays
        (λ d h. and_right (is_declarable d.name && sort_is_there p.sorts d.sort) (not (same_sort d.sort Sort.Proc)) h) (from_all (array_fits p.sorts) p.arrays p.arrays_fit)) in
        rw (words_are, arrays_are, typed, processes) refl

    pub none_declared : declared_faults text_ nodes ≡ []
    none_declared = rw (none_in_types, none_in_values, none_in_globals, none_in_arrays) refl
