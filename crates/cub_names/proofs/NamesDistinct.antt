-- Names that stand once each in the order of the text stand once each by kind.
use Rattle.std.proofs.Common.{◌≡◌, ℕ, ◌+◌, ◌≤◌, Bool, true, false, not, List, [], ◌∷◌, ◌++◌, map, refl, sym, ap, subst, arith, bytes_eq}
use Rattle.std.specs.Prelude.{if◌then◌else◌, ◌&&◌, ◌||◌, flat_map}
use Rattle.std.specs.List.{list_any}
use Rattle.std.proofs.lemmas.List.{map-append}
use Rattle.std.proofs.lemmas.Cmp.{nat_list_eq_equiv}
use Rattle.cub_base.proofs.Bools.{and_left, and_right, and_both, or_left, or_right}
use Rattle.cub_parse.specs.declared.tree.Leaf.{Leaf}
use Rattle.cub_parse.specs.declared.tree.DeclNode.{DeclNode}
use Rattle.cub_parse.specs.declared.tree.DeclNode.TheVariants.{Enumeration, Var, Array}
use Rattle.cub_proto.specs.Fits.{are_new, are_distinct, value_names}
use Rattle.cub_names.specs.Words.{word_of}
use Rattle.cub_names.specs.Lists as lists
use Rattle.cub_names.specs.Declarations.{types_of, globals_of, arrays_of, values_of, declared_as, sort_of_node, bool_sort, truth_names}
use Rattle.cub_names.proofs.MapNames.{equal_bytes}

abbrev one_if : Bool → ℕ
one_if b = if b then 1 else 0

-- how often a name stands in a list
abbrev times : List ℕ → List (List ℕ) → ℕ
times q [] = 0
times q (x ∷ xs) = (if bytes_eq q x then 1 else 0) + times q xs

times-append : (q : List ℕ) (xs ys : List (List ℕ)) → times q (xs ++ ys) ≡ times q xs + times q ys
times-append q [] ys = omega arith
times-append q (x ∷ xs) ys = omega (arith, times-append q xs ys)

-- a name that is not seen stands there never, and the other way round
unseen : (q : List ℕ) (xs : List (List ℕ)) → list_any (bytes_eq q) xs ≡ false → times q xs ≡ 0
unseen q [] h = refl
unseen q (x ∷ xs) h =
    let differ = or_left (bytes_eq q x) (list_any (bytes_eq q) xs) h in
    omega (arith, ap one_if differ, unseen q xs (or_right (bytes_eq q x) (list_any (bytes_eq q) xs) h))

never : (q : List ℕ) (xs : List (List ℕ)) → times q xs ≡ 0 → list_any (bytes_eq q) xs ≡ false
never q [] h = refl
never q (x ∷ xs) h = by (bytes_eq q x) h (λ none. never q xs none)
  where
    by : (b : Bool) → one_if b + times q xs ≡ 0 → (times q xs ≡ 0 → list_any (bytes_eq q) xs ≡ false) → (b || list_any (bytes_eq q) xs) ≡ false
    by true e rest = absurd (omega (arith, e))
    by false e rest = rest (omega (arith, e))

-- names of which each stands once at most, also with those seen
pub once_new : (seen xs : List (List ℕ)) → ((q : List ℕ) → times q seen + times q xs ≤ 1) → are_new seen xs ≡ true
once_new seen [] h = refl
once_new seen (x ∷ xs) h =
    let here = h x in
    let own = ap one_if (nat_list_eq_equiv.refl x) in
    let none : times x seen ≡ 0 = omega (arith, here, own) in
    and_both (not (list_any (bytes_eq x) seen)) (are_new (seen ++ x ∷ []) xs) (ap not (never x seen none))
    (once_new (seen ++ x ∷ []) xs (λ q. let e = times-append q seen (x ∷ []) in let k = h q in omega (arith, e, k)))

not_true : (b : Bool) → not b ≡ true → b ≡ false
not_true true h = sym h
not_true false h = refl

one_seen : (seen : List (List ℕ)) (x q : List ℕ) (b : Bool) → bytes_eq q x ≡ b → list_any (bytes_eq x) seen ≡ false → times q seen ≤ 1 → times q seen + (if b then 1 else 0) ≤ 1
one_seen seen x q true is fresh h = let none = subst (λ y. times y seen ≡ 0) (sym (equal_bytes q x is)) (unseen x seen fresh) in omega (arith, none)
one_seen seen x q false is fresh h = omega (arith, h)

pub new_once : (seen xs : List (List ℕ)) → ((q : List ℕ) → times q seen ≤ 1) → are_new seen xs ≡ true → (q : List ℕ) → times q seen + times q xs ≤ 1
new_once seen [] h new q = let k = h q in omega (arith, k)
new_once seen (x ∷ xs) h new q =
    let fresh = not_true (list_any (bytes_eq x) seen) (and_left (not (list_any (bytes_eq x) seen)) (are_new (seen ++ x ∷ []) xs) new) in
    let next = new_once (seen ++ x ∷ []) xs
    (λ p. let e = times-append p seen (x ∷ []) in let k = one_seen seen x p (bytes_eq p x) refl fresh (h p) in omega (arith, e, k))
    (and_right (not (list_any (bytes_eq x) seen)) (are_new (seen ++ x ∷ []) xs) new) q in
    omega (arith, next, times-append q seen (x ∷ []))

-- no leaf that repeats a name: the names are new
pub none_repeated : (text : List ℕ) (seen : List (List ℕ)) (leaves : List Leaf) → lists.repeated text seen leaves ≡ [] → are_new seen (map (word_of text) leaves) ≡ true
none_repeated text seen [] h = refl
none_repeated text seen (l ∷ ls) h = by (list_any (bytes_eq (word_of text l)) seen) h (λ none. none_repeated text (seen ++ word_of text l ∷ []) ls none)
  where
    by : (b : Bool) → (if b then l ∷ [] else []) ++ lists.repeated text (seen ++ word_of text l ∷ []) ls ≡ []
        → (lists.repeated text (seen ++ word_of text l ∷ []) ls ≡ [] → are_new (seen ++ word_of text l ∷ []) (map (word_of text) ls) ≡ true)
        → (not b && are_new (seen ++ word_of text l ∷ []) (map (word_of text) ls)) ≡ true
    by true e rest = cc
    by false e rest = rest e

module _ (text : List ℕ) (types : List (List ℕ)) (q : List ℕ) where
  -- constructors, globals and arrays by kind, and in the order of the text
  by_kind : (decls : List DeclNode) → times q (flat_map (λ d. d.cons) (flat_map (sort_of_node text) decls)) + times q (map (λ d. d.name) (map (declared_as text types) (globals_of decls)))
      + times q (map (λ d. d.name) (map (declared_as text types) (arrays_of decls))) ≡ times q (map (word_of text) (values_of decls))
  by_kind [] = refl
  by_kind (Enumeration name cons ∷ decls) =
      omega (
        arith,
        by_kind decls,
        ap (times q) (map-append (word_of text) cons (values_of decls)),
        times-append q (map (word_of text) cons) (map (word_of text) (values_of decls)),
        times-append q (map (word_of text) cons) (flat_map (λ d. d.cons) (flat_map (sort_of_node text) decls)),
      )
  by_kind (Var name sort ∷ decls) = omega (arith, by_kind decls)
  by_kind (Array name sort ∷ decls) = omega (arith, by_kind decls)

  same_times : (decls : List DeclNode) → times q (value_names (bool_sort ∷ flat_map (sort_of_node text) decls) (map (declared_as text types) (globals_of decls)) (map (declared_as text types) (arrays_of decls)))
      ≡ times q truth_names + times q (map (word_of text) (values_of decls))
  same_times decls =
      let cons = flat_map (λ d. d.cons) (flat_map (sort_of_node text) decls) in
      let globals = map (λ d. d.name) (map (declared_as text types) (globals_of decls)) in
      let arrays = map (λ d. d.name) (map (declared_as text types) (arrays_of decls)) in
      omega (arith, by_kind decls, times-append q ((truth_names ++ cons) ++ globals) arrays, times-append q (truth_names ++ cons) globals, times-append q truth_names cons)

truths_once : (q : List ℕ) → times q truth_names ≤ 1
truths_once q = let h = new_once [] truth_names (λ p. omega arith) refl q in omega (arith, h)

-- names of values that are new in the order of the text are distinct by kind
pub values_distinct : (text : List ℕ) (types : List (List ℕ)) (decls : List DeclNode) → are_new truth_names (map (word_of text) (values_of decls)) ≡ true
    → are_distinct (value_names (bool_sort ∷ flat_map (sort_of_node text) decls) (map (declared_as text types) (globals_of decls)) (map (declared_as text types) (arrays_of decls))) ≡ true
values_distinct text types decls new =
    once_new [] (value_names (bool_sort ∷ flat_map (sort_of_node text) decls) (map (declared_as text types) (globals_of decls)) (map (declared_as text types) (arrays_of decls)))
    (λ q. let k = new_once truth_names (map (word_of text) (values_of decls)) truths_once new q in let e = same_times text types q decls in omega (arith, k, e))

-- the names of the declared types
pub type_words : (text : List ℕ) (decls : List DeclNode) → map (λ d. d.name) (flat_map (sort_of_node text) decls) ≡ map (word_of text) (types_of decls)
type_words text [] = refl
type_words text (Enumeration name cons ∷ decls) = ap (λ ws. word_of text name ∷ ws) (type_words text decls)
type_words text (Var name sort ∷ decls) = type_words text decls
type_words text (Array name sort ∷ decls) = type_words text decls
