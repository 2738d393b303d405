-- Names that are told apart: the first thing called so is the one that was meant.
use Rattle.std.proofs.Common.{◌≡◌, ℕ, zero, suc, ◌+◌, ◌-◌, ◌<◌, ◌≤◌, Bool, true, false, not, cond, ◌&&◌, ◌||◌, ◌==◌, inl, inr, min, List, [], ◌∷◌, ◌++◌, length, map, Option, Some, None, refl, ap, sym, subst, ◌∙◌, arith, bytes_eq, append_assoc, flat_map}
use Rattle.std.specs.Prelude.{slice_get, codes, nat_lt, nat_le}
use Rattle.std.specs.List.{prefix_len, list_any, list_all}
use Rattle.std.specs.Char.{is_ascii_alphanumeric, is_ascii_alphabetic}
use Rattle.std.specs.Int.{is_in_range}
use Rattle.std.proofs.lemmas.Bool.{and_parts, and_from, or_from, or_parts, or_cases, not-true, leb-true, ltb-true, eqb-true, false_from_ne_true}
use Rattle.std.proofs.lemmas.List.Folds.{list_any-append}
use Rattle.std.proofs.lemmas.Cmp.{nat_list_eq_equiv}
use Rattle.cub_base.specs.Name.{is_name_start, is_name_byte, has_name_form, is_name, is_reserved, is_declarable}
use Rattle.cub_proto.specs.declared.protocol.SortDecl.{SortDecl}
use Rattle.cub_proto.specs.declared.protocol.Protocol.{Protocol}
use Rattle.cub_proto.specs.declared.protocol.Decl.{Decl}
use Rattle.cub_proto.specs.Fits.{are_new, are_distinct, sort_decl_fits, sorts_fit, is_bool, constructors_are_false_true, value_names, integers_in}
use Rattle.cub_proto.proofs.Constructors.{declared_size}
use Rattle.text_lines.specs.Word.{is_separator}
use Rattle.text_lines.specs.Named.{number_of}
use Rattle.text_lines.proofs.WordLaws.{AreWordBytes}
use Rattle.text_lines.proofs.NumberLaws.{same_bytes, bytes_same, between, capital, small_letter}

-- names of a list, none of them among those seen
pub left_new : (seen xs ys : List (List ℕ)) → are_new seen (xs ++ ys) ≡ true → are_new seen xs ≡ true
left_new seen [] ys h = refl
left_new seen (x ∷ xs) ys h =
    let parts = and_parts (not (list_any (bytes_eq x) seen)) (are_new (seen ++ x ∷ []) (xs ++ ys)) h in
    and_from (not (list_any (bytes_eq x) seen)) (are_new (seen ++ x ∷ []) xs) parts.0 (left_new (seen ++ x ∷ []) xs ys parts.1)

-- fewer seen
less_seen : (few many xs : List (List ℕ)) → ((q : List ℕ) → list_any (bytes_eq q) many ≡ false → list_any (bytes_eq q) few ≡ false)
    → are_new many xs ≡ true → are_new few xs ≡ true
less_seen few many [] less h = refl
less_seen few many (x ∷ xs) less h =
    let parts = and_parts (not (list_any (bytes_eq x) many)) (are_new (many ++ x ∷ []) xs) h in
    let here = less x (not-true (list_any (bytes_eq x) many) parts.0) in
    and_from (not (list_any (bytes_eq x) few)) (are_new (few ++ x ∷ []) xs) (ap not here) (less_seen (few ++ x ∷ []) (many ++ x ∷ []) xs more parts.1)
  where
    more : (q : List ℕ) → list_any (bytes_eq q) (many ++ x ∷ []) ≡ false → list_any (bytes_eq q) (few ++ x ∷ []) ≡ false
    more q none =
        let both = or_parts (list_any (bytes_eq q) many) (list_any (bytes_eq q) (x ∷ [])) (sym (list_any-append (bytes_eq q) many (x ∷ [])) ∙ none) in
        list_any-append (bytes_eq q) few (x ∷ []) ∙ or_from (list_any (bytes_eq q) few) (list_any (bytes_eq q) (x ∷ [])) (less q both.0) both.1

pub right_new : (seen xs ys : List (List ℕ)) → are_new seen (xs ++ ys) ≡ true → are_new [] ys ≡ true
right_new seen [] ys h = less_seen [] seen ys (λ q none. refl) h
right_new seen (x ∷ xs) ys h =
    right_new (seen ++ x ∷ []) xs ys (and_parts (not (list_any (bytes_eq x) seen)) (are_new (seen ++ x ∷ []) (xs ++ ys)) h).1

module _ {X : Type 0} (called : X → List ℕ) where
  later_new : (seen : List (List ℕ)) (xs : List X) (i : ℕ) (x : X) → are_new seen (map called xs) ≡ true → slice_get xs i ≡ Some x
      → list_any (bytes_eq (called x)) seen ≡ false
  later_new seen [] i x h is = cc
  later_new seen (y ∷ ys) zero x h is =
      let same : y ≡ x = cc in
      let here = not-true (list_any (bytes_eq (called y)) seen) (and_parts (not (list_any (bytes_eq (called y)) seen)) (are_new (seen ++ called y ∷ []) (map called ys)) h).0 in
      subst (λ z. list_any (bytes_eq (called z)) seen ≡ false) same here
  later_new seen (y ∷ ys) (suc i) x h is =
      let later = later_new (seen ++ called y ∷ []) ys i x (and_parts (not (list_any (bytes_eq (called y)) seen)) (are_new (seen ++ called y ∷ []) (map called ys)) h).1 is in
      (or_parts (list_any (bytes_eq (called x)) seen) (list_any (bytes_eq (called x)) (called y ∷ []))
      (sym (list_any-append (bytes_eq (called x)) seen (called y ∷ [])) ∙ later)).0

  differs_from_first : (seen : List (List ℕ)) (y : X) (ys : List X) (i : ℕ) (x : X) → are_new seen (map called (y ∷ ys)) ≡ true → slice_get ys i ≡ Some x
      → bytes_eq (called y) (called x) ≡ false
  differs_from_first seen y ys i x h is =
      let later = later_new (seen ++ called y ∷ []) ys i x (and_parts (not (list_any (bytes_eq (called y)) seen)) (are_new (seen ++ called y ∷ []) (map called ys)) h).1 is in
      let here = (or_parts (list_any (bytes_eq (called x)) seen) (list_any (bytes_eq (called x)) (called y ∷ []))
      (sym (list_any-append (bytes_eq (called x)) seen (called y ∷ [])) ∙ later)).1 in
      nat_list_eq_equiv.symm (called y) (called x) ∙ (or_parts (bytes_eq (called x) (called y)) false here).0

  first_so_called : (seen : List (List ℕ)) (xs : List X) (i : ℕ) (x : X) → are_new seen (map called xs) ≡ true → slice_get xs i ≡ Some x
      → prefix_len (λ y. not (bytes_eq (called y) (called x))) xs ≡ i
  first_so_called seen [] i x h is = cc
  first_so_called seen (y ∷ ys) zero x h is =
      let same : y ≡ x = cc in
      let equal : bytes_eq (called y) (called x) ≡ true = ap (λ z. bytes_eq (called y) (called z)) (sym same) ∙ same_bytes (called y) in
      rw equal refl
  first_so_called seen (y ∷ ys) (suc i) x h is =
      let next = first_so_called (seen ++ called y ∷ []) ys i x (and_parts (not (list_any (bytes_eq (called y)) seen)) (are_new (seen ++ called y ∷ []) (map called ys)) h).1 is in
      rw (differs_from_first seen y ys i x h is) (ap (λ n. 1 + n) next ∙ omega arith)

  -- the number of what is called so
  pub number_found : (xs : List X) (i : ℕ) (x : X) → are_distinct (map called xs) ≡ true → slice_get xs i ≡ Some x → i ≤ 65535 → number_of called xs (called x) ≡ i
  number_found xs i x h is few = ap (λ n. min n 65535) (first_so_called [] xs i x h is) ∙ omega arith

-- a name is a word
in_range : (low high c : ℕ) → is_in_range low high c ≡ true → (low ≤ c) × (c ≤ high)
in_range low high c h =
    let parts = and_parts (nat_le low c) (nat_le c high) h in
    (leb-true low c parts.0, leb-true c high parts.1)

name_byte_word : (c : ℕ) → is_name_byte c ≡ true → is_separator c ≡ false
name_byte_word c h = elim (or_cases (is_ascii_alphanumeric c) (c == 95) h) as (λ _. is_separator c ≡ false) [
  | inl letter ↦ elim (or_cases (is_in_range 48 57 c || is_in_range 65 90 c) (is_in_range 97 122 c) letter) as (λ _. is_separator c ≡ false) [
    | inl front ↦ elim (or_cases (is_in_range 48 57 c) (is_in_range 65 90 c) front) as (λ _. is_separator c ≡ false) [
      | inl digit ↦ (let r = in_range 48 57 c digit in between c 48 57 r.0 r.1 (omega arith) (omega arith))
      | inr upper ↦ (let r = in_range 65 90 c upper in capital c (omega (arith, r.0)) (omega (arith, r.1)))
    ]
    | inr lower ↦ (let r = in_range 97 122 c lower in small_letter c (omega (arith, r.0)) (omega (arith, r.1)))
  ]
  | inr under ↦ (let e = eqb-true c 95 under in small_letter c (omega (arith, e)) (omega (arith, e)))
]

start_is_byte : (c : ℕ) → is_name_start c ≡ true → is_name_byte c ≡ true
start_is_byte c h = by (is_in_range 48 57 c) (is_in_range 65 90 c) (is_in_range 97 122 c) (c == 95) h
  where
    by : (w x y z : Bool) → ((x || y) || z) ≡ true → (((w || x) || y) || z) ≡ true
    by true x y z h = refl
    by false x y z h = h

bytes_are_words : (cs : List ℕ) → list_all is_name_byte cs ≡ true → AreWordBytes cs
bytes_are_words [] h = tt
bytes_are_words (c ∷ cs) h =
    let parts = and_parts (is_name_byte c) (list_all is_name_byte cs) h in
    (name_byte_word c parts.0, bytes_are_words cs parts.1)

form_is_word : (cs : List ℕ) → has_name_form cs ≡ true → AreWordBytes cs × (0 < length cs)
form_is_word [] h = absurd (let e : false ≡ true = h in cc)
form_is_word (c ∷ cs) h =
    let parts = and_parts (is_name_start c) (list_all is_name_byte cs) h in
    ((name_byte_word c (start_is_byte c parts.0), bytes_are_words cs parts.1), omega arith)

pub name_is_word : (name : List ℕ) → is_declarable name ≡ true → AreWordBytes name × (0 < length name)
name_is_word name h =
    let named = (and_parts (is_name name) (not (is_reserved name)) h).0 in
    let form = (and_parts (nat_le (length name) 64 && has_name_form name) (not (bytes_eq name (codes "_"))) named).0 in
    form_is_word name (and_parts (nat_le (length name) 64) (has_name_form name) form).1

-- the test of each element, at one of them
pub all_at : {X : Type 0} (test : X → Bool) (xs : List X) (i : ℕ) (x : X) → list_all test xs ≡ true → slice_get xs i ≡ Some x → test x ≡ true
all_at test [] i x h is = cc
all_at test (y ∷ ys) zero x h is =
    let same : y ≡ x = cc in
    subst (λ z. test z ≡ true) same (and_parts (test y) (list_all test ys) h).0
all_at test (y ∷ ys) (suc i) x h is = all_at test ys i x (and_parts (test y) (list_all test ys) h).1 is

-- constructors are names
two_names : (cons : List (List ℕ)) → constructors_are_false_true cons ≡ true → list_all is_declarable cons ≡ true
two_names [] h = refl
two_names (c ∷ []) h = absurd (let e : false ≡ true = h in cc)
two_names (c ∷ d ∷ []) h =
    let parts = and_parts (bytes_eq c (codes "False")) (bytes_eq d (codes "True")) h in
    let first : is_declarable c ≡ true = ap is_declarable (bytes_same c (codes "False") parts.0) in
    let second : is_declarable d ≡ true = ap is_declarable (bytes_same d (codes "True") parts.1) in
    and_from (is_declarable c) (is_declarable d && true) first (and_from (is_declarable d) true second refl)
two_names (c ∷ d ∷ e ∷ ds) h = absurd (let e : false ≡ true = h in cc)

decl_names : (d : SortDecl) → sort_decl_fits d ≡ true → list_all is_declarable d.cons ≡ true
decl_names d h = (and_parts (is_declarable d.name && nat_lt 0 (length d.cons) && nat_le (length d.cons) 64) (list_all is_declarable d.cons) h).1

sort_names : (sorts : List SortDecl) (k : ℕ) (d : SortDecl) → sorts_fit sorts ≡ true → slice_get sorts k ≡ Some d → list_all is_declarable d.cons ≡ true
sort_names [] k d h is = cc
sort_names (e ∷ es) zero d h is =
    let same : e ≡ d = cc in
    let bool = (and_parts (is_bool e) (list_all sort_decl_fits es) h).0 in
    subst (λ x. list_all is_declarable x.cons ≡ true) same
    (two_names e.cons (and_parts (bytes_eq e.name (codes "bool")) (constructors_are_false_true e.cons) bool).1)
sort_names (e ∷ es) (suc k) d h is =
    decl_names d (all_at sort_decl_fits es k d (and_parts (is_bool e) (list_all sort_decl_fits es) h).1 is)

map_id : (xs : List (List ℕ)) → map (λ x. x) xs ≡ xs
map_id [] = refl
map_id (x ∷ xs) = ap (λ ys. x ∷ ys) (map_id xs)

-- constructors of one sort are distinct
block : (sorts : List SortDecl) (seen : List (List ℕ)) (k : ℕ) (d : SortDecl) → are_new seen (flat_map (λ e. e.cons) sorts) ≡ true → slice_get sorts k ≡ Some d
    → are_new [] d.cons ≡ true
block [] seen k d h is = cc
block (e ∷ es) seen zero d h is =
    let same : e ≡ d = cc in
    let here = left_new seen e.cons (flat_map (λ x. x.cons) es) h in
    subst (λ x. are_new [] x.cons ≡ true) same (less_seen [] seen e.cons (λ q none. refl) here)
block (e ∷ es) seen (suc k) d h is = block es [] k d (right_new seen e.cons (flat_map (λ x. x.cons) es) h) is

module _ (p : Protocol) where
  abbrev cons : List (List ℕ)
  cons = flat_map (λ d. d.cons) p.sorts

  abbrev globals : List (List ℕ)
  globals = map (λ d. d.name) p.globals

  abbrev arrays : List (List ℕ)
  arrays = map (λ d. d.name) p.arrays

  values_distinct : are_new [] (cons ++ globals ++ arrays) ≡ true
  values_distinct =
      (and_parts (are_distinct (map (λ d. d.name) p.sorts)) (are_distinct (value_names p.sorts p.globals p.arrays))
      (and_parts (are_distinct (map (λ d. d.name) p.sorts) && are_distinct (value_names p.sorts p.globals p.arrays)) (are_distinct (map (λ t. t.name) p.transitions)) p.distinct).0).1

  pub constructor_found : (k : ℕ) (d : SortDecl) (c : ℕ) (name : List ℕ) → slice_get p.sorts k ≡ Some d → slice_get d.cons c ≡ Some name → c ≤ 65535
      → number_of (λ x. x) d.cons name ≡ c
  constructor_found k d c name is there few =
      let own = block p.sorts [] k d (left_new [] cons globals (left_new [] (cons ++ globals) arrays values_distinct)) is in
      number_found (λ x. x) d.cons c name (ap (are_new []) (map_id d.cons) ∙ own) there few

  pub constructor_word : (k : ℕ) (d : SortDecl) (c : ℕ) (name : List ℕ) → slice_get p.sorts k ≡ Some d → slice_get d.cons c ≡ Some name
      → AreWordBytes name × (0 < length name)
  constructor_word k d c name is there = name_is_word name (all_at is_declarable d.cons c name (sort_names p.sorts k d p.sorts_fit is) there)

  pub global_found : (g : ℕ) (d : Decl) → slice_get p.globals g ≡ Some d → g ≤ 65535 → number_of (λ x. x.name) p.globals d.name ≡ g
  global_found g d is few =
      number_found (λ x. x.name) p.globals g d (right_new [] cons globals (left_new [] (cons ++ globals) arrays values_distinct)) is few

  pub array_found : (a : ℕ) (d : Decl) → slice_get p.arrays a ≡ Some d → a ≤ 65535 → number_of (λ x. x.name) p.arrays d.name ≡ a
  array_found a d is few = number_found (λ x. x.name) p.arrays a d (right_new [] (cons ++ globals) arrays values_distinct) is few
