-- What the names of a protocol stand for.
use Rattle.std.proofs.Common.{◌≡◌, ℕ, zero, suc, ◌+◌, ◌<◌, Bool, true, false, List, [], ◌∷◌, ◌++◌, length, map, Some, None, refl, sym, ap, subst, ◌∙◌, arith}
use Rattle.std.specs.Prelude.{◌&&◌, ◌||◌, IsTrue, bytes_eq, slice_get, flat_map}
use Rattle.std.specs.List.{list_any, list_all}
use Rattle.std.specs.Option.{option_map_or}
use Rattle.std.proofs.lemmas.List.{map-id}
use Rattle.std.proofs.lemmas.List.Folds.{list_any-append}
use Rattle.cub_base.proofs.Bools.{and_left, and_right, or_left, or_right, or_intro_left, or_intro_right}
use Rattle.cub_names.specs.declared.meaning.What.{What}
use Rattle.cub_names.specs.Meaning.{constructor_from, constructors_from, global_from, array_from, stands_for}
use Rattle.cub_names.specs.Words.{begins_with_underscore}
use Rattle.cub_proto.specs.declared.literal.Sort.{Sort}
use Rattle.cub_proto.specs.declared.protocol.SortDecl.{SortDecl}
use Rattle.cub_proto.specs.declared.protocol.Decl.{Decl}
use Rattle.cub_proto.specs.declared.protocol.Protocol.{Protocol}
use Rattle.cub_proto.specs.Fits.{are_new, are_distinct, value_names}
use Rattle.cub_proto.specs.Signature.{declared_sort, constructors_of}
use Rattle.cub_proto.specs.StateOf.{signature_of}
use Rattle.cub_print.specs.Terms.{decl_name, constructor_in}
use Rattle.print_names.specs.Plain.{is_plain, has_plain_names, are_plain, declares_plain_names}
use Rattle.print_names.proofs.Fresh.{false_of, new_left, new_right, behind_member, member_at, none_named, found_named, none_plain}

-- a declaration with a sort
pub record IsDeclared (decls : List Decl) (n : ℕ) (sort : Sort) : Type 0 where
  pub decl : Decl
  pub is : slice_get decls n ≡ Some decl
  pub sorted : decl.sort ≡ sort
  pub named : decl_name decls n ≡ decl.name

pub declared_at : (decls : List Decl) (n : ℕ) (sort : Sort) → declared_sort decls n ≡ Some sort → IsDeclared decls n sort
declared_at [] n sort h = cc
declared_at (d ∷ ds) zero sort h = record { decl = d; is = refl; sorted = cc; named = refl }
declared_at (d ∷ ds) (suc n) sort h = let found = declared_at ds n sort h in record { decl = found.decl; is = found.is; sorted = found.sorted; named = found.named }

plain_at : (decls : List Decl) (n : ℕ) (sort : Sort) → are_plain decls ≡ true → declared_sort decls n ≡ Some sort → begins_with_underscore (decl_name decls n) ≡ false
plain_at [] n sort all h = cc
plain_at (d ∷ ds) zero sort all h = false_of (begins_with_underscore d.name) (and_left (is_plain d.name) (are_plain ds) all)
plain_at (d ∷ ds) (suc n) sort all h = plain_at ds n sort (and_right (is_plain d.name) (are_plain ds) all) h

name_of_at : (decls : List Decl) (n : ℕ) (d : Decl) → slice_get decls n ≡ Some d → slice_get (map (λ e. e.name) decls) n ≡ Some d.name
name_of_at [] n d is = cc
name_of_at (e ∷ es) zero d is = let same : e ≡ d = cc in ap (λ x. Some x.name) same
name_of_at (e ∷ es) (suc n) d is = name_of_at es n d is

-- constructors
abbrev pub all_cons : List SortDecl → List (List ℕ)
all_cons ds = flat_map (λ d. d.cons) ds

no_constructor : (word : List ℕ) (k : ℕ) (ds : List SortDecl) → list_any (bytes_eq word) (all_cons ds) ≡ false → constructors_from k ds word ≡ None
no_constructor word k [] h = refl
no_constructor word k (d ∷ ds) h =
    let parts : (list_any (bytes_eq word) d.cons || list_any (bytes_eq word) (all_cons ds)) ≡ false = sym (list_any-append (bytes_eq word) d.cons (all_cons ds)) ∙ h in
    let own : list_any (bytes_eq word) (map (λ (c : List ℕ). c) d.cons) ≡ false =
    subst (λ cs. list_any (bytes_eq word) cs ≡ false) (sym (map-id d.cons)) (or_left (list_any (bytes_eq word) d.cons) (list_any (bytes_eq word) (all_cons ds)) parts) in
    let here : constructor_from k 0 d.cons word ≡ None = none_named (λ (c : List ℕ). c) (λ number c. What.Con k number) word 0 d.cons own in
    rw here (no_constructor word (k + 1) ds (or_right (list_any (bytes_eq word) d.cons) (list_any (bytes_eq word) (all_cons ds)) parts))

-- a constructor with its number in a sort with its number
pub record IsConstructor (ds : List SortDecl) (j c : ℕ) (name : List ℕ) : Type 0 where
  pub decl : SortDecl
  pub sort_is : slice_get ds j ≡ Some decl
  pub is : slice_get decl.cons c ≡ Some name

in_all : (x : List ℕ) (ds : List SortDecl) (j : ℕ) (d : SortDecl) → slice_get ds j ≡ Some d → list_any (bytes_eq x) d.cons ≡ true → list_any (bytes_eq x) (all_cons ds) ≡ true
in_all x [] j d is h = cc
in_all x (e ∷ es) zero d is h =
    let same : d ≡ e = cc in
    list_any-append (bytes_eq x) e.cons (all_cons es) ∙ or_intro_left (list_any (bytes_eq x) e.cons) (list_any (bytes_eq x) (all_cons es)) (subst (λ y. list_any (bytes_eq x) y.cons ≡ true) same h)
in_all x (e ∷ es) (suc j) d is h =
    list_any-append (bytes_eq x) e.cons (all_cons es) ∙ or_intro_right (list_any (bytes_eq x) e.cons) (list_any (bytes_eq x) (all_cons es)) (in_all x es j d is h)

constructor_found : (k : ℕ) (ds : List SortDecl) (seen : List (List ℕ)) (j c : ℕ) (d : SortDecl) (name : List ℕ) → are_new seen (all_cons ds) ≡ true
    → slice_get ds j ≡ Some d → slice_get d.cons c ≡ Some name → constructors_from k ds name ≡ Some (What.Con (k + j) c)
constructor_found k [] seen j c d name new is at = cc
constructor_found k (e ∷ es) seen zero c d name new is at =
    let same : d ≡ e = cc in
    let own : are_new seen (map (λ (x : List ℕ). x) e.cons) ≡ true = subst (λ xs. are_new seen xs ≡ true) (sym (map-id e.cons)) (new_left e.cons (all_cons es) seen new) in
    let there : slice_get e.cons c ≡ Some name = subst (λ x. slice_get x.cons c ≡ Some name) same at in
    let here : constructor_from k 0 e.cons name ≡ Some (What.Con k (0 + c)) = found_named (λ (x : List ℕ). x) (λ number x. What.Con k number) 0 e.cons seen c name own there in
    let sort : k ≡ k + 0 = omega arith in
    let number : 0 + c ≡ c = omega arith in
    rw here (ap (λ n. Some (What.Con k n)) number ∙ ap (λ n. Some (What.Con n c)) sort)
constructor_found k (e ∷ es) seen (suc j) c d name new is at =
    let member : list_any (bytes_eq name) (all_cons es) ≡ true = in_all name es j d is (member_at d.cons c name at) in
    let own : list_any (bytes_eq name) (map (λ (x : List ℕ). x) e.cons) ≡ false =
    subst (λ xs. list_any (bytes_eq name) xs ≡ false) (sym (map-id e.cons)) (behind_member e.cons (all_cons es) seen name new member) in
    let here : constructor_from k 0 e.cons name ≡ None = none_named (λ (x : List ℕ). x) (λ number x. What.Con k number) name 0 e.cons own in
    let sort : (k + 1) + j ≡ k + suc j = omega arith in
    rw here (constructor_found (k + 1) es (seen ++ e.cons) j c d name (behind_new e.cons (all_cons es) seen new) is at ∙ ap (λ n. Some (What.Con n c)) sort)
  where
    behind_new : (xs ys zs : List (List ℕ)) → are_new zs (xs ++ ys) ≡ true → are_new (zs ++ xs) ys ≡ true
    behind_new xs ys zs h = new_right xs ys zs h

-- a number below the count is that of a constructor
pub constructor_at : (ds : List SortDecl) (j c : ℕ) → c < option_map_or (λ d. length d.cons) (slice_get ds j) 0 → IsConstructor ds j c (constructor_in ds (Sort.Fin j) c)
constructor_at [] j c h = absurd (omega arith)
constructor_at (d ∷ ds) zero c h = record { decl = d; sort_is = refl; is = at d.cons c h }
  where
    at : (ns : List (List ℕ)) (i : ℕ) → i < length ns → slice_get ns i ≡ Some (option_map_or (λ n. n) (slice_get ns i) [])
    at [] i l = absurd (omega arith)
    at (n ∷ ns) zero l = refl
    at (n ∷ ns) (suc i) l = at ns i (omega arith)
constructor_at (d ∷ ds) (suc j) c h = let found = constructor_at ds j c h in record { decl = found.decl; sort_is = found.sort_is; is = found.is }

plain_constructor : (ds : List SortDecl) (j c : ℕ) → list_all has_plain_names ds ≡ true → c < option_map_or (λ d. length d.cons) (slice_get ds j) 0
    → begins_with_underscore (constructor_in ds (Sort.Fin j) c) ≡ false
plain_constructor [] j c all h = absurd (omega arith)
plain_constructor (d ∷ ds) zero c all h = at d.cons c (and_right (is_plain d.name) (list_all is_plain d.cons) (and_left (has_plain_names d) (list_all has_plain_names ds) all)) h
  where
    at : (ns : List (List ℕ)) (i : ℕ) → list_all is_plain ns ≡ true → i < length ns → begins_with_underscore (option_map_or (λ n. n) (slice_get ns i) []) ≡ false
    at [] i ok l = absurd (omega arith)
    at (n ∷ ns) zero ok l = false_of (begins_with_underscore n) (and_left (is_plain n) (list_all is_plain ns) ok)
    at (n ∷ ns) (suc i) ok l = at ns i (and_right (is_plain n) (list_all is_plain ns) ok) (omega arith)
plain_constructor (d ∷ ds) (suc j) c all h = plain_constructor ds j c (and_right (has_plain_names d) (list_all has_plain_names ds) all) h

no_plain_constructor : (word : List ℕ) → begins_with_underscore word ≡ true → (k : ℕ) (ds : List SortDecl) → list_all has_plain_names ds ≡ true → constructors_from k ds word ≡ None
no_plain_constructor word begins k [] all = refl
no_plain_constructor word begins k (d ∷ ds) all =
    let own = and_right (is_plain d.name) (list_all is_plain d.cons) (and_left (has_plain_names d) (list_all has_plain_names ds) all) in
    let here : constructor_from k 0 d.cons word ≡ None = none_plain (λ (x : List ℕ). x) (λ number x. What.Con k number) word begins 0 d.cons own in
    rw here (no_plain_constructor word begins (k + 1) ds (and_right (has_plain_names d) (list_all has_plain_names ds) all))

module _ (p : Protocol) where
  abbrev cons_ : List (List ℕ)
  cons_ = all_cons p.sorts

  abbrev globals_ : List (List ℕ)
  globals_ = map (λ d. d.name) p.globals

  abbrev arrays_ : List (List ℕ)
  arrays_ = map (λ d. d.name) p.arrays

  values_new : are_new [] (cons_ ++ globals_ ++ arrays_) ≡ true
  values_new =
      let sorts_new = are_distinct (map (λ d. d.name) p.sorts) in
      let all_new = are_distinct (value_names p.sorts p.globals p.arrays) in
      let others_new = are_distinct (map (λ t. t.name) p.transitions) in
      and_right sorts_new all_new (and_left (sorts_new && all_new) others_new p.distinct)

  pub global_stands : (g : ℕ) (sort : Sort) → declared_sort p.globals g ≡ Some sort → stands_for (signature_of p) (decl_name p.globals g) ≡ Some (What.Global g sort)
  global_stands g sort is =
      let found = declared_at p.globals g sort is in
      let member = member_at globals_ g found.decl.name (name_of_at p.globals g found.decl found.is) in
      let front = new_left (cons_ ++ globals_) arrays_ [] values_new in
      let none : constructors_from 0 p.sorts found.decl.name ≡ None = no_constructor found.decl.name 0 p.sorts (behind_member cons_ globals_ [] found.decl.name front member) in
      let here : global_from 0 p.globals found.decl.name ≡ Some (What.Global (0 + g) found.decl.sort) =
      found_named (λ (d : Decl). d.name) (λ number d. What.Global number d.sort) 0 p.globals cons_ g found.decl (new_right cons_ globals_ [] front) found.is in
      let number : 0 + g ≡ g = omega arith in
      ap (stands_for (signature_of p)) found.named ∙ rw (none, here) (ap (λ n. Some (What.Global n found.decl.sort)) number ∙ ap (λ x. Some (What.Global g x)) found.sorted)

  pub array_stands : (a : ℕ) (sort : Sort) → declared_sort p.arrays a ≡ Some sort → stands_for (signature_of p) (decl_name p.arrays a) ≡ Some (What.Array a sort)
  array_stands a sort is =
      let found = declared_at p.arrays a sort is in
      let word = found.decl.name in
      let member = member_at arrays_ a word (name_of_at p.arrays a found.decl found.is) in
      let apart : list_any (bytes_eq word) (cons_ ++ globals_) ≡ false = behind_member (cons_ ++ globals_) arrays_ [] word values_new member in
      let parts : (list_any (bytes_eq word) cons_ || list_any (bytes_eq word) globals_) ≡ false = sym (list_any-append (bytes_eq word) cons_ globals_) ∙ apart in
      let none : constructors_from 0 p.sorts word ≡ None = no_constructor word 0 p.sorts (or_left (list_any (bytes_eq word) cons_) (list_any (bytes_eq word) globals_) parts) in
      let no_global : global_from 0 p.globals word ≡ None =
      none_named (λ (d : Decl). d.name) (λ number d. What.Global number d.sort) word 0 p.globals (or_right (list_any (bytes_eq word) cons_) (list_any (bytes_eq word) globals_) parts) in
      let here : array_from 0 p.arrays word ≡ Some (What.Array (0 + a) found.decl.sort) =
      found_named (λ (d : Decl). d.name) (λ number d. What.Array number d.sort) 0 p.arrays (cons_ ++ globals_) a found.decl
      (new_right (cons_ ++ globals_) arrays_ [] values_new) found.is in
      let number : 0 + a ≡ a = omega arith in
      ap (stands_for (signature_of p)) found.named ∙ rw (none, no_global, here) (ap (λ n. Some (What.Array n found.decl.sort)) number ∙ ap (λ x. Some (What.Array a x)) found.sorted)

  pub constructor_stands : (j c : ℕ) → c < constructors_of (signature_of p) (Sort.Fin j) → stands_for (signature_of p) (constructor_in p.sorts (Sort.Fin j) c) ≡ Some (What.Con j c)
  constructor_stands j c below =
      let found = constructor_at p.sorts j c below in
      let front = new_left cons_ globals_ [] (new_left (cons_ ++ globals_) arrays_ [] values_new) in
      let here : constructors_from 0 p.sorts (constructor_in p.sorts (Sort.Fin j) c) ≡ Some (What.Con (0 + j) c) =
      constructor_found 0 p.sorts [] j c found.decl (constructor_in p.sorts (Sort.Fin j) c) front found.sort_is found.is in
      let number : 0 + j ≡ j = omega arith in
      rw here (ap (λ n. Some (What.Con n c)) number)

  module _ (plain : IsTrue (declares_plain_names p)) where
    abbrev sorts_plain_ : Bool
    sorts_plain_ = list_all has_plain_names p.sorts

    front_plain : IsTrue (sorts_plain_ && are_plain p.globals)
    front_plain = and_left (sorts_plain_ && are_plain p.globals) (are_plain p.arrays) plain

    pub plain_sorts : list_all has_plain_names p.sorts ≡ true
    plain_sorts = and_left sorts_plain_ (are_plain p.globals) front_plain

    pub plain_globals : are_plain p.globals ≡ true
    plain_globals = and_right sorts_plain_ (are_plain p.globals) front_plain

    pub plain_arrays : are_plain p.arrays ≡ true
    plain_arrays = and_right (sorts_plain_ && are_plain p.globals) (are_plain p.arrays) plain

    pub global_plain : (g : ℕ) (sort : Sort) → declared_sort p.globals g ≡ Some sort → begins_with_underscore (decl_name p.globals g) ≡ false
    global_plain g sort is = plain_at p.globals g sort plain_globals is

    pub array_plain : (a : ℕ) (sort : Sort) → declared_sort p.arrays a ≡ Some sort → begins_with_underscore (decl_name p.arrays a) ≡ false
    array_plain a sort is = plain_at p.arrays a sort plain_arrays is

    pub constructor_plain : (j c : ℕ) → c < constructors_of (signature_of p) (Sort.Fin j) → begins_with_underscore (constructor_in p.sorts (Sort.Fin j) c) ≡ false
    constructor_plain j c below = plain_constructor p.sorts j c plain_sorts below

    -- a variable that is printed stands for nothing else
    pub variable_stands : (word : List ℕ) → begins_with_underscore word ≡ true → stands_for (signature_of p) word ≡ None
    variable_stands word begins =
        let none : constructors_from 0 p.sorts word ≡ None = no_plain_constructor word begins 0 p.sorts plain_sorts in
        let no_global : global_from 0 p.globals word ≡ None = none_plain (λ (d : Decl). d.name) (λ number d. What.Global number d.sort) word begins 0 p.globals plain_globals in
        let no_array : array_from 0 p.arrays word ≡ None = none_plain (λ (d : Decl). d.name) (λ number d. What.Array number d.sort) word begins 0 p.arrays plain_arrays in
        rw (none, no_global, no_array) refl
