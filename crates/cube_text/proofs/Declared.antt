-- The names of a protocol: each is a name, is found where it stands, and those of constructors are not those of terms.
use Rattle.std.proofs.Common.{◌≡◌, ℕ, zero, suc, ◌<◌, ◌≤◌, true, false, not, ◌&&◌, nat_le, nat_lt, List, [], ◌∷◌, ◌++◌, length, map, flat_map, min, Option, Some, None, refl, ap, sym, subst, ◌∙◌, arith, bytes_eq, codes, append_assoc}
use Rattle.std.specs.Prelude.{slice_get, option_map}
use Rattle.std.specs.List.{list_all, list_any, prefix_len}
use Rattle.std.proofs.lemmas.Bool.{and_parts, or_parts, not-true, lt-ltb, le-ltb, leb-true}
use Rattle.std.proofs.lemmas.List.Folds.{list_any-append}
use Rattle.std.proofs.lemmas.List.{append-nil}
use Rattle.std.proofs.lemmas.Cmp.{nat_list_eq_equiv}
use Rattle.cub_base.specs.Name.{is_declarable}
use Rattle.cub_base.proofs.Elements.{from_all}
use Rattle.cub_proto.specs.declared.literal.Sort.{Sort}
use Rattle.cub_proto.specs.declared.protocol.Decl.{Decl}
use Rattle.cub_proto.specs.declared.protocol.SortDecl.{SortDecl}
use Rattle.cub_proto.specs.declared.protocol.Protocol.{Protocol}
use Rattle.cub_proto.specs.Signature.{declared_sort, same_sort}
use Rattle.cub_proto.specs.Fits.{are_new, are_distinct, value_names, sort_decl_fits, sorts_fit, is_bool, constructors_are_false_true, global_fits, array_fits, sort_is_there, integers_in}
use Rattle.cub_proto.proofs.Constructors.{declared_size}
use Rattle.text_lines.specs.Named.{number_of}
use Rattle.text_lines.proofs.NameLaws.{left_new, all_at, constructor_found, global_found, array_found}
use Rattle.text_lines.proofs.NumberLaws.{bytes_same}
use Rattle.cube_text.specs.Meaning.{constructor_in, declared_in}
use Rattle.cube_text.proofs.Words.{IsNamed, declarable_named}

-- a declaration with a sort is there
pub declared_there : (decls : List Decl) (n : ℕ) (s : Sort) → declared_sort decls n ≡ Some s → (d : Decl) × (slice_get decls n ≡ Some d)
declared_there decls n s h = by (slice_get decls n) refl h
  where
    by : (o : Option Decl) → slice_get decls n ≡ o → option_map (λ d. d.sort) o ≡ Some s → (d : Decl) × (slice_get decls n ≡ Some d)
    by None is h = absurd (let e : None ≡ Some s = h in cc)
    by (Some d) is h = (d, is)

pub there_within : {X : Type 0} (xs : List X) (n : ℕ) (x : X) → slice_get xs n ≡ Some x → n < length xs
there_within [] n x h = absurd (let e : None ≡ Some x = h in cc)
there_within (y ∷ ys) zero x h = omega arith
there_within (y ∷ ys) (suc n) x h = let later = there_within ys n x h in omega (arith, later)

-- behind names that are new, the next are
behind_new : (seen xs ys : List (List ℕ)) → are_new seen (xs ++ ys) ≡ true → are_new (seen ++ xs) ys ≡ true
behind_new seen [] ys h = subst (λ s. are_new s ys ≡ true) (sym (append-nil seen)) h
behind_new seen (x ∷ xs) ys h =
    let later = behind_new (seen ++ x ∷ []) xs ys (and_parts (not (list_any (bytes_eq x) seen)) (are_new (seen ++ x ∷ []) (xs ++ ys)) h).1 in
    subst (λ s. are_new s ys ≡ true) (append_assoc seen (x ∷ []) xs) later

-- none of the names is among those seen
not_seen : (seen : List (List ℕ)) (xs : List Decl) (i : ℕ) (x : Decl) → are_new seen (map (λ d. d.name) xs) ≡ true → slice_get xs i ≡ Some x → list_any (bytes_eq x.name) seen ≡ false
not_seen seen [] i x h is = absurd (let e : None ≡ Some x = is in cc)
not_seen seen (y ∷ ys) zero x h is =
    let same : y ≡ x = cc in
    let here = not-true (list_any (bytes_eq y.name) seen) (and_parts (not (list_any (bytes_eq y.name) seen)) (are_new (seen ++ y.name ∷ []) (map (λ d. d.name) ys)) h).0 in
    subst (λ z. list_any (bytes_eq z.name) seen ≡ false) same here
not_seen seen (y ∷ ys) (suc i) x h is =
    let later = not_seen (seen ++ y.name ∷ []) ys i x (and_parts (not (list_any (bytes_eq y.name) seen)) (are_new (seen ++ y.name ∷ []) (map (λ d. d.name) ys)) h).1 is in
    (or_parts (list_any (bytes_eq x.name) seen) (list_any (bytes_eq x.name) (y.name ∷ []))
    (sym (list_any-append (bytes_eq x.name) seen (y.name ∷ [])) ∙ later)).0

none_of_sort : (name : List ℕ) (sorts : List SortDecl) (k : ℕ) (d : SortDecl) → list_any (bytes_eq name) (flat_map (λ e. e.cons) sorts) ≡ false → slice_get sorts k ≡ Some d → list_any (bytes_eq name) d.cons ≡ false
none_of_sort name [] k d h is = absurd (let e : None ≡ Some d = is in cc)
none_of_sort name (e ∷ es) zero d h is =
    let same : e ≡ d = cc in
    let here = (or_parts (list_any (bytes_eq name) e.cons) (list_any (bytes_eq name) (flat_map (λ x. x.cons) es)) (sym (list_any-append (bytes_eq name) e.cons (flat_map (λ x. x.cons) es)) ∙ h)).0 in
    subst (λ x. list_any (bytes_eq name) x.cons ≡ false) same here
none_of_sort name (e ∷ es) (suc k) d h is =
    none_of_sort name es k d (or_parts (list_any (bytes_eq name) e.cons) (list_any (bytes_eq name) (flat_map (λ x. x.cons) es)) (sym (list_any-append (bytes_eq name) e.cons (flat_map (λ x. x.cons) es)) ∙ h)).1 is

-- a name that is none of a list's is not found in it
pub not_found : (names : List (List ℕ)) (name : List ℕ) → length names ≤ 64 → list_any (bytes_eq name) names ≡ false → constructor_in names name ≡ None
not_found names name few none =
    let all = passes names none in
    let number : number_of (λ n. n) names name ≡ length names = ap (λ n. min n 65535) all ∙ omega (arith, few) in
    rw (number, le-ltb (length names) (length names) (omega arith)) refl
  where
    passes : (xs : List (List ℕ)) → list_any (bytes_eq name) xs ≡ false → prefix_len (λ x. not (bytes_eq x name)) xs ≡ length xs
    passes [] h = refl
    passes (x ∷ xs) h =
        let parts = or_parts (bytes_eq name x) (list_any (bytes_eq name) xs) h in
        let other : bytes_eq x name ≡ false = nat_list_eq_equiv.symm x name ∙ parts.0 in
        rw (other, passes xs parts.1) (omega arith)

two_names : (cons : List (List ℕ)) → constructors_are_false_true cons ≡ true → list_all is_declarable cons ≡ true
two_names [] h = absurd (let e : false ≡ true = h in cc)
two_names (c ∷ []) h = absurd (let e : false ≡ true = h in cc)
two_names (c ∷ d ∷ []) h =
    let parts = and_parts (bytes_eq c (codes "False")) (bytes_eq d (codes "True")) h in
    let first : is_declarable c ≡ true = ap is_declarable (bytes_same c (codes "False") parts.0) in
    let second : is_declarable d ≡ true = ap is_declarable (bytes_same d (codes "True") parts.1) in
    rw (first, second) refl
two_names (c ∷ d ∷ e ∷ ds) h = absurd (let e : false ≡ true = h in cc)

pub sort_names : (sorts : List SortDecl) (k : ℕ) (d : SortDecl) → sorts_fit sorts ≡ true → slice_get sorts k ≡ Some d → list_all is_declarable d.cons ≡ true
sort_names [] k d h is = absurd (let e : None ≡ Some d = is in cc)
sort_names (e ∷ es) zero d h is =
    let same : e ≡ d = cc in
    let bool = (and_parts (is_bool e) (list_all sort_decl_fits es) h).0 in
    subst (λ x. list_all is_declarable x.cons ≡ true) same (two_names e.cons (and_parts (bytes_eq e.name (codes "bool")) (constructors_are_false_true e.cons) bool).1)
sort_names (e ∷ es) (suc k) d h is =
    let fits = all_at sort_decl_fits es k d (and_parts (is_bool e) (list_all sort_decl_fits es) h).1 is in
    (and_parts (is_declarable d.name && nat_lt 0 (length d.cons) && nat_le (length d.cons) 64) (list_all is_declarable d.cons) fits).1

module _ (p : Protocol) where
  pub global_named : (g : ℕ) (d : Decl) → slice_get p.globals g ≡ Some d → IsNamed d.name
  global_named g d is =
      declarable_named d.name (and_parts (is_declarable d.name) (sort_is_there p.sorts d.sort) (all_at (global_fits p.sorts) p.globals g d (from_all (global_fits p.sorts) p.globals p.globals_fit) is)).0

  pub array_named : (a : ℕ) (d : Decl) → slice_get p.arrays a ≡ Some d → IsNamed d.name
  array_named a d is =
      declarable_named d.name (and_parts (is_declarable d.name) (sort_is_there p.sorts d.sort)
      (and_parts (is_declarable d.name && sort_is_there p.sorts d.sort) (not (same_sort d.sort Sort.Proc)) (all_at (array_fits p.sorts) p.arrays a d (from_all (array_fits p.sorts) p.arrays p.arrays_fit) is)).0).0

  counts : (nat_le (length p.sorts) 257 && nat_le (length p.globals) 64 && nat_le (integers_in p.globals) 16 && nat_le (length p.arrays) 32
      && nat_le (integers_in p.arrays) 8 && nat_le (length p.goals) 4096 && nat_le (length p.transitions) 256) ≡ true
  counts = p.few

  few_arrays : length p.arrays ≤ 32
  few_arrays =
      let a = (and_parts _ (nat_le (length p.transitions) 256) counts).0 in
      let b = (and_parts _ (nat_le (length p.goals) 4096) a).0 in
      let c = (and_parts _ (nat_le (integers_in p.arrays) 8) b).0 in
      let d = (and_parts _ (nat_le (length p.arrays) 32) c).1 in
      leb-true (length p.arrays) 32 d

  few_globals : length p.globals ≤ 64
  few_globals =
      let a = (and_parts _ (nat_le (length p.transitions) 256) counts).0 in
      let b = (and_parts _ (nat_le (length p.goals) 4096) a).0 in
      let c = (and_parts _ (nat_le (integers_in p.arrays) 8) b).0 in
      let d = (and_parts _ (nat_le (length p.arrays) 32) c).0 in
      let e = (and_parts _ (nat_le (integers_in p.globals) 16) d).0 in
      let f = (and_parts (nat_le (length p.sorts) 257) (nat_le (length p.globals) 64) e).1 in
      leb-true (length p.globals) 64 f

  found_in : (decls : List Decl) (n : ℕ) (d : Decl) → slice_get decls n ≡ Some d → number_of (λ x. x.name) decls d.name ≡ n → declared_in decls d.name ≡ Some n
  found_in decls n d is same =
      let inside = there_within decls n d is in
      rw (same, lt-ltb n (length decls) inside) refl

  pub global_read : (g : ℕ) (d : Decl) → slice_get p.globals g ≡ Some d → declared_in p.globals d.name ≡ Some g
  global_read g d is = found_in p.globals g d is (global_found p g d is (let w = there_within p.globals g d is in omega (arith, w, few_globals)))

  pub array_read : (a : ℕ) (d : Decl) → slice_get p.arrays a ≡ Some d → declared_in p.arrays d.name ≡ Some a
  array_read a d is = found_in p.arrays a d is (array_found p a d is (let w = there_within p.arrays a d is in omega (arith, w, few_arrays)))

  pub constructor_read : (k : ℕ) (d : SortDecl) (c : ℕ) (name : List ℕ) → slice_get p.sorts k ≡ Some d → slice_get d.cons c ≡ Some name → constructor_in d.cons name ≡ Some c
  constructor_read k d c name is there =
      let inside = there_within d.cons c name there in
      let size = declared_size p k d is in
      let number = constructor_found p k d c name is there (omega (arith, inside, size.few)) in
      rw (number, lt-ltb c (length d.cons) inside) refl

  pub constructor_named : (k : ℕ) (d : SortDecl) (c : ℕ) (name : List ℕ) → slice_get p.sorts k ≡ Some d → slice_get d.cons c ≡ Some name → IsNamed name
  constructor_named k d c name is there = declarable_named name (all_at is_declarable d.cons c name (sort_names p.sorts k d p.sorts_fit is) there)

  -- a global is called as no constructor
  pub global_no_constructor : (g : ℕ) (e : Decl) (k : ℕ) (d : SortDecl) → slice_get p.globals g ≡ Some e → slice_get p.sorts k ≡ Some d → constructor_in d.cons e.name ≡ None
  global_no_constructor g e k d is there =
      let size = declared_size p k d there in
      let cons = flat_map (λ x. x.cons) p.sorts in
      let globals = map (λ x. x.name) p.globals in
      let arrays = map (λ x. x.name) p.arrays in
      let distinct : are_new [] (cons ++ globals ++ arrays) ≡ true =
      (and_parts (are_distinct (map (λ x. x.name) p.sorts)) (are_distinct (value_names p.sorts p.globals p.arrays))
      (and_parts (are_distinct (map (λ x. x.name) p.sorts) && are_distinct (value_names p.sorts p.globals p.arrays)) (are_distinct (map (λ t. t.name) p.transitions)) p.distinct).0).1 in
      let new : are_new cons globals ≡ true = behind_new [] cons globals (left_new [] (cons ++ globals) arrays distinct) in
      not_found d.cons e.name size.few (none_of_sort e.name p.sorts k d (not_seen cons p.globals g e new is) there)
