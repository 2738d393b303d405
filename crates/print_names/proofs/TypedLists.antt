-- Declarations of globals and arrays, beside what they declare.
use Rattle.std.proofs.Common.{◌≡◌, ℕ, suc, ◌+◌, ◌≤◌, Bool, true, false, List, [], ◌∷◌, length, map, drop, Some, refl, ap, subst, ◌∙◌, arith, cond}
use Rattle.std.specs.Prelude.{not}
use Rattle.std.specs.List.{AllZip, list_all}
use Rattle.std.proofs.lemmas.List.Sums.{sum_by-cons}
use Rattle.cub_base.proofs.Bools.{and_left, and_right}
use Rattle.cub_names.specs.declared.lists.Typed.{Typed}
use Rattle.cub_names.specs.Declarations.{sort_at, unknown_sorts, process_sorts, integer_names, declared_as, typed_faults}
use Rattle.cub_names.specs.Words.{word_of}
use Rattle.cub_proto.specs.declared.literal.Sort.{Sort}
use Rattle.cub_proto.specs.declared.protocol.Decl.{Decl}
use Rattle.cub_proto.specs.Fits.{integers_in}
use Rattle.cub_proto.specs.Signature.{same_sort}
use Rattle.print_names.proofs.Rows.{zip_length, none_behind}

module _ (text : List ℕ) (types : List (List ℕ)) where
  -- the declaration names it, and its sort
  pub record IsTyped (its : Typed) (d : Decl) : Type 0 where
    pub name : word_of text its.name ≡ d.name
    pub sort : sort_at text types its.sort ≡ Some d.sort

  pub typed_decls : (ts : List Typed) (ds : List Decl) → AllZip IsTyped ts ds → map (declared_as text types) ts ≡ ds
  typed_decls [] [] z = refl
  typed_decls [] (d ∷ ds) z = absurd z
  typed_decls (x ∷ xs) [] z = absurd z
  typed_decls (x ∷ xs) (d ∷ ds) z = rw (z.0.name, z.0.sort, typed_decls xs ds z.1) refl

  pub none_unknown : (ts : List Typed) (ds : List Decl) → AllZip IsTyped ts ds → unknown_sorts text types ts ≡ []
  none_unknown [] [] z = refl
  none_unknown [] (d ∷ ds) z = absurd z
  none_unknown (x ∷ xs) [] z = absurd z
  none_unknown (x ∷ xs) (d ∷ ds) z = rw z.0.sort (none_unknown xs ds z.1)

  pub none_process : (ts : List Typed) (ds : List Decl) → AllZip IsTyped ts ds → list_all (λ d. not (same_sort d.sort Sort.Proc)) ds ≡ true → process_sorts text types ts ≡ []
  none_process [] [] z h = refl
  none_process [] (d ∷ ds) z h = absurd z
  none_process (x ∷ xs) [] z h = absurd z
  none_process (x ∷ xs) (d ∷ ds) z h = split (same_sort d.sort Sort.Proc) refl (none_process xs ds z.1 (and_right (not (same_sort d.sort Sort.Proc)) (list_all (λ e. not (same_sort e.sort Sort.Proc)) ds) h))
    where
      split : (b : Bool) → same_sort d.sort Sort.Proc ≡ b → process_sorts text types xs ≡ [] → process_sorts text types (x ∷ xs) ≡ []
      split true e others =
          let wrong : not true ≡ true = subst (λ b. not b ≡ true) e (and_left (not (same_sort d.sort Sort.Proc)) (list_all (λ y. not (same_sort y.sort Sort.Proc)) ds) h) in
          absurd cc
      split false e others = rw (z.0.sort, e) others

  integers_are : (ts : List Typed) (ds : List Decl) → AllZip IsTyped ts ds → length (integer_names text types ts) ≡ integers_in ds
  integers_are [] [] z = refl
  integers_are [] (d ∷ ds) z = absurd z
  integers_are (x ∷ xs) [] z = absurd z
  integers_are (x ∷ xs) (d ∷ ds) z = split (same_sort d.sort Sort.Int) refl (integers_are xs ds z.1)
    where
      split : (b : Bool) → same_sort d.sort Sort.Int ≡ b → length (integer_names text types xs) ≡ integers_in ds → length (integer_names text types (x ∷ xs)) ≡ integers_in (d ∷ ds)
      split true e others =
          let more : integers_in (d ∷ ds) ≡ 1 + integers_in ds = sum_by-cons (λ y. cond (same_sort y.sort Sort.Int) 1 0) d ds ∙ ap (λ b. cond b 1 0 + integers_in ds) e in
          let front : length (integer_names text types (x ∷ xs)) ≡ suc (length (integer_names text types xs)) = rw (z.0.sort, e) refl in
          omega (arith, more, front, others)
      split false e others =
          let more : integers_in (d ∷ ds) ≡ 0 + integers_in ds = sum_by-cons (λ y. cond (same_sort y.sort Sort.Int) 1 0) d ds ∙ ap (λ b. cond b 1 0 + integers_in ds) e in
          let front : length (integer_names text types (x ∷ xs)) ≡ length (integer_names text types xs) = rw (z.0.sort, e) refl in
          omega (arith, more, front, others)

  -- no fault stands among them, within the limits
  pub none_typed : (limit integers : ℕ) (ts : List Typed) (ds : List Decl) → AllZip IsTyped ts ds → length ds ≤ limit → integers_in ds ≤ integers
      → typed_faults text types limit integers ts ≡ []
  none_typed limit integers ts ds z few whole =
      let unknown : unknown_sorts text types ts ≡ [] = none_unknown ts ds z in
      let long : drop limit ts ≡ [] = none_behind limit ts (omega (arith, zip_length IsTyped ts ds z)) in
      let many : drop integers (integer_names text types ts) ≡ [] = none_behind integers (integer_names text types ts) (omega (arith, integers_are ts ds z)) in
      rw (unknown, long, many) refl
