-- A literal as words: what was written of it is read as it.
use Rattle.std.proofs.Common.{◌≡◌, ℕ, ◌^◌, ◌<◌, ◌≤◌, Bool, true, false, not, ◌&&◌, ◌||◌, ◌==◌, nat_le, nat_lt, List, [], ◌∷◌, ◌++◌, length, Option, Some, None, ℤ, refl, ap, sym, subst, ◌∙◌, arith, bytes_eq, codes, append_assoc, unsigned_abs}
use Rattle.std.specs.Prelude.{slice_get, option_and_then, option_map}
use Rattle.std.specs.List.{list_all, join_by}
use Rattle.std.specs.Option.{option_map_or}
use Rattle.std.specs.Fmt.{signed_decimal}
use Rattle.std.specs.Int.Bits.{bit_or, or_zero_l}
use Rattle.std.specs.Ordering.{is_gt}
use Rattle.std.proofs.lemmas.Bool.{and_parts, and_from, ltb-true}
use Rattle.cub_base.specs.Name.{is_declarable, has_name_form}
use Rattle.cub_proto.specs.declared.literal.Sort.{Sort}
use Rattle.cub_proto.specs.declared.literal.Term.{Term}
use Rattle.cub_proto.specs.declared.literal.PSide.{PSide}
use Rattle.cub_proto.specs.declared.literal.ISide.{ISide}
use Rattle.cub_proto.specs.declared.literal.Lit.{Lit}
use Rattle.cub_proto.specs.declared.literal.Lit.TheVariants.{FinIn, FinEq, FinNe, ProcEq, ProcNe, Diff}
use Rattle.cub_proto.specs.declared.protocol.SortDecl.{SortDecl}
use Rattle.cub_proto.specs.declared.protocol.Protocol.{Protocol}
use Rattle.cub_proto.specs.Order.{process_side_cmp}
use Rattle.cub_proto.specs.Signature.{sort_of, constructors_at, is_sort, same_finite, declared_sort}
use Rattle.cub_proto.specs.StateOf.{signature_of}
use Rattle.cub_proto.specs.Fits.{place_fits, literal_fits, is_finite, process_side_fits, integer_side_fits}
use Rattle.cube_text.specs.Text.{term_text, process_side_text, integer_side_text, names_of_sort, mask_names, among_text, lit_text}
use Rattle.cube_text.specs.Form.{words_of, is_and, before, onward, is_empty, is_index, is_term, is_place, are_sides, are_names, is_set, is_literal, is_true_word}
use Rattle.cube_text.specs.Meaning.{greatest_bound, process_in, processes_in, of_processes, of_finite, constructor_in, finite_in, equation_in, mask_from, set_names, literal_in}
use Rattle.cube_text.proofs.Splitting.{Free, free_append, before_at, onward_at, before_all, onward_none, is_blank, three, five}
use Rattle.cube_text.proofs.Words.{free_of, IsNamed, declarable_named, BeginsAsName, begins_as_name, place_form}
use Rattle.cube_text.proofs.Declared.{sort_names, constructor_read}
use Rattle.cube_text.proofs.Lawful.{names_count, no_some, some_same}
use Rattle.cube_text.proofs.TermWords.{IsTermWord, term_word, side_word, global_side_word, integer_word, bound_word}
use Rattle.cube_text.proofs.MaskWords.{mask_read, marked_named, set_read, set_free}

-- the words of a literal's text
pub record IsWritten (p : Protocol) (width : ℕ) (l : Lit) : Type 0 where
  pub words : List (List ℕ)
  pub split : words_of (lit_text p l) ≡ words
  pub no_and : Free is_and words
  pub form : is_literal words ≡ true
  pub named : literal_in p width words ≡ Some l
  pub long : (more : List (List ℕ)) → is_true_word (words ++ more) ≡ false

-- a text of three words
three_text : (a op b : List ℕ) → a ++ (32 ∷ op ++ 32 ∷ []) ++ b ≡ a ++ 32 ∷ (op ++ 32 ∷ b)
three_text a op b = append_assoc a (32 ∷ op ++ 32 ∷ []) b ∙ ap (λ t. a ++ 32 ∷ t) (append_assoc op (32 ∷ []) b)

module _ (p : Protocol) (width : ℕ) (narrow : width ≤ 255) where
  -- a finite term has a sort
  finite_found : (o : Option Sort) → is_finite o ≡ true → (k : ℕ) × (o ≡ Some (Sort.Fin k))
  finite_found None h = absurd (let e : false ≡ true = h in cc)
  finite_found (Some (Sort.Fin k)) h = (k, refl)
  finite_found (Some Sort.Proc) h = absurd (let e : false ≡ true = h in cc)
  finite_found (Some Sort.Int) h = absurd (let e : false ≡ true = h in cc)

  no_constructor_of : (o : Option Sort) (word : List ℕ) → ((k : ℕ) (d : SortDecl) → slice_get p.sorts k ≡ Some d → constructor_in d.cons word ≡ None) → constructor_in (names_of_sort p o) word ≡ None
  no_constructor_of None word h = refl
  no_constructor_of (Some (Sort.Fin k)) word h = by (slice_get p.sorts k) refl
    where
      by : (o : Option SortDecl) → slice_get p.sorts k ≡ o → constructor_in (option_map_or (λ d. d.cons) o []) word ≡ None
      by None is = refl
      by (Some d) is = h k d is
  no_constructor_of (Some Sort.Proc) word h = refl
  no_constructor_of (Some Sort.Int) word h = refl

  same_found : (oa ob : Option Sort) → same_finite oa ob ≡ true → (is_finite oa ≡ true) × ((x : Sort) × (ob ≡ Some x))
  same_found None ob h = absurd (let e : false ≡ true = h in cc)
  same_found (Some (Sort.Fin k)) None h = absurd (let e : false ≡ true = h in cc)
  same_found (Some (Sort.Fin k)) (Some x) h = (refl, (x, refl))
  same_found (Some Sort.Proc) ob h = absurd (let e : false ≡ true = h in cc)
  same_found (Some Sort.Int) ob h = absurd (let e : false ≡ true = h in cc)

  module _ (a b : Term) (fits : literal_fits (signature_of p) width (FinEq a b) ≡ true) where
    sorts_same : same_finite (sort_of (signature_of p) a) (sort_of (signature_of p) b) ≡ true
    sorts_same = (and_parts (same_finite (sort_of (signature_of p) a) (sort_of (signature_of p) b)) (place_fits width a)
        (and_parts (same_finite (sort_of (signature_of p) a) (sort_of (signature_of p) b) && place_fits width a) (place_fits width b) fits).0).0

    a_small : place_fits width a ≡ true
    a_small = (and_parts (same_finite (sort_of (signature_of p) a) (sort_of (signature_of p) b)) (place_fits width a)
        (and_parts (same_finite (sort_of (signature_of p) a) (sort_of (signature_of p) b) && place_fits width a) (place_fits width b) fits).0).1

    b_small : place_fits width b ≡ true
    b_small = (and_parts (same_finite (sort_of (signature_of p) a) (sort_of (signature_of p) b) && place_fits width a) (place_fits width b) fits).1

    a_finite : is_finite (sort_of (signature_of p) a) ≡ true
    a_finite = (same_found (sort_of (signature_of p) a) (sort_of (signature_of p) b) sorts_same).0

    a_word : IsTermWord p width a (term_text p a)
    a_word = let f = finite_found (sort_of (signature_of p) a) a_finite in term_word p width a (Sort.Fin f.0) narrow f.1 a_small

    b_word : IsTermWord p width b (term_text p b)
    b_word = let f = (same_found (sort_of (signature_of p) a) (sort_of (signature_of p) b) sorts_same).1 in term_word p width b f.0 narrow f.1 b_small

    equation_read : (same : Bool) → equation_in p width same (term_text p a) (term_text p b) ≡ Some (of_finite same a b)
    equation_read same =
        let none = no_constructor_of (sort_of (signature_of p) a) (term_text p b) b_word.no_constructor in
        rw (a_word.begins.no_place, a_word.named, a_finite, none) (rest same)
      where
        rest : (same : Bool) → finite_in p width same a (term_text p b) None ≡ Some (of_finite same a b)
        rest true = rw (b_word.named, sorts_same) refl
        rest false = rw (b_word.named, sorts_same) refl

    pub finite_equal : IsWritten p width (FinEq a b)
    finite_equal = record {
      words = term_text p a ∷ codes "=" ∷ term_text p b ∷ [];
      split = ap words_of (three_text (term_text p a) (codes "=") (term_text p b)) ∙ three (term_text p a) (codes "=") (term_text p b) a_word.free (refl, tt) b_word.free;
      no_and = (a_word.begins.no_and, (refl, (b_word.begins.no_and, tt)));
      form = rw (a_word.form, b_word.form) refl;
      named = equation_read true;
      long = λ more. refl;
    }

    pub finite_differ : IsWritten p width (FinNe a b)
    finite_differ = record {
      words = term_text p a ∷ codes "<>" ∷ term_text p b ∷ [];
      split = ap words_of (three_text (term_text p a) (codes "<>") (term_text p b)) ∙ three (term_text p a) (codes "<>") (term_text p b) a_word.free (refl, (refl, tt)) b_word.free;
      no_and = (a_word.begins.no_and, (refl, (b_word.begins.no_and, tt)));
      form = rw (a_word.form, b_word.form) refl;
      named = equation_read false;
      long = λ more. refl;
    }

  -- sides of processes in order
  proc_not_finite : (o : Option Sort) → is_sort o Sort.Proc ≡ true → is_finite o ≡ false
  proc_not_finite None h = refl
  proc_not_finite (Some (Sort.Fin k)) h = absurd (let e : false ≡ true = h in cc)
  proc_not_finite (Some Sort.Proc) h = refl
  proc_not_finite (Some Sort.Int) h = refl

  sides_read : (same : Bool) (a b : PSide) → process_side_fits (signature_of p) width a ≡ true → process_side_fits (signature_of p) width b ≡ true → not (is_gt (process_side_cmp a b)) ≡ true
      → (equation_in p width same (process_side_text p a) (process_side_text p b) ≡ Some (of_processes same a b)) × (are_sides (process_side_text p a) (process_side_text p b) ≡ true)
  sides_read same (PSide.Global g) (PSide.Global h) fa fb order =
      let a = global_side_word p width g narrow fa in
      let c = global_side_word p width h narrow fb in
      let b = side_word p width (PSide.Global h) narrow fb in
      (rw (a.begins.no_place, a.named, proc_not_finite (declared_sort p.globals g) fa, fa, b.named) refl, rw (a.form, c.form) refl)
  sides_read same (PSide.Global g) (PSide.Place j) fa fb order =
      let a = global_side_word p width g narrow fa in
      let b = side_word p width (PSide.Place j) narrow fb in
      let within = ltb-true j width fb in (
        rw (a.begins.no_place, a.named, proc_not_finite (declared_sort p.globals g) fa, fa, b.named) refl,
        sides_place (process_side_text p (PSide.Global g)) (process_side_text p (PSide.Place j)) a.form (place_form j (omega (arith, within, narrow))),
      )
    where
      sides_place : (x y : List ℕ) → is_term x ≡ true → is_place y ≡ true → are_sides x y ≡ true
      sides_place x y fx fy = rw (fx, fy) (by (is_term y))
        where
          by : (t : Bool) → ((t || true) || (is_place x && true)) ≡ true
          by true = refl
          by false = refl
  sides_read same (PSide.Place i) (PSide.Global h) fa fb order = absurd (let e : false ≡ true = order in cc)
  sides_read same (PSide.Place i) (PSide.Place j) fa fb order =
      let a = side_word p width (PSide.Place i) narrow fa in
      let b = side_word p width (PSide.Place j) narrow fb in
      let wi = ltb-true i width fa in
      let wj = ltb-true j width fb in
      let fi = place_form i (omega (arith, wi, narrow)) in
      let fj = place_form j (omega (arith, wj, narrow)) in
      (places (process_side_text p (PSide.Place i)) (process_side_text p (PSide.Place j)) fi a.named b.named, both (process_side_text p (PSide.Place i)) (process_side_text p (PSide.Place j)) fi fj)
    where
      places : (x y : List ℕ) → is_place x ≡ true → process_in p width x ≡ Some (PSide.Place i) → process_in p width y ≡ Some (PSide.Place j)
          → equation_in p width same x y ≡ Some (of_processes same (PSide.Place i) (PSide.Place j))
      places x y form nx ny =
          let here : equation_in p width same x y ≡ processes_in same (process_in p width x) (process_in p width y) = rw form refl in
          here ∙ ap (λ o. processes_in same o (process_in p width y)) nx ∙ ap (processes_in same (Some (PSide.Place i))) ny

      both : (x y : List ℕ) → is_place x ≡ true → is_place y ≡ true → are_sides x y ≡ true
      both x y fx fy = rw (fx, fy) (by (is_term x && (is_term y || true)))
        where
          by : (t : Bool) → (t || true) ≡ true
          by true = refl
          by false = refl

  module _ (a b : PSide) (fits : literal_fits (signature_of p) width (ProcEq a b) ≡ true) (order : not (is_gt (process_side_cmp a b)) ≡ true) where
    fa : process_side_fits (signature_of p) width a ≡ true
    fa = (and_parts (process_side_fits (signature_of p) width a) (process_side_fits (signature_of p) width b) fits).0

    fb : process_side_fits (signature_of p) width b ≡ true
    fb = (and_parts (process_side_fits (signature_of p) width a) (process_side_fits (signature_of p) width b) fits).1

    pub processes_equal : IsWritten p width (ProcEq a b)
    processes_equal =
        let x = side_word p width a narrow fa in
        let y = side_word p width b narrow fb in
        let r = sides_read true a b fa fb order in
        record {
          words = process_side_text p a ∷ codes "=" ∷ process_side_text p b ∷ [];
          split = ap words_of (three_text (process_side_text p a) (codes "=") (process_side_text p b)) ∙ three (process_side_text p a) (codes "=") (process_side_text p b) x.free (refl, tt) y.free;
          no_and = (x.no_and, (refl, (y.no_and, tt)));
          form = rw r.1 refl;
          named = r.0;
          long = λ more. refl;
        }

    pub processes_differ : IsWritten p width (ProcNe a b)
    processes_differ =
        let x = side_word p width a narrow fa in
        let y = side_word p width b narrow fb in
        let r = sides_read false a b fa fb order in
        record {
          words = process_side_text p a ∷ codes "<>" ∷ process_side_text p b ∷ [];
          split = ap words_of (three_text (process_side_text p a) (codes "<>") (process_side_text p b)) ∙ three (process_side_text p a) (codes "<>") (process_side_text p b) x.free (refl, (refl, tt)) y.free;
          no_and = (x.no_and, (refl, (y.no_and, tt)));
          form = rw r.1 refl;
          named = r.0;
          long = λ more. refl;
        }

  -- differences
  five_text : (a b n : List ℕ) → a ++ codes " - " ++ b ++ codes " <= " ++ n ≡ a ++ 32 ∷ (codes "-" ++ 32 ∷ (b ++ 32 ∷ (codes "<=" ++ 32 ∷ n)))
  five_text a b n =
      append_assoc (a ++ codes " - " ++ b) (codes " <= ") n
      ∙ append_assoc (a ++ codes " - ") b (codes " <= " ++ n)
      ∙ append_assoc a (codes " - ") (b ++ (codes " <= " ++ n))

  pub difference : (a b : ISide) (z : ℤ) → literal_fits (signature_of p) width (Diff a b z) ≡ true → nat_le (unsigned_abs z) greatest_bound ≡ true → IsWritten p width (Diff a b z)
  difference a b z fits few =
      let parts = and_parts (integer_side_fits (signature_of p) width a) (integer_side_fits (signature_of p) width b) fits in
      let x = integer_word p width a narrow parts.0 in
      let y = integer_word p width b narrow parts.1 in
      let n = bound_word z few in
      record {
        words = integer_side_text p a ∷ codes "-" ∷ integer_side_text p b ∷ codes "<=" ∷ signed_decimal z ∷ [];
        split = ap words_of (five_text (integer_side_text p a) (integer_side_text p b) (signed_decimal z))
            ∙ five (integer_side_text p a) (codes "-") (integer_side_text p b) (codes "<=") (signed_decimal z) x.free (refl, tt) y.free (refl, (refl, tt)) n.free;
        no_and = (x.no_and, (refl, (y.no_and, (refl, (n.no_and, tt)))));
        form = rw (x.form, y.form, n.form) refl;
        named = rw (x.named, y.named, n.named) refl;
        long = λ more. refl;
      }

  -- memberships
  module _ (t : Term) (mask : ℕ) (fits : literal_fits (signature_of p) width (FinIn t mask) ≡ true) where
    sort : Option Sort
    sort = sort_of (signature_of p) t

    finite : is_finite (sort_of (signature_of p) t) ≡ true
    finite = (and_parts (is_finite (sort_of (signature_of p) t)) (place_fits width t) (and_parts (is_finite (sort_of (signature_of p) t) && place_fits width t) (nat_lt mask (2 ^ constructors_at (signature_of p) t)) fits).0).0

    inside : place_fits width t ≡ true
    inside = (and_parts (is_finite (sort_of (signature_of p) t)) (place_fits width t) (and_parts (is_finite (sort_of (signature_of p) t) && place_fits width t) (nat_lt mask (2 ^ constructors_at (signature_of p) t)) fits).0).1

    word : IsTermWord p width t (term_text p t)
    word = let f = finite_found (sort_of (signature_of p) t) finite in term_word p width t (Sort.Fin f.0) narrow f.1 inside

    small : mask < 2 ^ length (names_of_sort p (sort_of (signature_of p) t))
    small = subst (λ n. mask < 2 ^ n) (sym (names_count p width (sort_of (signature_of p) t))) (ltb-true mask (2 ^ constructors_at (signature_of p) t) (and_parts (is_finite (sort_of (signature_of p) t) && place_fits width t) (nat_lt mask (2 ^ constructors_at (signature_of p) t)) fits).1)

    named_of : (o : Option Sort) → list_all is_declarable (names_of_sort p o) ≡ true
    named_of None = refl
    named_of (Some (Sort.Fin k)) = by (slice_get p.sorts k) refl
      where
        by : (o : Option SortDecl) → slice_get p.sorts k ≡ o → list_all is_declarable (option_map_or (λ d. d.cons) o []) ≡ true
        by None is = refl
        by (Some d) is = sort_names p.sorts k d p.sorts_fit is
    named_of (Some Sort.Proc) = refl
    named_of (Some Sort.Int) = refl

    found_of : (o : Option Sort) (c : ℕ) (name : List ℕ) → slice_get (names_of_sort p o) c ≡ Some name → constructor_in (names_of_sort p o) name ≡ Some c
    found_of None c name h = absurd (let e : None ≡ Some name = h in cc)
    found_of (Some (Sort.Fin k)) c name h = by (slice_get p.sorts k) refl h
      where
        by : (o : Option SortDecl) → slice_get p.sorts k ≡ o → slice_get (option_map_or (λ d. d.cons) o []) c ≡ Some name → constructor_in (option_map_or (λ d. d.cons) o []) name ≡ Some c
        by None is h = absurd (let e : None ≡ Some name = h in cc)
        by (Some d) is h = constructor_read p k d c name is h
    found_of (Some Sort.Proc) c name h = absurd (let e : None ≡ Some name = h in cc)
    found_of (Some Sort.Int) c name h = absurd (let e : None ≡ Some name = h in cc)

    read : mask_from (names_of_sort p (sort_of (signature_of p) t)) 0 (mask_names p t mask) ≡ Some mask
    read = mask_read (names_of_sort p (sort_of (signature_of p) t)) mask small (found_of (sort_of (signature_of p) t))

    all_named : list_all is_declarable (mask_names p t mask) ≡ true
    all_named = marked_named mask 0 (names_of_sort p (sort_of (signature_of p) t)) (named_of (sort_of (signature_of p) t))

    -- a list in braces
    set_words : (names : List (List ℕ)) → list_all is_declarable names ≡ true → mask_from (names_of_sort p (sort_of (signature_of p) t)) 0 names ≡ Some mask
        → lit_text p (FinIn t mask) ≡ term_text p t ++ 32 ∷ (codes "in" ++ 32 ∷ (123 ∷ (join_by (λ n. n) (codes ",") names ++ 125 ∷ [])))
        → IsWritten p width (FinIn t mask)
    set_words names all is text =
        let body = join_by (λ n. n) (codes ",") names in
        let set = 123 ∷ (body ++ 125 ∷ []) in
        let closing : Free (λ b. b == 125) body = set_free 125 refl refl names all in
        let r = set_read names all in
        let inner = before_at 125 body [] closing refl in
        let outer = onward_at 125 body [] closing refl in
        let set_form : is_set set ≡ true =
        and_from (are_names (before 125 (body ++ 125 ∷ []))) (bytes_eq (onward 125 (body ++ 125 ∷ [])) (codes "}")) (ap are_names inner ∙ r.1) (ap (λ x. bytes_eq x (codes "}")) outer) in
        record {
          words = term_text p t ∷ codes "in" ∷ set ∷ [];
          split = ap words_of text ∙ three (term_text p t) (codes "in") set word.free (refl, (refl, tt)) (refl, free_append is_blank body (125 ∷ []) (set_free 32 refl refl names all) (refl, tt));
          no_and = (word.begins.no_and, (refl, (refl, tt)));
          form = form_of (term_text p t) set word.form set_form;
          named = rw word.named (rw finite (ap (λ x. option_map (λ m. FinIn t m) (mask_from (names_of_sort p (sort_of (signature_of p) t)) 0 (set_names x))) inner
              ∙ ap (λ xs. option_map (λ m. FinIn t m) (mask_from (names_of_sort p (sort_of (signature_of p) t)) 0 xs)) r.0 ∙ ap (option_map (λ m. FinIn t m)) is));
          long = λ more. refl;
        }
      where
        form_of : (x y : List ℕ) → is_term x ≡ true → is_set y ≡ true → is_literal (x ∷ codes "in" ∷ y ∷ []) ≡ true
        form_of x y fx fy = rw (fx, fy) refl

    one_word : (name : List ℕ) → list_all is_declarable (name ∷ []) ≡ true → mask_from (names_of_sort p (sort_of (signature_of p) t)) 0 (name ∷ []) ≡ Some mask
        → lit_text p (FinIn t mask) ≡ term_text p t ++ codes " = " ++ name → IsWritten p width (FinIn t mask)
    one_word name all is text =
        let n = declarable_named name (and_parts (is_declarable name) true all).0 in
        let begins = subst BeginsAsName (sym n.is) (begins_as_name n.first n.rest n.start) in
        record {
          words = term_text p t ∷ codes "=" ∷ name ∷ [];
          split = ap words_of (text ∙ append_assoc (term_text p t) (codes " = ") name) ∙ three (term_text p t) (codes "=") name word.free (refl, tt) (free_of 32 refl name n.word);
          no_and = (word.begins.no_and, (refl, (begins.no_and, tt)));
          form = form_of (term_text p t) name word.form (name_term name n);
          named = found (constructor_in (names_of_sort p (sort_of (signature_of p) t)) name) refl is;
          long = λ more. refl;
        }
      where
        form_of : (x y : List ℕ) → is_term x ≡ true → is_term y ≡ true → is_literal (x ∷ codes "=" ∷ y ∷ []) ≡ true
        form_of x y fx fy = rw (fx, fy) refl

        name_term : (y : List ℕ) → IsNamed y → is_term y ≡ true
        name_term y n =
            let bracket : Free (λ b. b == 91) y = free_of 91 refl y n.word in
            and_from (has_name_form (before 91 y)) (is_empty (onward 91 y) || is_index (onward 91 y)) (ap has_name_form (before_all 91 y bracket) ∙ n.form)
            (ap (λ x. is_empty x || is_index x) (onward_none 91 y bracket))

        found : (o : Option ℕ) → constructor_in (names_of_sort p (sort_of (signature_of p) t)) name ≡ o → option_and_then (λ c. Some (bit_or 0 (2 ^ c))) o ≡ Some mask
            → literal_in p width (term_text p t ∷ codes "=" ∷ name ∷ []) ≡ Some (FinIn t mask)
        found None there h = no_some mask h
        found (Some c) there h =
            let same : 2 ^ c ≡ mask = sym (or_zero_l (2 ^ c)) ∙ some_same (bit_or 0 (2 ^ c)) mask h in
            rw (word.begins.no_place, word.named, finite, there) (ap (λ m. Some (FinIn t m)) same)

    pub membership : IsWritten p width (FinIn t mask)
    membership = by (mask_names p t mask) refl all_named read
      where
        by : (names : List (List ℕ)) → mask_names p t mask ≡ names → list_all is_declarable names ≡ true → mask_from (names_of_sort p (sort_of (signature_of p) t)) 0 names ≡ Some mask → IsWritten p width (FinIn t mask)
        by [] shape all is = set_words [] all is (ap (λ xs. term_text p t ++ among_text xs) shape)
        by (x ∷ []) shape all is = one_word x all is (ap (λ xs. term_text p t ++ among_text xs) shape ∙ sym (append_assoc (term_text p t) (codes " = ") x))
        by (x ∷ y ∷ more) shape all is = set_words (x ∷ y ∷ more) all is (ap (λ xs. term_text p t ++ among_text xs) shape ∙ ap (λ s. term_text p t ++ s) (append_assoc (codes " in {") (join_by (λ n. n) (codes ",") (x ∷ y ∷ more)) (codes "}")))
