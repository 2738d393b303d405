-- Terms and sides as words.
use Rattle.std.proofs.Common.{◌≡◌, ℕ, suc, ◌^◌, ◌<◌, ◌≤◌, true, false, ◌||◌, ◌==◌, nat_le, inl, inr, ◌⊎◌, List, [], ◌∷◌, ◌++◌, length, Option, Some, None, ℤ, pos, negsuc, refl, ap, sym, subst, ◌∙◌, arith, bytes_eq, codes, decimal, append_assoc, unsigned_abs}
use Rattle.std.specs.Prelude.{slice_get}
use Rattle.std.specs.List.{list_all, list_any}
use Rattle.std.specs.Option.{option_map_or}
use Rattle.std.specs.Fmt.{signed_decimal}
use Rattle.std.proofs.lemmas.Bool.{and_parts, and_from, ltb-true, leb-true, ne_eqb}
use Rattle.std.proofs.lemmas.Slice.Eq.{bytes_eq-Decides}
use Rattle.std.proofs.lemmas.Fmt.{decimal_is_IsNumeral, decimal_injective, decimal_digit}
use Rattle.std.proofs.lemmas.Str.Parse.{digit_from_value}
use Rattle.std.specs.Str.Parse.{AllDigits}
use Rattle.cub_base.specs.Name.{is_declarable, has_name_form}
use Rattle.cub_base.proofs.Bools.{true_or_false}
use Rattle.cub_proto.specs.declared.literal.Sort.{Sort}
use Rattle.cub_proto.specs.declared.literal.Term.{Term}
use Rattle.cub_proto.specs.declared.literal.PSide.{PSide}
use Rattle.cub_proto.specs.declared.literal.ISide.{ISide}
use Rattle.cub_proto.specs.declared.literal.ISide.TheVariants.{Zero, At}
use Rattle.cub_proto.specs.declared.protocol.Decl.{Decl}
use Rattle.cub_proto.specs.declared.protocol.SortDecl.{SortDecl}
use Rattle.cub_proto.specs.declared.protocol.Protocol.{Protocol}
use Rattle.cub_proto.specs.Signature.{sort_of, declared_sort, is_sort}
use Rattle.cub_proto.specs.StateOf.{signature_of}
use Rattle.cub_proto.specs.Fits.{place_fits, process_side_fits, integer_side_fits}
use Rattle.cub_proto.proofs.Constructors.{declared_size}
use Rattle.text_lines.specs.Spelling.{process_text, name_of}
use Rattle.text_lines.proofs.WordLaws.{AreWordBytes}
use Rattle.text_lines.proofs.NameLaws.{name_is_word}
use Rattle.text_lines.proofs.NumberLaws.{decimal_words, decimal_some, integer_positive, integer_negative}
use Rattle.cube_text.specs.Text.{term_text, process_side_text, integer_side_text}
use Rattle.cube_text.specs.Form.{before, onward, is_empty, is_and, is_number, is_integer, is_place, is_index, is_term, is_integer_side}
use Rattle.cube_text.specs.Meaning.{greatest_bound, term_in, process_in, integer_side_in, constructor_in, bound_in}
use Rattle.cube_text.proofs.Splitting.{Free, free_append, before_at, onward_at, before_all, onward_none, is_blank}
use Rattle.cube_text.proofs.Words.{free_of, IsNamed, BeginsAsName, begins_as_name, number_written, place_form, place_free_of, place_read}
use Rattle.cube_text.proofs.Declared.{declared_there, not_found, sort_names, global_named, array_named, global_read, array_read, global_no_constructor}

-- a term as a word
pub record IsTermWord (p : Protocol) (width : ℕ) (t : Term) (word : List ℕ) : Type 0 where
  pub named : term_in p width word ≡ Some t
  pub form : is_term word ≡ true
  pub free : Free is_blank word
  pub begins : BeginsAsName word
  pub no_constructor : (k : ℕ) (d : SortDecl) → slice_get p.sorts k ≡ Some d → constructor_in d.cons word ≡ None

begins_named : (name more : List ℕ) → IsNamed name → BeginsAsName (name ++ more)
begins_named name more n = subst (λ xs. BeginsAsName (xs ++ more)) (sym n.is) (begins_as_name n.first (n.rest ++ more) n.start)

global_word : (p : Protocol) (width g : ℕ) (d : Decl) → slice_get p.globals g ≡ Some d → IsTermWord p width (Term.Global g) d.name
global_word p width g d is =
    let n = global_named p g d is in
    let bracket : Free (λ b. b == 91) d.name = free_of 91 refl d.name n.word in
    let none = onward_none 91 d.name bracket in
    let all = before_all 91 d.name bracket in
    record {
      named = rw (none, global_read p g d is) refl;
      form = rw (all, none, n.form) refl;
      free = free_of 32 refl d.name n.word;
      begins = subst BeginsAsName (sym n.is) (begins_as_name n.first n.rest n.start);
      no_constructor = λ k s there. global_no_constructor p g d k s is there;
    }

-- bytes with a bracket in them are no name
with_bracket : (xs ys : List ℕ) → AreWordBytes (xs ++ 91 ∷ ys) → ⊥
with_bracket [] ys w = let e : true ≡ false = w.0 in cc
with_bracket (x ∷ xs) ys w = with_bracket xs ys w.1

no_name : (xs ys : List ℕ) (names : List (List ℕ)) → list_all is_declarable names ≡ true → list_any (bytes_eq (xs ++ 91 ∷ ys)) names ≡ false
no_name xs ys [] h = refl
no_name xs ys (n ∷ ns) h =
    let parts = and_parts (is_declarable n) (list_all is_declarable ns) h in
    rw (by (true_or_false (bytes_eq (xs ++ 91 ∷ ys) n)) parts.0, no_name xs ys ns parts.1) refl
  where
    by : (bytes_eq (xs ++ 91 ∷ ys) n ≡ true) ⊎ (bytes_eq (xs ++ 91 ∷ ys) n ≡ false) → is_declarable n ≡ true → bytes_eq (xs ++ 91 ∷ ys) n ≡ false
    by (inl same) named = absurd (with_bracket xs ys (subst AreWordBytes (sym ((bytes_eq-Decides (xs ++ 91 ∷ ys) n).0 same)) (name_is_word n named).0))
    by (inr other) named = other

-- `A[#1]`
abbrev pub cell_word : List ℕ → ℕ → List ℕ
cell_word name i = name ++ 91 ∷ (process_text i ++ 93 ∷ [])

cell_is_word : (p : Protocol) (width a i : ℕ) (d : Decl) → slice_get p.arrays a ≡ Some d → i < width → i < 256 → IsTermWord p width (Term.Cell a i) (cell_word d.name i)
cell_is_word p width a i d is inside small =
    let n = array_named p a d is in
    let bracket : Free (λ b. b == 91) d.name = free_of 91 refl d.name n.word in
    let closing : Free (λ b. b == 93) (process_text i) = place_free_of i small 93 refl refl in
    let front = before_at 91 d.name (process_text i ++ 93 ∷ []) bracket refl in
    let back = onward_at 91 d.name (process_text i ++ 93 ∷ []) bracket refl in
    let inner = before_at 93 (process_text i) [] closing refl in
    let outer = onward_at 93 (process_text i) [] closing refl in
    let word = cell_word d.name i in
    let index : is_index (91 ∷ (process_text i ++ 93 ∷ [])) ≡ true =
    and_from (is_place (before 93 (process_text i ++ 93 ∷ []))) (bytes_eq (onward 93 (process_text i ++ 93 ∷ [])) (codes "]"))
    (ap is_place inner ∙ place_form i small) (ap (λ t. bytes_eq t (codes "]")) outer) in
    record {
      named = rw (back, inner, front, place_read i small width inside, array_read p a d is) refl;
      form = and_from (has_name_form (before 91 word)) (is_empty (onward 91 word) || is_index (onward 91 word)) (ap has_name_form front ∙ n.form) (ap (λ t. is_empty t || is_index t) back ∙ index);
      free = free_append is_blank d.name (91 ∷ (process_text i ++ 93 ∷ [])) (free_of 32 refl d.name n.word)
          (refl, free_append is_blank (process_text i) (93 ∷ []) (place_free_of i small 32 refl refl) (refl, tt));
      begins = begins_named d.name (91 ∷ (process_text i ++ 93 ∷ [])) n;
      no_constructor = λ k s there.
          not_found s.cons (cell_word d.name i) (declared_size p k s there).few
          (no_name d.name (process_text i ++ 93 ∷ []) s.cons (sort_names p.sorts k s p.sorts_fit there));
    }

name_is : (decls : List Decl) (n : ℕ) (d : Decl) → slice_get decls n ≡ Some d → name_of decls n ≡ d.name
name_is decls n d is = ap (λ o. option_map_or (λ x. x.name) o []) is

cell_text : (p : Protocol) (a i : ℕ) → term_text p (Term.Cell a i) ≡ cell_word (name_of p.arrays a) i
cell_text p a i = append_assoc (name_of p.arrays a) (91 ∷ process_text i) (93 ∷ [])

-- a term with a sort, at a place that is there, is written as its word
pub term_word : (p : Protocol) (width : ℕ) (t : Term) (s : Sort) → width ≤ 255 → sort_of (signature_of p) t ≡ Some s → place_fits width t ≡ true → IsTermWord p width t (term_text p t)
term_word p width (Term.Global g) s narrow has inside =
    let d = declared_there p.globals g s has in
    subst (IsTermWord p width (Term.Global g)) (sym (name_is p.globals g d.0 d.1)) (global_word p width g d.0 d.1)
term_word p width (Term.Cell a i) s narrow has inside =
    let d = declared_there p.arrays a s has in
    let within = ltb-true i width inside in
    subst (IsTermWord p width (Term.Cell a i)) (sym (cell_text p a i ∙ ap (λ name. cell_word name i) (name_is p.arrays a d.0 d.1)))
    (cell_is_word p width a i d.0 d.1 within (omega (arith, within, narrow)))

-- a side of processes as a word
pub record IsSideWord (p : Protocol) (width : ℕ) (side : PSide) (word : List ℕ) : Type 0 where
  pub named : process_in p width word ≡ Some side
  pub free : Free is_blank word
  pub no_and : is_and word ≡ false

sort_found : (o : Option Sort) (s : Sort) → is_sort o s ≡ true → (x : Sort) × (o ≡ Some x)
sort_found None s h = absurd (let e : false ≡ true = h in cc)
sort_found (Some x) s h = (x, refl)

pub global_side_word : (p : Protocol) (width g : ℕ) → width ≤ 255 → is_sort (declared_sort p.globals g) Sort.Proc ≡ true → IsTermWord p width (Term.Global g) (process_side_text p (PSide.Global g))
global_side_word p width g narrow has = let s = sort_found (declared_sort p.globals g) Sort.Proc has in term_word p width (Term.Global g) s.0 narrow s.1 refl

pub side_word : (p : Protocol) (width : ℕ) (side : PSide) → width ≤ 255 → process_side_fits (signature_of p) width side ≡ true → IsSideWord p width side (process_side_text p side)
side_word p width (PSide.Global g) narrow h =
    let w = global_side_word p width g narrow h in
    record { named = rw (w.begins.no_place, w.named, h) refl; free = w.free; no_and = w.begins.no_and }
side_word p width (PSide.Place i) narrow h =
    let within = ltb-true i width h in
    let small : i < 256 = omega (arith, within, narrow) in
    record { named = rw (place_form i small, place_read i small width within) refl; free = place_free_of i small 32 refl refl; no_and = refl }

-- a side of a difference as a word
pub record IsIntegerWord (p : Protocol) (width : ℕ) (side : ISide) (word : List ℕ) : Type 0 where
  pub named : integer_side_in p width word ≡ Some side
  pub form : is_integer_side word ≡ true
  pub free : Free is_blank word
  pub no_and : is_and word ≡ false

pub integer_word : (p : Protocol) (width : ℕ) (side : ISide) → width ≤ 255 → integer_side_fits (signature_of p) width side ≡ true → IsIntegerWord p width side (integer_side_text p side)
integer_word p width Zero narrow h = record { named = refl; form = refl; free = (refl, tt); no_and = refl }
integer_word p width (At t) narrow h =
    let parts = and_parts (is_sort (sort_of (signature_of p) t) Sort.Int) (place_fits width t) h in
    let s = sort_found (sort_of (signature_of p) t) Sort.Int parts.0 in
    let w = term_word p width t s.0 narrow s.1 parts.1 in
    record { named = rw (w.begins.no_zero, w.named, parts.0) refl; form = rw (w.begins.no_zero, w.form) refl; free = w.free; no_and = w.begins.no_and }

-- a bound as a word
pub record IsBoundWord (z : ℤ) (word : List ℕ) : Type 0 where
  pub named : bound_in word ≡ Some z
  pub form : is_integer word ≡ true
  pub free : Free is_blank word
  pub no_and : is_and word ≡ false

-- what begins with a digit
digit_first : (ds : List ℕ) → AllDigits 10 ds → 0 < length ds → is_number ds ≡ true → (is_integer ds ≡ true) × (is_and ds ≡ false)
digit_first [] all some h = absurd (omega (arith, some))
digit_first (d ∷ ds) all some h =
    let r = digit_from_value d all.0 in
    let no_minus : (d == 45) ≡ false = ne_eqb d 45 (λ e. absurd (omega (arith, r, e))) in
    let no_sign : (d == 38) ≡ false = ne_eqb d 38 (λ e. absurd (omega (arith, r, e))) in
    (rw no_minus h, rw no_sign refl)

-- the number 0 is not written with a minus
not_zero : (n : ℕ) → suc n < 2 ^ 64 → bytes_eq (decimal (suc n)) (codes "0") ≡ false
not_zero n fits = by (true_or_false (bytes_eq (decimal (suc n)) (codes "0")))
  where
    by : (bytes_eq (decimal (suc n)) (codes "0") ≡ true) ⊎ (bytes_eq (decimal (suc n)) (codes "0") ≡ false) → bytes_eq (decimal (suc n)) (codes "0") ≡ false
    by (inl same) =
        let is = (bytes_eq-Decides (decimal (suc n)) (codes "0")).0 same in
        let one : suc n ≡ 0 = decimal_injective (suc n) 0 fits (omega arith) (is ∙ sym (decimal_digit 0 (omega arith))) in
        absurd (omega (arith, one))
    by (inr other) = other

pub bound_word : (z : ℤ) → nat_le (unsigned_abs z) greatest_bound ≡ true → IsBoundWord z (signed_decimal z)
bound_word (pos n) h =
    let few = leb-true n greatest_bound h in
    let wide : n < 2 ^ 64 = omega (arith, few) in
    let digits = (decimal_is_IsNumeral n wide).0.1 in
    let first = digit_first (decimal n) digits (decimal_some n wide) (number_written n wide) in
    record { named = rw (integer_positive n (omega (arith, few)), h) refl; form = first.0; free = free_of 32 refl (decimal n) (decimal_words n wide); no_and = first.1 }
bound_word (negsuc n) h =
    let few = leb-true (suc n) greatest_bound h in
    let wide : suc n < 2 ^ 64 = omega (arith, few) in
    record {
      named = rw (integer_negative n (omega (arith, few)), h) refl;
      form = rw (number_written (suc n) wide, not_zero n wide) refl;
      free = (refl, free_of 32 refl (decimal (suc n)) (decimal_words (suc n) wide));
      no_and = refl;
    }
