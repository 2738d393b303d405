-- Each formula is of what is declared, over the places of its scope, with the bounds of a text.
use Rattle.std.proofs.Common.{◌≡◌, ℕ, ◌^◌, ℤ, pos, negsuc, ◌-ℤ◌, Bool, true, false, List, [], ◌∷◌, map, Option, Some, None, option_map, refl, sym, ap, ap₂, ◌∙◌, subst, arith, nat_lt, nat_le}
use Rattle.std.specs.Prelude.{if◌then◌else◌, IfSome, ◌&&◌, not, ◌==◌, unsigned_abs, int_le}
use Rattle.std.specs.Option.{option_map_or}
use Rattle.std.specs.List.{list_all}
use Rattle.std.specs.Ordering.{int_eq}
use Rattle.std.proofs.Math.Pow.{pow-lt}
use Rattle.std.proofs.lemmas.Int.{ints}
use Rattle.std.proofs.lemmas.Bool.Decides.{nat_tests}
use Rattle.std.proofs.lemmas.List.Folds.{list_all-map}
use Rattle.cub_base.proofs.Bools.{and_left, and_right, and_both, same_is, less_is, is_less, same_comm}
use Rattle.cub_lexer.specs.declared.token.TokenKind.{TokenKind}
use Rattle.cub_lexer.specs.declared.token.TokenKind.TheVariants as k
use Rattle.cub_parse.specs.declared.tree.FormNode.{FormNode}
use Rattle.cub_proto.specs.declared.literal.Sort.{Sort}
use Rattle.cub_proto.specs.declared.literal.Term.{Term}
use Rattle.cub_proto.specs.declared.literal.PSide.{PSide}
use Rattle.cub_proto.specs.declared.literal.ISide.{ISide}
use Rattle.cub_proto.specs.declared.literal.ISide.TheVariants.{Zero, At}
use Rattle.cub_proto.specs.declared.literal.Lit.{Lit}
use Rattle.cub_proto.specs.declared.literal.Lit.TheVariants.{FinIn, FinEq, ProcEq, Diff}
use Rattle.cub_proto.specs.Signature.{Signature, sort_of, is_sort, same_sort, same_finite, constructors_of, constructors_at}
use Rattle.cub_proto.specs.Fits.{is_finite, place_fits, term_fits, process_side_fits, integer_side_fits, literal_fits, is_bounded}
use Rattle.cub_proto.specs.Order.{term_cmp, process_side_cmp}
use Rattle.cub_dnf.specs.declared.formula.Formula.{Formula}
use Rattle.cub_dnf.specs.declared.formula.Formula.TheVariants as f
use Rattle.cub_dnf.specs.Fits.{fits, fits_step, has_text_bound, has_text_bounds, text_bounds_step, greatest_formula_bound}
use Rattle.cub_dnf.proofs.Folding.{at_const, at_one, at_equation, at_negation, at_all, at_any}
use Rattle.cub_dnf.proofs.Parting.{fits_all, fits_any}
use Rattle.cub_names.specs.declared.fault.TypeKind.TheVariants as t
use Rattle.cub_names.specs.declared.scope.Local.{Local}
use Rattle.cub_names.specs.declared.sides.Side.{Side}
use Rattle.cub_names.specs.Checked.{Checked, sound, refuse, both, paired, each, in_front}
use Rattle.cub_names.specs.Meaning.{Frame}
use Rattle.cub_names.specs.Scope.{scope_fits}
use Rattle.cub_names.specs.Sides.{side, sort_of_side, side_fits}
use Rattle.cub_names.proofs.SidesFit.{fits_then, side_is_fit}
use Rattle.cub_types.specs.Formulas.{form, form_step, compared, alone, equal, equated, ordered, at_most, within, lowered, same_integers, is_greater, is_order, mixes, first_token}
use Rattle.cub_types.specs.Typed.{has_truths, is_typed}
use Rattle.cub_types.proofs.FormFolds.{Each, induct, at_or, at_and, at_not, at_group, at_forall, at_side, at_rel}

-- a formula that fits, with the bounds of a text
record Fine (sig : Signature) (width : ℕ) (formula : Formula) : Type 0 where
  fit : fits sig width formula ≡ true
  bounds : has_text_bounds formula ≡ true

fine_typed : (sig : Signature) (width : ℕ) (formula : Formula) → Fine sig width formula → is_typed sig width formula ≡ true
fine_typed sig width formula h = and_both (fits sig width formula) (has_text_bounds formula) h.fit h.bounds

typed_fine : (sig : Signature) (width : ℕ) (formula : Formula) → is_typed sig width formula ≡ true → Fine sig width formula
typed_fine sig width formula h = record { fit = and_left (fits sig width formula) (has_text_bounds formula) h; bounds = and_right (fits sig width formula) (has_text_bounds formula) h }

-- a term's sort is the one that it is tested for
sort_is : (found : Option Sort) (n : ℕ) → is_sort found (Sort.Fin n) ≡ true → found ≡ Some (Sort.Fin n)
sort_is None n h = cc
sort_is (Some (Sort.Fin m)) n h = ap (λ x. Some (Sort.Fin x)) (same_is m n h)
sort_is (Some Sort.Proc) n h = cc
sort_is (Some Sort.Int) n h = cc

mask_small : (c n : ℕ) → nat_lt c n ≡ true → nat_lt (2 ^ c) (2 ^ n) ≡ true
mask_small c n h = is_less (2 ^ c) (2 ^ n) (pow-lt (less_is c n h))

-- the bounds of comparisons
equation_small : (c d : ℤ) → nat_le (unsigned_abs c) 1000000000 ≡ true → nat_le (unsigned_abs d) 1000000000 ≡ true
    → (nat_le (unsigned_abs (d -ℤ c)) 281474976710655 ≡ true) × (nat_le (unsigned_abs (d -ℤ c)) 2000000000 ≡ true)
equation_small c d h g = (grind (arith, ints, nat_tests), grind (arith, ints, nat_tests))

order_small : (c d : ℤ) → nat_le (unsigned_abs c) 1000000000 ≡ true → nat_le (unsigned_abs d) 1000000000 ≡ true
    → (nat_le (unsigned_abs (d -ℤ c)) 281474976710655 ≡ true) × ((int_le (negsuc 2000000000) (d -ℤ c) && int_le (d -ℤ c) (pos 2000000000)) ≡ true)
order_small c d h g = (grind (arith, ints, nat_tests), grind (arith, ints, nat_tests))

less_small : (c d : ℤ) → nat_le (unsigned_abs c) 1000000000 ≡ true → nat_le (unsigned_abs d) 1000000000 ≡ true
    → (nat_le (unsigned_abs ((d -ℤ c) -ℤ pos 1)) 281474976710655 ≡ true) × ((int_le (negsuc 2000000000) ((d -ℤ c) -ℤ pos 1) && int_le ((d -ℤ c) -ℤ pos 1) (pos 2000000000)) ≡ true)
less_small c d h g = (grind (arith, ints, nat_tests), grind (arith, ints, nat_tests))

module _ (sig : Signature) (width : ℕ) where
  abbrev Good : Formula → Type 0
  Good formula = Fine sig width formula

  const_fine : (value : Bool) → Good (f.Const value)
  const_fine value = record { fit = at_const (fits_step sig width) value; bounds = at_const text_bounds_step value }

  one_fine : (lit : Lit) → literal_fits sig width lit ≡ true → is_bounded greatest_formula_bound lit ≡ true → has_text_bound lit ≡ true → Good (f.One lit)
  one_fine lit h b c = record {
    fit = at_one (fits_step sig width) lit ∙ and_both (literal_fits sig width lit) (is_bounded greatest_formula_bound lit) h b;
    bounds = at_one text_bounds_step lit ∙ c;
  }

  not_fine : (part : Formula) → Good part → Good (f.Not part)
  not_fine part h = record { fit = at_negation (fits_step sig width) part ∙ h.fit; bounds = at_negation text_bounds_step part ∙ h.bounds }

  equation_fine : (a b : ISide) (c d : ℤ) → integer_side_fits sig width a ≡ true → integer_side_fits sig width b ≡ true
      → nat_le (unsigned_abs c) 1000000000 ≡ true → nat_le (unsigned_abs d) 1000000000 ≡ true → Good (f.IntEq a b (d -ℤ c))
  equation_fine a b c d h g small other = record {
    fit = at_equation (fits_step sig width) a b (d -ℤ c)
        ∙ and_both (integer_side_fits sig width a && integer_side_fits sig width b) (nat_le (unsigned_abs (d -ℤ c)) greatest_formula_bound)
        (and_both (integer_side_fits sig width a) (integer_side_fits sig width b) h g) (equation_small c d small other).0;
    bounds = at_equation text_bounds_step a b (d -ℤ c) ∙ (equation_small c d small other).1;
  }

  same_integers_fine : (a b : ISide) (c d : ℤ) → integer_side_fits sig width a ≡ true → integer_side_fits sig width b ≡ true
      → nat_le (unsigned_abs c) 1000000000 ≡ true → nat_le (unsigned_abs d) 1000000000 ≡ true → Good (same_integers a c b d)
  same_integers_fine Zero Zero c d h g small other = const_fine (int_eq c d)
  same_integers_fine Zero (At u) c d h g small other = equation_fine Zero (At u) c d h g small other
  same_integers_fine (At t) b c d h g small other = equation_fine (At t) b c d h g small other

  -- a finite term and a constructor of its sort
  mask_fits : (t : Term) (n c : ℕ) → term_fits sig width (Sort.Fin n) t ≡ true → nat_lt c (constructors_of sig (Sort.Fin n)) ≡ true → literal_fits sig width (FinIn t (2 ^ c)) ≡ true
  mask_fits t n c h below =
      let is = sort_is (sort_of sig t) n (and_left (is_sort (sort_of sig t) (Sort.Fin n)) (place_fits width t) h) in
      and_both (is_finite (sort_of sig t) && place_fits width t) (nat_lt (2 ^ c) (2 ^ constructors_at sig t))
      (and_both (is_finite (sort_of sig t)) (place_fits width t) (ap is_finite is) (and_right (is_sort (sort_of sig t) (Sort.Fin n)) (place_fits width t) h))
      (ap (λ o. nat_lt (2 ^ c) (2 ^ option_map_or (constructors_of sig) o 0)) is ∙ mask_small c (constructors_of sig (Sort.Fin n)) below)

  -- two terms of one sort, in either order
  terms_fit : (a b : Term) (n m : ℕ) → (n == m) ≡ true → term_fits sig width (Sort.Fin n) a ≡ true → term_fits sig width (Sort.Fin m) b ≡ true → literal_fits sig width (FinEq a b) ≡ true
  terms_fit a b n m same h g =
      let is = sort_is (sort_of sig a) n (and_left (is_sort (sort_of sig a) (Sort.Fin n)) (place_fits width a) h) in
      let other = sort_is (sort_of sig b) m (and_left (is_sort (sort_of sig b) (Sort.Fin m)) (place_fits width b) g) in
      and_both (same_finite (sort_of sig a) (sort_of sig b) && place_fits width a) (place_fits width b)
      (and_both (same_finite (sort_of sig a) (sort_of sig b)) (place_fits width a)
      (ap₂ same_finite is other ∙ (same_comm m n ∙ same)) (and_right (is_sort (sort_of sig a) (Sort.Fin n)) (place_fits width a) h))
      (and_right (is_sort (sort_of sig b) (Sort.Fin m)) (place_fits width b) g)

  terms_by : (a b : Term) (n m : ℕ) (turned : Bool) → (n == m) ≡ true → term_fits sig width (Sort.Fin n) a ≡ true → term_fits sig width (Sort.Fin m) b ≡ true
      → Good (f.One (if turned then FinEq b a else FinEq a b))
  terms_by a b n m true same h g = one_fine (FinEq b a) (terms_fit b a m n (same_comm m n ∙ same) g h) refl refl
  terms_by a b n m false same h g = one_fine (FinEq a b) (terms_fit a b n m same h g) refl refl

  processes_by : (p q : PSide) (turned : Bool) → process_side_fits sig width p ≡ true → process_side_fits sig width q ≡ true
      → Good (f.One (if turned then ProcEq q p else ProcEq p q))
  processes_by p q true h g = one_fine (ProcEq q p) (and_both (process_side_fits sig width q) (process_side_fits sig width p) g h) refl refl
  processes_by p q false h g = one_fine (ProcEq p q) (and_both (process_side_fits sig width p) (process_side_fits sig width q) h g) refl refl

  equal_fine : (a b : Side) → same_sort (sort_of_side a) (sort_of_side b) ≡ true → side_fits sig width a ≡ true → side_fits sig width b ≡ true → Good (equal a b)
  equal_fine (Side.Con s c) (Side.Con r d) same h g = const_fine (c == d)
  equal_fine (Side.Con s c) (Side.Fin r u) same h g =
      one_fine (FinIn u (2 ^ c)) (mask_fits u r c g (subst (λ n. nat_lt c (constructors_of sig (Sort.Fin n)) ≡ true) (same_is s r same) h)) refl refl
  equal_fine (Side.Fin s t) (Side.Con r d) same h g =
      one_fine (FinIn t (2 ^ d)) (mask_fits t s d h (subst (λ n. nat_lt d (constructors_of sig (Sort.Fin n)) ≡ true) (sym (same_is s r same)) g)) refl refl
  equal_fine (Side.Fin s t) (Side.Fin r u) same h g = terms_by t u s r (is_greater (term_cmp t u)) same h g
  equal_fine (Side.Proc p) (Side.Proc q) same h g = processes_by p q (is_greater (process_side_cmp p q)) h g
  equal_fine (Side.Int a c) (Side.Int b d) same h g =
      same_integers_fine a b c d (and_left (integer_side_fits sig width a) (nat_le (unsigned_abs c) 1000000000) h) (and_left (integer_side_fits sig width b) (nat_le (unsigned_abs d) 1000000000) g)
      (and_right (integer_side_fits sig width a) (nat_le (unsigned_abs c) 1000000000) h) (and_right (integer_side_fits sig width b) (nat_le (unsigned_abs d) 1000000000) g)
  equal_fine (Side.Con s c) (Side.Proc q) same h g = const_fine false
  equal_fine (Side.Con s c) (Side.Int b d) same h g = const_fine false
  equal_fine (Side.Fin s t) (Side.Proc q) same h g = const_fine false
  equal_fine (Side.Fin s t) (Side.Int b d) same h g = const_fine false
  equal_fine (Side.Proc p) (Side.Con r d) same h g = const_fine false
  equal_fine (Side.Proc p) (Side.Fin r u) same h g = const_fine false
  equal_fine (Side.Proc p) (Side.Int b d) same h g = const_fine false
  equal_fine (Side.Int a c) (Side.Con r d) same h g = const_fine false
  equal_fine (Side.Int a c) (Side.Fin r u) same h g = const_fine false
  equal_fine (Side.Int a c) (Side.Proc q) same h g = const_fine false

  abbrev small_bound : ℤ → Type 0
  small_bound bound = (nat_le (unsigned_abs bound) 281474976710655 ≡ true) × ((int_le (negsuc 2000000000) bound && int_le bound (pos 2000000000)) ≡ true)

  within_fine : (a b : ISide) (bound : ℤ) → integer_side_fits sig width a ≡ true → integer_side_fits sig width b ≡ true → small_bound bound → Good (within a b bound)
  within_fine Zero Zero bound h g small = const_fine (int_le (pos 0) bound)
  within_fine Zero (At u) bound h g small = one_fine (Diff Zero (At u) bound) (and_both (integer_side_fits sig width Zero) (integer_side_fits sig width (At u)) h g) small.0 small.1
  within_fine (At t) b bound h g small = one_fine (Diff (At t) b bound) (and_both (integer_side_fits sig width (At t)) (integer_side_fits sig width b) h g) small.0 small.1

  lowered_small : (strict : Bool) (c d : ℤ) → nat_le (unsigned_abs c) 1000000000 ≡ true → nat_le (unsigned_abs d) 1000000000 ≡ true → small_bound (lowered strict (d -ℤ c))
  lowered_small true c d h g = less_small c d h g
  lowered_small false c d h g = order_small c d h g

  at_most_fine : (strict : Bool) (a b : Side) → side_fits sig width a ≡ true → side_fits sig width b ≡ true → Good (at_most strict a b)
  at_most_fine strict (Side.Int a c) (Side.Int b d) h g =
      within_fine a b (lowered strict (d -ℤ c)) (and_left (integer_side_fits sig width a) (nat_le (unsigned_abs c) 1000000000) h) (and_left (integer_side_fits sig width b) (nat_le (unsigned_abs d) 1000000000) g)
      (lowered_small strict c d (and_right (integer_side_fits sig width a) (nat_le (unsigned_abs c) 1000000000) h) (and_right (integer_side_fits sig width b) (nat_le (unsigned_abs d) 1000000000) g))
  at_most_fine strict (Side.Int a c) (Side.Con r d) h g = const_fine false
  at_most_fine strict (Side.Int a c) (Side.Fin r d) h g = const_fine false
  at_most_fine strict (Side.Int a c) (Side.Proc q) h g = const_fine false
  at_most_fine strict (Side.Con r d) b h g = const_fine false
  at_most_fine strict (Side.Fin r d) b h g = const_fine false
  at_most_fine strict (Side.Proc q) b h g = const_fine false

  ordered_fine : (sign : TokenKind) (a b : Side) → side_fits sig width a ≡ true → side_fits sig width b ≡ true → Good (ordered sign a b)
  ordered_fine k.Less a b h g = at_most_fine true a b h g
  ordered_fine k.LessOrEqual a b h g = at_most_fine false a b h g
  ordered_fine k.Greater a b h g = at_most_fine true b a g h
  ordered_fine sign a b h g = at_most_fine false b a g h

  equated_fine : (sign : TokenKind) (a b : Side) → same_sort (sort_of_side a) (sort_of_side b) ≡ true → side_fits sig width a ≡ true → side_fits sig width b ≡ true → Good (equated sign a b)
  equated_fine k.NotEqual a b same h g = not_fine (equal a b) (equal_fine a b same h g)
  equated_fine sign a b same h g = equal_fine a b same h g

  abbrev Whole : Option Formula → Type 0
  Whole value = IfSome value Good

  fine_if : (b : Bool) (x y : Checked Formula) → (b ≡ true → Whole x.value) → (b ≡ false → Whole y.value) → Whole (if b then x else y).value
  fine_if true x y h g = h refl
  fine_if false x y h g = g refl

  not_not : (b : Bool) → not b ≡ false → b ≡ true
  not_not true h = refl
  not_not false h = sym h

  compared_fine : (init : Bool) (token : ℕ) (sign : TokenKind) (a b : Side) → side_fits sig width a ≡ true → side_fits sig width b ≡ true → Whole (compared init token sign a b).value
  compared_fine init token sign a b h g =
      fine_if (not (same_sort (sort_of_side a) (sort_of_side b))) (refuse token t.T03) _ (λ e. tt)
      (λ differ. let same = not_not (same_sort (sort_of_side a) (sort_of_side b)) differ in
      fine_if (is_order sign) _ _
      (λ e. fine_if (same_sort (sort_of_side a) Sort.Int) (sound (ordered sign a b)) (refuse token t.T07) (λ e. ordered_fine sign a b h g) (λ e. tt))
      (λ e. fine_if (init && mixes a b) (refuse token t.T08) (sound (equated sign a b)) (λ e. tt) (λ e. equated_fine sign a b same h g)))

  alone_fine : (token : ℕ) (a : Side) → has_truths sig ≡ true → side_fits sig width a ≡ true → Whole (alone token a).value
  alone_fine token a truths h =
      fine_if (same_sort (sort_of_side a) (Sort.Fin 0)) (sound (equal a (Side.Con 0 1))) (refuse token t.T11) (λ same. equal_fine a (Side.Con 0 1) same h truths) (λ e. tt)

  -- lists of formulas
  record AllFine (formulas : List Formula) : Type 0 where
    fit : list_all (fits sig width) formulas ≡ true
    bounds : list_all has_text_bounds formulas ≡ true

  front_fine : (v : Option Formula) (vs : Option (List Formula)) → Whole v → IfSome vs AllFine → IfSome (in_front v vs) AllFine
  front_fine None vs h g = tt
  front_fine (Some a) None h g = tt
  front_fine (Some a) (Some rest) h g = record {
    fit = and_both (fits sig width a) (list_all (fits sig width) rest) h.fit g.fit;
    bounds = and_both (has_text_bounds a) (list_all has_text_bounds rest) h.bounds g.bounds;
  }

  all_fine : (formulas : List Formula) → AllFine formulas → Good (f.All formulas)
  all_fine formulas h = record { fit = fits_all sig width formulas ∙ h.fit; bounds = at_all text_bounds_step formulas ∙ list_all-map (λ b. b) has_text_bounds formulas ∙ h.bounds }

  any_fine : (formulas : List Formula) → AllFine formulas → Good (f.Any formulas)
  any_fine formulas h = record { fit = fits_any sig width formulas ∙ h.fit; bounds = at_any text_bounds_step formulas ∙ list_all-map (λ b. b) has_text_bounds formulas ∙ h.bounds }

  made_fine : {A : Type 0} (P : A → Type 0) (make : A → Formula) (v : Option A) → ((a : A) → P a → Good (make a)) → IfSome v P → Whole (option_map make v)
  made_fine P make None each h = tt
  made_fine P make (Some a) each h = each a h

-- both sides of a relation
both_fit : (sig : Signature) (width : ℕ) (v w : Option Side) → IfSome v (λ a. side_fits sig width a ≡ true) → IfSome w (λ a. side_fits sig width a ≡ true)
    → IfSome (paired v w) (λ (p : Side × Side). (side_fits sig width p.0 ≡ true) × (side_fits sig width p.1 ≡ true))
both_fit sig width None w h g = tt
both_fit sig width (Some a) None h g = tt
both_fit sig width (Some a) (Some b) h g = (h, g)

module _ (init : Bool) (frame : Frame) (scope : List Local) (width : ℕ) (within_scope : scope_fits width scope ≡ true) (truths : has_truths frame.sig ≡ true) where
  abbrev P : FormNode → Type 0
  P node = Whole frame.sig width (form init frame scope node).value

  each_fine : (nodes : List FormNode) → Each P nodes → IfSome (each (map (form init frame scope) nodes)).value (AllFine frame.sig width)
  each_fine [] h = record { fit = refl; bounds = refl }
  each_fine (x ∷ xs) h = front_fine frame.sig width (form init frame scope x).value (each (map (form init frame scope) xs)).value h.0 (each_fine xs h.1)

  abbrev Q : Checked Formula → Type 0
  Q x = Whole frame.sig width x.value

  form_fine : (node : FormNode) → Whole frame.sig width (form init frame scope node).value
  form_fine node = induct P
      (λ nodes h. subst Q (sym (at_or (form_step init frame scope) nodes)) (made_fine frame.sig width (AllFine frame.sig width) f.Any (each (map (form init frame scope) nodes)).value (any_fine frame.sig width) (each_fine nodes h)))
      (λ nodes h. subst Q (sym (at_and (form_step init frame scope) nodes)) (made_fine frame.sig width (AllFine frame.sig width) f.All (each (map (form init frame scope) nodes)).value (all_fine frame.sig width) (each_fine nodes h)))
      (λ node h. subst Q (sym (at_not (form_step init frame scope) node)) (made_fine frame.sig width (Fine frame.sig width) f.Not (form init frame scope node).value (not_fine frame.sig width) h))
      (λ node h. subst Q (sym (at_group (form_step init frame scope) node)) h)
      (λ word name body h. subst Q (sym (at_forall (form_step init frame scope) word name body)) tt)
      (λ sum. subst Q (sym (at_side (form_step init frame scope) sum))
      (fits_then (λ a. side_fits frame.sig width a ≡ true) (Fine frame.sig width) (side frame scope sum) (λ a. alone (first_token sum) a) (side_is_fit frame scope width within_scope sum)
      (λ a h. alone_fine frame.sig width (first_token sum) a truths h)))
      (λ a sign b. subst Q (sym (at_rel (form_step init frame scope) a sign b))
      (fits_then (λ (p : Side × Side). (side_fits frame.sig width p.0 ≡ true) × (side_fits frame.sig width p.1 ≡ true)) (Fine frame.sig width)
      (both (side frame scope a) (side frame scope b)) (λ (p : Side × Side). compared init sign.number sign.token.kind p.0 p.1)
      (both_fit frame.sig width (side frame scope a).value (side frame scope b).value (side_is_fit frame scope width within_scope a) (side_is_fit frame scope width within_scope b))
      (λ (p : Side × Side) h. compared_fine frame.sig width init sign.number sign.token.kind p.0 p.1 h.0 h.1)))
      node

typed_of : (sig : Signature) (width : ℕ) (v : Option Formula) → IfSome v (Fine sig width) → IfSome v (λ formula. is_typed sig width formula ≡ true)
typed_of sig width None h = tt
typed_of sig width (Some a) h = fine_typed sig width a h

-- a formula is typed over the places of its scope
pub form_typed : (init : Bool) (frame : Frame) (scope : List Local) (width : ℕ) → scope_fits width scope ≡ true → has_truths frame.sig ≡ true → (node : FormNode)
    → IfSome (form init frame scope node).value (λ formula. is_typed frame.sig width formula ≡ true)
form_typed init frame scope width within_scope truths node = typed_of frame.sig width (form init frame scope node).value (form_fine init frame scope width within_scope truths node)
