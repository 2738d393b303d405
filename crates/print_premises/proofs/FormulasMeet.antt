-- Each formula of a text has literals of texts alone, in whatever scope it stands.
use Rattle.std.proofs.Common.{◌≡◌, ℕ, suc, ◌+◌, ◌^◌, ℤ, pos, ◌-ℤ◌, Bool, true, false, List, [], ◌∷◌, map, Option, Some, None, option_map, refl, sym, ap, ◌∙◌, subst, arith, nat_lt, nat_le}
use Rattle.std.specs.Prelude.{if◌then◌else◌, IfSome, ◌&&◌, not, ◌==◌, unsigned_abs, int_le}
use Rattle.std.specs.List.{list_all}
use Rattle.std.specs.Option.{option_map_or}
use Rattle.std.specs.Ordering.{int_eq}
use Rattle.std.proofs.lemmas.Int.{ints}
use Rattle.std.proofs.lemmas.Bool.Decides.{nat_tests}
use Rattle.cub_base.proofs.Bools.{and_left, and_right, and_both, same_is, less_is, is_less}
use Rattle.cub_lexer.specs.declared.token.TokenKind.{TokenKind}
use Rattle.cub_lexer.specs.declared.token.TokenKind.TheVariants as k
use Rattle.cub_parse.specs.declared.tree.SumNode.{SumNode}
use Rattle.cub_parse.specs.declared.tree.FormNode.{FormNode}
use Rattle.cub_proto.specs.declared.literal.Sort.{Sort}
use Rattle.cub_proto.specs.declared.literal.Term.{Term}
use Rattle.cub_proto.specs.declared.literal.PSide.{PSide}
use Rattle.cub_proto.specs.declared.literal.ISide.{ISide}
use Rattle.cub_proto.specs.declared.literal.ISide.TheVariants.{Zero, At}
use Rattle.cub_proto.specs.declared.literal.Lit.{Lit}
use Rattle.cub_proto.specs.declared.literal.Lit.TheVariants.{FinIn, FinEq, ProcEq, Diff}
use Rattle.cub_proto.specs.declared.protocol.Protocol.{Protocol}
use Rattle.cub_proto.specs.Signature.{Signature, sort_of, is_sort, same_sort, constructors_of, constructors_at}
use Rattle.cub_proto.specs.Fits.{place_fits, term_fits, integer_side_fits}
use Rattle.cub_proto.specs.Order.{term_cmp, process_side_cmp}
use Rattle.cub_proto.specs.StateOf.{signature_of}
use Rattle.cub_proto.proofs.SameParts.{parts_of}
use Rattle.cub_dnf.specs.declared.formula.Formula.{Formula}
use Rattle.cub_dnf.specs.declared.formula.Formula.TheVariants as f
use Rattle.cub_dnf.proofs.Folding.{at_const, at_one, at_equation, at_negation}
use Rattle.cub_names.specs.declared.fault.TypeKind.TheVariants as t
use Rattle.cub_names.specs.declared.scope.Local.{Local}
use Rattle.cub_names.specs.declared.sides.Side.{Side}
use Rattle.cub_names.specs.Checked.{Checked, sound, refuse, both, paired, each, in_front}
use Rattle.cub_names.specs.Meaning.{Frame}
use Rattle.cub_names.specs.Scope.{scope_fits}
use Rattle.cub_names.specs.Sides.{side, sort_of_side, side_fits}
use Rattle.cub_names.proofs.SidesFit.{fits_then, side_is_fit}
use Rattle.cub_types.specs.Formulas.{form, form_step, compared, alone, equal, equated, ordered, at_most, within, lowered, same_integers, is_greater, is_order, mixes, first_token}
use Rattle.cub_types.specs.Bodies.{body_form}
use Rattle.cub_types.specs.Typed.{has_truths}
use Rattle.cub_types.proofs.FormFolds.{Each, induct, at_or, at_and, at_not, at_group, at_forall, at_side, at_rel}
use Rattle.cub_types.proofs.GuardsFit.{wider_scope}
use Rattle.cub_types.proofs.JoinedFit.{sort_is}
use Rattle.cub_types.proofs.WholeFits.{truths_of}
use Rattle.print_formulas.specs.Normal.{is_zero}
use Rattle.print_premises.proofs.Literals.{ready_step, is_closed, is_ready, ready_all, ready_any, mask_closed, terms_closed, processes_closed, difference_closed, terms_turned, processes_turned, IsTextBound}

-- ---- bounds of comparisons
equation_small : (c d : ℤ) → nat_le (unsigned_abs c) 1000000000 ≡ true → nat_le (unsigned_abs d) 1000000000 ≡ true → nat_le (unsigned_abs (d -ℤ c)) 2000000000 ≡ true
equation_small c d h g = grind (arith, ints, nat_tests)

order_small : (c d : ℤ) → nat_le (unsigned_abs c) 1000000000 ≡ true → nat_le (unsigned_abs d) 1000000000 ≡ true → IsTextBound (d -ℤ c)
order_small c d h g = (grind (arith, ints, nat_tests), grind (arith, ints, nat_tests))

less_small : (c d : ℤ) → nat_le (unsigned_abs c) 1000000000 ≡ true → nat_le (unsigned_abs d) 1000000000 ≡ true → IsTextBound ((d -ℤ c) -ℤ pos 1)
less_small c d h g = (grind (arith, ints, nat_tests), grind (arith, ints, nat_tests))

lowered_small : (strict : Bool) (c d : ℤ) → nat_le (unsigned_abs c) 1000000000 ≡ true → nat_le (unsigned_abs d) 1000000000 ≡ true → IsTextBound (lowered strict (d -ℤ c))
lowered_small true c d h g = less_small c d h g
lowered_small false c d h g = order_small c d h g

not_not : (b : Bool) → not b ≡ false → b ≡ true
not_not true h = refl
not_not false h = sym h

not_true : (b : Bool) → b ≡ false → not b ≡ true
not_true true h = sym h
not_true false h = refl

-- every scope fits some width
some_width : (scope : List Local) → (width : ℕ) × (scope_fits width scope ≡ true)
some_width [] = (0, refl)
some_width (l ∷ ls) =
    let rest = some_width ls in
    let width = rest.0 + suc l.place in (
      width,
      and_both (nat_lt l.place width) (scope_fits width ls) (is_less l.place width (omega arith)) (wider_scope rest.0 width ls (omega arith) rest.1),
    )

module _ (p : Protocol) where
  abbrev sig : Signature
  sig = signature_of p

  abbrev Good : Formula → Type 0
  Good formula = is_ready p formula ≡ true

  -- a side that fits some width; nothing here depends on which
  abbrev IsSide : Side → Type 0
  IsSide a = (width : ℕ) × (side_fits (signature_of p) width a ≡ true)

  abbrev IsSmall : ℤ → Type 0
  IsSmall c = nat_le (unsigned_abs c) 1000000000 ≡ true

  pub truths : has_truths (signature_of p) ≡ true
  truths = truths_of p.sorts p.globals p.arrays (parts_of p).sorts

  const_ready : (value : Bool) → Good (f.Const value)
  const_ready value = at_const (ready_step p) value

  one_ready : (lit : Lit) → is_closed p lit ≡ true → Good (f.One lit)
  one_ready lit h = at_one (ready_step p) lit ∙ h

  pub not_ready : (part : Formula) → Good part → Good (f.Not part)
  not_ready part h = at_negation (ready_step p) part ∙ h

  equation_ready : (a b : ISide) (c d : ℤ) → not (is_zero a && is_zero b) ≡ true → IsSmall c → IsSmall d → Good (f.IntEq a b (d -ℤ c))
  equation_ready a b c d some h g =
      at_equation (ready_step p) a b (d -ℤ c)
      ∙ and_both (not (is_zero a && is_zero b)) (nat_le (unsigned_abs (d -ℤ c)) 2000000000) some (equation_small c d h g)

  same_integers_ready : (a b : ISide) (c d : ℤ) → IsSmall c → IsSmall d → Good (same_integers a c b d)
  same_integers_ready Zero Zero c d h g = const_ready (int_eq c d)
  same_integers_ready Zero (At u) c d h g = equation_ready Zero (At u) c d refl h g
  same_integers_ready (At t) b c d h g = equation_ready (At t) b c d refl h g

  -- a finite term and a constructor of its sort
  mask_ready : (u : Term) (width n c : ℕ) → term_fits (signature_of p) width (Sort.Fin n) u ≡ true → nat_lt c (constructors_of (signature_of p) (Sort.Fin n)) ≡ true → Good (f.One (FinIn u (2 ^ c)))
  mask_ready u width n c h below =
      let is = sort_is (sort_of (signature_of p) u) (Sort.Fin n) (and_left (is_sort (sort_of (signature_of p) u) (Sort.Fin n)) (place_fits width u) h) in
      let count : constructors_at (signature_of p) u ≡ constructors_of (signature_of p) (Sort.Fin n) = ap (λ o. option_map_or (constructors_of (signature_of p)) o 0) is in
      one_ready (FinIn u (2 ^ c))
      (mask_closed p u c (omega (arith, count, less_is c (constructors_of (signature_of p) (Sort.Fin n)) below)))

  terms_by : (a b : Term) (turned : Bool) → is_greater (term_cmp a b) ≡ turned → Good (f.One (if turned then FinEq b a else FinEq a b))
  terms_by a b true is = one_ready (FinEq b a) (terms_closed p b a (terms_turned a b is))
  terms_by a b false is = one_ready (FinEq a b) (terms_closed p a b (not_true (is_greater (term_cmp a b)) is))

  processes_by : (a b : PSide) (turned : Bool) → is_greater (process_side_cmp a b) ≡ turned → Good (f.One (if turned then ProcEq b a else ProcEq a b))
  processes_by a b true is = one_ready (ProcEq b a) (processes_closed p b a (processes_turned a b is))
  processes_by a b false is = one_ready (ProcEq a b) (processes_closed p a b (not_true (is_greater (process_side_cmp a b)) is))

  small_of : (width : ℕ) (a : ISide) (c : ℤ) → side_fits (signature_of p) width (Side.Int a c) ≡ true → IsSmall c
  small_of width a c h = and_right (integer_side_fits (signature_of p) width a) (nat_le (unsigned_abs c) 1000000000) h

  equal_ready : (width : ℕ) (a b : Side) → same_sort (sort_of_side a) (sort_of_side b) ≡ true → side_fits (signature_of p) width a ≡ true → side_fits (signature_of p) width b ≡ true → Good (equal a b)
  equal_ready width (Side.Con s c) (Side.Con r d) same h g = const_ready (c == d)
  equal_ready width (Side.Con s c) (Side.Fin r u) same h g =
      mask_ready u width r c g (subst (λ n. nat_lt c (constructors_of (signature_of p) (Sort.Fin n)) ≡ true) (same_is s r same) h)
  equal_ready width (Side.Fin s t) (Side.Con r d) same h g =
      mask_ready t width s d h (subst (λ n. nat_lt d (constructors_of (signature_of p) (Sort.Fin n)) ≡ true) (sym (same_is s r same)) g)
  equal_ready width (Side.Fin s t) (Side.Fin r u) same h g = terms_by t u (is_greater (term_cmp t u)) refl
  equal_ready width (Side.Proc a) (Side.Proc b) same h g = processes_by a b (is_greater (process_side_cmp a b)) refl
  equal_ready width (Side.Int a c) (Side.Int b d) same h g = same_integers_ready a b c d (small_of width a c h) (small_of width b d g)
  equal_ready width (Side.Con s c) (Side.Proc q) same h g = const_ready false
  equal_ready width (Side.Con s c) (Side.Int b d) same h g = const_ready false
  equal_ready width (Side.Fin s t) (Side.Proc q) same h g = const_ready false
  equal_ready width (Side.Fin s t) (Side.Int b d) same h g = const_ready false
  equal_ready width (Side.Proc a) (Side.Con r d) same h g = const_ready false
  equal_ready width (Side.Proc a) (Side.Fin r u) same h g = const_ready false
  equal_ready width (Side.Proc a) (Side.Int b d) same h g = const_ready false
  equal_ready width (Side.Int a c) (Side.Con r d) same h g = const_ready false
  equal_ready width (Side.Int a c) (Side.Fin r u) same h g = const_ready false
  equal_ready width (Side.Int a c) (Side.Proc q) same h g = const_ready false

  within_ready : (a b : ISide) (bound : ℤ) → IsTextBound bound → Good (within a b bound)
  within_ready Zero Zero bound few = const_ready (int_le (pos 0) bound)
  within_ready Zero (At u) bound few = one_ready (Diff Zero (At u) bound) (difference_closed p Zero (At u) bound refl few)
  within_ready (At t) b bound few = one_ready (Diff (At t) b bound) (difference_closed p (At t) b bound refl few)

  at_most_ready : (width : ℕ) (strict : Bool) (a b : Side) → side_fits (signature_of p) width a ≡ true → side_fits (signature_of p) width b ≡ true → Good (at_most strict a b)
  at_most_ready width strict (Side.Int a c) (Side.Int b d) h g = within_ready a b (lowered strict (d -ℤ c)) (lowered_small strict c d (small_of width a c h) (small_of width b d g))
  at_most_ready width strict (Side.Int a c) (Side.Con r d) h g = const_ready false
  at_most_ready width strict (Side.Int a c) (Side.Fin r d) h g = const_ready false
  at_most_ready width strict (Side.Int a c) (Side.Proc q) h g = const_ready false
  at_most_ready width strict (Side.Con r d) b h g = const_ready false
  at_most_ready width strict (Side.Fin r d) b h g = const_ready false
  at_most_ready width strict (Side.Proc q) b h g = const_ready false

  ordered_ready : (width : ℕ) (sign : TokenKind) (a b : Side) → side_fits (signature_of p) width a ≡ true → side_fits (signature_of p) width b ≡ true → Good (ordered sign a b)
  ordered_ready width k.Less a b h g = at_most_ready width true a b h g
  ordered_ready width k.LessOrEqual a b h g = at_most_ready width false a b h g
  ordered_ready width k.Greater a b h g = at_most_ready width true b a g h
  ordered_ready width sign a b h g = at_most_ready width false b a g h

  equated_ready : (width : ℕ) (sign : TokenKind) (a b : Side) → same_sort (sort_of_side a) (sort_of_side b) ≡ true → side_fits (signature_of p) width a ≡ true → side_fits (signature_of p) width b ≡ true
      → Good (equated sign a b)
  equated_ready width k.NotEqual a b same h g = not_ready (equal a b) (equal_ready width a b same h g)
  equated_ready width sign a b same h g = equal_ready width a b same h g

  abbrev Whole : Option Formula → Type 0
  Whole value = IfSome value Good

  ready_if : (b : Bool) (x y : Checked Formula) → (b ≡ true → Whole x.value) → (b ≡ false → Whole y.value) → Whole (if b then x else y).value
  ready_if true x y h g = h refl
  ready_if false x y h g = g refl

  compared_ready : (width : ℕ) (init : Bool) (token : ℕ) (sign : TokenKind) (a b : Side) → side_fits (signature_of p) width a ≡ true → side_fits (signature_of p) width b ≡ true
      → Whole (compared init token sign a b).value
  compared_ready width init token sign a b h g =
      ready_if (not (same_sort (sort_of_side a) (sort_of_side b))) (refuse token t.T03) _ (λ e. tt)
      (λ differ. let same = not_not (same_sort (sort_of_side a) (sort_of_side b)) differ in
      ready_if (is_order sign) _ _
      (λ e. ready_if (same_sort (sort_of_side a) Sort.Int) (sound (ordered sign a b)) (refuse token t.T07) (λ e. ordered_ready width sign a b h g) (λ e. tt))
      (λ e. ready_if (init && mixes a b) (refuse token t.T08) (sound (equated sign a b)) (λ e. tt) (λ e. equated_ready width sign a b same h g)))

  alone_ready : (width token : ℕ) (a : Side) → side_fits (signature_of p) width a ≡ true → Whole (alone token a).value
  alone_ready width token a h =
      ready_if (same_sort (sort_of_side a) (Sort.Fin 0)) (sound (equal a (Side.Con 0 1))) (refuse token t.T11) (λ same. equal_ready width a (Side.Con 0 1) same h truths) (λ e. tt)

  abbrev Wholes : Option (List Formula) → Type 0
  Wholes value = IfSome value (λ formulas. list_all (is_ready p) formulas ≡ true)

  front_ready : (v : Option Formula) (vs : Option (List Formula)) → Whole v → Wholes vs → Wholes (in_front v vs)
  front_ready None vs h g = tt
  front_ready (Some a) None h g = tt
  front_ready (Some a) (Some rest) h g = and_both (is_ready p a) (list_all (is_ready p) rest) h g

  made_ready : {A : Type 0} (P : A → Type 0) (make : A → Formula) (v : Option A) → ((a : A) → P a → Good (make a)) → IfSome v P → Whole (option_map make v)
  made_ready P make None each h = tt
  made_ready P make (Some a) each h = each a h

  -- both sides of a relation
  both_fit : (width : ℕ) (v w : Option Side) → IfSome v (λ a. side_fits (signature_of p) width a ≡ true) → IfSome w (λ a. side_fits (signature_of p) width a ≡ true)
      → IfSome (paired v w) (λ (s : Side × Side). (side_fits (signature_of p) width s.0 ≡ true) × (side_fits (signature_of p) width s.1 ≡ true))
  both_fit width None w h g = tt
  both_fit width (Some a) None h g = tt
  both_fit width (Some a) (Some b) h g = (h, g)

  module _ (text : List ℕ) where
    abbrev pub frame : Frame
    frame = record { text = text; sig = signature_of p }

    module _ (init : Bool) (scope : List Local) where
      abbrev width : ℕ
      width = (some_width scope).0

      side_fits_some : (sum : SumNode) → IfSome (side frame scope sum).value (λ a. side_fits (signature_of p) width a ≡ true)
      side_fits_some sum = side_is_fit frame scope width (some_width scope).1 sum

      abbrev P : FormNode → Type 0
      P node = Whole (form init frame scope node).value

      abbrev Q : Checked Formula → Type 0
      Q x = Whole x.value

      each_ready : (nodes : List FormNode) → Each P nodes → Wholes (each (map (form init frame scope) nodes)).value
      each_ready [] h = refl
      each_ready (x ∷ xs) h = front_ready (form init frame scope x).value (each (map (form init frame scope) xs)).value h.0 (each_ready xs h.1)

      pub form_ready : (node : FormNode) → Whole (form init frame scope node).value
      form_ready node = induct P
          (λ nodes h. subst Q (sym (at_or (form_step init frame scope) nodes))
          (made_ready (λ formulas. list_all (is_ready p) formulas ≡ true) f.Any (each (map (form init frame scope) nodes)).value (λ formulas g. ready_any p formulas ∙ g) (each_ready nodes h)))
          (λ nodes h. subst Q (sym (at_and (form_step init frame scope) nodes))
          (made_ready (λ formulas. list_all (is_ready p) formulas ≡ true) f.All (each (map (form init frame scope) nodes)).value (λ formulas g. ready_all p formulas ∙ g) (each_ready nodes h)))
          (λ node h. subst Q (sym (at_not (form_step init frame scope) node)) (made_ready Good f.Not (form init frame scope node).value not_ready h))
          (λ node h. subst Q (sym (at_group (form_step init frame scope) node)) h)
          (λ word name body h. subst Q (sym (at_forall (form_step init frame scope) word name body)) tt)
          (λ sum. subst Q (sym (at_side (form_step init frame scope) sum))
          (fits_then (λ a. side_fits (signature_of p) width a ≡ true) Good (side frame scope sum) (λ a. alone (first_token sum) a) (side_fits_some sum)
          (λ a h. alone_ready width (first_token sum) a h)))
          (λ a sign b. subst Q (sym (at_rel (form_step init frame scope) a sign b))
          (fits_then (λ (s : Side × Side). (side_fits (signature_of p) width s.0 ≡ true) × (side_fits (signature_of p) width s.1 ≡ true)) Good
          (both (side frame scope a) (side frame scope b)) (λ (s : Side × Side). compared init sign.number sign.token.kind s.0 s.1)
          (both_fit width (side frame scope a).value (side frame scope b).value (side_fits_some a) (side_fits_some b))
          (λ (s : Side × Side) h. compared_ready width init sign.number sign.token.kind s.0 s.1 h.0 h.1)))
          node

      pub body_ready : (formula : Option FormNode) → Whole (body_form init frame scope formula).value
      body_ready None = const_ready true
      body_ready (Some node) = form_ready node
