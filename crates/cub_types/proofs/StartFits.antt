-- A start formula without faults is that of a protocol: in particular no process global is compared with the variable.
use Rattle.std.proofs.Common.{◌≡◌, ℕ, ◌≤◌, ◌^◌, ℤ, pos, ◌-ℤ◌, Bool, true, false, List, [], ◌∷◌, length, map, take, Option, Some, None, option_map, refl, sym, ap, ◌∙◌, subst, arith, nat_lt, nat_le}
use Rattle.std.specs.Prelude.{if◌then◌else◌, IfSome, ◌&&◌, not, ◌==◌, int_le}
use Rattle.std.specs.Ordering.{int_eq}
use Rattle.std.specs.List.{list_all}
use Rattle.std.proofs.lemmas.List.Folds.{list_all-map}
use Rattle.std.proofs.lemmas.Bool.Decides.{nat_tests}
use Rattle.cub_base.proofs.Bools.{and_right, and_both, is_le}
use Rattle.cub_lexer.specs.declared.token.TokenKind.{TokenKind}
use Rattle.cub_lexer.specs.declared.token.TokenKind.TheVariants as k
use Rattle.cub_parse.specs.declared.tree.BodyNode.{BodyNode}
use Rattle.cub_parse.specs.declared.tree.FormNode.{FormNode}
use Rattle.cub_proto.specs.declared.literal.Sort.{Sort}
use Rattle.cub_proto.specs.declared.literal.Term.{Term}
use Rattle.cub_proto.specs.declared.literal.PSide.{PSide}
use Rattle.cub_proto.specs.declared.literal.ISide.{ISide}
use Rattle.cub_proto.specs.declared.literal.ISide.TheVariants.{Zero, At}
use Rattle.cub_proto.specs.declared.literal.Lit.{Lit}
use Rattle.cub_proto.specs.declared.literal.Lit.TheVariants.{FinIn, FinEq, FinNe, ProcEq, ProcNe, Diff}
use Rattle.cub_proto.specs.Signature.{Signature, same_sort}
use Rattle.cub_proto.specs.Negation.{negated}
use Rattle.cub_proto.specs.Order.{term_cmp, process_side_cmp}
use Rattle.cub_proto.specs.Fits.{compares_no_place, sides_alike, conjunction_fits, start_fits}
use Rattle.cub_dnf.specs.declared.formula.Formula.{Formula}
use Rattle.cub_dnf.specs.declared.formula.Formula.TheOpen.{Formula-F}
use Rattle.cub_dnf.specs.declared.formula.Formula.TheFolds.{fold-Formula}
use Rattle.cub_dnf.specs.declared.formula.Formula.TheVariants as f
use Rattle.cub_dnf.specs.Lists.{list_of}
use Rattle.cub_dnf.specs.Fits.{all_pass}
use Rattle.cub_dnf.proofs.Folding.{at_const, at_one, at_equation, at_negation, at_all, at_any}
use Rattle.cub_dnf.proofs.Fitting.{all_pass_of}
use Rattle.cub_names.specs.declared.fault.TypeKind.TheVariants as t
use Rattle.cub_names.specs.declared.scope.Local.{Local}
use Rattle.cub_names.specs.declared.sides.Side.{Side}
use Rattle.cub_names.specs.Checked.{Checked, fault, sound, refuse, both, each, in_front, where_known}
use Rattle.cub_names.specs.Meaning.{Frame}
use Rattle.cub_names.specs.Scope.{locals, variable_faults}
use Rattle.cub_names.specs.Sides.{side, sort_of_side}
use Rattle.cub_names.proofs.SidesFit.{fits_then}
use Rattle.cub_names.proofs.Empty.{nil_left, nil_right}
use Rattle.cub_types.specs.Formulas.{form, form_step, compared, alone, equal, equated, ordered, at_most, within, lowered, same_integers, is_greater, is_order, mixes, first_token}
use Rattle.cub_types.specs.Bodies.{normalized, body_form, start_tests, start}
use Rattle.cub_types.specs.Typed.{has_truths, is_typed}
use Rattle.cub_types.proofs.FormFolds.{Each, induct, at_or, at_and, at_not, at_group, at_forall, at_side, at_rel}
use Rattle.cub_types.proofs.GuardsFit.{locals_fit, wider_scope}
use Rattle.cub_types.proofs.BodiesFit.{body_typed, normal_is, normal_fits, few_variables}

-- no literal of the formula compares a process global with a place
abbrev alike_step : Formula-F Bool → Bool
alike_step (Formula-F.Const value) = true
alike_step (Formula-F.One lit) = compares_no_place lit
alike_step (Formula-F.IntEq a b bound) = true
alike_step (Formula-F.Not part) = part
alike_step (Formula-F.All parts) = all_pass parts
alike_step (Formula-F.Any parts) = all_pass parts

abbrev alike : Formula → Bool
alike = fold-Formula Bool alike_step

-- neither does one of its normal form
lit_alike : (sig : Signature) (lit : Lit) → compares_no_place lit ≡ true → (compares_no_place lit ≡ true) × (compares_no_place (negated sig lit) ≡ true)
lit_alike sig (FinIn t mask) h = (refl, refl)
lit_alike sig (FinEq a b) h = (refl, refl)
lit_alike sig (FinNe a b) h = (refl, refl)
lit_alike sig (ProcEq a b) h = (h, h)
lit_alike sig (ProcNe a b) h = (h, h)
lit_alike sig (Diff a b bound) h = (refl, refl)

all_alike : (parts : List Formula) → alike (f.All parts) ≡ list_all alike parts
all_alike parts = at_all alike_step parts ∙ list_all-map (λ b. b) alike parts

any_alike : (parts : List Formula) → alike (f.Any parts) ≡ list_all alike parts
any_alike parts = at_any alike_step parts ∙ list_all-map (λ b. b) alike parts

list_alike : (sig : Signature) (holds : Bool) (formula : Formula) → alike formula ≡ true → list_all (list_all compares_no_place) (list_of sig holds formula) ≡ true
list_alike sig = all_pass_of compares_no_place sig alike
    (λ lit h. lit_alike sig lit (sym (at_one alike_step lit) ∙ h))
    (λ a b bound h. (refl, refl, refl, refl))
    (at_negation alike_step) all_alike any_alike

sides_turn : (p q : PSide) → sides_alike p q ≡ true → sides_alike q p ≡ true
sides_turn (PSide.Global g) (PSide.Global h) e = refl
sides_turn (PSide.Global g) (PSide.Place q) e = cc
sides_turn (PSide.Place p) (PSide.Global h) e = cc
sides_turn (PSide.Place p) (PSide.Place q) e = refl

const_alike : (value : Bool) → alike (f.Const value) ≡ true
const_alike value = at_const alike_step value

one_alike : (lit : Lit) → compares_no_place lit ≡ true → alike (f.One lit) ≡ true
one_alike lit h = at_one alike_step lit ∙ h

not_not : (b : Bool) → not b ≡ false → b ≡ true
not_not true h = refl
not_not false h = sym h

terms_alike : (a b : Term) (turned : Bool) → alike (f.One (if turned then FinEq b a else FinEq a b)) ≡ true
terms_alike a b true = one_alike (FinEq b a) refl
terms_alike a b false = one_alike (FinEq a b) refl

processes_alike : (p q : PSide) (turned : Bool) → sides_alike p q ≡ true → alike (f.One (if turned then ProcEq q p else ProcEq p q)) ≡ true
processes_alike p q true h = one_alike (ProcEq q p) (sides_turn p q h)
processes_alike p q false h = one_alike (ProcEq p q) h

integers_alike : (a b : ISide) (c d : ℤ) → alike (same_integers a c b d) ≡ true
integers_alike Zero Zero c d = const_alike (int_eq c d)
integers_alike Zero (At u) c d = at_equation alike_step Zero (At u) (d -ℤ c)
integers_alike (At t) b c d = at_equation alike_step (At t) b (d -ℤ c)

equal_alike : (a b : Side) → mixes a b ≡ false → alike (equal a b) ≡ true
equal_alike (Side.Con s c) (Side.Con r d) h = const_alike (c == d)
equal_alike (Side.Con s c) (Side.Fin r u) h = one_alike (FinIn u (2 ^ c)) refl
equal_alike (Side.Fin s t) (Side.Con r d) h = one_alike (FinIn t (2 ^ d)) refl
equal_alike (Side.Fin s t) (Side.Fin r u) h = terms_alike t u (is_greater (term_cmp t u))
equal_alike (Side.Proc p) (Side.Proc q) h = processes_alike p q (is_greater (process_side_cmp p q)) (not_not (sides_alike p q) h)
equal_alike (Side.Int a c) (Side.Int b d) h = integers_alike a b c d
equal_alike (Side.Con s c) (Side.Proc q) h = const_alike false
equal_alike (Side.Con s c) (Side.Int b d) h = const_alike false
equal_alike (Side.Fin s t) (Side.Proc q) h = const_alike false
equal_alike (Side.Fin s t) (Side.Int b d) h = const_alike false
equal_alike (Side.Proc p) (Side.Con r d) h = const_alike false
equal_alike (Side.Proc p) (Side.Fin r u) h = const_alike false
equal_alike (Side.Proc p) (Side.Int b d) h = const_alike false
equal_alike (Side.Int a c) (Side.Con r d) h = const_alike false
equal_alike (Side.Int a c) (Side.Fin r u) h = const_alike false
equal_alike (Side.Int a c) (Side.Proc q) h = const_alike false

within_alike : (a b : ISide) (bound : ℤ) → alike (within a b bound) ≡ true
within_alike Zero Zero bound = const_alike (int_le (pos 0) bound)
within_alike Zero (At u) bound = one_alike (Diff Zero (At u) bound) refl
within_alike (At t) b bound = one_alike (Diff (At t) b bound) refl

at_most_alike : (strict : Bool) (a b : Side) → alike (at_most strict a b) ≡ true
at_most_alike strict (Side.Int a c) (Side.Int b d) = within_alike a b (lowered strict (d -ℤ c))
at_most_alike strict (Side.Int a c) (Side.Con r d) = const_alike false
at_most_alike strict (Side.Int a c) (Side.Fin r d) = const_alike false
at_most_alike strict (Side.Int a c) (Side.Proc q) = const_alike false
at_most_alike strict (Side.Con r d) b = const_alike false
at_most_alike strict (Side.Fin r d) b = const_alike false
at_most_alike strict (Side.Proc q) b = const_alike false

ordered_alike : (sign : TokenKind) (a b : Side) → alike (ordered sign a b) ≡ true
ordered_alike k.Less a b = at_most_alike true a b
ordered_alike k.LessOrEqual a b = at_most_alike false a b
ordered_alike k.Greater a b = at_most_alike true b a
ordered_alike sign a b = at_most_alike false b a

equated_alike : (sign : TokenKind) (a b : Side) → mixes a b ≡ false → alike (equated sign a b) ≡ true
equated_alike k.NotEqual a b h = at_negation alike_step (equal a b) ∙ equal_alike a b h
equated_alike sign a b h = equal_alike a b h

abbrev Whole : Option Formula → Type 0
Whole value = IfSome value (λ formula. alike formula ≡ true)

alike_if : (b : Bool) (x y : Checked Formula) → (b ≡ true → Whole x.value) → (b ≡ false → Whole y.value) → Whole (if b then x else y).value
alike_if true x y h g = h refl
alike_if false x y h g = g refl

compared_alike : (token : ℕ) (sign : TokenKind) (a b : Side) → Whole (compared true token sign a b).value
compared_alike token sign a b =
    alike_if (not (same_sort (sort_of_side a) (sort_of_side b))) (refuse token t.T03) _ (λ e. tt)
    (λ e. alike_if (is_order sign) _ _
    (λ e. alike_if (same_sort (sort_of_side a) Sort.Int) (sound (ordered sign a b)) (refuse token t.T07) (λ e. ordered_alike sign a b) (λ e. tt))
    (λ e. alike_if (mixes a b) (refuse token t.T08) (sound (equated sign a b)) (λ e. tt) (λ e. equated_alike sign a b e)))

never_mixed : (a : Side) (s c : ℕ) → mixes a (Side.Con s c) ≡ false
never_mixed (Side.Con r d) s c = refl
never_mixed (Side.Fin r d) s c = refl
never_mixed (Side.Proc q) s c = refl
never_mixed (Side.Int b d) s c = refl

alone_alike : (token : ℕ) (a : Side) → Whole (alone token a).value
alone_alike token a = alike_if (same_sort (sort_of_side a) (Sort.Fin 0)) (sound (equal a (Side.Con 0 1))) (refuse token t.T11) (λ e. equal_alike a (Side.Con 0 1) (never_mixed a 0 1)) (λ e. tt)

abbrev Wholes : Option (List Formula) → Type 0
Wholes value = IfSome value (λ formulas. list_all alike formulas ≡ true)

front_alike : (v : Option Formula) (vs : Option (List Formula)) → Whole v → Wholes vs → Wholes (in_front v vs)
front_alike None vs h g = tt
front_alike (Some a) None h g = tt
front_alike (Some a) (Some rest) h g = and_both (alike a) (list_all alike rest) h g

made_alike : {A : Type 0} (P : A → Type 0) (make : A → Formula) (v : Option A) → ((a : A) → P a → alike (make a) ≡ true) → IfSome v P → Whole (option_map make v)
made_alike P make None each h = tt
made_alike P make (Some a) each h = each a h

anything : {A : Type 0} (v : Option A) → IfSome v (λ a. Unit {0})
anything None = tt
anything (Some a) = tt

module _ (frame : Frame) (scope : List Local) where
  abbrev P : FormNode → Type 0
  P node = Whole (form true frame scope node).value

  abbrev Q : Checked Formula → Type 0
  Q x = Whole x.value

  each_alike : (nodes : List FormNode) → Each P nodes → Wholes (each (map (form true frame scope) nodes)).value
  each_alike [] h = refl
  each_alike (x ∷ xs) h = front_alike (form true frame scope x).value (each (map (form true frame scope) xs)).value h.0 (each_alike xs h.1)

  form_alike : (node : FormNode) → Whole (form true frame scope node).value
  form_alike node = induct P
      (λ nodes h. subst Q (sym (at_or (form_step true frame scope) nodes)) (made_alike (λ formulas. list_all alike formulas ≡ true) f.Any (each (map (form true frame scope) nodes)).value (λ formulas g. any_alike formulas ∙ g) (each_alike nodes h)))
      (λ nodes h. subst Q (sym (at_and (form_step true frame scope) nodes)) (made_alike (λ formulas. list_all alike formulas ≡ true) f.All (each (map (form true frame scope) nodes)).value (λ formulas g. all_alike formulas ∙ g) (each_alike nodes h)))
      (λ node h. subst Q (sym (at_not (form_step true frame scope) node)) (made_alike (λ formula. alike formula ≡ true) f.Not (form true frame scope node).value (λ formula g. at_negation alike_step formula ∙ g) h))
      (λ node h. subst Q (sym (at_group (form_step true frame scope) node)) h)
      (λ word name body h. subst Q (sym (at_forall (form_step true frame scope) word name body)) tt)
      (λ sum. subst Q (sym (at_side (form_step true frame scope) sum))
      (fits_then (λ a. Unit {0}) (λ formula. alike formula ≡ true) (side frame scope sum) (λ a. alone (first_token sum) a) (anything (side frame scope sum).value) (λ a h. alone_alike (first_token sum) a)))
      (λ a sign b. subst Q (sym (at_rel (form_step true frame scope) a sign b))
      (fits_then (λ (p : Side × Side). Unit {0}) (λ formula. alike formula ≡ true)
      (both (side frame scope a) (side frame scope b)) (λ (p : Side × Side). compared true sign.number sign.token.kind p.0 p.1)
      (anything (both (side frame scope a) (side frame scope b)).value)
      (λ (p : Side × Side) h. compared_alike sign.number sign.token.kind p.0 p.1)))
      node

  body_alike : (formula : Option FormNode) → Whole (body_form true frame scope formula).value
  body_alike None = const_alike true
  body_alike (Some node) = form_alike node

one_by : (n token : ℕ) (b : Bool) → nat_lt 1 n ≡ b → (if b then fault token t.T14 ∷ [] else []) ≡ [] → n ≤ 1
one_by n token true is h = cc
one_by n token false is h = let e = is in grind (arith, nat_tests)

module _ (frame : Frame) (truths : has_truths frame.sig ≡ true) where
  tests_fit : (token : ℕ) (formula : Formula) (conjs : List (List Lit)) → is_typed frame.sig 1 formula ≡ true → alike formula ≡ true
      → (start_tests frame.sig token formula).value ≡ Some conjs → (start_tests frame.sig token formula).faults ≡ [] → start_fits frame.sig conjs ≡ true
  tests_fit token formula conjs typed same h none =
      let sig = frame.sig in
      let n = normal_is sig token formula conjs h in
      let fit = and_right (nat_le (length conjs) 64) (list_all (conjunction_fits sig 1) conjs) (normal_fits sig 1 token formula conjs typed h) in
      let one = one_by (length (list_of sig true formula)) token (nat_lt 1 (length (list_of sig true formula))) refl
      (nil_left (if nat_lt 1 (length (list_of sig true formula)) then fault token t.T14 ∷ [] else []) (normalized sig token formula).faults none) in
      and_both (nat_le (length conjs) 1 && list_all (conjunction_fits sig 1) conjs) (list_all (list_all compares_no_place) conjs)
      (and_both (nat_le (length conjs) 1) (list_all (conjunction_fits sig 1) conjs) (is_le (length conjs) 1 (omega (arith, ap length n.is))) fit)
      (ap (list_all (list_all compares_no_place)) n.is ∙ list_alike sig true formula same)

  known_fit : (token : ℕ) (v : Option Formula) (conjs : List (List Lit)) → IfSome v (λ formula. is_typed frame.sig 1 formula ≡ true) → Whole v
      → (where_known v (λ formula. start_tests frame.sig token formula)).value ≡ Some conjs → (where_known v (λ formula. start_tests frame.sig token formula)).faults ≡ []
      → start_fits frame.sig conjs ≡ true
  known_fit token None conjs typed same h none = cc
  known_fit token (Some formula) conjs typed same h none = tests_fit token formula conjs typed same h none

  -- the formula is typed over the one place
  pub start_typed : (body : BodyNode) → IfSome (body_form true frame (locals 1 body.names) body.formula).value (λ formula. is_typed frame.sig 1 formula ≡ true)
  start_typed body =
      body_typed true frame (locals 1 body.names) 1
      (wider_scope (length (take 1 body.names)) 1 (locals 1 body.names) (few_variables 1 body.names) (locals_fit 1 body.names)) truths body.formula

  pub start_is_fit : (body : BodyNode) (conjs : List (List Lit)) → (start frame body).value ≡ Some conjs → (start frame body).faults ≡ [] → start_fits frame.sig conjs ≡ true
  start_is_fit body conjs h none =
      let v = body_form true frame (locals 1 body.names) body.formula in
      known_fit body.close.number v.value conjs (start_typed body) (body_alike frame (locals 1 body.names) body.formula) h
      (nil_right v.faults _ (nil_right (variable_faults frame 1 body.names) _ none))
