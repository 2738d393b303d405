-- Normal forms, start formulas and goals without faults are those of a protocol.
use Rattle.std.proofs.Common.{◌≡◌, ℕ, zero, suc, ◌+◌, ◌≤◌, Bool, true, false, List, [], ◌∷◌, ◌++◌, length, map, take, Option, Some, None, option_map, refl, sym, ap, ◌∙◌, subst, arith, nat_lt, nat_le}
use Rattle.std.specs.Prelude.{if◌then◌else◌, IfSome, ◌&&◌}
use Rattle.std.specs.List.{list_all}
use Rattle.std.proofs.lemmas.List.{length-map, length-append}
use Rattle.std.proofs.lemmas.List.Folds.{list_all-append}
use Rattle.std.proofs.lemmas.Bool.Decides.{nat_tests}
use Rattle.cub_base.proofs.Bools.{and_left, and_right, and_both, le_is, is_le}
use Rattle.cub_parse.specs.declared.tree.Leaf.{Leaf}
use Rattle.cub_parse.specs.declared.tree.BodyNode.{BodyNode}
use Rattle.cub_parse.specs.declared.tree.FormNode.{FormNode}
use Rattle.cub_parse.specs.declared.tree.RestNode.{RestNode}
use Rattle.cub_parse.specs.declared.tree.RestNode.TheVariants as rests
use Rattle.cub_proto.specs.declared.literal.Lit.{Lit}
use Rattle.cub_proto.specs.declared.protocol.Goal.{Goal}
use Rattle.cub_proto.specs.Signature.{Signature}
use Rattle.cub_proto.specs.Fits.{conjunction_fits, formula_fits, goal_fits}
use Rattle.cub_dnf.specs.declared.formula.Formula.{Formula}
use Rattle.cub_dnf.specs.declared.formula.Formula.TheVariants as f
use Rattle.cub_dnf.specs.Lists.{list_of}
use Rattle.cub_dnf.specs.Normal.{widest}
use Rattle.cub_dnf.specs.Fits.{fits, fits_step, has_text_bounds, text_bounds_step}
use Rattle.cub_dnf.proofs.Folding.{at_const, at_negation}
use Rattle.cub_dnf.proofs.Fitting.{list_fits}
use Rattle.cub_names.specs.declared.fault.TypeKind.TheVariants as t
use Rattle.cub_names.specs.declared.scope.Local.{Local}
use Rattle.cub_names.specs.Checked.{Checked, fault, sound, refuse, where_known, appended}
use Rattle.cub_names.specs.Meaning.{Frame}
use Rattle.cub_names.specs.Scope.{scope_fits, locals, variable_faults}
use Rattle.cub_names.proofs.Empty.{nil_left, nil_right}
use Rattle.cub_types.specs.Bodies.{normalized, body_form, turned, goal_form, goal, counted, goal_tests, goals_of, total_behind, length_of, goals_at, total_at, goals_from}
use Rattle.cub_types.specs.Typed.{has_truths, is_typed}
use Rattle.cub_types.proofs.FormulasFit.{form_typed}
use Rattle.cub_types.proofs.GuardsFit.{locals_fit}

pub if_some : {A : Type 0} (P : A → Type 0) (v : Option A) (a : A) → IfSome v P → v ≡ Some a → P a
if_some P v a h is = subst (λ o. IfSome o P) is h

-- `True` and negations
const_typed : (sig : Signature) (width : ℕ) (value : Bool) → is_typed sig width (f.Const value) ≡ true
const_typed sig width value =
    and_both (fits sig width (f.Const value)) (has_text_bounds (f.Const value)) (at_const (fits_step sig width) value) (at_const text_bounds_step value)

pub not_typed : (sig : Signature) (width : ℕ) (part : Formula) → is_typed sig width part ≡ true → is_typed sig width (f.Not part) ≡ true
not_typed sig width part h =
    and_both (fits sig width (f.Not part)) (has_text_bounds (f.Not part)) (at_negation (fits_step sig width) part ∙ and_left (fits sig width part) (has_text_bounds part) h)
    (at_negation text_bounds_step part ∙ and_right (fits sig width part) (has_text_bounds part) h)

pub body_typed : (init : Bool) (frame : Frame) (scope : List Local) (width : ℕ) → scope_fits width scope ≡ true → has_truths frame.sig ≡ true → (formula : Option FormNode)
    → IfSome (body_form init frame scope formula).value (λ found. is_typed frame.sig width found ≡ true)
body_typed init frame scope width within truths None = const_typed frame.sig width true
body_typed init frame scope width within truths (Some node) = form_typed init frame scope width within truths node

-- a normal form that is there is the list of the formula, within the limits
pub record IsNormalForm (sig : Signature) (formula : Formula) (conjs : List (List Lit)) : Type 0 where
  pub is : conjs ≡ list_of sig true formula
  pub few : length (list_of sig true formula) ≤ 64
  pub narrow : widest (list_of sig true formula) ≤ 64

abbrev pub value_in : {A : Type 0} → Checked A → Option A
value_in x = x.value

normal_by : (sig : Signature) (token : ℕ) (formula : Formula) (conjs : List (List Lit)) (b : Bool)
    → (nat_le (length (list_of sig true formula)) 64 && nat_le (widest (list_of sig true formula)) 64) ≡ b
    → value_in (if b then sound (list_of sig true formula) else refuse token t.T17) ≡ Some conjs → IsNormalForm sig formula conjs
normal_by sig token formula conjs true small h = record {
  is = cc;
  few = le_is (length (list_of sig true formula)) 64 (and_left (nat_le (length (list_of sig true formula)) 64) (nat_le (widest (list_of sig true formula)) 64) small);
  narrow = le_is (widest (list_of sig true formula)) 64 (and_right (nat_le (length (list_of sig true formula)) 64) (nat_le (widest (list_of sig true formula)) 64) small);
}
normal_by sig token formula conjs false small h = cc

pub normal_is : (sig : Signature) (token : ℕ) (formula : Formula) (conjs : List (List Lit)) → (normalized sig token formula).value ≡ Some conjs → IsNormalForm sig formula conjs
normal_is sig token formula conjs h = normal_by sig token formula conjs (nat_le (length (list_of sig true formula)) 64 && nat_le (widest (list_of sig true formula)) 64) refl h

-- and it fits where the formula is typed
pub normal_fits : (sig : Signature) (width token : ℕ) (formula : Formula) (conjs : List (List Lit)) → is_typed sig width formula ≡ true
    → (normalized sig token formula).value ≡ Some conjs → formula_fits sig width conjs ≡ true
normal_fits sig width token formula conjs typed h =
    let n = normal_is sig token formula conjs h in
    list_fits sig width true formula n.is n.few n.narrow (and_left (fits sig width formula) (has_text_bounds formula) typed) (and_right (fits sig width formula) (has_text_bounds formula) typed)

-- goals of a normal form
goals_fit_width : (sig : Signature) (width : ℕ) (conjs : List (List Lit)) → width ≤ 4 → list_all (conjunction_fits sig width) conjs ≡ true → list_all (goal_fits sig) (map (goal width) conjs) ≡ true
goals_fit_width sig width [] few h = refl
goals_fit_width sig width (c ∷ cs) few h =
    and_both (nat_le width 4 && conjunction_fits sig width c) (list_all (goal_fits sig) (map (goal width) cs))
    (and_both (nat_le width 4) (conjunction_fits sig width c) (is_le width 4 few) (and_left (conjunction_fits sig width c) (list_all (conjunction_fits sig width) cs) h))
    (goals_fit_width sig width cs few (and_right (conjunction_fits sig width c) (list_all (conjunction_fits sig width) cs) h))

few_taken : (n : ℕ) (names : List Leaf) → length (take n names) ≤ n
few_taken zero names = omega arith
few_taken (suc n) [] = omega arith
few_taken (suc n) (l ∷ ls) = omega (arith, few_taken n ls)

pub few_variables : (n : ℕ) (names : List Leaf) → length (take n names) ≤ n
few_variables n names = few_taken n names

-- goals without a fault, where so many stand before them
record GoalsFit (sig : Signature) (total later : ℕ) (goals : List Goal) : Type 0 where
  fit : list_all (goal_fits sig) goals ≡ true
  counts : later ≡ total + length goals
  few : later ≤ 4096

limit_by : (n token : ℕ) (b : Bool) → nat_lt 4096 n ≡ b → (if b then fault token t.T16 ∷ [] else []) ≡ [] → n ≤ 4096
limit_by n token true is h = cc
limit_by n token false is h = let e = is in grind (arith, nat_tests)

made_some : {A B : Type 0} (make : A → B) (v : Option A) (b : B) → option_map make v ≡ Some b → (a : A) × (v ≡ Some a) × (b ≡ make a)
made_some make None b h = cc
made_some make (Some a) b h = (a, refl, cc)

-- the two lists of which one is made
pub joined_some : {A : Type 0} (v w : Option (List A)) (xs : List A) → appended v w ≡ Some xs → (ys : List A) × (zs : List A) × (v ≡ Some ys) × (w ≡ Some zs) × (xs ≡ ys ++ zs)
joined_some None w xs h = cc
joined_some (Some ys) None xs h = cc
joined_some (Some ys) (Some zs) xs h = (ys, zs, refl, refl, cc)

module _ (frame : Frame) (truths : has_truths frame.sig ≡ true) where
  turned_typed : (negated : Bool) (width : ℕ) (v : Option Formula) → IfSome v (λ formula. is_typed frame.sig width formula ≡ true) → IfSome (turned negated v) (λ formula. is_typed frame.sig width formula ≡ true)
  turned_typed true width None h = tt
  turned_typed true width (Some formula) h = not_typed frame.sig width formula h
  turned_typed false width v h = h

  pub goal_form_typed : (negated : Bool) (body : BodyNode) → IfSome (goal_form negated frame body).value (λ formula. is_typed frame.sig (length (take 4 body.names)) formula ≡ true)
  goal_form_typed negated body =
      let width = length (take 4 body.names) in
      turned_typed negated width (body_form false frame (locals 4 body.names) body.formula).value (body_typed false frame (locals 4 body.names) width (locals_fit 4 body.names) truths body.formula)

  tests_fit : (width token total : ℕ) (formula : Formula) (goals : List Goal) → width ≤ 4 → is_typed frame.sig width formula ≡ true
      → (goal_tests frame.sig width token (counted total (length (list_of frame.sig true formula))) formula).value ≡ Some goals
      → (goal_tests frame.sig width token (counted total (length (list_of frame.sig true formula))) formula).faults ≡ []
      → GoalsFit frame.sig total (counted total (length (list_of frame.sig true formula))) goals
  tests_fit width token total formula goals few typed h none =
      let sig = frame.sig in
      let made = made_some (map (goal width)) (normalized sig token formula).value goals h in
      let conjs = made.0 in
      let n = normal_is sig token formula conjs made.1 in
      let fit = and_right (nat_le (length conjs) 64) (list_all (conjunction_fits sig width) conjs) (normal_fits sig width token formula conjs typed made.1) in
      let later = counted total (length (list_of sig true formula)) in
      let small = limit_by later token (nat_lt 4096 later) refl (nil_left (if nat_lt 4096 later then fault token t.T16 ∷ [] else []) _ none) in
      let size = ap length made.2 ∙ length-map conjs (goal width) ∙ ap length n.is in
      record {
        fit = subst (λ gs. list_all (goal_fits sig) gs ≡ true) (sym made.2) (goals_fit_width sig width conjs few fit);
        counts = omega (arith, size, small);
        few = small;
      }

  -- one declaration, its formula being known or not
  known_fit : (width token total : ℕ) (v : Option Formula) (goals : List Goal) → width ≤ 4 → IfSome v (λ formula. is_typed frame.sig width formula ≡ true)
      → (where_known v (λ formula. goal_tests frame.sig width token (counted total (length (list_of frame.sig true formula))) formula)).value ≡ Some goals
      → (where_known v (λ formula. goal_tests frame.sig width token (counted total (length (list_of frame.sig true formula))) formula)).faults ≡ []
      → GoalsFit frame.sig total (counted total (length_of frame.sig v)) goals
  known_fit width token total None goals few typed h none = cc
  known_fit width token total (Some formula) goals few typed h none = tests_fit width token total formula goals few typed h none

  goals_of_fit : (negated : Bool) (total : ℕ) (body : BodyNode) (goals : List Goal) → (goals_of negated frame total body).value ≡ Some goals → (goals_of negated frame total body).faults ≡ []
      → GoalsFit frame.sig total (total_behind negated frame total body) goals
  goals_of_fit negated total body goals h none =
      let v = (goal_form negated frame body) in
      known_fit (length (take 4 body.names)) body.close.number total v.value goals (few_taken 4 body.names) (goal_form_typed negated body) h
      (nil_right v.faults _ (nil_right (variable_faults frame 4 body.names) _ none))

  goals_at_fit : (total : ℕ) (r : RestNode) (goals : List Goal) → total ≤ 4096 → (goals_at frame total r).value ≡ Some goals → (goals_at frame total r).faults ≡ []
      → GoalsFit frame.sig total (total_at frame total r) goals
  goals_at_fit total (rests.Unsafe body) goals few h none = goals_of_fit false total body goals h none
  goals_at_fit total (rests.Invariant word body) goals few h none = goals_of_fit true total body goals h none
  goals_at_fit total (rests.Transition name names guard updates) goals few h none =
      let is : goals ≡ [] = cc in record {
        fit = ap (list_all (goal_fits frame.sig)) is;
        counts = omega (arith, ap length is);
        few = few;
      }

  -- all goals
  pub goals_fit : (total : ℕ) (rs : List RestNode) (goals : List Goal) → total ≤ 4096 → (goals_from frame total rs).value ≡ Some goals → (goals_from frame total rs).faults ≡ []
      → (list_all (goal_fits frame.sig) goals ≡ true) × (total + length goals ≤ 4096)
  goals_fit total [] goals few h none = let is : goals ≡ [] = cc in (ap (list_all (goal_fits frame.sig)) is, omega (arith, ap length is))
  goals_fit total (r ∷ rs) goals few h none =
      let here = goals_at frame total r in
      let next = goals_from frame (total_at frame total r) rs in
      let parts = joined_some here.value next.value goals h in
      let ys = parts.0 in
      let zs = parts.1 in
      let own = goals_at_fit total r ys few parts.2 (nil_left here.faults next.faults none) in
      let rest = goals_fit (total_at frame total r) rs zs own.few parts.3 (nil_right here.faults next.faults none) in (
        ap (list_all (goal_fits frame.sig)) parts.4 ∙ list_all-append (goal_fits frame.sig) ys zs
            ∙ and_both (list_all (goal_fits frame.sig) ys) (list_all (goal_fits frame.sig) zs) own.fit rest.0,
        omega (arith, ap length parts.4, length-append ys zs, own.counts, rest.1),
      )
