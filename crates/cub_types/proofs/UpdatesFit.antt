-- Updates, each by itself: without faults its target is declared, its conditions and values fit, and `?` stands where it says so.
use Rattle.std.proofs.Common.{◌≡◌, ℕ, ◌+◌, ◌≤◌, Bool, true, false, List, [], ◌∷◌, ◌++◌, length, map, Option, Some, None, refl, subst, arith, nat_lt, nat_le}
use Rattle.std.specs.Prelude.{if◌then◌else◌, IfSome, ◌&&◌, not}
use Rattle.std.specs.List.{list_all}
use Rattle.std.proofs.lemmas.Bool.Decides.{nat_tests}
use Rattle.cub_base.proofs.Bools.{and_left, and_right, and_both, is_le, same_is}
use Rattle.cub_parse.specs.declared.tree.Leaf.{Leaf}
use Rattle.cub_parse.specs.declared.tree.CaseNode.{CaseNode}
use Rattle.cub_parse.specs.declared.tree.RightNode.{RightNode}
use Rattle.cub_parse.specs.declared.tree.RightNode.TheVariants as rights
use Rattle.cub_parse.specs.declared.tree.UpdateNode.{UpdateNode}
use Rattle.cub_proto.specs.declared.literal.Sort.{Sort}
use Rattle.cub_proto.specs.declared.literal.Lit.{Lit}
use Rattle.cub_proto.specs.declared.literal.Value.{Value}
use Rattle.cub_proto.specs.Signature.{Signature, declared_sort, is_sort, same_sort, constructors_of}
use Rattle.cub_proto.specs.Fits.{term_fits, literal_fits, is_bounded, greatest_bound, conjunction_fits, value_fits, is_any}
use Rattle.cub_dnf.specs.declared.formula.Formula.{Formula}
use Rattle.cub_dnf.specs.Normal.{widest}
use Rattle.cub_names.specs.declared.fault.TypeKind.TheVariants as t
use Rattle.cub_names.specs.declared.meaning.What.{What}
use Rattle.cub_names.specs.declared.scope.Local.{Local}
use Rattle.cub_names.specs.declared.sides.Side.{Side}
use Rattle.cub_names.specs.Checked.{sound, refuse, where_known, ◌>>=◌}
use Rattle.cub_names.specs.Words.{word_of}
use Rattle.cub_names.specs.Meaning.{Frame, what_fits}
use Rattle.cub_names.specs.Scope.{scope_fits}
use Rattle.cub_names.specs.Sides.{side, side_fits, sort_of_side, place_at, what_at}
use Rattle.cub_names.proofs.StandsFits.{stands_fits}
use Rattle.cub_names.proofs.SidesFit.{side_is_fit, place_fits_scope}
use Rattle.cub_names.proofs.Empty.{nil_left, nil_right}
use Rattle.cub_types.specs.declared.written.Aim.{Aim}
use Rattle.cub_types.specs.declared.written.Case.{Case}
use Rattle.cub_types.specs.declared.written.Written.{Written}
use Rattle.cub_types.specs.Formulas.{form}
use Rattle.cub_types.specs.Guards.{local}
use Rattle.cub_types.specs.Bodies.{normalized}
use Rattle.cub_types.specs.Writes as w
use Rattle.cub_types.specs.Typed.{has_truths, is_typed}
use Rattle.cub_types.proofs.FormFolds.{Each}
use Rattle.cub_types.proofs.FormulasFit.{form_typed}
use Rattle.cub_types.proofs.GuardsFit.{wider_scope, scope_more}
use Rattle.cub_types.proofs.BodiesFit.{value_in, normal_fits}

-- the places that an update's literals may use
abbrev pub aim_width : ℕ → Aim → ℕ
aim_width params (Aim.Global g sort) = params
aim_width params (Aim.At a sort param) = params + 1
aim_width params (Aim.Whole a sort) = params + 1

-- what is written is declared with its sort, and the place of its index is a parameter
abbrev pub AimFits : Signature → ℕ → Aim → Type 0
AimFits sig params (Aim.Global g sort) = is_sort (declared_sort sig.globals g) sort ≡ true
AimFits sig params (Aim.At a sort param) = (is_sort (declared_sort sig.arrays a) sort ≡ true) × (nat_lt param params ≡ true)
AimFits sig params (Aim.Whole a sort) = is_sort (declared_sort sig.arrays a) sort ≡ true

module _ (sig : Signature) (params : ℕ) (scope : List Local) (within : scope_fits params scope ≡ true) where
  -- the scope within an update for the aim
  abbrev Aimed : Option Leaf → Option ℕ → Aim → Type 0
  Aimed index place aim = AimFits sig params aim × (scope_fits (aim_width params aim) (w.inner_scope scope params index place) ≡ true)

  array_aimed : (leaf : Leaf) (a : ℕ) (sort : Sort) (place : Option ℕ) → is_sort (declared_sort sig.arrays a) sort ≡ true → IfSome place (λ p. nat_lt p params ≡ true)
      → Aimed (Some leaf) place (w.array_aim a sort place)
  array_aimed leaf a sort (Some place) h below = ((h, below), wider_scope params (params + 1) scope (omega arith) within)
  array_aimed leaf a sort None h below = (h, scope_more params params scope (local leaf params) refl (omega arith) within)

  aim_of_fits : (token : ℕ) (what : Option What) (index : Option Leaf) (place : Option ℕ) → IfSome what (λ x. what_fits sig x ≡ true) → IfSome place (λ p. nat_lt p params ≡ true)
      → IfSome (w.aim_of token what index place).value (Aimed index place)
  aim_of_fits token None index place h below = tt
  aim_of_fits token (Some (What.Con sort c)) index place h below = tt
  aim_of_fits token (Some (What.Global g sort)) None place h below = (h, within)
  aim_of_fits token (Some (What.Global g sort)) (Some leaf) place h below = tt
  aim_of_fits token (Some (What.Array a sort)) None place h below = tt
  aim_of_fits token (Some (What.Array a sort)) (Some leaf) place h below = array_aimed leaf a sort place h below

  target_of_fits : (token : ℕ) (variable : Option ℕ) (what : Option What) (index : Option Leaf) (place : Option ℕ) → IfSome what (λ x. what_fits sig x ≡ true)
      → IfSome place (λ p. nat_lt p params ≡ true) → IfSome (w.target_of token variable what index place).value (Aimed index place)
  target_of_fits token (Some v) what index place h below = tt
  target_of_fits token None what index place h below = aim_of_fits token what index place h below

-- a value that a side gives fits the sort that is asked for
module _ (sig : Signature) (width : ℕ) where
  side_value_fits : (a : Side) (sort : Sort) → same_sort (sort_of_side a) sort ≡ true → side_fits sig width a ≡ true → value_fits sig width sort (w.value_of_side a) ≡ true
  side_value_fits (Side.Con s c) (Sort.Fin n) same h = subst (λ m. nat_lt c (constructors_of sig (Sort.Fin m)) ≡ true) (same_is s n same) h
  side_value_fits (Side.Fin s term) (Sort.Fin n) same h = subst (λ m. term_fits sig width (Sort.Fin m) term ≡ true) (same_is s n same) h
  side_value_fits (Side.Proc p) Sort.Proc same h = h
  side_value_fits (Side.Int base add) Sort.Int same h = h
  side_value_fits (Side.Con s c) Sort.Proc same h = cc
  side_value_fits (Side.Con s c) Sort.Int same h = cc
  side_value_fits (Side.Fin s term) Sort.Proc same h = cc
  side_value_fits (Side.Fin s term) Sort.Int same h = cc
  side_value_fits (Side.Proc p) (Sort.Fin n) same h = cc
  side_value_fits (Side.Proc p) Sort.Int same h = cc
  side_value_fits (Side.Int base add) (Sort.Fin n) same h = cc
  side_value_fits (Side.Int base add) Sort.Proc same h = cc

  abbrev ValueFits : Sort → Option Value → Type 0
  ValueFits sort value = IfSome value (λ v. value_fits sig width sort v ≡ true)

  value_by : (token : ℕ) (a : Side) (sort : Sort) (b : Bool) → same_sort (sort_of_side a) sort ≡ b → side_fits sig width a ≡ true
      → ValueFits sort (value_in (if b then sound (w.value_of_side a) else refuse token t.T03))
  value_by token a sort true same h = side_value_fits a sort same h
  value_by token a sort false same h = tt

  known_value : (token : ℕ) (sort : Sort) (v : Option Side) → IfSome v (λ a. side_fits sig width a ≡ true) → ValueFits sort (where_known v (λ a. w.value_for token (Some sort) a)).value
  known_value token sort None h = tt
  known_value token sort (Some a) h = value_by token a sort (same_sort (sort_of_side a) sort) refl h

  any_value : (mark : Leaf) (sort : Sort) → w.any_faults mark (Some sort) ≡ [] → value_fits sig width sort Value.Any ≡ true
  any_value mark (Sort.Fin n) none = refl
  any_value mark Sort.Proc none = refl
  any_value mark Sort.Int none = cc

  -- an alternative of a condition, with room for so many literals more
  abbrev pub cond_fits : ℕ → List Lit → Bool
  cond_fits more c = nat_le (length c + more) 64 && (list_all (literal_fits sig width) c && list_all (is_bounded greatest_bound) c)

  conds_fit : (more : ℕ) (list : List (List Lit)) → widest list + more ≤ 64 → list_all (conjunction_fits sig width) list ≡ true → list_all (cond_fits more) list ≡ true
  conds_fit more [] room h = refl
  conds_fit more (c ∷ cs) room h =
      let lits = list_all (literal_fits sig width) c in
      let bounds = list_all (is_bounded greatest_bound) c in
      let here = and_left (conjunction_fits sig width c) (list_all (conjunction_fits sig width) cs) h in
      let front = and_left (nat_le (length c) 64 && lits) bounds here in
      and_both (cond_fits more c) (list_all (cond_fits more) cs)
      (and_both (nat_le (length c + more) 64) (lits && bounds) (is_le (length c + more) 64 (omega arith))
      (and_both lits bounds (and_right (nat_le (length c) 64) lits front) (and_right (nat_le (length c) 64 && lits) bounds here)))
      (conds_fit more cs (omega arith) (and_right (conjunction_fits sig width c) (list_all (conjunction_fits sig width) cs) h))

module _ (frame : Frame) (truths : has_truths frame.sig ≡ true) (scope : List Local) (width : ℕ) (within : scope_fits width scope ≡ true) where
  right_fits : (token : ℕ) (sort : Sort) (right : RightNode) → (w.right_value frame scope token (Some sort) right).faults ≡ [] → ValueFits frame.sig width sort (w.right_value frame scope token (Some sort) right).value
  right_fits token sort (rights.Sum sum) none = known_value frame.sig width token sort (side frame scope sum).value (side_is_fit frame scope width within sum)
  right_fits token sort (rights.Any mark) none = any_value frame.sig width mark sort none

  abbrev CondsFit : ℕ → Option (List (List Lit)) → Type 0
  CondsFit more conds = IfSome conds (λ list. list_all (cond_fits frame.sig width more) list ≡ true)

  room_by : (token more : ℕ) (list : List (List Lit)) (b : Bool) → nat_lt 64 (widest list + more) ≡ b → list_all (conjunction_fits frame.sig width) list ≡ true
      → CondsFit more (value_in (if b then refuse token t.T17 else sound list))
  room_by token more list true wide h = tt
  room_by token more list false wide h = conds_fit frame.sig width more list (let e = wide in grind (arith, nat_tests)) h

  list_fits : (token more : ℕ) (formula : Formula) (v : Option (List (List Lit))) → (normalized frame.sig token formula).value ≡ v → is_typed frame.sig width formula ≡ true
      → CondsFit more (where_known v (λ list. w.cond_tests token more list)).value
  list_fits token more formula None is typed = tt
  list_fits token more formula (Some list) is typed =
      room_by token more list (nat_lt 64 (widest list + more)) refl
      (and_right (nat_le (length list) 64) (list_all (conjunction_fits frame.sig width) list) (normal_fits frame.sig width token formula list typed is))

  formula_fits : (token more : ℕ) (v : Option Formula) → IfSome v (λ formula. is_typed frame.sig width formula ≡ true)
      → CondsFit more (where_known v (λ formula. normalized frame.sig token formula >>= λ list. w.cond_tests token more list)).value
  formula_fits token more None typed = tt
  formula_fits token more (Some formula) typed = list_fits token more formula (normalized frame.sig token formula).value refl typed

  condition_fits : (more : ℕ) (node : CaseNode) → CondsFit more (w.condition frame scope more node).value
  condition_fits more node = formula_fits node.colon.number more (form false frame scope node.cond).value (form_typed false frame scope width within truths node.cond)

-- a case, and an update, for an aim
pub record CaseFits (sig : Signature) (params : ℕ) (aim : Aim) (c : Case) : Type 0 where
  pub conds : IfSome c.conds (λ list. list_all (cond_fits sig (aim_width params aim) (w.added (Some aim))) list ≡ true)
  pub value : IfSome c.value (λ v. value_fits sig (aim_width params aim) (w.sort_of_aim aim) v ≡ true)

pub record UpdateFits (sig : Signature) (params : ℕ) (cases : List Case) (last : Option Value) (aim : Aim) : Type 0 where
  pub aim_fits : AimFits sig params aim
  pub cases_fit : Each (CaseFits sig params aim) cases
  pub last_fits : IfSome last (λ v. value_fits sig (aim_width params aim) (w.sort_of_aim aim) v ≡ true)

-- the value is not `?`
abbrev pub is_plain : Option Value → Bool
is_plain None = true
is_plain (Some v) = not (is_any v)

abbrev pub is_plain_case : Case → Bool
is_plain_case c = is_plain c.value

module _ (frame : Frame) (truths : has_truths frame.sig ≡ true) (params : ℕ) (inner : List Local) where
  cases_are_fit : (aim : Aim) → scope_fits (aim_width params aim) inner ≡ true → (nodes : List CaseNode) → w.all_case_faults frame inner (Some aim) nodes ≡ []
      → Each (CaseFits frame.sig params aim) (map (w.case_of frame inner (Some aim)) nodes)
  cases_are_fit aim within [] none = tt
  cases_are_fit aim within (c ∷ cs) none =
      let own = nil_left (w.case_faults frame inner (Some aim) c) (w.all_case_faults frame inner (Some aim) cs) none in (
        record {
          conds = condition_fits frame truths inner (aim_width params aim) within (w.added (Some aim)) c;
          value = right_fits frame truths inner (aim_width params aim) within c.colon.number (w.sort_of_aim aim) c.right (nil_right (w.condition frame inner (w.added (Some aim)) c).faults _ own);
        },
        cases_are_fit aim within cs (nil_right (w.case_faults frame inner (Some aim) c) (w.all_case_faults frame inner (Some aim) cs) none),
      )

  update_by : (u : UpdateNode) (aim : Option Aim) → IfSome aim (λ a. AimFits frame.sig params a × (scope_fits (aim_width params a) inner ≡ true))
      → w.all_case_faults frame inner aim u.branches ≡ [] → (w.right_value frame inner u.at.number (w.sort_aimed aim) u.last).faults ≡ []
      → IfSome aim (UpdateFits frame.sig params (map (w.case_of frame inner aim) u.branches) (w.right_value frame inner u.at.number (w.sort_aimed aim) u.last).value)
  update_by u None h none last = tt
  update_by u (Some aim) h none last = record {
    aim_fits = h.0;
    cases_fit = cases_are_fit aim h.1 u.branches none;
    last_fits = right_fits frame truths inner (aim_width params aim) h.1 u.at.number (w.sort_of_aim aim) u.last last;
  }

module _ (frame : Frame) (scope : List Local) where
  plain_by : (token : ℕ) (a : Side) (b : Bool) → is_plain (value_in (if b then sound (w.value_of_side a) else refuse token t.T03)) ≡ true
  plain_by token (Side.Con s c) true = refl
  plain_by token (Side.Fin s c) true = refl
  plain_by token (Side.Proc p) true = refl
  plain_by token (Side.Int base add) true = refl
  plain_by token a false = refl

  plain_for : (token : ℕ) (sort : Option Sort) (a : Side) → is_plain (w.value_for token sort a).value ≡ true
  plain_for token None a = refl
  plain_for token (Some sort) a = plain_by token a (same_sort (sort_of_side a) sort)

  plain_known : (token : ℕ) (sort : Option Sort) (v : Option Side) → is_plain (where_known v (λ a. w.value_for token sort a)).value ≡ true
  plain_known token sort None = refl
  plain_known token sort (Some a) = plain_for token sort a

  plain_right : (token : ℕ) (sort : Option Sort) (right : RightNode) → w.mark_of right ≡ None → is_plain (w.right_value frame scope token sort right).value ≡ true
  plain_right token sort (rights.Sum sum) none = plain_known token sort (side frame scope sum).value
  plain_right token sort (rights.Any mark) none = cc

  before_none : (a b : Option Leaf) → w.mark_before a b ≡ None → (a ≡ None) × (b ≡ None)
  before_none None b h = (refl, h)
  before_none (Some x) b h = cc

  -- without a `?` no value is any
  plain_update : (aim : Option Aim) (at : ℕ) (nodes : List CaseNode) (last : RightNode) → w.first_mark nodes last ≡ None
      → (list_all is_plain_case (map (w.case_of frame scope aim) nodes) ≡ true) × (is_plain (w.right_value frame scope at (w.sort_aimed aim) last).value ≡ true)
  plain_update aim at [] last none = (refl, plain_right at (w.sort_aimed aim) last none)
  plain_update aim at (c ∷ cs) last none =
      let parts = before_none (w.mark_of c.right) (w.first_mark cs last) none in
      let rest = plain_update aim at cs last parts.1 in
      (and_both (is_plain_case (w.case_of frame scope aim c)) (list_all is_plain_case (map (w.case_of frame scope aim) cs)) (plain_right c.colon.number (w.sort_aimed aim) c.right parts.0) rest.0, rest.1)

-- the update of a node, without faults
pub record WrittenFits (sig : Signature) (params : ℕ) (x : Written) : Type 0 where
  pub fits : IfSome x.aim (UpdateFits sig params x.cases x.last)
  pub plain : x.mark ≡ None → (list_all is_plain_case x.cases ≡ true) × (is_plain x.last ≡ true)

module _ (frame : Frame) (truths : has_truths frame.sig ≡ true) (params : ℕ) (scope : List Local) (within : scope_fits params scope ≡ true) where
  index_fits : (index : Option Leaf) → IfSome (w.index_place frame scope index) (λ p. nat_lt p params ≡ true)
  index_fits None = tt
  index_fits (Some leaf) = place_fits_scope frame.text params scope (word_of frame.text leaf) within

  -- the aim, and the scope within the update
  pub aim_at_fits : (u : UpdateNode) → IfSome (w.aim_at frame scope u).value (λ aim. AimFits frame.sig params aim × (scope_fits (aim_width params aim) (w.inner frame scope params u) ≡ true))
  aim_at_fits u =
      target_of_fits frame.sig params scope within u.name.number (place_at frame scope u.name) (what_at frame u.name) u.index (w.index_place frame scope u.index)
      (stands_fits frame.sig (word_of frame.text u.name)) (index_fits u.index)

  pub written_fits : (u : UpdateNode) → w.written_faults frame scope params u ≡ [] → WrittenFits frame.sig params (w.written frame scope params u)
  written_fits u none =
      let aim = w.aim_at frame scope u in
      let inner = w.inner frame scope params u in
      let ixs = w.index_faults frame u.index (w.index_place frame scope u.index) in
      let cs = w.all_case_faults frame inner aim.value u.branches in
      let ls = (w.right_value frame inner u.at.number (w.sort_aimed aim.value) u.last).faults in
      let front = nil_left (aim.faults ++ ixs ++ cs) ls none in
      record {
        fits = update_by frame truths params inner u aim.value (aim_at_fits u) (nil_right (aim.faults ++ ixs) cs front) (nil_right (aim.faults ++ ixs ++ cs) ls none);
        plain = λ unmarked. plain_update frame inner aim.value u.at.number u.branches u.last unmarked;
      }
