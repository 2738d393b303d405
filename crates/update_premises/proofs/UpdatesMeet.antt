-- The conditions of updates, joined or not, have literals of texts alone.
use Rattle.std.proofs.Common.{◌≡◌, ℕ, ◌+◌, Bool, true, false, List, [], ◌∷◌, ◌++◌, map, Option, Some, None, refl, ap, ◌∙◌, cond, nat_lt}
use Rattle.std.specs.Prelude.{if◌then◌else◌, IfSome, ◌&&◌, not, ◌==◌, unwrap_or, flat_map, find}
use Rattle.std.specs.List.{list_all}
use Rattle.std.specs.declared.cmp.Ordering.TheVariants.{Less, Equal, Greater}
use Rattle.std.proofs.lemmas.List.Folds.{list_all-append}
use Rattle.cub_base.proofs.Bools.{and_left, and_right, and_both}
use Rattle.cub_parse.specs.declared.tree.CaseNode.{CaseNode}
use Rattle.cub_parse.specs.declared.tree.UpdateNode.{UpdateNode}
use Rattle.cub_proto.specs.declared.literal.Lit.{Lit}
use Rattle.cub_proto.specs.declared.literal.Value.{Value}
use Rattle.cub_proto.specs.declared.transition.Target.{Target}
use Rattle.cub_proto.specs.declared.transition.Branch.{Branch}
use Rattle.cub_proto.specs.declared.transition.Update.{Update}
use Rattle.cub_proto.specs.declared.protocol.Protocol.{Protocol}
use Rattle.cub_proto.specs.StateOf.{signature_of}
use Rattle.cub_dnf.specs.declared.formula.Formula.{Formula}
use Rattle.cub_dnf.specs.Normal.{widest}
use Rattle.cub_names.specs.declared.fault.TypeKind.TheVariants as t
use Rattle.cub_names.specs.declared.scope.Local.{Local}
use Rattle.cub_names.specs.Checked.{sound, refuse, where_known, has_value, ◌>>=◌}
use Rattle.cub_names.specs.Scope.{scope_fits}
use Rattle.cub_types.specs.declared.written.Aim.{Aim}
use Rattle.cub_types.specs.declared.written.Case.{Case}
use Rattle.cub_types.specs.declared.written.Written.{Written}
use Rattle.cub_types.specs.declared.updating.Updating.{Updating}
use Rattle.cub_types.specs.Formulas.{is_greater, form}
use Rattle.cub_types.specs.Bodies.{normalized}
use Rattle.cub_types.specs.Writes as w
use Rattle.cub_types.specs.Joined as j
use Rattle.cub_types.proofs.FormFolds.{Each}
use Rattle.cub_types.proofs.BodiesFit.{value_in}
use Rattle.cub_types.proofs.UpdatesFit.{AimFits, aim_width, aim_at_fits}
use Rattle.print_premises.proofs.Literals.{is_textual, is_ready, are_textual}
use Rattle.print_premises.proofs.FormulasMeet.{frame, truths, form_ready}
use Rattle.print_premises.proofs.BodiesMeet.{IsReady, normal_textual}

each_push : {A : Type 0} (P : A → Type 0) (xs : List A) (x : A) → Each P xs → P x → Each P (xs ++ x ∷ [])
each_push P [] x h k = (k, tt)
each_push P (y ∷ ys) x h k = (h.0, each_push P ys x h.1 k)

keeps_by : (P : Written → Type 0) (kept : List Written) (x : Written) (b : Bool) → Each P kept → P x → Each P (if b then kept ++ x ∷ [] else kept)
keeps_by P kept x true h k = each_push P kept x h k
keeps_by P kept x false h k = h

module _ (p : Protocol) where
  abbrev Conds : Option (List (List Lit)) → Type 0
  Conds conds = IfSome conds (λ list. list_all (are_textual p) list ≡ true)

  abbrev pub is_textual_branch : Branch → Bool
  is_textual_branch b = are_textual p b.cond

  abbrev pub is_textual_update : Update → Bool
  is_textual_update u = list_all is_textual_branch u.branches

  -- ---- an update by itself
  room_by : (token : ℕ) (list : List (List Lit)) (b : Bool) → list_all (are_textual p) list ≡ true → Conds (value_in (if b then refuse token t.T17 else sound list))
  room_by token list true h = tt
  room_by token list false h = h

  known_list : (token more : ℕ) (formula : Formula) (v : Option (List (List Lit))) → (normalized (signature_of p) token formula).value ≡ v → is_ready p formula ≡ true → Conds (where_known v (λ list. w.cond_tests token more list)).value
  known_list token more formula None is ready = tt
  known_list token more formula (Some list) is ready =
      room_by token list (nat_lt 64 (widest list + more)) (normal_textual p token formula list ready is)

  known_formula : (token more : ℕ) (v : Option Formula) → IsReady p v
      → Conds (where_known v (λ formula. normalized (signature_of p) token formula >>= λ list. w.cond_tests token more list)).value
  known_formula token more None ready = tt
  known_formula token more (Some formula) ready = known_list token more formula (normalized (signature_of p) token formula).value refl ready

  abbrev pub IsTextualCase : Case → Type 0
  IsTextualCase c = Conds c.conds

  pub record WroteTextual (params : ℕ) (x : Written) : Type 0 where
    pub cases : Each IsTextualCase x.cases
    pub front : list_all (is_textual p) (j.first_literals params x.aim) ≡ true

  -- the parameter is before the variable of the array
  first_textual : (params : ℕ) (aim : Option Aim) → IfSome aim (λ a. AimFits (signature_of p) params a) → list_all (is_textual p) (j.first_literals params aim) ≡ true
  first_textual params None h = refl
  first_textual params (Some (Aim.Global g sort)) h = refl
  first_textual params (Some (Aim.Whole a sort)) h = refl
  first_textual params (Some (Aim.At a sort param)) h = ap (λ b. not (is_greater (cond b Less (cond (param == params) Equal Greater))) && true) h.1

  aim_alone : (params : ℕ) (inner : List Local) (width : Aim → ℕ) (aim : Option Aim) → IfSome aim (λ a. AimFits (signature_of p) params a × (scope_fits (width a) inner ≡ true))
      → IfSome aim (λ a. AimFits (signature_of p) params a)
  aim_alone params inner width None h = tt
  aim_alone params inner width (Some a) h = h.0

  module _ (text : List ℕ) where
    condition_textual : (scope : List Local) (more : ℕ) (node : CaseNode) → Conds (w.condition (frame p text) scope more node).value
    condition_textual scope more node = known_formula node.colon.number more (form false (frame p text) scope node.cond).value (form_ready p text false scope node.cond)

    cases_textual : (scope : List Local) (aim : Option Aim) (nodes : List CaseNode) → Each IsTextualCase (map (w.case_of (frame p text) scope aim) nodes)
    cases_textual scope aim [] = tt
    cases_textual scope aim (c ∷ cs) = (condition_textual scope (w.added aim) c, cases_textual scope aim cs)

    module _ (params : ℕ) (scope : List Local) (within : scope_fits params scope ≡ true) where
      abbrev at : UpdateNode → Written
      at u = w.written (frame p text) scope params u

      wrote_textual : (u : UpdateNode) → WroteTextual params (at u)
      wrote_textual u = record {
        cases = cases_textual (w.inner (frame p text) scope params u) (w.aim_at (frame p text) scope u).value u.branches;
        front = first_textual params (w.aim_at (frame p text) scope u).value
            (aim_alone params (w.inner (frame p text) scope params u) (aim_width params) (w.aim_at (frame p text) scope u).value (aim_at_fits (frame p text) (truths p) params scope within u));
      }

      -- ---- the updates of a transition together
      pub kept_textual : (u : Updating) (ns : List UpdateNode) → Each (WroteTextual params) u.kept → Each (WroteTextual params) (j.updating (frame p text) scope params u ns).kept
      kept_textual u [] h = h
      kept_textual u (n ∷ ns) h =
          kept_textual (j.joined u (at n)) ns
          (keeps_by (WroteTextual params) u.kept (at n) (has_value (at n).aim && not (j.is_again u.kept (at n).aim)) h (wrote_textual n))

  -- ---- branches
  branches_join : (xs ys : List Branch) → list_all is_textual_branch xs ≡ true → list_all is_textual_branch ys ≡ true → list_all is_textual_branch (xs ++ ys) ≡ true
  branches_join xs ys h k = list_all-append is_textual_branch xs ys ∙ and_both (list_all is_textual_branch xs) (list_all is_textual_branch ys) h k

  alternatives : (front : List Lit) → are_textual p front ≡ true → (v : Value) (list : List (List Lit)) → list_all (are_textual p) list ≡ true
      → list_all is_textual_branch (map (λ c. record { cond = front ++ c; value = v }) list) ≡ true
  alternatives front fr v [] h = refl
  alternatives front fr v (c ∷ cs) h =
      and_both (are_textual p (front ++ c)) (list_all is_textual_branch (map (λ d. record { cond = front ++ d; value = v }) cs))
      (list_all-append (is_textual p) front c ∙ and_both (are_textual p front) (are_textual p c) fr (and_left (are_textual p c) (list_all (are_textual p) cs) h))
      (alternatives front fr v cs (and_right (are_textual p c) (list_all (are_textual p) cs) h))

  case_by : (front : List Lit) → are_textual p front ≡ true → (v : Value) (conds : Option (List (List Lit))) → Conds conds
      → list_all is_textual_branch (map (λ c. record { cond = front ++ c; value = v }) (unwrap_or conds [])) ≡ true
  case_by front fr v None h = refl
  case_by front fr v (Some list) h = alternatives front fr v list h

  cases_by : (front : List Lit) → are_textual p front ≡ true → (cases : List Case) → Each IsTextualCase cases → list_all is_textual_branch (flat_map (j.case_branches front) cases) ≡ true
  cases_by front fr [] h = refl
  cases_by front fr (c ∷ cs) h =
      branches_join (j.case_branches front c) (flat_map (j.case_branches front) cs) (case_by front fr (unwrap_or c.value Value.Any) c.conds h.0) (cases_by front fr cs h.1)

  last_by : (v : Value) (lits : List Lit) → are_textual p lits ≡ true → list_all is_textual_branch (map (λ l. record { cond = l ∷ []; value = v }) lits) ≡ true
  last_by v [] h = refl
  last_by v (l ∷ ls) h =
      and_both (is_textual p l && true) (list_all is_textual_branch (map (λ m. record { cond = m ∷ []; value = v }) ls))
      (and_both (is_textual p l) true (and_left (is_textual p l) (are_textual p ls) h) refl) (last_by v ls (and_right (is_textual p l) (are_textual p ls) h))

  module _ (params : ℕ) where
    branches_textual : (x : Written) → WroteTextual params x → list_all is_textual_branch (j.branches_of params x) ≡ true
    branches_textual x h =
        let front = j.first_literals params x.aim in
        branches_join (flat_map (j.case_branches front) x.cases) (j.last_branches params x) (cases_by front h.front x.cases h.cases) (last_by (unwrap_or x.last Value.Any) front h.front)

    chosen_by : (x : Written) (b : Bool) → WroteTextual params x → list_all is_textual_branch (if b then j.branches_of params x else []) ≡ true
    chosen_by x true h = branches_textual x h
    chosen_by x false h = refl

    for_target : (target : Target) (kept : List Written) → Each (WroteTextual params) kept → list_all is_textual_branch (j.branches_for params target kept) ≡ true
    for_target target [] h = refl
    for_target target (x ∷ xs) h =
        branches_join (if j.is_for target x then j.branches_of params x else []) (j.branches_for params target xs) (chosen_by x (j.is_for target x) h.0) (for_target target xs h.1)

    module _ (kept : List Written) (all : Each (WroteTextual params) kept) where
      update_by : (target : Target) (found : Option Written) → list_all is_textual_update (j.update_from params target kept found) ≡ true
      update_by target None = refl
      update_by target (Some x) =
          and_both (list_all is_textual_branch (j.branches_for params target kept)) true (for_target target kept all) refl

      pub updates_textual : (targets : List Target) → list_all is_textual_update (flat_map (j.update_at params kept) targets) ≡ true
      updates_textual [] = refl
      updates_textual (target ∷ ts) =
          list_all-append is_textual_update (j.update_at params kept target) (flat_map (j.update_at params kept) ts)
          ∙ and_both (list_all is_textual_update (j.update_at params kept target)) (list_all is_textual_update (flat_map (j.update_at params kept) ts))
          (update_by target (find (j.is_for target) kept)) (updates_textual ts)
