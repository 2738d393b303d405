-- No part of a tree is refused without a fault.
use Rattle.std.proofs.Common.{◌≡◌, ℕ, zero, suc, ◌+◌, Bool, true, false, ◌||◌, ◌&&◌, not, List, [], ◌∷◌, ◌++◌, length, map, take, Option, Some, None, option_map, refl, sym, ap, ◌∙◌, subst, true≢false, nat_lt, nat_le}
use Rattle.std.specs.Prelude.{if◌then◌else◌, flat_map}
use Rattle.std.specs.List.{list_all}
use Rattle.cub_parse.specs.declared.tree.Leaf.{Leaf}
use Rattle.cub_parse.specs.declared.tree.Syntax.{Syntax}
use Rattle.cub_parse.specs.declared.tree.BodyNode.{BodyNode}
use Rattle.cub_parse.specs.declared.tree.CaseNode.{CaseNode}
use Rattle.cub_parse.specs.declared.tree.RightNode.{RightNode}
use Rattle.cub_parse.specs.declared.tree.RightNode.TheVariants as rights
use Rattle.cub_parse.specs.declared.tree.RestNode.{RestNode}
use Rattle.cub_parse.specs.declared.tree.RestNode.TheVariants as rests
use Rattle.cub_parse.specs.declared.tree.UpdateNode.{UpdateNode}
use Rattle.cub_parse.specs.declared.tree.FormNode.{FormNode}
use Rattle.cub_parse.specs.declared.tree.FormNode.TheOpen.{FormNode-F}
use Rattle.cub_parse.specs.declared.tree.FormNode.TheViews.{out-FormNode}
use Rattle.cub_proto.specs.declared.literal.Sort.{Sort}
use Rattle.cub_proto.specs.declared.literal.Lit.{Lit}
use Rattle.cub_proto.specs.declared.literal.Value.{Value}
use Rattle.cub_proto.specs.declared.protocol.Goal.{Goal}
use Rattle.cub_proto.specs.declared.transition.Transition.{Transition}
use Rattle.cub_proto.specs.Signature.{Signature, same_sort}
use Rattle.cub_dnf.specs.declared.formula.Formula.{Formula}
use Rattle.cub_dnf.specs.declared.formula.Formula.TheVariants as f
use Rattle.cub_dnf.specs.Lists.{list_of}
use Rattle.cub_dnf.specs.Normal.{widest}
use Rattle.cub_names.specs.declared.fault.TypeKind.TheVariants as t
use Rattle.cub_names.specs.declared.fault.Fault.{Fault}
use Rattle.cub_names.specs.declared.meaning.What.{What}
use Rattle.cub_names.specs.declared.scope.Local.{Local}
use Rattle.cub_names.specs.declared.sides.Side.{Side}
use Rattle.cub_names.specs.Checked.{Checked, IsTold, is_there, has_value, in_front, appended, sound, refuse, both, beside, made, where_known, each}
use Rattle.cub_names.specs.Meaning.{Frame}
use Rattle.cub_names.specs.Scope.{locals}
use Rattle.cub_names.specs.Sides.{side, sort_of_side, place_at, what_at}
use Rattle.cub_types.specs.declared.written.Aim.{Aim}
use Rattle.cub_types.specs.declared.updating.Updating.{Updating}
use Rattle.cub_types.specs.Formulas.{form}
use Rattle.cub_types.specs.Guards as g
use Rattle.cub_types.specs.Bodies as b
use Rattle.cub_types.specs.Writes as w
use Rattle.cub_types.specs.Joined as j
use Rattle.cub_types.specs.Typing as ty
use Rattle.cub_types.proofs.Told.{there_more, there_left, told_beside, told_then, told_both, told_made, told_appended, told_if}
use Rattle.cub_types.proofs.SidesTold.{side_told}
use Rattle.cub_types.proofs.FormsTold.{form_told}

abbrev Said : {A : Type 0} → Option A → List Fault → Type 0
Said value faults = (has_value value || is_there faults) ≡ true

-- faults in front of others tell anything
front_told : {A : Type 0} (v : Option A) (front faults : List Fault) → is_there front ≡ true → Said v (front ++ faults)
front_told v [] faults h = absurd (true≢false (sym h))
front_told None (x ∷ xs) faults h = refl
front_told (Some a) (x ∷ xs) faults h = refl

-- both lists of a guard are told
record SplitTold (s : g.Split) : Type 0 where
  own : Said s.own s.faults
  others : Said s.others s.faults

two_told : {A : Type 0} (v u : Option (List A)) (front faults : List Fault) → Said v faults → Said u faults → Said (appended v u) (front ++ faults)
two_told None u front faults h k = there_more front faults h
two_told (Some a) None front faults h k = there_more front faults k
two_told (Some a) (Some c) front faults h k = refl

own_told : (x : Checked Formula) → IsTold x → SplitTold (g.own_conjunct x)
own_told x h = record { own = by x.value x.faults h; others = refl }
  where
    by : (v : Option Formula) (fs : List Fault) → Said v fs → Said (in_front v (Some [])) fs
    by None fs h = h
    by (Some a) fs h = refl

beside_told : (a c : g.Split) → SplitTold a → SplitTold c → SplitTold (g.beside a c)
beside_told a c h k = record { own = told_appended a.own a.faults c.own c.faults h.own k.own; others = told_appended a.others a.faults c.others c.faults h.others k.others }

module _ (frame : Frame) (place : ℕ) where
  abbrev Below : Type 0
  Below = List Local → FormNode → g.Split

  all_split : (below : Below) → ((scope : List Local) (node : FormNode) → SplitTold (below scope node)) → (scope : List Local) (nodes : List FormNode)
      → SplitTold (g.all_beside (map (below scope) nodes))
  all_split below told scope [] = record { own = refl; others = refl }
  all_split below told scope (x ∷ xs) = beside_told (below scope x) (g.all_beside (map (below scope) xs)) (told scope x) (all_split below told scope xs)

  whole_split : (below : Below) → ((scope : List Local) (node : FormNode) → SplitTold (below scope node)) → (scope : List Local) (node : FormNode) (layer : FormNode-F FormNode)
      → SplitTold (g.whole_of frame place below scope node layer)
  whole_split below told scope node (FormNode-F.And nodes) = all_split below told scope nodes
  whole_split below told scope node (FormNode-F.Or nodes) = told scope node
  whole_split below told scope node (FormNode-F.Not part) = told scope node
  whole_split below told scope node (FormNode-F.Group part) = told scope node
  whole_split below told scope node (FormNode-F.Forall word name body) = told scope node
  whole_split below told scope node (FormNode-F.Side sum) = told scope node
  whole_split below told scope node (FormNode-F.Rel a sign c) = told scope node

  universal_split : (faults : List Fault) (s : g.Split) → SplitTold s → SplitTold (g.universal faults s)
  universal_split faults s h = record { own = refl; others = two_told s.own s.others faults s.faults h.own h.others }

  conjunct_split : (below : Below) → ((scope : List Local) (node : FormNode) → SplitTold (below scope node)) → (scope : List Local) (node : FormNode) (layer : FormNode-F FormNode)
      → SplitTold (g.conjunct_of frame place below scope node layer)
  conjunct_split below told scope node (FormNode-F.Forall word name body) =
      universal_split _ _ (whole_split below told (scope ++ g.local name place ∷ []) body (out-FormNode body))
  conjunct_split below told scope node (FormNode-F.And nodes) = own_told (form false frame scope node) (form_told false frame scope node)
  conjunct_split below told scope node (FormNode-F.Or nodes) = own_told (form false frame scope node) (form_told false frame scope node)
  conjunct_split below told scope node (FormNode-F.Not part) = own_told (form false frame scope node) (form_told false frame scope node)
  conjunct_split below told scope node (FormNode-F.Group part) = own_told (form false frame scope node) (form_told false frame scope node)
  conjunct_split below told scope node (FormNode-F.Side sum) = own_told (form false frame scope node) (form_told false frame scope node)
  conjunct_split below told scope node (FormNode-F.Rel a sign c) = own_told (form false frame scope node) (form_told false frame scope node)

  conjunct_told : (levels : ℕ) (scope : List Local) (node : FormNode) → SplitTold (g.conjunct frame place levels scope node)
  conjunct_told zero scope node = own_told (form false frame scope node) (form_told false frame scope node)
  conjunct_told (suc levels) scope node = conjunct_split (g.conjunct frame place levels) (conjunct_told levels) scope node (out-FormNode node)

  whole_told : (levels : ℕ) (scope : List Local) (node : FormNode) → SplitTold (g.whole frame place levels scope node)
  whole_told levels scope node = whole_split (g.conjunct frame place levels) (conjunct_told levels) scope node (out-FormNode node)

normal_told : (sig : Signature) (token : ℕ) (formula : Formula) → IsTold (b.normalized sig token formula)
normal_told sig token formula =
    told_if (nat_le (length (list_of sig true formula)) 64 && nat_le (widest (list_of sig true formula)) 64) (sound (list_of sig true formula)) (refuse token t.T17) refl refl

lists_told : (sig : Signature) (token : ℕ) (own others : Option (List Formula)) (faults : List Fault) → Said own faults → Said others faults
    → IsTold (ty.split_lists sig token (record { own = own; others = others; faults = faults }))
lists_told sig token None others faults h k = let x = both (ty.conjoined sig token None) (ty.conjoined sig token others) in front_told x.value faults x.faults h
lists_told sig token (Some own) None faults h k = let x = both (ty.conjoined sig token (Some own)) (ty.conjoined sig token None) in front_told x.value faults x.faults k
lists_told sig token (Some own) (Some others) faults h k =
    told_beside faults _ (told_both (b.normalized sig token (f.All own)) (b.normalized sig token (f.All others)) (normal_told sig token (f.All own)) (normal_told sig token (f.All others)))

guard_told : (frame : Frame) (params : ℕ) (scope : List Local) (guard : Option BodyNode) → IsTold (ty.guard_of frame params scope guard)
guard_told frame params scope None = refl
guard_told frame params scope (Some body) = by body.formula
  where
    by : (formula : Option FormNode) → IsTold (ty.split_lists frame.sig body.close.number (ty.split_guard frame params scope formula))
    by None = lists_told frame.sig body.close.number (Some []) (Some []) [] refl refl
    by (Some node) = let s = g.whole frame params 64 scope node in let h = whole_told frame params 64 scope node in lists_told frame.sig body.close.number s.own s.others s.faults h.own h.others

body_told : (init : Bool) (frame : Frame) (scope : List Local) (formula : Option FormNode) → IsTold (b.body_form init frame scope formula)
body_told init frame scope None = refl
body_told init frame scope (Some node) = form_told init frame scope node

start_told : (frame : Frame) (body : BodyNode) → IsTold (b.start frame body)
start_told frame body =
    told_beside _ _ (told_then (b.body_form true frame (locals 1 body.names) body.formula) _ (body_told true frame (locals 1 body.names) body.formula)
    (λ formula. told_beside _ (b.normalized frame.sig body.close.number formula) (normal_told frame.sig body.close.number formula)))

turned_told : (negated : Bool) (v : Option Formula) (fs : List Fault) → Said v fs → Said (b.turned negated v) fs
turned_told true None fs h = h
turned_told true (Some a) fs h = refl
turned_told false v fs h = h

form_goal_told : (negated : Bool) (frame : Frame) (body : BodyNode) → IsTold (b.goal_form negated frame body)
form_goal_told negated frame body =
    let x = b.body_form false frame (locals 4 body.names) body.formula in turned_told negated x.value x.faults (body_told false frame (locals 4 body.names) body.formula)

goals_told : (negated : Bool) (frame : Frame) (total : ℕ) (body : BodyNode) → IsTold (b.goals_of negated frame total body)
goals_told negated frame total body =
    told_beside _ _ (told_then (b.goal_form negated frame body) _ (form_goal_told negated frame body)
    (λ formula. told_beside _ _ (told_made (map (b.goal (length (take 4 body.names)))) (b.normalized frame.sig body.close.number formula) (normal_told frame.sig body.close.number formula))))

goals_at_told : (frame : Frame) (total : ℕ) (r : RestNode) → IsTold (b.goals_at frame total r)
goals_at_told frame total (rests.Unsafe body) = goals_told false frame total body
goals_at_told frame total (rests.Invariant word body) = goals_told true frame total body
goals_at_told frame total (rests.Transition name names guard updates) = refl

goals_from_told : (frame : Frame) (total : ℕ) (rs : List RestNode) → IsTold (b.goals_from frame total rs)
goals_from_told frame total [] = refl
goals_from_told frame total (r ∷ rs) =
    told_appended (b.goals_at frame total r).value (b.goals_at frame total r).faults _ _ (goals_at_told frame total r) (goals_from_told frame (b.total_at frame total r) rs)

-- where the aim is known, each right side is told
value_told : (token : ℕ) (sort : Sort) (a : Side) → IsTold (w.value_for token (Some sort) a)
value_told token sort a = told_if (same_sort (sort_of_side a) sort) (sound (w.value_of_side a)) (refuse token t.T03) refl refl

right_told : (frame : Frame) (scope : List Local) (token : ℕ) (sort : Sort) (right : RightNode) → IsTold (w.right_value frame scope token (Some sort) right)
right_told frame scope token sort (rights.Sum sum) = told_then (side frame scope sum) (λ a. w.value_for token (Some sort) a) (side_told frame scope sum) (λ a. value_told token sort a)
right_told frame scope token sort (rights.Any mark) = refl

condition_told : (frame : Frame) (scope : List Local) (more : ℕ) (node : CaseNode) → IsTold (w.condition frame scope more node)
condition_told frame scope more node =
    told_then (form false frame scope node.cond) _ (form_told false frame scope node.cond)
    (λ formula. told_then (b.normalized frame.sig node.colon.number formula) (λ list. w.cond_tests node.colon.number more list) (normal_told frame.sig node.colon.number formula)
    (λ list. told_if (nat_lt 64 (widest list + more)) (refuse node.colon.number t.T17) (sound list) refl refl))

both_there : {A B : Type 0} (v : Option A) (fs : List Fault) (u : Option B) (gs : List Fault) → Said v fs → Said u gs → ((has_value v && has_value u) || is_there (fs ++ gs)) ≡ true
both_there None [] u gs h k = absurd (true≢false (sym h))
both_there None (x ∷ xs) u gs h k = refl
both_there (Some a) fs None gs h k = there_more fs gs k
both_there (Some a) fs (Some c) gs h k = refl

module _ (frame : Frame) (scope : List Local) (aim : Aim) where
  case_told : (node : CaseNode) → (w.is_whole_case (w.case_of frame scope (Some aim) node) || is_there (w.case_faults frame scope (Some aim) node)) ≡ true
  case_told node =
      both_there (w.condition frame scope (w.added (Some aim)) node).value (w.condition frame scope (w.added (Some aim)) node).faults
      (w.right_value frame scope node.colon.number (Some (w.sort_of_aim aim)) node.right).value (w.right_value frame scope node.colon.number (Some (w.sort_of_aim aim)) node.right).faults
      (condition_told frame scope (w.added (Some aim)) node) (right_told frame scope node.colon.number (w.sort_of_aim aim) node.right)

  one_more : (a c : Bool) (fs gs : List Fault) → (a || is_there fs) ≡ true → (c || is_there gs) ≡ true → ((a && c) || is_there (fs ++ gs)) ≡ true
  one_more false c [] gs h k = absurd (true≢false (sym h))
  one_more false c (x ∷ xs) gs h k = refl
  one_more true false fs gs h k = there_more fs gs k
  one_more true true fs gs h k = refl

  cases_told : (nodes : List CaseNode) → (list_all w.is_whole_case (map (w.case_of frame scope (Some aim)) nodes) || is_there (w.all_case_faults frame scope (Some aim) nodes)) ≡ true
  cases_told [] = refl
  cases_told (c ∷ cs) =
      one_more (w.is_whole_case (w.case_of frame scope (Some aim) c)) (list_all w.is_whole_case (map (w.case_of frame scope (Some aim)) cs))
      (w.case_faults frame scope (Some aim) c) (w.all_case_faults frame scope (Some aim) cs) (case_told c) (cases_told cs)

aim_told : (token : ℕ) (what : Option What) (index : Option Leaf) (place : Option ℕ) → IsTold (w.aim_of token what index place)
aim_told token None index place = refl
aim_told token (Some (What.Con sort c)) index place = refl
aim_told token (Some (What.Global g sort)) None place = refl
aim_told token (Some (What.Global g sort)) (Some leaf) place = refl
aim_told token (Some (What.Array a sort)) None place = refl
aim_told token (Some (What.Array a sort)) (Some leaf) place = refl

target_told : (token : ℕ) (variable : Option ℕ) (what : Option What) (index : Option Leaf) (place : Option ℕ) → IsTold (w.target_of token variable what index place)
target_told token (Some v) what index place = refl
target_told token None what index place = aim_told token what index place

-- the parts of an update, where its aim is known or told
parts_there : (aim cases last : Bool) (aims ixs cs ls : List Fault) → (aim || is_there aims) ≡ true → (aim ≡ true → (cases || is_there cs) ≡ true) → (aim ≡ true → (last || is_there ls) ≡ true)
    → ((aim && cases && last) || is_there (aims ++ ixs ++ cs ++ ls)) ≡ true
parts_there false cases last [] ixs cs ls h k m = absurd (true≢false (sym h))
parts_there false cases last (x ∷ xs) ixs cs ls h k m = refl
parts_there true false last aims ixs cs ls h k m = in_the_middle (aims ++ ixs) cs ls (k refl)
  where
    in_the_middle : (front middle back : List Fault) → is_there middle ≡ true → is_there (front ++ middle ++ back) ≡ true
    in_the_middle front [] back h = absurd (true≢false (sym h))
    in_the_middle [] (x ∷ xs) back h = refl
    in_the_middle (y ∷ ys) middle back h = refl
parts_there true true false aims ixs cs ls h k m = there_more (aims ++ ixs ++ cs) ls (m refl)
parts_there true true true aims ixs cs ls h k m = refl

never : (b : Bool) (fs : List Fault) → false ≡ true → (b || is_there fs) ≡ true
never b fs e = absurd (true≢false (sym e))

module _ (frame : Frame) (inner : List Local) (u : UpdateNode) (aims ixs : List Fault) where
  update_there : (aim : Option Aim) → Said aim aims
      → ((has_value aim && list_all w.is_whole_case (map (w.case_of frame inner aim) u.branches) && has_value (w.right_value frame inner u.at.number (w.sort_aimed aim) u.last).value)
      || is_there (aims ++ ixs ++ w.all_case_faults frame inner aim u.branches ++ (w.right_value frame inner u.at.number (w.sort_aimed aim) u.last).faults)) ≡ true
  update_there None h =
      let cases = list_all w.is_whole_case (map (w.case_of frame inner None) u.branches) in
      let last = has_value (w.right_value frame inner u.at.number None u.last).value in
      let cs = w.all_case_faults frame inner None u.branches in
      let ls = (w.right_value frame inner u.at.number None u.last).faults in
      parts_there false cases last aims ixs cs ls h (λ e. never cases cs e) (λ e. never last ls e)
  update_there (Some aim) h =
      let right = w.right_value frame inner u.at.number (Some (w.sort_of_aim aim)) u.last in
      parts_there true (list_all w.is_whole_case (map (w.case_of frame inner (Some aim)) u.branches)) (has_value right.value) aims ixs
      (w.all_case_faults frame inner (Some aim) u.branches) right.faults refl (λ e. cases_told frame inner aim u.branches) (λ e. right_told frame inner u.at.number (w.sort_of_aim aim) u.last)

written_told : (frame : Frame) (scope : List Local) (params : ℕ) (u : UpdateNode) → (w.is_whole (w.written frame scope params u) || is_there (w.written_faults frame scope params u)) ≡ true
written_told frame scope params u =
    update_there frame (w.inner frame scope params u) u (w.aim_at frame scope u).faults (w.index_faults frame u.index (w.index_place frame scope u.index)) (w.aim_at frame scope u).value
    (target_told u.name.number (place_at frame scope u.name) (what_at frame u.name) u.index (w.index_place frame scope u.index))

-- a part that isn't whole leaves a fault
chain_there : (old part rest : Bool) (fs gs hs : List Fault) → (part || is_there fs) ≡ true → ((old && part) ≡ true → (rest || is_there hs) ≡ true) → old ≡ true → (rest || is_there (fs ++ gs ++ hs)) ≡ true
chain_there old false rest [] gs hs h k is = absurd (true≢false (sym h))
chain_there old false false (x ∷ xs) gs hs h k is = refl
chain_there old false true (x ∷ xs) gs hs h k is = refl
chain_there false true rest fs gs hs h k is = absurd (true≢false (sym is))
chain_there true true true fs gs hs h k is = refl
chain_there true true false fs gs hs h k is = there_more (fs ++ gs) hs (k refl)

updating_told : (frame : Frame) (scope : List Local) (params : ℕ) (u : Updating) (ns : List UpdateNode) → u.whole ≡ true
    → ((j.updating frame scope params u ns).whole || is_there (j.updating_faults frame scope params u ns)) ≡ true
updating_told frame scope params u [] is = ap (λ v. v || false) is
updating_told frame scope params u (n ∷ ns) is =
    chain_there u.whole (w.is_whole (w.written frame scope params n)) (j.updating frame scope params (j.joined u (w.written frame scope params n)) ns).whole
    (w.written_faults frame scope params n) (j.joined_faults params u (w.written frame scope params n)) _
    (written_told frame scope params n) (λ both. updating_told frame scope params (j.joined u (w.written frame scope params n)) ns both) is

by_whole : (whole : Bool) (tr : Transition) (front us ls : List Fault) → (whole || is_there us) ≡ true → Said (if whole then Some tr else None) (front ++ us ++ ls)
by_whole true tr front us ls k = refl
by_whole false tr front us ls k = there_left (front ++ us) ls (there_more front us k)

transition_there : (frame : Frame) (params : ℕ) (name : Leaf) (u : Updating) (v : Option (List (List Lit) × List (List Lit))) (vs gs us ls : List Fault)
    → Said v gs → (u.whole || is_there us) ≡ true → Said (ty.transition_from frame params name u v) (vs ++ gs ++ us ++ ls)
transition_there frame params name u None vs gs us ls h k = there_left (vs ++ gs ++ us) ls (there_left (vs ++ gs) us (there_more vs gs h))
transition_there frame params name u (Some p) vs gs us ls h k = by_whole u.whole _ (vs ++ gs) us ls k

transition_told : (frame : Frame) (name : Leaf) (names : List Leaf) (guard : Option BodyNode) (updates : List UpdateNode) → IsTold (ty.transition frame name names guard updates)
transition_told frame name names guard updates =
    transition_there frame (length (take 3 names)) name (j.updating frame (locals 3 names) (length (take 3 names)) j.no_updates updates)
    (ty.guard_of frame (length (take 3 names)) (locals 3 names) guard).value _
    (ty.guard_of frame (length (take 3 names)) (locals 3 names) guard).faults _ _
    (guard_told frame (length (take 3 names)) (locals 3 names) guard)
    (updating_told frame (locals 3 names) (length (take 3 names)) j.no_updates updates refl)

one_told : (v : Option Transition) (fs : List Fault) → Said v fs → Said (in_front v (Some [])) fs
one_told None fs h = h
one_told (Some a) fs h = refl

transition_at_told : (frame : Frame) (r : RestNode) → IsTold (ty.transition_at frame r)
transition_at_told frame (rests.Unsafe body) = refl
transition_at_told frame (rests.Invariant word body) = refl
transition_at_told frame (rests.Transition name names guard updates) =
    let x = ty.transition frame name names guard updates in one_told x.value x.faults (transition_told frame name names guard updates)

transitions_told : (frame : Frame) (rs : List RestNode) → IsTold (ty.transitions_of frame rs)
transitions_told frame [] = refl
transitions_told frame (r ∷ rs) =
    told_appended (ty.transition_at frame r).value (ty.transition_at frame r).faults (ty.transitions_of frame rs).value (ty.transitions_of frame rs).faults
    (transition_at_told frame r) (transitions_told frame rs)

three_there : (s : Option (List (List Lit))) (gs : Option (List Goal)) (ts : Option (List Transition)) (fs fg fn ft : List Fault)
    → Said s fs → Said gs fg → Said ts ft → Said (ty.rest_of s gs ts) (fs ++ fg ++ fn ++ ft)
three_there None gs ts fs fg fn ft h k m = there_left (fs ++ fg ++ fn) ft (there_left (fs ++ fg) fn (there_left fs fg h))
three_there (Some s) None ts fs fg fn ft h k m = there_left (fs ++ fg ++ fn) ft (there_left (fs ++ fg) fn (there_more fs fg k))
three_there (Some s) (Some gs) None fs fg fn ft h k m = there_more (fs ++ fg ++ fn) ft m
three_there (Some s) (Some gs) (Some ts) fs fg fn ft h k m = refl

-- what stands behind the declarations is there, or a fault says why not
pub rest_told : (frame : Frame) (init : BodyNode) (rs : List RestNode) → IsTold (ty.typed_rest frame init rs)
rest_told frame init rs =
    three_there (b.start frame init).value (b.goals_from frame 0 rs).value (ty.transitions_of frame rs).value
    (b.start frame init).faults (b.goals_from frame 0 rs).faults _ (ty.transitions_of frame rs).faults
    (start_told frame init) (goals_from_told frame 0 rs) (transitions_told frame rs)

none_told : {A : Type 0} (v : Option A) (fs : List Fault) → Said v fs → v ≡ None → fs ≡ [] → ⊥
none_told v fs h e k = true≢false (sym h ∙ ap (λ x. has_value x || is_there fs) e ∙ ap is_there k)

pub rest_not_lost : (frame : Frame) (init : BodyNode) (rs : List RestNode) → (ty.typed_rest frame init rs).value ≡ None → (ty.typed_rest frame init rs).faults ≡ [] → ⊥
rest_not_lost frame init rs e k = none_told (ty.typed_rest frame init rs).value (ty.typed_rest frame init rs).faults (rest_told frame init rs) e k
