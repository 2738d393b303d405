-- The updates of a printed transition together are those of the transition, and so the transition is read as itself.
use Rattle.std.proofs.Common.{◌≡◌, ℕ, ◌+◌, ◌≤◌, Bool, true, List, [], ◌∷◌, ◌++◌, length, map, take, Option, Some, None, refl, sym, ap, subst, ◌∙◌, arith}
use Rattle.std.specs.Prelude.{IsTrue, ◌&&◌, codes, nat_le, count_by, if◌then◌else◌, flat_map}
use Rattle.std.specs.List.{AllZip, list_all}
use Rattle.cub_base.specs.Name.{is_declarable}
use Rattle.cub_base.proofs.Bools.{and_left, and_right, le_is}
use Rattle.cub_lexer.specs.declared.token.TokenKind.TheVariants as k
use Rattle.cub_parse.specs.declared.tree.Leaf.{Leaf}
use Rattle.cub_parse.specs.declared.tree.BodyNode.{BodyNode}
use Rattle.cub_parse.specs.declared.tree.UpdateNode.{UpdateNode}
use Rattle.cub_parse.specs.declared.tree.RestNode.{RestNode}
use Rattle.cub_parse.specs.declared.tree.RestNode.TheVariants as rests
use Rattle.cub_names.specs.declared.fault.Fault.{Fault}
use Rattle.cub_names.specs.declared.scope.Local.{Local}
use Rattle.cub_names.specs.Checked.{Checked, sound}
use Rattle.cub_names.specs.Meaning.{Frame}
use Rattle.cub_names.specs.Scope.{variable_faults, locals, locals_from}
use Rattle.cub_names.specs.Words.{word_of}
use Rattle.cub_types.specs.declared.updating.Updating.{Updating}
use Rattle.cub_types.specs.Writes.{written}
use Rattle.cub_types.specs.Joined.{no_updates, updating, updating_faults, updates_of, targets, long_faults}
use Rattle.cub_types.specs.Bodies.{then_those}
use Rattle.cub_types.specs.Typing.{guard_of, transition_from, transition, listed, transition_at, transitions_of}
use Rattle.cub_proto.specs.declared.literal.Sort.{Sort}
use Rattle.cub_proto.specs.declared.literal.Lit.{Lit}
use Rattle.cub_proto.specs.declared.transition.Update.{Update}
use Rattle.cub_proto.specs.declared.transition.Transition.{Transition}
use Rattle.cub_proto.specs.declared.protocol.Goal.{Goal}
use Rattle.cub_proto.specs.declared.protocol.Protocol.{Protocol}
use Rattle.cub_proto.specs.Signature.{target_sort}
use Rattle.cub_proto.specs.Fits.{branch_fits, value_fits, update_width, update_fits, update_fits_sort, formula_fits, picks_process, targets_rise, transition_fits}
use Rattle.cub_proto.specs.StateOf.{signature_of}
use Rattle.cub_print.specs.Mark.{blank, line_feed, name}
use Rattle.cub_print.specs.Mark.Mark.{word}
use Rattle.cub_print.specs.Printed.{update_marks, parameter_marks, heading_marks, requires_marks, effect_marks, transition_marks, goal_marks}
use Rattle.print_laws.specs.Spot.{Spot, past, in_row}
use Rattle.print_laws.specs.Tree.{update_tree, parameter_names, goal_tree, transition_tree}
use Rattle.print_words.specs.Writable.{is_writable_formula, is_writable_update, is_writable_transition}
use Rattle.print_words.proofs.Seams.{Every}
use Rattle.print_names.specs.Plain.{declares_plain_names}
use Rattle.print_names.proofs.Positions as positions
use Rattle.print_names.proofs.Positions.{at_left, at_right, at_regrouped}
use Rattle.print_names.proofs.Rows.{AreWords, row_zip}
use Rattle.print_formulas.proofs.ScopeRead.{places_named, parameters_read, locals_are, taken_are}
use Rattle.print_transitions.specs.HeadsAreRead.{IsHeadOf}
use Rattle.print_transitions.proofs.UpdatesRead.{update_read}
use Rattle.print_updates.specs.Normal.{is_normal_update, has_normal_effect}
use Rattle.print_updates.proofs.Wrote.{IsReadAs}
use Rattle.print_updates.proofs.Together.{all_new, IsRead, together}
use Rattle.print_updates.proofs.InOrder.{updates_back, none_long}

-- ---- what updates are together
-- the updates of a node, in this scope, are those of the transition, without a fault
pub record IsEffect (frame : Frame) (scope : List Local) (params : ℕ) (nodes : List UpdateNode) (t : Transition) : Type 0 where
  pub whole : (updating frame scope params no_updates nodes).whole ≡ true
  pub updates : updates_of frame.sig params (updating frame scope params no_updates nodes).kept ≡ t.updates
  pub faultless : updating_faults frame scope params no_updates nodes ≡ []
  pub short : long_faults params (updating frame scope params no_updates nodes).kept (targets frame.sig) ≡ []

abbrev pub IsEffectOf : Frame → RestNode → Transition → Type 0
IsEffectOf frame (rests.Unsafe body) t = ⊥
IsEffectOf frame (rests.Invariant leaf body) t = ⊥
IsEffectOf frame (rests.Transition own names guard updates) t = IsEffect frame (locals 3 names) (length (take 3 names)) updates t

module _ (frame : Frame) (scope : List Local) (params : ℕ) where
  all_written : (nodes : List UpdateNode) (us : List Update) → AllZip (IsRead frame scope params) nodes us → AllZip (IsReadAs frame.sig) (map (written frame scope params) nodes) us
  all_written [] [] z = tt
  all_written [] (u ∷ us) z = absurd z
  all_written (n ∷ ns) [] z = absurd z
  all_written (n ∷ ns) (u ∷ us) z = (z.0.is, all_written ns us z.1)

  effect_is : (nodes : List UpdateNode) (t : Transition) → AllZip (IsRead frame scope params) nodes t.updates → targets_rise t.updates ≡ true
      → params + count_by (picks_process frame.sig) t.updates ≤ 3 → IsEffect frame scope params nodes t
  effect_is nodes t z rise few =
      let all = together frame scope params nodes t.updates z rise no_updates (all_new t.updates) (omega (arith, few)) in
      let ws = map (written frame scope params) nodes in
      let zipped = all_written nodes t.updates z in
      record {
        whole = all.whole;
        updates = ap (updates_of frame.sig params) all.kept ∙ updates_back frame.sig params ws t.updates zipped rise;
        faultless = all.faultless;
        short = ap (λ kept. long_faults params kept (targets frame.sig)) all.kept ∙ none_long frame.sig params ws t.updates zipped rise (targets frame.sig);
      }

-- ---- a transition whose parts are read as its own
module _ (frame : Frame) (t : Transition) (name : Leaf) (names : List Leaf) (guard : Option BodyNode) (nodes : List UpdateNode)
    (head : IsHeadOf frame (rests.Transition name names guard nodes) t) (effect : IsEffectOf frame (rests.Transition name names guard nodes) t) where
  abbrev count : ℕ
  count = length (take 3 names)

  abbrev behind_all : Updating
  behind_all = updating frame (locals 3 names) count no_updates nodes

  abbrev checked : Option Transition → List Fault → Checked Transition
  checked value faults = record { value = value; faults = faults }

  abbrev with_parts : List ℕ → ℕ → List Update → Option Transition
  with_parts own params updates = Some (record { name = own; params = params; guard = t.guard; others = t.others; updates = updates })

  guard_is : guard_of frame count (locals 3 names) guard ≡ sound (t.guard, t.others)
  guard_is = ap (λ n. guard_of frame n (locals 3 names) guard) head.1 ∙ head.3

  value_is : transition_from frame count name behind_all (Some (t.guard, t.others)) ≡ Some t
  value_is =
      ap (λ b. if b then with_parts (word_of frame.text name) count (updates_of frame.sig count behind_all.kept) else None) effect.whole
      ∙ ap (λ own. with_parts own count (updates_of frame.sig count behind_all.kept)) head.0 ∙ ap (λ n. with_parts t.name n (updates_of frame.sig count behind_all.kept)) head.1 ∙ ap (λ us. with_parts t.name t.params us) effect.updates

  pub transition_is : transition frame name names guard nodes ≡ sound t
  transition_is =
      let own = updating_faults frame (locals 3 names) count no_updates nodes in
      let long = long_faults count behind_all.kept (targets frame.sig) in
      ap (λ (g : Checked (List (List Lit) × List (List Lit))). checked (transition_from frame count name behind_all g.value) (variable_faults frame 3 names ++ g.faults ++ own ++ long)) guard_is
      ∙ ap (λ fs. checked (transition_from frame count name behind_all (Some (t.guard, t.others))) (fs ++ [] ++ own ++ long)) head.2
      ∙ ap (λ fs. checked (transition_from frame count name behind_all (Some (t.guard, t.others))) ([] ++ [] ++ fs ++ long)) effect.faultless
      ∙ ap (λ fs. checked (transition_from frame count name behind_all (Some (t.guard, t.others))) ([] ++ [] ++ [] ++ fs)) effect.short
      ∙ ap (λ value. checked value []) value_is

node_is : (frame : Frame) (node : RestNode) (t : Transition) → IsHeadOf frame node t → IsEffectOf frame node t → transition_at frame node ≡ sound (t ∷ [])
node_is frame (rests.Unsafe body) t head effect = absurd head
node_is frame (rests.Invariant leaf body) t head effect = absurd head
node_is frame (rests.Transition own names guard nodes) t head effect = ap listed (transition_is frame t own names guard nodes head effect)

pub nodes_are : (frame : Frame) (nodes : List RestNode) (ts : List Transition) → AllZip (IsHeadOf frame) nodes ts → AllZip (IsEffectOf frame) nodes ts → transitions_of frame nodes ≡ sound ts
nodes_are frame [] [] heads effects = refl
nodes_are frame [] (t ∷ ts) heads effects = absurd heads
nodes_are frame (n ∷ ns) [] heads effects = absurd heads
nodes_are frame (n ∷ ns) (t ∷ ts) heads effects =
    ap (λ c. then_those c (transitions_of frame ns)) (node_is frame n t heads.0 effects.0) ∙ ap (λ c. then_those (sound (t ∷ [])) c) (nodes_are frame ns ts heads.1 effects.1)

pub every_three : {A : Type 0} (f g h : A → Bool) (xs : List A) → list_all f xs ≡ true → list_all g xs ≡ true → list_all h xs ≡ true → Every (λ x. IsTrue (f x) × IsTrue (g x) × IsTrue (h x)) xs
every_three f g h [] a b c = tt
every_three f g h (x ∷ xs) a b c = (
  (and_left (f x) (list_all f xs) a, and_left (g x) (list_all g xs) b, and_left (h x) (list_all h xs) c),
  every_three f g h xs (and_right (f x) (list_all f xs) a) (and_right (g x) (list_all g xs) b) (and_right (h x) (list_all h xs) c),
)

-- ---- printed transitions
module _ (p : Protocol) (plain : IsTrue (declares_plain_names p)) (text : List ℕ) where
  abbrev its : Frame
  its = record { text = text; sig = signature_of p }

  -- goals are no transitions
  pub behind_goals : (gs : List Goal) (s : Spot) (nodes : List RestNode) (ts : List Transition) → transitions_of its nodes ≡ sound ts
      → transitions_of its (in_row (goal_marks p) (goal_tree p) gs s ++ nodes) ≡ sound ts
  behind_goals [] s nodes ts h = h
  behind_goals (g ∷ gs) s nodes ts h = ap (λ c. then_those (sound []) c) (behind_goals gs (past s (goal_marks p g)) nodes ts h)

  module _ (params : ℕ) (ls : List Leaf) (few : params ≤ 3) (words : AreWords text ls (places_named params)) where
    abbrev IsUpdateKept : Update → Type 0
    IsUpdateKept u = IsTrue (update_fits (signature_of p) params u) × IsTrue (is_writable_update p u) × IsTrue (is_normal_update p u)

    short_enough : (u : Update) → IsTrue (update_fits (signature_of p) params u) → length u.branches ≤ 64
    short_enough u = by (target_sort (signature_of p) u.target)
      where
        by : (o : Option Sort) → IsTrue (update_fits_sort (signature_of p) (update_width params u.target) o u) → length u.branches ≤ 64
        by None h = absurd cc
        by (Some sort) h =
            let short = nat_le (length u.branches) 64 in
            let all = list_all (branch_fits (signature_of p) (update_width params u.target) sort) u.branches in
            let last = value_fits (signature_of p) (update_width params u.target) sort u.last in
            le_is (length u.branches) 64 (and_left short all (and_left (short && all) last h))

    update_is_read : (u : Update) (s : Spot) → IsUpdateKept u → positions.At text s (update_marks p params u) → IsRead its (locals_from 0 ls) params (update_tree p params u s) u
    update_is_read u s h at =
        let found = update_read p plain text params ls few words u h.0 h.1 h.2 s at in
        let is = found.is_written in
        record {
          is = record { sort = is.sort; sorted = is.sorted; aim = is.aim; cases = is.cases; last = is.last; marked = is.marked; short = short_enough u h.0 };
          faultless = found.faultless;
        }

  abbrev IsKept : Transition → Type 0
  IsKept t = IsTrue (transition_fits (signature_of p) t) × IsTrue (is_writable_transition p t) × IsTrue (has_normal_effect p t)

  pub effect_read : (t : Transition) (s : Spot) → IsKept t → positions.At text s (transition_marks p t) → IsEffectOf its (transition_tree p t s) t
  unfolding heading_marks requires_marks effect_marks
  effect_read t s kept at =
      let named_ = is_declarable t.name in
      let few_ = nat_le (t.params + count_by (picks_process (signature_of p)) t.updates) 3 in
      let guard_ = formula_fits (signature_of p) t.params t.guard in
      let others_ = formula_fits (signature_of p) (t.params + 1) t.others in
      let updates_ = list_all (update_fits (signature_of p) t.params) t.updates in
      let formulas_ = named_ && few_ && guard_ && others_ in
      let parts_fit : IsTrue (formulas_ && updates_) = and_left (formulas_ && updates_) (targets_rise t.updates) kept.0 in
      let rise : targets_rise t.updates ≡ true = and_right (formulas_ && updates_) (targets_rise t.updates) kept.0 in
      let counted : t.params + count_by (picks_process (signature_of p)) t.updates ≤ 3 =
      le_is (t.params + count_by (picks_process (signature_of p)) t.updates) 3 (and_right named_ few_ (and_left (named_ && few_) guard_ (and_left (named_ && few_ && guard_) others_ (and_left formulas_ updates_ parts_fit)))) in
      let few : t.params ≤ 3 = omega (arith, counted) in
      let writable = and_right (is_writable_formula p t.guard && is_writable_formula p t.others) (list_all (is_writable_update p) t.updates) kept.1 in
      let heading = heading_marks t in
      let requires_ = requires_marks p t in
      let effect = effect_marks p t in
      let at_all : positions.At text s (heading ++ (requires_ ++ effect)) = at_regrouped text s heading requires_ effect at in
      let first = word k.TransitionWord (codes "transition") ∷ blank ∷ [] in
      let named = past s first in
      let second = name t.name ∷ blank ∷ [] in
      let at_names = past named second in
      let params = parameter_marks t.params in
      let at_heading : positions.At text named (second ++ (params ++ blank ∷ [])) = at_right text s first (second ++ (params ++ blank ∷ [])) (at_left text s heading (requires_ ++ effect) at_all) in
      let words = parameters_read text t.params at_names (at_left text at_names params (blank ∷ []) (at_right text named second (params ++ blank ∷ []) at_heading)) in
      let names = parameter_names t.params at_names in
      let behind = past (past s heading) requires_ in
      let brace = word k.BraceOpen (codes "{") ∷ blank ∷ [] in
      let marks = flat_map (update_marks p t.params) t.updates in
      let ending = word k.BraceClose (codes "}") ∷ line_feed ∷ [] in
      let there = past behind brace in
      let at_effect : positions.At text behind (brace ++ (marks ++ ending)) = at_right text (past s heading) requires_ effect (at_right text s heading (requires_ ++ effect) at_all) in
      let at_updates : positions.At text there marks = at_left text there marks ending (at_right text behind brace (marks ++ ending) at_effect) in
      let nodes = in_row (update_marks p t.params) (update_tree p t.params) t.updates there in
      let all = every_three (update_fits (signature_of p) t.params) (is_writable_update p) (is_normal_update p) t.updates (and_right formulas_ updates_ parts_fit) writable kept.2 in
      let zipped = row_zip text (IsUpdateKept t.params names few words) (IsRead its (locals_from 0 names) t.params) (update_marks p t.params) (update_tree p t.params) (update_is_read t.params names few words) t.updates all there at_updates in
      let found = effect_is its (locals_from 0 names) t.params nodes t zipped rise counted in
      subst (λ scope. IsEffect its scope (length (take 3 names)) nodes t) (sym (locals_are text 3 t.params names few words))
      (subst (λ n. IsEffect its (locals_from 0 names) n nodes t) (sym (taken_are text 3 t.params names few words)) found)
