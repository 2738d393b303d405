-- The protocol that a text reads as meets the premises of printing.
use Rattle.std.proofs.Common.{◌≡◌, ℕ, true, List, [], ◌++◌, drop}
use Rattle.std.specs.Prelude.{◌&&◌, flat_map}
use Rattle.std.specs.List.{list_all}
use Rattle.cub_base.proofs.Bools.{and_left, and_right, and_both}
use Rattle.cub_base.proofs.Conjunctions.{list_all_weaker}
use Rattle.cub_parse.specs.declared.tree.Syntax.{Syntax}
use Rattle.cub_proto.specs.declared.transition.Transition.{Transition}
use Rattle.cub_proto.specs.declared.transition.Branch.{Branch}
use Rattle.cub_proto.specs.declared.transition.Update.{Update}
use Rattle.cub_proto.specs.declared.protocol.Goal.{Goal}
use Rattle.cub_proto.specs.declared.protocol.Protocol.{Protocol}
use Rattle.cub_names.specs.declared.fault.TypeKind.TheVariants as t
use Rattle.cub_names.specs.Words.{word_of, may_declare}
use Rattle.cub_names.specs.Lists.{repeated}
use Rattle.cub_names.specs.Declarations.{at_each, forbidden}
use Rattle.cub_names.proofs.Empty.{nil_left, nil_right, nil_map}
use Rattle.cub_names.proofs.DeclaredFit.{none_fails}
use Rattle.cub_types.specs.Bodies.{start, goals_from}
use Rattle.cub_types.specs.Typing.{transition_name, transition_name_faults, transitions_of, Reads}
use Rattle.print_words.specs.Writable.{is_writable_conjunction, is_writable_formula, is_writable_update, is_writable_transition, is_writable}
use Rattle.print_names.specs.Plain.{is_plain}
use Rattle.print_formulas.specs.Normal.{is_normal_conjunction, is_normal_formula}
use Rattle.print_transitions.specs.Normal.{has_normal_guard, has_normal_guards}
use Rattle.print_premises.proofs.Literals.{are_textual}
use Rattle.print_premises.proofs.Asked.{writable_conjunction, normal_conjunction, writable_formula, normal_formula}
use Rattle.print_premises.proofs.FormulasMeet.{frame}
use Rattle.print_premises.proofs.BodiesMeet.{is_textual_goal}
use Rattle.print_premises.proofs.ReadRest.{reads_as, starts_met, goals_met}
use Rattle.update_premises.specs.Met.{has_normal_conditions}
use Rattle.update_premises.proofs.UpdatesMeet.{is_textual_branch, is_textual_update}
use Rattle.update_premises.proofs.TransitionsMeet.{is_textual_transition, is_met, transitions_met}

module _ (p : Protocol) where
  writable_update : (u : Update) → is_textual_update p u ≡ true → is_writable_update p u ≡ true
  writable_update u h = list_all_weaker (is_textual_branch p) (λ b. is_writable_conjunction p b.cond) (λ b. writable_conjunction p b.cond) u.branches h

  normal_update : (u : Update) → is_textual_update p u ≡ true → list_all (λ (b : Branch). is_normal_conjunction p b.cond) u.branches ≡ true
  normal_update u h = list_all_weaker (is_textual_branch p) (λ b. is_normal_conjunction p b.cond) (λ b. normal_conjunction p b.cond) u.branches h

  -- the parts of a transition
  record Parts (tr : Transition) : Type 0 where
    own : list_all (are_textual p) tr.guard ≡ true
    others : list_all (are_textual p) tr.others ≡ true
    updates : list_all (is_textual_update p) tr.updates ≡ true
    named : is_plain tr.name ≡ true

  parts_of : (tr : Transition) → is_met p tr ≡ true → Parts tr
  parts_of tr h =
      let own = list_all (are_textual p) tr.guard in
      let others = list_all (are_textual p) tr.others in
      let updates = list_all (is_textual_update p) tr.updates in
      let textual = and_left (is_textual_transition p tr) (is_plain tr.name) h in
      let guards = and_left (own && others) updates textual in
      record {
        own = and_left own others guards;
        others = and_right own others guards;
        updates = and_right (own && others) updates textual;
        named = and_right (is_textual_transition p tr) (is_plain tr.name) h;
      }

  writable_transition : (tr : Transition) → is_met p tr ≡ true → is_writable_transition p tr ≡ true
  writable_transition tr h =
      let parts = parts_of tr h in
      and_both (is_writable_formula p tr.guard && is_writable_formula p tr.others) (list_all (is_writable_update p) tr.updates)
      (and_both (is_writable_formula p tr.guard) (is_writable_formula p tr.others) (writable_formula p tr.guard parts.own) (writable_formula p tr.others parts.others))
      (list_all_weaker (is_textual_update p) (is_writable_update p) writable_update tr.updates parts.updates)

  normal_guard : (tr : Transition) → is_met p tr ≡ true → has_normal_guard p tr ≡ true
  normal_guard tr h =
      let parts = parts_of tr h in
      and_both (is_normal_formula p tr.guard) (is_normal_formula p tr.others) (normal_formula p tr.guard parts.own) (normal_formula p tr.others parts.others)

  normal_conditions : (tr : Transition) → is_met p tr ≡ true → has_normal_conditions p tr ≡ true
  normal_conditions tr h =
      list_all_weaker (is_textual_update p) (λ (u : Update). list_all (λ (b : Branch). is_normal_conjunction p b.cond) u.branches) normal_update tr.updates (parts_of tr h).updates

module _ (text : List ℕ) (tree : Syntax) (p : Protocol) (reads : Reads text tree p) where
  transitions_are_met : list_all (is_met p) p.transitions ≡ true
  transitions_are_met =
      let own = reads_as text tree p reads in
      let rs = tree.rests in
      let s = start (frame p text) tree.init in
      let goals = goals_from (frame p text) 0 rs in
      let names = flat_map transition_name rs in
      let named = transition_name_faults (frame p text) names in
      let no_named = nil_right (s.faults ++ goals.faults) named (nil_left (s.faults ++ goals.faults ++ named) (transitions_of (frame p text) rs).faults own.none) in
      let bad = at_each t.T18 (forbidden text names) in
      let again = at_each t.T02 (repeated text [] names) in
      let many = at_each t.T16 (drop 256 names) in
      let may = none_fails (λ l. may_declare (word_of text l)) names (nil_map _ (forbidden text names) (nil_left bad again (nil_left (bad ++ again) many no_named))) in
      transitions_met p text rs p.transitions may own.transitions

  pub literals_writable : is_writable p ≡ true
  literals_writable =
      let starts = is_writable_formula p p.start in
      let goals = list_all (λ (g : Goal). is_writable_conjunction p g.lits) p.goals in
      and_both (starts && goals) (list_all (is_writable_transition p) p.transitions)
      (and_both starts goals (writable_formula p p.start (starts_met text tree p reads))
      (list_all_weaker (is_textual_goal p) (λ (g : Goal). is_writable_conjunction p g.lits) (λ g. writable_conjunction p g.lits) p.goals (goals_met text tree p reads)))
      (list_all_weaker (is_met p) (is_writable_transition p) (writable_transition p) p.transitions transitions_are_met)

  pub guards_normal : has_normal_guards p ≡ true
  guards_normal = list_all_weaker (is_met p) (has_normal_guard p) (normal_guard p) p.transitions transitions_are_met

  pub conditions_normal : list_all (has_normal_conditions p) p.transitions ≡ true
  conditions_normal = list_all_weaker (is_met p) (has_normal_conditions p) (normal_conditions p) p.transitions transitions_are_met

  pub names_plain : list_all (λ (tr : Transition). is_plain tr.name) p.transitions ≡ true
  names_plain = list_all_weaker (is_met p) (λ (tr : Transition). is_plain tr.name) (λ tr h. (parts_of p tr h).named) p.transitions transitions_are_met
