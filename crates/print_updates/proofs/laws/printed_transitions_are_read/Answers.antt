use Rattle.std.proofs.Common.{◌≡◌, ◌++◌, drop, ap, ◌∙◌}
use Rattle.std.specs.Prelude.{IsTrue, ◌&&◌, flat_map}
use Rattle.std.specs.List.{list_all}
use Rattle.cub_base.proofs.Bools.{and_right}
use Rattle.cub_base.proofs.Elements.{from_all}
use Rattle.cub_names.specs.Meaning.{Frame}
use Rattle.cub_types.specs.Typing.{transitions_of}
use Rattle.cub_proto.specs.Fits.{transition_fits}
use Rattle.cub_proto.specs.StateOf.{signature_of}
use Rattle.cub_print.specs.Printed.{goal_marks, init_marks, type_marks, global_marks, array_marks, transition_marks}
use Rattle.print_laws.specs.Spot.{first, past, in_row}
use Rattle.print_laws.specs.Tree.{transition_tree, tree_of}
use Rattle.print_words.specs.Writable.{is_writable_formula, is_writable_conjunction, is_writable_transition}
use Rattle.print_names.specs.Declaring.{text_of}
use Rattle.print_names.proofs.Positions.{at_right}
use Rattle.print_names.proofs.Rows.{row_zip}
use Rattle.print_names.proofs.Declared.{at_behind_arrays, declared_is}
use Rattle.print_formulas.specs.BodiesAreRead.{printed_frame}
use Rattle.print_transitions.proofs.HeadsRead.{heads_read}
use Rattle.print_updates.specs.Normal.{has_normal_effect}
use Rattle.print_updates.specs.TransitionsAreRead.{TransitionsAreRead}
use Rattle.print_updates.proofs.EffectsRead.{IsEffectOf, every_three, effect_read, nodes_are, behind_goals}
use Rattle.print_updates.proofs.laws.printed_transitions_are_read.Goals as goal

transitions : TransitionsAreRead
transitions p writable plain normal_guards normal_updates =
    let text = text_of p in
    let its : Frame = record { text = text; sig = signature_of p } in
    let same : printed_frame p ≡ its = ap (λ sig. record { text = text_of p; sig = sig }) (declared_is p) in
    let goals = flat_map (goal_marks p) p.goals in
    let marks = flat_map (transition_marks p) p.transitions in
    let at_init = past (past (past first (flat_map type_marks (drop 1 p.sorts))) (flat_map (global_marks p) p.globals)) (flat_map (array_marks p) p.arrays) in
    let at_goals = past at_init (init_marks p) in
    let at_transitions = past at_goals goals in
    let start_writable = is_writable_formula p p.start in
    let goals_writable = list_all (λ g. is_writable_conjunction p g.lits) p.goals in
    let all_writable = and_right (start_writable && goals_writable) (list_all (is_writable_transition p) p.transitions) writable in
    let nodes = in_row (transition_marks p) (transition_tree p) p.transitions at_transitions in
    let here = at_right text at_goals goals marks (at_right text at_init (init_marks p) (goals ++ marks) (at_behind_arrays p)) in
    let heads = heads_read p plain text all_writable normal_guards at_transitions here in
    let kept = every_three (transition_fits (signature_of p)) (is_writable_transition p) (has_normal_effect p) p.transitions
    (from_all (transition_fits (signature_of p)) p.transitions p.transitions_fit) all_writable normal_updates in
    let effects = row_zip text (λ t. IsTrue (transition_fits (signature_of p) t) × IsTrue (is_writable_transition p t) × IsTrue (has_normal_effect p t)) (IsEffectOf its) (transition_marks p) (transition_tree p)
    (effect_read p plain text) p.transitions kept at_transitions here in
    ap (λ frame. transitions_of frame (tree_of p).rests) same
    ∙ behind_goals p plain text p.goals at_goals nodes p.transitions (nodes_are its nodes p.transitions heads effects)

pub returns : goal.returns
returns c = transitions
