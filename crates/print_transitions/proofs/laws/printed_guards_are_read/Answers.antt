use Rattle.std.proofs.Common.{◌≡◌, List, [], ◌∷◌, ◌++◌, length, drop, ap, sym, refl, subst}
use Rattle.std.specs.Prelude.{◌&&◌, flat_map}
use Rattle.std.specs.List.{AllZip, list_all}
use Rattle.cub_base.proofs.Bools.{and_right}
use Rattle.cub_names.specs.Meaning.{Frame}
use Rattle.cub_proto.specs.StateOf.{signature_of}
use Rattle.cub_print.specs.Mark.{Mark}
use Rattle.cub_print.specs.Printed.{goal_marks, init_marks, type_marks, global_marks, array_marks, transition_marks}
use Rattle.print_laws.specs.Spot.{Spot, first, past, in_row}
use Rattle.print_laws.specs.Tree.{goal_tree, transition_tree, tree_of}
use Rattle.print_words.specs.Writable.{is_writable_formula, is_writable_conjunction, is_writable_transition}
use Rattle.print_names.specs.Declaring.{text_of}
use Rattle.print_names.proofs.Positions.{at_right}
use Rattle.print_names.proofs.Declared.{at_behind_arrays, declared_is}
use Rattle.print_formulas.specs.BodiesAreRead.{printed_frame}
use Rattle.print_transitions.specs.HeadsAreRead.{IsHeadOf, HeadsAreRead}
use Rattle.print_transitions.proofs.HeadsRead.{heads_read}
use Rattle.print_transitions.proofs.laws.printed_guards_are_read.Goals as goal

behind_row : {A T : Type 0} (marks : A → List Mark) (tree : A → Spot → T) (xs : List A) (s : Spot) (others : List T) → drop (length xs) (in_row marks tree xs s ++ others) ≡ others
behind_row marks tree [] s others = refl
behind_row marks tree (x ∷ xs) s others = behind_row marks tree xs (past s (marks x)) others

heads : HeadsAreRead
heads p writable plain normal =
    let same : printed_frame p ≡ record { text = text_of p; sig = signature_of p } = ap (λ sig. record { text = text_of p; sig = sig }) (declared_is p) in
    let goals = flat_map (goal_marks p) p.goals in
    let transitions = flat_map (transition_marks p) p.transitions in
    let at_init = past (past (past first (flat_map type_marks (drop 1 p.sorts))) (flat_map (global_marks p) p.globals)) (flat_map (array_marks p) p.arrays) in
    let at_goals = past at_init (init_marks p) in
    let at_transitions = past at_goals goals in
    let start_writable = is_writable_formula p p.start in
    let goals_writable = list_all (λ g. is_writable_conjunction p g.lits) p.goals in
    let all_writable = and_right (start_writable && goals_writable) (list_all (is_writable_transition p) p.transitions) writable in
    let nodes = in_row (transition_marks p) (transition_tree p) p.transitions at_transitions in
    subst (λ (frame : Frame). AllZip (IsHeadOf frame) (drop (length p.goals) (tree_of p).rests) p.transitions) (sym same)
    (subst (λ ns. AllZip (IsHeadOf (record { text = text_of p; sig = signature_of p })) ns p.transitions) (sym (behind_row (goal_marks p) (goal_tree p) p.goals at_goals nodes))
    (heads_read p plain (text_of p) all_writable normal at_transitions
    (at_right (text_of p) at_goals goals transitions (at_right (text_of p) at_init (init_marks p) (goals ++ transitions) (at_behind_arrays p)))))

pub returns : goal.returns
returns c = heads
