use Rattle.std.proofs.Common.{◌≡◌, ◌++◌, ap, ◌∙◌, drop}
use Rattle.std.specs.Prelude.{IsTrue, ◌&&◌, flat_map}
use Rattle.std.specs.List.{list_all}
use Rattle.cub_base.proofs.Bools.{and_left, and_right}
use Rattle.cub_names.specs.Meaning.{Frame}
use Rattle.cub_types.specs.Bodies.{start, goals_from}
use Rattle.cub_proto.specs.StateOf.{signature_of}
use Rattle.cub_print.specs.Printed.{goal_marks, init_marks, type_marks, global_marks, array_marks, transition_marks}
use Rattle.print_laws.specs.Spot.{first, past}
use Rattle.print_laws.specs.Tree.{tree_of}
use Rattle.print_words.specs.Writable.{is_writable_formula, is_writable_conjunction, is_writable_transition}
use Rattle.print_names.specs.Declaring.{text_of}
use Rattle.print_names.proofs.Positions.{at_left, at_right}
use Rattle.print_names.proofs.Declared.{at_behind_arrays, declared_is}
use Rattle.print_formulas.specs.BodiesAreRead.{BodiesAreRead, printed_frame}
use Rattle.print_formulas.specs.Normal.{is_normal_formula, is_normal_conjunction}
use Rattle.print_formulas.proofs.BodiesRead.{start_read, all_goals_read}
use Rattle.print_formulas.proofs.laws.printed_bodies_are_read.Goals as goal

bodies : BodiesAreRead
bodies p writable plain normal =
    let same : printed_frame p ≡ record { text = text_of p; sig = signature_of p } = ap (λ sig. record { text = text_of p; sig = sig }) (declared_is p) in
    let goals = flat_map (goal_marks p) p.goals in
    let transitions = flat_map (transition_marks p) p.transitions in
    let at_init = past (past (past first (flat_map type_marks (drop 1 p.sorts))) (flat_map (global_marks p) p.globals)) (flat_map (array_marks p) p.arrays) in
    let at_goals = past at_init (init_marks p) in
    let start_writable = is_writable_formula p p.start in
    let goals_writable = list_all (λ g. is_writable_conjunction p g.lits) p.goals in
    let front : IsTrue (start_writable && goals_writable) = and_left (start_writable && goals_writable) (list_all (is_writable_transition p) p.transitions) writable in
    let start_normal = is_normal_formula p p.start in
    let goals_normal = list_all (λ g. is_normal_conjunction p g.lits) p.goals in (
      ap (λ (frame : Frame). start frame (tree_of p).init) same
          ∙ start_read p plain (text_of p) at_init (at_left (text_of p) at_init (init_marks p) (goals ++ transitions) (at_behind_arrays p)) (and_left start_writable goals_writable front) (and_left start_normal goals_normal normal),
      ap (λ (frame : Frame). goals_from frame 0 (tree_of p).rests) same
          ∙ all_goals_read p plain (text_of p) at_goals (at_left (text_of p) at_goals goals transitions (at_right (text_of p) at_init (init_marks p) (goals ++ transitions) (at_behind_arrays p)))
          (and_right start_writable goals_writable front) (and_right start_normal goals_normal normal) (past at_goals goals),
    )

pub returns : goal.returns
returns c = bodies
