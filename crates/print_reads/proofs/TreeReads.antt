-- The tree of a printed protocol reads as the protocol, since its parts do.
use Rattle.std.proofs.Common.{◌≡◌, List, [], ◌++◌, drop, Option, Some, refl, sym, ap, ◌∙◌, subst}
use Rattle.std.specs.Prelude.{IsTrue, ◌&&◌, flat_map}
use Rattle.std.specs.List.{AllZip}
use Rattle.cub_base.proofs.Bools.{and_left, and_right}
use Rattle.cub_parse.specs.declared.tree.RestNode.{RestNode}
use Rattle.cub_names.specs.declared.fault.Fault.{Fault}
use Rattle.cub_names.specs.Checked.{Checked, sound}
use Rattle.cub_types.specs.declared.reading.Rest.{Rest}
use Rattle.cub_types.specs.Bodies.{goals_from}
use Rattle.cub_types.specs.Typing.{Reads, transition_name, transition_name_faults, transitions_of, rest_of, rest_typed, if_none}
use Rattle.cub_proto.specs.declared.literal.Lit.{Lit}
use Rattle.cub_proto.specs.declared.protocol.Goal.{Goal}
use Rattle.cub_proto.specs.declared.protocol.Protocol.{Protocol}
use Rattle.cub_proto.specs.declared.transition.Transition.{Transition}
use Rattle.cub_print.specs.Printed.{goal_marks, init_marks, type_marks, global_marks, array_marks, transition_marks}
use Rattle.print_laws.specs.Spot.{Spot, first, past, in_row}
use Rattle.print_laws.specs.Tree.{goal_tree, transition_tree, tree_of}
use Rattle.print_words.specs.Writable.{is_writable}
use Rattle.print_names.specs.Plain.{declares_plain_names}
use Rattle.print_names.specs.Declaring.{DeclarationsAreRead, text_of}
use Rattle.print_names.proofs.Rows.{AreWords}
use Rattle.print_formulas.specs.Normal.{has_normal_bodies}
use Rattle.print_formulas.specs.BodiesAreRead.{BodiesAreRead, printed_frame}
use Rattle.print_transitions.specs.Normal.{has_normal_guards}
use Rattle.print_transitions.specs.HeadsAreRead.{IsHeadOf, HeadsAreRead}
use Rattle.print_updates.specs.Normal.{has_normal_updates}
use Rattle.print_updates.specs.TransitionsAreRead.{TransitionsAreRead}
use Rattle.print_reads.specs.Normal.{has_plain_transition_names, is_normal_protocol}
use Rattle.print_reads.proofs.TransitionNames.{names_of, behind_row, behind_goals, names_read, none_named}

-- the parts of the premise
pub record AreNormal (p : Protocol) : Type 0 where
  pub writable : IsTrue (is_writable p)
  pub plain : IsTrue (declares_plain_names p)
  pub names : IsTrue (has_plain_transition_names p)
  pub bodies : IsTrue (has_normal_bodies p)
  pub guards : IsTrue (has_normal_guards p)
  pub updates : IsTrue (has_normal_updates p)

pub normal_parts : (p : Protocol) → IsTrue (is_normal_protocol p) → AreNormal p
normal_parts p h =
    let a = is_writable p in
    let b = declares_plain_names p in
    let c = has_plain_transition_names p in
    let d = has_normal_bodies p in
    let e = has_normal_guards p in
    let f = has_normal_updates p in
    let five : IsTrue (a && b && c && d && e) = and_left (a && b && c && d && e) f h in
    let four : IsTrue (a && b && c && d) = and_left (a && b && c && d) e five in
    let three : IsTrue (a && b && c) = and_left (a && b && c) d four in
    let two : IsTrue (a && b) = and_left (a && b) c three in
    record {
      writable = and_left a b two;
      plain = and_right a b two;
      names = and_right (a && b) c three;
      bodies = and_right (a && b && c) d four;
      guards = and_right (a && b && c && d) e five;
      updates = and_right (a && b && c && d && e) f h;
    }

module _ (p : Protocol) (normal : IsTrue (is_normal_protocol p)) (declarations : DeclarationsAreRead) (bodies : BodiesAreRead) (heads : HeadsAreRead) (transitions : TransitionsAreRead) where
  are : AreNormal p
  are = normal_parts p normal

  abbrev at_goals : Spot
  at_goals = past (past (past (past first (flat_map type_marks (drop 1 p.sorts))) (flat_map (global_marks p) p.globals)) (flat_map (array_marks p) p.arrays)) (init_marks p)

  abbrev nodes : List RestNode
  nodes = in_row (transition_marks p) (transition_tree p) p.transitions (past at_goals (flat_map (goal_marks p) p.goals))

  names_are_read : AreWords (text_of p) (flat_map transition_name (tree_of p).rests) (names_of p.transitions)
  names_are_read =
      let all : AllZip (IsHeadOf (printed_frame p)) nodes p.transitions =
      subst (λ ns. AllZip (IsHeadOf (printed_frame p)) ns p.transitions) (behind_row (goal_marks p) (goal_tree p) p.goals at_goals nodes) (heads p are.writable are.plain are.guards) in
      subst (λ ls. AreWords (text_of p) ls (names_of p.transitions)) (sym (behind_goals p p.goals at_goals nodes)) (names_read (printed_frame p) nodes p.transitions all)

  no_name_fault : transition_name_faults (printed_frame p) (flat_map transition_name (tree_of p).rests) ≡ []
  no_name_fault = none_named p (printed_frame p) (flat_map transition_name (tree_of p).rests) names_are_read are.names

  abbrev whole : Option Rest → List Fault → Checked Rest
  whole value faults = record { value = value; faults = faults }

  abbrev of_protocol : Rest
  of_protocol = record { start = p.start; goals = p.goals; transitions = p.transitions }

  rest_is : rest_typed (text_of p) (tree_of p) ≡ sound of_protocol
  rest_is =
      let frame = printed_frame p in
      let found = bodies p are.writable are.plain are.bodies in
      let goals = goals_from frame 0 (tree_of p).rests in
      let others = transitions_of frame (tree_of p).rests in
      let names = transition_name_faults frame (flat_map transition_name (tree_of p).rests) in
      ap (λ (c : Checked (List (List Lit))). whole (rest_of c.value goals.value others.value) (c.faults ++ goals.faults ++ names ++ others.faults)) found.0
      ∙ ap (λ (c : Checked (List Goal)). whole (rest_of (Some p.start) c.value others.value) ([] ++ c.faults ++ names ++ others.faults)) found.1
      ∙ ap (λ fs. whole (rest_of (Some p.start) (Some p.goals) others.value) ([] ++ [] ++ fs ++ others.faults)) no_name_fault
      ∙ ap (λ (c : Checked (List Transition)). whole (rest_of (Some p.start) (Some p.goals) c.value) ([] ++ [] ++ [] ++ c.faults)) (transitions p are.writable are.plain are.guards are.updates)

  pub tree_reads : Reads (text_of p) (tree_of p) p
  tree_reads =
      let found = declarations p are.plain in
      record {
        no_fault = ap (λ fs. if_none fs (rest_typed (text_of p) (tree_of p)).faults) found.1 ∙ ap (λ (c : Checked Rest). c.faults) rest_is;
        is = (
          of_protocol,
          ap (λ (c : Checked Rest). c.value) rest_is,
          record { declares = sym found.0; starts = refl; goals = refl; transitions = refl },
        );
      }
