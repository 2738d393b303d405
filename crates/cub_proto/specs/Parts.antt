-- What makes lists of declarations, a start formula, goals and transitions the parts of a protocol.
use Rattle.std.specs.Prelude.{◌≡◌, List, All, IsTrue}
use Rattle.cub_proto.specs.declared.literal.Lit.{Lit}
use Rattle.cub_proto.specs.declared.protocol.SortDecl.{SortDecl}
use Rattle.cub_proto.specs.declared.protocol.Decl.{Decl}
use Rattle.cub_proto.specs.declared.protocol.Goal.{Goal}
use Rattle.cub_proto.specs.declared.protocol.Protocol.{Protocol}
use Rattle.cub_proto.specs.declared.transition.Transition.{Transition}
use Rattle.cub_proto.specs.Signature.{signature}
use Rattle.cub_proto.specs.Fits.{counts_fit, sorts_fit, names_are_distinct, global_fits, array_fits, start_fits, goal_fits, transition_fits}

-- the facts that the type of protocols keeps
pub record AreParts (its_sorts : List SortDecl) (its_globals its_arrays : List Decl) (its_start : List (List Lit)) (its_goals : List Goal) (its_transitions : List Transition) : Type 0 where
  pub few : IsTrue (counts_fit its_sorts its_globals its_arrays its_goals its_transitions)
  pub sorts : IsTrue (sorts_fit its_sorts)
  pub distinct : IsTrue (names_are_distinct its_sorts its_globals its_arrays its_transitions)
  pub globals : All (λ d. IsTrue (global_fits its_sorts d)) its_globals
  pub arrays : All (λ d. IsTrue (array_fits its_sorts d)) its_arrays
  pub start : IsTrue (start_fits (signature its_sorts its_globals its_arrays) its_start)
  pub goals : All (λ g. IsTrue (goal_fits (signature its_sorts its_globals its_arrays) g)) its_goals
  pub transitions : All (λ t. IsTrue (transition_fits (signature its_sorts its_globals its_arrays) t)) its_transitions

-- the protocol has these parts
pub record HasParts (p : Protocol) (its_sorts : List SortDecl) (its_globals its_arrays : List Decl) (its_start : List (List Lit)) (its_goals : List Goal) (its_transitions : List Transition) : Type 0 where
  pub sorts : p.sorts ≡ its_sorts
  pub globals : p.globals ≡ its_globals
  pub arrays : p.arrays ≡ its_arrays
  pub start : p.start ≡ its_start
  pub goals : p.goals ≡ its_goals
  pub transitions : p.transitions ≡ its_transitions
