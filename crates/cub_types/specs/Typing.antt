-- When a text and its tree read as a protocol, and which one; and the faults that stand where they do not.
use Rattle.std.specs.Prelude.{◌≡◌, ℕ, suc, ◌+◌, Bool, true, false, ◌&&◌, not, if◌then◌else◌, List, [], ◌∷◌, ◌++◌, length, map, take, drop, flat_map, Option, Some, None, Result, Ok, Err, MatchOption}
use Rattle.std.specs.List.{AllByRecursion}
use Rattle.cub_parse.specs.declared.tree.Leaf.{Leaf}
use Rattle.cub_parse.specs.declared.tree.Syntax.{Syntax}
use Rattle.cub_parse.specs.declared.tree.BodyNode.{BodyNode}
use Rattle.cub_parse.specs.declared.tree.FormNode.{FormNode}
use Rattle.cub_parse.specs.declared.tree.RestNode.{RestNode}
use Rattle.cub_parse.specs.declared.tree.RestNode.TheVariants as rests
use Rattle.cub_parse.specs.declared.tree.UpdateNode.{UpdateNode}
use Rattle.cub_proto.specs.declared.literal.Lit.{Lit}
use Rattle.cub_proto.specs.declared.protocol.Goal.{Goal}
use Rattle.cub_proto.specs.declared.protocol.Protocol.{Protocol}
use Rattle.cub_proto.specs.declared.transition.Transition.{Transition}
use Rattle.cub_proto.specs.Signature.{Signature}
use Rattle.cub_proto.specs.StateOf.{signature_of}
use Rattle.cub_dnf.specs.declared.formula.Formula.{Formula}
use Rattle.cub_dnf.specs.declared.formula.Formula.TheVariants as f
use Rattle.cub_names.specs.declared.fault.TypeKind.TheVariants as t
use Rattle.cub_names.specs.declared.fault.Fault.{Fault}
use Rattle.cub_names.specs.declared.fault.TypeFault.{TypeFault}
use Rattle.cub_names.specs.declared.fault.TypeFault.TheVariants as faults
use Rattle.cub_names.specs.declared.scope.Local.{Local}
use Rattle.cub_names.specs.Checked.{Checked, fault, sound, both, beside, made, in_front, where_known, paired, first_of_all, before}
use Rattle.cub_names.specs.Words.{word_of}
use Rattle.cub_names.specs.Lists.{repeated}
use Rattle.cub_names.specs.Meaning.{Frame}
use Rattle.cub_names.specs.Declarations.{at_each, forbidden, declared, declared_faults}
use Rattle.cub_names.specs.Scope.{variable_faults, locals}
use Rattle.cub_types.specs.declared.updating.Updating.{Updating}
use Rattle.cub_types.specs.declared.transitions.Guard.{Guard}
use Rattle.cub_types.specs.declared.reading.Rest.{Rest}
use Rattle.cub_types.specs.Guards.{Split, nothing, whole}
use Rattle.cub_types.specs.Bodies.{normalized, start, goals_from, then_those}
use Rattle.cub_types.specs.Joined.{no_updates, updating, updating_faults, updates_of, long_faults, targets}

-- the normal form of some conjuncts together
abbrev pub conjoined : Signature → ℕ → Option (List Formula) → Checked (List (List Lit))
conjoined sig token parts = where_known parts (λ formulas. normalized sig token (f.All formulas))

abbrev pub split_guard : Frame → ℕ → List Local → Option FormNode → Split
split_guard frame params scope None = nothing
split_guard frame params scope (Some node) = whole frame params 64 scope node

abbrev pub split_lists : Signature → ℕ → Split → Checked (List (List Lit) × List (List Lit))
split_lists sig token s = beside s.faults (both (conjoined sig token s.own) (conjoined sig token s.others))

-- the two lists of a guard
abbrev pub pair_of : Guard → List (List Lit) × List (List Lit)
pair_of g = (g.own, g.others)

abbrev pub no_guard : List (List Lit) × List (List Lit)
no_guard = (([] ∷ []), ([] ∷ []))

-- the guard and the universal guard; both are `True` without a `requires`
abbrev pub guard_of : Frame → ℕ → List Local → Option BodyNode → Checked (List (List Lit) × List (List Lit))
guard_of frame params scope None = sound no_guard
guard_of frame params scope (Some body) = split_lists frame.sig body.close.number (split_guard frame params scope body.formula)

abbrev pub transition_from : Frame → ℕ → Leaf → Updating → Option (List (List Lit) × List (List Lit)) → Option Transition
transition_from frame params name u None = None
transition_from frame params name u (Some g) =
    if u.whole then Some (record { name = word_of frame.text name; params = params; guard = g.0; others = g.1; updates = updates_of frame.sig params u.kept })
    else None

module _ (frame : Frame) (name : Leaf) (names : List Leaf) (guard : Option BodyNode) (updates : List UpdateNode) where
  abbrev pub scope : List Local
  scope = locals 3 names

  abbrev pub params : ℕ
  params = length (take 3 names)

  abbrev pub all_updates : Updating
  all_updates = updating frame scope params no_updates updates

  abbrev pub transition : Checked Transition
  transition = record {
    value = transition_from frame params name all_updates (guard_of frame params scope guard).value;
    faults = variable_faults frame 3 names ++ (guard_of frame params scope guard).faults
        ++ updating_faults frame scope params no_updates updates ++ long_faults params all_updates.kept (targets frame.sig);
  }

abbrev pub listed : Checked Transition → Checked (List Transition)
listed x = record { value = in_front x.value (Some []); faults = x.faults }

-- the transition that a declaration behind `init` declares, if any
abbrev pub transition_at : Frame → RestNode → Checked (List Transition)
transition_at frame (rests.Unsafe body) = sound []
transition_at frame (rests.Invariant word body) = sound []
transition_at frame (rests.Transition name names guard updates) = listed (transition frame name names guard updates)

abbrev pub transitions_of : Frame → List RestNode → Checked (List Transition)
transitions_of frame [] = sound []
transitions_of frame (r ∷ rest) = then_those (transition_at frame r) (transitions_of frame rest)

abbrev pub transition_name : RestNode → List Leaf
transition_name (rests.Unsafe body) = []
transition_name (rests.Invariant word body) = []
transition_name (rests.Transition name names guard updates) = name ∷ []

-- names of transitions: T18, T02 for a second one, T16 above 256
abbrev pub transition_name_faults : Frame → List Leaf → List Fault
transition_name_faults frame names =
    at_each t.T18 (forbidden frame.text names) ++ at_each t.T02 (repeated frame.text [] names) ++ at_each t.T16 (drop 256 names)

abbrev pub rest_of : Option (List (List Lit)) → Option (List Goal) → Option (List Transition) → Option Rest
rest_of None goals transitions = None
rest_of (Some s) None transitions = None
rest_of (Some s) (Some g) None = None
rest_of (Some s) (Some g) (Some ts) = Some (record { start = s; goals = g; transitions = ts })

abbrev pub typed_rest : Frame → BodyNode → List RestNode → Checked Rest
typed_rest frame init rest = record {
  value = rest_of (start frame init).value (goals_from frame 0 rest).value (transitions_of frame rest).value;
  faults = (start frame init).faults ++ (goals_from frame 0 rest).faults
      ++ transition_name_faults frame (flat_map transition_name rest) ++ (transitions_of frame rest).faults;
}

-- what the names of a text stand for
abbrev pub frame_of : List ℕ → Syntax → Frame
frame_of text tree = record { text = text; sig = declared text tree.decls }

abbrev pub rest_typed : List ℕ → Syntax → Checked Rest
rest_typed text tree = typed_rest (frame_of text tree) tree.init tree.rests

abbrev pub if_none : List Fault → List Fault → List Fault
if_none [] later = later
if_none (f ∷ fs) later = f ∷ fs

-- the faults that are looked for: those of the declarations, and where there are none those of the rest
abbrev pub faults_of : List ℕ → Syntax → List Fault
faults_of text tree = if_none (declared_faults text tree.decls) (rest_typed text tree).faults

-- the protocol has these sorts, globals and arrays, and this rest
pub record IsProtocol (p : Protocol) (sig : Signature) (rest : Rest) : Type 0 where
  pub declares : signature_of p ≡ sig
  pub starts : p.start ≡ rest.start
  pub goals : p.goals ≡ rest.goals
  pub transitions : p.transitions ≡ rest.transitions

-- the tree reads as the protocol
pub record Reads (text : List ℕ) (tree : Syntax) (p : Protocol) : Type 0 where
  pub no_fault : faults_of text tree ≡ []
  pub is : (rest : Rest) × ((rest_typed text tree).value ≡ Some rest) × IsProtocol p (declared text tree.decls) rest

-- the fault of the tree: the first of those that stand
abbrev pub IsFaultOf : List ℕ → Syntax → Fault → Type 0
IsFaultOf text tree f = first_of_all None (faults_of text tree) ≡ Some f

-- what was answered about the tree is right, unless memory ran out
abbrev pub IsResolved : Result Protocol TypeFault → List ℕ → Syntax → Type 0
IsResolved (Ok p) text tree = Reads text tree p
IsResolved (Err (faults.Fault token kind)) text tree = IsFaultOf text tree (fault token kind)
IsResolved (Err faults.Memory) text tree = Unit {0}

-- the rest, where no fault stands in it; or its first fault
abbrev pub IsRested : Result Rest TypeFault → Checked Rest → Type 0
IsRested (Ok rest) x = (x.value ≡ Some rest) × (x.faults ≡ [])
IsRested (Err (faults.Fault token kind)) x = first_of_all None x.faults ≡ Some (fault token kind)
IsRested (Err faults.Memory) x = Unit {0}

abbrev pub IsBuilt : Result Protocol TypeFault → Protocol → Rest → Type 0
IsBuilt (Ok p) base rest = IsProtocol p (signature_of base) rest
IsBuilt (Err (faults.Fault token kind)) base rest = ⊥
IsBuilt (Err faults.Memory) base rest = Unit {0}

-- what was answered about the rest of a tree, the names being known
abbrev pub IsKnown : Result Protocol TypeFault → Frame → Syntax → Type 0
IsKnown (Ok p) frame tree =
    (rest : Rest) × ((typed_rest frame tree.init tree.rests).value ≡ Some rest) × ((typed_rest frame tree.init tree.rests).faults ≡ []) × IsProtocol p frame.sig rest
IsKnown (Err (faults.Fault token kind)) frame tree = first_of_all None (typed_rest frame tree.init tree.rests).faults ≡ Some (fault token kind)
IsKnown (Err faults.Memory) frame tree = Unit {0}
