-- Normal forms, the start formula, and goals.
use Rattle.std.specs.Prelude.{◌≡◌, ℕ, ◌+◌, min, Bool, true, false, ◌&&◌, nat_lt, nat_le, if◌then◌else◌, List, [], ◌∷◌, ◌++◌, length, map, take, Option, Some, None, option_map, flat_map}
use Rattle.cub_parse.specs.declared.tree.Leaf.{Leaf}
use Rattle.cub_parse.specs.declared.tree.BodyNode.{BodyNode}
use Rattle.cub_parse.specs.declared.tree.FormNode.{FormNode}
use Rattle.cub_parse.specs.declared.tree.RestNode.{RestNode}
use Rattle.cub_parse.specs.declared.tree.RestNode.TheVariants as rests
use Rattle.cub_proto.specs.declared.literal.Lit.{Lit}
use Rattle.cub_proto.specs.declared.protocol.Goal.{Goal}
use Rattle.cub_proto.specs.Signature.{Signature}
use Rattle.cub_dnf.specs.declared.formula.Formula.{Formula}
use Rattle.cub_dnf.specs.declared.formula.Formula.TheVariants as f
use Rattle.cub_dnf.specs.Lists.{list_of}
use Rattle.cub_dnf.specs.Normal.{widest}
use Rattle.cub_names.specs.declared.fault.TypeKind.TheVariants as t
use Rattle.cub_names.specs.declared.fault.Fault.{Fault}
use Rattle.cub_names.specs.declared.scope.Local.{Local}
use Rattle.cub_names.specs.Checked.{Checked, fault, sound, refuse, beside, made, appended, where_known, ◌>>=◌}
use Rattle.cub_names.specs.Meaning.{Frame}
use Rattle.cub_names.specs.Scope.{variable_faults, locals}
use Rattle.cub_types.specs.Formulas.{form}

-- the normal form, or T17 where it is above its limits
abbrev pub normalized : Signature → ℕ → Formula → Checked (List (List Lit))
normalized sig token formula =
    if nat_le (length (list_of sig true formula)) 64 && nat_le (widest (list_of sig true formula)) 64 then sound (list_of sig true formula)
    else refuse token t.T17

-- an absent formula is `True`
abbrev pub body_form : Bool → Frame → List Local → Option FormNode → Checked Formula
body_form init frame scope None = sound (f.Const true)
body_form init frame scope (Some node) = form init frame scope node

-- T14 for more than one conjunction
abbrev pub start_tests : Signature → ℕ → Formula → Checked (List (List Lit))
start_tests sig token formula =
    beside (if nat_lt 1 (length (list_of sig true formula)) then fault token t.T14 ∷ [] else []) (normalized sig token formula)

-- the start formula has one variable, which is each process in turn
abbrev pub start : Frame → BodyNode → Checked (List (List Lit))
start frame body =
    beside (variable_faults frame 1 body.names)
    (body_form true frame (locals 1 body.names) body.formula >>= λ formula. start_tests frame.sig body.close.number formula)

-- the goals of an invariant are the conjunctions of its negation
abbrev pub turned : Bool → Option Formula → Option Formula
turned true formula = option_map f.Not formula
turned false formula = formula

abbrev pub goal_form : Bool → Frame → BodyNode → Checked Formula
goal_form negated frame body = record {
  value = turned negated (body_form false frame (locals 4 body.names) body.formula).value;
  faults = (body_form false frame (locals 4 body.names) body.formula).faults;
}

abbrev pub goal : ℕ → List Lit → Goal
goal width lits = record { width = width; lits = lits }

-- conjunctions are counted exactly, as far as a limit asks for
abbrev pub counted : ℕ → ℕ → ℕ
counted total more = min 4097 (total + more)

-- T16 at the brace with which there are more than 4,096 unsafe conjunctions
abbrev pub goal_tests : Signature → ℕ → ℕ → ℕ → Formula → Checked (List Goal)
goal_tests sig width token total formula =
    beside (if nat_lt 4096 total then fault token t.T16 ∷ [] else []) (made (map (goal width)) (normalized sig token formula))

abbrev pub length_of : Signature → Option Formula → ℕ
length_of sig None = 0
length_of sig (Some formula) = length (list_of sig true formula)

-- the goals of one declaration, where so many conjunctions stand before it
abbrev pub goals_of : Bool → Frame → ℕ → BodyNode → Checked (List Goal)
goals_of negated frame total body =
    beside (variable_faults frame 4 body.names)
    (goal_form negated frame body >>= λ formula.
    goal_tests frame.sig (length (take 4 body.names)) body.close.number (counted total (length (list_of frame.sig true formula))) formula)

abbrev pub total_behind : Bool → Frame → ℕ → BodyNode → ℕ
total_behind negated frame total body = counted total (length_of frame.sig (goal_form negated frame body).value)

-- one list behind another, where both are known
abbrev pub then_those : {A : Type 0} → Checked (List A) → Checked (List A) → Checked (List A)
then_those x y = record { value = appended x.value y.value; faults = x.faults ++ y.faults }

-- the goals of one declaration behind `init`
abbrev pub goals_at : Frame → ℕ → RestNode → Checked (List Goal)
goals_at frame total (rests.Unsafe body) = goals_of false frame total body
goals_at frame total (rests.Invariant word body) = goals_of true frame total body
goals_at frame total (rests.Transition name names guard updates) = sound []

abbrev pub total_at : Frame → ℕ → RestNode → ℕ
total_at frame total (rests.Unsafe body) = total_behind false frame total body
total_at frame total (rests.Invariant word body) = total_behind true frame total body
total_at frame total (rests.Transition name names guard updates) = total

-- all goals, in the order of the text
abbrev pub goals_from : Frame → ℕ → List RestNode → Checked (List Goal)
goals_from frame total [] = sound []
goals_from frame total (r ∷ rest) = then_those (goals_at frame total r) (goals_from frame (total_at frame total r) rest)
