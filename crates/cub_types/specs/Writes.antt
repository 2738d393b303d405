-- Updates, each by itself: what it writes, its conditions and its values.
use Rattle.std.specs.Prelude.{◌≡◌, ℕ, ◌+◌, Bool, true, false, ◌&&◌, not, nat_lt, if◌then◌else◌, List, [], ◌∷◌, ◌++◌, map, Option, Some, None}
use Rattle.std.specs.List.{list_all}
use Rattle.cub_parse.specs.declared.tree.Leaf.{Leaf}
use Rattle.cub_parse.specs.declared.tree.UpdateNode.{UpdateNode}
use Rattle.cub_parse.specs.declared.tree.CaseNode.{CaseNode}
use Rattle.cub_parse.specs.declared.tree.RightNode.{RightNode}
use Rattle.cub_parse.specs.declared.tree.RightNode.TheVariants as rights
use Rattle.cub_proto.specs.declared.literal.Sort.{Sort}
use Rattle.cub_proto.specs.declared.literal.Lit.{Lit}
use Rattle.cub_proto.specs.declared.literal.Value.{Value}
use Rattle.cub_proto.specs.Signature.{Signature, same_sort}
use Rattle.cub_dnf.specs.declared.formula.Formula.{Formula}
use Rattle.cub_dnf.specs.Lists.{list_of}
use Rattle.cub_dnf.specs.Normal.{widest}
use Rattle.cub_names.specs.declared.fault.TypeKind.TheVariants as t
use Rattle.cub_names.specs.declared.fault.Fault.{Fault}
use Rattle.cub_names.specs.declared.meaning.What.{What}
use Rattle.cub_names.specs.declared.scope.Local.{Local}
use Rattle.cub_names.specs.declared.sides.Side.{Side}
use Rattle.cub_names.specs.Checked.{Checked, fault, sound, refuse, beside, has_value, ◌>>=◌}
use Rattle.cub_names.specs.Words.{word_of}
use Rattle.cub_names.specs.Meaning.{Frame}
use Rattle.cub_names.specs.Scope.{place_of, is_value}
use Rattle.cub_names.specs.Sides.{sort_of_side, side, place_at, what_at}
use Rattle.cub_types.specs.declared.written.Aim.{Aim}
use Rattle.cub_types.specs.declared.written.Case.{Case}
use Rattle.cub_types.specs.declared.written.Written.{Written}
use Rattle.cub_types.specs.Formulas.{form}
use Rattle.cub_types.specs.Guards.{local}
use Rattle.cub_types.specs.Bodies.{normalized}

-- the cells of an array that an index names: that of a parameter, or all
abbrev pub array_aim : ℕ → Sort → Option ℕ → Aim
array_aim a sort (Some param) = Aim.At a sort param
array_aim a sort None = Aim.Whole a sort

-- what a name that is no variable makes a target; T13 for a name of another kind
abbrev pub aim_of : ℕ → Option What → Option Leaf → Option ℕ → Checked Aim
aim_of token None index place = refuse token t.T01
aim_of token (Some (What.Con sort c)) index place = refuse token t.T13
aim_of token (Some (What.Global g sort)) None place = sound (Aim.Global g sort)
aim_of token (Some (What.Global g sort)) (Some leaf) place = refuse token t.T13
aim_of token (Some (What.Array a sort)) None place = refuse token t.T13
aim_of token (Some (What.Array a sort)) (Some leaf) place = sound (array_aim a sort place)

-- a variable is no target
abbrev pub target_of : ℕ → Option ℕ → Option What → Option Leaf → Option ℕ → Checked Aim
target_of token (Some variable) what index place = refuse token t.T13
target_of token None what index place = aim_of token what index place

abbrev pub sort_of_aim : Aim → Sort
sort_of_aim (Aim.Global g sort) = sort
sort_of_aim (Aim.At a sort param) = sort
sort_of_aim (Aim.Whole a sort) = sort

abbrev pub sort_aimed : Option Aim → Option Sort
sort_aimed None = None
sort_aimed (Some aim) = Some (sort_of_aim aim)

-- one for the added first literal of an update at a parameter
abbrev pub added : Option Aim → ℕ
added None = 0
added (Some (Aim.Global g sort)) = 0
added (Some (Aim.At a sort param)) = 1
added (Some (Aim.Whole a sort)) = 0

abbrev pub value_of_side : Side → Value
value_of_side (Side.Con sort c) = Value.Con c
value_of_side (Side.Fin sort term) = Value.Read term
value_of_side (Side.Proc p) = Value.Proc p
value_of_side (Side.Int base add) = Value.Sum base add

-- T03 for a value of another sort; with a refused target it isn't tested
abbrev pub value_for : ℕ → Option Sort → Side → Checked Value
value_for token None a = record { value = None; faults = [] }
value_for token (Some sort) a = if same_sort (sort_of_side a) sort then sound (value_of_side a) else refuse token t.T03

-- T19 for any integer
abbrev pub any_faults : Leaf → Option Sort → List Fault
any_faults mark (Some Sort.Int) = fault mark.number t.T19 ∷ []
any_faults mark (Some Sort.Proc) = []
any_faults mark (Some (Sort.Fin k)) = []
any_faults mark None = []

-- T17 at the `:` for a condition above the limits, its added first literal included
abbrev pub cond_tests : ℕ → ℕ → List (List Lit) → Checked (List (List Lit))
cond_tests token more list = if nat_lt 64 (widest list + more) then refuse token t.T17 else sound list

module _ (frame : Frame) (scope : List Local) where
  abbrev pub right_value : ℕ → Option Sort → RightNode → Checked Value
  right_value token sort (rights.Sum sum) = side frame scope sum >>= λ a. value_for token sort a
  right_value token sort (rights.Any mark) = record { value = Some Value.Any; faults = any_faults mark sort }

  abbrev pub condition : ℕ → CaseNode → Checked (List (List Lit))
  condition more node =
      form false frame scope node.cond >>= λ formula. normalized frame.sig node.colon.number formula >>= λ list. cond_tests node.colon.number more list

  abbrev pub case_of : Option Aim → CaseNode → Case
  case_of aim node = record {
    conds = (condition (added aim) node).value;
    value = (right_value node.colon.number (sort_aimed aim) node.right).value;
  }

  abbrev pub case_faults : Option Aim → CaseNode → List Fault
  case_faults aim node = (condition (added aim) node).faults ++ (right_value node.colon.number (sort_aimed aim) node.right).faults

  abbrev pub all_case_faults : Option Aim → List CaseNode → List Fault
  all_case_faults aim [] = []
  all_case_faults aim (c ∷ cs) = case_faults aim c ++ all_case_faults aim cs

-- the place of the index, where it is a parameter
abbrev pub index_place : Frame → List Local → Option Leaf → Option ℕ
index_place frame scope None = None
index_place frame scope (Some leaf) = place_at frame scope leaf

-- an index that is no parameter is a new variable, at the place behind the parameters
abbrev pub inner_scope : List Local → ℕ → Option Leaf → Option ℕ → List Local
inner_scope scope params None place = scope
inner_scope scope params (Some leaf) (Some place) = scope
inner_scope scope params (Some leaf) None = scope ++ local leaf params ∷ []

-- T02 for a new variable with a declared name
abbrev pub index_faults : Frame → Option Leaf → Option ℕ → List Fault
index_faults frame None place = []
index_faults frame (Some leaf) (Some place) = []
index_faults frame (Some leaf) None = if is_value frame leaf then fault leaf.number t.T02 ∷ [] else []

abbrev pub mark_of : RightNode → Option Leaf
mark_of (rights.Any mark) = Some mark
mark_of (rights.Sum sum) = None

abbrev pub mark_before : Option Leaf → Option Leaf → Option Leaf
mark_before (Some mark) later = Some mark
mark_before None later = later

-- the first `?` of an update
abbrev pub first_mark : List CaseNode → RightNode → Option Leaf
first_mark [] last = mark_of last
first_mark (c ∷ cs) last = mark_before (mark_of c.right) (first_mark cs last)

abbrev pub aim_at : Frame → List Local → UpdateNode → Checked Aim
aim_at frame scope u = target_of u.name.number (place_at frame scope u.name) (what_at frame u.name) u.index (index_place frame scope u.index)

module _ (frame : Frame) (scope : List Local) (params : ℕ) where
  abbrev pub inner : UpdateNode → List Local
  inner u = inner_scope scope params u.index (index_place frame scope u.index)

  abbrev pub written : UpdateNode → Written
  written u = record {
    aim = (aim_at frame scope u).value;
    token = u.name.number;
    mark = first_mark u.branches u.last;
    cases = map (case_of frame (inner u) (aim_at frame scope u).value) u.branches;
    last = (right_value frame (inner u) u.at.number (sort_aimed (aim_at frame scope u).value) u.last).value;
  }

  abbrev pub written_faults : UpdateNode → List Fault
  written_faults u =
      (aim_at frame scope u).faults ++ index_faults frame u.index (index_place frame scope u.index)
      ++ all_case_faults frame (inner u) (aim_at frame scope u).value u.branches
      ++ (right_value frame (inner u) u.at.number (sort_aimed (aim_at frame scope u).value) u.last).faults

abbrev pub is_whole_case : Case → Bool
is_whole_case c = has_value c.conds && has_value c.value

-- no part of the update is refused
abbrev pub is_whole : Written → Bool
is_whole w = has_value w.aim && list_all is_whole_case w.cases && has_value w.last
