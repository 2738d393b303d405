-- The updates of a transition together: what is updated twice, how many process globals take any value, and the joined
-- lists of branches.
use Rattle.std.specs.Prelude.{◌≡◌, ℕ, ◌+◌, pos, Bool, true, false, ◌&&◌, ◌||◌, not, ◌==◌, nat_lt, if◌then◌else◌, List, [], ◌∷◌, ◌++◌, length, map, flat_map, find, Option, Some, None, unwrap_or}
use Rattle.std.specs.List.{list_any, list_all, range_with_len}
use Rattle.cub_parse.specs.declared.tree.Leaf.{Leaf}
use Rattle.cub_parse.specs.declared.tree.UpdateNode.{UpdateNode}
use Rattle.cub_proto.specs.declared.literal.Sort.{Sort}
use Rattle.cub_proto.specs.declared.literal.Term.{Term}
use Rattle.cub_proto.specs.declared.literal.PSide.{PSide}
use Rattle.cub_proto.specs.declared.literal.ISide.TheVariants.{At}
use Rattle.cub_proto.specs.declared.literal.Lit.{Lit}
use Rattle.cub_proto.specs.declared.literal.Lit.TheVariants.{ProcEq}
use Rattle.cub_proto.specs.declared.literal.Value.{Value}
use Rattle.cub_proto.specs.declared.transition.Target.{Target}
use Rattle.cub_proto.specs.declared.transition.Branch.{Branch}
use Rattle.cub_proto.specs.declared.transition.Update.{Update}
use Rattle.cub_proto.specs.Signature.{Signature}
use Rattle.cub_names.specs.declared.fault.TypeKind.TheVariants as t
use Rattle.cub_names.specs.declared.fault.Fault.{Fault}
use Rattle.cub_names.specs.declared.scope.Local.{Local}
use Rattle.cub_names.specs.Checked.{fault, has_value}
use Rattle.cub_names.specs.Meaning.{Frame}
use Rattle.cub_types.specs.declared.written.Aim.{Aim}
use Rattle.cub_types.specs.declared.written.Case.{Case}
use Rattle.cub_types.specs.declared.written.Written.{Written}
use Rattle.cub_types.specs.declared.updating.Updating.{Updating}
use Rattle.cub_types.specs.Writes.{written, written_faults, is_whole}

-- a global twice, a cell twice, or an array for a variable and once more
abbrev pub clash : Aim → Aim → Bool
clash (Aim.Global g sort) (Aim.Global h other) = g == h
clash (Aim.Global g sort) (Aim.At a other param) = false
clash (Aim.Global g sort) (Aim.Whole a other) = false
clash (Aim.At a sort param) (Aim.Global g other) = false
clash (Aim.At a sort param) (Aim.At b other place) = a == b && param == place
clash (Aim.At a sort param) (Aim.Whole b other) = a == b
clash (Aim.Whole a sort) (Aim.Global g other) = false
clash (Aim.Whole a sort) (Aim.At b other place) = a == b
clash (Aim.Whole a sort) (Aim.Whole b other) = a == b

abbrev pub clashes : Aim → Option Aim → Bool
clashes aim None = false
clashes aim (Some other) = clash other aim

-- one of the updates writes what this one does
abbrev pub is_again : List Written → Option Aim → Bool
is_again kept None = false
is_again kept (Some aim) = list_any (λ w. clashes aim w.aim) kept

-- an update that is T09 updates nothing, nor does one with a refused target
abbrev pub keeps : List Written → Written → List Written
keeps kept w = if has_value w.aim && not (is_again kept w.aim) then kept ++ w ∷ [] else kept

abbrev pub again_faults : List Written → Written → List Fault
again_faults kept w = if is_again kept w.aim then fault w.token t.T09 ∷ [] else []

-- the process global that takes any value, and its `?`
abbrev pub taker : Option Aim → Option Leaf → Option (ℕ × Leaf)
taker (Some (Aim.Global g Sort.Proc)) (Some mark) = Some (g, mark)
taker aim mark = None

abbrev pub is_among : List ℕ → ℕ → Bool
is_among numbers number = list_any (λ n. n == number) numbers

-- those that take any value, each once
abbrev pub takes : List ℕ → Option (ℕ × Leaf) → List ℕ
takes taken None = taken
takes taken (Some found) = if is_among taken found.0 then taken else taken ++ found.0 ∷ []

-- T19 for the `?` by which they and the parameters come to more than 3
abbrev pub taker_faults : ℕ → List ℕ → Option (ℕ × Leaf) → List Fault
taker_faults params taken None = []
taker_faults params taken (Some found) =
    if is_among taken found.0 then [] else (
    if nat_lt 3 (params + (length taken + 1)) then fault found.1.number t.T19 ∷ [] else [])

abbrev pub taker_of : Written → Option (ℕ × Leaf)
taker_of w = taker w.aim w.mark

-- the updates so far, with one more
abbrev pub joined : Updating → Written → Updating
joined u w = record { kept = keeps u.kept w; taken = takes u.taken (taker_of w); whole = u.whole && is_whole w }

abbrev pub joined_faults : ℕ → Updating → Written → List Fault
joined_faults params u w = again_faults u.kept w ++ taker_faults params u.taken (taker_of w)

abbrev pub no_updates : Updating
no_updates = record { kept = []; taken = []; whole = true }

module _ (frame : Frame) (scope : List Local) (params : ℕ) where
  -- the faults of one update more
  abbrev pub update_faults : Updating → UpdateNode → List Fault
  update_faults u n = written_faults frame scope params n ++ joined_faults params u (written frame scope params n)

  -- all updates, in the order of the text
  abbrev pub updating : Updating → List UpdateNode → Updating
  updating u [] = u
  updating u (n ∷ ns) = updating (joined u (written frame scope params n)) ns

  abbrev pub updating_faults : Updating → List UpdateNode → List Fault
  updating_faults u [] = []
  updating_faults u (n ∷ ns) =
      update_faults u n ++ updating_faults (joined u (written frame scope params n)) ns

abbrev pub is_aimed : Target → Option Aim → Bool
is_aimed target None = false
is_aimed (Target.Global g) (Some (Aim.Global h sort)) = g == h
is_aimed (Target.Global g) (Some (Aim.At a sort param)) = false
is_aimed (Target.Global g) (Some (Aim.Whole a sort)) = false
is_aimed (Target.Array a) (Some (Aim.Global h sort)) = false
is_aimed (Target.Array a) (Some (Aim.At b sort param)) = a == b
is_aimed (Target.Array a) (Some (Aim.Whole b sort)) = a == b

-- the update has part in that of the target
abbrev pub is_for : Target → Written → Bool
is_for target w = is_aimed target w.aim

-- `j = i`, where j is the place behind the parameters
abbrev pub first_literals : ℕ → Option Aim → List Lit
first_literals params None = []
first_literals params (Some (Aim.Global g sort)) = []
first_literals params (Some (Aim.At a sort param)) = ProcEq (PSide.Place param) (PSide.Place params) ∷ []
first_literals params (Some (Aim.Whole a sort)) = []

-- several branches with one value, one for each alternative of the condition
abbrev pub case_branches : List Lit → Case → List Branch
case_branches front c = map (λ cond. record { cond = front ++ cond; value = unwrap_or c.value Value.Any }) (unwrap_or c.conds [])

-- the last value of an update at a parameter becomes a branch
abbrev pub last_branches : ℕ → Written → List Branch
last_branches params w = map (λ l. record { cond = l ∷ []; value = unwrap_or w.last Value.Any }) (first_literals params w.aim)

abbrev pub branches_of : ℕ → Written → List Branch
branches_of params w = flat_map (case_branches (first_literals params w.aim)) w.cases ++ last_branches params w

-- the cell itself
abbrev pub itself : ℕ → ℕ → Sort → Value
itself params a (Sort.Fin k) = Value.Read (Term.Cell a params)
itself params a Sort.Int = Value.Sum (At (Term.Cell a params)) (pos 0)
itself params a Sort.Proc = Value.Any

-- the last value of a joined list is the array itself
abbrev pub last_of : ℕ → Option Aim → Option Value → Value
last_of params (Some (Aim.At a sort param)) last = itself params a sort
last_of params (Some (Aim.Global g sort)) last = unwrap_or last Value.Any
last_of params (Some (Aim.Whole a sort)) last = unwrap_or last Value.Any
last_of params None last = unwrap_or last Value.Any

-- the branches for the target, in the order of the text
abbrev pub branches_for : ℕ → Target → List Written → List Branch
branches_for params target kept = flat_map (λ w. if is_for target w then branches_of params w else []) kept

abbrev pub update_from : ℕ → Target → List Written → Option Written → List Update
update_from params target kept None = []
update_from params target kept (Some w) =
    record { target = target; branches = branches_for params target kept; last = last_of params w.aim w.last } ∷ []

abbrev pub update_at : ℕ → List Written → Target → List Update
update_at params kept target = update_from params target kept (find (is_for target) kept)

-- globals come before arrays, each group by number
abbrev pub targets : Signature → List Target
targets sig = map Target.Global (range_with_len 0 (length sig.globals)) ++ map Target.Array (range_with_len 0 (length sig.arrays))

abbrev pub updates_of : Signature → ℕ → List Written → List Update
updates_of sig params kept = flat_map (update_at params kept) (targets sig)

abbrev pub is_refused_case : Case → Bool
is_refused_case c = not (has_value c.conds)

abbrev pub count_of : Case → ℕ
count_of c = length (unwrap_or c.conds [])

abbrev pub cases_count : List Case → ℕ
cases_count [] = 0
cases_count (c ∷ cs) = count_of c + cases_count cs

-- the number of branches that an update brings
abbrev pub branch_count : ℕ → Written → ℕ
branch_count params w = cases_count w.cases + length (first_literals params w.aim)

-- T17 at the first update with which the list for the target has more than 64 branches
abbrev pub over_from : ℕ → Target → ℕ → List Written → List Fault
over_from params target total [] = []
over_from params target total (w ∷ ws) =
    if is_for target w then (
    if nat_lt 64 (total + branch_count params w) then fault w.token t.T17 ∷ [] else over_from params target (total + branch_count params w) ws)
    else over_from params target total ws

-- a list with a refused condition is not tested
abbrev pub long_at : ℕ → List Written → Target → List Fault
long_at params kept target =
    if list_any (λ w. is_for target w && list_any is_refused_case w.cases) kept then [] else over_from params target 0 kept

abbrev pub long_faults : ℕ → List Written → List Target → List Fault
long_faults params kept [] = []
long_faults params kept (target ∷ others) = long_at params kept target ++ long_faults params kept others
