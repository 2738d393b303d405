-- What a transition does to a state: every updated slot takes the value of its update in the old state, all at once.
use Rattle.std.specs.Prelude.{ℕ, ◌+ℤ◌, Bool, false, ◌==◌, if◌then◌else◌, List, [], ◌∷◌, ◌++◌, Option, Some, None, unwrap_or, option_map, find}
use Rattle.cub_base.specs.Numbered.{map_from}
use Rattle.cub_proto.specs.declared.literal.Value.{Value}
use Rattle.cub_proto.specs.declared.transition.Branch.{Branch}
use Rattle.cub_proto.specs.declared.transition.Target.{Target}
use Rattle.cub_proto.specs.declared.transition.Update.{Update}
use Rattle.cub_proto.specs.declared.state.Slot.{Slot}
use Rattle.cub_proto.specs.declared.state.Val.{Val}
use Rattle.cub_proto.specs.declared.state.Val.TheVariants.{Con, Proc, Int}
use Rattle.cub_proto.specs.declared.event.Chosen.{Chosen}
use Rattle.cub_proto.specs.Configuration.{Configuration, is_alive}
use Rattle.cub_proto.specs.Truth.{term_value, process_at, integer_at, all_true}

-- the value of the first branch whose condition is true, or else the last value
abbrev pub chosen : Configuration → List ℕ → List Branch → Value → Value
chosen s places [] last = last
chosen s places (b ∷ bs) last = if all_true s places b.cond then b.value else chosen s places bs last

-- what a value gives in the old state; the old value for `?`, for which nothing is picked here
abbrev pub meaning_of : Configuration → List ℕ → Value → Val → Val
meaning_of s places (Value.Con c) old = Con c
meaning_of s places (Value.Read t) old = term_value s places t
meaning_of s places (Value.Proc side) old = Proc (process_at s places side)
meaning_of s places (Value.Sum base add) old = Int (integer_at s places base +ℤ add)
meaning_of s places Value.Any old = old

-- the value that a slot settles on: a `?` takes the pick, and without one the slot keeps its value
abbrev pub settled : Configuration → List ℕ → Value → Option Val → Val → Val
settled s places (Value.Con c) pick old = meaning_of s places (Value.Con c) old
settled s places (Value.Read t) pick old = meaning_of s places (Value.Read t) old
settled s places (Value.Proc side) pick old = meaning_of s places (Value.Proc side) old
settled s places (Value.Sum base add) pick old = meaning_of s places (Value.Sum base add) old
settled s places Value.Any pick old = unwrap_or pick old

abbrev pub same_target : Target → Target → Bool
same_target (Target.Global g) (Target.Global h) = g == h
same_target (Target.Global g) (Target.Array a) = false
same_target (Target.Array a) (Target.Global g) = false
same_target (Target.Array a) (Target.Array b) = a == b

-- the update of a target, if there is one
abbrev pub update_of : List Update → Target → Option Update
update_of updates target = find (λ u. same_target u.target target) updates

-- the value that counts for a target: that of the first branch with a true condition, else the last one
abbrev pub counting : Configuration → List ℕ → Update → Value
counting s places u = chosen s places u.branches u.last

-- the value of a slot after the step, where the places are the parameters, and for a cell its process behind them
abbrev pub updated : Configuration → List ℕ → Option Update → Option Val → Val → Val
updated s places None pick old = old
updated s places (Some u) pick old = settled s places (counting s places u) pick old

abbrev pub global_after : Configuration → List ℕ → List Update → (Slot → Option Val) → ℕ → Val → Val
global_after s params updates pick g old = updated s params (update_of updates (Target.Global g)) (pick (Slot.Global g)) old

-- the cell of a dead process stays
abbrev pub cell_after : Configuration → List ℕ → Option Update → (Slot → Option Val) → ℕ → ℕ → Val → Val
cell_after s params update pick a i old =
    if is_alive s i then updated s (params ++ i ∷ []) update (pick (Slot.Cell a i)) old else old

abbrev pub cells_after : Configuration → List ℕ → List Update → (Slot → Option Val) → ℕ → List Val → List Val
cells_after s params updates pick a cells =
    map_from (cell_after s params (update_of updates (Target.Array a)) pick a) 0 cells

-- the state after a transition with these parameters, updates and picks
abbrev pub fired : Configuration → List ℕ → List Update → (Slot → Option Val) → Configuration
fired s params updates pick = record s {
  globals = map_from (global_after s params updates pick) 0 s.globals;
  arrays = map_from (cells_after s params updates pick) 0 s.arrays;
}

abbrev pub same_slot : Slot → Slot → Bool
same_slot (Slot.Global g) (Slot.Global h) = g == h
same_slot (Slot.Global g) (Slot.Cell a i) = false
same_slot (Slot.Cell a i) (Slot.Global g) = false
same_slot (Slot.Cell a i) (Slot.Cell b j) = if a == b then i == j else false

-- the value that a list of picks has for a slot
abbrev pub picked : List Chosen → Slot → Option Val
picked picks slot = option_map (λ c. c.val) (find (λ c. same_slot c.slot slot) picks)
