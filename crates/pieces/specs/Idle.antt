-- Steps that leave a draft as it is.
use Rattle.std.specs.Prelude.{ℕ, ◌+◌, Bool, true, false, ◌&&◌, not, nat_lt, Option, Some, None}
use Rattle.cub_proto.specs.declared.transition.Update.{Update}
use Rattle.cub_proto.specs.declared.transition.Transition.{Transition}
use Rattle.cub_proto.specs.Fits.{is_any}
use Rattle.updates.specs.Chosen.{chosen_value}
use Rattle.piece_choices.specs.Placings.{is_among}
use Rattle.piece_steps.specs.Steps.{Draft, Step, Param, Guard, Other, Branch, Fail, Choose, Late, choice_at}
use Rattle.pieces.specs.Options.{update_at}

-- no branch can count
abbrev pub has_no_branch : Option Update → Bool
has_no_branch None = true
has_no_branch (Some u) = false

-- no literal has to fail
abbrev pub has_no_fail : Option Update → ℕ → ℕ → Bool
has_no_fail None branch b = true
has_no_fail (Some u) branch b = not (nat_lt b branch)

-- the step gives the draft itself
abbrev pub is_idle : Transition → Step → Draft → Bool
is_idle t Param d = false
is_idle t Guard d = false
is_idle t (Other q) d = not (nat_lt q d.inner && not (is_among d.params q))
is_idle t (Branch i) d = has_no_branch (update_at t d i)
is_idle t (Fail i b) d = has_no_fail (update_at t d i) (choice_at d i).branch b
is_idle t (Choose i) d = not (is_any (chosen_value t.updates d.params (choice_at d i)))
is_idle t (Late j) d = not (nat_lt (d.inner + j) d.width)
