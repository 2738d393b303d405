-- The options of a step by their numbers: how many there are, and what each gives. An option gives one draft, or none where a
-- place is a parameter already.
use Rattle.std.specs.Prelude.{ℕ, zero, suc, ◌+◌, Bool, ◌&&◌, not, nat_lt, if◌then◌else◌, List, [], ◌∷◌, length, Option, Some, None}
use Rattle.cub_proto.specs.declared.literal.Sort.{Sort}
use Rattle.cub_proto.specs.declared.literal.Term.{Term}
use Rattle.cub_proto.specs.declared.literal.PSide.{PSide}
use Rattle.cub_proto.specs.declared.literal.Value.{Value}
use Rattle.cub_proto.specs.declared.transition.Update.{Update}
use Rattle.cub_proto.specs.declared.transition.Transition.{Transition}
use Rattle.cub_proto.specs.Signature.{Signature, sort_of, constructors_of}
use Rattle.cub_proto.specs.Fits.{is_any}
use Rattle.cub_proto.specs.Effect.{update_of}
use Rattle.cub_cube.specs.Step.{target_of}
use Rattle.updates.specs.Ways.{condition}
use Rattle.updates.specs.Chosen.{chosen_value}
use Rattle.piece_choices.specs.Placings.{is_among}
use Rattle.piece_choices.specs.Picks.{Pick, pick}
use Rattle.piece_steps.specs.Steps.{Draft, Step, Param, Guard, Other, Branch, Fail, Choose, Late, choice_at, at_place, at_new_place, guarded, permitted, branched, failed, picked}

-- the update of the term with that number
abbrev pub update_at : Transition → Draft → ℕ → Option Update
update_at t d i = update_of t.updates (target_of (choice_at d i).term)

-- the place of a parameter: one of the cube, if it is free, or a new one
abbrev pub place_option : ℕ → Draft → ℕ → List Draft
place_option width d k = if nat_lt k width then (if is_among d.params k then [] else at_place d k ∷ []) else at_new_place d ∷ []

-- an alternative of the universal guard at a place where it is asked
abbrev pub permit_option : Bool → Transition → Draft → ℕ → ℕ → List Draft
permit_option asked t d q k = if asked then permitted t d q k ∷ [] else d ∷ []

abbrev pub branch_count : Option Update → ℕ
branch_count None = 1
branch_count (Some u) = length u.branches + 1

abbrev pub branch_option : Option Update → Draft → ℕ → ℕ → List Draft
branch_option None d i k = d ∷ []
branch_option (Some u) d i k = branched d i (choice_at d i) u k ∷ []

abbrev pub fail_count : Option Update → ℕ → ℕ → ℕ
fail_count None branch b = 1
fail_count (Some u) branch b = if nat_lt b branch then length (condition u.branches b) else 1

abbrev pub fail_option : Signature → Option Update → Draft → ℕ → ℕ → ℕ → List Draft
fail_option sig None d i b k = d ∷ []
fail_option sig (Some u) d i b k = if nat_lt b (choice_at d i).branch then failed sig d i (choice_at d i) (condition u.branches b) k ∷ [] else d ∷ []

-- the values for a term of a sort: constructors; or the old value, the places, and a new place
abbrev pub value_count : Signature → ℕ → Term → Option Sort → ℕ
value_count sig width t (Some (Sort.Fin s)) = constructors_of sig (Sort.Fin s)
value_count sig width (Term.Global g) (Some Sort.Proc) = width + 2
value_count sig width (Term.Cell a p) (Some Sort.Proc) = 0
value_count sig width t (Some Sort.Int) = 0
value_count sig width t None = 0

abbrev pub process_at : ℕ → ℕ → ℕ → Pick
process_at width g zero = pick width (Value.Proc (PSide.Global g))
process_at width g (suc q) = if nat_lt q width then pick width (Value.Proc (PSide.Place q)) else pick (width + 1) (Value.Proc (PSide.Place width))

abbrev pub value_at : ℕ → Term → Option Sort → ℕ → Pick
value_at width t (Some (Sort.Fin s)) k = pick width (Value.Con k)
value_at width (Term.Global g) (Some Sort.Proc) k = process_at width g k
value_at width (Term.Cell a p) (Some Sort.Proc) k = pick width Value.Any
value_at width t (Some Sort.Int) k = pick width Value.Any
value_at width t None k = pick width Value.Any

-- a pick, where the chosen value is `?`
abbrev pub value_option : Signature → Transition → Draft → ℕ → ℕ → List Draft
value_option sig t d i k =
    if is_any (chosen_value t.updates d.params (choice_at d i))
    then picked d i (choice_at d i) (value_at d.width (choice_at d i).term (sort_of sig (choice_at d i).term) k) ∷ []
    else d ∷ []

-- how many options a step has
abbrev pub options : Signature → Transition → ℕ → Step → Draft → ℕ
options sig t width Param d = width + 1
options sig t width Guard d = length t.guard
options sig t width (Other q) d = if nat_lt q d.inner && not (is_among d.params q) then length t.others else 1
options sig t width (Branch i) d = branch_count (update_at t d i)
options sig t width (Fail i b) d = fail_count (update_at t d i) (choice_at d i).branch b
options sig t width (Choose i) d = if is_any (chosen_value t.updates d.params (choice_at d i)) then value_count sig d.width (choice_at d i).term (sort_of sig (choice_at d i).term) else 1
options sig t width (Late j) d = if nat_lt (d.inner + j) d.width then length t.others else 1

-- what the option with that number gives
abbrev pub option_at : Signature → Transition → ℕ → Step → Draft → ℕ → List Draft
option_at sig t width Param d k = place_option width d k
option_at sig t width Guard d k = guarded t d k ∷ []
option_at sig t width (Other q) d k = permit_option (nat_lt q d.inner && not (is_among d.params q)) t d q k
option_at sig t width (Branch i) d k = branch_option (update_at t d i) d i k
option_at sig t width (Fail i b) d k = fail_option sig (update_at t d i) d i b k
option_at sig t width (Choose i) d k = value_option sig t d i k
option_at sig t width (Late j) d k = permit_option (nat_lt (d.inner + j) d.width) t d (d.inner + j) k
