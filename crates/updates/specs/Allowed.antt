-- When a choice is one of those that a transition has for its term.
use Rattle.std.specs.Prelude.{ℕ, Bool, true, false, ◌&&◌, nat_lt, nat_le, if◌then◌else◌, List, [], ◌∷◌, length, take, Option, Some, None}
use Rattle.std.specs.Option.{option_map_or}
use Rattle.cub_proto.specs.declared.transition.Branch.{Branch}
use Rattle.cub_proto.specs.declared.transition.Update.{Update}
use Rattle.cub_proto.specs.Signature.{Signature, sort_of}
use Rattle.cub_proto.specs.Fits.{is_any, place_fits}
use Rattle.cub_proto.specs.Effect.{update_of}
use Rattle.cub_cube.specs.Replace.{can_replace}
use Rattle.cub_cube.specs.Step.{target_of}
use Rattle.updates.specs.declared.choice.Choice.{Choice}
use Rattle.updates.specs.Chosen.{chosen_value, taken_value}

-- the number of a literal for each condition
abbrev pub are_failures : List Branch → List ℕ → Bool
are_failures [] [] = true
are_failures [] (f ∷ fs) = false
are_failures (b ∷ bs) [] = false
are_failures (b ∷ bs) (f ∷ fs) = nat_lt f (length b.cond) && are_failures bs fs

-- the branch is there, or it is the last value, and a literal fails of each earlier condition
abbrev pub is_way : List Branch → ℕ → List ℕ → Bool
is_way branches n fails = nat_le n (length branches) && are_failures (take n branches) fails

abbrev pub way_fits : Option Update → Choice → Bool
way_fits None c = true
way_fits (Some u) c = is_way u.branches c.branch c.fails

-- where the chosen value is `?`, the pick can stand for the term
abbrev pub pick_fits : Signature → ℕ → List Update → List ℕ → Choice → Bool
pick_fits sig width updates params c =
    if is_any (chosen_value updates params c)
    then option_map_or (λ sort. can_replace sig width sort (taken_value updates params c)) (sort_of sig c.term) false
    else true

-- the choice is of a term below the width, of a way that is there, and has the pick that it needs
abbrev pub choice_fits : Signature → ℕ → List Update → List ℕ → Choice → Bool
choice_fits sig width updates params c =
    place_fits width c.term && way_fits (update_of updates (target_of c.term)) c && pick_fits sig width updates params c

-- a width above every place
abbrev pub every_place : ℕ
every_place = 256
