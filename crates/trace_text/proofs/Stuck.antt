-- At the place of an event, the first bytes decide which lines may stand there.
use Rattle.std.proofs.Common.{◌≡◌, ℕ, ◌<◌, Bool, true, false, List, ◌∷◌, ◌++◌, length, Some, ap, ◌∙◌, inl, inr}
use Rattle.cub_proto.specs.declared.protocol.Protocol.{Protocol}
use Rattle.cub_proto.specs.declared.event.Event.{Event}
use Rattle.cub_proto.specs.Configuration.{Configuration, process_count}
use Rattle.replay.specs.Bound.{most_events}
use Rattle.text_lines.specs.Line.{line_at}
use Rattle.text_lines.proofs.LineLaws.{line_split}
use Rattle.trace_text.specs.Text.{event_text, goal_text}
use Rattle.trace_text.specs.Place.{Place, Events, TakesEvent, TakesGoal, takes, begins_event}
use Rattle.trace_text.proofs.Takes.{event_begins, goal_begins_not}

module _ (p : Protocol) (crashes : Bool) (start : Configuration) (read : List Event) (text bytes rest : List ℕ) (at : line_at text ≡ Some (bytes, rest)) where
  as_event : (e : Event) → bytes ≡ event_text p e → begins_event text ≡ true
  as_event e is = ap begins_event (line_split text bytes rest at ∙ ap (λ b. b ++ 10 ∷ rest) is) ∙ event_begins p e (10 ∷ rest)

  as_goal : (goal : ℕ) (places : List ℕ) → bytes ≡ goal_text goal places → begins_event text ≡ false
  as_goal goal places is = ap begins_event (line_split text bytes rest at ∙ ap (λ b. b ++ 10 ∷ rest) is) ∙ goal_begins_not goal places (10 ∷ rest)

  pub no_event_stands : begins_event text ≡ true → ((e : Event) → TakesEvent p (process_count start) bytes e → ⊥)
      → (q : Place) → takes p (Events crashes start read) bytes q → ⊥
  no_event_stands begins none q (inl (e, t, few, to)) = none e t
  no_event_stands begins none q (inr (goal, places, t, to)) = let other = as_goal goal places t.text in cc

  pub no_goal_stands : (length read < most_events → begins_event text ≡ false)
      → ((goal : ℕ) (places : List ℕ) → TakesGoal p (process_count start) bytes goal places → ⊥)
      → (q : Place) → takes p (Events crashes start read) bytes q → ⊥
  no_goal_stands end none q (inl (e, t, few, to)) = let yes = as_event e t.text in let no = end few in cc
  no_goal_stands end none q (inr (goal, places, t, to)) = none goal places t
