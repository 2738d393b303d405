-- When a trace is accepted, and why it is refused.
use Rattle.std.specs.Prelude.{◌≡◌, ℕ, true, false, List, Option, Some, IfSome}
use Rattle.cub_proto.specs.declared.protocol.Protocol.{Protocol}
use Rattle.cub_proto.specs.declared.event.Event.{Event}
use Rattle.cub_proto.specs.declared.event.Plain.{Plain}
use Rattle.cub_proto.specs.Configuration.{Configuration}
use Rattle.cub_proto.specs.Legal.{IsStart, IsRun, after_all}
use Rattle.replay.specs.declared.fault.Refused.{Refused}
use Rattle.replay.specs.Start.{first_unstarted}
use Rattle.replay.specs.Machine.{Replay, MakesUnsafe, IsFirstRefused}
use Rattle.trace_judge.specs.declared.judge.Refusal.{Refusal}
use Rattle.trace_judge.specs.declared.judge.Refusal.TheVariants.{NoStart, NoStep, NoGoal, NoHeading, NoPlain, Memory}
use Rattle.trace_judge.specs.Plain.{heading_fits, fails_plainly}

-- the events are a run from the start, and the named processes make the named unsafe conjunction true at its end
pub record IsUnsafeRun (p : Protocol) (s : Configuration) (events : List Event) (goal : ℕ) (places : List ℕ) : Type 0 where
  pub run : IsRun p s events
  pub ends : MakesUnsafe p (after_all p s events) goal places

-- such a run, whose heading says whether it has crashes, and then where its steps alone fail
pub record IsAccepted (p : Protocol) (s : Configuration) (events : List Event) (goal : ℕ) (places : List ℕ) (plain : Option Plain) : Type 0 where
  pub unsafe_run : IsUnsafeRun p s events goal places
  pub heading : heading_fits plain events ≡ true
  pub fails : IfSome plain (λ told. fails_plainly p s events told ≡ true)

-- the state is a start state, and of the events the refused one is the first that is not legal
pub record IsNoStep (p : Protocol) (s : Configuration) (events : List Event) (refused : Refused) : Type 0 where
  pub start : IsStart p s
  pub last : Replay
  pub first : IsFirstRefused (record { protocol = p; state = s; accepted = 0 }) last events refused

-- the events are a run, and the named processes don't make the named unsafe conjunction true at its end
pub record IsNoGoal (p : Protocol) (s : Configuration) (events : List Event) (goal : ℕ) (places : List ℕ) : Type 0 where
  pub run : IsRun p s events
  pub ends : MakesUnsafe p (after_all p s events) goal places → ⊥

-- the trace says where the steps alone fail, and they don't fail so
pub record IsNoPlain (p : Protocol) (s : Configuration) (events : List Event) (goal : ℕ) (places : List ℕ) (plain : Option Plain) : Type 0 where
  pub unsafe_run : IsUnsafeRun p s events goal places
  pub heading : heading_fits plain events ≡ true
  pub told : Plain
  pub is_told : plain ≡ Some told
  pub fails : fails_plainly p s events told ≡ false

-- what each refusal says; want of memory says nothing
abbrev pub IsRefused : Protocol → Configuration → List Event → ℕ → List ℕ → Option Plain → Refusal → Type 0
IsRefused p s events goal places plain (NoStart i) = first_unstarted p s ≡ Some i
IsRefused p s events goal places plain (NoStep refused) = IsNoStep p s events refused
IsRefused p s events goal places plain NoGoal = IsNoGoal p s events goal places
IsRefused p s events goal places plain NoHeading = IsUnsafeRun p s events goal places × (heading_fits plain events ≡ false)
IsRefused p s events goal places plain NoPlain = IsNoPlain p s events goal places plain
IsRefused p s events goal places plain Memory = Unit {0}
