-- What holds of the judgement of every trace.
use Rattle.std.specs.Prelude.{◌≡◌, ◌≢◌, ℕ, List, Option}
use Rattle.cub_proto.specs.declared.protocol.Protocol.{Protocol}
use Rattle.cub_proto.specs.declared.event.Event.{Event}
use Rattle.cub_proto.specs.declared.event.Plain.{Plain}
use Rattle.cub_proto.specs.Configuration.{Configuration}
use Rattle.trace_judge.specs.declared.judge.Refusal.{Refusal}
use Rattle.trace_judge.specs.declared.judge.Refusal.TheVariants.{Memory}
use Rattle.trace_judge.specs.Judge.{IsAccepted, IsRefused}

-- a trace is refused for one reason at most
abbrev pub OneReason : Protocol → Type 0
OneReason p =
    (s : Configuration) (events : List Event) (goal : ℕ) (places : List ℕ) (plain : Option Plain) (one other : Refusal) → one ≢ Memory → other ≢ Memory
    → IsRefused p s events goal places plain one → IsRefused p s events goal places plain other → one ≡ other

-- and for none where it is accepted
abbrev pub NoReason : Protocol → Type 0
NoReason p =
    (s : Configuration) (events : List Event) (goal : ℕ) (places : List ℕ) (plain : Option Plain) (refusal : Refusal) → refusal ≢ Memory
    → IsAccepted p s events goal places plain → IsRefused p s events goal places plain refusal → ⊥
