-- What holds of the value of each branch and of the last value holds of the value that counts.
use Rattle.std.proofs.Common.{ℕ, true, false, List, [], ◌∷◌, All}
use Rattle.std.proofs.lemmas.List.Elements.{All-head, All-tail}
use Rattle.cub_proto.specs.declared.literal.Value.{Value}
use Rattle.cub_proto.specs.declared.transition.Branch.{Branch}
use Rattle.cub_proto.specs.Configuration.{Configuration}
use Rattle.cub_proto.specs.Truth.{all_true}
use Rattle.cub_proto.specs.Effect.{chosen}
use Rattle.std.specs.Prelude.{if◌then◌else◌}

pub of_chosen : (P : Value → Type 0) (s : Configuration) (places : List ℕ) (bs : List Branch) (last : Value) → All (λ b. P b.value) bs → P last → P (chosen s places bs last)
of_chosen P s places [] last each at_last = at_last
of_chosen P s places (b ∷ bs) last each at_last =
    elim (all_true s places b.cond) as (λ t. P (if t then b.value else chosen s places bs last)) [
      | true ↦ All-head (λ b. P b.value) b bs each
      | false ↦ of_chosen P s places bs last (All-tail (λ b. P b.value) b bs each) at_last
    ]
