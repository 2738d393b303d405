-- What a firing reads in a state.
use Rattle.std.specs.Prelude.{◌≡◌, ℕ, ◌+◌, ◌<◌, ◌≤◌, ◌^◌, unsigned_abs, List, [], ◌∷◌, ◌++◌, length, All, IsTrue}
use Rattle.cub_proto.specs.declared.literal.Value.{Value}
use Rattle.cub_proto.specs.declared.transition.Target.{Target}
use Rattle.cub_proto.specs.declared.transition.Update.{Update}
use Rattle.cub_proto.specs.declared.transition.Transition.{Transition}
use Rattle.cub_proto.specs.declared.protocol.Protocol.{Protocol}
use Rattle.cub_proto.specs.Configuration.{Configuration, process_count}
use Rattle.cub_proto.specs.Fits.{transition_fits}
use Rattle.cub_proto.specs.StateOf.{IsStateOf, signature_of}
use Rattle.cub_proto.specs.Truth.{integer_at, HasTerm, HasProcessSide, HasIntegerSide, HasLiterals}
use Rattle.replay.specs.Writes.{HasTarget}

-- a transition of the protocol, with parameters among the processes of one of its states
pub record IsFiring (p : Protocol) (s : Configuration) (t : Transition) (params : List ℕ) : Type 0 where
  pub state_of : IsStateOf p s
  pub fits : IsTrue (transition_fits (signature_of p) t)
  pub one_each : length params ≡ t.params
  pub processes : All (λ i. i < process_count s) params

-- the literals of every condition of the update can be read
abbrev pub ReadsConditions : Configuration → List ℕ → Update → Type 0
ReadsConditions s places u = All (λ b. HasLiterals s places b.cond) u.branches

-- what the value reads is there, and its sum is small
abbrev pub ReadsValue : Configuration → List ℕ → Value → Type 0
ReadsValue s places (Value.Con c) = Unit {0}
ReadsValue s places (Value.Read t) = HasTerm s places t
ReadsValue s places (Value.Proc side) = HasProcessSide s places side
ReadsValue s places (Value.Sum base add) =
    HasIntegerSide s places base × (unsigned_abs (integer_at s places base) + unsigned_abs add ≤ 2 ^ 62)
ReadsValue s places Value.Any = Unit {0}

-- the update can be computed
pub record ReadsUpdate (s : Configuration) (places : List ℕ) (u : Update) : Type 0 where
  pub conditions : ReadsConditions s places u
  pub values : All (λ b. ReadsValue s places b.value) u.branches
  pub last : ReadsValue s places u.last

-- the update can be computed for each slot of its target
abbrev pub ReadsTarget : Configuration → List ℕ → Update → Target → Type 0
ReadsTarget s params u (Target.Global g) = ReadsUpdate s params u
ReadsTarget s params u (Target.Array a) = (i : ℕ) → i < process_count s → ReadsUpdate s (params ++ i ∷ []) u

-- the updates' slots are there, and the updates can be computed
abbrev pub ReadsUpdates : Configuration → List ℕ → List Update → Type 0
ReadsUpdates s params us = All (λ u. HasTarget s u.target × ReadsTarget s params u u.target) us
