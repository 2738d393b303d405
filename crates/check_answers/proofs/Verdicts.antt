-- What a status says of the protocol.
use Rattle.std.proofs.Common.{◌≡◌, ◌⊎◌, ℕ, zero, suc, List, [], ◌∷◌, Option, Some, None, sym, ◌∙◌, subst, arith, inl, inr}
use Rattle.std.specs.Prelude.{slice_get, Contains}
use Rattle.cub_proto.specs.declared.budget.Budget.{Budget}
use Rattle.cub_proto.specs.declared.event.Event.{Event}
use Rattle.cub_proto.specs.declared.event.Plain.{Plain}
use Rattle.cub_proto.specs.declared.protocol.Protocol.{Protocol}
use Rattle.cub_proto.specs.Configuration.{Configuration}
use Rattle.cub_proto.specs.Meets.{IsSafe}
use Rattle.cub_cube.specs.Inductive.{IsInductive}
use Rattle.cub_cube.proofs.InductiveLemmas.{inductive_safe}
use Rattle.log_form.specs.Log.{LogValue, live_cubes}
use Rattle.trace_judge.specs.Judge.{IsAccepted}
use Rattle.check_answers.specs.Certified.{IsSafe as TellsSafe}
use Rattle.check_answers.specs.Checked.{AnswersCheck, TellsLog, IsUnsafe as TellsUnsafe, IsOpen, unsafe_status}

is_there : {X : Type 0} (xs : List X) (i : ℕ) (x : X) → slice_get xs i ≡ Some x → Contains xs x
is_there [] i x h = cc
is_there (y ∷ ys) zero x h = (0, omega arith, cc)
is_there (y ∷ ys) (suc i) x h = let (k, below, is) = is_there ys i x h in (suc k, omega arith, is)

-- an accepted trace ends in an unsafe state
pub run_refutes : (p : Protocol) (s : Configuration) (events : List Event) (goal : ℕ) (places : List ℕ) (plain : Option Plain) → IsAccepted p s events goal places plain → IsSafe p → ⊥
run_refutes p s events goal places plain accepted safe =
    let run = accepted.unsafe_run in
    safe s events run.run (run.ends.goal, is_there p.goals goal run.ends.goal run.ends.is_there, (places, run.ends.satisfied))

no_zero : (plain : Option Plain) → 0 ≡ unsafe_status plain → ⊥
no_zero None h = omega (arith, h)
no_zero (Some plain) h = omega (arith, h)

-- status 0 says that the protocol is safe
safe_log : (format : ℕ) (log : LogValue) (text : List ℕ) → TellsLog format log 0 text → IsSafe log.protocol
safe_log format log text (inl safe) = inductive_safe log.protocol (live_cubes log.nodes) safe.prove.inductive
safe_log format log text (inr (inl bad)) = absurd (no_zero bad.trace.plain bad.status_is)
safe_log format log text (inr (inr open_log)) = absurd (let is = open_log.status_is in omega (arith, is))

pub zero_is_safe : (p : Protocol) (b : Budget) (format : ℕ) (text : List ℕ) → AnswersCheck b format p 0 text → IsSafe p
zero_is_safe p b format text answer = subst IsSafe answer.protocol (safe_log format answer.log text answer.tells)

-- status 1 or 2 says that it is not
unsafe_log : (format : ℕ) (log : LogValue) (status : ℕ) (text : List ℕ) → (status ≡ 1) ⊎ (status ≡ 2) → TellsLog format log status text → IsSafe log.protocol → ⊥
unsafe_log format log status text (inl one) (inl safe) = absurd (let is = safe.status_is in omega (arith, one, is))
unsafe_log format log status text (inr two) (inl safe) = absurd (let is = safe.status_is in omega (arith, two, is))
unsafe_log format log status text either (inr (inl bad)) = run_refutes log.protocol bad.trace.start bad.trace.events bad.trace.goal bad.trace.places bad.trace.plain bad.run
unsafe_log format log status text (inl one) (inr (inr open_log)) = absurd (let is = open_log.status_is in omega (arith, one, is))
unsafe_log format log status text (inr two) (inr (inr open_log)) = absurd (let is = open_log.status_is in omega (arith, two, is))

pub one_or_two_refutes : (p : Protocol) (b : Budget) (format status : ℕ) (text : List ℕ) → AnswersCheck b format p status text → (status ≡ 1) ⊎ (status ≡ 2) → IsSafe p → ⊥
one_or_two_refutes p b format status text answer either safe =
    unsafe_log format answer.log status text either answer.tells (subst IsSafe (sym answer.protocol) safe)
