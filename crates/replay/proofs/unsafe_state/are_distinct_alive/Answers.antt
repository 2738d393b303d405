use Rattle.std.proofs.Common.{◌≡◌, Some, None, refl, sym, ◌∙◌}
use Rattle.std.proofs.lemmas.Bool.{false≢true}
use Rattle.replay.proofs.LegalFault.{all_alive, all_distinct, none_dead, none_repeats}
use Rattle.replay.proofs.unsafe_state.are_distinct_alive.Goals as goal

pub returns-in-Some : goal.returns-in-Some
returns-in-Some c = (
  λ h. absurd (false≢true h),
  λ d. absurd (let none : Some c.in-Some.field-0 ≡ None = c.in-Some.ensures ∙ none_dead c.args.state.now c.args.processes.now d.alive in cc),
)

pub returns-in-Some-first_repeat : goal.returns-in-Some-first_repeat
returns-in-Some-first_repeat c = (
  λ h. absurd (false≢true h),
  λ d. absurd (let none : Some c.in-Some-first_repeat.field-0 ≡ None = c.in-Some-first_repeat.ensures ∙ none_repeats c.args.processes.now d.distinct in cc),
)

pub returns-in-None-first_repeat : goal.returns-in-None-first_repeat
returns-in-None-first_repeat c = (
  λ _. record {
    alive = all_alive c.args.state.now c.args.processes.now (sym c.in-None.ensures);
    distinct = all_distinct c.args.processes.now (sym c.in-None-first_repeat.ensures);
  },
  λ _. refl,
)
