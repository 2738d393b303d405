use Rattle.std.proofs.Common.{◌≡◌, ◌≤◌, arith, ◌-◌, ap, sym, ◌∙◌, [], ◌∷◌, ◌++◌}
use Rattle.sample_gen.specs.Sample.{is_on, is_not_on, step}
use Rattle.sample_gen.proofs.Fitting.{more_steps}
use Rattle.sample_gen.proofs.steps.transitions.Goals as goal

pub loop-from-preserved : goal.loop-from-preserved
loop-from-preserved c =
    c.in_ok-push-3.ensures.ok
    ∙ rw (c.loop-from.invariant, c.in_ok-step-3.ensures, c.in_ok-always.ensures)
    (ap (λ l. step ((is_on 1 0 ∷ []) ∷ []) 0 ∷ step ((is_not_on c.args.top 1 1 ∷ []) ∷ []) 1 ∷ l) (sym (more_steps (step ([] ∷ [])) c.loop-from.from (omega (arith, c.loop-from.auto.from)))))
