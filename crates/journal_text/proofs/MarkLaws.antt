-- Marks after events that add.
use Rattle.std.proofs.Common.{◌≡◌, ◌⊎◌, ℕ, ◌+◌, ◌-◌, List, length, Option, sym, ◌∙◌, inl, inr}
use Rattle.log_form.specs.declared.event.Mark.{Mark}
use Rattle.log_form.specs.declared.event.Added.{Added}
use Rattle.log_form.specs.declared.event.LogEvent.{LogEvent}
use Rattle.log_form.specs.Log.{LogValue}
use Rattle.log_form.specs.Legal.{EndsBad, Grows}

-- the log is not full
pub grows_not_full : (log : LogValue) (event : LogEvent) (list : List Added) (after : LogValue) (from : Option ℕ) (needed : ℕ) → Grows log event list after → after.mark ≡ Mark.Full from needed → ⊥
grows_not_full log event list after from needed grows full = by grows.mark
  where
    by : (EndsBad log.protocol list × (after.mark ≡ Mark.Bad (length log.nodes + length list - 1))) ⊎ ((EndsBad log.protocol list → ⊥) × (after.mark ≡ Mark.Going)) → ⊥
    by (inl (bad, is)) = let wrong = sym full ∙ is in cc
    by (inr (good, is)) = let wrong = sym full ∙ is in cc
