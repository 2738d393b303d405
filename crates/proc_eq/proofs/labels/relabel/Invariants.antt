use Rattle.std.proofs.Common.{◌≡◌, ℕ, ◌<◌, ◌≤◌, get_or, eqb, cond}
use Rattle.proc_eq.proofs.labels.relabel.Given as goal

abbrev pub invariant-loop-label : goal.invariant-loop-label
invariant-loop-label l = record {
  before : (i : ℕ) → i < l.label-index → get_or l.labels i 0 ≡ cond (eqb (get_or l.fn.labels i 0) l.other) l.least (get_or l.fn.labels i 0);
  after : (i : ℕ) → l.label-index ≤ i → get_or l.labels i 0 ≡ get_or l.fn.labels i 0;
}
