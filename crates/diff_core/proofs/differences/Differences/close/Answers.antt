use Rattle.std.proofs.Common.{◌≡◌, ℕ, List, take, subst, ap, ◌∙◌}
use Rattle.std.proofs.Math.Seq.{take-length}
use Rattle.diff_core.specs.declared.constraint.Constraint.{Constraint}
use Rattle.diff_core.specs.Table.{cell, far, IsClosureOf}
use Rattle.diff_core.proofs.Exact.{closure_solved}
use Rattle.diff_core.proofs.Paths.{cycle_refutes}
use Rattle.diff_core.proofs.differences.Differences.close.Goals as goal

pub returns-then-taken-count-clause-solved : goal.returns-then-taken-count-clause-solved
returns-then-taken-count-clause-solved g c =
    let all : List Constraint = g.C.Constraints.list c.args.constraints.now in
    let whole : take c.take_all-taken.result all ≡ all = ap (λ (n : ℕ). take n all) (c.if-taken-count.true ∙ c.count.ensures) ∙ take-length all in
    closure_solved all c.take_all-taken.new.self.nodes far (cell c.take_all-taken.new.self.entries) (subst (λ (cs : List Constraint). IsClosureOf cs c.take_all-taken.new.self) whole c.take_all-taken.ensures.taken)

pub returns-clause-refuted : goal.returns-clause-refuted
returns-clause-refuted g c = cycle_refutes (g.C.Constraints.list c.args.constraints.now) c.find.new.self c.find.ensures.cycle
