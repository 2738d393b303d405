use Rattle.std.proofs.Common.{◌≡◌, ◌<◌, ◌++◌, true, arith, sym, ◌∙◌, below_more}
use Rattle.std.specs.List.{list_any}
use Rattle.proc_eq.specs.Chosen.{forbids}
use Rattle.proc_eq.proofs.Choosing.{forbidden_low}
use Rattle.proc_eq.proofs.choice.least_free.Goals as goal

pub loop-n-smaller : goal.loop-n-smaller
loop-n-smaller c =
    let now : list_any (forbids c.args.labels.now c.args.processes.now c.args.own c.loop-n.n) (c.args.lits.now ++ c.args.more.now) ≡ true = sym c.is_forbidden.ensures ∙ c.loop-n-test.true in
    let less : c.loop-n.n < c.args.own = forbidden_low c.args.labels.now c.args.processes.now (c.args.lits.now ++ c.args.more.now) c.args.own c.loop-n.n c.requires.low now in
    omega arith

pub loop-n-preserved : goal.loop-n-preserved
loop-n-preserved c =
    let now : list_any (forbids c.args.labels.now c.args.processes.now c.args.own c.loop-n.n) (c.args.lits.now ++ c.args.more.now) ≡ true = sym c.is_forbidden.ensures ∙ c.loop-n-test.true in
    let less : c.loop-n.n < c.args.own = forbidden_low c.args.labels.now c.args.processes.now (c.args.lits.now ++ c.args.more.now) c.args.own c.loop-n.n c.requires.low now in
    record { low = omega arith; below = below_more _ _ c.loop-n.invariant.below now }
