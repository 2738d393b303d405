use Rattle.std.proofs.Common.{◌++◌}
use Rattle.proc_eq.proofs.Choosing.{chosen_more}
use Rattle.proc_eq.proofs.choice.choose.Goals as goal

pub loop-own-preserved : goal.loop-own-preserved
loop-own-preserved c =
    chosen_more c.args.labels.now c.loop-own.processes (c.args.lits.now ++ c.args.more.now) c.loop-own.own c.next_process.result c.loop-own.invariant
    c.loop-own-test.true c.requires.low c.requires.places c.next_process.ensures.low c.next_process.ensures.same c.next_process.ensures.place
    c.next_process.ensures.least
