use Rattle.std.proofs.Common.{◌≤◌, arith}
use Rattle.cub_proto.specs.declared.literal.Lit.TheVariants.{FinIn}
use Rattle.cub_proto.specs.declared.literal.Term.TheVariants.{Global}
use Rattle.fin_dom.proofs.Searching.{passed_more}
use Rattle.fin_dom.proofs.search.next_open.Goals as goal

pub loop-lit-preserved : goal.loop-lit-preserved
loop-lit-preserved c = record {
  low = c.next_of-next.ensures.low;
  high = omega (arith, c.next_of-next.ensures.high, c.loop-lit.invariant.high);
  passed = passed_more c.args.masks.now c.args.from c.loop-lit.next c.next_of-next.result c.args.lits.now c.loop-lit.lit-index (FinIn (Global 0) 0) c.loop-lit-test.true
      c.next_of-next.ensures.high c.loop-lit.invariant.passed c.next_of-next.ensures.passed;
}
