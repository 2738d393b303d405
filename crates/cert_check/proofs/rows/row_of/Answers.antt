use Rattle.std.proofs.Common.{arith}
use Rattle.cub_proto.specs.declared.literal.Term.TheVariants.{Global}
use Rattle.cub_proto.specs.declared.literal.Lit.TheVariants.{FinIn}
use Rattle.cert_check.proofs.Looping.{row_more, row_all}
use Rattle.cert_check.proofs.rows.row_of.Goals as goal

pub loop-lit-preserved : goal.loop-lit-preserved
loop-lit-preserved c = record {
  ready = c.narrow_by.ensures.ready;
  size = c.narrow_by.ensures.size;
  row = row_more c.args.protocol.now c.args.big.now c.args.width c.args.lits.now c.args.count c.args.k c.loop-lit.lit-index (FinIn (Global 0) 0) c.loop-lit.row c.narrow_by.new.row (omega arith) c.loop-lit.invariant.row
      c.narrow_by.ensures.exact;
}

pub returns-clause-row : goal.returns-clause-row
returns-clause-row c = row_all c.args.protocol.now c.args.big.now c.args.width c.args.lits.now c.args.count c.args.k c.loop-lit.lit-index c.loop-lit.row (omega arith) c.loop-lit.invariant.row
