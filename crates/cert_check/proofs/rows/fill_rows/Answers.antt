use Rattle.std.proofs.Common.{ℕ, List, Bool, ◌∙◌, arith}
use Rattle.std.proofs.Math.ListN.{length-set}
use Rattle.cert_check.specs.Injections.{IsRow}
use Rattle.cert_check.proofs.Looping.{rows_more}
use Rattle.cert_check.proofs.Putting.{covers_row}
use Rattle.cert_check.proofs.rows.fill_rows.Goals as goal

pub returns-then-is_full-clause-none : goal.returns-then-is_full-clause-none
returns-then-is_full-clause-none c e found =
    covers_row c.args.protocol.now c.args.big.now c.args.count c.args.width c.args.lits.now c.requires.fit found.0 found.1 c.loop-k.k c.row_of-row.result (omega arith) c.row_of-row.ensures.row
    (c.is_full.ensures.0 c.if-is_full.true)

pub loop-k-preserved : goal.loop-k-preserved
loop-k-preserved c = record {
  ready = c.row_of-row.ensures.ready;
  size = length-set c.loop-k.rows c.loop-k.k c.row_of-row.result ∙ c.loop-k.invariant.size;
  each = rows_more (λ (j : ℕ) (row : List Bool). IsRow c.args.protocol.now c.args.big.now c.args.width c.args.lits.now c.args.count j row) c.loop-k.rows c.loop-k.k c.row_of-row.result (omega (arith, c.loop-k.invariant.size)) c.loop-k.invariant.each
      c.row_of-row.ensures.row;
}
