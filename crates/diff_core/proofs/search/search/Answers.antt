use Rattle.std.proofs.Common.{take, arith, slice_index}
use Rattle.diff_core.specs.Table.{cell}
use Rattle.diff_core.proofs.Searching.{first_search, pass_ends}
use Rattle.diff_core.proofs.search.search.Goals as goal

pub loop-rank-init : goal.loop-rank-init
loop-rank-init g c = record {
  rank_size = c.begin.ensures.size;
  next_size = c.requires.next_size;
  search = first_search (take c.args.tried (g.C.Constraints.list c.args.constraints.now)) (cell c.args.entries.now) c.args.nodes c.args.target (slice_index c.begin.new.rank) (slice_index c.args.next.now)
      c.requires.target_in c.begin.ensures.one (λ x x_in other. c.begin.ensures.others x (omega (arith, x_in, c.requires.table.few)) other);
}

pub loop-rank-smaller : goal.loop-rank-smaller
loop-rank-smaller g c =
    pass_ends (g.C.Constraints.list c.args.constraints.now) c.args.nodes c.args.entries.now c.args.target c.args.from c.args.tried c.loop-rank.steps c.pass-steps.result c.loop-rank.rank c.loop-rank.next c.pass-steps.new.rank c.pass-steps.new.next
    c.requires.target_in c.requires.from_in c.requires.tried_in c.requires.closure c.requires.near c.pass-steps.ensures.search c.pass-steps.ensures.more c.pass-steps.ensures.done c.loop-rank-test.true
