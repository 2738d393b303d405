use Rattle.std.proofs.Common.{arith}
use Rattle.std.proofs.lemmas.List.{length_push}
use Rattle.journal_text.proofs.Looping.{lines_more}
use Rattle.journal_text.proofs.items.read_items.Goals as goal

pub loop-items-preserved : goal.loop-items-preserved
loop-items-preserved c =
    let item = c.in-Some.item in
    let shorter = rw c.in-Some.is at c.in_ok-item.ensures.room in
    let found = rw c.in-Some.is at c.in_ok-item.ensures.found in
    let room = c.loop-items.invariant.room in
    let counts = c.loop-items.invariant.counts in
    let longer = length_push c.loop-items.items item in
    rw c.in_ok-push.ensures.ok (record {
      lines = lines_more c.args.protocol.now c.args.node c.loop-items.items item c.args.text.now c.loop-items.rest.now c.in-Some.behind.now c.loop-items.invariant.lines found;
      counts = omega arith;
      room = omega arith;
    })
