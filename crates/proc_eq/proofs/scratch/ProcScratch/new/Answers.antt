use Rattle.std.proofs.Common.{◌≡◌, ◌++◌, [], length, take, drop, refl, arith}
use Rattle.proc_eq.proofs.Merging.{merged_none}
use Rattle.proc_eq.proofs.Closing.{closed, written_back}
use Rattle.proc_eq.proofs.scratch.ProcScratch.new.Goals as goal

pub returns : goal.returns
returns c =
    let old = c.in_ok-table.table.items in
    let new = c.reset.new.labels in
    let back : take c.in_ok-table.table.len (new ++ drop (length new) old) ≡ new =
    written_back old new c.in_ok-table.table.len (omega (arith, c.reset.ensures.size, c.in_ok-table.table.ok.0, c.in_ok-table.ensures.len))
    (omega (arith, c.in_ok-table.table.ok.0)) in
    rw back (closed 0 [] new (omega arith) (merged_none 0 new c.reset.ensures.size c.reset.ensures.own) refl)
