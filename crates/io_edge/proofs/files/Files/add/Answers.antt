use Rattle.io_edge.proofs.Distinct.{distinct_more}
use Rattle.io_edge.proofs.files.Files.add.Goals as goal

pub invariant_of-self-2 : goal.invariant_of-self-2
invariant_of-self-2 c = rw c.in_ok-append.ensures.ok
    (distinct_more c.self.inside.list _ (rw (← c.self.view_is) at c.requires) c.self.invariant)
