use Rattle.std.proofs.Common.{arith}
use Rattle.diff_core.specs.Table.{cell, far}
use Rattle.diff_core.specs.Closed.{Closed}
use Rattle.diff_core.proofs.Grown.{fresh_closed}
use Rattle.std.proofs.lemmas.Int.{ints}
use Rattle.diff_core.proofs.closure.Closure.new.Goals as goal

pub invariant_of-result : goal.invariant_of-result
invariant_of-result c =
    let closed : Closed 0 281474976710656 far (cell c.in_ok-entries.entries.items) =
    fresh_closed 0 281474976710656 far (cell c.in_ok-entries.entries.items) (omega (arith, ints)) (λ i j i_in. absurd (omega (arith, i_in))) in
    record { few = omega arith; size = omega (arith, c.in_ok-entries.ensures.len, c.in_ok-entries.entries.ok); closed = closed }
