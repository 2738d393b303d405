use Rattle.std.proofs.Common.{◌≡◌, length}
use Rattle.cert_text.specs.Lawful.{are_apart}
use Rattle.cert_text.proofs.covers.are_apart.Given as goal

abbrev pub invariant-loop-first : goal.invariant-loop-first
invariant-loop-first l = are_apart l.rest ≡ are_apart l.places

abbrev pub decreases-loop-first : goal.decreases-loop-first
decreases-loop-first l = length l.rest
