use Rattle.std.proofs.Common.{◌≡◌, take, []}
use Rattle.std.specs.Prelude.{map}
use Rattle.updates.specs.Ways.{way}
use Rattle.updates.specs.Chosen.{choice}
use Rattle.pieces.proofs.work.plain_choices.Given as goal

abbrev pub invariant-loop-term : goal.invariant-loop-term
invariant-loop-term l = l.choices.items ≡ map (λ u. choice u (way 0 [])) (take l.term-index l.terms)
