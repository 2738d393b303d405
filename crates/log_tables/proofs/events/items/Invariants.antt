use Rattle.std.proofs.Common.{All}
use Rattle.log_steps.specs.Readable.{IsReadable}
use Rattle.log_tables.proofs.events.items.Given as goal

abbrev pub invariant-loop-turn : goal.invariant-loop-turn
invariant-loop-turn l = All (λ a. IsReadable l.protocol a.cube) l.list
