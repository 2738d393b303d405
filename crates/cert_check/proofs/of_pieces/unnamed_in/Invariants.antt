use Rattle.std.proofs.Common.{ℕ, ◌<◌}
use Rattle.theory.specs.Made.{IsFor}
use Rattle.cert_check.specs.declared.keys.Key.{Key}
use Rattle.cert_check.specs.Listed.{NamedIn}
use Rattle.cert_check.specs.Obligations.{IsOwed}
use Rattle.cert_check.specs.Walked.{HasCome}
use Rattle.cert_check.proofs.of_pieces.unnamed_in.Given as goal

abbrev pub invariant-loop-n : goal.invariant-loop-n
invariant-loop-n l = record {
  made : IsFor l.protocol l.scratch;
  come : HasCome (IsOwed l.protocol l.cubes) l.lines (Key.Piece l.k l.n) l.cursor;
  hold : (m : ℕ) → m < l.n → NamedIn l.protocol l.cubes l.lines l.k l.list m;
}
