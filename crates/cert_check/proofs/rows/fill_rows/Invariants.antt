use Rattle.std.proofs.Common.{◌≡◌, ℕ, ◌<◌, [], length}
use Rattle.std.specs.Prelude.{slice_index_or}
use Rattle.cert_check.specs.Injections.{IsReady, IsRow}
use Rattle.cert_check.proofs.rows.fill_rows.Given as goal

abbrev pub invariant-loop-k : goal.invariant-loop-k
invariant-loop-k l = record {
  ready : IsReady l.protocol l.width l.lits l.scratch;
  size : length l.rows ≡ 8;
  each : (j : ℕ) → j < l.k → IsRow l.protocol l.big l.width l.lits l.count j (slice_index_or l.rows j []);
}
