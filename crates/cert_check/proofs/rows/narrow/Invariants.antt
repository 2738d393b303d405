use Rattle.std.proofs.Common.{◌≡◌, ℕ, ◌<◌, ◌≤◌, false, length}
use Rattle.std.specs.Prelude.{◌↔◌, IsTrue, replicate, slice_index_or}
use Rattle.cub_cube.specs.Rename.{renamed}
use Rattle.theory_laws.specs.Entailed.{Entails}
use Rattle.cert_check.specs.Injections.{IsReady}
use Rattle.cert_check.proofs.rows.narrow.Given as goal

abbrev pub invariant-loop-c : goal.invariant-loop-c
invariant-loop-c l = record {
  ready : IsReady l.protocol l.width l.lits l.scratch;
  size : length l.row ≡ 12;
  done : (k : ℕ) → k < l.c → IsTrue (slice_index_or l.row k false)
      ↔ (IsTrue (slice_index_or l.fn.row k false) × Entails l.protocol l.width l.lits (renamed (replicate l.count k) l.lit));
  rest : (k : ℕ) → l.c ≤ k → slice_index_or l.row k false ≡ slice_index_or l.fn.row k false;
}
