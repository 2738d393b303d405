use Rattle.std.proofs.Common.{◌≡◌, length, take}
use Rattle.cert_check.specs.Injections.{IsReady, IsRow}
use Rattle.cert_check.proofs.rows.row_of.Given as goal

abbrev pub invariant-loop-lit : goal.invariant-loop-lit
invariant-loop-lit l = record {
  ready : IsReady l.protocol l.width l.lits l.scratch;
  size : length l.row ≡ 12;
  row : IsRow l.protocol (take l.lit-index l.big) l.width l.lits l.count l.k l.row;
}
