use Rattle.std.proofs.Common.{◌≡◌, ◌++◌, List, length, take}
use Rattle.cub_proto.specs.declared.literal.Lit.{Lit}
use Rattle.proc_eq.specs.Merged.{AreMerged}
use Rattle.proc_eq.proofs.labels.take_all.Given as goal

abbrev pub invariant-loop-lit : goal.invariant-loop-lit
invariant-loop-lit l = record {
  size : length l.labels ≡ 75;
  merged : (lits : List Lit) → AreMerged l.width lits l.fn.labels → AreMerged l.width (lits ++ take l.lit-index l.more) l.labels;
}
