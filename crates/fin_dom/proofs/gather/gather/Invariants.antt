use Rattle.std.proofs.Common.{◌≡◌, ◌++◌, List, length, take}
use Rattle.cub_proto.specs.declared.literal.Lit.{Lit}
use Rattle.cub_proto.specs.StateOf.{signature_of}
use Rattle.fin_dom.specs.Gathered.{AreGathered}
use Rattle.fin_dom.proofs.gather.gather.Given as goal

abbrev pub invariant-loop-lit : goal.invariant-loop-lit
invariant-loop-lit l = record {
  size : length l.masks ≡ length l.fn.masks;
  gathered : (lits : List Lit) → AreGathered (signature_of l.protocol) lits l.fn.masks → AreGathered (signature_of l.protocol) (lits ++ take l.lit-index l.more) l.masks;
}
