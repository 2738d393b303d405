use Rattle.std.proofs.Common.{take}
use Rattle.fin_dom.specs.Links.{Narrows}
use Rattle.fin_dom.proofs.narrow.narrow_all.Given as goal

abbrev pub invariant-loop-lit : goal.invariant-loop-lit
invariant-loop-lit l = Narrows (take l.lit-index l.lits) l.fn.masks l.masks
