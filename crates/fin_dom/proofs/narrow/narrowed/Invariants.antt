use Rattle.std.proofs.Common.{◌≡◌, ℕ, ◌&&◌, take}
use Rattle.std.specs.List.{list_all}
use Rattle.cub_proto.specs.Truth.{has_bit}
use Rattle.fin_dom.specs.Links.{agrees}
use Rattle.fin_dom.proofs.narrow.narrowed.Given as goal

abbrev pub invariant-loop-lit : goal.invariant-loop-lit
invariant-loop-lit l = (c : ℕ) → has_bit l.left c ≡ (has_bit l.mask c && list_all (agrees l.masks l.i c) (take l.lit-index l.lits))
