use Rattle.std.proofs.Common.{◌≡◌, drop}
use Rattle.std.specs.List.{list_all}
use Rattle.cub_dnf.specs.Fits.{fits}
use Rattle.cub_dnf.proofs.formula.+fits.Given as goal

abbrev pub invariant-all_fit-loop-part : goal.invariant-all_fit-loop-part
invariant-all_fit-loop-part l = list_all (fits l.declared l.width) (drop l.part-index l.parts) ≡ list_all (fits l.declared l.width) l.parts
