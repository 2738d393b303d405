use Rattle.std.proofs.Common.{◌≡◌, map, take}
use Rattle.cub_proto.specs.StateOf.{signature_of}
use Rattle.cub_dnf.specs.Lists.{list_of, all_joins, chained}
use Rattle.cub_dnf.specs.Measured.{measured}
use Rattle.cub_dnf.proofs.conjunctions.+conjunctions.Given as goal

abbrev pub invariant-all_joined-loop-part : goal.invariant-all_joined-loop-part
invariant-all_joined-loop-part l = l.found ≡ measured (all_joins (map (list_of (signature_of l.protocol) l.holds) (take l.part-index l.parts)))

abbrev pub invariant-all_chained-loop-part : goal.invariant-all_chained-loop-part
invariant-all_chained-loop-part l = l.found ≡ measured (chained (map (list_of (signature_of l.protocol) l.holds) (take l.part-index l.parts)))
