use Rattle.std.proofs.Common.{◌≡◌, min, length, map, take}
use Rattle.cub_proto.specs.Signature.{Signature}
use Rattle.cub_dnf.specs.Lists.{list_of, all_joins, chained}
use Rattle.cub_dnf.proofs.length.+count.Given as goal

abbrev pub invariant-chained_count-loop-part : goal.invariant-chained_count-loop-part
invariant-chained_count-loop-part l = (sig : Signature) → l.found ≡ min 4097 (length (chained (map (list_of sig l.holds) (take l.part-index l.parts))))

abbrev pub invariant-joined_count-loop-part : goal.invariant-joined_count-loop-part
invariant-joined_count-loop-part l = (sig : Signature) → l.found ≡ min 4097 (length (all_joins (map (list_of sig l.holds) (take l.part-index l.parts))))
