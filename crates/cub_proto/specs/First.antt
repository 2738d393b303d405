-- The first value of each sort.
use Rattle.std.specs.Prelude.{pos}
use Rattle.cub_proto.specs.declared.literal.Sort.{Sort}
use Rattle.cub_proto.specs.declared.state.Val.{Val}
use Rattle.cub_proto.specs.declared.state.Val.TheVariants.{Con, Proc, Int}

-- the first value of a sort
abbrev pub first_value : Sort → Val
first_value (Sort.Fin k) = Con 0
first_value Sort.Proc = Proc 0
first_value Sort.Int = Int (pos 0)
