-- The first process of a state at which the start formula is false.
use Rattle.std.specs.Prelude.{ℕ, not, [], ◌∷◌, Option, find}
use Rattle.std.specs.List.{range_with_len}
use Rattle.cub_proto.specs.declared.protocol.Protocol.{Protocol}
use Rattle.cub_proto.specs.Configuration.{Configuration, process_count}
use Rattle.cub_proto.specs.Truth.{any_true}

abbrev pub first_unstarted : Protocol → Configuration → Option ℕ
first_unstarted p s = find (λ i. not (any_true s (i ∷ []) p.start)) (range_with_len 0 (process_count s))
