-- Sides of equalities as the code has them.
use Rattle.std.specs.Prelude.{ℕ, ◌^◌, Bool, true, nat_lt}
use Rattle.cub_cube.specs.Replace.{FiniteSide, Known, Has}
use Rattle.updates.specs.declared.values.Side.{Side}

abbrev pub as_side : Side → FiniteSide
as_side (Side.Known c) = Known c
as_side (Side.Has t) = Has t

-- a known constructor is below 64
abbrev pub is_constructor : Side → Bool
is_constructor (Side.Known c) = nat_lt c 64
is_constructor (Side.Has t) = true

-- the greatest bound of a literal that goes through a step
abbrev pub most_bound : ℕ
most_bound = 2 ^ 48
