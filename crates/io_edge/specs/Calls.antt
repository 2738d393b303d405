-- The calls that a form in memory is told to fail, by their numbers from 0.
use Rattle.std.specs.Prelude.{ℕ, Bool, ◌==◌, nat_lt, List}
use Rattle.std.specs.List.{list_any, list_all}

-- the call with that number is to fail
abbrev pub is_among : List ℕ → ℕ → Bool
is_among fails call = list_any (λ fail. fail == call) fails

-- no call with that number or a later one is to fail
abbrev pub are_past : List ℕ → ℕ → Bool
are_past fails call = list_all (λ fail. nat_lt fail call) fails
