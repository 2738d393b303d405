-- What is kept of a list while a formula is gone through: its size, cut one above the limits, and the list itself where
-- it is within them.
use Rattle.std.specs.Prelude.{ℕ, ◌+◌, ◌==◌, min, max, Bool, ◌&&◌, nat_le, List, [], ◌++◌, length, Option, Some, None, if◌then◌else◌}
use Rattle.cub_proto.specs.declared.literal.Lit.{Lit}
use Rattle.cub_dnf.specs.declared.measured.Measured.{Measured}
use Rattle.cub_dnf.specs.Lists.{joins}
use Rattle.cub_dnf.specs.Normal.{widest}

-- numbers that are cut at 65 are within the limits
abbrev pub are_within : ℕ → ℕ → Bool
are_within count width = nat_le count 64 && nat_le width 64

abbrev pub is_within : List (List Lit) → Bool
is_within list = are_within (length list) (widest list)

-- the list where it is within the limits
abbrev pub kept : List (List Lit) → Option (List (List Lit))
kept list = if is_within list then Some list else None

abbrev pub measured : List (List Lit) → Measured
measured list = record { count = min 65 (length list); width = min 65 (widest list); list = kept list }

-- both lists, put together; none where one is not there
abbrev pub together : (List (List Lit) → List (List Lit) → List (List Lit)) → Option (List (List Lit)) → Option (List (List Lit)) → Option (List (List Lit))
together f None right = None
together f (Some left) None = None
together f (Some left) (Some right) = Some (f left right)

-- a join of nothing has no conjunctions, so its width is 0 whatever the factors are
abbrev pub joined_width : ℕ → ℕ → ℕ → ℕ
joined_width count left right = if count == 0 then 0 else min 65 (left + right)

abbrev pub joined_list : ℕ → ℕ → Option (List (List Lit)) → Option (List (List Lit)) → Option (List (List Lit))
joined_list count width left right = if count == 0 then Some [] else (if are_within count width then together joins left right else None)

abbrev pub chained_list : ℕ → ℕ → Option (List (List Lit)) → Option (List (List Lit)) → Option (List (List Lit))
chained_list count width left right = if are_within count width then together (λ a b. a ++ b) left right else None
