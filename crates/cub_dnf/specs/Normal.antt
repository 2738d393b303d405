-- The limits of a normal form, and what `normal` answers.
use Rattle.std.specs.Prelude.{◌≡◌, ℕ, ◌<◌, ◌≤◌, max, List, [], ◌∷◌, length, Result, Ok, Err}
use Rattle.cub_proto.specs.declared.literal.Lit.{Lit}
use Rattle.cub_dnf.specs.declared.fault.DnfFault.{DnfFault}
use Rattle.cub_dnf.specs.declared.fault.DnfFault.TheVariants.{TooMany, TooWide, Memory}

-- the most literals in one conjunction
abbrev pub widest : {A : Type 0} → List (List A) → ℕ
widest [] = 0
widest (c ∷ cs) = max (length c) (widest cs)

-- more than 64 conjunctions; or at most 64, and one of more than 64 literals
abbrev pub IsRefused : DnfFault → List (List Lit) → Type 0
IsRefused TooMany list = 64 < length list
IsRefused TooWide list = (length list ≤ 64) × (64 < widest list)
IsRefused Memory list = Unit {0}

-- the list, within the limits; or which limit it is above
abbrev pub IsNormal : Result (List (List Lit)) DnfFault → List (List Lit) → Type 0
IsNormal (Ok found) list = (found ≡ list) × (length list ≤ 64) × (widest list ≤ 64)
IsNormal (Err fault) list = IsRefused fault list
