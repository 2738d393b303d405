-- What is typed fits what is declared.
use Rattle.std.specs.Prelude.{ℕ, Bool, ◌&&◌, nat_lt, List, Option, IsTrue, IfSome}
use Rattle.std.specs.List.{list_all}
use Rattle.cub_proto.specs.declared.literal.Sort.{Sort}
use Rattle.cub_proto.specs.Signature.{Signature, constructors_of}
use Rattle.cub_dnf.specs.declared.formula.Formula.{Formula}
use Rattle.cub_dnf.specs.Fits.{fits, has_text_bounds}

-- `bool` has its two constructors
abbrev pub has_truths : Signature → Bool
has_truths sig = nat_lt 1 (constructors_of sig (Sort.Fin 0))

-- the formula is of the signature, over places below the width, with the bounds of a text
abbrev pub is_typed : Signature → ℕ → Formula → Bool
is_typed sig width formula = fits sig width formula && has_text_bounds formula

-- so it is where `bool` is what it should be
abbrev pub IsTyped : Signature → ℕ → Formula → Type 0
IsTyped sig width formula = IsTrue (has_truths sig) → IsTrue (is_typed sig width formula)

-- each of the parts is, where they are known
abbrev pub AreTyped : Signature → ℕ → Option (List Formula) → Type 0
AreTyped sig width parts = IsTrue (has_truths sig) → IfSome parts (λ formulas. IsTrue (list_all (is_typed sig width) formulas))
