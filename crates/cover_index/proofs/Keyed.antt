-- Words that are made of two.
use Rattle.std.proofs.Common.{ℕ, inl, inr, sym, ◌∙◌}
use Rattle.std.specs.Prelude.{bit_or}
use Rattle.std.proofs.lemmas.Bool.{or_cases}
use Rattle.cub_proto.specs.Truth.{has_bit}
use Rattle.cub_base.proofs.Bools.{or_intro_left, or_intro_right}
use Rattle.subsume.specs.Marks.{IsPart}
use Rattle.subsume.proofs.Bits.{either_bits}

-- a word made of two is a part of another where each of the two is one
pub either_part : (a b x y : ℕ) → IsPart a x → IsPart b y → IsPart (bit_or a b) (bit_or x y)
either_part a b x y first second c below h =
    elim (or_cases (has_bit a c) (has_bit b c) (sym (either_bits a b c) ∙ h)) [
      | inl here ↦ either_bits x y c ∙ or_intro_left (has_bit x c) (has_bit y c) (first c below here)
      | inr there ↦ either_bits x y c ∙ or_intro_right (has_bit x c) (has_bit y c) (second c below there)
    ]
