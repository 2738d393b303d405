use Rattle.std.proofs.Common.{◌≡◌, ◌&&◌, true, not, inl, inr, sym, ap, ◌∙◌, arith}
use Rattle.std.proofs.lemmas.Bool.{cases_Bool, or_cases}
use Rattle.cub_proto.specs.Truth.{has_bit}
use Rattle.subsume.proofs.Bits.{all_bits}
use Rattle.cover_index.proofs.columns.next_beyond.Goals as goal

pub returns-clause-passed : goal.returns-clause-passed
returns-clause-passed c i low high = elim (cases_Bool (has_bit c.either.result i)) [
  | inl inside ↦ elim (or_cases (has_bit c.args.word i) (has_bit c.below.result i) (sym (c.either.ensures i) ∙ inside)) [
    | inl here ↦ here
    | inr before ↦ let less = c.below.ensures i before in absurd (omega arith)
  ]
  | inr outside ↦
      let there : has_bit c.beyond-lacking.result i ≡ true =
      c.beyond-lacking.ensures i ∙ ap (λ a. a && not (has_bit c.either.result i)) (all_bits i (omega (arith, c.requires.few))) ∙ ap (λ b. not b) outside in
      let least = c.low.ensures i there in
      absurd (omega (arith, least, low, high))
]
