use Rattle.std.proofs.Common.{◌≡◌, ◌&&◌, ◌||◌, Bool, true, false, not, refl, sym, ap, ◌∙◌}
use Rattle.std.specs.Prelude.{◌==◌, if◌then◌else◌}
use Rattle.cub_proto.specs.Truth.{has_bit}
use Rattle.subsume.proofs.Bits.{power_bits}
use Rattle.cover_index.proofs.columns.with.Goals as goal

put_in : (own word there : Bool) → there ≡ true → (word || own) ≡ (if own then there else word)
put_in true true there is = sym is
put_in true false there is = sym is
put_in false true there is = refl
put_in false false there is = refl

taken_out : (own word there : Bool) → there ≡ false → (word && not own) ≡ (if own then there else word)
taken_out true true there is = sym is
taken_out true false there is = sym is
taken_out false true there is = refl
taken_out false false there is = refl

pub returns-then-there : goal.returns-then-there
returns-then-there c k =
    c.either.ensures k ∙ ap (λ w. has_bit c.args.word k || has_bit w k) c.power.ensures ∙ ap (λ own. has_bit c.args.word k || own) (power_bits c.args.number k)
    ∙ put_in (c.args.number == k) (has_bit c.args.word k) c.args.there c.if-there.true

pub returns-else-there : goal.returns-else-there
returns-else-there c k =
    c.beyond.ensures k ∙ ap (λ w. has_bit c.args.word k && not (has_bit w k)) c.power-else-there.ensures ∙ ap (λ own. has_bit c.args.word k && not own) (power_bits c.args.number k)
    ∙ taken_out (c.args.number == k) (has_bit c.args.word k) c.args.there c.if-there.false
