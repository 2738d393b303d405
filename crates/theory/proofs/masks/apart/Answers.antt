use Rattle.std.proofs.Common.{◌≡◌, ◌≢◌, true, false, subst, sym, ap, ◌∙◌, ℕ, ◌^◌, Option, Some, None}
use Rattle.std.specs.Prelude.{IfSome}
use Rattle.std.proofs.lemmas.Bool.{true≢false}
use Rattle.cub_proto.specs.Truth.{has_bit}
use Rattle.fin_dom.proofs.Masks.{pow_only, pow_has}
use Rattle.theory.proofs.masks.apart.Goals as goal

not_it : (m c : ℕ) (o : Option ℕ) → IfSome o (λ d. (has_bit m d ≡ true) × (has_bit (2 ^ c) d ≡ false)) → IfSome o (λ d. (has_bit m d ≡ true) × (d ≢ c))
not_it m c None h = h
not_it m c (Some d) h = (h.0, λ same. true≢false (sym (pow_has c) ∙ ap (has_bit (2 ^ c)) (sym same) ∙ h.1))

pub returns-clause-has : goal.returns-clause-has
returns-clause-has c =
    not_it c.args.mask c.args.c c.outside.result
    (subst (λ (m : ℕ). IfSome c.outside.result (λ d. (has_bit c.args.mask d ≡ true) × (has_bit m d ≡ false))) c.bit.ensures c.outside.ensures.has)

pub returns-clause-none : goal.returns-clause-none
returns-clause-none c is d h = pow_only c.args.c d (subst (λ (m : ℕ). has_bit m d ≡ true) c.bit.ensures (c.outside.ensures.none is d h))
