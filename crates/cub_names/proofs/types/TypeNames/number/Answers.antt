use Rattle.std.proofs.Common.{◌≡◌, ℕ, ◌+◌, ◌<◌, ◌≤◌, List, length, Option, Some, None, sym, subst, ◌∙◌, IfSome, arith}
use Rattle.cub_names.specs.Meaning.{number_from}
use Rattle.cub_names.proofs.NamedSteps.{number_within}
use Rattle.cub_names.proofs.types.TypeNames.number.Goals as goal

below : (found : Option ℕ) (bound : ℕ) → IfSome found (λ n. n < 1 + bound) → IfSome found (λ n. n ≤ bound)
below None bound h = tt
below (Some n) bound h = omega (arith, h)

pub returns-clause-within : goal.returns-clause-within
returns-clause-within c =
    below c.found.result (length c.args.self.now)
    (subst (λ words. IfSome c.found.result (λ n. n < 1 + length words)) c.self.view_is
    (subst (λ r. IfSome r (λ n. n < 1 + length c.self.inside.words.items)) (sym (c.found.ensures ∙ c.self.invariant c.args.name.now))
    (number_within 1 c.self.inside.words.items c.args.name.now)))
