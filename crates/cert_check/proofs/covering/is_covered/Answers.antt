use Rattle.std.proofs.Common.{◌∙◌, refl, sym}
use Rattle.std.proofs.lemmas.Bool.{true≢false}
use Rattle.cert_check.proofs.covering.is_covered.Goals as goal

pub returns-then-not-load-clause-exact : goal.returns-then-not-load-clause-exact
returns-then-not-load-clause-exact c = ((λ h consistent. absurd (true≢false (sym (c.load.ensures.exact.1 consistent) ∙ c.if-not-load.true))), (λ h. refl))

pub some_covers-requires-clause-ready : goal.some_covers-requires-clause-ready
some_covers-requires-clause-ready c = record { made = c.load.ensures.made; loaded = c.load.ensures.loaded c.if-not-load.false }

pub returns-clause-exact : goal.returns-clause-exact
returns-clause-exact c = (
  (λ h consistent. c.some_covers.ensures.exact.0 h),
  (λ f. c.some_covers.ensures.exact.1 (f (c.load.ensures.exact.0 c.if-not-load.false))),
)
