use Rattle.std.proofs.Common.{◌∙◌, ℕ, refl, sym, subst}
use Rattle.std.proofs.lemmas.Bool.{false≢true, true≢false}
use Rattle.cert_check.proofs.Putting.{AllFit, covers_plain, partial_none, partial_covers, true_unless}
use Rattle.cert_check.proofs.injections.has_injection.Goals as goal

pub plain_follow-requires-clause-fit : goal.plain_follow-requires-clause-fit
plain_follow-requires-clause-fit c = subst (λ (n : ℕ). AllFit c.args.protocol.now n c.args.big.now) (sym c.requires.size) c.requires.fit

pub returns-then-not-plain_follow-clause-exact : goal.returns-then-not-plain_follow-clause-exact
returns-then-not-plain_follow-clause-exact c = (
  (λ h. absurd (false≢true h)),
  (λ found. absurd (true≢false (sym (c.plain_follow.ensures.exact.1 (covers_plain c.args.protocol.now c.args.big.now c.args.count c.args.width c.args.lits.now c.requires.fit found.0 found.1 c.args.places.now)) ∙ c.if-not-plain_follow.true))),
)

pub returns-then-not-fill_rows-clause-exact : goal.returns-then-not-fill_rows-clause-exact
returns-then-not-fill_rows-clause-exact c = (
  (λ h. absurd (false≢true h)),
  (λ found. absurd (c.fill_rows.ensures.none c.if-not-fill_rows.true found)),
)

pub complete-requires-clause-partial : goal.complete-requires-clause-partial
complete-requires-clause-partial c = partial_none c.args.protocol.now c.args.big.now c.args.width c.args.lits.now c.args.places.now (c.plain_follow.ensures.exact.0 c.if-not-plain_follow.false)

pub returns-clause-exact : goal.returns-clause-exact
returns-clause-exact c = (
  (λ h. (c.complete.new.places, partial_covers c.args.protocol.now c.args.big.now c.args.count c.args.width c.args.lits.now c.complete.new.places c.requires.fit c.complete.ensures.size (c.complete.ensures.found h))),
  (λ found. true_unless c.complete.result (λ e. c.complete.ensures.none e found.0 found.1 refl)),
)
