use Rattle.std.proofs.Common.{ℕ, List, sym, subst}
use Rattle.cub_cube.specs.Rename.{renamed}
use Rattle.theory_laws.specs.Entailed.{Entails}
use Rattle.cert_check.proofs.Looping.{take_replicate}
use Rattle.cert_check.proofs.rows.stays_free.Goals as goal

pub returns-clause-exact : goal.returns-clause-exact
returns-clause-exact c = (
  (λ h. (c.if-not-free.false, subst (λ (r : List ℕ). Entails c.args.protocol.now c.args.width c.args.lits.now (renamed r c.args.lit.now)) (take_replicate c.args.count 8 c.args.c c.requires.few) (c.is_implied.ensures.exact.0 h))),
  (λ both. c.is_implied.ensures.exact.1 (subst (λ (r : List ℕ). Entails c.args.protocol.now c.args.width c.args.lits.now (renamed r c.args.lit.now)) (sym (take_replicate c.args.count 8 c.args.c c.requires.few)) both.1)),
)
