use Rattle.std.proofs.Common.{◌∙◌, replicate, sym, arith}
use Rattle.std.proofs.lemmas.Bool.{true≢false}
use Rattle.std.proofs.lemmas.List.{get_or-replicate}
use Rattle.subsume.proofs.Alone.{lits_fit_wide, whole_own}
use Rattle.subsume.proofs.standing.stands_at.Goals as goal

pub own_follow-requires-clause-fit : goal.own_follow-requires-clause-fit
own_follow-requires-clause-fit c = lits_fit_wide c.args.protocol.now c.args.big.now c.as_slice.result.now 12 c.as_slice.ensures c.requires.fits c.requires.narrow

pub returns-clause-none : goal.returns-clause-none
returns-clause-none c h q whole here =
    true≢false (sym (c.own_follow.ensures.exact.1 (whole_own c.args.protocol.now c.args.big.now c.args.small.now c.as_slice.result.now q (replicate 12 c.args.c) c.args.k c.as_slice.ensures c.requires.fits whole
    (get_or-replicate 12 c.args.k c.args.c 0 (omega (arith, c.requires.inside, c.requires.narrow)) ∙ sym here))) ∙ h)
