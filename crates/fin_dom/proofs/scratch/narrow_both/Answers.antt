use Rattle.fin_dom.proofs.Solving.{narrows_join, refuted_second}
use Rattle.fin_dom.proofs.scratch.narrow_both.Goals as goal

pub returns-clause-narrows : goal.returns-clause-narrows
returns-clause-narrows c e =
    narrows_join c.args.lits.now c.args.more.now c.args.masks.now c.narrow_all.new.masks c.narrow_all-2.new.masks
    (c.narrow_all.ensures.narrows c.if-not-narrow_all.false) (c.narrow_all-2.ensures.narrows e)

pub returns-clause-none : goal.returns-clause-none
returns-clause-none c e =
    refuted_second c.args.lits.now c.args.more.now c.args.masks.now c.narrow_all.new.masks
    (c.narrow_all.ensures.narrows c.if-not-narrow_all.false) (c.narrow_all-2.ensures.none e)
