use Rattle.std.proofs.Common.{◌∙◌, [], ℕ, sym, subst}
use Rattle.std.specs.Prelude.{slice_index_or}
use Rattle.std.proofs.lemmas.Bool.{true≢false}
use Rattle.std.proofs.Math.ListN.{length-set}
use Rattle.cert_check.proofs.Looping.{all_set}
use Rattle.cert_check.proofs.Putting.{AllFit, put_partial, put_open, put_joint}
use Rattle.cert_check.proofs.injections.put_place.Goals as goal

pub returns-then-not-is_open-clause-none : goal.returns-then-not-is_open-clause-none
returns-then-not-is_open-clause-none c e q covers front here =
    true≢false
    (sym (c.is_open.ensures.1
    (put_open c.args.protocol.now c.args.big.now c.args.count c.args.width c.args.lits.now c.requires.fit c.args.places.now c.args.k c.args.c c.requires.size c.requires.inside q covers front here
    (slice_index_or c.args.rows.now c.args.k []) (c.requires.rows.each c.args.k c.requires.inside)))
    ∙ c.if-not-is_open.true)

pub joint_follow-requires-clause-fit : goal.joint_follow-requires-clause-fit
joint_follow-requires-clause-fit c = subst (λ (n : ℕ). AllFit c.args.protocol.now n c.args.big.now) (sym (length-set c.args.places.now c.args.k c.args.c ∙ c.requires.size)) c.requires.fit

pub joint_follow-requires-clause-within : goal.joint_follow-requires-clause-within
joint_follow-requires-clause-within c = all_set c.args.width c.args.places.now c.args.k c.args.c c.requires.below c.requires.within

pub returns-clause-within : goal.returns-clause-within
returns-clause-within c = all_set c.args.width c.args.places.now c.args.k c.args.c c.requires.below c.requires.within

pub returns-clause-next : goal.returns-clause-next
returns-clause-next c h =
    let free = c.is_open.ensures.0 c.if-not-is_open.false in
    put_partial c.args.protocol.now c.args.big.now c.args.count c.args.width c.args.lits.now c.requires.fit c.args.places.now c.args.k c.args.c c.requires.size c.requires.inside
    (slice_index_or c.args.rows.now c.args.k []) (c.requires.rows.each c.args.k c.requires.inside) c.requires.below free.0 free.1 c.requires.partial (c.joint_follow.ensures.exact.0 h)

pub returns-clause-none : goal.returns-clause-none
returns-clause-none c e q covers front here =
    true≢false
    (sym (c.joint_follow.ensures.exact.1
    (put_joint c.args.protocol.now c.args.big.now c.args.count c.args.width c.args.lits.now c.requires.fit c.args.places.now c.args.k c.args.c c.requires.size c.requires.inside q covers front here))
    ∙ e)
