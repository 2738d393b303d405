use Rattle.std.proofs.Common.{◌∙◌, sym, arith}
use Rattle.std.proofs.lemmas.Bool.{true≢false}
use Rattle.subsume.proofs.Placed.{lits_fit_reach, put_within, put_partial, put_none, whole_free}
use Rattle.subsume.proofs.injections.put_place.Goals as goal

pub returns-then-is_taken-clause-none : goal.returns-then-is_taken-clause-none
returns-then-is_taken-clause-none c e q whole front here =
    whole_free c.args.protocol.now c.args.big.now c.args.small.now q _ c.args.c c.args.k whole c.requires.inside front here (c.is_taken.ensures.0 c.if-is_taken.true)

pub last_follow-requires-clause-fit : goal.last_follow-requires-clause-fit
last_follow-requires-clause-fit c = lits_fit_reach c.args.protocol.now c.args.big.now c.as_slice.result.now c.as_slice.ensures c.requires.fits

pub last_follow-requires-clause-within : goal.last_follow-requires-clause-within
last_follow-requires-clause-within c = put_within c.args.places.now c.args.k c.args.c c.args.small.now.width (omega arith) c.requires.partial.within c.requires.below

pub returns-clause-next : goal.returns-clause-next
returns-clause-next c h =
    put_partial c.args.protocol.now c.args.big.now c.args.small.now c.as_slice.result.now c.args.places.now c.args.k c.args.c c.as_slice.ensures (omega arith) c.requires.partial c.requires.below
    (λ there. true≢false (sym (c.is_taken.ensures.1 there) ∙ c.if-is_taken.false)) (c.last_follow.ensures.exact.0 h)

pub returns-clause-none : goal.returns-clause-none
returns-clause-none c h q whole front here =
    put_none c.args.protocol.now c.args.big.now c.args.small.now c.as_slice.result.now c.args.places.now c.args.k c.args.c c.as_slice.ensures (omega arith) c.requires.inside
    (λ last. true≢false (sym (c.last_follow.ensures.exact.1 last) ∙ h)) q whole front here
