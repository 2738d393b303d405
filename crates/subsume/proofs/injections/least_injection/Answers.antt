use Rattle.std.proofs.Common.{◌∙◌, List, [], refl, sym, subst, arith}
use Rattle.std.proofs.lemmas.Bool.{true≢false}
use Rattle.cub_proto.specs.declared.literal.Lit.{Lit}
use Rattle.subsume.specs.Injections.{LastFollow, IsWhole}
use Rattle.subsume.proofs.Placed.{lits_fit_reach, covers_whole, least_covers, partial_front, last_from_partial}
use Rattle.subsume.proofs.injections.least_injection.Goals as goal

pub last_follow-requires-clause-fit : goal.last_follow-requires-clause-fit
last_follow-requires-clause-fit c = lits_fit_reach c.args.protocol.now c.args.big.now c.as_slice.result.now c.as_slice.ensures c.requires.fits

pub returns-then-not-last_follow-clause-none : goal.returns-then-not-last_follow-clause-none
returns-then-not-last_follow-clause-none c h (r, covers) =
    let whole : IsWhole c.args.protocol.now c.args.big.now c.args.small.now r = covers_whole c.args.protocol.now c.args.big.now c.args.small.now c.requires.fits r covers in
    let first = last_from_partial c.args.protocol.now c.args.big.now.lits c.args.small.now [] (partial_front c.args.protocol.now c.args.big.now.lits c.args.small.now r 0 (omega arith) whole.partial) in
    true≢false (sym (c.last_follow.ensures.exact.1 (subst (λ (xs : List Lit). LastFollow c.args.protocol.now xs c.args.small.now []) (sym c.as_slice.ensures) first)) ∙ c.if-not-last_follow.true)

pub returns-clause-found : goal.returns-clause-found
returns-clause-found c h =
    least_covers c.args.protocol.now c.args.big.now c.args.small.now c.requires.fits c.complete.new.places (omega (arith, c.complete.ensures.size)) (c.complete.ensures.found h) (c.complete.ensures.least h)

pub returns-clause-none : goal.returns-clause-none
returns-clause-none c h (r, covers) = c.complete.ensures.none h r (covers_whole c.args.protocol.now c.args.big.now c.args.small.now c.requires.fits r covers) refl

pub returns-then-not-each_stands-clause-none : goal.returns-then-not-each_stands-clause-none
returns-then-not-each_stands-clause-none c h (r, covers) =
    c.each_stands.ensures.none c.if-not-each_stands.true r (covers_whole c.args.protocol.now c.args.big.now c.args.small.now c.requires.fits r covers)
