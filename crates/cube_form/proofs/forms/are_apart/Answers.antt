use Rattle.std.proofs.Common.{◌≡◌, ◌≢◌, ◌∙◌, ℕ, true, false, arith, sym}
use Rattle.std.specs.Prelude.{AllPairs}
use Rattle.cube_form.proofs.Loops.{apart_more, apart_end, stands_twice, yes, not_so}
use Rattle.cube_form.proofs.forms.are_apart.Goals as goal

pub returns-then-has_place : goal.returns-then-has_place
returns-then-has_place c = not_so (AllPairs (λ (p q : ℕ). p ≢ q) c.args.places.now) (λ apart. stands_twice c.args.places.now c.loop-at.at (omega arith) (c.has_place.ensures.0 c.if-has_place.true) apart)

pub loop-at-preserved : goal.loop-at-preserved
loop-at-preserved c = apart_more c.args.places.now c.loop-at.at (omega arith)
    (λ there. let found = c.has_place.ensures.1 there in let none = c.if-has_place.false in let e : false ≡ true = sym none ∙ found in cc) c.loop-at.invariant

pub returns : goal.returns
returns c = yes (AllPairs (λ (p q : ℕ). p ≢ q) c.args.places.now) (apart_end c.args.places.now c.loop-at.at (omega arith) c.loop-at.invariant)
