use Rattle.std.proofs.Common.{ℕ, ◌<◌, List, ◌++◌, ◌∷◌, [], sym, ap, ◌∙◌, subst}
use Rattle.std.specs.Prelude.{All}
use Rattle.cube_form.proofs.PlaceOrder.{Rise, put_before, put_behind}
use Rattle.cube_form.proofs.naming.+insert_place.Goals as goal

pub returns-then-comes_before-clause-rise : goal.returns-then-comes_before-clause-rise
returns-then-comes_before-clause-rise t c =
    subst (λ (xs : List ℕ). Rise c.args.lits.now xs) (sym c.push-then-comes_before.ensures)
    (put_before c.args.lits.now c.pop.new.self c.insert_place.new.places c.in-Some.last c.args.place
    (subst (λ (xs : List ℕ). Rise c.args.lits.now xs) c.in-Some.ensures c.requires.rise) (sym c.comes_before.ensures ∙ c.if-comes_before.true) c.insert_place.ensures.rise c.insert_place.ensures.items)

pub returns-else-comes_before-clause-rise : goal.returns-else-comes_before-clause-rise
returns-else-comes_before-clause-rise t c =
    subst (λ (xs : List ℕ). Rise c.args.lits.now xs) (sym (c.push-else-comes_before-2.ensures ∙ ap (λ (xs : List ℕ). xs ++ c.args.place ∷ []) c.push-else-comes_before.ensures))
    (put_behind c.args.lits.now c.pop.new.self c.in-Some.last c.args.place
    (subst (λ (xs : List ℕ). Rise c.args.lits.now xs) c.in-Some.ensures c.requires.rise)
    (subst (λ (xs : List ℕ). All (λ p. p < c.args.place) xs) c.in-Some.ensures c.requires.greatest)
    (sym c.comes_before.ensures ∙ c.if-comes_before.false))
