use Rattle.std.proofs.Common.{◌≡◌, ◌≤◌, ◌↔◌, ℕ, ◌∙◌, sym, ap, subst, refl, arith, ◌++◌, List, Bool, true, false}
use Rattle.std.specs.Prelude.{IsTrue}
use Rattle.std.proofs.lemmas.Bool.{false≢true}
use Rattle.cub_proto.specs.declared.literal.Lit.{Lit}
use Rattle.cub_proto.specs.StateOf.{signature_of}
use Rattle.cub_cube.specs.Meaning.{IsConsistent}
use Rattle.theory_laws.specs.Fitting.{AreFitting}
use Rattle.theory_laws.specs.Start.{start_width, start_at, with_start_literals, IsConsistentWithStart}
use Rattle.theory_laws.proofs.Starting.{wider_all, start_fitting}
use Rattle.theory.specs.Theory.{Theory}
use Rattle.theory.specs.Made.{start_size}
use Rattle.theory.proofs.Starts.{cut_start, cut_inside, few_start}
use Rattle.theory.proofs.consistency.with_start.Goals as goal
use Rattle.theory.proofs.consistency.with_start.Goals.{After-first_places-start}

each_is : (c : After-first_places-start) → c.scratch.inside.each ≡ start_size c.args.protocol.now.start
each_is c = ap (λ (t : Theory). t.each) c.scratch.view_is ∙ c.requires.made.size

all_is : (c : After-first_places-start) → c.deref.result.now ≡ start_at c.args.protocol.now 11
all_is c = c.deref.ensures.value ∙ (ap (λ (t : Theory). t.start) c.scratch.view_is ∙ c.requires.made.literals)

narrow : (c : After-first_places-start) → c.max-width.result ≤ 11
narrow c = omega (arith, c.max-width.ensures, c.requires.fitting.narrow)

part_is : (c : After-first_places-start) → c.first_places-start.result.now ≡ start_at c.args.protocol.now c.max-width.result
part_is c =
    cut_start c.args.protocol.now c.scratch.inside.each c.max-width.result c.deref.result.now c.first_places-start.result.now (each_is c) (all_is c) (narrow c) c.first_places-start.ensures

pub first_places-start-requires-clause-enough : goal.first_places-start-requires-clause-enough
first_places-start-requires-clause-enough c =
    cut_inside c.args.protocol.now c.scratch.inside.each c.max-width.result c.deref.result.now (ap (λ (t : Theory). t.each) c.scratch.view_is ∙ c.requires.made.size)
    (c.deref.ensures.value ∙ (ap (λ (t : Theory). t.start) c.scratch.view_is ∙ c.requires.made.literals)) (omega (arith, c.max-width.ensures, c.requires.fitting.narrow))

pub first_places-start-requires-clause-few : goal.first_places-start-requires-clause-few
first_places-start-requires-clause-few c =
    let few : start_size c.args.protocol.now.start ≤ 64 = few_start c.args.protocol.now in
    let each : c.scratch.inside.each ≡ start_size c.args.protocol.now.start = ap (λ (t : Theory). t.each) c.scratch.view_is ∙ c.requires.made.size in
    omega arith

pub parts_agree-requires-clause-fitting : goal.parts_agree-requires-clause-fitting
parts_agree-requires-clause-fitting c =
    let less : c.args.cube.now.width ≤ c.max-width.result = omega (arith, c.max-width.ensures) in
    let whole : AreFitting c.args.protocol.now c.max-width.result c.args.cube.now.lits = record {
      narrow = omega (arith, c.max-width.ensures, c.requires.fitting.narrow);
      fit = wider_all (signature_of c.args.protocol.now) c.args.cube.now.width c.max-width.result less c.args.cube.now.lits c.requires.fitting.fit;
      bounded = c.requires.fitting.bounded;
    } in
    subst (λ (xs : List Lit). AreFitting c.args.protocol.now c.max-width.result xs) (sym c.as_slice.ensures) whole

pub parts_agree-requires-clause-more_fitting : goal.parts_agree-requires-clause-more_fitting
parts_agree-requires-clause-more_fitting c =
    let d : After-first_places-start = (goal.at.parts_agree-requires-clause-more_fitting c).After-first_places-start in
    subst (λ (xs : List Lit). AreFitting c.args.protocol.now c.max-width.result xs) (sym (part_is d)) (start_fitting c.args.protocol.now c.max-width.result (narrow d))

pub returns-clause-exact : goal.returns-clause-exact
returns-clause-exact c =
    let d : After-first_places-start = (goal.at.returns-clause-exact c).After-first_places-start in
    let width : c.max-width.result ≡ start_width c.args.cube.now.width = c.max-width.ensures in
    let lits : c.as_slice.result.now ++ c.first_places-start.result.now ≡ with_start_literals c.args.protocol.now c.args.cube.now.width c.args.cube.now.lits =
    ap (λ (xs : List Lit). xs ++ c.first_places-start.result.now) c.as_slice.ensures ∙ (ap (λ (ys : List Lit). c.args.cube.now.lits ++ ys) (part_is d) ∙ ap (λ (n : ℕ). c.args.cube.now.lits ++ start_at c.args.protocol.now n) width) in
    let both : IsTrue c.parts_agree.result ↔ IsConsistent c.args.protocol.now (start_width c.args.cube.now.width) (with_start_literals c.args.protocol.now c.args.cube.now.width c.args.cube.now.lits) =
    subst (λ (w : ℕ). IsTrue c.parts_agree.result ↔ IsConsistent c.args.protocol.now w (with_start_literals c.args.protocol.now c.args.cube.now.width c.args.cube.now.lits)) width
    (subst (λ (xs : List Lit). IsTrue c.parts_agree.result ↔ IsConsistent c.args.protocol.now c.max-width.result xs) lits c.parts_agree.ensures.exact) in
    ((λ h. record { some = sym c.requires.made.has_one ∙ (sym (ap (λ (t : Theory). t.has_start) c.scratch.view_is) ∙ c.if-not-scratch.false); consistent = both.0 h }), (λ has. both.1 has.consistent))
