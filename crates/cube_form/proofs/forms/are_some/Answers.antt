use Rattle.std.proofs.Common.{◌≡◌, ◌∙◌, true, false, get_or, arith, sym, ap, subst}
use Rattle.std.specs.Prelude.{All, Contains}
use Rattle.std.proofs.lemmas.List.Elements.{All-more}
use Rattle.cub_proto.specs.declared.literal.Term.TheVariants as Term
use Rattle.cub_proto.specs.declared.literal.Lit.{Lit}
use Rattle.cub_proto.specs.declared.literal.Lit.TheVariants.{FinIn}
use Rattle.cub_cube.specs.Normal.{ordered}
use Rattle.cub_cube.specs.Rename.{renamed}
use Rattle.cube_form.proofs.Loops.{all_end, yes, not_so}
use Rattle.cube_form.proofs.forms.are_some.Goals as goal

pub returns-then-not-has_literal : goal.returns-then-not-has_literal
returns-then-not-has_literal c =
    let lit : Lit = get_or c.args.lits.now c.loop-lit.lit-index (FinIn (Term.Global 0) 0) in
    let is : c.ordered.result ≡ ordered (renamed c.args.places.now lit) = c.ordered.ensures ∙ ap ordered c.renamed.ensures in
    not_so (All (λ (l : Lit). Contains c.args.others.now (ordered (renamed c.args.places.now l))) c.args.lits.now)
    (λ all.
    let here : Contains c.args.others.now (ordered (renamed c.args.places.now lit)) = all c.loop-lit.lit-index (FinIn (Term.Global 0) 0) (omega arith) in
    let found = c.has_literal.ensures.1 (subst (Contains c.args.others.now) (sym is) here) in
    let e : false ≡ true = sym c.if-not-has_literal.true ∙ found in cc)

pub loop-lit-preserved : goal.loop-lit-preserved
loop-lit-preserved c =
    let lit : Lit = get_or c.args.lits.now c.loop-lit.lit-index (FinIn (Term.Global 0) 0) in
    let is : c.ordered.result ≡ ordered (renamed c.args.places.now lit) = c.ordered.ensures ∙ ap ordered c.renamed.ensures in
    All-more (λ (l : Lit). Contains c.args.others.now (ordered (renamed c.args.places.now l))) c.args.lits.now c.loop-lit.lit-index (FinIn (Term.Global 0) 0) (omega arith) c.loop-lit.invariant
    (subst (Contains c.args.others.now) is (c.has_literal.ensures.0 c.if-not-has_literal.false))

pub returns : goal.returns
returns c =
    yes (All (λ (l : Lit). Contains c.args.others.now (ordered (renamed c.args.places.now l))) c.args.lits.now)
    (all_end (λ (l : Lit). Contains c.args.others.now (ordered (renamed c.args.places.now l))) c.args.lits.now c.loop-lit.lit-index (omega arith) c.loop-lit.invariant)
