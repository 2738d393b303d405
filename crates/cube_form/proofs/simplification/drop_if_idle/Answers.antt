use Rattle.std.proofs.Common.{◌≡◌, ◌∙◌, List, sym, ap, subst, inl, inr, IsTrue}
use Rattle.std.specs.List.{remove, insert}
use Rattle.std.proofs.lemmas.List.{get_or_default}
use Rattle.cub_base.proofs.Conjunctions.{list_all_item}
use Rattle.cub_proto.specs.declared.literal.Term.TheVariants as Term
use Rattle.cub_proto.specs.declared.literal.Lit.{Lit}
use Rattle.cub_proto.specs.declared.literal.Lit.TheVariants.{FinIn}
use Rattle.cub_proto.specs.StateOf.{signature_of}
use Rattle.cub_proto.specs.Fits.{literal_fits, is_bounded}
use Rattle.cub_cube.specs.Meaning.{IsConsistent}
use Rattle.theory_laws.specs.Fitting.{AreFitting, greatest_size}
use Rattle.theory_laws.specs.Entailed.{Entails}
use Rattle.cube_form.specs.Simple.{literal_at}
use Rattle.cube_form.proofs.Removal.{removed_fitting, removed_consistent, put_back}
use Rattle.cube_form.proofs.simplification.drop_if_idle.Goals as goal

pub is_entailed-requires-clause-fitting : goal.is_entailed-requires-clause-fitting
is_entailed-requires-clause-fitting c =
    subst (AreFitting c.args.protocol.now c.args.width) (sym (c.as_slice.ensures.value ∙ c.remove-lit.ensures.items))
    (removed_fitting c.args.protocol.now c.args.width c.args.lits.now.items c.args.at c.requires.fitting)

pub is_entailed-requires-clause-fits : goal.is_entailed-requires-clause-fits
is_entailed-requires-clause-fits c =
    subst (λ (l : Lit). IsTrue (literal_fits (signature_of c.args.protocol.now) c.args.width l)) (sym c.remove-lit.ensures.value)
    (list_all_item (literal_fits (signature_of c.args.protocol.now) c.args.width) c.args.lits.now.items c.args.at c.remove-lit.result c.requires.inside c.requires.fitting.fit)

pub is_entailed-requires-clause-bounded : goal.is_entailed-requires-clause-bounded
is_entailed-requires-clause-bounded c =
    subst (λ (l : Lit). IsTrue (is_bounded greatest_size l)) (sym c.remove-lit.ensures.value)
    (list_all_item (is_bounded greatest_size) c.args.lits.now.items c.args.at c.remove-lit.result c.requires.inside c.requires.fitting.bounded)

pub is_entailed-requires-clause-met : goal.is_entailed-requires-clause-met
is_entailed-requires-clause-met c h =
    subst (λ (ls : List Lit). IsConsistent c.args.protocol.now c.args.width ls) (sym (c.as_slice.ensures.value ∙ c.remove-lit.ensures.items))
    (removed_consistent c.args.protocol.now c.args.width c.args.lits.now.items c.args.at (c.requires.met h))

pub returns-then-not-is_entailed-clause-exact : goal.returns-then-not-is_entailed-clause-exact
returns-then-not-is_entailed-clause-exact c =
    let same : c.remove-lit.result ≡ literal_at c.args.lits.now.items c.args.at = c.remove-lit.ensures.value ∙ get_or_default c.args.lits.now.items c.args.at c.remove-lit.result (FinIn (Term.Global 0) 0) c.requires.inside in
    let others : c.as_slice.result.now ≡ remove c.args.lits.now.items c.args.at = c.as_slice.ensures.value ∙ c.remove-lit.ensures.items in
    let back : c.put_back.new.lits.items ≡ c.args.lits.now.items =
    c.put_back.ensures ∙ ap (λ (ls : List Lit). insert ls c.args.at c.remove-lit.result) c.remove-lit.ensures.items
    ∙ ap (insert (remove c.args.lits.now.items c.args.at) c.args.at) c.remove-lit.ensures.value
    ∙ put_back c.args.lits.now.items c.args.at c.remove-lit.result c.requires.inside in
    inr (
      (λ idle. let yes = c.is_entailed.ensures.exact.1
          (subst (λ (ls : List Lit). Entails c.args.protocol.now c.args.width ls c.remove-lit.result) (sym others)
          (subst (Entails c.args.protocol.now c.args.width (remove c.args.lits.now.items c.args.at)) (sym same) idle)) in let no = c.if-not-is_entailed.true in cc),
      back,
    )

pub returns-else-not-is_entailed-clause-exact : goal.returns-else-not-is_entailed-clause-exact
returns-else-not-is_entailed-clause-exact c =
    let same : c.remove-lit.result ≡ literal_at c.args.lits.now.items c.args.at = c.remove-lit.ensures.value ∙ get_or_default c.args.lits.now.items c.args.at c.remove-lit.result (FinIn (Term.Global 0) 0) c.requires.inside in
    let others : c.as_slice.result.now ≡ remove c.args.lits.now.items c.args.at = c.as_slice.ensures.value ∙ c.remove-lit.ensures.items in
    inl (
      subst (λ (ls : List Lit). Entails c.args.protocol.now c.args.width ls (literal_at c.args.lits.now.items c.args.at)) others
          (subst (Entails c.args.protocol.now c.args.width c.as_slice.result.now) same (c.is_entailed.ensures.exact.0 c.if-not-is_entailed.false)),
      c.remove-lit.ensures.items,
    )
