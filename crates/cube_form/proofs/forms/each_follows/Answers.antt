use Rattle.std.proofs.Common.{length, get_or, arith, sym, subst, rules}
use Rattle.std.specs.Prelude.{All, IsTrue}
use Rattle.std.proofs.lemmas.List.Elements.{All-more}
use Rattle.cub_base.proofs.Conjunctions.{list_all_item}
use Rattle.cub_proto.specs.declared.literal.Term.TheVariants as Term
use Rattle.cub_proto.specs.declared.literal.Lit.{Lit}
use Rattle.cub_proto.specs.declared.literal.Lit.TheVariants.{FinIn}
use Rattle.cub_proto.specs.StateOf.{signature_of}
use Rattle.cub_proto.specs.Fits.{literal_fits}
use Rattle.cub_cube.specs.Rename.{renamed}
use Rattle.cub_cube.proofs.RenamedFits.{fits_within, renamed_fits}
use Rattle.theory_laws.specs.Entailed.{Entails}
use Rattle.cube_form.proofs.Loops.{all_end, yes}
use Rattle.cube_form.proofs.forms.each_follows.Goals as goal

pub renamed-requires : goal.renamed-requires
renamed-requires c =
    fits_within (signature_of c.args.protocol.now) (length c.args.places.now) (get_or c.args.others.now c.loop-other.other-index (FinIn (Term.Global 0) 0))
    (list_all_item (literal_fits (signature_of c.args.protocol.now) (length c.args.places.now)) c.args.others.now c.loop-other.other-index (FinIn (Term.Global 0) 0) (omega arith) c.requires.fit)

pub follows-requires-clause-fits : goal.follows-requires-clause-fits
follows-requires-clause-fits c =
    subst (λ (l : Lit). IsTrue (literal_fits (signature_of c.args.protocol.now) c.args.width l)) (sym c.renamed.ensures)
    (renamed_fits (signature_of c.args.protocol.now) c.args.width c.args.places.now c.requires.below (get_or c.args.others.now c.loop-other.other-index (FinIn (Term.Global 0) 0))
    (list_all_item (literal_fits (signature_of c.args.protocol.now) (length c.args.places.now)) c.args.others.now c.loop-other.other-index (FinIn (Term.Global 0) 0) (omega arith) c.requires.fit))

pub loop-other-preserved : goal.loop-other-preserved
loop-other-preserved c = record {
  kept = search rules;
  made = c.follows.ensures.made;
  loaded = c.follows.ensures.loaded;
  so_far =
      All-more (λ (m : Lit). Entails c.args.protocol.now c.args.width c.args.lits.now (renamed c.args.places.now m)) c.args.others.now c.loop-other.other-index (FinIn (Term.Global 0) 0) (omega arith)
      c.loop-other.invariant.so_far
      (subst (Entails c.args.protocol.now c.args.width c.args.lits.now) c.renamed.ensures (c.follows.ensures.exact.0 c.if-not-follows.false));
}

pub returns-clause-exact : goal.returns-clause-exact
returns-clause-exact c =
    yes (All (λ (m : Lit). Entails c.args.protocol.now c.args.width c.args.lits.now (renamed c.args.places.now m)) c.args.others.now)
    (all_end (λ (m : Lit). Entails c.args.protocol.now c.args.width c.args.lits.now (renamed c.args.places.now m)) c.args.others.now c.loop-other.other-index (omega arith) c.loop-other.invariant.so_far)
