use Rattle.std.proofs.Common.{◌≡◌, IsTrue, sym, ap, subst, ◌∙◌, arith}
use Rattle.std.specs.Prelude.{map}
use Rattle.cub_proto.specs.StateOf.{signature_of}
use Rattle.cub_proto.specs.Fits.{literal_fits}
use Rattle.cub_cube.specs.Replace.{replaced, can_replace_all}
use Rattle.cub_cube.proofs.Replaced.{replaced_fits_wide}
use Rattle.updates.specs.Chosen.{value_in, taken_value}
use Rattle.updates.specs.Allowed.{choice_fits, every_place}
use Rattle.updates.proofs.StepLemmas.{all_member, choice_parts, values_can}
use Rattle.updates.proofs.step.literal_before.Goals as goal

pub replaced-requires-clause-can : goal.replaced-requires-clause-can
replaced-requires-clause-can c =
    let p = c.args.protocol.now in
    let sig = signature_of p in
    let updates = c.args.updates.now in
    let params = c.args.params.now in
    let choices = c.args.choices.now in
    let can = values_can p updates params c.requires.fit every_place every_place (omega arith) c.requires.inside choices c.args.lit.now c.requires.fits
    (λ d h. choice_parts p every_place updates params d (all_member (choice_fits sig every_place updates params) choices d c.requires.allowed h)) c.requires.has in
    subst (λ ts. IsTrue (can_replace_all sig every_place (value_in ts c.as_slice-2.result.now) c.args.lit.now)) (sym (c.as_slice.ensures.value ∙ c.in_ok-terms.ensures))
    (subst (λ vs. IsTrue (can_replace_all sig every_place (value_in (map (λ d. d.term) choices) vs) c.args.lit.now)) (sym (c.as_slice-2.ensures.value ∙ c.in_ok-values.ensures)) can)

pub returns-clause-fits : goal.returns-clause-fits
returns-clause-fits c =
    let p = c.args.protocol.now in
    let sig = signature_of p in
    let updates = c.args.updates.now in
    let params = c.args.params.now in
    let choices = c.args.choices.now in
    let can = values_can p updates params c.requires.fit every_place every_place (omega arith) c.requires.inside choices c.args.lit.now c.requires.fits
    (λ d h. choice_parts p every_place updates params d (all_member (choice_fits sig every_place updates params) choices d c.requires.allowed h)) c.requires.has in
    let same_terms : c.as_slice.result.now ≡ map (λ d. d.term) choices = c.as_slice.ensures.value ∙ c.in_ok-terms.ensures in
    let same_values : c.as_slice-2.result.now ≡ map (taken_value updates params) choices = c.as_slice-2.ensures.value ∙ c.in_ok-values.ensures in
    subst (λ l. IsTrue (literal_fits sig every_place l))
    (sym (c.replaced.ensures ∙ ap (λ ts. replaced sig (value_in ts c.as_slice-2.result.now) c.args.lit.now) same_terms ∙ ap (λ vs. replaced sig (value_in (map (λ d. d.term) choices) vs) c.args.lit.now) same_values))
    (replaced_fits_wide p every_place every_place (value_in (map (λ d. d.term) choices) (map (taken_value updates params) choices)) c.args.lit.now (omega arith) c.requires.fits can)
