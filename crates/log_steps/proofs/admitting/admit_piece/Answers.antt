use Rattle.std.proofs.Common.{◌≡◌, refl, sym, subst, ◌∙◌, ap, length, get_or, ◌++◌, ◌∷◌, [], arith}
use Rattle.std.proofs.lemmas.List.{get_or_default}
use Rattle.log_form.specs.declared.event.Added.{Added}
use Rattle.log_form.specs.Pieces.{IsFit, widest, greatest_asked}
use Rattle.log_form.proofs.FormFits.{form_fit}
use Rattle.log_steps.specs.Judged.{IsExact, added_of, pick_cubes}
use Rattle.log_steps.specs.Admitted.{no_added, AreAdmitted}
use Rattle.log_steps.proofs.JudgeLemmas.{free_of, covered_of}
use Rattle.log_steps.proofs.AdmitLemmas.{admitted_over, admitted_one, item_added}
use Rattle.log_steps.proofs.admitting.admit_piece.Goals as goal

pub returns-then-is_covered-clause-value : goal.returns-then-is_covered-clause-value
returns-then-is_covered-clause-value g c = λ done are.
    let p = c.args.protocol.now in
    let cubes = g.F.Finder.list c.args.finder.now in
    let items = c.args.items.now in
    let x = c.args.piece.now in
    let picks = c.args.picks.now in
    subst (AreAdmitted p cubes items c.args.room (done ++ x ∷ []) picks) (sym c.if-ended.false)
    (admitted_over p cubes items c.args.room done x picks
    (covered_of p cubes cubes c.as_slice.result.now picks x.cube c.is_covered.result refl c.as_slice.ensures c.is_covered.ensures.value.0 c.if-is_covered.true)
    (subst (AreAdmitted p cubes items c.args.room done picks) c.if-ended.false are))

pub returns-clause-value : goal.returns-clause-value
returns-clause-value g c = λ done are.
    let p = c.args.protocol.now in
    let cubes = g.F.Finder.list c.args.finder.now in
    let items = c.args.items.now in
    let x = c.args.piece.now in
    let picks = c.args.picks.now in
    let k = c.in_ok-pick.pick in
    let item = c.index-items-count.result in
    let count : c.len-count.result ≡ length picks = c.len-count.ensures in
    let below = c.if-count-items.false in
    let left = c.if-count-room.false in
    let of = c.is_of.ensures.value.0 c.if-not-is_of.false in
    let at : item ≡ get_or items (length picks) no_added = c.index-items-count.is ∙ (get_or_default items c.len-count.result item no_added (omega arith) ∙ ap (λ n. get_or items n no_added) count) in
    admitted_one p cubes items c.args.room done x picks c.push.new.list k
    (item_added p (cubes ++ pick_cubes picks) x item (added_of k)
    (free_of p cubes cubes c.as_slice.result.now picks x.cube c.is_covered.result refl c.as_slice.ensures c.is_covered.ensures.value.1 c.if-is_covered.false) c.in_ok-pick.ensures.is of)
    (c.in_ok-pick.ensures.is ∙ at) (omega arith) (omega arith) c.in_ok-push.ensures.ok (subst (λ cs. IsExact p cs k) c.is_covered.ensures.same c.in_ok-pick.ensures.exact)
    (subst (λ (a : Added). IsFit p widest greatest_asked a.cube) (sym c.in_ok-pick.ensures.is) (form_fit p widest greatest_asked x.cube item.places item.cube of.1 c.requires.fit))
    (subst (AreAdmitted p cubes items c.args.room done picks) c.if-ended.false are)
