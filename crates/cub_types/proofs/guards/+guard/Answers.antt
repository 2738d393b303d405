use Rattle.std.proofs.Common.{◌≡◌, [], ◌∷◌, ◌++◌, sym, subst, ap, ◌∙◌, arith}
use Rattle.std.proofs.lemmas.List.Sums.{fold-append}
use Rattle.std.specs.Prelude.{IfOk, OnOk}
use Rattle.cub_names.specs.Checked.{first_of_all, earlier, appended}
use Rattle.cub_types.specs.Guards.{Split, local, whole, variable_faults}
use Rattle.cub_types.proofs.Fronts.{on_ok}
use Rattle.cub_types.proofs.Deeper.{conjunct_step, split_forall}
use Rattle.cub_types.proofs.guards.+guard.Goals as goal

pub conjunct-returns-clause-own : goal.conjunct-returns-clause-own
conjunct-returns-clause-own t c =
    subst (λ s. IfOk c.deeper.result (λ p. p.own ≡ s.own))
    (sym (conjunct_step c.args.names.now c.args.place c.args.levels c.args.scope.now c.args.node.now (omega arith))) c.deeper.ensures.own

pub conjunct-returns-clause-others : goal.conjunct-returns-clause-others
conjunct-returns-clause-others t c =
    subst (λ s. IfOk c.deeper.result (λ p. p.others ≡ s.others))
    (sym (conjunct_step c.args.names.now c.args.place c.args.levels c.args.scope.now c.args.node.now (omega arith))) c.deeper.ensures.others

pub conjunct-returns-clause-first : goal.conjunct-returns-clause-first
conjunct-returns-clause-first t c =
    subst (λ s. OnOk c.deeper.result (c.deeper.new.first ≡ first_of_all c.args.first.now s.faults))
    (sym (conjunct_step c.args.names.now c.args.place c.args.levels c.args.scope.now c.args.node.now (omega arith))) c.deeper.ensures.first

pub deeper-returns-in_ok-parts-in-Forall-clause-others : goal.deeper-returns-in_ok-parts-in-Forall-clause-others
deeper-returns-in_ok-parts-in-Forall-clause-others t c =
    let frame = c.args.names.now in
    let place = c.args.place in
    let below = c.args.below in
    let wide = c.args.scope.now ++ local c.in-Forall.name place ∷ [] in
    let same = c.as_slice.ensures ∙ c.in_ok-wide-in-Forall.ensures in
    let W = whole frame place below wide c.in-Forall.body in
    let parts = c.in_ok-parts-in-Forall in
    let own = parts.ensures.own ∙ ap (λ s. (whole frame place below s c.get.result.now).own) same ∙ ap (λ b. (whole frame place below wide b).own) c.get.ensures in
    let others = parts.ensures.others ∙ ap (λ s. (whole frame place below s c.get.result.now).others) same ∙ ap (λ b. (whole frame place below wide b).others) c.get.ensures in
    subst (λ o. IfOk c.universal.result (λ p. p.others ≡ o))
    (ap (λ x. appended x parts.parts.others) own ∙ ap (appended W.own) others
    ∙ sym (ap (λ (s : Split). s.others) (split_forall frame place below c.args.scope.now c.args.node.now c.in-Forall.word c.in-Forall.name c.in-Forall.body c.in-Forall.is)))
    c.universal.ensures.others

pub deeper-returns-in_ok-parts-in-Forall-clause-first : goal.deeper-returns-in_ok-parts-in-Forall-clause-first
deeper-returns-in_ok-parts-in-Forall-clause-first t c =
    let frame = c.args.names.now in
    let place = c.args.place in
    let below = c.args.below in
    let wide = c.args.scope.now ++ local c.in-Forall.name place ∷ [] in
    let same = c.as_slice.ensures ∙ c.in_ok-wide-in-Forall.ensures in
    let W = whole frame place below wide c.in-Forall.body in
    let parts = c.in_ok-parts-in-Forall in
    on_ok _ c.universal.result
    (parts.ensures.first
    ∙ ap (λ s. first_of_all c.variable_faults.new.first (whole frame place below s c.get.result.now).faults) same
    ∙ ap (λ b. first_of_all c.variable_faults.new.first (whole frame place below wide b).faults) c.get.ensures
    ∙ ap (λ o. first_of_all o W.faults) c.variable_faults.ensures
    ∙ sym (fold-append earlier c.args.first.now (variable_faults frame place c.args.scope.now c.in-Forall.name) W.faults)
    ∙ sym (ap (λ (s : Split). first_of_all c.args.first.now s.faults) (split_forall frame place below c.args.scope.now c.args.node.now c.in-Forall.word c.in-Forall.name c.in-Forall.body c.in-Forall.is)))
