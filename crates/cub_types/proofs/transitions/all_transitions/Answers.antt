use Rattle.std.proofs.Common.{◌≡◌, ◌∷◌, ◌+◌, drop, sym, ap, ◌∙◌, arith}
use Rattle.std.proofs.lemmas.List.Sums.{fold-append}
use Rattle.cub_names.specs.Checked.{first_of_all, earlier, appended}
use Rattle.cub_names.proofs.RepeatSteps.{drop_more}
use Rattle.cub_types.specs.Typing.{transition_at, transitions_of}
use Rattle.cub_types.proofs.Fronts.{appended_assoc}
use Rattle.cub_types.proofs.transitions.all_transitions.Goals as goal

pub loop-rest-preserved : goal.loop-rest-preserved
loop-rest-preserved c =
    let frame = c.args.names.now in
    let rests = c.args.rests.now in
    let i = c.loop-rest.rest-index in
    let item = c.rest-item.result in
    let A = transition_at frame item in
    let R = transitions_of frame (drop (i + 1) rests) in
    let next = drop_more rests i item (omega arith) ∙ ap (λ x. x ∷ drop (i + 1) rests) (sym c.rest-item.is) in
    record {
      value =
          ap (λ f. appended f R.value) c.in_ok-found.ensures.value
          ∙ appended_assoc c.loop-rest.found A.value R.value
          ∙ sym (ap (λ xs. appended c.loop-rest.found (transitions_of frame xs).value) next)
          ∙ c.loop-rest.invariant.value;
      first =
          ap (λ f. first_of_all f R.faults) c.in_ok-found.ensures.first
          ∙ sym (fold-append earlier c.loop-rest.first A.faults R.faults)
          ∙ sym (ap (λ xs. first_of_all c.loop-rest.first (transitions_of frame xs).faults) next)
          ∙ c.loop-rest.invariant.first;
    }
