use Rattle.std.proofs.Common.{◌≡◌, ◌≤◌, Some, List, sym, ap, ◌∙◌, subst}
use Rattle.std.specs.Option.{option_copied}
use Rattle.cub_proto.specs.declared.transition.Update.{Update}
use Rattle.cub_proto.specs.Effect.{update_of}
use Rattle.pieces.proofs.StepLists.{found_few}
use Rattle.pieces.proofs.steps.branches_of.Goals as goal

pub returns-in-Some-clause-few : goal.returns-in-Some-clause-few
returns-in-Some-clause-few c =
    let is : update_of c.args.transition.now.updates c.target_of.result ≡ Some c.in-Some.update.now =
    ap (λ (us : List Update). update_of us c.target_of.result) (sym c.as_slice.ensures) ∙ sym c.update_of.ensures ∙ ap option_copied c.in-Some.is in
    subst (λ n. n ≤ 64) (sym c.len.ensures) (found_few c.args.transition.now.updates c.target_of.result c.in-Some.update.now c.requires is)
