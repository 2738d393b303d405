use Rattle.log_form.proofs.Weave.{legal_woven}
use Rattle.log_form.proofs.node_laws.start_states_meet_the_bad_node.Goals as goal

pub returns-clause-meets : goal.returns-clause-meets
returns-clause-meets g c log i legal below =
    let woven = legal_woven g.M.PreImages.pieces log legal in (λ meets. woven.start i below meets, λ bad. (woven.bad i bad).1)

pub returns-clause-inside : goal.returns-clause-inside
returns-clause-inside g c log i legal bad = ((legal_woven g.M.PreImages.pieces log legal).bad i bad).0
