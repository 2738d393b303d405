use Rattle.log_form.proofs.Weave.{legal_woven}
use Rattle.log_form.proofs.Lives.{link_leads}
use Rattle.log_form.proofs.node_laws.links_lead_to_greater_numbers.Goals as goal

pub returns : goal.returns
returns g c log i by places legal below is = link_leads g.M.PreImages.pieces log (legal_woven g.M.PreImages.pieces log legal) i by places below is
