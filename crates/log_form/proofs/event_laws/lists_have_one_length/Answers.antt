use Rattle.log_form.proofs.Unique.{one_count}
use Rattle.log_form.proofs.event_laws.lists_have_one_length.Goals as goal

pub returns : goal.returns
returns g c = one_count g.M.PreImages.pieces g.M.PreImages.one_list
