use Rattle.piece_laws.proofs.LabelLemmas.{label_leads}
use Rattle.piece_laws.proofs.laws.labels_name_events.Goals as goal

pub returns-clause-legal : goal.returns-clause-legal
returns-clause-legal c p cube pieces x s places fits are at state sat = (label_leads p cube pieces x s places fits are at state sat).legal

pub returns-clause-meets : goal.returns-clause-meets
returns-clause-meets c p cube pieces x s places fits are at state sat = (label_leads p cube pieces x s places fits are at state sat).meets
