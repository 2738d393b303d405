use Rattle.cub_cube.proofs.Terms.{terms_in_rise, in_mentioned, mentioned_in}
use Rattle.cub_cube.proofs.form_laws.terms_in_are_mentioned.Goals as goal

pub returns-clause-order : goal.returns-clause-order
returns-clause-order c = terms_in_rise

pub returns-clause-members : goal.returns-clause-members
returns-clause-members c lits t = (in_mentioned lits t, mentioned_in lits t)
