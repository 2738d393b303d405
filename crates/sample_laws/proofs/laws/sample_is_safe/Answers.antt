use Rattle.sample_laws.proofs.Climbs.{safe}
use Rattle.sample_laws.proofs.laws.sample_is_safe.Goals as goal

pub returns : goal.returns
returns c top p high sample = safe top p sample high
