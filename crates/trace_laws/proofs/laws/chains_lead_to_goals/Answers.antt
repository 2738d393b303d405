use Rattle.trace_laws.proofs.Chains.{chain_leads}
use Rattle.trace_laws.proofs.laws.chains_lead_to_goals.Goals as goal

pub returns : goal.returns
returns c p s chain processes steps goal places is state sat along_it = chain_leads p s chain processes steps goal places is state sat along_it
