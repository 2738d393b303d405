use Rattle.cover_lines.proofs.LogLemmas.{safe_lawful}
use Rattle.cover_lines.proofs.laws.safe_logs_make_lawful_certificates.Goals as goal

pub returns : goal.returns
returns c = safe_lawful
