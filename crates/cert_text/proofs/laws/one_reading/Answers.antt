use Rattle.text_lines.proofs.ReadingLaws.{one_reading}
use Rattle.cert_text.specs.Place.{takes, certificate_at, kind_at}
use Rattle.cert_text.proofs.Takes.{one}
use Rattle.cert_text.proofs.laws.one_reading.Goals as goal

pub returns : goal.returns
returns c = λ p text o u r s. one_reading (takes p) certificate_at (kind_at p) (one p) r s
