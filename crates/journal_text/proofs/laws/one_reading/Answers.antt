use Rattle.text_lines.proofs.ReadingLaws.{one_reading}
use Rattle.journal_text.specs.Place.{takes, log_at, stop_at}
use Rattle.journal_text.proofs.Takes.{one}
use Rattle.journal_text.proofs.laws.one_reading.Goals as goal

pub returns : goal.returns
returns g c = λ p text o u r s. let P = g.M.PreImages.pieces in one_reading (takes P p) log_at stop_at (one P p) r s
