use Rattle.text_lines.proofs.ReadingLaws.{one_reading}
use Rattle.trace_text.specs.Place.{takes, trace_at, kind_at}
use Rattle.trace_text.proofs.Takes.{one}
use Rattle.trace_text.proofs.laws.one_reading.Goals as goal

pub returns : goal.returns
returns c = λ p text o u r s. one_reading (takes p) trace_at kind_at (one p) r s
