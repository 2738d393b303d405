use Rattle.std.proofs.Common.{drop, Ok, refl, sym, arith, take-append-drop, length-drop}
use Rattle.text_lines.proofs.ReadingLaws.{no_front}
use Rattle.trace_text.specs.Place.{takes, trace_at, kind_at}
use Rattle.trace_text.proofs.Takes.{one, closed}
use Rattle.trace_text.proofs.laws.has_no_accepted_front.Goals as goal

pub returns : goal.returns
returns c = λ p text t u n r inside s.
    no_front (takes p) trace_at kind_at (closed p) (one p) u s refl (drop n text) (omega (arith, length-drop n text)) text (sym (take-append-drop n text)) (Ok t) r t refl
