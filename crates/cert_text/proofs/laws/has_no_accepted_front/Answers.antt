use Rattle.std.proofs.Common.{drop, Ok, refl, sym, arith, take-append-drop, length-drop}
use Rattle.text_lines.proofs.ReadingLaws.{no_front}
use Rattle.cert_text.specs.Place.{takes, certificate_at, kind_at}
use Rattle.cert_text.proofs.Takes.{one, closed}
use Rattle.cert_text.proofs.laws.has_no_accepted_front.Goals as goal

pub returns : goal.returns
returns c = λ p text t u n r inside s.
    no_front (takes p) certificate_at (kind_at p) (closed p) (one p) u s refl (drop n text) (omega (arith, length-drop n text)) text (sym (take-append-drop n text)) (Ok t) r t refl
