use Rattle.std.proofs.Common.{drop, Ok, refl, sym, arith, take-append-drop, length-drop}
use Rattle.text_lines.proofs.ReadingLaws.{no_front}
use Rattle.journal_text.specs.Place.{takes, log_at, stop_at}
use Rattle.journal_text.proofs.Takes.{one, closed}
use Rattle.journal_text.proofs.laws.has_no_accepted_front.Goals as goal

pub returns : goal.returns
returns g c = λ p text log other n r inside s.
    let P = g.M.PreImages.pieces in
    no_front (takes P p) log_at stop_at (closed P p) (one P p) other s refl (drop n text) (omega (arith, inside, length-drop n text)) text (sym (take-append-drop n text)) (Ok log) r log refl
