use Rattle.journal_text.proofs.Takes.{one_stop}
use Rattle.journal_text.proofs.laws.one_fault.Goals as goal

pub returns : goal.returns
returns g c = λ p text line kind other more s t.
    let P = g.M.PreImages.pieces in one_stop P p 1 text line kind other more s t
