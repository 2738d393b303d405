use Rattle.journal_text.proofs.Again.{reads_back}
use Rattle.journal_text.proofs.laws.reads_back.Goals as goal

pub returns : goal.returns
returns g c = λ p log legal unknown of_p early.
    let m = g.M.PreImages in reads_back m.pieces p log m.possible m.fit legal unknown of_p early 1
