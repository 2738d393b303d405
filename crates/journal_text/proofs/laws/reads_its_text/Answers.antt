use Rattle.journal_text.proofs.TextLaws.{read_whole}
use Rattle.journal_text.proofs.laws.reads_its_text.Goals as goal

pub returns : goal.returns
returns g c = λ p text log r.
    let w = read_whole g.M.PreImages.pieces p 1 text log r in (w.1, w.0.legal, w.0.unknown, w.0.of_p)
