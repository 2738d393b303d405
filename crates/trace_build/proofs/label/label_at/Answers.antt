use Rattle.trace_build.proofs.Seeking.{is_found}
use Rattle.trace_build.proofs.label.label_at.Goals as goal

pub returns-clause-value : goal.returns-clause-value
returns-clause-value c =
    let handed = c.in_ok-each_piece.ensures.handed in
    (handed.0, handed.1, is_found handed.0 c.args.number c.each_piece.new.receiver handed.2)
