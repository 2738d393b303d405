use Rattle.std.proofs.Common.{[]}
use Rattle.cert_text.proofs.form.rises_after_line.Goals as goal

pub returns-in-Unsafe : goal.returns-in-Unsafe
returns-in-Unsafe c = rw c.in-Unsafe.is (c.rises_after_goal.ensures [] 0)

pub returns-in-Piece : goal.returns-in-Piece
returns-in-Piece c = rw c.in-Piece.is (c.rises_after_piece.ensures [] 0)
