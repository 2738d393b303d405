use Rattle.std.proofs.Common.{◌≡◌, ◌++◌, take, map}
use Rattle.text_lines.specs.Line.{text_of}
use Rattle.cert_text.specs.Text.{cover_text}
use Rattle.cert_text.proofs.writer.push_covers.Given as goal

abbrev pub invariant-loop-line : goal.invariant-loop-line
invariant-loop-line l = l.out.items ≡ l.fn.out.items ++ text_of (map cover_text (take l.line-index l.lines))
