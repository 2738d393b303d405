use Rattle.std.proofs.Common.{◌≡◌, ◌++◌, take, map}
use Rattle.text_lines.specs.Line.{text_of}
use Rattle.journal_text.specs.Text.{item_text}
use Rattle.journal_text.proofs.writer.push_items.Given as goal

abbrev pub invariant-loop-item : goal.invariant-loop-item
invariant-loop-item l = l.out.items ≡ l.fn.out.items ++ text_of (map (item_text l.protocol l.node) (take l.item-index l.items))
