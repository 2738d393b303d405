use Rattle.std.proofs.Common.{◌≡◌, ◌-◌}
use Rattle.text_lines.specs.Loose.{behind_words}
use Rattle.text_lines.proofs.loose.behind_words.Given as goal

abbrev pub invariant-loop : goal.invariant-loop
invariant-loop l = behind_words (l.count - l.counter) l.rest ≡ behind_words l.count l.bytes
