use Rattle.std.proofs.Common.{◌≡◌, ◌+◌, drop, map}
use Rattle.cub_words.specs.Given.{nothing_given, IsLawful}
use Rattle.cub_words.specs.Reading.{read_from}
use Rattle.cub_words.proofs.reading.read_rest.Given as goal

abbrev pub invariant-loop-word : goal.invariant-loop-word
invariant-loop-word l =
    (read_from l.command l.number (map (λ word. word.now) (drop l.word-index l.rest)) l.given ≡ read_from l.command 2 (map (λ word. word.now) l.rest) nothing_given)
    × (l.number ≡ l.word-index + 2) × IsLawful l.given
