use Rattle.std.proofs.Common.{◌∙◌, ℕ, List, map, ap, Bor}
use Rattle.std.proofs.lemmas.Result.{IfErr-weaker}
use Rattle.clap.specs.Simple.{App}
use Rattle.clap.specs.Takes.{takes}
use Rattle.word_parser.proofs.Outcome.{taken_ok}
use Rattle.word_parser.proofs.parser.matched.Goals as goal

pub returns-clause-refused : goal.returns-clause-refused
returns-clause-refused c =
    let words : List (List ℕ) = map (λ (word : Bor (List ℕ)). word.now) c.args.words.now in
    IfErr-weaker c.try_get_matches_from.result _ _
    (λ e h. h (ap (λ (a : App). takes a words) c.in_ok-line.ensures ∙ taken_ok words c.requires)) c.try_get_matches_from.ensures.passes
