use Rattle.std.proofs.Common.{◌≡◌, ◌+◌, ◌-◌, ◌++◌, [], ◌∷◌, ap, sym, ◌∙◌, arith}
use Rattle.text_lines.specs.Number.{counted}
use Rattle.text_lines.specs.Word.{word}
use Rattle.text_lines.specs.Loose.{processes_in}
use Rattle.text_lines.proofs.WordLaws.{processes_step}
use Rattle.text_lines.proofs.loose.processes_in.Goals as goal

pub loop-preserved : goal.loop-preserved
loop-preserved c =
    let t = c.loop.rest.now in
    let found = c.loop.processes in
    let left = c.args.count - (c.loop.counter + 1) in
    let read : c.counted.result ≡ counted (word t) = c.counted.ensures ∙ ap counted c.next_word.ensures.word in
    let pushed : c.push.new.self ≡ found ++ counted (word t) ∷ [] = c.in_ok-push.ensures.ok ∙ ap (λ i. found ++ i ∷ []) read in
    ap (λ xs. xs ++ processes_in left c.next_word.result.1.now) pushed
    ∙ ap (λ u. (found ++ counted (word t) ∷ []) ++ processes_in left u) c.next_word.ensures.rest
    ∙ processes_step c.args.count c.loop.counter t found (omega arith) ∙ c.loop.invariant
