use Rattle.std.proofs.Common.{◌≡◌, ◌+◌, ◌-◌, ◌++◌, [], ◌∷◌, min, ap, ◌∙◌, arith}
use Rattle.std.proofs.lemmas.List.{length_push}
use Rattle.text_lines.specs.Number.{counted}
use Rattle.text_lines.specs.Word.{word}
use Rattle.journal_text.specs.Told.{places_told}
use Rattle.journal_text.proofs.Looping.{places_step}
use Rattle.journal_text.proofs.told.places_told.Goals as goal

pub loop-preserved : goal.loop-preserved
loop-preserved c =
    let t = c.loop.rest.now in
    let found = c.loop.places in
    let left = c.args.count - (c.loop.counter + 1) in
    let read : c.min.result ≡ min (counted (word t)) 255 = c.min.ensures ∙ ap (λ n. min n 255) (c.counted.ensures ∙ ap counted c.next_word.ensures.word) in
    let longer = length_push found c.min.result in
    let counts = c.loop.invariant.counts in
    rw c.push.ensures (record {
      counts = omega arith;
      told =
          ap (λ i. (found ++ i ∷ []) ++ places_told left c.next_word.result.1.now) read
          ∙ ap (λ u. (found ++ min (counted (word t)) 255 ∷ []) ++ places_told left u) c.next_word.ensures.rest
          ∙ places_step c.args.count c.loop.counter t found (omega arith) ∙ c.loop.invariant.told;
    })
