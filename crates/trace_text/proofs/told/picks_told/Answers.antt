use Rattle.std.proofs.Common.{[], ap, sym, ◌∙◌, bytes_eq}
use Rattle.text_lines.specs.Word.{behind}
use Rattle.trace_text.specs.Told.{picks_told}
use Rattle.trace_text.proofs.PickLaws.{pick_kept}
use Rattle.trace_text.proofs.told.picks_told.Goals as goal

pub loop-preserved : goal.loop-preserved
loop-preserved c =
    pick_kept c.args.protocol.now c.args.most c.loop.counter c.loop.rest.now c.next_word-in-loop.result.1.now c.loop.picks c.push.new.self
    (picks_told c.args.protocol.now c.args.most c.args.bytes.now) c.pick_told.result c.loop-test.true
    (ap (λ w. bytes_eq w []) (sym c.next_word.ensures.word) ∙ sym c.is_word.ensures ∙ c.if-is_word.false) c.pick_told.ensures
    (c.next_word-in-loop.ensures.rest ∙ ap behind c.behind_pick.ensures) c.in_ok-push.ensures.ok c.loop.invariant
