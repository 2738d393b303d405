use Rattle.std.proofs.Common.{◌++◌, ap, ◌∙◌, flat_map}
use Rattle.text_lines.specs.Line.{text_of}
use Rattle.journal_text.specs.Text.{event_lines, is_full, closing_lines, head_lines}
use Rattle.journal_text.proofs.Joining.{joined}
use Rattle.journal_text.proofs.writer.write.Goals as goal

pub returns : goal.returns
returns g c =
    let log = c.args.log.now in
    joined (head_lines (is_full log.mark) log.budget) (flat_map (event_lines log.protocol) log.events) (closing_lines log.mark log.budget log.nodes)
    c.new-out.result.items c.push_head.new.out.items c.push_events.new.out.items c.push_closing.new.out.items c.push.new.out.items c.new-out.ensures.items
    (c.in_ok-push_head.ensures
    ∙ ap (λ ls. c.new-out.result.items ++ text_of ls)
    (ap (λ b. head_lines b c.budget.result) (c.is_full.ensures ∙ ap is_full c.mark.ensures) ∙ ap (head_lines (is_full log.mark)) c.budget.ensures))
    (c.in_ok-push_events.ensures
    ∙ ap (λ ls. c.push_head.new.out.items ++ text_of ls)
    (ap (λ p. flat_map (event_lines p) c.events.result.now) c.requires.protocol ∙ ap (flat_map (event_lines log.protocol)) c.events.ensures))
    (c.in_ok-push_closing.ensures
    ∙ ap (λ ls. c.push_events.new.out.items ++ text_of ls)
    (ap (λ m. closing_lines m c.budget-2.result c.nodes.result.now) c.mark-2.ensures ∙ ap (λ b. closing_lines log.mark b c.nodes.result.now) c.budget-2.ensures
    ∙ ap (closing_lines log.mark log.budget) c.nodes.ensures.value))
    c.in_ok-push.ensures
