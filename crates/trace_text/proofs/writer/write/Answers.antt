use Rattle.std.proofs.Common.{◌≡◌, ◌+◌, ◌-◌, ◌++◌, [], ◌∷◌, ap, ◌∙◌, arith, is_some, map}
use Rattle.cub_proto.specs.Configuration.{process_count}
use Rattle.text_lines.specs.Line.{text_of}
use Rattle.trace_text.specs.Text.{has_any, heading_text, version_text, count_text, event_text}
use Rattle.trace_text.proofs.WriteLaws.{whole}
use Rattle.trace_text.proofs.writer.write.Goals as goal

pub returns : goal.returns
returns c =
    let p = c.args.protocol.now in
    let t = c.args.trace.now in
    let some = c.requires.some_process in
    let counted : (c.processes-less.result - 1) + 1 ≡ process_count t.start = (let n = c.processes-less.ensures in omega arith) in
    let empty : c.new-out.result.items ≡ [] = c.new-out.ensures.items in
    let head =
    c.in_ok-push_heading.ensures
    ∙ ap (λ xs. xs ++ text_of (heading_text c.is_some.result ∷ version_text (has_any p) ∷ count_text ((c.processes-less.result - 1) + 1) ∷ [])) empty
    ∙ ap (λ crashes. text_of (heading_text crashes ∷ version_text (has_any p) ∷ count_text ((c.processes-less.result - 1) + 1) ∷ [])) c.is_some.ensures
    ∙ ap (λ n. text_of (heading_text (is_some t.plain) ∷ version_text (has_any p) ∷ count_text n ∷ [])) counted in
    let events = c.in_ok-push_events.ensures ∙ ap (λ es. c.push_start.new.out.items ++ text_of (map (event_text p) es)) c.as_slice.ensures in
    whole p t c.push_heading.new.out.items c.push_start.new.out.items c.push_events.new.out.items c.push_end.new.out.items head c.in_ok-push_start.ensures events
    c.in_ok-push_end.ensures
