use Rattle.std.proofs.Common.{refl, sym, ◌∙◌, ap, bytes_eq}
use Rattle.trace_text.specs.Text.{has_any, version_text}
use Rattle.trace_text.specs.Place.{Version, Count}
use Rattle.text_lines.proofs.NumberLaws.{bytes_same}
use Rattle.trace_text.proofs.Refused.{differs}
use Rattle.trace_text.proofs.Steps.{goes_on, no_line, bad_line}
use Rattle.trace_text.proofs.reader.read_version.Goals as goal

pub returns-in_default-clause-err : goal.returns-in_default-clause-err
returns-in_default-clause-err c = λ crashes. no_line c.args.protocol.now (Version crashes) 2 c.args.text.now refl 1 refl c.in_default.ensures.none

pub returns-then-not-is_word-clause-err : goal.returns-then-not-is_word-clause-err
returns-then-not-is_word-clause-err c = λ crashes.
    bad_line c.args.protocol.now (Version crashes) 2 c.args.text.now refl 1 refl c.in-Some.cut.bytes.now c.in-Some.cut.rest.now c.in-Some.ensures.some
    (λ q t. differs c.in-Some.cut.bytes.now (version_text (has_any c.args.protocol.now))
    (ap (bytes_eq c.in-Some.cut.bytes.now) (sym (c.version_text.ensures ∙ ap version_text c.has_any.ensures)) ∙ sym c.is_word.ensures ∙ c.if-not-is_word.true)
    (sym t.0))

pub returns-clause-ok : goal.returns-clause-ok
returns-clause-ok c = λ crashes.
    goes_on c.args.protocol.now (Version crashes) 2 c.args.text.now c.in-Some.cut.bytes.now c.in-Some.cut.rest.now (Count crashes) c.in-Some.ensures.some (
      bytes_same c.in-Some.cut.bytes.now c.version_text.result.now (sym c.is_word.ensures ∙ c.if-not-is_word.false) ∙ c.version_text.ensures
          ∙ ap version_text c.has_any.ensures,
      refl,
    )
