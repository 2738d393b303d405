use Rattle.std.proofs.Common.{◌≡◌, ◌^◌, ◌<◌, sym, ap, ◌∙◌, arith, decimal}
use Rattle.std.proofs.lemmas.Str.{IsUtf8-from_ascii}
use Rattle.std.proofs.lemmas.Fmt.{parse-decimal_wide, IsAscii-decimal_wide}
use Rattle.std.proofs.lemmas.Slice.Eq.{bytes_eq-Decides}
use Rattle.text_lines.proofs.NumberLaws.{bytes_same}
use Rattle.journal_text.proofs.WideNumbers.{wide_is, wide_none, within_wide}
use Rattle.journal_text.proofs.numbers.number.Goals as goal

pub returns-in_default : goal.returns-in_default
returns-in_default c =
    sym (wide_none c.args.bytes.now (λ n fits is. c.in_default.ensures.cases.0 (rw is (IsUtf8-from_ascii (decimal n) (IsAscii-decimal_wide n (within_wide n fits))))))

pub returns-in_default-parse : goal.returns-in_default-parse
returns-in_default-parse c =
    sym (wide_none c.args.bytes.now (λ n fits is.
    let text : c.in-Ok.text.now ≡ decimal n = c.in-Ok.ensures.cases.0 ∙ is in
    let read = parse-decimal_wide 128 n _ _ fits (within_wide n fits) text c.parse.ensures.value.0 in
    absurd (cc (read, c.in_default-parse.is))))

pub returns-then-eq : goal.returns-then-eq
returns-then-eq c =
    let fits : c.in-Ok-parse.number < 2 ^ 128 = omega (arith, c.in-Ok-parse.ensures.value.0) in
    sym (wide_is c.in-Ok-parse.number c.args.bytes.now fits
    (sym (bytes_same c.as_bytes.result.now c.args.bytes.now (sym c.eq.ensures ∙ c.if-eq.true)) ∙ c.as_bytes.ensures.value ∙ c.format.ensures.text))

pub returns-else-eq : goal.returns-else-eq
returns-else-eq c =
    sym (wide_none c.args.bytes.now (λ n fits is.
    let text : c.in-Ok.text.now ≡ decimal n = c.in-Ok.ensures.cases.0 ∙ is in
    let read = parse-decimal_wide 128 n _ _ fits (within_wide n fits) text c.parse.ensures.value.0 in
    let number : c.in-Ok-parse.number ≡ n = cc (read, c.in-Ok-parse.is) in
    let same : c.as_bytes.result.now ≡ c.args.bytes.now = c.as_bytes.ensures.value ∙ c.format.ensures.text ∙ ap decimal number ∙ sym is in
    let equal = c.eq.ensures ∙ (bytes_eq-Decides c.as_bytes.result.now c.args.bytes.now).1 same in
    absurd (cc (equal, c.if-eq.false))))
