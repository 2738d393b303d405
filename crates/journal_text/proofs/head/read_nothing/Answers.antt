use Rattle.std.proofs.Common.{◌≡◌, ◌==◌, true, refl, sym, ◌∙◌, ap, length}
use Rattle.std.proofs.lemmas.List.{nil_from_length}
use Rattle.std.proofs.lemmas.Bool.{eqb-true}
use Rattle.text_lines.specs.Reading.{ends, stops}
use Rattle.journal_text.specs.Place.{Done}
use Rattle.journal_text.proofs.head.read_nothing.Goals as goal

pub returns-then-is_empty-clause-ok : goal.returns-then-is_empty-clause-ok
returns-then-is_empty-clause-ok g c = λ p log.
    ends log (nil_from_length c.args.text.now (eqb-true (length c.args.text.now) 0 (sym c.is_empty.ensures ∙ c.if-is_empty.true))) refl

pub returns-else-is_empty-clause-err : goal.returns-else-is_empty-clause-err
returns-else-is_empty-clause-err g c = λ p log. record {
  at = Done log;
  rest = c.args.text.now;
  reads = stops (record {
    no_end = λ e.
        let empty : (length c.args.text.now == 0) ≡ true = ap (λ b. length b == 0) e in
        let test = c.is_empty.ensures in
        let answer = c.if-is_empty.false in
        absurd cc;
    no_line = λ bytes rest q at k. k;
  });
  its = refl;
}
