use Rattle.std.proofs.Common.{refl, sym, ◌∙◌, codes, None}
use Rattle.text_lines.proofs.NumberLaws.{bytes_same}
use Rattle.cert_text.specs.Place.{Ending, Done, certificate_of}
use Rattle.cert_text.proofs.Steps.{goes_on}
use Rattle.cert_text.proofs.StepsMore.{cut_off}
use Rattle.cert_text.proofs.reader.read_ending.Goals as goal

pub returns-in_default-clause-err : goal.returns-in_default-clause-err
returns-in_default-clause-err c = λ cubes.
    rw c.line_fault.ensures (cut_off c.args.protocol.now (Ending cubes) c.args.line c.args.text.now refl refl c.in_default.ensures.none
    c.begins_cube-begins.result (sym c.begins_cube-begins.ensures))

pub returns-clause-ok : goal.returns-clause-ok
returns-clause-ok c = λ cubes.
    goes_on c.args.protocol.now (Ending cubes) c.args.line c.args.text.now c.in-Some.cut.bytes.now c.in-Some.cut.rest.now (Done (certificate_of cubes None))
    c.in-Some.ensures.some (bytes_same c.in-Some.cut.bytes.now (codes "end") (sym c.is_word.ensures ∙ c.if-not-is_word.false), refl)
