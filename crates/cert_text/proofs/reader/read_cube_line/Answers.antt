use Rattle.std.proofs.Common.{refl, [], ◌∷◌, ◌++◌, sym}
use Rattle.cube_text.proofs.OneSpelling.{read_lawful}
use Rattle.cert_text.specs.Lawful.{widest}
use Rattle.cert_text.specs.Place.{Cubes, behind_cubes}
use Rattle.cert_text.proofs.Steps.{goes_on}
use Rattle.cert_text.proofs.StepsMore.{cut_off, cube_stops}
use Rattle.cert_text.proofs.reader.read_cube_line.Goals as goal

pub returns-in_default-clause-err : goal.returns-in_default-clause-err
returns-in_default-clause-err c = λ two wanted read.
    rw c.line_fault.ensures (cut_off c.args.protocol.now (Cubes two wanted read) c.args.line c.args.text.now refl refl c.in_default.ensures.none
    c.begins_cube-begins.result (sym c.begins_cube-begins.ensures))

pub returns-in-Ok-clause-lawful : goal.returns-in-Ok-clause-lawful
returns-in-Ok-clause-lawful c = read_lawful c.args.protocol.now widest c.in-Some.cut.bytes.now c.in-Ok.cube c.in-Ok.ensures.ok

pub returns-in-Ok-clause-ok : goal.returns-in-Ok-clause-ok
returns-in-Ok-clause-ok c = λ two wanted read.
    goes_on c.args.protocol.now (Cubes two wanted read) c.args.line c.args.text.now c.in-Some.cut.bytes.now c.in-Some.cut.rest.now
    (behind_cubes two wanted (read ++ c.in-Ok.cube ∷ [])) c.in-Some.ensures.some (c.in-Ok.cube, c.in-Ok.ensures.ok, refl)

pub returns-in-Err-clause-err : goal.returns-in-Err-clause-err
returns-in-Err-clause-err c = λ two wanted read.
    rw c.line_fault-in-Err.ensures (cube_stops c.args.protocol.now two wanted read c.args.line c.args.text.now c.in-Some.cut.bytes.now c.in-Some.cut.rest.now
    c.in-Some.ensures.some c.in-Err.fault c.in-Err.ensures.err c.begins_cube-begins.result (sym c.begins_cube-begins.ensures))
