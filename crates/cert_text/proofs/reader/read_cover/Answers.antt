use Rattle.std.proofs.Common.{refl, [], ◌∷◌, ◌++◌, inl, sym, ◌∙◌, ap}
use Rattle.std.proofs.lemmas.Bool.{cond-true}
use Rattle.text_lines.specs.Line.{line_at}
use Rattle.cert_text.specs.Cover.{begins_cover}
use Rattle.cert_text.specs.Place.{Covers, cover_line_kind}
use Rattle.cert_text.proofs.Steps.{goes_on, no_line, bad_line}
use Rattle.cert_text.proofs.Stuck.{no_cover_stands}
use Rattle.cert_text.proofs.reader.read_cover.Goals as goal

pub returns-in_default-clause-err : goal.returns-in_default-clause-err
returns-in_default-clause-err c =
    no_line c.args.protocol.now (Covers c.args.cubes.now c.args.lines.now) c.args.line c.args.text.now refl 7
    (cond-true (begins_cover c.args.text.now) (cover_line_kind c.args.lines.now (line_at c.args.text.now)) 6 c.requires.begins
    ∙ ap (cover_line_kind c.args.lines.now) c.in_default.ensures.none) c.in_default.ensures.none

pub returns-in_default-2-clause-err : goal.returns-in_default-2-clause-err
returns-in_default-2-clause-err c =
    bad_line c.args.protocol.now (Covers c.args.cubes.now c.args.lines.now) c.args.line c.args.text.now refl c.in_ok-kind.kind
    (cond-true (begins_cover c.args.text.now) (cover_line_kind c.args.lines.now (line_at c.args.text.now)) 6 c.requires.begins
    ∙ ap (cover_line_kind c.args.lines.now) c.in-Some.ensures.some ∙ sym c.in_ok-kind.ensures) c.in-Some.cut.bytes.now c.in-Some.cut.rest.now c.in-Some.ensures.some
    (no_cover_stands c.args.protocol.now c.args.cubes.now c.args.lines.now c.args.text.now c.in-Some.cut.bytes.now c.in-Some.cut.rest.now
    c.in-Some.ensures.some c.requires.begins (rw c.in_default-2.is at c.in_ok-cover.ensures.none))

pub returns-clause-ok : goal.returns-clause-ok
returns-clause-ok c =
    goes_on c.args.protocol.now (Covers c.args.cubes.now c.args.lines.now) c.args.line c.args.text.now c.in-Some.cut.bytes.now c.in-Some.cut.rest.now
    (Covers c.args.cubes.now (c.args.lines.now ++ c.in-Some-2.cover ∷ [])) c.in-Some.ensures.some
    (inl (c.in-Some-2.cover, rw c.in-Some-2.is at c.in_ok-cover.ensures.found, refl))
