use Rattle.std.proofs.Common.{◌≡◌, true, sym, ◌∙◌}
use Rattle.cert_text.specs.Text.{cover_text}
use Rattle.cert_text.specs.Lawful.{is_lawful_line, comes_after}
use Rattle.cert_text.specs.Place.{last_of}
use Rattle.cert_text.proofs.Refused.{no_cover, differs}
use Rattle.cert_text.proofs.covers.cover_of.Goals as goal

pub returns-then-not-is_lawful_line-clause-none : goal.returns-then-not-is_lawful_line-clause-none
returns-then-not-is_lawful_line-clause-none c =
    no_cover c.args.protocol.now c.args.cubes.now c.args.lines.now c.args.line.now c.cover_told-told.result c.cover_told-told.ensures
    (λ t.
    let lawful : is_lawful_line c.args.protocol.now c.args.cubes.now c.cover_told-told.result ≡ true = t.lawful in
    let test = c.is_lawful_line.ensures in
    let answer = c.if-not-is_lawful_line.true in
    cc)

pub returns-then-not-comes_after-clause-none : goal.returns-then-not-comes_after-clause-none
returns-then-not-comes_after-clause-none c =
    no_cover c.args.protocol.now c.args.cubes.now c.args.lines.now c.args.line.now c.cover_told-told.result c.cover_told-told.ensures
    (λ t.
    let rises : comes_after (last_of c.args.lines.now) c.cover_told-told.result ≡ true = t.rises in
    let test = c.comes_after.ensures in
    let answer = c.if-not-comes_after.true in
    cc)

pub returns-then-not-branch-clause-none : goal.returns-then-not-branch-clause-none
returns-then-not-branch-clause-none c =
    no_cover c.args.protocol.now c.args.cubes.now c.args.lines.now c.args.line.now c.cover_told-told.result c.cover_told-told.ensures
    (λ t. differs (cover_text c.cover_told-told.result) c.args.line.now (sym c.in_ok-cover_is_written.ensures ∙ c.if-not-branch.true) t.text)
