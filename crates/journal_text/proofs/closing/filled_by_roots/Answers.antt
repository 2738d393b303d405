use Rattle.std.proofs.Common.{None, refl}
use Rattle.log_form.specs.Log.{no_log}
use Rattle.journal_text.proofs.FullLaws.{roots_not_full, roots_no_line, roots_no_text, roots_only, refused_by, no_roots_told}
use Rattle.journal_text.proofs.closing.filled_by_roots.Goals as goal

pub returns-then-not-full-clause-none : goal.returns-then-not-full-clause-none
returns-then-not-full-clause-none g c = roots_not_full g.M.PreImages.pieces c.args.full (no_log c.args.protocol.now c.args.budget) c.args.text.now c.if-not-full.true

pub returns-in_default-clause-none : goal.returns-in_default-clause-none
returns-in_default-clause-none g c = roots_no_line g.M.PreImages.pieces c.args.full (no_log c.args.protocol.now c.args.budget) c.args.text.now c.in_default.ensures.none

pub returns-in_default-2-clause-none : goal.returns-in_default-2-clause-none
returns-in_default-2-clause-none g c =
    roots_no_text g.M.PreImages.pieces c.args.full (no_log c.args.protocol.now c.args.budget) c.args.text.now c.in-Some.cut.bytes.now c.in-Some.cut.rest.now c.in-Some.ensures.some
    (rw c.in_default-2.is at c.in_ok-told.ensures.none)

-- a line that says nothing of the roots, or that they need nothing
pub returns-then-is_some-clause-none : goal.returns-then-is_some-clause-none
returns-then-is_some-clause-none g c =
    let P = g.M.PreImages.pieces in
    let told = c.in-Some-2.told in
    let small = rw c.in-Some-2.is at c.in_ok-told.ensures.small in
    roots_only P c.args.full (no_log c.args.protocol.now c.args.budget) c.args.text.now c.in-Some.cut.bytes.now c.in-Some.cut.rest.now c.in-Some.ensures.some told.node told.needed
    (rw c.in-Some-2.is at c.in_ok-told.ensures.found) small.0 small.1
    (no_roots_told P c.args.full c.args.protocol.now c.args.budget c.in-Some.cut.bytes.now told.node told.needed c.is_some.result c.is_some.ensures c.then-is_some.either)

-- an event that is refused
pub returns-clause-none : goal.returns-clause-none
returns-clause-none g c =
    let P = g.M.PreImages.pieces in
    let start = no_log c.args.protocol.now c.args.budget in
    let told = c.in-Some-2.told in
    let small = rw c.in-Some-2.is at c.in_ok-told.ensures.small in
    roots_only P c.args.full start c.args.text.now c.in-Some.cut.bytes.now c.in-Some.cut.rest.now c.in-Some.ensures.some told.node told.needed
    (rw c.in-Some-2.is at c.in_ok-told.ensures.found) small.0 small.1
    (λ none last t. (refused_by P start None c.new.result told.needed c.in-Err-Not.field-0 c.in-Err-Not.field-0-0 c.in-Err-Not.field-0-is c.new.ensures
    c.in-Err-Not.ensures.fault c.args.full None last c.in-Some.cut.bytes.now refl t))
