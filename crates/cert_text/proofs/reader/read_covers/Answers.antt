use Rattle.std.proofs.Common.{◌+◌, [], ◌∷◌, ◌++◌, arith}
use Rattle.std.proofs.lemmas.Result.{err_from_is_err_and}
use Rattle.cert_text.specs.Place.{Covers}
use Rattle.cert_text.proofs.Steps.{fault_from, goes_through}
use Rattle.cert_text.proofs.Looping.{lawful_more}
use Rattle.cert_text.proofs.reader.read_covers.Goals as goal

pub returns-in_err-cover-clause-err : goal.returns-in_err-cover-clause-err
returns-in_err-cover-clause-err c =
    let e = err_from_is_err_and c.from_residual.result c.from_residual.ensures.1 in
    rw (e.1, e.2)
    (fault_from c.args.protocol.now (Covers c.args.cubes.now c.loop-alloc.lines) c.loop-alloc.at c.loop-alloc.rest.now (Covers c.args.cubes.now []) c.args.line
    c.args.text.now c.in_err-cover.field-0.0 c.loop-alloc.invariant.goes c.in_err-cover.ensures.err)

pub loop-alloc-preserved : goal.loop-alloc-preserved
loop-alloc-preserved c =
    let shorter = c.in_ok-cover.ensures.room in
    let room = c.loop-alloc.invariant.room in
    rw c.in_ok-push.ensures.ok (record {
      lawful = lawful_more c.args.protocol.now c.args.cubes.now c.loop-alloc.lines c.in_ok-cover.cover c.loop-alloc.invariant.lawful c.in_ok-cover.ensures.lawful c.in_ok-cover.ensures.rises;
      room = omega arith;
      goes =
          goes_through c.args.protocol.now (Covers c.args.cubes.now (c.loop-alloc.lines ++ c.in_ok-cover.cover ∷ [])) (c.loop-alloc.at + 1) c.in_ok-cover.behind.now
          (Covers c.args.cubes.now c.loop-alloc.lines) c.loop-alloc.at c.loop-alloc.rest.now (Covers c.args.cubes.now []) c.args.line c.args.text.now
          c.in_ok-cover.ensures.ok c.loop-alloc.invariant.goes;
    })
