use Rattle.std.proofs.Common.{◌+◌, [], ◌∷◌, ◌++◌, length, arith, subst, ap, sym, ◌∙◌}
use Rattle.std.proofs.lemmas.Result.{err_from_is_err_and}
use Rattle.std.proofs.lemmas.List.{length_push}
use Rattle.std.proofs.lemmas.List.Elements.{All-push}
use Rattle.std.proofs.lemmas.Bool.{cond-true}
use Rattle.cube_text.specs.Reading.{IsLawful}
use Rattle.cert_text.specs.Lawful.{widest}
use Rattle.cert_text.specs.Place.{Place, Cubes, behind_cubes, at_tail, is_reached, GoesOn, IsFaultOf}
use Rattle.cert_text.proofs.Steps.{fault_from, goes_through}
use Rattle.cert_text.proofs.Looping.{open_place}
use Rattle.cert_text.proofs.reader.read_cubes.Goals as goal

pub returns-in_err-cube-clause-err : goal.returns-in_err-cube-clause-err
returns-in_err-cube-clause-err c =
    let e = err_from_is_err_and c.from_residual.result c.from_residual.ensures.1 in
    let p = c.args.protocol.now in
    rw (e.1, e.2) (λ two.
    fault_from p (behind_cubes two c.args.wanted c.loop-wanted.cubes) c.loop-wanted.at c.loop-wanted.rest.now (behind_cubes two c.args.wanted []) 4
    c.args.text.now c.in_err-cube.field-0.0 (c.loop-wanted.invariant.goes two)
    (subst (λ (place : Place). IsFaultOf p place c.loop-wanted.at c.loop-wanted.rest.now c.in_err-cube.field-0.0)
    (sym (open_place two c.args.wanted c.loop-wanted.cubes (ap (λ n. is_reached n c.args.wanted) (sym c.len.ensures) ∙ sym c.is_reached.ensures ∙ c.loop-wanted-test.true))) (c.in_err-cube.ensures.err two c.args.wanted c.loop-wanted.cubes)))

pub loop-wanted-preserved : goal.loop-wanted-preserved
loop-wanted-preserved c =
    let p = c.args.protocol.now in
    let counts = c.loop-wanted.invariant.counts in
    let longer = length_push c.loop-wanted.cubes c.in_ok-cube.cube in
    let shorter = c.in_ok-cube.ensures.room in
    let room = c.loop-wanted.invariant.room in
    rw c.in_ok-push.ensures.ok (record {
      lawful = All-push (IsLawful p widest) c.loop-wanted.cubes c.in_ok-cube.cube c.loop-wanted.invariant.lawful c.in_ok-cube.ensures.lawful;
      counts = omega arith;
      room = omega arith;
      goes = λ two.
          goes_through p (behind_cubes two c.args.wanted (c.loop-wanted.cubes ++ c.in_ok-cube.cube ∷ [])) (c.loop-wanted.at + 1) c.in_ok-cube.behind.now
          (behind_cubes two c.args.wanted c.loop-wanted.cubes) c.loop-wanted.at c.loop-wanted.rest.now (behind_cubes two c.args.wanted []) 4 c.args.text.now
          (subst (λ (place : Place). GoesOn p (behind_cubes two c.args.wanted (c.loop-wanted.cubes ++ c.in_ok-cube.cube ∷ [])) (c.loop-wanted.at + 1) c.in_ok-cube.behind.now place c.loop-wanted.at c.loop-wanted.rest.now)
          (sym (open_place two c.args.wanted c.loop-wanted.cubes (ap (λ n. is_reached n c.args.wanted) (sym c.len.ensures) ∙ sym c.is_reached.ensures ∙ c.loop-wanted-test.true))) (c.in_ok-cube.ensures.ok two c.args.wanted c.loop-wanted.cubes))
          (c.loop-wanted.invariant.goes two);
    })

pub returns-clause-few : goal.returns-clause-few
returns-clause-few c =
    let counts = c.loop-wanted.invariant.counts in
    let room = c.loop-wanted.invariant.room in
    omega (arith, c.requires)

pub returns-clause-ok : goal.returns-clause-ok
returns-clause-ok c = λ two.
    let p = c.args.protocol.now in
    subst (λ (place : Place). GoesOn p place c.loop-wanted.at c.loop-wanted.rest.now (behind_cubes two c.args.wanted []) 4 c.args.text.now)
    (cond-true (is_reached (length c.loop-wanted.cubes) c.args.wanted) (at_tail two c.loop-wanted.cubes) (Cubes two c.args.wanted c.loop-wanted.cubes) (ap (λ n. is_reached n c.args.wanted) (sym c.len.ensures) ∙ sym c.is_reached.ensures ∙ c.loop-wanted-test.false))
    (c.loop-wanted.invariant.goes two)
