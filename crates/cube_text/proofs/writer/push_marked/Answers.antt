use Rattle.std.proofs.Common.{◌≡◌, [], ap, sym, ◌∙◌, get_or, codes}
use Rattle.std.specs.Prelude.{if◌then◌else◌}
use Rattle.std.proofs.lemmas.List.{get_or_default}
use Rattle.cube_text.proofs.Marking.{push_one, some_one, push_none, some_none}
use Rattle.cube_text.proofs.writer.push_marked.Goals as goal
use Rattle.cube_text.proofs.writer.push_marked.Goals.{then-has_bit+in_ok-push_next, else-has_bit}

pub loop-number-preserved : goal.loop-number-preserved
loop-number-preserved c = elim c.if-has_bit.branch [
  | then-has_bit+in_ok-push_next w ↦ (
      let names = c.args.names.now in
      let number = c.loop-number.number in
      let has = sym c.has_bit.ensures ∙ w.if-has_bit.true in
      let name : get_or names number [] ≡ w.as_slice.result.now =
      get_or_default names number [] c.index-names-number.result c.loop-number-test.true ∙ sym c.index-names-number.is ∙ sym w.as_slice.ensures in (
        ap (λ v. v.items) w.out-is ∙ w.in_ok-push_next.ensures
            ∙ push_one c.args.mask names number c.loop-number-test.true c.loop-number.out.items c.args.out.now.items
            (if c.loop-number.some then codes "," else []) w.as_slice.result.now has name c.loop-number.invariant.0
            (ap (λ b. if b then codes "," else []) c.loop-number.invariant.1),
        w.some-is ∙ sym (some_one c.args.mask names number c.loop-number-test.true has),
      ))
  | else-has_bit w ↦ (
      let lacks = sym c.has_bit.ensures ∙ w.if-has_bit.false in (
        ap (λ v. v.items) w.out-is ∙ push_none c.args.mask c.args.names.now c.loop-number.number c.loop-number-test.true c.loop-number.out.items c.args.out.now.items lacks c.loop-number.invariant.0,
        w.some-is ∙ some_none c.args.mask c.args.names.now c.loop-number.number c.loop-number-test.true c.loop-number.some lacks c.loop-number.invariant.1,
      ))
]
