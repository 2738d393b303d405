use Rattle.std.proofs.Common.{◌≡◌, ℕ, List, length, sym, ap, ◌∙◌, subst, refl, IsTrue}
use Rattle.std.specs.List.{list_all}
use Rattle.cub_proto.specs.declared.literal.Lit.{Lit}
use Rattle.cub_proto.specs.StateOf.{signature_of}
use Rattle.cub_cube.specs.Normal.{normal_form, is_normal}
use Rattle.cub_cube.specs.Rename.{is_within, renamed_all}
use Rattle.cub_cube.proofs.Form.{form_stays}
use Rattle.cub_cube.proofs.Placing.{identity}
use Rattle.cube_form.specs.Name.{AreInOrder, turned}
use Rattle.cube_form.proofs.Renaming.{length-turned, turned_identity, same_literals}
use Rattle.cube_form.proofs.naming.normal_name.Goals as goal

pub returns-then-is_normal-clause-named : goal.returns-then-is_normal-clause-named
returns-then-is_normal-clause-named c =
    let places : List ℕ = c.in_order-places.result in
    let width : ℕ = c.args.cube.width in
    let order : AreInOrder c.args.cube.lits width places = subst (λ (ls : List Lit). AreInOrder ls width places) c.as_slice.ensures c.in_order-places.ensures in
    let stays : places ≡ identity width =
    sym c.as_slice-2.ensures.value ∙ c.stay.ensures c.if-stay.true
    ∙ ap (λ (xs : List ℕ). identity (length xs)) c.as_slice-2.ensures.value ∙ ap identity order.each.one_each in
    let normal : normal_form (signature_of c.args.protocol.now) c.args.cube.lits ≡ c.args.cube.lits =
    form_stays (signature_of c.args.protocol.now) c.args.cube.lits
    (subst (λ (ls : List Lit). IsTrue (is_normal (signature_of c.args.protocol.now) ls)) c.as_slice-then-stay.ensures (sym c.is_normal.ensures ∙ c.if-is_normal.true)) in
    record {
      order = order;
      width = refl;
      lits =
          sym normal ∙ ap (normal_form (signature_of c.args.protocol.now)) (sym (same_literals width c.args.cube.lits c.requires.within))
          ∙ ap (λ (r : List ℕ). normal_form (signature_of c.args.protocol.now) (renamed_all r c.args.cube.lits)) (sym (ap turned stays ∙ turned_identity width));
    }

pub renamed-requires : goal.renamed-requires
renamed-requires c =
    let size : length c.as_slice-3.result.now ≡ c.args.cube.width = ap length (c.as_slice-3.ensures.value ∙ c.turned-back.ensures) ∙ length-turned c.in_order-places.result ∙ c.in_order-places.ensures.each.one_each in
    subst (λ (n : ℕ). IsTrue (list_all (is_within n) c.args.cube.lits)) (sym size) c.requires.within
