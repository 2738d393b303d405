use Rattle.std.proofs.Common.{rules, ◌≡◌, ◌∙◌, ℤ, sym, ap, subst}
use Rattle.std.proofs.lemmas.Int.{to_z-of_z}
use Rattle.cub_proto.specs.declared.literal.Sort.{Sort}
use Rattle.cub_proto.specs.declared.literal.Term.{Term}
use Rattle.cub_proto.specs.declared.literal.ISide.TheVariants.{At}
use Rattle.cub_proto.specs.declared.state.Val.{Val}
use Rattle.cub_proto.specs.declared.state.Val.TheVariants.{Int}
use Rattle.diff_close.proofs.Chosen.{chosen_same}
use Rattle.theory_laws.specs.Built.{value_of}
use Rattle.theory.specs.Loaded.{AreChosen, table_values}
use Rattle.theory.proofs.chosen.value_in.Goals as goal
use mir.Val.{SFits, to_z, of_z}
use mir.Syntax.{w64}

pub returns-in-Int-clause-value : goal.returns-in-Int-clause-value
returns-in-Int-clause-value c w chosen =
    let f : SFits w64 c.value.result = search rules in
    let plain : to_z w64 (of_z w64 c.value.result) ≡ c.value.result = to_z-of_z w64 c.value.result f in
    let same : c.value.result ≡ w c.args.term = chosen_same chosen.lits (At c.args.term) c.value.result (w c.args.term) (c.value.ensures.chosen chosen.lits chosen.closed) (chosen.each c.args.term) in
    let whole : Int (to_z w64 (of_z w64 c.value.result)) ≡ Int (w c.args.term) = ap (λ (z : ℤ). Int z) (plain ∙ same) in
    subst (λ (s : Sort). Int (to_z w64 (of_z w64 c.value.result)) ≡ value_of (table_values c.args.masks.now c.args.classes.now w) s c.args.term) (sym c.in-Int.is) whole
