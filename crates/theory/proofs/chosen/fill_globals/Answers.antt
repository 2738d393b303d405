use Rattle.std.proofs.Common.{◌≡◌, ℕ, ◌+◌, ◌<◌, ◌≤◌, ◌∙◌, sym, ap, subst, arith, List, length, get_or, ℤ, length-set}
use Rattle.cub_proto.specs.declared.literal.Term.{Term}
use Rattle.cub_proto.specs.declared.literal.Term.TheVariants as Term
use Rattle.cub_proto.specs.declared.state.Slot.TheVariants as Slot
use Rattle.cub_proto.specs.declared.state.Val.{Val}
use Rattle.cub_proto.specs.declared.state.Val.TheVariants.{Con}
use Rattle.cub_proto.specs.declared.protocol.Decl.{Decl}
use Rattle.cub_proto.specs.Configuration.{Configuration, put}
use Rattle.cub_base.specs.Numbered.{map_from}
use Rattle.theory_laws.specs.Built.{Values, global_value, value_of}
use Rattle.theory_laws.specs.Small.{HasSmallIntegers}
use Rattle.theory.specs.Loaded.{AreChosen, table_values}
use Rattle.theory.proofs.Filling.{globals_step, globals_done, put_small, made_length, item_made}
use Rattle.theory.proofs.chosen.fill_globals.Goals as goal

pub loop-g-preserved : goal.loop-g-preserved
loop-g-preserved c =
    let items : c.as_slice-decl-items.result.now ≡ c.args.protocol.now.globals = c.as_slice-decl-items.ensures in
    let below : c.loop-g.g < length c.args.protocol.now.globals = omega (arith, ap (λ (xs : List Decl). length xs) items) in
    let decl : get_or c.args.protocol.now.globals c.loop-g.g c.decl-item.result ≡ c.decl-item.result = sym (c.decl-item.is ∙ ap (λ (xs : List Decl). get_or xs c.loop-g.g c.decl-item.result) items) in
    record {
      filled = λ w chosen.
          let v : Values = table_values c.args.masks.now c.args.classes.now w in
          let size : length (map_from (global_value v) 0 c.args.protocol.now.globals) ≡ length c.args.protocol.now.globals = made_length (global_value v) 0 c.args.protocol.now.globals in
          let item : c.value_in-value.result ≡ get_or (map_from (global_value v) 0 c.args.protocol.now.globals) c.loop-g.g (Con 0) =
          c.value_in-value.ensures.value w chosen
          ∙ (ap (λ (d : Decl). value_of v d.sort (Term.Global c.loop-g.g)) (sym decl) ∙ sym (item_made (global_value v) c.loop-g.g c.args.protocol.now.globals c.decl-item.result (Con 0) below)) in
          c.set.ensures ∙ globals_step c.args.state.now c.loop-g.state (map_from (global_value v) 0 c.args.protocol.now.globals) c.loop-g.g c.value_in-value.result (c.loop-g.invariant.filled w chosen) (omega arith) (omega (arith, c.requires.shape)) item;
      shape = ap (λ (s : Configuration). length s.globals) c.set.ensures ∙ (length-set c.loop-g.state.globals c.loop-g.g c.value_in-value.result ∙ c.loop-g.invariant.shape);
      small = subst HasSmallIntegers (sym c.set.ensures) (put_small c.loop-g.state (Slot.Global c.loop-g.g) c.value_in-value.result c.loop-g.invariant.small c.value_in-value.ensures.small);
    }

pub returns-clause-filled : goal.returns-clause-filled
returns-clause-filled c w chosen =
    let v : Values = table_values c.args.masks.now c.args.classes.now w in
    let size : length (map_from (global_value v) 0 c.args.protocol.now.globals) ≡ length c.args.protocol.now.globals = made_length (global_value v) 0 c.args.protocol.now.globals in
    let past : length c.args.protocol.now.globals ≤ c.loop-g.g = omega (arith, ap (λ (xs : List Decl). length xs) c.as_slice-decl-items.ensures) in
    globals_done c.args.state.now c.loop-g.state (map_from (global_value v) 0 c.args.protocol.now.globals) c.loop-g.g (c.loop-g.invariant.filled w chosen) (omega arith) (omega (arith, c.requires.shape))
