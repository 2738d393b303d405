use Rattle.std.proofs.Common.{◌≡◌, ℕ, ◌+◌, ◌<◌, ◌≤◌, ◌∙◌, sym, ap, subst, arith, List, length, get_or, set, ℤ, length-set, refl}
use Rattle.std.specs.List.{range_with_len}
use Rattle.std.proofs.lemmas.List.FromFn.{length-map-range_with_len, get_or-map-range_with_len}
use Rattle.cub_proto.specs.declared.literal.Term.{Term}
use Rattle.cub_proto.specs.declared.literal.Term.TheVariants as Term
use Rattle.cub_proto.specs.declared.state.Slot.TheVariants as Slot
use Rattle.cub_proto.specs.declared.state.Val.{Val}
use Rattle.cub_proto.specs.declared.state.Val.TheVariants.{Con}
use Rattle.cub_proto.specs.declared.protocol.Decl.{Decl}
use Rattle.cub_proto.specs.Configuration.{Configuration, put, cells_of, process_count}
use Rattle.theory_laws.specs.Built.{Values, cell_values, value_of, home}
use Rattle.theory_laws.specs.Small.{HasSmallIntegers}
use Rattle.theory.specs.Loaded.{AreChosen, table_values}
use Rattle.theory.proofs.Filling.{cells_start, cells_step, cells_done, put_small, put_cells}
use Rattle.theory.proofs.chosen.fill_cells.Goals as goal

values_length : (width n a : ℕ) (v : Values) (d : Decl) → length (cell_values width n v a d) ≡ n
values_length width n a v d = length-map-range_with_len (λ i. value_of v d.sort (Term.Cell a (home width i))) 0 n

pub loop-i-init : goal.loop-i-init
loop-i-init c = record {
  filled = λ w chosen. cells_start c.args.state.now (cell_values c.args.width (process_count c.args.state.now) (table_values c.args.masks.now c.args.classes.now w) c.args.a c.args.decl.now) c.args.a;
  there = c.requires.there;
  cells = c.requires.cells;
  small = c.requires.small;
}

pub loop-i-preserved : goal.loop-i-preserved
loop-i-preserved c =
    let n : ℕ = process_count c.args.state.now in
    let below : c.loop-i.i < n = omega (arith, c.processes-i-end.ensures, c.loop-i-test.true) in
    let kept = put_cells c.loop-i.state c.args.a c.loop-i.i c.value_in-value.result c.loop-i.invariant.there in
    record {
      filled = λ w chosen.
          let v : Values = table_values c.args.masks.now c.args.classes.now w in
          let size : length (cell_values c.args.width n v c.args.a c.args.decl.now) ≡ n = values_length c.args.width n c.args.a v c.args.decl.now in
          let zero_on : 0 + c.loop-i.i ≡ c.loop-i.i = omega arith in
          let item : c.value_in-value.result ≡ get_or (cell_values c.args.width n v c.args.a c.args.decl.now) c.loop-i.i (Con 0) =
          c.value_in-value.ensures.value w chosen
          ∙ (ap (λ (q : ℕ). value_of v c.args.decl.now.sort (Term.Cell c.args.a q)) c.home.ensures
          ∙ sym (get_or-map-range_with_len (λ i. value_of v c.args.decl.now.sort (Term.Cell c.args.a (home c.args.width i))) 0 n c.loop-i.i c.loop-i.i (Con 0) below zero_on)) in
          c.set.ensures ∙ cells_step c.args.state.now c.loop-i.state (cell_values c.args.width n v c.args.a c.args.decl.now) c.args.a c.loop-i.i c.value_in-value.result (c.loop-i.invariant.filled w chosen) c.requires.there (omega arith) (omega (arith, c.requires.cells)) item;
      there = subst (λ (s : Configuration). c.args.a < length s.arrays) (sym c.set.ensures) kept.0;
      cells = ap (λ (s : Configuration). length (cells_of s c.args.a)) c.set.ensures ∙ (kept.1 ∙ c.loop-i.invariant.cells);
      small = subst HasSmallIntegers (sym c.set.ensures) (put_small c.loop-i.state (Slot.Cell c.args.a c.loop-i.i) c.value_in-value.result c.loop-i.invariant.small c.value_in-value.ensures.small);
    }

pub returns-clause-filled : goal.returns-clause-filled
returns-clause-filled c w chosen =
    let n : ℕ = process_count c.args.state.now in
    let v : Values = table_values c.args.masks.now c.args.classes.now w in
    let size : length (cell_values c.args.width n v c.args.a c.args.decl.now) ≡ n = values_length c.args.width n c.args.a v c.args.decl.now in
    let past : n ≤ c.loop-i.i = omega (arith, c.processes-i-end.ensures) in
    cells_done c.args.state.now c.loop-i.state (cell_values c.args.width n v c.args.a c.args.decl.now) c.args.a c.loop-i.i (c.loop-i.invariant.filled w chosen) (omega arith) (omega (arith, c.requires.cells))
