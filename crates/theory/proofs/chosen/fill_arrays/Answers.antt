use Rattle.std.proofs.Common.{◌≡◌, ℕ, ◌+◌, ◌<◌, ◌≤◌, ◌∙◌, sym, ap, subst, arith, List, [], length, get_or, ℤ, refl}
use Rattle.cub_proto.specs.declared.literal.Term.{Term}
use Rattle.cub_proto.specs.declared.state.Val.{Val}
use Rattle.cub_proto.specs.declared.protocol.Decl.{Decl}
use Rattle.cub_proto.specs.Configuration.{Configuration, cells_of, process_count}
use Rattle.cub_base.specs.Numbered.{map_from}
use Rattle.theory_laws.specs.Built.{Values, cell_values}
use Rattle.theory.specs.Loaded.{AreChosen, table_values}
use Rattle.theory.proofs.Filling.{array_there, array_cells, array_count, arrays_step, arrays_done, made_length, item_made, some_chosen}
use Rattle.theory.proofs.chosen.fill_arrays.Goals as goal
use Rattle.theory.proofs.chosen.fill_arrays.Goals.{After-decl-item}

module _ (c : After-decl-item) where
  below : c.loop-a.a < length c.args.protocol.now.arrays
  below = omega (arith, ap (λ (xs : List Decl). length xs) c.as_slice-decl-items.ensures)

  abbrev target : (Term → ℤ) → List (List Val)
  target w = map_from (cell_values c.args.width (process_count c.args.state.now) (table_values c.args.masks.now c.args.classes.now w)) 0 c.args.protocol.now.arrays

  size : (w : Term → ℤ) → length (target w) ≡ length c.args.protocol.now.arrays
  size w = made_length (cell_values c.args.width (process_count c.args.state.now) (table_values c.args.masks.now c.args.classes.now w)) 0 c.args.protocol.now.arrays

  old_size : (w : Term → ℤ) → length c.args.state.now.arrays ≡ length (target w)
  old_size w = c.requires.shape ∙ sym (size w)

  inside : (w : Term → ℤ) → c.loop-a.a < length (target w)
  inside w = omega (arith, below, size w)

pub fill_cells-requires-clause-there : goal.fill_cells-requires-clause-there
fill_cells-requires-clause-there c =
    let some = some_chosen c.args.integers.now c.requires.closed in
    let at : After-decl-item = (goal.at.fill_cells-requires-clause-there c).After-decl-item in
    array_there c.args.state.now c.loop-a.state (target at some.0) c.loop-a.a (c.loop-a.invariant.filled some.0 some.1) (old_size at some.0) (inside at some.0)

pub fill_cells-requires-clause-cells : goal.fill_cells-requires-clause-cells
fill_cells-requires-clause-cells c =
    let some = some_chosen c.args.integers.now c.requires.closed in
    let at : After-decl-item = (goal.at.fill_cells-requires-clause-cells c).After-decl-item in
    let is = c.loop-a.invariant.filled some.0 some.1 in
    let here : c.loop-a.a < length c.args.state.now.arrays = omega (arith, below at, c.requires.shape) in
    ap length (array_cells c.args.state.now c.loop-a.state (target at some.0) c.loop-a.a is (old_size at some.0) (inside at some.0))
    ∙ (c.requires.cells c.loop-a.a here ∙ sym (array_count c.args.state.now c.loop-a.state (target at some.0) c.loop-a.a is (old_size at some.0) (inside at some.0)))

pub loop-a-preserved : goal.loop-a-preserved
loop-a-preserved c =
    let at : After-decl-item = (goal.at.loop-a-preserved c).After-decl-item in
    let decl : get_or c.args.protocol.now.arrays c.loop-a.a c.decl-item.result ≡ c.decl-item.result = sym (c.decl-item.is ∙ ap (λ (xs : List Decl). get_or xs c.loop-a.a c.decl-item.result) c.as_slice-decl-items.ensures) in
    record {
      filled = λ w chosen.
          let v : Values = table_values c.args.masks.now c.args.classes.now w in
          let is = c.loop-a.invariant.filled w chosen in
          let count : process_count c.loop-a.state ≡ process_count c.args.state.now = array_count c.args.state.now c.loop-a.state (target at w) c.loop-a.a is (old_size at w) (inside at w) in
          let item : cell_values c.args.width (process_count c.loop-a.state) v c.loop-a.a c.decl-item.result ≡ get_or (target at w) c.loop-a.a [] =
          ap (λ (n : ℕ). cell_values c.args.width n v c.loop-a.a c.decl-item.result) count
          ∙ (ap (λ (d : Decl). cell_values c.args.width (process_count c.args.state.now) v c.loop-a.a d) (sym decl)
          ∙ sym (item_made (cell_values c.args.width (process_count c.args.state.now) v) c.loop-a.a c.args.protocol.now.arrays c.decl-item.result [] (below at))) in
          arrays_step c.args.state.now c.loop-a.state (target at w) c.loop-a.a is (old_size at w) (inside at w)
          (cell_values c.args.width (process_count c.loop-a.state) v c.loop-a.a c.decl-item.result) item c.fill_cells.new.state (c.fill_cells.ensures.filled w chosen);
      small = c.fill_cells.ensures.small;
    }

pub returns-clause-filled : goal.returns-clause-filled
returns-clause-filled c w chosen =
    let v : Values = table_values c.args.masks.now c.args.classes.now w in
    let made : List (List Val) = map_from (cell_values c.args.width (process_count c.args.state.now) v) 0 c.args.protocol.now.arrays in
    let size : length made ≡ length c.args.protocol.now.arrays = made_length (cell_values c.args.width (process_count c.args.state.now) v) 0 c.args.protocol.now.arrays in
    let past : length c.args.protocol.now.arrays ≤ c.loop-a.a = omega (arith, ap (λ (xs : List Decl). length xs) c.as_slice-decl-items.ensures) in
    arrays_done c.args.state.now c.loop-a.state made c.loop-a.a (c.loop-a.invariant.filled w chosen) (omega arith) (c.requires.shape ∙ sym size)
