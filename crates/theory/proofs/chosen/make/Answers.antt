use Rattle.std.proofs.Common.{◌≡◌, ℕ, ◌<◌, ◌∙◌, sym, ap, subst, arith, List, length, ℤ}
use Rattle.cub_proto.specs.declared.literal.Term.{Term}
use Rattle.cub_proto.specs.declared.state.Val.{Val}
use Rattle.cub_proto.specs.Configuration.{Configuration}
use Rattle.cub_base.specs.Numbered.{map_from}
use Rattle.cub_proto.specs.StateOf.{first_state}
use Rattle.theory_laws.specs.Built.{Values, built, global_value}
use Rattle.theory_laws.specs.Chosen.{needed}
use Rattle.theory.specs.Loaded.{AreChosen, table_values}
use Rattle.theory.proofs.Filling.{first_globals, first_arrays, first_each, first_ints, made_built, some_chosen, same_arrays, same_cells}
use Rattle.theory.proofs.chosen.make.Goals as goal

pub fill_globals-requires-clause-shape : goal.fill_globals-requires-clause-shape
fill_globals-requires-clause-shape c = first_globals c.args.protocol.now c.processes_needed-processes.result c.in_ok-state.state c.in_ok-state.ensures

pub fill_globals-requires-clause-small : goal.fill_globals-requires-clause-small
fill_globals-requires-clause-small c = first_ints c.args.protocol.now c.processes_needed-processes.result c.in_ok-state.state c.in_ok-state.ensures

pub fill_arrays-requires-clause-shape : goal.fill_arrays-requires-clause-shape
fill_arrays-requires-clause-shape c =
    let some = some_chosen c.args.integers.now c.requires.closed in
    let gs : List Val = map_from (global_value (table_values c.args.masks.now c.args.classes.now some.0)) 0 c.args.protocol.now.globals in
    same_arrays c.in_ok-state.state c.fill_globals.new.state gs (c.fill_globals.ensures.filled some.0 some.1)
    ∙ first_arrays c.args.protocol.now c.processes_needed-processes.result c.in_ok-state.state c.in_ok-state.ensures

pub fill_arrays-requires-clause-cells : goal.fill_arrays-requires-clause-cells
fill_arrays-requires-clause-cells c =
    let some = some_chosen c.args.integers.now c.requires.closed in
    let gs : List Val = map_from (global_value (table_values c.args.masks.now c.args.classes.now some.0)) 0 c.args.protocol.now.globals in
    same_cells c.in_ok-state.state c.fill_globals.new.state gs (c.fill_globals.ensures.filled some.0 some.1)
    (first_each c.args.protocol.now c.processes_needed-processes.result c.in_ok-state.state c.in_ok-state.ensures)

pub returns-clause-made : goal.returns-clause-made
returns-clause-made c w chosen =
    let v : Values = table_values c.args.masks.now c.args.classes.now w in
    let made = made_built c.args.protocol.now c.processes_needed-processes.result c.in_ok-state.state c.in_ok-state.ensures c.args.width v c.fill_globals.new.state c.fill_arrays.new.state
    (c.fill_globals.ensures.filled w chosen) (c.fill_arrays.ensures.filled w chosen) in
    made ∙ ap (λ (n : ℕ). built c.args.protocol.now c.args.width n v) (c.processes_needed-processes.ensures.needed c.args.masks.now w)
