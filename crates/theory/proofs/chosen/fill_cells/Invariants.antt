use Rattle.std.proofs.Common.{◌≡◌, ℕ, ℤ, List, ◌<◌, ◌++◌, length, take, drop, set}
use Rattle.cub_proto.specs.declared.literal.Term.{Term}
use Rattle.cub_proto.specs.Configuration.{cells_of, process_count}
use Rattle.theory_laws.specs.Built.{cell_values}
use Rattle.theory_laws.specs.Small.{HasSmallIntegers}
use Rattle.theory.specs.Loaded.{AreChosen, table_values}
use Rattle.theory.proofs.chosen.fill_cells.Given as goal

abbrev pub invariant-loop-i : goal.invariant-loop-i
invariant-loop-i l = record {
  filled : (w : Term → ℤ) → AreChosen w l.integers → l.state ≡ record l.fn.state { arrays = set l.fn.state.arrays l.a (take l.i (cell_values l.width (process_count l.fn.state) (table_values l.masks l.classes w) l.a l.decl) ++ drop l.i (cells_of l.fn.state l.a)) };
  there : l.a < length l.state.arrays;
  cells : length (cells_of l.state l.a) ≡ process_count l.fn.state;
  small : HasSmallIntegers l.state;
}
