use Rattle.std.proofs.Common.{◌≡◌, ℕ, ℤ, List, ◌++◌, length, take, drop}
use Rattle.cub_proto.specs.declared.literal.Term.{Term}
use Rattle.cub_proto.specs.Configuration.{process_count}
use Rattle.cub_base.specs.Numbered.{map_from}
use Rattle.theory_laws.specs.Built.{cell_values}
use Rattle.theory_laws.specs.Small.{HasSmallIntegers}
use Rattle.theory.specs.Loaded.{AreChosen, table_values}
use Rattle.theory.proofs.chosen.fill_arrays.Given as goal

abbrev pub invariant-loop-a : goal.invariant-loop-a
invariant-loop-a l = record {
  filled : (w : Term → ℤ) → AreChosen w l.integers → l.state ≡ record l.fn.state { arrays = take l.a (map_from (cell_values l.width (process_count l.fn.state) (table_values l.masks l.classes w)) 0 l.protocol.arrays) ++ drop l.a l.fn.state.arrays };
  small : HasSmallIntegers l.state;
}
