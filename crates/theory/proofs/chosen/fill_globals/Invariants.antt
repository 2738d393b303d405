use Rattle.std.proofs.Common.{◌≡◌, ℕ, ℤ, List, ◌++◌, length, take, drop}
use Rattle.cub_proto.specs.declared.literal.Term.{Term}
use Rattle.cub_base.specs.Numbered.{map_from}
use Rattle.theory_laws.specs.Built.{global_value}
use Rattle.theory_laws.specs.Small.{HasSmallIntegers}
use Rattle.theory.specs.Loaded.{AreChosen, table_values}
use Rattle.theory.proofs.chosen.fill_globals.Given as goal

abbrev pub invariant-loop-g : goal.invariant-loop-g
invariant-loop-g l = record {
  filled : (w : Term → ℤ) → AreChosen w l.integers → l.state ≡ record l.fn.state { globals = take l.g (map_from (global_value (table_values l.masks l.classes w)) 0 l.protocol.globals) ++ drop l.g l.fn.state.globals };
  shape : length l.state.globals ≡ length l.protocol.globals;
  small : HasSmallIntegers l.state;
}
