-- A scratch that answers what a cube entails.
use Rattle.std.specs.Prelude.{◌≡◌, Bool, false, IsTrue}
use Rattle.cub_proto.specs.declared.protocol.Protocol.{Protocol}
use Rattle.cub_cube.specs.declared.cube.Cube.{Cube}
use Rattle.cub_cube.specs.Meaning.{IsConsistent}
use Rattle.theory_laws.specs.Fitting.{AreFitting}
use Rattle.theory.specs.Theory.{Theory}
use Rattle.theory.specs.Made.{IsFor}
use Rattle.theory.specs.Loaded.{IsLoaded}

-- its tables hold the cube, or no state meets the cube
pub record IsReady (p : Protocol) (c : Cube) (consistent : Bool) (t : Theory) : Type 0 where
  pub made : IsFor p t
  pub fitting : AreFitting p c.width c.lits
  pub loaded : IsTrue consistent → IsLoaded p c.width c.lits t
  pub none : consistent ≡ false → IsConsistent p c.width c.lits → ⊥
