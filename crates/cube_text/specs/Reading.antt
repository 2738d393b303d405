-- What a text reads as: a cube, or its fault.
use Rattle.std.specs.Prelude.{ℕ, ◌≤◌, ◌&&◌, if◌then◌else◌, List, bytes_eq, IsTrue, Option, Some, None, Result, Ok, Err}
use Rattle.std.specs.List.{list_all}
use Rattle.cub_proto.specs.declared.protocol.Protocol.{Protocol}
use Rattle.cub_proto.specs.Fits.{literal_fits, is_bounded}
use Rattle.cub_proto.specs.StateOf.{signature_of}
use Rattle.cub_cube.specs.declared.cube.Cube.{Cube}
use Rattle.cub_cube.specs.Normal.{is_normal}
use Rattle.cube_text.specs.declared.fault.CubeFault.{CubeFault}
use Rattle.cube_text.specs.declared.fault.CubeFault.TheVariants.{Form, Unknown, Order}
use Rattle.cube_text.specs.Text.{cube_text}
use Rattle.cube_text.specs.Form.{words_of, has_form}
use Rattle.cube_text.specs.Meaning.{greatest_bound, cube_in}

-- a cube that may be written and read: it fits the protocol and the limits, in normal form
pub record IsLawful (p : Protocol) (widest : ℕ) (c : Cube) : Type 0 where
  pub narrow : c.width ≤ widest
  pub fits : IsTrue (list_all (literal_fits (signature_of p) c.width) c.lits)
  pub bounded : IsTrue (list_all (is_bounded greatest_bound) c.lits)
  pub normal : IsTrue (is_normal (signature_of p) c.lits)

-- a cube has one spelling, that of its text
abbrev pub spelled : Protocol → List ℕ → Option Cube → Result Cube CubeFault
spelled p text None = Err Unknown
spelled p text (Some c) = if is_normal (signature_of p) c.lits && bytes_eq (cube_text p c) text then Ok c else Err Order

-- the cube that the text reads as, or the first of the faults: no form, something unknown, no normal form
abbrev pub reading : Protocol → ℕ → List ℕ → Result Cube CubeFault
reading p widest text = if has_form text then spelled p text (cube_in p widest (words_of text)) else Err Form
