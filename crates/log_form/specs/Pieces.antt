-- What the log takes from pre-images: a relation between a cube and the list of its pieces, with three facts.
use Rattle.std.specs.Prelude.{◌≡◌, ℕ, ◌+◌, ◌≤◌, List, IsTrue, Contains}
use Rattle.std.specs.List.{list_all}
use Rattle.cub_proto.specs.declared.protocol.Protocol.{Protocol}
use Rattle.cub_proto.specs.StateOf.{signature_of}
use Rattle.cub_proto.specs.Fits.{literal_fits, is_bounded, greatest_bound}
use Rattle.cub_cube.specs.declared.cube.Cube.{Cube}
use Rattle.cub_cube.specs.Normal.{is_normal}
use Rattle.cub_cube.specs.Meaning.{IsConsistent}

-- a protocol, a cube, and the list of its pieces in order
abbrev pub PieceRelation : Type 1
PieceRelation = Protocol → Cube → List Cube → Type 0

-- a cube of at most that width whose literals fit the protocol, in normal form, with bounds up to a limit
pub record IsFit (p : Protocol) (widest limit : ℕ) (c : Cube) : Type 0 where
  pub narrow : c.width ≤ widest
  pub fits : IsTrue (list_all (literal_fits (signature_of p) c.width) c.lits)
  pub normal : IsTrue (is_normal (signature_of p) c.lits)
  pub bounded : IsTrue (list_all (is_bounded limit) c.lits)

-- the greatest width of a cube that is expanded, and of any cube of a log
abbrev pub widest_expanded : ℕ
widest_expanded = 8

abbrev pub widest : ℕ
widest = 11

-- how far a bound moves with one step
abbrev pub step_bound : ℕ
step_bound = 2000000000

-- a cube has one list of pieces at most
abbrev pub AreOne : PieceRelation → Type 0
AreOne pieces = (p : Protocol) (c : Cube) (xs ys : List Cube) → pieces p c xs → pieces p c ys → xs ≡ ys

-- each piece is met by some state
abbrev pub ArePossible : PieceRelation → Type 0
ArePossible pieces = (p : Protocol) (c : Cube) (xs : List Cube) (x : Cube) → pieces p c xs → Contains xs x → IsConsistent p x.width x.lits

-- the greatest size of a bound in a cube that is expanded, and in any cube that is asked about
abbrev pub greatest_expanded : ℕ
greatest_expanded = 140000000000000

abbrev pub greatest_asked : ℕ
greatest_asked = 281474976710655

-- the cube may be expanded, and asked about
abbrev pub IsExpandable : Protocol → Cube → Type 0
IsExpandable p c = IsFit p widest_expanded greatest_expanded c

abbrev pub IsAskable : Protocol → Cube → Type 0
IsAskable p c = IsFit p widest greatest_asked c

-- the pieces of a fit cube fit, at most three places wider and with bounds that one step moved
abbrev pub StayFit : PieceRelation → Type 0
StayFit pieces = (p : Protocol) (limit : ℕ) (c : Cube) (xs : List Cube) (x : Cube) → greatest_bound ≤ limit → IsFit p widest_expanded limit c → pieces p c xs → Contains xs x
    → IsFit p widest (limit + step_bound) x
