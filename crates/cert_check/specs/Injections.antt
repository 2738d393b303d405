-- Injections of the places of a big cube into those of a small conjunction, as far as they go.
use Rattle.std.specs.Prelude.{◌≡◌, ◌≢◌, ℕ, ◌<◌, Bool, false, List, [], length, replicate, slice_index_or, All, AllPairs, Contains, IsTrue, ◌↔◌}
use Rattle.cub_proto.specs.declared.literal.Lit.{Lit}
use Rattle.cub_proto.specs.declared.protocol.Protocol.{Protocol}
use Rattle.cub_cube.specs.declared.cube.Cube.{Cube}
use Rattle.cub_cube.specs.Rename.{renamed, is_within}
use Rattle.theory_laws.specs.Entailed.{Entails}
use Rattle.theory.specs.Theory.{Theory}
use Rattle.theory.specs.Made.{IsFor}
use Rattle.theory.specs.Loaded.{IsLoaded}
use Rattle.cert_check.specs.Stand.{is_alone, is_joint}

-- the scratch is made for the protocol, and answers for the conjunction
pub record IsReady (p : Protocol) (width : ℕ) (lits : List Lit) (t : Theory) : Type 0 where
  pub made : IsFor p t
  pub loaded : IsLoaded p width lits t

-- the conjunction entails those literals whose only place is k, at the place c
abbrev pub AloneFollow : Protocol → List Lit → ℕ → List Lit → ℕ → ℕ → ℕ → Type 0
AloneFollow p big width lits count k c = (lit : Lit) → Contains big lit → IsTrue (is_alone k lit) → Entails p width lits (renamed (replicate count c) lit)

-- a row has the places of the conjunction that are free for place k
abbrev pub IsRow : Protocol → List Lit → ℕ → List Lit → ℕ → ℕ → List Bool → Type 0
IsRow p big width lits count k row = (c : ℕ) → c < width → IsTrue (slice_index_or row c false) ↔ AloneFollow p big width lits count k c

-- the rows of the first places, of eight
pub record AreRows (p : Protocol) (big : List Lit) (width : ℕ) (lits : List Lit) (count : ℕ) (rows : List (List Bool)) : Type 0 where
  pub size : length rows ≡ 8
  pub each : (k : ℕ) → k < count → IsRow p big width lits count k (slice_index_or rows k [])

-- the conjunction entails the literals that mention no place
abbrev pub PlainFollow : Protocol → List Lit → ℕ → List Lit → List ℕ → Type 0
PlainFollow p big width lits places = (lit : Lit) → Contains big lit → IsTrue (is_within 0 lit) → Entails p width lits (renamed places lit)

-- the conjunction entails those literals that end at the last of the places and have another place
abbrev pub JointFollow : Protocol → List Lit → ℕ → List Lit → ℕ → List ℕ → Type 0
JointFollow p big width lits k places = (lit : Lit) → Contains big lit → IsTrue (is_joint k lit) → Entails p width lits (renamed places lit)

-- distinct places of the conjunction, which entails all literals that have no further places
pub record IsPartial (p : Protocol) (big : List Lit) (width : ℕ) (lits : List Lit) (r : List ℕ) : Type 0 where
  pub within : All (λ q. q < width) r
  pub apart : AllPairs (λ x y. x ≢ y) r
  pub follow : (lit : Lit) → Contains big lit → IsTrue (is_within (length r) lit) → Entails p width lits (renamed r lit)

-- a conjunction as a cube
abbrev pub cube_of : ℕ → List Lit → Cube
cube_of its_width its_lits = record { width = its_width; lits = its_lits }
