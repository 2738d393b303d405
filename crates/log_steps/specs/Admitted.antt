-- Lists of added cubes that are given, and not made.
use Rattle.std.specs.Prelude.{◌≡◌, ◌⊎◌, ℕ, ◌+◌, ◌<◌, ◌≤◌, Bool, false, List, [], ◌∷◌, ◌++◌, map, length, take, slice_index_or, IsTrue, All}
use Rattle.cub_proto.specs.declared.protocol.Protocol.{Protocol}
use Rattle.cub_cube.specs.declared.cube.Cube.{Cube}
use Rattle.cub_cube.specs.Cover.{IsCovered}
use Rattle.cub_cube.specs.Starts.{IsStartCube}
use Rattle.log_form.specs.declared.event.Added.{Added}
use Rattle.log_form.specs.declared.numbered.Numbered.{Numbered}
use Rattle.log_form.specs.Pieces.{IsAskable}
use Rattle.log_form.specs.Links.{no_cube}
use Rattle.log_form.specs.Legal.{IsAdded, Adds}
use Rattle.log_steps.specs.declared.admitting.ListFault.{ListFault}
use Rattle.log_steps.specs.declared.admitting.ListFault.TheVariants.{Not, Memory}
use Rattle.log_steps.specs.declared.admitting.Step.{Step}
use Rattle.log_steps.specs.declared.admitting.Step.TheVariants.{Goes, Stops}
use Rattle.log_steps.specs.declared.judgement.Pick.{Pick}
use Rattle.log_steps.specs.Judged.{added_of, pick_cubes, IsExact, ArePicks, AddsSoFar}

abbrev pub no_added : Added
no_added = record { piece = 0; places = []; cube = no_cube }

-- The items are added for the pieces in order, as an event adds them, and may stop anywhere: a front of a list that an event
-- may add. What is covered is passed over, each other piece is added, and one that meets a start state is the last.
abbrev pub AddsSome : Protocol → List Cube → List Numbered → List Added → Type 0
AddsSome p cubes pieces [] = Unit {0}
AddsSome p cubes [] (a ∷ items) = ⊥
AddsSome p cubes (piece ∷ pieces) (a ∷ items) =
    (IsCovered p cubes piece.cube × AddsSome p cubes pieces (a ∷ items))
    ⊎ (IsAdded p cubes piece a
    × ((IsStartCube p a.cube × (items ≡ [])) ⊎ ((IsStartCube p a.cube → ⊥) × AddsSome p (cubes ++ a.cube ∷ []) pieces items)))

-- the number of the first item that may not be added after those before it, or for which there is no room; where there is no
-- such item, their number, and a piece is lacking
pub record IsFirstUnfit (p : Protocol) (cubes : List Cube) (list : List Numbered) (items : List Added) (room number : ℕ) : Type 0 where
  pub before : AddsSome p cubes list (take number items)
  pub within : number ≤ room
  pub inside : number ≤ length items
  pub unfit : number < length items → (room ≤ number) ⊎ (AddsSome p cubes list (take (number + 1) items) → ⊥)
  pub lacking : number ≡ length items → Adds p cubes list items → ⊥

-- a fault that names an item names the first unfit one
abbrev pub NamesUnfit : Protocol → List Cube → List Numbered → List Added → ℕ → ListFault → Type 0
NamesUnfit p cubes list items room (Not added) = IsFirstUnfit p cubes list items room added
NamesUnfit p cubes list items room Memory = Unit {0}

-- the picks are the items, and an event may add them
pub record AreAllAdmitted (p : Protocol) (cubes : List Cube) (list : List Numbered) (items : List Added) (picks : List Pick) : Type 0 where
  pub are : ArePicks p cubes list picks
  pub all : map added_of picks ≡ items

-- what the first pieces take of the items, whatever pieces come after them
abbrev pub SomeSoFar : Protocol → List Cube → List Numbered → List Pick → Bool → Type 0
SomeSoFar p cubes done picks ended =
    (IsTrue ended × ((more : List Numbered) → AddsSome p cubes (done ++ more) (map added_of picks)))
    ⊎ ((ended ≡ false) × ((more : List Numbered) (rest : List Added) → AddsSome p (cubes ++ pick_cubes picks) more rest → AddsSome p cubes (done ++ more) (map added_of picks ++ rest)))

-- the picks are the first items, and no others may be added for the first pieces of a list
pub record AreAdmitted (p : Protocol) (cubes : List Cube) (items : List Added) (room : ℕ) (done : List Numbered) (picks : List Pick) (ended : Bool) : Type 0 where
  pub taken : map added_of picks ≡ take (length picks) items
  pub inside : length picks ≤ length items
  pub within : length picks ≤ room
  pub adds : AddsSoFar p cubes done picks ended
  pub some : SomeSoFar p cubes done picks ended
  pub next : (more : List Numbered) (a : Added) (rest : List Added) → AddsSome p cubes (done ++ more) (map added_of picks ++ a ∷ rest)
      → (ended ≡ false) × AddsSome p (cubes ++ pick_cubes picks) more (a ∷ rest)
  pub whole : ended ≡ false → (more : List Numbered) (rest : List Added) → Adds p cubes (done ++ more) (map added_of picks ++ rest) → Adds p (cubes ++ pick_cubes picks) more rest
  pub exact : All (IsExact p cubes) picks
  pub fit : All (λ k. IsAskable p k.cube) picks

-- the next item may not be added for the piece, which nothing covers, or there is no room for it
pub record IsStopped (p : Protocol) (cubes : List Cube) (items : List Added) (room : ℕ) (picks : List Pick) (piece : Numbered) : Type 0 where
  pub uncovered : IsCovered p (cubes ++ pick_cubes picks) piece.cube → ⊥
  pub unfit : length picks < length items → (room ≤ length picks) ⊎ (IsAdded p (cubes ++ pick_cubes picks) piece (slice_index_or items (length picks) no_added) → ⊥)

-- what going on with one more piece says
abbrev pub AdmitsPiece : Protocol → List Cube → List Added → ℕ → List Pick → Bool → Numbered → Step → List Pick → Type 0
AdmitsPiece p cubes items room old ended piece (Goes last) new =
    (done : List Numbered) → AreAdmitted p cubes items room done old ended → AreAdmitted p cubes items room (done ++ piece ∷ []) new last
AdmitsPiece p cubes items room old ended piece Stops new = (new ≡ old) × (ended ≡ false) × IsStopped p cubes items room old piece
