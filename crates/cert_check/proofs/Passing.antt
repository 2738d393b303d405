-- What the obligations say together, and what a refusal says against them.
use Rattle.std.proofs.Common.{◌≡◌, ℕ, zero, suc, List, [], ◌∷◌, Some, refl, subst, arith}
use Rattle.std.specs.Prelude.{IsTrue, slice_get, Contains, All}
use Rattle.std.specs.List.{list_all, AllZip}
use Rattle.cub_proto.specs.declared.protocol.Protocol.{Protocol}
use Rattle.cub_proto.specs.declared.cover.CoverLine.{CoverLine}
use Rattle.cub_proto.specs.StateOf.{signature_of}
use Rattle.cub_proto.specs.Fits.{literal_fits}
use Rattle.cub_cube.specs.declared.cube.Cube.{Cube}
use Rattle.cub_cube.proofs.KeptLemmas.{kept_has}
use Rattle.cub_base.proofs.Members.{contains_Has, all_has}
use Rattle.piece_choices.specs.declared.piece.Piece.{Piece}
use Rattle.piece_choices.specs.Pieces.{candidates, IsPossible, ArePieces}
use Rattle.piece_laws.specs.Test.{HasPiece, IsOfObligation, PassesTest, PassesLines}
use Rattle.pieces.specs.Jobs.{IsExpandable}
use Rattle.cert_check.specs.Keys.{key_of}
use Rattle.cert_check.specs.Listed.{AllListed}
use Rattle.cert_check.specs.Obligations.{IsPiece, IsOwed, LineNeeded}
use Rattle.cert_check.specs.Refusal.{StartsHold, GoalsCovered, PiecesCovered, GoalsNamed, PiecesNamed}
use Rattle.cert_check.proofs.Owing.{contains_get, same_piece}

-- ---- version 1
pub all_covered : (p : Protocol) (cubes : List Cube) → StartsHold p cubes → GoalsCovered p cubes → PiecesCovered p cubes → AllListed p cubes → PassesTest p cubes
all_covered p cubes starts goals pieces listed = record {
  start = λ c inside. let at = contains_get cubes c inside in starts at.0 c at.1;
  goals = λ g inside consistent. (let at = contains_get p.goals g inside in goals at.0 g (at.1, consistent));
  pieces = λ c inside x candidate possible.
      (let at = contains_get cubes c inside in
      let list = listed c inside in
      let number = contains_get list.0 x (kept_has (IsPossible p) (candidates p c) list.0 x list.1 candidate possible) in
      pieces at.0 number.0 x (record { cube = c; its = at.1; pieces = list.0; all = list.1; there = number.1 }));
}

pub cubes_fit : (p : Protocol) (cubes : List Cube) → All (IsExpandable p) cubes → (c : Cube) → Contains cubes c → IsTrue (list_all (literal_fits (signature_of p) c.width) c.lits)
cubes_fit p cubes fit c inside = let its = all_has (IsExpandable p) cubes c fit (contains_Has cubes c inside) in its.fits

-- ---- version 2: the lists of pieces side by side with the cubes
lists_of : (p : Protocol) (cubes : List Cube) → ((c : Cube) → Contains cubes c → (xs : List Piece) × ArePieces p c xs) → (lists : List (List Piece)) × AllZip (ArePieces p) cubes lists
lists_of p [] listed = ([], tt)
lists_of p (c ∷ cubes) listed =
    let first = listed c (0, omega arith, refl) in
    let rest = lists_of p cubes (λ d inside. listed d (suc inside.0, omega (arith, inside.1), inside.2)) in
    (first.0 ∷ rest.0, (first.1, rest.1))

zip_cube : (p : Protocol) (cubes : List Cube) (lists : List (List Piece)) (k : ℕ) (list : List Piece) → AllZip (ArePieces p) cubes lists → slice_get lists k ≡ Some list → (c : Cube) × (slice_get cubes k ≡ Some c) × ArePieces p c list
zip_cube p [] [] k list zip e = cc
zip_cube p [] (x ∷ lists) k list zip e = absurd zip
zip_cube p (c ∷ cubes) [] k list zip e = absurd zip
zip_cube p (c ∷ cubes) (x ∷ lists) zero list zip e = let same : x ≡ list = cc in (c, refl, subst (ArePieces p c) same zip.0)
zip_cube p (c ∷ cubes) (x ∷ lists) (suc k) list zip e = zip_cube p cubes lists k list zip.1 e

zip_list : (p : Protocol) (cubes : List Cube) (lists : List (List Piece)) (k : ℕ) (c : Cube) → AllZip (ArePieces p) cubes lists → slice_get cubes k ≡ Some c → (list : List Piece) × (slice_get lists k ≡ Some list) × ArePieces p c list
zip_list p [] lists k c zip e = cc
zip_list p (d ∷ cubes) [] k c zip e = absurd zip
zip_list p (d ∷ cubes) (x ∷ lists) zero c zip e = let same : d ≡ c = cc in (x, refl, subst (λ z. ArePieces p z x) same zip.0)
zip_list p (d ∷ cubes) (x ∷ lists) (suc k) c zip e = zip_list p cubes lists k c zip.1 e

pub has_piece : (p : Protocol) (cubes : List Cube) (lists : List (List Piece)) → AllZip (ArePieces p) cubes lists → (k n : ℕ) (x : Piece) → IsPiece p cubes k n x → HasPiece lists k n x
has_piece p cubes lists zip k n x piece =
    let found = zip_list p cubes lists k piece.cube zip piece.its in
    (found.0, found.1, same_piece p cubes k n piece.cube found.0 x piece.its found.2 piece)

pub is_piece_of : (p : Protocol) (cubes : List Cube) (lists : List (List Piece)) → AllZip (ArePieces p) cubes lists → (k n : ℕ) (x : Piece) → HasPiece lists k n x → IsPiece p cubes k n x
is_piece_of p cubes lists zip k n x has =
    let found = zip_cube p cubes lists k has.0 zip has.1 in
    record { cube = found.0; its = found.1; pieces = has.0; all = found.2; there = has.2 }

pub all_named : (p : Protocol) (cubes : List Cube) (lines : List CoverLine) → StartsHold p cubes → GoalsNamed p cubes lines → PiecesNamed p cubes lines → AllListed p cubes → ((l : ℕ) → LineNeeded p cubes lines l) → PassesLines p cubes lines
all_named p cubes lines starts goals pieces listed needed = by (lists_of p cubes listed)
  where
    owed : (lists : List (List Piece)) → AllZip (ArePieces p) cubes lists → (line : CoverLine) → IsOwed p cubes (key_of line) → IsOfObligation p lists line
    owed lists zip (CoverLine.Unsafe goal number places) own = own
    owed lists zip (CoverLine.Piece cube piece number places) own = (own.0, has_piece p cubes lists zip cube piece own.0 own.1)

    by : (lists : List (List Piece)) × AllZip (ArePieces p) cubes lists → PassesLines p cubes lines
    by (lists, zip) = record {
      start = λ c inside. let at = contains_get cubes c inside in starts at.0 c at.1;
      goals = goals;
      pieces = lists;
      are_pieces = zip;
      covered = λ k n x has. pieces k n x (is_piece_of p cubes lists zip k n x has);
      needed = λ line inside. let at = contains_get lines line inside in owed lists zip line (needed at.0 line at.1);
    }
