-- What the list of an event is: no cube before an added one covers it, one that meets a start state is the last, and
-- where none does, each piece is covered in the end.
use Rattle.std.proofs.Common.{◌≡◌, ℕ, zero, suc, ◌<◌, List, [], ◌∷◌, ◌++◌, length, get_or, take, refl, sym, ap, subst, arith, inl, inr}
use Rattle.std.specs.Prelude.{Contains}
use Rattle.std.proofs.lemmas.List.{append_assoc, append-nil}
use Rattle.cub_proto.specs.declared.protocol.Protocol.{Protocol}
use Rattle.cub_cube.specs.declared.cube.Cube.{Cube}
use Rattle.cub_cube.specs.Cover.{DoesCover, IsCovered}
use Rattle.log_form.specs.declared.event.Added.{Added}
use Rattle.log_form.specs.declared.numbered.Numbered.{Numbered}
use Rattle.log_form.specs.Forms.{IsForm}
use Rattle.cub_cube.specs.Starts.{IsStartCube}
use Rattle.log_form.specs.Links.{cube_at}
use Rattle.log_form.specs.Log.{added_cubes}
use Rattle.log_form.specs.Legal.{IsAdded, Adds, EndsBad}
use Rattle.log_form.proofs.Covered.{itself, form_covers, covered_left, covered_right, covered_form}

-- a piece's cube that is covered is no added one
not_added : (p : Protocol) (cubes : List Cube) (piece : Numbered) (a : Added) → IsAdded p cubes piece a → IsCovered p cubes a.cube → ⊥
not_added p cubes piece a is_added covered = is_added.uncovered (covered_form p cubes piece.cube a.places a.cube is_added.form covered)

pub adds_fresh : (p : Protocol) (cubes : List Cube) (pieces : List Numbered) (added : List Added) → Adds p cubes pieces added
    → (k : ℕ) → k < length added → IsCovered p (cubes ++ take k (added_cubes added)) (cube_at (added_cubes added) k) → ⊥
adds_fresh p cubes [] added h k below covered = let none : length added ≡ 0 = ap length h in absurd (omega arith)
adds_fresh p cubes (piece ∷ pieces) [] h k below covered = absurd (omega arith)
adds_fresh p cubes (piece ∷ pieces) (a ∷ added) (inl (passed, rest)) k below covered = adds_fresh p cubes pieces (a ∷ added) rest k below covered
adds_fresh p cubes (piece ∷ pieces) (a ∷ added) (inr (is_added, more)) zero below covered =
    not_added p cubes piece a is_added (subst (λ xs. IsCovered p xs a.cube) (append-nil cubes) covered)
adds_fresh p cubes (piece ∷ pieces) (a ∷ added) (inr (is_added, inl (starts, last))) (suc k) below covered =
    let none : length added ≡ 0 = ap length last in absurd (omega arith)
adds_fresh p cubes (piece ∷ pieces) (a ∷ added) (inr (is_added, inr (unstarted, rest))) (suc k) below covered =
    adds_fresh p (cubes ++ a.cube ∷ []) pieces added rest k (omega arith)
    (subst (λ xs. IsCovered p xs (cube_at (added_cubes added) k)) (sym (append_assoc cubes (a.cube ∷ []) (take k (added_cubes added)))) covered)

-- the last added cube of a list that ends bad
pub bad_last : (p : Protocol) (added : List Added) → EndsBad p added → (k : ℕ) × (length added ≡ suc k) × IsStartCube p (cube_at (added_cubes added) k)
bad_last p [] h = absurd h
bad_last p (a ∷ []) h = (0, refl, h)
bad_last p (a ∷ b ∷ added) h = let (k, size, meets) = bad_last p (b ∷ added) h in (suc k, omega arith, meets)

bad_more : (p : Protocol) (a : Added) (added : List Added) → EndsBad p added → EndsBad p (a ∷ added)
bad_more p a [] h = absurd h
bad_more p a (b ∷ added) h = h

pub adds_start : (p : Protocol) (cubes : List Cube) (pieces : List Numbered) (added : List Added) → Adds p cubes pieces added
    → (k : ℕ) → k < length added → IsStartCube p (cube_at (added_cubes added) k) → (length added ≡ suc k) × EndsBad p added
adds_start p cubes [] added h k below meets = let none : length added ≡ 0 = ap length h in absurd (omega arith)
adds_start p cubes (piece ∷ pieces) [] h k below meets = absurd (omega arith)
adds_start p cubes (piece ∷ pieces) (a ∷ added) (inl (passed, rest)) k below meets = adds_start p cubes pieces (a ∷ added) rest k below meets
adds_start p cubes (piece ∷ pieces) (a ∷ added) (inr (is_added, inl (starts, last))) zero below meets =
    (ap (λ xs. length (a ∷ xs)) last, subst (λ xs. EndsBad p (a ∷ xs)) (sym last) starts)
adds_start p cubes (piece ∷ pieces) (a ∷ added) (inr (is_added, inr (unstarted, rest))) zero below meets = absurd (unstarted meets)
adds_start p cubes (piece ∷ pieces) (a ∷ added) (inr (is_added, inl (starts, last))) (suc k) below meets =
    let none : length added ≡ 0 = ap length last in absurd (omega arith)
adds_start p cubes (piece ∷ pieces) (a ∷ added) (inr (is_added, inr (unstarted, rest))) (suc k) below meets =
    let (size, bad) = adds_start p (cubes ++ a.cube ∷ []) pieces added rest k (omega arith) meets in
    (omega arith, bad_more p a added bad)

-- where the list doesn't end bad, each piece is covered by the cubes and the added ones
pub adds_all : (p : Protocol) (cubes : List Cube) (pieces : List Numbered) (added : List Added) → Adds p cubes pieces added → (EndsBad p added → ⊥)
    → (x : Numbered) → Contains pieces x → IsCovered p (cubes ++ added_cubes added) x.cube
adds_all p cubes [] added h good x (k, below, is) = absurd (omega arith)
adds_all p cubes (piece ∷ pieces) [] (passed, rest) good x (zero, below, is) =
    covered_left p cubes [] x.cube (subst (λ (y : Numbered). IsCovered p cubes y.cube) is passed)
adds_all p cubes (piece ∷ pieces) [] (passed, rest) good x (suc k, below, is) = adds_all p cubes pieces [] rest good x (k, omega arith, is)
adds_all p cubes (piece ∷ pieces) (a ∷ added) (inl (passed, rest)) good x (zero, below, is) =
    covered_left p cubes (added_cubes (a ∷ added)) x.cube (subst (λ (y : Numbered). IsCovered p cubes y.cube) is passed)
adds_all p cubes (piece ∷ pieces) (a ∷ added) (inl (passed, rest)) good x (suc k, below, is) = adds_all p cubes pieces (a ∷ added) rest good x (k, omega arith, is)
adds_all p cubes (piece ∷ pieces) (a ∷ added) (inr (is_added, more)) good x (zero, below, is) =
    let covers : DoesCover p a.cube piece.cube = form_covers p piece.cube a.places a.cube a.cube is_added.form (itself p a.cube) in
    covered_right p cubes (added_cubes (a ∷ added)) x.cube (a.cube, (0, omega arith, refl), subst (λ (y : Numbered). DoesCover p a.cube y.cube) is covers)
adds_all p cubes (piece ∷ pieces) (a ∷ added) (inr (is_added, inl (starts, last))) good x (suc k, below, is) =
    absurd (good (subst (λ xs. EndsBad p (a ∷ xs)) (sym last) starts))
adds_all p cubes (piece ∷ pieces) (a ∷ added) (inr (is_added, inr (unstarted, rest))) good x (suc k, below, is) =
    subst (λ xs. IsCovered p xs x.cube) (append_assoc cubes (a.cube ∷ []) (added_cubes added))
    (adds_all p (cubes ++ a.cube ∷ []) pieces added rest (λ bad. good (bad_more p a added bad)) x (k, omega arith, is))

-- each added cube is a form of a piece
pub record IsFormOfPiece (p : Protocol) (pieces : List Numbered) (a : Added) : Type 0 where
  pub piece : Numbered
  pub inside : Contains pieces piece
  pub numbered : a.piece ≡ piece.number
  pub form : IsForm p piece.cube a.places a.cube

later_piece : (p : Protocol) (piece : Numbered) (pieces : List Numbered) (a : Added) → IsFormOfPiece p pieces a → IsFormOfPiece p (piece ∷ pieces) a
later_piece p piece pieces a h =
    record { piece = h.piece; inside = (suc h.inside.0, omega arith, h.inside.2); numbered = h.numbered; form = h.form }

pub adds_forms : (p : Protocol) (cubes : List Cube) (pieces : List Numbered) (added : List Added) → Adds p cubes pieces added
    → (k : ℕ) (d : Added) → k < length added → IsFormOfPiece p pieces (get_or added k d)
adds_forms p cubes [] added h k d below = let none : length added ≡ 0 = ap length h in absurd (omega arith)
adds_forms p cubes (piece ∷ pieces) [] h k d below = absurd (omega arith)
adds_forms p cubes (piece ∷ pieces) (a ∷ added) (inl (passed, rest)) k d below =
    later_piece p piece pieces (get_or (a ∷ added) k d) (adds_forms p cubes pieces (a ∷ added) rest k d below)
adds_forms p cubes (piece ∷ pieces) (a ∷ added) (inr (is_added, more)) zero d below =
    record { piece = piece; inside = (0, omega arith, refl); numbered = is_added.numbered; form = is_added.form }
adds_forms p cubes (piece ∷ pieces) (a ∷ added) (inr (is_added, inl (starts, last))) (suc k) d below =
    let none : length added ≡ 0 = ap length last in absurd (omega arith)
adds_forms p cubes (piece ∷ pieces) (a ∷ added) (inr (is_added, inr (unstarted, rest))) (suc k) d below =
    later_piece p piece pieces (get_or added k d) (adds_forms p (cubes ++ a.cube ∷ []) pieces added rest k d (omega arith))
