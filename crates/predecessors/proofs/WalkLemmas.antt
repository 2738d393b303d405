-- Walks through the pieces of a cube.
use Rattle.std.proofs.Common.{◌≡◌, ◌+◌, List, [], ◌∷◌, ◌++◌, sym, ap, subst, refl, ◌∙◌, inl, append-nil, append_assoc, arith}
use Rattle.std.specs.Prelude.{Contains, reverse}
use Rattle.std.proofs.lemmas.List.{reverse-append}
use Rattle.std.proofs.lemmas.List.Elements.{Contains-append_right}
use Rattle.cub_base.proofs.Members.{has_Contains}
use Rattle.cub_proto.specs.declared.protocol.Protocol.{Protocol}
use Rattle.cub_cube.specs.declared.cube.Cube.{Cube}
use Rattle.piece_choices.specs.declared.piece.Piece.{Piece}
use Rattle.pieces.specs.Handed.{TakesAll}
use Rattle.log_form.specs.Pieces.{IsAskable, IsExpandable, greatest_expanded, greatest_asked, step_bound}
use Rattle.log_form.proofs.FormFits.{fit_more}
use Rattle.predecessors.specs.declared.walking.PieceCubes.{PieceCubes}
use Rattle.predecessors.specs.Predecessors.{cubes_of}
use Rattle.predecessors.specs.Facts.{stay_fit}
use Rattle.predecessors.specs.Walks.{AreGiven}

-- what is taken one by one stands in order
pub cubes_listed : (old : PieceCubes) (xs : List Piece) (new : PieceCubes) → TakesAll (λ (a : PieceCubes) (x : Piece) (b : PieceCubes). b.cubes ≡ a.cubes ++ x.cube ∷ []) old xs new
    → new.cubes ≡ old.cubes ++ cubes_of xs
cubes_listed old [] new h = ap (λ (s : PieceCubes). s.cubes) h ∙ sym (append-nil old.cubes)
cubes_listed old (x ∷ xs) new h = cubes_listed h.0 xs new h.2 ∙ (ap (λ us. us ++ cubes_of xs) h.1 ∙ append_assoc old.cubes (x.cube ∷ []) (cubes_of xs))

turned_last : (front : List Cube) (x : Cube) → reverse (front ++ x ∷ []) ≡ x ∷ reverse front
turned_last front x = reverse-append front (x ∷ [])

module _ (p : Protocol) (c : Cube) where
  -- the next one may be asked about
  pub next_askable : IsExpandable p c → (old new : List Cube) (x : Cube) → old ≡ new ++ x ∷ [] → (done : List Cube) → AreGiven p c old done → IsAskable p x
  next_askable fit old new x is done given =
      let among : Contains (reverse old) x = subst (λ ys. Contains ys x) (sym (ap reverse is ∙ turned_last new x)) (has_Contains (x ∷ reverse new) x (inl refl)) in
      fit_more p 11 (greatest_expanded + step_bound) greatest_asked x (omega arith)
      (stay_fit p greatest_expanded c (done ++ reverse old) x (omega arith) fit given (Contains-append_right done (reverse old) x among))
