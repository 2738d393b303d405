-- The obligations of a list of cubes, by their numbers.
use Rattle.std.proofs.Common.{◌≡◌, ℕ, zero, suc, ◌+◌, List, [], ◌∷◌, sym, ap, ◌∙◌, subst, zero-add}
use Rattle.std.specs.Prelude.{Some, IsTrue, Contains, map, slice_get}
use Rattle.std.specs.List.{list_all}
use Rattle.cub_base.specs.Numbered.{map_from}
use Rattle.cub_base.proofs.Members.{Has, has_Contains, contains_Has, has_flat_map, flat_map_has, has_map}
use Rattle.cub_proto.specs.declared.literal.Lit.{Lit}
use Rattle.cub_proto.specs.declared.protocol.Goal.{Goal}
use Rattle.cub_proto.specs.declared.protocol.Protocol.{Protocol}
use Rattle.cub_proto.specs.StateOf.{signature_of}
use Rattle.cub_proto.specs.Fits.{literal_fits}
use Rattle.cub_cube.specs.Goals.{goal_cube}
use Rattle.cub_cube.specs.Normal.{normal_form}
use Rattle.cub_cube.specs.Meaning.{IsConsistent, SameMeaning}
use Rattle.cub_cube.proofs.Form.{fold_true}
use Rattle.cub_cube.proofs.Bounds.{same_back, same_meets}
use Rattle.cub_cube.proofs.KeptLemmas.{kept_has}
use Rattle.piece_choices.specs.declared.piece.Piece.{Piece}
use Rattle.log_form.specs.declared.numbered.Numbered.{Numbered}
use Rattle.log_form.specs.Numbering.{with_number, numbered, AreRoots}
use Rattle.log_form.proofs.Rooted.{goal_literals}
use Rattle.cover_lines.specs.Obligations.{Obligation, OfGoal, OfPiece, goal_obligation, piece_obligation, piece_obligations, all_piece_obligations}
use Rattle.cover_lines.specs.Added.{IsPossibleGoal}
use Rattle.cover_lines.proofs.ZipLemmas.{from_has, has_from}

-- ---- pieces
pub record IsOfPiece (pieces : List (List Piece)) (o : Obligation) : Type 0 where
  pub of : ℕ
  pub list : List Piece
  pub its_list : slice_get pieces of ≡ Some list
  pub number : ℕ
  pub piece : Piece
  pub its : slice_get list number ≡ Some piece
  pub is : OfPiece of number piece.cube ≡ o

pub piece_is : (pieces : List (List Piece)) (o : Obligation) → Has (all_piece_obligations pieces) o → IsOfPiece pieces o
piece_is pieces o h =
    let (list, among, inside) = flat_map_has (λ xs. xs) (map_from piece_obligations 0 pieces) o h in
    let a = from_has piece_obligations 0 pieces list among in
    let b = from_has (piece_obligation (0 + a.place)) 0 a.item o (subst (λ l. Has l o) (sym a.is) inside) in
    record {
      of = a.place;
      list = a.item;
      its_list = a.its;
      number = b.place;
      piece = b.item;
      its = b.its;
      is = ap (λ k. OfPiece k b.place b.item.cube) (sym (zero-add a.place)) ∙ ap (λ k. OfPiece (0 + a.place) k b.item.cube) (sym (zero-add b.place)) ∙ b.is;
    }

pub has_piece : (pieces : List (List Piece)) (k n : ℕ) (xs : List Piece) (x : Piece) → slice_get pieces k ≡ Some xs → slice_get xs n ≡ Some x → Has (all_piece_obligations pieces) (OfPiece k n x.cube)
has_piece pieces k n xs x its at =
    has_flat_map (λ ys. ys) (map_from piece_obligations 0 pieces) (piece_obligations k xs) (OfPiece k n x.cube)
    (subst (λ m. Has (map_from piece_obligations 0 pieces) (piece_obligations m xs)) (zero-add k) (has_from piece_obligations 0 pieces k xs its))
    (subst (λ m. Has (piece_obligations k xs) (OfPiece k m x.cube)) (zero-add n) (has_from (piece_obligation k) 0 xs n x at))

-- ---- goals
form_same : (p : Protocol) (width : ℕ) (lits : List Lit) → IsTrue (list_all (literal_fits (signature_of p) width) lits) → SameMeaning p width (normal_form (signature_of p) lits) lits
form_same p width lits fits s places at =
    fold_true p s places at.state at.processes [] lits (subst (λ w. IsTrue (list_all (literal_fits (signature_of p) w) lits)) (sym at.one_each) fits)

pub goal_possible : (p : Protocol) (g : Goal) → Contains p.goals g → IsPossibleGoal p g → IsConsistent p g.width g.lits
goal_possible p g inside (s, state, meets) =
    let same = form_same p g.width g.lits (goal_literals p g inside) in
    (s, state, same_meets p g.width (goal_cube p g).lits g.lits same s state meets)

pub possible_goal : (p : Protocol) (g : Goal) → Contains p.goals g → IsConsistent p g.width g.lits → IsPossibleGoal p g
possible_goal p g inside (s, state, meets) =
    let same = form_same p g.width g.lits (goal_literals p g inside) in
    (s, state, same_meets p g.width g.lits (goal_cube p g).lits (same_back p g.width (goal_cube p g).lits g.lits same) s state meets)

get_map : {A B : Type 0} (f : A → B) (xs : List A) (k : ℕ) (x : A) → slice_get xs k ≡ Some x → slice_get (map f xs) k ≡ Some (f x)
get_map f [] k x h = cc
get_map f (y ∷ xs) zero x h = let same : y ≡ x = cc in ap (λ z. Some (f z)) same
get_map f (y ∷ xs) (suc k) x h = get_map f xs k x h

pub has_goal : (p : Protocol) (roots : List Numbered) (n : ℕ) (g : Goal) → AreRoots p roots → slice_get p.goals n ≡ Some g → IsPossibleGoal p g → Has (map goal_obligation roots) (OfGoal n (goal_cube p g))
has_goal p roots n g are at possible =
    let among : Has (numbered (map (goal_cube p) p.goals)) (with_number n (goal_cube p g)) =
    subst (λ m. Has (numbered (map (goal_cube p) p.goals)) (with_number m (goal_cube p g))) (zero-add n)
    (has_from with_number 0 (map (goal_cube p) p.goals) n (goal_cube p g) (get_map (goal_cube p) p.goals n g at)) in
    has_map goal_obligation roots (with_number n (goal_cube p g))
    (contains_Has roots (with_number n (goal_cube p g))
    (kept_has (λ (r : Numbered). IsConsistent p r.cube.width r.cube.lits) (numbered (map (goal_cube p) p.goals)) roots (with_number n (goal_cube p g)) are
    (has_Contains (numbered (map (goal_cube p) p.goals)) (with_number n (goal_cube p g)) among) possible))
