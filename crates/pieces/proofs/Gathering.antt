-- The transitions one after the other.
use Rattle.std.proofs.Common.{◌≡◌, ℕ, zero, suc, ◌+◌, ◌<◌, ◌≤◌, List, [], ◌∷◌, ◌++◌, length, take, drop, Option, Some, None, refl, sym, ap, ◌∙◌, subst, arith}
use Rattle.std.specs.Prelude.{IsTrue, nat_le, slice_get, slice_index_or, ◌&&◌}
use Rattle.std.specs.List.{flat_map, list_all}
use Rattle.std.specs.Option.{option_map_or}
use Rattle.cub_base.specs.Numbered.{map_from}
use Rattle.cub_base.proofs.Bools.{and_right, le_is}
use Rattle.cub_proto.specs.declared.transition.Transition.{Transition}
use Rattle.cub_proto.specs.declared.protocol.Protocol.{Protocol}
use Rattle.cub_proto.specs.StateOf.{signature_of}
use Rattle.cub_proto.specs.Fits.{integers_in}
use Rattle.cub_cube.specs.declared.cube.Cube.{Cube}
use Rattle.cub_cube.specs.Mentions.{terms_in}
use Rattle.piece_choices.specs.declared.piece.Piece.{Piece}
use Rattle.piece_choices.specs.Pieces.{candidates_by, candidates, IsPossible}
use Rattle.piece_choices.proofs.Fitting.{its_transition}
use Rattle.piece_choices.proofs.Widths.{transition_few}
use Rattle.piece_steps.specs.Steps.{Draft, steps_of, first_draft}
use Rattle.pieces.specs.Handed.{Hands}
use Rattle.pieces.specs.Jobs.{Search, IsJob, Stands, behind, by_number}
use Rattle.pieces.proofs.HandsLemmas.{hands_nothing, hands_more}
use Rattle.pieces.proofs.StepLists.{lists_more, all_few}
use Rattle.pieces.proofs.Beginning.{first_stands, first_behind}

pub get_there : {A : Type 0} (xs : List A) (n : ℕ) (d : A) → n < length xs → slice_get xs n ≡ Some (slice_index_or xs n d)
get_there [] n d h = absurd (omega arith)
get_there (x ∷ xs) zero d h = refl
get_there (x ∷ xs) (suc n) d h = get_there xs n d (omega arith)

-- there are at most 256 transitions
pub few_transitions : (p : Protocol) → length p.transitions ≤ 256
few_transitions p =
    le_is (length p.transitions) 256
    (and_right
    (nat_le (length p.sorts) 257 && nat_le (length p.globals) 64 && nat_le (integers_in p.globals) 16 && nat_le (length p.arrays) 32 && nat_le (integers_in p.arrays) 8 && nat_le (length p.goals) 4096)
    (nat_le (length p.transitions) 256) p.few)

pub few_params : (p : Protocol) (number : ℕ) (t : Transition) → slice_get p.transitions number ≡ Some t → t.params ≤ 3
few_params p number t at = let few = transition_few p number t at in omega arith

pub short_updates : (p : Protocol) (number : ℕ) (t : Transition) → slice_get p.transitions number ≡ Some t → IsTrue (list_all (λ u. nat_le (length u.branches) 64) t.updates)
short_updates p number t at = all_few (signature_of p) t.params t.updates (its_transition p number t at).updates

-- one walk through all steps
pub whole_walk : (j : Search) (d : Draft) → IsJob j → j.steps ≡ steps_of j.transition j.cube.width (terms_in j.cube.lits) → d ≡ first_draft j.cube.width (terms_in j.cube.lits) → Stands j (drop 0 j.steps) d
whole_walk j d job steps first = subst (Stands j j.steps) (sym first) (first_stands j job steps)

pub whole_hands : {S : Type 0} (takes : S → Piece → S → Type 0) (j : Search) (d : Draft) (old new : S) → j.steps ≡ steps_of j.transition j.cube.width (terms_in j.cube.lits) → d ≡ first_draft j.cube.width (terms_in j.cube.lits)
    → Hands (IsPossible j.protocol) takes (behind j (drop 0 j.steps) d) old new → Hands (IsPossible j.protocol) takes (candidates_by j.protocol j.cube j.number j.transition) old new
whole_hands takes j d old new steps first h = subst (λ xs. Hands (IsPossible j.protocol) takes xs old new) (ap (behind j j.steps) first ∙ first_behind j steps) h

-- one more transition
abbrev pub by_first : Protocol → Cube → ℕ → List Piece
by_first p c n = flat_map (λ xs. xs) (map_from (candidates_by p c) 0 (take n p.transitions))

pub no_transitions : {S : Type 0} (takes : S → Piece → S → Type 0) (p : Protocol) (c : Cube) (old : S) → Hands (IsPossible p) takes (by_first p c 0) old old
no_transitions takes p c old = hands_nothing (IsPossible p) takes [] old old refl refl

pub one_transition_more : {S : Type 0} (takes : S → Piece → S → Type 0) (p : Protocol) (c : Cube) (n : ℕ) (old mid new : S) → n < length p.transitions → Hands (IsPossible p) takes (by_first p c n) old mid → Hands (IsPossible p) takes (by_number p c n) mid new
    → Hands (IsPossible p) takes (by_first p c (n + 1)) old new
one_transition_more takes p c n old mid new below h k = by (slice_get p.transitions n) refl k
  where
    by : (o : Option Transition) → slice_get p.transitions n ≡ o → Hands (IsPossible p) takes (option_map_or (candidates_by p c n) o []) mid new → Hands (IsPossible p) takes (by_first p c (n + 1)) old new
    by None is own = absurd (none p.transitions n below is)
      where
        none : (ts : List Transition) (n : ℕ) → n < length ts → slice_get ts n ≡ None → ⊥
        none [] n h e = omega arith
        none (t ∷ ts) zero h e = cc
        none (t ∷ ts) (suc n) h e = none ts n (omega arith) e
    by (Some t) is own =
        let there : Some t ≡ Some (slice_index_or p.transitions n t) = sym is ∙ get_there p.transitions n t below in
        let same : t ≡ slice_index_or p.transitions n t = cc in
        let all = lists_more (candidates_by p c) p.transitions t n below ∙ ap (λ x. by_first p c n ++ candidates_by p c n x) (sym same) in
        subst (λ xs. Hands (IsPossible p) takes xs old new) (sym all) (hands_more (IsPossible p) takes (by_first p c n) (candidates_by p c n t) old mid new h own)

take_all : {A : Type 0} (xs : List A) (n : ℕ) → length xs ≤ n → take n xs ≡ xs
take_all [] zero h = refl
take_all [] (suc n) h = refl
take_all (x ∷ xs) zero h = absurd (omega arith)
take_all (x ∷ xs) (suc n) h = ap (λ ys. x ∷ ys) (take_all xs n (omega arith))

pub all_transitions : {S : Type 0} (takes : S → Piece → S → Type 0) (p : Protocol) (c : Cube) (n : ℕ) (old new : S) → length p.transitions ≤ n → Hands (IsPossible p) takes (by_first p c n) old new → Hands (IsPossible p) takes (candidates p c) old new
all_transitions takes p c n old new all h = subst (λ (ts : List Transition). Hands (IsPossible p) takes (flat_map (λ xs. xs) (map_from (candidates_by p c) 0 ts)) old new) (take_all p.transitions n all) h

pub read_transition : (p : Protocol) (ts : List Transition) (number : ℕ) (t : Transition) → ts ≡ p.transitions → number < length p.transitions → t ≡ slice_index_or ts number t → slice_get p.transitions number ≡ Some t
read_transition p ts number t are below is = get_there p.transitions number t below ∙ ap Some (ap (λ (us : List Transition). slice_index_or us number t) (sym are) ∙ sym is)
