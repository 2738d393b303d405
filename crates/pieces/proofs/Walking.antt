-- What the walk rests on: giving up is right, and a whole draft is handed on exactly where some state meets it.
use Rattle.std.proofs.Common.{◌≡◌, ◌+◌, ◌<◌, ◌≤◌, true, false, Bool, Ok, Err, ℕ, List, [], ◌∷◌, length, drop, refl, sym, ap, ◌∙◌, subst, inl, inr, arith}
use Rattle.std.specs.Prelude.{IsTrue, ◌↔◌, Result, IfOk, OnOk, if◌then◌else◌}
use Rattle.std.specs.List.{flat_map, range_with_len}
use Rattle.std.proofs.lemmas.List.{append-nil}
use Rattle.cub_base.proofs.Members.{Has, has_range, has_flat_map}
use Rattle.cub_proto.specs.declared.transition.Transition.{Transition}
use Rattle.cub_proto.specs.Signature.{Signature}
use Rattle.cub_proto.specs.StateOf.{signature_of}
use Rattle.theory.specs.Theory.{Theory}
use Rattle.theory.specs.Made.{IsKept}
use Rattle.cub_cube.specs.declared.cube.Cube.{Cube}
use Rattle.cub_cube.specs.Kept.{Keeps}
use Rattle.cub_cube.specs.Meaning.{IsConsistent}
use Rattle.piece_choices.specs.declared.piece.Piece.{Piece}
use Rattle.piece_choices.specs.Pieces.{IsPossible}
use Rattle.piece_choices.proofs.Fitting.{its_transition}
use Rattle.piece_steps.specs.Steps.{Draft, Step}
use Rattle.piece_steps.proofs.Pruning.{nothing_behind}
use Rattle.pieces.specs.Options.{options, option_at}
use Rattle.pieces.specs.Marks.{cut_back, mark_of}
use Rattle.pieces.specs.Handed.{piece_of, Hands}
use Rattle.pieces.proofs.Cutting.{option_back, cut_same}
use Rattle.pieces.specs.Jobs.{Search, Stands, behind, step_at, term_number, cube_of}
use Rattle.pieces.proofs.HandsLemmas.{hands_nothing, hands_one, hands_turn}
use Rattle.pieces.proofs.OptionLemmas.{by_options}
use Rattle.pieces.proofs.Readiness.{drop_step}
use Rattle.pieces.proofs.Standing.{next_stands}
use Rattle.pieces.proofs.Leaves.{own_piece}

-- nothing is behind a draft that no state meets
pub gives_up : (j : Search) (steps : List Step) (d : Draft) → Stands j steps d → (IsConsistent j.protocol d.width d.lits → ⊥) → Keeps (IsPossible j.protocol) (behind j steps d) []
gives_up j steps d stands none = nothing_behind j.protocol j.cube j.number j.transition steps d (its_transition j.protocol j.number j.transition stands.job.its) stands.fits none

-- ---- a whole draft
module _ {S : Type 0} (takes : S → Piece → S → Type 0) (j : Search) (d : Draft) (c : Cube) (is : c ≡ cube_of (signature_of j.protocol) j.transition j.cube.lits d) where
  pub hands_whole : (n : ℕ) (e : Draft) (old new : S) → n ≡ j.number → e ≡ d → IsConsistent j.protocol c.width c.lits → takes old (piece_of n e c) new → Hands (IsPossible j.protocol) takes (behind j [] d) old new
  hands_whole n e old new number same met took =
      let here : piece_of n e c ≡ own_piece j d = ap (λ m. piece_of m e c) number ∙ ap (λ x. piece_of j.number x c) same ∙ ap (piece_of j.number d) is in
      hands_one (IsPossible j.protocol) takes (own_piece j d) old new (subst (λ (x : Cube). IsConsistent j.protocol x.width x.lits) is met) (subst (λ x. takes old x new) here took)

  -- where it was taken
  pub hands_taken : {T E : Type 0} (n : ℕ) (e : Draft) (old new : S) → n ≡ j.number → e ≡ d → IsConsistent j.protocol c.width c.lits → (r : Result T E) → OnOk r (takes old (piece_of n e c) new) → OnOk r (Hands (IsPossible j.protocol) takes (behind j [] d) old new)
  hands_taken n e old new number same met (Ok x) took = hands_whole n e old new number same met took
  hands_taken n e old new number same met (Err x) took = tt

  pub hands_none : (old : S) → (IsConsistent j.protocol c.width c.lits → ⊥) → Hands (IsPossible j.protocol) takes (behind j [] d) old old
  hands_none old none = hands_nothing (IsPossible j.protocol) takes (behind j [] d) old old refl (inr ((λ met. none (subst (λ (x : Cube). IsConsistent j.protocol x.width x.lits) (sym is) met)), refl))

-- ---- one option of a step
number_below : (n k : ℕ) → k < n → Has (range_with_len 0 n) k
number_below n k h = let none : 0 + k ≡ k = omega arith in subst (Has (range_with_len 0 n)) none (has_range 0 n k h)

-- the draft of an option stands
pub option_stands : (j : Search) (d e : Draft) (at k : ℕ) → at < length j.steps → Stands j (drop at j.steps) d → k < options (signature_of j.protocol) j.transition j.cube.width (step_at j at) d
    → option_at (signature_of j.protocol) j.transition j.cube.width (step_at j at) d k ≡ e ∷ [] → Stands j (drop (at + 1) j.steps) e
option_stands j d e at k below stands inside is =
    let sig = signature_of j.protocol in
    let step = step_at j at in
    let count = options sig j.transition j.cube.width step d in
    let own = subst (λ ss. Stands j ss d) (drop_step j.steps at below) stands in
    let here : Has (flat_map (option_at sig j.transition j.cube.width step d) (range_with_len 0 count)) e =
    has_flat_map (option_at sig j.transition j.cube.width step d) (range_with_len 0 count) k e (number_below count k inside) (subst (λ es. Has es e) (sym is) (inl refl)) in
    next_stands j step (drop (at + 1) j.steps) d e own (subst (λ es. Has es e) (sym (by_options sig j.transition j.cube.width step d)) here)

-- and cutting back undoes it
pub back_by : {E : Type 0} (sig : Signature) (t : Transition) (width : ℕ) (step : Step) (d e : Draft) (k : ℕ) (r : Result Bool E) → IfOk r (λ taken. option_at sig t width step d k ≡ (if taken then e ∷ [] else [])) → (r ≡ Ok false → e ≡ d)
    → OnOk r (cut_back (mark_of (term_number step) d) e ≡ d)
back_by sig t width step d e k (Ok true) is same = option_back sig t width step d e k is
back_by sig t width step d e k (Ok false) is same = ap (cut_back (mark_of (term_number step) d)) (same refl) ∙ cut_same (term_number step) d
back_by sig t width step d e k (Err x) is same = tt

-- what is behind it is what is behind the option
pub option_hands : {S : Type 0} (takes : S → Piece → S → Type 0) (j : Search) (rest : List Step) (drafts : List Draft) (e : Draft) (old new : S) → drafts ≡ e ∷ [] → Hands (IsPossible j.protocol) takes (behind j rest e) old new
    → Hands (IsPossible j.protocol) takes (flat_map (behind j rest) drafts) old new
option_hands takes j rest drafts e old new is h =
    subst (λ es. Hands (IsPossible j.protocol) takes (flat_map (behind j rest) es) old new) (sym is) (subst (λ xs. Hands (IsPossible j.protocol) takes xs old new) (sym (append-nil (behind j rest e))) h)

-- a step that has no such option
pub no_option_hands : {S : Type 0} (takes : S → Piece → S → Type 0) (j : Search) (rest : List Step) (drafts : List Draft) (old : S) → drafts ≡ [] → Hands (IsPossible j.protocol) takes (flat_map (behind j rest) drafts) old old
no_option_hands takes j rest drafts old is = subst (λ es. Hands (IsPossible j.protocol) takes (flat_map (behind j rest) es) old old) (sym is) (hands_nothing (IsPossible j.protocol) takes [] old old refl refl)

-- an option that is given up
pub given_up_hands : {S : Type 0} (takes : S → Piece → S → Type 0) (j : Search) (rest : List Step) (drafts : List Draft) (e : Draft) (old : S) → drafts ≡ e ∷ [] → Keeps (IsPossible j.protocol) (behind j rest e) []
    → Hands (IsPossible j.protocol) takes (flat_map (behind j rest) drafts) old old
given_up_hands takes j rest drafts e old is none = option_hands takes j rest drafts e old old is (hands_nothing (IsPossible j.protocol) takes (behind j rest e) old old refl none)

-- ---- all options of a step
abbrev pub so_far : Search → ℕ → Draft → ℕ → List Piece
so_far j at d k = flat_map (behind j (drop (at + 1) j.steps)) (flat_map (option_at (signature_of j.protocol) j.transition j.cube.width (step_at j at) d) (range_with_len 0 k))

pub all_options : (j : Search) (at : ℕ) (d : Draft) → at < length j.steps → behind j (drop at j.steps) d ≡ so_far j at d (options (signature_of j.protocol) j.transition j.cube.width (step_at j at) d)
all_options j at d below =
    ap (λ ss. behind j ss d) (drop_step j.steps at below)
    ∙ ap (flat_map (behind j (drop (at + 1) j.steps))) (by_options (signature_of j.protocol) j.transition j.cube.width (step_at j at) d)

-- the options after one more
pub one_more : {S : Type 0} (takes : S → Piece → S → Type 0) (j : Search) (at : ℕ) (d e : Draft) (k : ℕ) (old mid new : S) → e ≡ d → Hands (IsPossible j.protocol) takes (so_far j at d k) old mid
    → Hands (IsPossible j.protocol) takes (flat_map (behind j (drop (at + 1) j.steps)) (option_at (signature_of j.protocol) j.transition j.cube.width (step_at j at) e k)) mid new → Hands (IsPossible j.protocol) takes (so_far j at d (k + 1)) old new
one_more takes j at d e k old mid new same h own =
    hands_turn (IsPossible j.protocol) takes (behind j (drop (at + 1) j.steps)) (option_at (signature_of j.protocol) j.transition j.cube.width (step_at j at) d) k old mid new h
    (subst (λ x. Hands (IsPossible j.protocol) takes (flat_map (behind j (drop (at + 1) j.steps)) (option_at (signature_of j.protocol) j.transition j.cube.width (step_at j at) x k)) mid new) same own)

-- what two calls leave
pub kept_then : (old mid new : Theory) → IsKept old mid → IsKept mid new → IsKept old new
kept_then old mid new h k = record {
  has_one = k.has_one ∙ h.has_one;
  size = k.size ∙ h.size;
  literals = k.literals ∙ h.literals;
  count = k.count ∙ h.count;
  domain_count = k.domain_count ∙ h.domain_count;
  mask_count = k.mask_count ∙ h.mask_count;
  room = k.room ∙ h.room;
}

-- a step is to go
pub some_step : (end : Bool) (at count : ℕ) → (IsTrue end ↔ (at ≡ count)) → end ≡ false → at ≤ count → at < count
some_step end at count iff no_end le =
    let differ : (at ≡ count) → ⊥ = λ same. let yes : end ≡ true = iff.1 same in let clash : true ≡ false = sym yes ∙ no_end in cc in
    omega (arith, differ)

-- all options were gone through
pub all_handed : {S : Type 0} (takes : S → Piece → S → Type 0) (j : Search) (at : ℕ) (d : Draft) (count k : ℕ) (old new : S) → at < length j.steps → count ≡ options (signature_of j.protocol) j.transition j.cube.width (step_at j at) d → k ≡ count
    → Hands (IsPossible j.protocol) takes (so_far j at d k) old new → Hands (IsPossible j.protocol) takes (behind j (drop at j.steps) d) old new
all_handed takes j at d count k old new below is all h =
    subst (λ xs. Hands (IsPossible j.protocol) takes xs old new) (sym (all_options j at d below)) (subst (λ n. Hands (IsPossible j.protocol) takes (so_far j at d n) old new) (all ∙ is) h)
