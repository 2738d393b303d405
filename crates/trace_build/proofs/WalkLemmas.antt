-- A walk along a chain, link by link.
use Rattle.std.proofs.Common.{◌≡◌, ℕ, ◌+◌, ◌<◌, ◌≤◌, List, [], ◌∷◌, ◌++◌, drop, take, length, get_or, Option, Some, None, slice_get, refl, sym, ap, ◌∙◌, subst, arith, append_assoc}
use Rattle.std.specs.Prelude.{option_map}
use Rattle.std.proofs.lemmas.List.{append-nil, drop_all, length-drop, length_push}
use Rattle.cub_proto.specs.declared.event.Event.{Event}
use Rattle.cub_proto.specs.declared.protocol.Protocol.{Protocol}
use Rattle.cub_proto.specs.Configuration.{Configuration}
use Rattle.cub_proto.specs.Meets.{Satisfies}
use Rattle.cub_cube.specs.declared.cube.Cube.{Cube}
use Rattle.cub_cube.specs.Starts.{IsStartCube}
use Rattle.cub_cube.proofs.KeptLemmas.{kept_unique}
use Rattle.log_form.specs.declared.node.Origin.{Origin}
use Rattle.log_form.specs.Pieces.{IsFit, widest, greatest_expanded}
use Rattle.piece_choices.specs.declared.piece.Label.{Label}
use Rattle.piece_choices.specs.declared.piece.Piece.{Piece}
use Rattle.piece_choices.specs.Pieces.{candidates, IsPossible, ArePieces}
use Rattle.theory_laws.specs.Built.{own_places}
use Rattle.pieces.specs.Jobs.{IsExpandable}
use Rattle.trace_laws.specs.declared.chain.Link.{Link}
use Rattle.trace_laws.specs.Standing.{standing}
use Rattle.trace_laws.specs.Leads.{SatisfyFirst}
use Rattle.trace_laws.specs.Chain.{IsPieceOf, NamesPiece, NamesGoal, AreLinked, IsChain}
use Rattle.trace_laws.specs.Along.{IsStepBy, EndsAt, StepsAlong}
use Rattle.trace_laws.proofs.ChainFits.{first_may}
use Rattle.trace_build.specs.First.{first_places, IsChosenStart, IsChosenFirst}
use Rattle.trace_build.proofs.Places.{drop_more}

-- the walk stands at a link: whatever steps lead on from there lead along the whole chain behind those so far
pub record Walks (p : Protocol) (s : Configuration) (chain : List Link) (at : ℕ) (processes : List ℕ) (steps : List Event) : Type 0 where
  pub inside : at < length chain
  pub few : length chain ≤ 65536
  pub count : length steps ≡ at
  pub linked : AreLinked p (drop at chain)
  pub along : (more : List Event) (goal : ℕ) (places : List ℕ) → StepsAlong p s (drop at chain) processes more goal places → StepsAlong p s chain (first_places chain) (steps ++ more) goal places

some_link : (p : Protocol) (chain : List Link) → AreLinked p chain → 0 < length chain
some_link p [] linked = absurd linked
some_link p (link ∷ chain) linked = omega arith

pub chain_some : (p : Protocol) (chain : List Link) → IsChain p chain → 0 < length chain
chain_some p chain is = some_link p chain is.linked

pub walk_begins : (p : Protocol) (s : Configuration) (chain : List Link) → IsChain p chain → Walks p s chain 0 (first_places chain) []
walk_begins p s chain is = record {
  inside = chain_some p chain is;
  few = is.few;
  count = refl;
  linked = is.linked;
  along = λ more goal places h. h;
}

module _ (p : Protocol) (s : Configuration) (chain : List Link) (at : ℕ) (processes : List ℕ) (steps : List Event) (walks : Walks p s chain at processes steps) (link : Link) (is : link ≡ get_or chain at link) where
  -- the link at hand and those behind it
  here : drop at chain ≡ link ∷ drop (at + 1) chain
  here = drop_more chain at link walks.inside ∙ ap (λ x. x ∷ drop (at + 1) chain) (sym is)

  module _ (within : at + 1 < length chain) (next : Link) (is_next : next ≡ get_or chain (at + 1) next) where
    there : drop (at + 1) chain ≡ next ∷ drop (at + 1 + 1) chain
    there = drop_more chain (at + 1) next within ∙ ap (λ x. x ∷ drop (at + 1 + 1) chain) (sym is_next)

    both : drop at chain ≡ link ∷ next ∷ drop (at + 1 + 1) chain
    both = here ∙ ap (λ xs. link ∷ xs) there

    linked_both : NamesPiece p link next.cube link.origin × AreLinked p (next ∷ drop (at + 1 + 1) chain)
    linked_both = subst (AreLinked p) both walks.linked

    pub names_piece : NamesPiece p link next.cube link.origin
    names_piece = linked_both.0

    short : length (next ∷ drop (at + 1 + 1) chain) ≤ 65536
    short = let few = walks.few in let size = ap length there in let left = length-drop (at + 1) chain in omega arith

    narrow_by : (origin : Origin) → NamesPiece p link next.cube origin → next.cube.width ≤ 8
    narrow_by (Origin.Root goal) of = absurd of
    narrow_by (Origin.Piece node number) of = of.narrow

    pub expandable : IsExpandable p next.cube
    expandable =
        let fit = first_may p next (drop (at + 1 + 1) chain) linked_both.1 short in
        record { narrow = narrow_by link.origin linked_both.0; fits = fit.fits; bounded = fit.bounded }

    pub walk_next : (step : Event) → IsStepBy p s next.cube link.origin (standing link.places processes) step
        → Walks p s chain (at + 1) (take next.cube.width (standing link.places processes)) (steps ++ step ∷ [])
    walk_next step by = record {
      inside = within;
      few = walks.few;
      count = length_push steps step ∙ ap (λ n. n + 1) walks.count;
      linked = subst (AreLinked p) (sym there) linked_both.1;
      along = λ more goal places h.
          subst (λ es. StepsAlong p s chain (first_places chain) es goal places) (sym (append_assoc steps (step ∷ []) more))
          (walks.along (step ∷ more) goal places
          (subst (λ xs. StepsAlong p s xs processes (step ∷ more) goal places) (sym both)
          (by, subst (λ xs. StepsAlong p s xs (take next.cube.width (standing link.places processes)) more goal places) there h)));
    }

  -- the last link
  module _ (last : at + 1 ≡ length chain) where
    alone : drop at chain ≡ link ∷ []
    alone = here ∙ ap (λ xs. link ∷ xs) (drop_all (at + 1) chain (omega arith))

    pub names_goal : NamesGoal p link link.origin
    names_goal = subst (AreLinked p) alone walks.linked

    pub walk_ends : (goal : ℕ) (places : List ℕ) → EndsAt link.origin (standing link.places processes) goal places → StepsAlong p s chain (first_places chain) steps goal places
    walk_ends goal places ends =
        subst (λ es. StepsAlong p s chain (first_places chain) es goal places) (append-nil steps)
        (walks.along [] goal places (subst (λ xs. StepsAlong p s xs processes [] goal places) (sym alone) ends))

-- the label of the piece is there
pub label_there : (p : Protocol) (next : Cube) (number : ℕ) (link : Link) (of : IsPieceOf p number link next) (found : Option Label)
    → (list : List Piece) × ArePieces p next list × (found ≡ option_map (λ x. x.label) (slice_get list number)) → found ≡ None → ⊥
label_there p next number link of found h none =
    let same = kept_unique (IsPossible p) (candidates p next) h.0 of.pieces h.1 of.its in
    let some : found ≡ Some of.piece.label =
    h.2 ∙ ap (λ xs. option_map (λ (x : Piece). x.label) (slice_get xs number)) same ∙ ap (option_map (λ (x : Piece). x.label)) of.is_there in
    cc

-- ---- the first link
pub first_fits : (p : Protocol) (chain : List Link) (d : Link) → IsChain p chain → IsFit p widest greatest_expanded (get_or chain 0 d).cube
first_fits p [] d is = absurd is.linked
first_fits p (link ∷ chain) d is = first_may p link chain is.linked is.few

pub first_meets : (p : Protocol) (chain : List Link) (d : Link) → IsChain p chain → IsStartCube p (get_or chain 0 d).cube
first_meets p [] d is = absurd is.linked
first_meets p (link ∷ chain) d is = is.starts

pub first_places_at : (p : Protocol) (chain : List Link) (d : Link) → IsChain p chain → own_places (get_or chain 0 d).cube.width ≡ first_places chain
first_places_at p [] d is = absurd is.linked
first_places_at p (link ∷ chain) d is = refl

pub first_satisfied : (p : Protocol) (s : Configuration) (chain : List Link) (d : Link) → IsChain p chain → Satisfies s (own_places (get_or chain 0 d).cube.width) (get_or chain 0 d).cube.width (get_or chain 0 d).cube.lits
    → SatisfyFirst s chain (first_places chain)
first_satisfied p s [] d is sat = absurd is.linked
first_satisfied p s (link ∷ chain) d is sat = sat

pub first_chosen : (p : Protocol) (s : Configuration) (chain : List Link) (d : Link) → IsChain p chain → IsChosenStart p (get_or chain 0 d).cube s → IsChosenFirst p chain s
first_chosen p s [] d is chosen = absurd is.linked
first_chosen p s (link ∷ chain) d is chosen = chosen

pub one_step_each : (p : Protocol) (s : Configuration) (chain : List Link) (processes : List ℕ) (steps : List Event) (goal : ℕ) (places : List ℕ) → StepsAlong p s chain processes steps goal places → length steps + 1 ≡ length chain
one_step_each p s [] processes steps goal places h = absurd h
one_step_each p s (link ∷ []) processes [] goal places h = refl
one_step_each p s (link ∷ []) processes (step ∷ steps) goal places h = absurd h
one_step_each p s (link ∷ next ∷ chain) processes [] goal places h = absurd h
one_step_each p s (link ∷ next ∷ chain) processes (step ∷ steps) goal places h =
    let rest = one_step_each p s (next ∷ chain) (take next.cube.width (standing link.places processes)) steps goal places h.1 in omega arith
