-- One event of a node, in chosen forms, leads to one log.
use Rattle.std.proofs.Common.{◌≡◌, ◌⊎◌, ℕ, ◌+◌, ◌<◌, ◌≤◌, List, length, get_or, refl, sym, ap, ◌∙◌, subst, arith, inl, inr, zero-add}
use Rattle.std.specs.Prelude.{Contains, Option, Some, None, slice_get}
use Rattle.std.proofs.lemmas.List.{get_or_default}
use Rattle.cub_base.proofs.Members.{Has, has_Contains}
use Rattle.cub_proto.specs.declared.protocol.Protocol.{Protocol}
use Rattle.cub_cube.specs.Goals.{goal_cube}
use Rattle.log_form.specs.declared.node.Node.{Node}
use Rattle.log_form.specs.declared.event.Added.{Added}
use Rattle.log_form.specs.declared.event.LogEvent.{LogEvent}
use Rattle.log_form.specs.declared.numbered.Numbered.{Numbered}
use Rattle.log_form.specs.Pieces.{PieceRelation, AreOne}
use Rattle.log_form.specs.Log.{LogValue, node_at, cubes_of, origin_of, new_node}
use Rattle.log_form.specs.Legal.{Adds, Treats, Fills, Grows, Leads}
use Rattle.log_form.proofs.Growth.{no_added, added_node, same_cube, same_origin, same_places, old_cube}
use Rattle.log_form.proofs.Rooted.{number_at, root_is}
use Rattle.log_form.proofs.Unique.{one_after, one_treated, one_count}
use Rattle.log_steps.specs.Chosen.{FormRelation}
use Rattle.cube_core.specs.Answers.{LeadsBy}
use Rattle.cube_core.specs.Chosen.{IsChosenFrom, AreChosen}
use Rattle.crew.proofs.OneList.{AreOneForm, IsChosenOf, one_list}

-- what a list has stands at some number
has_at : (xs : List Added) (a : Added) → Has xs a → (k : ℕ) × (k < length xs) × (get_or xs k no_added ≡ a)
has_at xs a h = by (has_Contains xs a h)
  where
    by : Contains xs a → (k : ℕ) × (k < length xs) × (get_or xs k no_added ≡ a)
    by (k, below, is) = (k, below, get_or_default xs k no_added a below ∙ is)

-- two values at one place are one
there_once : {A : Type 0} (o : Option A) (x y : A) → o ≡ Some x → o ≡ Some y → x ≡ y
there_once o x y h k = let e : Some x ≡ Some y = sym h ∙ k in cc

module _ (C : FormRelation) (P : PieceRelation) (one : AreOne P) (log : LogValue) (after : LogValue) (protocol : after.protocol ≡ log.protocol) where
  -- the chosen form of what an origin names is that of a treated piece with the number
  is_chosen : (of : Option ℕ) (pieces : List Numbered) (a : Added) (n : Node) → Treats P log of pieces
      → ((from : ℕ) → of ≡ Some from → (node_at after.nodes from).cube ≡ (node_at log.nodes from).cube)
      → n.places ≡ a.places → n.cube ≡ a.cube → IsChosenFrom C P after n (origin_of of a.piece) → IsChosenOf C log.protocol pieces a
  is_chosen None pieces a n (first, are) stays places cube (g, is, chosen) x among numbered =
      let root = root_is log.protocol pieces x are (has_Contains pieces x among) in
      let here : slice_get log.protocol.goals x.number ≡ Some g = ap (slice_get log.protocol.goals) (sym numbered) ∙ subst (λ (p : Protocol). slice_get p.goals a.piece ≡ Some g) protocol is in
      let goal : g ≡ root.goal = there_once (slice_get log.protocol.goals x.number) g root.goal here root.is_there in
      let same : goal_cube log.protocol g ≡ x.cube = ap (goal_cube log.protocol) goal ∙ sym root.is in
      subst (λ d. C log.protocol d a.places a.cube) same
      (subst (λ d. C log.protocol (goal_cube log.protocol g) a.places d) cube
      (subst (λ q. C log.protocol (goal_cube log.protocol g) q n.cube) places
      (subst (λ (p : Protocol). C p (goal_cube p g) n.places n.cube) protocol chosen)))
  is_chosen (Some from) pieces a n treats stays places cube (cubes, its, (c, is, chosen)) x among numbered =
      let (k, at, found) = number_at 0 treats.cubes x (subst (λ xs. Contains xs x) treats.is (has_Contains pieces x among)) in
      let mine : P log.protocol (node_at log.nodes from).cube cubes = subst (λ d. P log.protocol d cubes) (stays from refl) (subst (λ p. P p (node_at after.nodes from).cube cubes) protocol its) in
      let lists : cubes ≡ treats.cubes = one log.protocol (node_at log.nodes from).cube cubes treats.cubes mine treats.its in
      let number : a.piece ≡ k = numbered ∙ (at ∙ zero-add k) in
      let here : slice_get treats.cubes k ≡ Some c = subst (λ j. slice_get treats.cubes j ≡ Some c) number (subst (λ ds. slice_get ds a.piece ≡ Some c) lists is) in
      let same : c ≡ x.cube = there_once (slice_get treats.cubes k) c x.cube here found in
      subst (λ d. C log.protocol d a.places a.cube) same
      (subst (λ d. C log.protocol c a.places d) cube
      (subst (λ q. C log.protocol c q n.cube) places
      (subst (λ p. C p c n.places n.cube) protocol chosen)))

  -- what an event added are chosen forms of the pieces that it treated
  added_chosen : (event : LogEvent) (list : List Added) (pieces : List Numbered) → Grows log event list after → Treats P log event.node pieces
      → ((from : ℕ) → event.node ≡ Some from → from < length log.nodes) → AreChosen C P after → (a : Added) → Has list a → IsChosenOf C log.protocol pieces a
  added_chosen event list pieces grows treats known chosen a inside =
      let (k, below, is) = has_at list a inside in
      let i = length log.nodes + k in
      let within : i < length after.nodes = let count = grows.count in omega arith in
      let at : node_at _ i ≡ new_node event.node a = added_node log event list i k refl below ∙ ap (new_node event.node) is in
      let n = node_at after.nodes i in
      is_chosen event.node pieces a n treats
      (λ from of. old_cube log event list after grows from (known from of))
      (same_places log event list after grows i within ∙ ap (λ (m : Node). m.places) at)
      (same_cube log event list after grows i within ∙ ap (λ (m : Node). m.cube) at)
      (subst (IsChosenFrom C P after n) (same_origin log event list after grows i within ∙ ap (λ (m : Node). m.origin) at) (chosen i within))

same_events : (a b : LogEvent) → a.node ≡ b.node → a.added ≡ b.added → a.needed ≡ b.needed → a ≡ b
same_events a b node added needed = λ i. record { node = node i; added = added i; needed = needed i }

abbrev number_or : Option ℕ → ℕ
number_or None = 0
number_or (Some n) = n

-- the node of an event that treats pieces is there
known_of : (P : PieceRelation) (log : LogValue) (of : Option ℕ) (pieces : List Numbered) → Treats P log of pieces → (from : ℕ) → of ≡ Some from → from < length log.nodes
known_of P log None pieces treats from is = cc
known_of P log (Some number) pieces treats from is = let inside = treats.inside in subst (λ n. n < length log.nodes) (number_from is) inside
  where
    number_from : Some number ≡ Some from → number ≡ from
    number_from e = ap number_or e

pub one_step : (C : FormRelation) (P : PieceRelation) → AreOneForm C → AreOne P → (log : LogValue) (of : Option ℕ) (a b : LogValue) → length log.nodes ≤ log.budget.cubes → LeadsBy P log of a → LeadsBy P log of b
    → AreChosen C P a → AreChosen C P b → a ≡ b
one_step C P forms one log of a b few h k chosen also = by h.leads.effect k.leads.effect
  where
    nodes : h.event.node ≡ k.event.node
    nodes = h.its ∙ sym k.its

    too : Treats P log h.event.node k.leads.pieces
    too = subst (λ n. Treats P log n k.leads.pieces) (sym nodes) k.leads.treats

    pieces : k.leads.pieces ≡ h.leads.pieces
    pieces = one_treated P one log h.event.node k.leads.pieces h.leads.pieces too h.leads.treats

    count : length h.leads.list ≡ length k.leads.list
    count = one_count P one log h.event.node h.leads.pieces k.leads.pieces h.leads.list k.leads.list h.leads.treats too h.leads.adds k.leads.adds

    finish : h.event ≡ k.event → a ≡ b
    finish same = one_after P log h.event a b few h.leads (subst (λ e. Leads P log e b) (sym same) k.leads)

    lists : Grows log h.event h.leads.list a → Grows log k.event k.leads.list b → h.leads.list ≡ k.leads.list
    lists f g =
        one_list C forms log.protocol (cubes_of log.nodes) h.leads.pieces h.leads.list k.leads.list h.leads.adds
        (subst (λ ps. Adds log.protocol (cubes_of log.nodes) ps k.leads.list) pieces k.leads.adds)
        (added_chosen C P one log a h.leads.protocol h.event h.leads.list h.leads.pieces f h.leads.treats (known_of P log h.event.node h.leads.pieces h.leads.treats) chosen)
        (λ x inside. subst (λ ps. IsChosenOf C log.protocol ps x) pieces
        (added_chosen C P one log b k.leads.protocol k.event k.leads.list k.leads.pieces g k.leads.treats (known_of P log k.event.node k.leads.pieces k.leads.treats) also x inside))

    by : Fills log h.event h.leads.list a ⊎ Grows log h.event h.leads.list a → Fills log k.event k.leads.list b ⊎ Grows log k.event k.leads.list b → a ≡ b
    by (inl f) (inl g) = finish (same_events h.event k.event nodes (f.nothing ∙ sym g.nothing) (f.needed ∙ (count ∙ sym g.needed)))
    by (inl f) (inr g) = let above = f.above in let within = g.within in let n = count in absurd (omega arith)
    by (inr f) (inl g) = let above = g.above in let within = f.within in let n = count in absurd (omega arith)
    by (inr f) (inr g) = finish (same_events h.event k.event nodes (f.added ∙ (lists f g ∙ sym g.added)) (f.needed ∙ sym g.needed))
