-- Events whose lines were read: where the reading goes on behind them, and where it stops in them.
use Rattle.std.proofs.Common.{◌≡◌, ◌⊎◌, ℕ, ◌+◌, ◌-◌, ◌<◌, ◌≤◌, Bool, List, [], ◌∷◌, ◌++◌, length, length-append, take, drop, get_or, take-append-drop, Option, refl, sym, ap, subst, ◌∙◌, arith, inl, inr}
use Rattle.std.proofs.lemmas.List.{drop_more, length-take-le, take_all, take_more}
use Rattle.cub_proto.specs.declared.protocol.Protocol.{Protocol}
use Rattle.log_form.specs.declared.event.Added.{Added}
use Rattle.log_form.specs.declared.numbered.Numbered.{Numbered}
use Rattle.log_form.specs.Pieces.{PieceRelation, AreOne}
use Rattle.log_form.specs.Log.{LogValue, cubes_of}
use Rattle.log_form.specs.Legal.{Adds, Treats, Fills, Grows, Leads}
use Rattle.log_form.proofs.Unique.{one_treated}
use Rattle.log_steps.specs.Admitted.{AddsSome, no_added}
use Rattle.cube_core.specs.Admits.{IsIllegal, RefusesItem}
use Rattle.journal_text.specs.declared.look.Look.{Look}
use Rattle.journal_text.specs.declared.look.Look.TheVariants.{Item}
use Rattle.journal_text.specs.Form.{look_of, look_cut}
use Rattle.cube_text.specs.Form.{is_empty}
use Rattle.journal_text.specs.Items.{AreItemLines, IsNoItem}
use Rattle.journal_text.specs.Ready.{HasNoRoots, is_nothing, lacking_kind}
use Rattle.journal_text.specs.Place.{Adding, event_of, GoesOn, StopsAt, IsLookKind}
use Rattle.journal_text.proofs.AddsLaws.{some_whole}
use Rattle.journal_text.proofs.Steps.{stuck_here, bad_line, stops_from}
use Rattle.journal_text.proofs.FormLaws.{item_look}
use Rattle.journal_text.proofs.ItemLaws.{lines_split, go_items}
use Rattle.journal_text.proofs.StuckLaws.{lacking_stops, item_stops, lacking_look_kind}

-- what a whole event adds is a front of a list, and has room
pub record IsWhole (P : PieceRelation) (log : LogValue) (node : Option ℕ) (items : List Added) : Type 0 where
  pub list : List Numbered
  pub treats : Treats P log node list
  pub adds : AddsSome log.protocol (cubes_of log.nodes) list items
  pub room : length log.nodes + length items ≤ log.budget.cubes

pub whole_adds : (P : PieceRelation) (log : LogValue) (node : Option ℕ) (items : List Added) (next : LogValue) → length log.nodes ≤ log.budget.cubes → Leads P log (event_of node items) next → IsWhole P log node items
whole_adds P log node items next few leads = by leads.effect
  where
    by : Fills log (event_of node items) leads.list next ⊎ Grows log (event_of node items) leads.list next → IsWhole P log node items
    by (inl fills) = absurd (omega (arith, fills.above, fills.needed, few))
    by (inr grows) = record {
      list = leads.pieces;
      treats = leads.treats;
      adds = some_whole log.protocol (cubes_of log.nodes) leads.pieces items (subst (Adds log.protocol (cubes_of log.nodes) leads.pieces) (sym grows.added) leads.adds);
      room = omega (arith, grows.within, ap length grows.added);
    }

module _ (P : PieceRelation) (p : Protocol) (full : Bool) (log : LogValue) (of_p : log.protocol ≡ p) (node : Option ℕ) where
  -- the same through lines of the protocol p
  pub go_lines : (list : List Numbered) → Treats P log node list → (items : List Added) (n : ℕ) (text rest : List ℕ) → AreItemLines p node items text rest
      → AddsSome log.protocol (cubes_of log.nodes) list items → length log.nodes + length items ≤ log.budget.cubes
      → GoesOn P p (Adding full log node items) (n + length items) rest (Adding full log node []) n text
  go_lines list treats items n text rest h adds room =
      subst (λ (x : Protocol). GoesOn P x (Adding full log node items) (n + length items) rest (Adding full log node []) n text) of_p
      (go_items P log full node list treats items [] n text rest (subst (λ (x : Protocol). AreItemLines x node items text rest) (sym of_p) h) adds room)

  -- the kind of what stands next, by how it looks to the protocol p
  look_kind : (added : List Added) (rest : List ℕ) (kind : ℕ) → IsLookKind P log node added (look_of p node rest) kind → IsLookKind P log node added (look_of log.protocol node rest) kind
  look_kind added rest kind h = subst (λ (x : Protocol). IsLookKind P log node added (look_of x node rest) kind) (sym of_p) h

  module _ (items : List Added) (n : ℕ) (text rest : List ℕ) (lines : AreItemLines p node items text rest) where
    room_of : (k : ℕ) → length log.nodes ≤ log.budget.cubes → k ≤ log.budget.cubes - length log.nodes → length (take k items) ≤ k → length log.nodes + length (take k items) ≤ log.budget.cubes
    room_of k few within short = omega (arith, few, within, short)

    -- the first cube that may not be added
    pub early_stop : AreOne P → length log.nodes ≤ log.budget.cubes → (k : ℕ) → RefusesItem P log (event_of node items) k → k < length items → StopsAt P p (Adding full log node []) n text (n + k) 4
    early_stop one few k r inside =
        let a : Added = get_or items k no_added in
        let front = take k items in
        let back = drop (k + 1) items in
        let whole : items ≡ front ++ a ∷ back = sym (take-append-drop k items) ∙ ap (λ xs. front ++ xs) (drop_more items k no_added inside) in
        let parts = lines_split p node front (a ∷ back) text rest (subst (λ (xs : List Added). AreItemLines p node xs text rest) whole lines) in
        let at_front : length front ≡ k = length-take-le k items (omega (arith, inside)) in
        let next : front ++ a ∷ [] ≡ take (k + 1) items = sym (take_more items k no_added inside) in
        let goes = go_lines r.list r.treats front n text parts.0 parts.1 r.unfit.before (room_of k few r.unfit.within (omega (arith, at_front))) in
        let here : look_of p node parts.0 ≡ Item =
        ap (look_cut p node (is_empty parts.0)) parts.2.2 ∙ item_look p node parts.2.0 a parts.2.3 in
        let kind : IsLookKind P log node front (look_of p node parts.0) 4 = subst (λ (l : Look). IsLookKind P log node front l 4) (sym here) refl in
        let stuck = bad_line P p (Adding full log node front) (n + length front) parts.0 refl 4 (look_kind front parts.0 4 kind) parts.2.0 parts.2.1 parts.2.2
        (item_stops P p full log node front a parts.2.0 of_p parts.2.3
        (λ list treats adds room. refuse list treats front next at_front (subst (AddsSome log.protocol (cubes_of log.nodes) list) next adds) room (r.unfit.unfit inside))) in
        subst (λ (m : ℕ). StopsAt P p (Adding full log node []) n text (n + m) 4) at_front
        (stops_from P p (Adding full log node front) (n + length front) parts.0 (Adding full log node []) n text (n + length front) 4 goes stuck)
      where
        refuse : (list : List Numbered) → Treats P log node list → (front : List Added) → front ++ get_or items k no_added ∷ [] ≡ take (k + 1) items → length front ≡ k
            → AddsSome log.protocol (cubes_of log.nodes) list (take (k + 1) items) → length log.nodes + length (front ++ get_or items k no_added ∷ []) ≤ log.budget.cubes
            → (log.budget.cubes - length log.nodes ≤ k) ⊎ (AddsSome log.protocol (cubes_of log.nodes) r.list (take (k + 1) items) → ⊥) → ⊥
        refuse list treats front next count adds room (inl none) = omega (arith, none, room, count, length-append front (get_or items k no_added ∷ []))
        refuse list treats front next count adds room (inr no_front) =
            no_front (subst (λ (xs : List Numbered). AddsSome log.protocol (cubes_of log.nodes) xs (take (k + 1) items)) (one_treated P one log node list r.list treats r.treats) adds)

    -- a piece is lacking
    pub late_stop : length log.nodes ≤ log.budget.cubes → (k : ℕ) → RefusesItem P log (event_of node items) k → IsIllegal P log (event_of node items) → length items ≤ k → IsNoItem p node rest → HasNoRoots P full log node items rest
        → StopsAt P p (Adding full log node []) n text (n + length items) (lacking_kind (is_nothing node (length items)) (look_of p node rest))
    late_stop few k r illegal past no_item no_roots =
        let whole : take k items ≡ items = take_all k items past in
        let count = ap length whole in
        let goes = go_lines r.list r.treats items n text rest lines (subst (AddsSome log.protocol (cubes_of log.nodes) r.list) whole r.unfit.before) (omega (arith, few, r.unfit.within, past)) in
        let stuck = stuck_here P p (Adding full log node items) (n + length items) rest refl (lacking_kind (is_nothing node (length items)) (look_of p node rest))
        (look_kind items rest (lacking_kind (is_nothing node (length items)) (look_of p node rest)) (lacking_look_kind P log node items illegal (look_of p node rest)))
        (lacking_stops P p full log node items rest of_p no_item illegal no_roots) in
        stops_from P p (Adding full log node items) (n + length items) rest (Adding full log node []) n text (n + length items) (lacking_kind (is_nothing node (length items)) (look_of p node rest)) goes stuck
