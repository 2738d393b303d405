-- Nodes are never removed: a log with more events has each node of the one with fewer.
use Rattle.std.proofs.Common.{◌≡◌, ◌⊎◌, ℕ, ◌<◌, Bool, ◌&&◌, List, [], ◌∷◌, ◌++◌, length, refl, sym, ap, ◌∙◌, subst, arith, inl, inr}
use Rattle.std.specs.Prelude.{Option, Some, None}
use Rattle.cub_proto.specs.declared.protocol.Protocol.{Protocol}
use Rattle.cub_proto.specs.declared.budget.Budget.{Budget}
use Rattle.log_form.specs.declared.node.Node.{Node}
use Rattle.log_form.specs.declared.node.Fate.{Fate}
use Rattle.log_form.specs.declared.node.Fate.TheVariants.{Waiting, Done, Covered}
use Rattle.log_form.specs.declared.event.Added.{Added}
use Rattle.log_form.specs.declared.event.LogEvent.{LogEvent}
use Rattle.log_form.specs.Pieces.{PieceRelation}
use Rattle.log_form.specs.Links.{Link}
use Rattle.log_form.specs.Fates.{fate_after}
use Rattle.log_form.specs.Log.{LogValue, no_log, node_at}
use Rattle.log_form.specs.Legal.{is_number, is_going, Fills, Grows, Leads, LeadAll, IsLegalLog}
use Rattle.log_form.specs.Later.{IsLaterNode, AreLaterNodes, GoesOn}
use Rattle.log_form.proofs.Growth.{old_node, same_origin, same_places, old_cube}
use Rattle.log_form.proofs.Weave.{woven_none}
use Rattle.log_form.proofs.Unique.{one_all}

covered_stays : (fate : Fate) (link : Option Link) (expanded : Bool) (by : ℕ) (places : List ℕ) → fate ≡ Covered by places → fate_after fate link expanded ≡ Covered by places
covered_stays (Covered j qs) link expanded by places h = h
covered_stays Waiting link expanded by places h = cc
covered_stays Done link expanded by places h = cc

waiting_was : (fate : Fate) (link : Option Link) (expanded : Bool) → fate_after fate link expanded ≡ Waiting → fate ≡ Waiting
waiting_was (Covered j qs) link expanded h = cc
waiting_was Waiting link expanded h = refl
waiting_was Done (Some link) expanded h = cc
waiting_was Done None expanded h = cc

later_itself : (nodes : List Node) → AreLaterNodes nodes nodes
later_itself nodes = record { count = omega arith; each = λ i below. record { cube = refl; origin = refl; places = refl; covered = λ by places h. h; waiting = λ h. h } }

later_further : (xs ys zs : List Node) → AreLaterNodes xs ys → AreLaterNodes ys zs → AreLaterNodes xs zs
later_further xs ys zs h k =
    let m = h.count in
    let n = k.count in
    record {
      count = omega arith;
      each = λ i below.
          let first = h.each i below in
          let second = k.each i (omega arith) in
          record {
            cube = second.cube ∙ first.cube;
            origin = second.origin ∙ first.origin;
            places = second.places ∙ first.places;
            covered = λ by places f. second.covered by places (first.covered by places f);
            waiting = λ f. first.waiting (second.waiting f);
          };
    }

later_grown : (log : LogValue) (event : LogEvent) (list : List Added) (after : LogValue) → Grows log event list after → AreLaterNodes log.nodes after.nodes
later_grown log event list after grows =
    let n = grows.count in
    record {
      count = omega arith;
      each = λ i below. each i below (omega arith);
    }
  where
    each : (i : ℕ) → i < length log.nodes → i < length after.nodes → IsLaterNode (node_at log.nodes i) (node_at after.nodes i)
    each i below within =
        let link = (grows.nodes i within).link in
        let expanded = is_number event.node i && is_going after.mark in
        let fate : (node_at after.nodes i).fate ≡ fate_after (node_at log.nodes i).fate link expanded
        = ap (λ (m : Node). m.fate) (grows.nodes i within).is ∙ ap (λ (m : Node). fate_after m.fate link expanded) (old_node log event list i below) in
        record {
          cube = old_cube log event list after grows i below;
          origin = same_origin log event list after grows i within ∙ ap (λ (m : Node). m.origin) (old_node log event list i below);
          places = same_places log event list after grows i within ∙ ap (λ (m : Node). m.places) (old_node log event list i below);
          covered = λ by places h. fate ∙ covered_stays (node_at log.nodes i).fate link expanded by places h;
          waiting = λ h. waiting_was (node_at log.nodes i).fate link expanded (sym fate ∙ h);
        }

later_step : (P : PieceRelation) (log : LogValue) (event : LogEvent) (after : LogValue) → Leads P log event after → AreLaterNodes log.nodes after.nodes
later_step P log event after leads = by leads.effect
  where
    by : Fills log event leads.list after ⊎ Grows log event leads.list after → AreLaterNodes log.nodes after.nodes
    by (inl fills) = subst (AreLaterNodes log.nodes) (sym fills.nodes) (later_itself log.nodes)
    by (inr grows) = later_grown log event leads.list after grows

later_all : (P : PieceRelation) (log : LogValue) (events : List LogEvent) (after : LogValue) → LeadAll P log events after → AreLaterNodes log.nodes after.nodes
later_all P log [] after h = subst (λ (l : LogValue). AreLaterNodes log.nodes l.nodes) h (later_itself log.nodes)
later_all P log (event ∷ events) after (next, leads, rest) =
    later_further log.nodes next.nodes after.nodes (later_step P log event next leads) (later_all P next events after rest)

-- all events are a first part and the rest
pub split_events : (P : PieceRelation) (log : LogValue) (xs ys : List LogEvent) (after : LogValue) → LeadAll P log (xs ++ ys) after → (mid : LogValue) × LeadAll P log xs mid × LeadAll P mid ys after
split_events P log [] ys after h = (log, refl, h)
split_events P log (x ∷ xs) ys after (next, leads, rest) = let (mid, first, second) = split_events P next xs ys after rest in (mid, (next, leads, first), second)

pub join_events : (P : PieceRelation) (log : LogValue) (xs ys : List LogEvent) (mid after : LogValue) → LeadAll P log xs mid → LeadAll P mid ys after → LeadAll P log (xs ++ ys) after
join_events P log [] ys mid after h k = subst (λ l. LeadAll P l ys after) (sym h) k
join_events P log (x ∷ xs) ys mid after (next, leads, rest) k = (next, leads, join_events P next xs ys mid after rest k)

-- what led to the first log leads on to the second
pub leads_on : (P : PieceRelation) (old new : LogValue) → IsLegalLog P old → IsLegalLog P new → (on : GoesOn old new) → LeadAll P old on.more new
leads_on P old new h k on = by (split_events P (no_log old.protocol old.budget) old.events on.more new made)
  where
    made : LeadAll P (no_log old.protocol old.budget) (old.events ++ on.more) new
    made =
        subst (λ p. LeadAll P (no_log p old.budget) (old.events ++ on.more) new) on.protocol
        (subst (λ b. LeadAll P (no_log new.protocol b) (old.events ++ on.more) new) on.budget
        (subst (λ es. LeadAll P (no_log new.protocol new.budget) es new) on.events k.made))

    by : (mid : LogValue) × LeadAll P (no_log old.protocol old.budget) old.events mid × LeadAll P mid on.more new → LeadAll P old on.more new
    by (mid, first, second) =
        subst (λ l. LeadAll P l on.more new) (one_all P (no_log old.protocol old.budget) old.events mid old (woven_none P old.protocol old.budget) first h.made) second

pub nodes_later : (P : PieceRelation) (old new : LogValue) → IsLegalLog P old → IsLegalLog P new → GoesOn old new → AreLaterNodes old.nodes new.nodes
nodes_later P old new h k on = later_all P old on.more new (leads_on P old new h k on)

-- an event more
append_not_nil : (events : List LogEvent) (event : LogEvent) → events ++ event ∷ [] ≡ [] → ⊥
append_not_nil [] event h = cc
append_not_nil (e ∷ events) event h = cc

pub legal_more : (P : PieceRelation) (log : LogValue) (event : LogEvent) (after : LogValue) → IsLegalLog P log → Leads P log event after → IsLegalLog P after
legal_more P log event after legal leads = record {
  begun = λ h. append_not_nil log.events event (sym leads.events ∙ h);
  made =
      subst (λ es. LeadAll P (no_log after.protocol after.budget) es after) (sym leads.events)
      (subst (λ b. LeadAll P (no_log after.protocol b) (log.events ++ event ∷ []) after) (sym leads.budget)
      (subst (λ p. LeadAll P (no_log p log.budget) (log.events ++ event ∷ []) after) (sym leads.protocol)
      (join_events P (no_log log.protocol log.budget) log.events (event ∷ []) log after legal.made (after, leads, refl))));
}

-- the first event
pub legal_first : (P : PieceRelation) (p : Protocol) (budget : Budget) (event : LogEvent) (after : LogValue) → Leads P (no_log p budget) event after → IsLegalLog P after
legal_first P p budget event after leads = record {
  begun = λ h. append_not_nil [] event (sym leads.events ∙ h);
  made =
      subst (λ es. LeadAll P (no_log after.protocol after.budget) es after) (sym leads.events)
      (subst (λ b. LeadAll P (no_log after.protocol b) (event ∷ []) after) (sym leads.budget)
      (subst (λ q. LeadAll P (no_log q budget) (event ∷ []) after) (sym leads.protocol) (after, leads, refl)));
}
