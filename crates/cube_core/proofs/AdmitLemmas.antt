-- Given events: what makes them, and why others are illegal.
use Rattle.std.proofs.Common.{◌≡◌, ◌≢◌, ◌⊎◌, ℕ, zero, suc, ◌+◌, ◌-◌, ◌<◌, ◌≤◌, List, [], ◌∷◌, ◌++◌, length, map, take, refl, sym, ap, ◌∙◌, subst, arith, inl, inr}
use Rattle.std.specs.Prelude.{Option, Some, None}
use Rattle.std.proofs.lemmas.Bool.{cases_lt}
use Rattle.std.proofs.lemmas.List.{length-map, drop_all}
use Rattle.cub_proto.specs.declared.protocol.Protocol.{Protocol}
use Rattle.cub_cube.specs.declared.cube.Cube.{Cube}
use Rattle.log_form.specs.declared.event.Mark.{Mark}
use Rattle.log_form.specs.declared.event.Added.{Added}
use Rattle.log_form.specs.declared.event.LogEvent.{LogEvent}
use Rattle.log_form.specs.declared.numbered.Numbered.{Numbered}
use Rattle.log_form.specs.Pieces.{PieceRelation, AreOne}
use Rattle.log_form.specs.Log.{LogValue, cubes_of}
use Rattle.log_form.specs.Stale.{KeepsUncovered}
use Rattle.log_form.specs.Legal.{Adds, Treats, Fills, Grows, Leads}
use Rattle.log_form.proofs.Unique.{one_length, one_treated}
use Rattle.log_steps.specs.declared.judgement.Pick.{Pick}
use Rattle.log_steps.specs.Judged.{added_of}
use Rattle.log_steps.specs.Admitted.{AddsSome, IsFirstUnfit}
use Rattle.log_steps.specs.Commits.{AreCommitted}
use Rattle.cube_core.specs.declared.fault.AdmitFault.{AdmitFault}
use Rattle.cube_core.specs.Given.{IsGiven, IsNotGiven}
use Rattle.cube_core.specs.Admits.{NamesFault}
use Rattle.cube_core.proofs.LeadLemmas.{commit_leads, kept_same}

pub same_length : (p : Protocol) (cubes : List Cube) (list : List Numbered) (xs ys : List Added) → Adds p cubes list xs → Adds p cubes list ys → length xs ≡ length ys
same_length p cubes list xs ys a b = one_length p cubes cubes list xs ys (record { there = λ c h. h; back = λ c h. h }) a b

take_nil : (n : ℕ) → take {A = Added} n [] ≡ []
take_nil zero = refl
take_nil (suc n) = refl

-- a front of a list that an event may add
pub front_some : (p : Protocol) (cubes : List Cube) (list : List Numbered) (xs : List Added) (n : ℕ) → Adds p cubes list xs → AddsSome p cubes list (take n xs)
front_some p cubes list xs zero h = tt
front_some p cubes list [] (suc n) h = tt
front_some p cubes [] (a ∷ xs) (suc n) h = let none : length (a ∷ xs) ≡ 0 = ap length h in absurd (omega arith)
front_some p cubes (x ∷ list) (a ∷ xs) (suc n) (inl (covered, h)) = inl (covered, front_some p cubes list (a ∷ xs) (suc n) h)
front_some p cubes (x ∷ list) (a ∷ xs) (suc n) (inr (added, inl (starts, last))) = inr (added, inl (starts, ap (take n) last ∙ take_nil n))
front_some p cubes (x ∷ list) (a ∷ xs) (suc n) (inr (added, inr (good, h))) = inr (added, inr (good, front_some p (cubes ++ a.cube ∷ []) list xs n h))

-- ---- illegal events
module _ (P : PieceRelation) (one : AreOne P) (log : LogValue) (event : LogEvent) (list : List Numbered) (going : log.mark ≡ Mark.Going) (treats : Treats P log event.node list) (few : length log.nodes ≤ log.budget.cubes) where
  -- what a legal event would add
  pub record WouldAdd : Type 0 where
    pub items : List Added
    pub adds : Adds log.protocol (cubes_of log.nodes) list items
    pub cases : ((event.added ≡ items) × (event.needed ≡ 0) × (length log.nodes + length items ≤ log.budget.cubes))
        ⊎ ((event.added ≡ []) × (event.needed ≡ length items) × (log.budget.cubes < length log.nodes + length items))

  would_add : (after : LogValue) → Leads P log event after → WouldAdd
  would_add after leads = record {
    items = leads.list;
    adds = subst (λ ys. Adds log.protocol (cubes_of log.nodes) ys leads.list) (one_treated P one log event.node leads.pieces list leads.treats treats) leads.adds;
    cases = by leads.effect;
  }
    where
      by : Fills log event leads.list after ⊎ Grows log event leads.list after
          → ((event.added ≡ leads.list) × (event.needed ≡ 0) × (length log.nodes + length leads.list ≤ log.budget.cubes))
          ⊎ ((event.added ≡ []) × (event.needed ≡ length leads.list) × (log.budget.cubes < length log.nodes + length leads.list))
      by (inl fills) = inr (fills.nothing, fills.needed, fills.above)
      by (inr grows) = inl (grows.added, grows.needed, grows.within)

  no_item : (added : ℕ) → event.needed ≡ 0 → IsFirstUnfit log.protocol (cubes_of log.nodes) list event.added (log.budget.cubes - length log.nodes) added → WouldAdd → ⊥
  no_item added none unfit would = by would.cases
    where
      lacks : (xs : List Added) → event.added ≡ xs → Adds log.protocol (cubes_of log.nodes) list xs → length log.nodes + length xs ≤ log.budget.cubes → (added < length event.added) ⊎ (length event.added ≤ added) → ⊥
      lacks xs same adds within (inl less) = by_unfit (unfit.unfit less)
        where
          by_unfit : (log.budget.cubes - length log.nodes ≤ added) ⊎ (AddsSome log.protocol (cubes_of log.nodes) list (take (added + 1) event.added) → ⊥) → ⊥
          by_unfit (inl full) = let n = ap length same in omega (arith, full, within, less, n)
          by_unfit (inr no_front) = no_front (front_some log.protocol (cubes_of log.nodes) list event.added (added + 1) (subst (Adds log.protocol (cubes_of log.nodes) list) (sym same) adds))
      lacks xs same adds within (inr past) =
          unfit.lacking (omega (arith, past, unfit.inside)) (subst (Adds log.protocol (cubes_of log.nodes) list) (sym same) adds)

      by : ((event.added ≡ would.items) × (event.needed ≡ 0) × (length log.nodes + length would.items ≤ log.budget.cubes))
          ⊎ ((event.added ≡ []) × (event.needed ≡ length would.items) × (log.budget.cubes < length log.nodes + length would.items)) → ⊥
      by (inl (same, zero_needed, within)) = lacks would.items same would.adds within (cases_lt added (length event.added))
      by (inr (empty, needed, above)) = omega (arith, none, needed, above, few)

  no_full : event.needed ≢ 0 → ((xs : List Added) → Adds log.protocol (cubes_of log.nodes) list xs → log.budget.cubes - length log.nodes < length xs → event.added ≡ [] → event.needed ≡ length xs → ⊥) → WouldAdd → ⊥
  no_full some none would = by would.cases
    where
      by : ((event.added ≡ would.items) × (event.needed ≡ 0) × (length log.nodes + length would.items ≤ log.budget.cubes))
          ⊎ ((event.added ≡ []) × (event.needed ≡ length would.items) × (log.budget.cubes < length log.nodes + length would.items)) → ⊥
      by (inl (same, zero_needed, within)) = some zero_needed
      by (inr (empty, needed, above)) = none would.items would.adds (omega (arith, above, few)) empty needed

  pub not_given : (cubes : List Cube) (room : ℕ) (fault : AdmitFault) → cubes ≡ cubes_of log.nodes → room ≡ log.budget.cubes - length log.nodes → IsNotGiven log.protocol cubes list event room fault → NamesFault P log event fault
  not_given cubes room (AdmitFault.Not None) same is (some, none) = (
    λ after leads. no_full some
        (subst (λ n. (xs : List Added) → Adds log.protocol (cubes_of log.nodes) list xs → n < length xs → event.added ≡ [] → event.needed ≡ length xs → ⊥) is
        (subst (λ cs. (xs : List Added) → Adds log.protocol cs list xs → room < length xs → event.added ≡ [] → event.needed ≡ length xs → ⊥) same none)) (would_add after leads),
    inr (inr some),
  )
  not_given cubes room (AdmitFault.Not (Some added)) same is (none, unfit) =
      let here = subst (λ n. IsFirstUnfit log.protocol (cubes_of log.nodes) list event.added n added) is (subst (λ cs. IsFirstUnfit log.protocol cs list event.added room added) same unfit) in
      (λ after leads. no_item added none here (would_add after leads), record { going = going; needed = none; list = list; treats = treats; unfit = here })
  not_given cubes room AdmitFault.Memory same is h = tt

-- ---- events that are given
-- the committed event is the given one
pub same_event : (log : LogValue) (node : Option ℕ) (event : LogEvent) (list : List Numbered) (cubes : List Cube) (room seen : ℕ) (picks : List Pick) (links : ℕ) (after : LogValue) → event.node ≡ node → length log.nodes ≤ log.budget.cubes
    → room ≡ log.budget.cubes - length log.nodes → length (cubes_of log.nodes) ≤ seen → IsGiven log.protocol cubes list event room picks → (committed : AreCommitted log seen node picks links after) → committed.is.event ≡ event
same_event log of event list cubes room seen picks links after its few is all given committed = by given.makes committed.is.effect
  where
    kept : committed.kept ≡ map added_of picks
    kept = kept_same log.protocol (map added_of picks) committed.kept
        (subst (λ cs. KeepsUncovered log.protocol cs (map added_of picks) committed.kept) (drop_all seen (cubes_of log.nodes) all) committed.keeps)

    count : length committed.kept ≡ length picks
    count = ap length kept ∙ length-map picks added_of

    made : (added : List Added) (needed : ℕ) → committed.is.event.added ≡ added → committed.is.event.needed ≡ needed → event.added ≡ added → event.needed ≡ needed → committed.is.event ≡ event
    made added needed a n b m =
        let nodes : committed.is.event.node ≡ event.node = committed.is.its ∙ sym its in
        let addeds : committed.is.event.added ≡ event.added = a ∙ sym b in
        let neededs : committed.is.event.needed ≡ event.needed = n ∙ sym m in
        λ i. record { node = nodes i; added = addeds i; needed = neededs i }

    by : ((event.needed ≡ 0) × (length picks ≤ room) × (map added_of picks ≡ event.added)) ⊎ ((room < length picks) × (event.added ≡ []) × (event.needed ≡ length picks))
        → Fills log committed.is.event committed.kept after ⊎ Grows log committed.is.event committed.kept after → committed.is.event ≡ event
    by (inl (none, within, items)) (inl fills) = absurd (omega (arith, count, within, is, fills.above, few))
    by (inl (none, within, items)) (inr grows) = made committed.kept 0 grows.added grows.needed (sym items ∙ sym kept) none
    by (inr (above, empty, needed)) (inl fills) = made [] (length picks) fills.nothing (fills.needed ∙ count) empty needed
    by (inr (above, empty, needed)) (inr grows) = absurd (omega (arith, count, above, is, grows.within, few))

pub given_leads : (P : PieceRelation) (log : LogValue) (event : LogEvent) (list : List Numbered) (cubes : List Cube) (room seen : ℕ) (picks : List Pick) (links : ℕ) (after : LogValue) → log.mark ≡ Mark.Going → length log.nodes ≤ log.budget.cubes
    → Treats P log event.node list → cubes ≡ cubes_of log.nodes → room ≡ log.budget.cubes - length log.nodes → length (cubes_of log.nodes) ≤ seen → IsGiven log.protocol cubes list event room picks
    → AreCommitted log seen event.node picks links after → Leads P log event after
given_leads P log event list cubes room seen picks links after going few treats same is all given committed =
    subst (λ e. Leads P log e after) (same_event log event.node event list cubes room seen picks links after refl few is all given committed) leads
  where
    kept : committed.kept ≡ map added_of picks
    kept = kept_same log.protocol (map added_of picks) committed.kept
        (subst (λ cs. KeepsUncovered log.protocol cs (map added_of picks) committed.kept) (drop_all seen (cubes_of log.nodes) all) committed.keeps)

    leads : Leads P log committed.is.event after
    leads = commit_leads P log event.node list committed.kept after going treats
        (subst (Adds log.protocol (cubes_of log.nodes) list) (sym kept) (subst (λ cs. Adds log.protocol cs list (map added_of picks)) same given.are.adds)) committed.is
