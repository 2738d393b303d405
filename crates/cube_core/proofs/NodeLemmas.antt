-- A given event of a node.
use Rattle.std.proofs.Common.{◌≡◌, ◌≢◌, ℕ, ◌-◌, ◌<◌, ◌≤◌, List, [], ◌∷◌, length, refl, sym, ap, ◌∙◌, subst, arith, inl, inr}
use Rattle.std.specs.Prelude.{Option, Some, None, All, if◌then◌else◌}
use Rattle.std.proofs.lemmas.Bool.{le-ltb}
use Rattle.std.proofs.lemmas.List.{take_all}
use Rattle.cub_proto.specs.declared.protocol.Protocol.{Protocol}
use Rattle.cub_proto.specs.declared.budget.Budget.{Budget}
use Rattle.cub_cube.specs.declared.cube.Cube.{Cube}
use Rattle.log_form.specs.declared.node.Node.{Node}
use Rattle.log_form.specs.declared.event.Mark.{Mark}
use Rattle.log_form.specs.declared.event.LogEvent.{LogEvent}
use Rattle.log_form.specs.declared.numbered.Numbered.{Numbered}
use Rattle.log_form.specs.Pieces.{PieceRelation, AreOne}
use Rattle.log_form.specs.Log.{LogValue, node_at, cubes_of}
use Rattle.log_form.specs.Legal.{IsOpen, Treats, Leads, IsLegalLog}
use Rattle.log_form.specs.Later.{GoesOn}
use Rattle.log_form.proofs.Weave.{legal_woven}
use Rattle.log_form.proofs.Prefixes.{legal_more}
use Rattle.log_steps.specs.declared.judgement.Pick.{Pick}
use Rattle.log_steps.specs.Judged.{IsExact}
use Rattle.log_steps.specs.Pieces.{AreItsPieces}
use Rattle.log_steps.specs.Commits.{MayCommit, going_log, AreCommitted}
use Rattle.cube_core.specs.declared.outcome.Outcome.{Outcome}
use Rattle.cube_core.specs.declared.fault.AdmitFault.{AdmitFault}
use Rattle.cube_core.specs.Refusal.{refusal_by, refusal}
use Rattle.cube_core.specs.Given.{IsGiven, IsNotGiven, IsGivenOf, IsNotGivenOf}
use Rattle.cube_core.specs.Admits.{IsIllegal, RefusesAll, NamesFault}
use Rattle.cube_core.proofs.FirstLemmas.{log_of}
use Rattle.cube_core.proofs.AnswerLemmas.{MayExpand, not_refused}
use Rattle.cube_core.proofs.ApplyLemmas.{treats_node}
use Rattle.cube_core.proofs.AdmitLemmas.{not_given, given_leads}

-- ---- a node that may not be expanded
open_free : (P : PieceRelation) (log : LogValue) (number : ℕ) (list : List Numbered) → IsOpen P log number list → refusal Mark.Going log.budget (node_at log.nodes number) ≡ None
open_free P log number list is =
    ap (λ f. refusal_by f log.budget.width (node_at log.nodes number).cube.width) is.waits
    ∙ ap (λ b. if b then Some Outcome.Wide else None) (le-ltb log.budget.width (node_at log.nodes number).cube.width is.narrow)

pub not_treated : (P : PieceRelation) (log : LogValue) (event : LogEvent) → log.events ≢ []
    → ((number : ℕ) → event.node ≡ Some number → number < length log.nodes → refusal log.mark log.budget (node_at log.nodes number) ≡ None → ⊥) → NamesFault P log event (AdmitFault.Not None)
not_treated P log event begun none = (λ after leads. illegal after leads, by log.mark refl)
  where
    refuses : log.mark ≡ Mark.Going → (node : Option ℕ) → event.node ≡ node → (list : List Numbered) → Treats P log node list → ⊥
    refuses going None is list (first, are) = begun first
    refuses going (Some number) is list treats =
        none number is treats.inside (subst (λ m. refusal m log.budget (node_at log.nodes number) ≡ None) (sym going) (open_free P log number list treats))

    illegal : IsIllegal P log event
    illegal after leads = refuses leads.going event.node refl leads.pieces leads.treats

    by : (m : Mark) → log.mark ≡ m → RefusesAll P log event
    by Mark.Going is = inr (inl (refuses is event.node refl))
    by (Mark.Bad n) is = inl (λ going. let e : Mark.Bad n ≡ Mark.Going = sym is ∙ going in cc)
    by (Mark.Full from needed) is = inl (λ going. let e : Mark.Full from needed ≡ Mark.Going = sym is ∙ going in cc)

-- ---- a node that may be
module _ (P : PieceRelation) (p q : Protocol) (budget : Budget) (nodes : List Node) (events : List LogEvent) (mark : Mark) (now : LogValue) (event : LogEvent) (number : ℕ) (x : Node) (cubes : List Cube) (room : ℕ)
    (view : log_of q budget nodes events mark ≡ now) (same : p ≡ now.protocol) (legal : IsLegalLog P (log_of q budget nodes events mark)) (its : event.node ≡ Some number) (inside : number < length nodes)
    (free : refusal mark budget (node_at nodes number) ≡ None) (at : x ≡ node_at nodes number) (listed : cubes ≡ cubes_of now.nodes) (room_is : room ≡ budget.cubes - length nodes) where
  may : MayExpand now.mark now.budget (node_at now.nodes number)
  may = subst (λ l. MayExpand l.mark l.budget (node_at l.nodes number)) view (not_refused mark budget (node_at nodes number) free)

  legal_now : IsLegalLog P now
  legal_now = subst (IsLegalLog P) view legal

  few : length now.nodes ≤ now.budget.cubes
  few = (legal_woven P now legal_now).few

  room_now : room ≡ now.budget.cubes - length now.nodes
  room_now = room_is ∙ ap (λ l. l.budget.cubes - length l.nodes) view

  treats : (pieces : List Numbered) → AreItsPieces P p x.cube pieces → Treats P now event.node pieces
  treats pieces are =
      subst (λ n. Treats P now n pieces) (sym its)
      (treats_node P now number pieces legal_now (subst (λ l. number < length l.nodes) view inside) may
      (subst (λ (y : Node). AreItsPieces P now.protocol y.cube pieces) (at ∙ ap (λ l. node_at l.nodes number) view) (subst (λ r. AreItsPieces P r x.cube pieces) same are)))

  pub node_refused : AreOne P → (fault : AdmitFault) → IsNotGivenOf P p cubes x.cube event room fault → NamesFault P now event fault
  node_refused one (AdmitFault.Not added) (pieces, are, h) =
      not_given P one now event pieces may.going (treats pieces are) few cubes room (AdmitFault.Not added) listed room_now
      (subst (λ r. IsNotGiven r cubes pieces event room (AdmitFault.Not added)) same h)
  node_refused one AdmitFault.Memory h = tt

  pub node_may : (picks slice : List Pick) (list : List Cube) (seen : ℕ) → slice ≡ picks → list ≡ cubes → seen ≡ length list → IsGivenOf P p cubes x.cube event room picks → MayCommit p list (Some number) slice seen
  node_may picks slice list seen shown old is of = subst (λ ks. MayCommit p list (Some number) ks seen) (sym shown) (record {
    fit = of.given.are.fit;
    exact = subst (λ cs. All (IsExact p cs) picks) (sym (take_all seen list (omega (arith, is)) ∙ old)) of.given.are.exact;
    goals = λ none. cc;
  })

  module _ (picks slice : List Pick) (seen links : ℕ) (marked : Mark) (new : List Node) (more : List LogEvent) (of : IsGivenOf P p cubes x.cube event room picks) (shown : slice ≡ picks) (list : List Cube) (old : list ≡ cubes)
      (seen_is : seen ≡ length list) (committed : AreCommitted (going_log p budget nodes events) seen (Some number) slice links (log_of p budget new more marked)) where
    is_q : p ≡ q
    is_q = same ∙ ap (λ l. l.protocol) (sym view)

    is_now : going_log p budget nodes events ≡ now
    is_now =
        ap (λ r. log_of r budget nodes events Mark.Going) is_q
        ∙ (ap (log_of q budget nodes events) (sym (not_refused mark budget (node_at nodes number) free).going) ∙ view)

    over : AreCommitted now seen event.node picks links (log_of q budget new more marked)
    over =
        subst (λ n. AreCommitted now seen n picks links (log_of q budget new more marked)) (sym its)
        (subst (λ ks. AreCommitted now seen (Some number) ks links (log_of q budget new more marked)) shown
        (subst (λ l. AreCommitted l seen (Some number) slice links (log_of q budget new more marked)) is_now
        (subst (λ r. AreCommitted (going_log p budget nodes events) seen (Some number) slice links (log_of r budget new more marked)) is_q committed)))

    pub node_leads_on : Leads P now event (log_of q budget new more marked)
    node_leads_on =
        given_leads P now event of.pieces cubes room seen picks links (log_of q budget new more marked) may.going few (treats of.pieces of.its) listed room_now
        (let n = ap length (old ∙ listed) in omega (arith, n, seen_is))
        (subst (λ r. IsGiven r cubes of.pieces event room picks) same of.given) over

    pub node_legal : IsLegalLog P (log_of q budget new more marked)
    node_legal = legal_more P now event (log_of q budget new more marked) legal_now node_leads_on

    pub node_later : GoesOn now (log_of q budget new more marked)
    node_later = record { protocol = node_leads_on.protocol; budget = node_leads_on.budget; more = event ∷ []; events = node_leads_on.events }
