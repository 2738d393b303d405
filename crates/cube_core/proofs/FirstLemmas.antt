-- The first event.
use Rattle.std.proofs.Common.{◌≡◌, ℕ, List, [], refl, sym, subst, arith}
use Rattle.std.specs.Prelude.{None, All}
use Rattle.cub_proto.specs.declared.protocol.Protocol.{Protocol}
use Rattle.cub_proto.specs.declared.budget.Budget.{Budget}
use Rattle.cub_cube.specs.declared.cube.Cube.{Cube}
use Rattle.log_form.specs.declared.node.Node.{Node}
use Rattle.log_form.specs.declared.event.Mark.{Mark}
use Rattle.log_form.specs.declared.event.LogEvent.{LogEvent}
use Rattle.log_form.specs.declared.numbered.Numbered.{Numbered}
use Rattle.log_form.specs.Numbering.{AreRoots}
use Rattle.log_form.specs.Pieces.{PieceRelation, AreOne}
use Rattle.log_form.specs.Log.{LogValue, no_log}
use Rattle.log_form.specs.Legal.{Treats, Leads}
use Rattle.log_form.proofs.Weave.{woven_none}
use Rattle.log_steps.specs.declared.judgement.Pick.{Pick}
use Rattle.log_steps.specs.Chosen.{FormRelation, IsChosen}
use Rattle.log_steps.specs.Judged.{added_of, ArePicks}
use Rattle.log_steps.specs.Commits.{going_log, AreCommitted}
use Rattle.cube_core.specs.declared.fault.AdmitFault.{AdmitFault}
use Rattle.cube_core.specs.Given.{IsGiven, IsNotGiven}
use Rattle.cube_core.specs.Admits.{NamesFault}
use Rattle.cube_core.specs.Answers.{LeadsBy}
use Rattle.cube_core.specs.Chosen.{AreChosen}
use Rattle.cube_core.proofs.LeadLemmas.{roots_lead}
use Rattle.cube_core.proofs.ChosenLemmas.{chosen_commit}
use Rattle.cube_core.proofs.AdmitLemmas.{not_given, given_leads}

abbrev pub log_of : Protocol → Budget → List Node → List LogEvent → Mark → LogValue
log_of p budget nodes events mark = record { protocol = p; budget = budget; nodes = nodes; events = events; mark = mark }

-- what was judged and committed over empty lists
module _ (p copy : Protocol) (budget : Budget) (cubes : List Cube) (slice roots : List Numbered) (shown picks : List Pick) (links : ℕ) (mark : Mark) (nodes new : List Node) (events more : List LogEvent)
    (same : copy ≡ p) (no_cubes : cubes ≡ []) (listed : slice ≡ roots) (seen : shown ≡ picks) (no_nodes : nodes ≡ []) (no_events : events ≡ []) (are : AreRoots p roots) (picked : ArePicks p cubes slice picks)
    (committed : AreCommitted (going_log p budget nodes events) 0 None shown links (log_of p budget new more mark)) where
  picked_here : ArePicks p [] roots picks
  picked_here = subst (λ cs. ArePicks p cs roots picks) no_cubes (subst (λ xs. ArePicks p cubes xs picks) listed picked)

  committed_here : AreCommitted (going_log p budget [] []) 0 None picks links (log_of p budget new more mark)
  committed_here =
      subst (λ ks. AreCommitted (going_log p budget [] []) 0 None ks links (log_of p budget new more mark)) seen
      (subst (λ es. AreCommitted (going_log p budget [] es) 0 None shown links (log_of p budget new more mark)) no_events
      (subst (λ ns. AreCommitted (going_log p budget ns events) 0 None shown links (log_of p budget new more mark)) no_nodes committed))

  pub first_leads : (P : PieceRelation) → LeadsBy P (no_log p budget) None (log_of copy budget new more mark)
  first_leads P = subst (λ q. LeadsBy P (no_log p budget) None (log_of q budget new more mark)) (sym same) (roots_lead P p budget roots picks links (log_of p budget new more mark) are picked_here committed_here)

  pub first_chosen : (C : FormRelation) (P : PieceRelation) → All (λ k. IsChosen C p slice (added_of k)) picks → AreChosen C P (log_of copy budget new more mark)
  first_chosen C P chosen =
      subst (λ q. AreChosen C P (log_of q budget new more mark)) (sym same)
      (chosen_commit C P (no_log p budget) None roots 0 picks links (log_of p budget new more mark) (woven_none P p budget) (refl, are)
      (subst (λ xs. All (λ (k : Pick). IsChosen C p xs (added_of k)) picks) listed chosen) committed_here (λ i below. absurd (omega arith)))

-- a given first event
module _ (p copy : Protocol) (budget : Budget) (cubes : List Cube) (slice roots : List Numbered) (event : LogEvent) (no_cubes : cubes ≡ []) (listed : slice ≡ roots) (are : AreRoots p roots) (none : event.node ≡ None) where
  treats : (P : PieceRelation) → Treats P (no_log p budget) event.node roots
  treats P = subst (λ n. Treats P (no_log p budget) n roots) (sym none) (refl, are)

  pub first_refused : (P : PieceRelation) → AreOne P → (fault : AdmitFault) → IsNotGiven p cubes slice event budget.cubes fault → NamesFault P (no_log p budget) event fault
  first_refused P one fault h =
      not_given P one (no_log p budget) event roots refl (treats P) (omega arith) cubes budget.cubes fault no_cubes (omega arith)
      (subst (λ xs. IsNotGiven p cubes xs event budget.cubes fault) listed h)

  module _ (shown picks : List Pick) (links : ℕ) (mark : Mark) (nodes new : List Node) (events more : List LogEvent) (same : copy ≡ p) (seen : shown ≡ picks) (no_nodes : nodes ≡ []) (no_events : events ≡ [])
      (given : IsGiven p cubes slice event budget.cubes picks) (committed : AreCommitted (going_log p budget nodes events) 0 None shown links (log_of p budget new more mark)) where
    committed_first : AreCommitted (going_log p budget [] []) 0 event.node picks links (log_of p budget new more mark)
    committed_first =
        subst (λ n. AreCommitted (going_log p budget [] []) 0 n picks links (log_of p budget new more mark)) (sym none)
        (subst (λ ks. AreCommitted (going_log p budget [] []) 0 None ks links (log_of p budget new more mark)) seen
        (subst (λ es. AreCommitted (going_log p budget [] es) 0 None shown links (log_of p budget new more mark)) no_events
        (subst (λ ns. AreCommitted (going_log p budget ns events) 0 None shown links (log_of p budget new more mark)) no_nodes committed)))

    pub first_admitted : (P : PieceRelation) → Leads P (no_log p budget) event (log_of copy budget new more mark)
    first_admitted P =
        subst (λ q. Leads P (no_log p budget) event (log_of q budget new more mark)) (sym same)
        (given_leads P (no_log p budget) event roots cubes budget.cubes 0 picks links (log_of p budget new more mark) refl (omega arith) (treats P) no_cubes (omega arith) (omega arith)
        (subst (λ xs. IsGiven p cubes xs event budget.cubes picks) listed given) committed_first)

  pub given_roots : (picks : List Pick) → IsGiven p cubes slice event budget.cubes picks → ArePicks p [] roots picks
  given_roots picks given = subst (λ cs. ArePicks p cs roots picks) no_cubes (subst (λ xs. ArePicks p cubes xs picks) listed given.are)
