-- Applying a judgement.
use Rattle.std.proofs.Common.{◌≡◌, ℕ, ◌<◌, List, length, get_or, take, sym, ap, ◌∙◌, subst, arith}
use Rattle.std.specs.Prelude.{Some, None, All}
use Rattle.std.proofs.lemmas.List.{get_or_default}
use Rattle.cub_proto.specs.declared.protocol.Protocol.{Protocol}
use Rattle.cub_proto.specs.declared.budget.Budget.{Budget}
use Rattle.cub_cube.specs.declared.cube.Cube.{Cube}
use Rattle.log_form.specs.declared.node.Node.{Node}
use Rattle.log_form.specs.declared.event.LogEvent.{LogEvent}
use Rattle.log_form.specs.declared.event.Mark.{Mark}
use Rattle.log_form.specs.declared.numbered.Numbered.{Numbered}
use Rattle.log_form.specs.Pieces.{PieceRelation, IsFit, ArePossible, StayFit, widest_expanded, greatest_expanded}
use Rattle.log_form.specs.Log.{LogValue, node_at, no_node, cubes_of}
use Rattle.log_form.specs.Legal.{IsOpen, IsLegalLog}
use Rattle.log_form.specs.Later.{GoesOn}
use Rattle.log_form.proofs.Depths.{askable_at}
use Rattle.log_form.proofs.Weave.{legal_woven}
use Rattle.log_steps.specs.declared.judgement.Pick.{Pick}
use Rattle.log_steps.specs.declared.judgement.Verdict.{Verdict}
use Rattle.log_steps.specs.Chosen.{FormRelation}
use Rattle.log_steps.specs.Judged.{IsExact}
use Rattle.log_steps.specs.Pieces.{AreItsPieces}
use Rattle.log_steps.specs.Commits.{MayCommit, going_log, AreCommitted}
use Rattle.cube_core.specs.Refusal.{refusal, outcome_by}
use Rattle.cube_core.specs.Answers.{LeadsBy, Answers}
use Rattle.cube_core.specs.Chosen.{AreChosen}
use Rattle.cube_core.specs.Judgements.{IsJudgement}
use Rattle.cube_core.proofs.LeadLemmas.{node_leads}
use Rattle.cube_core.proofs.ChosenLemmas.{chosen_commit}
use Rattle.cube_core.proofs.AnswerLemmas.{MayExpand, not_refused, answers_so}
use Rattle.cube_core.proofs.FirstLemmas.{log_of}
use Rattle.cube_core.proofs.KeepLemmas.{next_legal, goes_on}

-- a node that may be expanded is treated by its pieces
pub treats_node : (P : PieceRelation) (log : LogValue) (number : ℕ) (pieces : List Numbered) → IsLegalLog P log → number < length log.nodes → MayExpand log.mark log.budget (node_at log.nodes number)
    → AreItsPieces P log.protocol (node_at log.nodes number).cube pieces → IsOpen P log number pieces
treats_node P log number pieces legal inside may its = record {
  begun = legal.begun;
  inside = inside;
  waits = may.waits;
  narrow = may.narrow;
  cubes = its.cubes;
  its = its.its;
  is = its.is;
}

module _ (C : FormRelation) (P : PieceRelation) (log : LogValue) (verdict : Verdict) (judgement : IsJudgement C P log verdict) where
  pub may_apply : (cubes : List Cube) (slice : List Pick) → cubes ≡ cubes_of log.nodes → slice ≡ verdict.picks → MayCommit log.protocol cubes (Some verdict.node) slice verdict.seen
  may_apply cubes slice same shown = subst (λ ks. MayCommit log.protocol cubes (Some verdict.node) ks verdict.seen) (sym shown) (record {
    fit = judgement.judged.are.fit;
    exact = subst (λ cs. All (IsExact log.protocol (take verdict.seen cs)) verdict.picks) (sym same) judgement.judged.are.exact;
    goals = λ none. cc;
  })

  module _ (legal : IsLegalLog P log) (may : MayExpand log.mark log.budget (node_at log.nodes verdict.node)) (slice : List Pick) (links : ℕ) (after : LogValue) (shown : slice ≡ verdict.picks)
      (committed : AreCommitted log verdict.seen (Some verdict.node) slice links after) where
    committed_here : AreCommitted log verdict.seen (Some verdict.node) verdict.picks links after
    committed_here = subst (λ ks. AreCommitted log verdict.seen (Some verdict.node) ks links after) shown committed

    treats : IsOpen P log verdict.node judgement.judged.pieces
    treats = treats_node P log verdict.node judgement.judged.pieces legal judgement.inside may judgement.judged.its

    pub apply_leads : LeadsBy P log (Some verdict.node) after
    apply_leads = node_leads P log (Some verdict.node) judgement.judged.pieces verdict.seen verdict.picks links after legal may.going treats judgement.judged.are.adds committed_here

    pub apply_chosen : AreChosen C P log → AreChosen C P after
    apply_chosen = chosen_commit C P log (Some verdict.node) judgement.judged.pieces verdict.seen verdict.picks links after (legal_woven P log legal) treats judgement.judged.chosen committed_here

-- what holds after a judgement was committed over the parts of a log
pub record IsApplied (C : FormRelation) (P : PieceRelation) (now : LogValue) (number first count : ℕ) (links : ℕ) (after : LogValue) : Type 0 where
  pub legal : IsLegalLog P after
  pub later : GoesOn now after
  pub answer : first ≡ length now.nodes → count ≡ length after.nodes → Answers P now number (outcome_by after.mark links first count) after
  pub chosen : AreChosen C P now → AreChosen C P after

module _ (C : FormRelation) (P : PieceRelation) (p q : Protocol) (budget : Budget) (nodes new : List Node) (events more : List LogEvent) (mark marked : Mark) (now : LogValue) (verdict : Verdict) (slice : List Pick) (links : ℕ)
    (view : log_of q budget nodes events mark ≡ now) (same : p ≡ now.protocol) (legal : IsLegalLog P (log_of q budget nodes events mark)) (judgement : IsJudgement C P now verdict)
    (free : refusal mark budget (node_at nodes verdict.node) ≡ None) (shown : slice ≡ verdict.picks)
    (committed : AreCommitted (going_log p budget nodes events) verdict.seen (Some verdict.node) slice links (log_of p budget new more marked)) where
  its : p ≡ q
  its = same ∙ ap (λ l. l.protocol) (sym view)

  may : MayExpand mark budget (node_at nodes verdict.node)
  may = not_refused mark budget (node_at nodes verdict.node) free

  is_going : going_log p budget nodes events ≡ now
  is_going = ap (λ r. log_of r budget nodes events Mark.Going) its ∙ (ap (log_of q budget nodes events) (sym may.going) ∙ view)

  over : AreCommitted now verdict.seen (Some verdict.node) slice links (log_of q budget new more marked)
  over =
      subst (λ l. AreCommitted l verdict.seen (Some verdict.node) slice links (log_of q budget new more marked)) is_going
      (subst (λ r. AreCommitted (going_log p budget nodes events) verdict.seen (Some verdict.node) slice links (log_of r budget new more marked)) its committed)

  legal_now : IsLegalLog P now
  legal_now = subst (IsLegalLog P) view legal

  may_now : MayExpand now.mark now.budget (node_at now.nodes verdict.node)
  may_now = subst (λ l. MayExpand l.mark l.budget (node_at l.nodes verdict.node)) view may

  leads : LeadsBy P now (Some verdict.node) (log_of q budget new more marked)
  leads = apply_leads C P now verdict judgement legal_now may_now slice links (log_of q budget new more marked) shown over

  pub applied : (first count : ℕ) → IsApplied C P now verdict.node first count links (log_of q budget new more marked)
  applied first count = record {
    legal = next_legal P now (Some verdict.node) (log_of q budget new more marked) legal_now leads;
    later = goes_on P now (Some verdict.node) (log_of q budget new more marked) leads;
    answer = answers_so P now verdict.node verdict.seen slice links first count (log_of q budget new more marked) leads over;
    chosen = apply_chosen C P now verdict judgement legal_now may_now slice links (log_of q budget new more marked) shown over;
  }

-- ---- what judging asks, and what it gives
pub at_index : (nodes : List Node) (i : ℕ) (x : Node) → i < length nodes → x ≡ get_or nodes i x → x ≡ node_at nodes i
at_index nodes i x below is = is ∙ get_or_default nodes i x no_node below

pub node_expandable : (P : PieceRelation) → ArePossible P → StayFit P → (log : LogValue) (number : ℕ) → IsLegalLog P log → number < length log.nodes → MayExpand log.mark log.budget (node_at log.nodes number)
    → IsFit log.protocol widest_expanded greatest_expanded (node_at log.nodes number).cube
node_expandable P possible stay log number legal inside may =
    let fit = askable_at P possible stay log (legal_woven P log legal) number inside in
    record { narrow = omega (arith, may.narrow, log.budget.narrow); fits = fit.fits; normal = fit.normal; bounded = fit.bounded }
