-- Expansions one after the other.
use Rattle.std.proofs.Common.{◌≡◌, ◌≢◌, ℕ, suc, ◌<◌, ◌≤◌, List, [], ◌++◌, length, append-nil, append_assoc, refl, sym, ap, ◌∙◌, subst, arith}
use Rattle.std.specs.Prelude.{Some, None, All}
use Rattle.std.proofs.lemmas.List.{get_or_default}
use Rattle.cub_proto.specs.declared.protocol.Protocol.{Protocol}
use Rattle.cub_proto.specs.declared.budget.Budget.{Budget}
use Rattle.log_form.specs.declared.node.Node.{Node}
use Rattle.log_form.specs.declared.event.Mark.{Mark}
use Rattle.log_form.specs.Pieces.{IsAskable, widest, greatest_expanded, greatest_asked}
use Rattle.log_form.specs.Log.{LogValue, no_log, no_node, node_at}
use Rattle.log_form.specs.Legal.{IsLegalLog}
use Rattle.log_form.specs.Verdict.{verdict_of}
use Rattle.log_form.specs.Later.{GoesOn}
use Rattle.log_form.proofs.Depths.{askable_at}
use Rattle.log_form.proofs.FormFits.{fit_more}
use Rattle.log_form.proofs.Weave.{legal_woven}
use Rattle.cube_core.specs.declared.outcome.Outcome.{Outcome}
use Rattle.cube_core.specs.Answers.{LeadsBy, Answers}
use Rattle.cube_core.specs.Waiting.{IsLeastOpen}
use Rattle.cube_core.proofs.KeepLemmas.{few_nodes, next_legal}
use Rattle.predecessors.specs.Predecessors.{ArePieceCubes}
use Rattle.predecessors.specs.Facts.{are_possible, stay_fit}
use Rattle.crew.specs.Search.{HasGivenForms, ExpandsLeast, LeastFirst, IsSearch}
use Rattle.crew.proofs.Going.{expanded, to_go, nearer}

pub no_step : (log : LogValue) → LeastFirst log log
no_step log = (0, refl)

pub more_steps : (first old new : LogValue) → LeastFirst first old → ExpandsLeast old new → LeastFirst first new
more_steps first old new (times, before) step = (suc times, (old, before, step))

pub goes_nowhere : (log : LogValue) → GoesOn log log
goes_nowhere log = record { protocol = refl; budget = refl; more = []; events = sym (append-nil log.events) }

pub goes_further : (first old new : LogValue) → GoesOn first old → GoesOn old new → GoesOn first new
goes_further first old new h k = record {
  protocol = k.protocol ∙ h.protocol;
  budget = k.budget ∙ h.budget;
  more = h.more ++ k.more;
  events = k.events ∙ (ap (λ es. es ++ k.more) h.events ∙ append_assoc first.events h.more k.more);
}

-- the expansion of the least node
module _ (old new : LogValue) (number : ℕ) (outcome : Outcome) (next : (old.mark ≡ Mark.Going) × IsLeastOpen old.budget old.nodes (Some number)) (answers : Answers ArePieceCubes old number outcome new)
    (forms : HasGivenForms old → HasGivenForms new) where
  pub least_step : ExpandsLeast old new
  least_step = record { node = number; least = next.1; leads = expanded ArePieceCubes old number outcome new next.0 next.1.1 answers; forms = forms }

  pub still_legal : IsLegalLog ArePieceCubes old → IsLegalLog ArePieceCubes new
  still_legal legal = next_legal ArePieceCubes old (Some number) new legal (expanded ArePieceCubes old number outcome new next.0 next.1.1 answers)

-- the cubes of the nodes may be asked about, and there are few
module _ (log : LogValue) (slice : List Node) (legal : IsLegalLog ArePieceCubes log) (shown : slice ≡ log.nodes) where
  pub nodes_askable : (p : Protocol) → p ≡ log.protocol → All (λ (n : Node). IsAskable p n.cube) slice
  nodes_askable p same = subst (λ q. All (λ (n : Node). IsAskable q n.cube) slice) (sym same) (subst (All (λ (n : Node). IsAskable log.protocol n.cube)) (sym shown) all)
    where
      all : All (λ (n : Node). IsAskable log.protocol n.cube) log.nodes
      all k d below =
          subst (λ (n : Node). IsAskable log.protocol n.cube) (get_or_default log.nodes k no_node d below)
          (fit_more log.protocol widest greatest_expanded greatest_asked (node_at log.nodes k).cube (omega arith)
          (askable_at ArePieceCubes are_possible stay_fit log (legal_woven ArePieceCubes log legal) k below))

  pub nodes_few : length slice ≤ 65536
  nodes_few = subst (λ (ns : List Node). length ns ≤ 65536) (sym shown) (few_nodes ArePieceCubes log legal)

-- each step leaves less to go
pub step_nearer : (old new : LogValue) → IsLegalLog ArePieceCubes old → ExpandsLeast old new → to_go new < to_go old
step_nearer old new legal step = nearer ArePieceCubes old new step.node legal step.least step.leads

-- a search from the roots
pub is_search : (p : Protocol) (budget : Budget) (first log shown : LogValue) → shown ≡ log → LeadsBy ArePieceCubes (no_log p budget) None first → HasGivenForms first → LeastFirst first log → verdict_of log ≢ None → IsSearch p budget shown
is_search p budget first log shown same roots forms later ended = subst (IsSearch p budget) (sym same) (record { first = first; roots = roots; forms = forms; later = later; ended = ended })
