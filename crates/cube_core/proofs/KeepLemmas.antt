-- What the type of logs keeps.
use Rattle.std.proofs.Common.{◌≡◌, ℕ, ◌≤◌, Bool, true, false, [], ◌∷◌, length, append-nil, refl, sym, ap, ◌∙◌, subst, arith}
use Rattle.std.specs.Prelude.{Option, None, ◌&&◌, nat_le}
use Rattle.cub_proto.specs.declared.protocol.Protocol.{Protocol}
use Rattle.cub_proto.specs.declared.budget.Budget.{Budget}
use Rattle.log_form.specs.declared.node.Fate.{Fate}
use Rattle.log_form.specs.declared.node.Fate.TheVariants.{Waiting, Done, Covered}
use Rattle.log_form.specs.declared.node.Node.{Node}
use Rattle.log_form.specs.Pieces.{PieceRelation}
use Rattle.log_form.specs.Fates.{is_waiting}
use Rattle.log_form.specs.Log.{LogValue, no_log, node_at}
use Rattle.log_form.specs.Verdict.{is_open}
use Rattle.log_form.specs.Legal.{IsLegalLog}
use Rattle.log_form.specs.Later.{IsLaterNode, GoesOn}
use Rattle.log_form.proofs.Weave.{legal_woven}
use Rattle.log_form.proofs.Prefixes.{legal_more, legal_first, nodes_later}
use Rattle.cube_core.specs.Answers.{LeadsBy}
use Rattle.cube_core.specs.Waiting.{NoneOpenBefore}

pub few_nodes : (P : PieceRelation) (log : LogValue) → IsLegalLog P log → length log.nodes ≤ 65536
few_nodes P log legal = omega (arith, (legal_woven P log legal).few, log.budget.few_cubes)

pub first_legal : (P : PieceRelation) (p : Protocol) (budget : Budget) (log : LogValue) → LeadsBy P (no_log p budget) None log → IsLegalLog P log
first_legal P p budget log by = legal_first P p budget by.event log by.leads

pub next_legal : (P : PieceRelation) (old : LogValue) (node : Option ℕ) (new : LogValue) → IsLegalLog P old → LeadsBy P old node new → IsLegalLog P new
next_legal P old node new legal by = legal_more P old by.event new legal by.leads

pub goes_on : (P : PieceRelation) (old : LogValue) (node : Option ℕ) (new : LogValue) → LeadsBy P old node new → GoesOn old new
goes_on P old node new by = record { protocol = by.leads.protocol; budget = by.leads.budget; more = by.event ∷ []; events = by.leads.events }

-- a node that could not be expanded never can
wait_before : (f : Fate) → is_waiting f ≡ true → f ≡ Waiting
wait_before Waiting h = refl
wait_before Done h = cc
wait_before (Covered by places) h = cc

still_closed : (budget : Budget) (old new : Node) → IsLaterNode old new → is_open budget old ≡ false → is_open budget new ≡ false
still_closed budget old new later closed = by (is_waiting new.fate) refl
  where
    width : nat_le new.cube.width budget.width ≡ nat_le old.cube.width budget.width
    width = ap (λ c. nat_le c.width budget.width) later.cube

    by : (b : Bool) → is_waiting new.fate ≡ b → is_open budget new ≡ false
    by false is = ap (λ b. b && nat_le new.cube.width budget.width) is
    by true is =
        let waits = ap is_waiting (later.waiting (wait_before new.fate is)) in
        ap (λ b. b && nat_le new.cube.width budget.width) is ∙ (width ∙ (sym (ap (λ b. b && nat_le old.cube.width budget.width) waits) ∙ closed))

pub none_open : (P : PieceRelation) (old new : LogValue) (next : ℕ) → IsLegalLog P old → IsLegalLog P new → GoesOn old new → next ≤ length old.nodes → NoneOpenBefore old.budget old.nodes next
    → NoneOpenBefore new.budget new.nodes next
none_open P old new next legal legal_new on few none i below =
    let later = nodes_later P old new legal legal_new on in
    subst (λ b. is_open b (node_at new.nodes i) ≡ false) (sym on.budget) (still_closed old.budget (node_at old.nodes i) (node_at new.nodes i) (later.each i (omega arith)) (none i below))

pub stays : (log now : LogValue) → log ≡ now → GoesOn now log
stays log now same = record { protocol = ap (λ l. l.protocol) same; budget = ap (λ l. l.budget) same; more = []; events = ap (λ l. l.events) same ∙ sym (append-nil now.events) }
