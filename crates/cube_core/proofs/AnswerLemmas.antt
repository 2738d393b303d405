-- What is answered of an expansion.
use Rattle.std.proofs.Common.{◌≡◌, ◌⊎◌, ℕ, ◌+◌, ◌-◌, ◌≤◌, Bool, true, false, List, length, refl, sym, ap, ◌∙◌, subst, arith, inl, inr}
use Rattle.std.specs.Prelude.{Option, Some, None, nat_lt, if◌then◌else◌}
use Rattle.std.proofs.lemmas.Bool.{ltb-true, ltb-false}
use Rattle.cub_proto.specs.declared.budget.Budget.{Budget}
use Rattle.log_form.specs.declared.node.Fate.{Fate}
use Rattle.log_form.specs.declared.node.Node.{Node}
use Rattle.log_form.specs.declared.event.Mark.{Mark}
use Rattle.log_form.specs.declared.event.Added.{Added}
use Rattle.log_form.specs.Pieces.{PieceRelation}
use Rattle.log_form.specs.Log.{LogValue, node_at}
use Rattle.log_form.specs.Legal.{EndsBad, Fills, Grows}
use Rattle.log_steps.specs.declared.judgement.Pick.{Pick}
use Rattle.log_steps.specs.Commits.{IsCommitted, AreCommitted}
use Rattle.cube_core.specs.declared.outcome.Outcome.{Outcome}
use Rattle.cube_core.specs.Refusal.{refusal_by, refusal, outcome_by}
use Rattle.cube_core.specs.Answers.{LeadsBy, Answers}

-- ---- refusals
abbrev outcome_or : Option Outcome → Outcome
outcome_or None = Outcome.WasDone
outcome_or (Some o) = o

some_is : (a b : Outcome) → Some a ≡ Some b → a ≡ b
some_is a b h = ap outcome_or h

module _ (P : PieceRelation) (log : LogValue) (number : ℕ) (o : Outcome) where
  by_fate : log.mark ≡ Mark.Going → (f : Fate) → (node_at log.nodes number).fate ≡ f → refusal_by f log.budget.width (node_at log.nodes number).cube.width ≡ Some o → Answers P log number o log
  by_fate going (Fate.Covered by places) is h = subst (λ x. Answers P log number x log) (some_is (Outcome.WasCovered by) o h) (going, (places, is), refl)
  by_fate going Fate.Done is h = subst (λ x. Answers P log number x log) (some_is Outcome.WasDone o h) (going, is, refl)
  by_fate going Fate.Waiting is h = by_width (nat_lt log.budget.width (node_at log.nodes number).cube.width) refl h
    where
      by_width : (b : Bool) → nat_lt log.budget.width (node_at log.nodes number).cube.width ≡ b → (if b then Some Outcome.Wide else None) ≡ Some o → Answers P log number o log
      by_width true wide k = subst (λ x. Answers P log number x log) (some_is Outcome.Wide o k) (going, is, ltb-true log.budget.width (node_at log.nodes number).cube.width wide, refl)
      by_width false wide k = cc

  pub refused_so : refusal log.mark log.budget (node_at log.nodes number) ≡ Some o → Answers P log number o log
  refused_so h = by log.mark refl h
    where
      by : (m : Mark) → log.mark ≡ m → refusal m log.budget (node_at log.nodes number) ≡ Some o → Answers P log number o log
      by Mark.Going is k = by_fate is (node_at log.nodes number).fate refl k
      by (Mark.Bad n) is k = subst (λ x. Answers P log number x log) (some_is (Outcome.Stopped (Mark.Bad n)) o k) (is, λ e. cc, refl)
      by (Mark.Full from needed) is k = subst (λ x. Answers P log number x log) (some_is (Outcome.Stopped (Mark.Full from needed)) o k) (is, λ e. cc, refl)

-- the node may be expanded
pub record MayExpand (mark : Mark) (budget : Budget) (n : Node) : Type 0 where
  pub going : mark ≡ Mark.Going
  pub waits : n.fate ≡ Fate.Waiting
  pub narrow : n.cube.width ≤ budget.width

pub not_refused : (mark : Mark) (budget : Budget) (n : Node) → refusal mark budget n ≡ None → MayExpand mark budget n
not_refused mark budget n h = by mark refl h
  where
    by_width : mark ≡ Mark.Going → n.fate ≡ Fate.Waiting → (b : Bool) → nat_lt budget.width n.cube.width ≡ b → (if b then Some Outcome.Wide else None) ≡ None → MayExpand mark budget n
    by_width going is true wide k = cc
    by_width going is false wide k = record { going = going; waits = is; narrow = ltb-false budget.width n.cube.width wide }

    by_fate : mark ≡ Mark.Going → (f : Fate) → n.fate ≡ f → refusal_by f budget.width n.cube.width ≡ None → MayExpand mark budget n
    by_fate going (Fate.Covered by places) is k = cc
    by_fate going Fate.Done is k = cc
    by_fate going Fate.Waiting is k = by_width going is (nat_lt budget.width n.cube.width) refl k

    by : (m : Mark) → mark ≡ m → refusal m budget n ≡ None → MayExpand mark budget n
    by Mark.Going is k = by_fate is n.fate refl k
    by (Mark.Bad b) is k = cc
    by (Mark.Full from needed) is k = cc

-- ---- what an event came to
abbrev node_of : Mark → Option ℕ
node_of Mark.Going = None
node_of (Mark.Bad number) = None
node_of (Mark.Full from needed) = from

full_by : (log : LogValue) (node : Option ℕ) (kept : List Added) (after : LogValue) (from : Option ℕ) (needed : ℕ) → IsCommitted log node kept after → after.mark ≡ Mark.Full from needed → from ≡ node
full_by log of kept after from needed is full = by is.effect
  where
    by_mark : (EndsBad log.protocol kept × (after.mark ≡ Mark.Bad (length log.nodes + length kept - 1))) ⊎ ((EndsBad log.protocol kept → ⊥) × (after.mark ≡ Mark.Going)) → from ≡ of
    by_mark (inl (bad, m)) = let e : Mark.Full from needed ≡ Mark.Bad (length log.nodes + length kept - 1) = sym full ∙ m in cc
    by_mark (inr (good, m)) = let e : Mark.Full from needed ≡ Mark.Going = sym full ∙ m in cc

    by : Fills log is.event kept after ⊎ Grows log is.event kept after → from ≡ of
    by (inl fills) = ap node_of (sym full ∙ fills.mark) ∙ is.its
    by (inr grows) = by_mark grows.mark

count_by : (log : LogValue) (node : Option ℕ) (kept : List Added) (after : LogValue) → IsCommitted log node kept after → after.mark ≡ Mark.Going → length after.nodes ≡ length log.nodes + length kept
count_by log of kept after is going = by is.effect
  where
    by : Fills log is.event kept after ⊎ Grows log is.event kept after → length after.nodes ≡ length log.nodes + length kept
    by (inl fills) = let e : Mark.Going ≡ Mark.Full is.event.node (length kept) = sym going ∙ fills.mark in cc
    by (inr grows) = grows.count

pub more_nodes : (log : LogValue) (node : Option ℕ) (kept : List Added) (after : LogValue) → IsCommitted log node kept after → length log.nodes ≤ length after.nodes
more_nodes log of kept after is = by is.effect
  where
    by : Fills log is.event kept after ⊎ Grows log is.event kept after → length log.nodes ≤ length after.nodes
    by (inl fills) = let e = ap length fills.nodes in omega arith
    by (inr grows) = let e = grows.count in omega arith

pub answers_so : (P : PieceRelation) (log : LogValue) (number seen : ℕ) (picks : List Pick) (links first count : ℕ) (after : LogValue) → LeadsBy P log (Some number) after → AreCommitted log seen (Some number) picks links after
    → first ≡ length log.nodes → count ≡ length after.nodes → Answers P log number (outcome_by after.mark links first count) after
answers_so P log number seen picks links first count after leads committed is_first is_count = by after.mark refl
  where
    by : (m : Mark) → after.mark ≡ m → Answers P log number (outcome_by m links first count) after
    by Mark.Going is =
        let grown = count_by log (Some number) committed.kept after committed.is is in
        let live = committed.linked is in
        (leads, is, is_first, omega arith, omega arith)
    by (Mark.Bad n) is = (leads, is)
    by (Mark.Full from needed) is =
        (leads, is ∙ ap (λ f. Mark.Full f needed) (full_by log (Some number) committed.kept after from needed committed.is is))
