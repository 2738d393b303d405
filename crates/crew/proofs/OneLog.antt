-- A search by one worker has one log.
use Rattle.std.proofs.Common.{◌≡◌, ◌≢◌, ◌⊎◌, ℕ, zero, suc, ◌+◌, ◌-◌, ◌<◌, ◌≤◌, List, true, false, sym, ◌∙◌, subst, arith, inl, inr}
use Rattle.std.specs.Prelude.{Some, None}
use Rattle.std.proofs.lemmas.Bool.{cases_lt}
use Rattle.cub_proto.specs.declared.protocol.Protocol.{Protocol}
use Rattle.cub_proto.specs.declared.budget.Budget.{Budget}
use Rattle.cub_cube.specs.declared.cube.Cube.{Cube}
use Rattle.log_form.specs.declared.node.Node.{Node}
use Rattle.log_form.specs.Log.{LogValue, no_log}
use Rattle.log_form.specs.Legal.{IsLegalLog}
use Rattle.log_form.specs.Verdict.{verdict_of}
use Rattle.log_form.proofs.Weave.{legal_woven, woven_none}
use Rattle.cube_form.specs.Name.{IsNamed}
use Rattle.cube_form.specs.Form.{IsGivenForm}
use Rattle.cube_form.proofs.Simplifying.{simplified_one}
use Rattle.cube_form.proofs.PlaceOrder.{order_one, named_one}
use Rattle.cube_core.specs.Answers.{LeadsBy}
use Rattle.cube_core.specs.Waiting.{IsLeastOpen}
use Rattle.cube_core.proofs.KeepLemmas.{first_legal, next_legal}
use Rattle.predecessors.specs.Predecessors.{ArePieceCubes}
use Rattle.predecessors.specs.Facts.{are_one}
use Rattle.crew.specs.Search.{HasGivenForms, ExpandsLeast, ExpandsTimes, IsSearch}
use Rattle.crew.proofs.OneList.{AreOneForm}
use Rattle.crew.proofs.OneStep.{one_step}
use Rattle.crew.proofs.Ending.{unfinished}

-- a cube has one given form
given_one : AreOneForm IsGivenForm
given_one = record {
  cube = λ p c a b q r h k.
      named_one p h.simple a b q r h.named (subst (λ (x : Cube). IsNamed p x r b) (simplified_one p c k.simple h.simple k.simplified h.simplified) k.named);
  places = λ p c a b q r h k.
      let named : IsNamed p h.simple r b = subst (λ (x : Cube). IsNamed p x r b) (simplified_one p c k.simple h.simple k.simplified h.simplified) k.named in
      order_one h.simple.lits h.simple.width q r h.named.order named.order;
}

-- there is one least node
one_least : (budget : Budget) (nodes : List Node) (n m : ℕ) → IsLeastOpen budget nodes (Some n) → IsLeastOpen budget nodes (Some m) → n ≡ m
one_least budget nodes n m (inside, free, none) (within, also, neither) = by (cases_lt n m) (cases_lt m n)
  where
    by : (n < m) ⊎ (m ≤ n) → (m < n) ⊎ (n ≤ m) → n ≡ m
    by (inl low) other = let e : true ≡ false = sym free ∙ neither n low in cc
    by (inr high) (inl low) = let e : true ≡ false = sym also ∙ none m low in cc
    by (inr high) (inr past) = omega arith

-- one expansion
one_expansion : (log a b : LogValue) → IsLegalLog ArePieceCubes log → HasGivenForms log → ExpandsLeast log a → ExpandsLeast log b → a ≡ b
one_expansion log a b legal forms h k =
    one_step IsGivenForm ArePieceCubes given_one are_one log (Some h.node) a b (legal_woven ArePieceCubes log legal).few h.leads
    (subst (λ n. LeadsBy ArePieceCubes log (Some n) b) (one_least log.budget log.nodes k.node h.node k.least h.least) k.leads) (h.forms forms) (k.forms forms)

-- what expansions keep
pub legal_times : (old : LogValue) (times : ℕ) (new : LogValue) → IsLegalLog ArePieceCubes old → ExpandsTimes old times new → IsLegalLog ArePieceCubes new
legal_times old zero new legal h = subst (IsLegalLog ArePieceCubes) (sym h) legal
legal_times old (suc times) new legal (mid, before, step) = next_legal ArePieceCubes mid (Some step.node) new (legal_times old times mid legal before) step.leads

forms_times : (old : LogValue) (times : ℕ) (new : LogValue) → HasGivenForms old → ExpandsTimes old times new → HasGivenForms new
forms_times old zero new forms h = subst HasGivenForms (sym h) forms
forms_times old (suc times) new forms (mid, before, step) = step.forms (forms_times old times mid forms before)

-- a log with a verdict is not expanded
no_more : (log next : LogValue) → verdict_of log ≢ None → ExpandsLeast log next → ⊥
no_more log next ended step = ended (unfinished log step.leads.leads.going step.node step.least)

-- a log on the way, and the one after it
record IsPassed (old : LogValue) (times : ℕ) : Type 0 where
  mid : LogValue
  next : LogValue
  before : ExpandsTimes old times mid
  step : ExpandsLeast mid next

passed : (old : LogValue) (times more n : ℕ) (new : LogValue) → n ≡ times + more + 1 → ExpandsTimes old n new → IsPassed old times
passed old times more zero new is h = absurd (omega arith)
passed old times zero (suc n) new is (mid, before, step) =
    let same : n ≡ times = omega arith in record { mid = mid; next = new; before = subst (λ k. ExpandsTimes old k mid) same before; step = step }
passed old times (suc more) (suc n) new is (mid, before, step) = passed old times more n mid (omega arith) before

module _ (old : LogValue) (legal : IsLegalLog ArePieceCubes old) (forms : HasGivenForms old) where
  one_times : (times : ℕ) (a b : LogValue) → ExpandsTimes old times a → ExpandsTimes old times b → a ≡ b
  one_times zero a b h k = h ∙ sym k
  one_times (suc times) a b (x, first, step) (y, second, other) =
      let same : y ≡ x = one_times times y x second first in
      one_expansion x a b (legal_times old times x legal first) (forms_times old times x forms first) step (subst (λ z. ExpandsLeast z b) same other)

  -- an earlier log has no verdict
  too_early : (m n : ℕ) (a b : LogValue) → m < n → ExpandsTimes old m a → ExpandsTimes old n b → verdict_of a ≢ None → ⊥
  too_early m n a b low h k ended =
      let way = passed old m (n - m - 1) n b (omega arith) k in
      no_more a way.next ended (subst (λ z. ExpandsLeast z way.next) (one_times m way.mid a way.before h) way.step)

  one_end : (m n : ℕ) (a b : LogValue) → ExpandsTimes old m a → ExpandsTimes old n b → verdict_of a ≢ None → verdict_of b ≢ None → a ≡ b
  one_end m n a b h k ended also = by (cases_lt m n) (cases_lt n m)
    where
      by : (m < n) ⊎ (n ≤ m) → (n < m) ⊎ (m ≤ n) → a ≡ b
      by (inl low) other = absurd (too_early m n a b low h k ended)
      by (inr high) (inl low) = absurd (too_early n m b a low k h also)
      by (inr high) (inr past) = let same : n ≡ m = omega arith in one_times m a b h (subst (λ j. ExpandsTimes old j b) same k)

pub one_log : (p : Protocol) (budget : Budget) (a b : LogValue) → IsSearch p budget a → IsSearch p budget b → a ≡ b
one_log p budget a b h k =
    let first : k.first ≡ h.first = one_step IsGivenForm ArePieceCubes given_one are_one (no_log p budget) None k.first h.first (woven_none ArePieceCubes p budget).few k.roots h.roots k.forms h.forms in
    one_end h.first (first_legal ArePieceCubes p budget h.first h.roots) h.forms h.later.0 k.later.0 a b h.later.1 (subst (λ l. ExpandsTimes l k.later.0 b) first k.later.1) h.ended k.ended
