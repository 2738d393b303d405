-- An expansion of the least node that waits is one event, and leaves no node waiting up to there.
use Rattle.std.proofs.Common.{◌≡◌, ◌⊎◌, ℕ, suc, ◌+◌, ◌-◌, ◌<◌, ◌≤◌, true, false, List, length, refl, sym, ap, ◌∙◌, subst, arith, inl, inr}
use Rattle.std.specs.Prelude.{Option, Some, None, ◌&&◌, nat_le, if◌then◌else◌}
use Rattle.std.specs.List.{position_or_len}
use Rattle.std.proofs.lemmas.Bool.{cases_lt}
use Rattle.std.proofs.lemmas.List.Sums.{position_or_len_is, passes_at_first}
use Rattle.cub_base.proofs.Bools.{and_left, and_right, le_is, same_refl}
use Rattle.cub_proto.specs.declared.budget.Budget.{Budget}
use Rattle.log_form.specs.declared.node.Fate.{Fate}
use Rattle.log_form.specs.declared.node.Node.{Node}
use Rattle.log_form.specs.declared.event.Mark.{Mark}
use Rattle.log_form.specs.declared.event.Added.{Added}
use Rattle.log_form.specs.declared.event.LogEvent.{LogEvent}
use Rattle.log_form.specs.Pieces.{PieceRelation}
use Rattle.log_form.specs.Links.{Link}
use Rattle.log_form.specs.Fates.{is_waiting, fate_after}
use Rattle.log_form.specs.Log.{LogValue, no_node, node_at}
use Rattle.log_form.specs.Legal.{is_number, is_going, Fills, Grows, IsLegalLog}
use Rattle.log_form.specs.Verdict.{is_open}
use Rattle.log_form.proofs.Growth.{old_node}
use Rattle.log_form.proofs.Weave.{legal_woven}
use Rattle.cube_core.specs.declared.outcome.Outcome.{Outcome}
use Rattle.cube_core.specs.Answers.{LeadsBy, Answers}
use Rattle.cube_core.specs.Waiting.{NoneOpenBefore, IsLeastOpen}
use Rattle.cube_core.proofs.KeepLemmas.{next_legal, goes_on, none_open}

-- ---- a node that may be expanded
waits : (f : Fate) → is_waiting f ≡ true → f ≡ Fate.Waiting
waits Fate.Waiting h = refl
waits Fate.Done h = cc
waits (Fate.Covered by places) h = cc

open_waits : (budget : Budget) (n : Node) → is_open budget n ≡ true → n.fate ≡ Fate.Waiting
open_waits budget n h = waits n.fate (and_left (is_waiting n.fate) (nat_le n.cube.width budget.width) h)

open_narrow : (budget : Budget) (n : Node) → is_open budget n ≡ true → n.cube.width ≤ budget.width
open_narrow budget n h = le_is n.cube.width budget.width (and_right (is_waiting n.fate) (nat_le n.cube.width budget.width) h)

-- it is expanded
pub expanded : (P : PieceRelation) (old : LogValue) (number : ℕ) (outcome : Outcome) (new : LogValue) → old.mark ≡ Mark.Going → is_open old.budget (node_at old.nodes number) ≡ true → Answers P old number outcome new
    → LeadsBy P old (Some number) new
expanded P old number (Outcome.Stopped why) new going free (is, stopped, same) = absurd (stopped (sym is ∙ going))
expanded P old number (Outcome.WasCovered by) new going free (is, (places, covered), same) =
    let e : Fate.Waiting ≡ Fate.Covered by places = sym (open_waits old.budget (node_at old.nodes number) free) ∙ covered in cc
expanded P old number Outcome.WasDone new going free (is, done, same) = let e : Fate.Waiting ≡ Fate.Done = sym (open_waits old.budget (node_at old.nodes number) free) ∙ done in cc
expanded P old number Outcome.Wide new going free (is, waiting, wide, same) =
    let narrow = open_narrow old.budget (node_at old.nodes number) free in absurd (omega arith)
expanded P old number (Outcome.Full needed) new going free (leads, marked) = leads
expanded P old number (Outcome.Bad node) new going free (leads, marked) = leads
expanded P old number (Outcome.Done first added links) new going free (leads, goes, start, count, live) = leads

-- ---- and then waits no more
closes : (link : Option Link) → is_waiting (fate_after Fate.Waiting link true) ≡ false
closes None = refl
closes (Some link) = refl

closed_now : (old : LogValue) (event : LogEvent) (list : List Added) (new : LogValue) (number : ℕ) → Grows old event list new → event.node ≡ Some number → new.mark ≡ Mark.Going → number < length old.nodes
    → (node_at old.nodes number).fate ≡ Fate.Waiting → (budget : Budget) → is_open budget (node_at new.nodes number) ≡ false
closed_now old event list new number grows its going inside waiting budget =
    let count = grows.count in
    let after = grows.nodes number (omega arith) in
    let fate : (node_at new.nodes number).fate ≡ fate_after Fate.Waiting after.link true =
    ap (λ (n : Node). n.fate) after.is ∙ (ap (λ (n : Node). fate_after n.fate after.link (is_number event.node number && is_going new.mark)) (old_node old event list number inside)
    ∙ (ap (λ f. fate_after f after.link (is_number event.node number && is_going new.mark)) waiting
    ∙ (ap (λ of. fate_after Fate.Waiting after.link (is_number of number && is_going new.mark)) its
    ∙ (ap (λ m. fate_after Fate.Waiting after.link (is_number (Some number) number && is_going m)) going
    ∙ ap (λ b. fate_after Fate.Waiting after.link (b && true)) (same_refl number))))) in
    ap (λ b. b && nat_le (node_at new.nodes number).cube.width budget.width) (ap is_waiting fate ∙ closes after.link)

-- ---- how far a log has to go
abbrev pub first_open : LogValue → ℕ
first_open log = position_or_len (is_open log.budget) log.nodes

abbrev pub to_go : LogValue → ℕ
to_go log = if is_going log.mark then suc (log.budget.cubes - first_open log) else 0

first_is : (log : LogValue) (number : ℕ) → IsLeastOpen log.budget log.nodes (Some number) → first_open log ≡ number
first_is log number (inside, free, none) = position_or_len_is (is_open log.budget) log.nodes number no_node (omega arith) none (λ below. free)

first_past : (log : LogValue) (number : ℕ) → number ≤ length log.nodes → NoneOpenBefore log.budget log.nodes number → number ≤ first_open log
first_past log number inside none = by (cases_lt (first_open log) number)
  where
    by : (first_open log < number) ⊎ (number ≤ first_open log) → number ≤ first_open log
    by (inl low) =
        let e : true ≡ false = sym (passes_at_first (is_open log.budget) log.nodes no_node (omega arith)) ∙ none (first_open log) low in cc
    by (inr past) = past

module _ (P : PieceRelation) (old new : LogValue) (number : ℕ) (legal : IsLegalLog P old) (least : IsLeastOpen old.budget old.nodes (Some number)) (leads : LeadsBy P old (Some number) new) where
  later : IsLegalLog P new
  later = next_legal P old (Some number) new legal leads

  count : length old.nodes ≤ length new.nodes
  count = by leads.leads.effect
    where
      by : Fills old leads.event leads.leads.list new ⊎ Grows old leads.event leads.leads.list new → length old.nodes ≤ length new.nodes
      by (inl fills) = let same = ap length fills.nodes in omega arith
      by (inr grows) = let more = grows.count in omega arith

  closed : new.mark ≡ Mark.Going → is_open new.budget (node_at new.nodes number) ≡ false
  closed going = by leads.leads.effect
    where
      by : Fills old leads.event leads.leads.list new ⊎ Grows old leads.event leads.leads.list new → is_open new.budget (node_at new.nodes number) ≡ false
      by (inl fills) = let e : Mark.Going ≡ Mark.Full leads.event.node (length leads.leads.list) = sym going ∙ fills.mark in cc
      by (inr grows) =
          closed_now old leads.event leads.leads.list new number grows leads.its going least.0 (open_waits old.budget (node_at old.nodes number) least.1) new.budget

  none_now : new.mark ≡ Mark.Going → NoneOpenBefore new.budget new.nodes (number + 1)
  none_now going i below = by (cases_lt i number)
    where
      by : (i < number) ⊎ (number ≤ i) → is_open new.budget (node_at new.nodes i) ≡ false
      by (inl low) = let inside = least.0 in none_open P old new number legal later (goes_on P old (Some number) new leads) (omega arith) least.2 i low
      by (inr high) = let same : number ≡ i = omega arith in subst (λ j. is_open new.budget (node_at new.nodes j) ≡ false) same (closed going)

  pub nearer : to_go new < to_go old
  nearer = by new.mark refl
    where
      far : to_go old ≡ suc (old.budget.cubes - number)
      far =
          ap (λ m. if is_going m then suc (old.budget.cubes - first_open old) else 0) leads.leads.going
          ∙ ap (λ n. suc (old.budget.cubes - n)) (first_is old number least)

      by : (m : Mark) → new.mark ≡ m → to_go new < to_go old
      by Mark.Going is =
          let near : to_go new ≡ suc (new.budget.cubes - first_open new) = ap (λ m. if is_going m then suc (new.budget.cubes - first_open new) else 0) is in
          let inside = least.0 in
          let more = count in
          let past = first_past new (number + 1) (omega arith) (none_now is) in
          let few = (legal_woven P old legal).few in
          let budget : new.budget.cubes ≡ old.budget.cubes = ap (λ (b : Budget). b.cubes) leads.leads.budget in
          let start = far in
          omega arith
      by (Mark.Bad n) is = let near : to_go new ≡ 0 = ap (λ m. if is_going m then suc (new.budget.cubes - first_open new) else 0) is in let start = far in omega arith
      by (Mark.Full of needed) is = let near : to_go new ≡ 0 = ap (λ m. if is_going m then suc (new.budget.cubes - first_open new) else 0) is in let start = far in omega arith
