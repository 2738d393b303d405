-- When a log has a verdict.
use Rattle.std.proofs.Common.{◌≡◌, ◌≢◌, ℕ, zero, suc, ◌<◌, Bool, true, false, List, [], ◌∷◌, length, get_or, refl, sym, ap, ◌∙◌, subst, arith}
use Rattle.std.specs.Prelude.{Option, Some, None, IfNone, ◌||◌, if◌then◌else◌}
use Rattle.std.specs.List.{list_any}
use Rattle.cub_proto.specs.declared.budget.Budget.{Budget}
use Rattle.log_form.specs.declared.node.Node.{Node}
use Rattle.log_form.specs.declared.event.Mark.{Mark}
use Rattle.log_form.specs.declared.verdicts.LogVerdict.TheVariants.{Unsafe, UnknownCubes, UnknownWidth, Safe}
use Rattle.log_form.specs.Log.{LogValue, no_node, node_at}
use Rattle.log_form.specs.Verdict.{is_open, is_live_wide, verdict_going, verdict_by, verdict_of}
use Rattle.cube_core.specs.Waiting.{NoneOpenBefore, IsLeastOpen}
use Rattle.crew.specs.Ends.{NoneWide, IsLeastWide}

-- no item passes
none_passes : {X : Type 0} (f : X → Bool) (d : X) (xs : List X) → ((i : ℕ) → i < length xs → f (get_or xs i d) ≡ false) → list_any f xs ≡ false
none_passes f d [] none = refl
none_passes f d (x ∷ xs) none = ap (λ b. b || list_any f xs) (none 0 (omega arith)) ∙ none_passes f d xs (λ i below. none (suc i) (omega arith))

-- one does
one_passes : {X : Type 0} (f : X → Bool) (d : X) (xs : List X) (i : ℕ) → i < length xs → f (get_or xs i d) ≡ true → list_any f xs ≡ true
one_passes f d [] i below passes = absurd (omega arith)
one_passes f d (x ∷ xs) zero below passes = ap (λ b. b || list_any f xs) passes
one_passes f d (x ∷ xs) (suc i) below passes = ap (λ b. f x || b) (one_passes f d xs i (omega arith) passes) ∙ or_true (f x)
  where
    or_true : (b : Bool) → (b || true) ≡ true
    or_true true = refl
    or_true false = refl

module _ (log : LogValue) where
  -- a log that goes on and has no node to expand
  pub finished : log.mark ≡ Mark.Going → NoneOpenBefore log.budget log.nodes (length log.nodes)
      → verdict_of log ≡ (if list_any (is_live_wide log.budget) log.nodes then Some UnknownWidth else Some Safe)
  finished going none =
      ap (λ m. verdict_by m log.budget log.nodes) going
      ∙ ap (λ b. if b then None else (if list_any (is_live_wide log.budget) log.nodes then Some UnknownWidth else Some Safe)) (none_passes (is_open log.budget) no_node log.nodes none)

  -- has a verdict
  pub has_verdict : log.mark ≡ Mark.Going → NoneOpenBefore log.budget log.nodes (length log.nodes) → verdict_of log ≢ None
  has_verdict going none not = by (list_any (is_live_wide log.budget) log.nodes) (sym (finished going none) ∙ not)
    where
      by : (b : Bool) → (if b then Some UnknownWidth else Some Safe) ≡ None → ⊥
      by true e = cc
      by false e = cc

  -- the next node, or a verdict
  pub next_or_verdict : (next : Option ℕ) → log.mark ≡ Mark.Going → IsLeastOpen log.budget log.nodes next → IfNone next (verdict_of log ≢ None)
  next_or_verdict None going none = has_verdict going none
  next_or_verdict (Some number) going least = tt

  -- a stopped log has one
  pub stopped_verdict : (log.mark ≢ Mark.Going) → verdict_of log ≢ None
  stopped_verdict stopped not = by log.mark refl
    where
      by : (m : Mark) → log.mark ≡ m → ⊥
      by Mark.Going is = stopped is
      by (Mark.Bad n) is = let e : Some Unsafe ≡ None = sym (ap (λ m. verdict_by m log.budget log.nodes) is) ∙ not in cc
      by (Mark.Full of needed) is = let e : Some UnknownCubes ≡ None = sym (ap (λ m. verdict_by m log.budget log.nodes) is) ∙ not in cc

  -- a log with a node to expand has none
  pub unfinished : log.mark ≡ Mark.Going → (number : ℕ) → IsLeastOpen log.budget log.nodes (Some number) → verdict_of log ≡ None
  unfinished going number (inside, free, none) =
      ap (λ m. verdict_by m log.budget log.nodes) going
      ∙ ap (λ b. if b then None else (if list_any (is_live_wide log.budget) log.nodes then Some UnknownWidth else Some Safe)) (one_passes (is_open log.budget) no_node log.nodes number inside free)

  -- where it goes on and has one, no node is to be expanded
  pub going_finished : log.mark ≡ Mark.Going → verdict_of log ≢ None → verdict_of log ≡ (if list_any (is_live_wide log.budget) log.nodes then Some UnknownWidth else Some Safe)
  going_finished going ended = by (list_any (is_open log.budget) log.nodes) refl
    where
      is : verdict_of log ≡ verdict_going log.budget log.nodes
      is = ap (λ m. verdict_by m log.budget log.nodes) going

      by : (b : Bool) → list_any (is_open log.budget) log.nodes ≡ b → verdict_of log ≡ (if list_any (is_live_wide log.budget) log.nodes then Some UnknownWidth else Some Safe)
      by true e = absurd (ended (is ∙ ap (λ b. if b then None else (if list_any (is_live_wide log.budget) log.nodes then Some UnknownWidth else Some Safe)) e))
      by false e = is ∙ ap (λ b. if b then None else (if list_any (is_live_wide log.budget) log.nodes then Some UnknownWidth else Some Safe)) e

  pub safe_verdict : log.mark ≡ Mark.Going → verdict_of log ≢ None → ((i : ℕ) → i < length log.nodes → is_live_wide log.budget (node_at log.nodes i) ≡ false) → verdict_of log ≡ Some Safe
  safe_verdict going ended none =
      going_finished going ended ∙ ap (λ b. if b then Some UnknownWidth else Some Safe) (none_passes (is_live_wide log.budget) no_node log.nodes none)

  pub wide_verdict : log.mark ≡ Mark.Going → verdict_of log ≢ None → (number : ℕ) → number < length log.nodes → is_live_wide log.budget (node_at log.nodes number) ≡ true → verdict_of log ≡ Some UnknownWidth
  wide_verdict going ended number inside wide =
      going_finished going ended ∙ ap (λ b. if b then Some UnknownWidth else Some Safe) (one_passes (is_live_wide log.budget) no_node log.nodes number inside wide)

  -- a log with a verdict that goes on: a first live wide node, or none
  pub wide_end : (budget : Budget) (nodes : List Node) → budget ≡ log.budget → nodes ≡ log.nodes → log.mark ≡ Mark.Going → verdict_of log ≢ None → (number : ℕ) → IsLeastWide budget nodes number
      → (verdict_of log ≡ Some UnknownWidth) × IsLeastWide log.budget log.nodes number
  wide_end budget nodes b ns going ended number h =
      let least : IsLeastWide log.budget log.nodes number = subst (λ (xs : List Node). IsLeastWide log.budget xs number) ns (subst (λ (c : Budget). IsLeastWide c nodes number) b h) in
      (wide_verdict going ended number least.0 least.1, least)

  pub safe_end : (budget : Budget) (nodes : List Node) → budget ≡ log.budget → nodes ≡ log.nodes → log.mark ≡ Mark.Going → verdict_of log ≢ None → NoneWide budget nodes (length nodes) → verdict_of log ≡ Some Safe
  safe_end budget nodes b ns going ended h =
      safe_verdict going ended (subst (λ (xs : List Node). NoneWide log.budget xs (length xs)) ns (subst (λ (c : Budget). NoneWide c nodes (length nodes)) b h))
