-- Of two alive processes of the sample protocol one is on the lowest level, from the start on and after each event.
use Rattle.std.proofs.Common.{◌≡◌, ◌≢◌, ◌⊎◌, ℕ, zero, suc, ◌+◌, ◌<◌, ◌≤◌, Bool, true, false, List, [], ◌∷◌, ◌++◌, length, get_or, refl, sym, ap, ◌∙◌, subst, arith, inl, inr}
use Rattle.std.specs.Prelude.{IsTrue, Option, Some, slice_get, Contains, All, AllPairs}
use Rattle.std.proofs.lemmas.Bool.{cases_lt, cases_eq, false≢true}
use Rattle.std.proofs.lemmas.List.{get_or_past}
use Rattle.cub_proto.specs.declared.literal.Lit.{Lit}
use Rattle.cub_proto.specs.declared.transition.Transition.{Transition}
use Rattle.cub_proto.specs.declared.state.Slot.{Slot}
use Rattle.cub_proto.specs.declared.state.Val.{Val}
use Rattle.cub_proto.specs.declared.event.Event.{Event}
use Rattle.cub_proto.specs.declared.event.Event.TheVariants.{Crash, Fire}
use Rattle.cub_proto.specs.declared.protocol.Goal.{Goal}
use Rattle.cub_proto.specs.declared.protocol.Protocol.{Protocol}
use Rattle.cub_proto.specs.Configuration.{Configuration, IsAlive, process_count}
use Rattle.cub_proto.specs.Truth.{all_true, any_true}
use Rattle.cub_proto.specs.Effect.{fired, picked}
use Rattle.cub_proto.specs.Legal.{IsStart, IsLegal, MayFire, IsRun, AreLegal, after, after_all, fired_by}
use Rattle.cub_proto.specs.Meets.{IsSafe, IsUnsafe}
use Rattle.cub_base.proofs.Bools.{and_left, and_right}
use Rattle.cub_cube.proofs.CrashLemmas.{killed_crashed}
use Rattle.sample_gen.specs.Sample.{IsSample, is_on, step, climb, start, goals}
use Rattle.sample_laws.specs.Climbing.{level_at, OneClimbs}
use Rattle.sample_laws.proofs.Steps.{on_level, only_one, IsClimb, is_climb, stays_low}

-- ---- short lists
one_param : (params : List ℕ) → length params ≡ 1 → (q : ℕ) × (params ≡ q ∷ [])
one_param [] h = absurd (omega (arith, h))
one_param (q ∷ []) h = (q, refl)
one_param (q ∷ r ∷ rs) h = absurd (omega (arith, h))

two_places : (places : List ℕ) → length places ≡ 2 → (a b : ℕ) × (places ≡ a ∷ b ∷ [])
two_places [] h = absurd (omega (arith, h))
two_places (a ∷ []) h = absurd (omega (arith, h))
two_places (a ∷ b ∷ []) h = (a, b, refl)
two_places (a ∷ b ∷ c ∷ rs) h = absurd (omega (arith, h))

is_only : {A : Type 0} (x y : A) → Contains (x ∷ []) y → x ≡ y
is_only x y (zero, below, is) = is
is_only x y (suc k, below, is) = absurd (omega (arith, below))

-- ---- one step
module _ (s : Configuration) (q from : ℕ) (others : List (List Lit)) (pick : Slot → Option Val) where
  others_low : IsAlive s q → IsTrue (any_true s (q ∷ []) ((is_on 0 from ∷ []) ∷ [])) → ((i : ℕ) → IsAlive s i → (Contains (q ∷ []) i → ⊥) → IsTrue (any_true s (q ∷ i ∷ []) others))
      → (((from ≡ 0) × (others ≡ (is_on 1 0 ∷ []) ∷ [])) ⊎ (1 ≤ from)) → OneClimbs s → (j : ℕ) → IsAlive s j → j ≢ q → level_at s j ≡ 0
  others_low alive guard rest (inl (low, nobody)) one j here apart =
      let asked : IsTrue (any_true s (q ∷ j ∷ []) ((is_on 1 0 ∷ []) ∷ [])) =
      subst (λ o. IsTrue (any_true s (q ∷ j ∷ []) o)) nobody (rest j here (λ there. apart (sym (is_only q j there)))) in
      on_level s (q ∷ j ∷ []) 1 0 (only_one _ asked)
  others_low alive guard rest (inr high) one j here apart = by (one q j alive here (λ same. apart (sym same)))
    where
      by : (level_at s q ≡ 0) ⊎ (level_at s j ≡ 0) → level_at s j ≡ 0
      by (inl zero_level) =
          let at : level_at s q ≡ from = on_level s (q ∷ []) 0 from (only_one _ guard) in
          absurd (omega (arith, high, at, zero_level))
      by (inr low) = low

  step_keeps : IsAlive s q → IsTrue (any_true s (q ∷ []) ((is_on 0 from ∷ []) ∷ [])) → ((i : ℕ) → IsAlive s i → (Contains (q ∷ []) i → ⊥) → IsTrue (any_true s (q ∷ i ∷ []) others))
      → (((from ≡ 0) × (others ≡ (is_on 1 0 ∷ []) ∷ [])) ⊎ (1 ≤ from)) → OneClimbs s → OneClimbs (fired s (q ∷ []) (climb (from + 1) ∷ []) pick)
  step_keeps alive guard rest kind one i j first second differ = by (cases_eq i q)
    where
      stays : (k : ℕ) → IsAlive s k → k ≢ q → level_at (fired s (q ∷ []) (climb (from + 1) ∷ []) pick) k ≡ 0
      stays k here apart = stays_low s q (from + 1) pick k here apart (others_low alive guard rest kind one k here apart)

      by : (i ≡ q) ⊎ (i ≢ q) → (level_at (fired s (q ∷ []) (climb (from + 1) ∷ []) pick) i ≡ 0) ⊎ (level_at (fired s (q ∷ []) (climb (from + 1) ∷ []) pick) j ≡ 0)
      by (inl same) = inr (stays j second (λ other. differ (same ∙ sym other)))
      by (inr apart) = inl (stays i first apart)

fires_keep : (p : Protocol) (s : Configuration) (t : Transition) (params : List ℕ) (pick : Slot → Option Val) → IsClimb t → MayFire p s t params pick → OneClimbs s → OneClimbs (fired s params t.updates pick)
fires_keep p s t params pick (others, from, is, kind) may one =
    let may' : MayFire p s (step others from) params pick = subst (λ u. MayFire p s u params pick) is may in
    let param = one_param params may'.one_each in
    let may'' : MayFire p s (step others from) (param.0 ∷ []) pick = subst (λ ps. MayFire p s (step others from) ps pick) param.1 may' in
    let kept : OneClimbs (fired s (param.0 ∷ []) (climb (from + 1) ∷ []) pick) =
    step_keeps s param.0 from others pick (may''.parameters.alive 0 0 (omega arith)) may''.guard may''.others kind one in
    subst (λ u. OneClimbs (fired s params u.updates pick)) (sym is) (subst (λ ps. OneClimbs (fired s ps (climb (from + 1) ∷ []) pick)) (sym param.1) kept)

-- ---- each legal event
module _ (top : ℕ) (p : Protocol) (sample : IsSample top p) where
  keeps : (s : Configuration) (e : Event) → IsLegal p s e → OneClimbs s → OneClimbs (after p s e)
  keeps s (Crash c) legal one = λ i j first second differ. one i j ((killed_crashed s c).alive i first) ((killed_crashed s c).alive j second) differ
  keeps s (Fire number params picks) legal one =
      let its = is_climb top number legal.transition (subst (λ ts. slice_get ts number ≡ Some legal.transition) sample.transitions legal.is_there) in
      subst (λ o. OneClimbs (fired_by o s params picks)) (sym legal.is_there) (fires_keep p s legal.transition params (picked picks) its legal.fires one)

  all_keep : (s : Configuration) (events : List Event) → AreLegal p s events → OneClimbs s → OneClimbs (after_all p s events)
  all_keep s [] legal one = one
  all_keep s (e ∷ es) (legal, rest) one = all_keep (after p s e) es rest (keeps s e legal one)

  starts_low : (s : Configuration) → IsStart p s → OneClimbs s
  starts_low s starts i j first second differ = by (cases_lt i (length s.living))
    where
      by : (i < length s.living) ⊎ (length s.living ≤ i) → (level_at s i ≡ 0) ⊎ (level_at s j ≡ 0)
      by (inl inside) =
          let begins : IsTrue (any_true s (i ∷ []) start) = subst (λ f. IsTrue (any_true s (i ∷ []) f)) sample.start (starts.begins i inside) in
          inl (on_level s (i ∷ []) 0 0 (only_one _ begins))
      by (inr past) = absurd (false≢true (sym (get_or_past s.living i false past) ∙ first))

  never_unsafe : (s : Configuration) → 2 ≤ top → OneClimbs s → IsUnsafe p s → ⊥
  never_unsafe s high one (goal, its, met) =
      let places : List ℕ = met.0 in
      let meets = met.1 in
      let same : record { width = 2; lits = is_on 0 top ∷ is_on 1 top ∷ [] } ≡ goal = is_only _ goal (subst (λ gs. Contains gs goal) sample.goals its) in
      let lits : goal.lits ≡ is_on 0 top ∷ is_on 1 top ∷ [] = sym (ap (λ (g : Goal). g.lits) same) in
      let width : goal.width ≡ 2 = sym (ap (λ (g : Goal). g.width) same) in
      let pair = two_places places (meets.one_each ∙ width) in
      let is : places ≡ pair.0 ∷ pair.1 ∷ [] = pair.2 in
      let holds : IsTrue (all_true s (pair.0 ∷ pair.1 ∷ []) (is_on 0 top ∷ is_on 1 top ∷ [])) =
      subst (λ ps. IsTrue (all_true s ps (is_on 0 top ∷ is_on 1 top ∷ []))) is (subst (λ ls. IsTrue (all_true s places ls)) lits meets.holds) in
      let first : level_at s pair.0 ≡ top = on_level s (pair.0 ∷ pair.1 ∷ []) 0 top (and_left _ _ holds) in
      let second : level_at s pair.1 ≡ top = on_level s (pair.0 ∷ pair.1 ∷ []) 1 top (and_left _ _ (and_right _ _ holds)) in
      let distinct = subst (λ ps. AllPairs (λ x y. x ≢ y) ps) is meets.processes.distinct in
      let alive = subst (λ ps. All (IsAlive s) ps) is meets.processes.alive in
      low pair.0 pair.1 first second (one pair.0 pair.1 (alive 0 0 (omega arith)) (alive 1 0 (omega arith)) (distinct 0 1 0 (omega arith) (omega arith)))
    where
      low : (a b : ℕ) → level_at s a ≡ top → level_at s b ≡ top → (level_at s a ≡ 0) ⊎ (level_at s b ≡ 0) → ⊥
      low a b first second (inl none) = omega (arith, high, first, none)
      low a b first second (inr none) = omega (arith, high, second, none)

  pub safe : 2 ≤ top → IsSafe p
  safe high s events run bad = never_unsafe (after_all p s events) high (all_keep s events run.legal (starts_low s run.start)) bad
