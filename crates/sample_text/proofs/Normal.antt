-- The sample protocol is of normal form.
use Rattle.std.proofs.Common.{◌≡◌, ℕ, zero, suc, ◌+◌, ◌-◌, ◌<◌, ◌≤◌, Bool, true, List, [], ◌∷◌, map, refl, ap, ◌∙◌, arith}
use Rattle.std.specs.Prelude.{IsTrue, ◌&&◌}
use Rattle.std.specs.List.{list_all, range_with_len}
use Rattle.cub_base.proofs.Bools.{and_both}
use Rattle.cub_proto.specs.declared.literal.Lit.{Lit}
use Rattle.cub_proto.specs.declared.protocol.Goal.{Goal}
use Rattle.cub_proto.specs.declared.protocol.Protocol.{Protocol}
use Rattle.cub_proto.specs.declared.transition.Transition.{Transition}
use Rattle.print_words.specs.Writable.{is_writable, is_writable_conjunction, is_writable_formula, is_writable_transition}
use Rattle.print_names.specs.Plain.{is_plain, has_plain_names, are_plain, declares_plain_names}
use Rattle.print_formulas.specs.Normal.{is_normal_conjunction, is_normal_formula, has_normal_bodies}
use Rattle.print_transitions.specs.Normal.{has_normal_guard, has_normal_guards}
use Rattle.print_updates.specs.Normal.{has_normal_effect, has_normal_updates}
use Rattle.print_reads.specs.Normal.{has_plain_transition_names, is_normal_protocol}
use Rattle.print_premises.proofs.Asked.{writable_conjunction, normal_conjunction, writable_formula, normal_formula}
use Rattle.print_premises.proofs.Literals.{is_textual, are_textual}
use Rattle.sample_gen.specs.Sample.{IsSample, level_name, sorts, is_on, is_not_on, step}
use Rattle.sample_text.proofs.Literals.{on_textual, one_textual, other_textual}

-- ---- names
plain_levels : (a n : ℕ) → list_all is_plain (map level_name (range_with_len a n)) ≡ true
plain_levels a zero = refl
plain_levels a (suc n) = plain_levels (a + 1) n

plain_sorts : (top : ℕ) → list_all has_plain_names (sorts top) ≡ true
plain_sorts top = rw (plain_levels 0 (top + 1)) refl

module _ (top : ℕ) (p : Protocol) (low : 2 ≤ top) (sample : IsSample top p) where
  -- ---- steps
  -- every step from a level below the highest passes the test, where its universal guard has literals of texts
  abbrev PassesSteps : (Transition → Bool) → Type 0
  PassesSteps test = (others : List (List Lit)) (from : ℕ) → from < top → list_all (are_textual p) others ≡ true → test (step others from) ≡ true

  middle_pass : (test : Transition → Bool) → PassesSteps test → (a n : ℕ) → a + n ≤ top → list_all test (map (step ([] ∷ [])) (range_with_len a n)) ≡ true
  middle_pass test h a zero within = refl
  middle_pass test h a (suc n) within =
      and_both (test (step ([] ∷ []) a)) (list_all test (map (step ([] ∷ [])) (range_with_len (a + 1) n)))
      (h ([] ∷ []) a (omega (arith, within)) refl) (middle_pass test h (a + 1) n (omega (arith, within)))

  all_pass : (test : Transition → Bool) → PassesSteps test → list_all test p.transitions ≡ true
  all_pass test h =
      let first = step ((is_on 1 0 ∷ []) ∷ []) 0 in
      let second = step ((is_not_on top 1 1 ∷ []) ∷ []) 1 in
      let middle = map (step ([] ∷ [])) (range_with_len 2 (top - 2)) in
      ap (list_all test) sample.transitions
      ∙ and_both (test first) (test second && list_all test middle)
      (h ((is_on 1 0 ∷ []) ∷ []) 0 (omega (arith, low)) (one_textual top p sample 1 0 (omega arith)))
      (and_both (test second) (list_all test middle)
      (h ((is_not_on top 1 1 ∷ []) ∷ []) 1 (omega (arith, low)) (other_textual top p sample 1 1 (omega (arith, low))))
      (middle_pass test h 2 (top - 2) (omega (arith, low))))

  own_textual : (from : ℕ) → from < top → list_all (are_textual p) ((is_on 0 from ∷ []) ∷ []) ≡ true
  own_textual from below = one_textual top p sample 0 from (omega (arith, below))

  step_writable : PassesSteps (is_writable_transition p)
  step_writable others from below h =
      rw (
        writable_formula p ((is_on 0 from ∷ []) ∷ []) (own_textual from below),
        writable_formula p others h,
      ) refl

  step_guarded : PassesSteps (has_normal_guard p)
  step_guarded others from below h =
      and_both (is_normal_formula p ((is_on 0 from ∷ []) ∷ [])) (is_normal_formula p others)
      (normal_formula p ((is_on 0 from ∷ []) ∷ []) (own_textual from below)) (normal_formula p others h)

  step_effect : PassesSteps (has_normal_effect p)
  step_effect others from below h = refl

  step_plain : PassesSteps (λ t. is_plain t.name)
  step_plain others from below h = refl

  -- ---- start and goals
  start_textual : list_all (are_textual p) p.start ≡ true
  start_textual = ap (list_all (are_textual p)) sample.start ∙ one_textual top p sample 0 0 (omega arith)

  abbrev both_on : List Lit
  both_on = is_on 0 top ∷ is_on 1 top ∷ []

  goal_textual : are_textual p both_on ≡ true
  goal_textual =
      and_both (is_textual p (is_on 0 top)) (are_textual p (is_on 1 top ∷ [])) (on_textual top p sample 0 top (omega arith))
      (and_both (is_textual p (is_on 1 top)) true (on_textual top p sample 1 top (omega arith)) refl)

  goals_pass : (test : List Lit → Bool) → test both_on ≡ true → list_all (λ g. test g.lits) p.goals ≡ true
  goals_pass test h = ap (list_all (λ (g : Goal). test g.lits)) sample.goals ∙ and_both (test both_on) true h refl

  -- ---- the parts of normal form
  writable : IsTrue (is_writable p)
  writable =
      let begins = is_writable_formula p p.start in
      let unsafe = list_all (λ (g : Goal). is_writable_conjunction p g.lits) p.goals in
      and_both (begins && unsafe) (list_all (is_writable_transition p) p.transitions)
      (and_both begins unsafe (writable_formula p p.start start_textual) (goals_pass (is_writable_conjunction p) (writable_conjunction p both_on goal_textual)))
      (all_pass (is_writable_transition p) step_writable)

  plain : IsTrue (declares_plain_names p)
  plain =
      and_both (list_all has_plain_names p.sorts && are_plain p.globals) (are_plain p.arrays)
      (and_both (list_all has_plain_names p.sorts) (are_plain p.globals)
      (ap (list_all has_plain_names) sample.sorts ∙ plain_sorts top) (ap are_plain sample.globals))
      (ap are_plain sample.arrays)

  bodies : IsTrue (has_normal_bodies p)
  bodies =
      and_both (is_normal_formula p p.start) (list_all (λ (g : Goal). is_normal_conjunction p g.lits) p.goals)
      (normal_formula p p.start start_textual) (goals_pass (is_normal_conjunction p) (normal_conjunction p both_on goal_textual))

  pub is_normal : IsTrue (is_normal_protocol p)
  is_normal =
      let written = is_writable p in
      let names = declares_plain_names p in
      let called = has_plain_transition_names p in
      let tests = has_normal_bodies p in
      let guards = has_normal_guards p in
      let updates = has_normal_updates p in
      and_both (written && names && called && tests && guards) updates
      (and_both (written && names && called && tests) guards
      (and_both (written && names && called) tests
      (and_both (written && names) called
      (and_both written names writable plain)
      (all_pass (λ t. is_plain t.name) step_plain))
      bodies)
      (all_pass (has_normal_guard p) step_guarded))
      (all_pass (has_normal_effect p) step_effect)
