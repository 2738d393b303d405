-- The parts of the sample protocol fit each other.
use Rattle.std.proofs.Common.{◌≡◌, ℕ, zero, suc, ◌+◌, ◌-◌, ◌^◌, ◌<◌, ◌≤◌, Bool, true, false, not, ◌||◌, ◌&&◌, List, [], ◌∷◌, ◌++◌, length, map, refl, ap, sym, subst, ◌∙◌, arith, nat_le, nat_lt, codes}
use Rattle.std.specs.Prelude.{IsTrue, All}
use Rattle.std.specs.List.{list_all, range_with_len}
use Rattle.std.proofs.lemmas.Bool.{and_from}
use Rattle.std.proofs.lemmas.List.{append-nil}
use Rattle.std.proofs.lemmas.List.FromFn.{length-map-range_with_len, map-range_with_len_more}
use Rattle.std.proofs.Math.Pow.{pow_mono}
use Rattle.std.proofs.lemmas.Nat.{pow_pos}
use Rattle.cub_base.proofs.Bools.{is_less}
use Rattle.cub_base.proofs.Elements.{all_from}
use Rattle.cub_proto.specs.declared.literal.Lit.{Lit}
use Rattle.cub_proto.specs.declared.protocol.SortDecl.{SortDecl}
use Rattle.cub_proto.specs.declared.protocol.Decl.{Decl}
use Rattle.cub_proto.specs.declared.protocol.Goal.{Goal}
use Rattle.cub_proto.specs.declared.transition.Transition.{Transition}
use Rattle.cub_proto.specs.Signature.{Signature, signature}
use Rattle.cub_proto.specs.Fits.{literal_fits, conjunction_fits, formula_fits, transition_fits, goal_fits, start_fits, sorts_fit, counts_fit, global_fits, array_fits, are_new, are_distinct, value_names, names_are_distinct}
use Rattle.cub_base.specs.Name.{is_declarable}
use Rattle.sample_gen.proofs.Declarable.{leb, level_declarable, step_declarable, level_one, step_one}
use Rattle.sample_gen.proofs.NewNames.{none_is, new_family}
use Rattle.cub_proto.specs.Parts.{AreParts}
use Rattle.sample_gen.specs.Sample.{level_name, step_name, level_sort, sorts, arrays, is_on, is_not_on, start, goals, step, climb, transitions}

module _ (top : ℕ) (low : 2 ≤ top) (high : top ≤ 63) where
  sig : Signature
  sig = signature (sorts top) [] arrays

  levels : length (map level_name (range_with_len 0 (top + 1))) ≡ top + 1
  levels = length-map-range_with_len level_name 0 (top + 1)

  less_pow : (a : ℕ) → a < top + 1 → 2 ^ a < 2 ^ (top + 1)
  less_pow a h = let double = pow_mono h in omega (arith, double, pow_pos a)

  pub on_fits : (width place level : ℕ) → place < width → level ≤ top → literal_fits (signature (sorts top) [] arrays) width (is_on place level) ≡ true
  on_fits width place level inside h = rw (levels, is_less place width inside, is_less (2 ^ level) (2 ^ (top + 1)) (less_pow level (omega (arith, h)))) refl

  pub not_on_fits : literal_fits (signature (sorts top) [] arrays) 2 (is_not_on top 1 1) ≡ true
  not_on_fits = let some = pow_pos (top + 1) in rw (levels, is_less (2 ^ (top + 1) - 1 - 2 ^ 1) (2 ^ (top + 1)) (omega (arith, some))) refl

  -- the formula of one literal about a level
  pub one_fits : (width place level : ℕ) → place < width → level ≤ top → formula_fits (signature (sorts top) [] arrays) width ((is_on place level ∷ []) ∷ []) ≡ true
  one_fits width place level inside h = rw (on_fits width place level inside h) refl

  pub other_fits : formula_fits (signature (sorts top) [] arrays) 2 ((is_not_on top 1 1 ∷ []) ∷ []) ≡ true
  other_fits = rw not_on_fits refl

  -- a step from a level below the top
  pub step_fits : (others : List (List Lit)) (from : ℕ) → from < top → formula_fits (signature (sorts top) [] arrays) 2 others ≡ true → transition_fits (signature (sorts top) [] arrays) (step others from) ≡ true
  step_fits others from below h =
      rw (step_declarable (from + 1) (omega (arith, below)), one_fits 1 0 from (omega arith) (omega (arith, below)), h, levels, is_less (from + 1) (top + 1) (omega (arith, below))) refl

  -- all steps of the middle
  steps_fit : (a n : ℕ) → a + n ≤ top → list_all (transition_fits (signature (sorts top) [] arrays)) (map (step ([] ∷ [])) (range_with_len a n)) ≡ true
  steps_fit a zero h = refl
  steps_fit a (suc n) h =
      and_from (transition_fits (signature (sorts top) [] arrays) (step ([] ∷ []) a)) (list_all (transition_fits (signature (sorts top) [] arrays)) (map (step ([] ∷ [])) (range_with_len (a + 1) n)))
      (step_fits ([] ∷ []) a (omega (arith, h)) refl) (steps_fit (a + 1) n (omega (arith, h)))

  pub transitions_fit : list_all (transition_fits (signature (sorts top) [] arrays)) (transitions top) ≡ true
  transitions_fit = rw (
    step_fits ((is_on 1 0 ∷ []) ∷ []) 0 (omega (arith, low)) (one_fits 2 1 0 (omega arith) (omega arith)),
    step_fits ((is_not_on top 1 1 ∷ []) ∷ []) 1 (omega (arith, low)) other_fits,
    steps_fit 2 (top - 2) (omega (arith, low)),
  ) refl

  pub start_fit : start_fits (signature (sorts top) [] arrays) start ≡ true
  start_fit = rw (on_fits 1 0 0 (omega arith) (omega arith)) refl

  pub goals_fit : list_all (goal_fits (signature (sorts top) [] arrays)) (goals top) ≡ true
  goals_fit = rw (on_fits 2 0 top (omega arith) (omega arith)) refl

  names_fit : (a n : ℕ) → a + n ≤ top + 1 → list_all is_declarable (map level_name (range_with_len a n)) ≡ true
  names_fit a zero h = refl
  names_fit a (suc n) h =
      and_from (is_declarable (level_name a)) (list_all is_declarable (map level_name (range_with_len (a + 1) n)))
      (level_declarable a (omega (arith, h, high))) (names_fit (a + 1) n (omega (arith, h)))

  pub sorts_are_fit : sorts_fit (sorts top) ≡ true
  sorts_are_fit = rw (levels, is_less 0 (top + 1) (omega arith), leb (top + 1) 64 (omega (arith, high)), names_fit 0 (top + 1) (omega arith)) refl

  many : length (map (step ([] ∷ [])) (range_with_len 2 (top - 2))) ≡ top - 2
  many = length-map-range_with_len (step ([] ∷ [])) 2 (top - 2)

  pub counts_are_fit : counts_fit (sorts top) [] arrays (goals top) (transitions top) ≡ true
  counts_are_fit = rw (many, leb (suc (suc (top - 2))) 256 (omega (arith, high))) refl

  fresh_levels : are_new (codes "False" ∷ codes "True" ∷ map level_name (range_with_len 0 (top + 1))) (codes "A" ∷ []) ≡ true
  fresh_levels = rw (none_is level_name (codes "A") 0 (top + 1) (λ i. refl)) refl

  value_names_differ : are_new [] (codes "False" ∷ codes "True" ∷ (map level_name (range_with_len 0 (top + 1)) ++ codes "A" ∷ [])) ≡ true
  value_names_differ =
      new_family level_name (top + 1) (λ i j i_in j_in same. level_one i j (omega (arith, high)) (omega (arith, high)) same)
      (codes "False" ∷ codes "True" ∷ []) 0 (top + 1) (codes "A" ∷ []) (omega arith) (λ i l h. refl) fresh_levels

  joined_names : (xs : List (List ℕ)) → (codes "False" ∷ codes "True" ∷ (xs ++ [])) ++ [] ++ codes "A" ∷ [] ≡ codes "False" ∷ codes "True" ∷ (xs ++ codes "A" ∷ [])
  joined_names xs = ap (λ l. codes "False" ∷ codes "True" ∷ (l ++ [] ++ codes "A" ∷ [])) (append-nil xs) ∙ ap (λ l. codes "False" ∷ codes "True" ∷ (l ++ codes "A" ∷ [])) (append-nil xs)

  level_names_end : are_distinct (value_names (sorts top) [] arrays) ≡ true
  level_names_end = subst (λ names. are_new [] names ≡ true) (sym (joined_names (map level_name (range_with_len 0 (top + 1))))) value_names_differ

  abbrev next_name : ℕ → List ℕ
  next_name n = step_name (n + 1)

  names_of_steps : (a n : ℕ) → map (λ t. t.name) (map (step ([] ∷ [])) (range_with_len a n)) ≡ map next_name (range_with_len a n)
  names_of_steps a zero = refl
  names_of_steps a (suc n) = ap (λ xs. next_name a ∷ xs) (names_of_steps (a + 1) n)

  step_names_differ : are_distinct (map (λ t. t.name) (transitions top)) ≡ true
  step_names_differ =
      subst (λ names. are_new [] (next_name 0 ∷ next_name 1 ∷ names) ≡ true) (append-nil _ ∙ sym (names_of_steps 2 (top - 2)))
      (new_family next_name 99 (λ i j i_in j_in same. step_one i j (omega arith) (omega arith) same) [] 0 (suc (suc (top - 2))) [] (omega (arith, high)) (λ i l h. refl) refl)

  pub names_differ : names_are_distinct (sorts top) [] arrays (transitions top) ≡ true
  names_differ = rw (level_names_end, step_names_differ) refl

  pub are_parts : AreParts (sorts top) [] arrays start (goals top) (transitions top)
  are_parts = record {
    few = counts_are_fit;
    sorts = sorts_are_fit;
    distinct = names_differ;
    globals = all_from (global_fits (sorts top)) [] refl;
    arrays = all_from (array_fits (sorts top)) arrays refl;
    start = start_fit;
    goals = all_from (goal_fits (signature (sorts top) [] arrays)) (goals top) goals_fit;
    transitions = all_from (transition_fits (signature (sorts top) [] arrays)) (transitions top) transitions_fit;
  }

-- one more step of the middle
pub more_steps : (f : ℕ → Transition) (from : ℕ) → 2 ≤ from → map f (range_with_len 2 (from + 1 - 2)) ≡ map f (range_with_len 2 (from - 2)) ++ f from ∷ []
more_steps f from h =
    let next : from + 1 - 2 ≡ (from - 2) + 1 = omega (arith, h) in
    ap (λ n. map f (range_with_len 2 n)) next ∙ map-range_with_len_more f 2 (from - 2) from (omega (arith, h))

-- lists that are the sample's are parts of a protocol
pub their_parts : (top : ℕ) → 2 ≤ top → top ≤ 63 → (s : List SortDecl) (g a : List Decl) (st : List (List Lit)) (go : List Goal) (t : List Transition)
    → s ≡ sorts top → g ≡ [] → a ≡ arrays → st ≡ start → go ≡ goals top → t ≡ transitions top → AreParts s g a st go t
their_parts top low high s g a st go t s_is g_is a_is st_is go_is t_is = rw (s_is, g_is, a_is, st_is, go_is, t_is) (are_parts top low high)
