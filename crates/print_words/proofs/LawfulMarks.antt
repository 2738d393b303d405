-- The words of updates, transitions, declarations and of a whole protocol are lawful.
use Rattle.std.proofs.Common.{◌≡◌, ℕ, zero, suc, ◌+◌, ◌<◌, ◌≤◌, Bool, true, false, List, [], ◌∷◌, ◌++◌, length, drop, Option, Some, None, refl, arith}
use Rattle.std.specs.Prelude.{◌==◌, ◌&&◌, IsTrue, not, codes, nat_le, nat_lt, unsigned_abs, slice_get, if◌then◌else◌, flat_map, count_by}
use Rattle.std.specs.List.{list_all, range_with_len}
use Rattle.std.specs.Option.{option_map_or}
use Rattle.cub_base.specs.Name.{is_declarable}
use Rattle.cub_base.proofs.Bools.{and_left, and_right, less_is, le_is}
use Rattle.cub_base.proofs.Elements.{from_all}
use Rattle.cub_lexer.specs.declared.token.TokenKind.TheVariants as k
use Rattle.cub_proto.specs.declared.literal.Sort.{Sort}
use Rattle.cub_proto.specs.declared.literal.Sort.TheVariants as sorts
use Rattle.cub_proto.specs.declared.literal.Lit.{Lit}
use Rattle.cub_proto.specs.declared.literal.Value.{Value}
use Rattle.cub_proto.specs.declared.literal.Value.TheVariants as values
use Rattle.cub_proto.specs.declared.transition.Target.{Target}
use Rattle.cub_proto.specs.declared.transition.Target.TheVariants as targets
use Rattle.cub_proto.specs.declared.transition.Branch.{Branch}
use Rattle.cub_proto.specs.declared.transition.Update.{Update}
use Rattle.cub_proto.specs.declared.transition.Transition.{Transition}
use Rattle.cub_proto.specs.declared.protocol.SortDecl.{SortDecl}
use Rattle.cub_proto.specs.declared.protocol.Decl.{Decl}
use Rattle.cub_proto.specs.declared.protocol.Goal.{Goal}
use Rattle.cub_proto.specs.declared.protocol.Protocol.{Protocol}
use Rattle.cub_proto.specs.Fits.{conjunction_fits, formula_fits, value_fits, branch_fits, update_width, update_fits_sort, update_fits, transition_fits, goal_fits, sort_decl_fits, global_fits, array_fits, sort_is_there, integer_side_fits, picks_process, targets_rise, compares_no_place}
use Rattle.cub_proto.specs.Signature.{target_sort, constructors_of, same_sort}
use Rattle.cub_proto.specs.StateOf.{signature_of}
use Rattle.cub_print.specs.Mark.{Mark, blank, line_feed, name, joined}
use Rattle.cub_print.specs.Mark.Mark.{word}
use Rattle.cub_print.specs.Terms.{place_name}
use Rattle.cub_print.specs.Printed.{and_marks, conjunction_marks, formula_marks, value_marks, target_marks, branch_marks, assigned_marks, update_marks, parameter_marks, grouped_marks, braced_marks, is_trivial, universal_marks, guard_marks, heading_marks, requires_marks, effect_marks, transition_marks, goal_marks, init_marks, sort_mark, bar_marks, type_marks, global_marks, array_marks, protocol_marks}
use Rattle.print_words.specs.Writable.{is_writable_conjunction, is_writable_formula, is_writable_update, is_writable_transition, is_writable}
use Rattle.print_words.proofs.Seams.{Lawful, lawful_on, Every, lawful_each}
use Rattle.print_words.proofs.NameFacts.{decl_named, globals_named, arrays_named, constructor_named, sort_named, declared_fit, place_named}
use Rattle.print_words.proofs.LawfulTerms.{lawful_joined, every_both, lawful_typed, lawful_process, lawful_integer, lawful_conjunction, lawful_formula}

either : (b : Bool) (x y : List Mark) → Lawful x → Lawful y → Lawful (if b then x else y)
either true x y h g = h
either false x y h g = g

-- parameters
places_below : (from n : ℕ) → from + n ≤ 5 → Every (λ place. place < 5) (range_with_len from n)
places_below from zero h = tt
places_below from (suc n) h = (omega arith, places_below (from + 1) n (omega arith))

lawful_parameters : (params : ℕ) → params ≤ 5 → Lawful (parameter_marks params)
lawful_parameters params few = (
  refl,
  lawful_on (joined (blank ∷ []) (λ place. name (place_name params place) ∷ []) (range_with_len 0 params)) (word k.ParenClose (codes ")") ∷ [])
      (lawful_joined (λ place. place < 5) (blank ∷ []) (λ place. name (place_name params place) ∷ []) (range_with_len 0 params) tt
      (λ place h. (place_named params place h, tt)) (places_below 0 params (omega arith))) (refl, tt),
)

lawful_grouped : (ms : List Mark) → Lawful ms → Lawful (grouped_marks ms)
lawful_grouped ms h = (refl, lawful_on ms (word k.ParenClose (codes ")") ∷ []) h (refl, tt))

lawful_braced : (ms : List Mark) → Lawful ms → Lawful (braced_marks ms)
lawful_braced ms h = (refl, lawful_on ms (blank ∷ word k.BraceClose (codes "}") ∷ []) h (refl, tt))

module _ (p : Protocol) (params : ℕ) (few : params ≤ 3) where
  width_is : (target : Target) → update_width params target ≤ 5
  width_is (targets.Global g) = omega arith
  width_is (targets.Array a) = omega arith

  lawful_target : (target : Target) (sort : Sort) → target_sort (signature_of p) target ≡ Some sort → Lawful (target_marks p params target)
  lawful_target (targets.Global g) sort is = (decl_named p.globals g (globals_named p) (rw is refl), tt)
  lawful_target (targets.Array a) sort is = (decl_named p.arrays a (arrays_named p) (rw is refl), (refl, (place_named params params (omega arith), (refl, tt))))

  lawful_value : (target : Target) (sort : Sort) → target_sort (signature_of p) target ≡ Some sort → (v : Value)
      → IsTrue (value_fits (signature_of p) (update_width params target) sort v) → Lawful (value_marks p params target v)
  lawful_value target (sorts.Fin j) is (values.Con c) h =
      (rw is (constructor_named p (sorts.Fin j) c (less_is c (constructors_of (signature_of p) (sorts.Fin j)) h)), tt)
  lawful_value target sorts.Proc is (values.Con c) h = absurd cc
  lawful_value target sorts.Int is (values.Con c) h = absurd cc
  lawful_value target (sorts.Fin j) is (values.Read t) h = lawful_typed p params (update_width params target) (width_is target) (sorts.Fin j) t h
  lawful_value target sorts.Proc is (values.Read t) h = absurd cc
  lawful_value target sorts.Int is (values.Read t) h = absurd cc
  lawful_value target (sorts.Fin j) is (values.Proc side) h = absurd cc
  lawful_value target sorts.Proc is (values.Proc side) h = lawful_process p params (update_width params target) (width_is target) side h
  lawful_value target sorts.Int is (values.Proc side) h = absurd cc
  lawful_value target (sorts.Fin j) is (values.Sum base add) h = absurd cc
  lawful_value target sorts.Proc is (values.Sum base add) h = absurd cc
  lawful_value target sorts.Int is (values.Sum base add) h =
      let fits = integer_side_fits (signature_of p) (update_width params target) base in
      let size = nat_le (unsigned_abs add) 1000000000 in
      lawful_integer p params (update_width params target) (width_is target) base add (and_left fits size h) (le_is (unsigned_abs add) 1000000000 (and_right fits size h))
  lawful_value target sort is values.Any h = (refl, tt)

  lawful_branch : (target : Target) (sort : Sort) → target_sort (signature_of p) target ≡ Some sort → (b : Branch)
      → IsTrue (branch_fits (signature_of p) (update_width params target) sort b) × IsTrue (is_writable_conjunction p b.cond) → Lawful (branch_marks p params target b)
  lawful_branch target sort is b h =
      let width = update_width params target in
      let cond_fits = conjunction_fits (signature_of p) width b.cond in
      let fits = value_fits (signature_of p) width sort b.value in
      let value = value_marks p params target b.value in
      let cond = conjunction_marks p params b.cond in
      let coloned = blank ∷ word k.Colon (codes ":") ∷ blank ∷ value in (
        refl,
        lawful_on (cond ++ coloned) (blank ∷ [])
            (lawful_on cond coloned (lawful_conjunction p params width (width_is target) b.cond (and_left cond_fits fits h.0) h.1)
            (refl, lawful_value target sort is b.value (and_right cond_fits fits h.0))) tt,
      )

  lawful_assigned : (u : Update) (sort : Sort) → target_sort (signature_of p) u.target ≡ Some sort → (bs : List Branch)
      → list_all (branch_fits (signature_of p) (update_width params u.target) sort) bs ≡ true → list_all (λ b. is_writable_conjunction p b.cond) bs ≡ true
      → IsTrue (value_fits (signature_of p) (update_width params u.target) sort u.last) → Lawful (assigned_marks p params u bs)
  lawful_assigned u sort is [] fits writable last = lawful_value u.target sort is u.last last
  lawful_assigned u sort is (b ∷ bs) fits writable last =
      let value = value_marks p params u.target u.last in (
        refl,
        lawful_on (flat_map (branch_marks p params u.target) (b ∷ bs)) (word k.Bar (codes "|") ∷ blank ∷ word k.Underscore (codes "_") ∷ blank ∷ word k.Colon (codes ":") ∷ blank ∷ value)
            (lawful_each (λ x. IsTrue (branch_fits (signature_of p) (update_width params u.target) sort x) × IsTrue (is_writable_conjunction p x.cond))
            (branch_marks p params u.target) (b ∷ bs) (lawful_branch u.target sort is)
            (every_both (branch_fits (signature_of p) (update_width params u.target) sort) (λ x. is_writable_conjunction p x.cond) (b ∷ bs) fits writable))
            (refl, (refl, (refl, lawful_value u.target sort is u.last last))),
      )

  lawful_update_of : (u : Update) (o : Option Sort) → target_sort (signature_of p) u.target ≡ o → IsTrue (update_fits_sort (signature_of p) (update_width params u.target) o u)
      → IsTrue (is_writable_update p u) → Lawful (update_marks p params u)
  lawful_update_of u None is fits writable = absurd cc
  lawful_update_of u (Some sort) is fits writable =
      let short = nat_le (length u.branches) 64 in
      let all = list_all (branch_fits (signature_of p) (update_width params u.target) sort) u.branches in
      let last = value_fits (signature_of p) (update_width params u.target) sort u.last in
      let assigned = assigned_marks p params u u.branches in
      let target = target_marks p params u.target in
      let set = blank ∷ word k.Assign (codes ":=") ∷ blank ∷ assigned in
      lawful_on (target ++ set) (word k.Semicolon (codes ";") ∷ blank ∷ [])
      (lawful_on target set (lawful_target u.target sort is)
      (refl, lawful_assigned u sort is u.branches (and_right short all (and_left (short && all) last fits)) writable (and_right (short && all) last fits))) (refl, tt)

  lawful_update : (u : Update) → IsTrue (update_fits (signature_of p) params u) × IsTrue (is_writable_update p u) → Lawful (update_marks p params u)
  lawful_update u h = lawful_update_of u (target_sort (signature_of p) u.target) refl h.0 h.1

  lawful_updates : (us : List Update) → list_all (update_fits (signature_of p) params) us ≡ true → list_all (is_writable_update p) us ≡ true → Lawful (flat_map (update_marks p params) us)
  lawful_updates us fits writable =
      lawful_each (λ u. IsTrue (update_fits (signature_of p) params u) × IsTrue (is_writable_update p u)) (update_marks p params) us lawful_update
      (every_both (update_fits (signature_of p) params) (is_writable_update p) us fits writable)

-- transitions
module _ (p : Protocol) (t : Transition) (fits : IsTrue (transition_fits (signature_of p) t)) (writable : IsTrue (is_writable_transition p t)) where
  abbrev named_ : Bool
  named_ = is_declarable t.name

  abbrev few_ : Bool
  few_ = nat_le (t.params + count_by (picks_process (signature_of p)) t.updates) 3

  abbrev guard_ : Bool
  guard_ = formula_fits (signature_of p) t.params t.guard

  abbrev others_ : Bool
  others_ = formula_fits (signature_of p) (t.params + 1) t.others

  abbrev updates_ : Bool
  updates_ = list_all (update_fits (signature_of p) t.params) t.updates

  front_fits : IsTrue ((((named_ && few_) && guard_) && others_) && updates_)
  front_fits = and_left ((((named_ && few_) && guard_) && others_) && updates_) (targets_rise t.updates) fits

  formulas_fit : IsTrue (((named_ && few_) && guard_) && others_)
  formulas_fit = and_left (((named_ && few_) && guard_) && others_) updates_ front_fits

  guard_fits : IsTrue ((named_ && few_) && guard_)
  guard_fits = and_left ((named_ && few_) && guard_) others_ formulas_fit

  heading_fits : IsTrue (named_ && few_)
  heading_fits = and_left (named_ && few_) guard_ guard_fits

  few_params : t.params ≤ 3
  few_params = omega (arith, le_is (t.params + count_by (picks_process (signature_of p)) t.updates) 3 (and_right named_ few_ heading_fits))

  conjunctions : (width : ℕ) (conjs : List (List Lit)) → IsTrue (formula_fits (signature_of p) width conjs) → list_all (conjunction_fits (signature_of p) width) conjs ≡ true
  conjunctions width conjs h = and_right (nat_le (length conjs) 64) (list_all (conjunction_fits (signature_of p) width) conjs) h

  formulas_writable : IsTrue (is_writable_formula p t.guard && is_writable_formula p t.others)
  formulas_writable = and_left (is_writable_formula p t.guard && is_writable_formula p t.others) (list_all (is_writable_update p) t.updates) writable

  lawful_own : Lawful (formula_marks p t.params t.guard)
  lawful_own = lawful_formula p t.params t.params (omega (arith, few_params)) t.guard (conjunctions t.params t.guard (and_right (named_ && few_) guard_ guard_fits))
      (and_left (is_writable_formula p t.guard) (is_writable_formula p t.others) formulas_writable)

  lawful_others : Lawful (formula_marks p t.params t.others)
  lawful_others = lawful_formula p t.params (t.params + 1) (omega (arith, few_params)) t.others
      (conjunctions (t.params + 1) t.others (and_right ((named_ && few_) && guard_) others_ formulas_fit))
      (and_right (is_writable_formula p t.guard) (is_writable_formula p t.others) formulas_writable)

  lawful_universal : Lawful (universal_marks p t)
  unfolding universal_marks
  lawful_universal = (refl, (refl, (refl, lawful_grouped (formula_marks p t.params t.others) lawful_others)))

  lawful_guard : Lawful (guard_marks p t)
  lawful_guard = either (is_trivial t.others) (formula_marks p t.params t.guard) (grouped_marks (formula_marks p t.params t.guard) ++ and_marks ++ universal_marks p t) lawful_own
      (lawful_on (grouped_marks (formula_marks p t.params t.guard) ++ and_marks) (universal_marks p t)
      (lawful_on (grouped_marks (formula_marks p t.params t.guard)) and_marks (lawful_grouped (formula_marks p t.params t.guard) lawful_own) (refl, tt)) lawful_universal)

  lawful_heading : Lawful (heading_marks t)
  unfolding heading_marks
  lawful_heading = (refl, (and_left named_ few_ heading_fits, lawful_on (parameter_marks t.params) (blank ∷ []) (lawful_parameters t.params (omega (arith, few_params))) tt))

  lawful_requires : Lawful (requires_marks p t)
  unfolding requires_marks
  lawful_requires = (refl, lawful_on (braced_marks (guard_marks p t)) (blank ∷ []) (lawful_braced (guard_marks p t) lawful_guard) tt)

  lawful_effect : Lawful (effect_marks p t)
  unfolding effect_marks
  lawful_effect = (
    refl,
    lawful_on (flat_map (update_marks p t.params) t.updates) (word k.BraceClose (codes "}") ∷ line_feed ∷ [])
        (lawful_updates p t.params few_params t.updates (and_right (((named_ && few_) && guard_) && others_) updates_ front_fits)
        (and_right (is_writable_formula p t.guard && is_writable_formula p t.others) (list_all (is_writable_update p) t.updates) writable)) (refl, tt),
  )

  lawful_transition : Lawful (transition_marks p t)
  lawful_transition = lawful_on (heading_marks t ++ requires_marks p t) (effect_marks p t) (lawful_on (heading_marks t) (requires_marks p t) lawful_heading lawful_requires) lawful_effect

-- goals, the start, declarations
module _ (p : Protocol) where
  lawful_goal : (g : Goal) → IsTrue (goal_fits (signature_of p) g) × IsTrue (is_writable_conjunction p g.lits) → Lawful (goal_marks p g)
  lawful_goal g h =
      let few = nat_le g.width 4 in
      let fits = conjunction_fits (signature_of p) g.width g.lits in
      let small : g.width ≤ 4 = le_is g.width 4 (and_left few fits h.0) in
      let lits = conjunction_marks p g.width g.lits in (
        refl,
        lawful_on (parameter_marks g.width ++ blank ∷ braced_marks lits) (line_feed ∷ [])
            (lawful_on (parameter_marks g.width) (blank ∷ braced_marks lits) (lawful_parameters g.width (omega arith))
            (lawful_braced lits (lawful_conjunction p g.width g.width (omega arith) g.lits (and_right few fits h.0) h.1))) tt,
      )

  lawful_init : IsTrue (is_writable_formula p p.start) → Lawful (init_marks p)
  lawful_init writable =
      let one = nat_le (length p.start) 1 in
      let fits = list_all (conjunction_fits (signature_of p) 1) p.start in
      let lits = formula_marks p 1 p.start in (
        refl,
        lawful_on (parameter_marks 1 ++ blank ∷ braced_marks lits) (line_feed ∷ [])
            (lawful_on (parameter_marks 1) (blank ∷ braced_marks lits) (lawful_parameters 1 (omega arith))
            (lawful_braced lits (lawful_formula p 1 1 (omega arith) p.start
            (and_right one fits (and_left (one && fits) (list_all (list_all compares_no_place) p.start) p.start_fits)) writable))) tt,
      )

  lawful_sort : (sort : Sort) (ms : List Mark) → IsTrue (sort_is_there p.sorts sort) → Lawful ms → Lawful (sort_mark p sort ∷ ms)
  lawful_sort (sorts.Fin j) ms there h = split (j == 0) refl
    where
      split : (bool : Bool) → (j == 0) ≡ bool
          → Lawful ((if bool then word k.BoolWord (codes "bool") else name (option_map_or (λ d. d.name) (slice_get p.sorts j) [])) ∷ ms)
      split true e = (refl, h)
      split false e = (sort_named p.sorts j p.sorts_fit e there, h)
  lawful_sort sorts.Proc ms there h = (refl, h)
  lawful_sort sorts.Int ms there h = (refl, h)

  lawful_type : (d : SortDecl) → IsTrue (sort_decl_fits d) → Lawful (type_marks d)
  lawful_type d h =
      let named = is_declarable d.name in
      let some = nat_lt 0 (length d.cons) in
      let few = nat_le (length d.cons) 64 in
      let names = list_all is_declarable d.cons in
      let heading : IsTrue ((named && some) && few) = and_left ((named && some) && few) names h in (
        refl,
        (
          and_left named some (and_left (named && some) few heading),
          (
            refl,
            lawful_on (joined bar_marks (λ c. name c ∷ []) d.cons) (line_feed ∷ [])
                (lawful_joined (λ c. IsTrue (is_declarable c)) bar_marks (λ c. name c ∷ []) d.cons (refl, tt) (λ c e. (e, tt)) (every_one d.cons (and_right ((named && some) && few) names h))) tt,
          ),
        ),
      )
    where
      every_one : (cs : List (List ℕ)) → list_all is_declarable cs ≡ true → Every (λ c. IsTrue (is_declarable c)) cs
      every_one [] e = tt
      every_one (c ∷ cs) e = (and_left (is_declarable c) (list_all is_declarable cs) e, every_one cs (and_right (is_declarable c) (list_all is_declarable cs) e))

  lawful_global : (d : Decl) → IsTrue (global_fits p.sorts d) → Lawful (global_marks p d)
  lawful_global d h =
      let named = is_declarable d.name in
      let there = sort_is_there p.sorts d.sort in
      (refl, (and_left named there h, (refl, lawful_sort d.sort (line_feed ∷ []) (and_right named there h) tt)))

  lawful_array : (d : Decl) → IsTrue (array_fits p.sorts d) → Lawful (array_marks p d)
  lawful_array d h =
      let named = is_declarable d.name in
      let there = sort_is_there p.sorts d.sort in
      let front : IsTrue (named && there) = and_left (named && there) (not (same_sort d.sort sorts.Proc)) h in
      (refl, (and_left named there front, (refl, (refl, (refl, (refl, lawful_sort d.sort (line_feed ∷ []) (and_right named there front) tt))))))

every_of : {A : Type 0} (test : A → Bool) (xs : List A) → list_all test xs ≡ true → Every (λ x. IsTrue (test x)) xs
every_of test [] h = tt
every_of test (x ∷ xs) h = (and_left (test x) (list_all test xs) h, every_of test xs (and_right (test x) (list_all test xs) h))

module _ (p : Protocol) (writable : IsTrue (is_writable p)) where
  abbrev start_ : Bool
  start_ = is_writable_formula p p.start

  abbrev goals_ : Bool
  goals_ = list_all (λ g. is_writable_conjunction p g.lits) p.goals

  abbrev transitions_ : Bool
  transitions_ = list_all (is_writable_transition p) p.transitions

  lawful_goals : Lawful (flat_map (goal_marks p) p.goals)
  lawful_goals = lawful_each (λ g. IsTrue (goal_fits (signature_of p) g) × IsTrue (is_writable_conjunction p g.lits)) (goal_marks p) p.goals (lawful_goal p)
      (every_both (goal_fits (signature_of p)) (λ g. is_writable_conjunction p g.lits) p.goals (from_all (goal_fits (signature_of p)) p.goals p.goals_fit)
      (and_right start_ goals_ (and_left (start_ && goals_) transitions_ writable)))

  lawful_transitions : Lawful (flat_map (transition_marks p) p.transitions)
  lawful_transitions = lawful_each (λ t. IsTrue (transition_fits (signature_of p) t) × IsTrue (is_writable_transition p t)) (transition_marks p) p.transitions
      (λ t h. lawful_transition p t h.0 h.1)
      (every_both (transition_fits (signature_of p)) (is_writable_transition p) p.transitions (from_all (transition_fits (signature_of p)) p.transitions p.transitions_fit)
      (and_right (start_ && goals_) transitions_ writable))

  pub lawful_protocol : Lawful (protocol_marks p)
  lawful_protocol =
      let types = flat_map type_marks (drop 1 p.sorts) in
      let globals = flat_map (global_marks p) p.globals in
      let arrays = flat_map (array_marks p) p.arrays in
      let goals = flat_map (goal_marks p) p.goals in
      lawful_on (types ++ globals ++ arrays ++ init_marks p ++ goals) (flat_map (transition_marks p) p.transitions)
      (lawful_on (types ++ globals ++ arrays ++ init_marks p) goals
      (lawful_on (types ++ globals ++ arrays) (init_marks p)
      (lawful_on (types ++ globals) arrays
      (lawful_on types globals
      (lawful_each (λ d. IsTrue (sort_decl_fits d)) type_marks (drop 1 p.sorts) (lawful_type p) (every_of sort_decl_fits (drop 1 p.sorts) (declared_fit p.sorts p.sorts_fit)))
      (lawful_each (λ d. IsTrue (global_fits p.sorts d)) (global_marks p) p.globals (lawful_global p) (every_of (global_fits p.sorts) p.globals (from_all (global_fits p.sorts) p.globals p.globals_fit))))
      (lawful_each (λ d. IsTrue (array_fits p.sorts d)) (array_marks p) p.arrays (lawful_array p) (every_of (array_fits p.sorts) p.arrays (from_all (array_fits p.sorts) p.arrays p.arrays_fit))))
      (lawful_init p (and_left start_ goals_ (and_left (start_ && goals_) transitions_ writable)))) lawful_goals) lawful_transitions
