-- What a printed update is read as, and what the list of a target takes from it.
use Rattle.std.proofs.Common.{◌≡◌, ℕ, ◌<◌, ◌≤◌, Bool, true, false, List, [], ◌∷◌, ◌++◌, length, map, Option, Some, None, refl, sym, ap, subst, ◌∙◌, arith, cond}
use Rattle.std.specs.Prelude.{◌&&◌, ◌==◌, nat_lt, unwrap_or, flat_map}
use Rattle.std.specs.List.{list_all}
use Rattle.std.proofs.lemmas.List.{append-nil}
use Rattle.std.proofs.lemmas.Bool.Decides.{nat_tests}
use Rattle.cub_base.proofs.Bools.{and_both, less_is, is_less}
use Rattle.cub_parse.specs.declared.tree.Leaf.{Leaf}
use Rattle.cub_proto.specs.declared.literal.Sort.{Sort}
use Rattle.cub_proto.specs.declared.literal.Lit.{Lit}
use Rattle.cub_proto.specs.declared.literal.Value.{Value}
use Rattle.cub_proto.specs.declared.transition.Target.{Target}
use Rattle.cub_proto.specs.declared.transition.Branch.{Branch}
use Rattle.cub_proto.specs.declared.transition.Update.{Update}
use Rattle.cub_proto.specs.Signature.{Signature, is_sort, same_sort, target_sort}
use Rattle.cub_proto.specs.Effect.{same_target}
use Rattle.cub_proto.specs.Fits.{takes_any, picks_process, target_before}
use Rattle.cub_names.specs.Checked.{has_value}
use Rattle.cub_types.specs.declared.written.Written.{Written}
use Rattle.cub_types.specs.Writes.{is_whole_case, is_whole}
use Rattle.cub_types.specs.Joined.{taker, taker_of, is_aimed, is_for, first_literals, case_branches, branches_of, last_of, cases_count, branch_count}
use Rattle.print_transitions.proofs.UpdatesRead.{aimed, case_made}

-- the update is read as what it was printed from, and is short enough
pub record IsReadAs (sig : Signature) (w : Written) (u : Update) : Type 0 where
  pub sort : Sort
  pub sorted : target_sort sig u.target ≡ Some sort
  pub aim : w.aim ≡ Some (aimed u.target sort)
  pub cases : w.cases ≡ map case_made u.branches
  pub last : w.last ≡ Some u.last
  pub marked : has_value w.mark ≡ takes_any u
  pub short : length u.branches ≤ 64

-- ---- targets
differs : (m n : ℕ) → nat_lt m n ≡ true → (m == n) ≡ false
differs m n h = let below : m < n = less_is m n h in grind (arith, nat_tests)

differs_back : (m n : ℕ) → nat_lt m n ≡ true → (n == m) ≡ false
differs_back m n h = let below : m < n = less_is m n h in grind (arith, nat_tests)

pub before_differs : (a b : Target) → target_before a b ≡ true → same_target a b ≡ false
before_differs (Target.Global g) (Target.Global h) e = differs g h e
before_differs (Target.Global g) (Target.Array b) e = refl
before_differs (Target.Array a) (Target.Global h) e = refl
before_differs (Target.Array a) (Target.Array b) e = differs a b e

pub after_differs : (a b : Target) → target_before a b ≡ true → same_target b a ≡ false
after_differs (Target.Global g) (Target.Global h) e = differs_back g h e
after_differs (Target.Global g) (Target.Array b) e = refl
after_differs (Target.Array a) (Target.Global h) e = refl
after_differs (Target.Array a) (Target.Array b) e = differs_back a b e

pub before_further : (a b c : Target) → target_before a b ≡ true → target_before b c ≡ true → target_before a c ≡ true
before_further (Target.Global g) (Target.Global h) (Target.Global k) e f = is_less g k (omega (arith, less_is g h e, less_is h k f))
before_further (Target.Global g) (Target.Global h) (Target.Array c) e f = refl
before_further (Target.Global g) (Target.Array b) (Target.Global k) e f = cc
before_further (Target.Global g) (Target.Array b) (Target.Array c) e f = refl
before_further (Target.Array a) (Target.Global h) c e f = cc
before_further (Target.Array a) (Target.Array b) (Target.Global k) e f = cc
before_further (Target.Array a) (Target.Array b) (Target.Array c) e f = is_less a c (omega (arith, less_is a b e, less_is b c f))

aimed_at : (t u : Target) (sort : Sort) → is_aimed t (Some (aimed u sort)) ≡ same_target t u
aimed_at (Target.Global g) (Target.Global h) sort = refl
aimed_at (Target.Global g) (Target.Array b) sort = refl
aimed_at (Target.Array a) (Target.Global h) sort = refl
aimed_at (Target.Array a) (Target.Array b) sort = refl

-- ---- branches
no_first : (params : ℕ) (target : Target) (sort : Sort) → first_literals params (Some (aimed target sort)) ≡ []
no_first params (Target.Global g) sort = refl
no_first params (Target.Array a) sort = refl

last_at : (params : ℕ) (target : Target) (sort : Sort) (last : Option Value) → last_of params (Some (aimed target sort)) last ≡ unwrap_or last Value.Any
last_at params (Target.Global g) sort last = refl
last_at params (Target.Array a) sort last = refl

branches_back : (bs : List Branch) → flat_map (case_branches []) (map case_made bs) ≡ bs
branches_back [] = refl
branches_back (b ∷ bs) = ap (λ cs. b ∷ cs) (branches_back bs)

counted : (bs : List Branch) → cases_count (map case_made bs) ≡ length bs
counted [] = refl
counted (b ∷ bs) = omega (arith, counted bs)

all_whole : (bs : List Branch) → list_all is_whole_case (map case_made bs) ≡ true
all_whole [] = refl
all_whole (b ∷ bs) = all_whole bs

module _ (sig : Signature) (params : ℕ) (w : Written) (u : Update) (is : IsReadAs sig w u) where
  pub is_for_is : (t : Target) → is_for t w ≡ same_target t u.target
  is_for_is t = ap (is_aimed t) is.aim ∙ aimed_at t u.target is.sort

  firsts : first_literals params w.aim ≡ []
  firsts = ap (first_literals params) is.aim ∙ no_first params u.target is.sort

  abbrev with_firsts : List Lit → List Branch
  with_firsts lits = flat_map (case_branches lits) w.cases ++ map (λ l. record { cond = l ∷ []; value = unwrap_or w.last Value.Any }) lits

  pub own_branches : branches_of params w ≡ u.branches
  own_branches =
      ap with_firsts firsts ∙ append-nil (flat_map (case_branches []) w.cases)
      ∙ ap (λ cs. flat_map (case_branches []) cs) is.cases ∙ branches_back u.branches

  pub own_last : last_of params w.aim w.last ≡ u.last
  own_last = ap (λ a. last_of params a w.last) is.aim ∙ last_at params u.target is.sort w.last ∙ ap (λ l. unwrap_or l Value.Any) is.last

  pub own_count : branch_count params w ≡ length u.branches
  own_count =
      let lits : length (first_literals params w.aim) ≡ 0 = ap (λ ls. length ls) firsts in
      let cases : cases_count w.cases ≡ length u.branches = ap cases_count is.cases ∙ counted u.branches in
      omega (arith, lits, cases)

  pub nothing_refused : is_whole w ≡ true
  nothing_refused =
      let aim : has_value w.aim ≡ true = ap (λ a. has_value a) is.aim in
      let cases : list_all is_whole_case w.cases ≡ true = ap (list_all is_whole_case) is.cases ∙ all_whole u.branches in
      let last : has_value w.last ≡ true = ap (λ l. has_value l) is.last in
      and_both (has_value w.aim && list_all is_whole_case w.cases) (has_value w.last) (and_both (has_value w.aim) (list_all is_whole_case w.cases) aim cases) last

  -- a process global that takes any value is one of those that the transition counts
  pub few_takers : cond (has_value (taker_of w)) 1 0 ≤ cond (picks_process sig u) 1 0
  few_takers =
      subst (λ a. cond (has_value (taker a w.mark)) 1 0 ≤ cond (picks_process sig u) 1 0) (sym is.aim)
      (subst (λ s. cond (has_value (taker (Some (aimed u.target is.sort)) w.mark)) 1 0 ≤ cond (is_sort s Sort.Proc && takes_any u) 1 0) (sym is.sorted) (by u.target is.sort w.mark (takes_any u) is.marked))
    where
      by : (target : Target) (sort : Sort) (mark : Option Leaf) (any : Bool) → has_value mark ≡ any → cond (has_value (taker (Some (aimed target sort)) mark)) 1 0 ≤ cond (same_sort sort Sort.Proc && any) 1 0
      by (Target.Global g) Sort.Proc None any h = omega arith
      by (Target.Global g) Sort.Proc (Some mark) any h = subst (λ b. 1 ≤ cond b 1 0) h (omega arith)
      by (Target.Global g) (Sort.Fin k) None any h = omega arith
      by (Target.Global g) (Sort.Fin k) (Some mark) any h = omega arith
      by (Target.Global g) Sort.Int None any h = omega arith
      by (Target.Global g) Sort.Int (Some mark) any h = omega arith
      by (Target.Array a) sort mark any h = omega arith
