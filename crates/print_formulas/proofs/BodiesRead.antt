-- The start formula and the goals of a printed protocol are read as themselves.
use Rattle.std.proofs.Common.{◌≡◌, ℕ, zero, suc, ◌+◌, ◌<◌, ◌≤◌, Bool, true, false, List, [], ◌∷◌, ◌++◌, length, map, take, refl, ap, ◌∙◌, arith}
use Rattle.std.specs.Prelude.{IsTrue, ◌&&◌, not, codes, nat_le, nat_lt, if◌then◌else◌, flat_map}
use Rattle.std.specs.List.{list_all}
use Rattle.cub_base.proofs.Bools.{and_left, and_right, and_both, less_is, le_is, is_le}
use Rattle.cub_base.proofs.Elements.{from_all}
use Rattle.cub_lexer.specs.declared.token.TokenKind.TheVariants as k
use Rattle.cub_parse.specs.declared.tree.RestNode.{RestNode}
use Rattle.cub_dnf.specs.declared.formula.Formula.{Formula}
use Rattle.cub_dnf.specs.Lists.{list_of}
use Rattle.cub_dnf.specs.Normal.{widest}
use Rattle.cub_names.specs.declared.fault.TypeKind.TheVariants as t
use Rattle.cub_names.specs.Checked.{fault, sound, refuse, beside, made, ◌>>=◌}
use Rattle.cub_names.specs.Meaning.{Frame}
use Rattle.cub_names.specs.Scope.{locals, locals_from}
use Rattle.cub_types.specs.Bodies.{normalized, start_tests, start, goal, counted, goal_tests, goals_at, goals_from, total_at, then_those, length_of}
use Rattle.cub_types.specs.Formulas.{form}
use Rattle.cub_proto.specs.declared.literal.Lit.{Lit}
use Rattle.cub_proto.specs.declared.protocol.Goal.{Goal}
use Rattle.cub_proto.specs.declared.protocol.Protocol.{Protocol}
use Rattle.cub_proto.specs.declared.transition.Transition.{Transition}
use Rattle.cub_proto.specs.Fits.{literal_fits, is_bounded, greatest_bound, conjunction_fits, goal_fits, compares_no_place, integers_in}
use Rattle.cub_proto.specs.StateOf.{signature_of}
use Rattle.cub_print.specs.Mark.{Mark, blank, line_feed}
use Rattle.cub_print.specs.Mark.Mark.{word}
use Rattle.cub_print.specs.Printed.{parameter_marks, braced_marks, conjunction_marks, formula_marks, goal_marks, init_marks, transition_marks}
use Rattle.print_laws.specs.Spot.{Spot, past, in_row}
use Rattle.print_laws.specs.TermTree.{conjunction_tree, formula_tree}
use Rattle.print_laws.specs.Tree.{parameter_names, named_body_tree, goal_tree, init_tree, transition_tree}
use Rattle.print_words.specs.Writable.{is_writable_literal, is_writable_conjunction, is_writable_formula}
use Rattle.print_words.proofs.Seams.{Every}
use Rattle.print_names.specs.Plain.{declares_plain_names}
use Rattle.print_names.proofs.Positions as positions
use Rattle.print_names.proofs.Positions.{at_left, at_right}
use Rattle.print_formulas.specs.Normal.{is_normal_literal, is_normal_conjunction, is_normal_formula}
use Rattle.print_formulas.proofs.SidesRead.{IsScope}
use Rattle.print_formulas.proofs.FormsRead.{is_read, conjunction_read, formula_read}
use Rattle.print_formulas.proofs.ScopeRead.{parameters_read, scope_read, locals_are, taken_are, none_variable}

-- ---- what is read of literals, from what the protocol keeps
module _ (p : Protocol) (width : ℕ) where
  abbrev kept : Lit → Bool
  kept l = literal_fits (signature_of p) width l && is_bounded greatest_bound l && is_writable_literal p l && is_normal_literal p l

  all_kept : (lits : List Lit) → list_all (literal_fits (signature_of p) width) lits ≡ true → list_all (is_bounded greatest_bound) lits ≡ true → list_all (is_writable_literal p) lits ≡ true
      → list_all (is_normal_literal p) lits ≡ true → list_all kept lits ≡ true
  all_kept [] a b c d = refl
  all_kept (l ∷ ls) a b c d =
      let fit = literal_fits (signature_of p) width l in
      let bounded = is_bounded greatest_bound l in
      let write = is_writable_literal p l in
      let normal = is_normal_literal p l in
      and_both (kept l) (list_all kept ls)
      (and_both (fit && bounded && write) normal
      (and_both (fit && bounded) write (and_both fit bounded (and_left fit (list_all (literal_fits (signature_of p) width) ls) a) (and_left bounded (list_all (is_bounded greatest_bound) ls) b))
      (and_left write (list_all (is_writable_literal p) ls) c)) (and_left normal (list_all (is_normal_literal p) ls) d))
      (all_kept ls (and_right fit (list_all (literal_fits (signature_of p) width) ls) a) (and_right bounded (list_all (is_bounded greatest_bound) ls) b)
      (and_right write (list_all (is_writable_literal p) ls) c) (and_right normal (list_all (is_normal_literal p) ls) d))

  -- elsewhere than in the start formula
  all_read : (lits : List Lit) → list_all kept lits ≡ true → list_all (is_read p width false) lits ≡ true
  all_read [] h = refl
  all_read (l ∷ ls) h =
      and_both (is_read p width false l) (list_all (is_read p width false) ls) (and_both (kept l) true (and_left (kept l) (list_all kept ls) h) refl) (all_read ls (and_right (kept l) (list_all kept ls) h))

  all_read_in_start : (lits : List Lit) → list_all kept lits ≡ true → list_all compares_no_place lits ≡ true → list_all (is_read p width true) lits ≡ true
  all_read_in_start [] h e = refl
  all_read_in_start (l ∷ ls) h e =
      let here : IsTrue (not (not (compares_no_place l))) = rw (and_left (compares_no_place l) (list_all compares_no_place ls) e) refl in
      and_both (is_read p width true l) (list_all (is_read p width true) ls) (and_both (kept l) (not (not (compares_no_place l))) (and_left (kept l) (list_all kept ls) h) here)
      (all_read_in_start ls (and_right (kept l) (list_all kept ls) h) (and_right (compares_no_place l) (list_all compares_no_place ls) e))

  pub conjunction_kept : (lits : List Lit) → IsTrue (conjunction_fits (signature_of p) width lits) → IsTrue (is_writable_conjunction p lits) → IsTrue (is_normal_conjunction p lits) → list_all kept lits ≡ true
  conjunction_kept lits fits write normal =
      let short = nat_le (length lits) 64 in
      let fit = list_all (literal_fits (signature_of p) width) lits in
      let bounded = list_all (is_bounded greatest_bound) lits in
      all_kept lits (and_right short fit (and_left (short && fit) bounded fits)) (and_right (short && fit) bounded fits) write normal

  pub goal_lits_read : (lits : List Lit) → IsTrue (conjunction_fits (signature_of p) width lits) → IsTrue (is_writable_conjunction p lits) → IsTrue (is_normal_conjunction p lits)
      → list_all (is_read p width false) lits ≡ true
  goal_lits_read lits fits write normal = all_read lits (conjunction_kept lits fits write normal)

  pub formula_lits_read : (conjs : List (List Lit)) → list_all (conjunction_fits (signature_of p) width) conjs ≡ true → IsTrue (is_writable_formula p conjs) → IsTrue (is_normal_formula p conjs)
      → list_all (list_all (is_read p width false)) conjs ≡ true
  formula_lits_read [] a b c = refl
  formula_lits_read (x ∷ xs) a b c =
      let fit = conjunction_fits (signature_of p) width x in
      let write = is_writable_conjunction p x in
      let normal = is_normal_conjunction p x in
      and_both (list_all (is_read p width false) x) (list_all (list_all (is_read p width false)) xs)
      (goal_lits_read x (and_left fit (list_all (conjunction_fits (signature_of p) width) xs) a) (and_left write (is_writable_formula p xs) b) (and_left normal (is_normal_formula p xs) c))
      (formula_lits_read xs (and_right fit (list_all (conjunction_fits (signature_of p) width) xs) a) (and_right write (is_writable_formula p xs) b) (and_right normal (is_normal_formula p xs) c))

  pub start_lits_read : (conjs : List (List Lit)) → list_all (conjunction_fits (signature_of p) width) conjs ≡ true → list_all (list_all compares_no_place) conjs ≡ true → IsTrue (is_writable_formula p conjs)
      → IsTrue (is_normal_formula p conjs) → list_all (list_all (is_read p width true)) conjs ≡ true
  start_lits_read [] a e b c = refl
  start_lits_read (x ∷ xs) a e b c =
      let fit = conjunction_fits (signature_of p) width x in
      let write = is_writable_conjunction p x in
      let normal = is_normal_conjunction p x in
      let alone = list_all compares_no_place x in
      and_both (list_all (is_read p width true) x) (list_all (list_all (is_read p width true)) xs)
      (all_read_in_start x (conjunction_kept x (and_left fit (list_all (conjunction_fits (signature_of p) width) xs) a) (and_left write (is_writable_formula p xs) b) (and_left normal (is_normal_formula p xs) c))
      (and_left alone (list_all (list_all compares_no_place) xs) e))
      (start_lits_read xs (and_right fit (list_all (conjunction_fits (signature_of p) width) xs) a) (and_right alone (list_all (list_all compares_no_place) xs) e)
      (and_right write (is_writable_formula p xs) b) (and_right normal (is_normal_formula p xs) c))

-- ---- limits
pub narrow : (p : Protocol) (width : ℕ) (conjs : List (List Lit)) → list_all (conjunction_fits (signature_of p) width) conjs ≡ true → widest conjs ≤ 64
narrow p width [] h = omega arith
narrow p width (x ∷ xs) h =
    let short = nat_le (length x) 64 in
    let fit = list_all (literal_fits (signature_of p) width) x in
    let bounded = list_all (is_bounded greatest_bound) x in
    let here : length x ≤ 64 = le_is (length x) 64 (and_left short fit (and_left (short && fit) bounded (and_left (conjunction_fits (signature_of p) width x) (list_all (conjunction_fits (signature_of p) width) xs) h))) in
    let others : widest xs ≤ 64 = narrow p width xs (and_right (conjunction_fits (signature_of p) width x) (list_all (conjunction_fits (signature_of p) width) xs) h) in
    omega arith

-- the normal form is the list, within the limits
pub normal_read : (p : Protocol) (token : ℕ) (formula : Formula) (conjs : List (List Lit)) → list_of (signature_of p) true formula ≡ conjs → length conjs ≤ 64 → widest conjs ≤ 64
    → normalized (signature_of p) token formula ≡ sound conjs
normal_read p token formula conjs is few thin =
    ap (λ list. if nat_le (length list) 64 && nat_le (widest list) 64 then sound list else refuse token t.T17) is
    ∙ ap (λ b. if b then sound conjs else refuse token t.T17) (and_both (nat_le (length conjs) 64) (nat_le (widest conjs) 64) (is_le (length conjs) 64 few) (is_le (widest conjs) 64 thin))

-- ---- positions of bodies
module _ (text : List ℕ) (params : ℕ) (ms : List Mark) (s : Spot) (at : positions.At text s (parameter_marks params ++ blank ∷ braced_marks ms ++ line_feed ∷ [])) where
  abbrev front_ : List Mark
  front_ = parameter_marks params ++ blank ∷ braced_marks ms

  pub body_names : positions.At text s (parameter_marks params)
  body_names = at_left text s (parameter_marks params) (blank ∷ braced_marks ms) (at_left text s front_ (line_feed ∷ []) at)

  abbrev inside_ : Spot
  inside_ = past (past (past s (parameter_marks params)) (blank ∷ [])) (word k.BraceOpen (codes "{") ∷ blank ∷ [])

  pub body_inside : positions.At text inside_ ms
  body_inside =
      let ending = blank ∷ word k.BraceClose (codes "}") ∷ [] in
      let here = past s (parameter_marks params) in
      let behind : positions.At text here (blank ∷ braced_marks ms) = at_right text s (parameter_marks params) (blank ∷ braced_marks ms) (at_left text s front_ (line_feed ∷ []) at) in
      let braced : positions.At text (past here (blank ∷ [])) (braced_marks ms) = at_right text here (blank ∷ []) (braced_marks ms) behind in
      at_left text inside_ ms ending (at_right text (past here (blank ∷ [])) (word k.BraceOpen (codes "{") ∷ blank ∷ []) (ms ++ ending) braced)

-- ---- the start formula
module _ (p : Protocol) (plain : IsTrue (declares_plain_names p)) (text : List ℕ) where
  abbrev its_ : Frame
  its_ = record { text = text; sig = signature_of p }

  pub start_read : (s : Spot) → positions.At text s (init_marks p) → IsTrue (is_writable_formula p p.start) → IsTrue (is_normal_formula p p.start) → start its_ (init_tree p s) ≡ sound p.start
  start_read s at write normal =
      let marks = formula_marks p 1 p.start in
      let front = word k.InitWord (codes "init") ∷ blank ∷ [] in
      let there = past s front in
      let body = parameter_marks 1 ++ blank ∷ braced_marks marks ++ line_feed ∷ [] in
      let at_body : positions.At text there body = at_right text s front body at in
      let names = parameter_names 1 there in
      let words = parameters_read text 1 there (body_names text 1 marks there at_body) in
      let inside = past (past (past there (parameter_marks 1)) (blank ∷ [])) (word k.BraceOpen (codes "{") ∷ blank ∷ []) in
      let node = formula_tree p 1 p.start inside in
      let token = (init_tree p s).close.number in
      let one = nat_le (length p.start) 1 in
      let fits = list_all (conjunction_fits (signature_of p) 1) p.start in
      let alone = list_all (list_all compares_no_place) p.start in
      let front_fits : IsTrue (one && fits) = and_left (one && fits) alone p.start_fits in
      let all_fit = and_right one fits front_fits in
      let few : length p.start ≤ 1 = le_is (length p.start) 1 (and_left one fits front_fits) in
      let scope = locals_from 0 names in
      let is_scope : IsScope text scope 1 1 = scope_read text 1 names (omega arith) words in
      let found = formula_read p plain text scope 1 1 is_scope true p.start (start_lits_read p 1 p.start all_fit (and_right (one && fits) alone p.start_fits) write normal) inside
      (body_inside text 1 marks there at_body) in
      let none = none_variable p plain text 1 1 names (omega arith) (omega arith) words in
      let single : nat_lt 1 (length p.start) ≡ false = not_above (length p.start) few in
      let wide = normal_read p token found.formula p.start found.list (omega (arith, few)) (narrow p 1 p.start all_fit) in
      ap (λ fs. beside fs (form true its_ (locals 1 names) node >>= λ formula. start_tests (signature_of p) token formula)) none
      ∙ ap (λ ls. beside [] (form true its_ ls node >>= λ formula. start_tests (signature_of p) token formula)) (locals_are text 1 1 names (omega arith) words)
      ∙ ap (λ c. beside [] (c >>= λ formula. start_tests (signature_of p) token formula)) found.is
      ∙ ap (λ list. beside (if nat_lt 1 (length list) then fault token t.T14 ∷ [] else []) (normalized (signature_of p) token found.formula)) found.list
      ∙ ap (λ b. beside (if b then fault token t.T14 ∷ [] else []) (normalized (signature_of p) token found.formula)) single
      ∙ ap (λ c. beside [] c) wide
    where
      not_above : (m : ℕ) → m ≤ 1 → nat_lt 1 m ≡ false
      not_above zero h = refl
      not_above (suc zero) h = refl
      not_above (suc (suc m)) h = absurd (omega arith)

  -- ---- goals
  count_is : (total : ℕ) → total < 4096 → counted total 1 ≡ total + 1
  count_is total h = omega arith

  not_more : (total : ℕ) → total < 4096 → nat_lt 4096 (counted total 1) ≡ false
  not_more total h = ap (λ m. nat_lt 4096 m) (count_is total h) ∙ above (total + 1) (omega arith)
    where
      above : (m : ℕ) → m ≤ 4096 → nat_lt 4096 m ≡ false
      above m few = split (nat_lt 4096 m) refl
        where
          split : (b : Bool) → nat_lt 4096 m ≡ b → nat_lt 4096 m ≡ false
          split true e = let more : 4096 < m = less_is 4096 m e in absurd (omega arith)
          split false e = e

  abbrev IsGoalKept : Goal → Type 0
  IsGoalKept g = IsTrue (goal_fits (signature_of p) g) × IsTrue (is_writable_conjunction p g.lits) × IsTrue (is_normal_conjunction p g.lits)

  goal_read : (g : Goal) → IsGoalKept g → (total : ℕ) → total < 4096 → (s : Spot) → positions.At text s (goal_marks p g)
      → (goals_at its_ total (goal_tree p g s) ≡ sound (g ∷ [])) × (total_at its_ total (goal_tree p g s) ≡ total + 1)
  goal_read g h total more s at =
      let marks = conjunction_marks p g.width g.lits in
      let front = word k.UnsafeWord (codes "unsafe") ∷ blank ∷ [] in
      let there = past s front in
      let body = parameter_marks g.width ++ blank ∷ braced_marks marks ++ line_feed ∷ [] in
      let at_body : positions.At text there body = at_right text s front body at in
      let names = parameter_names g.width there in
      let words = parameters_read text g.width there (body_names text g.width marks there at_body) in
      let inside = past (past (past there (parameter_marks g.width)) (blank ∷ [])) (word k.BraceOpen (codes "{") ∷ blank ∷ []) in
      let node = conjunction_tree p g.width g.lits inside in
      let tree = named_body_tree g.width marks (conjunction_tree p g.width g.lits) there in
      let token = tree.close.number in
      let narrow_ = nat_le g.width 4 in
      let fits = conjunction_fits (signature_of p) g.width g.lits in
      let width : g.width ≤ 4 = le_is g.width 4 (and_left narrow_ fits h.0) in
      let fit = and_right narrow_ fits h.0 in
      let scope = locals_from 0 names in
      let is_scope : IsScope text scope g.width g.width = scope_read text g.width names width words in
      let found = conjunction_read p plain text scope g.width g.width is_scope false g.lits (goal_lits_read p g.width g.lits fit h.1 h.2) inside (body_inside text g.width marks there at_body) in
      let none = none_variable p plain text 4 g.width names width width words in
      let local = locals_are text 4 g.width names width words in
      let sig = signature_of p in
      let W = length (take 4 names) in
      let all : list_all (conjunction_fits (signature_of p) g.width) (g.lits ∷ []) ≡ true = and_both fits true fit refl in
      let wide = normal_read p token found.formula (g.lits ∷ []) found.list (omega arith) (narrow p g.width (g.lits ∷ []) all) in (
        ap (λ fs. beside fs (form false its_ (locals 4 names) node >>= λ formula. goal_tests sig W token (counted total (length (list_of sig true formula))) formula)) none
            ∙ ap (λ ls. beside [] (form false its_ ls node >>= λ formula. goal_tests sig W token (counted total (length (list_of sig true formula))) formula)) local
            ∙ ap (λ c. beside [] (c >>= λ formula. goal_tests sig W token (counted total (length (list_of sig true formula))) formula)) found.is
            ∙ ap (λ list. beside (if nat_lt 4096 (counted total (length list)) then fault token t.T16 ∷ [] else []) (made (map (goal W)) (normalized sig token found.formula))) found.list
            ∙ ap (λ b. beside (if b then fault token t.T16 ∷ [] else []) (made (map (goal W)) (normalized sig token found.formula))) (not_more total more)
            ∙ ap (λ c. beside [] (made (map (goal W)) c)) wide
            ∙ ap (λ w. sound (goal w g.lits ∷ [])) (taken_are text 4 g.width names width words),
        ap (λ ls. counted total (length_of sig (form false its_ ls node).value)) local
            ∙ ap (λ c. counted total (length_of sig c.value)) found.is
            ∙ ap (λ list. counted total (length list)) found.list ∙ count_is total more,
      )

  goals_read : (gs : List Goal) → Every IsGoalKept gs → (total : ℕ) → total + length gs ≤ 4096 → (s : Spot) → positions.At text s (flat_map (goal_marks p) gs)
      → (others : List RestNode) → ((m : ℕ) → goals_from its_ m others ≡ sound []) → goals_from its_ total (in_row (goal_marks p) (goal_tree p) gs s ++ others) ≡ sound gs
  goals_read [] all total few s at others none = none total
  goals_read (g ∷ gs) all total few s at others none =
      let tail = flat_map (goal_marks p) gs in
      let rest = in_row (goal_marks p) (goal_tree p) gs (past s (goal_marks p g)) ++ others in
      let here = goal_read g all.0 total (omega arith) s (at_left text s (goal_marks p g) tail at) in
      let later : goals_from its_ (total + 1) rest ≡ sound gs = goals_read gs all.1 (total + 1) (omega arith) (past s (goal_marks p g)) (at_right text s (goal_marks p g) tail at) others none in
      ap (λ x. then_those x (goals_from its_ (total_at its_ total (goal_tree p g s)) rest)) here.0
      ∙ ap (λ m. then_those (sound (g ∷ [])) (goals_from its_ m rest)) here.1
      ∙ ap (λ x. then_those (sound (g ∷ [])) x) later

  no_goals : (ts : List Transition) (s : Spot) (total : ℕ) → goals_from its_ total (in_row (transition_marks p) (transition_tree p) ts s) ≡ sound []
  no_goals [] s total = refl
  no_goals (x ∷ xs) s total = ap (λ y. then_those (sound []) y) (no_goals xs (past s (transition_marks p x)) total)

  every_goal : (gs : List Goal) → list_all (goal_fits (signature_of p)) gs ≡ true → list_all (λ g. is_writable_conjunction p g.lits) gs ≡ true → list_all (λ g. is_normal_conjunction p g.lits) gs ≡ true
      → Every IsGoalKept gs
  every_goal [] a b c = tt
  every_goal (g ∷ gs) a b c =
      let fit = goal_fits (signature_of p) g in
      let write = is_writable_conjunction p g.lits in
      let normal = is_normal_conjunction p g.lits in (
        (and_left fit (list_all (goal_fits (signature_of p)) gs) a, and_left write (list_all (λ x. is_writable_conjunction p x.lits) gs) b, and_left normal (list_all (λ x. is_normal_conjunction p x.lits) gs) c),
        every_goal gs (and_right fit (list_all (goal_fits (signature_of p)) gs) a) (and_right write (list_all (λ x. is_writable_conjunction p x.lits) gs) b) (and_right normal (list_all (λ x. is_normal_conjunction p x.lits) gs) c),
      )

  few_goals : length p.goals ≤ 4096
  few_goals =
      let front = nat_le (length p.sorts) 257 && nat_le (length p.globals) 64 && nat_le (integers_in p.globals) 16 && nat_le (length p.arrays) 32 && nat_le (integers_in p.arrays) 8 in
      let goals = nat_le (length p.goals) 4096 in
      le_is (length p.goals) 4096 (and_right front goals (and_left (front && goals) (nat_le (length p.transitions) 256) p.few))

  pub all_goals_read : (s : Spot) → positions.At text s (flat_map (goal_marks p) p.goals) → list_all (λ g. is_writable_conjunction p g.lits) p.goals ≡ true
      → list_all (λ g. is_normal_conjunction p g.lits) p.goals ≡ true → (r : Spot)
      → goals_from its_ 0 (in_row (goal_marks p) (goal_tree p) p.goals s ++ in_row (transition_marks p) (transition_tree p) p.transitions r) ≡ sound p.goals
  all_goals_read s at write normal r =
      goals_read p.goals (every_goal p.goals (from_all (goal_fits (signature_of p)) p.goals p.goals_fit) write normal) 0 (omega (arith, few_goals)) s at
      (in_row (transition_marks p) (transition_tree p) p.transitions r) (no_goals p.transitions r)
