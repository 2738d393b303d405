-- The targets of a transition's updates rise, and the process globals that take any value are not too many.
use Rattle.std.proofs.Common.{◌≡◌, ℕ, zero, suc, ◌+◌, ◌≤◌, ◌<◌, Bool, true, false, List, [], ◌∷◌, ◌++◌, length, map, Option, Some, None, refl, sym, ap, ◌∙◌, subst, arith, nat_lt, cond, append_assoc}
use Rattle.std.specs.Prelude.{if◌then◌else◌, IfSome, ◌&&◌, ◌||◌, not, ◌==◌, unwrap_or, flat_map, find, count_by}
use Rattle.std.specs.List.{list_all, list_any, range_with_len}
use Rattle.std.proofs.lemmas.List.Folds.{list_all-append, list_any-append}
use Rattle.std.proofs.lemmas.List.Sums.{sum_by-append}
use Rattle.std.proofs.lemmas.Bool.Decides.{nat_tests}
use Rattle.cub_base.proofs.Bools.{and_left, and_right, and_both, is_less, same_is}
use Rattle.cub_parse.specs.declared.tree.Leaf.{Leaf}
use Rattle.cub_proto.specs.declared.literal.Sort.{Sort}
use Rattle.cub_proto.specs.declared.literal.Lit.{Lit}
use Rattle.cub_proto.specs.declared.literal.Value.{Value}
use Rattle.cub_proto.specs.declared.transition.Target.{Target}
use Rattle.cub_proto.specs.declared.transition.Branch.{Branch}
use Rattle.cub_proto.specs.declared.transition.Update.{Update}
use Rattle.cub_proto.specs.Signature.{Signature, declared_sort, is_sort}
use Rattle.cub_proto.specs.Fits.{is_any, picks_process, target_before, targets_rise}
use Rattle.cub_names.specs.Checked.{has_value}
use Rattle.cub_types.specs.declared.written.Aim.{Aim}
use Rattle.cub_types.specs.declared.written.Case.{Case}
use Rattle.cub_types.specs.declared.written.Written.{Written}
use Rattle.cub_types.specs.Writes as w
use Rattle.cub_types.specs.Joined as j
use Rattle.cub_types.proofs.FormFolds.{Each}
use Rattle.cub_types.proofs.UpdatesFit.{UpdateFits, is_plain, is_plain_case}
use Rattle.cub_types.proofs.JoinedFit.{KeptFits, sort_is, aimed}

-- each target is before those behind it
abbrev Rises : List Target → Type 0
Rises [] = Unit {0}
Rises (target ∷ ts) = (list_all (target_before target) ts ≡ true) × Rises ts

globals_behind : (g from n : ℕ) → g < from → list_all (target_before (Target.Global g)) (map Target.Global (range_with_len from n)) ≡ true
globals_behind g from zero h = refl
globals_behind g from (suc n) h =
    and_both (nat_lt g from) (list_all (target_before (Target.Global g)) (map Target.Global (range_with_len (from + 1) n))) (is_less g from h) (globals_behind g (from + 1) n (omega arith))

arrays_behind : (g : ℕ) (xs : List ℕ) → list_all (target_before (Target.Global g)) (map Target.Array xs) ≡ true
arrays_behind g [] = refl
arrays_behind g (x ∷ xs) = arrays_behind g xs

later_arrays : (a from n : ℕ) → a < from → list_all (target_before (Target.Array a)) (map Target.Array (range_with_len from n)) ≡ true
later_arrays a from zero h = refl
later_arrays a from (suc n) h =
    and_both (nat_lt a from) (list_all (target_before (Target.Array a)) (map Target.Array (range_with_len (from + 1) n))) (is_less a from h) (later_arrays a (from + 1) n (omega arith))

arrays_rise : (from n : ℕ) → Rises (map Target.Array (range_with_len from n))
arrays_rise from zero = tt
arrays_rise from (suc n) = (later_arrays from (from + 1) n (omega arith), arrays_rise (from + 1) n)

globals_rise : (from n m : ℕ) → Rises (map Target.Global (range_with_len from n) ++ map Target.Array (range_with_len 0 m))
globals_rise from zero m = arrays_rise 0 m
globals_rise from (suc n) m = (
  list_all-append (target_before (Target.Global from)) (map Target.Global (range_with_len (from + 1) n)) (map Target.Array (range_with_len 0 m))
      ∙ and_both (list_all (target_before (Target.Global from)) (map Target.Global (range_with_len (from + 1) n))) (list_all (target_before (Target.Global from)) (map Target.Array (range_with_len 0 m)))
      (globals_behind from (from + 1) n (omega arith)) (arrays_behind from (range_with_len 0 m)),
  globals_rise (from + 1) n m,
)

module _ (params : ℕ) (kept : List Written) where
  at_most_one : (p : Target → Bool) (target : Target) (found : Option Written) → p target ≡ true → list_all (λ u. p u.target) (j.update_from params target kept found) ≡ true
  at_most_one p target None h = refl
  at_most_one p target (Some x) h = and_both (p target) true h refl

  all_at : (p : Target → Bool) (ts : List Target) → list_all p ts ≡ true → list_all (λ u. p u.target) (flat_map (j.update_at params kept) ts) ≡ true
  all_at p [] h = refl
  all_at p (target ∷ ts) h =
      list_all-append (λ u. p u.target) (j.update_at params kept target) (flat_map (j.update_at params kept) ts)
      ∙ and_both (list_all (λ u. p u.target) (j.update_at params kept target)) (list_all (λ u. p u.target) (flat_map (j.update_at params kept) ts))
      (at_most_one p target (find (j.is_for target) kept) (and_left (p target) (list_all p ts) h)) (all_at p ts (and_right (p target) (list_all p ts) h))

  one_more : (target : Target) (found : Option Written) (us : List Update) → list_all (λ u. target_before target u.target) us ≡ true → targets_rise us ≡ true
      → targets_rise (j.update_from params target kept found ++ us) ≡ true
  one_more target None us h rise = rise
  one_more target (Some x) us h rise = and_both (list_all (λ u. target_before target u.target) us) (targets_rise us) h rise

  updates_rise : (ts : List Target) → Rises ts → targets_rise (flat_map (j.update_at params kept) ts) ≡ true
  updates_rise [] h = refl
  updates_rise (target ∷ ts) h =
      one_more target (find (j.is_for target) kept) (flat_map (j.update_at params kept) ts) (all_at (target_before target) ts h.0) (updates_rise ts h.1)

  pub rising : (sig : Signature) → targets_rise (j.updates_of sig params kept) ≡ true
  rising sig = updates_rise (j.targets sig) (globals_rise 0 (length sig.globals) (length sig.arrays))

-- how many of the numbers pass a test
abbrev passing : (ℕ → Bool) → List ℕ → ℕ
passing p [] = 0
passing p (x ∷ xs) = (if p x then 1 else 0) + passing p xs

either_by : (a b : Bool) → (if a || b then 1 else 0) ≤ (if a then 1 else 0) + (if b then 1 else 0)
either_by true true = omega arith
either_by true false = omega arith
either_by false true = omega arith
either_by false false = omega arith

passing_either : (p q : ℕ → Bool) (xs : List ℕ) → passing (λ n. p n || q n) xs ≤ passing p xs + passing q xs
passing_either p q [] = omega arith
passing_either p q (x ∷ xs) = omega (arith, either_by (p x) (q x), passing_either p q xs)

none_equal : (m from n : ℕ) → m < from → passing (λ x. m == x) (range_with_len from n) ≡ 0
none_equal m from zero h = refl
none_equal m from (suc n) h =
    let differ : (m == from) ≡ false = grind (arith, nat_tests) in
    ap (λ b. (if b then 1 else 0) + passing (λ x. m == x) (range_with_len (from + 1) n)) differ ∙ (let rest = none_equal m (from + 1) n (omega arith) in omega (arith, rest))

equal_once : (m from n : ℕ) → passing (λ x. m == x) (range_with_len from n) ≤ 1
equal_once m from zero = omega arith
equal_once m from (suc n) = by (m == from) refl (equal_once m (from + 1) n)
  where
    by : (b : Bool) → (m == from) ≡ b → passing (λ x. m == x) (range_with_len (from + 1) n) ≤ 1 → (if b then 1 else 0) + passing (λ x. m == x) (range_with_len (from + 1) n) ≤ 1
    by true is rest = let same = same_is m from is in omega (arith, none_equal m (from + 1) n (omega (arith, same)))
    by false is rest = omega (arith, rest)

none_among : (xs : List ℕ) → passing (j.is_among []) xs ≡ 0
none_among [] = refl
none_among (x ∷ xs) = omega (arith, none_among xs)

-- of the numbers of a range no more are in a list than it has
range_among : (taken : List ℕ) (from n : ℕ) → passing (j.is_among taken) (range_with_len from n) ≤ length taken
range_among [] from n = omega (arith, none_among (range_with_len from n))
range_among (m ∷ ms) from n =
    omega (arith, passing_either (λ x. m == x) (j.is_among ms) (range_with_len from n), equal_once m from n, range_among ms from n)

-- no value of these is any
plain_alternatives : (front : List Lit) (v : Value) (list : List (List Lit)) → is_any v ≡ false → list_any (λ (b : Branch). is_any b.value) (map (λ c. record { cond = front ++ c; value = v }) list) ≡ false
plain_alternatives front v [] h = refl
plain_alternatives front v (c ∷ cs) h = ap (λ b. b || list_any (λ (d : Branch). is_any d.value) (map (λ e. record { cond = front ++ e; value = v }) cs)) h ∙ plain_alternatives front v cs h

not_any : (v : Value) → not (is_any v) ≡ true → is_any v ≡ false
not_any (Value.Con c) h = refl
not_any (Value.Read term) h = refl
not_any (Value.Proc p) h = refl
not_any (Value.Sum base add) h = refl
not_any Value.Any h = cc

plain_case : (front : List Lit) (conds : Option (List (List Lit))) (value : Option Value) → has_value value ≡ true → is_plain value ≡ true
    → list_any (λ (b : Branch). is_any b.value) (map (λ c. record { cond = front ++ c; value = unwrap_or value Value.Any }) (unwrap_or conds [])) ≡ false
plain_case front conds None there h = cc
plain_case front conds (Some v) there h = plain_alternatives front v (unwrap_or conds []) (not_any v h)

neither : (a b : Bool) → a ≡ false → b ≡ false → (a || b) ≡ false
neither true b h k = cc
neither false b h k = k

plain_cases : (front : List Lit) (cases : List Case) → list_all w.is_whole_case cases ≡ true → list_all is_plain_case cases ≡ true → list_any (λ (b : Branch). is_any b.value) (flat_map (j.case_branches front) cases) ≡ false
plain_cases front [] whole h = refl
plain_cases front (c ∷ cs) whole h =
    list_any-append (λ (b : Branch). is_any b.value) (j.case_branches front c) (flat_map (j.case_branches front) cs)
    ∙ neither (list_any (λ (b : Branch). is_any b.value) (j.case_branches front c)) (list_any (λ (b : Branch). is_any b.value) (flat_map (j.case_branches front) cs))
    (plain_case front c.conds c.value (and_right (has_value c.conds) (has_value c.value) (and_left (w.is_whole_case c) (list_all w.is_whole_case cs) whole)) (and_left (is_plain_case c) (list_all is_plain_case cs) h))
    (plain_cases front cs (and_right (w.is_whole_case c) (list_all w.is_whole_case cs) whole) (and_right (is_plain_case c) (list_all is_plain_case cs) h))

plain_last : (last : Option Value) → has_value last ≡ true → is_plain last ≡ true → is_any (unwrap_or last Value.Any) ≡ false
plain_last None there h = cc
plain_last (Some v) there h = not_any v h

module _ (sig : Signature) (params : ℕ) (taken : List ℕ) where
  abbrev Kept : Written → Type 0
  Kept x = KeptFits sig params taken x

  -- an update of a process global that has a `?` takes any process
  unmarked_by : (g h : ℕ) (sort : Sort) (mark : Option Leaf) → (g == h) ≡ true → sort ≡ Sort.Proc → IfSome (j.taker (Some (Aim.Global h sort)) mark) (λ f. j.is_among taken f.0 ≡ true) → j.is_among taken g ≡ false → mark ≡ None
  unmarked_by g h Sort.Proc None same proc among none = refl
  unmarked_by g h Sort.Proc (Some mark) same proc among none = let is = same_is g h same in let e = subst (λ n. j.is_among taken n ≡ true) (sym is) among in cc
  unmarked_by g h (Sort.Fin n) mark same proc among none = cc
  unmarked_by g h Sort.Int mark same proc among none = cc

  -- so without one among those that are taken there is none
  unmarked : (g : ℕ) (found : Option Aim) (mark : Option Leaf) (x : Written) → is_sort (declared_sort sig.globals g) Sort.Proc ≡ true → j.is_among taken g ≡ false → j.is_aimed (Target.Global g) found ≡ true
      → IfSome found (UpdateFits sig params x.cases x.last) → IfSome (j.taker found mark) (λ f. j.is_among taken f.0 ≡ true) → (mark ≡ None) × ((last : Option Value) → j.last_of params found last ≡ unwrap_or last Value.Any) × (j.first_literals params found ≡ [])
  unmarked g None mark x proc none is fits among = cc
  unmarked g (Some (Aim.At a sort param)) mark x proc none is fits among = cc
  unmarked g (Some (Aim.Whole a sort)) mark x proc none is fits among = cc
  unmarked g (Some (Aim.Global h sort)) mark x proc none is fits among =
      let declared = (aimed sig params (Target.Global g) (Aim.Global h sort) is fits.aim_fits).0 in
      let process = sort_is (declared_sort sig.globals g) Sort.Proc proc in
      let same : sort ≡ Sort.Proc = (let e = sym declared ∙ process in cc) in
      (unmarked_by g h sort mark is same among none, λ last. refl, refl)

  module _ (g : ℕ) (proc : is_sort (declared_sort sig.globals g) Sort.Proc ≡ true) (none : j.is_among taken g ≡ false) where
    plain_for : (x : Written) → Kept x → j.is_for (Target.Global g) x ≡ true → (list_any (λ (b : Branch). is_any b.value) (j.branches_of params x) ≡ false) × (is_any (j.last_of params x.aim x.last) ≡ false)
    plain_for x h is =
        let free = unmarked g x.aim x.mark x proc none is h.fits.fits h.among in
        let plain = h.fits.plain free.0 in
        let front = and_left (has_value x.aim && list_all w.is_whole_case x.cases) (has_value x.last) h.whole in
        let whole = and_right (has_value x.aim) (list_all w.is_whole_case x.cases) front in
        let there = and_right (has_value x.aim && list_all w.is_whole_case x.cases) (has_value x.last) h.whole in (
          list_any-append (λ (b : Branch). is_any b.value) (flat_map (j.case_branches (j.first_literals params x.aim)) x.cases) (j.last_branches params x)
              ∙ neither (list_any (λ (b : Branch). is_any b.value) (flat_map (j.case_branches (j.first_literals params x.aim)) x.cases)) (list_any (λ (b : Branch). is_any b.value) (j.last_branches params x))
              (plain_cases (j.first_literals params x.aim) x.cases whole plain.0)
              (ap (λ lits. list_any (λ (b : Branch). is_any b.value) (map (λ l. record { cond = l ∷ []; value = unwrap_or x.last Value.Any }) lits)) free.2),
          ap is_any (free.1 x.last) ∙ plain_last x.last there plain.1,
        )

    branches_by : (x : Written) (b : Bool) → j.is_for (Target.Global g) x ≡ b → Kept x → list_any (λ (d : Branch). is_any d.value) (if b then j.branches_of params x else []) ≡ false
    branches_by x true is h = (plain_for x h is).0
    branches_by x false is h = refl

    plain_branches : (kept : List Written) → Each Kept kept → list_any (λ (b : Branch). is_any b.value) (j.branches_for params (Target.Global g) kept) ≡ false
    plain_branches [] h = refl
    plain_branches (x ∷ xs) h =
        let here = if j.is_for (Target.Global g) x then j.branches_of params x else [] in
        list_any-append (λ (b : Branch). is_any b.value) here (j.branches_for params (Target.Global g) xs)
        ∙ neither (list_any (λ (b : Branch). is_any b.value) here) (list_any (λ (b : Branch). is_any b.value) (j.branches_for params (Target.Global g) xs))
        (branches_by x (j.is_for (Target.Global g) x) refl h.0) (plain_branches xs h.1)

  module _ (kept : List Written) (all : Each (KeptFits sig params taken) kept)
      (found_fits : (target : Target) → IfSome (find (j.is_for target) kept) (λ y. KeptFits sig params taken y × (j.is_for target y ≡ true))) where
    no_pick : (g : ℕ) (x : Written) (b : Bool) → is_sort (declared_sort sig.globals g) Sort.Proc ≡ b → j.is_among taken g ≡ false → Kept x → j.is_for (Target.Global g) x ≡ true
        → (b && (is_any (j.last_of params x.aim x.last) || list_any (λ (d : Branch). is_any d.value) (j.branches_for params (Target.Global g) kept))) ≡ false
    no_pick g x true is none h for =
        neither (is_any (j.last_of params x.aim x.last)) (list_any (λ (d : Branch). is_any d.value) (j.branches_for params (Target.Global g) kept)) (plain_for g is none x h for).1 (plain_branches g is none kept all)
    no_pick g x false is none h for = refl

    one_pick : (g : ℕ) (u : Update) (b : Bool) → (b ≡ false → picks_process sig u ≡ false) → count_by (picks_process sig) (u ∷ []) ≤ (if b then 1 else 0)
    one_pick g u true never = by (picks_process sig u)
      where
        by : (c : Bool) → 0 + cond c 1 0 ≤ 1
        by true = omega arith
        by false = omega arith
    one_pick g u false never = let e = never refl in omega (arith, ap (λ c. 0 + cond c 1 0) e)

    picks_at : (g : ℕ) (found : Option Written) → IfSome found (λ y. KeptFits sig params taken y × (j.is_for (Target.Global g) y ≡ true))
        → count_by (picks_process sig) (j.update_from params (Target.Global g) kept found) ≤ (if j.is_among taken g then 1 else 0)
    picks_at g None h = omega arith
    picks_at g (Some x) h =
        one_pick g (record { target = Target.Global g; branches = j.branches_for params (Target.Global g) kept; last = j.last_of params x.aim x.last }) (j.is_among taken g)
        (λ none. no_pick g x (is_sort (declared_sort sig.globals g) Sort.Proc) refl none h.0 h.1)

    picks_among : (numbers : List ℕ) → count_by (picks_process sig) (flat_map (j.update_at params kept) (map Target.Global numbers)) ≤ passing (j.is_among taken) numbers
    picks_among [] = omega arith
    picks_among (g ∷ gs) =
        omega (
          arith,
          sum_by-append (λ u. cond (picks_process sig u) 1 0) (j.update_at params kept (Target.Global g)) (flat_map (j.update_at params kept) (map Target.Global gs)),
          picks_at g (find (j.is_for (Target.Global g)) kept) (found_fits (Target.Global g)),
          picks_among gs,
        )

    no_array_at : (a : ℕ) (found : Option Written) → is_sort (declared_sort sig.arrays a) Sort.Proc ≡ false → count_by (picks_process sig) (j.update_from params (Target.Array a) kept found) ≡ 0
    no_array_at a None h = refl
    no_array_at a (Some x) h =
        ap (λ b. 0 + cond (b && (is_any (j.last_of params x.aim x.last) || list_any (λ (d : Branch). is_any d.value) (j.branches_for params (Target.Array a) kept))) 1 0) h

    no_arrays : (numbers : List ℕ) → ((a : ℕ) → is_sort (declared_sort sig.arrays a) Sort.Proc ≡ false) → count_by (picks_process sig) (flat_map (j.update_at params kept) (map Target.Array numbers)) ≡ 0
    no_arrays [] h = refl
    no_arrays (a ∷ cs) h =
        omega (
          arith,
          sum_by-append (λ u. cond (picks_process sig u) 1 0) (j.update_at params kept (Target.Array a)) (flat_map (j.update_at params kept) (map Target.Array cs)),
          no_array_at a (find (j.is_for (Target.Array a)) kept) (h a),
          no_arrays cs h,
        )

    flat_append : {A B : Type 0} (f : A → List B) (xs ys : List A) → flat_map f (xs ++ ys) ≡ flat_map f xs ++ flat_map f ys
    flat_append f [] ys = refl
    flat_append f (x ∷ xs) ys = ap (λ zs. f x ++ zs) (flat_append f xs ys) ∙ sym (append_assoc (f x) (flat_map f xs) (flat_map f ys))

    -- the process globals that take any value are among those that were counted
    pub few_picks : ((a : ℕ) → is_sort (declared_sort sig.arrays a) Sort.Proc ≡ false) → count_by (picks_process sig) (j.updates_of sig params kept) ≤ length taken
    few_picks h =
        let gs = range_with_len 0 (length sig.globals) in
        let cs = range_with_len 0 (length sig.arrays) in
        let own = flat_map (j.update_at params kept) (map Target.Global gs) in
        let others = flat_map (j.update_at params kept) (map Target.Array cs) in
        omega (
          arith,
          ap (count_by (picks_process sig)) (flat_append (j.update_at params kept) (map Target.Global gs) (map Target.Array cs)),
          sum_by-append (λ u. cond (picks_process sig u) 1 0) own others,
          picks_among gs,
          no_arrays cs h,
          range_among taken 0 (length sig.globals),
        )
