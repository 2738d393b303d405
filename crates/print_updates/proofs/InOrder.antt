-- Of updates that are read as what they were printed from, each target has its own again, in order, and none is too long.
use Rattle.std.proofs.Common.{◌≡◌, ℕ, zero, suc, ◌+◌, ◌<◌, ◌≤◌, Bool, true, false, List, [], ◌∷◌, ◌++◌, length, map, Option, Some, None, refl, sym, ap, subst, ◌∙◌, arith, cond}
use Rattle.std.specs.Prelude.{◌&&◌, ◌||◌, ◌==◌, nat_lt, if◌then◌else◌, find, flat_map}
use Rattle.std.specs.List.{AllZip, list_all, list_any, range_with_len}
use Rattle.std.proofs.lemmas.List.{append-nil}
use Rattle.std.proofs.lemmas.List.Folds.{list_all-append, list_any-append}
use Rattle.std.proofs.lemmas.Bool.Decides.{nat_tests}
use Rattle.cub_base.proofs.Bools.{and_left, and_right, and_both, is_less, less_is, or_intro_left, or_intro_right}
use Rattle.cub_proto.specs.declared.literal.Sort.{Sort}
use Rattle.cub_proto.specs.declared.literal.Value.{Value}
use Rattle.cub_proto.specs.declared.transition.Target.{Target}
use Rattle.cub_proto.specs.declared.transition.Branch.{Branch}
use Rattle.cub_proto.specs.declared.transition.Update.{Update}
use Rattle.cub_proto.specs.declared.protocol.Decl.{Decl}
use Rattle.cub_proto.specs.Signature.{Signature, declared_sort, target_sort}
use Rattle.cub_proto.specs.Effect.{same_target}
use Rattle.cub_proto.specs.Fits.{target_before, targets_rise}
use Rattle.cub_proto.proofs.Targets.{target_is}
use Rattle.cub_names.specs.declared.fault.TypeKind.TheVariants as kinds
use Rattle.cub_names.specs.Checked.{fault}
use Rattle.cub_types.specs.declared.written.Written.{Written}
use Rattle.cub_types.specs.Joined.{is_for, branches_of, branches_for, last_of, update_from, update_at, targets, updates_of, branch_count, over_from, long_faults, is_refused_case}
use Rattle.print_words.proofs.Seams.{Every}
use Rattle.print_updates.proofs.Wrote.{IsReadAs, before_differs, after_differs, before_further, is_for_is, own_branches, own_last, own_count}

-- ---- the targets of a signature
-- each target is before those behind it
abbrev Rise : List Target → Type 0
Rise [] = Unit {0}
Rise (t ∷ ts) = (list_all (target_before t) ts ≡ true) × Rise ts

globals_behind : (g from n : ℕ) → g < from → list_all (target_before (Target.Global g)) (map Target.Global (range_with_len from n)) ≡ true
globals_behind g from zero h = refl
globals_behind g from (suc n) h =
    and_both (nat_lt g from) (list_all (target_before (Target.Global g)) (map Target.Global (range_with_len (from + 1) n))) (is_less g from h) (globals_behind g (from + 1) n (omega arith))

arrays_behind : (g : ℕ) (xs : List ℕ) → list_all (target_before (Target.Global g)) (map Target.Array xs) ≡ true
arrays_behind g [] = refl
arrays_behind g (x ∷ xs) = arrays_behind g xs

later_arrays : (a from n : ℕ) → a < from → list_all (target_before (Target.Array a)) (map Target.Array (range_with_len from n)) ≡ true
later_arrays a from zero h = refl
later_arrays a from (suc n) h =
    and_both (nat_lt a from) (list_all (target_before (Target.Array a)) (map Target.Array (range_with_len (from + 1) n))) (is_less a from h) (later_arrays a (from + 1) n (omega arith))

arrays_rise : (from n : ℕ) → Rise (map Target.Array (range_with_len from n))
arrays_rise from zero = tt
arrays_rise from (suc n) = (later_arrays from (from + 1) n (omega arith), arrays_rise (from + 1) n)

all_rise : (from n m : ℕ) → Rise (map Target.Global (range_with_len from n) ++ map Target.Array (range_with_len 0 m))
all_rise from zero m = arrays_rise 0 m
all_rise from (suc n) m =
    let globals = map Target.Global (range_with_len (from + 1) n) in
    let arrays = map Target.Array (range_with_len 0 m) in (
      list_all-append (target_before (Target.Global from)) globals arrays
          ∙ and_both (list_all (target_before (Target.Global from)) globals) (list_all (target_before (Target.Global from)) arrays) (globals_behind from (from + 1) n (omega arith)) (arrays_behind from (range_with_len 0 m)),
      all_rise (from + 1) n m,
    )

abbrev is_in : List Target → Target → Bool
is_in ts t = list_any (λ x. same_target x t) ts

-- the numbers of a range
in_range : (kind : ℕ → Target) → ((m n : ℕ) → same_target (kind m) (kind n) ≡ (m == n)) → (k from n : ℕ) → from ≤ k → k < from + n → is_in (map kind (range_with_len from n)) (kind k) ≡ true
in_range kind same k from zero low high = absurd (omega arith)
in_range kind same k from (suc n) low high = split (from == k) refl (λ more. in_range kind same k (from + 1) n more (omega arith))
  where
    split : (b : Bool) → (from == k) ≡ b → (from + 1 ≤ k → is_in (map kind (range_with_len (from + 1) n)) (kind k) ≡ true) → is_in (map kind (range_with_len from (suc n))) (kind k) ≡ true
    split true e later = or_intro_left (same_target (kind from) (kind k)) (is_in (map kind (range_with_len (from + 1) n)) (kind k)) (same from k ∙ e)
    split false e later =
        let more : from + 1 ≤ k = grind (arith, nat_tests) in
        or_intro_right (same_target (kind from) (kind k)) (is_in (map kind (range_with_len (from + 1) n)) (kind k)) (later more)

within : (decls : List Decl) (n : ℕ) (sort : Sort) → declared_sort decls n ≡ Some sort → n < length decls
within [] n sort h = absurd (let e : None ≡ Some sort = h in cc)
within (d ∷ ds) zero sort h = omega arith
within (d ∷ ds) (suc n) sort h = omega (arith, within ds n sort h)

target_there : (sig : Signature) (t : Target) (sort : Sort) → target_sort sig t ≡ Some sort → is_in (targets sig) t ≡ true
target_there sig (Target.Global g) sort h =
    let globals = map Target.Global (range_with_len 0 (length sig.globals)) in
    let arrays = map Target.Array (range_with_len 0 (length sig.arrays)) in
    let low : 0 ≤ g = omega arith in
    let high : g < 0 + length sig.globals = omega (arith, within sig.globals g sort h) in
    list_any-append (λ x. same_target x (Target.Global g)) globals arrays
    ∙ or_intro_left (is_in globals (Target.Global g)) (is_in arrays (Target.Global g)) (in_range Target.Global (λ m n. refl) g 0 (length sig.globals) low high)
target_there sig (Target.Array a) sort h =
    let globals = map Target.Global (range_with_len 0 (length sig.globals)) in
    let arrays = map Target.Array (range_with_len 0 (length sig.arrays)) in
    let low : 0 ≤ a = omega arith in
    let high : a < 0 + length sig.arrays = omega (arith, within sig.arrays a sort h) in
    list_any-append (λ x. same_target x (Target.Array a)) globals arrays
    ∙ or_intro_right (is_in globals (Target.Array a)) (is_in arrays (Target.Array a)) (in_range Target.Array (λ m n. refl) a 0 (length sig.arrays) low high)

-- ---- updates behind a target
abbrev AreBehind : Target → List Update → Type 0
AreBehind t us = list_all (λ v. target_before t v.target) us ≡ true

behind_further : (a b : Target) (us : List Update) → target_before a b ≡ true → AreBehind b us → AreBehind a us
behind_further a b [] e h = refl
behind_further a b (u ∷ us) e h =
    let here = target_before b u.target in
    let others = list_all (λ v. target_before b v.target) us in
    and_both (target_before a u.target) (list_all (λ v. target_before a v.target) us) (before_further a b u.target e (and_left here others h)) (behind_further a b us e (and_right here others h))

-- they are among the other targets
still_in : (t : Target) (ts : List Target) (us : List Update) → AreBehind t us → list_all (λ u. is_in (t ∷ ts) u.target) us ≡ true → list_all (λ u. is_in ts u.target) us ≡ true
still_in t ts [] behind there = refl
still_in t ts (u ∷ us) behind there =
    let here = target_before t u.target in
    let others = list_all (λ v. target_before t v.target) us in
    let among = is_in (t ∷ ts) u.target in
    let all = list_all (λ v. is_in (t ∷ ts) v.target) us in
    let apart : same_target t u.target ≡ false = before_differs t u.target (and_left here others behind) in
    let in_tail : is_in ts u.target ≡ true = sym (ap (λ b. b || is_in ts u.target) apart) ∙ and_left among all there in
    and_both (is_in ts u.target) (list_all (λ v. is_in ts v.target) us) in_tail (still_in t ts us (and_right here others behind) (and_right among all there))

member_behind : (t : Target) (xs : List Target) (y : Target) → list_all (target_before t) xs ≡ true → is_in xs y ≡ true → target_before t y ≡ true
member_behind t [] y all h = cc
member_behind t (x ∷ xs) y all h = split (same_target x y) refl (λ later. member_behind t xs y (and_right (target_before t x) (list_all (target_before t) xs) all) later)
  where
    split : (b : Bool) → same_target x y ≡ b → (is_in xs y ≡ true → target_before t y ≡ true) → target_before t y ≡ true
    split true e later = subst (λ z. target_before t z ≡ true) (target_is x y e) (and_left (target_before t x) (list_all (target_before t) xs) all)
    split false e later = later (sym (ap (λ b. b || is_in xs y) e) ∙ h)

module _ (sig : Signature) (params : ℕ) where
  -- ---- a target that none of the updates has
  abbrev HaveOthers : Target → List Written → Type 0
  HaveOthers t kept = Every (λ w. is_for t w ≡ false) kept

  others : (t : Target) (kept : List Written) (us : List Update) → AllZip (IsReadAs sig) kept us → AreBehind t us → HaveOthers t kept
  others t [] [] z h = tt
  others t [] (u ∷ us) z h = absurd z
  others t (w ∷ ws) [] z h = absurd z
  others t (w ∷ ws) (u ∷ us) z h =
      let here = target_before t u.target in
      let later = list_all (λ v. target_before t v.target) us in (
        is_for_is sig params w u z.0 t ∙ before_differs t u.target (and_left here later h),
        others t ws us z.1 (and_right here later h),
      )

  none_found : (t : Target) (kept : List Written) → HaveOthers t kept → find (is_for t) kept ≡ None
  none_found t [] h = refl
  none_found t (w ∷ ws) h = ap (λ b. cond b (Some w) (find (is_for t) ws)) h.0 ∙ none_found t ws h.1

  no_branches : (t : Target) (kept : List Written) → HaveOthers t kept → branches_for params t kept ≡ []
  no_branches t [] h = refl
  no_branches t (w ∷ ws) h = ap (λ b. (if b then branches_of params w else []) ++ branches_for params t ws) h.0 ∙ no_branches t ws h.1

  none_over : (t : Target) (kept : List Written) → HaveOthers t kept → (total : ℕ) → over_from params t total kept ≡ []
  none_over t [] h total = refl
  none_over t (w ∷ ws) h total =
      ap (λ b. if b then (if nat_lt 64 (total + branch_count params w) then fault w.token kinds.T17 ∷ [] else over_from params t (total + branch_count params w) ws) else over_from params t total ws) h.0
      ∙ none_over t ws h.1 total

  no_update : (t : Target) (kept : List Written) → HaveOthers t kept → update_at params kept t ≡ []
  no_update t kept h = ap (update_from params t kept) (none_found t kept h)

  -- ---- an update in front
  abbrev made : Target → List Branch → Value → List Update
  made t branches last = record { target = t; branches = branches; last = last } ∷ []

  skipped : (t : Target) (w : Written) (ws : List Written) → is_for t w ≡ false → update_at params (w ∷ ws) t ≡ update_at params ws t
  skipped t w ws e = ap (λ b. update_from params t (w ∷ ws) (cond b (Some w) (find (is_for t) ws))) e ∙ by (find (is_for t) ws)
    where
      by : (found : Option Written) → update_from params t (w ∷ ws) found ≡ update_from params t ws found
      by None = refl
      by (Some x) = ap (λ branches. made t branches (last_of params x.aim x.last)) (ap (λ b. (if b then branches_of params w else []) ++ branches_for params t ws) e)

  found_in_front : (t : Target) (w : Written) (ws : List Written) (u : Update) → IsReadAs sig w u → same_target t u.target ≡ true → HaveOthers t ws → update_at params (w ∷ ws) t ≡ u ∷ []
  found_in_front t w ws u is same h =
      let e : is_for t w ≡ true = is_for_is sig params w u is t ∙ same in
      let last = last_of params w.aim w.last in
      let branches : branches_for params t (w ∷ ws) ≡ u.branches =
      ap (λ b. (if b then branches_of params w else []) ++ branches_for params t ws) e ∙ ap (λ bs. branches_of params w ++ bs) (no_branches t ws h) ∙ append-nil (branches_of params w)
      ∙ own_branches sig params w u is in
      ap (λ b. update_from params t (w ∷ ws) (cond b (Some w) (find (is_for t) ws))) e
      ∙ ap (λ bs. made t bs last) branches ∙ ap (λ l. made t u.branches l) (own_last sig params w u is) ∙ ap (λ x. made x u.branches u.last) (target_is t u.target same)

  all_skipped : (w : Written) (ws : List Written) (u : Update) → IsReadAs sig w u → (ts : List Target) → list_all (target_before u.target) ts ≡ true
      → flat_map (update_at params (w ∷ ws)) ts ≡ flat_map (update_at params ws) ts
  all_skipped w ws u is [] h = refl
  all_skipped w ws u is (t ∷ ts) h =
      let before = target_before u.target t in
      let later = list_all (target_before u.target) ts in
      let e : is_for t w ≡ false = is_for_is sig params w u is t ∙ after_differs u.target t (and_left before later h) in
      ap (λ us. us ++ flat_map (update_at params (w ∷ ws)) ts) (skipped t w ws e) ∙ ap (λ us. update_at params ws t ++ us) (all_skipped w ws u is ts (and_right before later h))

  -- ---- all updates
  in_order : (ts : List Target) → Rise ts → (kept : List Written) (us : List Update) → AllZip (IsReadAs sig) kept us → targets_rise us ≡ true → list_all (λ u. is_in ts u.target) us ≡ true
      → flat_map (update_at params kept) ts ≡ us
  in_order [] r [] [] z rise there = refl
  in_order [] r [] (u ∷ us) z rise there = absurd z
  in_order [] r (w ∷ ws) [] z rise there = absurd z
  in_order [] r (w ∷ ws) (u ∷ us) z rise there = cc
  in_order (t ∷ ts) r [] [] z rise there = in_order ts r.1 [] [] tt refl refl
  in_order (t ∷ ts) r [] (u ∷ us) z rise there = absurd z
  in_order (t ∷ ts) r (w ∷ ws) [] z rise there = absurd z
  in_order (t ∷ ts) r (w ∷ ws) (u ∷ us) z rise there =
      split (same_target t u.target) refl (λ h. in_order ts r.1 ws us z.1 (and_right (list_all (λ v. target_before u.target v.target) us) (targets_rise us) rise) h)
      (λ h. in_order ts r.1 (w ∷ ws) (u ∷ us) z rise h)
    where
      behind : AreBehind u.target us
      behind = and_left (list_all (λ v. target_before u.target v.target) us) (targets_rise us) rise

      here : is_in (t ∷ ts) u.target ≡ true
      here = and_left (is_in (t ∷ ts) u.target) (list_all (λ v. is_in (t ∷ ts) v.target) us) there

      split : (b : Bool) → same_target t u.target ≡ b → (list_all (λ v. is_in ts v.target) us ≡ true → flat_map (update_at params ws) ts ≡ us)
          → (list_all (λ v. is_in ts v.target) (u ∷ us) ≡ true → flat_map (update_at params (w ∷ ws)) ts ≡ u ∷ us) → update_at params (w ∷ ws) t ++ flat_map (update_at params (w ∷ ws)) ts ≡ u ∷ us
      split true e front later =
          let same : t ≡ u.target = target_is t u.target e in
          let after : AreBehind t us = subst (λ x. AreBehind x us) (sym same) behind in
          let rest : list_all (target_before u.target) ts ≡ true = subst (λ x. list_all (target_before x) ts ≡ true) same r.0 in
          ap (λ vs. vs ++ flat_map (update_at params (w ∷ ws)) ts) (found_in_front t w ws u z.0 e (others t ws us z.1 after))
          ∙ ap (λ vs. u ∷ vs)
          (all_skipped w ws u z.0 ts rest ∙ front (still_in t ts us after (and_right (is_in (t ∷ ts) u.target) (list_all (λ v. is_in (t ∷ ts) v.target) us) there)))
      split false e front later =
          let in_tail : is_in ts u.target ≡ true = sym (ap (λ b. b || is_in ts u.target) e) ∙ here in
          let before : target_before t u.target ≡ true = member_behind t ts u.target r.0 in_tail in
          let after : AreBehind t (u ∷ us) = and_both (target_before t u.target) (list_all (λ v. target_before t v.target) us) before (behind_further t u.target us before behind) in
          ap (λ vs. vs ++ flat_map (update_at params (w ∷ ws)) ts) (no_update t (w ∷ ws) (others t (w ∷ ws) (u ∷ us) z after)) ∙ later (still_in t ts (u ∷ us) after there)

  all_there : (kept : List Written) (us : List Update) → AllZip (IsReadAs sig) kept us → list_all (λ u. is_in (targets sig) u.target) us ≡ true
  all_there [] [] z = refl
  all_there [] (u ∷ us) z = absurd z
  all_there (w ∷ ws) [] z = absurd z
  all_there (w ∷ ws) (u ∷ us) z =
      and_both (is_in (targets sig) u.target) (list_all (λ v. is_in (targets sig) v.target) us) (target_there sig u.target z.0.sort z.0.sorted) (all_there ws us z.1)

  pub updates_back : (kept : List Written) (us : List Update) → AllZip (IsReadAs sig) kept us → targets_rise us ≡ true → updates_of sig params kept ≡ us
  updates_back kept us z rise = in_order (targets sig) (all_rise 0 (length sig.globals) (length sig.arrays)) kept us z rise (all_there kept us z)

  -- ---- limits
  not_over : (t : Target) (kept : List Written) (us : List Update) → AllZip (IsReadAs sig) kept us → targets_rise us ≡ true → over_from params t 0 kept ≡ []
  not_over t [] [] z rise = refl
  not_over t [] (u ∷ us) z rise = absurd z
  not_over t (w ∷ ws) [] z rise = absurd z
  not_over t (w ∷ ws) (u ∷ us) z rise = split (same_target t u.target) refl (not_over t ws us z.1 (and_right (list_all (λ v. target_before u.target v.target) us) (targets_rise us) rise))
    where
      few : (c : Bool) → nat_lt 64 (0 + branch_count params w) ≡ c → nat_lt 64 (0 + branch_count params w) ≡ false
      few true e =
          let more : 64 < 0 + branch_count params w = less_is 64 (0 + branch_count params w) e in
          let short : length u.branches ≤ 64 = z.0.short in
          absurd (omega (arith, more, short, own_count sig params w u z.0))
      few false e = e

      split : (b : Bool) → same_target t u.target ≡ b → over_from params t 0 ws ≡ [] → over_from params t 0 (w ∷ ws) ≡ []
      split true e later =
          let total = 0 + branch_count params w in
          let behind : AreBehind u.target us = and_left (list_all (λ v. target_before u.target v.target) us) (targets_rise us) rise in
          let after : AreBehind t us = subst (λ x. AreBehind x us) (sym (target_is t u.target e)) behind in
          ap (λ c. if c then (if nat_lt 64 total then fault w.token kinds.T17 ∷ [] else over_from params t total ws) else over_from params t 0 ws) (is_for_is sig params w u z.0 t ∙ e)
          ∙ ap (λ c. if c then fault w.token kinds.T17 ∷ [] else over_from params t total ws) (few (nat_lt 64 total) refl) ∙ none_over t ws (others t ws us z.1 after) total
      split false e later =
          let total = 0 + branch_count params w in
          ap (λ c. if c then (if nat_lt 64 total then fault w.token kinds.T17 ∷ [] else over_from params t total ws) else over_from params t 0 ws) (is_for_is sig params w u z.0 t ∙ e) ∙ later

  pub none_long : (kept : List Written) (us : List Update) → AllZip (IsReadAs sig) kept us → targets_rise us ≡ true → (ts : List Target) → long_faults params kept ts ≡ []
  none_long kept us z rise [] = refl
  none_long kept us z rise (t ∷ ts) = ap (λ fs. fs ++ long_faults params kept ts) (by (list_any (λ w. is_for t w && list_any is_refused_case w.cases) kept)) ∙ none_long kept us z rise ts
    where
      by : (b : Bool) → (if b then [] else over_from params t 0 kept) ≡ []
      by true = refl
      by false = not_over t kept us z rise
