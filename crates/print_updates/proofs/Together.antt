-- Printed updates one behind the other: each is kept, no part is refused, and no fault stands.
use Rattle.std.proofs.Common.{◌≡◌, ℕ, ◌+◌, ◌<◌, ◌≤◌, Bool, true, false, List, [], ◌∷◌, ◌++◌, length, map, Option, Some, None, refl, sym, ap, subst, ◌∙◌, arith, cond, append_assoc}
use Rattle.std.specs.Prelude.{◌&&◌, ◌||◌, not, nat_lt, if◌then◌else◌, count_by}
use Rattle.std.specs.List.{AllZip, list_all, list_any}
use Rattle.std.proofs.lemmas.List.{append-nil, length-append}
use Rattle.std.proofs.lemmas.List.Folds.{list_any-append}
use Rattle.std.proofs.lemmas.List.Sums.{sum_by-cons}
use Rattle.cub_base.proofs.Bools.{and_left, and_right, and_both, and_true, less_is}
use Rattle.cub_parse.specs.declared.tree.Leaf.{Leaf}
use Rattle.cub_parse.specs.declared.tree.UpdateNode.{UpdateNode}
use Rattle.cub_proto.specs.declared.literal.Sort.{Sort}
use Rattle.cub_proto.specs.declared.transition.Target.{Target}
use Rattle.cub_proto.specs.declared.transition.Update.{Update}
use Rattle.cub_proto.specs.Fits.{picks_process, target_before, targets_rise}
use Rattle.cub_names.specs.declared.fault.TypeKind.TheVariants as kinds
use Rattle.cub_names.specs.declared.scope.Local.{Local}
use Rattle.cub_names.specs.Checked.{fault, has_value}
use Rattle.cub_names.specs.Meaning.{Frame}
use Rattle.cub_types.specs.declared.written.Written.{Written}
use Rattle.cub_types.specs.declared.updating.Updating.{Updating}
use Rattle.cub_types.specs.Writes.{written, written_faults}
use Rattle.cub_types.specs.Joined.{clash, clashes, is_again, keeps, again_faults, is_among, takes, taker_of, taker_faults, joined, updating, updating_faults}
use Rattle.print_words.proofs.Seams.{Every}
use Rattle.print_transitions.proofs.UpdatesRead.{aimed}
use Rattle.print_updates.proofs.Wrote.{IsReadAs, before_differs, nothing_refused, few_takers}

neither : (a b : Bool) → a ≡ false → b ≡ false → (a || b) ≡ false
neither true b h k = cc
neither false b h k = k

-- ---- what is written twice
no_clash : (t u : Target) (s r : Sort) → target_before t u ≡ true → clash (aimed t s) (aimed u r) ≡ false
no_clash (Target.Global g) (Target.Global h) s r e = before_differs (Target.Global g) (Target.Global h) e
no_clash (Target.Global g) (Target.Array b) s r e = refl
no_clash (Target.Array a) (Target.Global h) s r e = refl
no_clash (Target.Array a) (Target.Array b) s r e = before_differs (Target.Array a) (Target.Array b) e

-- none of the updates writes what is written already
abbrev pub AreNew : List Written → List Update → Type 0
AreNew kept us = Every (λ u. (sort : Sort) → is_again kept (Some (aimed u.target sort)) ≡ false) us

pub all_new : (us : List Update) → AreNew [] us
all_new [] = tt
all_new (u ∷ us) = (λ sort. refl, all_new us)

new_behind : (kept : List Written) (w : Written) (t : Target) (s : Sort) → w.aim ≡ Some (aimed t s) → (us : List Update) → list_all (λ v. target_before t v.target) us ≡ true
    → AreNew kept us → AreNew (kept ++ w ∷ []) us
new_behind kept w t s is [] h new = tt
new_behind kept w t s is (u ∷ us) h new =
    let before = target_before t u.target in
    let others = list_all (λ v. target_before t v.target) us in (
      λ sort.
          let aim = aimed u.target sort in
          let apart : clashes aim w.aim ≡ false = ap (clashes aim) is ∙ no_clash t u.target s sort (and_left before others h) in
          list_any-append (λ x. clashes aim x.aim) kept (w ∷ [])
          ∙ neither (list_any (λ x. clashes aim x.aim) kept) (clashes aim w.aim || false) (new.0 sort) (neither (clashes aim w.aim) false apart refl),
      new_behind kept w t s is us (and_right before others h) new.1,
    )

-- ---- process globals that take any value
few_taken : (taken : List ℕ) (found : Option (ℕ × Leaf)) → length (takes taken found) ≤ length taken + cond (has_value found) 1 0
few_taken taken None = omega arith
few_taken taken (Some f) = by (is_among taken f.0)
  where
    by : (b : Bool) → length (if b then taken else taken ++ f.0 ∷ []) ≤ length taken + 1
    by true = omega arith
    by false = omega (arith, length-append taken (f.0 ∷ []))

no_taker_fault : (params : ℕ) (taken : List ℕ) (found : Option (ℕ × Leaf)) → params + length taken + cond (has_value found) 1 0 ≤ 3 → taker_faults params taken found ≡ []
no_taker_fault params taken None few = refl
no_taker_fault params taken (Some f) few = by (is_among taken f.0) (nat_lt 3 (params + (length taken + 1))) refl
  where
    by : (b c : Bool) → nat_lt 3 (params + (length taken + 1)) ≡ c → (if b then [] else (if c then fault f.1.number kinds.T19 ∷ [] else [])) ≡ []
    by true c e = refl
    by false true e = let more : 3 < params + (length taken + 1) = less_is 3 (params + (length taken + 1)) e in absurd (omega arith)
    by false false e = refl

-- ---- all of them
module _ (frame : Frame) (scope : List Local) (params : ℕ) where
  abbrev write : UpdateNode → Written
  write n = written frame scope params n

  pub record IsRead (n : UpdateNode) (u : Update) : Type 0 where
    pub is : IsReadAs frame.sig (written frame scope params n) u
    pub faultless : written_faults frame scope params n ≡ []

  pub record AreTogether (so_far : Updating) (nodes : List UpdateNode) : Type 0 where
    pub kept : (updating frame scope params so_far nodes).kept ≡ so_far.kept ++ map (written frame scope params) nodes
    pub whole : (updating frame scope params so_far nodes).whole ≡ so_far.whole
    pub faultless : updating_faults frame scope params so_far nodes ≡ []

  pub together : (nodes : List UpdateNode) (us : List Update) → AllZip IsRead nodes us → targets_rise us ≡ true → (so_far : Updating) → AreNew so_far.kept us
      → params + length so_far.taken + count_by (picks_process frame.sig) us ≤ 3 → AreTogether so_far nodes
  together [] [] z rise so_far new few = record { kept = sym (append-nil so_far.kept); whole = refl; faultless = refl }
  together [] (u ∷ us) z rise so_far new few = absurd z
  together (n ∷ ns) [] z rise so_far new few = absurd z
  together (n ∷ ns) (u ∷ us) z rise so_far new few =
      let w = write n in
      let is = z.0.is in
      let found = taker_of w in
      let next = joined so_far w in
      let behind = list_all (λ v. target_before u.target v.target) us in
      let is_new : is_again so_far.kept w.aim ≡ false = ap (is_again so_far.kept) is.aim ∙ new.0 is.sort in
      let aim : has_value w.aim ≡ true = ap (λ a. has_value a) is.aim in
      let is_kept : keeps so_far.kept w ≡ so_far.kept ++ w ∷ [] =
      ap (λ b. if b then so_far.kept ++ w ∷ [] else so_far.kept) (and_both (has_value w.aim) (not (is_again so_far.kept w.aim)) aim (ap not is_new)) in
      let count : count_by (picks_process frame.sig) (u ∷ us) ≡ cond (picks_process frame.sig u) 1 0 + count_by (picks_process frame.sig) us = sum_by-cons (λ v. cond (picks_process frame.sig v) 1 0) u us in
      let picks = few_takers frame.sig params w u is in
      let later = together ns us z.1 (and_right behind (targets_rise us) rise) next
      (subst (λ kept. AreNew kept us) (sym is_kept) (new_behind so_far.kept w u.target is.sort is.aim us (and_left behind (targets_rise us) rise) new.1))
      (omega (arith, few, count, picks, few_taken so_far.taken found)) in
      let none : taker_faults params so_far.taken found ≡ [] = no_taker_fault params so_far.taken found (omega (arith, few, count, picks)) in
      record {
        kept = later.kept ∙ ap (λ kept. kept ++ map write ns) is_kept ∙ append_assoc so_far.kept (w ∷ []) (map write ns);
        whole = later.whole ∙ ap (λ b. so_far.whole && b) (nothing_refused frame.sig params w u is) ∙ and_true so_far.whole;
        faultless =
            ap (λ fs. (fs ++ (again_faults so_far.kept w ++ taker_faults params so_far.taken found)) ++ updating_faults frame scope params next ns) z.0.faultless
            ∙ ap (λ b. ((if b then fault w.token kinds.T09 ∷ [] else []) ++ taker_faults params so_far.taken found) ++ updating_faults frame scope params next ns) is_new
            ∙ ap (λ fs. fs ++ updating_faults frame scope params next ns) none ∙ later.faultless;
      }
