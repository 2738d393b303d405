-- The stages of ways and picks: choices that change in place, as choices that are listed.
use Rattle.std.proofs.Common.{◌≡◌, ℕ, zero, suc, ◌+◌, ◌-◌, ◌≤◌, Bool, true, false, List, [], ◌∷◌, ◌++◌, length, take, refl, sym, ap, ◌∙◌, arith, Option, None, Some}
use Rattle.std.specs.Prelude.{map, nat_lt, if◌then◌else◌, slice_index_or, slice_set}
use Rattle.std.specs.List.{flat_map, range_with_len}
use Rattle.std.specs.Option.{option_map_or}
use Rattle.std.proofs.lemmas.List.{append_assoc, append-nil, map-append}
use Rattle.cub_base.specs.Numbered.{map_from}
use Rattle.cub_base.proofs.Bools.{less_is}
use Rattle.cub_proto.specs.declared.literal.Term.{Term}
use Rattle.cub_proto.specs.declared.literal.Lit.{Lit}
use Rattle.cub_proto.specs.declared.transition.Branch.{Branch}
use Rattle.cub_proto.specs.declared.transition.Update.{Update}
use Rattle.cub_proto.specs.declared.transition.Transition.{Transition}
use Rattle.cub_proto.specs.Signature.{Signature, sort_of}
use Rattle.cub_proto.specs.Fits.{is_any}
use Rattle.cub_proto.specs.Effect.{update_of}
use Rattle.cub_proto.specs.Negation.{negated}
use Rattle.cub_cube.specs.Rename.{renamed, renamed_all}
use Rattle.cub_cube.specs.Replace.{constant}
use Rattle.cub_cube.specs.Step.{target_of}
use Rattle.updates.specs.declared.choice.Choice.{Choice}
use Rattle.updates.specs.Ways.{numbers, way, failures, ways, failing, condition}
use Rattle.updates.specs.Chosen.{reading_places, choice, ways_of, lits_by, choice_lits, chosen_value, with_pick}
use Rattle.piece_choices.specs.declared.piece.Piece.{Piece}
use Rattle.piece_choices.specs.Picks.{Picking, picking, values_for, picks_of, pickings}
use Rattle.piece_choices.specs.Selections.{ways_for}
use Rattle.piece_steps.specs.Steps.{Draft, Step, Fail, Choose, choice_at, branched, failed, picked, branches_by, fails_by, picks_by, extend, run, way_steps}
use Rattle.piece_steps.proofs.Bridging.{flat_map_same, flat_map-map, flat_map-flat_map, flat_map_one}

-- ---- one item of a list
item_at : (done : List Choice) (c : Choice) (later : List Choice) (d : Choice) → slice_index_or (done ++ c ∷ later) (length done) d ≡ c
item_at [] c later d = refl
item_at (x ∷ xs) c later d = item_at xs c later d

set_at : (done : List Choice) (c e : Choice) (later : List Choice) → slice_set (done ++ c ∷ later) (length done) e ≡ done ++ e ∷ later
set_at [] c e later = refl
set_at (x ∷ xs) c e later = ap (λ ys. x ∷ ys) (set_at xs c e later)

-- the draft with these choices
abbrev pub with_choices : Draft → List Choice → Choice → List Choice → Draft
with_choices d done c later = record d { choices = done ++ c ∷ later }

module _ (sig : Signature) (number : ℕ) (t : Transition) (width : ℕ) (lits : List Lit) where
  same_choice : (d : Draft) (done : List Choice) (c : Choice) (later : List Choice) → choice_at (with_choices d done c later) (length done) ≡ c
  same_choice d done c later = item_at done c later (choice (Term.Global 0) (way 0 []))

  -- ---- the failing literals of one way
  -- the way's choice with further failing literals
  abbrev failing_more : Draft → List Choice → Choice → List Choice → List Branch → List ℕ → Draft
  failing_more d done c later bs fs = record d {
    choices = done ++ (record c { fails = c.fails ++ fs }) ∷ later;
    lits = d.lits ++ renamed_all (reading_places d.params c.term) (failing sig bs fs);
  }

  fails_stage : (rest : List Step) (v : Update) (done later : List Choice) (left : List Branch) (b : ℕ) (d : Draft) (c : Choice) → update_of t.updates (target_of c.term) ≡ Some v
      → ((k : ℕ) → condition v.branches (b + k) ≡ condition left k)
      → run sig number t width lits (map (λ x. Fail (length done) x) (range_with_len b (length left)) ++ rest) (with_choices d done c later)
      ≡ flat_map (λ fs. run sig number t width lits rest (failing_more d done c later (take (c.branch - b) left) fs)) (failures (take (c.branch - b) left))
  fails_stage rest v done later [] b d c is same = none (c.branch - b)
    where
      nothing : run sig number t width lits rest (with_choices d done c later) ≡ flat_map (λ fs. run sig number t width lits rest (failing_more d done c later [] fs)) ([] ∷ [])
      nothing =
          sym (flat_map_one (λ (fs : List ℕ). run sig number t width lits rest (failing_more d done c later [] fs)) []
          ∙ ap (λ xs. run sig number t width lits rest (record d { choices = done ++ (record c { fails = xs }) ∷ later; lits = d.lits ++ [] })) (append-nil c.fails)
          ∙ ap (λ xs. run sig number t width lits rest (record d { choices = done ++ c ∷ later; lits = xs })) (append-nil d.lits))

      none : (n : ℕ) → run sig number t width lits rest (with_choices d done c later)
          ≡ flat_map (λ fs. run sig number t width lits rest (failing_more d done c later (take n []) fs)) (failures (take n []))
      none zero = nothing
      none (suc n) = nothing
  fails_stage rest v done later (x ∷ xs) b d c is same =
      ap (flat_map (run sig number t width lits (map (λ y. Fail (length done) y) (range_with_len (b + 1) (length xs)) ++ rest))) extended
      ∙ by (nat_lt b c.branch) refl (λ e f g. fails_stage rest v done later xs (b + 1) e f g next)
    where
      cond : List Lit
      cond = condition v.branches b

      tail : List Step
      tail = map (λ y. Fail (length done) y) (range_with_len (b + 1) (length xs)) ++ rest

      one_more : (f : ℕ) → Draft
      one_more f = record d {
        choices = done ++ (record c { fails = c.fails ++ f ∷ [] }) ∷ later;
        lits = d.lits ++ renamed (reading_places d.params c.term) (negated sig (slice_index_or x.cond f (constant true))) ∷ [];
      }

      here : condition v.branches b ≡ x.cond
      here = ap (condition v.branches) (let e : b ≡ b + 0 = omega arith in e) ∙ same 0

      next : (k : ℕ) → condition v.branches (b + 1 + k) ≡ condition xs k
      next k = ap (condition v.branches) (let e : b + 1 + k ≡ b + suc k = omega arith in e) ∙ same (suc k)

      extended : extend sig t width (Fail (length done) b) (with_choices d done c later) ≡ (if nat_lt b c.branch then map one_more (numbers x.cond) else with_choices d done c later ∷ [])
      extended =
          ap (λ e. fails_by sig (update_of t.updates (target_of e.term)) (with_choices d done c later) (length done) b e) (same_choice d done c later)
          ∙ ap (λ o. fails_by sig o (with_choices d done c later) (length done) b c) is
          ∙ ap (λ ls. if nat_lt b c.branch then map (failed sig (with_choices d done c later) (length done) c ls) (numbers ls) else with_choices d done c later ∷ []) here
          ∙ ap (λ ys. if nat_lt b c.branch then ys else with_choices d done c later ∷ []) (map_same (failed sig (with_choices d done c later) (length done) c x.cond) one_more (numbers x.cond)
          (λ f. ap (λ ys. record d { choices = ys; lits = d.lits ++ renamed (reading_places d.params c.term) (negated sig (slice_index_or x.cond f (constant true))) ∷ [] }) (set_at done c (record c { fails = c.fails ++ f ∷ [] }) later)))
        where
          map_same : (f g : ℕ → Draft) (ns : List ℕ) → ((n : ℕ) → f n ≡ g n) → map f ns ≡ map g ns
          map_same f g [] e = refl
          map_same f g (n ∷ ns) e = ap (λ y. y ∷ map f ns) (e n) ∙ ap (λ ys. g n ∷ ys) (map_same f g ns e)

      by : (r : Bool) → nat_lt b c.branch ≡ r
          → ((e : Draft) (f : Choice) → update_of t.updates (target_of f.term) ≡ Some v → run sig number t width lits (map (λ y. Fail (length done) y) (range_with_len (b + 1) (length xs)) ++ rest) (with_choices e done f later)
          ≡ flat_map (λ fs. run sig number t width lits rest (failing_more e done f later (take (f.branch - (b + 1)) xs) fs)) (failures (take (f.branch - (b + 1)) xs)))
          → flat_map (run sig number t width lits (map (λ y. Fail (length done) y) (range_with_len (b + 1) (length xs)) ++ rest)) (if r then map one_more (numbers x.cond) else with_choices d done c later ∷ [])
          ≡ flat_map (λ fs. run sig number t width lits rest (failing_more d done c later (take (c.branch - b) (x ∷ xs)) fs)) (failures (take (c.branch - b) (x ∷ xs)))
      by true e rest_of =
          let count : c.branch - b ≡ suc (c.branch - (b + 1)) = (let below = less_is b c.branch e in omega arith) in
          let k = c.branch - (b + 1) in
          flat_map-map (run sig number t width lits tail) one_more (numbers x.cond)
          ∙ flat_map_same (λ f. run sig number t width lits tail (one_more f)) (λ f. flat_map (λ fs. run sig number t width lits rest (failing_more d done c later (x ∷ take k xs) (f ∷ fs))) (failures (take k xs))) (numbers x.cond)
          (λ f h. rest_of (one_more f) (record c { fails = c.fails ++ f ∷ [] }) is
          ∙ flat_map_same (λ fs. run sig number t width lits rest (failing_more (one_more f) done (record c { fails = c.fails ++ f ∷ [] }) later (take k xs) fs)) (λ fs. run sig number t width lits rest (failing_more d done c later (x ∷ take k xs) (f ∷ fs))) (failures (take k xs))
          (λ fs at. together f fs (take k xs)))
          ∙ sym (flat_map_same (λ f. flat_map (λ fs. run sig number t width lits rest (failing_more d done c later (x ∷ take k xs) fs)) (map (λ fs. f ∷ fs) (failures (take k xs)))) (λ f. flat_map (λ fs. run sig number t width lits rest (failing_more d done c later (x ∷ take k xs) (f ∷ fs))) (failures (take k xs))) (numbers x.cond)
          (λ f h. flat_map-map (λ fs. run sig number t width lits rest (failing_more d done c later (x ∷ take k xs) fs)) (λ fs. f ∷ fs) (failures (take k xs))))
          ∙ sym (flat_map-flat_map (λ fs. run sig number t width lits rest (failing_more d done c later (x ∷ take k xs) fs)) (λ f. map (λ fs. f ∷ fs) (failures (take k xs))) (numbers x.cond))
          ∙ sym (ap (λ n. flat_map (λ fs. run sig number t width lits rest (failing_more d done c later (take n (x ∷ xs)) fs)) (failures (take n (x ∷ xs)))) count)
        where
          together : (f : ℕ) (fs : List ℕ) (bs : List Branch) → run sig number t width lits rest (failing_more (one_more f) done (record c { fails = c.fails ++ f ∷ [] }) later bs fs) ≡ run sig number t width lits rest (failing_more d done c later (x ∷ bs) (f ∷ fs))
          together f fs bs =
              ap (λ ys. run sig number t width lits rest (record d { choices = done ++ (record c { fails = ys }) ∷ later; lits = (d.lits ++ renamed (reading_places d.params c.term) (negated sig (slice_index_or x.cond f (constant true))) ∷ []) ++ renamed_all (reading_places d.params c.term) (failing sig bs fs) })) (append_assoc c.fails (f ∷ []) fs)
              ∙ ap (λ ys. run sig number t width lits rest (record d { choices = done ++ (record c { fails = c.fails ++ f ∷ fs }) ∷ later; lits = ys })) (append_assoc d.lits (renamed (reading_places d.params c.term) (negated sig (slice_index_or x.cond f (constant true))) ∷ []) (renamed_all (reading_places d.params c.term) (failing sig bs fs)))
      by false e rest_of =
          let past : c.branch ≤ b = at_least b c.branch e in
          let none : c.branch - b ≡ 0 = omega arith in
          let none_next : c.branch - (b + 1) ≡ 0 = omega arith in
          flat_map_one (run sig number t width lits tail) (with_choices d done c later)
          ∙ rest_of d c is
          ∙ ap (λ n. flat_map (λ fs. run sig number t width lits rest (failing_more d done c later (take n xs) fs)) (failures (take n xs))) none_next
          ∙ sym (ap (λ n. flat_map (λ fs. run sig number t width lits rest (failing_more d done c later (take n (x ∷ xs)) fs)) (failures (take n (x ∷ xs)))) none)
        where
          at_least : (m n : ℕ) → nat_lt m n ≡ false → n ≤ m
          at_least m n h = grind (arith)

  -- ---- a way for one term
  abbrev pub chosen_draft : Draft → List Choice → Choice → List Choice → Draft
  chosen_draft d done c later = record d { choices = done ++ c ∷ later; lits = d.lits ++ choice_lits sig t.updates d.params c }

  pub way_stage : (rest : List Step) (done later : List Choice) (u : Term) (d : Draft)
      → run sig number t width lits (way_steps t (length done) u ++ rest) (with_choices d done (choice u (way 0 [])) later)
      ≡ flat_map (λ c. run sig number t width lits rest (chosen_draft d done c later)) (ways_of (update_of t.updates (target_of u)) u)
  way_stage rest done later u d =
      ap (flat_map (run sig number t width lits (map (λ b. Fail i b) (range_with_len 0 (option_map_or (λ v. length v.branches) (update_of t.updates (target_of u)) 0)) ++ rest))) (ap (λ e. branches_by (update_of t.updates (target_of e.term)) start i e) (same_choice d done first later))
      ∙ by (update_of t.updates (target_of u)) refl
    where
      i : ℕ
      i = length done

      first : Choice
      first = choice u (way 0 [])

      start : Draft
      start = with_choices d done (choice u (way 0 [])) later

      by : (o : Option Update) → update_of t.updates (target_of u) ≡ o
          → flat_map (run sig number t width lits (map (λ b. Fail (length done) b) (range_with_len 0 (option_map_or (λ v. length v.branches) o 0)) ++ rest)) (branches_by o (with_choices d done (choice u (way 0 [])) later) (length done) (choice u (way 0 [])))
          ≡ flat_map (λ c. run sig number t width lits rest (chosen_draft d done c later)) (ways_of o u)
      by None e =
          flat_map_one (run sig number t width lits rest) (with_choices d done (choice u (way 0 [])) later)
          ∙ sym (flat_map_one (λ c. run sig number t width lits rest (chosen_draft d done c later)) (choice u (way 0 []))
          ∙ ap (λ o. run sig number t width lits rest (record d { choices = done ++ choice u (way 0 []) ∷ later; lits = d.lits ++ lits_by sig o d.params (choice u (way 0 [])) })) e
          ∙ ap (λ xs. run sig number t width lits rest (record d { choices = done ++ choice u (way 0 []) ∷ later; lits = xs })) (append-nil d.lits))
      by (Some v) e =
          flat_map-map (run sig number t width lits steps) (branched (with_choices d done (choice u (way 0 [])) later) (length done) (choice u (way 0 [])) v) (range_with_len 0 (length v.branches + 1))
          ∙ flat_map_same (λ n. run sig number t width lits steps (branched (with_choices d done (choice u (way 0 [])) later) (length done) (choice u (way 0 [])) v n)) (λ n. flat_map (λ fs. run sig number t width lits rest (chosen_draft d done (choice u (way n fs)) later)) (failures (take n v.branches))) (range_with_len 0 (length v.branches + 1))
          (λ n h. one n)
          ∙ sym (flat_map-map (λ c. run sig number t width lits rest (chosen_draft d done c later)) (choice u) (ways v.branches)
          ∙ flat_map-flat_map (λ w. run sig number t width lits rest (chosen_draft d done (choice u w) later)) (λ n. map (way n) (failures (take n v.branches))) (range_with_len 0 (length v.branches + 1))
          ∙ flat_map_same (λ n. flat_map (λ w. run sig number t width lits rest (chosen_draft d done (choice u w) later)) (map (way n) (failures (take n v.branches)))) (λ n. flat_map (λ fs. run sig number t width lits rest (chosen_draft d done (choice u (way n fs)) later)) (failures (take n v.branches))) (range_with_len 0 (length v.branches + 1))
          (λ n h. flat_map-map (λ w. run sig number t width lits rest (chosen_draft d done (choice u w) later)) (way n) (failures (take n v.branches))))
        where
          steps : List Step
          steps = map (λ b. Fail (length done) b) (range_with_len 0 (length v.branches)) ++ rest

          with_branch : ℕ → Draft
          with_branch n = record d { lits = d.lits ++ renamed_all (reading_places d.params u) (condition v.branches n) }

          one : (n : ℕ) → run sig number t width lits (map (λ b. Fail (length done) b) (range_with_len 0 (length v.branches)) ++ rest) (branched (with_choices d done (choice u (way 0 [])) later) (length done) (choice u (way 0 [])) v n)
              ≡ flat_map (λ fs. run sig number t width lits rest (chosen_draft d done (choice u (way n fs)) later)) (failures (take n v.branches))
          one n =
              ap (λ xs. run sig number t width lits steps (record d { choices = xs; lits = d.lits ++ renamed_all (reading_places d.params u) (condition v.branches n) })) (set_at done (choice u (way 0 [])) (choice u (way n [])) later)
              ∙ fails_stage rest v done later v.branches 0 (with_branch n) (choice u (way n [])) e (λ k. ap (condition v.branches) (let z : 0 + k ≡ k = omega arith in z))
              ∙ ap (λ m. flat_map (λ fs. run sig number t width lits rest (failing_more (with_branch n) done (choice u (way n [])) later (take m v.branches) fs)) (failures (take m v.branches))) (let z : n - 0 ≡ n = omega arith in z)
              ∙ flat_map_same (λ fs. run sig number t width lits rest (failing_more (with_branch n) done (choice u (way n [])) later (take n v.branches) fs)) (λ fs. run sig number t width lits rest (chosen_draft d done (choice u (way n fs)) later)) (failures (take n v.branches))
              (λ fs h. ap (λ xs. run sig number t width lits rest (record d { choices = done ++ choice u (way n fs) ∷ later; lits = xs }))
              (append_assoc d.lits (renamed_all (reading_places d.params u) (condition v.branches n)) (renamed_all (reading_places d.params u) (failing sig (take n v.branches) fs))
              ∙ ap (λ xs. d.lits ++ xs) (sym (map-append (renamed (reading_places d.params u)) (condition v.branches n) (failing sig (take n v.branches) fs))
              ∙ sym (ap (λ o. lits_by sig o d.params (choice u (way n fs))) e))))

  -- ---- a way for each term
  abbrev plain : Term → Choice
  plain u = choice u (way 0 [])

  abbrev pub all_chosen : Draft → List Choice → List Choice → Draft
  all_chosen d done cs = record d { choices = done ++ cs; lits = d.lits ++ flat_map (choice_lits sig t.updates d.params) cs }

  push_length : (done : List Choice) (c : Choice) → length done + 1 ≡ length (done ++ c ∷ [])
  push_length [] c = refl
  push_length (x ∷ xs) c = let e = push_length xs c in omega arith

  pub ways_stage : (rest : List Step) (us : List Term) (done : List Choice) (d : Draft)
      → run sig number t width lits (flat_map (λ xs. xs) (map_from (way_steps t) (length done) us) ++ rest) (record d { choices = done ++ map plain us })
      ≡ flat_map (λ cs. run sig number t width lits rest (all_chosen d done cs)) (ways_for t us)
  ways_stage rest [] done d =
      sym (flat_map_one (λ cs. run sig number t width lits rest (all_chosen d done cs)) [] ∙ ap (λ xs. run sig number t width lits rest (record d { choices = done ++ []; lits = xs })) (append-nil d.lits))
  ways_stage rest (u ∷ us) done d =
      ap (λ steps. run sig number t width lits steps (record d { choices = done ++ plain u ∷ map plain us })) (append_assoc (way_steps t (length done) u) more rest)
      ∙ way_stage (more ++ rest) done (map plain us) u d
      ∙ flat_map_same (λ c. run sig number t width lits (more ++ rest) (chosen_draft d done c (map plain us))) (λ c. flat_map (λ cs. run sig number t width lits rest (all_chosen d done (c ∷ cs))) (ways_for t us)) (ways_of (update_of t.updates (target_of u)) u)
      (λ c h. one c (ways_stage rest us (done ++ c ∷ []) (record d { lits = d.lits ++ choice_lits sig t.updates d.params c })))
      ∙ sym (flat_map-flat_map (λ cs. run sig number t width lits rest (all_chosen d done cs)) (λ c. map (λ cs. c ∷ cs) (ways_for t us)) (ways_of (update_of t.updates (target_of u)) u)
      ∙ flat_map_same (λ c. flat_map (λ cs. run sig number t width lits rest (all_chosen d done cs)) (map (λ cs. c ∷ cs) (ways_for t us))) (λ c. flat_map (λ cs. run sig number t width lits rest (all_chosen d done (c ∷ cs))) (ways_for t us)) (ways_of (update_of t.updates (target_of u)) u)
      (λ c h. flat_map-map (λ cs. run sig number t width lits rest (all_chosen d done cs)) (λ cs. c ∷ cs) (ways_for t us)))
    where
      more : List Step
      more = flat_map (λ xs. xs) (map_from (way_steps t) (length done + 1) us)

      one : (c : Choice) → run sig number t width lits (flat_map (λ xs. xs) (map_from (way_steps t) (length (done ++ c ∷ [])) us) ++ rest) (record d { choices = (done ++ c ∷ []) ++ map plain us; lits = d.lits ++ choice_lits sig t.updates d.params c })
          ≡ flat_map (λ cs. run sig number t width lits rest (all_chosen (record d { lits = d.lits ++ choice_lits sig t.updates d.params c }) (done ++ c ∷ []) cs)) (ways_for t us)
          → run sig number t width lits (flat_map (λ xs. xs) (map_from (way_steps t) (length done + 1) us) ++ rest) (chosen_draft d done c (map plain us))
          ≡ flat_map (λ cs. run sig number t width lits rest (all_chosen d done (c ∷ cs))) (ways_for t us)
      one c rest_of =
          ap (λ n. run sig number t width lits (flat_map (λ xs. xs) (map_from (way_steps t) n us) ++ rest) (chosen_draft d done c (map plain us))) (push_length done c)
          ∙ ap (λ xs. run sig number t width lits (flat_map (λ ys. ys) (map_from (way_steps t) (length (done ++ c ∷ [])) us) ++ rest) (record d { choices = xs; lits = d.lits ++ choice_lits sig t.updates d.params c })) (sym (append_assoc done (c ∷ []) (map plain us)))
          ∙ rest_of
          ∙ flat_map_same (λ cs. run sig number t width lits rest (all_chosen (record d { lits = d.lits ++ choice_lits sig t.updates d.params c }) (done ++ c ∷ []) cs)) (λ cs. run sig number t width lits rest (all_chosen d done (c ∷ cs))) (ways_for t us)
          (λ cs h. ap (λ xs. run sig number t width lits rest (record d { choices = xs; lits = (d.lits ++ choice_lits sig t.updates d.params c) ++ flat_map (choice_lits sig t.updates d.params) cs })) (append_assoc done (c ∷ []) cs)
          ∙ ap (λ xs. run sig number t width lits rest (record d { choices = done ++ c ∷ cs; lits = xs })) (append_assoc d.lits (choice_lits sig t.updates d.params c) (flat_map (choice_lits sig t.updates d.params) cs)))

  -- ---- picks
  abbrev pub all_picked : Draft → List Choice → Picking → Draft
  all_picked d done x = record d { choices = done ++ x.choices; width = x.width }

  pub picks_stage : (rest : List Step) (cs done : List Choice) (d : Draft)
      → run sig number t width lits (map (λ i. Choose i) (range_with_len (length done) (length cs)) ++ rest) (record d { choices = done ++ cs })
      ≡ flat_map (λ x. run sig number t width lits rest (all_picked d done x)) (pickings sig t.updates d.params d.width cs)
  picks_stage rest [] done d = sym (flat_map_one (λ x. run sig number t width lits rest (all_picked d done x)) (picking [] d.width))
  picks_stage rest (c ∷ cs) done d =
      ap (flat_map (run sig number t width lits steps)) (ap (λ e. picks_by sig t.updates (with_choices d done c cs) (length done) e) (same_choice d done c cs))
      ∙ by (is_any (chosen_value t.updates d.params c))
      (λ e w. one e w (picks_stage rest cs (done ++ e ∷ []) (record d { width = w })))
      ∙ sym (flat_map-flat_map (λ x. run sig number t width lits rest (all_picked d done x)) (λ first. map (λ x. picking (first.choices ++ x.choices) x.width) (pickings sig t.updates d.params first.width cs)) (picks_of sig t.updates d.params d.width c))
    where
      steps : List Step
      steps = map (λ i. Choose i) (range_with_len (length done + 1) (length cs)) ++ rest

      after_first : Picking → List Piece
      after_first first = flat_map (λ x. run sig number t width lits rest (all_picked d done x)) (map (λ x. picking (first.choices ++ x.choices) x.width) (pickings sig t.updates d.params first.width cs))

      one : (e : Choice) (w : ℕ) → run sig number t width lits (map (λ i. Choose i) (range_with_len (length (done ++ e ∷ [])) (length cs)) ++ rest) (record d { choices = (done ++ e ∷ []) ++ cs; width = w })
          ≡ flat_map (λ x. run sig number t width lits rest (all_picked (record d { width = w }) (done ++ e ∷ []) x)) (pickings sig t.updates d.params w cs)
          → run sig number t width lits steps (record d { choices = done ++ e ∷ cs; width = w }) ≡ after_first (picking (e ∷ []) w)
      one e w rest_of =
          ap (λ n. run sig number t width lits (map (λ i. Choose i) (range_with_len n (length cs)) ++ rest) (record d { choices = done ++ e ∷ cs; width = w })) (push_length done e)
          ∙ ap (λ xs. run sig number t width lits (map (λ i. Choose i) (range_with_len (length (done ++ e ∷ [])) (length cs)) ++ rest) (record d { choices = xs; width = w })) (sym (append_assoc done (e ∷ []) cs))
          ∙ rest_of
          ∙ flat_map_same (λ x. run sig number t width lits rest (all_picked (record d { width = w }) (done ++ e ∷ []) x)) (λ x. run sig number t width lits rest (all_picked d done (picking (e ∷ x.choices) x.width))) (pickings sig t.updates d.params w cs)
          (λ x h. ap (λ xs. run sig number t width lits rest (record d { choices = xs; width = x.width })) (append_assoc done (e ∷ []) x.choices))
          ∙ sym (flat_map-map (λ x. run sig number t width lits rest (all_picked d done x)) (λ x. picking (e ∷ x.choices) x.width) (pickings sig t.updates d.params w cs))

      by : (b : Bool) → ((e : Choice) (w : ℕ) → run sig number t width lits steps (record d { choices = done ++ e ∷ cs; width = w }) ≡ after_first (picking (e ∷ []) w))
          → flat_map (run sig number t width lits steps) (if b then map (picked (with_choices d done c cs) (length done) c) (values_for sig d.width c.term (sort_of sig c.term)) else with_choices d done c cs ∷ [])
          ≡ flat_map after_first (if b then map (λ v. picking (with_pick c v.value ∷ []) v.width) (values_for sig d.width c.term (sort_of sig c.term)) else picking (c ∷ []) d.width ∷ [])
      by true go_on =
          flat_map-map (run sig number t width lits steps) (picked (with_choices d done c cs) (length done) c) (values_for sig d.width c.term (sort_of sig c.term))
          ∙ flat_map_same (λ v. run sig number t width lits steps (picked (with_choices d done c cs) (length done) c v)) (λ v. after_first (picking (with_pick c v.value ∷ []) v.width)) (values_for sig d.width c.term (sort_of sig c.term))
          (λ v h. ap (λ xs. run sig number t width lits steps (record d { choices = xs; width = v.width })) (set_at done c (with_pick c v.value) cs) ∙ go_on (with_pick c v.value) v.width)
          ∙ sym (flat_map-map after_first (λ v. picking (with_pick c v.value ∷ []) v.width) (values_for sig d.width c.term (sort_of sig c.term)))
      by false go_on = flat_map_one (run sig number t width lits steps) (with_choices d done c cs) ∙ go_on c d.width ∙ sym (flat_map_one after_first (picking (c ∷ []) d.width))
