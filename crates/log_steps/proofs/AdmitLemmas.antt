-- Steps of admitting a list.
use Rattle.std.proofs.Common.{◌≡◌, ◌⊎◌, ℕ, ◌+◌, ◌<◌, ◌≤◌, Bool, true, false, List, [], ◌∷◌, ◌++◌, map, length, get_or, take, drop, refl, sym, ap, ◌∙◌, subst, arith, inl, inr, append-nil, take-append-drop}
use Rattle.std.proofs.lemmas.List.{take_more, take_all, drop_more, length-append}
use Rattle.cub_proto.specs.declared.protocol.Protocol.{Protocol}
use Rattle.cub_cube.specs.declared.cube.Cube.{Cube}
use Rattle.cub_cube.specs.Cover.{IsCovered}
use Rattle.cub_cube.specs.Starts.{IsStartCube}
use Rattle.log_form.specs.declared.event.Added.{Added}
use Rattle.log_form.specs.declared.numbered.Numbered.{Numbered}
use Rattle.log_form.specs.Pieces.{IsFit, widest, greatest_asked}
use Rattle.log_form.specs.Forms.{IsForm}
use Rattle.log_form.specs.Legal.{IsAdded, Adds}
use Rattle.log_steps.specs.declared.judgement.Pick.{Pick}
use Rattle.log_steps.specs.Judged.{added_of, pick_cubes, IsExact}
use Rattle.log_steps.specs.Admitted.{no_added, AddsSome, SomeSoFar, AreAdmitted, IsStopped, IsFirstUnfit, AreAllAdmitted, AdmitsPiece}
use Rattle.log_steps.specs.declared.admitting.Step.{Step}
use Rattle.log_steps.proofs.JudgeLemmas.{one_more, more_picks, more_cubes, pushed_all, adds_past, adds_over, adds_one, adds_all}

-- ---- one piece
-- what is covered is passed over
some_over : (p : Protocol) (cubes : List Cube) (x : Numbered) (more : List Numbered) (items : List Added) → IsCovered p cubes x.cube → AddsSome p cubes more items → AddsSome p cubes (x ∷ more) items
some_over p cubes x more [] covered h = tt
some_over p cubes x more (a ∷ items) covered h = inl (covered, h)

over_some : (p : Protocol) (cubes : List Cube) (x : Numbered) (more : List Numbered) (a : Added) (items : List Added) → IsCovered p cubes x.cube → AddsSome p cubes (x ∷ more) (a ∷ items) → AddsSome p cubes more (a ∷ items)
over_some p cubes x more a items covered (inl (c, h)) = h
over_some p cubes x more a items covered (inr (added, h)) = absurd (added.uncovered covered)

-- what is not covered is added, with what is left
one_some : (p : Protocol) (cubes : List Cube) (x : Numbered) (more : List Numbered) (b a : Added) (items : List Added) → (IsCovered p cubes x.cube → ⊥) → AddsSome p cubes (x ∷ more) (b ∷ a ∷ items)
    → (IsStartCube p b.cube → ⊥) × AddsSome p (cubes ++ b.cube ∷ []) more (a ∷ items)
one_some p cubes x more b a items free (inl (c, h)) = absurd (free c)
one_some p cubes x more b a items free (inr (added, inl (s, none))) = cc
one_some p cubes x more b a items free (inr (added, inr h)) = h

one_whole : (p : Protocol) (cubes : List Cube) (x : Numbered) (more : List Numbered) (b : Added) (rest : List Added) → (IsCovered p cubes x.cube → ⊥) → (IsStartCube p b.cube → ⊥) → Adds p cubes (x ∷ more) (b ∷ rest)
    → Adds p (cubes ++ b.cube ∷ []) more rest
one_whole p cubes x more b rest free good (inl (c, h)) = absurd (free c)
one_whole p cubes x more b rest free good (inr (added, inl (s, none))) = absurd (good s)
one_whole p cubes x more b rest free good (inr (added, inr (g, h))) = h

over_whole : (p : Protocol) (cubes : List Cube) (x : Numbered) (more : List Numbered) (rest : List Added) → IsCovered p cubes x.cube → Adds p cubes (x ∷ more) rest → Adds p cubes more rest
over_whole p cubes x more [] covered (c, h) = h
over_whole p cubes x more (a ∷ rest) covered (inl (c, h)) = h
over_whole p cubes x more (a ∷ rest) covered (inr (added, h)) = absurd (added.uncovered covered)

-- ---- the pieces so far
pub admitted_none : (p : Protocol) (cubes : List Cube) (items : List Added) (room : ℕ) → AreAdmitted p cubes items room [] [] false
admitted_none p cubes items room = record {
  taken = refl;
  inside = omega arith;
  within = omega arith;
  adds = inr (refl, λ more rest h. subst (λ cs. Adds p cs more rest) (append-nil cubes) h);
  some = inr (refl, λ more rest h. subst (λ cs. AddsSome p cs more rest) (append-nil cubes) h);
  next = λ more a rest h. (refl, subst (λ cs. AddsSome p cs more (a ∷ rest)) (sym (append-nil cubes)) h);
  whole = λ f more rest h. subst (λ cs. Adds p cs more rest) (sym (append-nil cubes)) h;
  exact = λ k d below. absurd (omega arith);
  fit = λ k d below. absurd (omega arith);
}

module _ (p : Protocol) (cubes : List Cube) (items : List Added) (room : ℕ) (done : List Numbered) (x : Numbered) (picks : List Pick) where
  pub admitted_over : IsCovered p (cubes ++ pick_cubes picks) x.cube → AreAdmitted p cubes items room done picks false → AreAdmitted p cubes items room (done ++ x ∷ []) picks false
  admitted_over covered are = record {
    taken = are.taken;
    inside = are.inside;
    within = are.within;
    adds = adds_over p cubes done x picks covered are.adds;
    some = some are.some;
    next = λ more a rest h.
        let (f, left) = are.next (x ∷ more) a rest (subst (λ ys. AddsSome p cubes ys (map added_of picks ++ a ∷ rest)) (one_more done more x) h) in
        (f, over_some p (cubes ++ pick_cubes picks) x more a rest covered left);
    whole = λ f more rest h. over_whole p (cubes ++ pick_cubes picks) x more rest covered (are.whole f (x ∷ more) rest (subst (λ ys. Adds p cubes ys (map added_of picks ++ rest)) (one_more done more x) h));
    exact = are.exact;
    fit = are.fit;
  }
    where
      some : SomeSoFar p cubes done picks false → SomeSoFar p cubes (done ++ x ∷ []) picks false
      some (inl (t, all)) = cc
      some (inr (f, so)) = inr (
        f,
        λ more rest h.
            subst (λ ys. AddsSome p cubes ys (map added_of picks ++ rest)) (sym (one_more done more x)) (so (x ∷ more) rest (some_over p (cubes ++ pick_cubes picks) x more rest covered h)),
      )

  pub admitted_one : (new : List Pick) (k : Pick) → IsAdded p (cubes ++ pick_cubes picks) x (added_of k) → added_of k ≡ get_or items (length picks) no_added → length picks < length items → length picks < room
      → new ≡ picks ++ k ∷ [] → IsExact p cubes k → IsFit p widest greatest_asked k.cube → AreAdmitted p cubes items room done picks false → AreAdmitted p cubes items room (done ++ x ∷ []) new k.starts
  admitted_one new k added is below room_left pushed exact fit are = record {
    taken = taken;
    inside = omega (arith, count, below);
    within = omega (arith, count, room_left);
    adds = adds_one p cubes done x picks new k added pushed exact.starts are.adds;
    some = some k.starts refl are.some;
    next = next;
    whole = whole;
    exact = pushed_all (IsExact p cubes) picks new k pushed are.exact exact;
    fit = pushed_all (λ (j : Pick). IsFit p widest greatest_asked j.cube) picks new k pushed are.fit fit;
  }
    where
      count : length new ≡ length picks + 1
      count = ap length pushed ∙ length-append picks (k ∷ [])

      taken : map added_of new ≡ take (length new) items
      taken = sym (append-nil (map added_of new)) ∙ (sym (more_picks picks new k [] pushed)
          ∙ (ap (λ as'. as' ++ added_of k ∷ []) are.taken ∙ (ap (λ a. take (length picks) items ++ a ∷ []) is ∙ (sym (take_more items (length picks) no_added below) ∙ ap (λ n. take n items) (sym count)))))

      some : (b : Bool) → k.starts ≡ b → SomeSoFar p cubes done picks false → SomeSoFar p cubes (done ++ x ∷ []) new b
      some b e (inl (t, all)) = cc
      some true e (inr (f, so)) = inl (
        refl,
        λ more.
            subst (λ ys. AddsSome p cubes ys (map added_of new)) (sym (one_more done more x))
            (subst (AddsSome p cubes (done ++ x ∷ more)) (more_picks picks new k [] pushed ∙ append-nil (map added_of new))
            (so (x ∷ more) (added_of k ∷ []) (inr (added, inl (exact.starts.0 e, refl))))),
      )
      some false e (inr (f, so)) = inr (
        refl,
        λ more rest h.
            subst (λ ys. AddsSome p cubes ys (map added_of new ++ rest)) (sym (one_more done more x))
            (subst (AddsSome p cubes (done ++ x ∷ more)) (more_picks picks new k rest pushed)
            (so (x ∷ more) (added_of k ∷ rest) (inr (added, inr (λ t. let u = exact.starts.1 t in cc, subst (λ cs. AddsSome p cs more rest) (more_cubes cubes picks new k pushed) h))))),
      )

      good_is : (b : Bool) → k.starts ≡ b → (IsStartCube p k.cube → ⊥) → k.starts ≡ false
      good_is true e good = absurd (good (exact.starts.0 e))
      good_is false e good = e

      next : (more : List Numbered) (a : Added) (rest : List Added) → AddsSome p cubes ((done ++ x ∷ []) ++ more) (map added_of new ++ a ∷ rest) → (k.starts ≡ false) × AddsSome p (cubes ++ pick_cubes new) more (a ∷ rest)
      next more a rest h =
          let (f, left) = are.next (x ∷ more) (added_of k) (a ∷ rest)
          (subst (AddsSome p cubes (done ++ x ∷ more)) (sym (more_picks picks new k (a ∷ rest) pushed)) (subst (λ ys. AddsSome p cubes ys (map added_of new ++ a ∷ rest)) (one_more done more x) h)) in
          let (good, further) = one_some p (cubes ++ pick_cubes picks) x more (added_of k) a rest added.uncovered left in
          (good_is k.starts refl good, subst (λ cs. AddsSome p cs more (a ∷ rest)) (sym (more_cubes cubes picks new k pushed)) further)

      whole : k.starts ≡ false → (more : List Numbered) (rest : List Added) → Adds p cubes ((done ++ x ∷ []) ++ more) (map added_of new ++ rest) → Adds p (cubes ++ pick_cubes new) more rest
      whole f more rest h =
          let left = are.whole refl (x ∷ more) (added_of k ∷ rest)
          (subst (Adds p cubes (done ++ x ∷ more)) (sym (more_picks picks new k rest pushed)) (subst (λ ys. Adds p cubes ys (map added_of new ++ rest)) (one_more done more x) h)) in
          subst (λ cs. Adds p cs more rest) (sym (more_cubes cubes picks new k pushed))
          (one_whole p (cubes ++ pick_cubes picks) x more (added_of k) rest added.uncovered (λ t. let u = exact.starts.1 t in cc) left)

  pub admitted_past : AreAdmitted p cubes items room done picks true → AreAdmitted p cubes items room (done ++ x ∷ []) picks true
  admitted_past are = record {
    taken = are.taken;
    inside = are.inside;
    within = are.within;
    adds = adds_past p cubes done x picks are.adds;
    some = some are.some;
    next = λ more a rest h. let (f, left) = are.next (x ∷ more) a rest (subst (λ ys. AddsSome p cubes ys (map added_of picks ++ a ∷ rest)) (one_more done more x) h) in cc;
    whole = λ f more rest h. cc;
    exact = are.exact;
    fit = are.fit;
  }
    where
      some : SomeSoFar p cubes done picks true → SomeSoFar p cubes (done ++ x ∷ []) picks true
      some (inl (t, all)) = inl (t, λ more. subst (λ ys. AddsSome p cubes ys (map added_of picks)) (sym (one_more done more x)) (all (x ∷ more)))
      some (inr (f, so)) = cc

-- the item is added for the piece
pub item_added : (p : Protocol) (cubes : List Cube) (x : Numbered) (item a : Added) → (IsCovered p cubes x.cube → ⊥) → a ≡ item → (item.piece ≡ x.number) × IsForm p x.cube item.places item.cube → IsAdded p cubes x a
item_added p cubes x item a free same (number, form) = subst (IsAdded p cubes x) (sym same) (record { uncovered = free; numbered = number; form = form })

-- ---- where it stops
module _ (p : Protocol) (cubes : List Cube) (items : List Added) (room : ℕ) (list : List Numbered) (picks : List Pick) where
  stopped_before : (done more : List Numbered) (ended : Bool) → done ++ more ≡ list → SomeSoFar p cubes done picks ended → AddsSome p cubes list (map added_of picks)
  stopped_before done more ended split (inl (t, all)) = subst (λ ys. AddsSome p cubes ys (map added_of picks)) split (all more)
  stopped_before done more ended split (inr (f, so)) =
      subst (λ ys. AddsSome p cubes ys (map added_of picks)) split (subst (AddsSome p cubes (done ++ more)) (append-nil (map added_of picks)) (so more [] tt))

  -- one more item than were taken
  taken_one : map added_of picks ≡ take (length picks) items → length picks < length items → take (length picks + 1) items ≡ map added_of picks ++ get_or items (length picks) no_added ∷ []
  taken_one taken below = take_more items (length picks) no_added below ∙ ap (λ as'. as' ++ get_or items (length picks) no_added ∷ []) (sym taken)

  pub stopped : (i : ℕ) (x : Numbered) (ended : Bool) → i < length list → x ≡ get_or list i x → ended ≡ false → IsStopped p cubes items room picks x → AreAdmitted p cubes items room (take i list) picks ended
      → IsFirstUnfit p cubes list items room (length picks)
  stopped i x ended below is f stop are = record {
    before = subst (AddsSome p cubes list) are.taken (stopped_before (take i list) (drop i list) ended (take-append-drop i list) are.some);
    within = are.within;
    inside = are.inside;
    unfit = λ less. unfit less (stop.unfit less);
    lacking = λ all h. lacking (are.whole f (x ∷ drop (i + 1) list) [] (subst (Adds p cubes (take i list ++ x ∷ drop (i + 1) list)) (sym (append-nil (map added_of picks) ∙ (are.taken ∙ take_all (length picks) items (omega arith))))
        (subst (λ ys. Adds p cubes ys items) (sym split) h)));
  }
    where
      split : take i list ++ x ∷ drop (i + 1) list ≡ list
      split = ap (λ y. take i list ++ y ∷ drop (i + 1) list) is ∙ (ap (λ ys. take i list ++ ys) (sym (drop_more list i x below)) ∙ take-append-drop i list)

      lacking : Adds p (cubes ++ pick_cubes picks) (x ∷ drop (i + 1) list) [] → ⊥
      lacking (c, h) = stop.uncovered c

      not_next : (IsAdded p (cubes ++ pick_cubes picks) x (get_or items (length picks) no_added) → ⊥) → AddsSome p (cubes ++ pick_cubes picks) (x ∷ drop (i + 1) list) (get_or items (length picks) no_added ∷ []) → ⊥
      not_next no_form (inl (c, h)) = stop.uncovered c
      not_next no_form (inr (added, h)) = no_form added

      unfit : length picks < length items → (room ≤ length picks) ⊎ (IsAdded p (cubes ++ pick_cubes picks) x (get_or items (length picks) no_added) → ⊥) → (room ≤ length picks) ⊎ (AddsSome p cubes list (take (length picks + 1) items) → ⊥)
      unfit less (inl full) = inl full
      unfit less (inr no_form) = inr (λ h. not_next no_form
          (are.next (x ∷ drop (i + 1) list) (get_or items (length picks) no_added) []
          (subst (λ ys. AddsSome p cubes ys (map added_of picks ++ get_or items (length picks) no_added ∷ [])) (sym split) (subst (AddsSome p cubes list) (taken_one are.taken less) h))).1)

  -- all pieces are gone through, and an item is left
  pub left_over : (ended : Bool) → length picks < length items → AreAdmitted p cubes items room list picks ended → IsFirstUnfit p cubes list items room (length picks)
  left_over ended less are = record {
    before = subst (AddsSome p cubes list) are.taken (stopped_before list [] ended (append-nil list) are.some);
    within = are.within;
    inside = are.inside;
    unfit = λ below. inr (λ h. none ((are.next [] (get_or items (length picks) no_added) []
        (subst (λ ys. AddsSome p cubes ys (map added_of picks ++ get_or items (length picks) no_added ∷ [])) (sym (append-nil list)) (subst (AddsSome p cubes list) (taken_one are.taken below) h))).1));
    lacking = λ all h. absurd (omega arith);
  }
    where
      none : AddsSome p (cubes ++ pick_cubes picks) [] (get_or items (length picks) no_added ∷ []) → ⊥
      none h = h

  pub all_admitted : (ended : Bool) → length items ≤ length picks → AreAdmitted p cubes items room list picks ended → AreAllAdmitted p cubes list items picks
  all_admitted ended past are = record {
    are = record { adds = adds_all p cubes list picks ended are.adds; exact = are.exact; fit = are.fit };
    all = are.taken ∙ take_all (length picks) items past;
  }

-- one more piece of the list, and all
pub admitted_more : (p : Protocol) (cubes : List Cube) (items : List Added) (room : ℕ) (list : List Numbered) (i : ℕ) (x : Numbered) (picks : List Pick) (ended : Bool) → i < length list → x ≡ get_or list i x
    → AreAdmitted p cubes items room (take i list ++ x ∷ []) picks ended → AreAdmitted p cubes items room (take (i + 1) list) picks ended
admitted_more p cubes items room list i x picks ended below is =
    subst (λ ys. AreAdmitted p cubes items room ys picks ended) (sym (take_more list i x below ∙ ap (λ y. take i list ++ y ∷ []) (sym is)))

pub admitted_all : (p : Protocol) (cubes : List Cube) (items : List Added) (room : ℕ) (list : List Numbered) (i : ℕ) (picks : List Pick) (ended : Bool) → length list ≤ i
    → AreAdmitted p cubes items room (take i list) picks ended → AreAdmitted p cubes items room list picks ended
admitted_all p cubes items room list i picks ended past = subst (λ ys. AreAdmitted p cubes items room ys picks ended) (take_all i list past)

-- ---- what a call answered of equal lists
pub step_of : (p : Protocol) (old cubes : List Cube) (items : List Added) (room : ℕ) (picks new : List Pick) (ended : Bool) (x : Numbered) (step : Step) → old ≡ cubes → AdmitsPiece p old items room picks ended x step new
    → AdmitsPiece p cubes items room picks ended x step new
step_of p old cubes items room picks new ended x step same = subst (λ cs. AdmitsPiece p cs items room picks ended x step new) same
