-- The updates of a transition together: without faults each target's update fits, and the targets rise.
use Rattle.std.proofs.Common.{◌≡◌, ℕ, ◌+◌, ◌≤◌, pos, Bool, true, false, List, [], ◌∷◌, ◌++◌, length, map, Option, Some, None, refl, sym, ap, ◌∙◌, subst, arith, nat_lt, nat_le, cond}
use Rattle.std.specs.Prelude.{if◌then◌else◌, IfSome, ◌&&◌, ◌||◌, not, ◌==◌, unsigned_abs, unwrap_or, flat_map, find}
use Rattle.std.specs.List.{list_all, list_any}
use Rattle.std.proofs.lemmas.List.{length-map, length-append}
use Rattle.std.proofs.lemmas.List.Folds.{list_all-append, list_any-append}
use Rattle.std.proofs.lemmas.Bool.Decides.{nat_tests}
use Rattle.cub_base.proofs.Bools.{and_left, and_right, and_both, le_is, is_le, less_is, is_less, same_is, same_refl, or_intro_left, or_intro_right}
use Rattle.cub_parse.specs.declared.tree.Leaf.{Leaf}
use Rattle.cub_parse.specs.declared.tree.UpdateNode.{UpdateNode}
use Rattle.cub_proto.specs.declared.literal.Sort.{Sort}
use Rattle.cub_proto.specs.declared.literal.Lit.{Lit}
use Rattle.cub_proto.specs.declared.literal.Value.{Value}
use Rattle.cub_proto.specs.declared.transition.Target.{Target}
use Rattle.cub_proto.specs.declared.transition.Branch.{Branch}
use Rattle.cub_proto.specs.Signature.{Signature, declared_sort, is_sort, same_sort, target_sort}
use Rattle.cub_proto.specs.Fits.{literal_fits, is_bounded, greatest_bound, conjunction_fits, value_fits, branch_fits, update_width, update_fits_sort, update_fits}
use Rattle.cub_names.specs.declared.fault.TypeKind.TheVariants as t
use Rattle.cub_names.specs.declared.scope.Local.{Local}
use Rattle.cub_names.specs.Checked.{fault, has_value}
use Rattle.cub_names.specs.Meaning.{Frame}
use Rattle.cub_names.specs.Scope.{scope_fits}
use Rattle.cub_names.proofs.Empty.{nil_left, nil_right}
use Rattle.cub_types.specs.declared.written.Aim.{Aim}
use Rattle.cub_types.specs.declared.written.Case.{Case}
use Rattle.cub_types.specs.declared.written.Written.{Written}
use Rattle.cub_types.specs.declared.updating.Updating.{Updating}
use Rattle.cub_types.specs.Writes as w
use Rattle.cub_types.specs.Joined as j
use Rattle.cub_types.specs.Typed.{has_truths}
use Rattle.cub_types.proofs.FormFolds.{Each}
use Rattle.cub_types.proofs.UpdatesFit.{aim_width, AimFits, cond_fits, CaseFits, UpdateFits, WrittenFits, written_fits}

each_push : {A : Type 0} (P : A → Type 0) (xs : List A) (x : A) → Each P xs → P x → Each P (xs ++ x ∷ [])
each_push P [] x h k = (k, tt)
each_push P (y ∷ ys) x h k = (h.0, each_push P ys x h.1 k)

each_weaker : {A : Type 0} (P Q : A → Type 0) → ((x : A) → P x → Q x) → (xs : List A) → Each P xs → Each Q xs
each_weaker P Q weaker [] h = tt
each_weaker P Q weaker (x ∷ xs) h = (weaker x h.0, each_weaker P Q weaker xs h.1)

-- the process globals that take any value
among_by : (taken : List ℕ) (m n : ℕ) (b : Bool) → j.is_among taken n ≡ true → j.is_among (if b then taken else taken ++ m ∷ []) n ≡ true
among_by taken m n true h = h
among_by taken m n false h = list_any-append (λ x. x == n) taken (m ∷ []) ∙ or_intro_left (j.is_among taken n) (m == n || false) h

among_more : (taken : List ℕ) (found : Option (ℕ × Leaf)) (n : ℕ) → j.is_among taken n ≡ true → j.is_among (j.takes taken found) n ≡ true
among_more taken None n h = h
among_more taken (Some found) n h = among_by taken found.0 n (j.is_among taken found.0) h

taken_by : (taken : List ℕ) (n : ℕ) (b : Bool) → j.is_among taken n ≡ b → j.is_among (if b then taken else taken ++ n ∷ []) n ≡ true
taken_by taken n true is = is
taken_by taken n false is =
    list_any-append (λ x. x == n) taken (n ∷ []) ∙ or_intro_right (j.is_among taken n) (n == n || false) (or_intro_left (n == n) false (same_refl n))

among_taken : (taken : List ℕ) (found : Option (ℕ × Leaf)) → IfSome found (λ f. j.is_among (j.takes taken found) f.0 ≡ true)
among_taken taken None = tt
among_taken taken (Some found) = taken_by taken found.0 (j.is_among taken found.0) refl

few_by : (params : ℕ) (taken : List ℕ) (n token : ℕ) (b c : Bool) → nat_lt 3 (params + (length taken + 1)) ≡ c → (if b then [] else (if c then fault token t.T19 ∷ [] else [])) ≡ []
    → params + length taken ≤ 3 → params + length (if b then taken else taken ++ n ∷ []) ≤ 3
few_by params taken n token true c is none few = few
few_by params taken n token false true is none few = cc
few_by params taken n token false false is none few =
    let within : params + (length taken + 1) ≤ 3 = grind (arith, nat_tests) in
    omega (arith, within, length-append taken (n ∷ []))

few_more : (params : ℕ) (taken : List ℕ) (found : Option (ℕ × Leaf)) → j.taker_faults params taken found ≡ [] → params + length taken ≤ 3 → params + length (j.takes taken found) ≤ 3
few_more params taken None none few = few
few_more params taken (Some found) none few =
    few_by params taken found.0 found.1.number (j.is_among taken found.0) (nat_lt 3 (params + (length taken + 1))) refl none few

-- an update that is kept
pub record KeptFits (sig : Signature) (params : ℕ) (taken : List ℕ) (x : Written) : Type 0 where
  pub whole : w.is_whole x ≡ true
  pub fits : WrittenFits sig params x
  pub among : IfSome (j.taker_of x) (λ f. j.is_among taken f.0 ≡ true)

pub record Ready (sig : Signature) (params : ℕ) (u : Updating) : Type 0 where
  pub kept : Each (KeptFits sig params u.taken) u.kept
  pub few : params + length u.taken ≤ 3

among_weaker : (taken : List ℕ) (found : Option (ℕ × Leaf)) (own : Option (ℕ × Leaf)) → IfSome own (λ f. j.is_among taken f.0 ≡ true) → IfSome own (λ f. j.is_among (j.takes taken found) f.0 ≡ true)
among_weaker taken found None h = tt
among_weaker taken found (Some f) h = among_more taken found f.0 h

keeps_by : (P : Written → Type 0) (kept : List Written) (x : Written) (b : Bool) → Each P kept → P x → Each P (if b then kept ++ x ∷ [] else kept)
keeps_by P kept x true h k = each_push P kept x h k
keeps_by P kept x false h k = h

module _ (frame : Frame) (truths : has_truths frame.sig ≡ true) (params : ℕ) (scope : List Local) (within : scope_fits params scope ≡ true) where
  abbrev at : UpdateNode → Written
  at n = w.written frame scope params n

  whole_before : (u : Updating) (ns : List UpdateNode) → (j.updating frame scope params u ns).whole ≡ true → u.whole ≡ true
  whole_before u [] h = h
  whole_before u (n ∷ ns) h = and_left u.whole (w.is_whole (at n)) (whole_before (j.joined u (at n)) ns h)

  joined_ready : (u : Updating) (n : UpdateNode) → Ready frame.sig params u → w.is_whole (at n) ≡ true → j.update_faults frame scope params u n ≡ [] → Ready frame.sig params (j.joined u (at n))
  joined_ready u n ready whole none =
      let own = nil_left (w.written_faults frame scope params n) (j.joined_faults params u (at n)) none in
      let others = nil_right (w.written_faults frame scope params n) (j.joined_faults params u (at n)) none in
      let found = j.taker_of (at n) in
      record {
        kept = keeps_by (KeptFits frame.sig params (j.takes u.taken found)) u.kept (at n) (has_value (at n).aim && not (j.is_again u.kept (at n).aim))
            (each_weaker (KeptFits frame.sig params u.taken) (KeptFits frame.sig params (j.takes u.taken found))
            (λ x h. record { whole = h.whole; fits = h.fits; among = among_weaker u.taken found (j.taker_of x) h.among }) u.kept ready.kept)
            (record { whole = whole; fits = written_fits frame truths params scope within n own; among = among_taken u.taken found });
        few = few_more params u.taken found (nil_right (j.again_faults u.kept (at n)) (j.taker_faults params u.taken found) others) ready.few;
      }

  pub updating_ready : (u : Updating) (ns : List UpdateNode) → Ready frame.sig params u → (j.updating frame scope params u ns).whole ≡ true → j.updating_faults frame scope params u ns ≡ []
      → Ready frame.sig params (j.updating frame scope params u ns)
  updating_ready u [] ready whole none = ready
  updating_ready u (n ∷ ns) ready whole none =
      let next = j.joined u (at n) in
      updating_ready next ns
      (joined_ready u n ready (and_right u.whole (w.is_whole (at n)) (whole_before next ns whole)) (nil_left (j.update_faults frame scope params u n) (j.updating_faults frame scope params next ns) none))
      whole (nil_right (j.update_faults frame scope params u n) (j.updating_faults frame scope params next ns) none)

same_sort_is : (a b : Sort) → same_sort a b ≡ true → a ≡ b
same_sort_is (Sort.Fin m) (Sort.Fin n) h = ap Sort.Fin (same_is m n h)
same_sort_is (Sort.Fin m) Sort.Proc h = cc
same_sort_is (Sort.Fin m) Sort.Int h = cc
same_sort_is Sort.Proc (Sort.Fin n) h = cc
same_sort_is Sort.Proc Sort.Proc h = refl
same_sort_is Sort.Proc Sort.Int h = cc
same_sort_is Sort.Int (Sort.Fin n) h = cc
same_sort_is Sort.Int Sort.Proc h = cc
same_sort_is Sort.Int Sort.Int h = refl

pub sort_is : (found : Option Sort) (sort : Sort) → is_sort found sort ≡ true → found ≡ Some sort
sort_is None sort h = cc
sort_is (Some other) sort h = ap Some (same_sort_is other sort h)

pub aim_there : (target : Target) (found : Option Aim) → j.is_aimed target found ≡ true → (aim : Aim) × (found ≡ Some aim)
aim_there target None h = cc
aim_there target (Some aim) h = (aim, refl)

module _ (sig : Signature) (params : ℕ) where
  -- what an update for a target writes has the target's sort and width
  pub aimed : (target : Target) (aim : Aim) → j.is_aimed target (Some aim) ≡ true → AimFits sig params aim
      → (target_sort sig target ≡ Some (w.sort_of_aim aim)) × (update_width params target ≡ aim_width params aim)
  aimed (Target.Global g) (Aim.Global h sort) is fits = (ap (declared_sort sig.globals) (same_is g h is) ∙ sort_is (declared_sort sig.globals h) sort fits, refl)
  aimed (Target.Global g) (Aim.At a sort param) is fits = cc
  aimed (Target.Global g) (Aim.Whole a sort) is fits = cc
  aimed (Target.Array a) (Aim.Global h sort) is fits = cc
  aimed (Target.Array a) (Aim.At b sort param) is fits = (ap (declared_sort sig.arrays) (same_is a b is) ∙ sort_is (declared_sort sig.arrays b) sort fits.0, refl)
  aimed (Target.Array a) (Aim.Whole b sort) is fits = (ap (declared_sort sig.arrays) (same_is a b is) ∙ sort_is (declared_sort sig.arrays b) sort fits, refl)

  -- the first literals of an update's conditions
  record FrontFits (aim : Aim) (front : List Lit) : Type 0 where
    size : length front ≡ w.added (Some aim)
    lits : list_all (literal_fits sig (aim_width params aim)) front ≡ true
    bounds : list_all (is_bounded greatest_bound) front ≡ true

  front_fits : (aim : Aim) → AimFits sig params aim → FrontFits aim (j.first_literals params (Some aim))
  front_fits (Aim.Global g sort) fits = record { size = refl; lits = refl; bounds = refl }
  front_fits (Aim.Whole a sort) fits = record { size = refl; lits = refl; bounds = refl }
  front_fits (Aim.At a sort param) fits = record {
    size = refl;
    lits = and_both (nat_lt param (params + 1) && nat_lt params (params + 1)) true
        (and_both (nat_lt param (params + 1)) (nat_lt params (params + 1)) (is_less param (params + 1) (omega (arith, less_is param params fits.1))) (is_less params (params + 1) (omega arith))) refl;
    bounds = refl;
  }

  module _ (aim : Aim) where
    abbrev W : ℕ
    W = aim_width params aim

    abbrev S : Sort
    S = w.sort_of_aim aim

    abbrev BranchesFit : List Branch → Type 0
    BranchesFit branches = list_all (branch_fits sig W S) branches ≡ true

    branches_join : (xs ys : List Branch) → BranchesFit xs → BranchesFit ys → BranchesFit (xs ++ ys)
    branches_join xs ys h k = list_all-append (branch_fits sig W S) xs ys ∙ and_both (list_all (branch_fits sig W S) xs) (list_all (branch_fits sig W S) ys) h k

    joined_cond : (front c : List Lit) → FrontFits aim front → cond_fits sig W (w.added (Some aim)) c ≡ true → conjunction_fits sig W (front ++ c) ≡ true
    joined_cond front c fr h =
        let more = w.added (Some aim) in
        let lits = list_all (literal_fits sig W) in
        let bounds = list_all (is_bounded greatest_bound) in
        let short = le_is (length c + more) 64 (and_left (nat_le (length c + more) 64) (lits c && bounds c) h) in
        let rest = and_right (nat_le (length c + more) 64) (lits c && bounds c) h in
        and_both (nat_le (length (front ++ c)) 64 && lits (front ++ c)) (bounds (front ++ c))
        (and_both (nat_le (length (front ++ c)) 64) (lits (front ++ c)) (is_le (length (front ++ c)) 64 (omega (arith, length-append front c, fr.size, short)))
        (list_all-append (literal_fits sig W) front c ∙ and_both (lits front) (lits c) fr.lits (and_left (lits c) (bounds c) rest)))
        (list_all-append (is_bounded greatest_bound) front c ∙ and_both (bounds front) (bounds c) fr.bounds (and_right (lits c) (bounds c) rest))

    alternatives_fit : (front : List Lit) → FrontFits aim front → (list : List (List Lit)) → list_all (cond_fits sig W (w.added (Some aim))) list ≡ true → (v : Value) → value_fits sig W S v ≡ true
        → BranchesFit (map (λ c. record { cond = front ++ c; value = v }) list)
    alternatives_fit front fr [] h v k = refl
    alternatives_fit front fr (c ∷ cs) h v k =
        let more = w.added (Some aim) in
        and_both (conjunction_fits sig W (front ++ c) && value_fits sig W S v) (list_all (branch_fits sig W S) (map (λ d. record { cond = front ++ d; value = v }) cs))
        (and_both (conjunction_fits sig W (front ++ c)) (value_fits sig W S v) (joined_cond front c fr (and_left (cond_fits sig W more c) (list_all (cond_fits sig W more) cs) h)) k)
        (alternatives_fit front fr cs (and_right (cond_fits sig W more c) (list_all (cond_fits sig W more) cs) h) v k)

    case_by : (front : List Lit) → FrontFits aim front → (conds : Option (List (List Lit))) (value : Option Value) → has_value value ≡ true
        → IfSome conds (λ list. list_all (cond_fits sig W (w.added (Some aim))) list ≡ true) → IfSome value (λ v. value_fits sig W S v ≡ true)
        → BranchesFit (map (λ c. record { cond = front ++ c; value = unwrap_or value Value.Any }) (unwrap_or conds []))
    case_by front fr None value there h k = refl
    case_by front fr (Some list) None there h k = cc
    case_by front fr (Some list) (Some v) there h k = alternatives_fit front fr list h v k

    cases_by : (front : List Lit) → FrontFits aim front → (cases : List Case) → list_all w.is_whole_case cases ≡ true → Each (CaseFits sig params aim) cases
        → BranchesFit (flat_map (j.case_branches front) cases)
    cases_by front fr [] whole h = refl
    cases_by front fr (c ∷ cs) whole h =
        branches_join (j.case_branches front c) (flat_map (j.case_branches front) cs)
        (case_by front fr c.conds c.value (and_right (has_value c.conds) (has_value c.value) (and_left (w.is_whole_case c) (list_all w.is_whole_case cs) whole)) h.0.conds h.0.value)
        (cases_by front fr cs (and_right (w.is_whole_case c) (list_all w.is_whole_case cs) whole) h.1)

    last_by : (lits : List Lit) (v : Value) → list_all (literal_fits sig W) lits ≡ true → list_all (is_bounded greatest_bound) lits ≡ true → value_fits sig W S v ≡ true
        → BranchesFit (map (λ l. record { cond = l ∷ []; value = v }) lits)
    last_by [] v h b k = refl
    last_by (l ∷ ls) v h b k =
        let lit = literal_fits sig W l in
        let bound = is_bounded greatest_bound l in
        and_both (conjunction_fits sig W (l ∷ []) && value_fits sig W S v) (list_all (branch_fits sig W S) (map (λ m. record { cond = m ∷ []; value = v }) ls))
        (and_both (conjunction_fits sig W (l ∷ [])) (value_fits sig W S v)
        (and_both (true && (lit && true)) (bound && true)
        (and_both true (lit && true) refl (and_both lit true (and_left lit (list_all (literal_fits sig W) ls) h) refl))
        (and_both bound true (and_left bound (list_all (is_bounded greatest_bound) ls) b) refl)) k)
        (last_by ls v (and_right lit (list_all (literal_fits sig W) ls) h) (and_right bound (list_all (is_bounded greatest_bound) ls) b) k)

    last_there : (lits : List Lit) (last : Option Value) → has_value last ≡ true → IfSome last (λ v. value_fits sig W S v ≡ true) → FrontFits aim lits
        → BranchesFit (map (λ l. record { cond = l ∷ []; value = unwrap_or last Value.Any }) lits)
    last_there lits None there h fr = cc
    last_there lits (Some v) there h fr = last_by lits v fr.lits fr.bounds h

  record WholeParts (x : Written) : Type 0 where
    cases : list_all w.is_whole_case x.cases ≡ true
    last : has_value x.last ≡ true

  whole_parts : (x : Written) → w.is_whole x ≡ true → WholeParts x
  whole_parts x h =
      let front = and_left (has_value x.aim && list_all w.is_whole_case x.cases) (has_value x.last) h in
      record { cases = and_right (has_value x.aim) (list_all w.is_whole_case x.cases) front; last = and_right (has_value x.aim && list_all w.is_whole_case x.cases) (has_value x.last) h }

  -- the branches that an update brings
  own_branches : (x : Written) (aim : Aim) → x.aim ≡ Some aim → w.is_whole x ≡ true → UpdateFits sig params x.cases x.last aim → BranchesFit aim (j.branches_of params x)
  own_branches x aim is whole h =
      let parts = whole_parts x whole in
      let front = j.first_literals params x.aim in
      let fr = subst (FrontFits aim) (ap (j.first_literals params) (sym is)) (front_fits aim h.aim_fits) in
      branches_join aim (flat_map (j.case_branches front) x.cases) (j.last_branches params x)
      (cases_by aim front fr x.cases parts.cases h.cases_fit) (last_there aim front x.last parts.last h.last_fits fr)

  itself_fits : (a : ℕ) (sort : Sort) → is_sort (declared_sort sig.arrays a) sort ≡ true → value_fits sig (params + 1) sort (j.itself params a sort) ≡ true
  itself_fits a (Sort.Fin n) h = and_both (is_sort (declared_sort sig.arrays a) (Sort.Fin n)) (nat_lt params (params + 1)) h (is_less params (params + 1) (omega arith))
  itself_fits a Sort.Proc h = refl
  itself_fits a Sort.Int h =
      let sorted = is_sort (declared_sort sig.arrays a) Sort.Int in
      and_both (sorted && nat_lt params (params + 1)) (nat_le (unsigned_abs (pos 0)) 1000000000) (and_both sorted (nat_lt params (params + 1)) h (is_less params (params + 1) (omega arith))) refl

  last_value : (aim : Aim) (last : Option Value) → AimFits sig params aim → has_value last ≡ true → IfSome last (λ v. value_fits sig (aim_width params aim) (w.sort_of_aim aim) v ≡ true)
      → value_fits sig (aim_width params aim) (w.sort_of_aim aim) (j.last_of params (Some aim) last) ≡ true
  last_value (Aim.At a sort param) last fits there h = itself_fits a sort fits.0
  last_value (Aim.Global g sort) None fits there h = cc
  last_value (Aim.Global g sort) (Some v) fits there h = h
  last_value (Aim.Whole a sort) None fits there h = cc
  last_value (Aim.Whole a sort) (Some v) fits there h = h

  module _ (taken : List ℕ) where
    abbrev Kept : Written → Type 0
    Kept x = KeptFits sig params taken x

    -- an update for the target, by its aim
    record ForTarget (target : Target) (sort : Sort) (x : Written) : Type 0 where
      aim : Aim
      is : x.aim ≡ Some aim
      fits : UpdateFits sig params x.cases x.last aim
      its_sort : w.sort_of_aim aim ≡ sort
      its_width : aim_width params aim ≡ update_width params target

    for_target : (target : Target) (sort : Sort) (x : Written) → target_sort sig target ≡ Some sort → j.is_for target x ≡ true → Kept x → ForTarget target sort x
    for_target target sort x declared is kept =
        let found = aim_there target x.aim is in
        let fits = subst (λ o. IfSome o (UpdateFits sig params x.cases x.last)) found.1 kept.fits.fits in
        let both = aimed target found.0 (subst (λ o. j.is_aimed target o ≡ true) found.1 is) fits.aim_fits in
        record { aim = found.0; is = found.1; fits = fits; its_sort = (let same = sym both.0 ∙ declared in cc); its_width = sym both.1 }

    for_branches : (target : Target) (sort : Sort) (x : Written) → Kept x → ForTarget target sort x → list_all (branch_fits sig (update_width params target) sort) (j.branches_of params x) ≡ true
    for_branches target sort x kept f =
        subst (λ s. list_all (branch_fits sig (update_width params target) s) (j.branches_of params x) ≡ true) f.its_sort
        (subst (λ n. list_all (branch_fits sig n (w.sort_of_aim f.aim)) (j.branches_of params x) ≡ true) f.its_width (own_branches x f.aim f.is kept.whole f.fits))

    branches_by : (target : Target) (sort : Sort) (x : Written) (b : Bool) → target_sort sig target ≡ Some sort → j.is_for target x ≡ b → Kept x
        → list_all (branch_fits sig (update_width params target) sort) (if b then j.branches_of params x else []) ≡ true
    branches_by target sort x true declared is kept = for_branches target sort x kept (for_target target sort x declared is kept)
    branches_by target sort x false declared is kept = refl

    all_branches : (target : Target) (sort : Sort) → target_sort sig target ≡ Some sort → (kept : List Written) → Each Kept kept
        → list_all (branch_fits sig (update_width params target) sort) (j.branches_for params target kept) ≡ true
    all_branches target sort declared [] h = refl
    all_branches target sort declared (x ∷ xs) h =
        let fit = branch_fits sig (update_width params target) sort in
        let here = if j.is_for target x then j.branches_of params x else [] in
        list_all-append fit here (j.branches_for params target xs)
        ∙ and_both (list_all fit here) (list_all fit (j.branches_for params target xs)) (branches_by target sort x (j.is_for target x) declared refl h.0) (all_branches target sort declared xs h.1)

-- how many branches an update brings
cases_length : (front : List Lit) (cases : List Case) → length (flat_map (j.case_branches front) cases) ≡ j.cases_count cases
cases_length front [] = refl
cases_length front (c ∷ cs) =
    omega (arith, length-append (j.case_branches front c) (flat_map (j.case_branches front) cs), length-map {B = Branch} (unwrap_or c.conds []) (λ d. record { cond = front ++ d; value = unwrap_or c.value Value.Any }), cases_length front cs)

branches_length : (params : ℕ) (x : Written) → length (j.branches_of params x) ≡ j.branch_count params x
branches_length params x =
    let front = j.first_literals params x.aim in
    omega (arith, length-append (flat_map (j.case_branches front) x.cases) (j.last_branches params x), cases_length front x.cases, length-map {B = Branch} front (λ l. record { cond = l ∷ []; value = unwrap_or x.last Value.Any }))

module _ (params : ℕ) (target : Target) where
  over_by : (x : Written) (xs : List Written) (total : ℕ) (b c : Bool) → nat_lt 64 (total + j.branch_count params x) ≡ c
      → (if b then (if c then fault x.token t.T17 ∷ [] else j.over_from params target (total + j.branch_count params x) xs) else j.over_from params target total xs) ≡ []
      → ((next : ℕ) → next ≤ 64 → j.over_from params target next xs ≡ [] → next + length (j.branches_for params target xs) ≤ 64)
      → total ≤ 64 → total + length ((if b then j.branches_of params x else []) ++ j.branches_for params target xs) ≤ 64
  over_by x xs total true true is none rest few = cc
  over_by x xs total true false is none rest few =
      let next : total + j.branch_count params x ≤ 64 = let e = is in grind (arith, nat_tests) in
      omega (arith, rest (total + j.branch_count params x) next none, length-append (j.branches_of params x) (j.branches_for params target xs), branches_length params x)
  over_by x xs total false c is none rest few = rest total few none

  over_fits : (total : ℕ) (kept : List Written) → total ≤ 64 → j.over_from params target total kept ≡ [] → total + length (j.branches_for params target kept) ≤ 64
  over_fits total [] few none = omega arith
  over_fits total (x ∷ xs) few none =
      over_by x xs total (j.is_for target x) (nat_lt 64 (total + j.branch_count params x)) refl none (λ next small left. over_fits next xs small left) few

none_refused : (cases : List Case) → list_all w.is_whole_case cases ≡ true → list_any j.is_refused_case cases ≡ false
none_refused [] h = refl
none_refused (c ∷ cs) h =
    by (has_value c.conds) (and_left (has_value c.conds) (has_value c.value) (and_left (w.is_whole_case c) (list_all w.is_whole_case cs) h)) (none_refused cs (and_right (w.is_whole_case c) (list_all w.is_whole_case cs) h))
  where
    by : (b : Bool) → b ≡ true → list_any j.is_refused_case cs ≡ false → (not b || list_any j.is_refused_case cs) ≡ false
    by true is rest = rest
    by false is rest = cc

and_false : (a b : Bool) → b ≡ false → (a && b) ≡ false
and_false true b h = h
and_false false b h = refl

or_false : (a b : Bool) → a ≡ false → b ≡ false → (a || b) ≡ false
or_false true b h k = cc
or_false false b h k = k

module _ (sig : Signature) (params : ℕ) (taken : List ℕ) where
  no_refused : (target : Target) (kept : List Written) → Each (KeptFits sig params taken) kept → list_any (λ x. j.is_for target x && list_any j.is_refused_case x.cases) kept ≡ false
  no_refused target [] h = refl
  no_refused target (x ∷ xs) h =
      or_false (j.is_for target x && list_any j.is_refused_case x.cases) (list_any (λ y. j.is_for target y && list_any j.is_refused_case y.cases) xs)
      (and_false (j.is_for target x) (list_any j.is_refused_case x.cases) (none_refused x.cases (whole_parts sig params x h.0.whole).cases)) (no_refused target xs h.1)

  few_branches : (target : Target) (kept : List Written) → Each (KeptFits sig params taken) kept → j.long_at params kept target ≡ [] → length (j.branches_for params target kept) ≤ 64
  few_branches target kept h none =
      omega (arith, over_fits params target 0 kept (omega arith) (subst (λ b. (if b then [] else j.over_from params target 0 kept) ≡ []) (no_refused target kept h) none))

  find_by : (target : Target) (x : Written) (xs : List Written) (b : Bool) → j.is_for target x ≡ b → KeptFits sig params taken x
      → IfSome (find (j.is_for target) xs) (λ y. KeptFits sig params taken y × (j.is_for target y ≡ true))
      → IfSome (cond b (Some x) (find (j.is_for target) xs)) (λ y. KeptFits sig params taken y × (j.is_for target y ≡ true))
  find_by target x xs true is h rest = (h, is)
  find_by target x xs false is h rest = rest

  pub found_fits : (target : Target) (kept : List Written) → Each (KeptFits sig params taken) kept → IfSome (find (j.is_for target) kept) (λ y. KeptFits sig params taken y × (j.is_for target y ≡ true))
  found_fits target [] h = tt
  found_fits target (x ∷ xs) h = find_by target x xs (j.is_for target x) refl h.0 (found_fits target xs h.1)

  module _ (kept : List Written) (all : Each (KeptFits sig params taken) kept) where
    update_of : (target : Target) (x : Written) → KeptFits sig params taken x → j.is_for target x ≡ true → length (j.branches_for params target kept) ≤ 64
        → update_fits sig params (record { target = target; branches = j.branches_for params target kept; last = j.last_of params x.aim x.last }) ≡ true
    update_of target x h is few =
        let found = aim_there target x.aim is in
        let fits = subst (λ o. IfSome o (UpdateFits sig params x.cases x.last)) found.1 h.fits.fits in
        let both = aimed sig params target found.0 (subst (λ o. j.is_aimed target o ≡ true) found.1 is) fits.aim_fits in
        let sort = w.sort_of_aim found.0 in
        let width = update_width params target in
        let branches = j.branches_for params target kept in
        let last = j.last_of params x.aim x.last in
        let own = subst (λ n. value_fits sig n sort last ≡ true) (sym both.1)
        (subst (λ o. value_fits sig (aim_width params found.0) sort (j.last_of params o x.last) ≡ true) (sym found.1)
        (last_value sig params found.0 x.last fits.aim_fits (whole_parts sig params x h.whole).last fits.last_fits)) in
        subst (λ o. update_fits_sort sig width o (record { target = target; branches = branches; last = last }) ≡ true) (sym both.0)
        (and_both (nat_le (length branches) 64 && list_all (branch_fits sig width sort) branches) (value_fits sig width sort last)
        (and_both (nat_le (length branches) 64) (list_all (branch_fits sig width sort) branches) (is_le (length branches) 64 few) (all_branches sig params taken target sort both.0 kept all)) own)

    update_by : (target : Target) (found : Option Written) → IfSome found (λ y. KeptFits sig params taken y × (j.is_for target y ≡ true)) → length (j.branches_for params target kept) ≤ 64
        → list_all (update_fits sig params) (j.update_from params target kept found) ≡ true
    update_by target None h few = refl
    update_by target (Some x) h few =
        and_both (update_fits sig params (record { target = target; branches = j.branches_for params target kept; last = j.last_of params x.aim x.last })) true (update_of target x h.0 h.1 few) refl

    pub updates_fit : (ts : List Target) → j.long_faults params kept ts ≡ [] → list_all (update_fits sig params) (flat_map (j.update_at params kept) ts) ≡ true
    updates_fit [] none = refl
    updates_fit (target ∷ ts) none =
        list_all-append (update_fits sig params) (j.update_at params kept target) (flat_map (j.update_at params kept) ts)
        ∙ and_both (list_all (update_fits sig params) (j.update_at params kept target)) (list_all (update_fits sig params) (flat_map (j.update_at params kept) ts))
        (update_by target (find (j.is_for target) kept) (found_fits target kept all) (few_branches target kept all (nil_left (j.long_at params kept target) (j.long_faults params kept ts) none)))
        (updates_fit ts (nil_right (j.long_at params kept target) (j.long_faults params kept ts) none))
