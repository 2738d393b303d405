-- Legal events pick only where the protocol has a `?`, and never an integer.
use Rattle.std.proofs.Common.{◌≡◌, ℕ, zero, suc, Bool, true, false, ◌&&◌, ◌||◌, nat_le, if◌then◌else◌, List, [], ◌∷◌, length, get_or, Some, slice_get, refl, ap, subst, ◌∙◌, arith, All}
use Rattle.std.specs.Prelude.{IsTrue, find}
use Rattle.std.specs.List.{list_all, list_any}
use Rattle.std.proofs.lemmas.List.Elements.{All-nil, All-cons}
use Rattle.cub_base.proofs.Bools.{and_left, and_right, and_both, or_intro_left, or_intro_right}
use Rattle.cub_base.proofs.Elements.{all_from, from_all}
use Rattle.cub_proto.specs.declared.literal.Sort.{Sort}
use Rattle.cub_proto.specs.declared.literal.Value.{Value}
use Rattle.cub_proto.specs.declared.transition.Branch.{Branch}
use Rattle.cub_proto.specs.declared.transition.Target.{Target}
use Rattle.cub_proto.specs.declared.transition.Update.{Update}
use Rattle.cub_proto.specs.declared.transition.Transition.{Transition}
use Rattle.cub_proto.specs.declared.state.Slot.{Slot}
use Rattle.cub_proto.specs.declared.state.Val.{Val}
use Rattle.cub_proto.specs.declared.state.Val.TheVariants.{Con, Proc, Int}
use Rattle.cub_proto.specs.declared.event.Chosen.{Chosen}
use Rattle.cub_proto.specs.declared.event.Event.{Event}
use Rattle.cub_proto.specs.declared.event.Event.TheVariants.{Crash, Fire}
use Rattle.cub_proto.specs.declared.protocol.Protocol.{Protocol}
use Rattle.cub_proto.specs.Configuration.{Configuration}
use Rattle.cub_proto.specs.Signature.{Signature, target_sort}
use Rattle.cub_proto.specs.StateOf.{IsOfSort, signature_of}
use Rattle.cub_proto.specs.Truth.{all_true}
use Rattle.cub_proto.specs.Fits.{is_any, takes_any, value_fits, conjunction_fits, branch_fits, update_width, update_fits, update_fits_sort}
use Rattle.cub_proto.specs.Effect.{chosen, same_target, update_of}
use Rattle.cub_proto.specs.Legal.{TakesPick, MayPick, IsLegal, AreLegal, after}
use Rattle.cub_proto.proofs.Targets.{update_found}
use Rattle.piece_choices.proofs.Fitting.{its_transition}
use Rattle.replay.specs.Bound.{size_of, greatest_start}
use Rattle.replay.proofs.LegalFault.{picked_own}
use Rattle.trace_text.specs.Text.{has_any}
use Rattle.trace_text.specs.Lawful.{is_empty, picks_are_lawful}

-- ---- lists
any_at : {A : Type 0} (test : A → Bool) (xs : List A) (n : ℕ) (x : A) → slice_get xs n ≡ Some x → test x ≡ true → list_any test xs ≡ true
any_at test [] n x is h = cc
any_at test (y ∷ ys) zero x is h = let same : y ≡ x = cc in or_intro_left (test y) (list_any test ys) (ap test same ∙ h)
any_at test (y ∷ ys) (suc n) x is h = or_intro_right (test y) (list_any test ys) (any_at test ys n x is h)

any_found : {A : Type 0} (found test : A → Bool) (xs : List A) (x : A) → find found xs ≡ Some x → test x ≡ true → list_any test xs ≡ true
any_found found test [] x is h = cc
any_found {A} found test (y ∷ ys) x is h = by (found y) is (any_found found test ys x)
  where
    by : (b : Bool) → (if b then Some y else find found ys) ≡ Some x → (find found ys ≡ Some x → test x ≡ true → list_any test ys ≡ true) → list_any test (y ∷ ys) ≡ true
    by true same rest = let this : y ≡ x = cc in or_intro_left (test y) (list_any test ys) (ap test this ∙ h)
    by false same rest = or_intro_right (test y) (list_any test ys) (rest same h)

-- ---- the value that counts
any_chosen : (s : Configuration) (places : List ℕ) (branches : List Branch) (last : Value) → chosen s places branches last ≡ Value.Any → (is_any last || list_any (λ b. is_any b.value) branches) ≡ true
any_chosen s places [] last is = or_intro_left (is_any last) false (ap is_any is)
any_chosen s places (b ∷ bs) last is = by (all_true s places b.cond) is (any_chosen s places bs last)
  where
    by : (t : Bool) → (if t then b.value else chosen s places bs last) ≡ Value.Any → (chosen s places bs last ≡ Value.Any → (is_any last || list_any (λ c. is_any c.value) bs) ≡ true)
        → (is_any last || list_any (λ c. is_any c.value) (b ∷ bs)) ≡ true
    by true here rest =
        or_intro_right (is_any last) (is_any b.value || list_any (λ c. is_any c.value) bs) (or_intro_left (is_any b.value) (list_any (λ c. is_any c.value) bs) (ap is_any here))
    by false later rest = later_any (is_any last) refl (rest later)
      where
        later_any : (l : Bool) → is_any last ≡ l → (is_any last || list_any (λ c. is_any c.value) bs) ≡ true → (is_any last || list_any (λ c. is_any c.value) (b ∷ bs)) ≡ true
        later_any true here h = or_intro_left (is_any last) (is_any b.value || list_any (λ c. is_any c.value) bs) here
        later_any false none h =
            or_intro_right (is_any last) (is_any b.value || list_any (λ c. is_any c.value) bs)
            (or_intro_right (is_any b.value) (list_any (λ c. is_any c.value) bs) (subst (λ x. (x || list_any (λ c. is_any c.value) bs) ≡ true) none h))

fit_chosen : (sig : Signature) (width : ℕ) (sort : Sort) (s : Configuration) (places : List ℕ) (branches : List Branch) (last : Value) → IsTrue (list_all (branch_fits sig width sort) branches)
    → IsTrue (value_fits sig width sort last) → IsTrue (value_fits sig width sort (chosen s places branches last))
fit_chosen sig width sort s places [] last all h = h
fit_chosen sig width sort s places (b ∷ bs) last all h =
    by (all_true s places b.cond) (fit_chosen sig width sort s places bs last (and_right (branch_fits sig width sort b) (list_all (branch_fits sig width sort) bs) all) h)
  where
    by : (t : Bool) → IsTrue (value_fits sig width sort (chosen s places bs last)) → IsTrue (value_fits sig width sort (if t then b.value else chosen s places bs last))
    by true rest =
        and_right (conjunction_fits sig width b.cond) (value_fits sig width sort b.value) (and_left (branch_fits sig width sort b) (list_all (branch_fits sig width sort) bs) all)
    by false rest = rest

-- ---- what is picked
no_integer : (sig : Signature) (width : ℕ) (sort : Sort) (v : Val) (n : ℕ) → IsTrue (value_fits sig width sort Value.Any) → IsOfSort sig n sort v → size_of v ≡ 0
no_integer sig width (Sort.Fin k) (Con c) n fits of = refl
no_integer sig width (Sort.Fin k) (Proc i) n fits of = refl
no_integer sig width (Sort.Fin k) (Int m) n fits of = absurd of
no_integer sig width Sort.Proc (Con c) n fits of = refl
no_integer sig width Sort.Proc (Proc i) n fits of = refl
no_integer sig width Sort.Proc (Int m) n fits of = absurd of
no_integer sig width Sort.Int (Con c) n fits of = refl
no_integer sig width Sort.Int (Proc i) n fits of = refl
no_integer sig width Sort.Int (Int m) n fits of = absurd (let no : false ≡ true = fits in cc)

pub record IsPick (p : Protocol) (v : Val) : Type 0 where
  pub any : has_any p ≡ true
  pub small : size_of v ≡ 0

module _ (p : Protocol) (s : Configuration) (number : ℕ) (t : Transition) (at : slice_get p.transitions number ≡ Some t) where
  takes : (places : List ℕ) (target : Target) (v : Val) → TakesPick p s places (update_of t.updates target) (target_sort (signature_of p) target) v → IsPick p v
  takes places target v pick =
      let sig = signature_of p in
      let u : Update = pick.its_update in
      let width = update_width t.params u.target in
      let found = update_found (λ w. IsTrue (update_fits sig t.params w)) t.updates target u (all_from (update_fits sig t.params) t.updates (its_transition p number t at).updates) pick.is_update in
      let sort : target_sort sig u.target ≡ Some pick.its_sort = ap (target_sort sig) found.1 ∙ pick.is_sort in
      let fits : IsTrue (update_fits_sort sig width (Some pick.its_sort) u) = subst (λ o. IsTrue (update_fits_sort sig width o u)) sort found.0 in
      let few = nat_le (length u.branches) 64 in
      let branches = list_all (branch_fits sig width pick.its_sort) u.branches in
      let front = and_left (few && branches) (value_fits sig width pick.its_sort u.last) fits in
      let value : IsTrue (value_fits sig width pick.its_sort (chosen s places u.branches u.last)) =
      fit_chosen sig width pick.its_sort s places u.branches u.last (and_right few branches front) (and_right (few && branches) (value_fits sig width pick.its_sort u.last) fits) in
      record {
        any = any_at (λ (x : Transition). list_any takes_any x.updates) p.transitions number t at
            (any_found (λ w. same_target w.target target) takes_any t.updates u pick.is_update (any_chosen s places u.branches u.last pick.free));
        small = no_integer sig width pick.its_sort v _ (subst (λ w. IsTrue (value_fits sig width pick.its_sort w)) pick.free value) pick.pickable.of_sort;
      }

  pub is_pick : (params : List ℕ) (slot : Slot) (v : Val) → MayPick p s t.updates params slot v → IsPick p v
  is_pick params (Slot.Global g) v may = takes params (Target.Global g) v may
  is_pick params (Slot.Cell a i) v may = takes _ (Target.Array a) v may.1

all_small : (p : Protocol) (picks : List Chosen) → All (λ c. IsPick p c.val) picks → ((has_any p || is_empty picks) ≡ true) × (list_all (λ c. nat_le (size_of c.val) greatest_start) picks ≡ true)
all_small p [] all = (or_intro_right (has_any p) true refl, refl)
all_small p (c ∷ cs) all =
    let first : IsPick p c.val = all 0 c (omega arith) in
    (or_intro_left (has_any p) false first.any, from_all (λ (d : Chosen). nat_le (size_of d.val) greatest_start) (c ∷ cs) (λ k d below. let one = all k d below in ap (λ n. nat_le n greatest_start) one.small))

legal_picks : (p : Protocol) (s : Configuration) (e : Event) → IsLegal p s e → IsTrue (picks_are_lawful (has_any p) e)
legal_picks p s (Crash i) legal = refl
legal_picks p s (Fire number params picks) legal =
    let own = picked_own picks legal.rising in
    let all = all_small p picks (λ k d below. is_pick p s number legal.transition legal.is_there params (get_or picks k d).slot (get_or picks k d).val
    (legal.fires.picks (get_or picks k d).slot (get_or picks k d).val (own k d below))) in
    and_both (has_any p || is_empty picks) (list_all (λ (c : Chosen). nat_le (size_of c.val) greatest_start) picks) all.0 all.1

pub run_picks : (p : Protocol) (s : Configuration) (events : List Event) → AreLegal p s events → All (λ e. IsTrue (picks_are_lawful (has_any p) e)) events
run_picks p s [] legal = All-nil (λ (e : Event). IsTrue (picks_are_lawful (has_any p) e))
run_picks p s (e ∷ es) legal = All-cons (λ (f : Event). IsTrue (picks_are_lawful (has_any p) f)) e es (legal_picks p s e legal.0) (run_picks p (after p s e) es legal.1)
