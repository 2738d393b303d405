-- What loops over lists and rows say as far as they have come.
use Rattle.std.proofs.Common.{◌≡◌, ◌≢◌, ℕ, zero, suc, ◌+◌, ◌<◌, ◌≤◌, Bool, false, List, [], ◌∷◌, length, get_or, take, set, refl, sym, ap, ◌∙◌, subst, arith, inl, inr, ◌⊎◌, get_or-set_other, get_or-set_same}
use Rattle.std.specs.Prelude.{IsTrue, slice_index_or, replicate, All, AllPairs, Contains, ◌↔◌}
use Rattle.std.specs.List.{list_all}
use Rattle.std.proofs.lemmas.Bool.{cases_lt}
use Rattle.std.proofs.lemmas.List.{take_more, take_all, length-take-le, get_or-take, get_or_default}
use Rattle.std.proofs.lemmas.List.Elements.{Contains-push_cases}
use Rattle.std.proofs.Math.ListN.{length-set}
use Rattle.cub_proto.specs.declared.literal.Lit.{Lit}
use Rattle.cub_proto.specs.declared.protocol.Protocol.{Protocol}
use Rattle.cub_proto.specs.StateOf.{signature_of}
use Rattle.cub_proto.specs.Fits.{literal_fits}
use Rattle.cub_cube.specs.Rename.{renamed}
use Rattle.cub_base.proofs.Elements.{all_from}
use Rattle.theory_laws.specs.Entailed.{Entails}
use Rattle.cert_check.specs.Stand.{is_alone}
use Rattle.cert_check.specs.Injections.{IsRow}
use Rattle.cert_check.proofs.Putting.{AllFit, pairs_push}

-- ---- what holds of each item so far
module _ {A : Type 0} (P : A → Type 0) (xs : List A) (i : ℕ) where
  pub each_more : (d : A) → i < length xs → ((x : A) → Contains (take i xs) x → P x) → P (get_or xs i d) → (x : A) → Contains (take (i + 1) xs) x → P x
  each_more d below before here x inside = elim (Contains-push_cases (take i xs) (get_or xs i d) x (subst (λ ys. Contains ys x) (take_more xs i d below) inside)) [
    | inl early ↦ before x early
    | inr same ↦ subst P same here
  ]

  pub each_all : length xs ≤ i → ((x : A) → Contains (take i xs) x → P x) → (x : A) → Contains xs x → P x
  each_all end before x inside = before x (subst (λ ys. Contains ys x) (sym (take_all i xs end)) inside)

pub fit_list : (p : Protocol) (n m : ℕ) (lits xs : List Lit) → xs ≡ lits → m ≡ n → IsTrue (list_all (literal_fits (signature_of p) n) lits) → AllFit p m xs
fit_list p n m lits xs same size fit =
    subst (λ k. AllFit p k xs) (sym size) (subst (λ ys. AllFit p n ys) (sym same) (all_from (literal_fits (signature_of p) n) lits fit))

-- ---- places apart
pub apart_more : (xs : List ℕ) (i : ℕ) → i < length xs → AllPairs (λ x y. x ≢ y) (take i xs) → (Contains (take i xs) (get_or xs i 0) → ⊥) → AllPairs (λ x y. x ≢ y) (take (i + 1) xs)
apart_more xs i below apart free = subst (λ ys. AllPairs (λ x y. x ≢ y) ys) (sym (take_more xs i 0 below)) (pairs_push (take i xs) (get_or xs i 0) apart free)

pub not_apart : (xs : List ℕ) (i : ℕ) → i < length xs → Contains (take i xs) (get_or xs i 0) → AllPairs (λ x y. x ≢ y) xs → ⊥
not_apart xs i below (k, less, is) apart =
    let size : length (take i xs) ≡ i = length-take-le i xs (omega arith) in
    let at : k < i = omega arith in
    let there : get_or xs k 0 ≡ get_or xs i 0 = sym (get_or-take i xs k 0 at) ∙ get_or_default (take i xs) k 0 (get_or xs i 0) less ∙ is in
    apart k i 0 at below there

pub apart_all : (xs : List ℕ) (i : ℕ) → length xs ≤ i → AllPairs (λ x y. x ≢ y) (take i xs) → AllPairs (λ x y. x ≢ y) xs
apart_all xs i end apart = subst (λ ys. AllPairs (λ x y. x ≢ y) ys) (take_all i xs end) apart

-- ---- one place for all
pub take_replicate : (m n c : ℕ) → m ≤ n → take m (replicate n c) ≡ replicate m c
take_replicate zero n c h = refl
take_replicate (suc m) zero c h = absurd (omega arith)
take_replicate (suc m) (suc n) c h = ap (λ xs. c ∷ xs) (take_replicate m n c (omega arith))

pub all_replicate : (n c width : ℕ) → c < width → All (λ q. q < width) (replicate n c)
all_replicate zero c width h k d below = absurd (omega arith)
all_replicate (suc n) c width h zero d below = h
all_replicate (suc n) c width h (suc k) d below = all_replicate n c width h k d (omega arith)

-- ---- rows
module _ (P : ℕ → Type 0) (old row : List Bool) (c : ℕ) (b : Bool) (below : c < length row) where
  pub row_done : ((k : ℕ) → k < c → IsTrue (slice_index_or row k false) ↔ (IsTrue (slice_index_or old k false) × P k)) → ((k : ℕ) → c ≤ k → slice_index_or row k false ≡ slice_index_or old k false)
      → IsTrue b ↔ (IsTrue (slice_index_or row c false) × P c) → (k : ℕ) → k < c + 1 → IsTrue (slice_index_or (set row c b) k false) ↔ (IsTrue (slice_index_or old k false) × P k)
  row_done done rest here k h = by (cases_lt k c)
    where
      by : (k < c) ⊎ (c ≤ k) → IsTrue (slice_index_or (set row c b) k false) ↔ (IsTrue (slice_index_or old k false) × P k)
      by (inl less) =
          let other : get_or (set row c b) k false ≡ get_or row k false = (let ne : k ≢ c = omega arith in rw get_or-set_other refl) in
          subst (λ z. IsTrue z ↔ (IsTrue (slice_index_or old k false) × P k)) (sym other) (done k less)
      by (inr more) =
          let same : c ≡ k = omega arith in
          let put : get_or (set row c b) c false ≡ b = rw get_or-set_same refl in
          let is : IsTrue (get_or (set row c b) c false) ↔ (IsTrue (get_or old c false) × P c) =
          subst (λ z. IsTrue z ↔ (IsTrue (get_or old c false) × P c)) (sym put) (subst (λ z. IsTrue b ↔ (IsTrue z × P c)) (rest c (omega arith)) here) in
          subst (λ z. IsTrue (get_or (set row c b) z false) ↔ (IsTrue (get_or old z false) × P z)) same is

  pub row_rest : ((k : ℕ) → c ≤ k → slice_index_or row k false ≡ slice_index_or old k false) → (k : ℕ) → c + 1 ≤ k → slice_index_or (set row c b) k false ≡ slice_index_or old k false
  row_rest rest k h = (let ne : k ≢ c = omega arith in let other : get_or (set row c b) k false ≡ get_or row k false = rw get_or-set_other refl in other) ∙ rest k (omega arith)

pub rows_more : (P : ℕ → List Bool → Type 0) (rows : List (List Bool)) (k : ℕ) (row : List Bool) → k < length rows → ((j : ℕ) → j < k → P j (slice_index_or rows j [])) → P k row
    → (j : ℕ) → j < k + 1 → P j (slice_index_or (set rows k row) j [])
rows_more P rows k row below each here j h = by (cases_lt j k)
  where
    by : (j < k) ⊎ (k ≤ j) → P j (slice_index_or (set rows k row) j [])
    by (inl less) =
        let other : get_or (set rows k row) j [] ≡ get_or rows j [] = (let ne : j ≢ k = omega arith in rw get_or-set_other refl) in
        subst (P j) (sym other) (each j less)
    by (inr more) =
        let same : k ≡ j = omega arith in
        let put : get_or (set rows k row) k [] ≡ row = rw get_or-set_same refl in
        subst (λ n. P n (get_or (set rows k row) n [])) same (subst (P k) (sym put) here)

pub all_set : (n : ℕ) (xs : List ℕ) (k c : ℕ) → c < n → All (λ q. q < n) xs → All (λ q. q < n) (set xs k c)
all_set n [] k c h all i d below = absurd (omega (arith, length-set [] k c))
all_set n (x ∷ xs) zero c h all zero d below = h
all_set n (x ∷ xs) zero c h all (suc i) d below = all (suc i) d below
all_set n (x ∷ xs) (suc k) c h all zero d below = all 0 d (omega arith)
all_set n (x ∷ xs) (suc k) c h all (suc i) d below = all_set n xs k c h (λ j e less. all (suc j) e (omega arith)) i d (omega arith)

module _ (p : Protocol) (big : List Lit) (width : ℕ) (lits : List Lit) (count k : ℕ) where
  pub row_first : (row : List Bool) → ((c : ℕ) → c < width → IsTrue (slice_index_or row c false)) → IsRow p [] width lits count k row
  row_first row all c below = ((λ h lit inside single. absurd (none lit inside)), (λ h. all c below))
    where
      none : (lit : Lit) → Contains [] lit → ⊥
      none lit (j, less, is) = omega arith

  pub row_more : (i : ℕ) (d : Lit) (old row : List Bool) → i < length big → IsRow p (take i big) width lits count k old
      → ((c : ℕ) → c < width → IsTrue (slice_index_or row c false) ↔ (IsTrue (slice_index_or old c false) × (IsTrue (is_alone k (get_or big i d)) → Entails p width lits (renamed (replicate count c) (get_or big i d)))))
      → IsRow p (take (i + 1) big) width lits count k row
  row_more i d old row below before here c less = (
    (λ h. let now = (here c less).0 h in
        each_more (λ lit. IsTrue (is_alone k lit) → Entails p width lits (renamed (replicate count c) lit)) big i d below ((before c less).0 now.0) now.1),
    (λ follow. (here c less).1 ((before c less).1 (λ lit inside. follow lit (front lit inside)), follow (get_or big i d) last)),
  )
    where
      size : length (take (i + 1) big) ≡ i + 1
      size = length-take-le (i + 1) big (omega arith)

      last : Contains (take (i + 1) big) (get_or big i d)
      last = (i, omega (arith, size), get_or-take (i + 1) big i (get_or big i d) (omega arith) ∙ sym (get_or_default big i d (get_or big i d) below))

      front : (lit : Lit) → Contains (take i big) lit → Contains (take (i + 1) big) lit
      front lit (j, less, is) =
          let short : length (take i big) ≡ i = length-take-le i big (omega arith) in
          let at : j < i = omega arith in
          (j, omega (arith, size), get_or-take (i + 1) big j lit (omega arith) ∙ sym (get_or-take i big j lit at) ∙ is)

  pub row_all : (i : ℕ) (row : List Bool) → length big ≤ i → IsRow p (take i big) width lits count k row → IsRow p big width lits count k row
  row_all i row end is = subst (λ ls. IsRow p ls width lits count k row) (take_all i big end) is
