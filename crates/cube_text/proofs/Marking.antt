-- The names that a mask has, one more at a time.
use Rattle.std.proofs.Common.{◌≡◌, ℕ, zero, suc, ◌+◌, ◌<◌, ◌≤◌, Bool, true, false, cond, List, [], ◌∷◌, ◌++◌, length, take, flat_map, get_or, refl, ap, sym, ◌∙◌, arith, codes, append_assoc, length-append, length-take-le}
use Rattle.std.specs.Prelude.{if◌then◌else◌}
use Rattle.std.specs.List.{join_by}
use Rattle.std.proofs.lemmas.List.{append-nil}
use Rattle.std.proofs.lemmas.Grind.{flat_map-append}
use Rattle.cub_proto.specs.Truth.{has_bit}
use Rattle.cube_text.specs.Text.{marked}

abbrev pub is_some : List (List ℕ) → Bool
is_some [] = false
is_some (x ∷ xs) = true

-- the item, if the mask has its number
abbrev pub one_marked : ℕ → ℕ → List ℕ → List (List ℕ)
one_marked mask c name = if has_bit mask c then name ∷ [] else []

pub marked_more : (mask c : ℕ) (names : List (List ℕ)) (i : ℕ) → i < length names
    → marked mask c (take (i + 1) names) ≡ marked mask c (take i names) ++ one_marked mask (c + i) (get_or names i [])
marked_more mask c [] i inside = absurd (omega arith)
marked_more mask c (x ∷ xs) zero inside = let same : c + 0 ≡ c = omega arith in rw same (by (has_bit mask c))
  where
    by : (b : Bool) → cond b (x ∷ []) [] ≡ cond b (x ∷ []) []
    by b = refl
marked_more mask c (x ∷ xs) (suc i) inside =
    let later = marked_more mask (c + 1) xs i (omega (arith, inside)) in
    let sum : c + 1 + i ≡ c + suc i = omega arith in
    let next : suc i + 1 ≡ suc (i + 1) = omega arith in
    ap (λ n. marked mask c (take n (x ∷ xs))) next
    ∙ by (has_bit mask c) (later ∙ ap (λ k. marked mask (c + 1) (take i xs) ++ one_marked mask k (get_or xs i [])) sum)
  where
    by : (b : Bool) → marked mask (c + 1) (take (i + 1) xs) ≡ marked mask (c + 1) (take i xs) ++ one_marked mask (c + suc i) (get_or xs i [])
        → cond b (x ∷ marked mask (c + 1) (take (i + 1) xs)) (marked mask (c + 1) (take (i + 1) xs))
        ≡ cond b (x ∷ marked mask (c + 1) (take i xs)) (marked mask (c + 1) (take i xs)) ++ one_marked mask (c + suc i) (get_or xs i [])
    by true same = ap (λ ys. x ∷ ys) same
    by false same = same

pub few_marked : (mask c : ℕ) (names : List (List ℕ)) → length (marked mask c names) ≤ length names
few_marked mask c [] = omega arith
few_marked mask c (x ∷ xs) = by (has_bit mask c) (few_marked mask (c + 1) xs)
  where
    by : (b : Bool) → length (marked mask (c + 1) xs) ≤ length xs → length (cond b (x ∷ marked mask (c + 1) xs) (marked mask (c + 1) xs)) ≤ suc (length xs)
    by true h = omega (arith, h)
    by false h = omega (arith, h)

pub joined_more : (xs : List (List ℕ)) (x : List ℕ)
    → join_by (λ n. n) (codes ",") (xs ++ x ∷ []) ≡ join_by (λ n. n) (codes ",") xs ++ (if is_some xs then codes "," else []) ++ x
joined_more [] x = append-nil x
joined_more (y ∷ ys) x =
    let g : List ℕ → List ℕ = λ z. codes "," ++ z in
    ap (λ t. y ++ t) (flat_map-append g ys (x ∷ []))
    ∙ ap (λ t. y ++ (flat_map g ys ++ t)) (append-nil (codes "," ++ x))
    ∙ sym (append_assoc y (flat_map g ys) (codes "," ++ x))
    ∙ sym (append_assoc (y ++ flat_map g ys) (codes ",") x)

module _ (mask : ℕ) (names : List (List ℕ)) (i : ℕ) (inside : i < length names) where
  taken_one : has_bit mask i ≡ true → marked mask 0 (take (i + 1) names) ≡ marked mask 0 (take i names) ++ get_or names i [] ∷ []
  taken_one has =
      let same : 0 + i ≡ i = omega arith in
      marked_more mask 0 names i inside ∙ ap (λ k. marked mask 0 (take i names) ++ one_marked mask k (get_or names i [])) same ∙ rw has refl

  passed_one : has_bit mask i ≡ false → marked mask 0 (take (i + 1) names) ≡ marked mask 0 (take i names)
  passed_one lacks =
      let same : 0 + i ≡ i = omega arith in
      marked_more mask 0 names i inside ∙ ap (λ k. marked mask 0 (take i names) ++ one_marked mask k (get_or names i [])) same ∙ rw lacks (append-nil (marked mask 0 (take i names)))

  pub count_one : (count : ℕ) → has_bit mask i ≡ true → count ≡ length (marked mask 0 (take i names)) → count + 1 ≡ length (marked mask 0 (take (i + 1) names))
  count_one count has is =
      let sum = length-append (marked mask 0 (take i names)) (get_or names i [] ∷ []) in
      let more = ap length (taken_one has) in
      omega (arith, is, sum, more)

  pub count_none : (count : ℕ) → has_bit mask i ≡ false → count ≡ length (marked mask 0 (take i names)) → count ≡ length (marked mask 0 (take (i + 1) names))
  count_none count lacks is = is ∙ ap length (sym (passed_one lacks))

  pub count_few : (count : ℕ) → count ≡ length (marked mask 0 (take i names)) → count ≤ i
  count_few count is =
      let few = few_marked mask 0 (take i names) in
      let some = length-take-le i names in
      omega (arith, is, few, some)

  pub push_one : (out start sep name : List ℕ) → has_bit mask i ≡ true → get_or names i [] ≡ name
      → out ≡ start ++ join_by (λ n. n) (codes ",") (marked mask 0 (take i names))
      → sep ≡ (if is_some (marked mask 0 (take i names)) then codes "," else [])
      → out ++ sep ++ name ≡ start ++ join_by (λ n. n) (codes ",") (marked mask 0 (take (i + 1) names))
  push_one out start sep name has is_name is_out is_sep =
      let J : List ℕ = join_by (λ n. n) (codes ",") (marked mask 0 (take i names)) in
      rw (is_out, is_sep, ← is_name)
      (ap (λ t. t ++ get_or names i []) (append_assoc start J (if is_some (marked mask 0 (take i names)) then codes "," else []))
      ∙ append_assoc start (J ++ (if is_some (marked mask 0 (take i names)) then codes "," else [])) (get_or names i [])
      ∙ ap (λ t. start ++ t) (sym (joined_more (marked mask 0 (take i names)) (get_or names i [])))
      ∙ ap (λ xs. start ++ join_by (λ n. n) (codes ",") xs) (sym (taken_one has)))

  some_more : (xs : List (List ℕ)) (x : List ℕ) → is_some (xs ++ x ∷ []) ≡ true
  some_more [] x = refl
  some_more (y ∷ ys) x = refl

  pub some_one : has_bit mask i ≡ true → is_some (marked mask 0 (take (i + 1) names)) ≡ true
  some_one has = ap is_some (taken_one has) ∙ some_more (marked mask 0 (take i names)) (get_or names i [])

  pub push_none : (out start : List ℕ) → has_bit mask i ≡ false
      → out ≡ start ++ join_by (λ n. n) (codes ",") (marked mask 0 (take i names))
      → out ≡ start ++ join_by (λ n. n) (codes ",") (marked mask 0 (take (i + 1) names))
  push_none out start lacks is_out = is_out ∙ ap (λ xs. start ++ join_by (λ n. n) (codes ",") xs) (sym (passed_one lacks))

  pub some_none : (some : Bool) → has_bit mask i ≡ false → some ≡ is_some (marked mask 0 (take i names)) → some ≡ is_some (marked mask 0 (take (i + 1) names))
  some_none some lacks is = is ∙ ap is_some (sym (passed_one lacks))
