-- The order of keys, and of the lines of a list that rises.
use Rattle.std.proofs.Common.{◌≡◌, ℕ, zero, suc, ◌<◌, ◌≤◌, true, false, List, [], ◌∷◌, Some, refl, sym, ap, ◌∙◌, subst, arith, inl, inr, ◌⊎◌}
use Rattle.std.specs.Prelude.{IsTrue, ◌&&◌, ◌==◌, nat_lt, slice_get}
use Rattle.std.proofs.lemmas.Bool.{or_cases, cases_lt, false≢true, true≢false}
use Rattle.cub_proto.specs.declared.cover.CoverLine.{CoverLine}
use Rattle.cub_base.proofs.Bools.{and_left, and_right, and_both, less_is, is_less, same_is, same_refl, or_intro_left, or_intro_right, true_or_false}
use Rattle.cert_check.specs.declared.keys.Key.{Key}
use Rattle.cert_check.specs.Keys.{key_of, is_before, lines_rise}

less_itself : (n : ℕ) → nat_lt n n ≡ true → ⊥
less_itself n h = let less : n < n = less_is n n h in omega arith

pub less_not : (n m : ℕ) → nat_lt n m ≡ false → m ≤ n
less_not n m h = by (cases_lt n m)
  where
    by : (n < m) ⊎ (m ≤ n) → m ≤ n
    by (inl less) = absurd (true≢false (sym (is_less n m less) ∙ h))
    by (inr more) = more

-- what it is for one piece to come before another
pub piece_before : (j n k m : ℕ) → IsTrue (is_before (Key.Piece j n) (Key.Piece k m)) → (j < k) ⊎ ((j ≡ k) × (n < m))
piece_before j n k m h = by (or_cases (nat_lt j k) (j == k && nat_lt n m) h)
  where
    by : (nat_lt j k ≡ true) ⊎ ((j == k && nat_lt n m) ≡ true) → (j < k) ⊎ ((j ≡ k) × (n < m))
    by (inl less) = inl (less_is j k less)
    by (inr both) = inr (same_is j k (and_left (j == k) (nat_lt n m) both), less_is n m (and_right (j == k) (nat_lt n m) both))

pub before_piece : (j n k m : ℕ) → (j < k) ⊎ ((j ≡ k) × (n < m)) → IsTrue (is_before (Key.Piece j n) (Key.Piece k m))
before_piece j n k m (inl less) = or_intro_left (nat_lt j k) (j == k && nat_lt n m) (is_less j k less)
before_piece j n k m (inr (same, less)) =
    or_intro_right (nat_lt j k) (j == k && nat_lt n m) (and_both (j == k) (nat_lt n m) (subst (λ x. (j == x) ≡ true) same (same_refl j)) (is_less n m less))

pub before_itself : (a : Key) → IsTrue (is_before a a) → ⊥
before_itself (Key.Goal n) h = less_itself n h
before_itself (Key.Piece k n) h = by (piece_before k n k n h)
  where
    by : (k < k) ⊎ ((k ≡ k) × (n < n)) → ⊥
    by (inl less) = omega arith
    by (inr less) = omega (arith, less.1)

pub before_further : (a b c : Key) → IsTrue (is_before a b) → IsTrue (is_before b c) → IsTrue (is_before a c)
before_further (Key.Goal n) (Key.Goal m) (Key.Goal i) h g = is_less n i (let x : n < m = less_is n m h in let y : m < i = less_is m i g in omega arith)
before_further (Key.Goal n) (Key.Goal m) (Key.Piece k i) h g = refl
before_further (Key.Goal n) (Key.Piece j m) (Key.Goal i) h g = absurd (false≢true g)
before_further (Key.Goal n) (Key.Piece j m) (Key.Piece k i) h g = refl
before_further (Key.Piece k n) (Key.Goal m) c h g = absurd (false≢true h)
before_further (Key.Piece k n) (Key.Piece j m) (Key.Goal i) h g = absurd (false≢true g)
before_further (Key.Piece k n) (Key.Piece j m) (Key.Piece l i) h g = before_piece k n l i (by (piece_before k n j m h) (piece_before j m l i g))
  where
    by : (k < j) ⊎ ((k ≡ j) × (n < m)) → (j < l) ⊎ ((j ≡ l) × (m < i)) → (k < l) ⊎ ((k ≡ l) × (n < i))
    by (inl x) (inl y) = inl (omega arith)
    by (inl x) (inr y) = inl (omega (arith, y.0))
    by (inr x) (inl y) = inl (omega (arith, x.0))
    by (inr x) (inr y) = inr (x.0 ∙ y.0, omega (arith, x.1, y.1))

pub three : (n m : ℕ) → (n < m) ⊎ ((n ≡ m) ⊎ (m < n))
three n m = by (cases_lt n m) (cases_lt m n)
  where
    by : (n < m) ⊎ (m ≤ n) → (m < n) ⊎ (n ≤ m) → (n < m) ⊎ ((n ≡ m) ⊎ (m < n))
    by (inl h) g = inl h
    by (inr h) (inl g) = inr (inr g)
    by (inr h) (inr g) = inr (inl (omega arith))

-- keys neither of which comes before the other are one
pub before_neither : (a b : Key) → is_before a b ≡ false → is_before b a ≡ false → a ≡ b
before_neither (Key.Goal n) (Key.Goal m) h g = let x : m ≤ n = less_not n m h in let y : n ≤ m = less_not m n g in let same : n ≡ m = omega arith in ap (λ z. Key.Goal z) same
before_neither (Key.Goal n) (Key.Piece k m) h g = absurd (true≢false h)
before_neither (Key.Piece k n) (Key.Goal m) h g = absurd (true≢false g)
before_neither (Key.Piece j n) (Key.Piece k m) h g = by (three j k) (three n m)
  where
    by : (j < k) ⊎ ((j ≡ k) ⊎ (k < j)) → (n < m) ⊎ ((n ≡ m) ⊎ (m < n)) → Key.Piece j n ≡ Key.Piece k m
    by (inl x) y = absurd (true≢false (sym (before_piece j n k m (inl x)) ∙ h))
    by (inr (inr x)) y = absurd (true≢false (sym (before_piece k m j n (inl x)) ∙ g))
    by (inr (inl x)) (inl y) = absurd (true≢false (sym (before_piece j n k m (inr (x, y))) ∙ h))
    by (inr (inl x)) (inr (inr y)) = absurd (true≢false (sym (before_piece k m j n (inr (sym x, y))) ∙ g))
    by (inr (inl x)) (inr (inl y)) = ap (λ z. Key.Piece z n) x ∙ ap (λ z. Key.Piece k z) y

-- what does not come after a key comes before each later key
pub before_weak : (a x b : Key) → is_before a x ≡ false → IsTrue (is_before a b) → IsTrue (is_before x b)
before_weak a x b h g = by (true_or_false (is_before x a))
  where
    by : (is_before x a ≡ true) ⊎ (is_before x a ≡ false) → IsTrue (is_before x b)
    by (inl less) = before_further x a b less g
    by (inr not) = subst (λ z. IsTrue (is_before z b)) (before_neither a x h not) g

pub before_not_back : (a b : Key) → IsTrue (is_before a b) → is_before b a ≡ false
before_not_back a b h = by (true_or_false (is_before b a))
  where
    by : (is_before b a ≡ true) ⊎ (is_before b a ≡ false) → is_before b a ≡ false
    by (inl back) = absurd (before_itself a (before_further a b a h back))
    by (inr not) = not

-- ---- lines that rise
first_before : (a b : CoverLine) (lines : List CoverLine) → IsTrue (lines_rise (a ∷ lines)) → (j : ℕ) → slice_get lines j ≡ Some b → IsTrue (is_before (key_of a) (key_of b))
first_before a b [] rise j e = cc
first_before a b (x ∷ lines) rise zero e =
    let same : x ≡ b = cc in
    subst (λ z. IsTrue (is_before (key_of a) (key_of z))) same (and_left (is_before (key_of a) (key_of x)) (lines_rise (x ∷ lines)) rise)
first_before a b (x ∷ lines) rise (suc j) e =
    before_further (key_of a) (key_of x) (key_of b) (and_left (is_before (key_of a) (key_of x)) (lines_rise (x ∷ lines)) rise)
    (first_before x b lines (and_right (is_before (key_of a) (key_of x)) (lines_rise (x ∷ lines)) rise) j e)

rest_rises : (a : CoverLine) (lines : List CoverLine) → IsTrue (lines_rise (a ∷ lines)) → IsTrue (lines_rise lines)
rest_rises a [] rise = refl
rest_rises a (x ∷ lines) rise = and_right (is_before (key_of a) (key_of x)) (lines_rise (x ∷ lines)) rise

pub rise_apart : (lines : List CoverLine) → IsTrue (lines_rise lines) → (i j : ℕ) (a b : CoverLine) → i < j → slice_get lines i ≡ Some a → slice_get lines j ≡ Some b → IsTrue (is_before (key_of a) (key_of b))
rise_apart [] rise i j a b less e f = cc
rise_apart (x ∷ lines) rise zero zero a b less e f = absurd (omega arith)
rise_apart (x ∷ lines) rise zero (suc j) a b less e f = let same : x ≡ a = cc in first_before a b lines (subst (λ z. IsTrue (lines_rise (z ∷ lines))) same rise) j f
rise_apart (x ∷ lines) rise (suc i) zero a b less e f = absurd (omega arith)
rise_apart (x ∷ lines) rise (suc i) (suc j) a b less e f = rise_apart lines (rest_rises x lines rise) i j a b (omega arith) e f

-- one line at most is about a key
pub one_about : (lines : List CoverLine) → IsTrue (lines_rise lines) → (i j : ℕ) (a b : CoverLine) → slice_get lines i ≡ Some a → slice_get lines j ≡ Some b → key_of a ≡ key_of b → a ≡ b
one_about lines rise i j a b e f same = by (three i j)
  where
    by : (i < j) ⊎ ((i ≡ j) ⊎ (j < i)) → a ≡ b
    by (inl less) = absurd (before_itself (key_of b) (subst (λ z. IsTrue (is_before z (key_of b))) same (rise_apart lines rise i j a b less e f)))
    by (inr (inl is)) = let here : slice_get lines j ≡ Some a = subst (λ z. slice_get lines z ≡ Some a) is e in cc
    by (inr (inr more)) = absurd (before_itself (key_of b) (subst (λ z. IsTrue (is_before (key_of b) z)) same (rise_apart lines rise j i b a more f e)))
