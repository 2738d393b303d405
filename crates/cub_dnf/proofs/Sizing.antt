-- Sizes that are cut, and what is kept of a join and of a chain.
use Rattle.std.proofs.Common.{◌≡◌, ℕ, zero, suc, ◌+◌, ◌*◌, ◌<◌, ◌≤◌, min, max, Bool, true, false, ◌&&◌, List, [], ◌∷◌, ◌++◌, length, Option, Some, None, ◌⊎◌, inl, inr, refl, sym, ap, ap₂, ◌∙◌, subst, arith, length-append, map, take, get_or}
use Rattle.std.specs.Prelude.{nat_le, ◌==◌, if◌then◌else◌}
use Rattle.std.proofs.Math.Nat.{mul-le-mul_left, mul_comm}
use Rattle.std.proofs.lemmas.Bool.{cases_lt}
use Rattle.std.proofs.lemmas.Bool.Decides.{nat_tests}
use Rattle.cub_proto.specs.declared.literal.Lit.{Lit}
use Rattle.cub_dnf.specs.declared.measured.Measured.{Measured}
use Rattle.cub_dnf.specs.Lists.{joins, all_joins, chained}
use Rattle.cub_dnf.specs.Normal.{widest}
use Rattle.cub_dnf.specs.Measured.{are_within, kept, measured, together, joined_width, joined_list, chained_list}
use Rattle.cub_dnf.proofs.Joining.{joins_none, length-joins, widest-joins, widest-append, all_joins_more, chained_more}

-- a product is at least a factor, where the other is not 0
factor_left : (k a b : ℕ) → k ≤ a → 0 < b → k ≤ a * b
factor_left k a b least some =
    let one : 1 ≤ b = omega arith in
    omega (arith, mul-le-mul_left a one)

factor_right : (k a b : ℕ) → k ≤ b → 0 < a → k ≤ a * b
factor_right k a b least some = subst (λ x. k ≤ x) (mul_comm b a) (factor_left k b a least some)

both_large : (k x y : ℕ) → k ≤ x → k ≤ y → min k x ≡ min k y
both_large k x y p q = omega arith

-- the product of cut numbers, cut
pub cut_mul : (k a b : ℕ) → 0 < k → min k (min k a * min k b) ≡ min k (a * b)
cut_mul k zero b some =
    let none : min k 0 ≡ 0 = omega arith in
    ap (λ x. min k (x * min k b)) none ∙ omega arith
cut_mul k (suc a) zero some =
    let none : min k 0 ≡ 0 = omega arith in
    ap (λ x. min k (min k (suc a) * x)) none ∙ omega arith
cut_mul k (suc a) (suc b) some =
    let left : 0 < min k (suc a) = omega arith in
    let right : 0 < min k (suc b) = omega arith in
    split (cases_lt (suc a) k) (cases_lt (suc b) k) left right
  where
    split : (suc a < k) ⊎ (k ≤ suc a) → (suc b < k) ⊎ (k ≤ suc b) → 0 < min k (suc a) → 0 < min k (suc b) → min k (min k (suc a) * min k (suc b)) ≡ min k (suc a * suc b)
    split (inr h) other p q =
        let cut : k ≤ min k (suc a) = omega arith in
        let rest : 0 < suc b = omega arith in
        both_large k _ _ (factor_left k (min k (suc a)) (min k (suc b)) cut q) (factor_left k (suc a) (suc b) h rest)
    split (inl h) (inr g) p q =
        let cut : k ≤ min k (suc b) = omega arith in
        let rest : 0 < suc a = omega arith in
        both_large k _ _ (factor_right k (min k (suc a)) (min k (suc b)) cut p) (factor_right k (suc a) (suc b) g rest)
    split (inl h) (inl g) p q =
        let e : min k (suc a) ≡ suc a = omega arith in
        let e' : min k (suc b) ≡ suc b = omega arith in
        ap₂ (λ x y. min k (x * y)) e e'

within_cut : (n w : ℕ) → are_within (min 65 n) (min 65 w) ≡ are_within n w
within_cut n w = grind (arith, nat_tests)

within_true : (n w : ℕ) → n ≤ 64 → w ≤ 64 → are_within n w ≡ true
within_true n w p q = grind (arith, nat_tests)

count_within : (n w : ℕ) → are_within n w ≡ true → n ≤ 64
count_within n w h = grind (arith, nat_tests)

width_within : (n w : ℕ) → are_within n w ≡ true → w ≤ 64
width_within n w h = grind (arith, nat_tests)

not_zero : (n : ℕ) → 0 < n → (n == 0) ≡ false
not_zero n some = grind (arith, nat_tests)

pub kept_is : (a : List (List Lit)) → length a ≤ 64 → widest a ≤ 64 → kept a ≡ Some a
kept_is a few narrow = ap (λ t. if t then Some a else None) (within_true (length a) (widest a) few narrow)

-- what is kept of a join and of a chain, from what is kept of their parts
list_step : (count width : ℕ) (l r : Option (List (List Lit))) (test : Bool) → 0 < count → are_within count width ≡ test
    → joined_list count width l r ≡ (if test then together joins l r else None)
list_step count width l r test some is =
    ap (λ z. if z then Some [] else (if are_within count width then together joins l r else None)) (not_zero count some)
    ∙ ap (λ z. if z then together joins l r else None) is

-- the factors of a join that is within the limits and has conjunctions are within them
factors_kept : (a b : List (List Lit)) → 0 < length a → 0 < length b → are_within (length (joins a b)) (widest (joins a b)) ≡ true
    → together joins (kept a) (kept b) ≡ Some (joins a b)
factors_kept a b some other within =
    let few = count_within (length (joins a b)) (widest (joins a b)) within in
    let narrow = width_within (length (joins a b)) (widest (joins a b)) within in
    let whole = length-joins a b in
    let wide = widest-joins a b some other in
    let left = factor_left (length a) (length a) (length b) (omega arith) other in
    let right = factor_right (length b) (length a) (length b) (omega arith) some in
    ap₂ (λ x y. together joins x y) (kept_is a (omega arith) (omega arith)) (kept_is b (omega arith) (omega arith))

join_kept : (a b : List (List Lit)) → 0 < length a → 0 < length b → (test : Bool) → are_within (length (joins a b)) (widest (joins a b)) ≡ test
    → (if test then together joins (kept a) (kept b) else None) ≡ kept (joins a b)
join_kept a b some other true within = factors_kept a b some other within ∙ sym (ap (λ t. if t then Some (joins a b) else None) within)
join_kept a b some other false within = sym (ap (λ t. if t then Some (joins a b) else None) within)

some_join : (a b : List (List Lit)) → 0 < length a → 0 < length b →
    (joined_width (min 65 (length (joins a b))) (min 65 (widest a)) (min 65 (widest b)) ≡ min 65 (widest (joins a b)))
    × (joined_list (min 65 (length (joins a b))) (min 65 (widest (joins a b))) (kept a) (kept b) ≡ kept (joins a b))
some_join a b some other =
    let whole = length-joins a b in
    let positive : 0 < length (joins a b) = omega (arith, factor_left 1 (length a) (length b) (omega arith) other) in
    let cut : 0 < min 65 (length (joins a b)) = omega arith in
    let n = length (joins a b) in
    let w = widest (joins a b) in (
      ap (λ z. if z then 0 else min 65 (min 65 (widest a) + min 65 (widest b))) (not_zero (min 65 n) cut) ∙ omega (arith, widest-joins a b some other),
      list_step (min 65 n) (min 65 w) (kept a) (kept b) (are_within n w) cut (within_cut n w) ∙ join_kept a b some other (are_within n w) refl,
    )

no_join : (a b : List (List Lit)) → joins a b ≡ [] →
    (joined_width (min 65 (length (joins a b))) (min 65 (widest a)) (min 65 (widest b)) ≡ min 65 (widest (joins a b)))
    × (joined_list (min 65 (length (joins a b))) (min 65 (widest (joins a b))) (kept a) (kept b) ≡ kept (joins a b))
no_join a b none = (
  ap (λ x. joined_width (min 65 (length x)) (min 65 (widest a)) (min 65 (widest b))) none ∙ sym (ap (λ x. min 65 (widest x)) none),
  ap (λ x. joined_list (min 65 (length x)) (min 65 (widest x)) (kept a) (kept b)) none ∙ sym (ap kept none),
)

any_join : (a b : List (List Lit)) →
    (joined_width (min 65 (length (joins a b))) (min 65 (widest a)) (min 65 (widest b)) ≡ min 65 (widest (joins a b)))
    × (joined_list (min 65 (length (joins a b))) (min 65 (widest (joins a b))) (kept a) (kept b) ≡ kept (joins a b))
any_join [] b = no_join [] b refl
any_join (c ∷ cs) [] = no_join (c ∷ cs) [] (joins_none (c ∷ cs))
any_join (c ∷ cs) (d ∷ ds) = some_join (c ∷ cs) (d ∷ ds) (omega arith) (omega arith)

by_parts : (m : Measured) (count width : ℕ) (list : Option (List (List Lit))) → m.count ≡ count → m.width ≡ width → m.list ≡ list
    → m ≡ record { count = count; width = width; list = list }
by_parts m count width list p q r =
    ap₂ (λ x y. record { count = x; width = y; list = m.list }) p q ∙ ap (λ z. record { count = count; width = width; list = z }) r

pub joined_is : (m left right : Measured) (a b : List (List Lit)) → left ≡ measured a → right ≡ measured b
    → m.count ≡ min 65 (left.count * right.count) → m.width ≡ joined_width m.count left.width right.width
    → m.list ≡ joined_list m.count m.width left.list right.list → m ≡ measured (joins a b)
joined_is m left right a b l r count width list =
    let parts = any_join a b in
    let counted : m.count ≡ min 65 (length (joins a b)) =
    count ∙ ap₂ (λ x y. min 65 (x.count * y.count)) l r ∙ cut_mul 65 (length a) (length b) (omega arith) ∙ ap (λ x. min 65 x) (sym (length-joins a b)) in
    let wide : m.width ≡ min 65 (widest (joins a b)) =
    width ∙ ap (λ n. joined_width n left.width right.width) counted
    ∙ ap₂ (λ x y. joined_width (min 65 (length (joins a b))) x.width y.width) l r ∙ parts.0 in
    by_parts m (min 65 (length (joins a b))) (min 65 (widest (joins a b))) (kept (joins a b)) counted wide
    (list ∙ ap₂ (λ n w. joined_list n w left.list right.list) counted wide
    ∙ ap₂ (λ x y. joined_list (min 65 (length (joins a b))) (min 65 (widest (joins a b))) x.list y.list) l r ∙ parts.1)

-- chains
chain_parts : (a b : List (List Lit)) → are_within (length (a ++ b)) (widest (a ++ b)) ≡ true
    → together (λ x y. x ++ y) (kept a) (kept b) ≡ Some (a ++ b)
chain_parts a b within =
    let few = count_within (length (a ++ b)) (widest (a ++ b)) within in
    let narrow = width_within (length (a ++ b)) (widest (a ++ b)) within in
    let whole = length-append a b in
    let wide = widest-append a b in
    ap₂ (λ x y. together (λ p q. p ++ q) x y) (kept_is a (omega arith) (omega arith)) (kept_is b (omega arith) (omega arith))

chain_kept : (a b : List (List Lit)) (test : Bool) → are_within (length (a ++ b)) (widest (a ++ b)) ≡ test
    → (if test then together (λ x y. x ++ y) (kept a) (kept b) else None) ≡ kept (a ++ b)
chain_kept a b true within = chain_parts a b within ∙ sym (ap (λ t. if t then Some (a ++ b) else None) within)
chain_kept a b false within = sym (ap (λ t. if t then Some (a ++ b) else None) within)

pub chained_is : (m left right : Measured) (a b : List (List Lit)) → left ≡ measured a → right ≡ measured b
    → m.count ≡ min 65 (left.count + right.count) → m.width ≡ max left.width right.width
    → m.list ≡ chained_list m.count m.width left.list right.list → m ≡ measured (a ++ b)
chained_is m left right a b l r count width list =
    let counted : m.count ≡ min 65 (length (a ++ b)) =
    count ∙ ap₂ (λ x y. min 65 (x.count + y.count)) l r ∙ omega (arith, length-append a b) in
    let wide : m.width ≡ min 65 (widest (a ++ b)) =
    width ∙ ap₂ (λ x y. max x.width y.width) l r ∙ omega (arith, widest-append a b) in
    let n = length (a ++ b) in
    let w = widest (a ++ b) in
    by_parts m (min 65 n) (min 65 w) (kept (a ++ b)) counted wide
    (list ∙ ap₂ (λ x y. chained_list x y left.list right.list) counted wide
    ∙ ap₂ (λ x y. chained_list (min 65 n) (min 65 w) x.list y.list) l r
    ∙ ap (λ t. if t then together (λ x y. x ++ y) (kept a) (kept b) else None) (within_cut n w)
    ∙ chain_kept a b (are_within n w) refl)

-- the steps of the loops that count
module _ {X : Type 0} (f : X → List (List Lit)) (xs : List X) (i : ℕ) (d : X) (below : i < length xs) (at : d ≡ get_or xs i d) {found next new : ℕ} (item : next ≡ min 4097 (length (f d))) where
  pub counted_join : found ≡ min 4097 (length (all_joins (map f (take i xs)))) → new ≡ min 4097 (found * next)
      → new ≡ min 4097 (length (all_joins (map f (take (i + 1) xs))))
  counted_join before step =
      step ∙ ap₂ (λ x y. min 4097 (x * y)) before (item ∙ ap (λ x. min 4097 (length (f x))) at)
      ∙ cut_mul 4097 (length (all_joins (map f (take i xs)))) (length (f (get_or xs i d))) (omega arith)
      ∙ ap (λ x. min 4097 x) (sym (length-joins (all_joins (map f (take i xs))) (f (get_or xs i d))))
      ∙ ap (λ x. min 4097 (length x)) (all_joins_more f xs i d below)

  pub counted_chain : found ≡ min 4097 (length (chained (map f (take i xs)))) → new ≡ min 4097 (found + next)
      → new ≡ min 4097 (length (chained (map f (take (i + 1) xs))))
  counted_chain before step =
      step ∙ ap₂ (λ x y. min 4097 (x + y)) before (item ∙ ap (λ x. min 4097 (length (f x))) at)
      ∙ omega (arith, length-append (chained (map f (take i xs))) (f (get_or xs i d)))
      ∙ ap (λ x. min 4097 (length x)) (chained_more f xs i d below)

-- the steps of the loops that build
module _ {X : Type 0} (f : X → List (List Lit)) (xs : List X) (i : ℕ) (d : X) (below : i < length xs) (at : d ≡ get_or xs i d) {found next new : Measured} (item : next ≡ measured (f d)) where
  pub measured_join : found ≡ measured (all_joins (map f (take i xs)))
      → ((a b : List (List Lit)) → found ≡ measured a → next ≡ measured b → new ≡ measured (joins a b))
      → new ≡ measured (all_joins (map f (take (i + 1) xs)))
  measured_join before step =
      step (all_joins (map f (take i xs))) (f d) before item
      ∙ ap (λ x. measured (joins (all_joins (map f (take i xs))) (f x))) at ∙ ap measured (all_joins_more f xs i d below)

  pub measured_chain : found ≡ measured (chained (map f (take i xs)))
      → ((a b : List (List Lit)) → found ≡ measured a → next ≡ measured b → new ≡ measured (a ++ b))
      → new ≡ measured (chained (map f (take (i + 1) xs)))
  measured_chain before step =
      step (chained (map f (take i xs))) (f d) before item
      ∙ ap (λ x. measured (chained (map f (take i xs)) ++ f x)) at ∙ ap measured (chained_more f xs i d below)

-- the list that was kept is the list, and it is within the limits
pub record IsWhole (found list : List (List Lit)) : Type 0 where
  pub same : found ≡ list
  pub few : length list ≤ 64
  pub narrow : widest list ≤ 64

abbrev unwrapped : Option (List (List Lit)) → List (List Lit)
unwrapped None = []
unwrapped (Some list) = list

pub whole_list : (m : Measured) (found list : List (List Lit)) → m ≡ measured list → m.count ≤ 64 → m.width ≤ 64 → m.list ≡ Some found → IsWhole found list
whole_list m found list is count width kept_one =
    let counted : m.count ≡ min 65 (length list) = ap (λ x. x.count) is in
    let wide : m.width ≡ min 65 (widest list) = ap (λ x. x.width) is in
    let few : length list ≤ 64 = omega arith in
    let narrow : widest list ≤ 64 = omega arith in
    record {
      same = ap (λ o. unwrapped o) (sym kept_one ∙ ap (λ x. x.list) is ∙ kept_is list few narrow);
      few = few;
      narrow = narrow;
    }
