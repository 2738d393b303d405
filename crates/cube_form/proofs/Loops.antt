-- What holds of the items so far, and of all.
use Rattle.std.proofs.Common.{◌≡◌, ◌≢◌, ◌↔◌, ℕ, ◌+◌, ◌<◌, ◌≤◌, true, false, List, length, get_or, take, refl, sym, ◌∙◌, subst, arith}
use Rattle.std.specs.Prelude.{IsTrue, All, AllPairs, Contains}
use Rattle.std.proofs.lemmas.List.{take_more, take_all, length-take-le, get_or_default, get_or-take}
use Rattle.std.proofs.lemmas.List.Quantifiers.{all_pairs_push}

-- after all items
pub all_end : {X : Type 0} (P : X → Type 0) (xs : List X) (i : ℕ) → length xs ≤ i → All P (take i xs) → All P xs
all_end P xs i past h = subst (All P) (take_all i xs past) h

-- an answer of yes, and of no
pub yes : (P : Type 0) → P → IsTrue true ↔ P
yes P h = ((λ _. h), (λ _. refl))

pub not_so : (P : Type 0) → (P → ⊥) → IsTrue false ↔ P
not_so P h = ((λ e. absurd (let f : false ≡ true = e in cc)), (λ p. absurd (h p)))

-- an item that stands among the earlier ones stands twice
pub stands_twice : (xs : List ℕ) (i : ℕ) → i < length xs → Contains (take i xs) (get_or xs i 0) → AllPairs (λ p q. p ≢ q) xs → ⊥
stands_twice xs i inside there apart =
    let size = length-take-le i xs (omega arith) in
    let before : there.0 < i = subst (λ n. there.0 < n) size there.1 in
    apart there.0 i (get_or xs i 0) before inside
    (sym (get_or-take i xs there.0 (get_or xs i 0) before) ∙ there.2 ∙ get_or_default xs i 0 (get_or xs i 0) inside)

pub apart_more : (xs : List ℕ) (i : ℕ) → i < length xs → (Contains (take i xs) (get_or xs i 0) → ⊥) → AllPairs (λ p q. p ≢ q) (take i xs) → AllPairs (λ p q. p ≢ q) (take (i + 1) xs)
apart_more xs i inside new apart =
    subst (AllPairs (λ p q. p ≢ q)) (sym (take_more xs i 0 inside))
    (all_pairs_push (λ p q. p ≢ q) (take i xs) (get_or xs i 0) apart
    (λ k d below same. new (k, below, get_or_default (take i xs) k (get_or xs i 0) d below ∙ same)))

pub apart_end : (xs : List ℕ) (i : ℕ) → length xs ≤ i → AllPairs (λ p q. p ≢ q) (take i xs) → AllPairs (λ p q. p ≢ q) xs
apart_end xs i past h = subst (AllPairs (λ p q. p ≢ q)) (take_all i xs past) h
