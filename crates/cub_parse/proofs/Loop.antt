-- A loop that reads items: those found so far before the others are what is read from the start.
use Rattle.std.proofs.Common.{◌≡◌, ℕ, zero, suc, ◌+◌, ◌-◌, ◌<◌, ◌≤◌, List, [], ◌∷◌, ◌++◌, length, Option, Some, None, Result, Ok, Err, refl, ap, ◌∙◌, sym, arith, append_assoc, append-nil, add-one}
use Rattle.cub_parse.specs.declared.fault.ParseKind.{ParseKind}
use Rattle.cub_parse.specs.declared.fault.ParseKind.TheVariants.{P1}
use Rattle.cub_parse.specs.declared.tree.Leaf.{Leaf}
use Rattle.cub_parse.specs.declared.fault.Stop.{Stop}
use Rattle.cub_parse.specs.declared.fault.Stop.TheVariants as stops
use Rattle.cub_parse.specs.Parsing.{Read, Parser, Fails, after, go_on, until_in, until}

abbrev pub with_front : {A : Type 0} → List A → Read (List A) → Read (List A)
with_front front (Ok x) = Ok (front ++ x.0, x.1)
with_front front (Err e) = Err e

-- so far these items were found, and `count` turns are left
abbrev pub Goes : {A : Type 0} → Parser (Option A) → List Leaf → List A → ℕ → List Leaf → Type 0
Goes p ts found count rest = with_front found (until_in p count rest) ≡ until p ts

none_before : {A : Type 0} (r : Read (List A)) → with_front [] r ≡ r
none_before (Ok x) = refl
none_before (Err e) = refl

pub loop_start : {A : Type 0} (p : Parser (Option A)) (ts : List Leaf) (count : ℕ) → count ≡ length ts + 1 → Goes p ts [] count ts
loop_start p ts count e =
    let more : count ≡ suc (length ts) = omega arith in
    none_before (until_in p count ts) ∙ ap (λ n. until_in p n ts) more

item_before : {A : Type 0} (found : List A) (a : A) (r : Read (List A)) → with_front (found ++ a ∷ []) r ≡ with_front found (after r (λ others. λ rest. Ok (a ∷ others, rest)))
item_before found a (Ok x) = ap (λ xs. Ok (xs, x.1)) (append_assoc found (a ∷ []) x.0)
item_before found a (Err e) = refl

pub loop_item : {A : Type 0} (p : Parser (Option A)) (ts : List Leaf) (found : List A) (a : A) (count left : ℕ) (rest behind : List Leaf) →
    count ≡ suc left → p rest ≡ Ok (Some a, behind) → Goes p ts found count rest → Goes p ts (found ++ a ∷ []) left behind
unfolding until_in
loop_item p ts found a count left rest behind e read goes =
    item_before found a (until_in p left behind) ∙ sym (ap (with_front found) (ap (λ n. until_in p n rest) e ∙ ap (λ r. after r (go_on (until_in p left))) read)) ∙ goes

pub loop_none : {A : Type 0} (p : Parser (Option A)) (ts : List Leaf) (found : List A) (count left : ℕ) (rest behind : List Leaf) →
    count ≡ suc left → p rest ≡ Ok (None, behind) → Goes p ts found count rest → until p ts ≡ Ok (found, behind)
unfolding until_in
loop_none p ts found count left rest behind e read goes =
    sym goes ∙ ap (with_front found) (ap (λ n. until_in p n rest) e ∙ ap (λ r. after r (go_on (until_in p left))) read) ∙ ap (λ xs. Ok (xs, behind)) (append-nil found)

pub loop_err : {A : Type 0} (p : Parser (Option A)) (ts : List Leaf) (found : List A) (count left : ℕ) (rest : List Leaf) (f : ParseKind × ℕ) →
    count ≡ suc left → p rest ≡ Err f → Goes p ts found count rest → until p ts ≡ Err f
unfolding until_in
loop_err p ts found count left rest f e read goes =
    sym goes ∙ ap (with_front found) (ap (λ n. until_in p n rest) e ∙ ap (λ r. after r (go_on (until_in p left))) read)

pub loop_over : {A : Type 0} (p : Parser (Option A)) (ts : List Leaf) (found : List A) (count : ℕ) (rest : List Leaf) →
    count ≡ 0 → Goes p ts found count rest → until p ts ≡ Err (P1, length rest)
unfolding until_in
loop_over p ts found count rest e goes = sym goes ∙ ap (with_front found) (ap (λ n. until_in p n rest) e)

pub loop_fails : {A : Type 0} (p : Parser (Option A)) (ts : List Leaf) (found : List A) (count left : ℕ) (rest : List Leaf) (stop : Stop) →
    count ≡ suc left → Fails stop (p rest) → Goes p ts found count rest → Fails stop (until p ts)
loop_fails p ts found count left rest (stops.At kind at) e read goes = loop_err p ts found count left rest (kind, at) e read goes
loop_fails p ts found count left rest stops.Memory e read goes = tt
