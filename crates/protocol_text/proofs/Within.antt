-- The place of a lexical fault is within the text, and a text has no more tokens than bytes.
use Rattle.std.proofs.Common.{◌≡◌, ℕ, ◌+◌, ◌-◌, ◌<◌, ◌≤◌, List, [], ◌∷◌, length, drop, Ok, Err, arith, sym, subst}
use Rattle.std.proofs.lemmas.List.{length-drop}
use Rattle.cub_lexer.specs.declared.fault.LexKind.{LexKind}
use Rattle.cub_lexer.specs.declared.token.Token.{Token}
use Rattle.cub_lexer.specs.Reading.{Reads, ends, gap, token, stops, Outcome, with_token}
use Rattle.cub_lexer.proofs.ReadingLaws.{gap_within, token_within}

-- a fault stands at most there; tokens are at most so many
abbrev pub IsWithin : ℕ → ℕ → Outcome → Type 0
IsWithin place many (Ok xs) = length xs ≤ many
IsWithin place many (Err e) = e.0 ≤ place

wider : (p q m k : ℕ) (o : Outcome) → p ≤ q → m ≤ k → IsWithin p m o → IsWithin q k o
wider p q m k (Ok xs) h i w = omega arith
wider p q m k (Err e) h i w = omega arith

one_more : (p q m k : ℕ) (x : Token) (o : Outcome) → p ≤ q → m < k → IsWithin p m o → IsWithin q k (with_token x o)
one_more p q m k x (Ok xs) h i w = omega arith
one_more p q m k x (Err e) h i w = omega arith

pub outcome_within : {at : ℕ} {t : List ℕ} {o : Outcome} → Reads at t o → IsWithin (at + length t) (length t) o
outcome_within ends = omega arith
outcome_within {at} {t} {o} (gap n g rest) =
    let w = gap_within t n g in
    let l = length-drop n t in
    wider (at + n + length (drop n t)) (at + length t) (length (drop n t)) (length t) o (omega (arith, w.0, w.1, l)) (omega (arith, l)) (outcome_within rest)
outcome_within {at} {t} (token o kind n is rest p same) =
    let w = token_within kind t n is.is_longest in
    let l = length-drop n t in
    subst (λ q. IsWithin (at + length t) (length t) q) (sym same)
    (one_more (at + n + length (drop n t)) (at + length t) (length (drop n t)) (length t) _ o (omega (arith, w.0, w.1, l)) (omega (arith, w.0, w.1, l)) (outcome_within rest))
outcome_within {at} {t} (stops kind is) = omega arith

-- the first fault of a whole text
pub fault_within : {t : List ℕ} {at : ℕ} {kind : LexKind} → Reads 0 t (Err (at, kind)) → at ≤ length t
fault_within {t} {at} h = let w : at ≤ 0 + length t = outcome_within h in omega arith
