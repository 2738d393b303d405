-- A line that was written is cut off again.
use Rattle.std.proofs.Common.{◌≡◌, ℕ, zero, suc, ◌+◌, ◌-◌, ◌<◌, ◌≤◌, Bool, true, false, not, cond, ◌==◌, nat_lt, List, [], ◌∷◌, ◌++◌, length, take, drop, get_or, take-append-drop, subst, Option, Some, None, refl, ap, sym, ◌∙◌, arith, lt-ltb, le-ltb, add-one, length-append, append_assoc, ltb-true}
use Rattle.std.specs.List.{prefix_len}
use Rattle.std.proofs.lemmas.Bool.{cond-true, cond-false, not-false, eqb-true}
use Rattle.std.proofs.lemmas.List.{drop_more}
use Rattle.std.proofs.lemmas.List.Sums.{prefix_len_stops}
use Rattle.text_lines.specs.Line.{line_len, line_at}

-- no line feed is among these bytes
abbrev pub IsOneLine : List ℕ → Type 0
IsOneLine [] = Unit {0}
IsOneLine (b ∷ bs) = ((b == 10) ≡ false) × IsOneLine bs

len_of_line : (line rest : List ℕ) → IsOneLine line → line_len (line ++ 10 ∷ rest) ≡ length line
len_of_line [] rest one = refl
len_of_line (b ∷ bs) rest one = rw (one.0) (ap (λ n. 1 + n) (len_of_line bs rest one.1) ∙ omega arith)

front_of_line : (line rest : List ℕ) → take (length line) (line ++ 10 ∷ rest) ≡ line
front_of_line [] rest = refl
front_of_line (b ∷ bs) rest = ap (λ xs. b ∷ xs) (front_of_line bs rest)

back_of_line : (line rest : List ℕ) → drop (suc (length line)) (line ++ 10 ∷ rest) ≡ rest
back_of_line [] rest = refl
back_of_line (b ∷ bs) rest = back_of_line bs rest

pub line_written : (line rest : List ℕ) → IsOneLine line → line_at (line ++ 10 ∷ rest) ≡ Some (line, rest)
line_written line rest one =
    let len = len_of_line line rest one in
    let all = length-append line (10 ∷ rest) in
    let inside : nat_lt (line_len (line ++ 10 ∷ rest)) (length (line ++ 10 ∷ rest)) ≡ true = lt-ltb _ _ (omega (arith, len, all)) in
    let next : line_len (line ++ 10 ∷ rest) + 1 ≡ suc (length line) = omega (arith, len) in
    cond-true (nat_lt (line_len (line ++ 10 ∷ rest)) (length (line ++ 10 ∷ rest))) _ None inside
    ∙ ap (λ n. Some (take n (line ++ 10 ∷ rest), drop (line_len (line ++ 10 ∷ rest) + 1) (line ++ 10 ∷ rest))) len
    ∙ ap (λ n. Some (take (length line) (line ++ 10 ∷ rest), drop n (line ++ 10 ∷ rest))) next
    ∙ ap (λ xs. Some (xs, drop (suc (length line)) (line ++ 10 ∷ rest))) (front_of_line line rest)
    ∙ ap (λ xs. Some (line, xs)) (back_of_line line rest)

line_front_one : (text : List ℕ) → IsOneLine (take (line_len text) text)
line_front_one [] = tt
line_front_one (b ∷ bs) = by (b == 10) refl (line_front_one bs)
  where
    by : (x : Bool) → (b == 10) ≡ x → IsOneLine (take (line_len bs) bs) → IsOneLine (take (cond (not x) (1 + line_len bs) 0) (b ∷ bs))
    by true is one = tt
    by false is one = let e : suc (line_len bs) ≡ 1 + line_len bs = omega arith in subst (λ n. IsOneLine (take n (b ∷ bs))) e (is, one)

line_parts_at : (text bytes rest : List ℕ) → line_at text ≡ Some (bytes, rest)
    → (line_len text < length text) × (take (line_len text) text ≡ bytes) × (drop (line_len text + 1) text ≡ rest)
line_parts_at text bytes rest at = by (nat_lt (line_len text) (length text)) refl at
  where
    bytes_of : Option (List ℕ × List ℕ) → List ℕ
    bytes_of None = []
    bytes_of (Some x) = x.0

    rest_of : Option (List ℕ × List ℕ) → List ℕ
    rest_of None = []
    rest_of (Some x) = x.1

    by : (x : Bool) → nat_lt (line_len text) (length text) ≡ x → cond {A = Option (List ℕ × List ℕ)} x (Some (take (line_len text) text, drop (line_len text + 1) text)) None ≡ Some (bytes, rest)
        → (line_len text < length text) × (take (line_len text) text ≡ bytes) × (drop (line_len text + 1) text ≡ rest)
    by true is e = (ltb-true (line_len text) (length text) is, ap bytes_of e, ap rest_of e)
    by false is e = cc

-- a line that is cut off has no line feed
pub cut_one : (text bytes rest : List ℕ) → line_at text ≡ Some (bytes, rest) → IsOneLine bytes
cut_one text bytes rest at = subst IsOneLine (line_parts_at text bytes rest at).1 (line_front_one text)

-- the line, its line feed and the rest are the text
pub line_split : (text bytes rest : List ℕ) → line_at text ≡ Some (bytes, rest) → text ≡ bytes ++ 10 ∷ rest
line_split text bytes rest at =
    let parts = line_parts_at text bytes rest at in
    let n = line_len text in
    let stop = prefix_len_stops (λ b. not (b == 10)) text 0 parts.0 in
    let feed : get_or text n 0 ≡ 10 = eqb-true (get_or text n 0) 10 (not-false (get_or text n 0 == 10) stop) in
    sym (take-append-drop n text) ∙ ap (λ t. take n text ++ t) (drop_more text n 0 parts.0)
    ∙ ap (λ b. take n text ++ b ∷ drop (n + 1) text) feed ∙ ap (λ t. t ++ 10 ∷ drop (n + 1) text) parts.1 ∙ ap (λ t. bytes ++ 10 ∷ t) parts.2

-- what stands behind a text does not change its first line
pub line_more : (text bytes rest more : List ℕ) → line_at text ≡ Some (bytes, rest) → line_at (text ++ more) ≡ Some (bytes, rest ++ more)
line_more text bytes rest more at =
    ap (λ t. line_at (t ++ more)) (line_split text bytes rest at) ∙ ap line_at (append_assoc bytes (10 ∷ rest) more)
    ∙ line_written bytes (rest ++ more) (cut_one text bytes rest at)
