-- The reading, from the front of a text and for the spans of its tokens.
use Rattle.std.proofs.Common.{◌≡◌, ℕ, zero, suc, ◌+◌, ◌-◌, ◌<◌, ◌≤◌, ◌⊎◌, Bool, true, false, cond, List, [], ◌∷◌, ◌++◌, length, take, drop, Some, None, Option, Ok, Err, IfOk, refl, ap, ◌∙◌, sym, subst, inl, inr, arith}
use Rattle.std.proofs.lemmas.List.{drop-drop, length-drop, drop_all}
use Rattle.cub_lexer.specs.declared.fault.LexKind.{LexKind}
use Rattle.cub_lexer.specs.declared.token.Token.{Token}
use Rattle.cub_lexer.specs.declared.token.TokenKind.{TokenKind}
use Rattle.cub_lexer.specs.Comment.{starts_blank, opens, is_opening, is_closing, end_of, comment_len}
use Rattle.cub_lexer.specs.Lexeme.{kind_of}
use Rattle.cub_lexer.specs.Reading.{Reads, ends, gap, token, stops, Outcome, with_token, IsGap, IsToken, IsLongest, IsFault}
use Rattle.cub_lexer.specs.Spans.{AreSpans, text_of}

-- tokens before the others
abbrev pub with_front : List Token → Outcome → Outcome
with_front [] o = o
with_front (x ∷ xs) o = with_token x (with_front xs o)

pub with_front_more : (xs : List Token) (x : Token) (o : Outcome) → with_front (xs ++ x ∷ []) o ≡ with_front xs (with_token x o)
with_front_more [] x o = refl
with_front_more (y ∷ xs) x o = ap (with_token y) (with_front_more xs x o)

pub with_front_all : (xs : List Token) → with_front xs (Ok []) ≡ Ok xs
with_front_all [] = refl
with_front_all (x ∷ xs) = ap (with_token x) (with_front_all xs)

pub with_front_err : (xs : List Token) (e : ℕ × LexKind) → with_front xs (Err e) ≡ Err e
with_front_err [] e = refl
with_front_err (x ∷ xs) e = ap (with_token x) (with_front_err xs e)

-- where a comment ends
end_case : (b c at n : ℕ) (inner outer here : Option ℕ) (more : ℕ) → (inner ≡ Some n → (at ≤ n) × (n ≤ at + more)) → (outer ≡ Some n → (at ≤ n) × (n ≤ at + more)) →
    (here ≡ Some n → (at ≤ n) × (n ≤ at + more)) → (x y : Bool) → cond x inner (cond y outer here) ≡ Some n → (at ≤ n) × (n ≤ at + more)
end_case b c at n inner outer here more f g h true y e = f e
end_case b c at n inner outer here more f g h false true e = g e
end_case b c at n inner outer here more f g h false false e = h e

end_within : (depth at : ℕ) (t : List ℕ) (n : ℕ) → end_of depth at t ≡ Some n → (at ≤ n) × (n ≤ at + length t)
unfolding end_of
end_within zero at t n e = let same : at ≡ n = cc in (omega arith, omega arith)
end_within (suc d) at [] n e = absurd cc
end_within (suc d) at (b ∷ []) n e = absurd cc
end_within (suc d) at (b ∷ c ∷ t) n e =
    end_case b c at n (end_of (suc (suc d)) (at + 2) t) (end_of d (at + 2) t) (end_of (suc d) (at + 1) (c ∷ t)) (length (b ∷ c ∷ t))
    (λ f. let w = end_within (suc (suc d)) (at + 2) t n f in (omega (arith, w.0), omega (arith, w.1)))
    (λ f. let w = end_within d (at + 2) t n f in (omega (arith, w.0), omega (arith, w.1)))
    (λ f. let w = end_within (suc d) (at + 1) (c ∷ t) n f in (omega (arith, w.0), omega (arith, w.1)))
    (is_opening b c) (is_closing b c) e

-- a gap takes at least a byte, and no more than there are
pub gap_within : (t : List ℕ) (n : ℕ) → IsGap n t → (0 < n) × (n ≤ length t)
gap_within [] n (inl h) = absurd cc
gap_within (b ∷ t) n (inl h) = (omega (arith, h.1), omega (arith, h.1))
gap_within [] n (inr h) = absurd cc
gap_within (b ∷ []) n (inr h) = absurd cc
gap_within (b ∷ c ∷ t) n (inr h) = let w = end_within 1 2 t n h.1 in (omega (arith, w.0), omega (arith, w.1))

-- so does a token
pub token_within : (kind : TokenKind) (t : List ℕ) (n : ℕ) → IsLongest kind n t → (0 < n) × (n ≤ length t)
token_within kind t zero h = let e = h.is_kind in absurd cc
token_within kind t (suc n) h = (omega arith, h.within)

AreSpans-from : (text : List ℕ) (from later : ℕ) (xs : List Token) → from ≤ later → AreSpans text later xs → AreSpans text from xs
AreSpans-from text from later [] h s = tt
AreSpans-from text from later (x ∷ xs) h s = (omega (arith, s.0), s.1, s.2, s.3, s.4)

spans_more : (text : List ℕ) (at n : ℕ) (kind : TokenKind) (o : Outcome) → 0 < n → at + n ≤ length text → kind_of (take n (drop at text)) ≡ Some kind → IfOk o (AreSpans text (at + n)) →
    IfOk (with_token (record { kind = kind; at = at; len = n }) o) (AreSpans text at)
spans_more text at n kind (Ok xs) h l k s = (omega arith, h, l, k, s)
spans_more text at n kind (Err e) h l k s = tt

spans_later : (text : List ℕ) (from later : ℕ) (o : Outcome) → from ≤ later → IfOk o (AreSpans text later) → IfOk o (AreSpans text from)
spans_later text from later (Ok xs) h s = AreSpans-from text from later xs h s
spans_later text from later (Err e) h s = tt

-- tokens of a reading stand in the text in order
pub spans_of : (text : List ℕ) {at : ℕ} {t : List ℕ} {o : Outcome} → Reads at t o → t ≡ drop at text → at ≤ length text → IfOk o (AreSpans text at)
spans_of text ends e l = tt
spans_of text {at} {t} {o} (gap n g r) e l =
    let w = gap_within t n g in
    let len : length t ≡ length text - at = ap length e ∙ length-drop at text in
    spans_later text at (at + n) o (omega arith) (spans_of text r (ap (drop n) e ∙ drop-drop n at text) (omega (arith, w.1)))
spans_of text {at} {t} {o} (token q kind n k r p same) e l =
    let w = token_within kind t n k.is_longest in
    let len : length t ≡ length text - at = ap length e ∙ length-drop at text in
    let is_kind : kind_of (take n (drop at text)) ≡ Some kind = ap (λ s. kind_of (take n s)) (sym e) ∙ k.is_longest.is_kind in
    subst (λ (x : Outcome). IfOk x (AreSpans text at)) (sym same) (spans_more text at n kind q w.0 (omega (arith, w.1)) is_kind
    (spans_of text r (ap (drop n) e ∙ drop-drop n at text) (omega (arith, w.1))))
spans_of text (stops kind f) e l = tt

-- so far these tokens were read, and what is read from here on completes the reading
pub record Continues (text : List ℕ) (at : ℕ) (found : List Token) : Type 0 where
  pub within : at ≤ length text
  pub completes : (o : Outcome) → Reads at (drop at text) o → Reads 0 text (with_front found o)

pub start : (text : List ℕ) → Continues text 0 []
start text = record { within = omega arith; completes = λ o r. r }

pub after_gap : (text : List ℕ) (at n : ℕ) (found : List Token) → Continues text at found → IsGap n (drop at text) → Continues text (at + n) found
after_gap text at n found c g =
    let w = gap_within (drop at text) n g in
    record {
      within = omega (arith, w.1, length-drop at text, c.within);
      completes = λ o r. c.completes o (gap n g (subst (λ (t : List ℕ). Reads (at + n) t o) (sym (drop-drop n at text)) r));
    }

pub after_token : (text : List ℕ) (at n : ℕ) (kind : TokenKind) (found : List Token) → Continues text at found → IsToken kind n (drop at text) →
    Continues text (at + n) (found ++ (record { kind = kind; at = at; len = n }) ∷ [])
after_token text at n kind found c g =
    let w = token_within kind (drop at text) n g.is_longest in
    record {
      within = omega (arith, w.1, length-drop at text, c.within);
      completes = λ o r.
          subst (λ (p : Outcome). Reads 0 text p) (sym (with_front_more found (record { kind = kind; at = at; len = n }) o))
          (c.completes (with_token (record { kind = kind; at = at; len = n }) o)
          (token o kind n g (subst (λ (t : List ℕ). Reads (at + n) t o) (sym (drop-drop n at text)) r) (with_token (record { kind = kind; at = at; len = n }) o) refl));
    }

pub at_fault : (text : List ℕ) (at : ℕ) (kind : LexKind) (found : List Token) → Continues text at found → IsFault kind (drop at text) → Reads 0 text (Err (at, kind))
at_fault text at kind found c f = subst (λ (p : Outcome). Reads 0 text p) (with_front_err found (at, kind)) (c.completes (Err (at, kind)) (stops kind f))

pub at_end : (text : List ℕ) (at : ℕ) (found : List Token) → Continues text at found → length text ≤ at → Reads 0 text (Ok found)
at_end text at found c h =
    let none : [] ≡ drop at text = sym (drop_all at text h) in
    subst (λ (p : Outcome). Reads 0 text p) (with_front_all found) (c.completes (Ok []) (subst (λ (t : List ℕ). Reads at t (Ok [])) none ends))

pub in_order : (text : List ℕ) (found : List Token) → Reads 0 text (Ok found) → AreSpans text 0 found
in_order text found r = spans_of text r refl (omega arith)
