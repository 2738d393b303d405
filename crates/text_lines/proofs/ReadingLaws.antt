-- Readings line by line: there is one; a reading is made a line at a time; what was read is the text; no front of an
-- accepted text is accepted.
use Rattle.std.proofs.Common.{◌≡◌, ℕ, zero, suc, ◌+◌, ◌-◌, ◌<◌, ◌≤◌, List, [], ◌∷◌, ◌++◌, length, take, drop, Option, Some, None, Result, Ok, Err, refl, ap, sym, subst, ◌∙◌, arith, append_assoc, append-nil, length-append}
use Rattle.std.specs.Prelude.{IsErr}
use Rattle.text_lines.specs.Line.{line_at, line_len, ended}
use Rattle.text_lines.proofs.LineLaws.{IsOneLine, line_split, line_more}
use Rattle.text_lines.specs.Reading.{Reads, ends, line, stops, IsStuck, Continues}

abbrev bytes_of : Option (List ℕ × List ℕ) → List ℕ
bytes_of None = []
bytes_of (Some x) = x.0

abbrev rest_of : Option (List ℕ × List ℕ) → List ℕ
rest_of None = []
rest_of (Some x) = x.1

same_pair : (a b c d : List ℕ) → ◌≡◌ {A = Option (List ℕ × List ℕ)} (Some (a, b)) (Some (c, d)) → (a ≡ c) × (b ≡ d)
same_pair a b c d h = (ap bytes_of h, ap rest_of h)

no_line : (text bytes rest : List ℕ) → text ≡ [] → line_at text ≡ Some (bytes, rest) → ⊥
no_line text bytes rest empty is =
    let none : line_at text ≡ None = ap line_at empty in
    cc

module _ {P V K : Type 0} (takes : P → List ℕ → P → Type 0) (value : P → Option V) (kind : P → List ℕ → K) where
  module _ (one : (p q r : P) (bytes : List ℕ) → takes p bytes q → takes p bytes r → q ≡ r) where
    -- a text has one reading
    pub one_reading : {p : P} {n : ℕ} {text : List ℕ} {o u : Result V (ℕ × K)} → Reads takes value kind p n text o → Reads takes value kind p n text u → o ≡ u
    one_reading (ends v e is) (ends w f js) = cc
    one_reading {p} {n} {text} (ends v e is) (line bytes rest at t r) = absurd (no_line text bytes rest e at)
    one_reading (ends v e is) (stops stuck) = let none = stuck.no_end e in absurd cc
    one_reading {p} {n} {text} (line bytes rest at t r) (ends v e is) = absurd (no_line text bytes rest e at)
    one_reading {p} {n} {text} {o} {u} (line {q = q} bytes rest at t r) (line {q = q2} bytes2 rest2 at2 t2 r2) =
        let parts = same_pair bytes rest bytes2 rest2 (sym at ∙ at2) in
        let place : q ≡ q2 = one p q q2 bytes t (subst (λ (b : List ℕ). takes p b q2) (sym parts.0) t2) in
        one_reading r (subst (λ (x : P). Reads takes value kind x (n + 1) rest u) (sym place)
        (subst (λ (x : List ℕ). Reads takes value kind q2 (n + 1) x u) (sym parts.1) r2))
    one_reading (line {q = q} bytes rest at t r) (stops stuck) = absurd (stuck.no_line bytes rest q at t)
    one_reading (stops stuck) (ends v e is) = let none = stuck.no_end e in absurd cc
    one_reading (stops stuck) (line {q = q} bytes rest at t r) = absurd (stuck.no_line bytes rest q at t)
    one_reading (stops stuck) (stops other) = refl

  -- a line more
  pub line_more_read : (q z : P) (m : ℕ) (bytes rest : List ℕ) (p : P) (n : ℕ) (text left : List ℕ) → Continues takes value kind q m left p n text → line_at left ≡ Some (bytes, rest)
      → takes q bytes z → Continues takes value kind z (m + 1) rest p n text
  line_more_read q z m bytes rest p n text left c at t = λ o r. c o (line bytes rest at t r)

  -- what was read, if each place tells the text before it
  module _ (written : P → List ℕ) (steps : (p q : P) (bytes : List ℕ) → takes p bytes q → written q ≡ written p ++ ended bytes) where
    pub found : {p : P} {n : ℕ} {text : List ℕ} {o : Result V (ℕ × K)} (v : V) → Reads takes value kind p n text o → o ≡ Ok v
        → (q : P) × (value q ≡ Some v) × (written q ≡ written p ++ text)
    found {p} v (ends w empty is) e = (
      p,
      let same : w ≡ v = cc in is ∙ ap (λ x. Some x) same,
      sym (append-nil (written p)) ∙ ap (λ t. written p ++ t) (sym empty),
    )
    found {p} {n} {text} v (line {q = q} bytes rest at t r) e =
        let later = found v r e in (
          later.0,
          later.1,
          later.2 ∙ ap (λ t. t ++ rest) (steps p q bytes t) ∙ append_assoc (written p) (ended bytes) rest
              ∙ ap (λ t. written p ++ t) (append_assoc bytes (10 ∷ []) rest ∙ sym (line_split text bytes rest at)),
        )
    found v (stops stuck) e = absurd (let f : Err _ ≡ Ok v = e in cc)

  -- where a text may end no line may stand, so no front of an accepted text is accepted
  module _ (closed : (p q : P) (bytes : List ℕ) (v : V) → value p ≡ Some v → takes p bytes q → ⊥)
      (one : (p q r : P) (bytes : List ℕ) → takes p bytes q → takes p bytes r → q ≡ r) where
    pub no_front : {p : P} {n : ℕ} {text : List ℕ} {o : Result V (ℕ × K)} (u : V) → Reads takes value kind p n text o → o ≡ Ok u
        → (more : List ℕ) → 0 < length more → (whole : List ℕ) → whole ≡ text ++ more → (a : Result V (ℕ × K)) → Reads takes value kind p n whole a → (v : V) → a ≡ Ok v → ⊥
    no_front {p} {n} {text} u (ends w empty is) e more some whole join a (ends x none js) v f =
        let len = length-append text more in
        let same : length whole ≡ length (text ++ more) = ap length join in
        let zero_len : length whole ≡ 0 = ap length none in
        omega arith
    no_front {p} u (ends w empty is) e more some whole join a (line {q = q} bytes rest at t r) v f = closed p q bytes w is t
    no_front u (ends w empty is) e more some whole join a (stops stuck) v f = absurd (let g : Err _ ≡ Ok v = f in cc)
    no_front {p} {n} {text} u (line {q = q} bytes rest at t r) e more some whole join a (ends x none js) v f = closed p q bytes x js t
    no_front {p} {n} {text} u (line {q = q} bytes rest at t r) e more some whole join a (line {q = q2} bytes2 rest2 at2 t2 r2) v f =
        let parts = same_pair bytes (rest ++ more) bytes2 rest2 (sym (line_more text bytes rest more at) ∙ ap line_at (sym join) ∙ at2) in
        let place : q ≡ q2 = one p q q2 bytes t (subst (λ (b : List ℕ). takes p b q2) (sym parts.0) t2) in
        no_front u r e more some rest2 (sym parts.1) a (subst (λ (x : P). Reads takes value kind x (n + 1) rest2 a) (sym place) r2) v f
    no_front u (line bytes rest at t r) e more some whole join a (stops stuck) v f = absurd (let g : Err _ ≡ Ok v = f in cc)
    no_front u (stops stuck) e more some whole join a s v f = absurd (let g : Err _ ≡ Ok u = e in cc)
