-- A text has one reading: what may stand at one place excludes all else there.
use Rattle.std.proofs.Common.{◌≡◌, ℕ, zero, suc, ◌+◌, ◌<◌, ◌≤◌, ◌⊎◌, Bool, true, false, List, [], ◌∷◌, length, take, drop, Some, None, Option, Ok, Err, refl, ap, ◌∙◌, sym, subst, inl, inr, arith, eqb}
use Rattle.std.proofs.lemmas.Bool.{cases_order, eqb-true, and_parts}
use Rattle.cub_lexer.specs.declared.fault.LexKind.{LexKind}
use Rattle.cub_lexer.specs.declared.fault.LexKind.TheVariants.{L1, L2, L3, L4}
use Rattle.cub_lexer.specs.declared.token.Token.{Token}
use Rattle.cub_lexer.specs.declared.token.TokenKind.{TokenKind}
use Rattle.cub_lexer.specs.declared.token.TokenKind.TheVariants.{Number, Name}
use Rattle.cub_lexer.specs.Comment.{is_blank, starts_blank, opens, comment_len}
use Rattle.cub_lexer.specs.Lexeme.{kind_of}
use Rattle.cub_lexer.specs.Number.{value_of}
use Rattle.cub_lexer.specs.Reading.{Reads, ends, gap, token, stops, Outcome, OneReading, with_token, IsBetweenGaps, IsGap, IsToken, IsLongest, IsFault, name_limit, number_limit}
use Rattle.cub_lexer.proofs.ReadingLaws.{gap_within, token_within}

-- an opening is no blank
opens_no_blank : (t : List ℕ) → opens t ≡ true → starts_blank t ≡ true → ⊥
opens_no_blank [] h e = cc
opens_no_blank (b ∷ []) h e = cc
opens_no_blank (b ∷ c ∷ t) h e =
    let is_paren : b ≡ 40 = eqb-true b 40 (and_parts _ _ h).0 in
    let blank : is_blank 40 ≡ true = subst (λ x. is_blank x ≡ true) is_paren e in
    cc

same_gap : (t : List ℕ) (n m : ℕ) → IsGap n t → IsGap m t → n ≡ m
same_gap t n m (inl g) (inl h) = g.1 ∙ sym h.1
same_gap t n m (inl g) (inr h) = absurd (opens_no_blank t h.0 g.0)
same_gap t n m (inr g) (inl h) = absurd (opens_no_blank t g.0 h.0)
same_gap t n m (inr g) (inr h) = let e = g.1 in let f = h.1 in cc

no_gap : (t : List ℕ) (n : ℕ) → IsGap n t → IsBetweenGaps t → ⊥
no_gap t n (inl g) h = let e = g.0 in let f = h.0 in cc
no_gap t n (inr g) h = let e = g.0 in let f = h.1 in cc

no_gap_fault : (t : List ℕ) (n : ℕ) (kind : LexKind) → IsGap n t → IsFault kind t → ⊥
no_gap_fault t n L1 g f = no_gap t n g f.1
no_gap_fault t n L2 (inl g) f = opens_no_blank t f.0 g.0
no_gap_fault t n L2 (inr g) f = let e = g.1 in let h = f.1 in cc
no_gap_fault t n L3 g f = no_gap t n g f.1.between
no_gap_fault t n L4 g f = no_gap t n g f.1.between

-- the longest token is one, of one kind
same_len : (t : List ℕ) (j k : TokenKind) (n m : ℕ) → IsLongest j n t → IsLongest k m t → n ≡ m
same_len t j k n m g h = go (cases_order n m)
  where
    go : (n ≡ m) ⊎ ((n < m) ⊎ (m < n)) → n ≡ m
    go (inl e) = e
    go (inr (inl l)) = let e = g.longest m l h.within in let f = h.is_kind in absurd cc
    go (inr (inr l)) = let e = h.longest n l g.within in let f = g.is_kind in absurd cc

same_kind_of : (t : List ℕ) (j k : TokenKind) (n m : ℕ) → IsLongest j n t → IsLongest k m t → j ≡ k
same_kind_of t j k n m g h =
    let e : n ≡ m = same_len t j k n m g h in
    let f : kind_of (take n t) ≡ Some j = g.is_kind in
    let q : kind_of (take n t) ≡ Some k = ap (λ i. kind_of (take i t)) e ∙ h.is_kind in
    cc

no_token_fault : (t : List ℕ) (k : TokenKind) (n : ℕ) (kind : LexKind) → IsToken k n t → IsFault kind t → ⊥
no_token_fault t k n L1 g f = let e = f.2 n g.is_longest.within in let h = g.is_longest.is_kind in cc
no_token_fault t k n L2 g f = let e = f.0 in let h = g.is_longest.between.1 in cc
no_token_fault t k n L3 g f =
    let e : n ≡ f.0 = same_len t k Number n f.0 g.is_longest f.1 in
    let small : value_of (take f.0 t) ≤ number_limit = subst (λ i. value_of (take i t) ≤ number_limit) e (g.small (same_kind_of t k Number n f.0 g.is_longest f.1)) in
    omega (arith, f.2)
no_token_fault t k n L4 g f =
    let e : n ≡ f.0 = same_len t k Name n f.0 g.is_longest f.1 in
    omega (arith, f.2, g.short (same_kind_of t k Name n f.0 g.is_longest f.1))

same_fault : (t : List ℕ) (j k : LexKind) → IsFault j t → IsFault k t → j ≡ k
same_fault t L1 L1 f g = refl
same_fault t L1 L2 f g = let e = f.1.1 in let h = g.0 in absurd cc
same_fault t L1 L3 f g = let e = f.2 g.0 g.1.within in let h = g.1.is_kind in absurd cc
same_fault t L1 L4 f g = let e = f.2 g.0 g.1.within in let h = g.1.is_kind in absurd cc
same_fault t L2 L1 f g = let e = g.1.1 in let h = f.0 in absurd cc
same_fault t L2 L2 f g = refl
same_fault t L2 L3 f g = let e = g.1.between.1 in let h = f.0 in absurd cc
same_fault t L2 L4 f g = let e = g.1.between.1 in let h = f.0 in absurd cc
same_fault t L3 L1 f g = let e = g.2 f.0 f.1.within in let h = f.1.is_kind in absurd cc
same_fault t L3 L2 f g = let e = f.1.between.1 in let h = g.0 in absurd cc
same_fault t L3 L3 f g = refl
same_fault t L3 L4 f g = let e : Number ≡ Name = same_kind_of t Number Name f.0 g.0 f.1 g.1 in absurd cc
same_fault t L4 L1 f g = let e = g.2 f.0 f.1.within in let h = f.1.is_kind in absurd cc
same_fault t L4 L2 f g = let e = f.1.between.1 in let h = g.0 in absurd cc
same_fault t L4 L3 f g = let e : Name ≡ Number = same_kind_of t Name Number f.0 g.0 f.1 g.1 in absurd cc
same_fault t L4 L4 f g = refl

-- at the end nothing stands
no_gap_at_end : (n : ℕ) → IsGap n [] → ⊥
no_gap_at_end n g = let w = gap_within [] n g in omega (arith, w.0, w.1)

no_token_at_end : (k : TokenKind) (n : ℕ) → IsLongest k n [] → ⊥
no_token_at_end k n g = let w = token_within k [] n g in omega (arith, w.0, w.1)

no_fault_at_end : (kind : LexKind) → IsFault kind [] → ⊥
no_fault_at_end L1 f = omega (arith, f.0)
no_fault_at_end L2 f = let e = f.0 in cc
no_fault_at_end L3 f = no_token_at_end Number f.0 f.1
no_fault_at_end L4 f = no_token_at_end Name f.0 f.1

pub one : {at : ℕ} {t : List ℕ} {o p : Outcome} → Reads at t o → Reads at t p → o ≡ p
one ends ends = refl
one ends (gap n g r) = absurd (no_gap_at_end n g)
one ends (token q k n g r p e) = absurd (no_token_at_end k n g.is_longest)
one ends (stops k f) = absurd (no_fault_at_end k f)
one (gap n g r) ends = absurd (no_gap_at_end n g)
one {at} {t} {o} {p} (gap n g r) (gap m h s) =
    let e : n ≡ m = same_gap t n m g h in
    one r (subst (λ (k : ℕ). Reads (at + k) (drop k t) p) (sym e) s)
one {at} {t} (gap n g r) (token q k m h s p e) = absurd (no_gap t n g h.is_longest.between)
one {at} {t} (gap n g r) (stops k f) = absurd (no_gap_fault t n k g f)
one (token q k n g r p e) ends = absurd (no_token_at_end k n g.is_longest)
one {at} {t} (token q k n g r p e) (gap m h s) = absurd (no_gap t m h g.is_longest.between)
one {at} {t} (token q k n g r p e) (token u j m h s v f) =
    let len : n ≡ m = same_len t k j n m g.is_longest h.is_longest in
    let kind : k ≡ j = same_kind_of t k j n m g.is_longest h.is_longest in
    let rest : q ≡ u = one r (subst (λ (i : ℕ). Reads (at + i) (drop i t) u) (sym len) s) in
    e ∙ rw (len, kind, rest) (sym f)
one {at} {t} (token q k n g r p e) (stops j f) = absurd (no_token_fault t k n j g f)
one (stops k f) ends = absurd (no_fault_at_end k f)
one {at} {t} (stops k f) (gap n g r) = absurd (no_gap_fault t n k g f)
one {at} {t} (stops k f) (token q j n g r p e) = absurd (no_token_fault t j n k g f)
one {at} {t} (stops k f) (stops j g) = ap (λ i. Err (at, i)) (same_fault t k j f g)
