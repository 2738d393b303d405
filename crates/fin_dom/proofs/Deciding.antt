-- Links that are settled, and what becomes of the others when one number has one constructor.
use Rattle.std.proofs.Common.{◌≡◌, ℕ, ◌+◌, ◌<◌, ◌≤◌, ◌^◌, Bool, true, false, not, ◌&&◌, ◌||◌, eqb, ltb, leb, min, All, List, [], ◌∷◌, ◌++◌, length, get_or, inl, inr, ◌⊎◌, IsTrue, refl, sym, ap, ◌∙◌, arith, w64}
use Rattle.std.specs.List.{list_all}
use Rattle.std.specs.Int.{bit_at, trailing_zeros}
use Rattle.std.specs.Prelude.{bit_and}
use Rattle.std.proofs.lemmas.Bool.{and_parts, and_from, or_left, or_right, or_cases, eqb-true, eqb-false, eq-eqb, ne_eqb, ltb-true, lt-ltb, leb-true, le-leb, not-true, not_from_false, cases_eq, cases_lt, both_ways, false_from_ne_true}
use Rattle.std.proofs.lemmas.List.Elements.{All-head, All-tail}
use Rattle.std.proofs.lemmas.Nat.Bits.{bit_at_and, bit_at-lt, bit_at-zero, same_from_bits}
use Rattle.cub_proto.specs.declared.literal.Lit.{Lit}
use Rattle.cub_proto.specs.declared.literal.Lit.TheVariants.{FinIn, FinEq, FinNe, ProcEq, ProcNe, Diff}
use Rattle.cub_proto.specs.Truth.{has_bit}
use Rattle.fin_dom.specs.Table.{number_of, low_at}
use Rattle.fin_dom.specs.Links.{AreMasks, link_fits, is_link_true, IsWithin, is_single, is_settled, agrees_equal, agrees_other, agrees, is_skipped, is_passed, is_fixed, waits, is_decided}
use Rattle.fin_dom.specs.Tried.{IsTried}
use Rattle.fin_dom.proofs.Masks.{no_bit, bit_from, has_bit_from, pow_has, pow_only, pow_low, pow_fits, both_bits, bit_below}

-- ---- masks without a common bit

pub apart_zero : (a b : ℕ) → ((c : ℕ) → has_bit a c ≡ true → has_bit b c ≡ true → ⊥) → bit_and a b ≡ 0
apart_zero a b apart = same_from_bits (bit_and a b) 0 (λ i.
    let value : bit_at (bit_and a b) i ≡ min (bit_at a i) (bit_at b i) = bit_at_and a b i in
    let zero : bit_at 0 i ≡ 0 = bit_at-zero i in
    let la : bit_at a i < 2 = bit_at-lt a i in
    let lb : bit_at b i < 2 = bit_at-lt b i in
    elim (cases_eq (bit_at a i) 1) [
      | inl one ↦ elim (cases_eq (bit_at b i) 1) [
        | inl too ↦ absurd (apart i (has_bit_from a i one) (has_bit_from b i too))
        | inr no_b ↦ omega arith
      ]
      | inr no_a ↦ omega arith
    ])

pub zero_apart : (a b c : ℕ) → bit_and a b ≡ 0 → has_bit a c ≡ true → has_bit b c ≡ true → ⊥
zero_apart a b c zero ha hb =
    let both : has_bit (bit_and a b) c ≡ true = both_bits a b c ∙ and_from _ _ ha hb in
    no_bit 0 c (bit_at-zero c) (rw (← zero) both)

-- ---- settled links are true

pub settled_true : (masks : List ℕ) (w : ℕ → ℕ) (lit : Lit) → IsWithin masks w → IsTrue (link_fits (length masks) lit) → is_settled masks lit ≡ true → is_link_true w lit ≡ true
settled_true masks w (FinIn t mask) within fit e = refl
settled_true masks w (FinEq a b) within fit e =
    let fits = and_parts (ltb (number_of a) (length masks)) (ltb (number_of b) (length masks)) fit in
    elim (or_cases (eqb (number_of a) (number_of b)) _ e) [
      | inl same ↦ eq-eqb _ _ (ap w (eqb-true _ _ same))
      | inr masks_same ↦
          let parts = and_parts (eqb (get_or masks (number_of a) 0) (get_or masks (number_of b) 0)) (is_single masks (number_of a)) masks_same in
          let equal : get_or masks (number_of a) 0 ≡ get_or masks (number_of b) 0 = eqb-true _ _ parts.0 in
          let single : get_or masks (number_of a) 0 ≡ 2 ^ low_at masks (number_of a) = eqb-true _ _ parts.1 in
          let same_single : get_or masks (number_of b) 0 ≡ 2 ^ low_at masks (number_of a) = sym equal ∙ single in
          let left_a : has_bit (2 ^ low_at masks (number_of a)) (w (number_of a)) ≡ true = rw single at (within (number_of a) (ltb-true _ _ fits.0)) in
          let left_b : has_bit (2 ^ low_at masks (number_of a)) (w (number_of b)) ≡ true = rw same_single at (within (number_of b) (ltb-true _ _ fits.1)) in
          eq-eqb _ _ (pow_only _ _ left_a ∙ sym (pow_only _ _ left_b))
    ]
settled_true masks w (FinNe a b) within fit e =
    let fits = and_parts (ltb (number_of a) (length masks)) (ltb (number_of b) (length masks)) fit in
    not_from_false _ (ne_eqb _ _ (λ same.
    let left_b : has_bit (get_or masks (number_of b) 0) (w (number_of a)) ≡ true = rw (← same) at (within (number_of b) (ltb-true _ _ fits.1)) in
    zero_apart _ _ (w (number_of a)) (eqb-true _ _ e) (within (number_of a) (ltb-true _ _ fits.0)) left_b))
settled_true masks w (ProcEq a b) within fit e = refl
settled_true masks w (ProcNe a b) within fit e = refl
settled_true masks w (Diff a b bound) within fit e = refl

-- ---- where no number from `from` on has an open link, all are settled

outside : (from at n len : ℕ) → is_skipped from at n ≡ true → n < len → len ≤ at → n < from
outside from at n len skip inside far = elim (or_cases (ltb n from) (leb at n) skip) [
  | inl before ↦ ltb-true _ _ before
  | inr behind ↦ absurd (omega (arith, leb-true at n behind))
]

none_waits : (masks : List ℕ) (from a b : ℕ) → waits masks from a b ≡ true → a < from → b < from → ⊥
none_waits masks from a b e la lb = elim (or_cases (leb from a) (leb from b) (and_parts (is_fixed masks from a && is_fixed masks from b) (leb from a || leb from b) e).1) [
  | inl x ↦ omega (arith, leb-true from a x)
  | inr y ↦ omega (arith, leb-true from b y)
]

closed_link : (masks : List ℕ) (from at len a b : ℕ) (settled : Bool) → len ≤ at → a < len → b < len → (settled || (is_skipped from at a && is_skipped from at b)) ≡ true
    → (settled || waits masks from a b) ≡ true → settled ≡ true
closed_link masks from at len a b settled far la lb passed decided = elim (or_cases settled _ passed) [
  | inl yes_now ↦ yes_now
  | inr skips ↦
      let parts = and_parts (is_skipped from at a) (is_skipped from at b) skips in
      elim (or_cases settled _ decided) [
        | inl yes_now ↦ yes_now
        | inr waiting ↦ absurd (none_waits masks from a b waiting (outside from at a len parts.0 la far) (outside from at b len parts.1 lb far))
      ]
]

pub all_settled : (masks : List ℕ) (from at : ℕ) (lit : Lit) → length masks ≤ at → IsTrue (link_fits (length masks) lit) → is_passed masks from at lit ≡ true
    → is_decided masks from lit ≡ true → is_settled masks lit ≡ true
all_settled masks from at (FinIn t mask) far fit p d = refl
all_settled masks from at (FinEq a b) far fit p d =
    let fits = and_parts (ltb (number_of a) (length masks)) (ltb (number_of b) (length masks)) fit in
    closed_link masks from at (length masks) (number_of a) (number_of b) (is_settled masks (FinEq a b)) far (ltb-true _ _ fits.0) (ltb-true _ _ fits.1) p d
all_settled masks from at (FinNe a b) far fit p d =
    let fits = and_parts (ltb (number_of a) (length masks)) (ltb (number_of b) (length masks)) fit in
    closed_link masks from at (length masks) (number_of a) (number_of b) (is_settled masks (FinNe a b)) far (ltb-true _ _ fits.0) (ltb-true _ _ fits.1) p d
all_settled masks from at (ProcEq a b) far fit p d = refl
all_settled masks from at (ProcNe a b) far fit p d = refl
all_settled masks from at (Diff a b bound) far fit p d = refl

-- ---- after constructor c was left to the number `at`

module _ (old new : List ℕ) (from at c : ℕ) (ok : AreMasks old) (t : IsTried old at c new) (has : has_bit (get_or old at 0) c ≡ true) (order : from ≤ at) (below : c < 64) where
  -- a number that had c alone has it still
  kept_single : (n d : ℕ) → get_or old n 0 ≡ 2 ^ d → get_or new n 0 ≡ get_or old n 0
  kept_single n d single = elim (cases_eq n at) [
    | inl here ↦
        let at_here : get_or old at 0 ≡ 2 ^ d = rw (← here) single in
        let same : c ≡ d = pow_only d c (rw at_here at has) in
        let value : get_or new at 0 ≡ get_or old at 0 = t.here ∙ ap (λ (k : ℕ). 2 ^ k) same ∙ sym at_here in
        rw here value
    | inr other ↦ t.others n other
  ]

  pub fewer : (n x : ℕ) → has_bit (get_or new n 0) x ≡ true → has_bit (get_or old n 0) x ≡ true
  fewer n x h = elim (cases_eq n at) [
    | inl here ↦
        let now : has_bit (2 ^ c) x ≡ true = rw (here, t.here) at h in
        let same : x ≡ c = pow_only c x now in
        rw (here, same) has
    | inr other ↦ rw (← t.others n other) h
  ]

  single_here : is_single new at ≡ true
  single_here =
      let fits : get_or new at 0 < 2 ^ 64 = rw t.here (pow_fits c below) in
      eq-eqb _ _ (pow_low (get_or new at 0) c fits t.here)

  single_kept : (n : ℕ) → (n ≡ at → ⊥) → is_single old n ≡ true → is_single new n ≡ true
  single_kept n other e = rw (t.others n other) e

  settled_equal : (a b : ℕ) → (eqb a b || (eqb (get_or old a 0) (get_or old b 0) && is_single old a)) ≡ true
      → (eqb a b || (eqb (get_or new a 0) (get_or new b 0) && is_single new a)) ≡ true
  settled_equal a b e = elim (or_cases (eqb a b) _ e) [
    | inl same ↦ or_left _ _ same
    | inr both ↦
        let parts = and_parts (eqb (get_or old a 0) (get_or old b 0)) (is_single old a) both in
        let equal : get_or old a 0 ≡ get_or old b 0 = eqb-true _ _ parts.0 in
        let single : get_or old a 0 ≡ 2 ^ low_at old a = eqb-true _ _ parts.1 in
        let ka : get_or new a 0 ≡ get_or old a 0 = kept_single a (low_at old a) single in
        let kb : get_or new b 0 ≡ get_or old b 0 = kept_single b (low_at old a) (sym equal ∙ single) in
        or_right (eqb a b) _ (rw (ka, kb) both)
  ]

  settled_other : (a b : ℕ) → eqb (bit_and (get_or old a 0) (get_or old b 0)) 0 ≡ true → eqb (bit_and (get_or new a 0) (get_or new b 0)) 0 ≡ true
  settled_other a b e =
      eq-eqb _ _ (apart_zero _ _ (λ x ha hb. zero_apart _ _ x (eqb-true _ _ e) (fewer a x ha) (fewer b x hb)))

  -- a number that was skipped, or is `at`, is fixed or behind
  fixed_next : (n : ℕ) → is_fixed old from n ≡ true → is_skipped from at n ≡ true → is_fixed new (at + 1) n ≡ true
  fixed_next n fixed skip = elim (cases_lt at n) [
    | inl behind ↦ or_left _ _ (le-leb (at + 1) n (omega arith))
    | inr upto ↦ elim (cases_eq n at) [
      | inl here ↦ or_right (leb (at + 1) n) _ (rw here single_here)
      | inr other ↦ elim (or_cases (leb from n) _ fixed) [
        | inl late ↦ elim (or_cases (ltb n from) (leb at n) skip) [
          | inl early ↦ absurd (omega (arith, leb-true from n late, ltb-true n from early))
          | inr at_least ↦ absurd (other (omega (arith, leb-true at n at_least)))
        ]
        | inr single ↦ or_right (leb (at + 1) n) _ (single_kept n other single)
      ]
    ]
  ]

  -- a number up to `at` that was skipped and was not fixed by itself is `at`
  is_at : (n : ℕ) → is_skipped from at n ≡ true → from ≤ n → n ≤ at → n ≡ at
  is_at n skip late upto = elim (or_cases (ltb n from) (leb at n) skip) [
    | inl early ↦ absurd (omega (arith, ltb-true n from early))
    | inr at_least ↦ omega (arith, leb-true at n at_least)
  ]

  single_before : (n : ℕ) → is_fixed old from n ≡ true → n < from → get_or old n 0 ≡ 2 ^ low_at old n
  single_before n fixed early = elim (or_cases (leb from n) _ fixed) [
    | inl late ↦ absurd (omega (arith, leb-true from n late))
    | inr single ↦ eqb-true _ _ single
  ]

  -- `at` is equal to an earlier number
  equal_met : (a b : ℕ) → a ≡ at → b < from → is_fixed old from b ≡ true → agrees_equal old at c a b ≡ true → get_or new a 0 ≡ get_or new b 0
  equal_met a b here early fixed agree =
      let other : b ≡ at → ⊥ = λ e. omega arith in
      let single : get_or old b 0 ≡ 2 ^ low_at old b = single_before b fixed early in
      elim (or_cases (not (eqb a at)) _ agree) [
        | inl off ↦ absurd (eqb-false a at (not-true _ off) here)
        | inr on ↦ elim (or_cases (eqb b at) _ on) [
          | inl too ↦ absurd (other (eqb-true _ _ too))
          | inr bit ↦
              let same : c ≡ low_at old b = pow_only (low_at old b) c (rw single at bit) in
              let na : get_or new a 0 ≡ 2 ^ c = ap (λ (k : ℕ). get_or new k 0) here ∙ t.here in
              na ∙ ap (λ (k : ℕ). 2 ^ k) same ∙ sym single ∙ sym (t.others b other)
        ]
      ]

  -- `at` differs from an earlier number
  other_met : (a b : ℕ) → a ≡ at → b < from → is_fixed old from b ≡ true → agrees_other old at c a b ≡ true → (x : ℕ) → has_bit (get_or new a 0) x ≡ true → has_bit (get_or new b 0) x ≡ true → ⊥
  other_met a b here early fixed agree x ha hb =
      let other : b ≡ at → ⊥ = λ e. omega arith in
      let single : get_or old b 0 ≡ 2 ^ low_at old b = single_before b fixed early in
      let na : get_or new a 0 ≡ 2 ^ c = ap (λ (k : ℕ). get_or new k 0) here ∙ t.here in
      let xc : x ≡ c = pow_only c x (rw na at ha) in
      let xb : x ≡ low_at old b = pow_only (low_at old b) x (rw (t.others b other, single) at hb) in
      elim (or_cases (not (eqb a at)) _ agree) [
        | inl off ↦ eqb-false a at (not-true _ off) here
        | inr on ↦
            let parts = and_parts (not (eqb b at)) (not (eqb (get_or old b 0) (2 ^ c))) on in
            eqb-false (get_or old b 0) (2 ^ c) (not-true _ parts.1) (single ∙ ap (λ (k : ℕ). 2 ^ k) (sym xb ∙ xc))
      ]

  -- both sides are `at`: no constructor differs from itself
  other_self : (a b : ℕ) → a ≡ at → b ≡ at → agrees_other old at c a b ≡ true → ⊥
  other_self a b ha hb agree = elim (or_cases (not (eqb a at)) _ agree) [
    | inl off ↦ eqb-false a at (not-true _ off) ha
    | inr on ↦ eqb-false b at (not-true _ (and_parts (not (eqb b at)) (not (eqb (get_or old b 0) (2 ^ c))) on).0) hb
  ]

  -- an open link is settled now, or waits for a later number
  link_next : (a b : ℕ) (was now : Bool) → (was ≡ true → now ≡ true) → (was || (is_skipped from at a && is_skipped from at b)) ≡ true → (was || waits old from a b) ≡ true
      → (a ≡ at → b ≡ at → now ≡ true) → (a ≡ at → b < from → is_fixed old from b ≡ true → now ≡ true) → (b ≡ at → a < from → is_fixed old from a ≡ true → now ≡ true)
      → (now || waits new (at + 1) a b) ≡ true
  link_next a b was now stays passed decided self first second = elim (or_cases was (is_skipped from at a && is_skipped from at b) passed) [
    | inl settled ↦ or_left now (waits new (at + 1) a b) (stays settled)
    | inr skips ↦ elim (or_cases was (waits old from a b) decided) [
      | inl settled ↦ or_left now (waits new (at + 1) a b) (stays settled)
      | inr waiting ↦
          let s = and_parts (is_skipped from at a) (is_skipped from at b) skips in
          let o = and_parts (is_fixed old from a && is_fixed old from b) (leb from a || leb from b) waiting in
          let f = and_parts (is_fixed old from a) (is_fixed old from b) o.0 in
          let fixed : (is_fixed new (at + 1) a && is_fixed new (at + 1) b) ≡ true = and_from (is_fixed new (at + 1) a) (is_fixed new (at + 1) b) (fixed_next a f.0 s.0) (fixed_next b f.1 s.1) in
          elim (cases_lt at a) [
            | inl late_a ↦ or_right now (waits new (at + 1) a b) (and_from (is_fixed new (at + 1) a && is_fixed new (at + 1) b) (leb (at + 1) a || leb (at + 1) b) fixed (or_left (leb (at + 1) a) (leb (at + 1) b) (le-leb (at + 1) a (omega arith))))
            | inr upto_a ↦ elim (cases_lt at b) [
              | inl late_b ↦ or_right now (waits new (at + 1) a b) (and_from (is_fixed new (at + 1) a && is_fixed new (at + 1) b) (leb (at + 1) a || leb (at + 1) b) fixed (or_right (leb (at + 1) a) (leb (at + 1) b) (le-leb (at + 1) b (omega arith))))
              | inr upto_b ↦ or_left now (waits new (at + 1) a b) (elim (cases_lt a from) [
                | inl early_a ↦ elim (cases_lt b from) [
                  | inl early_b ↦ absurd (none_waits old from a b waiting early_a early_b)
                  | inr from_b ↦ second (is_at b s.1 from_b upto_b) early_a f.0
                ]
                | inr from_a ↦ elim (cases_lt b from) [
                  | inl early_b ↦ first (is_at a s.0 from_a upto_a) early_b f.1
                  | inr from_b ↦ self (is_at a s.0 from_a upto_a) (is_at b s.1 from_b upto_b)
                ]
              ])
            ]
          ]
    ]
  ]

  pub decided_next : (lit : Lit) → is_decided old from lit ≡ true → is_passed old from at lit ≡ true → agrees old at c lit ≡ true → is_decided new (at + 1) lit ≡ true
  decided_next (FinIn u mask) d p g = refl
  decided_next (FinEq a b) d p g =
      let m = number_of a in
      let n = number_of b in
      let ag = and_parts (agrees_equal old at c m n) (agrees_equal old at c n m) g in
      link_next m n (is_settled old (FinEq a b)) (is_settled new (FinEq a b)) (settled_equal m n) p d
      (λ x y. or_left _ _ (eq-eqb _ _ (x ∙ sym y)))
      (λ x early fixed. or_right (eqb m n) _ (and_from _ _ (eq-eqb _ _ (equal_met m n x early fixed ag.0)) (rw x single_here)))
      (λ x early fixed.
      let same : get_or new m 0 ≡ get_or new n 0 = sym (equal_met n m x early fixed ag.1) in
      let single : is_single new m ≡ true = rw same (rw x single_here) in
      or_right (eqb m n) _ (and_from _ _ (eq-eqb _ _ same) single))
  decided_next (FinNe a b) d p g =
      let m = number_of a in
      let n = number_of b in
      let ag = and_parts (agrees_other old at c m n) (agrees_other old at c n m) g in
      link_next m n (is_settled old (FinNe a b)) (is_settled new (FinNe a b)) (settled_other m n) p d
      (λ x y. absurd (other_self m n x y ag.0))
      (λ x early fixed. eq-eqb _ _ (apart_zero _ _ (other_met m n x early fixed ag.0)))
      (λ x early fixed. eq-eqb _ _ (apart_zero _ _ (λ k ha hb. other_met n m x early fixed ag.1 k hb ha)))
  decided_next (ProcEq a b) d p g = refl
  decided_next (ProcNe a b) d p g = refl
  decided_next (Diff a b bound) d p g = refl
