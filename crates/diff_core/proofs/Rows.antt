-- Loops over a row, and over the rows, that lower entries.
use Rattle.std.proofs.Common.{◌≡◌, ◌≢◌, ℕ, ◌<◌, ◌≤◌, ◌+◌, ◌*◌, ℤ, pos, ◌+ℤ◌, ◌-ℤ◌, ◌≤ℤ◌, ◌<ℤ◌, List, get_or, arith, ◌⊎◌, inl, inr, subst, sym, ◌∙◌, below_more}
use Rattle.std.proofs.lemmas.Int.{ints, by_lt_z}
use Rattle.diff_core.specs.Closed.{Closed}
use Rattle.diff_core.specs.Table.{cell, far}
use Rattle.diff_core.specs.Relaxes.{Lowers, Kept, Led, Step}
use Rattle.diff_core.proofs.Closed.{near_small}

-- the state of a row that is lowered up to entry j
pub record RowDone (old now : List ℤ) (n i r j : ℕ) (first : ℤ) : Type 0 where
  pub row : (x : ℕ) → x < j → Lowers (cell old i x) (cell now i x) first (cell old r x)
  pub ahead : (x : ℕ) → j ≤ x → x < n → cell now i x ≡ cell old i x
  pub others : (k x : ℕ) → k < n → x < n → k ≢ i → cell now k x ≡ cell old k x

-- one entry more
pub row_step : (old now new : List ℤ) (n i r j : ℕ) (first : ℤ) → n ≤ 105 → i < n → r < n → i ≢ r → j < n → RowDone old now n i r j first →
    Lowers (cell now i j) (cell new i j) first (cell now r j) → ((k : ℕ) → k ≢ i * 105 + j → get_or new k (pos 0) ≡ get_or now k (pos 0)) → RowDone old new n i r (j + 1) first
row_step old now new n i r j first few i_in r_in other j_in was here stays = record { row = row; ahead = ahead; others = others }
  where
    before : Lowers (cell old i j) (cell new i j) first (cell old r j)
    before =
        let at_i : cell now i j ≡ cell old i j = was.ahead j (omega arith) j_in in
        let not_i : r ≢ i = λ h. other (sym h) in
        let at_r : cell now r j ≡ cell old r j = was.others r j r_in j_in not_i in
        subst (λ (z : ℤ). Lowers z (cell new i j) first (cell old r j)) at_i (subst (λ (z : ℤ). Lowers (cell now i j) (cell new i j) first z) at_r here)

    row : (x : ℕ) → x < j + 1 → Lowers (cell old i x) (cell new i x) first (cell old r x)
    row = below_more (λ x. Lowers (cell old i x) (cell new i x) first (cell old r x)) j
        (λ x x_in. let same : cell new i x ≡ cell now i x = stays (i * 105 + x) (omega arith) in
        subst (λ (z : ℤ). Lowers (cell old i x) z first (cell old r x)) (sym same) (was.row x x_in))
        before

    ahead : (x : ℕ) → j + 1 ≤ x → x < n → cell new i x ≡ cell old i x
    ahead x above x_in = stays (i * 105 + x) (omega arith) ∙ was.ahead x (omega arith) x_in

    others : (k x : ℕ) → k < n → x < n → k ≢ i → cell new k x ≡ cell old k x
    others k x k_in x_in not_i = stays (k * 105 + x) (omega arith) ∙ was.others k x k_in x_in not_i

-- entries that keep or fall, at a row that has a way to a
lowers_relaxes : (e f : ℕ → ℕ → ℤ) (a b : ℕ) (d : ℤ) (i j : ℕ) → e i a <ℤ far → Lowers (e i j) (f i j) (e i a +ℤ d) (e b j) → Kept far e f a b d i j ⊎ Led far e f a b d i j
lowers_relaxes e f a b d i j near lowers =
    elim lowers [
      | inl (same, past) ↦ inl (record { same = same; past = λ to from. past from })
      | inr (from, sum, less) ↦ inr (record { to = near; from = from; sum = sum; less = less })
    ]

-- each entry of a closed table, a bound or none, is above the least number that is used
pub entry_at_least : (n : ℕ) (e : ℕ → ℕ → ℤ) → n ≤ 105 → Closed n 281474976710656 far e → (i j : ℕ) → i < n → j < n → (pos 0 -ℤ e i j) ≤ℤ pos 29554872554618880
entry_at_least n e few closed i j i_in j_in =
    by_lt_z (e i j) far
    (λ near. omega (arith, ints, few, (near_small n 281474976710656 far e closed i j i_in j_in near).below))
    (λ none. omega (arith, ints, none))

pub entry_at_most : (n : ℕ) (e : ℕ → ℕ → ℤ) → n ≤ 105 → Closed n 281474976710656 far e → (i j : ℕ) → i < n → j < n → e i j <ℤ far → e i j ≤ℤ pos 29554872554618880
entry_at_most n e few closed i j i_in j_in near = omega (arith, ints, few, (near_small n 281474976710656 far e closed i j i_in j_in near).above)

-- the state of a table whose rows are lowered up to row i
pub record RowsDone (old now : List ℤ) (n i a b : ℕ) (d : ℤ) : Type 0 where
  pub rows : (k : ℕ) → k < i → (x : ℕ) → x < n → Kept far (cell old) (cell now) a b d k x ⊎ Led far (cell old) (cell now) a b d k x
  pub ahead : (k x : ℕ) → i ≤ k → k < n → x < n → cell now k x ≡ cell old k x
  pub right_row : (x : ℕ) → x < n → cell now b x ≡ cell old b x

module _ (old now new : List ℤ) (n i a b : ℕ) (d : ℤ) (few : n ≤ 105) (i_in : i < n) (step : Step n 281474976710656 far (cell old) a b d) (was : RowsDone old now n i a b d) where
  kept_rows : ((k x : ℕ) → k < n → x < n → k ≢ i → cell new k x ≡ cell now k x) → (k : ℕ) → k < i → (x : ℕ) → x < n → Kept far (cell old) (cell new) a b d k x ⊎ Led far (cell old) (cell new) a b d k x
  kept_rows others k k_in x x_in =
      let same : cell new k x ≡ cell now k x = others k x (omega arith) x_in (omega arith) in
      elim (was.rows k k_in x x_in) [
        | inl kept ↦ inl (record { same = same ∙ kept.same; past = kept.past })
        | inr led ↦ inr (record { to = led.to; from = led.from; sum = same ∙ led.sum; less = subst (λ (z : ℤ). z <ℤ cell old k x) (sym same) led.less })
      ]

  -- one row more, which is lowered
  pub rows_lowered : i ≢ b → cell now i a <ℤ far → ((x : ℕ) → x < n → Lowers (cell now i x) (cell new i x) (cell now i a +ℤ d) (cell now b x)) →
      ((k x : ℕ) → k < n → x < n → k ≢ i → cell new k x ≡ cell now k x) → RowsDone old new n (i + 1) a b d
  rows_lowered other near row others = record {
    rows = below_more (λ k. (x : ℕ) → x < n → Kept far (cell old) (cell new) a b d k x ⊎ Led far (cell old) (cell new) a b d k x) i (kept_rows others) here;
    ahead = λ k x above k_in x_in. others k x k_in x_in (omega arith) ∙ was.ahead k x (omega arith) k_in x_in;
    right_row = λ x x_in. others b x step.b_in x_in (λ h. other (sym h)) ∙ was.right_row x x_in;
  }
    where
      to_a : cell now i a ≡ cell old i a
      to_a = was.ahead i a (omega arith) i_in step.a_in

      here : (x : ℕ) → x < n → Kept far (cell old) (cell new) a b d i x ⊎ Led far (cell old) (cell new) a b d i x
      here x x_in =
          let own : cell now i x ≡ cell old i x = was.ahead i x (omega arith) i_in x_in in
          let rest : cell now b x ≡ cell old b x = was.right_row x x_in in
          let one : Lowers (cell old i x) (cell new i x) (cell now i a +ℤ d) (cell now b x) = subst (λ (z : ℤ). Lowers z (cell new i x) (cell now i a +ℤ d) (cell now b x)) own (row x x_in) in
          let two : Lowers (cell old i x) (cell new i x) (cell old i a +ℤ d) (cell now b x) = subst (λ (z : ℤ). Lowers (cell old i x) (cell new i x) (z +ℤ d) (cell now b x)) to_a one in
          let three : Lowers (cell old i x) (cell new i x) (cell old i a +ℤ d) (cell old b x) = subst (λ (z : ℤ). Lowers (cell old i x) (cell new i x) (cell old i a +ℤ d) z) rest two in
          lowers_relaxes (cell old) (cell new) a b d i x (subst (λ (z : ℤ). z <ℤ far) to_a near) three

-- one row more, which stays: that of b, or one with no way to a
pub rows_passed : (old now : List ℤ) (n i a b : ℕ) (d : ℤ) → i < n → Step n 281474976710656 far (cell old) a b d → (i ≡ b) ⊎ (far ≤ℤ cell now i a) → RowsDone old now n i a b d → RowsDone old now n (i + 1) a b d
rows_passed old now n i a b d i_in step why was = record {
  rows = below_more (λ k. (x : ℕ) → x < n → Kept far (cell old) (cell now) a b d k x ⊎ Led far (cell old) (cell now) a b d k x) i was.rows here;
  ahead = λ k x above k_in x_in. was.ahead k x (omega arith) k_in x_in;
  right_row = was.right_row;
}
  where
    past : (x : ℕ) → x < n → cell old i a <ℤ far → cell old b x <ℤ far → cell old i x ≤ℤ (cell old i a +ℤ d +ℤ cell old b x)
    past x x_in to from =
        elim why [
          | inl same ↦
              let back : cell old b a <ℤ far = subst (λ (y : ℕ). cell old y a <ℤ far) same to in
              let sum : pos 0 ≤ℤ (cell old b a +ℤ d) = step.acyclic back in
              let here : cell old b x ≤ℤ (cell old b a +ℤ d +ℤ cell old b x) = omega (arith, ints, sum) in
              subst (λ (y : ℕ). cell old y x ≤ℤ (cell old y a +ℤ d +ℤ cell old b x)) (sym same) here
          | inr none ↦ absurd (omega (arith, ints, none, to, was.ahead i a (omega arith) i_in step.a_in))
        ]

    here : (x : ℕ) → x < n → Kept far (cell old) (cell now) a b d i x ⊎ Led far (cell old) (cell now) a b d i x
    here x x_in = inl (record { same = was.ahead i x (omega arith) i_in x_in; past = past x x_in })
