-- The least fill of masks, and what a branch for one number tells of all.
use Rattle.std.proofs.Common.{◌≡◌, ℕ, ◌+◌, ◌<◌, ◌≤◌, ◌^◌, Bool, true, false, not, ◌&&◌, ◌||◌, eqb, ltb, leb, All, List, [], ◌∷◌, ◌++◌, length, take, get_or, inl, inr, IsTrue, refl, sym, ap, ◌∙◌, arith, w64}
use Rattle.std.specs.List.{list_all}
use Rattle.std.specs.Int.{trailing_zeros}
use Rattle.std.proofs.lemmas.Bool.{and_parts, and_from, or_left, or_right, or_cases, eqb-true, eq-eqb, ne_eqb, ltb-true, leb-true, le-leb, not_from_false, cases_eq, cases_lt}
use Rattle.std.proofs.lemmas.List.Elements.{All-head, All-tail, All-append}
use Rattle.std.proofs.lemmas.List.Folds.{list_all_more}
use Rattle.std.proofs.lemmas.List.{get_or-set_same, get_or-set_other}
use Rattle.std.proofs.Math.ListN.{set, length-set}
use Rattle.cub_proto.specs.declared.literal.Lit.{Lit}
use Rattle.cub_proto.specs.declared.literal.Lit.TheVariants.{FinIn, FinEq, FinNe, ProcEq, ProcNe, Diff}
use Rattle.cub_proto.specs.Truth.{has_bit}
use Rattle.fin_dom.specs.Table.{number_of, low_at}
use Rattle.fin_dom.specs.Links.{AreMasks, link_fits, is_link_true, IsWithin, Fills, IsNumberBefore, is_settled, agrees, is_skipped, is_passed, is_decided, IsRefuted, IsLeastFill}
use Rattle.fin_dom.specs.Tried.{IsTried}
use Rattle.fin_dom.proofs.Masks.{no_bit, pow_has, pow_only, pow_fits, low_has, low_least, some_bit}
use Rattle.cub_base.proofs.Conjunctions.{list_all_both, list_all_join, list_all_weaker, list_all_front, list_all_back}
use Rattle.fin_dom.proofs.Narrowing.{all_agreeing}
use Rattle.fin_dom.proofs.Deciding.{settled_true, all_settled, decided_next, fewer}

pub list_all_from_All : {X : Type 0} (q : X → Bool) (xs : List X) → All (λ x. q x ≡ true) xs → list_all q xs ≡ true
list_all_from_All q [] h = refl
list_all_from_All q (x ∷ xs) h =
    and_from (q x) (list_all q xs) (All-head (λ y. q y ≡ true) x xs h) (list_all_from_All q xs (All-tail (λ y. q y ≡ true) x xs h))

-- ---- the next number with an open link

skipped_sooner : (from at sooner n : ℕ) → sooner ≤ at → is_skipped from at n ≡ true → is_skipped from sooner n ≡ true
skipped_sooner from at sooner n less e = elim (or_cases (ltb n from) (leb at n) e) [
  | inl early ↦ or_left _ _ early
  | inr late ↦ or_right (ltb n from) _ (le-leb sooner n (omega (arith, leb-true at n late)))
]

link_sooner : (from at sooner a b : ℕ) (settled : Bool) → sooner ≤ at → (settled || (is_skipped from at a && is_skipped from at b)) ≡ true
    → (settled || (is_skipped from sooner a && is_skipped from sooner b)) ≡ true
link_sooner from at sooner a b settled less e = elim (or_cases settled _ e) [
  | inl done ↦ or_left _ _ done
  | inr skips ↦
      let parts = and_parts (is_skipped from at a) (is_skipped from at b) skips in
      or_right settled _ (and_from _ _ (skipped_sooner from at sooner a less parts.0) (skipped_sooner from at sooner b less parts.1))
]

passed_sooner : (masks : List ℕ) (from at sooner : ℕ) → sooner ≤ at → (lit : Lit) → is_passed masks from at lit ≡ true → is_passed masks from sooner lit ≡ true
passed_sooner masks from at sooner less (FinIn t mask) e = refl
passed_sooner masks from at sooner less (FinEq a b) e = link_sooner from at sooner (number_of a) (number_of b) (is_settled masks (FinEq a b)) less e
passed_sooner masks from at sooner less (FinNe a b) e = link_sooner from at sooner (number_of a) (number_of b) (is_settled masks (FinNe a b)) less e
passed_sooner masks from at sooner less (ProcEq a b) e = refl
passed_sooner masks from at sooner less (ProcNe a b) e = refl
passed_sooner masks from at sooner less (Diff a b bound) e = refl

pub all_passed_sooner : (masks : List ℕ) (from at sooner : ℕ) (lits : List Lit) → sooner ≤ at → list_all (is_passed masks from at) lits ≡ true → list_all (is_passed masks from sooner) lits ≡ true
all_passed_sooner masks from at sooner lits less e = list_all_weaker (is_passed masks from at) (is_passed masks from sooner) (passed_sooner masks from at sooner less) lits e

pub passed_more : (masks : List ℕ) (from at sooner : ℕ) (lits : List Lit) (i : ℕ) (d : Lit) → i < length lits → sooner ≤ at → list_all (is_passed masks from at) (take i lits) ≡ true
    → is_passed masks from sooner (get_or lits i d) ≡ true → list_all (is_passed masks from sooner) (take (i + 1) lits) ≡ true
passed_more masks from at sooner lits i d inside less e f =
    list_all_more (is_passed masks from sooner) lits i d inside ∙ and_from _ _ (all_passed_sooner masks from at sooner (take i lits) less e) f

-- ---- all links settled: the least bits

pub least_settled : (masks : List ℕ) (from at : ℕ) (lits : List Lit) → AreMasks masks → length masks ≤ at → list_all (link_fits (length masks)) lits ≡ true
    → list_all (is_passed masks from at) lits ≡ true → list_all (is_decided masks from) lits ≡ true → IsLeastFill lits masks masks
least_settled masks from at lits ok far fit passed decided =
    let within : IsWithin masks (low_at masks) = λ n below. low_has (get_or masks n 0) (ok n below).0 (ok n below).1 in
    let both : list_all (λ lit. link_fits (length masks) lit && is_passed masks from at lit) lits ≡ true =
    list_all_both (link_fits (length masks)) (is_passed masks from at) (λ lit. link_fits (length masks) lit && is_passed masks from at lit) (λ lit e f. and_from _ _ e f) lits fit passed in
    record {
      fills = record {
        within = within;
        links = list_all_both (λ lit. link_fits (length masks) lit && is_passed masks from at lit) (is_decided masks from) (is_link_true (low_at masks))
            (λ lit e f.
            let parts = and_parts (link_fits (length masks) lit) (is_passed masks from at lit) e in
            settled_true masks (low_at masks) lit within parts.0 (all_settled masks from at lit far parts.0 parts.1 f)) lits both decided;
      };
      least = λ w fills before.
          let low : low_at masks before.place ≤ w before.place = low_least (get_or masks before.place 0) (w before.place) (ok before.place before.inside).1 (fills.within before.place before.inside) in
          let less : w before.place < low_at masks before.place = before.less in
          omega arith;
    }

-- ---- a branch

pub low_pow : (c : ℕ) → c < 64 → trailing_zeros w64 (2 ^ c) ≡ c
low_pow c below = pow_only c (trailing_zeros w64 (2 ^ c)) (low_has (2 ^ c) (some_bit (2 ^ c) c (pow_has c)) (pow_fits c below))

tried_within : (old : List ℕ) (at c : ℕ) (tried : List ℕ) → IsTried old at c tried → (w : ℕ → ℕ) → IsWithin old w → w at ≡ c → IsWithin tried w
tried_within old at c tried t w within e n below = elim (cases_eq n at) [
  | inl here ↦
      let now : has_bit (get_or tried at 0) (w at) ≡ true = rw (t.here, e) (pow_has c) in
      rw here now
  | inr other ↦ rw (t.others n other) (within n (omega (arith, t.size)))
]

pub least_lifted : (lits : List Lit) (old : List ℕ) (at c : ℕ) (tried final : List ℕ) → AreMasks old → at < length old → IsTried old at c tried → has_bit (get_or old at 0) c ≡ true → c < 64
    → IsLeastFill lits tried final → ((n : ℕ) → n < at + 1 → get_or final n 0 ≡ get_or tried n 0)
    → ((w : ℕ → ℕ) → IsWithin old w → list_all (is_link_true w) lits ≡ true → c ≤ w at) → IsLeastFill lits old final
least_lifted lits old at c tried final ok inside t has below least kept lowest = record {
  fills = record {
    within = λ n inside_n. fewer old tried 0 at c ok t has (omega arith) below n (low_at final n) (least.fills.within n (omega (arith, t.size)));
    links = least.fills.links;
  };
  least = λ w fills before. elim (cases_eq (w at) c) [
    | inl same ↦
        least.least w (record { within = tried_within old at c tried t w fills.within same; links = fills.links })
        (record { place = before.place; inside = omega (arith, t.size, before.inside); same = before.same; less = before.less })
    | inr other ↦
        let k = before.place in
        let above : c ≤ w at = lowest w fills.within fills.links in
        let here : low_at final at ≡ c = ap (λ (m : ℕ). trailing_zeros w64 m) (kept at (omega arith) ∙ t.here) ∙ low_pow c below in
        let less : w k < low_at final k = before.less in
        elim (cases_lt at k) [
          | inl later ↦ other (before.same at later ∙ here)
          | inr upto ↦ elim (cases_eq k at) [
            | inl now ↦ let wk : w k ≡ w at = ap w now in let lk : low_at final k ≡ low_at final at = ap (λ (n : ℕ). low_at final n) now in omega arith
            | inr earlier ↦
                let value : get_or final k 0 ≡ get_or old k 0 = kept k (omega arith) ∙ t.others k earlier in
                let same_low : low_at final k ≡ low_at old k = ap (λ (m : ℕ). trailing_zeros w64 m) value in
                let low : low_at old k ≤ w k = low_least (get_or old k 0) (w k) (ok k before.inside).1 (fills.within k before.inside) in
                omega arith
          ]
        ]
  ];
}

-- a constructor whose branch has no fill is no fill's
pub branch_refuted : (lits : List Lit) (old : List ℕ) (at c : ℕ) (tried : List ℕ) → IsTried old at c tried → IsRefuted lits tried → (w : ℕ → ℕ) → IsWithin old w
    → list_all (is_link_true w) lits ≡ true → not (eqb (w at) c) ≡ true
branch_refuted lits old at c tried t none w within link = not_from_false _ (ne_eqb _ _ (λ e. none w (tried_within old at c tried t w within e) link))

pub decided_all : (old tried : List ℕ) (from at c : ℕ) (lits : List Lit) → AreMasks old → IsTried old at c tried → has_bit (get_or old at 0) c ≡ true → from ≤ at → c < 64
    → list_all (is_decided old from) lits ≡ true → list_all (is_passed old from at) lits ≡ true → list_all (agrees old at c) lits ≡ true → list_all (is_decided tried (at + 1)) lits ≡ true
decided_all old tried from at c lits ok t has order below decided passed agreed =
    list_all_both (λ lit. is_decided old from lit && is_passed old from at lit) (agrees old at c) (is_decided tried (at + 1))
    (λ lit e f. let parts = and_parts (is_decided old from lit) (is_passed old from at lit) e in decided_next old tried from at c ok t has order below lit parts.0 parts.1 f) lits
    (list_all_both (is_decided old from) (is_passed old from at) (λ lit. is_decided old from lit && is_passed old from at lit) (λ lit e f. and_from _ _ e f) lits decided passed) agreed

-- ---- what is left at first

pub start_keeps : (masks : List ℕ) (at whole first left : ℕ) (lits more : List Lit) → at < length masks → whole ≡ get_or masks at 0
    → All (λ lit. IsTrue (link_fits (length masks) lit)) lits → All (λ lit. IsTrue (link_fits (length masks) lit)) more
    → ((c : ℕ) → has_bit first c ≡ (has_bit whole c && list_all (agrees masks at c) lits)) → ((c : ℕ) → has_bit left c ≡ (has_bit first c && list_all (agrees masks at c) more))
    → (w : ℕ → ℕ) → IsWithin masks w → list_all (is_link_true w) (lits ++ more) ≡ true → has_bit left (w at) ≡ true
start_keeps masks at whole first left lits more inside is_whole fit more_fit one two w within link =
    let agree : list_all (agrees masks at (w at)) lits ≡ true = all_agreeing masks w within at lits fit (list_all_front (is_link_true w) lits more link) in
    let more_agree : list_all (agrees masks at (w at)) more ≡ true = all_agreeing masks w within at more more_fit (list_all_back (is_link_true w) lits more link) in
    let here : has_bit whole (w at) ≡ true = rw is_whole (within at inside) in
    two (w at) ∙ and_from _ _ (one (w at) ∙ and_from _ _ here agree) more_agree

pub start_inside : (masks : List ℕ) (at whole first left : ℕ) (lits more : List Lit) → whole ≡ get_or masks at 0
    → ((c : ℕ) → has_bit first c ≡ (has_bit whole c && list_all (agrees masks at c) lits)) → ((c : ℕ) → has_bit left c ≡ (has_bit first c && list_all (agrees masks at c) more))
    → (c : ℕ) → has_bit left c ≡ true → (has_bit (get_or masks at 0) c && list_all (agrees masks at c) (lits ++ more)) ≡ true
start_inside masks at whole first left lits more is_whole one two c h =
    let outer = and_parts (has_bit first c) (list_all (agrees masks at c) more) (sym (two c) ∙ h) in
    let inner = and_parts (has_bit whole c) (list_all (agrees masks at c) lits) (sym (one c) ∙ outer.0) in
    and_from _ _ (rw is_whole at inner.0) (list_all_join (agrees masks at c) lits more inner.1 outer.1)

-- ---- the table while constructors are tried

pub tried_from : (old masks : List ℕ) (at c bit : ℕ) → length masks ≡ length old → ((n : ℕ) → (n ≡ at → ⊥) → get_or masks n 0 ≡ get_or old n 0) → at < length old → bit ≡ 2 ^ c
    → IsTried old at c (set masks at bit)
tried_from old masks at c bit size others inside is_bit = record {
  size = length-set masks at bit ∙ size;
  here = get_or-set_same masks at bit 0 (omega arith) ∙ is_bit;
  others = λ n other. get_or-set_other masks at n bit 0 other ∙ others n other;
}

pub tried_masks : (old tried : List ℕ) (at c : ℕ) → AreMasks old → IsTried old at c tried → c < 64 → AreMasks tried
tried_masks old tried at c ok t below n inside = elim (cases_eq n at) [
  | inl here ↦
      let value : get_or tried n 0 ≡ 2 ^ c = ap (λ (k : ℕ). get_or tried k 0) here ∙ t.here in
      rw value (some_bit (2 ^ c) c (pow_has c), pow_fits c below)
  | inr other ↦ rw (t.others n other) (ok n (omega (arith, t.size)))
]

pub masks_same : (xs ys : List ℕ) → AreMasks xs → length ys ≡ length xs → ((n : ℕ) → get_or ys n 0 ≡ get_or xs n 0) → AreMasks ys
masks_same xs ys ok size same n inside = rw (same n) (ok n (omega arith))

pub fits_same : (xs ys : List ℕ) (lits : List Lit) → length ys ≡ length xs → All (λ lit. IsTrue (link_fits (length xs) lit)) lits → All (λ lit. IsTrue (link_fits (length ys) lit)) lits
fits_same xs ys lits size fit = rw size fit
