-- Masks after a link has narrowed them.
use Rattle.std.proofs.Common.{◌≡◌, ℕ, ◌+◌, ◌<◌, ◌≤◌, ◌^◌, Bool, true, false, not, ◌&&◌, ◌||◌, eqb, All, List, [], ◌∷◌, ◌++◌, length, take, get_or, inl, inr, IsTrue, refl, sym, ap, ◌∙◌, arith}
use Rattle.std.specs.List.{list_all}
use Rattle.std.proofs.Math.ListN.{set, length-set}
use Rattle.std.proofs.lemmas.List.{get_or-set_same, get_or-set_other, take_more}
use Rattle.std.proofs.lemmas.List.Elements.{All-head, All-tail}
use Rattle.std.proofs.lemmas.Bool.{and_parts, and_from, or_left, or_right, eqb-true, eqb-false, eq-eqb, ne_eqb, ltb-true, not-true, not_from_false, not_from_true, cases_eq, cases_Bool}
use Rattle.cub_proto.specs.declared.literal.Term.{Term}
use Rattle.cub_proto.specs.declared.literal.Lit.{Lit}
use Rattle.cub_proto.specs.declared.literal.Lit.TheVariants.{FinIn, FinEq, FinNe, ProcEq, ProcNe, Diff}
use Rattle.cub_proto.specs.Truth.{has_bit}
use Rattle.fin_dom.specs.Table.{number_of}
use Rattle.fin_dom.specs.Links.{AreMasks, link_fits, is_link_true, IsWithin, agrees_equal, agrees_other, agrees, Narrows, IsRefuted}
use Rattle.fin_dom.proofs.Masks.{no_bit, bit_from, pow_only}
use Rattle.cub_base.proofs.Conjunctions.{list_all_front, list_all_back, list_all_take, list_all_item, list_all_single, list_all_one}
use Rattle.std.proofs.lemmas.Nat.Bits.{bit_at-zero}

agrees_from_equal : (masks : List ℕ) (w : ℕ → ℕ) → IsWithin masks w → (i a b : ℕ) → b < length masks → w a ≡ w b → agrees_equal masks i (w i) a b ≡ true
agrees_from_equal masks w within i a b inside e = elim (cases_eq a i) [
  | inl here ↦
      let same : w b ≡ w i = sym e ∙ ap w here in
      or_right (not (eqb a i)) _ (or_right (eqb b i) _ (rw (← same) (within b inside)))
  | inr other ↦ or_left _ _ (not_from_false _ (ne_eqb a i other))
]

agrees_from_other : (masks : List ℕ) (w : ℕ → ℕ) → IsWithin masks w → (i a b : ℕ) → b < length masks → (w a ≡ w b → ⊥) → agrees_other masks i (w i) a b ≡ true
agrees_from_other masks w within i a b inside differ = elim (cases_eq a i) [
  | inl here ↦
      or_right (not (eqb a i)) _ (and_from _ _
      (not_from_false _ (ne_eqb b i (λ e. differ (ap w here ∙ sym (ap w e)))))
      (not_from_false _ (ne_eqb _ _ (λ e.
      let left : has_bit (2 ^ w i) (w b) ≡ true = rw (← e) (within b inside) in
      differ (ap w here ∙ sym (pow_only (w i) (w b) left))))))
  | inr other ↦ or_left _ _ (not_from_false _ (ne_eqb a i other))
]

-- constructors that are left and make the link true agree with it
pub agreeing : (masks : List ℕ) (w : ℕ → ℕ) → IsWithin masks w → (i : ℕ) (lit : Lit) → IsTrue (link_fits (length masks) lit) → is_link_true w lit ≡ true
    → agrees masks i (w i) lit ≡ true
agreeing masks w within i (FinIn t mask) fit e = refl
agreeing masks w within i (FinEq a b) fit e =
    let fits = and_parts _ _ fit in
    let same : w (number_of a) ≡ w (number_of b) = eqb-true _ _ e in
    and_from _ _ (agrees_from_equal masks w within i (number_of a) (number_of b) (ltb-true _ _ fits.1) same)
    (agrees_from_equal masks w within i (number_of b) (number_of a) (ltb-true _ _ fits.0) (sym same))
agreeing masks w within i (FinNe a b) fit e =
    let fits = and_parts _ _ fit in
    let differ : w (number_of a) ≡ w (number_of b) → ⊥ = eqb-false _ _ (not-true _ e) in
    and_from _ _ (agrees_from_other masks w within i (number_of a) (number_of b) (ltb-true _ _ fits.1) differ)
    (agrees_from_other masks w within i (number_of b) (number_of a) (ltb-true _ _ fits.0) (λ e. differ (sym e)))
agreeing masks w within i (ProcEq a b) fit e = refl
agreeing masks w within i (ProcNe a b) fit e = refl
agreeing masks w within i (Diff a b bound) fit e = refl

pub all_agreeing : (masks : List ℕ) (w : ℕ → ℕ) → IsWithin masks w → (i : ℕ) (lits : List Lit) → All (λ lit. IsTrue (link_fits (length masks) lit)) lits
    → list_all (is_link_true w) lits ≡ true → list_all (agrees masks i (w i)) lits ≡ true
all_agreeing masks w within i [] fit e = refl
all_agreeing masks w within i (x ∷ xs) fit e =
    let parts = and_parts (is_link_true w x) (list_all (is_link_true w) xs) e in
    and_from _ _ (agreeing masks w within i x (All-head (λ lit. IsTrue (link_fits (length masks) lit)) x xs fit) parts.0)
    (all_agreeing masks w within i xs (All-tail (λ lit. IsTrue (link_fits (length masks) lit)) x xs fit) parts.1)

pub masks_set : (masks : List ℕ) (i m : ℕ) → AreMasks masks → i < length masks → 0 < m → m < 2 ^ 64 → AreMasks (set masks i m)
masks_set masks i m ok inside some fits n below = elim (cases_eq n i) [
  | inl here ↦
      let e : get_or (set masks i m) n 0 ≡ m = ap (λ (k : ℕ). get_or (set masks i m) k 0) here ∙ get_or-set_same masks i m 0 inside in
      rw e (some, fits)
  | inr other ↦ rw (get_or-set_other masks i n m 0 other) (ok n (omega (arith, length-set masks i m)))
]

pub at_set : (masks : List ℕ) (i m n : ℕ) → i < length masks → n ≡ i → get_or (set masks i m) n 0 ≡ m
at_set masks i m n inside here = ap (λ (k : ℕ). get_or (set masks i m) k 0) here ∙ get_or-set_same masks i m 0 inside

-- the number i narrowed by a link
pub narrowed_side : (masks : List ℕ) (i left : ℕ) (lit : Lit) → AreMasks masks → i < length masks → IsTrue (link_fits (length masks) lit) → 0 < left → left < 2 ^ 64
    → ((c : ℕ) → has_bit left c ≡ (has_bit (get_or masks i 0) c && agrees masks i c lit)) → Narrows (lit ∷ []) masks (set masks i left)
narrowed_side masks i left lit ok inside fit some fits bits = record {
  size = length-set masks i left;
  masks = masks_set masks i left ok inside some fits;
  fewer = λ w within n below. elim (cases_eq n i) [
    | inl here ↦
        let now : has_bit left (w i) ≡ true = rw (← at_set masks i left i inside refl) (within i (omega (arith, length-set masks i left))) in
        let both : (has_bit (get_or masks i 0) (w i) && agrees masks i (w i) lit) ≡ true = sym (bits (w i)) ∙ now in
        rw here (and_parts (has_bit (get_or masks i 0) (w i)) (agrees masks i (w i) lit) both).0
    | inr other ↦ rw (← get_or-set_other masks i n left 0 other) (within n (omega (arith, length-set masks i left)))
  ];
  keeps = λ w within link n below. elim (cases_eq n i) [
    | inl here ↦
        let agree : agrees masks i (w i) lit ≡ true = agreeing masks w within i lit fit (list_all_single (is_link_true w) lit link) in
        let now : has_bit left (w i) ≡ true = bits (w i) ∙ and_from _ _ (within i inside) agree in
        rw (at_set masks i left n inside here, here) now
    | inr other ↦ rw (get_or-set_other masks i n left 0 other) (within n (omega (arith, length-set masks i left)))
  ];
}

pub narrowed_nothing : (masks : List ℕ) (i left : ℕ) (lit : Lit) → i < length masks → IsTrue (link_fits (length masks) lit) → left ≡ 0
    → ((c : ℕ) → has_bit left c ≡ (has_bit (get_or masks i 0) c && agrees masks i c lit)) → IsRefuted (lit ∷ []) masks
narrowed_nothing masks i left lit inside fit none bits w within link =
    let agree : agrees masks i (w i) lit ≡ true = agreeing masks w within i lit fit (list_all_single (is_link_true w) lit link) in
    let now : has_bit left (w i) ≡ true = bits (w i) ∙ and_from _ _ (within i inside) agree in
    no_bit 0 (w i) (bit_at-zero (w i)) (rw (← none) now)

pub narrows_none : (lits : List Lit) (masks : List ℕ) → AreMasks masks → Narrows lits masks masks
narrows_none lits masks ok = record { size = refl; masks = ok; fewer = λ w within. within; keeps = λ w within link. within }

pub narrows_both : (xs ys all : List Lit) (a b c : List ℕ) → Narrows xs a b → Narrows ys b c
    → ((w : ℕ → ℕ) → list_all (is_link_true w) all ≡ true → list_all (is_link_true w) xs ≡ true) → ((w : ℕ → ℕ) → list_all (is_link_true w) all ≡ true → list_all (is_link_true w) ys ≡ true)
    → Narrows all a c
narrows_both xs ys all a b c first second front back = record {
  size = second.size ∙ first.size;
  masks = second.masks;
  fewer = λ w within. first.fewer w (second.fewer w within);
  keeps = λ w within link. second.keeps w (first.keeps w within (front w link)) (back w link);
}

pub refuted_later : (xs ys all : List Lit) (a b : List ℕ) → Narrows xs a b → IsRefuted ys b
    → ((w : ℕ → ℕ) → list_all (is_link_true w) all ≡ true → list_all (is_link_true w) xs ≡ true) → ((w : ℕ → ℕ) → list_all (is_link_true w) all ≡ true → list_all (is_link_true w) ys ≡ true)
    → IsRefuted all a
refuted_later xs ys all a b first second front back w within link = second w (first.keeps w within (front w link)) (back w link)

pub narrows_next : (lits : List Lit) (i : ℕ) (d : Lit) (a b c : List ℕ) → i < length lits → Narrows (take i lits) a b → Narrows (get_or lits i d ∷ []) b c → Narrows (take (i + 1) lits) a c
narrows_next lits i d a b c inside first second =
    let e = take_more lits i d inside in
    narrows_both (take i lits) (get_or lits i d ∷ []) (take (i + 1) lits) a b c first second
    (λ w link. list_all_front (is_link_true w) (take i lits) (get_or lits i d ∷ []) (rw e at link))
    (λ w link. list_all_back (is_link_true w) (take i lits) (get_or lits i d ∷ []) (rw e at link))

pub refuted_next : (lits : List Lit) (i : ℕ) (d : Lit) (a b : List ℕ) → i < length lits → Narrows (take i lits) a b → IsRefuted (get_or lits i d ∷ []) b → IsRefuted lits a
refuted_next lits i d a b inside first second =
    refuted_later (take i lits) (get_or lits i d ∷ []) lits a b first second
    (λ w link. list_all_take (is_link_true w) lits i link) (λ w link. list_all_one (is_link_true w) (get_or lits i d) (list_all_item (is_link_true w) lits i d inside link))
