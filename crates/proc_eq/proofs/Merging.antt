-- Labels after one more equality.
use Rattle.std.proofs.Common.{◌≡◌, ℕ, ◌+◌, ◌<◌, ◌≤◌, ◌⊎◌, inl, inr, true, cond, eqb, min, max, List, [], ◌∷◌, ◌++◌, length, get_or, IsTrue, refl, sym, ap, ◌∙◌, arith}
use Rattle.std.proofs.lemmas.Bool.{and_from, eqb-true, eq-eqb, ltb-true, cond-true, cond-false, cases_lt, cases_eq, ne_eqb}
use Rattle.std.proofs.lemmas.List.{get_or_past}
use Rattle.cub_proto.specs.declared.literal.PSide.{PSide}
use Rattle.cub_proto.specs.declared.literal.PSide.TheVariants.{Global, Place}
use Rattle.cub_proto.specs.declared.literal.Lit.{Lit}
use Rattle.cub_proto.specs.declared.literal.Lit.TheVariants.{FinIn, FinEq, FinNe, ProcEq, ProcNe, Diff}
use Rattle.proc_eq.specs.Solution.{side_fits, Solves, is_true}
use Rattle.proc_eq.specs.Classes.{node_of, entry_of, AreLabels}
use Rattle.proc_eq.specs.Merged.{is_equality_true, AreMerged}
use Rattle.cub_base.proofs.Conjunctions.{list_all_weaker, list_all_join}
use Rattle.proc_eq.proofs.Conjunction.{solves_front, solves_next}

pub node_below : (side : PSide) → IsTrue (side_fits 11 side) → node_of side < 75
node_below (Place p) fit = omega (arith, ltb-true p 11 fit)
node_below (Global g) fit = omega (arith, ltb-true g 64 fit)

pub fits_wider : (width : ℕ) → width ≤ 11 → (side : PSide) → IsTrue (side_fits width side) → IsTrue (side_fits 11 side)
fits_wider width narrow (Place p) fit = grind (arith, ltb-true p width fit)
fits_wider width narrow (Global g) fit = fit

-- two sides with one number are one side
pub node_of_same : (a b : PSide) → IsTrue (side_fits 11 a) → IsTrue (side_fits 11 b) → node_of a ≡ node_of b → a ≡ b
node_of_same (Place p) (Place q) f g e = ap Place e
node_of_same (Place p) (Global h) f g e = absurd (omega (arith, ltb-true p 11 f))
node_of_same (Global g) (Place q) f h e = absurd (omega (arith, ltb-true q 11 h))
node_of_same (Global g) (Global h) f k e = let same : g ≡ h = omega arith in ap Global same

pub labels_low : (width : ℕ) (labels : List ℕ) → AreLabels width labels → (side : PSide) → IsTrue (side_fits 11 side) → entry_of labels side < 75
labels_low width labels tidy side fit = omega (arith, tidy.low (node_of side), node_below side fit)

-- a label of a side below the width is a place below the width or no place
pub label_near : (width : ℕ) (labels : List ℕ) → AreLabels width labels → width ≤ 11 → (side : PSide) → IsTrue (side_fits width side)
    → entry_of labels side < 11 → entry_of labels side < width
label_near width labels tidy narrow (Place p) fit near =
    let below : p < width = ltb-true p width fit in
    let inside : p < 11 = omega arith in
    omega (arith, tidy.places p inside)
label_near width labels tidy narrow (Global g) fit near = tidy.globals g (ltb-true g 64 fit) near

-- the labels of each side before and after
pub record IsRelabelled (old new : List ℕ) (least other : ℕ) : Type 0 where
  pub size : length new ≡ 75
  pub cases : (i : ℕ) → ((get_or old i 0 ≡ other) × (get_or new i 0 ≡ least)) ⊎ ((get_or old i 0 ≡ other → ⊥) × (get_or new i 0 ≡ get_or old i 0))

pub relabelled : (old new : List ℕ) (least other : ℕ) → length old ≡ 75 → length new ≡ 75 → least < other
    → ((i : ℕ) → i < length old → get_or new i 0 ≡ cond (eqb (get_or old i 0) other) least (get_or old i 0)) → IsRelabelled old new least other
relabelled old new least other so sn less each = record {
  size = sn;
  cases = λ i. elim (cases_lt i 75) [
    | inl inside ↦
        let e : get_or new i 0 ≡ cond (eqb (get_or old i 0) other) least (get_or old i 0) = each i (omega arith) in
        elim (cases_eq (get_or old i 0) other) [
          | inl same ↦ inl (same, e ∙ cond-true _ _ _ (eq-eqb _ _ same))
          | inr apart ↦ inr (apart, e ∙ cond-false _ _ _ (ne_eqb _ _ apart))
        ]
    | inr past ↦
        let a : get_or old i 0 ≡ 0 = get_or_past old i 0 (omega arith) in
        let b : get_or new i 0 ≡ 0 = get_or_past new i 0 (omega arith) in
        inr ((λ e. omega arith), b ∙ sym a)
  ];
}

-- equal labels stay equal
pub relabelled_same : (old new : List ℕ) (least other : ℕ) → IsRelabelled old new least other → (i j : ℕ) → get_or old i 0 ≡ get_or old j 0 → get_or new i 0 ≡ get_or new j 0
relabelled_same old new least other r i j e =
    elim (r.cases i) [
      | inl a ↦ elim (r.cases j) [ inl b ↦ a.1 ∙ sym b.1 | inr b ↦ absurd (b.0 (sym e ∙ a.0)) ]
      | inr a ↦ elim (r.cases j) [ inl b ↦ absurd (a.0 (e ∙ b.0)) | inr b ↦ a.1 ∙ e ∙ sym b.1 ]
    ]

pub relabelled_labels : (width : ℕ) (old new : List ℕ) (least other : ℕ) → AreLabels width old → IsRelabelled old new least other → least < other
    → get_or old least 0 ≡ least → other < 75 → 11 ≤ other → (least < 11 → least < width) → AreLabels width new
relabelled_labels width old new least other tidy r less fixed within far near = record {
  size = r.size;
  low = λ i. elim (r.cases i) [ inl a ↦ omega (arith, tidy.low i) | inr a ↦ omega (arith, tidy.low i) ];
  head = λ i inside. elim (r.cases i) [
    | inl a ↦
        let back : get_or new (get_or new i 0) 0 ≡ get_or new least 0 = ap (λ k. get_or new k 0) a.1 in
        elim (r.cases least) [ inl b ↦ absurd (omega arith) | inr b ↦ back ∙ b.1 ∙ fixed ∙ sym a.1 ]
    | inr a ↦
        let back : get_or new (get_or new i 0) 0 ≡ get_or new (get_or old i 0) 0 = ap (λ k. get_or new k 0) a.1 in
        let own : get_or old (get_or old i 0) 0 ≡ get_or old i 0 = tidy.head i inside in
        elim (r.cases (get_or old i 0)) [ inl b ↦ absurd (a.0 (sym own ∙ b.0)) | inr b ↦ back ∙ b.1 ∙ own ∙ sym a.1 ]
  ];
  places = λ p inside. let own : get_or old p 0 ≡ p = tidy.places p inside in elim (r.cases p) [ inl a ↦ absurd (omega arith) | inr a ↦ a.1 ∙ own ];
  globals = λ g inside low. elim (r.cases (11 + g)) [
    | inl a ↦ let small : least < 11 = omega arith in omega (arith, near small)
    | inr a ↦ let small : get_or old (11 + g) 0 < 11 = omega arith in omega (arith, tidy.globals g inside small)
  ];
}

equality_kept : (old new : List ℕ) (least other : ℕ) → IsRelabelled old new least other → (lit : Lit)
    → is_equality_true (entry_of old) lit ≡ true → is_equality_true (entry_of new) lit ≡ true
equality_kept old new least other r (FinIn t mask) e = refl
equality_kept old new least other r (FinEq a b) e = refl
equality_kept old new least other r (FinNe a b) e = refl
equality_kept old new least other r (ProcEq a b) e =
    eq-eqb _ _ (relabelled_same old new least other r (node_of a) (node_of b) (eqb-true _ _ e))
equality_kept old new least other r (ProcNe a b) e = refl
equality_kept old new least other r (Diff a b bound) e = refl

-- x has the label that stays, y the one that goes; `lit` makes them one process and becomes true
pub merged : (width : ℕ) (lits : List Lit) (lit : Lit) (old new : List ℕ) (least other : ℕ) (x y : PSide) → AreMerged width lits old
    → width ≤ 11 → IsRelabelled old new least other → least < other → width ≤ other
    → IsTrue (side_fits width x) → IsTrue (side_fits width y) → entry_of old x ≡ least → entry_of old y ≡ other
    → ((v : PSide → ℕ) → is_true v lit ≡ true → v x ≡ v y) → is_equality_true (entry_of new) lit ≡ true
    → AreMerged width (lits ++ lit ∷ []) new
merged width lits lit old new least other x y m narrow r less far fx fy ex ey one true_now =
    let fit_x : IsTrue (side_fits 11 x) = fits_wider width narrow x fx in
    let fit_y : IsTrue (side_fits 11 y) = fits_wider width narrow y fy in
    let fixed : get_or old least 0 ≡ least = ap (λ k. get_or old k 0) (sym ex) ∙ m.tidy.head (node_of x) (node_below x fit_x) ∙ ex in
    let within : other < 75 = omega (arith, labels_low width old m.tidy y fit_y) in
    let no_place : 11 ≤ other = elim (cases_lt other 11) [
      | inl low ↦ let small : entry_of old y < 11 = omega arith in omega (arith, label_near width old m.tidy narrow y fy small)
      | inr high ↦ high
    ] in
    record {
      tidy = relabelled_labels width old new least other m.tidy r less fixed within no_place
          (λ low. let small : entry_of old x < 11 = omega arith in omega (arith, label_near width old m.tidy narrow x fx small));
      equal = list_all_join (is_equality_true (entry_of new)) lits (lit ∷ [])
          (list_all_weaker (is_equality_true (entry_of old)) (is_equality_true (entry_of new)) (equality_kept old new least other r) lits m.equal)
          (and_from _ _ true_now refl);
      forced = λ v s a b fa fb e.
          let before : Solves width lits v = solves_front width lits (lit ∷ []) v s in
          let same : v x ≡ v y = one v (solves_next width lits lit [] v s) in
          elim (r.cases (node_of a)) [
            | inl p ↦ elim (r.cases (node_of b)) [
              | inl q ↦ m.forced v before a b fa fb (p.0 ∙ sym q.0)
              | inr q ↦
                  let at_y : v a ≡ v y = m.forced v before a y fa fit_y (p.0 ∙ sym ey) in
                  let at_x : v b ≡ v x = m.forced v before b x fb fit_x (sym q.1 ∙ sym e ∙ p.1 ∙ sym ex) in
                  at_y ∙ sym same ∙ sym at_x
            ]
            | inr p ↦ elim (r.cases (node_of b)) [
              | inl q ↦
                  let at_x : v a ≡ v x = m.forced v before a x fa fit_x (sym p.1 ∙ e ∙ q.1 ∙ sym ex) in
                  let at_y : v b ≡ v y = m.forced v before b y fb fit_y (q.0 ∙ sym ey) in
                  at_x ∙ same ∙ sym at_y
              | inr q ↦ m.forced v before a b fa fb (sym p.1 ∙ e ∙ q.1)
            ]
          ];
    }

-- nothing changes where the equality is true already
pub merged_already : (width : ℕ) (lits : List Lit) (lit : Lit) (labels : List ℕ) → AreMerged width lits labels → is_equality_true (entry_of labels) lit ≡ true
    → AreMerged width (lits ++ lit ∷ []) labels
merged_already width lits lit labels m e = record {
  tidy = m.tidy;
  equal = list_all_join (is_equality_true (entry_of labels)) lits (lit ∷ []) m.equal (and_from _ _ e refl);
  forced = λ v s. m.forced v (solves_front width lits (lit ∷ []) v s);
}

-- two places have one label: no processes make the sides one
pub apart_places : (width : ℕ) (lits : List Lit) (labels : List ℕ) (x y : PSide) → AreMerged width lits labels → width ≤ 11
    → IsTrue (side_fits width x) → IsTrue (side_fits width y) → entry_of labels x < width → entry_of labels y < width
    → (entry_of labels x ≡ entry_of labels y → ⊥) → (v : PSide → ℕ) → Solves width lits v → v x ≡ v y → ⊥
apart_places width lits labels x y m narrow fx fy near_x near_y differ v s e =
    let p = entry_of labels x in
    let q = entry_of labels y in
    let ip : p < 11 = omega arith in
    let iq : q < 11 = omega arith in
    let at_x : v x ≡ v (Place p) = m.forced v s x (Place p) (fits_wider width narrow x fx) (grind arith) (sym (m.tidy.places p ip)) in
    let at_y : v y ≡ v (Place q) = m.forced v s y (Place q) (fits_wider width narrow y fy) (grind arith) (sym (m.tidy.places q iq)) in
    differ (s.apart p q near_x near_y (sym at_x ∙ e ∙ at_y))

-- each side with its own label: no literals yet
pub merged_none : (width : ℕ) (labels : List ℕ) → length labels ≡ 75 → ((i : ℕ) → i < 75 → get_or labels i 0 ≡ i) → AreMerged width [] labels
merged_none width labels size own = record {
  tidy = record {
    size = size;
    low = λ i. elim (cases_lt i 75) [ inl inside ↦ omega (arith, own i inside) | inr past ↦ omega (arith, get_or_past labels i 0 (omega arith)) ];
    head = λ i inside. let here : get_or labels i 0 ≡ i = own i inside in ap (λ k. get_or labels k 0) here;
    places = λ p inside. own p (omega arith);
    globals = λ g inside low. absurd (omega (arith, own (11 + g) (omega arith)));
  };
  equal = refl;
  forced = λ v s a b fa fb e.
      let same : node_of a ≡ node_of b = sym (own (node_of a) (node_below a fa)) ∙ e ∙ own (node_of b) (node_below b fb) in
      ap v (node_of_same a b fa fb same);
}

new_label : (old new : List ℕ) (least other : ℕ) → IsRelabelled old new least other → least < other → (side : PSide) → entry_of old side ≡ least → entry_of new side ≡ least
new_label old new least other r less side e = elim (r.cases (node_of side)) [ inl a ↦ absurd (omega arith) | inr a ↦ a.1 ∙ e ]

gone_label : (old new : List ℕ) (least other : ℕ) → IsRelabelled old new least other → (side : PSide) → entry_of old side ≡ other → entry_of new side ≡ least
gone_label old new least other r side e = elim (r.cases (node_of side)) [ inl a ↦ a.1 | inr a ↦ absurd (a.0 e) ]

-- an equality, after the greater label went
pub joined : (width : ℕ) (lits : List Lit) (old new : List ℕ) (a b : PSide) (least other : ℕ) → AreMerged width lits old → width ≤ 11
    → IsTrue (side_fits width a) → IsTrue (side_fits width b)
    → least ≡ min (entry_of old a) (entry_of old b) → other ≡ max (entry_of old a) (entry_of old b) → (least ≡ other → ⊥) → width ≤ other
    → IsRelabelled old new least other → AreMerged width (lits ++ ProcEq a b ∷ []) new
joined width lits old new a b least other m narrow fa fb is_least is_other differ far r =
    let less : least < other = omega arith in
    elim (cases_lt (entry_of old a) (entry_of old b)) [
      | inl l ↦
          let ea : entry_of old a ≡ least = omega arith in
          let eb : entry_of old b ≡ other = omega arith in
          merged width lits (ProcEq a b) old new least other a b m narrow r less far fa fb ea eb (λ v e. eqb-true _ _ e)
          (eq-eqb _ _ (new_label old new least other r less a ea ∙ sym (gone_label old new least other r b eb)))
      | inr g ↦
          let eb : entry_of old b ≡ least = omega arith in
          let ea : entry_of old a ≡ other = omega arith in
          merged width lits (ProcEq a b) old new least other b a m narrow r less far fb fa eb ea (λ v e. sym (eqb-true _ _ e))
          (eq-eqb _ _ (gone_label old new least other r a ea ∙ sym (new_label old new least other r less b eb)))
    ]

-- a literal that is no equality is passed over
pub passes : (v : PSide → ℕ) (lit : Lit) → ((a b : PSide) → lit ≡ ProcEq a b → ⊥) → is_equality_true v lit ≡ true
passes v (FinIn t mask) other = refl
passes v (FinEq a b) other = refl
passes v (FinNe a b) other = refl
passes v (ProcEq a b) other = absurd (other a b refl)
passes v (ProcNe a b) other = refl
passes v (Diff a b bound) other = refl
