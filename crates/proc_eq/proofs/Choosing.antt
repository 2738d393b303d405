-- The processes that were chosen are the least choice.
use Rattle.std.proofs.Common.{◌≡◌, ℕ, ◌+◌, ◌-◌, ◌<◌, ◌≤◌, inl, inr, Bool, true, false, eqb, List, [], ◌∷◌, length, get_or, IsTrue, refl, sym, ap, ◌∙◌, arith}
use Rattle.std.specs.List.{list_all, list_any}
use Rattle.std.proofs.lemmas.Bool.{and_parts, and_from, eqb-true, eq-eqb, ltb-true, lt-ltb, not_from_false, not-true, ne_eqb, both_ways, eqb-false, cases_lt, cases_order, or_parts, or_cases, false≢true}
use Rattle.std.proofs.Common.{get_or-set_same, get_or-set_other, ltb}
use Rattle.std.proofs.lemmas.Bool.{le-ltb}
use Rattle.std.proofs.Math.ListN.{set, length-set}
use Rattle.cub_proto.specs.declared.literal.PSide.{PSide}
use Rattle.cub_proto.specs.declared.literal.PSide.TheVariants.{Global, Place}
use Rattle.cub_proto.specs.declared.literal.Lit.{Lit}
use Rattle.cub_proto.specs.declared.literal.Lit.TheVariants.{FinIn, FinEq, FinNe, ProcEq, ProcNe, Diff}
use Rattle.proc_eq.specs.Solution.{side_fits, sides_fit, Solves, is_true}
use Rattle.proc_eq.specs.Classes.{node_of, entry_of, AreLabels, AreClosureOf}
use Rattle.proc_eq.specs.Choice.{IsEarlier, BeginsClass, IsForbidden, IsLeastChoice}
use Rattle.proc_eq.specs.Chosen.{forbids_by, forbids, IsLeastFree, AreChosen}
use Rattle.cub_base.proofs.Conjunctions.{IsMember, list_all_member, list_any_member, none_member}
use Rattle.proc_eq.proofs.Merging.{node_below, fits_wider, label_near}

-- the side with a number below that of a global
record HasNumber (width g number : ℕ) : Type 0 where
  side : PSide
  earlier : IsEarlier width g side
  is_number : node_of side ≡ number

side_at : (width g number : ℕ) → number < 11 + g → (number < 11 → number < width) → HasNumber width g number
side_at width g number below near = elim (cases_lt number 11) [
  | inl low ↦ record { side = Place number; earlier = near low; is_number = refl }
  | inr high ↦ record { side = Global (number - 11); earlier = omega arith; is_number = omega arith }
]

earlier_fits : (width g : ℕ) → width ≤ 11 → g < 64 → (side : PSide) → IsEarlier width g side → IsTrue (side_fits 11 side)
earlier_fits width g narrow inside (Place p) earlier = lt-ltb p 11 (omega arith)
earlier_fits width g narrow inside (Global h) earlier = lt-ltb h 64 (omega arith)

-- a side has the process of its label
of_label : (labels processes : List ℕ) (lits : List Lit) → AreChosen labels processes lits 75 → (side : PSide) → IsTrue (side_fits 11 side)
    → entry_of processes side ≡ get_or processes (entry_of labels side) 0
of_label labels processes lits chosen side fit = chosen.same (node_of side) (node_below side fit)

same_label : (labels processes : List ℕ) (lits : List Lit) → AreChosen labels processes lits 75 → (a b : PSide) → IsTrue (side_fits 11 a) → IsTrue (side_fits 11 b)
    → entry_of labels a ≡ entry_of labels b → entry_of processes a ≡ entry_of processes b
same_label labels processes lits chosen a b fa fb e =
    of_label labels processes lits chosen a fa ∙ ap (λ (k : ℕ). get_or processes k 0) e ∙ sym (of_label labels processes lits chosen b fb)

-- the class of b is the later one, and a disequality between them gives it another process
later_differs : (width : ℕ) (lits : List Lit) (labels processes : List ℕ) → AreLabels width labels → AreChosen labels processes lits 75
    → (a b : PSide) → IsTrue (side_fits 11 a) → IsTrue (side_fits 11 b) → entry_of labels a < entry_of labels b
    → ((own n : ℕ) → list_any (forbids labels processes own n) lits ≡ false → forbids_by labels processes own n b a ≡ false)
    → entry_of processes a ≡ entry_of processes b → ⊥
later_differs width lits labels processes tidy chosen a b fa fb less free e =
    let own = entry_of labels b in
    let nb : node_of b < 75 = node_below b fb in
    let inside : own < 75 = omega (arith, tidy.low (node_of b)) in
    let head : get_or labels own 0 ≡ own = tidy.head (node_of b) nb in
    let at_a : entry_of processes a ≡ get_or processes (entry_of labels a) 0 = of_label labels processes lits chosen a fa in
    let at_b : entry_of processes b ≡ get_or processes own 0 = of_label labels processes lits chosen b fb in
    let taken : get_or processes (entry_of labels a) 0 ≡ get_or processes own 0 = sym at_a ∙ e ∙ at_b in
    elim (cases_lt own 11) [
      | inl low ↦
          let pa : get_or processes (entry_of labels a) 0 ≡ entry_of labels a = chosen.places (entry_of labels a) (omega arith) (omega arith) in
          let pb : get_or processes own 0 ≡ own = chosen.places own inside low in
          omega arith
      | inr high ↦
          let least = chosen.least own inside high head in
          both_ways _ (free own (get_or processes own 0) least.free)
          (and_from _ _ (lt-ltb _ _ less) (and_from _ _ (eq-eqb _ _ refl) (eq-eqb _ _ taken)))
    ]

literal_holds : (width : ℕ) (lits : List Lit) (labels processes : List ℕ) → AreClosureOf width lits labels → AreChosen labels processes lits 75
    → (lit : Lit) → IsTrue (sides_fit 11 lit) → IsMember lits lit → is_true (entry_of processes) lit ≡ true
literal_holds width lits labels processes closure chosen (FinIn t mask) fit m = refl
literal_holds width lits labels processes closure chosen (FinEq a b) fit m = refl
literal_holds width lits labels processes closure chosen (FinNe a b) fit m = refl
literal_holds width lits labels processes closure chosen (ProcEq a b) fit m =
    let fits = and_parts (side_fits 11 a) (side_fits 11 b) fit in
    let same : entry_of labels a ≡ entry_of labels b = eqb-true _ _ (m (is_true (entry_of labels)) closure.solves.holds) in
    eq-eqb _ _ (same_label labels processes lits chosen a b fits.0 fits.1 same)
literal_holds width lits labels processes closure chosen (ProcNe a b) fit m =
    let fits = and_parts (side_fits 11 a) (side_fits 11 b) fit in
    let differ : entry_of labels a ≡ entry_of labels b → ⊥ = eqb-false _ _ (not-true _ (m (is_true (entry_of labels)) closure.solves.holds)) in
    not_from_false _ (ne_eqb _ _ (λ e. elim (cases_order (entry_of labels a) (entry_of labels b)) [
      | inl same ↦ differ same
      | inr order ↦ elim order [
        | inl less ↦ later_differs width lits labels processes closure.tidy chosen a b fits.0 fits.1 less
            (λ own n free. (or_parts _ _ (none_member (forbids labels processes own n) lits (ProcNe a b) m free)).1) e
        | inr more ↦ later_differs width lits labels processes closure.tidy chosen b a fits.1 fits.0 more
            (λ own n free. (or_parts _ _ (none_member (forbids labels processes own n) lits (ProcNe a b) m free)).0) (sym e)
      ]
    ]))
literal_holds width lits labels processes closure chosen (Diff a b bound) fit m = refl

-- a global that begins a class is its own label
own_label : (width : ℕ) (lits : List Lit) (labels : List ℕ) → AreClosureOf width lits labels → width ≤ 11 → (g : ℕ) → g < 64 → BeginsClass width lits g
    → get_or labels (11 + g) 0 ≡ 11 + g
own_label width lits labels closure narrow g inside begins =
    let label = get_or labels (11 + g) 0 in
    let low : label ≤ 11 + g = closure.tidy.low (11 + g) in
    elim (cases_lt label (11 + g)) [
      | inl less ↦
          let at = side_at width g label less (λ near. closure.tidy.globals g inside near) in
          let fit : IsTrue (side_fits 11 at.side) = earlier_fits width g narrow inside at.side at.earlier in
          let head : get_or labels label 0 ≡ label = closure.tidy.head (11 + g) (omega arith) in
          let same : entry_of labels (Global g) ≡ entry_of labels at.side = sym head ∙ ap (λ (k : ℕ). get_or labels k 0) (sym at.is_number) in
          absurd (begins at.side at.earlier (λ v s. closure.forced v s (Global g) at.side (lt-ltb g 64 inside) fit same))
      | inr more ↦ omega arith
    ]

-- a disequality between a, in the class of g, and b, in an earlier one with process n, forbids n
forbidden_by : (width : ℕ) (lits : List Lit) (labels processes : List ℕ) → AreClosureOf width lits labels → width ≤ 11 → (g : ℕ) → g < 64
    → get_or labels (11 + g) 0 ≡ 11 + g → (n : ℕ) (a b : PSide) → IsTrue (side_fits width a) → IsTrue (side_fits width b)
    → forbids_by labels processes (11 + g) n a b ≡ true → ((v : PSide → ℕ) → Solves width lits v → v a ≡ v b → ⊥)
    → IsForbidden width lits (entry_of processes) g n
forbidden_by width lits labels processes closure narrow g inside head n a b fa fb e apart =
    let other = entry_of labels b in
    let parts = and_parts _ _ e in
    let rest = and_parts _ _ parts.1 in
    let less : other < 11 + g = ltb-true _ _ parts.0 in
    let own : entry_of labels a ≡ 11 + g = eqb-true _ _ rest.0 in
    let taken : get_or processes other 0 ≡ n = eqb-true _ _ rest.1 in
    let at = side_at width g other less (label_near width labels closure.tidy narrow b fb) in
    let fit : IsTrue (side_fits 11 at.side) = earlier_fits width g narrow inside at.side at.earlier in
    let fit_a : IsTrue (side_fits 11 a) = fits_wider width narrow a fa in
    let fit_b : IsTrue (side_fits 11 b) = fits_wider width narrow b fb in
    let same : entry_of labels at.side ≡ other = ap (λ (k : ℕ). get_or labels k 0) at.is_number ∙ closure.tidy.head (node_of b) (node_below b fit_b) in
    record {
      side = at.side;
      earlier = at.earlier;
      apart = λ v s together.
          let at_a : v a ≡ v (Global g) = closure.forced v s a (Global g) fit_a (lt-ltb g 64 inside) (own ∙ sym head) in
          let at_b : v at.side ≡ v b = closure.forced v s at.side b fit fit_b same in
          apart v s (at_a ∙ together ∙ at_b);
      taken = ap (λ (k : ℕ). get_or processes k 0) at.is_number ∙ taken;
    }

forbidden : (width : ℕ) (lits : List Lit) (labels processes : List ℕ) → AreClosureOf width lits labels → width ≤ 11 → (g : ℕ) → g < 64
    → get_or labels (11 + g) 0 ≡ 11 + g → (n : ℕ) (lit : Lit) → IsTrue (sides_fit width lit) → forbids labels processes (11 + g) n lit ≡ true → IsMember lits lit
    → IsForbidden width lits (entry_of processes) g n
forbidden width lits labels processes closure narrow g inside head n (FinIn t mask) fit e m = absurd (false≢true e)
forbidden width lits labels processes closure narrow g inside head n (FinEq a b) fit e m = absurd (false≢true e)
forbidden width lits labels processes closure narrow g inside head n (FinNe a b) fit e m = absurd (false≢true e)
forbidden width lits labels processes closure narrow g inside head n (ProcEq a b) fit e m = absurd (false≢true e)
forbidden width lits labels processes closure narrow g inside head n (ProcNe a b) fit e m =
    let fits = and_parts (side_fits width a) (side_fits width b) fit in
    let apart : (v : PSide → ℕ) → Solves width lits v → v a ≡ v b → ⊥ = λ v s. eqb-false _ _ (not-true _ (m (is_true v) s.holds)) in
    elim (or_cases _ _ e) [
      | inl first ↦ forbidden_by width lits labels processes closure narrow g inside head n a b fits.0 fits.1 first apart
      | inr second ↦ forbidden_by width lits labels processes closure narrow g inside head n b a fits.1 fits.0 second (λ v s same. apart v s (sym same))
    ]
forbidden width lits labels processes closure narrow g inside head n (Diff a b bound) fit e m = absurd (false≢true e)

pub least_choice : (width : ℕ) (lits : List Lit) (labels processes : List ℕ) → AreClosureOf width lits labels → width ≤ 11
    → list_all (sides_fit width) lits ≡ true → list_all (sides_fit 11) lits ≡ true → AreChosen labels processes lits 75 → IsLeastChoice width lits (entry_of processes)
least_choice width lits labels processes closure narrow fit wide chosen = record {
  places = λ p inside. chosen.places p (omega arith) (omega arith);
  solves = record {
    apart = λ p q ip iq e. sym (chosen.places p (omega arith) (omega arith)) ∙ e ∙ chosen.places q (omega arith) (omega arith);
    holds = list_all_member (is_true (entry_of processes)) lits (λ lit m. literal_holds width lits labels processes closure chosen lit (m (sides_fit 11) wide) m);
  };
  classes = λ g inside side earlier forces.
      same_label labels processes lits chosen (Global g) side (lt-ltb g 64 inside) (earlier_fits width g narrow inside side earlier) (forces (entry_of labels) closure.solves);
  least = λ g inside begins n below.
      let head : get_or labels (11 + g) 0 ≡ 11 + g = own_label width lits labels closure narrow g inside begins in
      let least = chosen.least (11 + g) (omega arith) (omega arith) head in
      let found = list_any_member (forbids labels processes (11 + g) n) lits (least.below n below) in
      forbidden width lits labels processes closure narrow g inside head n found.0 (found.2 (sides_fit width) fit) found.1 found.2;
}

list_any_same : {X : Type 0} (p q : X → Bool) → ((x : X) → p x ≡ q x) → (xs : List X) → list_any p xs ≡ list_any q xs
list_any_same p q h [] = refl
list_any_same p q h (x ∷ xs) = rw (h x, list_any_same p q h xs) refl

-- what is forbidden to a class depends on the processes of earlier classes alone
forbids_by_same : (labels old new : List ℕ) (own n : ℕ) → ((k : ℕ) → k < own → get_or new k 0 ≡ get_or old k 0) → (a b : PSide)
    → forbids_by labels old own n a b ≡ forbids_by labels new own n a b
forbids_by_same labels old new own n kept a b = elim (cases_lt (entry_of labels b) own) [
  | inl less ↦ let e : get_or new (entry_of labels b) 0 ≡ get_or old (entry_of labels b) 0 = kept (entry_of labels b) less in rw e refl
  | inr more ↦ let e : ltb (entry_of labels b) own ≡ false = le-ltb _ _ more in rw e refl
]

forbids_same : (labels old new : List ℕ) (own n : ℕ) → ((k : ℕ) → k < own → get_or new k 0 ≡ get_or old k 0) → (lit : Lit)
    → forbids labels old own n lit ≡ forbids labels new own n lit
forbids_same labels old new own n kept (FinIn t mask) = refl
forbids_same labels old new own n kept (FinEq a b) = refl
forbids_same labels old new own n kept (FinNe a b) = refl
forbids_same labels old new own n kept (ProcEq a b) = refl
forbids_same labels old new own n kept (ProcNe a b) = rw (forbids_by_same labels old new own n kept a b, forbids_by_same labels old new own n kept b a) refl
forbids_same labels old new own n kept (Diff a b bound) = refl

least_same : (labels old new : List ℕ) (lits : List Lit) (own n : ℕ) → ((k : ℕ) → k < own → get_or new k 0 ≡ get_or old k 0)
    → IsLeastFree labels old lits own n → IsLeastFree labels new lits own n
least_same labels old new lits own n kept least = record {
  free = sym (list_any_same _ _ (forbids_same labels old new own n kept) lits) ∙ least.free;
  below = λ k less. sym (list_any_same _ _ (forbids_same labels old new own k kept) lits) ∙ least.below k less;
}

pub chosen_none : (labels processes : List ℕ) (lits : List Lit) → length processes ≡ 75 → AreChosen labels processes lits 0
chosen_none labels processes lits size = record {
  size = size;
  low = λ k below. absurd (omega arith);
  same = λ k below. absurd (omega arith);
  places = λ k below. absurd (omega arith);
  least = λ k below. absurd (omega arith);
}

-- one more side has its process
pub chosen_more : (labels processes : List ℕ) (lits : List Lit) (own v : ℕ) → AreChosen labels processes lits own → own < 75 → ((i : ℕ) → get_or labels i 0 ≤ i)
    → ((p : ℕ) → p < 11 → get_or labels p 0 ≡ p) → v ≤ own → (get_or labels own 0 < own → v ≡ get_or processes (get_or labels own 0) 0)
    → (get_or labels own 0 ≡ own → own < 11 → v ≡ own) → (get_or labels own 0 ≡ own → 11 ≤ own → IsLeastFree labels processes lits own v)
    → AreChosen labels (set processes own v) lits (own + 1)
chosen_more labels processes lits own v chosen inside low_labels own_places low same place least =
    let new = set processes own v in
    let here : get_or new own 0 ≡ v = get_or-set_same processes own v 0 (omega (arith, chosen.size)) in
    let kept : (k : ℕ) → k < own → get_or new k 0 ≡ get_or processes k 0 = λ k below. get_or-set_other processes own k v 0 (λ e. omega arith) in
    record {
      size = length-set processes own v ∙ chosen.size;
      low = λ k below. elim (cases_lt k own) [
        | inl earlier ↦ omega (arith, kept k earlier, chosen.low k earlier)
        | inr last ↦ let is : k ≡ own = omega arith in let e : get_or new k 0 ≡ v = ap (λ (i : ℕ). get_or new i 0) is ∙ here in omega arith
      ];
      same = λ k below. elim (cases_lt k own) [
        | inl earlier ↦
            let before : get_or labels k 0 < own = omega (arith, low_labels k) in
            kept k earlier ∙ chosen.same k earlier ∙ sym (kept (get_or labels k 0) before)
        | inr last ↦
            let is : k ≡ own = omega arith in
            let at_own : get_or new own 0 ≡ get_or new (get_or labels own 0) 0 = elim (cases_lt (get_or labels own 0) own) [
              | inl less ↦ here ∙ same less ∙ sym (kept (get_or labels own 0) less)
              | inr more ↦ let head : own ≡ get_or labels own 0 = omega (arith, low_labels own) in ap (λ (i : ℕ). get_or new i 0) head
            ] in
            rw is at_own
      ];
      places = λ k below small. elim (cases_lt k own) [
        | inl earlier ↦ kept k earlier ∙ chosen.places k earlier small
        | inr last ↦
            let is : k ≡ own = omega arith in
            let at_own : get_or new own 0 ≡ own = here ∙ place (own_places own (omega arith)) (omega arith) in
            rw is at_own
      ];
      least = λ k below big head. elim (cases_lt k own) [
        | inl earlier ↦
            let was : IsLeastFree labels processes lits k (get_or processes k 0) = chosen.least k earlier big head in
            let now : IsLeastFree labels new lits k (get_or processes k 0) = least_same labels processes new lits k (get_or processes k 0) (λ i less. kept i (omega arith)) was in
            rw (kept k earlier) now
        | inr last ↦
            let is : k ≡ own = omega arith in
            let head_own : get_or labels own 0 ≡ own = rw (← is) head in
            let now : IsLeastFree labels new lits own v = least_same labels processes new lits own v kept (least head_own (omega arith)) in
            rw (is, here) now
      ];
    }

low_by : (labels processes : List ℕ) (own n : ℕ) → ((k : ℕ) → k < own → get_or processes k 0 ≤ k) → (a b : PSide)
    → forbids_by labels processes own n a b ≡ true → n < own
low_by labels processes own n low a b e =
    let parts = and_parts _ _ e in
    let less : entry_of labels b < own = ltb-true _ _ parts.0 in
    let rest = and_parts (eqb (entry_of labels a) own) (eqb (get_or processes (entry_of labels b) 0) n) parts.1 in
    let taken : get_or processes (entry_of labels b) 0 ≡ n = eqb-true _ _ rest.1 in
    omega (arith, low (entry_of labels b) less)

forbidden_low_by : (labels processes : List ℕ) (own n : ℕ) → ((k : ℕ) → k < own → get_or processes k 0 ≤ k) → (lit : Lit)
    → forbids labels processes own n lit ≡ true → n < own
forbidden_low_by labels processes own n low (FinIn t mask) e = absurd (false≢true e)
forbidden_low_by labels processes own n low (FinEq a b) e = absurd (false≢true e)
forbidden_low_by labels processes own n low (FinNe a b) e = absurd (false≢true e)
forbidden_low_by labels processes own n low (ProcEq a b) e = absurd (false≢true e)
forbidden_low_by labels processes own n low (ProcNe a b) e =
    elim (or_cases _ _ e) [ inl first ↦ low_by labels processes own n low a b first | inr second ↦ low_by labels processes own n low b a second ]
forbidden_low_by labels processes own n low (Diff a b bound) e = absurd (false≢true e)

-- a forbidden process is that of an earlier class, so it is below the class's number
pub forbidden_low : (labels processes : List ℕ) (lits : List Lit) (own n : ℕ) → ((k : ℕ) → k < own → get_or processes k 0 ≤ k)
    → list_any (forbids labels processes own n) lits ≡ true → n < own
forbidden_low labels processes lits own n low e =
    let found = list_any_member (forbids labels processes own n) lits e in
    forbidden_low_by labels processes own n low found.0 found.1
