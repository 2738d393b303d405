-- Solutions of the three parts as values of a state, and what one part alone says of entailment.
use Rattle.std.proofs.Common.{◌≡◌, ◌⊎◌, ℕ, zero, suc, ◌+◌, ◌<◌, true, false, not, cond, List, get_or, ℤ, ◌-ℤ◌, ◌≤ℤ◌, inl, inr, refl, sym, ap, ◌∙◌, arith}
use Rattle.std.specs.Prelude.{IsTrue, ◌==◌, nat_lt}
use Rattle.std.specs.List.{list_all}
use Rattle.std.proofs.lemmas.Bool.{lt-ltb, cases_lt, cases_Bool, cond-true, cond-false, eqb-true, eq-eqb, le-ltb, ne_eqb, eqb-false}
use Rattle.cub_proto.specs.declared.literal.Term.{Term}
use Rattle.cub_proto.specs.declared.literal.PSide.{PSide}
use Rattle.cub_proto.specs.declared.literal.ISide.{ISide}
use Rattle.cub_proto.specs.declared.literal.Lit.{Lit}
use Rattle.cub_proto.specs.declared.literal.Lit.TheVariants.{FinIn, FinEq, FinNe, ProcEq, ProcNe, Diff}
use Rattle.cub_proto.specs.declared.protocol.Protocol.{Protocol}
use Rattle.cub_proto.specs.Signature.{Signature, constructors_at}
use Rattle.cub_proto.specs.StateOf.{signature_of}
use Rattle.cub_proto.specs.Truth.{is_true, has_bit, integer_at, process_at}
use Rattle.cub_proto.specs.Fits.{literal_fits}
use Rattle.cub_base.proofs.Bools.{and_left, and_right, and_both}
use Rattle.cub_base.proofs.Elements.{all_from, from_all}
use Rattle.fin_dom.specs.Solution as fin
use Rattle.proc_eq.specs.Solution as proc
use Rattle.diff_close.specs.Literals as diff
use Rattle.cub_cube.specs.Meaning.{IsConsistent}
use Rattle.theory_laws.specs.Built.{Values, built, own_places, is_true_of}
use Rattle.theory_laws.specs.Solved.{AreValues, Solve, PartsHaveSolutions}
use Rattle.theory_laws.specs.Entailed.{Entails}
use Rattle.theory_laws.specs.Chosen.{needed}
use Rattle.theory_laws.proofs.Needs.{needed_room, needed_some, needed_above}
use Rattle.theory_laws.proofs.Stating.{within_is, is_within, true_of_values, made_state, made_consistent}
use Rattle.theory_laws.proofs.Meeting.{processes, integers, processes_solve, integers_solve, side_is as side_at}
use Rattle.theory_laws.proofs.Parts.{some_constructor}

-- ---- constructors cut down to those of each term's sort
abbrev pub clamped : Signature → (Term → ℕ) → Term → ℕ
clamped sig u t = cond (nat_lt (u t) (constructors_at sig t)) (u t) 0

clamp_inside : (sig : Signature) (u : Term → ℕ) (t : Term) → fin.has_constructor sig u t ≡ true → clamped sig u t ≡ u t
clamp_inside sig u t h = cond-true _ _ _ h

clamp_below : (sig : Signature) (u : Term → ℕ) (t : Term) → 0 < constructors_at sig t → clamped sig u t < constructors_at sig t
clamp_below sig u t some = elim (cases_lt (u t) (constructors_at sig t)) [
  | inl less ↦ let e : clamped sig u t ≡ u t = cond-true _ _ _ (lt-ltb (u t) (constructors_at sig t) less) in omega arith
  | inr more ↦ let e : clamped sig u t ≡ 0 = cond-false _ _ _ (le-ltb (u t) (constructors_at sig t) more) in omega arith
]

clamp_has : (sig : Signature) (u : Term → ℕ) (t : Term) → fin.has_constructor sig u t ≡ true → fin.has_constructor sig (clamped sig u) t ≡ true
clamp_has sig u t h = ap (λ n. nat_lt n (constructors_at sig t)) (clamp_inside sig u t h) ∙ h

clamp_within : (sig : Signature) (u : Term → ℕ) (lit : Lit) → fin.is_inside sig u lit ≡ true → fin.is_inside sig (clamped sig u) lit ≡ true
clamp_within sig u (FinIn t mask) h = clamp_has sig u t h
clamp_within sig u (FinEq a b) h =
    and_both (fin.has_constructor sig (clamped sig u) a) (fin.has_constructor sig (clamped sig u) b)
    (clamp_has sig u a (and_left (fin.has_constructor sig u a) (fin.has_constructor sig u b) h)) (clamp_has sig u b (and_right (fin.has_constructor sig u a) (fin.has_constructor sig u b) h))
clamp_within sig u (FinNe a b) h =
    and_both (fin.has_constructor sig (clamped sig u) a) (fin.has_constructor sig (clamped sig u) b)
    (clamp_has sig u a (and_left (fin.has_constructor sig u a) (fin.has_constructor sig u b) h)) (clamp_has sig u b (and_right (fin.has_constructor sig u a) (fin.has_constructor sig u b) h))
clamp_within sig u (ProcEq a b) h = refl
clamp_within sig u (ProcNe a b) h = refl
clamp_within sig u (Diff a b bound) h = refl

-- what is true of constructors of the sorts is true of them cut down
clamp_true : (sig : Signature) (u : Term → ℕ) (lit : Lit) → fin.is_inside sig u lit ≡ true → fin.is_true (clamped sig u) lit ≡ fin.is_true u lit
clamp_true sig u (FinIn t mask) h = ap (has_bit mask) (clamp_inside sig u t h)
clamp_true sig u (FinEq a b) h =
    ap (λ n. n == clamped sig u b) (clamp_inside sig u a (and_left (fin.has_constructor sig u a) (fin.has_constructor sig u b) h))
    ∙ ap (λ n. u a == n) (clamp_inside sig u b (and_right (fin.has_constructor sig u a) (fin.has_constructor sig u b) h))
clamp_true sig u (FinNe a b) h =
    ap (λ n. not (n == clamped sig u b)) (clamp_inside sig u a (and_left (fin.has_constructor sig u a) (fin.has_constructor sig u b) h))
    ∙ ap (λ n. not (u a == n)) (clamp_inside sig u b (and_right (fin.has_constructor sig u a) (fin.has_constructor sig u b) h))
clamp_true sig u (ProcEq a b) h = refl
clamp_true sig u (ProcNe a b) h = refl
clamp_true sig u (Diff a b bound) h = refl

pub clamp_solves : (sig : Signature) (u : Term → ℕ) (lits : List Lit) → fin.Solves sig lits u → fin.Solves sig lits (clamped sig u)
clamp_solves sig u lits s = record {
  inside = from_all (fin.is_inside sig (clamped sig u)) lits (λ k d below. clamp_within sig u (get_or lits k d) (all_from (fin.is_inside sig u) lits s.inside k d below));
  holds = from_all (fin.is_true (clamped sig u)) lits (λ k d below.
      clamp_true sig u (get_or lits k d) (all_from (fin.is_inside sig u) lits s.inside k d below) ∙ all_from (fin.is_true u) lits s.holds k d below);
}

-- ---- processes with the numbers of their places
-- the place before the k-th that has the process, or else d
abbrev seat : (PSide → ℕ) → ℕ → ℕ → ℕ → ℕ
seat v zero n d = d
seat v (suc q) n d = cond (v (PSide.Place q) == n) q (seat v q n d)

-- the process at a place has the number of the place, and others come behind
abbrev pub renumbered : ℕ → (PSide → ℕ) → ℕ → ℕ
renumbered width v n = seat v width n (width + n)

record HasSeat (v : PSide → ℕ) (k n d : ℕ) : Type 0 where
  q : ℕ
  inside : q < k
  sits : v (PSide.Place q) ≡ n
  is : seat v k n d ≡ q

seat_cases : (v : PSide → ℕ) (k n d : ℕ) → HasSeat v k n d ⊎ (seat v k n d ≡ d)
seat_cases v zero n d = inr refl
seat_cases v (suc q) n d = elim (cases_Bool (v (PSide.Place q) == n)) [
  | inl h ↦ inl (record { q = q; inside = omega arith; sits = eqb-true (v (PSide.Place q)) n h; is = cond-true _ _ _ h })
  | inr h ↦
      let e : seat v (suc q) n d ≡ seat v q n d = cond-false _ _ _ h in
      elim (seat_cases v q n d) [
        | inl found ↦ inl (record { q = found.q; inside = omega (arith, found.inside); sits = found.sits; is = e ∙ found.is })
        | inr none ↦ inr (e ∙ none)
      ]
]

seat_at : (v : PSide → ℕ) (k n d q : ℕ) → ((i j : ℕ) → i < k → j < k → v (PSide.Place i) ≡ v (PSide.Place j) → i ≡ j) → q < k → v (PSide.Place q) ≡ n → seat v k n d ≡ q
seat_at v zero n d q apart below sits = absurd (omega arith)
seat_at v (suc j) n d q apart below sits = elim (cases_Bool (v (PSide.Place j) == n)) [
  | inl h ↦
      let same : j ≡ q = apart j q (omega arith) below (eqb-true (v (PSide.Place j)) n h ∙ sym sits) in
      let here : seat v (suc j) n d ≡ j = cond-true _ _ _ h in
      here ∙ same
  | inr h ↦
      let e : seat v (suc j) n d ≡ seat v j n d = cond-false _ _ _ h in
      elim (cases_lt q j) [
        | inl less ↦ e ∙ seat_at v j n d q (λ x y x_in y_in same. apart x y (omega arith) (omega arith) same) less sits
        | inr more ↦
            let same : q ≡ j = omega arith in
            let on : (v (PSide.Place j) == n) ≡ true = eq-eqb (v (PSide.Place j)) n (ap (λ x. v (PSide.Place x)) (sym same) ∙ sits) in
            let wrong : true ≡ false = sym on ∙ h in
            cc
      ]
]

-- no two processes get one number
one_number : (width : ℕ) (v : PSide → ℕ) (n m : ℕ) → renumbered width v n ≡ renumbered width v m → n ≡ m
one_number width v n m same = elim (seat_cases v width n (width + n)) [
  | inl a ↦ elim (seat_cases v width m (width + m)) [
    | inl b ↦
        let seats : a.q ≡ b.q = sym a.is ∙ same ∙ b.is in
        sym a.sits ∙ ap (λ x. v (PSide.Place x)) seats ∙ b.sits
    | inr b ↦ absurd (omega (arith, same, a.is, b, a.inside))
  ]
  | inr a ↦ elim (seat_cases v width m (width + m)) [
    | inl b ↦ absurd (omega (arith, same, a, b.is, b.inside))
    | inr b ↦ omega (arith, same, a, b)
  ]
]

same_number : (width : ℕ) (v : PSide → ℕ) (n m : ℕ) → (renumbered width v n == renumbered width v m) ≡ (n == m)
same_number width v n m = elim (cases_Bool (n == m)) [
  | inl h ↦ eq-eqb (renumbered width v n) (renumbered width v m) (ap (renumbered width v) (eqb-true n m h)) ∙ sym h
  | inr h ↦ ne_eqb (renumbered width v n) (renumbered width v m) (λ same. eqb-false n m h (one_number width v n m same)) ∙ sym h
]

renumbered_true : (width : ℕ) (v : PSide → ℕ) (lit : Lit) → proc.is_true (λ a. renumbered width v (v a)) lit ≡ proc.is_true v lit
renumbered_true width v (FinIn t mask) = refl
renumbered_true width v (FinEq a b) = refl
renumbered_true width v (FinNe a b) = refl
renumbered_true width v (ProcEq a b) = same_number width v (v a) (v b)
renumbered_true width v (ProcNe a b) = ap not (same_number width v (v a) (v b))
renumbered_true width v (Diff a b bound) = refl

renumbered_solves : (width : ℕ) (lits : List Lit) (v : PSide → ℕ) → proc.Solves width lits v → proc.Solves width lits (λ a. renumbered width v (v a))
renumbered_solves width lits v s = record {
  apart = λ i j i_in j_in same. s.apart i j i_in j_in (one_number width v (v (PSide.Place i)) (v (PSide.Place j)) same);
  holds = from_all (proc.is_true (λ a. renumbered width v (v a))) lits (λ k d below. renumbered_true width v (get_or lits k d) ∙ all_from (proc.is_true v) lits s.holds k d below);
}

-- ---- values of a state
-- of solutions of the three parts
abbrev pub joined : Signature → ℕ → (Term → ℕ) → (PSide → ℕ) → (Term → ℤ) → Values
joined sig width u v w = record { constructor = clamped sig u; process = λ a. renumbered width v (v a); integer = w }

module _ (p : Protocol) (width : ℕ) (lits : List Lit) (u : Term → ℕ) (v : PSide → ℕ) (w : Term → ℤ) (f : fin.Solves (signature_of p) lits u) (q : proc.Solves width lits v) (d : diff.Solves w lits) where
  abbrev made : Values
  made = joined (signature_of p) width u v w

  pub joined_are : AreValues p width (needed p width made) made
  joined_are = record {
    some = needed_some p width made;
    room = needed_room p width made;
    inside = λ t finite. clamp_below (signature_of p) u t (some_constructor p t finite);
    places = λ i below. seat_at v width (v (PSide.Place i)) (width + v (PSide.Place i)) i q.apart below refl;
    below = needed_above p width made;
  }

  pub joined_solve : Solve p width lits made
  joined_solve = record { finite = clamp_solves (signature_of p) u lits f; processes = renumbered_solves width lits v q; integers = d }

  -- a literal that is entailed is true of them
  pub true_of_joined : (lit : Lit) → IsTrue (list_all (literal_fits (signature_of p) width) lits) → IsTrue (literal_fits (signature_of p) width lit) → Entails p width lits lit → is_true_of made lit ≡ true
  true_of_joined lit fit fits entails =
      let state = made_state p width (needed p width made) lits made fit joined_are joined_solve in
      let h : is_true (built p width (needed p width made) made) (own_places width) lit ≡ true = entails (built p width (needed p width made) made) (own_places width) state.state state.satisfies in
      sym (true_of_values p width (needed p width made) made joined_are lit fits) ∙ h

pub parts_consistent : (p : Protocol) (width : ℕ) (lits : List Lit) → IsTrue (list_all (literal_fits (signature_of p) width) lits) → PartsHaveSolutions p width lits → IsConsistent p width lits
parts_consistent p width lits fit parts =
    let v = joined (signature_of p) width parts.finite.0 parts.processes.0 parts.integers.0 in
    made_consistent p width (needed p width v) lits v fit
    (joined_are p width lits parts.finite.0 parts.processes.0 parts.integers.0 parts.finite.1 parts.processes.1 parts.integers.1)
    (joined_solve p width lits parts.finite.0 parts.processes.0 parts.integers.0 parts.finite.1 parts.processes.1 parts.integers.1)

-- ---- entailment in one part
module _ (p : Protocol) (width : ℕ) (lits : List Lit) (fit : IsTrue (list_all (literal_fits (signature_of p) width) lits)) where
  pub diff_entailed : (a b : ISide) (bound : ℤ) → diff.Entails lits a b bound → Entails p width lits (Diff a b bound)
  diff_entailed a b bound entailed s places state met =
      let h : (diff.side_value (integers p s places width lits state met) a -ℤ diff.side_value (integers p s places width lits state met) b) ≤ℤ bound =
      entailed (integers p s places width lits state met) (integers_solve p s places width lits state met) in
      let k : (integer_at s places a -ℤ integer_at s places b) ≤ℤ bound = rw (← side_at p s places width lits state met a, ← side_at p s places width lits state met b) h in
      within_is (integer_at s places a -ℤ integer_at s places b) bound k

  pub diff_follows : (a b : ISide) (bound : ℤ) → IsTrue (literal_fits (signature_of p) width (Diff a b bound)) → PartsHaveSolutions p width lits → Entails p width lits (Diff a b bound) → diff.Entails lits a b bound
  diff_follows a b bound fits parts entails w solves =
      is_within (diff.side_value w a -ℤ diff.side_value w b) bound
      (true_of_joined p width lits parts.finite.0 parts.processes.0 w parts.finite.1 parts.processes.1 solves (Diff a b bound) fit fits entails)

  pub proc_entailed : (a b : PSide) → proc.Forces width lits a b → Entails p width lits (ProcEq a b)
  proc_entailed a b forces s places state met = eq-eqb (process_at s places a) (process_at s places b) (forces (processes p s places width lits state met) (processes_solve p s places width lits state met))

  pub proc_follows : (a b : PSide) → IsTrue (literal_fits (signature_of p) width (ProcEq a b)) → PartsHaveSolutions p width lits → Entails p width lits (ProcEq a b) → proc.Forces width lits a b
  proc_follows a b fits parts entails v solves =
      one_number width v (v a) (v b) (eqb-true (renumbered width v (v a)) (renumbered width v (v b))
      (true_of_joined p width lits parts.finite.0 v parts.integers.0 parts.finite.1 solves parts.integers.1 (ProcEq a b) fit fits entails))
