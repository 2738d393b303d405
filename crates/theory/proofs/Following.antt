-- What look-ups and refutations say of entailment.
use Rattle.std.proofs.Common.{◌≡◌, ◌≢◌, ◌↔◌, ℕ, zero, suc, ◌-◌, ◌<◌, ◌≤◌, ◌^◌, Bool, true, false, not, List, [], ◌∷◌, ◌++◌, length, get_or, Option, Some, None, ℤ, pos, ◌-ℤ◌, ◌≤ℤ◌, refl, sym, ap, ◌∙◌, subst, arith, append-nil}
use Rattle.std.specs.Prelude.{All, IsTrue, ◌&&◌, nat_lt, int_le, slice_index, MatchOption}
use Rattle.std.specs.List.{list_all, list_any}
use Rattle.std.proofs.lemmas.Bool.{false≢true, true≢false, not-true, not_from_false, ltb-true, lt-ltb}
use Rattle.std.proofs.lemmas.Int.{ints}
use Rattle.cub_proto.specs.declared.literal.Term.{Term}
use Rattle.cub_proto.specs.declared.literal.PSide.{PSide}
use Rattle.cub_proto.specs.declared.literal.ISide.{ISide}
use Rattle.cub_proto.specs.declared.literal.Lit.{Lit}
use Rattle.cub_proto.specs.declared.literal.Lit.TheVariants.{FinIn, FinEq, FinNe, ProcEq, ProcNe, Diff}
use Rattle.cub_proto.specs.declared.protocol.Protocol.{Protocol}
use Rattle.cub_proto.specs.Signature.{Signature, sort_of, constructors_at}
use Rattle.cub_proto.specs.StateOf.{signature_of}
use Rattle.cub_proto.specs.Truth.{has_bit}
use Rattle.cub_proto.specs.Fits.{literal_fits, is_finite, place_fits, process_side_fits}
use Rattle.cub_proto.specs.Negation.{negated}
use Rattle.cub_cube.specs.Meaning.{IsConsistent}
use Rattle.cub_cube.proofs.Negations.{negated_fits}
use Rattle.cub_base.proofs.Bools.{and_left, and_right, and_both}
use Rattle.fin_dom.specs.Solution as fin
use Rattle.fin_dom.specs.Table.{number_of, has_entry, terms_fit}
use Rattle.fin_dom.proofs.Masks.{first_bits}
use Rattle.proc_eq.specs.Solution as proc
use Rattle.diff_close.specs.Literals as diff
use Rattle.theory_laws.specs.Fitting.{AreFitting, term_numbers}
use Rattle.theory_laws.specs.Solved.{PartsHaveSolutions}
use Rattle.theory_laws.specs.Entailed.{Entails}
use Rattle.theory_laws.specs.Kinds.{links, is_open, is_finite_literal, is_process_literal, is_integer_literal}
use Rattle.theory_laws.proofs.Parts.{fin_fits, finite_entry, entries_of, side_fitting}
use Rattle.theory_laws.proofs.Combined.{diff_entailed, diff_follows, proc_entailed, proc_follows}
use Rattle.theory_laws.proofs.Extending.{part_refutes, parts_allow, finite_more, processes_more, integers_more}
use Rattle.theory_laws.proofs.Domains.{member_entailed, equal_entailed, other_entailed, member_refuted, equal_refuted, other_refuted, itself_refuted, itself_entailed, same_is}
use Rattle.theory.specs.Loaded.{IsGathered}

-- ---- negations of finite literals
negation_processes : (sig : Signature) (lit : Lit) → is_finite_literal lit ≡ true → list_any is_process_literal (negated sig lit ∷ []) ≡ false
negation_processes sig (FinIn t mask) h = refl
negation_processes sig (FinEq a b) h = refl
negation_processes sig (FinNe a b) h = refl
negation_processes sig (ProcEq a b) h = cc
negation_processes sig (ProcNe a b) h = cc
negation_processes sig (Diff a b bound) h = cc

negation_integers : (sig : Signature) (lit : Lit) → is_finite_literal lit ≡ true → list_any is_integer_literal (negated sig lit ∷ []) ≡ false
negation_integers sig (FinIn t mask) h = refl
negation_integers sig (FinEq a b) h = refl
negation_integers sig (FinNe a b) h = refl
negation_integers sig (ProcEq a b) h = cc
negation_integers sig (ProcNe a b) h = cc
negation_integers sig (Diff a b bound) h = cc

not_false : (b : Bool) → not b ≡ true → b ≡ true → ⊥
not_false true h k = true≢false (sym h)
not_false false h k = false≢true k

not_either : (b : Bool) → (b ≡ true → ⊥) → not b ≡ true
not_either true h = absurd (h refl)
not_either false h = refl

module _ (p : Protocol) (width : ℕ) (lits : List Lit) (fitting : AreFitting p width lits) (parts : PartsHaveSolutions p width lits) where
  -- the solver says whether a finite literal is entailed
  pub finite_decides : (lit : Lit) (b : Bool) → is_finite_literal lit ≡ true → IsTrue (literal_fits (signature_of p) width lit) → IsTrue b ↔ fin.HasSolution (signature_of p) (lits ++ negated (signature_of p) lit ∷ [])
      → IsTrue (not b) ↔ Entails p width lits lit
  finite_decides lit b finite fits exact = (
    (λ h. part_refutes p width lits fitting.fit lit fits (λ all. not_false b h (exact.1 all.finite))),
    (λ entails. not_either b (λ has. parts_allow p width lits fitting.fit lit fits (record {
      finite = exact.0 has;
      processes = processes_more width lits (negated (signature_of p) lit ∷ []) (negation_processes (signature_of p) lit finite) parts.processes;
      integers = integers_more lits (negated (signature_of p) lit ∷ []) (negation_integers (signature_of p) lit finite) parts.integers;
    }) entails)),
  )

  -- and whether a disequality of processes is
  pub apart_decides : (a b : PSide) (x : Bool) → IsTrue (literal_fits (signature_of p) width (ProcNe a b)) → IsTrue x ↔ (proc.HasSolution width (lits ++ ProcEq a b ∷ []) → ⊥) → IsTrue x ↔ Entails p width lits (ProcNe a b)
  apart_decides a b x fits exact = (
    (λ h. part_refutes p width lits fitting.fit (ProcNe a b) fits (λ all. exact.0 h all.processes)),
    (λ entails. exact.1 (λ has. parts_allow p width lits fitting.fit (ProcNe a b) fits (record {
      finite = finite_more (signature_of p) lits (ProcEq a b ∷ []) refl parts.finite;
      processes = has;
      integers = integers_more lits (ProcEq a b ∷ []) refl parts.integers;
    }) entails)),
  )

  pub same_decides : (a b : PSide) (x : Bool) → IsTrue (literal_fits (signature_of p) width (ProcEq a b)) → IsTrue x ↔ proc.Forces width lits a b → IsTrue x ↔ Entails p width lits (ProcEq a b)
  same_decides a b x fits exact = (
    (λ h. proc_entailed p width lits fitting.fit a b (exact.0 h)),
    (λ entails. exact.1 (proc_follows p width lits fitting.fit a b fits parts entails)),
  )

  pub bound_decides : (a b : ISide) (bound : ℤ) (x : Bool) → IsTrue (literal_fits (signature_of p) width (Diff a b bound)) → IsTrue x ↔ diff.Entails lits a b bound → IsTrue x ↔ Entails p width lits (Diff a b bound)
  bound_decides a b bound x fits exact = (
    (λ h. diff_entailed p width lits fitting.fit a b bound (exact.0 h)),
    (λ entails. exact.1 (diff_follows p width lits fitting.fit a b bound fits parts entails)),
  )

-- a negation fits the table of masks
pub negation_fits : (p : Protocol) (width : ℕ) → width ≤ 11 → (masks : List ℕ) → length masks ≡ term_numbers p → (lit made : Lit) → made ≡ negated (signature_of p) lit → IsTrue (literal_fits (signature_of p) width lit)
    → All (λ l. IsTrue (terms_fit (signature_of p) (length masks) l)) (made ∷ [])
negation_fits p width narrow masks size lit made is fits zero d below =
    subst (λ n. IsTrue (terms_fit (signature_of p) n made)) (sym size) (subst (λ l. IsTrue (terms_fit (signature_of p) (term_numbers p) l)) (sym is)
    (fin_fits p width narrow (negated (signature_of p) lit) (negated_fits (signature_of p) width lit fits)))
negation_fits p width narrow masks size lit made is fits (suc k) d below = absurd (omega arith)

-- ---- least bounds
int_le_is : (x b : ℤ) → int_le x b ≡ true → x ≤ℤ b
int_le_is x b h = grind (arith, ints)

is_int_le : (x b : ℤ) → x ≤ℤ b → int_le x b ≡ true
is_int_le x b h = grind (arith, ints)

below_least : (d k b : ℤ) → d ≤ℤ k → k ≤ℤ b → d ≤ℤ b
below_least d k b h e = omega (arith, ints)

pub least_decides : (lits : List Lit) (a b : ISide) (least bound : ℤ) → diff.IsLeastBound lits a b (Some least) → IsTrue (int_le least bound) ↔ diff.Entails lits a b bound
least_decides lits a b least bound is = (
  (λ h v solves. below_least (diff.side_value v a -ℤ diff.side_value v b) least bound (is.0 v solves) (int_le_is least bound h)),
  (λ entails. is_int_le least bound (is.1 bound entails)),
)

-- ---- look-ups of finite literals
pub opened : (p : Protocol) (masks : List ℕ) (t : Term) (full left both : ℕ) → full ≡ 2 ^ constructors_at (signature_of p) t - 1 → left ≡ slice_index masks (number_of t) → ((c : ℕ) → has_bit both c ≡ (has_bit full c && has_bit left c))
    → (c : ℕ) → has_bit both c ≡ is_open (signature_of p) masks t c
opened p masks t full left both full_is left_is bits c =
    bits c ∙ (ap (λ m. has_bit m c && has_bit left c) full_is ∙ (ap (λ x. x && has_bit left c) (first_bits (constructors_at (signature_of p) t) c) ∙ ap (λ m. nat_lt c (constructors_at (signature_of p) t) && has_bit m c) left_is))

module _ (p : Protocol) (width : ℕ) (lits : List Lit) (domains masks : List ℕ) (loaded : IsGathered p width lits domains masks) where
  pub entry_here : (t : Term) → IsTrue (has_entry (term_numbers p) t) → IsTrue (has_entry (length domains) t)
  entry_here t h = subst (λ n. IsTrue (has_entry n t)) (sym loaded.domain_count) h

  pub member_entry : (t : Term) (mask : ℕ) → IsTrue (literal_fits (signature_of p) width (FinIn t mask)) → IsTrue (has_entry (length domains) t)
  member_entry t mask fits =
      let sorted = is_finite (sort_of (signature_of p) t) in
      let front = and_left (sorted && place_fits width t) _ fits in
      entry_here t (finite_entry p width loaded.fitting.narrow t (and_left sorted (place_fits width t) front) (and_right sorted (place_fits width t) front))

  pub both_entries : (a b : Term) → IsTrue (literal_fits (signature_of p) width (FinEq a b)) → IsTrue (has_entry (length domains) a) × IsTrue (has_entry (length domains) b)
  both_entries a b fits = let e = entries_of p width loaded.fitting.narrow a b fits in (entry_here a e.0, entry_here b e.1)

  -- all that is open is in the mask
  pub member_yes : (t : Term) (mask whole : ℕ) → IsTrue (literal_fits (signature_of p) width (FinIn t mask)) → ((c : ℕ) → has_bit whole c ≡ is_open (signature_of p) domains t c) → ((c : ℕ) → has_bit whole c ≡ true → has_bit mask c ≡ true)
      → Entails p width lits (FinIn t mask)
  member_yes t mask whole fits is each =
      let sorted = is_finite (sort_of (signature_of p) t) in
      let front = and_left (sorted && place_fits width t) _ fits in
      member_entailed p width loaded.fitting.narrow lits loaded.fitting.fit domains loaded.domain_count loaded.gathered t mask (and_left sorted (place_fits width t) front) (and_right sorted (place_fits width t) front)
      (λ c h. each c (is c ∙ h))

  pub member_no : (t : Term) (mask whole c : ℕ) → IsTrue (literal_fits (signature_of p) width (FinIn t mask)) → ((d : ℕ) → has_bit whole d ≡ is_open (signature_of p) domains t d) → list_any (links t) lits ≡ false → has_bit whole c ≡ true → has_bit mask c ≡ false
      → Entails p width lits (FinIn t mask) → ⊥
  member_no t mask whole c fits is free inside out =
      member_refuted p width loaded.fitting.narrow lits loaded.fitting.fit domains loaded.domain_count loaded.gathered loaded.parts t mask c fits free (sym (is c) ∙ inside) out

  module _ (a b : Term) (open_a open_b : ℕ) (fits : IsTrue (literal_fits (signature_of p) width (FinEq a b))) (is_a : (c : ℕ) → has_bit open_a c ≡ is_open (signature_of p) domains a c) (is_b : (c : ℕ) → has_bit open_b c ≡ is_open (signature_of p) domains b c) where
    pub equal_yes : ((c d : ℕ) → has_bit open_a c ≡ true → has_bit open_b d ≡ true → c ≡ d) → Entails p width lits (FinEq a b)
    equal_yes each =
        equal_entailed p width loaded.fitting.narrow lits loaded.fitting.fit domains loaded.domain_count loaded.gathered a b fits (λ c d h k. each c d (is_a c ∙ h) (is_b d ∙ k))

    pub other_yes : ((c : ℕ) → has_bit open_a c ≡ true → has_bit open_b c ≡ true → ⊥) → Entails p width lits (FinNe a b)
    other_yes each =
        other_entailed p width loaded.fitting.narrow lits loaded.fitting.fit domains loaded.domain_count loaded.gathered a b fits (λ c h k. each c (is_a c ∙ h) (is_b c ∙ k))

    pub equal_no : (c d : ℕ) → fin.same_term a b ≡ false → list_any (links a) lits ≡ false → list_any (links b) lits ≡ false → has_bit open_a c ≡ true → has_bit open_b d ≡ true → c ≢ d → Entails p width lits (FinEq a b) → ⊥
    equal_no c d other a_free b_free h k differ =
        equal_refuted p width loaded.fitting.narrow lits loaded.fitting.fit domains loaded.domain_count loaded.gathered loaded.parts a b c d other a_free b_free (sym (is_a c) ∙ h) (sym (is_b d) ∙ k) differ fits

    pub other_no : (c : ℕ) → fin.same_term a b ≡ false → list_any (links a) lits ≡ false → list_any (links b) lits ≡ false → has_bit open_a c ≡ true → has_bit open_b c ≡ true → Entails p width lits (FinNe a b) → ⊥
    other_no c other a_free b_free h k =
        other_refuted p width loaded.fitting.narrow lits loaded.fitting.fit domains loaded.domain_count loaded.gathered loaded.parts a b c c other a_free b_free (sym (is_a c) ∙ h) (sym (is_b c) ∙ k) refl fits

  -- two terms that are one
  pub same_yes : (a b : Term) → fin.same_term a b ≡ true → Entails p width lits (FinEq a b)
  same_yes a b same = subst (λ x. Entails p width lits (FinEq a x)) (same_is a b same) (itself_entailed p width lits a)

  pub same_no : (a b : Term) → fin.same_term a b ≡ true → IsTrue (literal_fits (signature_of p) width (FinNe a b)) → Entails p width lits (FinNe a b) → ⊥
  same_no a b same fits entails =
      let one : b ≡ a = sym (same_is a b same) in
      itself_refuted p width loaded.fitting.narrow lits loaded.fitting.fit domains loaded.domain_count loaded.gathered loaded.parts a
      (subst (λ x. IsTrue (literal_fits (signature_of p) width (FinNe a x))) one fits) (subst (λ x. Entails p width lits (FinNe a x)) one entails)

-- a side that fits is a place below 11 or a global below 64
pub wide_side : (p : Protocol) (width : ℕ) → width ≤ 11 → (a : PSide) → IsTrue (process_side_fits (signature_of p) width a) → IsTrue (proc.side_fits 11 a)
wide_side p width narrow (PSide.Global g) fits = side_fitting p width (PSide.Global g) fits
wide_side p width narrow (PSide.Place q) fits = lt-ltb q 11 (omega (arith, ltb-true q width fits))
