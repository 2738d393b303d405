-- Literals of one kind say nothing to the other parts, so only the parts of their kinds have to be solved again.
use Rattle.std.proofs.Common.{◌≡◌, ℕ, Bool, true, false, List, [], ◌∷◌, ◌++◌, ℤ, refl, sym, ◌∙◌, arith}
use Rattle.std.specs.Prelude.{All, IsTrue}
use Rattle.std.specs.List.{list_all, list_any}
use Rattle.std.proofs.lemmas.Bool.{or_parts}
use Rattle.std.proofs.lemmas.List.Folds.{list_all-append}
use Rattle.std.proofs.lemmas.List.Elements.{All-append, All-cons}
use Rattle.cub_proto.specs.declared.literal.Term.{Term}
use Rattle.cub_proto.specs.declared.literal.PSide.{PSide}
use Rattle.cub_proto.specs.declared.literal.Lit.{Lit}
use Rattle.cub_proto.specs.declared.literal.Lit.TheVariants.{FinIn, FinEq, FinNe, ProcEq, ProcNe, Diff}
use Rattle.cub_proto.specs.declared.protocol.Protocol.{Protocol}
use Rattle.cub_proto.specs.Signature.{Signature}
use Rattle.cub_proto.specs.StateOf.{signature_of}
use Rattle.cub_proto.specs.Fits.{literal_fits}
use Rattle.cub_proto.specs.Negation.{negated}
use Rattle.cub_base.proofs.Bools.{and_left, and_right, and_both}
use Rattle.cub_cube.proofs.Negations.{negated_fits}
use Rattle.fin_dom.specs.Solution as fin
use Rattle.proc_eq.specs.Solution as proc
use Rattle.diff_close.specs.Literals as diff
use Rattle.theory_laws.specs.Solved.{PartsHaveSolutions}
use Rattle.theory_laws.specs.Entailed.{Entails}
use Rattle.theory_laws.specs.Kinds.{is_finite_literal, is_process_literal, is_integer_literal}
use Rattle.theory_laws.proofs.Meeting.{consistent_parts, entailed_refutes, refuted_entails}
use Rattle.theory_laws.proofs.Combined.{parts_consistent}

-- ---- literals of other kinds
other_inside : (sig : Signature) (u : Term → ℕ) (lit : Lit) → is_finite_literal lit ≡ false → fin.is_inside sig u lit ≡ true
other_inside sig u (FinIn t mask) h = cc
other_inside sig u (FinEq a b) h = cc
other_inside sig u (FinNe a b) h = cc
other_inside sig u (ProcEq a b) h = refl
other_inside sig u (ProcNe a b) h = refl
other_inside sig u (Diff a b bound) h = refl

other_finite : (u : Term → ℕ) (lit : Lit) → is_finite_literal lit ≡ false → fin.is_true u lit ≡ true
other_finite u (FinIn t mask) h = cc
other_finite u (FinEq a b) h = cc
other_finite u (FinNe a b) h = cc
other_finite u (ProcEq a b) h = refl
other_finite u (ProcNe a b) h = refl
other_finite u (Diff a b bound) h = refl

other_process : (v : PSide → ℕ) (lit : Lit) → is_process_literal lit ≡ false → proc.is_true v lit ≡ true
other_process v (FinIn t mask) h = refl
other_process v (FinEq a b) h = refl
other_process v (FinNe a b) h = refl
other_process v (ProcEq a b) h = cc
other_process v (ProcNe a b) h = cc
other_process v (Diff a b bound) h = refl

other_integer : (w : Term → ℤ) (lit : Lit) → is_integer_literal lit ≡ false → diff.Holds w lit
other_integer w (FinIn t mask) h = tt
other_integer w (FinEq a b) h = tt
other_integer w (FinNe a b) h = tt
other_integer w (ProcEq a b) h = tt
other_integer w (ProcNe a b) h = tt
other_integer w (Diff a b bound) h = absurd (cc)

all_others : (kind test : Lit → Bool) → ((lit : Lit) → kind lit ≡ false → test lit ≡ true) → (lits : List Lit) → list_any kind lits ≡ false → list_all test lits ≡ true
all_others kind test each [] h = refl
all_others kind test each (x ∷ xs) h =
    let parts = or_parts (kind x) (list_any kind xs) h in
    and_both (test x) (list_all test xs) (each x parts.0) (all_others kind test each xs parts.1)

integers_others : (w : Term → ℤ) (lits : List Lit) → list_any is_integer_literal lits ≡ false → All (diff.Holds w) lits
integers_others w [] h = λ k d below. absurd (omega arith)
integers_others w (x ∷ xs) h =
    let parts = or_parts (is_integer_literal x) (list_any is_integer_literal xs) h in
    All-cons (diff.Holds w) x xs (other_integer w x parts.0) (integers_others w xs parts.1)

-- ---- both lists
pub all_both : (test : Lit → Bool) (lits more : List Lit) → list_all test lits ≡ true → list_all test more ≡ true → list_all test (lits ++ more) ≡ true
all_both test lits more h k = list_all-append test lits more ∙ and_both (list_all test lits) (list_all test more) h k

pub all_first : (test : Lit → Bool) (lits more : List Lit) → list_all test (lits ++ more) ≡ true → list_all test lits ≡ true
all_first test lits more h = and_left (list_all test lits) (list_all test more) (sym (list_all-append test lits more) ∙ h)

pub all_second : (test : Lit → Bool) (lits more : List Lit) → list_all test (lits ++ more) ≡ true → list_all test more ≡ true
all_second test lits more h = and_right (list_all test lits) (list_all test more) (sym (list_all-append test lits more) ∙ h)

pub finite_more : (sig : Signature) (lits more : List Lit) → list_any is_finite_literal more ≡ false → fin.HasSolution sig lits → fin.HasSolution sig (lits ++ more)
finite_more sig lits more none (u, s) = (
  u,
  record {
    inside = all_both (fin.is_inside sig u) lits more s.inside (all_others is_finite_literal (fin.is_inside sig u) (other_inside sig u) more none);
    holds = all_both (fin.is_true u) lits more s.holds (all_others is_finite_literal (fin.is_true u) (other_finite u) more none);
  },
)

pub processes_more : (width : ℕ) (lits more : List Lit) → list_any is_process_literal more ≡ false → proc.HasSolution width lits → proc.HasSolution width (lits ++ more)
processes_more width lits more none (v, s) = (
  v,
  record {
    apart = s.apart;
    holds = all_both (proc.is_true v) lits more s.holds (all_others is_process_literal (proc.is_true v) (other_process v) more none);
  },
)

pub integers_more : (lits more : List Lit) → list_any is_integer_literal more ≡ false → diff.HasSolution lits → diff.HasSolution (lits ++ more)
integers_more lits more none (w, s) = (w, All-append (diff.Holds w) lits more s (integers_others w more none))

-- ---- one more literal of one kind
module _ (p : Protocol) (width : ℕ) (lits : List Lit) (fit : IsTrue (list_all (literal_fits (signature_of p) width) lits)) (lit : Lit) (fits : IsTrue (literal_fits (signature_of p) width lit)) where
  with_negation : IsTrue (list_all (literal_fits (signature_of p) width) (lits ++ negated (signature_of p) lit ∷ []))
  with_negation = all_both (literal_fits (signature_of p) width) lits (negated (signature_of p) lit ∷ []) fit
      (and_both (literal_fits (signature_of p) width (negated (signature_of p) lit)) true (negated_fits (signature_of p) width lit fits) refl)

  -- a part that refutes the negation decides that the literal is entailed
  pub part_refutes : (PartsHaveSolutions p width (lits ++ negated (signature_of p) lit ∷ []) → ⊥) → Entails p width lits lit
  part_refutes none = refuted_entails p width lits lit fits (λ has. none (consistent_parts p width (lits ++ negated (signature_of p) lit ∷ []) with_negation has))

  -- and where no part does, it is not
  pub parts_allow : PartsHaveSolutions p width (lits ++ negated (signature_of p) lit ∷ []) → Entails p width lits lit → ⊥
  parts_allow parts entails = entailed_refutes p width lits lit fits entails (parts_consistent p width (lits ++ negated (signature_of p) lit ∷ []) with_negation parts)
