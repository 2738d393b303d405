-- Lists of two conjunctions, and parts that have no literals.
use Rattle.std.proofs.Common.{◌≡◌, ◌↔◌, ℕ, ◌<◌, ◌≤◌, Bool, true, false, List, [], ◌∷◌, ◌++◌, length, get_or, ℤ, pos, refl, sym, ap, ◌∙◌, subst, arith, Option, Some, None, Result, Ok, Err}
use Rattle.std.specs.Prelude.{All, IsTrue, IfOk, IfSome}
use Rattle.std.specs.List.{list_all, list_any}
use Rattle.cub_proto.specs.declared.literal.PSide.{PSide}
use Rattle.cub_proto.specs.declared.literal.Lit.{Lit}
use Rattle.cub_proto.specs.declared.protocol.Protocol.{Protocol}
use Rattle.cub_proto.specs.Signature.{Signature}
use Rattle.cub_proto.specs.StateOf.{signature_of}
use Rattle.cub_proto.specs.Fits.{literal_fits, is_bounded}
use Rattle.cub_cube.specs.Meaning.{IsConsistent}
use Rattle.fin_dom.specs.Solution as fin
use Rattle.fin_dom.specs.Table.{terms_fit}
use Rattle.proc_eq.specs.Solution as proc
use Rattle.diff_close.specs.Literals as diff
use Rattle.theory_laws.specs.Fitting.{AreFitting, greatest_size, term_numbers}
use Rattle.theory_laws.specs.Solved.{PartsHaveSolutions}
use Rattle.theory_laws.specs.Kinds.{is_finite_literal, is_process_literal, is_integer_literal}
use Rattle.theory_laws.proofs.Parts.{all_fin, all_proc, all_diff, all_small}
use Rattle.theory_laws.proofs.Meeting.{consistent_parts}
use Rattle.theory_laws.proofs.Combined.{parts_consistent}
use Rattle.theory_laws.proofs.Extending.{all_both, finite_more, processes_more, integers_more}

pub finite_none : (sig : Signature) (lits : List Lit) → list_any is_finite_literal lits ≡ false → fin.HasSolution sig lits
finite_none sig lits none = finite_more sig [] lits none ((λ t. 0), record { inside = refl; holds = refl })

pub processes_none : (width : ℕ) (lits : List Lit) → list_any is_process_literal lits ≡ false → proc.HasSolution width lits
processes_none width lits none = processes_more width [] lits none (own, record { apart = λ q r q_in r_in same. same; holds = refl })
  where
    own : PSide → ℕ
    own (PSide.Global g) = 0
    own (PSide.Place q) = q

pub integers_none : (lits : List Lit) → list_any is_integer_literal lits ≡ false → diff.HasSolution lits
integers_none lits none = integers_more [] lits none ((λ t. pos 0), λ k d below. absurd (omega arith))

-- two conjunctions that fit, as one
pub both_fitting : (p : Protocol) (width : ℕ) (lits more : List Lit) → AreFitting p width lits → AreFitting p width more → AreFitting p width (lits ++ more)
both_fitting p width lits more first second = record {
  narrow = first.narrow;
  fit = all_both (literal_fits (signature_of p) width) lits more first.fit second.fit;
  bounded = all_both (is_bounded greatest_size) lits more first.bounded second.bounded;
}

pub none_fitting : (p : Protocol) (width : ℕ) → width ≤ 11 → AreFitting p width []
none_fitting p width narrow = record { narrow = narrow; fit = refl; bounded = refl }

-- the conditions of the closures, at tables of the sizes
pub fin_here : (p : Protocol) (width : ℕ) (lits : List Lit) (masks : List ℕ) → length masks ≡ term_numbers p → AreFitting p width lits → All (λ lit. IsTrue (terms_fit (signature_of p) (length masks) lit)) lits
fin_here p width lits masks size fitting = subst (λ n. All (λ lit. IsTrue (terms_fit (signature_of p) n lit)) lits) (sym size) (all_fin p width lits fitting)

pub diff_here : (p : Protocol) (width : ℕ) (lits : List Lit) (room : ℕ) → room ≡ 104 → AreFitting p width lits → diff.MentionAtMost room lits
diff_here p width lits room is fitting = subst (λ n. diff.MentionAtMost n lits) (sym is) (all_diff p width lits fitting)

-- consistency, part by part
module _ (p : Protocol) (width : ℕ) (lits : List Lit) (fitting : AreFitting p width lits) where
  pub finite_refuted : (fin.HasSolution (signature_of p) lits → ⊥) → IsConsistent p width lits → ⊥
  finite_refuted none has = none (consistent_parts p width lits fitting.fit has).finite

  pub processes_refuted : (proc.HasSolution width lits → ⊥) → IsConsistent p width lits → ⊥
  processes_refuted none has = none (consistent_parts p width lits fitting.fit has).processes

  pub integers_exact : (b : Bool) → fin.HasSolution (signature_of p) lits → proc.HasSolution width lits → IsTrue b ↔ diff.HasSolution lits → IsTrue b ↔ IsConsistent p width lits
  integers_exact b f q d = (
    (λ h. parts_consistent p width lits fitting.fit (record { finite = f; processes = q; integers = d.0 h })),
    (λ has. d.1 (consistent_parts p width lits fitting.fit has).integers),
  )

-- a test that is false refutes what it decides
pub refuted : (b : Bool) (P : Type 0) → b ≡ false → IsTrue b ↔ P → P → ⊥
refuted b P wrong exact holds = let h : b ≡ true = exact.1 holds in let e : true ≡ false = sym h ∙ wrong in cc

module _ (p : Protocol) (width : ℕ) (lits : List Lit) (fitting : AreFitting p width lits) where
  pub integers_refuted : (diff.HasSolution lits → ⊥) → IsConsistent p width lits → ⊥
  integers_refuted none has = none (consistent_parts p width lits fitting.fit has).integers

  pub all_parts : fin.HasSolution (signature_of p) lits → proc.HasSolution width lits → diff.HasSolution lits → IsConsistent p width lits
  all_parts f q d = parts_consistent p width lits fitting.fit (record { finite = f; processes = q; integers = d })

-- what holds of a value that is found
pub on_found : {E X : Type 0} (r : Result (Option X) E) (P Q : X → Type 0) → ((x : X) → P x → Q x) → IfOk r (λ found. IfSome found P) → IfOk r (λ found. IfSome found Q)
on_found (Ok (Some x)) P Q f h = f x h
on_found (Ok None) P Q f h = h
on_found (Err e) P Q f h = h
