-- Labels of all literals: they are the closure, or nothing satisfies the literals.
use Rattle.std.proofs.Math.Seq.{take-length}
use Rattle.std.proofs.Common.{◌≡◌, ℕ, ◌<◌, ◌≤◌, true, false, All, List, [], ◌∷◌, ◌++◌, length, take, drop, get_or, IsTrue, refl, sym, ◌∙◌, arith}
use Rattle.std.specs.List.{list_all}
use Rattle.std.proofs.lemmas.Bool.{and_parts, and_from, not_from_false, not-true, ne_eqb, both_ways, eqb-false}
use Rattle.std.proofs.lemmas.List.{take-append-le}
use Rattle.std.proofs.lemmas.List.Elements.{All-head, All-tail}
use Rattle.cub_proto.specs.declared.literal.PSide.{PSide}
use Rattle.cub_proto.specs.declared.literal.Lit.{Lit}
use Rattle.cub_proto.specs.declared.literal.Lit.TheVariants.{FinIn, FinEq, FinNe, ProcEq, ProcNe, Diff}
use Rattle.proc_eq.specs.Solution.{side_fits, sides_fit, Solves, HasSolution, is_true}
use Rattle.proc_eq.specs.Classes.{entry_of, AreClosureOf}
use Rattle.proc_eq.specs.Merged.{is_equality_true, is_disequality_true, AreMerged}
use Rattle.cub_base.proofs.Conjunctions.{list_all_both, list_all_front, list_all_back}
use Rattle.proc_eq.proofs.Merging.{fits_wider, merged_none}

both_true : (v : PSide → ℕ) (lit : Lit) → is_equality_true v lit ≡ true → is_disequality_true v lit ≡ true → is_true v lit ≡ true
both_true v (FinIn t mask) e f = refl
both_true v (FinEq a b) e f = refl
both_true v (FinNe a b) e f = refl
both_true v (ProcEq a b) e f = e
both_true v (ProcNe a b) e f = f
both_true v (Diff a b bound) e f = refl

-- where all disequalities hold too
pub closed : (width : ℕ) (lits : List Lit) (labels : List ℕ) → width ≤ 11 → AreMerged width lits labels
    → list_all (is_disequality_true (entry_of labels)) lits ≡ true → AreClosureOf width lits labels
closed width lits labels narrow m differ = record {
  tidy = m.tidy;
  solves = record {
    apart = λ p q ip iq e. sym (m.tidy.places p (omega arith)) ∙ e ∙ m.tidy.places q (omega arith);
    holds = list_all_both (is_equality_true (entry_of labels)) (is_disequality_true (entry_of labels)) (is_true (entry_of labels)) (both_true (entry_of labels)) lits m.equal differ;
  };
  forced = m.forced;
}

-- where some processes satisfy the literals, the sides of a true disequality have different labels
differs : (width : ℕ) (lits : List Lit) (labels : List ℕ) (v : PSide → ℕ) → AreMerged width lits labels → Solves width lits v
    → (lit : Lit) → IsTrue (sides_fit 11 lit) → is_true v lit ≡ true → is_disequality_true (entry_of labels) lit ≡ true
differs width lits labels v m s (FinIn t mask) fit e = refl
differs width lits labels v m s (FinEq a b) fit e = refl
differs width lits labels v m s (FinNe a b) fit e = refl
differs width lits labels v m s (ProcEq a b) fit e = refl
differs width lits labels v m s (ProcNe a b) fit e =
    let fits = and_parts (side_fits 11 a) (side_fits 11 b) fit in
    not_from_false _ (ne_eqb _ _ (λ same. eqb-false _ _ (not-true _ e) (m.forced v s a b fits.0 fits.1 same)))
differs width lits labels v m s (Diff a b bound) fit e = refl

all_differ : (width : ℕ) (lits : List Lit) (labels : List ℕ) (v : PSide → ℕ) → AreMerged width lits labels → Solves width lits v
    → (part : List Lit) → All (λ lit. IsTrue (sides_fit 11 lit)) part → list_all (is_true v) part ≡ true → list_all (is_disequality_true (entry_of labels)) part ≡ true
all_differ width lits labels v m s [] fit e = refl
all_differ width lits labels v m s (x ∷ xs) fit e =
    let parts = and_parts (is_true v x) (list_all (is_true v) xs) e in
    and_from _ _ (differs width lits labels v m s x (All-head (λ lit. IsTrue (sides_fit 11 lit)) x xs fit) parts.0)
    (all_differ width lits labels v m s xs (All-tail (λ lit. IsTrue (sides_fit 11 lit)) x xs fit) parts.1)

-- so a disequality between sides of one label, in some part of the literals, means that there are none
pub broken : (width : ℕ) (lits : List Lit) (labels : List ℕ) → AreMerged width lits labels → (part : List Lit) → All (λ lit. IsTrue (sides_fit 11 lit)) part
    → list_all (is_disequality_true (entry_of labels)) part ≡ false → (v : PSide → ℕ) → Solves width lits v → list_all (is_true v) part ≡ true → ⊥
broken width lits labels m part fit wrong v s e = both_ways _ wrong (all_differ width lits labels v m s part fit e)

literal_wider : (width : ℕ) → width ≤ 11 → (lit : Lit) → IsTrue (sides_fit width lit) → IsTrue (sides_fit 11 lit)
literal_wider width narrow (FinIn t mask) fit = refl
literal_wider width narrow (FinEq a b) fit = refl
literal_wider width narrow (FinNe a b) fit = refl
literal_wider width narrow (ProcEq a b) fit =
    let fits = and_parts (side_fits width a) (side_fits width b) fit in
    and_from _ _ (fits_wider width narrow a fits.0) (fits_wider width narrow b fits.1)
literal_wider width narrow (ProcNe a b) fit =
    let fits = and_parts (side_fits width a) (side_fits width b) fit in
    and_from _ _ (fits_wider width narrow a fits.0) (fits_wider width narrow b fits.1)
literal_wider width narrow (Diff a b bound) fit = refl

-- sides that fit a width fit the greatest
pub all_wider : (width : ℕ) → width ≤ 11 → (lits : List Lit) → All (λ lit. IsTrue (sides_fit width lit)) lits → All (λ lit. IsTrue (sides_fit 11 lit)) lits
all_wider width narrow lits fit = λ k d inside. literal_wider width narrow (get_or lits k d) (fit k d inside)

-- a vector's items after a write through its slice
pub written_back : (old new : List ℕ) (n : ℕ) → length new ≡ length old → n ≡ length old → take n (new ++ drop (length new) old) ≡ new
written_back old new n same len =
    let within : n ≤ length new = omega arith in
    let whole : n ≡ length new = omega arith in
    rw take-append-le (rw whole (take-length new))

-- the labels after both lists
pub merged_both : (width : ℕ) (lits more : List Lit) (fresh first second : List ℕ) → length fresh ≡ 75 → ((i : ℕ) → i < 75 → get_or fresh i 0 ≡ i)
    → ((done : List Lit) → AreMerged width done fresh → AreMerged width (done ++ lits) first)
    → ((done : List Lit) → AreMerged width done first → AreMerged width (done ++ more) second) → AreMerged width (lits ++ more) second
merged_both width lits more fresh first second size own take_lits take_more = take_more lits (take_lits [] (merged_none width fresh size own))

-- the first disequality that is not true is in the first list, or in the second
pub broken_first : (width : ℕ) (lits more : List Lit) (labels : List ℕ) → AreMerged width (lits ++ more) labels → All (λ lit. IsTrue (sides_fit 11 lit)) lits
    → list_all (is_disequality_true (entry_of labels)) lits ≡ false → HasSolution width (lits ++ more) → ⊥
broken_first width lits more labels m fit wrong solution =
    broken width (lits ++ more) labels m lits fit wrong solution.0 solution.1 (list_all_front (is_true solution.0) lits more solution.1.holds)

pub broken_second : (width : ℕ) (lits more : List Lit) (labels : List ℕ) → AreMerged width (lits ++ more) labels → All (λ lit. IsTrue (sides_fit 11 lit)) more
    → list_all (is_disequality_true (entry_of labels)) more ≡ false → HasSolution width (lits ++ more) → ⊥
broken_second width lits more labels m fit wrong solution =
    broken width (lits ++ more) labels m more fit wrong solution.0 solution.1 (list_all_back (is_true solution.0) lits more solution.1.holds)
