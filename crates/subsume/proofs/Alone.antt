-- Places that stand somewhere by themselves: a literal on one place alone is renamed as that place is.
use Rattle.std.proofs.Common.{◌≡◌, ℕ, ◌+◌, ◌<◌, ◌≤◌, List, length, get_or, take, true, refl, sym, ap, ◌∙◌, subst, arith, inl, inr}
use Rattle.std.specs.Prelude.{IsTrue, ◌&&◌, ◌==◌, slice_index, Contains}
use Rattle.std.specs.List.{list_all}
use Rattle.std.proofs.lemmas.Bool.{cases_lt}
use Rattle.std.proofs.lemmas.List.{take_more}
use Rattle.std.proofs.lemmas.List.Elements.{Contains-push_cases}
use Rattle.cub_proto.specs.declared.literal.Term.{Term}
use Rattle.cub_proto.specs.declared.literal.PSide.{PSide}
use Rattle.cub_proto.specs.declared.literal.ISide.{ISide}
use Rattle.cub_proto.specs.declared.literal.ISide.TheVariants.{Zero, At}
use Rattle.cub_proto.specs.declared.literal.Lit.{Lit}
use Rattle.cub_proto.specs.declared.literal.Lit.TheVariants.{FinIn, FinEq, FinNe, ProcEq, ProcNe, Diff}
use Rattle.cub_proto.specs.declared.protocol.Protocol.{Protocol}
use Rattle.cub_proto.specs.StateOf.{signature_of}
use Rattle.cub_proto.specs.Fits.{literal_fits}
use Rattle.cub_cube.specs.declared.cube.Cube.{Cube}
use Rattle.cub_cube.specs.Rename.{renamed, renamed_term, renamed_process_side, renamed_integer_side}
use Rattle.cub_cube.proofs.RenamedFits.{fits_within}
use Rattle.cub_base.proofs.Bools.{and_left, and_right, same_is}
use Rattle.cub_base.proofs.Elements.{all_from}
use Rattle.theory_laws.specs.Entailed.{Entails}
use Rattle.subsume.specs.Injections.{reach, IsWhole}
use Rattle.subsume.specs.Standing.{term_only, process_side_only, integer_side_only, mentions_only, OwnFollow}
use Rattle.subsume.proofs.Fronts.{within_reach, fits_reach}

-- ---- two lists with one item at the place
module _ (k : ℕ) (r q : List ℕ) (same : slice_index r k ≡ slice_index q k) where
  item : (p : ℕ) → IsTrue (p == k) → slice_index r p ≡ slice_index q p
  item p h = let at : p ≡ k = same_is p k h in ap (λ x. slice_index r x) at ∙ same ∙ sym (ap (λ x. slice_index q x) at)

  own_term : (t : Term) → IsTrue (term_only k t) → renamed_term r t ≡ renamed_term q t
  own_term (Term.Global g) h = refl
  own_term (Term.Cell a p) h = ap (λ x. Term.Cell a x) (item p h)

  own_process : (a : PSide) → IsTrue (process_side_only k a) → renamed_process_side r a ≡ renamed_process_side q a
  own_process (PSide.Global g) h = refl
  own_process (PSide.Place p) h = ap (λ x. PSide.Place x) (item p h)

  own_integer : (a : ISide) → IsTrue (integer_side_only k a) → renamed_integer_side r a ≡ renamed_integer_side q a
  own_integer Zero h = refl
  own_integer (At t) h = ap (λ x. At x) (own_term t h)

  pub own_renamed : (l : Lit) → IsTrue (mentions_only k l) → renamed r l ≡ renamed q l
  own_renamed (FinIn t mask) h = ap (λ x. FinIn x mask) (own_term t h)
  own_renamed (FinEq a b) h =
      ap (λ x. FinEq x (renamed_term r b)) (own_term a (and_left (term_only k a) (term_only k b) h))
      ∙ ap (λ x. FinEq (renamed_term q a) x) (own_term b (and_right (term_only k a) (term_only k b) h))
  own_renamed (FinNe a b) h =
      ap (λ x. FinNe x (renamed_term r b)) (own_term a (and_left (term_only k a) (term_only k b) h))
      ∙ ap (λ x. FinNe (renamed_term q a) x) (own_term b (and_right (term_only k a) (term_only k b) h))
  own_renamed (ProcEq a b) h =
      ap (λ x. ProcEq x (renamed_process_side r b)) (own_process a (and_left (process_side_only k a) (process_side_only k b) h))
      ∙ ap (λ x. ProcEq (renamed_process_side q a) x) (own_process b (and_right (process_side_only k a) (process_side_only k b) h))
  own_renamed (ProcNe a b) h =
      ap (λ x. ProcNe x (renamed_process_side r b)) (own_process a (and_left (process_side_only k a) (process_side_only k b) h))
      ∙ ap (λ x. ProcNe (renamed_process_side q a) x) (own_process b (and_right (process_side_only k a) (process_side_only k b) h))
  own_renamed (Diff a b bound) h =
      ap (λ x. Diff x (renamed_integer_side r b) bound) (own_integer a (and_left (integer_side_only k a) (integer_side_only k b) h))
      ∙ ap (λ x. Diff (renamed_integer_side q a) x bound) (own_integer b (and_right (integer_side_only k a) (integer_side_only k b) h))

-- ---- the big cube's literals fit twelve places
pub lits_fit_wide : (p : Protocol) (big : Cube) (lits : List Lit) (n : ℕ) → lits ≡ big.lits → IsTrue (list_all (literal_fits (signature_of p) big.width) big.lits) → big.width ≤ n
    → (lit : Lit) → Contains lits lit → IsTrue (literal_fits (signature_of p) n lit)
lits_fit_wide p big lits n same fits narrow lit inside =
    let (i, below, is) = subst (λ xs. Contains xs lit) same inside in
    let here : IsTrue (literal_fits (signature_of p) big.width lit) =
    subst (λ l. IsTrue (literal_fits (signature_of p) big.width l)) is (all_from (literal_fits (signature_of p) big.width) big.lits fits i lit below) in
    let reaches = within_reach big.width lit (fits_within (signature_of p) big.width lit here) in
    fits_reach (signature_of p) big.width lit n here (omega arith)

-- ---- where a whole injection has the place, its own literals follow there
pub whole_own : (p : Protocol) (big small : Cube) (lits : List Lit) (q r : List ℕ) (k : ℕ) → lits ≡ big.lits → IsTrue (list_all (literal_fits (signature_of p) big.width) big.lits)
    → IsWhole p big small q → slice_index r k ≡ slice_index q k → OwnFollow p lits small r k
whole_own p big small lits q r k same fits whole here lit inside only =
    let (i, below, is) = subst (λ xs. Contains xs lit) same inside in
    let fit : IsTrue (literal_fits (signature_of p) big.width lit) =
    subst (λ l. IsTrue (literal_fits (signature_of p) big.width l)) is (all_from (literal_fits (signature_of p) big.width) big.lits fits i lit below) in
    let reaches = within_reach big.width lit (fits_within (signature_of p) big.width lit fit) in
    subst (λ l. Entails p small.width small.lits l) (sym (own_renamed k r q here lit only)) (whole.partial.follow lit (i, below, is) (omega (arith, whole.one_each, reaches)))

-- ---- the literals so far
pub own_more : (p : Protocol) (lits : List Lit) (small : Cube) (r : List ℕ) (k i : ℕ) (d : Lit) → i < length lits → OwnFollow p (take i lits) small r k
    → (mentions_only k (get_or lits i d) ≡ true → Entails p small.width small.lits (renamed r (get_or lits i d))) → OwnFollow p (take (i + 1) lits) small r k
own_more p lits small r k i d below before here lit inside only =
    elim (Contains-push_cases (take i lits) (get_or lits i d) lit (subst (λ xs. Contains xs lit) (take_more lits i d below) inside)) [
      | inl early ↦ before lit early only
      | inr same ↦ subst (λ l. Entails p small.width small.lits (renamed r l)) same (here (ap (λ l. mentions_only k l) same ∙ only))
    ]

-- ---- the places so far
pub tried_place : (p : Protocol) (big small : Cube) (k c : ℕ) → ((q : List ℕ) → IsWhole p big small q → c ≤ slice_index q k)
    → ((q : List ℕ) → IsWhole p big small q → slice_index q k ≡ c → ⊥) → (q : List ℕ) → IsWhole p big small q → c + 1 ≤ slice_index q k
tried_place p big small k c tried none q whole = elim (cases_lt c (slice_index q k)) [
  | inl less ↦ omega arith
  | inr more ↦ let at = tried q whole in absurd (none q whole (omega arith))
]

pub no_place : (p : Protocol) (big small : Cube) (k c : ℕ) → k < big.width → small.width ≤ c → ((q : List ℕ) → IsWhole p big small q → c ≤ slice_index q k)
    → (q : List ℕ) → IsWhole p big small q → ⊥
no_place p big small k c below over tried q whole =
    let at : slice_index q k < small.width = whole.partial.within k 0 (omega (arith, whole.one_each)) in
    omega (arith, at, tried q whole)
