-- Summaries of cubes: one cube, cubes of two summaries, and what is passed over by them.
use Rattle.std.proofs.Common.{◌≡◌, ℕ, ◌<◌, Bool, true, ◌&&◌, List, [], ◌∷◌, ◌++◌, length, Option, Some, None, inl, inr, refl, sym, ap, ◌∙◌, subst, arith}
use Rattle.std.specs.Prelude.{IsTrue, bit_and, bit_or, Contains}
use Rattle.std.specs.List.{list_any}
use Rattle.std.proofs.lemmas.Bool.{cases_eq, cond-true, eqb-true, eq-eqb}
use Rattle.std.proofs.lemmas.Option.{slice_get_within}
use Rattle.std.proofs.lemmas.List.Elements.{Contains-append_cases}
use Rattle.cub_proto.specs.declared.literal.Sort.{Sort}
use Rattle.cub_proto.specs.declared.literal.Term.{Term}
use Rattle.cub_proto.specs.declared.literal.PSide.{PSide}
use Rattle.cub_proto.specs.declared.literal.ISide.{ISide}
use Rattle.cub_proto.specs.declared.literal.ISide.TheVariants.{Zero, At}
use Rattle.cub_proto.specs.declared.literal.Lit.{Lit}
use Rattle.cub_proto.specs.declared.literal.Lit.TheVariants.{FinIn, FinEq, FinNe, ProcEq, ProcNe, Diff}
use Rattle.cub_proto.specs.declared.protocol.Decl.{Decl}
use Rattle.cub_proto.specs.declared.protocol.Protocol.{Protocol}
use Rattle.cub_proto.specs.Signature.{sort_of, declared_sort, constructors_at, is_sort, same_finite}
use Rattle.cub_proto.specs.StateOf.{signature_of}
use Rattle.cub_proto.specs.Truth.{has_bit}
use Rattle.cub_proto.specs.Fits.{literal_fits, place_fits, is_finite, process_side_fits, integer_side_fits}
use Rattle.cub_proto.proofs.StateValues.{declared_is}
use Rattle.cub_base.proofs.Bools.{and_left, and_right, or_intro_left, or_intro_right}
use Rattle.cub_base.proofs.Elements.{all_from}
use Rattle.cub_base.proofs.Members.{contains_Has, has_Contains}
use Rattle.cub_cube.specs.declared.cube.Cube.{Cube}
use Rattle.cub_cube.specs.Mentions.{process_side_terms, integer_side_terms, terms_of, Mentions}
use Rattle.cub_cube.specs.Cover.{DoesCover}
use Rattle.cub_cube.specs.Meaning.{IsConsistent}
use Rattle.fin_dom.proofs.Masks.{both_bits}
use Rattle.theory_laws.proofs.Building.{few_globals, few_arrays, same_finite_left, same_finite_right, finite_is}
use Rattle.log_form.specs.Pieces.{IsAskable}
use Rattle.subsume.specs.declared.summary.Summary.{Summary}
use Rattle.subsume.specs.Marks.{asked_terms, is_global, is_cell, AreAmong}
use Rattle.subsume.specs.Summary.{IsSummary, IsOf, MayCover, IsCandidate, MentionsLike, joined}
use Rattle.subsume.proofs.Bits.{either_bits}
use Rattle.subsume.proofs.Changed.{one_case, two_cases, sides_alike, asked_sides}
use Rattle.subsume.proofs.Found.{any_has, has_any}
use Rattle.subsume.proofs.Marked.{marks_offered}

-- ---- one cube
pub own_summary : (p : Protocol) (c : Cube) (s : Summary) → IsSummary p c s → IsOf p c s
own_summary p c s own = record {
  needs = record {
    globals = λ b below h. sym (own.needs.globals b below) ∙ h;
    arrays = λ b below h. sym (own.needs.arrays b below) ∙ h;
    members = λ b below h. sym (own.needs.members b below) ∙ h;
    constructors = λ b below h. sym (own.needs.constructors b below) ∙ h;
    pairs = λ b below h. sym (own.needs.pairs b below) ∙ h;
    joint = λ b below h. sym (own.needs.joint b below) ∙ h;
    values = λ b below h. sym (own.needs.values b below) ∙ h;
  };
  offers = record {
    globals = λ b below h. own.offers.globals b below ∙ h;
    arrays = λ b below h. own.offers.arrays b below ∙ h;
    members = λ b below h. own.offers.members b below ∙ h;
    constructors = λ b below h. own.offers.constructors b below ∙ h;
    pairs = λ b below h. own.offers.pairs b below ∙ h;
    joint = λ b below h. own.offers.joint b below ∙ h;
    values = λ b below h. own.offers.values b below ∙ h;
  };
}

-- ---- cubes of two summaries
common_first : (a b c : ℕ) → IsTrue (has_bit (bit_and a b) c) → IsTrue (has_bit a c)
common_first a b c h = and_left (has_bit a c) (has_bit b c) (sym (both_bits a b c) ∙ h)

common_second : (a b c : ℕ) → IsTrue (has_bit (bit_and a b) c) → IsTrue (has_bit b c)
common_second a b c h = and_right (has_bit a c) (has_bit b c) (sym (both_bits a b c) ∙ h)

either_first : (a b c : ℕ) → IsTrue (has_bit a c) → IsTrue (has_bit (bit_or a b) c)
either_first a b c h = either_bits a b c ∙ or_intro_left (has_bit a c) (has_bit b c) h

either_second : (a b c : ℕ) → IsTrue (has_bit b c) → IsTrue (has_bit (bit_or a b) c)
either_second a b c h = either_bits a b c ∙ or_intro_right (has_bit a c) (has_bit b c) h

pub of_first : (p : Protocol) (c : Cube) (s t : Summary) → IsOf p c s → IsOf p c (joined s t)
of_first p c s t it = record {
  needs = record {
    globals = λ b below h. it.needs.globals b below (common_first s.needs.globals t.needs.globals b h);
    arrays = λ b below h. it.needs.arrays b below (common_first s.needs.arrays t.needs.arrays b h);
    members = λ b below h. it.needs.members b below (common_first s.needs.members t.needs.members b h);
    constructors = λ b below h. it.needs.constructors b below (common_first s.needs.constructors t.needs.constructors b h);
    pairs = λ b below h. it.needs.pairs b below (common_first s.needs.pairs t.needs.pairs b h);
    joint = λ b below h. it.needs.joint b below (common_first s.needs.joint t.needs.joint b h);
    values = λ b below h. it.needs.values b below (common_first s.needs.values t.needs.values b h);
  };
  offers = record {
    globals = λ b below h. either_first s.offers.globals t.offers.globals b (it.offers.globals b below h);
    arrays = λ b below h. either_first s.offers.arrays t.offers.arrays b (it.offers.arrays b below h);
    members = λ b below h. either_first s.offers.members t.offers.members b (it.offers.members b below h);
    constructors = λ b below h. either_first s.offers.constructors t.offers.constructors b (it.offers.constructors b below h);
    pairs = λ b below h. either_first s.offers.pairs t.offers.pairs b (it.offers.pairs b below h);
    joint = λ b below h. either_first s.offers.joint t.offers.joint b (it.offers.joint b below h);
    values = λ b below h. either_first s.offers.values t.offers.values b (it.offers.values b below h);
  };
}

pub of_second : (p : Protocol) (c : Cube) (s t : Summary) → IsOf p c t → IsOf p c (joined s t)
of_second p c s t it = record {
  needs = record {
    globals = λ b below h. it.needs.globals b below (common_second s.needs.globals t.needs.globals b h);
    arrays = λ b below h. it.needs.arrays b below (common_second s.needs.arrays t.needs.arrays b h);
    members = λ b below h. it.needs.members b below (common_second s.needs.members t.needs.members b h);
    constructors = λ b below h. it.needs.constructors b below (common_second s.needs.constructors t.needs.constructors b h);
    pairs = λ b below h. it.needs.pairs b below (common_second s.needs.pairs t.needs.pairs b h);
    joint = λ b below h. it.needs.joint b below (common_second s.needs.joint t.needs.joint b h);
    values = λ b below h. it.needs.values b below (common_second s.needs.values t.needs.values b h);
  };
  offers = record {
    globals = λ b below h. either_second s.offers.globals t.offers.globals b (it.offers.globals b below h);
    arrays = λ b below h. either_second s.offers.arrays t.offers.arrays b (it.offers.arrays b below h);
    members = λ b below h. either_second s.offers.members t.offers.members b (it.offers.members b below h);
    constructors = λ b below h. either_second s.offers.constructors t.offers.constructors b (it.offers.constructors b below h);
    pairs = λ b below h. either_second s.offers.pairs t.offers.pairs b (it.offers.pairs b below h);
    joint = λ b below h. either_second s.offers.joint t.offers.joint b (it.offers.joint b below h);
    values = λ b below h. either_second s.offers.values t.offers.values b (it.offers.values b below h);
  };
}

-- ---- what is passed over covers nothing
pub passed_over : (p : Protocol) (d c : Cube) (big small : Summary) → IsOf p d big → IsOf p c small → IsAskable p d → IsAskable p c → IsConsistent p c.width c.lits → (MayCover big small → ⊥) → DoesCover p d c → ⊥
passed_over p d c big small of_d of_c asked given consistent not (r, covers) =
    not (marks_offered p d c r asked given consistent covers big.needs small.offers of_d.needs of_c.offers)

-- ---- what is not passed over is a candidate
-- the number of the global or array is below 64
abbrev IsBelow : Term → Type 0
IsBelow (Term.Global g) = g < 64
IsBelow (Term.Cell a q) = a < 64

has_sort : (o : Option Sort) (sort : Sort) → is_sort o sort ≡ true → (s : Sort) × (o ≡ Some s)
has_sort None sort h = absurd (cc)
has_sort (Some s) sort h = (s, refl)

module _ (p : Protocol) where
  declared_below : (decls : List Decl) (n : ℕ) (sort : Sort) → declared_sort decls n ≡ Some sort → n < length decls
  declared_below decls n sort is = let d = declared_is decls n sort is in slice_get_within decls n d.0 d.1

  sorted_below : (t : Term) (sort : Sort) → sort_of (signature_of p) t ≡ Some sort → IsBelow t
  sorted_below (Term.Global g) sort is = omega (arith, declared_below p.globals g sort is, few_globals p)
  sorted_below (Term.Cell a q) sort is = omega (arith, declared_below p.arrays a sort is, few_arrays p)

  finite_below : (t : Term) → IsTrue (is_finite (sort_of (signature_of p) t)) → IsBelow t
  finite_below t h = let k = finite_is (sort_of (signature_of p) t) h in sorted_below t (Sort.Fin k.0) k.1

  module _ (width : ℕ) where
    equal_below : (a b t : Term) → IsTrue (literal_fits (signature_of p) width (FinEq a b)) → Contains (a ∷ b ∷ []) t → IsBelow t
    equal_below a b t fits there =
        let sorts = and_left (same_finite (sort_of (signature_of p) a) (sort_of (signature_of p) b)) (place_fits width a)
        (and_left (same_finite (sort_of (signature_of p) a) (sort_of (signature_of p) b) && place_fits width a) (place_fits width b) fits) in
        elim (two_cases a b t there) [
          | inl first ↦ subst IsBelow first (finite_below a (same_finite_left (sort_of (signature_of p) a) (sort_of (signature_of p) b) sorts))
          | inr second ↦ subst IsBelow second (finite_below b (same_finite_right (sort_of (signature_of p) a) (sort_of (signature_of p) b) sorts))
        ]

    side_below : (a : PSide) (t : Term) → IsTrue (process_side_fits (signature_of p) width a) → Contains (process_side_terms a) t → IsBelow t
    side_below (PSide.Global g) t fits there =
        let s = has_sort (declared_sort p.globals g) Sort.Proc fits in
        subst IsBelow (one_case (Term.Global g) t there) (sorted_below (Term.Global g) s.0 s.1)
    side_below (PSide.Place q) t fits there = absurd (omega (arith, there.1))

    integer_below : (a : ISide) (t : Term) → IsTrue (integer_side_fits (signature_of p) width a) → Contains (integer_side_terms a) t → IsBelow t
    integer_below Zero t fits there = absurd (omega (arith, there.1))
    integer_below (At s) t fits there =
        let is = has_sort (sort_of (signature_of p) s) Sort.Int (and_left (is_sort (sort_of (signature_of p) s) Sort.Int) (place_fits width s) fits) in
        subst IsBelow (one_case s t there) (sorted_below s is.0 is.1)

    sides_below : (a b : PSide) (t : Term) → IsTrue (process_side_fits (signature_of p) width a && process_side_fits (signature_of p) width b) → Contains (process_side_terms a ++ process_side_terms b) t → IsBelow t
    sides_below a b t fits there = elim (Contains-append_cases (process_side_terms a) (process_side_terms b) t there) [
      | inl first ↦ side_below a t (and_left (process_side_fits (signature_of p) width a) (process_side_fits (signature_of p) width b) fits) first
      | inr second ↦ side_below b t (and_right (process_side_fits (signature_of p) width a) (process_side_fits (signature_of p) width b) fits) second
    ]

    term_below : (l : Lit) (t : Term) → IsTrue (literal_fits (signature_of p) width l) → Contains (terms_of l) t → IsBelow t
    term_below (FinIn s mask) t fits there =
        subst IsBelow (one_case s t there) (finite_below s (and_left (is_finite (sort_of (signature_of p) s)) (place_fits width s) (and_left (is_finite (sort_of (signature_of p) s) && place_fits width s) _ fits)))
    term_below (FinEq a b) t fits there = equal_below a b t fits there
    term_below (FinNe a b) t fits there = equal_below a b t fits there
    term_below (ProcEq a b) t fits there = sides_below a b t fits there
    term_below (ProcNe a b) t fits there = sides_below a b t fits there
    term_below (Diff a b bound) t fits there = elim (Contains-append_cases (integer_side_terms a) (integer_side_terms b) t there) [
      | inl first ↦ integer_below a t (and_left (integer_side_fits (signature_of p) width a) (integer_side_fits (signature_of p) width b) fits) first
      | inr second ↦ integer_below b t (and_right (integer_side_fits (signature_of p) width a) (integer_side_fits (signature_of p) width b) fits) second
    ]

    -- a mentioned term with other than one constructor is asked for
    asked_there : (l : Lit) (t : Term) → IsTrue (literal_fits (signature_of p) width l) → (constructors_at (signature_of p) t ≡ 1 → ⊥) → Contains (terms_of l) t → Contains (asked_terms (signature_of p) l) t
    asked_there (FinIn s mask) t fits several there = there
    asked_there (FinEq a b) t fits several there =
        let more : constructors_at (signature_of p) a ≡ 1 → ⊥ = elim (two_cases a b t there) [
          | inl first ↦ λ one. several (sym (ap (constructors_at (signature_of p)) first) ∙ one)
          | inr second ↦ λ one. several (sym (ap (constructors_at (signature_of p)) second) ∙ sym (sides_alike (signature_of p) width a b fits) ∙ one)
        ] in
        subst (λ ts. Contains ts t) (sym (asked_sides (signature_of p) a b more)) there
    asked_there (FinNe a b) t fits several there = there
    asked_there (ProcEq a b) t fits several there = there
    asked_there (ProcNe a b) t fits several there = there
    asked_there (Diff a b bound) t fits several there = there

  -- what is asked for is mentioned
  asked_mentioned : (l : Lit) (t : Term) → Contains (asked_terms (signature_of p) l) t → Contains (terms_of l) t
  asked_mentioned (FinIn s mask) t there = there
  asked_mentioned (FinEq a b) t there = elim (cases_eq (constructors_at (signature_of p) a) 1) [
    | inl one ↦
        let none : List Term = [] in
        let empty : asked_terms (signature_of p) (FinEq a b) ≡ none = cond-true _ _ _ (eq-eqb (constructors_at (signature_of p) a) 1 one) in
        let here : Contains none t = subst (λ ts. Contains ts t) empty there in
        absurd (omega (arith, here.1))
    | inr several ↦ subst (λ ts. Contains ts t) (asked_sides (signature_of p) a b several) there
  ]
  asked_mentioned (FinNe a b) t there = there
  asked_mentioned (ProcEq a b) t there = there
  asked_mentioned (ProcNe a b) t there = there
  asked_mentioned (Diff a b bound) t there = there

  some_mentioned : (test : Term → Bool) (lits : List Lit) → list_any (λ l. list_any test (asked_terms (signature_of p) l)) lits ≡ true → (t : Term) × Mentions lits t × (test t ≡ true)
  some_mentioned test lits h =
      let lit = any_has (λ l. list_any test (asked_terms (signature_of p) l)) lits h in
      let term = any_has test (asked_terms (signature_of p) lit.0) lit.2 in
      (term.0, (lit.0, has_Contains lits lit.0 lit.1, asked_mentioned lit.0 term.0 (has_Contains (asked_terms (signature_of p) lit.0) term.0 term.1)), term.2)

  global_is : (lits : List Lit) (g : ℕ) (t : Term) → is_global g t ≡ true → Mentions lits t → Mentions lits (Term.Global g)
  global_is lits g (Term.Global h) is mentioned = subst (λ k. Mentions lits (Term.Global k)) (eqb-true h g is) mentioned
  global_is lits g (Term.Cell a q) is mentioned = absurd (cc)

  cell_is : (lits : List Lit) (a : ℕ) (t : Term) → is_cell a t ≡ true → Mentions lits t → (q : ℕ) × Mentions lits (Term.Cell a q)
  cell_is lits a (Term.Global h) is mentioned = absurd (cc)
  cell_is lits a (Term.Cell b q) is mentioned = (q, subst (λ k. Mentions lits (Term.Cell k q)) (eqb-true b a is) mentioned)

  module _ (d c : Cube) (big small : Summary) (asked : IsAskable p d) (own_d : IsSummary p d big) (own_c : IsSummary p c small) (among : AreAmong big.needs small.offers) where
    d_fits : (l : Lit) → Contains d.lits l → IsTrue (literal_fits (signature_of p) d.width l)
    d_fits l (k, below, is) = subst (λ x. IsTrue (literal_fits (signature_of p) d.width x)) is (all_from (literal_fits (signature_of p) d.width) d.lits asked.fits k l below)

    asked_for : (test : Term → Bool) (l : Lit) (t : Term) → Contains d.lits l → Contains (asked_terms (signature_of p) l) t → test t ≡ true → list_any (λ x. list_any test (asked_terms (signature_of p) x)) d.lits ≡ true
    asked_for test l t inside there is =
        has_any (λ x. list_any test (asked_terms (signature_of p) x)) d.lits l (contains_Has d.lits l inside) (has_any test (asked_terms (signature_of p) l) t (contains_Has (asked_terms (signature_of p) l) t there) is)

    mentioned_like : (t : Term) (l : Lit) → Contains d.lits l → Contains (asked_terms (signature_of p) l) t → IsBelow t → MentionsLike c.lits t
    mentioned_like (Term.Global g) l inside there below =
        let need = own_d.needs.globals g below ∙ asked_for (is_global g) l (Term.Global g) inside there (eq-eqb g g refl) in
        let found = some_mentioned (is_global g) c.lits (sym (own_c.offers.globals g below) ∙ among.globals g below need) in
        global_is c.lits g found.0 found.2 found.1
    mentioned_like (Term.Cell a q) l inside there below =
        let need = own_d.needs.arrays a below ∙ asked_for (is_cell a) l (Term.Cell a q) inside there (eq-eqb a a refl) in
        let found = some_mentioned (is_cell a) c.lits (sym (own_c.offers.arrays a below) ∙ among.arrays a below need) in
        cell_is c.lits a found.0 found.2 found.1

    pub is_candidate : IsCandidate p d c
    is_candidate = inr (λ t mentioned several.
        let fits = d_fits mentioned.0 mentioned.1 in
        mentioned_like t mentioned.0 mentioned.1 (asked_there d.width mentioned.0 t fits several mentioned.2) (term_below d.width mentioned.0 t fits mentioned.2))
