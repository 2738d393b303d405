-- From masks by number to solutions by term.
use Rattle.std.proofs.Common.{◌≡◌, ℕ, ◌+◌, ◌-◌, ◌*◌, ◌/◌, ◌%◌, ◌<◌, ◌≤◌, ◌^◌, Bool, true, false, not, cond, ◌&&◌, ◌||◌, eqb, ltb, All, List, [], ◌∷◌, ◌++◌, length, take, drop, get_or, inl, inr, IsTrue, refl, sym, ap, ◌∙◌, arith, w64}
use Rattle.std.specs.List.{list_all, list_any}
use Rattle.std.specs.Int.{trailing_zeros}
use Rattle.std.specs.Ordering.{nat_cmp, ordering_then}
use Rattle.std.specs.declared.cmp.Ordering.{Ordering}
use Rattle.std.specs.declared.cmp.Ordering.TheVariants.{Less, Equal, Greater}
use Rattle.std.proofs.lemmas.Bool.{and_parts, and_from, or_parts, eqb-true, eq-eqb, ne_eqb, ltb-true, lt-ltb, le-ltb, le-leb, or_left, or_right, not-true, not_from_false, cases_eq, cases_lt, cases_Bool, cond-true, cond-false, false_from_ne_true, and_left}
use Rattle.cub_proto.specs.declared.literal.Term.{Term}
use Rattle.cub_proto.specs.declared.literal.Term.TheVariants.{Global, Cell}
use Rattle.cub_proto.specs.declared.literal.Lit.{Lit}
use Rattle.cub_proto.specs.declared.literal.Lit.TheVariants.{FinIn, FinEq, FinNe, ProcEq, ProcNe, Diff}
use Rattle.cub_proto.specs.Signature.{Signature, constructors_at}
use Rattle.cub_proto.specs.Truth.{has_bit}
use Rattle.cub_proto.specs.Order.{term_cmp}
use Rattle.fin_dom.specs.Solution.{Solves, HasSolution, has_constructor, is_inside, is_true, IsBefore, same_term, mentions, IsLeastSolution}
use Rattle.fin_dom.specs.Table.{number_of, is_numbered, has_entry, terms_fit, low_at, con_of}
use Rattle.fin_dom.specs.Links.{AreMasks, link_fits, is_link_true, IsWithin, Fills, IsNumberBefore, is_settled, waits, is_decided, Narrows, IsRefuted, IsLeastFill}
use Rattle.fin_dom.specs.Gathered.{AreGathered, IsTermWithin, is_member_true}
use Rattle.fin_dom.proofs.Masks.{low_has, low_below, bit_below, first_bits}
use Rattle.fin_dom.proofs.Narrowing.{narrows_both, refuted_later}
use Rattle.std.proofs.lemmas.List.{take-append-le}
use Rattle.std.proofs.Math.Seq.{take-length}
use Rattle.cub_base.proofs.Conjunctions.{list_all_both, list_all_front, list_all_back}
use Rattle.fin_dom.proofs.Gathering.{entry_numbered, entry_below, solves_front}
use Rattle.fin_dom.proofs.Searching.{list_all_from_All}
use Rattle.std.proofs.lemmas.List.Elements.{All-append}

-- ---- terms and numbers

abbrev term_of : ℕ → Term
term_of n = cond (ltb n 64) (Global n) (Cell ((n - 64) / 16) ((n - 64) % 16))

term_of_number : (t : Term) → IsTrue (is_numbered t) → term_of (number_of t) ≡ t
term_of_number (Global g) e = cond-true _ _ _ e
term_of_number (Cell a p) e =
    let low : p < 16 = ltb-true p 16 e in
    let far : ltb (64 + 16 * a + p) 64 ≡ false = le-ltb _ _ (omega arith) in
    let first : (64 + 16 * a + p - 64) / 16 ≡ a = omega arith in
    let second : (64 + 16 * a + p - 64) % 16 ≡ p = omega arith in
    cond-false _ _ _ far ∙ ap (λ (x : ℕ). Cell x ((64 + 16 * a + p - 64) % 16)) first ∙ ap (λ (y : ℕ). Cell a y) second

number_of_term : (n : ℕ) → number_of (term_of n) ≡ n
number_of_term n = elim (cases_lt n 64) [
  | inl low ↦ let e : term_of n ≡ Global n = cond-true _ _ _ (lt-ltb _ _ low) in ap number_of e
  | inr high ↦
      let e : term_of n ≡ Cell ((n - 64) / 16) ((n - 64) % 16) = cond-false _ _ _ (le-ltb _ _ high) in
      ap number_of e ∙ omega arith
]

term_numbered : (n : ℕ) → IsTrue (is_numbered (term_of n))
term_numbered n = elim (cases_lt n 64) [
  | inl low ↦ let e : term_of n ≡ Global n = cond-true _ _ _ (lt-ltb _ _ low) in ap is_numbered e ∙ lt-ltb _ _ low
  | inr high ↦
      let e : term_of n ≡ Cell ((n - 64) / 16) ((n - 64) % 16) = cond-false _ _ _ (le-ltb _ _ high) in
      ap is_numbered e ∙ lt-ltb _ _ (omega arith)
]

less_first : (a b : ℕ) → a < b → nat_cmp a b ≡ Less
less_first a b less = cond-true _ _ _ (lt-ltb a b less)

-- the order of numbers is that of terms
numbers_in_order : (s t : Term) → IsTrue (is_numbered s) → IsTrue (is_numbered t) → number_of s < number_of t → term_cmp s t ≡ Less
numbers_in_order (Global g) (Global h) f k less = less_first g h less
numbers_in_order (Global g) (Cell b q) f k less = refl
numbers_in_order (Cell a p) (Global h) f k less = absurd (omega (arith, ltb-true h 64 k))
numbers_in_order (Cell a p) (Cell b q) f k less =
    let lp : p < 16 = ltb-true p 16 f in
    let lq : q < 16 = ltb-true q 16 k in
    elim (cases_lt a b) [
      | inl first ↦ ap (λ (o : Ordering). ordering_then o (nat_cmp p q)) (less_first a b first)
      | inr not_first ↦
          let same : a ≡ b = omega arith in
          let second : p < q = omega arith in
          let equal : nat_cmp a b ≡ Equal = cond-false _ _ _ (le-ltb a b not_first) ∙ cond-true _ _ _ (eq-eqb a b same) in
          ap (λ (o : Ordering). ordering_then o (nat_cmp p q)) equal ∙ less_first p q second
    ]

entry_of_number : (terms n : ℕ) → n < terms → IsTrue (has_entry terms (term_of n))
entry_of_number terms n below =
    let e : number_of (term_of n) ≡ n = number_of_term n in
    and_from _ _ (term_numbered n) (lt-ltb (number_of (term_of n)) terms (omega arith))

-- ---- what a table tells of a term

con_at : (masks : List ℕ) (t : Term) → IsTrue (has_entry (length masks) t) → con_of masks t ≡ low_at masks (number_of t)
con_at masks t entry = cond-true _ _ _ entry

-- ---- a term that no literal mentions

same_itself : (t : Term) → same_term t t ≡ true
same_itself (Global g) = eq-eqb g g refl
same_itself (Cell a p) = and_from _ _ (eq-eqb a a refl) (eq-eqb p p refl)

cmp_itself : (k : ℕ) → nat_cmp k k ≡ Equal
cmp_itself k = cond-false _ _ _ (le-ltb k k (omega arith)) ∙ cond-true _ _ _ (eq-eqb k k refl)

-- a term before another is another
before_other : (s t : Term) → term_cmp s t ≡ Less → same_term s t ≡ false
before_other (Global g) (Global h) e = ne_eqb g h (λ same.
    let equal : nat_cmp g h ≡ Equal = ap (λ (k : ℕ). nat_cmp g k) (sym same) ∙ cmp_itself g in absurd (cc))
before_other (Global g) (Cell b q) e = refl
before_other (Cell a p) (Global h) e = refl
before_other (Cell a p) (Cell b q) e = false_from_ne_true _ (λ same.
    let parts = and_parts (eqb a b) (eqb p q) same in
    let first : nat_cmp a b ≡ Equal = ap (λ (k : ℕ). nat_cmp a k) (sym (eqb-true a b parts.0)) ∙ cmp_itself a in
    let second : nat_cmp p q ≡ Equal = ap (λ (k : ℕ). nat_cmp p k) (sym (eqb-true p q parts.1)) ∙ cmp_itself p in
    let equal : ordering_then (nat_cmp a b) (nat_cmp p q) ≡ Equal = ap (λ (o : Ordering). ordering_then o (nat_cmp p q)) first ∙ second in
    absurd (cc))

-- the assignment with 0 for one term
abbrev without : Term → (Term → ℕ) → Term → ℕ
without t v s = cond (same_term s t) 0 (v s)

without_other : (t : Term) (v : Term → ℕ) (s : Term) → same_term s t ≡ false → without t v s ≡ v s
without_other t v s e = cond-false _ _ _ e

inside_without : (sig : Signature) (t : Term) (v : Term → ℕ) (lit : Lit) → not (mentions t lit) ≡ true → is_inside sig v lit ≡ true → is_inside sig (without t v) lit ≡ true
inside_without sig t v (FinIn s mask) n e = rw (without_other t v s (not-true _ n)) e
inside_without sig t v (FinEq a b) n e =
    let parts = or_parts (same_term a t) (same_term b t) (not-true _ n) in
    rw (without_other t v a parts.0, without_other t v b parts.1) e
inside_without sig t v (FinNe a b) n e =
    let parts = or_parts (same_term a t) (same_term b t) (not-true _ n) in
    rw (without_other t v a parts.0, without_other t v b parts.1) e
inside_without sig t v (ProcEq a b) n e = refl
inside_without sig t v (ProcNe a b) n e = refl
inside_without sig t v (Diff a b bound) n e = refl

true_without : (t : Term) (v : Term → ℕ) (lit : Lit) → not (mentions t lit) ≡ true → is_true v lit ≡ true → is_true (without t v) lit ≡ true
true_without t v (FinIn s mask) n e = rw (without_other t v s (not-true _ n)) e
true_without t v (FinEq a b) n e =
    let parts = or_parts (same_term a t) (same_term b t) (not-true _ n) in
    rw (without_other t v a parts.0, without_other t v b parts.1) e
true_without t v (FinNe a b) n e =
    let parts = or_parts (same_term a t) (same_term b t) (not-true _ n) in
    rw (without_other t v a parts.0, without_other t v b parts.1) e
true_without t v (ProcEq a b) n e = refl
true_without t v (ProcNe a b) n e = refl
true_without t v (Diff a b bound) n e = refl

list_all_not : {X : Type 0} (q : X → Bool) (xs : List X) → list_any q xs ≡ false → list_all (λ y. not (q y)) xs ≡ true
list_all_not q [] e = refl
list_all_not q (x ∷ xs) e =
    let parts = or_parts (q x) (list_any q xs) e in
    and_from (not (q x)) (list_all (λ y. not (q y)) xs) (not_from_false (q x) parts.0) (list_all_not q xs parts.1)

others_zero : (sig : Signature) (all : List Lit) (v : Term → ℕ) → Solves sig all v → ((w : Term → ℕ) → Solves sig all w → IsBefore w v → ⊥)
    → (t : Term) → list_any (mentions t) all ≡ false → v t ≡ 0
others_zero sig all v s least t none = elim (cases_eq (v t) 0) [
  | inl zero ↦ zero
  | inr some ↦
      let away = list_all_not (mentions t) all none in
      let here : without t v t ≡ 0 = cond-true _ _ _ (same_itself t) in
      absurd (least (without t v)
      (record {
        inside = list_all_both (λ lit. not (mentions t lit)) (is_inside sig v) (is_inside sig (without t v)) (inside_without sig t v) all away s.inside;
        holds = list_all_both (λ lit. not (mentions t lit)) (is_true v) (is_true (without t v)) (true_without t v) all away s.holds;
      })
      (record { term = t; same = λ u order. without_other t v u (before_other u t order); less = omega arith }))
]

-- ---- constructors by number

module _ (sig : Signature) (few : (t : Term) → constructors_at sig t ≤ 64) (all : List Lit) (masks : List ℕ) (g : AreGathered sig all masks)
    (fit : list_all (terms_fit sig (length masks)) all ≡ true) where
  abbrev by_number : (Term → ℕ) → ℕ → ℕ
  by_number v n = cond (has_bit (get_or masks n 0) (v (term_of n))) (v (term_of n)) (low_at masks n)

  left_by_number : (v : Term → ℕ) (t : Term) → IsTrue (has_entry (length masks) t) → has_bit (get_or masks (number_of t) 0) (v t) ≡ true → by_number v (number_of t) ≡ v t
  left_by_number v t entry left =
      let same : term_of (number_of t) ≡ t = term_of_number t (entry_numbered (length masks) t entry) in
      let left_here : has_bit (get_or masks (number_of t) 0) (v (term_of (number_of t))) ≡ true = rw same left in
      cond-true _ _ _ left_here ∙ ap v same

  within_by_number : (v : Term → ℕ) → IsWithin masks (by_number v)
  within_by_number v n below = elim (cases_Bool (has_bit (get_or masks n 0) (v (term_of n)))) [
    | inl left ↦ let e : by_number v n ≡ v (term_of n) = cond-true _ _ _ left in rw e left
    | inr gone ↦
        let e : by_number v n ≡ low_at masks n = cond-false _ _ _ gone in
        rw e (low_has (get_or masks n 0) (g.masks_fit n below).0 (g.masks_fit n below).1)
  ]

  -- a term with a constructor of its sort keeps it
  kept_by_number : (v : Term → ℕ) → Solves sig all v → (t : Term) → IsTrue (has_entry (length masks) t) → IsTrue (has_constructor sig v t) → by_number v (number_of t) ≡ v t
  kept_by_number v s t entry has =
      let inside : v t < constructors_at sig t = ltb-true _ _ has in
      let most : constructors_at sig t ≤ 64 = few t in
      left_by_number v t entry (g.keeps v s t entry (omega arith))

  link_by_number : (v : Term → ℕ) → Solves sig all v → (lit : Lit) → (terms_fit sig (length masks) lit && is_inside sig v lit) ≡ true → is_true v lit ≡ true → is_link_true (by_number v) lit ≡ true
  link_by_number v s (FinIn t mask) e f = refl
  link_by_number v s (FinEq a b) e f =
      let parts = and_parts (terms_fit sig (length masks) (FinEq a b)) (is_inside sig v (FinEq a b)) e in
      let entries = and_parts (has_entry (length masks) a) (has_entry (length masks) b) parts.0 in
      let inside = and_parts (has_constructor sig v a) (has_constructor sig v b) parts.1 in
      eq-eqb _ _ (kept_by_number v s a entries.0 inside.0 ∙ eqb-true _ _ f ∙ sym (kept_by_number v s b entries.1 inside.1))
  link_by_number v s (FinNe a b) e f =
      let parts = and_parts (terms_fit sig (length masks) (FinNe a b)) (is_inside sig v (FinNe a b)) e in
      let entries = and_parts (has_entry (length masks) a) (has_entry (length masks) b) parts.0 in
      let inside = and_parts (has_constructor sig v a) (has_constructor sig v b) parts.1 in
      rw (kept_by_number v s a entries.0 inside.0, kept_by_number v s b entries.1 inside.1) f
  link_by_number v s (ProcEq a b) e f = refl
  link_by_number v s (ProcNe a b) e f = refl
  link_by_number v s (Diff a b bound) e f = refl

  pub links_by_number : (v : Term → ℕ) → Solves sig all v → list_all (is_link_true (by_number v)) all ≡ true
  links_by_number v s =
      list_all_both (λ lit. terms_fit sig (length masks) lit && is_inside sig v lit) (is_true v) (is_link_true (by_number v)) (link_by_number v s) all
      (list_all_both (terms_fit sig (length masks)) (is_inside sig v) (λ lit. terms_fit sig (length masks) lit && is_inside sig v lit) (λ lit x y. and_from _ _ x y) all fit s.inside)
      s.holds

  -- masks that are refuted have no solution
  pub no_solution : (narrowed : List ℕ) → Narrows all masks narrowed → IsRefuted all narrowed → HasSolution sig all → ⊥
  no_solution narrowed n none solution =
      let v = solution.0 in
      let links = links_by_number v solution.1 in
      none (by_number v) (n.keeps (by_number v) (within_by_number v) links) links

  module _ (narrowed final : List ℕ) (n : Narrows all masks narrowed) (least : IsLeastFill all narrowed final) (size : length final ≡ length masks) where
    low_left : (k : ℕ) → k < length masks → has_bit (get_or masks k 0) (low_at final k) ≡ true
    low_left k below = n.fewer (low_at final) least.fills.within k below

    con_low : (t : Term) → IsTrue (has_entry (length masks) t) → con_of final t ≡ low_at final (number_of t)
    con_low t entry = con_at final t (rw size entry)

    con_within : IsTermWithin masks (con_of final)
    con_within t entry = rw (con_low t entry) (low_left (number_of t) (entry_below (length masks) t entry))

    literal_true : (lit : Lit) → (terms_fit sig (length masks) lit && is_member_true (con_of final) lit) ≡ true → is_link_true (low_at final) lit ≡ true → is_true (con_of final) lit ≡ true
    literal_true (FinIn t mask) e f = (and_parts (terms_fit sig (length masks) (FinIn t mask)) (has_bit mask (con_of final t)) e).1
    literal_true (FinEq a b) e f =
        let parts = and_parts (terms_fit sig (length masks) (FinEq a b)) true e in
        let entries = and_parts (has_entry (length masks) a) (has_entry (length masks) b) parts.0 in
        eq-eqb _ _ (con_low a entries.0 ∙ eqb-true _ _ f ∙ sym (con_low b entries.1))
    literal_true (FinNe a b) e f =
        let parts = and_parts (terms_fit sig (length masks) (FinNe a b)) true e in
        let entries = and_parts (has_entry (length masks) a) (has_entry (length masks) b) parts.0 in
        rw (con_low a entries.0, con_low b entries.1) f
    literal_true (ProcEq a b) e f = refl
    literal_true (ProcNe a b) e f = refl
    literal_true (Diff a b bound) e f = refl

    con_solves : Solves sig all (con_of final)
    con_solves = record {
      inside = g.inside (con_of final) con_within;
      holds = list_all_both (λ lit. terms_fit sig (length masks) lit && is_member_true (con_of final) lit) (is_link_true (low_at final)) (is_true (con_of final)) literal_true all
          (list_all_both (terms_fit sig (length masks)) (is_member_true (con_of final)) (λ lit. terms_fit sig (length masks) lit && is_member_true (con_of final) lit) (λ lit x y. and_from _ _ x y)
          all fit (g.members (con_of final) con_within))
          least.fills.links;
    }

    -- a term with a constructor above 0 has an entry
    has_place : (t : Term) → 0 < con_of final t → IsTrue (has_entry (length masks) t)
    has_place t some = elim (cases_Bool (has_entry (length masks) t)) [
      | inl entry ↦ entry
      | inr none ↦
          let gone : has_entry (length final) t ≡ false = rw size none in
          let zero : con_of final t ≡ 0 = cond-false _ _ _ gone in
          absurd (omega arith)
    ]

    con_least : (w : Term → ℕ) → Solves sig all w → IsBefore w (con_of final) → ⊥
    con_least w s before =
        let t = before.term in
        let less : w t < con_of final t = before.less in
        let entry : IsTrue (has_entry (length masks) t) = has_place t (omega arith) in
        let below : number_of t < length masks = entry_below (length masks) t entry in
        let value : con_of final t ≡ low_at final (number_of t) = con_low t entry in
        let small : low_at final (number_of t) < 64 = below_64 (number_of t) below in
        let here : by_number w (number_of t) ≡ w t = left_by_number w t entry (g.keeps w s t entry (omega arith)) in
        let links = links_by_number w s in
        least.least (by_number w) (record { within = n.keeps (by_number w) (within_by_number w) links; links = links }) (record {
          place = number_of t;
          inside = omega (arith, n.size);
          same = λ k earlier.
              let u = term_of k in
              let is_k : number_of u ≡ k = number_of_term k in
              let eu : IsTrue (has_entry (length masks) u) = entry_of_number (length masks) k (omega arith) in
              let order : term_cmp u t ≡ Less = numbers_in_order u t (term_numbered k) (entry_numbered (length masks) t entry) (omega arith) in
              let low : w u ≡ low_at final k = before.same u order ∙ con_low u eu ∙ ap (λ (m : ℕ). low_at final m) is_k in
              let left : has_bit (get_or masks k 0) (w u) ≡ true = rw low (low_left k (omega arith)) in
              let e : by_number w k ≡ w u = cond-true _ _ _ left in
              e ∙ low;
          less = omega arith;
        })
      where
        below_64 : (k : ℕ) → k < length masks → low_at final k < 64
        below_64 k inside = bit_below (get_or masks k 0) (low_at final k) (g.masks_fit k inside).1 (low_left k inside)

    pub least_solution : IsLeastSolution sig all (con_of final)
    least_solution = record { solves = con_solves; least = con_least; others = others_zero sig all (con_of final) con_solves con_least }

-- ---- before the search

pub decided_none : (masks : List ℕ) (lits : List Lit) → list_all (is_decided masks 0) lits ≡ true
decided_none masks [] = refl
decided_none masks (x ∷ xs) = and_from _ _ (one x) (decided_none masks xs)
  where
    zero_waits : (a b : ℕ) → waits masks 0 a b ≡ true
    zero_waits a b =
        and_from _ _ (and_from _ _ (or_left _ _ (le-leb 0 a (omega arith))) (or_left _ _ (le-leb 0 b (omega arith)))) (or_left _ _ (le-leb 0 a (omega arith)))

    one : (lit : Lit) → is_decided masks 0 lit ≡ true
    one (FinIn t mask) = refl
    one (FinEq a b) = or_right (is_settled masks (FinEq a b)) _ (zero_waits (number_of a) (number_of b))
    one (FinNe a b) = or_right (is_settled masks (FinNe a b)) _ (zero_waits (number_of a) (number_of b))
    one (ProcEq a b) = refl
    one (ProcNe a b) = refl
    one (Diff a b bound) = refl

link_fits_from : (sig : Signature) (terms : ℕ) (lit : Lit) → IsTrue (terms_fit sig terms lit) → IsTrue (link_fits terms lit)
link_fits_from sig terms (FinIn t mask) e = refl
link_fits_from sig terms (FinEq a b) e =
    let parts = and_parts (has_entry terms a) (has_entry terms b) e in
    and_from _ _ (lt-ltb _ _ (entry_below terms a parts.0)) (lt-ltb _ _ (entry_below terms b parts.1))
link_fits_from sig terms (FinNe a b) e =
    let parts = and_parts (has_entry terms a) (has_entry terms b) e in
    and_from _ _ (lt-ltb _ _ (entry_below terms a parts.0)) (lt-ltb _ _ (entry_below terms b parts.1))
link_fits_from sig terms (ProcEq a b) e = refl
link_fits_from sig terms (ProcNe a b) e = refl
link_fits_from sig terms (Diff a b bound) e = refl

pub links_fit : (sig : Signature) (terms : ℕ) (lits : List Lit) → All (λ lit. IsTrue (terms_fit sig terms lit)) lits → All (λ lit. IsTrue (link_fits terms lit)) lits
links_fit sig terms lits fit = λ k d inside. link_fits_from sig terms (get_or lits k d) (fit k d inside)

-- the cleared table holds what no literal says
pub gathered_none : (sig : Signature) (masks : List ℕ) → ((n : ℕ) → n < length masks → get_or masks n 0 ≡ 2 ^ 64 - 1) → AreGathered sig [] masks
gathered_none sig masks all = record {
  masks_fit = λ n below. (omega (arith, all n below), omega (arith, all n below));
  keeps = λ v s t entry small. rw (all (number_of t) (entry_below (length masks) t entry)) (first_bits 64 (v t) ∙ lt-ltb (v t) 64 small);
  inside = λ v within. refl;
  members = λ v within. refl;
}

pub narrows_twice : (lits : List Lit) (a b c : List ℕ) → Narrows lits a b → Narrows lits b c → Narrows lits a c
narrows_twice lits a b c first second = narrows_both lits lits lits a b c first second (λ w link. link) (λ w link. link)

pub refuted_twice : (lits : List Lit) (a b : List ℕ) → Narrows lits a b → IsRefuted lits b → IsRefuted lits a
refuted_twice lits a b first second = refuted_later lits lits lits a b first second (λ w link. link) (λ w link. link)

pub narrows_join : (xs ys : List Lit) (a b c : List ℕ) → Narrows xs a b → Narrows ys b c → Narrows (xs ++ ys) a c
narrows_join xs ys a b c first second =
    narrows_both xs ys (xs ++ ys) a b c first second (λ w link. list_all_front (is_link_true w) xs ys link) (λ w link. list_all_back (is_link_true w) xs ys link)

pub refuted_first : (xs ys : List Lit) (a : List ℕ) → IsRefuted xs a → IsRefuted (xs ++ ys) a
refuted_first xs ys a none w within link = none w within (list_all_front (is_link_true w) xs ys link)

pub refuted_second : (xs ys : List Lit) (a b : List ℕ) → Narrows xs a b → IsRefuted ys b → IsRefuted (xs ++ ys) a
refuted_second xs ys a b first second =
    refuted_later xs ys (xs ++ ys) a b first second (λ w link. list_all_front (is_link_true w) xs ys link) (λ w link. list_all_back (is_link_true w) xs ys link)

-- a vector's items after a write through its slice
pub written_back : (old new : List ℕ) (n : ℕ) → length new ≡ length old → n ≡ length old → take n (new ++ drop (length new) old) ≡ new
written_back old new n same len =
    let within : n ≤ length new = omega arith in
    let whole : n ≡ length new = omega arith in
    rw take-append-le (rw whole (take-length new))

-- literals that fit a table fit one of the same size
pub all_fit : (sig : Signature) (old masks : List ℕ) (lits more : List Lit) → length masks ≡ length old → All (λ lit. IsTrue (terms_fit sig (length old) lit)) lits
    → All (λ lit. IsTrue (terms_fit sig (length old) lit)) more → list_all (terms_fit sig (length masks)) (lits ++ more) ≡ true
all_fit sig old masks lits more size fit more_fit =
    rw size (list_all_from_All (terms_fit sig (length old)) (lits ++ more) (All-append (λ lit. IsTrue (terms_fit sig (length old) lit)) lits more fit more_fit))

pub fresh : (sig : Signature) (old masks : List ℕ) → length masks ≡ length old → ((n : ℕ) → n < length old → get_or masks n 0 ≡ 2 ^ 64 - 1) → AreGathered sig [] masks
fresh sig old masks size all = gathered_none sig masks (λ n below. all n (omega arith))

pub solution_front : (sig : Signature) (lits more : List Lit) → HasSolution sig (lits ++ more) → HasSolution sig lits
solution_front sig lits more solution = (solution.0, solves_front sig lits more solution.0 solution.1)
