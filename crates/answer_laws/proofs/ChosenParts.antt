-- The values of the chosen state are determined, part by part: constructors, processes, integers.
use Rattle.std.proofs.Common.{◌≡◌, ◌⊎◌, ℕ, zero, suc, ◌+◌, ◌<◌, ◌≤◌, Bool, true, false, ◌==◌, ◌||◌, List, [], ◌∷◌, ◌++◌, refl, sym, ap, ◌∙◌, subst, arith, inl, inr}
use Rattle.std.specs.List.{list_any}
use Rattle.std.specs.Ordering.{ordering_reverse}
use Rattle.std.specs.declared.cmp.Ordering.{Ordering}
use Rattle.std.specs.declared.cmp.Ordering.TheVariants.{Less, Equal, Greater}
use Rattle.std.proofs.lemmas.Bool.{cases_lt}
use Rattle.cub_base.proofs.Bools.{and_left, and_right, same_is}
use Rattle.cub_base.proofs.Members.{Has, has_left, has_right}
use Rattle.cub_proto.specs.declared.literal.Term.{Term}
use Rattle.cub_proto.specs.declared.literal.PSide.{PSide}
use Rattle.cub_proto.specs.declared.literal.PSide.TheVariants.{Global, Place}
use Rattle.cub_proto.specs.declared.literal.Lit.{Lit}
use Rattle.cub_proto.specs.declared.literal.Lit.TheVariants.{FinIn, FinEq, FinNe, ProcEq, ProcNe, Diff}
use Rattle.cub_proto.specs.Signature.{Signature}
use Rattle.cub_proto.specs.Order.{term_cmp}
use Rattle.cub_cube.proofs.Orders.{term_cmp_total}
use Rattle.fin_dom.specs.Solution.{same_term, mentions, IsLeastSolution}
use Rattle.proc_eq.specs.Choice.{IsEarlier, IsLeastChoice}

-- ---- constructors
terms_of : Lit → List Term
terms_of (FinIn t mask) = t ∷ []
terms_of (FinEq a b) = a ∷ b ∷ []
terms_of (FinNe a b) = a ∷ b ∷ []
terms_of (ProcEq a b) = []
terms_of (ProcNe a b) = []
terms_of (Diff a b bound) = []

all_terms : List Lit → List Term
all_terms [] = []
all_terms (l ∷ ls) = terms_of l ++ all_terms ls

term_is : (s t : Term) → same_term s t ≡ true → s ≡ t
term_is (Term.Global g) (Term.Global h) e = ap (λ k. Term.Global k) (same_is g h e)
term_is (Term.Global g) (Term.Cell b q) e = absurd (let no : false ≡ true = e in cc)
term_is (Term.Cell a p) (Term.Global h) e = absurd (let no : false ≡ true = e in cc)
term_is (Term.Cell a p) (Term.Cell b q) e =
    ap (λ k. Term.Cell k p) (same_is a b (and_left (a == b) (p == q) e)) ∙ ap (λ k. Term.Cell b k) (same_is p q (and_right (a == b) (p == q) e))

one_of_two : (a b t : Term) → (same_term a t || same_term b t) ≡ true → Has (a ∷ b ∷ []) t
one_of_two a b t h = by (same_term a t) refl h
  where
    by : (x : Bool) → same_term a t ≡ x → (x || same_term b t) ≡ true → Has (a ∷ b ∷ []) t
    by true is k = inl (term_is a t is)
    by false is k = inr (inl (term_is b t k))

mentioned_of : (l : Lit) (t : Term) → mentions t l ≡ true → Has (terms_of l) t
unfolding terms_of
mentioned_of (FinIn s mask) t h = inl (term_is s t h)
mentioned_of (FinEq a b) t h = one_of_two a b t h
mentioned_of (FinNe a b) t h = one_of_two a b t h
mentioned_of (ProcEq a b) t h = absurd (let no : false ≡ true = h in cc)
mentioned_of (ProcNe a b) t h = absurd (let no : false ≡ true = h in cc)
mentioned_of (Diff a b bound) t h = absurd (let no : false ≡ true = h in cc)

mentioned : (lits : List Lit) (t : Term) → list_any (mentions t) lits ≡ true → Has (all_terms lits) t
unfolding all_terms
mentioned [] t h = absurd (let no : false ≡ true = h in cc)
mentioned (l ∷ ls) t h = by (mentions t l) refl h (mentioned ls t)
  where
    by : (x : Bool) → mentions t l ≡ x → (x || list_any (mentions t) ls) ≡ true → (list_any (mentions t) ls ≡ true → Has (all_terms ls) t) → Has (terms_of l ++ all_terms ls) t
    by true is k rest = has_left (terms_of l) (all_terms ls) t (mentioned_of l t is)
    by false is k rest = has_right (terms_of l) (all_terms ls) t (rest k)

not_before_itself : (t : Term) → term_cmp t t ≡ Less → ⊥
not_before_itself t h = let other : term_cmp t t ≡ ordering_reverse (term_cmp t t) = term_cmp_total.antisymm t t in let back : ordering_reverse (term_cmp t t) ≡ Greater = ap ordering_reverse h in cc

module _ (v w : Term → ℕ) where
  -- the first of the terms at which they differ
  record IsFirstDifference (ts : List Term) : Type 0 where
    term : Term
    differ : v term ≡ w term → ⊥
    before : (u : Term) → Has ts u → term_cmp u term ≡ Less → v u ≡ w u

  first_difference : (ts : List Term) → ((u : Term) → Has ts u → v u ≡ w u) ⊎ IsFirstDifference ts
  first_difference [] = inl (λ u h. absurd h)
  first_difference (t ∷ ts) = by (same_or_not (v t) (w t)) (first_difference ts)
    where
      same_or_not : (x y : ℕ) → (x ≡ y) ⊎ (x ≡ y → ⊥)
      same_or_not x y = cases (cases_lt x y) (cases_lt y x)
        where
          cases : (x < y) ⊎ (y ≤ x) → (y < x) ⊎ (x ≤ y) → (x ≡ y) ⊎ (x ≡ y → ⊥)
          cases (inl low) other = inr (λ e. omega arith)
          cases (inr high) (inl low) = inr (λ e. omega arith)
          cases (inr high) (inr past) = inl (omega arith)

      same_here : v t ≡ w t → ((u : Term) → Has ts u → v u ≡ w u) → (u : Term) → Has (t ∷ ts) u → v u ≡ w u
      same_here here rest u (inl is) = subst (λ x. v x ≡ w x) is here
      same_here here rest u (inr later) = rest u later

      by : (v t ≡ w t) ⊎ (v t ≡ w t → ⊥) → ((u : Term) → Has ts u → v u ≡ w u) ⊎ IsFirstDifference ts → ((u : Term) → Has (t ∷ ts) u → v u ≡ w u) ⊎ IsFirstDifference (t ∷ ts)
      by (inl here) (inl rest) = inl (same_here here rest)
      by (inl here) (inr found) = inr (record { term = found.term; differ = found.differ; before = before })
        where
          before : (u : Term) → Has (t ∷ ts) u → term_cmp u found.term ≡ Less → v u ≡ w u
          before u (inl is) less = subst (λ x. v x ≡ w x) is here
          before u (inr later) less = found.before u later less
      by (inr here) (inl rest) = inr (record { term = t; differ = here; before = before })
        where
          before : (u : Term) → Has (t ∷ ts) u → term_cmp u t ≡ Less → v u ≡ w u
          before u (inl is) less = absurd (not_before_itself t (subst (λ x. term_cmp x t ≡ Less) (sym is) less))
          before u (inr later) less = rest u later
      by (inr here) (inr found) = by_order (term_cmp t found.term) refl
        where
          by_order : (o : Ordering) → term_cmp t found.term ≡ o → ((u : Term) → Has (t ∷ ts) u → v u ≡ w u) ⊎ IsFirstDifference (t ∷ ts)
          by_order Less is = inr (record { term = t; differ = here; before = before })
            where
              before : (u : Term) → Has (t ∷ ts) u → term_cmp u t ≡ Less → v u ≡ w u
              before u (inl same) less = absurd (not_before_itself t (subst (λ x. term_cmp x t ≡ Less) (sym same) less))
              before u (inr later) less = found.before u later (term_cmp_total.trans u t found.term less is)
          by_order Equal is = inr (record { term = found.term; differ = found.differ; before = before })
            where
              before : (u : Term) → Has (t ∷ ts) u → term_cmp u found.term ≡ Less → v u ≡ w u
              before u (inl same) less = absurd (let one : term_cmp t found.term ≡ Less = subst (λ x. term_cmp x found.term ≡ Less) (sym same) less in cc)
              before u (inr later) less = found.before u later less
          by_order Greater is = inr (record { term = found.term; differ = found.differ; before = before })
            where
              before : (u : Term) → Has (t ∷ ts) u → term_cmp u found.term ≡ Less → v u ≡ w u
              before u (inl same) less = absurd (let one : term_cmp t found.term ≡ Less = subst (λ x. term_cmp x found.term ≡ Less) (sym same) less in cc)
              before u (inr later) less = found.before u later less

module _ (sig : Signature) (lits : List Lit) (v w : Term → ℕ) (a : IsLeastSolution sig lits v) (b : IsLeastSolution sig lits w) where
  -- before the first difference they are the same at all terms
  same_before : (first : IsFirstDifference v w (all_terms lits)) (u : Term) → term_cmp u first.term ≡ Less → v u ≡ w u
  same_before first u less = by (list_any (mentions u) lits) refl
    where
      by : (x : Bool) → list_any (mentions u) lits ≡ x → v u ≡ w u
      by true is = first.before u (mentioned lits u is) less
      by false is = a.others u is ∙ sym (b.others u is)

  no_difference : IsFirstDifference v w (all_terms lits) → ⊥
  no_difference first = by (cases_lt (v first.term) (w first.term)) (cases_lt (w first.term) (v first.term))
    where
      by : (v first.term < w first.term) ⊎ (w first.term ≤ v first.term) → (w first.term < v first.term) ⊎ (v first.term ≤ w first.term) → ⊥
      by (inl low) other = b.least v a.solves (record { term = first.term; same = same_before first; less = low })
      by (inr high) (inl low) = a.least w b.solves (record { term = first.term; same = λ u less. sym (same_before first u less); less = low })
      by (inr high) (inr past) = first.differ (omega arith)

  pub constructors_same : (t : Term) → v t ≡ w t
  constructors_same t = by (list_any (mentions t) lits) refl (first_difference v w (all_terms lits))
    where
      by : (x : Bool) → list_any (mentions t) lits ≡ x → ((u : Term) → Has (all_terms lits) u → v u ≡ w u) ⊎ IsFirstDifference v w (all_terms lits) → v t ≡ w t
      by true is (inl same) = same t (mentioned lits t is)
      by true is (inr first) = absurd (no_difference first)
      by false is either = a.others t is ∙ sym (b.others t is)

-- ---- processes
module _ (width : ℕ) (lits : List Lit) where
  -- with the same processes before it, a global can't have a lesser one in one of two least choices
  not_less : (v w : PSide → ℕ) (g : ℕ) → g < 64 → IsLeastChoice width lits v → IsLeastChoice width lits w → ((side : PSide) → IsEarlier width g side → v side ≡ w side) → v (Global g) < w (Global g) → ⊥
  not_less v w g small a b earlier less =
      let taken = b.least g small
      (λ side early forces. let here : v (Global g) ≡ v side = forces v a.solves in let there : w (Global g) ≡ w side = forces w b.solves in let same : v side ≡ w side = earlier side early in omega arith)
      (v (Global g)) less in
      taken.apart v a.solves (sym (earlier taken.side taken.earlier ∙ taken.taken))

  module _ (v w : PSide → ℕ) (a : IsLeastChoice width lits v) (b : IsLeastChoice width lits w) where
    one_global : (g : ℕ) → g < 64 → ((side : PSide) → IsEarlier width g side → v side ≡ w side) → v (Global g) ≡ w (Global g)
    one_global g small earlier = by (cases_lt (v (Global g)) (w (Global g))) (cases_lt (w (Global g)) (v (Global g)))
      where
        by : (v (Global g) < w (Global g)) ⊎ (w (Global g) ≤ v (Global g)) → (w (Global g) < v (Global g)) ⊎ (v (Global g) ≤ w (Global g)) → v (Global g) ≡ w (Global g)
        by (inl low) other = absurd (not_less v w g small a b earlier low)
        by (inr high) (inl low) = absurd (not_less w v g small b a (λ side early. sym (earlier side early)) low)
        by (inr high) (inr past) = omega arith

    earlier_same : (g : ℕ) → ((h : ℕ) → h < g → v (Global h) ≡ w (Global h)) → (side : PSide) → IsEarlier width g side → v side ≡ w side
    earlier_same g globals (Place p) inside = a.places p inside ∙ sym (b.places p inside)
    earlier_same g globals (Global h) before = globals h before

    below : (n g : ℕ) → g < n → g < 64 → v (Global g) ≡ w (Global g)
    below zero g less small = absurd (omega arith)
    below (suc n) g less small = one_global g small (earlier_same g (λ h before. below n h (omega arith) (omega arith)))

    pub processes_same : (g : ℕ) → g < 64 → v (Global g) ≡ w (Global g)
    processes_same g small = below (suc g) g (omega arith) small
