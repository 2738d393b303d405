-- The terms that a conjunction mentions: they rise, and are exactly those of its literals.
use Rattle.std.proofs.Common.{◌≡◌, ◌⊎◌, ℕ, suc, zero, ◌+◌, ◌<◌, ◌≤◌, true, List, [], ◌∷◌, ◌++◌, length, get_or, take, drop, refl, sym, ap, ◌∙◌, subst, arith, inl, inr}
use Rattle.std.specs.Prelude.{IsTrue, Contains, fold}
use Rattle.std.specs.List.{flat_map, list_all}
use Rattle.std.specs.Ordering.{is_lt, match_ordering, ordering_reverse}
use Rattle.std.specs.declared.cmp.Ordering.{Ordering}
use Rattle.std.specs.declared.cmp.Ordering.TheVariants.{Less, Equal, Greater}
use Rattle.std.proofs.lemmas.Cmp.{tied_itself}
use Rattle.std.proofs.lemmas.List.{take_more, append-nil}
use Rattle.std.proofs.lemmas.Grind.{flat_map-append}
use Rattle.std.proofs.lemmas.List.Sums.{fold-append}
use Rattle.cub_proto.specs.declared.literal.Term.{Term}
use Rattle.cub_proto.specs.declared.literal.Lit.{Lit}
use Rattle.cub_proto.specs.Order.{term_cmp}
use Rattle.cub_cube.specs.Mentions.{terms_of, with_term, terms_in, terms_rise, Mentions}
use Rattle.cub_base.proofs.Bools.{and_left, and_right, and_both}
use Rattle.cub_cube.proofs.Orders.{term_cmp_total, terms_equal}
use Rattle.cub_base.proofs.Members.{Has, has_Contains, contains_Has, has_flat_map, flat_map_has}

less_from : (o : Ordering) → IsTrue (is_lt o) → o ≡ Less
less_from Less h = refl
less_from Equal h = cc
less_from Greater h = cc

-- ---- members
with_term_new : (us : List Term) (t : Term) → Has (with_term us t) t
with_term_new [] t = inl refl
with_term_new (u ∷ us) t = by (term_cmp t u) refl (with_term_new us t)
  where
    by : (o : Ordering) → term_cmp t u ≡ o → Has (with_term us t) t → Has (match_ordering o (t ∷ u ∷ us) (u ∷ us) (u ∷ with_term us t)) t
    by Less e rest = inl refl
    by Equal e rest = inl (sym (terms_equal t u e))
    by Greater e rest = inr rest

with_term_old : (us : List Term) (t x : Term) → Has us x → Has (with_term us t) x
with_term_old [] t x h = absurd h
with_term_old (u ∷ us) t x h = by (term_cmp t u) h (with_term_old us t x)
  where
    by : (o : Ordering) → Has (u ∷ us) x → (Has us x → Has (with_term us t) x) → Has (match_ordering o (t ∷ u ∷ us) (u ∷ us) (u ∷ with_term us t)) x
    by Less k rest = inr k
    by Equal k rest = k
    by Greater (inl same) rest = inl same
    by Greater (inr later) rest = inr (rest later)

with_term_cases : (us : List Term) (t x : Term) → Has (with_term us t) x → (t ≡ x) ⊎ Has us x
with_term_cases [] t x (inl same) = inl same
with_term_cases [] t x (inr later) = absurd later
with_term_cases (u ∷ us) t x h = by (term_cmp t u) h (with_term_cases us t x)
  where
    by : (o : Ordering) → Has (match_ordering o (t ∷ u ∷ us) (u ∷ us) (u ∷ with_term us t)) x → (Has (with_term us t) x → (t ≡ x) ⊎ Has us x) → (t ≡ x) ⊎ Has (u ∷ us) x
    by Less (inl same) rest = inl same
    by Less (inr later) rest = inr later
    by Equal k rest = inr k
    by Greater (inl same) rest = inr (inl same)
    by Greater (inr later) rest = deeper (rest later)
      where
        deeper : (t ≡ x) ⊎ Has us x → (t ≡ x) ⊎ Has (u ∷ us) x
        deeper (inl same) = inl same
        deeper (inr k) = inr (inr k)

fold_old : (us ts : List Term) (x : Term) → Has us x → Has (fold with_term us ts) x
fold_old us [] x h = h
fold_old us (t ∷ ts) x h = fold_old (with_term us t) ts x (with_term_old us t x h)

fold_new : (us ts : List Term) (x : Term) → Has ts x → Has (fold with_term us ts) x
fold_new us [] x h = absurd h
fold_new us (t ∷ ts) x (inl same) = fold_old (with_term us t) ts x (subst (Has (with_term us t)) same (with_term_new us t))
fold_new us (t ∷ ts) x (inr later) = fold_new (with_term us t) ts x later

fold_cases : (us ts : List Term) (x : Term) → Has (fold with_term us ts) x → Has us x ⊎ Has ts x
fold_cases us [] x h = inl h
fold_cases us (t ∷ ts) x h = by (fold_cases (with_term us t) ts x h)
  where
    deeper : (t ≡ x) ⊎ Has us x → Has us x ⊎ Has (t ∷ ts) x
    deeper (inl same) = inr (inl same)
    deeper (inr k) = inl k

    by : Has (with_term us t) x ⊎ Has ts x → Has us x ⊎ Has (t ∷ ts) x
    by (inl k) = deeper (with_term_cases us t x k)
    by (inr k) = inr (inr k)

pub mentioned_in : (lits : List Lit) (t : Term) → Mentions lits t → Contains (terms_in lits) t
mentioned_in lits t (l, inside, mentions) =
    has_Contains (terms_in lits) t (fold_new [] (flat_map terms_of lits) t (has_flat_map terms_of lits l t (contains_Has lits l inside) (contains_Has (terms_of l) t mentions)))

pub in_mentioned : (lits : List Lit) (t : Term) → Contains (terms_in lits) t → Mentions lits t
in_mentioned lits t h = by (fold_cases [] (flat_map terms_of lits) t (contains_Has (terms_in lits) t h))
  where
    by : Has [] t ⊎ Has (flat_map terms_of lits) t → Mentions lits t
    by (inl none) = absurd none
    by (inr k) = let found = flat_map_has terms_of lits t k in (found.0, has_Contains lits found.0 found.1, has_Contains (terms_of found.0) t found.2)

-- ---- order
below_all : (k l : Term) (ms : List Term) → term_cmp k l ≡ Less → IsTrue (list_all (λ m. is_lt (term_cmp l m)) ms) → IsTrue (list_all (λ m. is_lt (term_cmp k m)) ms)
below_all k l [] h all = refl
below_all k l (m ∷ ms) h all =
    let first = less_from (term_cmp l m) (and_left (is_lt (term_cmp l m)) (list_all (λ x. is_lt (term_cmp l x)) ms) all) in
    and_both (is_lt (term_cmp k m)) (list_all (λ x. is_lt (term_cmp k x)) ms) (ap is_lt (term_cmp_total.trans k l m h first))
    (below_all k l ms h (and_right (is_lt (term_cmp l m)) (list_all (λ x. is_lt (term_cmp l x)) ms) all))

below_with : (k : Term) (us : List Term) (t : Term) → IsTrue (list_all (λ m. is_lt (term_cmp k m)) us) → term_cmp k t ≡ Less → IsTrue (list_all (λ m. is_lt (term_cmp k m)) (with_term us t))
below_with k [] t all h = and_both (is_lt (term_cmp k t)) true (ap is_lt h) refl
below_with k (u ∷ us) t all h = by (term_cmp t u) (below_with k us t (and_right (is_lt (term_cmp k u)) (list_all (λ x. is_lt (term_cmp k x)) us) all) h)
  where
    by : (o : Ordering) → IsTrue (list_all (λ x. is_lt (term_cmp k x)) (with_term us t)) → IsTrue (list_all (λ x. is_lt (term_cmp k x)) (match_ordering o (t ∷ u ∷ us) (u ∷ us) (u ∷ with_term us t)))
    by Less rest = and_both (is_lt (term_cmp k t)) (list_all (λ x. is_lt (term_cmp k x)) (u ∷ us)) (ap is_lt h) all
    by Equal rest = all
    by Greater rest = and_both (is_lt (term_cmp k u)) (list_all (λ x. is_lt (term_cmp k x)) (with_term us t)) (and_left (is_lt (term_cmp k u)) (list_all (λ x. is_lt (term_cmp k x)) us) all) rest

rises_with : (us : List Term) (t : Term) → IsTrue (terms_rise us) → IsTrue (terms_rise (with_term us t))
rises_with [] t rises = refl
rises_with (u ∷ us) t rises = by (term_cmp t u) refl (rises_with us t (and_right (list_all (λ x. is_lt (term_cmp u x)) us) (terms_rise us) rises))
  where
    by : (o : Ordering) → term_cmp t u ≡ o → IsTrue (terms_rise (with_term us t)) → IsTrue (terms_rise (match_ordering o (t ∷ u ∷ us) (u ∷ us) (u ∷ with_term us t)))
    by Less e rest =
        and_both (list_all (λ x. is_lt (term_cmp t x)) (u ∷ us)) (terms_rise (u ∷ us))
        (and_both (is_lt (term_cmp t u)) (list_all (λ x. is_lt (term_cmp t x)) us) (ap is_lt e) (below_all t u us e (and_left (list_all (λ x. is_lt (term_cmp u x)) us) (terms_rise us) rises)))
        rises
    by Equal e rest = rises
    by Greater e rest =
        and_both (list_all (λ x. is_lt (term_cmp u x)) (with_term us t)) (terms_rise (with_term us t))
        (below_with u us t (and_left (list_all (λ x. is_lt (term_cmp u x)) us) (terms_rise us) rises) (term_cmp_total.antisymm u t ∙ ap ordering_reverse e)) rest

fold_rises : (us ts : List Term) → IsTrue (terms_rise us) → IsTrue (terms_rise (fold with_term us ts))
fold_rises us [] rises = rises
fold_rises us (t ∷ ts) rises = fold_rises (with_term us t) ts (rises_with us t rises)

pub terms_in_rise : (lits : List Lit) → IsTrue (terms_rise (terms_in lits))
terms_in_rise lits = fold_rises [] (flat_map terms_of lits) refl

-- ---- insertion by number
pub term_inserted : (us : List Term) (t : Term) (n : ℕ) → n ≤ length us → ((k : ℕ) → k < n → term_cmp t (get_or us k t) ≡ Greater) → (n < length us → term_cmp t (get_or us n t) ≡ Less)
    → take n us ++ t ∷ drop n us ≡ with_term us t
term_inserted [] t zero within before at = refl
term_inserted [] t (suc n) within before at = absurd (omega arith)
term_inserted (u ∷ us) t zero within before at = sym (ap (λ o. match_ordering o (t ∷ u ∷ us) (u ∷ us) (u ∷ with_term us t)) (at (omega arith)))
term_inserted (u ∷ us) t (suc n) within before at =
    ap (λ xs. u ∷ xs) (term_inserted us t n (omega arith) (λ k h. before (suc k) (omega arith)) (λ h. at (omega arith)))
    ∙ sym (ap (λ o. match_ordering o (t ∷ u ∷ us) (u ∷ us) (u ∷ with_term us t)) (before 0 (omega arith)))

pub term_there : (us : List Term) (t : Term) (n : ℕ) → n < length us → ((k : ℕ) → k < n → term_cmp t (get_or us k t) ≡ Greater) → get_or us n t ≡ t → us ≡ with_term us t
term_there [] t n within before same = absurd (omega arith)
term_there (u ∷ us) t zero within before same =
    sym (ap (λ o. match_ordering o (t ∷ u ∷ us) (u ∷ us) (u ∷ with_term us t)) (ap (term_cmp t) same ∙ tied_itself term_cmp_total t))
term_there (u ∷ us) t (suc n) within before same =
    ap (λ xs. u ∷ xs) (term_there us t n (omega arith) (λ k h. before (suc k) (omega arith)) same)
    ∙ sym (ap (λ o. match_ordering o (t ∷ u ∷ us) (u ∷ us) (u ∷ with_term us t)) (before 0 (omega arith)))

-- the terms of one more literal
pub terms_more : (lits : List Lit) (i : ℕ) (d : Lit) → i < length lits → fold with_term (terms_in (take i lits)) (terms_of (get_or lits i d)) ≡ terms_in (take (i + 1) lits)
terms_more lits i d h =
    sym (ap terms_in (take_more lits i d h) ∙ ap (fold with_term []) (flat_map-append terms_of (take i lits) (get_or lits i d ∷ []) ∙ ap (λ xs. flat_map terms_of (take i lits) ++ xs) (append-nil (terms_of (get_or lits i d))))
    ∙ fold-append with_term [] (flat_map terms_of (take i lits)) (terms_of (get_or lits i d)))

less_case : (o : Ordering) → (o ≡ Greater → ⊥) → (o ≡ Equal → ⊥) → o ≡ Less
less_case Less h k = refl
less_case Equal h k = absurd (k refl)
less_case Greater h k = absurd (h refl)

pub term_absent : (us : List Term) (t : Term) (n : ℕ) → n ≤ length us → ((k : ℕ) → k < n → term_cmp t (get_or us k t) ≡ Greater)
    → (n < length us → term_cmp t (get_or us n t) ≡ Greater → ⊥) → (n < length us → get_or us n t ≡ t → ⊥) → take n us ++ t ∷ drop n us ≡ with_term us t
term_absent us t n within before at other =
    term_inserted us t n within before (λ h. less_case (term_cmp t (get_or us n t)) (at h) (λ e. other h (sym (terms_equal t (get_or us n t) e))))
