-- The search marks more nodes as long as something is left to mark, and then it has reached every node that has a
-- path to the target.
use Rattle.std.proofs.Common.{◌≡◌, ◌≢◌, ℕ, ◌<◌, ◌≤◌, ◌+◌, Bool, true, false, cond, zero, suc, ℤ, pos, ◌+ℤ◌, ◌-ℤ◌, ◌≤ℤ◌, ◌<ℤ◌, List, [], ◌∷◌, length, get_or, set, take, refl, arith, ap, subst, sym, ◌∙◌, inl, inr, nat_lt, ◌==◌, ◌-◌, get_or-set_same, get_or-set_other, length-take, get_or-take}
use Rattle.std.proofs.lemmas.Int.{ints}
use Rattle.std.proofs.lemmas.Bool.Decides.{eqb_tells, nat_tests}
use Rattle.diff_core.specs.declared.constraint.Constraint.{Constraint}
use Rattle.diff_core.specs.Constraints.{constraint_at, IsPath, IsInRange, AreInRange}
use Rattle.diff_core.specs.Closed.{count}
use Rattle.diff_core.specs.Closure.{IsClosure}
use Rattle.diff_core.specs.Table.{cell, far}
use Rattle.diff_core.specs.Search.{IsTight, Onward, IsSearch, IsDoneAt}
use Rattle.diff_core.proofs.Closed.{count_le}

pub count_same : (n : ℕ) (s t : ℕ → Bool) → ((x : ℕ) → x < n → t x ≡ s x) → count n t ≡ count n s
count_same zero s t same = refl
count_same (suc n) s t same =
    let here : t n ≡ s n = same n (omega arith) in
    let below : count n t ≡ count n s = count_same n s t (λ x h. same x (omega arith)) in
    rw (here, below) refl

-- one member more
pub count_added : (n : ℕ) (s t : ℕ → Bool) (r : ℕ) → r < n → s r ≡ false → t r ≡ true → ((x : ℕ) → x < n → x ≢ r → t x ≡ s x) → count n t ≡ count n s + 1
count_added zero s t r r_in was now same = absurd (omega (arith, r_in))
count_added (suc n) s t r r_in was now same =
    elim (eqb_tells r n) [
      | inl h ↦
          let below : count n t ≡ count n s = count_same n s t (λ x x_in. same x (omega (arith, x_in)) (omega (arith, x_in, h.1))) in
          let was_n : s n ≡ false = subst (λ (y : ℕ). s y ≡ false) h.1 was in
          let now_n : t n ≡ true = subst (λ (y : ℕ). t y ≡ true) h.1 now in
          rw (below, was_n, now_n) (omega arith)
      | inr h ↦
          let before : r < n = omega (arith, r_in, h.1) in
          let below : count n t ≡ count n s + 1 = count_added n s t r before was now (λ x x_in other. same x (omega (arith, x_in)) other) in
          let here : t n ≡ s n = same n (omega arith) (λ e. h.1 (sym e)) in
          rw (here, below) (omega arith)
    ]

count_none : (n : ℕ) → count n (λ x. false) ≡ 0
count_none zero = refl
count_none (suc n) = omega (arith, count_none n)

-- what a mark at node r does
pub record Marks (cs : List Constraint) (e : ℕ → ℕ → ℤ) (n target steps number : ℕ) (rank : ℕ → ℕ) : Type 0 where
  pub number_in : number < length cs
  pub left_in : (constraint_at cs number).left < n
  pub right_in : (constraint_at cs number).right < n
  pub tight : IsTight e target (constraint_at cs number)
  pub marked : 0 < rank (constraint_at cs number).left
  pub fresh : rank (constraint_at cs number).right ≡ 0

-- a search begins at its target
pub first_search : (cs : List Constraint) (e : ℕ → ℕ → ℤ) (n target : ℕ) (rank next : ℕ → ℕ) → target < n → rank target ≡ 1 → ((x : ℕ) → x < n → x ≢ target → rank x ≡ 0) → IsSearch cs e n target 1 rank next
first_search cs e n target rank next t_in one none = record {
  start = omega (arith, one);
  onward = λ x x_in on other. absurd (omega (arith, on, none x x_in other));
  ranks = λ x x_in. elim (eqb_tells x target) [ inl h ↦ omega (arith, one, ap rank h.1) | inr h ↦ omega (arith, none x x_in h.1) ];
  counted =
      let on : nat_lt 0 (rank target) ≡ true = rw one (grind (arith, nat_tests)) in
      let off : (x : ℕ) → x < n → x ≢ target → nat_lt 0 (rank x) ≡ false = λ x x_in other. let zero_is : rank x ≡ 0 = none x x_in other in rw zero_is refl in
      omega (arith, count_none n, count_added n (λ x. false) (λ x. nat_lt 0 (rank x)) target t_in refl on off);
}

-- marking keeps the search
pub marked_search : (cs : List Constraint) (e : ℕ → ℕ → ℤ) (n target steps number : ℕ) (rank next rank' next' : ℕ → ℕ) → IsSearch cs e n target steps rank next → Marks cs e n target steps number rank →
    rank' (constraint_at cs number).right ≡ steps + 1 → next' (constraint_at cs number).right ≡ number →
    ((x : ℕ) → x ≢ (constraint_at cs number).right → rank' x ≡ rank x) → ((x : ℕ) → x ≢ (constraint_at cs number).right → next' x ≡ next x) →
    IsSearch cs e n target (steps + 1) rank' next'
marked_search cs e n target steps number rank next rank' next' was marks rank_at next_at rank_else next_else = record { start = start; onward = onward; ranks = ranks; counted = counted }
  where
    at_least : (x : ℕ) → 0 < rank x → 0 < rank' x
    at_least x on = elim (eqb_tells x (constraint_at cs number).right) [
      | inl h ↦ absurd (omega (arith, on, marks.fresh, ap rank h.1))
      | inr h ↦ omega (arith, on, rank_else x h.1)
    ]

    same : (x : ℕ) → 0 < rank x → rank' x ≡ rank x
    same x on = elim (eqb_tells x (constraint_at cs number).right) [
      | inl h ↦ absurd (omega (arith, on, marks.fresh, ap rank h.1))
      | inr h ↦ rank_else x h.1
    ]

    start : 0 < rank' target
    start = at_least target was.start

    ranks : (x : ℕ) → x < n → rank' x ≤ steps + 1
    ranks x x_in = elim (eqb_tells x (constraint_at cs number).right) [
      | inl h ↦ omega (arith, rank_at, ap rank' h.1)
      | inr h ↦ omega (arith, rank_else x h.1, was.ranks x x_in)
    ]

    counted : steps + 1 ≡ count n (λ x. nat_lt 0 (rank' x))
    counted =
        let off : nat_lt 0 (rank (constraint_at cs number).right) ≡ false = rw marks.fresh refl in
        let on : nat_lt 0 (rank' (constraint_at cs number).right) ≡ true = rw rank_at (grind (arith, nat_tests)) in
        let more : count n (λ x. nat_lt 0 (rank' x)) ≡ count n (λ x. nat_lt 0 (rank x)) + 1 =
        count_added n (λ x. nat_lt 0 (rank x)) (λ x. nat_lt 0 (rank' x)) (constraint_at cs number).right marks.right_in off on (λ x x_in h. ap (nat_lt 0) (rank_else x h)) in
        omega (arith, more, was.counted)

    onward_new : (x : ℕ) → x ≡ (constraint_at cs number).right → next' x ≡ number → Onward cs e n target rank' (next' x) x
    onward_new x here going = rw going (record {
      number_in = marks.number_in;
      right_is = sym here;
      left_in = marks.left_in;
      tight = marks.tight;
      marked = at_least (constraint_at cs number).left marks.marked;
      before = omega (arith, same (constraint_at cs number).left marks.marked, was.ranks (constraint_at cs number).left marks.left_in, rank_at, ap rank' here);
    })

    onward_old : (x : ℕ) → next' x ≡ next x → rank' x ≡ rank x → Onward cs e n target rank (next x) x → Onward cs e n target rank' (next' x) x
    onward_old x going ranked old = rw going (record {
      number_in = old.number_in;
      right_is = old.right_is;
      left_in = old.left_in;
      tight = old.tight;
      marked = at_least (constraint_at cs (next x)).left old.marked;
      before = omega (arith, same (constraint_at cs (next x)).left old.marked, ranked, old.before);
    })

    onward : (x : ℕ) → x < n → 0 < rank' x → x ≢ target → Onward cs e n target rank' (next' x) x
    onward x x_in on other = elim (eqb_tells x (constraint_at cs number).right) [
      | inl h ↦ onward_new x h.1 (ap next' h.1 ∙ next_at)
      | inr h ↦ onward_old x (next_else x h.1) (rank_else x h.1) (was.onward x x_in (omega (arith, on, rank_else x h.1)) other)
    ]

-- a search in which nothing is left to mark has reached each node with a path to the target
pub reached : (cs : List Constraint) (n : ℕ) (most : ℤ) (e : ℕ → ℕ → ℤ) (target : ℕ) (rank : ℕ → ℕ) → target < n → IsClosure cs n most e → 0 < rank target →
    ((k : ℕ) → k < length cs → IsDoneAt most e target rank (constraint_at cs k)) →
    (x : ℕ) → x < n → (ks : List ℕ) (s : ℤ) → IsPath cs x ks target s → s ≡ e target x → 0 < rank x
reached cs n most e target rank t_in is start done x x_in [] s (same, none) least = rw same start
reached cs n most e target rank t_in is start done x x_in (k ∷ ks) s (k_in, right_is, rest) least =
    let con = constraint_at cs k in
    let l_in : con.left < n = (is.inside k k_in).0 in
    let near : e target con.left <ℤ most = is.near target con.left t_in l_in ks (s -ℤ con.bound) rest in
    let low : e target con.left ≤ℤ (s -ℤ con.bound) = is.least target con.left t_in l_in ks (s -ℤ con.bound) rest in
    let best : (js : List ℕ) × IsPath cs con.left js target (e target con.left) = is.paths target con.left t_in l_in near in
    let back : (e target con.left +ℤ con.bound) -ℤ con.bound ≡ e target con.left = omega (arith, ints) in
    let over : IsPath cs x (k ∷ best.0) target (e target con.left +ℤ con.bound) = (k_in, right_is, subst (λ (z : ℤ). IsPath cs con.left best.0 target z) (sym back) best.1) in
    let high : e target x ≤ℤ (e target con.left +ℤ con.bound) = is.least target x t_in x_in (k ∷ best.0) (e target con.left +ℤ con.bound) over in
    let onward : 0 < rank con.left = reached cs n most e target rank t_in is start done con.left l_in ks (s -ℤ con.bound) rest (omega (arith, ints, low, high, least)) in
    let tight : e target con.right ≡ con.bound +ℤ e target con.left = rw right_is (omega (arith, ints, low, high, least)) in
    subst (λ (y : ℕ). 0 < rank y) right_is (done k k_in onward near tight)

-- a constraint of the first ones is that of all
pub constraint_taken : (all : List Constraint) (tried k : ℕ) → k < tried → constraint_at (take tried all) k ≡ constraint_at all k
constraint_taken all tried k k_in = get_or-take tried all k (record { left = 0; right = 0; bound = pos 0 }) k_in

read_same : (xs : List ℕ) (i v : ℕ) → i < length xs → get_or (set xs i v) i 0 ≡ v
read_same xs i v i_in = rw get_or-set_same refl

read_other : (xs : List ℕ) (i v k : ℕ) → k ≢ i → get_or (set xs i v) k 0 ≡ get_or xs k 0
read_other xs i v k other = rw get_or-set_other refl

-- at most all nodes are marked
pub few_marked : (cs : List Constraint) (e : ℕ → ℕ → ℤ) (n target steps : ℕ) (rank next : ℕ → ℕ) → IsSearch cs e n target steps rank next → steps ≤ n
few_marked cs e n target steps rank next is = omega (arith, is.counted, count_le n (λ x. nat_lt 0 (rank x)))

-- a mark by constraint k, of a search that is kept in two lists
pub pass_marks : (all : List Constraint) (e : ℕ → ℕ → ℤ) (n target tried k steps : ℕ) (con : Constraint) (rank next rank' next' : List ℕ) →
    IsSearch (take tried all) e n target steps (λ x. get_or rank x 0) (λ x. get_or next x 0) → n ≤ 105 → k < tried → tried ≤ length all → AreInRange n all →
    con ≡ constraint_at all k → length rank ≡ 105 → length next ≡ 105 → IsTight e target con → 0 < get_or rank con.left 0 → get_or rank con.right 0 ≡ 0 →
    rank' ≡ set rank con.right (steps + 1) → next' ≡ set next con.right k → IsSearch (take tried all) e n target (steps + 1) (λ x. get_or rank' x 0) (λ x. get_or next' x 0)
pass_marks all e n target tried k steps con rank next rank' next' was few k_in tried_in range con_is rank_size next_size tight marked fresh rank_is next_is =
    let cs : List Constraint = take tried all in
    let same : con ≡ constraint_at cs k = con_is ∙ sym (constraint_taken all tried k k_in) in
    let size : length cs ≡ tried = omega (arith, length-take tried all, tried_in) in
    let there : IsInRange n con = subst (λ (c : Constraint). IsInRange n c) (sym con_is) (range k (omega (arith, k_in, tried_in))) in
    let P : Constraint → Type 0 = λ c. IsInRange n c → IsTight e target c → 0 < get_or rank c.left 0 → get_or rank c.right 0 ≡ 0 → rank' ≡ set rank c.right (steps + 1) → next' ≡ set next c.right k → c ≡ constraint_at cs k →
    IsSearch cs e n target (steps + 1) (λ x. get_or rank' x 0) (λ x. get_or next' x 0) in
    let at_own : P (constraint_at cs k) = λ inside is_tight is_marked is_fresh rank_to next_to refl_is. marked_search cs e n target steps k (λ x. get_or rank x 0) (λ x. get_or next x 0) (λ x. get_or rank' x 0) (λ x. get_or next' x 0) was
    (record { number_in = omega (arith, size, k_in); left_in = inside.left_in; right_in = inside.right_in; tight = is_tight; marked = is_marked; fresh = is_fresh })
    (ap (λ (m : List ℕ). get_or m (constraint_at cs k).right 0) rank_to ∙ read_same rank (constraint_at cs k).right (steps + 1) (omega (arith, rank_size, few, inside.right_in)))
    (ap (λ (m : List ℕ). get_or m (constraint_at cs k).right 0) next_to ∙ read_same next (constraint_at cs k).right k (omega (arith, next_size, few, inside.right_in)))
    (λ x other. ap (λ (m : List ℕ). get_or m x 0) rank_to ∙ read_other rank (constraint_at cs k).right (steps + 1) x other)
    (λ x other. ap (λ (m : List ℕ). get_or m x 0) next_to ∙ read_other next (constraint_at cs k).right k x other) in
    subst P (sym same) at_own there tight marked fresh rank_is next_is same

-- 1 where a rank says that a node is not marked
abbrev pub unmarked : ℕ → ℕ
unmarked r = cond (r == 0) 1 0

-- a pass marks a node, or `from` is marked then
pub pass_ends : (all : List Constraint) (n : ℕ) (entries : List ℤ) (target from tried steps steps' : ℕ) (rank next rank' next' : List ℕ) →
    target < n → from < n → tried ≤ length all → IsClosure (take tried all) n far (cell entries) → cell entries target from <ℤ far →
    IsSearch (take tried all) (cell entries) n target steps' (λ x. get_or rank' x 0) (λ x. get_or next' x 0) → steps ≤ steps' →
    (steps' ≡ steps → (k : ℕ) → k < tried → IsDoneAt far (cell entries) target (λ x. get_or rank' x 0) (constraint_at all k)) →
    get_or rank from 0 ≡ 0 → (n - steps') + unmarked (get_or rank' from 0) < (n - steps) + unmarked (get_or rank from 0)
pass_ends all n entries target from tried steps steps' rank next rank' next' t_in f_in tried_in is near found more done off =
    let few : steps' ≤ n = few_marked (take tried all) (cell entries) n target steps' (λ x. get_or rank' x 0) (λ x. get_or next' x 0) found in
    let was : unmarked (get_or rank from 0) ≡ 1 = rw off refl in
    elim (eqb_tells steps' steps) [
      | inl h ↦
          let size : length (take tried all) ≡ tried = omega (arith, length-take tried all, tried_in) in
          let all_done : (k : ℕ) → k < length (take tried all) → IsDoneAt far (cell entries) target (λ x. get_or rank' x 0) (constraint_at (take tried all) k) = λ k k_in.
          let low : k < tried = omega (arith, k_in, size) in
          subst (λ (c : Constraint). IsDoneAt far (cell entries) target (λ x. get_or rank' x 0) c) (sym (constraint_taken all tried k low)) (done h.1 k low) in
          let way : (ks : List ℕ) × IsPath (take tried all) from ks target (cell entries target from) = is.paths target from t_in f_in near in
          let on : 0 < get_or rank' from 0 = reached (take tried all) n far (cell entries) target (λ x. get_or rank' x 0) t_in is found.start all_done from f_in way.0 (cell entries target from) way.1 refl in
          let now : unmarked (get_or rank' from 0) ≡ 0 = grind (arith, nat_tests, on) in
          rw (was, now) (omega (arith, h.1))
      | inr h ↦
          let now : unmarked (get_or rank' from 0) ≤ 1 = grind (arith, nat_tests) in
          rw was (omega (arith, now, few, more, h.1))
    ]
