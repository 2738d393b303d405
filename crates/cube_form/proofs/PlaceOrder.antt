-- The order of places is total, and insertion keeps a list in order.
use Rattle.std.proofs.Common.{◌≡◌, ◌≢◌, ℕ, suc, ◌+◌, ◌<◌, Bool, true, false, List, [], ◌∷◌, ◌++◌, length, get_or, refl, sym, ap, ◌∙◌, subst, arith, inl, inr}
use Rattle.std.specs.Prelude.{IsTrue, All, AllPairs, nat_lt}
use Rattle.std.specs.Cmp.{IsTotalOrder}
use Rattle.std.specs.Cmp.Lexicographic.{slice_cmp}
use Rattle.std.specs.List.{list_all}
use Rattle.std.specs.Ordering.{is_lt, nat_cmp, ordering_reverse}
use Rattle.std.specs.declared.cmp.Ordering.{Ordering}
use Rattle.std.specs.declared.cmp.Ordering.TheVariants.{Less, Equal, Greater}
use Rattle.std.proofs.lemmas.Cmp.{then_total, on_total, lists_total, nat_cmp_total, tied_itself}
use Rattle.std.proofs.lemmas.List.{length_push, get_or_append_left, get_or_default}
use Rattle.std.proofs.lemmas.List.Elements.{All-push, All-weaker}
use Rattle.std.proofs.lemmas.List.Quantifiers.{all_pairs_push}
use Rattle.cub_base.proofs.Bools.{is_less, less_is}
use Rattle.cub_base.proofs.Elements.{all_from, from_all}
use Rattle.cub_base.proofs.Members.{Has, has_Contains, contains_Has, all_has}
use Rattle.cub_proto.specs.declared.literal.Lit.{Lit}
use Rattle.cub_proto.specs.Order.{lit_cmp}
use Rattle.cub_cube.proofs.Orders.{lit_cmp_total, then_both, numbers_equal}
use Rattle.cub_proto.specs.declared.protocol.Protocol.{Protocol}
use Rattle.cub_proto.specs.StateOf.{signature_of}
use Rattle.cub_cube.specs.declared.cube.Cube.{Cube}
use Rattle.cub_cube.specs.Normal.{normal_form}
use Rattle.cub_cube.specs.Rename.{renamed_all, IsInjection}
use Rattle.cub_cube.proofs.Placing.{place_of, each_is_item}
use Rattle.cube_form.specs.Name.{own_lits, place_cmp, turned, AreInOrder, IsNamed}

pub place_cmp_total : (lits : List Lit) → IsTotalOrder (place_cmp lits)
place_cmp_total lits = then_total (on_total (own_lits lits) (lists_total lit_cmp_total)) nat_cmp_total

pub places_equal : (lits : List Lit) (p q : ℕ) → place_cmp lits p q ≡ Equal → p ≡ q
places_equal lits p q h = numbers_equal p q (then_both (slice_cmp lit_cmp (own_lits lits p) (own_lits lits q)) (nat_cmp p q) h).1

-- each place comes before all later ones
abbrev pub Rise : List Lit → List ℕ → Type 0
Rise lits xs = AllPairs (λ p q. place_cmp lits p q ≡ Less) xs

-- no place stands twice in a list that rises
pub rise_apart : (lits : List Lit) (xs : List ℕ) → Rise lits xs → AllPairs (λ p q. p ≢ q) xs
rise_apart lits xs rise i j d order below same =
    let less : place_cmp lits (get_or xs i d) (get_or xs j d) ≡ Less = rise i j d order below in
    let tie : place_cmp lits (get_or xs i d) (get_or xs j d) ≡ Equal = subst (λ q. place_cmp lits (get_or xs i d) q ≡ Equal) same (tied_itself (place_cmp_total lits) (get_or xs i d)) in
    let no : Less ≡ Equal = sym less ∙ tie in cc

at_end : (xs : List ℕ) (x d : ℕ) → get_or (xs ++ x ∷ []) (length xs) d ≡ x
at_end [] x d = refl
at_end (y ∷ xs) x d = at_end xs x d

front_rises : (lits : List Lit) (xs : List ℕ) (x : ℕ) → Rise lits (xs ++ x ∷ []) → Rise lits xs
front_rises lits xs x rise i j d order below =
    let a = get_or_append_left xs (x ∷ []) d i (omega arith) in
    let b = get_or_append_left xs (x ∷ []) d j below in
    let long = length_push xs x in
    subst (λ p. place_cmp lits p (get_or xs j d) ≡ Less) a (subst (λ q. place_cmp lits (get_or (xs ++ x ∷ []) i d) q ≡ Less) b (rise i j d order (omega (arith, long, below))))

pub front_before : (lits : List Lit) (xs : List ℕ) (x : ℕ) → Rise lits (xs ++ x ∷ []) → All (λ p. place_cmp lits p x ≡ Less) xs
front_before lits xs x rise k d below =
    let a = get_or_append_left xs (x ∷ []) d k below in
    let b = at_end xs x d in
    let long = length_push xs x in
    subst (λ p. place_cmp lits p x ≡ Less) a (subst (λ q. place_cmp lits (get_or (xs ++ x ∷ []) k d) q ≡ Less) b (rise k (length xs) d below (omega (arith, long))))

-- a greater place that does not come before another comes behind it
behind : (lits : List Lit) (p q : ℕ) → q < p → is_lt (place_cmp lits p q) ≡ false → place_cmp lits q p ≡ Less
behind lits p q less h = by (place_cmp lits p q) refl h
  where
    by : (o : Ordering) → place_cmp lits p q ≡ o → is_lt o ≡ false → place_cmp lits q p ≡ Less
    by Less e not_less = cc
    by Equal e not_less = let same = places_equal lits p q e in absurd (omega arith)
    by Greater e not_less = (place_cmp_total lits).antisymm q p ∙ ap ordering_reverse e

-- a place that is put before the last one: what was put among the others stays before it
pub put_before : (lits : List Lit) (rest inserted : List ℕ) (last place : ℕ) → Rise lits (rest ++ last ∷ []) → is_lt (place_cmp lits place last) ≡ true
    → Rise lits inserted → ((test : ℕ → Bool) → IsTrue (list_all test rest) → IsTrue (test place) → IsTrue (list_all test inserted)) → Rise lits (inserted ++ last ∷ [])
put_before lits rest inserted last place old comes new items =
    all_pairs_push (λ p q. place_cmp lits p q ≡ Less) inserted last new
    (All-weaker (λ p. IsTrue (is_lt (place_cmp lits p last))) (λ p. place_cmp lits p last ≡ Less) (λ p h. is_less_order (place_cmp lits p last) h) inserted
    (all_from (λ p. is_lt (place_cmp lits p last)) inserted
    (items (λ p. is_lt (place_cmp lits p last)) (from_all (λ p. is_lt (place_cmp lits p last)) rest (λ k d below. ap is_lt (front_before lits rest last old k d below))) comes)))
  where
    is_less_order : (o : Ordering) → IsTrue (is_lt o) → o ≡ Less
    is_less_order Less h = refl
    is_less_order Equal h = cc
    is_less_order Greater h = cc

-- a place that is put behind the last one
pub put_behind : (lits : List Lit) (rest : List ℕ) (last place : ℕ) → Rise lits (rest ++ last ∷ []) → All (λ p. p < place) (rest ++ last ∷ [])
    → is_lt (place_cmp lits place last) ≡ false → Rise lits ((rest ++ last ∷ []) ++ place ∷ [])
put_behind lits rest last place old below comes =
    let end = at_end rest last 0 in
    let long = length_push rest last in
    let less : last < place = subst (λ p. p < place) end (below (length rest) 0 (omega (arith, long))) in
    let after : place_cmp lits last place ≡ Less = behind lits place last less comes in
    all_pairs_push (λ p q. place_cmp lits p q ≡ Less) (rest ++ last ∷ []) place old
    (All-push (λ p. place_cmp lits p place ≡ Less) rest last
    (All-weaker (λ p. place_cmp lits p last ≡ Less) (λ p. place_cmp lits p place ≡ Less) (λ p h. (place_cmp_total lits).trans p last place h after) rest (front_before lits rest last old))
    after)

-- with a greater place all are below the next number
pub below_next : (xs new : List ℕ) (n : ℕ) → All (λ p. p < n) xs → ((test : ℕ → Bool) → IsTrue (list_all test xs) → IsTrue (test n) → IsTrue (list_all test new)) → All (λ p. p < n + 1) new
below_next xs new n below items =
    All-weaker (λ p. IsTrue (nat_lt p (n + 1))) (λ p. p < n + 1) (λ p h. less_is p (n + 1) h) new
    (all_from (λ p. nat_lt p (n + 1)) new
    (items (λ p. nat_lt p (n + 1)) (from_all (λ p. nat_lt p (n + 1)) xs (λ k d inside. is_less (get_or xs k d) (n + 1) (let h = below k d inside in omega arith))) (is_less n (n + 1) (omega arith))))

pub in_order : (lits : List Lit) (width n : ℕ) (xs : List ℕ) → n ≡ width → length xs ≡ n → Rise lits xs → All (λ p. p < n) xs → AreInOrder lits width xs
in_order lits width n xs same size rise below = record {
  each = record { one_each = size ∙ same; within = subst (λ m. All (λ p. p < m) xs) same below; apart = rise_apart lits xs rise };
  rise = rise;
}

-- ---- one order
not_both : (lits : List Lit) (p q : ℕ) → place_cmp lits p q ≡ Less → place_cmp lits q p ≡ Less → ⊥
not_both lits p q h k = let e : Less ≡ Greater = sym h ∙ (place_cmp_total lits).antisymm p q ∙ ap ordering_reverse k in cc

not_itself : (lits : List Lit) (p : ℕ) → place_cmp lits p p ≡ Less → ⊥
not_itself lits p h = let e : Less ≡ Equal = sym h ∙ tied_itself (place_cmp_total lits) p in cc

head_before : (lits : List Lit) (x : ℕ) (xs : List ℕ) → Rise lits (x ∷ xs) → (q : ℕ) → Has xs q → place_cmp lits x q ≡ Less
head_before lits x xs rise q there = let found = has_Contains xs q there in subst (λ m. place_cmp lits x m ≡ Less) found.2 (rise 0 (suc found.0) q (omega arith) (omega (arith, found.1)))

tail_rises : (lits : List Lit) (x : ℕ) (xs : List ℕ) → Rise lits (x ∷ xs) → Rise lits xs
tail_rises lits x xs rise i j d order below = rise (suc i) (suc j) d (omega arith) (omega arith)

pub rise_one : (lits : List Lit) (xs ys : List ℕ) → Rise lits xs → Rise lits ys → ((q : ℕ) → Has xs q → Has ys q) → ((q : ℕ) → Has ys q → Has xs q) → xs ≡ ys
rise_one lits [] [] h k there back = refl
rise_one lits [] (y ∷ ys) h k there back = absurd (back y (inl refl))
rise_one lits (x ∷ xs) [] h k there back = absurd (there x (inl refl))
rise_one lits (x ∷ xs) (y ∷ ys) h k there back =
    let rest = rise_one lits xs ys (tail_rises lits x xs h) (tail_rises lits y ys k)
    (λ q has. only_there q has (there q (inr has))) (λ q has. only_back q has (back q (inr has))) in
    let first = heads (there x (inl refl)) (back y (inl refl)) in
    cc
  where
    heads : Has (y ∷ ys) x → Has (x ∷ xs) y → x ≡ y
    heads (inl same) g = sym same
    heads (inr later) (inl same) = same
    heads (inr later) (inr other) = absurd (not_both lits x y (head_before lits x xs h y other) (head_before lits y ys k x later))

    only_there : (q : ℕ) → Has xs q → Has (y ∷ ys) q → Has ys q
    only_there q has (inl same) =
        absurd (not_itself lits q (subst (λ m. place_cmp lits m q ≡ Less) (heads (there x (inl refl)) (back y (inl refl)) ∙ same) (head_before lits x xs h q has)))
    only_there q has (inr later) = later

    only_back : (q : ℕ) → Has ys q → Has (x ∷ xs) q → Has xs q
    only_back q has (inl same) =
        absurd (not_itself lits q (subst (λ m. place_cmp lits m q ≡ Less) (sym (heads (there x (inl refl)) (back y (inl refl))) ∙ same) (head_before lits y ys k q has)))
    only_back q has (inr later) = later

-- the places below a width are in order in one way
pub order_one : (lits : List Lit) (width : ℕ) (xs ys : List ℕ) → AreInOrder lits width xs → AreInOrder lits width ys → xs ≡ ys
order_one lits width xs ys h k = rise_one lits xs ys h.rise k.rise (move xs ys h.each k.each) (move ys xs k.each h.each)
  where
    move : (olds bs : List ℕ) → IsInjection width width olds → IsInjection width width bs → (q : ℕ) → Has olds q → Has bs q
    move olds bs one other q has =
        let below : q < width = all_has (λ p. p < width) olds q one.within has in
        let item = each_is_item width bs other q below in
        contains_Has bs q (place_of bs q, item.0, get_or_default bs (place_of bs q) q 0 item.0 ∙ item.1)

pub named_one : (p : Protocol) (c a b : Cube) (q r : List ℕ) → IsNamed p c q a → IsNamed p c r b → a ≡ b
named_one p c a b q r h k =
    let places : q ≡ r = order_one c.lits c.width q r h.order k.order in
    let width : a.width ≡ b.width = h.width ∙ sym k.width in
    let lits : a.lits ≡ b.lits = h.lits ∙ ap (λ (s : List ℕ). normal_form (signature_of p) (renamed_all (turned s) c.lits)) places ∙ sym k.lits in
    λ i. record { width = width i; lits = lits i }
