-- Terms in a list: equality, places, and how many distinct ones there can be.
use Rattle.std.proofs.Common.{◌≡◌, ℕ, ◌<◌, ◌≤◌, ◌+◌, ◌==◌, Bool, true, false, ◌&&◌, ◌||◌, cond, zero, suc, List, [], ◌∷◌, ◌++◌, length, get_or, refl, arith, ap, subst, sym, ◌∙◌, inl, inr, ◌⊎◌, ◌≢◌, Contains, All}
use Rattle.std.specs.Cmp.{IsEquivalence}
use Rattle.std.specs.List.{IsDistinct, list_any}
use Rattle.std.proofs.lemmas.Bool.{eqb-true, eq-eqb}
use Rattle.std.proofs.lemmas.Map.Keys.{apart_from_distinct, IsDistinct-push}
use Rattle.std.proofs.lemmas.List.Elements.{All-push}
use Rattle.std.proofs.lemmas.Map.Made.{length-le_from_is_member}
use Rattle.cub_proto.specs.declared.literal.Term.{Term}
use Rattle.cub_proto.specs.declared.literal.Term.TheVariants.{Global, Cell}
use Rattle.cub_proto.specs.declared.literal.ISide.{ISide}
use Rattle.cub_proto.specs.declared.literal.ISide.TheVariants.{Zero, At}
use Rattle.std.proofs.Common.{length-append}
use Rattle.std.proofs.Math.Seq.{get_or-append_seam}
use Rattle.cub_proto.specs.declared.literal.Lit.{Lit}
use Rattle.cub_proto.specs.declared.literal.Lit.TheVariants.{FinIn, FinEq, FinNe, ProcEq, ProcNe, Diff}
use Rattle.diff_close.specs.Literals.{IsAmong, MentionsOnly}
use Rattle.diff_close.specs.Names.{term_eq, index_of, node_of}
use Rattle.diff_close.specs.AreNames.{AreNames}

and_true : (b d : Bool) → (b && d) ≡ true → (b ≡ true) × (d ≡ true)
and_true true d h = (refl, h)
and_true false d h = absurd (cc)

pub term_eq_true : (a b : Term) → term_eq a b ≡ true → a ≡ b
term_eq_true (Global g) (Global h) e = ap Global (eqb-true g h e)
term_eq_true (Global g) (Cell b q) e = absurd (cc)
term_eq_true (Cell a p) (Global h) e = absurd (cc)
term_eq_true (Cell a p) (Cell b q) e =
    let both : ((a == b) ≡ true) × ((p == q) ≡ true) = and_true (a == b) (p == q) e in
    let first : a ≡ b = eqb-true a b both.0 in
    let second : p ≡ q = eqb-true p q both.1 in
    cc

pub term_eq_same : (a : Term) → term_eq a a ≡ true
term_eq_same (Global g) = eq-eqb g g refl
term_eq_same (Cell a p) = let e : (a == a) ≡ true = eq-eqb a a refl in let f : (p == p) ≡ true = eq-eqb p p refl in rw (e, f) refl

pub bool_cases : (b : Bool) → (b ≡ true) ⊎ (b ≡ false)
bool_cases true = inl refl
bool_cases false = inr refl

pub term_eq_laws : IsEquivalence term_eq
term_eq_laws = record { refl = term_eq_same; symm = symm; congr = λ x y z e. ap (λ w. term_eq w z) (term_eq_true x y e) }
  where
    symm : (x y : Term) → term_eq x y ≡ term_eq y x
    symm x y =
        elim (bool_cases (term_eq x y)) [
          | inl e ↦ let same : x ≡ y = term_eq_true x y e in e ∙ sym (subst (λ (w : Term). term_eq w x ≡ true) same (term_eq_same x))
          | inr e ↦ elim (bool_cases (term_eq y x)) [
            | inl f ↦ let same : y ≡ x = term_eq_true y x f in let on : term_eq x y ≡ true = subst (λ (w : Term). term_eq w y ≡ true) same (term_eq_same y) in absurd (cc)
            | inr f ↦ e ∙ sym f
          ]
        ]

-- where the term is, and that it is there
pub index_bound : (xs : List Term) (t : Term) → index_of xs t ≤ length xs
index_bound [] t = omega arith
index_bound (x ∷ xs) t = elim (term_eq x t) as (λ b. cond b 0 (suc (index_of xs t)) ≤ suc (length xs)) [ true ↦ omega arith | false ↦ omega (arith, index_bound xs t) ]

pub index_in : (xs : List Term) (t d : Term) → index_of xs t < length xs → get_or xs (index_of xs t) d ≡ t
index_in [] t d h = absurd (omega (arith, h))
index_in (x ∷ xs) t d h =
    elim (bool_cases (term_eq x t)) [
      | inl e ↦ rw e (term_eq_true x t e)
      | inr e ↦
          let here : index_of (x ∷ xs) t ≡ suc (index_of xs t) = rw e refl in
          let low : index_of xs t < length xs = omega (arith, h, here) in
          let next : get_or (x ∷ xs) (suc (index_of xs t)) d ≡ get_or xs (index_of xs t) d = refl in
          ap (λ i. get_or (x ∷ xs) i d) here ∙ next ∙ index_in xs t d low
    ]

pub index_first : (xs : List Term) (t d : Term) (k : ℕ) → k < length xs → get_or xs k d ≡ t → index_of xs t ≤ k
index_first [] t d k h e = absurd (omega (arith, h))
index_first (x ∷ xs) t d zero h e =
    let same : term_eq x t ≡ true = rw e (term_eq_same t) in
    rw same (omega arith)
index_first (x ∷ xs) t d (suc k) h e =
    elim (bool_cases (term_eq x t)) [
      | inl same ↦ rw same (omega arith)
      | inr other ↦ rw other (omega (arith, index_first xs t d k (omega (arith, h)) e))
    ]

-- a term that stands in the list is found
pub index_found : (xs : List Term) (t : Term) → Contains xs t → index_of xs t < length xs
index_found xs t (k, k_in, here) = omega (arith, k_in, index_first xs t t k k_in here)

pub contains_index : (xs : List Term) (t : Term) → index_of xs t < length xs → Contains xs t
contains_index xs t h = (index_of xs t, h, index_in xs t t h)

-- in a list of distinct terms each one is at its own place
pub index_own : (xs : List Term) (d : Term) → IsDistinct term_eq xs → (i : ℕ) → i < length xs → index_of xs (get_or xs i d) ≡ i
index_own xs d distinct i i_in =
    let t : Term = get_or xs i d in
    let low : index_of xs t ≤ i = index_first xs t d i i_in refl in
    let here : get_or xs (index_of xs t) d ≡ t = index_in xs t d (omega (arith, low, i_in)) in
    let cases : (index_of xs t < i) ⊎ (index_of xs t ≡ i) = search (arith, low) in
    elim cases [
      | inl less ↦
          let apart : term_eq (get_or xs (index_of xs t) d) (get_or xs i d) ≡ false = apart_from_distinct term_eq xs (index_of xs t) i d distinct less i_in in
          let same : term_eq (get_or xs (index_of xs t) d) (get_or xs i d) ≡ true = rw here (term_eq_same t) in
          absurd (cc)
      | inr same ↦ same
    ]

-- sides that are numbered have different nodes
pub node_same : (xs : List Term) (a b : ISide) → IsAmong xs a → IsAmong xs b → node_of xs a ≡ node_of xs b → a ≡ b
node_same xs Zero Zero p q e = refl
node_same xs Zero (At t) p q e = absurd (omega (arith, e))
node_same xs (At s) Zero p q e = absurd (omega (arith, e))
node_same xs (At s) (At t) p q e =
    let same : index_of xs s ≡ index_of xs t = omega (arith, e) in
    let first : get_or xs (index_of xs s) s ≡ s = index_in xs s s (index_found xs s p) in
    let second : get_or xs (index_of xs t) s ≡ t = index_in xs t s (index_found xs t q) in
    ap At (sym first ∙ ap (λ i. get_or xs i s) same ∙ second)

pub node_in : (xs : List Term) (a : ISide) → IsAmong xs a → node_of xs a < length xs + 1
node_in xs Zero p = omega arith
node_in xs (At t) p = omega (arith, index_found xs t p)

-- what is read inside a list does not depend on the default
pub read_any : {X : Type 0} (xs : List X) (i : ℕ) (d e : X) → i < length xs → get_or xs i d ≡ get_or xs i e
read_any [] i d e h = absurd (omega (arith, h))
read_any (x ∷ xs) zero d e h = refl
read_any (x ∷ xs) (suc i) d e h = read_any xs i d e (omega (arith, h))

-- the side of a node
abbrev pub side_of : List Term → ℕ → ISide
side_of xs zero = Zero
side_of xs (suc i) = At (get_or xs i (Global 0))

pub side_among : (xs : List Term) (x : ℕ) → x < length xs + 1 → IsAmong xs (side_of xs x)
side_among xs zero h = tt
side_among xs (suc i) h = let i_in : i < length xs = omega (arith, h) in (i, i_in, read_any xs i (get_or xs i (Global 0)) (Global 0) i_in)

pub node_own : (xs : List Term) → IsDistinct term_eq xs → (x : ℕ) → x < length xs + 1 → node_of xs (side_of xs x) ≡ x
node_own xs distinct zero h = refl
node_own xs distinct (suc i) h = omega (arith, index_own xs (Global 0) distinct i (omega (arith, h)))

member_found : (xs : List Term) (q : Term) → list_any (term_eq q) xs ≡ true → index_of xs q < length xs
member_found [] q h = absurd (cc)
member_found (x ∷ xs) q h =
    elim (bool_cases (term_eq x q)) [
      | inl e ↦ rw e (omega arith)
      | inr e ↦
          let flipped : term_eq q x ≡ false = term_eq_laws.symm q x ∙ e in
          let rest : list_any (term_eq q) xs ≡ true = rw flipped at h in
          rw e (omega (arith, member_found xs q rest))
    ]

pub contains_member : (xs : List Term) (q : Term) (k : ℕ) → k < length xs → get_or xs k q ≡ q → list_any (term_eq q) xs ≡ true
contains_member [] q k h e = absurd (omega (arith, h))
contains_member (x ∷ xs) q zero h e = let on : term_eq q x ≡ true = rw e (term_eq_same q) in rw on refl
contains_member (x ∷ xs) q (suc k) h e =
    let rest : list_any (term_eq q) xs ≡ true = contains_member xs q k (omega (arith, h)) e in
    elim (term_eq q x) as (λ b. (b || list_any (term_eq q) xs) ≡ true) [ true ↦ refl | false ↦ rest ]

-- no more terms are numbered than are mentioned
pub few_names : (all names : List Term) → AreNames all names → length names ≤ length all
few_names all names are = length-le_from_is_member term_eq_laws names all are.distinct member
  where
    member : (q : Term) → list_any (term_eq q) names ≡ true → list_any (term_eq q) all ≡ true
    member q h =
        let found : index_of names q < length names = member_found names q h in
        let one : Contains all (get_or names (index_of names q) q) = are.among (index_of names q) q found in
        let same : get_or names (index_of names q) q ≡ q = index_in names q q found in
        let there : Contains all q = subst (λ (w : Term). Contains all w) same one in
        contains_member all q there.0 there.1 there.2

-- where the first i terms are others, the term is no earlier
pub index_from : (xs : List Term) (t d : Term) (i : ℕ) → i ≤ length xs → ((k : ℕ) → k < i → term_eq (get_or xs k d) t ≡ false) → i ≤ index_of xs t
index_from xs t d i i_in others =
    let cases : (index_of xs t < i) ⊎ (i ≤ index_of xs t) = search arith in
    elim cases [
      | inl less ↦
          let here : get_or xs (index_of xs t) d ≡ t = index_in xs t d (omega (arith, less, i_in)) in
          let off : term_eq (get_or xs (index_of xs t) d) t ≡ false = others (index_of xs t) less in
          let on : term_eq (get_or xs (index_of xs t) d) t ≡ true = rw here (term_eq_same t) in
          absurd (cc)
      | inr most ↦ most
    ]

-- the first term that is the same is at its place
pub index_here : (xs : List Term) (t d : Term) (i : ℕ) → i < length xs → ((k : ℕ) → k < i → term_eq (get_or xs k d) t ≡ false) → term_eq (get_or xs i d) t ≡ true → i ≡ index_of xs t
index_here xs t d i i_in others on =
    omega (arith, index_first xs t d i i_in (term_eq_true (get_or xs i d) t on), index_from xs t d i (omega (arith, i_in)) others)

pub index_none : (xs : List Term) (t d : Term) → ((k : ℕ) → k < length xs → term_eq (get_or xs k d) t ≡ false) → length xs ≡ index_of xs t
index_none xs t d others = omega (arith, index_bound xs t, index_from xs t d (length xs) (omega arith) others)

-- a term that is not there can be added
pub names_push : (all names : List Term) (t : Term) → AreNames all names → Contains all t → index_of names t ≡ length names → AreNames all (names ++ t ∷ [])
names_push all names t are there absent = record {
  distinct = IsDistinct-push term_eq_laws names t are.distinct (off names t absent);
  among = All-push (Contains all) names t are.among there;
}
  where
    off : (xs : List Term) (q : Term) → index_of xs q ≡ length xs → list_any (term_eq q) xs ≡ false
    off xs q none = elim (bool_cases (list_any (term_eq q) xs)) [
      | inl on ↦ absurd (omega (arith, none, member_found xs q on))
      | inr no_one ↦ no_one
    ]

pub side_pushed : (all names : List Term) (t : Term) (side : ISide) → side ≡ At t → AreNames all names → IsAmong all side → index_of names t ≡ length names → AreNames all (names ++ t ∷ [])
side_pushed all names t side is are among absent = names_push all names t are (subst (λ (x : ISide). IsAmong all x) is among) absent

pub side_now_named : (names : List Term) (t : Term) (side : ISide) → side ≡ At t → IsAmong (names ++ t ∷ []) side
side_now_named names t side is =
    subst (λ (x : ISide). IsAmong (names ++ t ∷ []) x) (sym is) (length names, omega (arith, length-append names (t ∷ [])), get_or-append_seam names t [] t)

pub side_was_named : (names : List Term) (t : Term) (side : ISide) → side ≡ At t → (index_of names t ≡ length names → ⊥) → IsAmong names side
side_was_named names t side is there =
    subst (λ (x : ISide). IsAmong names x) (sym is) (contains_index names t (omega (arith, there, index_bound names t)))

-- there is room for one term more
pub room_left : (all names : List Term) (t : Term) (side : ISide) → side ≡ At t → AreNames all names → IsAmong all side → index_of names t ≡ length names → length names + 1 ≤ length all
room_left all names t side is are among absent = omega (arith, length-append names (t ∷ []), few_names all (names ++ t ∷ []) (side_pushed all names t side is are among absent))

pub among_more : (xs ys : List Term) → ((t : Term) → Contains xs t → Contains ys t) → (a : ISide) → IsAmong xs a → IsAmong ys a
among_more xs ys grows Zero among = tt
among_more xs ys grows (At t) among = grows t among

pub mentions_more : (xs ys : List Term) → ((t : Term) → Contains xs t → Contains ys t) → (l : Lit) → MentionsOnly xs l → MentionsOnly ys l
mentions_more xs ys grows (FinIn t mask) only = tt
mentions_more xs ys grows (FinEq a b) only = tt
mentions_more xs ys grows (FinNe a b) only = tt
mentions_more xs ys grows (ProcEq a b) only = tt
mentions_more xs ys grows (ProcNe a b) only = tt
mentions_more xs ys grows (Diff a b bound) only = (among_more xs ys grows a only.0, among_more xs ys grows b only.1)

pub none_named : (all : List Term) → AreNames all []
unfolding IsDistinct
none_named all = record { distinct = tt; among = λ k d k_in. absurd (omega (arith, k_in)) }
