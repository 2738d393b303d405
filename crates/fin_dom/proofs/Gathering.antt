-- Masks after one more literal.
use Rattle.std.proofs.Common.{◌≡◌, ◌≢◌, ℕ, ◌+◌, ◌*◌, ◌-◌, ◌<◌, ◌≤◌, ◌^◌, Bool, true, false, not, ◌&&◌, ltb, eqb, List, [], ◌∷◌, ◌++◌, length, take, get_or, inl, inr, IsTrue, refl, sym, ap, ◌∙◌, arith}
use Rattle.std.specs.List.{list_all}
use Rattle.std.proofs.Math.ListN.{set, length-set}
use Rattle.std.proofs.lemmas.List.{get_or-set_same, get_or-set_other}
use Rattle.std.proofs.lemmas.Bool.{and_parts, and_from, ltb-true, lt-ltb, cases_eq}
use Rattle.cub_proto.specs.declared.literal.Term.{Term}
use Rattle.cub_proto.specs.declared.literal.Term.TheVariants.{Global, Cell}
use Rattle.cub_proto.specs.declared.literal.Lit.{Lit}
use Rattle.cub_proto.specs.declared.literal.Lit.TheVariants.{FinIn, FinEq, FinNe, ProcEq, ProcNe, Diff}
use Rattle.cub_proto.specs.Signature.{Signature, constructors_at}
use Rattle.cub_proto.specs.Truth.{has_bit}
use Rattle.fin_dom.specs.Solution.{Solves, HasSolution, has_constructor, is_inside, is_true}
use Rattle.fin_dom.specs.Table.{number_of, is_numbered, has_entry}
use Rattle.fin_dom.specs.Links.{AreMasks}
use Rattle.fin_dom.specs.Gathered.{Meets, IsLeft, HasBoth, IsTermWithin, AreBothMet, AreGathered, is_member_true}
use Rattle.fin_dom.proofs.Masks.{no_bit, bit_inside, first_bits}
use Rattle.cub_base.proofs.Conjunctions.{list_all_front, list_all_back, list_all_join, list_all_single, list_all_one, list_all_prefix}
use Rattle.std.proofs.lemmas.Nat.Bits.{bit_at-zero}

pub number_of_same : (s t : Term) → IsTrue (is_numbered s) → IsTrue (is_numbered t) → number_of s ≡ number_of t → s ≡ t
number_of_same (Global g) (Global h) f k e = ap Global e
number_of_same (Global g) (Cell b q) f k e = absurd (omega (arith, ltb-true g 64 f))
number_of_same (Cell a p) (Global h) f k e = absurd (omega (arith, ltb-true h 64 k))
number_of_same (Cell a p) (Cell b q) f k e =
    let lp : p < 16 = ltb-true p 16 f in
    let lq : q < 16 = ltb-true q 16 k in
    let first : a ≡ b = omega arith in
    let second : p ≡ q = omega arith in
    ap (λ (x : ℕ). Cell x p) first ∙ ap (λ (y : ℕ). Cell b y) second

pub entry_numbered : (terms : ℕ) (t : Term) → IsTrue (has_entry terms t) → IsTrue (is_numbered t)
entry_numbered terms t e = (and_parts _ _ e).0

pub entry_below : (terms : ℕ) (t : Term) → IsTrue (has_entry terms t) → number_of t < terms
entry_below terms t e = ltb-true _ _ (and_parts (is_numbered t) (ltb (number_of t) terms) e).1

-- after a write of what both have
pub meets : (masks : List ℕ) (i mask left : ℕ) → i < length masks → 0 < left → left < 2 ^ 64 → ((c : ℕ) → has_bit left c ≡ (has_bit (get_or masks i 0) c && has_bit mask c))
    → Meets i mask masks (set masks i left)
meets masks i mask left inside some fits bits =
    let here : get_or (set masks i left) i 0 ≡ left = get_or-set_same masks i left 0 inside in
    record {
      size = length-set masks i left;
      bits = λ c. ap (λ (m : ℕ). has_bit m c) here ∙ bits c;
      some = omega arith;
      fits = omega arith;
      others = λ n other. get_or-set_other masks i n left 0 other;
    }

pub meets_nothing : (m i mask left : ℕ) → left ≡ 0 → ((c : ℕ) → has_bit left c ≡ (has_bit m c && has_bit mask c)) → (c : ℕ) → has_bit m c ≡ true → has_bit mask c ≡ true → ⊥
meets_nothing m i mask left none bits c e f =
    let now : has_bit left c ≡ true = bits c ∙ and_from _ _ e f in
    no_bit 0 c (bit_at-zero c) (rw (← none) now)

meets_masks : (i mask : ℕ) (old new : List ℕ) → Meets i mask old new → AreMasks old → AreMasks new
meets_masks i mask old new m ok n below = elim (cases_eq n i) [
  | inl here ↦ rw here (m.some, m.fits)
  | inr other ↦ rw (m.others n other) (ok n (omega (arith, m.size)))
]

-- what is left and in the mask stays
meets_keeps : (s : Term) (mask : ℕ) (old new : List ℕ) → Meets (number_of s) mask old new → IsTrue (is_numbered s) → (v : Term → ℕ) → has_bit mask (v s) ≡ true
    → (t : Term) → IsTrue (is_numbered t) → IsLeft old v t → IsLeft new v t
meets_keeps s mask old new m ns v has t nt left = elim (cases_eq (number_of t) (number_of s)) [
  | inl here ↦
      let same : t ≡ s = number_of_same t s nt ns here in
      let left_s : IsLeft old v s = rw (← same) left in
      let now : IsLeft new v s = m.bits (v s) ∙ and_from _ _ left_s has in
      rw same now
  | inr other ↦ rw (m.others (number_of t) other) left
]

-- and nothing else
meets_fewer : (i mask : ℕ) (old new : List ℕ) → Meets i mask old new → (n c : ℕ) → has_bit (get_or new n 0) c ≡ true → has_bit (get_or old n 0) c ≡ true
meets_fewer i mask old new m n c left = elim (cases_eq n i) [
  | inl here ↦
      let now : has_bit (get_or new i 0) c ≡ true = rw (← here) left in
      rw here (and_parts (has_bit (get_or old i 0) c) (has_bit mask c) (sym (m.bits c) ∙ now)).0
  | inr other ↦ rw (← m.others n other) left
]

meets_within : (i mask : ℕ) (old new : List ℕ) → Meets i mask old new → (v : Term → ℕ) → IsTermWithin new v → IsTermWithin old v
meets_within i mask old new m v within t entry =
    meets_fewer i mask old new m (number_of t) (v t) (within t (rw m.size entry))

meets_mask : (t : Term) (mask : ℕ) (old new : List ℕ) → Meets (number_of t) mask old new → IsTrue (has_entry (length old) t) → (v : Term → ℕ) → IsTermWithin new v → has_bit mask (v t) ≡ true
meets_mask t mask old new m entry v within =
    (and_parts (has_bit (get_or old (number_of t) 0) (v t)) (has_bit mask (v t)) (sym (m.bits (v t)) ∙ within t (rw m.size entry))).1

-- both terms of a link have met the constructors of their sorts
pub both_met : (sig : Signature) (a b : Term) (old mid new : List ℕ) → IsTrue (has_entry (length old) a) → IsTrue (has_entry (length old) b)
    → Meets (number_of a) (2 ^ constructors_at sig a - 1) old mid → Meets (number_of b) (2 ^ constructors_at sig b - 1) mid new → AreBothMet sig a b old new
both_met sig a b old mid new ea eb first second = record {
  size = second.size ∙ first.size;
  masks_fit = λ ok. meets_masks _ _ mid new second (meets_masks _ _ old mid first ok);
  keeps = λ v has t entry left.
      let nt = entry_numbered (length old) t entry in
      meets_keeps b (2 ^ constructors_at sig b - 1) mid new second (entry_numbered (length old) b eb) v (first_bits (constructors_at sig b) (v b) ∙ has.1) t nt
      (meets_keeps a (2 ^ constructors_at sig a - 1) old mid first (entry_numbered (length old) a ea) v (first_bits (constructors_at sig a) (v a) ∙ has.0) t nt left);
  fewer = λ v within. meets_within _ _ old mid first v (meets_within _ _ mid new second v within);
  inside = λ v within. (
    sym (first_bits (constructors_at sig a) (v a)) ∙ meets_mask a _ old mid first ea v (meets_within _ _ mid new second v within),
    sym (first_bits (constructors_at sig b) (v b)) ∙ meets_mask b _ mid new second (rw first.size eb) v within,
  );
}

pub one_refuted : (sig : Signature) (t : Term) (masks : List ℕ) → ((c : ℕ) → has_bit (get_or masks (number_of t) 0) c ≡ true → has_bit (2 ^ constructors_at sig t - 1) c ≡ true → ⊥)
    → (v : Term → ℕ) → IsTrue (has_constructor sig v t) → IsLeft masks v t → ⊥
one_refuted sig t masks none v has left = none (v t) left (first_bits (constructors_at sig t) (v t) ∙ has)

pub second_refuted : (sig : Signature) (a b : Term) (old mid : List ℕ) → IsTrue (has_entry (length old) a) → IsTrue (has_entry (length old) b)
    → Meets (number_of a) (2 ^ constructors_at sig a - 1) old mid
    → ((c : ℕ) → has_bit (get_or mid (number_of b) 0) c ≡ true → has_bit (2 ^ constructors_at sig b - 1) c ≡ true → ⊥)
    → (v : Term → ℕ) → HasBoth sig v a b → IsLeft old v b → ⊥
second_refuted sig a b old mid ea eb first none v has left =
    one_refuted sig b mid none v has.1 (meets_keeps a (2 ^ constructors_at sig a - 1) old mid first (entry_numbered (length old) a ea) v
    (first_bits (constructors_at sig a) (v a) ∙ has.0) b (entry_numbered (length old) b eb) left)

-- ---- a solution of the literals up to the next

pub solves_front : (sig : Signature) (xs ys : List Lit) (v : Term → ℕ) → Solves sig (xs ++ ys) v → Solves sig xs v
solves_front sig xs ys v s = record { inside = list_all_front (is_inside sig v) xs ys s.inside; holds = list_all_front (is_true v) xs ys s.holds }

pub next_inside : (sig : Signature) (xs : List Lit) (x : Lit) (v : Term → ℕ) → Solves sig (xs ++ x ∷ []) v → is_inside sig v x ≡ true
next_inside sig xs x v s = list_all_single (is_inside sig v) x (list_all_back (is_inside sig v) xs (x ∷ []) s.inside)

pub next_holds : (sig : Signature) (xs : List Lit) (x : Lit) (v : Term → ℕ) → Solves sig (xs ++ x ∷ []) v → is_true v x ≡ true
next_holds sig xs x v s = list_all_single (is_true v) x (list_all_back (is_true v) xs (x ∷ []) s.holds)

pub gathered_in : (sig : Signature) (lits : List Lit) (t : Term) (mask : ℕ) (old new : List ℕ) → IsTrue (has_entry (length old) t) → mask < 2 ^ constructors_at sig t
    → AreGathered sig lits old → Meets (number_of t) mask old new → AreGathered sig (lits ++ FinIn t mask ∷ []) new
gathered_in sig lits t mask old new entry small g m = record {
  masks_fit = meets_masks _ _ old new m g.masks_fit;
  keeps = λ v s u eu below.
      let before : IsTrue (has_entry (length old) u) = rw (← m.size) eu in
      meets_keeps t mask old new m (entry_numbered (length old) t entry) v (next_holds sig lits (FinIn t mask) v s) u (entry_numbered (length old) u before)
      (g.keeps v (solves_front sig lits (FinIn t mask ∷ []) v s) u before below);
  inside = λ v within.
      list_all_join (is_inside sig v) lits (FinIn t mask ∷ []) (g.inside v (meets_within _ _ old new m v within))
      (list_all_one (is_inside sig v) (FinIn t mask) (lt-ltb _ _ (bit_inside mask (constructors_at sig t) (v t) small (meets_mask t mask old new m entry v within))));
  members = λ v within.
      list_all_join (is_member_true v) lits (FinIn t mask ∷ []) (g.members v (meets_within _ _ old new m v within))
      (list_all_one (is_member_true v) (FinIn t mask) (meets_mask t mask old new m entry v within));
}

pub refuted_in : (sig : Signature) → ((t : Term) → constructors_at sig t ≤ 64) → (lits : List Lit) (t : Term) (mask : ℕ) (masks : List ℕ) → IsTrue (has_entry (length masks) t)
    → AreGathered sig lits masks → ((c : ℕ) → has_bit (get_or masks (number_of t) 0) c ≡ true → has_bit mask c ≡ true → ⊥) → HasSolution sig (lits ++ FinIn t mask ∷ []) → ⊥
refuted_in sig few lits t mask masks entry g none solution =
    let v = solution.0 in
    let below : v t < constructors_at sig t = ltb-true _ _ (next_inside sig lits (FinIn t mask) v solution.1) in
    let least : constructors_at sig t ≤ 64 = few t in
    none (v t) (g.keeps v (solves_front sig lits (FinIn t mask ∷ []) v solution.1) t entry (omega arith)) (next_holds sig lits (FinIn t mask) v solution.1)

pub gathered_link : (sig : Signature) (lits : List Lit) (lit : Lit) (a b : Term) (old new : List ℕ) → AreGathered sig lits old → AreBothMet sig a b old new
    → ((v : Term → ℕ) → is_inside sig v lit ≡ (has_constructor sig v a && has_constructor sig v b)) → ((v : Term → ℕ) → is_member_true v lit ≡ true)
    → AreGathered sig (lits ++ lit ∷ []) new
gathered_link sig lits lit a b old new g m terms member = record {
  masks_fit = m.masks_fit g.masks_fit;
  keeps = λ v s u eu below.
      let before : IsTrue (has_entry (length old) u) = rw (← m.size) eu in
      m.keeps v (and_parts _ _ (sym (terms v) ∙ next_inside sig lits lit v s)) u before (g.keeps v (solves_front sig lits (lit ∷ []) v s) u before below);
  inside = λ v within.
      let both = m.inside v within in
      list_all_join (is_inside sig v) lits (lit ∷ []) (g.inside v (m.fewer v within)) (list_all_one (is_inside sig v) lit (terms v ∙ and_from _ _ both.0 both.1));
  members = λ v within. list_all_join (is_member_true v) lits (lit ∷ []) (g.members v (m.fewer v within)) (list_all_one (is_member_true v) lit (member v));
}

pub refuted_link : (sig : Signature) → ((t : Term) → constructors_at sig t ≤ 64) → (lits : List Lit) (lit : Lit) (a b : Term) (masks : List ℕ) → IsTrue (has_entry (length masks) a)
    → IsTrue (has_entry (length masks) b) → AreGathered sig lits masks → ((v : Term → ℕ) → HasBoth sig v a b → IsLeft masks v a → IsLeft masks v b → ⊥)
    → ((v : Term → ℕ) → is_inside sig v lit ≡ (has_constructor sig v a && has_constructor sig v b)) → HasSolution sig (lits ++ lit ∷ []) → ⊥
refuted_link sig few lits lit a b masks ea eb g none terms solution =
    let v = solution.0 in
    let both = and_parts (has_constructor sig v a) (has_constructor sig v b) (sym (terms v) ∙ next_inside sig lits lit v solution.1) in
    let la : v a < constructors_at sig a = ltb-true _ _ both.0 in
    let lb : v b < constructors_at sig b = ltb-true _ _ both.1 in
    let fa : constructors_at sig a ≤ 64 = few a in
    let fb : constructors_at sig b ≤ 64 = few b in
    let front = solves_front sig lits (lit ∷ []) v solution.1 in
    none v (both.0, both.1) (g.keeps v front a ea (omega arith)) (g.keeps v front b eb (omega arith))

-- a literal of another kind says nothing
pub gathered_other : (sig : Signature) (lits : List Lit) (lit : Lit) (masks : List ℕ) → AreGathered sig lits masks
    → ((v : Term → ℕ) → is_inside sig v lit ≡ true) → ((v : Term → ℕ) → is_member_true v lit ≡ true) → AreGathered sig (lits ++ lit ∷ []) masks
gathered_other sig lits lit masks g inside member = record {
  masks_fit = g.masks_fit;
  keeps = λ v s. g.keeps v (solves_front sig lits (lit ∷ []) v s);
  inside = λ v within. list_all_join (is_inside sig v) lits (lit ∷ []) (g.inside v within) (list_all_one (is_inside sig v) lit (inside v));
  members = λ v within. list_all_join (is_member_true v) lits (lit ∷ []) (g.members v within) (list_all_one (is_member_true v) lit (member v));
}

pub other_inside : (sig : Signature) (v : Term → ℕ) (lit : Lit) → ((t : Term) (m : ℕ) → lit ≡ FinIn t m → ⊥) → ((a b : Term) → lit ≡ FinEq a b → ⊥) → ((a b : Term) → lit ≡ FinNe a b → ⊥)
    → is_inside sig v lit ≡ true
other_inside sig v (FinIn t mask) f g h = absurd (f t mask refl)
other_inside sig v (FinEq a b) f g h = absurd (g a b refl)
other_inside sig v (FinNe a b) f g h = absurd (h a b refl)
other_inside sig v (ProcEq a b) f g h = refl
other_inside sig v (ProcNe a b) f g h = refl
other_inside sig v (Diff a b bound) f g h = refl

pub other_member : (v : Term → ℕ) (lit : Lit) → ((t : Term) (m : ℕ) → lit ≡ FinIn t m → ⊥) → is_member_true v lit ≡ true
other_member v (FinIn t mask) f = absurd (f t mask refl)
other_member v (FinEq a b) f = refl
other_member v (FinNe a b) f = refl
other_member v (ProcEq a b) f = refl
other_member v (ProcNe a b) f = refl
other_member v (Diff a b bound) f = refl

-- solutions of the literals up to the next of the second list
pub solution_prefix : (sig : Signature) (xs ys : List Lit) (i : ℕ) (d : Lit) → i < length ys → HasSolution sig (xs ++ ys) → HasSolution sig ((xs ++ take i ys) ++ get_or ys i d ∷ [])
solution_prefix sig xs ys i d inside solution = (
  solution.0,
  record {
    inside = list_all_prefix (is_inside sig solution.0) xs ys i d inside solution.1.inside;
    holds = list_all_prefix (is_true solution.0) xs ys i d inside solution.1.holds;
  },
)
