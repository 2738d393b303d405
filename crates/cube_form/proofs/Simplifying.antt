-- What dropping the literals that others entail keeps.
use Rattle.std.proofs.Common.{◌≡◌, ◌⊎◌, ◌↔◌, ℕ, zero, suc, ◌<◌, ◌≤◌, Bool, true, false, not, List, length, refl, sym, ap, ◌∙◌, subst, arith, inl, inr}
use Rattle.std.specs.Prelude.{◌&&◌, IsTrue, Contains}
use Rattle.std.specs.List.{list_all, remove}
use Rattle.std.proofs.lemmas.List.Edits.{length-remove}
use Rattle.cub_base.proofs.Bools.{true_or_false}
use Rattle.cub_proto.specs.declared.literal.Term.TheVariants as Term
use Rattle.cub_proto.specs.declared.literal.Lit.{Lit}
use Rattle.cub_proto.specs.declared.literal.Lit.TheVariants.{FinIn}
use Rattle.cub_proto.specs.declared.protocol.Protocol.{Protocol}
use Rattle.cub_proto.specs.Signature.{Signature}
use Rattle.cub_proto.specs.Truth.{is_true, all_true}
use Rattle.cub_cube.specs.Normal.{is_normal}
use Rattle.cub_cube.specs.Meaning.{SameMeaning, IsConsistent}
use Rattle.theory_laws.specs.Fitting.{AreFitting}
use Rattle.cub_cube.specs.declared.cube.Cube.{Cube}
use Rattle.cube_form.specs.Simple.{literal_at, IsIdle, Drops, IsSimplified}
use Rattle.cube_form.proofs.Removal.{one_and_others, all_removed, removed_is_there, removed_normal, removed_fitting, removed_consistent}

length_left : (lits : List Lit) (k : ℕ) → suc k ≤ length lits → k ≤ length (remove lits k)
length_left lits k h = let n = length-remove lits k (omega arith) in omega (arith, n)

-- there is one outcome
pub drops_one : (p : Protocol) (width k : ℕ) (lits xs ys : List Lit) → Drops p width k lits xs → Drops p width k lits ys → xs ≡ ys
drops_one p width zero lits xs ys h g = h ∙ sym g
drops_one p width (suc k) lits xs ys (inl h) (inl g) = drops_one p width k (remove lits k) xs ys h.1 g.1
drops_one p width (suc k) lits xs ys (inl h) (inr g) = absurd (g.0 h.0)
drops_one p width (suc k) lits xs ys (inr h) (inl g) = absurd (h.0 g.0)
drops_one p width (suc k) lits xs ys (inr h) (inr g) = drops_one p width k lits xs ys h.1 g.1

pub simplified_one : (p : Protocol) (c a b : Cube) → IsSimplified p c a → IsSimplified p c b → a ≡ b
simplified_one p c a b h k =
    let width : a.width ≡ b.width = h.width ∙ sym k.width in
    let lits : a.lits ≡ b.lits = drops_one p c.width (length c.lits) c.lits a.lits b.lits h.lits k.lits in
    λ i. record { width = width i; lits = lits i }

-- a test that all literals pass, all that are left pass
pub drops_all : (f : Lit → Bool) (p : Protocol) (width k : ℕ) (lits simple : List Lit) → Drops p width k lits simple → list_all f lits ≡ true → list_all f simple ≡ true
drops_all f p width zero lits simple h all = ap (list_all f) h ∙ all
drops_all f p width (suc k) lits simple (inl h) all = drops_all f p width k (remove lits k) simple h.1 (all_removed f lits k all)
drops_all f p width (suc k) lits simple (inr h) all = drops_all f p width k lits simple h.1 all

pub drops_normal : (sig : Signature) (p : Protocol) (width k : ℕ) (lits simple : List Lit) → Drops p width k lits simple → IsTrue (is_normal sig lits) → IsTrue (is_normal sig simple)
drops_normal sig p width zero lits simple h normal = subst (λ (ls : List Lit). IsTrue (is_normal sig ls)) (sym h) normal
drops_normal sig p width (suc k) lits simple (inl h) normal = drops_normal sig p width k (remove lits k) simple h.1 (removed_normal sig lits k normal)
drops_normal sig p width (suc k) lits simple (inr h) normal = drops_normal sig p width k lits simple h.1 normal

pub drops_is_there : (p : Protocol) (width k : ℕ) (lits simple : List Lit) (l : Lit) → Drops p width k lits simple → Contains simple l → Contains lits l
drops_is_there p width zero lits simple l h there = subst (λ (ls : List Lit). Contains ls l) h there
drops_is_there p width (suc k) lits simple l (inl h) there = removed_is_there lits k l (drops_is_there p width k (remove lits k) simple l h.1 there)
drops_is_there p width (suc k) lits simple l (inr h) there = drops_is_there p width k lits simple l h.1 there

-- the meaning stays without an entailed literal
idle_same : (p : Protocol) (width : ℕ) (lits : List Lit) (k : ℕ) → k < length lits → IsIdle p width lits k → SameMeaning p width (remove lits k) lits
idle_same p width lits k below idle s places at =
    by (true_or_false (all_true s places (remove lits k))) ∙ sym (one_and_others (is_true s places) lits k (FinIn (Term.Global 0) 0) below)
  where
    by : (all_true s places (remove lits k) ≡ true) ⊎ (all_true s places (remove lits k) ≡ false)
        → all_true s places (remove lits k) ≡ (is_true s places (literal_at lits k) && all_true s places (remove lits k))
    by (inl holds) =
        ap (λ b. b && all_true s places (remove lits k))
        (sym (idle s places at.state (record { one_each = at.one_each; processes = at.processes; holds = holds })))
    by (inr fails) = fails ∙ sym (ap (λ b. is_true s places (literal_at lits k) && b) fails ∙ none (is_true s places (literal_at lits k)))
      where
        none : (b : Bool) → (b && false) ≡ false
        none true = refl
        none false = refl

pub drops_same : (p : Protocol) (width k : ℕ) (lits simple : List Lit) → k ≤ length lits → Drops p width k lits simple → SameMeaning p width simple lits
drops_same p width zero lits simple within h s places at = ap (all_true s places) h
drops_same p width (suc k) lits simple within (inl h) s places at =
    drops_same p width k (remove lits k) simple (length_left lits k within) h.1 s places at ∙ idle_same p width lits k (omega arith) h.0 s places at
drops_same p width (suc k) lits simple within (inr h) s places at = drops_same p width k lits simple (omega arith) h.1 s places at

-- ---- the loop
-- what one literal's turn leaves
abbrev pub Turn : Protocol → ℕ → ℕ → List Lit → List Lit → Type 0
Turn p width k old new = (IsIdle p width old k × (new ≡ remove old k)) ⊎ ((IsIdle p width old k → ⊥) × (new ≡ old))

pub turn_drops : (p : Protocol) (width k : ℕ) (old new simple : List Lit) → Turn p width k old new → Drops p width k new simple → Drops p width (suc k) old simple
turn_drops p width k old new simple (inl h) rest = inl (h.0, subst (λ (ls : List Lit). Drops p width k ls simple) h.1 rest)
turn_drops p width k old new simple (inr h) rest = inr (h.0, subst (λ (ls : List Lit). Drops p width k ls simple) h.1 rest)

pub turn_length : (p : Protocol) (width k : ℕ) (old new : List Lit) → k < length old → Turn p width k old new → k ≤ length new
turn_length p width k old new below (inl h) = subst (λ (ls : List Lit). k ≤ length ls) (sym h.1) (length_left old k (omega arith))
turn_length p width k old new below (inr h) = subst (λ (ls : List Lit). k ≤ length ls) (sym h.1) (omega arith)

pub turn_fitting : (p : Protocol) (width k : ℕ) (old new : List Lit) → AreFitting p width old → Turn p width k old new → AreFitting p width new
turn_fitting p width k old new fitting (inl h) = subst (AreFitting p width) (sym h.1) (removed_fitting p width old k fitting)
turn_fitting p width k old new fitting (inr h) = subst (AreFitting p width) (sym h.1) fitting

pub turn_met : (p : Protocol) (width k : ℕ) (old new : List Lit) → IsConsistent p width old → Turn p width k old new → IsConsistent p width new
turn_met p width k old new met (inl h) = subst (λ (ls : List Lit). IsConsistent p width ls) (sym h.1) (removed_consistent p width old k met)
turn_met p width k old new met (inr h) = subst (λ (ls : List Lit). IsConsistent p width ls) (sym h.1) met

-- an answer by the negation
pub by_negation : (b : Bool) (P Q : Type 0) → (IsTrue b ↔ P) → (Q ↔ (P → ⊥)) → IsTrue (not b) ↔ Q
by_negation true P Q exact entailed = ((λ h. cc), (λ q. absurd (entailed.0 q (exact.0 refl))))
by_negation false P Q exact entailed = ((λ h. entailed.1 (λ x. let e : true ≡ false = sym (exact.1 x) in cc)), (λ q. refl))
