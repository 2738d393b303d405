-- Which slots the picks of choices are for.
use Rattle.std.proofs.Common.{◌≡◌, ℕ, Bool, true, false, List, [], ◌∷◌, length, Some, refl, sym, ap, ◌∙◌, subst, inl, inr}
use Rattle.std.specs.Prelude.{map, ◌==◌, if◌then◌else◌, IsTrue, slice_index}
use Rattle.cub_proto.specs.declared.literal.Term.{Term}
use Rattle.cub_proto.specs.declared.state.Slot.{Slot}
use Rattle.cub_proto.specs.declared.state.Val.{Val}
use Rattle.cub_proto.specs.Fits.{place_fits}
use Rattle.cub_proto.specs.Truth.{slot_of}
use Rattle.cub_proto.specs.Effect.{same_slot}
use Rattle.cub_base.proofs.Bools.{same_refl, same_is, less_is}
use Rattle.cub_base.proofs.Members.{Has, Distinct}
use Rattle.updates.specs.declared.choice.Choice.{Choice}
use Rattle.piece_choices.proofs.PlacingLemmas.{places_apart}
use Rattle.piece_laws.specs.Event.{picked_value, pick_by}

pub slot_itself : (a : Slot) → same_slot a a ≡ true
slot_itself (Slot.Global g) = same_refl g
slot_itself (Slot.Cell a i) = ap (λ b. if b then i == i else false) (same_refl a) ∙ same_refl i

pub slot_is : (a b : Slot) → same_slot a b ≡ true → a ≡ b
slot_is (Slot.Global g) (Slot.Global h) e = ap (λ n. Slot.Global n) (same_is g h e)
slot_is (Slot.Global g) (Slot.Cell b j) e = cc
slot_is (Slot.Cell a i) (Slot.Global h) e = cc
slot_is (Slot.Cell a i) (Slot.Cell b j) e = by (a == b) refl e
  where
    by : (t : Bool) → (a == b) ≡ t → (if t then i == j else false) ≡ true → Slot.Cell a i ≡ Slot.Cell b j
    by true first second = ap (λ n. Slot.Cell n i) (same_is a b first) ∙ ap (λ n. Slot.Cell b n) (same_is i j second)
    by false first second = cc

-- different terms lie in different slots
slots_apart : (places : List ℕ) → Distinct places → (t u : Term) → IsTrue (place_fits (length places) t) → IsTrue (place_fits (length places) u) → slot_of places t ≡ slot_of places u → t ≡ u
slots_apart places distinct (Term.Global g) (Term.Global h) a b e = let same : g ≡ h = cc in ap (λ n. Term.Global n) same
slots_apart places distinct (Term.Global g) (Term.Cell c q) a b e = cc
slots_apart places distinct (Term.Cell c p) (Term.Global h) a b e = cc
slots_apart places distinct (Term.Cell c p) (Term.Cell d q) a b e =
    let arrays : c ≡ d = cc in
    let processes : slice_index places p ≡ slice_index places q = cc in
    let same : p ≡ q = places_apart places distinct p q (less_is p (length places) a) (less_is q (length places) b) processes in
    ap (λ n. Term.Cell n p) arrays ∙ ap (λ n. Term.Cell d n) same

-- each choice picks for its own slot
pub pick_own : (choices : List Choice) (places : List ℕ) (d : Choice) → Distinct places → Distinct (map (λ c. c.term) choices) → ((c : Choice) → Has choices c → IsTrue (place_fits (length places) c.term)) → Has choices d
    → pick_by choices places (slot_of places d.term) ≡ picked_value places d.pick
pick_own [] places d distinct terms fits none = absurd none
pick_own (c ∷ cs) places d distinct terms fits (inl same) =
    subst (λ e. pick_by (c ∷ cs) places (slot_of places e.term) ≡ picked_value places e.pick) same
    (ap (λ b. if b then picked_value places c.pick else pick_by cs places (slot_of places c.term)) (slot_itself (slot_of places c.term)))
pick_own (c ∷ cs) places d distinct terms fits (inr later) =
    by (same_slot (slot_of places c.term) (slot_of places d.term)) refl (pick_own cs places d distinct terms.1 (λ e h. fits e (inr h)) later)
  where
    in_terms : (xs : List Choice) → Has xs d → Has (map (λ e. e.term) xs) d.term
    in_terms [] none = absurd none
    in_terms (y ∷ ys) (inl same) = inl (ap (λ e. e.term) same)
    in_terms (y ∷ ys) (inr at) = inr (in_terms ys at)

    by : (b : Bool) → same_slot (slot_of places c.term) (slot_of places d.term) ≡ b → pick_by cs places (slot_of places d.term) ≡ picked_value places d.pick
        → (if b then picked_value places c.pick else pick_by cs places (slot_of places d.term)) ≡ picked_value places d.pick
    by true e rest =
        let same = slots_apart places distinct c.term d.term (fits c (inl refl)) (fits d (inr later)) (slot_is (slot_of places c.term) (slot_of places d.term) e) in
        absurd (terms.0 (subst (Has (map (λ y. y.term) cs)) (sym same) (in_terms cs later)))
    by false e rest = rest

-- and whatever is picked is picked by a choice
pub pick_from : (choices : List Choice) (places : List ℕ) (slot : Slot) (v : Val) → pick_by choices places slot ≡ Some v → (d : Choice) × Has choices d × (slot_of places d.term ≡ slot) × (picked_value places d.pick ≡ Some v)
pick_from [] places slot v h = cc
pick_from (c ∷ cs) places slot v h = by (same_slot (slot_of places c.term) slot) refl h (pick_from cs places slot v)
  where
    by : (b : Bool) → same_slot (slot_of places c.term) slot ≡ b → (if b then picked_value places c.pick else pick_by cs places slot) ≡ Some v
        → (pick_by cs places slot ≡ Some v → (d : Choice) × Has cs d × (slot_of places d.term ≡ slot) × (picked_value places d.pick ≡ Some v))
        → (d : Choice) × Has (c ∷ cs) d × (slot_of places d.term ≡ slot) × (picked_value places d.pick ≡ Some v)
    by true e h rest = (c, inl refl, slot_is (slot_of places c.term) slot e, h)
    by false e h rest = let found = rest h in (found.0, inr found.1, found.2, found.3)
