-- That picks rise is known from neighbours alone.
use Rattle.std.proofs.Common.{◌≡◌, ℕ, zero, suc, ◌-◌, ◌<◌, ◌≤◌, Bool, true, false, List, [], ◌∷◌, length, get_or, drop, refl, sym, ap, ◌∙◌, arith}
use Rattle.std.specs.List.{list_all}
use Rattle.std.proofs.lemmas.Bool.{and_parts, and_from, and_right}
use Rattle.std.proofs.lemmas.Bool.Decides.{nat_tests}
use Rattle.cub_proto.specs.declared.state.Slot.{Slot}
use Rattle.cub_proto.specs.declared.event.Chosen.{Chosen}
use Rattle.cub_proto.specs.Legal.{slot_before, picks_rise}

pub slot_before_trans : (a b c : Slot) → slot_before a b ≡ true → slot_before b c ≡ true → slot_before a c ≡ true
slot_before_trans (Slot.Global f) (Slot.Global g) (Slot.Global h) x y = grind (arith, nat_tests)
slot_before_trans (Slot.Global f) (Slot.Global g) (Slot.Cell c k) x y = refl
slot_before_trans (Slot.Global f) (Slot.Cell b j) (Slot.Global h) x y = cc
slot_before_trans (Slot.Global f) (Slot.Cell b j) (Slot.Cell c k) x y = refl
slot_before_trans (Slot.Cell a i) (Slot.Global g) (Slot.Global h) x y = cc
slot_before_trans (Slot.Cell a i) (Slot.Global g) (Slot.Cell c k) x y = cc
slot_before_trans (Slot.Cell a i) (Slot.Cell b j) (Slot.Global h) x y = cc
slot_before_trans (Slot.Cell a i) (Slot.Cell b j) (Slot.Cell c k) x y = grind (arith, nat_tests)

all_after : (a b : Slot) (cs : List Chosen) → slot_before a b ≡ true → list_all (λ c. slot_before b c.slot) cs ≡ true → list_all (λ c. slot_before a c.slot) cs ≡ true
all_after a b [] x h = refl
all_after a b (c ∷ cs) x h =
    let parts = and_parts (slot_before b c.slot) (list_all (λ c. slot_before b c.slot) cs) h in
    and_from (slot_before a c.slot) (list_all (λ c. slot_before a c.slot) cs) (slot_before_trans a b c.slot x parts.0) (all_after a b cs x parts.1)

rise_both : (c d : Chosen) (ds : List Chosen) → slot_before c.slot d.slot ≡ true → (r : Bool) → picks_rise (d ∷ ds) ≡ r → picks_rise (c ∷ d ∷ ds) ≡ r
rise_both c d ds x true h =
    let parts = and_parts (list_all (λ e. slot_before d.slot e.slot) ds) (picks_rise ds) h in
    let first = and_from (slot_before c.slot d.slot) (list_all (λ e. slot_before c.slot e.slot) ds) x (all_after c.slot d.slot ds x parts.0) in
    and_from (list_all (λ e. slot_before c.slot e.slot) (d ∷ ds)) (picks_rise (d ∷ ds)) first h
rise_both c d ds x false h = and_right (list_all (λ e. slot_before c.slot e.slot) (d ∷ ds)) (picks_rise (d ∷ ds)) h

rise_more : (c d : Chosen) (ds : List Chosen) → slot_before c.slot d.slot ≡ true → picks_rise (c ∷ d ∷ ds) ≡ picks_rise (d ∷ ds)
rise_more c d ds x = rise_both c d ds x (picks_rise (d ∷ ds)) refl

rise_from : (cs : List Chosen) (i : ℕ) (d : Chosen) → suc i < length cs → slot_before (get_or cs i d).slot (get_or cs (suc i) d).slot ≡ true → picks_rise (drop i cs) ≡ picks_rise (drop (suc i) cs)
rise_from [] i d h x = absurd (omega arith)
rise_from (c ∷ []) i d h x = absurd (omega arith)
rise_from (c ∷ e ∷ cs) zero d h x = rise_more c e cs x
rise_from (c ∷ e ∷ cs) (suc i) d h x = rise_from (e ∷ cs) i d (omega arith) x

-- two neighbours that rise
pub rise_at : (cs : List Chosen) (i : ℕ) (c d e : Chosen) → 1 ≤ i → i < length cs → c ≡ get_or cs (i - 1) e → d ≡ get_or cs i e → slot_before c.slot d.slot ≡ true → picks_rise (drop (i - 1) cs) ≡ picks_rise (drop i cs)
rise_at cs zero c d e low high first second x = absurd (omega arith)
rise_at cs (suc i) c d e low high first second x =
    let down : suc i - 1 ≡ i = omega arith in
    let first' : c ≡ get_or cs i e = first ∙ ap (λ k. get_or cs k e) down in
    ap (λ k. picks_rise (drop k cs)) down
    ∙ rise_from cs i e high (ap (λ v. slot_before v.slot (get_or cs (suc i) e).slot) (sym first') ∙ ap (λ v. slot_before c.slot v.slot) (sym second) ∙ x)

pub rise_short : (cs : List Chosen) → length cs ≤ 1 → picks_rise cs ≡ true
rise_short [] h = refl
rise_short (c ∷ []) h = refl
rise_short (c ∷ d ∷ ds) h = absurd (omega arith)
