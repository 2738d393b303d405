-- A list without one of its items.
use Rattle.std.proofs.Common.{◌≡◌, ◌⊎◌, ℕ, zero, suc, ◌<◌, Bool, true, List, [], ◌∷◌, length, get_or, take, drop, refl, ap, ◌∙◌, subst, arith, inl, inr}
use Rattle.std.specs.Prelude.{◌&&◌, IsTrue, Contains}
use Rattle.std.specs.List.{list_all, remove, insert}
use Rattle.std.proofs.lemmas.List.{take-append-drop}
use Rattle.std.proofs.lemmas.List.Elements.{Contains-append_left, Contains-append_right, Contains-append_cases}
use Rattle.std.specs.Ordering.{is_lt}
use Rattle.cub_base.proofs.Bools.{and_left, and_right, and_both, and_swap}
use Rattle.cub_base.proofs.Conjunctions.{list_all_front, list_all_back, list_all_join}
use Rattle.cub_proto.specs.declared.literal.Lit.{Lit}
use Rattle.cub_proto.specs.declared.protocol.Protocol.{Protocol}
use Rattle.cub_proto.specs.StateOf.{signature_of}
use Rattle.cub_proto.specs.Fits.{literal_fits, is_bounded}
use Rattle.cub_proto.specs.Truth.{is_true}
use Rattle.cub_proto.specs.Signature.{Signature}
use Rattle.cub_cube.specs.Normal.{subject_cmp, subjects_rise, is_plain, is_normal}
use Rattle.cub_cube.specs.Meaning.{IsConsistent}
use Rattle.theory_laws.specs.Fitting.{AreFitting, greatest_size}

-- a test of all items is that of one and of the others
pub one_and_others : {X : Type 0} (f : X → Bool) (xs : List X) (k : ℕ) (d : X) → k < length xs → list_all f xs ≡ (f (get_or xs k d) && list_all f (remove xs k))
one_and_others f [] k d below = absurd (omega arith)
one_and_others f (x ∷ xs) zero d below = refl
one_and_others f (x ∷ xs) (suc k) d below =
    ap (λ b. f x && b) (one_and_others f xs k d (omega arith)) ∙ and_swap (f x) (f (get_or xs k d)) (list_all f (remove xs k))

pub all_removed : {X : Type 0} (f : X → Bool) (xs : List X) (k : ℕ) → list_all f xs ≡ true → list_all f (remove xs k) ≡ true
all_removed f xs k h =
    list_all_join f (take k xs) (drop (suc k) xs)
    (list_all_front f (take k xs) (drop k xs) (ap (list_all f) (take-append-drop k xs) ∙ h))
    (list_all_back f (take (suc k) xs) (drop (suc k) xs) (ap (list_all f) (take-append-drop (suc k) xs) ∙ h))

pub removed_is_there : {X : Type 0} (xs : List X) (k : ℕ) (x : X) → Contains (remove xs k) x → Contains xs x
removed_is_there {X} xs k x h = by (Contains-append_cases (take k xs) (drop (suc k) xs) x h)
  where
    by : Contains (take k xs) x ⊎ Contains (drop (suc k) xs) x → Contains xs x
    by (inl front) = subst (λ (ys : List X). Contains ys x) (take-append-drop k xs) (Contains-append_left (take k xs) (drop k xs) x front)
    by (inr back) = subst (λ (ys : List X). Contains ys x) (take-append-drop (suc k) xs) (Contains-append_right (take (suc k) xs) (drop (suc k) xs) x back)

pub removed_fitting : (p : Protocol) (width : ℕ) (lits : List Lit) (k : ℕ) → AreFitting p width lits → AreFitting p width (remove lits k)
removed_fitting p width lits k h = record {
  narrow = h.narrow;
  fit = all_removed (literal_fits (signature_of p) width) lits k h.fit;
  bounded = all_removed (is_bounded greatest_size) lits k h.bounded;
}

pub removed_consistent : (p : Protocol) (width : ℕ) (lits : List Lit) (k : ℕ) → IsConsistent p width lits → IsConsistent p width (remove lits k)
removed_consistent p width lits k (s, state, (places, sat)) =
    (s, state, (places, record { one_each = sat.one_each; processes = sat.processes; holds = all_removed (is_true s places) lits k sat.holds }))

-- a rising list rises without one of its literals
rises_removed : (lits : List Lit) (k : ℕ) → IsTrue (subjects_rise lits) → IsTrue (subjects_rise (remove lits k))
rises_removed [] zero h = refl
rises_removed [] (suc k) h = refl
rises_removed (l ∷ ls) zero h = and_right (list_all (λ m. is_lt (subject_cmp l m)) ls) (subjects_rise ls) h
rises_removed (l ∷ ls) (suc k) h =
    and_both (list_all (λ m. is_lt (subject_cmp l m)) (remove ls k)) (subjects_rise (remove ls k))
    (all_removed (λ m. is_lt (subject_cmp l m)) ls k (and_left (list_all (λ m. is_lt (subject_cmp l m)) ls) (subjects_rise ls) h))
    (rises_removed ls k (and_right (list_all (λ m. is_lt (subject_cmp l m)) ls) (subjects_rise ls) h))

pub removed_normal : (sig : Signature) (lits : List Lit) (k : ℕ) → IsTrue (is_normal sig lits) → IsTrue (is_normal sig (remove lits k))
removed_normal sig lits k h =
    and_both (list_all (is_plain sig) (remove lits k)) (subjects_rise (remove lits k))
    (all_removed (is_plain sig) lits k (and_left (list_all (is_plain sig) lits) (subjects_rise lits) h))
    (rises_removed lits k (and_right (list_all (is_plain sig) lits) (subjects_rise lits) h))

-- put back, an item makes the list what it was
pub put_back : {X : Type 0} (xs : List X) (k : ℕ) (d : X) → k < length xs → insert (remove xs k) k (get_or xs k d) ≡ xs
put_back [] k d below = absurd (omega arith)
put_back (x ∷ xs) zero d below = refl
put_back (x ∷ xs) (suc k) d below = ap (λ ys. x ∷ ys) (put_back xs k d (omega arith))
