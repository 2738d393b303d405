-- The transition with a number, and what fits of it.
use Rattle.std.proofs.Common.{◌≡◌, ℕ, suc, zero, ◌+◌, ◌<◌, ◌≤◌, List, [], ◌∷◌, length, get_or, Some, sym, ap, subst, arith}
use Rattle.std.specs.Prelude.{◌&&◌, IsTrue, All, nat_le, count_by, slice_get}
use Rattle.std.specs.List.{list_all}
use Rattle.std.specs.Option.{option_map_or}
use Rattle.cub_base.specs.Name.{is_declarable}
use Rattle.cub_base.proofs.Bools.{and_left, and_right, le_is}
use Rattle.cub_proto.specs.declared.transition.Transition.{Transition}
use Rattle.cub_proto.specs.declared.protocol.Protocol.{Protocol}
use Rattle.cub_proto.specs.StateOf.{signature_of}
use Rattle.cub_proto.specs.Fits.{formula_fits, update_fits, transition_fits, targets_rise, picks_process}
use Rattle.updates.specs.Through.{updates_of, params_of}

pub at_number : (ts : List Transition) (n : ℕ) (t : Transition) → n < length ts → t ≡ get_or ts n t → slice_get ts n ≡ Some t
at_number [] n t below e = absurd (omega arith)
at_number (x ∷ xs) zero t below e = ap (λ y. Some y) (sym e)
at_number (x ∷ xs) (suc n) t below e = at_number xs n t (omega arith) e

pub record Known (p : Protocol) (n : ℕ) : Type 0 where
  pub updates : IsTrue (list_all (update_fits (signature_of p) (params_of p n)) (updates_of p n))
  pub few : params_of p n ≤ 3

pub known : (p : Protocol) (n : ℕ) (t : Transition) → n < length p.transitions → slice_get p.transitions n ≡ Some t → Known p n
known p n t below at =
    let sig = signature_of p in
    let fits = at_fit p.transitions n at p.transitions_fit in
    let a = is_declarable t.name in
    let b = nat_le (t.params + count_by (picks_process sig) t.updates) 3 in
    let g = formula_fits sig t.params t.guard in
    let o = formula_fits sig (t.params + 1) t.others in
    let u = list_all (update_fits sig t.params) t.updates in
    let five = and_left (a && b && g && o && u) (targets_rise t.updates) fits in
    let two = and_left (a && b) g (and_left (a && b && g) o (and_left (a && b && g && o) u five)) in
    let most : t.params ≤ 3 = (let le = le_is (t.params + count_by (picks_process sig) t.updates) 3 (and_right a b two) in omega arith) in
    record {
      updates = subst (λ x. IsTrue (list_all (update_fits sig (option_map_or (λ y. y.params) x 0)) (option_map_or (λ y. y.updates) x []))) (sym at) (and_right (a && b && g && o) u five);
      few = subst (λ x. option_map_or (λ y. y.params) x 0 ≤ 3) (sym at) most;
    }
  where
    at_fit : (ts : List Transition) (k : ℕ) → slice_get ts k ≡ Some t → All (λ x. IsTrue (transition_fits (signature_of p) x)) ts → IsTrue (transition_fits (signature_of p) t)
    at_fit [] k e all = cc
    at_fit (x ∷ xs) zero e all = let same : x ≡ t = cc in subst (λ y. IsTrue (transition_fits (signature_of p) y)) same (all 0 x (omega arith))
    at_fit (x ∷ xs) (suc k) e all = at_fit xs k e (λ i d low. all (suc i) d (omega arith))
