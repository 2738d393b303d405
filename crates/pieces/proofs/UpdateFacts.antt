-- What the type of protocols keeps of updates: few branches, short conditions, and literals that fit where they are read.
use Rattle.std.proofs.Common.{◌≡◌, ℕ, zero, suc, ◌≤◌, Bool, true, false, List, [], ◌∷◌, length, Option, Some, None, refl, subst, arith}
use Rattle.std.specs.Prelude.{◌&&◌, nat_lt, nat_le, if◌then◌else◌, IsTrue}
use Rattle.std.specs.List.{list_all}
use Rattle.std.specs.Option.{option_map_or}
use Rattle.cub_base.proofs.Bools.{and_left, and_right, le_is}
use Rattle.cub_proto.specs.declared.literal.Sort.{Sort}
use Rattle.cub_proto.specs.declared.literal.Term.{Term}
use Rattle.cub_proto.specs.declared.transition.Branch.{Branch}
use Rattle.cub_proto.specs.declared.transition.Update.{Update}
use Rattle.cub_proto.specs.declared.transition.Transition.{Transition}
use Rattle.cub_proto.specs.declared.protocol.Protocol.{Protocol}
use Rattle.cub_proto.specs.Signature.{Signature, sort_of, target_sort, constructors_of}
use Rattle.cub_proto.specs.StateOf.{signature_of}
use Rattle.cub_proto.specs.Fits.{literal_fits, is_bounded, greatest_bound, conjunction_fits, value_fits, branch_fits, update_width, update_fits_sort, update_fits}
use Rattle.cub_proto.proofs.Constructors.{few_constructors}
use Rattle.cub_cube.specs.Rename.{is_within}
use Rattle.cub_cube.specs.Step.{target_of}
use Rattle.cub_cube.proofs.RenamedFits.{all_fits_within}
use Rattle.updates.specs.Ways.{condition}
use Rattle.updates.specs.Chosen.{reading_places}
use Rattle.updates.proofs.Fitting.{found_update, term_update, conditions_from, condition_fits}
use Rattle.piece_steps.specs.Steps.{Draft, choice_at}
use Rattle.pieces.specs.Options.{update_at, branch_count, fail_count}

pub few_by : (sig : Signature) (width : ℕ) (o : Option Sort) (u : Update) → IsTrue (update_fits_sort sig width o u) → length u.branches ≤ 64
few_by sig width None u h = cc
few_by sig width (Some sort) u h =
    le_is (length u.branches) 64
    (and_left (nat_le (length u.branches) 64) (list_all (branch_fits sig width sort) u.branches)
    (and_left (nat_le (length u.branches) 64 && list_all (branch_fits sig width sort) u.branches) (value_fits sig width sort u.last) h))

condition_small : (sig : Signature) (width : ℕ) (sort : Sort) (branches : List Branch) (n : ℕ) → IsTrue (list_all (branch_fits sig width sort) branches) → length (condition branches n) ≤ 64
condition_small sig width sort [] n h = omega arith
condition_small sig width sort (b ∷ bs) zero h =
    let own = and_left (conjunction_fits sig width b.cond) (value_fits sig width sort b.value) (and_left (branch_fits sig width sort b) (list_all (branch_fits sig width sort) bs) h) in
    le_is (length b.cond) 64
    (and_left (nat_le (length b.cond) 64) (list_all (literal_fits sig width) b.cond)
    (and_left (nat_le (length b.cond) 64 && list_all (literal_fits sig width) b.cond) (list_all (is_bounded greatest_bound) b.cond) own))
condition_small sig width sort (b ∷ bs) (suc n) h = condition_small sig width sort bs n (and_right (branch_fits sig width sort b) (list_all (branch_fits sig width sort) bs) h)

-- the update of a term of a draft
module _ (p : Protocol) (t : Transition) (d : Draft) (i : ℕ) (fit : IsTrue (list_all (update_fits (signature_of p) (length d.params)) t.updates)) where
  pub few_branches : (u : Update) → update_at t d i ≡ Some u → length u.branches ≤ 64
  few_branches u is =
      let found = found_update (signature_of p) (length d.params) t.updates (target_of (choice_at d i).term) u fit is in
      few_by (signature_of p) (update_width (length d.params) u.target) (target_sort (signature_of p) u.target) u found.0

  pub few_options : branch_count (update_at t d i) ≤ 65
  few_options = by (update_at t d i) refl
    where
      by : (o : Option Update) → update_at t d i ≡ o → branch_count o ≤ 65
      by None is = omega arith
      by (Some u) is = omega (arith, few_branches u is)

  pub few_literals : (u : Update) (n : ℕ) → update_at t d i ≡ Some u → length (condition u.branches n) ≤ 64
  few_literals u n is =
      let its = term_update (signature_of p) d.params t.updates (choice_at d i).term u fit is in
      condition_small (signature_of p) (length (reading_places d.params (choice_at d i).term)) its.sort u.branches n its.branches

  pub literals_fit : (u : Update) (n : ℕ) → update_at t d i ≡ Some u → IsTrue (list_all (literal_fits (signature_of p) (length (reading_places d.params (choice_at d i).term))) (condition u.branches n))
  literals_fit u n is =
      let r = length (reading_places d.params (choice_at d i).term) in
      let its = term_update (signature_of p) d.params t.updates (choice_at d i).term u fit is in
      condition_fits p r u.branches n (conditions_from p r its.sort u.branches its.branches)

  pub literals_within : (u : Update) (n : ℕ) → update_at t d i ≡ Some u → IsTrue (list_all (is_within (length (reading_places d.params (choice_at d i).term))) (condition u.branches n))
  literals_within u n is =
      all_fits_within (signature_of p) (length (reading_places d.params (choice_at d i).term)) (condition u.branches n) (literals_fit u n is)

-- a finite term has few values
pub few_values : (p : Protocol) (t : Term) (s : ℕ) → sort_of (signature_of p) t ≡ Some (Sort.Fin s) → constructors_of (signature_of p) (Sort.Fin s) ≤ 64
few_values p t s is = subst (λ o. option_map_or (constructors_of (signature_of p)) o 0 ≤ 64) is (few_constructors p t)

pub few_fails : (p : Protocol) (t : Transition) (d : Draft) (i : ℕ) (fit : IsTrue (list_all (update_fits (signature_of p) (length d.params)) t.updates)) (b : ℕ) → fail_count (update_at t d i) (choice_at d i).branch b ≤ 64
few_fails p t d i fit b = by (update_at t d i) refl
  where
    by : (o : Option Update) → update_at t d i ≡ o → fail_count o (choice_at d i).branch b ≤ 64
    by None is = omega arith
    by (Some u) is = split (nat_lt b (choice_at d i).branch)
      where
        split : (x : Bool) → (if x then length (condition u.branches b) else 1) ≤ 64
        split true = few_literals p t d i fit u b is
        split false = omega arith
