-- What a transition that fits a signature has, part by part.
use Rattle.std.proofs.Common.{◌≡◌, ℕ, ◌+◌, ◌≤◌, true, false, ◌&&◌, nat_le, Option, Some, None, length, refl, arith, All}
use Rattle.std.specs.Prelude.{count_by}
use Rattle.std.specs.List.{list_all}
use Rattle.std.proofs.lemmas.Bool.{and_parts, leb-true}
use Rattle.cub_base.specs.Name.{is_declarable}
use Rattle.cub_proto.specs.declared.literal.Sort.{Sort}
use Rattle.cub_proto.specs.declared.transition.Update.{Update}
use Rattle.cub_proto.specs.declared.transition.Transition.{Transition}
use Rattle.cub_proto.specs.Signature.{Signature}
use Rattle.cub_proto.specs.Fits.{formula_fits, value_fits, branch_fits, update_fits_sort, update_fits, targets_rise, picks_process, transition_fits}
use Rattle.cub_base.proofs.Elements.{all_from}

pub record TransitionParts (sig : Signature) (t : Transition) : Type 0 where
  pub few : t.params ≤ 3
  pub guard : formula_fits sig t.params t.guard ≡ true
  pub others : formula_fits sig (t.params + 1) t.others ≡ true
  pub updates : All (λ u. update_fits sig t.params u ≡ true) t.updates
  pub rising : targets_rise t.updates ≡ true

pub transition_parts : (sig : Signature) (t : Transition) → transition_fits sig t ≡ true → TransitionParts sig t
transition_parts sig t h =
    let name = is_declarable t.name in
    let few = nat_le (t.params + count_by (picks_process sig) t.updates) 3 in
    let guard = formula_fits sig t.params t.guard in
    let others = formula_fits sig (t.params + 1) t.others in
    let updates = list_all (update_fits sig t.params) t.updates in
    let a = and_parts (name && few && guard && others && updates) (targets_rise t.updates) h in
    let b = and_parts (name && few && guard && others) updates a.0 in
    let c = and_parts (name && few && guard) others b.0 in
    let d = and_parts (name && few) guard c.0 in
    let e = and_parts name few d.0 in
    let at_most = leb-true (t.params + count_by (picks_process sig) t.updates) 3 e.1 in
    record {
      few = omega arith;
      guard = d.1;
      others = c.1;
      updates = all_from (update_fits sig t.params) t.updates b.1;
      rising = a.1;
    }

pub record UpdateParts (sig : Signature) (width : ℕ) (o : Option Sort) (u : Update) : Type 0 where
  pub sort : Sort
  pub is_sort : o ≡ Some sort
  pub branches : All (λ b. branch_fits sig width sort b ≡ true) u.branches
  pub last : value_fits sig width sort u.last ≡ true

pub update_parts : (sig : Signature) (width : ℕ) (o : Option Sort) (u : Update) → update_fits_sort sig width o u ≡ true → UpdateParts sig width o u
update_parts sig width None u h = absurd (let e : false ≡ true = h in cc)
update_parts sig width (Some sort) u h =
    let few = nat_le (length u.branches) 64 in
    let each = list_all (branch_fits sig width sort) u.branches in
    let a = and_parts (few && each) (value_fits sig width sort u.last) h in
    let b = and_parts few each a.0 in
    record {
      sort = sort;
      is_sort = refl;
      branches = all_from (branch_fits sig width sort) u.branches b.1;
      last = a.1;
    }
