use Rattle.std.proofs.Common.{◌≡◌, ℕ, ◌≤◌, sym, subst, ap, List, [], length, arith}
use Rattle.std.specs.List.{IsDistinct}
use Rattle.cub_proto.specs.declared.literal.Term.{Term}
use Rattle.diff_close.specs.Names.{term_eq}
use Rattle.diff_close.proofs.Terms.{none_named}
use Rattle.diff_close.proofs.scratch.DiffScratch.new.Goals as goal

pub invariant_of-result : goal.invariant_of-result
invariant_of-result c =
    let items : c.in_ok-names.names.items ≡ [] = c.in_ok-names.ensures.items in
    record {
      few = c.requires;
      enough = omega (arith, c.in_ok-names.ensures.capacity);
      distinct = subst (λ (m : List Term). IsDistinct term_eq m) (sym items) (none_named []).distinct;
      within = omega (arith, ap (length {A = Term}) items);
    }
