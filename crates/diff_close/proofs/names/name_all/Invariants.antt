-- The terms of the literals below the index have numbers, and none that is mentioned nowhere has one.
use Rattle.std.proofs.Common.{ℕ, ◌<◌, ◌≤◌, List, get_or, All, Contains, vec_capacity}
use Rattle.cub_proto.specs.declared.literal.Term.{Term}
use Rattle.cub_proto.specs.declared.literal.Lit.{Lit}
use Rattle.diff_close.specs.Literals.{MentionsOnly}
use Rattle.diff_close.specs.AreNames.{AreNames}
use Rattle.diff_close.proofs.names.name_all.Given as goal

abbrev pub invariant-loop-literal : goal.invariant-loop-literal
invariant-loop-literal l = record {
  kept : (all : List Term) → AreNames all l.fn.names.items → All (MentionsOnly all) l.lits → AreNames all l.names.items;
  named : (k : ℕ) → k < l.literal-index → (d : Lit) → MentionsOnly l.names.items (get_or l.lits k d);
  grows : (t : Term) → Contains l.fn.names.items t → Contains l.names.items t;
  capacity : vec_capacity l.fn.names ≤ vec_capacity l.names;
}
