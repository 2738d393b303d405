-- Transitions whose updates have, in the conditions of their branches, the literals of normal forms of texts. Nothing else is
-- asked of updates: the type of protocols keeps their targets in order and apart, their branches few, and their values of the
-- targets' sorts.
use Rattle.std.specs.Prelude.{Bool}
use Rattle.std.specs.List.{list_all}
use Rattle.cub_proto.specs.declared.transition.Update.{Update}
use Rattle.cub_proto.specs.declared.transition.Transition.{Transition}
use Rattle.cub_proto.specs.declared.protocol.Protocol.{Protocol}
use Rattle.print_formulas.specs.Normal.{is_normal_conjunction}

abbrev pub is_normal_update : Protocol → Update → Bool
is_normal_update p u = list_all (λ b. is_normal_conjunction p b.cond) u.branches

abbrev pub has_normal_effect : Protocol → Transition → Bool
has_normal_effect p t = list_all (is_normal_update p) t.updates

abbrev pub has_normal_updates : Protocol → Bool
has_normal_updates p = list_all (has_normal_effect p) p.transitions
