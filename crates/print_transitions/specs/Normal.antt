-- Transitions whose guards have the literals of normal forms of texts.
use Rattle.std.specs.Prelude.{Bool, ◌&&◌}
use Rattle.std.specs.List.{list_all}
use Rattle.cub_proto.specs.declared.transition.Transition.{Transition}
use Rattle.cub_proto.specs.declared.protocol.Protocol.{Protocol}
use Rattle.print_formulas.specs.Normal.{is_normal_formula}

abbrev pub has_normal_guard : Protocol → Transition → Bool
has_normal_guard p t = is_normal_formula p t.guard && is_normal_formula p t.others

abbrev pub has_normal_guards : Protocol → Bool
has_normal_guards p = list_all (has_normal_guard p) p.transitions
