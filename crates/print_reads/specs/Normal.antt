-- The protocols of texts, as far as their type does not say it already: their literals can be written and are those of normal
-- forms, and no declared name begins with `_`.
use Rattle.std.specs.Prelude.{Bool, ◌&&◌}
use Rattle.std.specs.List.{list_all}
use Rattle.cub_proto.specs.declared.protocol.Protocol.{Protocol}
use Rattle.print_words.specs.Writable.{is_writable}
use Rattle.print_names.specs.Plain.{is_plain, declares_plain_names}
use Rattle.print_formulas.specs.Normal.{has_normal_bodies}
use Rattle.print_transitions.specs.Normal.{has_normal_guards}
use Rattle.print_updates.specs.Normal.{has_normal_updates}

-- nor does the name of a transition
abbrev pub has_plain_transition_names : Protocol → Bool
has_plain_transition_names p = list_all (λ t. is_plain t.name) p.transitions

abbrev pub is_normal_protocol : Protocol → Bool
is_normal_protocol p =
    is_writable p && declares_plain_names p && has_plain_transition_names p
    && has_normal_bodies p && has_normal_guards p && has_normal_updates p
