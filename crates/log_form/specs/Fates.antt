-- Fates of nodes.
use Rattle.std.specs.Prelude.{Bool, true, false, Option, Some, None}
use Rattle.log_form.specs.declared.node.Fate.{Fate}
use Rattle.log_form.specs.declared.node.Fate.TheVariants.{Waiting, Done, Covered}
use Rattle.log_form.specs.Links.{Link}

-- no link leads from the node
abbrev pub is_live : Fate → Bool
is_live Waiting = true
is_live Done = true
is_live (Covered by places) = false

-- the node is neither expanded nor covered
abbrev pub is_waiting : Fate → Bool
is_waiting Waiting = true
is_waiting Done = false
is_waiting (Covered by places) = false

-- the link that leads from the node
abbrev pub link_of : Fate → Option Link
link_of Waiting = None
link_of Done = None
link_of (Covered by places) = Some (by, places)

-- the fate after an event that found this link among the cubes it added, and expanded the node or not: an earlier link
-- stays, a new one is taken, and an expanded node without one is done
abbrev pub fate_after : Fate → Option Link → Bool → Fate
fate_after (Covered by places) link expanded = Covered by places
fate_after Waiting (Some link) expanded = Covered link.0 link.1
fate_after Waiting None true = Done
fate_after Waiting None false = Waiting
fate_after Done (Some link) expanded = Covered link.0 link.1
fate_after Done None expanded = Done
