-- What the typing makes of the names, the parameters and the guards of printed transitions.
use Rattle.std.specs.Prelude.{◌≡◌, IsTrue, [], length, take, drop}
use Rattle.std.specs.List.{AllZip}
use Rattle.cub_parse.specs.declared.tree.RestNode.{RestNode}
use Rattle.cub_parse.specs.declared.tree.RestNode.TheVariants as rests
use Rattle.cub_names.specs.Checked.{sound}
use Rattle.cub_names.specs.Meaning.{Frame}
use Rattle.cub_names.specs.Scope.{variable_faults, locals}
use Rattle.cub_names.specs.Words.{word_of}
use Rattle.cub_types.specs.Typing.{guard_of}
use Rattle.cub_proto.specs.declared.protocol.Protocol.{Protocol}
use Rattle.cub_proto.specs.declared.transition.Transition.{Transition}
use Rattle.print_laws.specs.Tree.{tree_of}
use Rattle.print_words.specs.Writable.{is_writable}
use Rattle.print_names.specs.Plain.{declares_plain_names}
use Rattle.print_formulas.specs.BodiesAreRead.{printed_frame}
use Rattle.print_transitions.specs.Normal.{has_normal_guards}

-- the node has the name, so many parameters, and the guard and the universal guard of the transition, and no fault stands
-- among its parameters or in its guard
abbrev pub IsHeadOf : Frame → RestNode → Transition → Type 0
IsHeadOf frame (rests.Unsafe body) t = ⊥
IsHeadOf frame (rests.Invariant word body) t = ⊥
IsHeadOf frame (rests.Transition name names guard updates) t =
    (word_of frame.text name ≡ t.name) × (length (take 3 names) ≡ t.params) × (variable_faults frame 3 names ≡ [])
    × (guard_of frame t.params (locals 3 names) guard ≡ sound (t.guard, t.others))

-- so it is for each transition; they stand behind the goals
abbrev pub HeadsAreRead : Type 0
HeadsAreRead = (p : Protocol) → IsTrue (is_writable p) → IsTrue (declares_plain_names p) → IsTrue (has_normal_guards p)
    → AllZip (IsHeadOf (printed_frame p)) (drop (length p.goals) (tree_of p).rests) p.transitions
