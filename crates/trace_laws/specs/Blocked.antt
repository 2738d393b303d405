-- Which processes must crash before a step.
use Rattle.std.specs.Prelude.{ℕ, List, [], ◌∷◌, ◌++◌, Option, Some, None, slice_get}
use Rattle.std.specs.List.{filter, range_with_len}
use Rattle.cub_proto.specs.declared.transition.Transition.{Transition}
use Rattle.cub_proto.specs.declared.event.Event.{Event}
use Rattle.cub_proto.specs.declared.event.Event.TheVariants.{Crash, Fire}
use Rattle.cub_proto.specs.declared.protocol.Protocol.{Protocol}
use Rattle.cub_proto.specs.Configuration.{Configuration, process_count}
use Rattle.cub_proto.specs.Legal.{after_all}
use Rattle.cub_cube.specs.Crashes.{crashes}
use Rattle.replay.specs.Fault.{is_blocking}

-- the alive processes that are no parameter and at which the universal guard is false, in ascending order
abbrev pub blocked_by : Option Transition → Configuration → List ℕ → List ℕ
blocked_by None s params = []
blocked_by (Some t) s params = filter (is_blocking s t.others params) (range_with_len 0 (process_count s))

-- those at which the universal guard of the step is false
abbrev pub blocked : Protocol → Configuration → Event → List ℕ
blocked p s (Crash i) = []
blocked p s (Fire number params picks) = blocked_by (slice_get p.transitions number) s params

-- their crashes, and then the step
abbrev pub freed : Protocol → Configuration → Event → List Event
freed p s e = crashes (blocked p s e) ++ e ∷ []

-- before each step the processes crash at which its universal guard is then false
abbrev pub with_crashes : Protocol → Configuration → List Event → List Event
with_crashes p s [] = []
with_crashes p s (e ∷ es) = freed p s e ++ with_crashes p (after_all p s (freed p s e)) es
