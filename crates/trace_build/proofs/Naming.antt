-- What blocks the firing of the transition that is found.
use Rattle.std.proofs.Common.{◌≡◌, ℕ, List, length, get_or, Some, refl, ap, subst, ◌∙◌, slice_get}
use Rattle.std.proofs.lemmas.Option.{slice_get_read, slice_get_within}
use Rattle.cub_proto.specs.declared.transition.Transition.{Transition}
use Rattle.cub_proto.specs.declared.event.Chosen.{Chosen}
use Rattle.cub_proto.specs.declared.event.Event.{Event}
use Rattle.cub_proto.specs.declared.event.Event.TheVariants.{Fire}
use Rattle.cub_proto.specs.declared.protocol.Protocol.{Protocol}
use Rattle.cub_proto.specs.Configuration.{Configuration, process_count}
use Rattle.replay.specs.FitsEvent.{FitsEvent}
use Rattle.replay.proofs.LegalFault.{fits_parts}
use Rattle.trace_laws.specs.Blocked.{blocked, blocked_by}

pub names_there : (p : Protocol) (s : Configuration) (e : Event) (number : ℕ) (params : List ℕ) (picks : List Chosen) → e ≡ Fire number params picks → FitsEvent p (process_count s) e
    → (t : Transition) → t ≡ get_or p.transitions number t → blocked p s e ≡ blocked_by (Some t) s params
names_there p s e number params picks is_event fits t is =
    let parts = fits_parts p (process_count s) (slice_get p.transitions number) params picks (subst (FitsEvent p (process_count s)) is_event fits) in
    let within = slice_get_within p.transitions number parts.transition parts.is_there in
    ap (blocked p s) is_event ∙ ap (λ o. blocked_by o s params) (slice_get_read p.transitions (length p.transitions) number t refl within is)
