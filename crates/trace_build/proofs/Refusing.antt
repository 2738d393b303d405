-- Legal events are not refused.
use Rattle.std.proofs.Common.{◌≡◌, ℕ, zero, suc, List, [], ◌∷◌, Some, None, take, ap, ◌∙◌, subst, slice_get}
use Rattle.std.specs.Prelude.{not}
use Rattle.std.proofs.lemmas.Bool.{not_from_true}
use Rattle.cub_proto.specs.declared.event.Event.{Event}
use Rattle.cub_proto.specs.declared.protocol.Protocol.{Protocol}
use Rattle.cub_proto.specs.Configuration.{Configuration, process_count}
use Rattle.cub_proto.specs.Truth.{any_true}
use Rattle.cub_proto.specs.Legal.{IsStart, IsLegal, AreLegal, after, after_all}
use Rattle.replay.specs.declared.fault.Refused.{Refused}
use Rattle.replay.specs.Fault.{fault_at}
use Rattle.replay.specs.Machine.{Replay, IsFirstRefused}
use Rattle.replay.specs.Start.{first_unstarted}
use Rattle.replay.proofs.LegalFault.{no_fault_where_legal, none_range}

legal_at : (p : Protocol) (s : Configuration) (events : List Event) (k : ℕ) (e : Event) → AreLegal p s events → slice_get events k ≡ Some e → IsLegal p (after_all p s (take k events)) e
legal_at p s [] k e legal at = cc
legal_at p s (d ∷ ds) zero e legal at = let same : d ≡ e = cc in subst (IsLegal p s) same legal.0
legal_at p s (d ∷ ds) (suc k) e legal at = legal_at p (after p s d) ds k e legal.1 at

pub not_refused : (old new : Replay) (events : List Event) (refused : Refused) → AreLegal old.protocol old.state events → IsFirstRefused old new events refused → ⊥
not_refused old new events refused legal first =
    let here = legal_at old.protocol old.state events refused.number first.event legal first.is_there in
    let none = no_fault_where_legal old.protocol (after_all old.protocol old.state (take refused.number events)) first.event here in
    let state : new.state ≡ after_all old.protocol old.state (take refused.number events) = ap (λ (r : Replay). r.state) first.left in
    let some = first.fault in
    let same : fault_at old.protocol new.state first.event ≡ None = ap (λ s. fault_at old.protocol s first.event) state ∙ none in
    cc

pub starts : (p : Protocol) (s : Configuration) → IsStart p s → first_unstarted p s ≡ None
starts p s start =
    none_range (λ i. not (any_true s (i ∷ []) p.start)) (process_count s) (λ i within. not_from_true (any_true s (i ∷ []) p.start) (start.begins i within))
