use Rattle.std.proofs.Common.{◌≡◌, ◌<◌, Some, None, true, false, refl, sym, subst, ◌∙◌}
use Rattle.std.proofs.lemmas.Bool.{false≢true}
use Rattle.cub_proto.specs.Configuration.{process_count}
use Rattle.cub_proto.specs.Legal.{IsLegal}
use Rattle.replay.specs.FitsEvent.{FitsEvent}
use Rattle.replay.specs.Bound.{most_events}
use Rattle.replay.specs.Machine.{Replay}
use Rattle.replay.proofs.LegalFault.{legal_without_fault, no_fault_where_legal}
use Rattle.replay.proofs.Ready.{ready_after}
use Rattle.replay.proofs.machine.Machine.step.Goals as goal

pub returns-in-Ok-clause-legal : goal.returns-in-Ok-clause-legal
returns-in-Ok-clause-legal c =
    let p = c.self.inside.protocol.now in
    let s = c.self.inside.state in
    let e = c.args.event.now in
    let fits = subst (λ (m : Replay). FitsEvent m.protocol (process_count m.state) e) (sym c.self.view_is) c.requires.fits in
    subst (λ (m : Replay). (true ≡ true → IsLegal m.protocol m.state e) × (IsLegal m.protocol m.state e → true ≡ true)) c.self.view_is
    (λ _. legal_without_fault p s e fits (sym c.in-Ok.ensures.fault), λ _. refl)

pub invariant_of-self : goal.invariant_of-self
invariant_of-self c =
    let p = c.self.inside.protocol.now in
    let s = c.self.inside.state in
    let e = c.args.event.now in
    let fits = subst (λ (m : Replay). FitsEvent m.protocol (process_count m.state) e) (sym c.self.view_is) c.requires.fits in
    let room = subst (λ (m : Replay). m.accepted < most_events) (sym c.self.view_is) c.requires.room in
    ready_after p s c.self.inside.twin c.apply.new.state c.apply.new.twin c.self.inside.accepted e c.self.invariant fits room
    (sym c.in-Ok.ensures.fault) c.in-Ok.ensures.ok c.in-Ok.ensures.twin

pub returns-in-Err-clause-legal : goal.returns-in-Err-clause-legal
returns-in-Err-clause-legal c =
    let p = c.self.inside.protocol.now in
    let s = c.self.inside.state in
    let e = c.args.event.now in
    subst (λ (m : Replay). (false ≡ true → IsLegal m.protocol m.state e) × (IsLegal m.protocol m.state e → false ≡ true)) c.self.view_is
    (λ h. absurd (false≢true h), λ legal. absurd (let none : Some c.in-Err.fault ≡ None = c.in-Err.ensures.fault ∙ no_fault_where_legal p s e legal in cc))
