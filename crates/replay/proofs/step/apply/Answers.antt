use Rattle.std.proofs.Common.{◌≡◌, OnOk, sym, ap, subst, ◌∙◌, get_or}
use Rattle.cub_proto.specs.Effect.{fired, picked}
use Rattle.replay.specs.Fault.{firing_fault}
use Rattle.replay.specs.Reads.{IsFiring}
use Rattle.replay.proofs.Applied.{firing_here, fault_here, after_here}
use Rattle.replay.proofs.step.apply.Goals as goal

pub fire_transition-requires-clause-firing : goal.fire_transition-requires-clause-firing
fire_transition-requires-clause-firing c =
    let p = c.args.protocol.now in
    let s = c.args.state.now in
    let t = c.index-as_slice-transition.result in
    let is = c.index-as_slice-transition.is ∙ ap (λ ts. get_or ts c.in-Fire.transition t) c.as_slice.ensures in
    subst (IsFiring p s t) (sym c.as_slice-in-Fire.ensures)
    (firing_here p s c.args.event.now c.in-Fire.transition c.in-Fire.params c.in-Fire.picks c.in-Fire.is c.requires.fits t is c.requires.state_of)

pub returns-in-Fire-clause-fault : goal.returns-in-Fire-clause-fault
returns-in-Fire-clause-fault c =
    let p = c.args.protocol.now in
    let s = c.args.state.now in
    let t = c.index-as_slice-transition.result in
    let is = c.index-as_slice-transition.is ∙ ap (λ ts. get_or ts c.in-Fire.transition t) c.as_slice.ensures in
    c.fire_transition.ensures.fault
    ∙ ap (λ params. firing_fault s t params c.as_slice-in-Fire-2.result.now) c.as_slice-in-Fire.ensures
    ∙ ap (firing_fault s t c.in-Fire.params) c.as_slice-in-Fire-2.ensures
    ∙ sym (fault_here p s c.args.event.now c.in-Fire.transition c.in-Fire.params c.in-Fire.picks c.in-Fire.is c.requires.fits t is)

pub returns-in-Fire-clause-ok : goal.returns-in-Fire-clause-ok
returns-in-Fire-clause-ok c =
    let p = c.args.protocol.now in
    let s = c.args.state.now in
    let t = c.index-as_slice-transition.result in
    let is = c.index-as_slice-transition.is ∙ ap (λ ts. get_or ts c.in-Fire.transition t) c.as_slice.ensures in
    let same =
    ap (λ params. fired s params t.updates (picked c.as_slice-in-Fire-2.result.now)) c.as_slice-in-Fire.ensures
    ∙ ap (λ picks. fired s c.in-Fire.params t.updates (picked picks)) c.as_slice-in-Fire-2.ensures
    ∙ sym (after_here p s c.args.event.now c.in-Fire.transition c.in-Fire.params c.in-Fire.picks c.in-Fire.is c.requires.fits t is) in
    subst (λ x. OnOk c.fire_transition.result (c.fire_transition.new.state ≡ x)) same c.fire_transition.ensures.ok
