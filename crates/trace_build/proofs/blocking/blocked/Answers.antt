use Rattle.std.proofs.Common.{get_or, Some, sym, ap, subst, ◌∙◌}
use Rattle.replay.specs.Reads.{IsFiring}
use Rattle.replay.proofs.Applied.{firing_here}
use Rattle.trace_laws.specs.Blocked.{blocked_by}
use Rattle.trace_build.proofs.Naming.{names_there}
use Rattle.trace_build.proofs.blocking.blocked.Goals as goal

pub blocked_by-requires : goal.blocked_by-requires
blocked_by-requires c =
    let p = c.args.protocol.now in
    let s = c.args.state.now in
    let t = c.index-as_slice-transition.result in
    let is = c.index-as_slice-transition.is ∙ ap (λ ts. get_or ts c.in-Fire.transition t) c.as_slice.ensures in
    record {
      firing = subst (IsFiring p s t) (sym c.as_slice-in-Fire.ensures)
          (firing_here p s c.args.event.now c.in-Fire.transition c.in-Fire.params c.in-Fire.picks c.in-Fire.is c.requires.fits t is c.requires.state_of);
    }

pub returns-in_ok-list-in-Fire : goal.returns-in_ok-list-in-Fire
returns-in_ok-list-in-Fire c =
    let p = c.args.protocol.now in
    let s = c.args.state.now in
    let t = c.index-as_slice-transition.result in
    let is = c.index-as_slice-transition.is ∙ ap (λ ts. get_or ts c.in-Fire.transition t) c.as_slice.ensures in
    c.in_ok-list-in-Fire.ensures ∙ ap (λ xs. blocked_by (Some t) s xs) c.as_slice-in-Fire.ensures
    ∙ sym (names_there p s c.args.event.now c.in-Fire.transition c.in-Fire.params c.in-Fire.picks c.in-Fire.is c.requires.fits t is)
