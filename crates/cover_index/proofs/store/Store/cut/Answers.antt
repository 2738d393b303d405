use Rattle.std.proofs.Common.{◌≤◌, ◌*◌, ◌∙◌, List, length, take, sym, ap, subst}
use Rattle.cover_index.specs.Sealed.{Sealed}
use Rattle.cover_index.specs.Stored.{Stored, HoldsShown, shown}
use Rattle.cover_index.proofs.Storing.{cubes_size, room_cut, holds_cut, shown_cut}
use Rattle.cover_index.proofs.store.Store.cut.Goals as goal

pub invariant_of-self : goal.invariant_of-self
invariant_of-self c =
    let old = c.self.inside.segments.items in
    let count = c.self.inside.count in
    let less = c.args.count in
    let groups = c.groups_of.result in
    let few : less ≤ count = subst (λ n. less ≤ n) (ap (λ (x : Stored). length x.cubes) (sym c.self.view_is) ∙ cubes_size old count) c.requires in
    subst (λ (segments : List Sealed). (less ≤ 64 * length segments) × HoldsShown segments less) (sym c.truncate.ensures.items)
    (room_cut old count less groups few c.groups_of.ensures.room c.self.invariant.0, holds_cut old count less groups few c.groups_of.ensures.room c.self.invariant.1)

pub returns : goal.returns
returns c =
    let old = c.self.inside.segments.items in
    let count = c.self.inside.count in
    let less = c.args.count in
    let few : less ≤ count = subst (λ n. less ≤ n) (ap (λ (x : Stored). length x.cubes) (sym c.self.view_is) ∙ cubes_size old count) c.requires in
    ap (λ (segments : List Sealed). shown segments less) c.truncate.ensures.items
    ∙ shown_cut old count less c.groups_of.result few c.groups_of.ensures.room
    ∙ ap (λ (x : Stored). record { cubes = take less x.cubes; summaries = take less x.summaries }) c.self.view_is
