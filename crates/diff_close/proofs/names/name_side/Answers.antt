use Rattle.std.proofs.Common.{◌≡◌, ◌≢◌, ℕ, ◌<◌, ◌≤◌, ◌+◌, ◌∙◌, sym, ap, subst, true, cond, List, [], ◌∷◌, ◌++◌, length, get_or, arith, vec_len, is_ok, refl}
use Rattle.cub_proto.specs.declared.literal.Term.{Term}
use Rattle.diff_close.specs.Literals.{IsAmong}
use Rattle.diff_close.specs.Names.{index_of}
use Rattle.diff_close.specs.AreNames.{AreNames}
use Rattle.diff_close.proofs.Terms.{side_pushed, side_now_named, side_was_named, room_left}
use Rattle.diff_close.proofs.names.name_side.Goals as goal

pub returns-then-place-len-clause-kept : goal.returns-then-place-len-clause-kept
returns-then-place-len-clause-kept c all are among =
    let size : vec_len c.args.names.now ≡ length c.args.names.now.items = sym c.deref.ensures.len ∙ ap length c.deref.ensures.value in
    let absent : index_of c.args.names.now.items c.in-At.term ≡ length c.args.names.now.items =
    ap (λ (m : List Term). index_of m c.in-At.term) (sym c.deref.ensures.value) ∙ sym c.place.ensures ∙ c.if-place-len.true ∙ c.len.ensures ∙ size in
    let room : length c.args.names.now.items + 1 ≤ length c.requires.room.0 = room_left c.requires.room.0 c.args.names.now.items c.in-At.term c.args.side.now c.in-At.is c.requires.room.2 c.requires.room.3 absent in
    let ok : is_ok c.push.result ≡ true = c.push.ensures.succeeds (omega (arith, size, room, c.requires.room.1)) in
    let items : c.push.new.self.items ≡ c.args.names.now.items ++ c.in-At.term ∷ [] = c.push.ensures.items ∙ (rw ok refl) in
    subst (λ (m : List Term). AreNames all m) (sym items) (side_pushed all c.args.names.now.items c.in-At.term c.args.side.now c.in-At.is are among absent)

pub returns-then-place-len-clause-named : goal.returns-then-place-len-clause-named
returns-then-place-len-clause-named c =
    let size : vec_len c.args.names.now ≡ length c.args.names.now.items = sym c.deref.ensures.len ∙ ap length c.deref.ensures.value in
    let absent : index_of c.args.names.now.items c.in-At.term ≡ length c.args.names.now.items =
    ap (λ (m : List Term). index_of m c.in-At.term) (sym c.deref.ensures.value) ∙ sym c.place.ensures ∙ c.if-place-len.true ∙ c.len.ensures ∙ size in
    let room : length c.args.names.now.items + 1 ≤ length c.requires.room.0 = room_left c.requires.room.0 c.args.names.now.items c.in-At.term c.args.side.now c.in-At.is c.requires.room.2 c.requires.room.3 absent in
    let ok : is_ok c.push.result ≡ true = c.push.ensures.succeeds (omega (arith, size, room, c.requires.room.1)) in
    let items : c.push.new.self.items ≡ c.args.names.now.items ++ c.in-At.term ∷ [] = c.push.ensures.items ∙ (rw ok refl) in
    subst (λ (m : List Term). IsAmong m c.args.side.now) (sym items) (side_now_named c.args.names.now.items c.in-At.term c.args.side.now c.in-At.is)

pub returns-else-place-len-clause-named : goal.returns-else-place-len-clause-named
returns-else-place-len-clause-named c =
    let size : vec_len c.args.names.now ≡ length c.args.names.now.items = sym c.deref.ensures.len ∙ ap length c.deref.ensures.value in
    side_was_named c.args.names.now.items c.in-At.term c.args.side.now c.in-At.is
    (λ absent. c.if-place-len.false (c.place.ensures ∙ ap (λ (m : List Term). index_of m c.in-At.term) c.deref.ensures.value ∙ absent ∙ sym size ∙ sym c.len.ensures))
