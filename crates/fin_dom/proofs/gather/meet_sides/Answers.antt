use Rattle.std.proofs.Common.{◌≡◌, ◌-◌, ◌^◌}
use Rattle.cub_proto.specs.Signature.{constructors_at}
use Rattle.cub_proto.specs.StateOf.{signature_of}
use Rattle.fin_dom.specs.Table.{number_of}
use Rattle.fin_dom.specs.Gathered.{Meets}
use Rattle.fin_dom.proofs.Gathering.{both_met, one_refuted, second_refuted}
use Rattle.fin_dom.proofs.gather.meet_sides.Goals as goal

pub returns-then-not-meet-clause-none : goal.returns-then-not-meet-clause-none
returns-then-not-meet-clause-none c _ v has left_a left_b =
    one_refuted (signature_of c.args.protocol.now) c.args.a c.args.masks.now (rw (c.number.ensures, c.full_mask.ensures) at (c.meet.ensures.none c.if-not-meet.true)) v has.0 left_a

pub returns-clause-met : goal.returns-clause-met
returns-clause-met c e =
    both_met (signature_of c.args.protocol.now) c.args.a c.args.b c.args.masks.now c.meet.new.masks c.meet-2.new.masks c.requires.a_in c.requires.b_in
    (rw (c.number.ensures, c.full_mask.ensures) at (c.meet.ensures.met c.if-not-meet.false))
    (rw (c.number-2.ensures, c.full_mask-2.ensures) at (c.meet-2.ensures.met e))

pub returns-clause-none : goal.returns-clause-none
returns-clause-none c e v has left_a left_b =
    second_refuted (signature_of c.args.protocol.now) c.args.a c.args.b c.args.masks.now c.meet.new.masks c.requires.a_in c.requires.b_in
    (rw (c.number.ensures, c.full_mask.ensures) at (c.meet.ensures.met c.if-not-meet.false))
    (rw (c.number-2.ensures, c.full_mask-2.ensures) at (c.meet-2.ensures.none e)) v has left_b
