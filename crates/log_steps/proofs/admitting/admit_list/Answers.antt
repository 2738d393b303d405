use Rattle.std.proofs.Common.{◌≡◌, length, take, sym, ap, subst, ◌∙◌, arith}
use Rattle.log_steps.specs.declared.admitting.Step.TheVariants.{Goes, Stops}
use Rattle.log_steps.specs.Admitted.{AdmitsPiece, IsFirstUnfit}
use Rattle.log_steps.proofs.AdmitLemmas.{stopped, left_over, all_admitted, admitted_more, admitted_all, step_of}
use Rattle.log_steps.proofs.admitting.admit_list.Goals as goal

pub returns-in-Ok-Stops-clause-fault : goal.returns-in-Ok-Stops-clause-fault
returns-in-Ok-Stops-clause-fault g c =
    let p = c.args.protocol.now in
    let cubes = g.F.Finder.list c.args.finder.now in
    let items = c.args.items.now in
    let room = c.args.room in
    let list = c.args.list.now in
    let i = c.loop-piece.piece-index in
    let picks = c.loop-piece.picks in
    let ended = c.loop-piece.ended in
    let x = c.piece-item.result in
    let invariant = c.loop-piece.invariant in
    let so : AdmitsPiece p cubes items room picks ended x Stops c.admit_piece.new.picks = subst (λ s. AdmitsPiece p cubes items room picks ended x s c.admit_piece.new.picks) c.in-Ok-Stops.field-0-is
    (step_of p (g.F.Finder.list c.loop-piece.finder) cubes items room picks c.admit_piece.new.picks ended x c.in-Ok-Stops.field-0 invariant.same c.in-Ok-Stops.ensures.value) in
    let (same, open_yet, stop) = so in
    subst (IsFirstUnfit p cubes list items room) (sym (c.len.ensures ∙ ap length same))
    (stopped p cubes items room list picks i x ended c.loop-piece-test.true c.piece-item.is open_yet stop invariant.so)

pub loop-piece-preserved : goal.loop-piece-preserved
loop-piece-preserved g c =
    let p = c.args.protocol.now in
    let cubes = g.F.Finder.list c.args.finder.now in
    let items = c.args.items.now in
    let room = c.args.room in
    let list = c.args.list.now in
    let i = c.loop-piece.piece-index in
    let picks = c.loop-piece.picks in
    let ended = c.loop-piece.ended in
    let x = c.piece-item.result in
    let called = c.admit_piece in
    let invariant = c.loop-piece.invariant in
    let so : AdmitsPiece p cubes items room picks ended x (Goes c.in-Ok-Goes.last) called.new.picks = subst (λ s. AdmitsPiece p cubes items room picks ended x s called.new.picks) c.in-Ok-Goes.field-0-is
    (step_of p (g.F.Finder.list c.loop-piece.finder) cubes items room picks called.new.picks ended x c.in-Ok-Goes.field-0 invariant.same c.in-Ok-Goes.ensures.value) in
    record {
      made = called.ensures.made;
      serves = called.ensures.serves;
      same = called.ensures.same ∙ invariant.same;
      so = admitted_more p cubes items room list i x called.new.picks c.in-Ok-Goes.last c.loop-piece-test.true c.piece-item.is (so (take i list) invariant.so);
    }

pub returns-then-len-items-clause-fault : goal.returns-then-len-items-clause-fault
returns-then-len-items-clause-fault g c =
    let p = c.args.protocol.now in
    let cubes = g.F.Finder.list c.args.finder.now in
    let items = c.args.items.now in
    let list = c.args.list.now in
    let picks = c.loop-piece.picks in
    let count : c.len-then-len-items.result ≡ length picks = c.len-then-len-items.ensures in
    let less : c.len-2.result ≡ length picks = c.len-2.ensures in
    let below = c.if-len-items.true in
    subst (IsFirstUnfit p cubes list items c.args.room) (sym count)
    (left_over p cubes items c.args.room list picks c.loop-piece.ended (omega arith)
    (admitted_all p cubes items c.args.room list c.loop-piece.piece-index picks c.loop-piece.ended c.loop-piece-test.false c.loop-piece.invariant.so))

pub returns-clause-all : goal.returns-clause-all
returns-clause-all g c =
    let p = c.args.protocol.now in
    let cubes = g.F.Finder.list c.args.finder.now in
    let items = c.args.items.now in
    let list = c.args.list.now in
    let picks = c.loop-piece.picks in
    let less : c.len-2.result ≡ length picks = c.len-2.ensures in
    let past = c.if-len-items.false in
    all_admitted p cubes items c.args.room list picks c.loop-piece.ended (omega arith)
    (admitted_all p cubes items c.args.room list c.loop-piece.piece-index picks c.loop-piece.ended c.loop-piece-test.false c.loop-piece.invariant.so)
