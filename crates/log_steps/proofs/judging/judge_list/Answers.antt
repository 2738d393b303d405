use Rattle.std.proofs.Common.{◌∙◌, take, ap}
use Rattle.log_form.specs.Numbering.{with_number}
use Rattle.log_steps.proofs.JudgeLemmas.{went_on, taken_more, taken_all, judged_all}
use Rattle.log_steps.proofs.judging.judge_list.Goals as goal

pub loop-piece-preserved : goal.loop-piece-preserved
loop-piece-preserved g c =
    let C = g.S.Decisions.chosen in
    let p = c.args.protocol.now in
    let cubes = g.F.Finder.list c.args.finder.now in
    let list = c.args.list.now in
    let i = c.loop-piece.piece-index in
    let x = c.piece-item.result in
    let copy = with_number x.number c.in_ok-cube.cube in
    let invariant = c.loop-piece.invariant in
    record {
      made = c.judge_piece.ensures.made;
      serves = c.judge_piece.ensures.serves;
      same = c.judge_piece.ensures.same ∙ invariant.same;
      so = taken_more C p cubes list i x copy c.judge_piece.new.picks c.in_ok-ended.ended c.loop-piece-test.true c.piece-item.is (ap (with_number x.number) c.in_ok-cube.ensures)
          (went_on C p (g.F.Finder.list c.loop-piece.finder) cubes (take i list) copy c.loop-piece.picks c.judge_piece.new.picks c.loop-piece.ended c.in_ok-ended.ended invariant.same
          c.in_ok-ended.ensures.more invariant.so);
    }

pub returns-clause-value : goal.returns-clause-value
returns-clause-value g c =
    let C = g.S.Decisions.chosen in
    let p = c.args.protocol.now in
    let cubes = g.F.Finder.list c.args.finder.now in
    judged_all C p cubes c.args.list.now c.loop-piece.picks c.loop-piece.ended
    (taken_all C p cubes c.args.list.now c.loop-piece.piece-index c.loop-piece.picks c.loop-piece.ended c.loop-piece-test.false c.loop-piece.invariant.so)

pub returns-clause-chosen : goal.returns-clause-chosen
returns-clause-chosen g c =
    (taken_all g.S.Decisions.chosen c.args.protocol.now (g.F.Finder.list c.args.finder.now) c.args.list.now c.loop-piece.piece-index c.loop-piece.picks c.loop-piece.ended
    c.loop-piece-test.false c.loop-piece.invariant.so).chosen
