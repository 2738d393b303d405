use Rattle.std.proofs.Common.{◌+◌, ◌≤◌, length, sym, ap, ◌∙◌, arith, rules}
use Rattle.std.specs.Option.{option_or}
use Rattle.std.proofs.lemmas.List.{length_push}
use Rattle.std.proofs.lemmas.Iterator.Consumers.{YieldsList-turn, YieldsList-end}
use Rattle.std.proofs.lemmas.Iterator.Adapters.{YieldsList-from_vec}
use Rattle.trace_build.proofs.FreeLemmas.{plain_at, turned, fit_here, legal_here, room_here, stands_next, plain_done}
use Rattle.trace_build.proofs.freeing.with_crashes.Goals as goal

pub free_step-requires-clause-fits : goal.free_step-requires-clause-fits
free_step-requires-clause-fits c =
    let turn = YieldsList-turn (YieldsList-from_vec {s = c.into_iter-step-iterator.result} c.into_vec-step-items.result.items (search rules) (search rules))
    c.loop-step.yielded c.loop-step.step-iterator c.loop-step.yielded_by c.next.result c.next.new.self c.in-Some.step c.in-Some.is c.next.ensures.steps in
    let at = turned c.into_vec-step-items.result.items c.args.steps c.loop-step.yielded c.in-Some.step c.loop-step.number c.into_vec-step-items.ensures c.loop-step.invariant.number turn in
    fit_here c.args.protocol.now c.args.start c.args.steps c.args.goal c.args.places.now c.requires.leads c.requires.few c.loop-step.number c.loop-step.machine c.loop-step.events c.loop-step.plain c.loop-step.invariant.stands
    c.in-Some.step at.0 at.1

pub free_step-requires-clause-legal : goal.free_step-requires-clause-legal
free_step-requires-clause-legal c =
    let turn = YieldsList-turn (YieldsList-from_vec {s = c.into_iter-step-iterator.result} c.into_vec-step-items.result.items (search rules) (search rules))
    c.loop-step.yielded c.loop-step.step-iterator c.loop-step.yielded_by c.next.result c.next.new.self c.in-Some.step c.in-Some.is c.next.ensures.steps in
    let at = turned c.into_vec-step-items.result.items c.args.steps c.loop-step.yielded c.in-Some.step c.loop-step.number c.into_vec-step-items.ensures c.loop-step.invariant.number turn in
    legal_here c.args.protocol.now c.args.start c.args.steps c.args.goal c.args.places.now c.requires.leads c.requires.few c.loop-step.number c.loop-step.machine c.loop-step.events c.loop-step.plain c.loop-step.invariant.stands
    c.in-Some.step at.0 at.1

pub free_step-requires-clause-room : goal.free_step-requires-clause-room
free_step-requires-clause-room c =
    let turn = YieldsList-turn (YieldsList-from_vec {s = c.into_iter-step-iterator.result} c.into_vec-step-items.result.items (search rules) (search rules))
    c.loop-step.yielded c.loop-step.step-iterator c.loop-step.yielded_by c.next.result c.next.new.self c.in-Some.step c.in-Some.is c.next.ensures.steps in
    let at = turned c.into_vec-step-items.result.items c.args.steps c.loop-step.yielded c.in-Some.step c.loop-step.number c.into_vec-step-items.ensures c.loop-step.invariant.number turn in
    room_here c.args.protocol.now c.args.start c.args.steps c.args.goal c.args.places.now c.requires.leads c.requires.few c.loop-step.number c.loop-step.machine c.loop-step.events c.loop-step.plain c.loop-step.invariant.stands
    c.in-Some.step at.0 at.1

pub loop-step-preserved : goal.loop-step-preserved
loop-step-preserved c =
    let turn = YieldsList-turn (YieldsList-from_vec {s = c.into_iter-step-iterator.result} c.into_vec-step-items.result.items (search rules) (search rules))
    c.loop-step.yielded c.loop-step.step-iterator c.loop-step.yielded_by c.next.result c.next.new.self c.in-Some.step c.in-Some.is c.next.ensures.steps in
    let at = turned c.into_vec-step-items.result.items c.args.steps c.loop-step.yielded c.in-Some.step c.loop-step.number c.into_vec-step-items.ensures c.loop-step.invariant.number turn in
    record {
      number = ap (λ n. n + 1) c.loop-step.invariant.number ∙ sym (length_push c.loop-step.yielded c.in-Some.step);
      stands = stands_next c.args.protocol.now c.args.start c.args.steps c.args.goal c.args.places.now c.requires.leads c.requires.few c.loop-step.number c.loop-step.machine c.loop-step.events c.loop-step.plain
          c.loop-step.invariant.stands c.in-Some.step at.0 at.1 c.free_step.new.machine c.free_step.new.events c.first_of-plain.result c.in_ok-first.ensures.state c.in_ok-first.ensures.events
          (c.first_of-plain.ensures ∙ ap (λ o. option_or c.loop-step.plain (plain_at c.loop-step.number o)) c.in_ok-first.ensures.first);
    }

pub returns-clause-plain : goal.returns-clause-plain
returns-clause-plain c =
    let end = YieldsList-end (YieldsList-from_vec {s = c.into_iter-step-iterator.result} c.into_vec-step-items.result.items (search rules) (search rules))
    c.loop-step.yielded c.loop-step.step-iterator c.loop-step.yielded_by c.next.result c.next.new.self c.in-None.is c.next.ensures.steps in
    let size = end.1 in
    let all = ap length c.into_vec-step-items.ensures in
    let number = c.loop-step.invariant.number in
    let past : length c.args.steps ≤ c.loop-step.number = omega arith in
    plain_done c.args.protocol.now c.args.start c.args.steps c.args.goal c.args.places.now c.requires.leads c.requires.few c.loop-step.number c.loop-step.machine c.loop-step.events c.loop-step.plain c.loop-step.invariant.stands past
