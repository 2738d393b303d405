use Rattle.std.proofs.Common.{◌≡◌, true, sym, ◌∙◌, ap, bytes_eq}
use Rattle.text_lines.proofs.NumberLaws.{bytes_same}
use Rattle.trace_text.specs.Text.{goal_text}
use Rattle.trace_text.specs.Lawful.{is_lawful_goal}
use Rattle.trace_text.proofs.Refused.{no_goal, differs}
use Rattle.trace_text.proofs.lines.goal_of.Goals as goal

pub returns-then-not-is_lawful_goal-clause-none : goal.returns-then-not-is_lawful_goal-clause-none
returns-then-not-is_lawful_goal-clause-none c =
    no_goal c.args.protocol.now c.args.processes c.args.line.now c.goal_told-goal.result c.in_ok-places.places c.goal_told-goal.ensures c.in_ok-places.ensures
    (λ t.
    let lawful : is_lawful_goal c.args.protocol.now c.args.processes c.goal_told-goal.result c.in_ok-places.places ≡ true = t.lawful in
    let test = c.is_lawful_goal.ensures ∙ ap (is_lawful_goal c.args.protocol.now c.args.processes c.goal_told-goal.result) c.as_slice.ensures in
    let answer = c.if-not-is_lawful_goal.true in
    cc)

pub returns-then-not-branch-clause-none : goal.returns-then-not-branch-clause-none
returns-then-not-branch-clause-none c =
    no_goal c.args.protocol.now c.args.processes c.args.line.now c.goal_told-goal.result c.in_ok-places.places c.goal_told-goal.ensures c.in_ok-places.ensures
    (λ t. differs (goal_text c.goal_told-goal.result c.in_ok-places.places) c.args.line.now
    (ap (λ ps. bytes_eq (goal_text c.goal_told-goal.result ps) c.args.line.now) (sym c.as_slice-2.ensures) ∙ sym c.in_ok-goal_is_written.ensures
    ∙ c.if-not-branch.true) t.text)

pub returns-clause-found : goal.returns-clause-found
returns-clause-found c = record {
  few = c.requires;
  lawful =
      ap (is_lawful_goal c.args.protocol.now c.args.processes c.goal_told-goal.result) (sym c.as_slice.ensures) ∙ sym c.is_lawful_goal.ensures
      ∙ c.if-not-is_lawful_goal.false;
  text = sym (bytes_same (goal_text c.goal_told-goal.result c.in_ok-places.places) c.args.line.now
      (ap (λ ps. bytes_eq (goal_text c.goal_told-goal.result ps) c.args.line.now) (sym c.as_slice-2.ensures) ∙ sym c.in_ok-goal_is_written.ensures
      ∙ c.if-not-branch.false));
}
