use Rattle.std.proofs.Common.{◌≡◌, ◌≤◌, ◌+◌, ◌-◌, ◌∷◌, take, drop, map, not, ap, sym, ◌∙◌, arith, subst}
use Rattle.std.specs.List.{prefix_len}
use Rattle.std.proofs.lemmas.List.{drop-map, length-map}
use Rattle.cube_text.specs.Form.{is_and}
use Rattle.cube_text.specs.Groups.{groups_from}
use Rattle.cube_text.proofs.PartLaws.{group_at, prefix_len-map}
use Rattle.cube_text.proofs.parts.group_end.Goals as goal

pub returns-clause-group : goal.returns-clause-group
returns-clause-group c =
    let ws = map (λ w. w.now) c.args.words.now in
    let n = c.first_and.result in
    let is : n ≡ prefix_len (λ w. not (is_and w)) (drop c.args.at ws) =
    c.first_and.ensures.value
    ∙ ap (prefix_len (λ w. not (is_and w.now))) c.split_at.ensures.back
    ∙ prefix_len-map (λ w. w.now) (λ w. not (is_and w)) (drop c.args.at c.args.words.now)
    ∙ ap (prefix_len (λ w. not (is_and w))) (sym (drop-map (λ w. w.now) c.args.at c.args.words.now)) in
    let back : n ≡ c.args.at + n - c.args.at = omega arith in
    group_at ws c.args.at n (subst (λ k. c.args.at ≤ k) (sym (length-map c.args.words.now (λ w. w.now))) c.requires) is
    ∙ ap (λ k. take k (drop c.args.at ws) ∷ groups_from ws (c.args.at + n + 1)) back
