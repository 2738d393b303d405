use Rattle.std.proofs.Common.{◌≡◌, ◌-◌, ◌+◌, ap, ◌∙◌, arith, None, subst, drop}
use Rattle.cub_names.specs.Seen.{value_in}
use Rattle.cub_names.specs.Meaning.{number_from, or_else}
use Rattle.cub_names.proofs.NamedSteps.{named_more, or_none}
use Rattle.cub_names.proofs.types.fill.Goals as goal

pub loop-left-preserved : goal.loop-left-preserved
loop-left-preserved c =
    let left = c.loop-left.left in
    let ws = c.args.words.now in
    record {
      within = omega arith;
      has = λ q.
          named_more (λ n. n) (λ number n. number) ws q None left (left - 1) left c.index-words-left.result (omega arith) (omega arith) c.index-words-left.is
          _ (value_in c.loop-left.numbers q) (c.in_ok-put.ensures q) (c.loop-left.invariant.has q)
          ∙ ap (λ k. or_else (number_from k (drop (left - 1) ws) q) None) (omega arith);
    }

pub returns : goal.returns
returns c = λ q.
    c.loop-left.invariant.has q
    ∙ or_none (number_from (c.loop-left.left + 1) (drop c.loop-left.left c.args.words.now) q)
    ∙ ap (λ n. number_from (n + 1) (drop n c.args.words.now) q) (let none : c.loop-left.left ≡ 0 = omega arith in none)
