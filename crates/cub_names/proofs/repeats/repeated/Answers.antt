use Rattle.std.proofs.Common.{ap, sym, ◌∙◌, ◌+◌, ◌++◌, append_assoc, arith, map, take, drop, bytes_eq}
use Rattle.cub_names.specs.Lists.{repeated}
use Rattle.std.specs.List.{list_any}
use Rattle.cub_names.proofs.RepeatSteps.{words, words_more, repeated_next, seen_next}
use Rattle.cub_names.proofs.repeats.repeated.Goals as goal

pub loop-leaf-preserved : goal.loop-leaf-preserved
loop-leaf-preserved c =
    let t = c.args.text.now in
    let taken = map (λ name. name.now) c.args.taken.now in
    let ls = c.args.leaves.now in
    let i = c.loop-leaf.leaf-index in
    record {
      found =
          ap (λ f. f ++ repeated t (words t taken ls (i + 1)) (drop (i + 1) ls)) c.in_ok-see.ensures.found
          ∙ append_assoc c.loop-leaf.found.items _ _
          ∙ ap (λ f. c.loop-leaf.found.items ++ f) (sym (repeated_next t taken ls i _ (omega arith) _ (c.loop-leaf.invariant.seen _)))
          ∙ c.loop-leaf.invariant.found;
      seen = λ q.
          c.in_ok-see.ensures.after q
          ∙ seen_next (words t taken ls i) _ q _ (c.loop-leaf.invariant.seen q)
          ∙ ap (list_any (bytes_eq q)) (words_more t taken ls i _ (omega arith));
    }
