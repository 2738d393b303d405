use Rattle.std.proofs.Common.{◌≡◌, ◌∙◌, ap, refl, [], ◌∷◌}
use Rattle.cub_proto.specs.Parts.{AreParts}
use Rattle.sample_gen.proofs.Fitting.{their_parts}
use Rattle.sample_gen.proofs.whole.sample.Goals as goal

pub invariant_of-result : goal.invariant_of-result
invariant_of-result c =
    let parts : AreParts c.in_ok-sorts.sorts c.new.result c.in_ok-arrays.arrays c.in_ok-start.start c.in_ok-goals.goals c.in_ok-transitions.transitions =
    their_parts c.args.levels c.requires.low c.requires.high
    c.in_ok-sorts.sorts c.new.result c.in_ok-arrays.arrays c.in_ok-start.start c.in_ok-goals.goals c.in_ok-transitions.transitions
    c.in_ok-sorts.ensures c.new.ensures c.in_ok-arrays.ensures (c.in_ok-start.ensures ∙ ap (λ lit. (lit ∷ []) ∷ []) c.is_on.ensures) c.in_ok-goals.ensures c.in_ok-transitions.ensures in
    record {
      few = parts.few;
      sorts_fit = parts.sorts;
      distinct = parts.distinct;
      globals_fit = parts.globals;
      arrays_fit = parts.arrays;
      start_fits = parts.start;
      goals_fit = parts.goals;
      transitions_fit = parts.transitions;
    }
