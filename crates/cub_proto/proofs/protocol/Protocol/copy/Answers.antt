use Rattle.std.proofs.Common.{◌∙◌}
use Rattle.cub_proto.proofs.SameParts.{equal_parts}
use Rattle.cub_proto.proofs.protocol.Protocol.copy.Goals as goal

pub invariant_of-result : goal.invariant_of-result
invariant_of-result c =
    let same = equal_parts c.args.self.now c.in_ok-sorts.sorts c.in_ok-globals.globals c.in_ok-arrays.arrays c.in_ok-start.start c.in_ok-goals.goals c.in_ok-transitions.transitions
    (c.in_ok-sorts.ensures ∙ c.as_slice.ensures) (c.in_ok-globals.ensures ∙ c.as_slice-2.ensures) (c.in_ok-arrays.ensures ∙ c.as_slice-3.ensures)
    (c.in_ok-start.ensures ∙ c.as_slice-4.ensures) (c.in_ok-goals.ensures ∙ c.as_slice-5.ensures) (c.in_ok-transitions.ensures ∙ c.as_slice-6.ensures) in
    record {
      few = same.few;
      sorts_fit = same.sorts;
      distinct = same.distinct;
      globals_fit = same.globals;
      arrays_fit = same.arrays;
      start_fits = same.start;
      goals_fit = same.goals;
      transitions_fit = same.transitions;
    }
