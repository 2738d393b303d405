use Rattle.std.proofs.Common.{◌<◌, ℕ, List, length, subst}
use Rattle.cub_cube.specs.declared.cube.Cube.{Cube}
use Rattle.subsume.specs.declared.summary.Summary.{Summary}
use Rattle.cover_index.specs.Asked.{summary_at, AreSummed, AreMet, Joins}
use Rattle.cover_index.proofs.Sealing.{all_of}
use Rattle.cover_index.proofs.segment.Segment.seal.Goals as goal

pub returns-in-Ok-first_met-clause-serves : goal.returns-in-Ok-first_met-clause-serves
returns-in-Ok-first_met-clause-serves c =
    let p = c.args.protocol.now in
    let all = c.joined.result in
    let summaries = c.in-Ok.summaries in
    let summed : AreSummed p c.args.cubes summaries = subst (λ (cs : List Cube). AreSummed p cs summaries) c.as_slice.ensures c.in-Ok.ensures in
    record {
      summed = summed;
      joined = all_of p c.args.cubes summaries all summed (subst (λ (ss : List Summary). (i : ℕ) → i < length ss → Joins (summary_at ss i) all) c.as_slice-in-Ok-first_met.ensures c.joined.ensures);
      first_met = subst (λ (cs : List Cube). AreMet p cs c.in-Ok-first_met.met) c.as_slice-2.ensures c.in-Ok-first_met.ensures.known;
    }
