use Rattle.std.proofs.Common.{sym, subst}
use Rattle.cub_proto.specs.Configuration.{process_count, IsAlive}
use Rattle.cub_proto.proofs.StateValues.{alive_within}
use Rattle.cub_cube.specs.Crashes.{spare}
use Rattle.cub_cube.proofs.CrashLemmas.{after_crashes, killed_all_crashed, spare_all}
use Rattle.cub_cube.proofs.step_laws.all_others_can_crash.Goals as goal

pub returns-clause-legal : goal.returns-clause-legal
returns-clause-legal c p s keep = (spare_all p keep s (process_count s)).legal

pub returns-clause-left : goal.returns-clause-left
returns-clause-left c p s keep i =
    let crashed = spare keep s (process_count s) in
    let is = after_crashes p s crashed in
    let all = spare_all p keep s (process_count s) in (
      λ h.
          let there = subst (λ t. IsAlive t i) is h in
          let alive = (killed_all_crashed s crashed).alive i there in
          (alive, all.others i (alive_within s i alive) there),
      λ h. subst (λ t. IsAlive t i) (sym is) (all.kept i h.1 h.0),
    )
