use Rattle.std.proofs.Common.{not, [], ◌∷◌, sym, ◌∙◌}
use Rattle.std.proofs.lemmas.Bool.{not-false}
use Rattle.cub_proto.specs.Configuration.{process_count}
use Rattle.cub_proto.specs.Truth.{any_true}
use Rattle.replay.proofs.LegalFault.{range_none}
use Rattle.replay.proofs.machine.Machine.new.Goals as goal

pub returns-in-Ok-clause-start : goal.returns-in-Ok-clause-start
returns-in-Ok-clause-start c =
    let p = c.args.protocol.now in
    let s = c.args.state in
    record {
      state = c.requires.state_of;
      alive = c.requires.alive;
      begins = λ i within. not-false (any_true s (i ∷ []) p.start)
          (range_none (λ j. not (any_true s (j ∷ []) p.start)) (process_count s) (sym c.first_unstarted.ensures ∙ c.in_default.is) i within);
    }
