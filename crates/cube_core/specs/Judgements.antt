-- Judgements that a log may be asked to apply.
use Rattle.std.specs.Prelude.{◌<◌, ◌≤◌, length, take}
use Rattle.log_form.specs.Pieces.{PieceRelation}
use Rattle.log_form.specs.Log.{LogValue, node_at, cubes_of}
use Rattle.log_steps.specs.declared.judgement.Verdict.{Verdict}
use Rattle.log_steps.specs.Chosen.{FormRelation}
use Rattle.log_steps.specs.Judged.{AreJudged}

-- the verdict is of a node of the log, on its first nodes
pub record IsJudgement (C : FormRelation) (P : PieceRelation) (log : LogValue) (verdict : Verdict) : Type 0 where
  pub inside : verdict.node < length log.nodes
  pub seen : verdict.seen ≤ length log.nodes
  pub judged : AreJudged C P log.protocol (take verdict.seen (cubes_of log.nodes)) (node_at log.nodes verdict.node).cube verdict.picks
