-- What a section keeps between its rows: a log with a finder, and judgements of its nodes.
use Rattle.std.specs.Prelude.{◌≡◌, List, Option, All, IfSome}
use Rattle.cub_proto.specs.declared.protocol.Protocol.{Protocol}
use Rattle.cub_cube.specs.declared.cube.Cube.{Cube}
use Rattle.log_form.specs.Log.{LogValue, cubes_of}
use Rattle.log_steps.specs.declared.judgement.Verdict.{Verdict}
use Rattle.cube_form.specs.Form.{IsGivenForm}
use Rattle.cube_core.specs.Judgements.{IsJudgement}
use Rattle.predecessors.specs.Predecessors.{ArePieceCubes}

-- the log is of the protocol, and the finder that serves it has the cubes of its nodes
pub record IsAtHand (p : Protocol) (list : List Cube) (serving : Type 0) (log : LogValue) : Type 0 where
  pub protocol : p ≡ log.protocol
  pub cubes : list ≡ cubes_of log.nodes
  pub serves : serving

-- what is left of what was judged may be applied to the log
abbrev pub AreJudgements : LogValue → List (Option Verdict) → Type 0
AreJudgements log verdicts = All (λ kept. IfSome kept (λ v. IsJudgement IsGivenForm ArePieceCubes log v)) verdicts

-- what may be applied to the one log may be applied to the other
abbrev pub StaysJudged : LogValue → LogValue → Type 0
StaysJudged old new = (verdicts : List (Option Verdict)) → AreJudgements old verdicts → AreJudgements new verdicts

-- the section has no log, or one that is at hand, with its judgements
abbrev pub IsKept : Protocol → List Cube → Type 0 → List (Option Verdict) → Option LogValue → Type 0
IsKept p list serving verdicts log = IfSome log (λ l. IsAtHand p list serving l × AreJudgements l verdicts)
