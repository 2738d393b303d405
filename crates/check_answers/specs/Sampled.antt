-- What `sample` answers to a number of levels.
use Rattle.std.specs.Prelude.{◌≡◌, ℕ, List, ◌++◌, Some, codes, length}
use Rattle.std.specs.Fmt.{decimal}
use Rattle.cub_proto.specs.declared.budget.Budget.{Budget}
use Rattle.cub_proto.specs.declared.protocol.Protocol.{Protocol}
use Rattle.log_form.specs.declared.verdicts.LogVerdict.{LogVerdict}
use Rattle.log_form.specs.declared.verdicts.LogVerdict.TheVariants.{Unsafe, UnknownCubes, UnknownWidth, Safe}
use Rattle.log_form.specs.Log.{LogValue, live_cubes}
use Rattle.log_form.specs.Verdict.{verdict_of}
use Rattle.crew.specs.Search.{IsSearch}
use Rattle.sample_gen.specs.Sample.{IsSample}

-- the line of a search in the sample protocol of so many levels
abbrev pub sample_line : ℕ → List ℕ → List ℕ
sample_line levels words = codes "sample " ++ decimal levels ++ codes ": " ++ words ++ codes "\n"

-- what the line says of a verdict, with the number of live cubes; the sample protocol is safe, so UNSAFE is never told
abbrev pub TellsVerdict : ℕ → ℕ → LogVerdict → ℕ → List ℕ → Type 0
TellsVerdict levels live Safe status text = (status ≡ 0) × (text ≡ sample_line levels (codes "SAFE, cubes " ++ decimal live))
TellsVerdict levels live UnknownCubes status text = (status ≡ 3) × (text ≡ sample_line levels (codes "UNKNOWN cubes"))
TellsVerdict levels live UnknownWidth status text = (status ≡ 3) × (text ≡ sample_line levels (codes "UNKNOWN width"))
TellsVerdict levels live Unsafe status text = ⊥

-- what the line says of a log that has a verdict
abbrev pub TellsLine : ℕ → LogValue → ℕ → List ℕ → Type 0
TellsLine levels log status text = (verdict : LogVerdict) × (verdict_of log ≡ Some verdict) × TellsVerdict levels (length (live_cubes log.nodes)) verdict status text

-- the line of the search by one worker in the sample protocol
pub record AnswersSample (levels : ℕ) (budget : Budget) (status : ℕ) (text : List ℕ) : Type 0 where
  pub protocol : Protocol
  pub is_sample : IsSample levels protocol
  pub log : LogValue
  pub search : IsSearch protocol budget log
  pub tells : TellsLine levels log status text
