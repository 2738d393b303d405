-- Which logs have a journal.
use Rattle.std.specs.Prelude.{◌≡◌, ◌⊎◌, Some}
use Rattle.log_form.specs.declared.verdicts.LogVerdict.TheVariants.{UnknownCubes, UnknownWidth}
use Rattle.log_form.specs.Log.{LogValue}
use Rattle.log_form.specs.Verdict.{verdict_of}

-- the verdict is UNKNOWN: the cube budget is spent, or live nodes are wider than the width budget
abbrev pub IsUnknown : LogValue → Type 0
IsUnknown log = (verdict_of log ≡ Some UnknownCubes) ⊎ (verdict_of log ≡ Some UnknownWidth)
