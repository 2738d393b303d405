use Rattle.std.proofs.Common.{◌≡◌, ◌∙◌, sym}
use Rattle.theory.proofs.Parting.{processes_none}
use Rattle.theory.proofs.consistency.process_part.Goals as goal

pub process_extends-requires-clause-solved : goal.process_extends-requires-clause-solved
process_extends-requires-clause-solved c = processes_none c.args.width c.args.lits.now (sym c.has_process.ensures ∙ c.if-not-has_process.true)
