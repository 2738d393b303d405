use Rattle.std.proofs.Common.{◌≡◌, ◌++◌, length, take, drop, arith, ap, ◌∙◌, All, IsTrue}
use Rattle.std.proofs.lemmas.List.Elements.{All-append}
use Rattle.proc_eq.specs.Solution.{sides_fit}
use Rattle.proc_eq.specs.Classes.{Classes, entry_of}
use Rattle.proc_eq.specs.Chosen.{AreChosen}
use Rattle.proc_eq.specs.Choice.{IsLeastChoice}
use Rattle.cub_base.proofs.Elements.{from_all}
use Rattle.proc_eq.proofs.Closing.{all_wider, written_back}
use Rattle.proc_eq.proofs.Choosing.{least_choice}
use Rattle.proc_eq.proofs.scratch.ProcScratch.choose.Goals as goal

pub returns-clause-chosen : goal.returns-clause-chosen
returns-clause-chosen c =
    let whole = c.args.lits.now ++ c.args.more.now in
    let width : c.self.inside.width ≡ c.args.self.now.width = ap (λ (s : Classes). s.width) c.self.view_is in
    let labels : c.as_slice.result.now ≡ c.args.self.now.labels = c.as_slice.ensures.value ∙ ap (λ (s : Classes). s.labels) c.self.view_is in
    let fit : All (λ lit. IsTrue (sides_fit c.args.self.now.width lit)) whole =
    All-append (λ lit. IsTrue (sides_fit c.args.self.now.width lit)) c.args.lits.now c.args.more.now c.requires.fit c.requires.more_fit in
    let chosen : AreChosen c.args.self.now.labels c.choose.new.processes whole 75 = rw (← labels) c.choose.ensures in
    let items = c.self.inside.processes.items in
    let size : length items ≡ 75 = c.self.invariant.1 in
    let back : take c.self.inside.processes.len (c.choose.new.processes ++ drop (length c.choose.new.processes) items) ≡ c.choose.new.processes =
    written_back items c.choose.new.processes c.self.inside.processes.len (omega (arith, c.choose.ensures.size, size)) (omega (arith, c.self.inside.processes.ok.0)) in
    let least : IsLeastChoice c.args.self.now.width whole (entry_of c.choose.new.processes) =
    least_choice c.args.self.now.width whole c.args.self.now.labels c.choose.new.processes c.requires.closed c.requires.narrow
    (from_all (sides_fit c.args.self.now.width) whole fit)
    (from_all (sides_fit 11) whole (all_wider c.args.self.now.width c.requires.narrow whole fit)) chosen in
    rw (width, back) least
