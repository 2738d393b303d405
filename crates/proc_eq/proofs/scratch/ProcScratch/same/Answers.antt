use Rattle.std.proofs.Common.{◌≡◌, sym, ap, ◌∙◌, eq-eqb, List, ℕ}
use Rattle.std.proofs.lemmas.Bool.{eqb-true}
use Rattle.proc_eq.specs.Classes.{Classes, entry_of}
use Rattle.proc_eq.proofs.scratch.ProcScratch.same.Goals as goal

pub returns : goal.returns
returns c lits closure =
    let labels : c.self.inside.labels.items ≡ c.args.self.now.labels = ap (λ (s : Classes). s.labels) c.self.view_is in
    let a : c.entry.result ≡ entry_of c.args.self.now.labels c.args.a =
    c.entry.ensures ∙ ap (λ (table : List ℕ). entry_of table c.args.a) (c.as_slice.ensures.value ∙ labels) in
    let b : c.entry-2.result ≡ entry_of c.args.self.now.labels c.args.b =
    c.entry-2.ensures ∙ ap (λ (table : List ℕ). entry_of table c.args.b) (c.as_slice-2.ensures.value ∙ labels) in (
      (λ e v s. closure.forced v s c.args.a c.args.b c.requires.a_fits c.requires.b_fits (sym a ∙ eqb-true _ _ e ∙ b)),
      (λ forces. eq-eqb _ _ (a ∙ forces (entry_of c.args.self.now.labels) closure.solves ∙ sym b)),
    )
