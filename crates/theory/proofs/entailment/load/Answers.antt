use Rattle.std.proofs.Common.{◌≡◌, ◌↔◌, ℕ, ◌∙◌, sym, ap, subst, ◌++◌, [], List, Bool, true, false, length, append-nil}
use Rattle.std.specs.Prelude.{IsTrue, All}
use Rattle.std.proofs.lemmas.Bool.{false≢true}
use Rattle.cub_proto.specs.declared.literal.Lit.{Lit}
use Rattle.cub_proto.specs.StateOf.{signature_of}
use Rattle.proc_eq.specs.Solution.{HasSolution as HasProcesses}
use Rattle.proc_eq.specs.Classes.{IsClosureOf as IsClassesOf}
use Rattle.diff_close.specs.Literals.{HasSolution as HasIntegers, HasSmallBound, MentionAtMost}
use Rattle.diff_close.specs.Scratch.{IsClosureOf as IsIntegersOf}
use Rattle.theory_laws.proofs.Parts.{all_proc, all_small}
use Rattle.theory_laws.proofs.Domains.{gathered_solves}
use Rattle.theory.specs.Theory.{Theory}
use Rattle.theory.proofs.Parting.{fin_here, diff_here, finite_refuted, processes_refuted, integers_exact, refuted}
use Rattle.theory.proofs.entailment.load.Goals as goal

pub gather-requires : goal.gather-requires
gather-requires c =
    fin_here c.args.protocol.now c.args.width c.args.lits.now c.scratch.inside.domains (ap (λ (t : Theory). length t.domains) c.scratch.view_is ∙ c.requires.made.domain_count) c.requires.fitting

pub returns-then-not-gather-clause-exact : goal.returns-then-not-gather-clause-exact
returns-then-not-gather-clause-exact c = (
  (λ h. absurd (false≢true h)),
  (λ has. absurd (finite_refuted c.args.protocol.now c.args.width c.args.lits.now c.requires.fitting (c.gather.ensures.none c.if-not-gather.true) has)),
)

pub links_agree-requires-clause-fit : goal.links_agree-requires-clause-fit
links_agree-requires-clause-fit c =
    fin_here c.args.protocol.now c.args.width c.args.lits.now c.scratch.inside.masks (ap (λ (t : Theory). length t.masks) c.scratch.view_is ∙ c.requires.made.mask_count) c.requires.fitting

pub links_agree-requires-clause-alone : goal.links_agree-requires-clause-alone
links_agree-requires-clause-alone c free =
    gathered_solves (signature_of c.args.protocol.now) c.args.lits.now c.gather.new.self (c.gather.ensures.gathered c.if-not-gather.false) free

pub returns-then-not-links_agree-clause-exact : goal.returns-then-not-links_agree-clause-exact
returns-then-not-links_agree-clause-exact c = (
  (λ h. absurd (false≢true h)),
  (λ has. absurd (finite_refuted c.args.protocol.now c.args.width c.args.lits.now c.requires.fitting (refuted c.links_agree.result _ c.if-not-links_agree.true c.links_agree.ensures.exact) has)),
)

pub close-requires-clause-fit : goal.close-requires-clause-fit
close-requires-clause-fit c = all_proc c.args.protocol.now c.args.width c.args.lits.now c.requires.fitting

pub returns-then-not-close-clause-exact : goal.returns-then-not-close-clause-exact
returns-then-not-close-clause-exact c =
    let exact : IsTrue c.close.result ↔ HasProcesses c.args.width c.args.lits.now = subst (λ (xs : List Lit). IsTrue c.close.result ↔ HasProcesses c.args.width xs) (append-nil c.args.lits.now) c.close.ensures.exact in
    ((λ h. absurd (false≢true h)), (λ has. absurd (processes_refuted c.args.protocol.now c.args.width c.args.lits.now c.requires.fitting (refuted c.close.result _ c.if-not-close.true exact) has)))

pub close_integers-requires-clause-terms : goal.close_integers-requires-clause-terms
close_integers-requires-clause-terms c =
    subst (λ (xs : List Lit). MentionAtMost c.scratch.inside.integers.room xs) (sym (append-nil c.args.lits.now))
    (diff_here c.args.protocol.now c.args.width c.args.lits.now c.scratch.inside.integers.room (ap (λ (t : Theory). t.integers.room) c.scratch.view_is ∙ c.requires.made.room) c.requires.fitting)

pub close_integers-requires-clause-bounds : goal.close_integers-requires-clause-bounds
close_integers-requires-clause-bounds c =
    subst (λ (xs : List Lit). All HasSmallBound xs) (sym (append-nil c.args.lits.now)) (all_small c.args.protocol.now c.args.width c.args.lits.now c.requires.fitting)

pub returns-clause-exact : goal.returns-clause-exact
returns-clause-exact c =
    let q : IsTrue c.close.result ↔ HasProcesses c.args.width c.args.lits.now = subst (λ (xs : List Lit). IsTrue c.close.result ↔ HasProcesses c.args.width xs) (append-nil c.args.lits.now) c.close.ensures.exact in
    let d : IsTrue c.close_integers.result ↔ HasIntegers c.args.lits.now = subst (λ (xs : List Lit). IsTrue c.close_integers.result ↔ HasIntegers xs) (append-nil c.args.lits.now) c.close_integers.ensures.exact in
    integers_exact c.args.protocol.now c.args.width c.args.lits.now c.requires.fitting c.close_integers.result (c.links_agree.ensures.exact.0 c.if-not-links_agree.false) (q.0 c.if-not-close.false) d

pub returns-clause-loaded : goal.returns-clause-loaded
returns-clause-loaded c h =
    let q : IsTrue c.close.result ↔ HasProcesses c.args.width c.args.lits.now = subst (λ (xs : List Lit). IsTrue c.close.result ↔ HasProcesses c.args.width xs) (append-nil c.args.lits.now) c.close.ensures.exact in
    let d : IsTrue c.close_integers.result ↔ HasIntegers c.args.lits.now = subst (λ (xs : List Lit). IsTrue c.close_integers.result ↔ HasIntegers xs) (append-nil c.args.lits.now) c.close_integers.ensures.exact in
    record {
      fitting = c.requires.fitting;
      parts = record { finite = c.links_agree.ensures.exact.0 c.if-not-links_agree.false; processes = q.0 c.if-not-close.false; integers = d.0 h };
      gathered = c.gather.ensures.gathered c.if-not-gather.false;
      places = c.close.ensures.width;
      merged = subst (λ (xs : List Lit). IsClassesOf xs c.close.new.self) (append-nil c.args.lits.now) (c.close.ensures.closed c.if-not-close.false);
      closed = subst (λ (xs : List Lit). IsIntegersOf xs c.close_integers.new.integers) (append-nil c.args.lits.now) (c.close_integers.ensures.closed h);
    }
