use Rattle.std.proofs.Common.{◌≡◌, ℕ, ◌++◌, List, take, length, ap, ◌∙◌, arith}
use Rattle.std.proofs.Math.Seq.{take-length}
use Rattle.cub_proto.specs.declared.literal.Lit.TheVariants.{FinIn}
use Rattle.cub_proto.specs.declared.literal.Term.TheVariants.{Global}
use Rattle.cub_proto.specs.StateOf.{signature_of}
use Rattle.cub_base.proofs.Conjunctions.{append_take_more}
use Rattle.fin_dom.proofs.Gathering.{solution_prefix}
use Rattle.fin_dom.proofs.gather.gather.Goals as goal

pub returns-then-not-gather_one-clause-none : goal.returns-then-not-gather_one-clause-none
returns-then-not-gather_one-clause-none c _ lits g solution =
    c.gather_one.ensures.none c.if-not-gather_one.true (lits ++ take c.loop-lit.lit-index c.args.more.now) (c.loop-lit.invariant.gathered lits g)
    (solution_prefix (signature_of c.args.protocol.now) lits c.args.more.now c.loop-lit.lit-index (FinIn (Global 0) 0) c.loop-lit-test.true solution)

pub loop-lit-preserved : goal.loop-lit-preserved
loop-lit-preserved c = record {
  size = c.gather_one.ensures.size ∙ c.loop-lit.invariant.size;
  gathered = λ lits g. rw (append_take_more lits c.args.more.now c.loop-lit.lit-index (FinIn (Global 0) 0) c.loop-lit-test.true)
      (c.gather_one.ensures.gathered c.if-not-gather_one.false (lits ++ take c.loop-lit.lit-index c.args.more.now) (c.loop-lit.invariant.gathered lits g));
}

pub returns-clause-gathered : goal.returns-clause-gathered
returns-clause-gathered c _ lits g =
    let at_end : c.loop-lit.lit-index ≡ length c.args.more.now = omega (arith, c.loop-lit.auto.lit-index-end, c.loop-lit-test.false) in
    let all : take c.loop-lit.lit-index c.args.more.now ≡ c.args.more.now = ap (λ (k : ℕ). take k c.args.more.now) at_end ∙ take-length c.args.more.now in
    rw (← all) (c.loop-lit.invariant.gathered lits g)
