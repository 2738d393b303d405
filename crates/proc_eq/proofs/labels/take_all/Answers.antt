use Rattle.std.proofs.Common.{◌≡◌, ℕ, ◌++◌, take, length, ap, ◌∙◌, arith}
use Rattle.std.proofs.Math.Seq.{take-length}
use Rattle.cub_proto.specs.declared.literal.Lit.TheVariants.{FinIn}
use Rattle.cub_proto.specs.declared.literal.Term.TheVariants.{Global}
use Rattle.cub_base.proofs.Conjunctions.{append_take_more}
use Rattle.proc_eq.proofs.Conjunction.{solves_prefix}
use Rattle.proc_eq.proofs.labels.take_all.Goals as goal

pub returns-then-not-take-clause-none : goal.returns-then-not-take-clause-none
returns-then-not-take-clause-none c _ lits m v s =
    c.take.ensures.none c.if-not-take.true (lits ++ take c.loop-lit.lit-index c.args.more.now) (c.loop-lit.invariant.merged lits m) v
    (solves_prefix c.args.width lits c.args.more.now c.loop-lit.lit-index _ v c.loop-lit-test.true s)

pub loop-lit-preserved : goal.loop-lit-preserved
loop-lit-preserved c = record {
  size = c.take.ensures.size;
  merged = λ lits m. rw (append_take_more lits c.args.more.now c.loop-lit.lit-index (FinIn (Global 0) 0) c.loop-lit-test.true)
      (c.take.ensures.taken c.if-not-take.false (lits ++ take c.loop-lit.lit-index c.args.more.now) (c.loop-lit.invariant.merged lits m));
}

pub returns-clause-taken : goal.returns-clause-taken
returns-clause-taken c _ lits m =
    let at_end : c.loop-lit.lit-index ≡ length c.args.more.now = omega (arith, c.loop-lit.auto.lit-index-end, c.loop-lit-test.false) in
    let all : take c.loop-lit.lit-index c.args.more.now ≡ c.args.more.now = ap (λ (k : ℕ). take k c.args.more.now) at_end ∙ take-length c.args.more.now in
    rw (← all) (c.loop-lit.invariant.merged lits m)
