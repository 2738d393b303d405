use Rattle.std.proofs.Common.{◌≡◌, ℕ, ◌<◌, ◌≤◌, ◌∙◌, sym, true, length, get_or, arith}
use Rattle.cub_proto.specs.declared.literal.Term.TheVariants.{Global}
use Rattle.diff_close.specs.Names.{term_eq, index_of}
use Rattle.diff_close.proofs.Terms.{index_here, index_none}
use Rattle.diff_close.proofs.names.place.Goals as goal

pub returns-then-is_same : goal.returns-then-is_same
returns-then-is_same c =
    let h = c.is_same.ensures in
    index_here c.args.terms.now c.args.term.now (Global 0) c.loop-i.i c.loop-i-test.true c.loop-i.invariant (sym h ∙ c.if-is_same.true)

pub returns : goal.returns
returns c = index_none c.args.terms.now c.args.term.now (Global 0) (λ k k_in. c.loop-i.invariant k (omega (arith, k_in, c.loop-i-test.false)))
