use Rattle.std.proofs.Common.{rules, arith, ◌<◌, pos, length, get_or, refl, inl, inr, get_or-set_same}
use Rattle.std.proofs.lemmas.Int.{ints}
use Rattle.diff_core.proofs.closure.lower.Goals as goal
use mir.Val.{SFits}
use mir.Syntax.{w64}

pub returns-then-sum-entries-clause-lowers : goal.returns-then-sum-entries-clause-lowers
returns-then-sum-entries-clause-lowers c =
    let f : SFits w64 c.args.first = c.ranges.first in
    let r : SFits w64 (get_or c.args.entries.now c.args.from (pos 0)) = search rules in
    let h : c.args.at < length c.args.entries.now = c.requires.at_in in
    rw get_or-set_same (inr (omega (arith, ints, c.if-rest-lt-FAR.true), omega (arith, ints), omega (arith, ints, c.if-sum-entries.true)))

pub returns-else-sum-entries-clause-lowers : goal.returns-else-sum-entries-clause-lowers
returns-else-sum-entries-clause-lowers c =
    let f : SFits w64 c.args.first = c.ranges.first in
    let r : SFits w64 (get_or c.args.entries.now c.args.from (pos 0)) = search rules in
    let a : SFits w64 (get_or c.args.entries.now c.args.at (pos 0)) = search rules in
    inl (refl, λ near. omega (arith, ints, c.if-sum-entries.false))
