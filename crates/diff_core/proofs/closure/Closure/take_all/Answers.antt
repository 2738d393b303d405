use Rattle.std.proofs.Common.{◌≡◌, ◌<◌, ◌+◌, List, [], ◌∷◌, ◌++◌, length, take, arith, subst, sym, ◌∙◌, pos}
use Rattle.std.proofs.lemmas.List.{take_more}
use Rattle.diff_core.specs.declared.constraint.Constraint.{Constraint}
use Rattle.diff_core.specs.Constraints.{constraint_at}
use Rattle.diff_core.specs.Table.{IsClosureOf}
use Rattle.diff_core.proofs.closure.Closure.take_all.Goals as goal

pub loop-k-preserved : goal.loop-k-preserved
loop-k-preserved g c =
    let all : List Constraint = g.C.Constraints.list c.args.constraints.now in
    let k_in : c.loop-k.k < length all = omega (arith, c.loop-k-test.true, c.count-count.ensures) in
    let more : take (c.loop-k.k + 1) all ≡ take c.loop-k.k all ++ constraint_at all c.loop-k.k ∷ [] = take_more all c.loop-k.k (record { left = 0; right = 0; bound = pos 0 }) k_in in
    let taken : IsClosureOf (take c.loop-k.k all ++ c.get-con.result ∷ []) c.take.new.self = c.take.ensures.taken c.if-not-take.false (take c.loop-k.k all) c.loop-k.invariant.closure in
    record {
      nodes = c.take.ensures.nodes ∙ c.loop-k.invariant.nodes;
      closure = subst (λ (cs : List Constraint). IsClosureOf cs c.take.new.self) (sym more)
          (subst (λ (x : Constraint). IsClosureOf (take c.loop-k.k all ++ x ∷ []) c.take.new.self) c.get-con.ensures taken);
    }
