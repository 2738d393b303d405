use Rattle.cover_index.proofs.tests.push_all.Given as goal

abbrev pub invariant-loop-i : goal.invariant-loop-i
invariant-loop-i g l = g.F.Finder.serves l.finder l.protocol
