use Rattle.figures.proofs.listing.fill.Given as goal

abbrev pub invariant-loop-done : goal.invariant-loop-done
invariant-loop-done g l = g.F.Finder.serves l.finder l.protocol
