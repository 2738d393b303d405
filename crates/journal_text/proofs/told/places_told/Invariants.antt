use Rattle.journal_text.proofs.Looping.{IsToldPlaces}
use Rattle.journal_text.proofs.told.places_told.Given as goal

abbrev pub invariant-loop : goal.invariant-loop
invariant-loop l = IsToldPlaces l.count l.bytes l.counter l.rest l.places
