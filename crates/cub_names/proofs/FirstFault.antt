-- Where no fault was kept, none stands.
use Rattle.std.proofs.Common.{◌≡◌, Bool, true, false, List, [], ◌∷◌, Option, Some, None, refl}
use Rattle.std.specs.Prelude.{if◌then◌else◌}
use Rattle.cub_names.specs.declared.fault.Fault.{Fault}
use Rattle.cub_names.specs.Checked.{before, earlier, first_of_all}

kept_by : (b : Bool) (e f : Fault) (faults : List Fault) → ((g : Fault) → first_of_all (Some g) faults ≡ None → ⊥) → first_of_all (if b then Some f else Some e) faults ≡ None → ⊥
kept_by true e f faults stays h = stays f h
kept_by false e f faults stays h = stays e h

-- a fault that was kept stays, or an earlier one is kept in its place
kept : (e : Fault) (faults : List Fault) → first_of_all (Some e) faults ≡ None → ⊥
kept e [] h = cc
kept e (f ∷ faults) h = kept_by (before f e) e f faults (λ g. kept g faults) h

pub none_told : (faults : List Fault) → first_of_all None faults ≡ None → faults ≡ []
none_told [] h = refl
none_told (f ∷ faults) h = absurd (kept f faults h)
