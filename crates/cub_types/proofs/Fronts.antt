-- One part more at the end of those that are known.
use Rattle.std.proofs.Common.{◌≡◌, List, [], ◌∷◌, ◌++◌, Option, Some, None, refl, ap, append_assoc}
use Rattle.std.proofs.lemmas.List.{append-nil}
use Rattle.std.specs.Prelude.{Result, Ok, Err, OnOk}
use Rattle.cub_names.specs.Checked.{in_front}
use Rattle.cub_names.specs.Checked.{appended}

-- what is known so far and the next part, before what is to come
pub front_pushed : {A : Type 0} (found : Option (List A)) (next : Option A) (rest : Option (List A))
    → appended (appended found (in_front next (Some []))) rest ≡ appended found (in_front next rest)
front_pushed None next rest = refl
front_pushed (Some xs) None rest = refl
front_pushed (Some xs) (Some x) None = refl
front_pushed (Some xs) (Some x) (Some ys) = ap Some (append_assoc xs (x ∷ []) ys)

pub front_empty : {A : Type 0} (rest : Option (List A)) → appended (Some []) rest ≡ rest
front_empty None = refl
front_empty (Some ys) = refl

pub front_whole : {A : Type 0} (found : Option (List A)) → appended found (Some []) ≡ found
front_whole None = refl
front_whole (Some xs) = ap Some (append-nil xs)

pub appended_assoc : {A : Type 0} (xs ys zs : Option (List A)) → appended (appended xs ys) zs ≡ appended xs (appended ys zs)
appended_assoc None ys zs = refl
appended_assoc (Some xs) None zs = refl
appended_assoc (Some xs) (Some ys) None = refl
appended_assoc (Some xs) (Some ys) (Some zs) = ap Some (append_assoc xs ys zs)

pub ruleset fronts = (front_pushed, front_empty, front_whole, appended_assoc)

pub on_ok : {A E : Type 0} (P : Type 0) (r : Result A E) → P → OnOk r P
on_ok P (Ok a) p = p
on_ok P (Err e) p = tt
