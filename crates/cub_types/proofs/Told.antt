-- There is no value only with a fault: it holds of each way to combine checked values, and of sides.
use Rattle.std.proofs.Common.{◌≡◌, ℕ, Bool, true, false, ◌||◌, List, [], ◌∷◌, ◌++◌, Option, Some, None, option_map, refl, sym, true≢false}
use Rattle.std.specs.Prelude.{if◌then◌else◌}
use Rattle.cub_names.specs.declared.fault.Fault.{Fault}
use Rattle.cub_names.specs.Checked.{Checked, sound, refuse, beside, where_known, ◌>>=◌, paired, both, in_front, each, made, appended, is_there, has_value, IsTold}

abbrev Told : {A : Type 0} → Option A → List Fault → Type 0
Told value faults = (has_value value || is_there faults) ≡ true

told_more : {A : Type 0} (front : List Fault) (value : Option A) (faults : List Fault) → Told value faults → Told value (front ++ faults)
told_more [] value faults h = h
told_more (f ∷ fs) None faults h = refl
told_more (f ∷ fs) (Some a) faults h = refl

pub there_left : (faults behind : List Fault) → is_there faults ≡ true → is_there (faults ++ behind) ≡ true
there_left [] behind h = absurd (true≢false (sym h))
there_left (f ∷ fs) behind h = refl

pub there_more : (front faults : List Fault) → is_there faults ≡ true → is_there (front ++ faults) ≡ true
there_more [] faults h = h
there_more (f ∷ fs) faults h = refl

pub told_beside : {A : Type 0} (front : List Fault) (x : Checked A) → IsTold x → IsTold (beside front x)
told_beside front x h = told_more front x.value x.faults h

told_known : {A B : Type 0} (value : Option A) (faults : List Fault) (test : A → Checked B) → Told value faults → ((a : A) → IsTold (test a))
    → Told (where_known value test).value (faults ++ (where_known value test).faults)
told_known None [] test h each = h
told_known None (f ∷ fs) test h each = refl
told_known (Some a) faults test h each = told_more faults (test a).value (test a).faults (each a)

pub told_then : {A B : Type 0} (x : Checked A) (test : A → Checked B) → IsTold x → ((a : A) → IsTold (test a)) → IsTold (x >>= test)
told_then x test h each = told_known x.value x.faults test h each

told_pair : {A B : Type 0} (v : Option A) (fs : List Fault) (w : Option B) (gs : List Fault) → Told v fs → Told w gs → Told (paired v w) (fs ++ gs)
told_pair None [] w gs h k = absurd (true≢false (sym h))
told_pair None (f ∷ fs) w gs h k = refl
told_pair (Some a) fs None gs h k = there_more fs gs k
told_pair (Some a) fs (Some b) gs h k = refl

pub told_both : {A B : Type 0} (x : Checked A) (y : Checked B) → IsTold x → IsTold y → IsTold (both x y)
told_both x y h k = told_pair x.value x.faults y.value y.faults h k

told_front : {A : Type 0} (v : Option A) (fs : List Fault) (w : Option (List A)) (gs : List Fault) → Told v fs → Told w gs → Told (in_front v w) (fs ++ gs)
told_front None [] w gs h k = absurd (true≢false (sym h))
told_front None (f ∷ fs) w gs h k = refl
told_front (Some a) fs None gs h k = there_more fs gs k
told_front (Some a) fs (Some b) gs h k = refl

-- each of them is told
abbrev pub AllTold : {A : Type 0} → List (Checked A) → Type 0
AllTold [] = Unit {0}
AllTold (x ∷ xs) = IsTold x × AllTold xs

pub told_each : {A : Type 0} (xs : List (Checked A)) → AllTold xs → IsTold (each xs)
told_each [] h = refl
told_each (x ∷ xs) h = told_front x.value x.faults (each xs).value (each xs).faults h.0 (told_each xs h.1)

told_map : {A B : Type 0} (f : A → B) (v : Option A) (fs : List Fault) → Told v fs → Told (option_map f v) fs
told_map f None fs h = h
told_map f (Some a) fs h = refl

pub told_made : {A B : Type 0} (f : A → B) (x : Checked A) → IsTold x → IsTold (made f x)
told_made f x h = told_map f x.value x.faults h

pub told_appended : {A : Type 0} (v : Option (List A)) (fs : List Fault) (w : Option (List A)) (gs : List Fault) → (has_value v || is_there fs) ≡ true → (has_value w || is_there gs) ≡ true
    → (has_value (appended v w) || is_there (fs ++ gs)) ≡ true
told_appended None [] w gs h k = absurd (true≢false (sym h))
told_appended None (f ∷ fs) w gs h k = refl
told_appended (Some a) fs None gs h k = there_more fs gs k
told_appended (Some a) fs (Some b) gs h k = refl

pub told_if : {A : Type 0} (b : Bool) (x y : Checked A) → IsTold x → IsTold y → IsTold (if b then x else y)
told_if true x y h k = h
told_if false x y h k = k
