-- Checked values: a value, where there is one, and the list of all faults that stand. The fault that is answered is the
-- first of them by token, and of several at one token the one with the least code.
use Rattle.std.specs.Prelude.{◌≡◌, ℕ, Bool, true, false, ◌&&◌, ◌||◌, ◌==◌, nat_lt, if◌then◌else◌, List, [], ◌∷◌, ◌++◌, map, Option, Some, None, option_map, MatchOption, Contains}
use Rattle.std.specs.List.{fold}
use Rattle.cub_names.specs.declared.fault.TypeKind.{TypeKind}
use Rattle.cub_names.specs.declared.fault.TypeKind.TheVariants as t
use Rattle.cub_names.specs.declared.fault.Fault.{Fault}

abbrev pub fault : ℕ → TypeKind → Fault
fault token kind = record { token = token; kind = kind }

-- the number of a code
abbrev pub rank : TypeKind → ℕ
rank t.T01 = 1
rank t.T02 = 2
rank t.T03 = 3
rank t.T04 = 4
rank t.T05 = 5
rank t.T06 = 6
rank t.T07 = 7
rank t.T08 = 8
rank t.T09 = 9
rank t.T10 = 10
rank t.T11 = 11
rank t.T12 = 12
rank t.T13 = 13
rank t.T14 = 14
rank t.T15 = 15
rank t.T16 = 16
rank t.T17 = 17
rank t.T18 = 18
rank t.T19 = 19
rank t.T20 = 20

-- by token and then by code
abbrev pub before : Fault → Fault → Bool
before a b = nat_lt a.token b.token || (a.token == b.token && nat_lt (rank a.kind) (rank b.kind))

-- the fault that counts of the one that counted so far and another
abbrev pub earlier : Option Fault → Fault → Option Fault
earlier None f = Some f
earlier (Some e) f = if before f e then Some f else Some e

-- the fault that counts of all
abbrev pub first_of_all : Option Fault → List Fault → Option Fault
first_of_all first faults = fold earlier first faults

pub record Checked (A : Type 0) : Type 0 where
  pub value : Option A
  pub faults : List Fault

abbrev pub sound : {A : Type 0} → A → Checked A
sound a = record { value = Some a; faults = [] }

-- no value, and one fault
abbrev pub refuse : {A : Type 0} → ℕ → TypeKind → Checked A
refuse token kind = record { value = None; faults = fault token kind ∷ [] }

-- these faults stand too
abbrev pub beside : {A : Type 0} → List Fault → Checked A → Checked A
beside faults x = record { value = x.value; faults = faults ++ x.faults }

-- a test that needs the value is made where there is one
abbrev pub where_known : {A B : Type 0} → Option A → (A → Checked B) → Checked B
where_known None test = record { value = None; faults = [] }
where_known (Some a) test = test a

infixl 10 ◌>>=◌
abbrev pub ◌>>=◌ : {A B : Type 0} → Checked A → (A → Checked B) → Checked B
x >>= test = beside x.faults (where_known x.value test)

abbrev pub paired : {A B : Type 0} → Option A → Option B → Option (A × B)
paired None b = None
paired (Some a) None = None
paired (Some a) (Some b) = Some (a, b)

-- both are looked at, and there is a value where both have one
abbrev pub both : {A B : Type 0} → Checked A → Checked B → Checked (A × B)
both x y = record { value = paired x.value y.value; faults = x.faults ++ y.faults }

abbrev pub in_front : {A : Type 0} → Option A → Option (List A) → Option (List A)
in_front None xs = None
in_front (Some x) None = None
in_front (Some x) (Some xs) = Some (x ∷ xs)

-- one list behind another, where both are known
abbrev pub appended : {A : Type 0} → Option (List A) → Option (List A) → Option (List A)
appended None ys = None
appended (Some xs) None = None
appended (Some xs) (Some ys) = Some (xs ++ ys)

-- each is looked at, and there is a value where each has one
abbrev pub each : {A : Type 0} → List (Checked A) → Checked (List A)
each [] = sound []
each (x ∷ xs) = record { value = in_front x.value (each xs).value; faults = x.faults ++ (each xs).faults }

-- the value, changed
abbrev pub made : {A B : Type 0} → (A → B) → Checked A → Checked B
made f x = record { value = option_map f x.value; faults = x.faults }

abbrev pub is_there : {A : Type 0} → List A → Bool
is_there [] = false
is_there (x ∷ xs) = true

abbrev pub has_value : {A : Type 0} → Option A → Bool
has_value None = false
has_value (Some a) = true

-- there is a value, or a fault says why there is none
abbrev pub IsTold : {A : Type 0} → Checked A → Type 0
IsTold x = (has_value x.value || is_there x.faults) ≡ true

-- the fault is among these, and none of these is before it
pub record IsFirst (faults : List Fault) (f : Fault) : Type 0 where
  pub among : Contains faults f
  pub none_before : (g : Fault) → Contains faults g → before g f ≡ false

-- the fault that counts of all is the first of them
abbrev pub FirstIsLeast : Type 0
FirstIsLeast = (faults : List Fault) → MatchOption (first_of_all None faults) (faults ≡ []) (IsFirst faults)
