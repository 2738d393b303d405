-- What names stand for: types by their number, and constructors, globals and arrays, which share one space. Of several
-- declarations of one name the first counts.
use Rattle.std.specs.Prelude.{ℕ, ◌+◌, Bool, true, false, ◌&&◌, not, nat_lt, if◌then◌else◌, List, [], ◌∷◌, Option, Some, None, bytes_eq}
use Rattle.cub_proto.specs.declared.literal.Sort.{Sort}
use Rattle.cub_proto.specs.declared.protocol.SortDecl.{SortDecl}
use Rattle.cub_proto.specs.declared.protocol.Decl.{Decl}
use Rattle.cub_proto.specs.Signature.{Signature, declared_sort, constructors_of, is_sort, same_sort}
use Rattle.cub_names.specs.declared.meaning.What.{What}

-- what the first thing with the name is, numbered from k on
abbrev pub first_named : {A B : Type 0} → (A → List ℕ) → (ℕ → A → B) → ℕ → List A → List ℕ → Option B
first_named name what k [] word = None
first_named name what k (x ∷ xs) word = if bytes_eq (name x) word then Some (what k x) else first_named name what (k + 1) xs word

-- the number of the first of the names
abbrev pub number_from : ℕ → List (List ℕ) → List ℕ → Option ℕ
number_from k names word = first_named (λ n. n) (λ number n. number) k names word

abbrev pub or_else : {A : Type 0} → Option A → Option A → Option A
or_else None b = b
or_else (Some a) b = Some a

-- a constructor of the type with that number
abbrev pub constructor_from : ℕ → ℕ → List (List ℕ) → List ℕ → Option What
constructor_from sort k cons word = first_named (λ c. c) (λ number c. What.Con sort number) k cons word

-- a constructor of the types from that number on
abbrev pub constructors_from : ℕ → List SortDecl → List ℕ → Option What
constructors_from sort [] word = None
constructors_from sort (d ∷ ds) word = or_else (constructor_from sort 0 d.cons word) (constructors_from (sort + 1) ds word)

abbrev pub global_from : ℕ → List Decl → List ℕ → Option What
global_from k globals word = first_named (λ d. d.name) (λ number d. What.Global number d.sort) k globals word

abbrev pub array_from : ℕ → List Decl → List ℕ → Option What
array_from k arrays word = first_named (λ d. d.name) (λ number d. What.Array number d.sort) k arrays word

-- what a name of the space of constructors, globals and arrays stands for
abbrev pub stands_for : Signature → List ℕ → Option What
stands_for sig word =
    or_else (constructors_from 0 sig.sorts word) (or_else (global_from 0 sig.globals word) (array_from 0 sig.arrays word))

-- what names stand for is declared, with its sort
abbrev pub what_fits : Signature → What → Bool
what_fits sig (What.Con sort c) = nat_lt c (constructors_of sig (Sort.Fin sort))
what_fits sig (What.Global g sort) = is_sort (declared_sort sig.globals g) sort
what_fits sig (What.Array a sort) = is_sort (declared_sort sig.arrays a) sort

-- the text, and what its names stand for
pub record Frame : Type 0 where
  pub text : List ℕ
  pub sig : Signature
