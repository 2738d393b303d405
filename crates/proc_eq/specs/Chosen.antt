-- Processes while they are chosen, side by side in the order of their numbers.
use Rattle.std.specs.Prelude.{◌≡◌, ℕ, ◌<◌, ◌≤◌, Bool, true, false, ◌&&◌, ◌||◌, ◌==◌, nat_lt, List, length, slice_index}
use Rattle.std.specs.List.{list_any}
use Rattle.cub_proto.specs.declared.literal.PSide.{PSide}
use Rattle.cub_proto.specs.declared.literal.Lit.{Lit}
use Rattle.cub_proto.specs.declared.literal.Lit.TheVariants.{FinIn, FinEq, FinNe, ProcEq, ProcNe, Diff}
use Rattle.proc_eq.specs.Classes.{entry_of}

-- a is in the class `own`, b in an earlier class that has process n
abbrev pub forbids_by : List ℕ → List ℕ → ℕ → ℕ → PSide → PSide → Bool
forbids_by labels processes own n a b =
    nat_lt (entry_of labels b) own && (entry_of labels a == own && slice_index processes (entry_of labels b) == n)

-- the literal forbids process n to the class `own`
abbrev pub forbids : List ℕ → List ℕ → ℕ → ℕ → Lit → Bool
forbids labels processes own n (FinIn t mask) = false
forbids labels processes own n (FinEq a b) = false
forbids labels processes own n (FinNe a b) = false
forbids labels processes own n (ProcEq a b) = false
forbids labels processes own n (ProcNe a b) = forbids_by labels processes own n a b || forbids_by labels processes own n b a
forbids labels processes own n (Diff a b bound) = false

-- n is the least process that no literal forbids to the class `own`
pub record IsLeastFree (labels processes : List ℕ) (lits : List Lit) (own n : ℕ) : Type 0 where
  pub free : list_any (forbids labels processes own n) lits ≡ false
  pub below : (k : ℕ) → k < n → list_any (forbids labels processes own k) lits ≡ true

-- the first `count` sides have their processes
pub record AreChosen (labels processes : List ℕ) (lits : List Lit) (count : ℕ) : Type 0 where
  pub size : length processes ≡ 75
  pub low : (k : ℕ) → k < count → slice_index processes k ≤ k
  pub same : (k : ℕ) → k < count → slice_index processes k ≡ slice_index processes (slice_index labels k)
  pub places : (k : ℕ) → k < count → k < 11 → slice_index processes k ≡ k
  pub least : (k : ℕ) → k < count → 11 ≤ k → slice_index labels k ≡ k → IsLeastFree labels processes lits k (slice_index processes k)
