-- Writing the chosen values into a state, one after another.
use Rattle.std.proofs.Common.{◌≡◌, ℕ, zero, suc, ◌+◌, ◌-◌, ◌<◌, ◌≤◌, Bool, true, false, cond, List, [], ◌∷◌, ◌++◌, length, get_or, take, drop, set, map, replicate, Some, ℤ, pos, ◌-ℤ◌, ◌≤ℤ◌, refl, sym, ap, ◌∙◌, subst, arith, append_assoc, max}
use Rattle.std.specs.Prelude.{slice_get}
use Rattle.std.specs.List.{range_with_len}
use Rattle.std.proofs.lemmas.Int.{ints}
use Rattle.std.proofs.lemmas.List.{drop_more, take_more, set_at, length-take-le, length-append, length-drop, take_all, drop_all, append-nil, length-set, length-map, length-replicate}
use Rattle.std.proofs.lemmas.List.FromFn.{length-map-range_with_len}
use Rattle.cub_proto.specs.declared.state.Slot.{Slot}
use Rattle.cub_proto.specs.declared.state.Slot.TheVariants as Slot
use Rattle.cub_proto.specs.declared.state.Val.{Val}
use Rattle.cub_proto.specs.declared.state.Val.TheVariants.{Con, Proc, Int}
use Rattle.cub_proto.specs.declared.literal.Sort.{Sort}
use Rattle.cub_proto.specs.declared.literal.PSide.TheVariants as PSide
use Rattle.cub_proto.specs.declared.protocol.Decl.{Decl}
use Rattle.cub_proto.specs.Configuration.{Configuration, value_at, cells_of, put, process_count}
use Rattle.cub_proto.specs.Signature.{same_sort}
use Rattle.cub_base.specs.Numbered.{map_from}
use Rattle.cub_proto.specs.declared.literal.Term.{Term}
use Rattle.cub_proto.specs.declared.protocol.Protocol.{Protocol}
use Rattle.cub_proto.specs.First.{first_value}
use Rattle.cub_proto.specs.StateOf.{first_state}
use Rattle.diff_close.specs.Scratch.{Scratch, IsClosed}
use Rattle.theory_laws.specs.Built.{Values, global_value, cell_values, built}
use Rattle.theory_laws.proofs.Choosing.{chosen_at}
use Rattle.theory.specs.Loaded.{AreChosen}
use Rattle.theory_laws.specs.Chosen.{needed_from}
use Rattle.theory_laws.specs.Small.{IsSmallValue, HasSmallIntegers}

-- a list of which the first i items are written over
pub written_more : {A : Type 0} (new old : List A) (i : ℕ) (v d : A) → i < length new → length old ≡ length new → v ≡ get_or new i d → set (take i new ++ drop i old) i v ≡ take (i + 1) new ++ drop (i + 1) old
written_more new old i v d below same is =
    ap (λ rest. set (take i new ++ rest) i v) (drop_more old i d (omega arith))
    ∙ set_at (take i new) (get_or old i d) (drop (i + 1) old) v i (length-take-le i new (omega arith))
    ∙ ap (λ x. take i new ++ x ∷ drop (i + 1) old) is
    ∙ sym (append_assoc (take i new) (get_or new i d ∷ []) (drop (i + 1) old))
    ∙ ap (λ front. front ++ drop (i + 1) old) (sym (take_more new i d below))

pub written_whole : {A : Type 0} (new old : List A) (i : ℕ) → length old ≡ length new → length new ≤ i → take i new ++ drop i old ≡ new
written_whole new old i same past =
    ap (λ front. front ++ drop i old) (take_all i new past) ∙ ap (λ rest. new ++ rest) (drop_all i old (omega arith)) ∙ append-nil new

pub made_length : {A B : Type 0} (f : ℕ → A → B) (n : ℕ) (xs : List A) → length (map_from f n xs) ≡ length xs
made_length f n [] = refl
made_length f n (x ∷ xs) = ap suc (made_length f (n + 1) xs)

made_item : {A B : Type 0} (f : ℕ → A → B) (n i : ℕ) (xs : List A) (d : A) (e : B) → i < length xs → get_or (map_from f n xs) i e ≡ f (n + i) (get_or xs i d)
made_item f n i [] d e below = absurd (omega arith)
made_item f n zero (x ∷ xs) d e below = let same : n ≡ n + 0 = omega arith in ap (λ k. f k x) same
made_item f n (suc i) (x ∷ xs) d e below = let same : (n + 1) + i ≡ n + suc i = omega arith in made_item f (n + 1) i xs d e (omega arith) ∙ ap (λ k. f k (get_or xs i d)) same

pub item_made : {A B : Type 0} (f : ℕ → A → B) (i : ℕ) (xs : List A) (d : A) (e : B) → i < length xs → get_or (map_from f 0 xs) i e ≡ f i (get_or xs i d)
item_made f i xs d e below = let same : 0 + i ≡ i = omega arith in made_item f 0 i xs d e below ∙ ap (λ k. f k (get_or xs i d)) same

-- ---- small integers
set_keeps : {A : Type 0} (P : A → Type 0) (xs : List A) (i : ℕ) (v d : A) → ((k : ℕ) → P (get_or xs k d)) → P v → (k : ℕ) → P (get_or (set xs i v) k d)
set_keeps P [] i v d each here k = each k
set_keeps P (x ∷ xs) zero v d each here zero = here
set_keeps P (x ∷ xs) zero v d each here (suc k) = each (suc k)
set_keeps P (x ∷ xs) (suc i) v d each here zero = each 0
set_keeps P (x ∷ xs) (suc i) v d each here (suc k) = set_keeps P xs i v d (λ n. each (suc n)) here k

pub put_small : (s : Configuration) (slot : Slot) (v : Val) → HasSmallIntegers s → IsSmallValue v → HasSmallIntegers (put s slot v)
put_small s (Slot.Global g) v small here (Slot.Global h) = set_keeps IsSmallValue s.globals g v (Con 0) (λ k. small (Slot.Global k)) here h
put_small s (Slot.Global g) v small here (Slot.Cell b j) = small (Slot.Cell b j)
put_small s (Slot.Cell a i) v small here (Slot.Global h) = small (Slot.Global h)
put_small s (Slot.Cell a i) v small here (Slot.Cell b j) =
    set_keeps (λ cells. (k : ℕ) → IsSmallValue (get_or cells k (Con 0))) s.arrays a (set (cells_of s a) i v) [] (λ c k. small (Slot.Cell c k))
    (set_keeps IsSmallValue (cells_of s a) i v (Con 0) (λ k. small (Slot.Cell a k)) here) b j

-- ---- the processes that are needed
pub needed_next : (v : Values) (most more g : ℕ) (ds : List Decl) (d : Decl) → g < length ds
    → more ≡ cond (same_sort (get_or ds g d).sort Sort.Proc) (max most (suc (v.process (PSide.Global g)))) most
    → needed_from v more (g + 1) (drop (g + 1) ds) ≡ needed_from v most g (drop g ds)
needed_next v most more g ds d below is =
    let one : g + 1 ≡ suc g = omega arith in
    ap (λ k. needed_from v more k (drop (g + 1) ds)) one ∙ ap (λ m. needed_from v m (suc g) (drop (g + 1) ds)) is ∙ ap (needed_from v most g) (sym (drop_more ds g d below))

-- a configuration of its parts
abbrev config : List Bool → List Val → List (List Val) → Configuration
config ls gs xs = record { living = ls; globals = gs; arrays = xs }

-- ---- one more value
pub globals_step : (s0 s : Configuration) (target : List Val) (g : ℕ) (v : Val) → s ≡ record s0 { globals = take g target ++ drop g s0.globals } → g < length target → length s0.globals ≡ length target → v ≡ get_or target g (Con 0)
    → put s (Slot.Global g) v ≡ record s0 { globals = take (g + 1) target ++ drop (g + 1) s0.globals }
globals_step s0 s target g v is below same here =
    ap (λ x. put x (Slot.Global g) v) is ∙ ap (λ (gs : List Val). let t : Configuration = record s0 { globals = gs } in t) (written_more target s0.globals g v (Con 0) below same here)

pub globals_done : (s0 s : Configuration) (target : List Val) (g : ℕ) → s ≡ record s0 { globals = take g target ++ drop g s0.globals } → length target ≤ g → length s0.globals ≡ length target → s ≡ record s0 { globals = target }
globals_done s0 s target g is past same = is ∙ ap (λ (gs : List Val). let t : Configuration = record s0 { globals = gs } in t) (written_whole target s0.globals g same past)

set_twice : {A : Type 0} (xs : List A) (i : ℕ) (x y : A) → set (set xs i x) i y ≡ set xs i y
set_twice [] i x y = refl
set_twice (z ∷ zs) zero x y = refl
set_twice (z ∷ zs) (suc i) x y = ap (λ rest. z ∷ rest) (set_twice zs i x y)

set_there : {A : Type 0} (xs : List A) (i : ℕ) (x d : A) → i < length xs → get_or (set xs i x) i d ≡ x
set_there [] i x d below = absurd (omega arith)
set_there (z ∷ zs) zero x d below = refl
set_there (z ∷ zs) (suc i) x d below = set_there zs i x d (omega arith)

set_own : {A : Type 0} (xs : List A) (i : ℕ) (d : A) → set xs i (get_or xs i d) ≡ xs
set_own [] i d = refl
set_own (z ∷ zs) zero d = refl
set_own (z ∷ zs) (suc i) d = ap (λ rest. z ∷ rest) (set_own zs i d)

abbrev with_arrays : Configuration → List (List Val) → Configuration
with_arrays s0 cells = record s0 { arrays = cells }

pub cells_start : (s0 : Configuration) (target : List Val) (a : ℕ) → s0 ≡ record s0 { arrays = set s0.arrays a (take 0 target ++ drop 0 (cells_of s0 a)) }
cells_start s0 target a = ap (with_arrays s0) (sym (set_own s0.arrays a []))

pub cells_step : (s0 s : Configuration) (target : List Val) (a i : ℕ) (v : Val) → s ≡ record s0 { arrays = set s0.arrays a (take i target ++ drop i (cells_of s0 a)) } → a < length s0.arrays → i < length target → length (cells_of s0 a) ≡ length target
    → v ≡ get_or target i (Con 0) → put s (Slot.Cell a i) v ≡ record s0 { arrays = set s0.arrays a (take (i + 1) target ++ drop (i + 1) (cells_of s0 a)) }
cells_step s0 s target a i v is there below same here =
    let mixed : List Val = take i target ++ drop i (cells_of s0 a) in
    ap (λ x. put x (Slot.Cell a i) v) is
    ∙ ap (with_arrays s0) (ap (λ (cells : List Val). set (set s0.arrays a mixed) a (set cells i v)) (set_there s0.arrays a mixed [] there)
    ∙ set_twice s0.arrays a mixed (set mixed i v) ∙ ap (set s0.arrays a) (written_more target (cells_of s0 a) i v (Con 0) below same here))

pub cells_done : (s0 s : Configuration) (target : List Val) (a i : ℕ) → s ≡ record s0 { arrays = set s0.arrays a (take i target ++ drop i (cells_of s0 a)) } → length target ≤ i → length (cells_of s0 a) ≡ length target
    → s ≡ record s0 { arrays = set s0.arrays a target }
cells_done s0 s target a i is past same = is ∙ ap (λ (cells : List Val). with_arrays s0 (set s0.arrays a cells)) (written_whole target (cells_of s0 a) i same past)

-- the item at the seam is the old one
seam : {A : Type 0} (new old : List A) (i : ℕ) (d : A) → i < length new → length old ≡ length new → get_or (take i new ++ drop i old) i d ≡ get_or old i d
seam [] old i d below same = absurd (omega arith)
seam (x ∷ xs) [] i d below same = absurd (omega arith)
seam (x ∷ xs) (y ∷ ys) zero d below same = refl
seam (x ∷ xs) (y ∷ ys) (suc i) d below same = seam xs ys i d (omega arith) (omega arith)

mixed_length : {A : Type 0} (new old : List A) (i : ℕ) → i ≤ length new → length old ≡ length new → length (take i new ++ drop i old) ≡ length new
mixed_length new old i below same = omega (arith, length-append (take i new) (drop i old), length-take-le i new below, length-drop i old)

module _ (s0 s : Configuration) (target : List (List Val)) (a : ℕ) (is : s ≡ record s0 { arrays = take a target ++ drop a s0.arrays }) (same : length s0.arrays ≡ length target) (below : a < length target) where
  pub array_there : a < length s.arrays
  array_there = omega (arith, ap (λ x. length x.arrays) is, mixed_length target s0.arrays a (omega arith) same)

  pub array_cells : cells_of s a ≡ cells_of s0 a
  array_cells = ap (λ x. cells_of x a) is ∙ seam target s0.arrays a [] below same

  pub array_count : process_count s ≡ process_count s0
  array_count = ap process_count is

  pub arrays_step : (v : List Val) → v ≡ get_or target a [] → (t : Configuration) → t ≡ record s { arrays = set s.arrays a v } → t ≡ record s0 { arrays = take (a + 1) target ++ drop (a + 1) s0.arrays }
  arrays_step v here t made =
      made ∙ ap (λ x. with_arrays x (set x.arrays a v)) is ∙ ap (with_arrays s0) (written_more target s0.arrays a v [] below same here)

pub arrays_done : (s0 s : Configuration) (target : List (List Val)) (a : ℕ) → s ≡ record s0 { arrays = take a target ++ drop a s0.arrays } → length target ≤ a → length s0.arrays ≡ length target → s ≡ record s0 { arrays = target }
arrays_done s0 s target a is past same = is ∙ ap (with_arrays s0) (written_whole target s0.arrays a same past)

-- ---- some integers are chosen
pub some_chosen : (s : Scratch) → IsClosed s → (w : Term → ℤ) × AreChosen w s
some_chosen s (lits, is) = ((λ t. (chosen_at lits s is t).0), record { lits = lits; closed = is; each = λ t. (chosen_at lits s is t).1 })

-- ---- the first state
first_small : (sort : Sort) → IsSmallValue (first_value sort)
first_small (Sort.Fin k) = tt
first_small Sort.Proc = tt
first_small Sort.Int = (omega (arith, ints), omega (arith, ints))

small_globals : (ds : List Decl) (g : ℕ) → IsSmallValue (get_or (map (λ d. first_value d.sort) ds) g (Con 0))
small_globals [] g = tt
small_globals (d ∷ ds) zero = first_small d.sort
small_globals (d ∷ ds) (suc g) = small_globals ds g

small_copies : (n : ℕ) (v : Val) → IsSmallValue v → (i : ℕ) → IsSmallValue (get_or (replicate n v) i (Con 0))
small_copies zero v here i = tt
small_copies (suc n) v here zero = here
small_copies (suc n) v here (suc i) = small_copies n v here i

small_arrays : (n : ℕ) (ds : List Decl) (a i : ℕ) → IsSmallValue (get_or (get_or (map (λ d. replicate n (first_value d.sort)) ds) a []) i (Con 0))
small_arrays n [] a i = tt
small_arrays n (d ∷ ds) zero i = small_copies n (first_value d.sort) (first_small d.sort) i
small_arrays n (d ∷ ds) (suc a) i = small_arrays n ds a i

pub first_state_small : (p : Protocol) (n : ℕ) → HasSmallIntegers (first_state p n)
first_state_small p n (Slot.Global g) = small_globals p.globals g
first_state_small p n (Slot.Cell a i) = small_arrays n p.arrays a i

first_cells : (n : ℕ) (ds : List Decl) (a : ℕ) → a < length ds → length (get_or (map (λ d. replicate n (first_value d.sort)) ds) a []) ≡ n
first_cells n [] a below = absurd (omega arith)
first_cells n (d ∷ ds) zero below = length-replicate n (first_value d.sort)
first_cells n (d ∷ ds) (suc a) below = first_cells n ds a (omega arith)

module _ (p : Protocol) (n : ℕ) (s : Configuration) (is : s ≡ first_state p n) where
  pub first_globals : length s.globals ≡ length p.globals
  first_globals = ap (λ x. length x.globals) is ∙ length-map p.globals (λ d. first_value d.sort)

  pub first_count : process_count s ≡ n
  first_count = ap process_count is ∙ length-replicate n true

  pub first_arrays : length s.arrays ≡ length p.arrays
  first_arrays = ap (λ x. length x.arrays) is ∙ length-map p.arrays (λ d. replicate n (first_value d.sort))

  pub first_each : (a : ℕ) → a < length s.arrays → length (cells_of s a) ≡ process_count s
  first_each a below = ap (λ x. length (cells_of x a)) is ∙ (first_cells n p.arrays a (omega (arith, first_arrays)) ∙ sym first_count)

  pub first_ints : HasSmallIntegers s
  first_ints = subst HasSmallIntegers (sym is) (first_state_small p n)

  -- the first state with the values of globals and cells is the built one
  pub made_built : (width : ℕ) (v : Values) (t u : Configuration) → t ≡ record s { globals = map_from (global_value v) 0 p.globals } → u ≡ record t { arrays = map_from (cell_values width (process_count t) v) 0 p.arrays } → u ≡ built p width n v
  made_built width v t u globals arrays =
      let count : process_count t ≡ n = ap process_count globals ∙ first_count in
      let living : t.living ≡ replicate n true = ap (λ x. x.living) globals ∙ ap (λ x. x.living) is in
      let own : t.globals ≡ map_from (global_value v) 0 p.globals = ap (λ x. x.globals) globals in
      arrays ∙ whole living own (ap (λ k. map_from (cell_values width k v) 0 p.arrays) count)
    where
      whole : {ls ms : List Bool} {gs hs : List Val} {xs ys : List (List Val)} → ls ≡ ms → gs ≡ hs → xs ≡ ys → config ls gs xs ≡ config ms hs ys
      whole a b c = cc

pub put_cells : (s : Configuration) (a i : ℕ) (v : Val) → a < length s.arrays → (a < length (put s (Slot.Cell a i) v).arrays) × (length (cells_of (put s (Slot.Cell a i) v) a) ≡ length (cells_of s a))
put_cells s a i v there = (
  omega (arith, there, length-set s.arrays a (set (cells_of s a) i v)),
  ap length (set_there s.arrays a (set (cells_of s a) i v) [] there) ∙ length-set (cells_of s a) i v,
)

-- a state whose globals alone are other ones
module _ (s t : Configuration) (gs : List Val) (is : t ≡ record s { globals = gs }) where
  pub same_arrays : length t.arrays ≡ length s.arrays
  same_arrays = ap (λ x. length x.arrays) is

  pub same_cells : ((a : ℕ) → a < length s.arrays → length (cells_of s a) ≡ process_count s) → (a : ℕ) → a < length t.arrays → length (cells_of t a) ≡ process_count t
  same_cells each a below = ap (λ x. length (cells_of x a)) is ∙ (each a (omega (arith, below, same_arrays)) ∙ sym (ap process_count is))
