-- The reading of the start values, one value after another.
use Rattle.std.proofs.Common.{◌≡◌, ℕ, zero, suc, ◌+◌, ◌<◌, Bool, true, false, nat_lt, List, [], ◌∷◌, ◌++◌, length, get_or, take, replicate, Some, Err, refl, ap, sym, subst, ◌∙◌, arith, lt-ltb, le-ltb}
use Rattle.std.specs.Prelude.{slice_get, slice_set}
use Rattle.std.specs.List.{AllZip}
use Rattle.std.proofs.lemmas.Bool.{cond-true, cond-false}
use Rattle.std.proofs.lemmas.List.{length-take-le, take_all, take-set, take_more_set, take_more, get_or-set_same}
use Rattle.cub_base.proofs.Elements.{zip_at}
use Rattle.cub_proto.specs.declared.protocol.Protocol.{Protocol}
use Rattle.cub_proto.specs.declared.state.Slot.TheVariants as Slot
use Rattle.cub_proto.specs.declared.state.Val.{Val}
use Rattle.cub_proto.specs.Configuration.{Configuration, process_count, cells_of, put}
use Rattle.cub_proto.specs.StateOf.{signature_of, AreCells, IsStateOf}
use Rattle.replay.specs.FitsStart.{FitsStart}
use Rattle.text_lines.specs.Reading.{stops}
use Rattle.trace_text.specs.declared.fault.TraceFault.{TraceFault}
use Rattle.trace_text.specs.declared.fault.TraceFault.TheVariants as faults
use Rattle.trace_text.specs.Place.{Place, Globals, Cells, Events, TakesValue, takes, TraceReads, GoesOn, IsFaultOf, start_of, behind_globals, behind_arrays, behind_cells}
use Rattle.trace_text.specs.Values.{TakenHere, IsNoValue, at_globals, at_arrays, at_cells}
use Rattle.trace_text.proofs.Steps.{goes_on}

zip_length : {A B : Type 0} (R : A → B → Type 0) (xs : List A) (ys : List B) → AllZip R xs ys → length ys ≡ length xs
zip_length R [] [] h = refl
zip_length R [] (y ∷ ys) h = absurd h
zip_length R (x ∷ xs) [] h = absurd h
zip_length R (x ∷ xs) (y ∷ ys) h = ap suc (zip_length R xs ys h.1)

pub nth : {X : Type 0} (xs : List X) (i : ℕ) → i < length xs → (x : X) × (slice_get xs i ≡ Some x)
nth [] i h = absurd (omega arith)
nth (x ∷ xs) zero h = (x, refl)
nth (x ∷ xs) (suc i) h = nth xs i (omega arith)

all_alive : (xs : List Bool) → ((i : ℕ) → i < length xs → get_or xs i false ≡ true) → xs ≡ replicate (length xs) true
all_alive [] h = refl
all_alive (x ∷ xs) h = ap (λ b. b ∷ xs) (h 0 (omega arith)) ∙ ap (λ bs. true ∷ bs) (all_alive xs (λ i inside. h (suc i) (omega arith)))

-- an array has a cell for each process
pub state_cells : (p : Protocol) (s : Configuration) → IsStateOf p s → (a : ℕ) → a < length p.arrays → length (cells_of s a) ≡ process_count s
state_cells p s state a here =
    let d = nth p.arrays a here in
    (zip_at (AreCells (signature_of p) (process_count s)) p.arrays s.arrays a d.0 [] state.arrays_fit d.1).one_each

module _ (p : Protocol) (s : Configuration) (fits : FitsStart p s) where
  pub globals_len : length s.globals ≡ length p.globals
  globals_len = zip_length _ p.globals s.globals fits.state_of.globals_fit

  pub arrays_len : length s.arrays ≡ length p.arrays
  arrays_len = zip_length _ p.arrays s.arrays fits.state_of.arrays_fit

  pub cells_len : (a : ℕ) → a < length p.arrays → length (cells_of s a) ≡ process_count s
  cells_len a here = state_cells p s fits.state_of a here

  pub living_all : s.living ≡ replicate (process_count s) true
  living_all = all_alive s.living fits.alive

  module _ (c : Bool) (n : ℕ) where
    -- a global
    module _ (g : ℕ) (here : g < length p.globals) (m : ℕ) (text : List ℕ) where
      abbrev seen : List Val
      seen = take g s.globals

      seen_len : length (take g s.globals) ≡ g
      seen_len = let l = globals_len in length-take-le g s.globals (omega arith)

      global_open : at_globals p c n s g ≡ Globals c n (take g s.globals)
      global_open =
          let l = seen_len in
          cond-true (nat_lt (length (take g s.globals)) (length p.globals)) (Globals c n (take g s.globals)) (behind_arrays p c n (take g s.globals) [])
          (lt-ltb (length (take g s.globals)) (length p.globals) (omega arith))

      pub global_read : (v : Val) (rest : List ℕ) → TakenHere p n (Slot.Global g) text v rest
          → GoesOn p (at_globals p c n (put s (Slot.Global g) v) (g + 1)) (m + 1) rest (at_globals p c n s g) m text
      global_read v rest (bytes, at, taken) =
          let q = at_globals p c n (put s (Slot.Global g) v) (g + 1) in
          let l = globals_len in
          let to : q ≡ behind_globals p c n (take g s.globals ++ v ∷ []) = ap (behind_globals p c n) (take_more_set s.globals g v (omega arith)) in
          let value : TakesValue p n (Slot.Global (length (take g s.globals))) bytes v = subst (λ k. TakesValue p n (Slot.Global k) bytes v) (sym seen_len) taken in
          let step : takes p (Globals c n (take g s.globals)) bytes q = (v, value, to) in
          subst (λ (place : Place). GoesOn p q (m + 1) rest place m text) (sym global_open) (goes_on p (Globals c n (take g s.globals)) m text bytes rest q at step)

      pub global_refused : (f : TraceFault) → IsNoValue p n (Slot.Global g) m text f → IsFaultOf p (at_globals p c n s g) m text f
      global_refused (faults.Fault line kind) (same, three, none) =
          let here_stops : TraceReads p (Globals c n (take g s.globals)) m text (Err (m, 3)) = stops (record {
            no_end = λ e. refl;
            no_line = λ bytes rest q at t. none bytes rest t.0 at (subst (λ k. TakesValue p n (Slot.Global k) bytes t.0) seen_len t.1);
          }) in
          subst (λ (place : Place). TraceReads p place m text (Err (line, kind))) (sym global_open)
          (subst (λ (k : ℕ). TraceReads p (Globals c n (take g s.globals)) m text (Err (line, k))) (sym three)
          (subst (λ (k : ℕ). TraceReads p (Globals c n (take g s.globals)) m text (Err (k, 3))) (sym same) here_stops))
      global_refused faults.Memory h = tt

    -- behind the globals
    pub globals_end : at_globals p c n s (length p.globals) ≡ at_arrays p c n s 0
    globals_end =
        let l = globals_len in
        ap (behind_globals p c n) (take_all (length p.globals) s.globals (omega arith))
        ∙ cond-false (nat_lt (length s.globals) (length p.globals)) (Globals c n s.globals) (behind_arrays p c n s.globals [])
        (le-ltb (length s.globals) (length p.globals) (omega arith))

    -- a cell
    module _ (a : ℕ) (here : a < length p.arrays) where
      arrays_seen : length (take a s.arrays) ≡ a
      arrays_seen = let l = arrays_len in length-take-le a s.arrays (omega arith)

      array_open : at_arrays p c n s a ≡ Cells c n s.globals (take a s.arrays) []
      array_open =
          let l = arrays_seen in
          cond-true (nat_lt (length (take a s.arrays)) (length p.arrays)) (Cells c n s.globals (take a s.arrays) []) (Events c (start_of n s.globals (take a s.arrays)) [])
          (lt-ltb (length (take a s.arrays)) (length p.arrays) (omega arith))

      pub array_begins : 0 < n → at_arrays p c n s a ≡ at_cells p c n s a 0
      array_begins some =
          array_open
          ∙ sym (cond-true (nat_lt 0 n) (Cells c n s.globals (take a s.arrays) []) (behind_arrays p c n s.globals (take a s.arrays ++ [] ∷ [])) (lt-ltb 0 n some))

      pub array_ends : n ≡ process_count s → at_cells p c n s a n ≡ at_arrays p c n s (a + 1)
      array_ends counts =
          let l = arrays_len in
          let k = cells_len a here in
          let all : take n (cells_of s a) ≡ cells_of s a = take_all n (cells_of s a) (omega arith) in
          ap (behind_cells p c n s.globals (take a s.arrays)) all
          ∙ cond-false (nat_lt (length (cells_of s a)) n) (Cells c n s.globals (take a s.arrays) (cells_of s a)) (behind_arrays p c n s.globals (take a s.arrays ++ cells_of s a ∷ []))
          (le-ltb (length (cells_of s a)) n (omega arith))
          ∙ ap (behind_arrays p c n s.globals) (sym (take_more s.arrays a [] (omega arith)))

      module _ (i : ℕ) (inside : i < n) (counts : n ≡ process_count s) (m : ℕ) (text : List ℕ) where
        cells_seen : length (take i (cells_of s a)) ≡ i
        cells_seen = let k = cells_len a here in length-take-le i (cells_of s a) (omega arith)

        cell_open : at_cells p c n s a i ≡ Cells c n s.globals (take a s.arrays) (take i (cells_of s a))
        cell_open =
            let l = cells_seen in
            cond-true (nat_lt (length (take i (cells_of s a))) n) (Cells c n s.globals (take a s.arrays) (take i (cells_of s a)))
            (behind_arrays p c n s.globals (take a s.arrays ++ take i (cells_of s a) ∷ [])) (lt-ltb (length (take i (cells_of s a))) n (omega arith))

        slots : (bytes : List ℕ) (v : Val) → TakesValue p n (Slot.Cell a i) bytes v
            → TakesValue p n (Slot.Cell (length (take a s.arrays)) (length (take i (cells_of s a)))) bytes v
        slots bytes v taken =
            subst (λ k. TakesValue p n (Slot.Cell (length (take a s.arrays)) k) bytes v) (sym cells_seen)
            (subst (λ k. TakesValue p n (Slot.Cell k i) bytes v) (sym arrays_seen) taken)

        slots_back : (bytes : List ℕ) (v : Val) → TakesValue p n (Slot.Cell (length (take a s.arrays)) (length (take i (cells_of s a)))) bytes v
            → TakesValue p n (Slot.Cell a i) bytes v
        slots_back bytes v taken =
            subst (λ k. TakesValue p n (Slot.Cell k i) bytes v) arrays_seen
            (subst (λ k. TakesValue p n (Slot.Cell (length (take a s.arrays)) k) bytes v) cells_seen taken)

        pub cell_read : (v : Val) (rest : List ℕ) → TakenHere p n (Slot.Cell a i) text v rest
            → GoesOn p (at_cells p c n (put s (Slot.Cell a i) v) a (i + 1)) (m + 1) rest (at_cells p c n s a i) m text
        cell_read v rest (bytes, at, taken) =
            let l = arrays_len in
            let k = cells_len a here in
            let changed = slice_set (cells_of s a) i v in
            let q = at_cells p c n (put s (Slot.Cell a i) v) a (i + 1) in
            let front : take a (slice_set s.arrays a changed) ≡ take a s.arrays = take-set s.arrays a changed in
            let own : cells_of (put s (Slot.Cell a i) v) a ≡ changed = get_or-set_same s.arrays a changed [] (omega arith) in
            let to : q ≡ behind_cells p c n s.globals (take a s.arrays) (take i (cells_of s a) ++ v ∷ []) =
            ap (λ xs. behind_cells p c n s.globals xs (take (i + 1) (cells_of (put s (Slot.Cell a i) v) a))) front
            ∙ ap (λ xs. behind_cells p c n s.globals (take a s.arrays) (take (i + 1) xs)) own
            ∙ ap (behind_cells p c n s.globals (take a s.arrays)) (take_more_set (cells_of s a) i v (omega arith)) in
            let step : takes p (Cells c n s.globals (take a s.arrays) (take i (cells_of s a))) bytes q = (v, slots bytes v taken, to) in
            subst (λ (place : Place). GoesOn p q (m + 1) rest place m text) (sym cell_open)
            (goes_on p (Cells c n s.globals (take a s.arrays) (take i (cells_of s a))) m text bytes rest q at step)

        pub cell_refused : (f : TraceFault) → IsNoValue p n (Slot.Cell a i) m text f → IsFaultOf p (at_cells p c n s a i) m text f
        cell_refused (faults.Fault line kind) (same, three, none) =
            let place = Cells c n s.globals (take a s.arrays) (take i (cells_of s a)) in
            let here_stops : TraceReads p place m text (Err (m, 3)) = stops (record {
              no_end = λ e. refl;
              no_line = λ bytes rest q at t. none bytes rest t.0 at (slots_back bytes t.0 t.1);
            }) in
            subst (λ (x : Place). TraceReads p x m text (Err (line, kind))) (sym cell_open)
            (subst (λ (k : ℕ). TraceReads p place m text (Err (line, k))) (sym three)
            (subst (λ (k : ℕ). TraceReads p place m text (Err (k, 3))) (sym same) here_stops))
        cell_refused faults.Memory h = tt

    -- behind all arrays
    pub arrays_end : n ≡ process_count s → at_arrays p c n s (length p.arrays) ≡ Events c s []
    arrays_end counts =
        let l = arrays_len in
        ap (behind_arrays p c n s.globals) (take_all (length p.arrays) s.arrays (omega arith))
        ∙ cond-false (nat_lt (length s.arrays) (length p.arrays)) (Cells c n s.globals s.arrays []) (Events c (start_of n s.globals s.arrays) [])
        (le-ltb (length s.arrays) (length p.arrays) (omega arith))
        ∙ ap (λ living. Events c (record { living = living; globals = s.globals; arrays = s.arrays }) []) (ap (λ k. replicate k true) counts ∙ sym living_all)
