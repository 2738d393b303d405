-- The text of a lawful trace is read back as that trace.
use Rattle.std.proofs.Common.{◌≡◌, ℕ, suc, ◌+◌, ◌<◌, ◌≤◌, Bool, true, nat_lt, List, [], ◌∷◌, ◌++◌, length, map, Option, Some, None, is_some, Ok, refl, ap, sym, subst, ◌∙◌, arith, codes, inl, inr, append_assoc, append-nil, lt-ltb, le-ltb, length-append}
use Rattle.std.specs.Prelude.{slice_get, nat_le}
use Rattle.std.proofs.lemmas.Bool.{cond-true, cond-false, and_parts, ltb-true}
use Rattle.std.proofs.lemmas.List.{length_push}
use Rattle.cub_base.specs.Numbered.{map_from}
use Rattle.cub_proto.specs.declared.protocol.Protocol.{Protocol}
use Rattle.cub_proto.specs.declared.state.Slot.{Slot}
use Rattle.cub_proto.specs.declared.state.Val.{Val}
use Rattle.cub_proto.specs.declared.event.Event.{Event}
use Rattle.cub_proto.specs.declared.event.Plain.{Plain}
use Rattle.cub_proto.specs.declared.event.Trace.{Trace}
use Rattle.cub_proto.specs.Configuration.{process_count}
use Rattle.replay.specs.Bound.{size_of, greatest_start, most_events}
use Rattle.replay.specs.FitsEvent.{slot_takes}
use Rattle.replay.specs.FitsStart.{is_start_value}
use Rattle.text_lines.specs.Line.{text_of, line_at}
use Rattle.text_lines.specs.Spelling.{entry_text}
use Rattle.text_lines.specs.Reading.{ends, line}
use Rattle.text_lines.proofs.LineLaws.{IsOneLine, line_written}
use Rattle.trace_text.specs.Text.{has_any, heading_text, version_text, count_text, global_lines, cell_lines, array_lines, start_lines, event_text, goal_text, plain_text, plain_lines, trace_text}
use Rattle.trace_text.specs.Lawful.{IsLawful, is_lawful_event, is_lawful_end}
use Rattle.trace_text.specs.Place.{Place, Heading, Version, Count, Globals, Cells, Events, PlainLine, Closing, Done, takes, TraceReads, start_of, behind_globals, behind_arrays, behind_cells, behind_goal, trace_of}
use Rattle.std.proofs.lemmas.List.{take_all}
use Rattle.trace_text.proofs.ToldLaws.{may_be_written, within_list}
use Rattle.trace_text.proofs.OneLines.{one_entry, one_heading, one_version, one_count, one_event, one_goal, one_plain, steps_few}
use Rattle.trace_text.proofs.StartLaws.{globals_len, arrays_len, globals_end, arrays_end}
use Rattle.trace_text.proofs.StartFits.{get_is, global_fits_start, cells_fit_start}
use Rattle.trace_text.specs.Lawful.{steps_in}

-- from this place on, whatever the number of the line is, these lines read as the trace
abbrev AnyLine : Protocol → Place → List (List ℕ) → Trace → Type 0
AnyLine p place ls t = (n : ℕ) → TraceReads p place n (text_of ls) (Ok t)

module _ (p : Protocol) (t : Trace) where
  step : (place q : Place) (l : List ℕ) (ls : List (List ℕ)) → takes p place l q → IsOneLine l → AnyLine p q ls t → AnyLine p place (l ∷ ls) t
  step place q l ls tk one next = λ n. line l (text_of ls) at tk (next (n + 1))
    where
      at : ◌≡◌ {A = Option (List ℕ × List ℕ)} (line_at (text_of (l ∷ ls))) (Some (l, text_of ls))
      at = ap line_at (append_assoc l (10 ∷ []) (text_of ls)) ∙ line_written l (text_of ls) one

  module _ (n : ℕ) (few : n ≤ 128) where
    value_line : (slot : Slot) (v : Val) → is_start_value p n slot v ≡ true → IsOneLine (entry_text p slot v)
    value_line slot v h =
        let parts = and_parts (slot_takes p n slot v) (nat_le (size_of v) greatest_start) h in
        one_entry p n slot v (may_be_written p n few v parts.1 slot parts.0)

    module _ (c : Bool) (ls : List (List ℕ)) where
      globals_back : (gs done : List Val) → length (done ++ gs) ≡ length p.globals
          → ((k : ℕ) (v : Val) → slice_get gs k ≡ Some v → is_start_value p n (Slot.Global (length done + k)) v ≡ true)
          → AnyLine p (behind_globals p c n (done ++ gs)) ls t
          → AnyLine p (behind_globals p c n done) (map_from (λ g v. entry_text p (Slot.Global g) v) (length done) gs ++ ls) t
      globals_back [] done len each next = subst (λ (xs : List Val). AnyLine p (behind_globals p c n xs) ls t) (append-nil done) next
      globals_back (v ∷ vs) done len each next =
          let f : ℕ → Val → List ℕ = λ g w. entry_text p (Slot.Global g) w in
          let here : length done + 0 ≡ length done = omega arith in
          let fits : is_start_value p n (Slot.Global (length done)) v ≡ true = ap (λ k. is_start_value p n (Slot.Global k) v) (sym here) ∙ each 0 v refl in
          let size = length-append done (v ∷ vs) in
          let opened : behind_globals p c n done ≡ Globals c n done =
          cond-true (nat_lt (length done) (length p.globals)) (Globals c n done) (behind_arrays p c n done []) (lt-ltb (length done) (length p.globals) (omega arith)) in
          let longer : length (done ++ v ∷ []) ≡ length done + 1 = length_push done v in
          let whole : (done ++ v ∷ []) ++ vs ≡ done ++ v ∷ vs = append_assoc done (v ∷ []) vs in
          let inner = globals_back vs (done ++ v ∷ []) (ap length whole ∙ len)
          (λ k w is.
          let number : length (done ++ v ∷ []) + k ≡ length done + suc k = omega (arith, longer) in
          ap (λ m. is_start_value p n (Slot.Global m) w) number ∙ each (suc k) w is)
          (subst (λ (xs : List Val). AnyLine p (behind_globals p c n xs) ls t) (sym whole) next) in
          let later : AnyLine p (behind_globals p c n (done ++ v ∷ [])) (map_from f (length done + 1) vs ++ ls) t =
          subst (λ (k : ℕ). AnyLine p (behind_globals p c n (done ++ v ∷ [])) (map_from f k vs ++ ls) t) longer inner in
          subst (λ (place : Place). AnyLine p place (f (length done) v ∷ (map_from f (length done + 1) vs ++ ls)) t) (sym opened)
          (step (Globals c n done) (behind_globals p c n (done ++ v ∷ [])) (f (length done) v) (map_from f (length done + 1) vs ++ ls)
          (v, record { few = few; fits = fits; text = refl }, refl) (value_line (Slot.Global (length done)) v fits) later)

      module _ (gs : List Val) where
        cells_back : (arrays : List (List Val)) (cs done : List Val) → length (done ++ cs) ≡ n
            → ((k : ℕ) (v : Val) → slice_get cs k ≡ Some v → is_start_value p n (Slot.Cell (length arrays) (length done + k)) v ≡ true)
            → AnyLine p (behind_cells p c n gs arrays (done ++ cs)) ls t
            → AnyLine p (behind_cells p c n gs arrays done) (map_from (λ i v. entry_text p (Slot.Cell (length arrays) i) v) (length done) cs ++ ls) t
        cells_back arrays [] done len each next = subst (λ (xs : List Val). AnyLine p (behind_cells p c n gs arrays xs) ls t) (append-nil done) next
        cells_back arrays (v ∷ vs) done len each next =
            let f : ℕ → Val → List ℕ = λ i w. entry_text p (Slot.Cell (length arrays) i) w in
            let here : length done + 0 ≡ length done = omega arith in
            let fits : is_start_value p n (Slot.Cell (length arrays) (length done)) v ≡ true =
            ap (λ k. is_start_value p n (Slot.Cell (length arrays) k) v) (sym here) ∙ each 0 v refl in
            let size = length-append done (v ∷ vs) in
            let opened : behind_cells p c n gs arrays done ≡ Cells c n gs arrays done =
            cond-true (nat_lt (length done) n) (Cells c n gs arrays done) (behind_arrays p c n gs (arrays ++ done ∷ [])) (lt-ltb (length done) n (omega arith)) in
            let longer : length (done ++ v ∷ []) ≡ length done + 1 = length_push done v in
            let whole : (done ++ v ∷ []) ++ vs ≡ done ++ v ∷ vs = append_assoc done (v ∷ []) vs in
            let inner = cells_back arrays vs (done ++ v ∷ []) (ap length whole ∙ len)
            (λ k w is.
            let number : length (done ++ v ∷ []) + k ≡ length done + suc k = omega (arith, longer) in
            ap (λ m. is_start_value p n (Slot.Cell (length arrays) m) w) number ∙ each (suc k) w is)
            (subst (λ (xs : List Val). AnyLine p (behind_cells p c n gs arrays xs) ls t) (sym whole) next) in
            let later : AnyLine p (behind_cells p c n gs arrays (done ++ v ∷ [])) (map_from f (length done + 1) vs ++ ls) t =
            subst (λ (k : ℕ). AnyLine p (behind_cells p c n gs arrays (done ++ v ∷ [])) (map_from f k vs ++ ls) t) longer inner in
            subst (λ (place : Place). AnyLine p place (f (length done) v ∷ (map_from f (length done + 1) vs ++ ls)) t) (sym opened)
            (step (Cells c n gs arrays done) (behind_cells p c n gs arrays (done ++ v ∷ [])) (f (length done) v) (map_from f (length done + 1) vs ++ ls)
            (v, record { few = few; fits = fits; text = refl }, refl) (value_line (Slot.Cell (length arrays) (length done)) v fits) later)

module _ (p : Protocol) (t : Trace) (n : ℕ) (few : n ≤ 128) (some : 0 < n) (c : Bool) (ls : List (List ℕ)) (gs : List Val) where
  arrays_back : (more done : List (List Val)) → length (done ++ more) ≡ length p.arrays
      → ((k : ℕ) (cells : List Val) → slice_get more k ≡ Some cells → (length cells ≡ n)
      × ((i : ℕ) (v : Val) → slice_get cells i ≡ Some v → is_start_value p n (Slot.Cell (length done + k) i) v ≡ true))
      → AnyLine p (behind_arrays p c n gs (done ++ more)) ls t → AnyLine p (behind_arrays p c n gs done) (array_lines p (length done) more ++ ls) t
  arrays_back [] done len each next = subst (λ (xs : List (List Val)). AnyLine p (behind_arrays p c n gs xs) ls t) (append-nil done) next
  arrays_back (cells ∷ more) done len each next =
      let here : length done + 0 ≡ length done = omega arith in
      let own = each 0 cells refl in
      let full = own.0 in
      let size = length-append done (cells ∷ more) in
      let opened : behind_arrays p c n gs done ≡ Cells c n gs done [] =
      cond-true (nat_lt (length done) (length p.arrays)) (Cells c n gs done []) (Events c (start_of n gs done) []) (lt-ltb (length done) (length p.arrays) (omega arith)) in
      let begins : behind_cells p c n gs done [] ≡ Cells c n gs done [] =
      cond-true (nat_lt 0 n) (Cells c n gs done []) (behind_arrays p c n gs (done ++ [] ∷ [])) (lt-ltb 0 n some) in
      let ended_here : behind_cells p c n gs done cells ≡ behind_arrays p c n gs (done ++ cells ∷ []) =
      cond-false (nat_lt (length cells) n) (Cells c n gs done cells) (behind_arrays p c n gs (done ++ cells ∷ [])) (le-ltb (length cells) n (omega arith)) in
      let longer : length (done ++ cells ∷ []) ≡ length done + 1 = length_push done cells in
      let whole : (done ++ cells ∷ []) ++ more ≡ done ++ cells ∷ more = append_assoc done (cells ∷ []) more in
      let inner = arrays_back more (done ++ cells ∷ []) (ap length whole ∙ len)
      (λ k xs is.
      let number : length done + suc k ≡ length (done ++ cells ∷ []) + k = omega (arith, longer) in
      let at = each (suc k) xs is in
      (at.0, λ i v it. ap (λ m. is_start_value p n (Slot.Cell m i) v) (sym number) ∙ at.1 i v it))
      (subst (λ (xs : List (List Val)). AnyLine p (behind_arrays p c n gs xs) ls t) (sym whole) next) in
      let rest = array_lines p (length done + 1) more ++ ls in
      let later : AnyLine p (behind_arrays p c n gs (done ++ cells ∷ [])) rest t =
      subst (λ (k : ℕ). AnyLine p (behind_arrays p c n gs (done ++ cells ∷ [])) (array_lines p k more ++ ls) t) longer inner in
      let all = cells_back p t n few c rest gs done cells [] full
      (λ k v is.
      let from_zero : 0 + k ≡ k = omega arith in
      ap (λ j. is_start_value p n (Slot.Cell (length done) j) v) from_zero ∙ (ap (λ m. is_start_value p n (Slot.Cell m k) v) (sym here) ∙ own.1 k v is))
      (subst (λ (place : Place). AnyLine p place rest t) (sym ended_here) later) in
      subst (λ (xs : List (List ℕ)). AnyLine p (behind_arrays p c n gs done) xs t) (sym (append_assoc (cell_lines p (length done) cells) (array_lines p (length done + 1) more) ls))
      (subst (λ (place : Place). AnyLine p place (cell_lines p (length done) cells ++ rest) t) (begins ∙ sym opened) all)

module _ (p : Protocol) (t : Trace) (lawful : IsLawful p t) where
  count_few : process_count t.start ≤ 128
  count_few = lawful.few

  some_process : 0 < process_count t.start
  some_process = lawful.start.state_of.some_process

  one_end : IsOneLine (codes "end")
  one_end = (refl, (refl, (refl, tt)))

  end_back : AnyLine p (Closing t) (codes "end" ∷ []) t
  end_back = step p t (Closing t) (Done t) (codes "end") [] (refl, refl) one_end (λ n. ends t refl refl)

  plain_back : (o : Option Plain) → t.plain ≡ o → is_lawful_end (process_count t.start) t.events o ≡ true
      → AnyLine p (behind_goal (is_some o) t.start t.events t.goal t.places) (plain_lines o ++ codes "end" ∷ []) t
  plain_back None is ok =
      let same : t ≡ trace_of t.start t.events t.goal t.places None = ap (trace_of t.start t.events t.goal t.places) is in
      subst (λ (place : Place). AnyLine p place (codes "end" ∷ []) t) (ap Closing same) end_back
  plain_back (Some at) is ok =
      let same : t ≡ trace_of t.start t.events t.goal t.places (Some at) = ap (trace_of t.start t.events t.goal t.places) is in
      let parts = and_parts (nat_lt at.step (steps_in t.events)) (nat_lt at.process (process_count t.start)) ok in
      let few_steps = steps_few t.events in
      let few_events = lawful.few_events in
      let few = count_few in
      let step_in = ltb-true at.step (steps_in t.events) parts.0 in
      let process_in = ltb-true at.process (process_count t.start) parts.1 in
      let next = subst (λ (place : Place). AnyLine p place (codes "end" ∷ []) t) (ap Closing same) end_back in
      step p t (PlainLine (trace_of t.start t.events t.goal t.places None)) (Closing (trace_of t.start t.events t.goal t.places (Some at))) (plain_text at) (codes "end" ∷ [])
      (at, record { few = count_few; early = omega arith; lawful = ok; text = refl }, refl)
      (one_plain at (omega arith) (omega arith)) next

  goal_back : (c : Bool) (ls : List (List ℕ)) → AnyLine p (behind_goal c t.start t.events t.goal t.places) ls t → AnyLine p (Events c t.start t.events) (goal_text t.goal t.places ∷ ls) t
  goal_back c ls next =
      step p t (Events c t.start t.events) (behind_goal c t.start t.events t.goal t.places) (goal_text t.goal t.places) ls
      (inr (t.goal, t.places, record { few = count_few; lawful = lawful.goal; text = refl }, refl))
      (one_goal p (process_count t.start) count_few t.goal t.places lawful.goal) next

  events_back : (c : Bool) (ls : List (List ℕ)) (es done : List Event) → length (done ++ es) ≤ most_events
      → ((k : ℕ) (e : Event) → slice_get es k ≡ Some e → is_lawful_event p (process_count t.start) e ≡ true)
      → AnyLine p (Events c t.start (done ++ es)) ls t → AnyLine p (Events c t.start done) (map (event_text p) es ++ ls) t
  events_back c ls [] done len each next = subst (λ (xs : List Event). AnyLine p (Events c t.start xs) ls t) (append-nil done) next
  events_back c ls (e ∷ es) done len each next =
      let whole : (done ++ e ∷ []) ++ es ≡ done ++ e ∷ es = append_assoc done (e ∷ []) es in
      let size = length-append done (e ∷ es) in
      let same = ap length whole in
      let inner = events_back c ls es (done ++ e ∷ []) (omega arith) (λ k x is. each (suc k) x is)
      (subst (λ (xs : List Event). AnyLine p (Events c t.start xs) ls t) (sym whole) next) in
      step p t (Events c t.start done) (Events c t.start (done ++ e ∷ [])) (event_text p e) (map (event_text p) es ++ ls)
      (inl (e, record { few = count_few; lawful = each 0 e refl; text = refl }, omega arith, refl))
      (one_event p (process_count t.start) count_few e (each 0 e refl)) inner

  all_events : (k : ℕ) (e : Event) → slice_get t.events k ≡ Some e → is_lawful_event p (process_count t.start) e ≡ true
  all_events k e is =
      let inside = within_list t.events k e is in
      subst (λ x. is_lawful_event p (process_count t.start) x ≡ true) (get_is t.events k e e is) (lawful.events k e inside)

  -- from the first start value on
  start_back : (c : Bool) (ls : List (List ℕ)) → AnyLine p (Events c t.start []) ls t
      → AnyLine p (behind_globals p c (process_count t.start) []) (global_lines p t.start.globals ++ (array_lines p 0 t.start.arrays ++ ls)) t
  start_back c ls next =
      let n = process_count t.start in
      let gs = t.start.globals in
      let zero_more : (k : ℕ) → 0 + k ≡ k = λ k. omega arith in
      let at_end : AnyLine p (behind_arrays p c n gs t.start.arrays) ls t =
      subst (λ (place : Place). AnyLine p place ls t)
      (sym (ap (behind_arrays p c n gs) (sym (take_all (length p.arrays) t.start.arrays (omega (arith, arrays_len p t.start lawful.start)))) ∙ arrays_end p t.start lawful.start c n refl)) next in
      let arrays = arrays_back p t n count_few some_process c ls gs t.start.arrays [] (arrays_len p t.start lawful.start)
      (λ k cells is.
      let own = cells_fit_start p t.start lawful.start k cells is in
      (own.0, λ i v it. ap (λ m. is_start_value p n (Slot.Cell m i) v) (zero_more k) ∙ own.1 i v it)) at_end in
      let at_arrays_place : AnyLine p (behind_globals p c n gs) (array_lines p 0 t.start.arrays ++ ls) t =
      subst (λ (place : Place). AnyLine p place (array_lines p 0 t.start.arrays ++ ls) t)
      (sym (ap (behind_globals p c n) (sym (take_all (length p.globals) gs (omega (arith, globals_len p t.start lawful.start)))) ∙ globals_end p t.start lawful.start c n)) arrays in
      globals_back p t n count_few c (array_lines p 0 t.start.arrays ++ ls) gs [] (globals_len p t.start lawful.start)
      (λ k v is. ap (λ m. is_start_value p n (Slot.Global m) v) (zero_more k) ∙ global_fits_start p t.start lawful.start k v is) at_arrays_place

  pub reads_back : (n : ℕ) → TraceReads p Heading n (trace_text p t) (Ok t)
  reads_back =
      let c = is_some t.plain in
      let n = process_count t.start in
      let some = some_process in
      let tail = plain_lines t.plain ++ codes "end" ∷ [] in
      let events = events_back c (goal_text t.goal t.places ∷ tail) t.events [] lawful.few_events all_events (goal_back c tail (plain_back t.plain refl lawful.plain)) in
      let rest = goal_text t.goal t.places ∷ tail in
      let body = start_back c (map (event_text p) t.events ++ rest) events in
      let ls = global_lines p t.start.globals ++ (array_lines p 0 t.start.arrays ++ (map (event_text p) t.events ++ rest)) in
      let counted = step p t (Count c) (behind_globals p c n []) (count_text n) ls
      (n, record { some = some; few = count_few; text = refl }, refl) (one_count n (let f = count_few in omega arith)) body in
      let versioned = step p t (Version c) (Count c) (version_text (has_any p)) (count_text n ∷ ls) (refl, refl) (one_version (has_any p)) counted in
      let headed = step p t Heading (Version c) (heading_text c) (version_text (has_any p) ∷ count_text n ∷ ls) (c, refl, refl) (one_heading c) versioned in
      let s = start_lines p t.start in
      let m = map (event_text p) t.events in
      let g = goal_text t.goal t.places ∷ [] in
      let q = plain_lines t.plain in
      let e = codes "end" ∷ [] in
      let lines_same : ls ≡ s ++ m ++ g ++ q ++ e =
      sym (append_assoc (global_lines p t.start.globals) (array_lines p 0 t.start.arrays) (m ++ rest))
      ∙ sym (append_assoc s m (g ++ tail)) ∙ sym (append_assoc (s ++ m) g tail) ∙ sym (append_assoc (s ++ m ++ g) q e) in
      subst (λ (xs : List (List ℕ)). AnyLine p Heading (heading_text c ∷ version_text (has_any p) ∷ count_text n ∷ xs) t) lines_same headed
