-- Each place of a text tells the lines before it, so what was read is the text.
use Rattle.std.proofs.Common.{◌≡◌, ℕ, ◌+◌, Bool, true, false, cond, nat_lt, List, [], ◌∷◌, ◌++◌, length, map, replicate, Some, is_some, Ok, refl, ap, sym, ◌∙◌, arith, inl, inr, append_assoc, append-nil}
use Rattle.std.proofs.lemmas.List.{length-replicate}
use Rattle.cub_proto.specs.declared.protocol.Protocol.{Protocol}
use Rattle.cub_proto.specs.declared.state.Slot.TheVariants as Slot
use Rattle.cub_proto.specs.declared.state.Val.{Val}
use Rattle.cub_proto.specs.declared.event.Event.{Event}
use Rattle.cub_proto.specs.declared.event.Trace.{Trace}
use Rattle.cub_proto.specs.Configuration.{Configuration, process_count}
use Rattle.text_lines.specs.Line.{ended, text_of}
use Rattle.text_lines.specs.Spelling.{entry_text}
use Rattle.text_lines.proofs.ReadingLaws.{found}
use Rattle.trace_text.specs.Text.{has_any, heading_text, version_text, count_text, global_lines, cell_lines, array_lines, start_lines, event_text, goal_text, plain_lines, trace_lines, trace_text}
use Rattle.trace_text.specs.Place.{Place, Heading, Version, Count, Globals, Cells, Events, PlainLine, Closing, Done, takes, trace_at, kind_at, TraceReads, start_of, behind_globals, behind_arrays, behind_cells, behind_goal}
use Rattle.trace_text.proofs.WriteLaws.{text_append, map_from_push, array_lines_push}

abbrev head_lines : Protocol → Bool → ℕ → List (List ℕ)
head_lines p c n = heading_text c ∷ version_text (has_any p) ∷ count_text n ∷ []

abbrev lines_before : Protocol → Place → List (List ℕ)
lines_before p Heading = []
lines_before p (Version c) = heading_text c ∷ []
lines_before p (Count c) = heading_text c ∷ version_text (has_any p) ∷ []
lines_before p (Globals c n gs) = head_lines p c n ++ global_lines p gs
lines_before p (Cells c n gs arrays cs) = head_lines p c n ++ (global_lines p gs ++ array_lines p 0 arrays) ++ cell_lines p (length arrays) cs
lines_before p (Events c s es) = head_lines p c (process_count s) ++ start_lines p s ++ map (event_text p) es
lines_before p (PlainLine t) =
    head_lines p true (process_count t.start) ++ start_lines p t.start ++ map (event_text p) t.events ++ goal_text t.goal t.places ∷ []
lines_before p (Closing t) =
    head_lines p (is_some t.plain) (process_count t.start) ++ start_lines p t.start ++ map (event_text p) t.events ++ goal_text t.goal t.places ∷ [] ++ plain_lines t.plain
lines_before p (Done t) = trace_lines p t

map_push : {A B : Type 0} (f : A → B) (xs : List A) (x : A) → map f (xs ++ x ∷ []) ≡ map f xs ++ f x ∷ []
map_push f [] x = refl
map_push f (y ∷ ys) x = ap (λ t. f y ∷ t) (map_push f ys x)

module _ (p : Protocol) (c : Bool) (n : ℕ) (gs : List Val) where
  before_arrays : (arrays : List (List Val)) → lines_before p (behind_arrays p c n gs arrays) ≡ head_lines p c n ++ (global_lines p gs ++ array_lines p 0 arrays)
  before_arrays arrays = by (nat_lt (length arrays) (length p.arrays))
    where
      by : (x : Bool) → lines_before p (cond x (Cells c n gs arrays []) (Events c (start_of n gs arrays) [])) ≡ head_lines p c n ++ (global_lines p gs ++ array_lines p 0 arrays)
      by true = append-nil (head_lines p c n ++ (global_lines p gs ++ array_lines p 0 arrays))
      by false =
          append-nil (head_lines p c (length (replicate n true)) ++ (global_lines p gs ++ array_lines p 0 arrays))
          ∙ ap (λ m. head_lines p c m ++ (global_lines p gs ++ array_lines p 0 arrays)) (length-replicate n true)

  before_cells : (arrays : List (List Val)) (cs : List Val) → lines_before p (behind_cells p c n gs arrays cs)
      ≡ head_lines p c n ++ (global_lines p gs ++ array_lines p 0 arrays) ++ cell_lines p (length arrays) cs
  before_cells arrays cs = by (nat_lt (length cs) n)
    where
      by : (x : Bool) → lines_before p (cond x (Cells c n gs arrays cs) (behind_arrays p c n gs (arrays ++ cs ∷ [])))
          ≡ head_lines p c n ++ (global_lines p gs ++ array_lines p 0 arrays) ++ cell_lines p (length arrays) cs
      by true = refl
      by false =
          before_arrays (arrays ++ cs ∷ [])
          ∙ ap (λ t. head_lines p c n ++ (global_lines p gs ++ t)) (array_lines_push p 0 arrays cs)
          ∙ ap (λ a. head_lines p c n ++ (global_lines p gs ++ (array_lines p 0 arrays ++ cell_lines p a cs))) (let e : 0 + length arrays ≡ length arrays = omega arith in e)
          ∙ ap (λ t. head_lines p c n ++ t) (sym (append_assoc (global_lines p gs) (array_lines p 0 arrays) (cell_lines p (length arrays) cs)))
          ∙ sym (append_assoc (head_lines p c n) (global_lines p gs ++ array_lines p 0 arrays) (cell_lines p (length arrays) cs))

  before_globals : lines_before p (behind_globals p c n gs) ≡ head_lines p c n ++ global_lines p gs
  before_globals = by (nat_lt (length gs) (length p.globals))
    where
      by : (x : Bool) → lines_before p (cond x (Globals c n gs) (behind_arrays p c n gs [])) ≡ head_lines p c n ++ global_lines p gs
      by true = refl
      by false = before_arrays [] ∙ ap (λ t. head_lines p c n ++ t) (append-nil (global_lines p gs))

before_goal : (p : Protocol) (c : Bool) (s : Configuration) (es : List Event) (goal : ℕ) (places : List ℕ)
    → lines_before p (behind_goal c s es goal places) ≡ lines_before p (Events c s es) ++ goal_text goal places ∷ []
before_goal p true s es goal places = refl
before_goal p false s es goal places = append-nil (lines_before p (Events false s es) ++ goal_text goal places ∷ [])

-- a line more
one_line_more : (p : Protocol) (place q : Place) (line : List ℕ) → takes p place line q → lines_before p q ≡ lines_before p place ++ line ∷ []
one_line_more p Heading q line (c, is, to) = ap (lines_before p) to ∙ ap (λ l. l ∷ []) (sym is)
one_line_more p (Version c) q line (is, to) = ap (lines_before p) to ∙ ap (λ l. heading_text c ∷ l ∷ []) (sym is)
one_line_more p (Count c) q line (n, t, to) =
    ap (lines_before p) to ∙ before_globals p c n [] ∙ ap (λ l. heading_text c ∷ version_text (has_any p) ∷ l ∷ []) (sym t.text)
one_line_more p (Globals c n gs) q line (v, t, to) =
    ap (lines_before p) to ∙ before_globals p c n (gs ++ v ∷ [])
    ∙ ap (λ ls. head_lines p c n ++ ls) (map_from_push (λ g w. entry_text p (Slot.Global g) w) 0 gs v)
    ∙ ap (λ g. head_lines p c n ++ (global_lines p gs ++ entry_text p (Slot.Global g) v ∷ [])) (let e : 0 + length gs ≡ length gs = omega arith in e)
    ∙ ap (λ l. head_lines p c n ++ (global_lines p gs ++ l ∷ [])) (sym t.text)
    ∙ sym (append_assoc (head_lines p c n) (global_lines p gs) (line ∷ []))
one_line_more p (Cells c n gs arrays cs) q line (v, t, to) =
    let front = head_lines p c n ++ (global_lines p gs ++ array_lines p 0 arrays) in
    ap (lines_before p) to ∙ before_cells p c n gs arrays (cs ++ v ∷ [])
    ∙ ap (λ ls. front ++ ls) (map_from_push (λ i w. entry_text p (Slot.Cell (length arrays) i) w) 0 cs v)
    ∙ ap (λ i. front ++ (cell_lines p (length arrays) cs ++ entry_text p (Slot.Cell (length arrays) i) v ∷ [])) (let e : 0 + length cs ≡ length cs = omega arith in e)
    ∙ ap (λ l. front ++ (cell_lines p (length arrays) cs ++ l ∷ [])) (sym t.text)
    ∙ sym (append_assoc front (cell_lines p (length arrays) cs) (line ∷ []))
one_line_more p (Events c s es) q line (inl (e, t, few, to)) =
    let front = head_lines p c (process_count s) ++ start_lines p s in
    ap (lines_before p) to ∙ ap (λ ls. front ++ ls) (map_push (event_text p) es e)
    ∙ ap (λ l. front ++ (map (event_text p) es ++ l ∷ [])) (sym t.text) ∙ sym (append_assoc front (map (event_text p) es) (line ∷ []))
one_line_more p (Events c s es) q line (inr (goal, places, t, to)) =
    ap (lines_before p) to ∙ before_goal p c s es goal places ∙ ap (λ l. lines_before p (Events c s es) ++ l ∷ []) (sym t.text)
one_line_more p (PlainLine t) q line (at, u, to) = ap (lines_before p) to ∙ ap (λ l. lines_before p (PlainLine t) ++ l ∷ []) (sym u.text)
one_line_more p (Closing t) q line (is, to) = ap (lines_before p) to ∙ ap (λ l. lines_before p (Closing t) ++ l ∷ []) (sym is)
one_line_more p (Done t) q line h = absurd h

text_more : (p : Protocol) (place q : Place) (line : List ℕ) → takes p place line q → text_of (lines_before p q) ≡ text_of (lines_before p place) ++ ended line
text_more p place q line t =
    ap text_of (one_line_more p place q line t) ∙ text_append (lines_before p place) (line ∷ [])
    ∙ ap (λ b. text_of (lines_before p place) ++ b) (append-nil (ended line))

whole_text : (p : Protocol) (q : Place) (t : Trace) → trace_at q ≡ Some t → text_of (lines_before p q) ≡ trace_text p t
whole_text p Heading t h = cc
whole_text p (Version c) t h = cc
whole_text p (Count c) t h = cc
whole_text p (Globals c n read) t h = cc
whole_text p (Cells c n gs arrays read) t h = cc
whole_text p (Events c start read) t h = cc
whole_text p (PlainLine u) t h = cc
whole_text p (Closing u) t h = cc
whole_text p (Done u) t h = let same : u ≡ t = cc in ap (trace_text p) same

-- a text that reads as a trace is the text of the trace
pub is_its_text : (p : Protocol) (n : ℕ) (text : List ℕ) (t : Trace) → TraceReads p Heading n text (Ok t) → text ≡ trace_text p t
is_its_text p n text t r =
    let end = found (takes p) trace_at kind_at (λ place. text_of (lines_before p place)) (text_more p) t r refl in
    sym end.2 ∙ whole_text p end.0 t end.1
