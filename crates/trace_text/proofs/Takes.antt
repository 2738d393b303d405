-- A line tells one value, so a place and a line lead to one place.
use Rattle.std.proofs.Common.{◌≡◌, ℕ, zero, suc, ◌+◌, Bool, true, false, List, [], ◌∷◌, ◌++◌, length, Some, refl, ap, sym, ◌∙◌, arith, inl, inr, nat_lt}
use Rattle.std.proofs.lemmas.Bool.{and_parts, ltb-true}
use Rattle.cub_proto.specs.declared.protocol.Protocol.{Protocol}
use Rattle.cub_proto.specs.declared.state.Slot.{Slot}
use Rattle.cub_proto.specs.declared.state.Val.{Val}
use Rattle.cub_proto.specs.declared.event.Event.{Event}
use Rattle.cub_proto.specs.declared.event.Event.TheVariants.{Crash, Fire}
use Rattle.cub_proto.specs.declared.event.Plain.{Plain}
use Rattle.cub_proto.specs.declared.event.Trace.{Trace}
use Rattle.cub_proto.specs.Configuration.{process_count}
use Rattle.text_lines.specs.Word.{word, behind}
use Rattle.text_lines.specs.Number.{counted}
use Rattle.text_lines.specs.Loose.{entry_value}
use Rattle.trace_text.specs.Text.{heading_text, event_text, goal_text, count_text}
use Rattle.trace_text.specs.Lawful.{steps_in}
use Rattle.trace_text.specs.Told.{event_told, goal_told, goal_places, plain_told}
use Rattle.trace_text.specs.Place.{Place, Heading, Version, Count, Globals, Cells, Events, PlainLine, Closing, Done, TakesValue, TakesCount, TakesEvent, TakesGoal, TakesPlain, takes, trace_at, behind_globals, behind_cells, behind_goal, trace_of, begins_event}
use Rattle.trace_text.proofs.ToldLaws.{count_is_told, value_is_told, event_is_told, goal_is_told, plain_is_told}

pub value_unique : (p : Protocol) (n : ℕ) (slot : Slot) (line : List ℕ) (v : Val) → TakesValue p n slot line v → entry_value p slot line ≡ v
value_unique p n slot line v t = ap (entry_value p slot) t.text ∙ value_is_told p n t.few slot v t.fits

pub count_unique : (line : List ℕ) (n : ℕ) → TakesCount line n → counted (word (behind line)) + 1 ≡ n
count_unique line zero t = absurd (let some = t.some in omega arith)
count_unique line (suc m) t =
    let few = t.few in
    let next : suc m ≡ m + 1 = omega arith in
    let told = ap (λ b. counted (word (behind b))) (t.text ∙ ap count_text next) ∙ count_is_told m (omega arith) in
    omega (arith, told)

pub event_unique : (p : Protocol) (n : ℕ) (line : List ℕ) (e : Event) → TakesEvent p n line e → event_told p line ≡ Some e
event_unique p n line e t = ap (event_told p) t.text ∙ event_is_told p n t.few e t.lawful

pub goal_unique : (p : Protocol) (n : ℕ) (line : List ℕ) (goal : ℕ) (places : List ℕ) → TakesGoal p n line goal places
    → (goal_told line ≡ goal) × (goal_places p line ≡ places)
goal_unique p n line goal places t =
    let told = goal_is_told p n t.few goal places t.lawful in
    (ap goal_told t.text ∙ told.0, ap (goal_places p) t.text ∙ told.1)

pub plain_unique : (n : ℕ) (es : List Event) (line : List ℕ) (at : Plain) → TakesPlain n es line at → plain_told line ≡ at
plain_unique n es line at t =
    let inside = ltb-true at.process n (and_parts (nat_lt at.step (steps_in es)) (nat_lt at.process n) t.lawful).1 in
    let early = t.early in
    let few = t.few in
    ap plain_told t.text ∙ plain_is_told at (omega arith) (omega arith)

same_heading : (c d : Bool) → heading_text c ≡ heading_text d → c ≡ d
same_heading true true h = refl
same_heading true false h = absurd (let l : length (heading_text true) ≡ length (heading_text false) = ap length h in omega arith)
same_heading false true h = absurd (let l : length (heading_text false) ≡ length (heading_text true) = ap length h in omega arith)
same_heading false false h = refl

-- an event begins as one, and an unsafe line does not
pub event_begins : (p : Protocol) (e : Event) (more : List ℕ) → begins_event (event_text p e ++ more) ≡ true
event_begins p (Crash i) more = refl
event_begins p (Fire number params picks) more = refl

pub goal_begins_not : (goal : ℕ) (places more : List ℕ) → begins_event (goal_text goal places ++ more) ≡ false
goal_begins_not goal places more = refl

apart : (p : Protocol) (n m : ℕ) (line : List ℕ) (e : Event) (goal : ℕ) (places : List ℕ) → TakesEvent p n line e → TakesGoal p m line goal places → ⊥
apart p n m line e goal places t g =
    let yes_event : begins_event (line ++ []) ≡ true = ap (λ b. begins_event (b ++ [])) t.text ∙ event_begins p e [] in
    let no_event : begins_event (line ++ []) ≡ false = ap (λ b. begins_event (b ++ [])) g.text ∙ goal_begins_not goal places [] in
    absurd cc

some_same : {A : Type 0} (x y : A) → Some x ≡ Some y → x ≡ y
some_same x y h = cc

-- a place and a line lead to one place
pub one : (p : Protocol) (place q r : Place) (line : List ℕ) → takes p place line q → takes p place line r → q ≡ r
one p Heading q r line (c, is, to) (d, js, also) =
    let same = same_heading c d (sym is ∙ js) in
    to ∙ ap Version same ∙ sym also
one p (Version c) q r line (is, to) (js, also) = to ∙ sym also
one p (Count c) q r line (n, t, to) (m, u, also) =
    let same : n ≡ m = sym (count_unique line n t) ∙ count_unique line m u in
    to ∙ ap (λ k. behind_globals p c k []) same ∙ sym also
one p (Globals c n read) q r line (v, t, to) (w, u, also) =
    let same : v ≡ w = sym (value_unique p n (Slot.Global (length read)) line v t) ∙ value_unique p n (Slot.Global (length read)) line w u in
    to ∙ ap (λ x. behind_globals p c n (read ++ x ∷ [])) same ∙ sym also
one p (Cells c n gs arrays read) q r line (v, t, to) (w, u, also) =
    let slot = Slot.Cell (length arrays) (length read) in
    let same : v ≡ w = sym (value_unique p n slot line v t) ∙ value_unique p n slot line w u in
    to ∙ ap (λ x. behind_cells p c n gs arrays (read ++ x ∷ [])) same ∙ sym also
one p (Events c start read) q r line (inl (e, t, few, to)) (inl (f, u, less, also)) =
    let same : e ≡ f = some_same e f (sym (event_unique p (process_count start) line e t) ∙ event_unique p (process_count start) line f u) in
    to ∙ ap (λ x. Events c start (read ++ x ∷ [])) same ∙ sym also
one p (Events c start read) q r line (inl (e, t, few, to)) (inr (goal, places, u, also)) =
    absurd (apart p (process_count start) (process_count start) line e goal places t u)
one p (Events c start read) q r line (inr (goal, places, u, to)) (inl (e, t, few, also)) =
    absurd (apart p (process_count start) (process_count start) line e goal places t u)
one p (Events c start read) q r line (inr (goal, places, t, to)) (inr (other, others, u, also)) =
    let left = goal_unique p (process_count start) line goal places t in
    let right = goal_unique p (process_count start) line other others u in
    let number : goal ≡ other = sym left.0 ∙ right.0 in
    let named : places ≡ others = sym left.1 ∙ right.1 in
    to ∙ ap (λ g. behind_goal c start read g places) number ∙ ap (behind_goal c start read other) named ∙ sym also
one p (PlainLine t) q r line (at, u, to) (other, w, also) =
    let same : at ≡ other = sym (plain_unique (process_count t.start) t.events line at u) ∙ plain_unique (process_count t.start) t.events line other w in
    to ∙ ap (λ x. Closing (trace_of t.start t.events t.goal t.places (Some x))) same ∙ sym also
one p (Closing t) q r line (is, to) (js, also) = to ∙ sym also
one p (Done t) q r line h k = absurd h

pub closed : (p : Protocol) (place q : Place) (line : List ℕ) (t : Trace) → trace_at place ≡ Some t → takes p place line q → ⊥
closed p Heading q line t h k = cc
closed p (Version c) q line t h k = cc
closed p (Count c) q line t h k = cc
closed p (Globals c n read) q line t h k = cc
closed p (Cells c n gs arrays read) q line t h k = cc
closed p (Events c start read) q line t h k = cc
closed p (PlainLine u) q line t h k = cc
closed p (Closing u) q line t h k = cc
closed p (Done u) q line t h k = k
