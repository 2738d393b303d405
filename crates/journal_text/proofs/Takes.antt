-- A line tells one value, so a place and a line lead to one place; and a place and a text have one kind of fault.
use Rattle.std.proofs.Common.{◌≡◌, ◌⊎◌, ℕ, ◌^◌, ◌<◌, Bool, true, false, List, [], ◌∷◌, ◌++◌, length, get_or, Result, Ok, Err, Option, Some, None, refl, sym, ap, subst, ◌∙◌, arith, inl, inr}
use Rattle.cub_proto.specs.declared.protocol.Protocol.{Protocol}
use Rattle.log_form.specs.declared.event.Added.{Added}
use Rattle.log_form.specs.declared.event.LogEvent.{LogEvent}
use Rattle.log_form.specs.Pieces.{PieceRelation}
use Rattle.log_form.specs.Log.{LogValue, no_log}
use Rattle.log_form.specs.Legal.{Fills, Grows, IsLegalLog}
use Rattle.log_form.proofs.Weave.{legal_woven}
use Rattle.text_lines.proofs.ReadingLaws.{one_reading}
use Rattle.journal_text.specs.declared.look.Look.{Look}
use Rattle.journal_text.specs.declared.look.Look.TheVariants.{Formless, Faulty, Item, Expand, Roots, Closing}
use Rattle.journal_text.specs.Text.{heading_text, item_text}
use Rattle.journal_text.specs.Told.{number_told, node_told}
use Rattle.journal_text.specs.Form.{look_of}
use Rattle.journal_text.specs.Items.{IsNode}
use Rattle.journal_text.specs.Place.{Place, Heading, Version, BudgetLine, Adding, Ending, Done, event_of, full_event, Makes, TakesFull, Closes, TakesNext, TakesRoots, takes, log_at, IsClosingKind, IsLookKind, IsKindAt, Stop, stop_at, StopsAt}
use Rattle.journal_text.proofs.BudgetLaws.{same_budget}
use Rattle.journal_text.proofs.ToldLaws.{needed_is_told, node_is_told}
use Rattle.journal_text.proofs.ItemLaws.{item_line, item_same}
use Rattle.journal_text.proofs.Apart.{item_no_expand, item_no_full, item_no_wide, expand_no_full, expand_no_wide, same_expand, node_number}
use Rattle.journal_text.proofs.MarkLaws.{grows_not_full}
use Rattle.journal_text.proofs.StuckLaws.{one_made}

same_heading : (a b : Bool) → heading_text a ≡ heading_text b → a ≡ b
same_heading true true h = refl
same_heading false false h = refl
same_heading true false h = absurd (let e : 99 ≡ 119 = ap (λ t. get_or t 8 0) h in omega (arith, e))
same_heading false true h = absurd (let e : 119 ≡ 99 = ap (λ t. get_or t 8 0) h in omega (arith, e))

-- the node of a full log has a number
pub full_node : (P : PieceRelation) (full : Bool) (log : LogValue) (node : Option ℕ) (needed : ℕ) (last : LogValue) (line : List ℕ) → TakesFull P full log node needed last line → IsNode node
full_node P full log None needed last line t = tt
full_node P full log (Some n) needed last line t = by t.makes.leads.effect
  where
    by : Fills log (full_event (Some n) needed) t.makes.leads.list last ⊎ Grows log (full_event (Some n) needed) t.makes.leads.list last → n < 2 ^ 32
    by (inl fills) =
        let few = (legal_woven P last t.makes.legal).few in
        let most = last.budget.few_cubes in
        let inside = t.makes.leads.treats.inside in
        omega (arith, few, most, inside, ap length fills.nodes)
    by (inr grows) = absurd (grows_not_full log (full_event (Some n) needed) t.makes.leads.list last (Some n) needed grows t.mark)

module _ (P : PieceRelation) (full : Bool) (log : LogValue) (node : Option ℕ) (needed : ℕ) (a : LogValue) (other : Option ℕ) (more : ℕ) (b : LogValue) (line : List ℕ) (t : TakesFull P full log node needed a line) (u : TakesFull P full log other more b line) where
  same_node : node ≡ other
  same_node =
      sym (node_is_told needed t.early node (full_node P full log node needed a line t)) ∙ ap node_told (sym t.text ∙ u.text)
      ∙ node_is_told more u.early other (full_node P full log other more b line u)

  same_needed : needed ≡ more
  same_needed =
      sym (needed_is_told needed t.early node (full_node P full log node needed a line t)) ∙ ap (number_told 3) (sym t.text ∙ u.text)
      ∙ needed_is_told more u.early other (full_node P full log other more b line u)

  pub same_last : a ≡ b
  same_last =
      one_made P log (full_event node needed) a b t.makes
      (subst (λ (o : Option ℕ). Makes P log (full_event o needed) b) (sym same_node) (subst (λ (m : ℕ). Makes P log (full_event other m) b) (sym same_needed) u.makes))

one_closed : (P : PieceRelation) (full : Bool) (log a b : LogValue) (line : List ℕ) → Closes P full log line a → Closes P full log line b → a ≡ b
one_closed P full log a b line (inl (n, needed, t)) (inl (m, more, u)) = same_last P full log (Some n) needed a (Some m) more b line t u
one_closed P full log a b line (inl (n, needed, t)) (inr (u, same)) = absurd (let wrong = sym t.heading ∙ u.heading in cc)
one_closed P full log a b line (inr (t, same)) (inl (m, more, u)) = absurd (let wrong = sym t.heading ∙ u.heading in cc)
one_closed P full log a b line (inr (t, same)) (inr (u, also)) = same ∙ sym also

one_next : (P : PieceRelation) (full : Bool) (next : LogValue) (line : List ℕ) (q r : Place) → IsLegalLog P next → TakesNext P full next line q → TakesNext P full next line r → q ≡ r
one_next P full next line q r legal (inl (n, t, to)) (inl (m, u, also)) =
    let same = same_expand n m (node_number P next n t.list legal t.treats) (node_number P next m u.list legal u.treats) (sym t.text ∙ u.text) in
    to ∙ ap (λ i. Adding full next (Some i) []) same ∙ sym also
one_next P full next line q r legal (inl (n, t, to)) (inr (b, inl (m, more, u), also)) = absurd (expand_no_full line n (Some m) more t.text u.text)
one_next P full next line q r legal (inl (n, t, to)) (inr (b, inr (u, same), also)) = absurd (expand_no_wide line n _ t.text u.text)
one_next P full next line q r legal (inr (a, inl (m, more, t), to)) (inl (n, u, also)) = absurd (expand_no_full line n (Some m) more u.text t.text)
one_next P full next line q r legal (inr (a, inr (t, same), to)) (inl (n, u, also)) = absurd (expand_no_wide line n _ u.text t.text)
one_next P full next line q r legal (inr (a, t, to)) (inr (b, u, also)) = to ∙ ap Ending (one_closed P full next a b line t u) ∙ sym also

-- behind cubes of an event
module _ (P : PieceRelation) (full : Bool) (log : LogValue) (line : List ℕ) where
  item_no_next : (node : Option ℕ) (a : Added) (next : LogValue) (q : Place) → line ≡ item_text log.protocol node a → TakesNext P full next line q → ⊥
  item_no_next node a next q is (inl (n, t, to)) = item_no_expand log.protocol node a line is n t.text
  item_no_next node a next q is (inr (last, inl (n, needed, t), to)) = item_no_full log.protocol node a line is (Some n) needed t.text
  item_no_next node a next q is (inr (last, inr (t, same), to)) = item_no_wide log.protocol node a line is _ t.text

  item_no_roots : (node of : Option ℕ) (a : Added) (added : List Added) (q : Place) → line ≡ item_text log.protocol node a → TakesRoots P full log of added line q → ⊥
  item_no_roots node (Some n) a added q is h = h
  item_no_roots node None a (b ∷ added) q is h = h
  item_no_roots node None a [] q is (needed, last, t, to) = item_no_full log.protocol node a line is None needed t.text

  next_no_roots : (node : Option ℕ) (added : List Added) (next : LogValue) (q r : Place) → TakesNext P full next line q → TakesRoots P full log node added line r → ⊥
  next_no_roots (Some n) added next q r t h = h
  next_no_roots None (a ∷ added) next q r t h = h
  next_no_roots None [] next q r (inl (n, t, to)) (needed, last, u, also) = expand_no_full line n None needed t.text u.text
  next_no_roots None [] next q r (inr (a, inl (n, more, t), to)) (needed, last, u, also) =
      let wrong : Some n ≡ None = sym (node_is_told more t.early (Some n) (full_node P full next (Some n) more a line t)) ∙ ap node_told (sym t.text ∙ u.text) ∙ node_is_told needed u.early None tt in
      cc
  next_no_roots None [] next q r (inr (a, inr (t, same), to)) (needed, last, u, also) = let wrong = sym t.heading ∙ u.heading in cc

  one_roots : (node : Option ℕ) (added : List Added) (q r : Place) → TakesRoots P full log node added line q → TakesRoots P full log node added line r → q ≡ r
  one_roots (Some n) added q r h k = absurd h
  one_roots None (a ∷ added) q r h k = absurd h
  one_roots None [] q r (needed, last, t, to) (more, final, u, also) = to ∙ ap Ending (same_last P full log None needed last None more final line t u) ∙ sym also

  one_item : (p : Protocol) (node : Option ℕ) (added : List Added) (q r : Place) → takes P p (Adding full log node added) line q → takes P p (Adding full log node added) line r → q ≡ r
  one_item p node added q r (inl (a, t, to)) (inl (b, u, also)) =
      to ∙ ap (λ x. Adding full log node (added ++ x ∷ [])) (item_same log.protocol node line a b (item_line P log node added line a t) (item_line P log node added line b u)) ∙ sym also
  one_item p node added q r (inl (a, t, to)) (inr (inl (next, made, h))) = absurd (item_no_next node a next r t.text h)
  one_item p node added q r (inl (a, t, to)) (inr (inr h)) = absurd (item_no_roots node node a added r t.text h)
  one_item p node added q r (inr (inl (next, made, h))) (inl (b, u, also)) = absurd (item_no_next node b next q u.text h)
  one_item p node added q r (inr (inl (next, made, h))) (inr (inl (other, also, k))) =
      let same = one_made P log (event_of node added) other next also made in
      one_next P full next line q r made.legal h (subst (λ (x : LogValue). TakesNext P full x line r) same k)
  one_item p node added q r (inr (inl (next, made, h))) (inr (inr k)) = absurd (next_no_roots node added next q r h k)
  one_item p node added q r (inr (inr h)) (inl (b, u, also)) = absurd (item_no_roots node node b added q u.text h)
  one_item p node added q r (inr (inr h)) (inr (inl (next, made, k))) = absurd (next_no_roots node added next r q k h)
  one_item p node added q r (inr (inr h)) (inr (inr k)) = one_roots node added q r h k

-- a place and a line lead to one place
pub one : (P : PieceRelation) (p : Protocol) (place q r : Place) (line : List ℕ) → takes P p place line q → takes P p place line r → q ≡ r
one P p Heading q r line (a, is, to) (b, js, also) = to ∙ ap Version (same_heading a b (sym is ∙ js)) ∙ sym also
one P p (Version full) q r line (is, to) (js, also) = to ∙ sym also
one P p (BudgetLine full) q r line (a, is, to) (b, js, also) = to ∙ ap (λ x. Adding full (no_log p x) None []) (same_budget a b (sym is ∙ js)) ∙ sym also
one P p (Adding full log node added) q r line h k = one_item P full log line p node added q r h k
one P p (Ending log) q r line (is, to) (js, also) = to ∙ sym also
one P p (Done log) q r line h k = absurd h

pub closed : (P : PieceRelation) (p : Protocol) (place q : Place) (line : List ℕ) (log : LogValue) → log_at place ≡ Some log → takes P p place line q → ⊥
closed P p Heading q line log h k = cc
closed P p (Version full) q line log h k = cc
closed P p (BudgetLine full) q line log h k = cc
closed P p (Adding full old node added) q line log h k = cc
closed P p (Ending old) q line log h k = cc
closed P p (Done old) q line log h k = k

-- one kind of fault
one_closing : (P : PieceRelation) (log : LogValue) (event : LogEvent) (j k : ℕ) → IsClosingKind P log event j → IsClosingKind P log event k → j ≡ k
one_closing P log event j k (inl (illegal, is)) (inl (also, js)) = is ∙ sym js
one_closing P log event j k (inl (illegal, is)) (inr ((next, leads), js)) = absurd (illegal next leads)
one_closing P log event j k (inr ((next, leads), is)) (inl (illegal, js)) = absurd (illegal next leads)
one_closing P log event j k (inr (some, is)) (inr (also, js)) = is ∙ sym js

one_look : (P : PieceRelation) (log : LogValue) (node : Option ℕ) (added : List Added) (look : Look) (j k : ℕ) → IsLookKind P log node added look j → IsLookKind P log node added look k → j ≡ k
one_look P log node added Formless j k h i = h ∙ sym i
one_look P log node added Faulty j k h i = h ∙ sym i
one_look P log node added Item j k h i = h ∙ sym i
one_look P log node added Expand j k h i = h ∙ sym i
one_look P log (Some n) added Roots j k h i = one_closing P log (event_of (Some n) added) j k h i
one_look P log None (a ∷ added) Roots j k h i = one_closing P log (event_of None (a ∷ added)) j k h i
one_look P log None [] Roots j k h i = h ∙ sym i
one_look P log node added Closing j k h i = one_closing P log (event_of node added) j k h i

pub one_kind : (P : PieceRelation) (place : Place) (text : List ℕ) (j k : ℕ) → IsKindAt P place text j → IsKindAt P place text k → j ≡ k
one_kind P Heading text j k h i = h ∙ sym i
one_kind P (Version full) text j k h i = h ∙ sym i
one_kind P (BudgetLine full) text j k h i = h ∙ sym i
one_kind P (Adding full log node added) text j k h i = one_look P log node added (look_of log.protocol node text) j k h i
one_kind P (Ending log) text j k h i = h ∙ sym i
one_kind P (Done log) text j k h i = h ∙ sym i

-- where a reading stops
abbrev stop_line : Result LogValue (ℕ × Stop) → ℕ
stop_line (Ok log) = 0
stop_line (Err e) = e.0

abbrev stop_place : Result LogValue (ℕ × Stop) → Place
stop_place (Ok log) = Heading
stop_place (Err e) = e.1.0

abbrev stop_rest : Result LogValue (ℕ × Stop) → List ℕ
stop_rest (Ok log) = []
stop_rest (Err e) = e.1.1

-- a text has one fault
pub one_stop : (P : PieceRelation) (p : Protocol) (n : ℕ) (text : List ℕ) (line kind other more : ℕ) → StopsAt P p Heading n text line kind → StopsAt P p Heading n text other more → (line ≡ other) × (kind ≡ more)
one_stop P p n text line kind other more s t =
    let same = one_reading (takes P p) log_at stop_at (one P p) s.reads t.reads in
    let place : s.at ≡ t.at = ap stop_place same in
    let rest : s.rest ≡ t.rest = ap stop_rest same in (
      ap stop_line same,
      one_kind P t.at t.rest kind more (subst (λ (x : Place). IsKindAt P x t.rest kind) place (subst (λ (x : List ℕ). IsKindAt P s.at x kind) rest s.its)) t.its,
    )
