-- Each place of a text tells the text before it, so what was read is the journal of the log, which is legal and UNKNOWN.
use Rattle.std.proofs.Common.{◌≡◌, ◌⊎◌, ℕ, ◌≤◌, ◌==◌, Bool, List, [], ◌∷◌, ◌++◌, length, map, flat_map, Option, Some, None, Result, Ok, Err, refl, ap, sym, subst, ◌∙◌, arith, inl, inr, append_assoc, append-nil, codes}
use Rattle.std.proofs.lemmas.Bool.{cond-false, ne_eqb}
use Rattle.cub_proto.specs.declared.protocol.Protocol.{Protocol}
use Rattle.cub_proto.specs.declared.budget.Budget.{Budget}
use Rattle.log_form.specs.declared.node.Node.{Node}
use Rattle.log_form.specs.declared.event.Mark.{Mark}
use Rattle.log_form.specs.declared.event.Added.{Added}
use Rattle.log_form.specs.declared.event.LogEvent.{LogEvent}
use Rattle.log_form.specs.declared.verdicts.LogVerdict.TheVariants.{UnknownWidth}
use Rattle.log_form.specs.Pieces.{PieceRelation}
use Rattle.log_form.specs.Log.{LogValue}
use Rattle.log_form.specs.Legal.{Fills, Grows, Leads, IsLegalLog}
use Rattle.log_form.specs.Verdict.{verdict_by}
use Rattle.log_form.proofs.Weave.{legal_woven}
use Rattle.text_lines.specs.Line.{ended, text_of}
use Rattle.text_lines.specs.Reading.{Reads, ends, line, stops}
use Rattle.text_lines.proofs.LineLaws.{line_split}
use Rattle.journal_text.specs.Text.{heading_text, version_text, budget_text, item_text, expand_text, full_text, wide_text, expand_lines, event_lines, least_wide, is_full, closing_lines, head_lines, text_of_log}
use Rattle.journal_text.specs.Lawful.{IsUnknown}
use Rattle.journal_text.proofs.Joining.{text_append}
use Rattle.journal_text.proofs.MarkLaws.{grows_not_full}
use Rattle.journal_text.specs.Place.{Place, Heading, Version, BudgetLine, Adding, Ending, Done, event_of, full_event, TakesFull, TakesWide, Closes, TakesNext, TakesRoots, takes, log_at, stop_at, JournalReads}

-- what each line keeps of the text before it holds at the end
module _ {P V K : Type 0} (taken : P → List ℕ → P → Type 0) (value : P → Option V) (kind : P → List ℕ → K) (before : P → List ℕ → Type 0)
    (steps : (p q : P) (bytes done : List ℕ) → taken p bytes q → before p done → before q (done ++ ended bytes)) where
  kept : {p : P} {n : ℕ} {text : List ℕ} {o : Result V (ℕ × K)} (v : V) (done : List ℕ) → Reads taken value kind p n text o → o ≡ Ok v → before p done
      → (q : P) × (value q ≡ Some v) × before q (done ++ text)
  kept {p} v done (ends w empty is) e i = (
    p,
    let same : w ≡ v = cc in is ∙ ap (λ x. Some x) same,
    subst (before p) (sym (append-nil done) ∙ ap (λ t. done ++ t) (sym empty)) i,
  )
  kept {p} {n} {text} v done (line {q = q} bytes rest at t r) e i =
      let later = kept v (done ++ ended bytes) r e (steps p q bytes done t i) in (
        later.0,
        later.1,
        subst (before later.0)
            (append_assoc done (ended bytes) rest
            ∙ ap (λ t. done ++ t) (append_assoc bytes (10 ∷ []) rest ∙ sym (line_split text bytes rest at))) later.2,
      )
  kept v done (stops stuck) e i = absurd (let f : Err _ ≡ Ok v = e in cc)

map_push : {A B : Type 0} (f : A → B) (xs : List A) (x : A) → map f (xs ++ x ∷ []) ≡ map f xs ++ f x ∷ []
map_push f [] x = refl
map_push f (y ∷ ys) x = ap (λ t. f y ∷ t) (map_push f ys x)

pub flat_push : {A B : Type 0} (f : A → List B) (xs : List A) (x : A) → flat_map f (xs ++ x ∷ []) ≡ flat_map f xs ++ f x
flat_push f [] x = append-nil (f x)
flat_push f (y ∷ ys) x = ap (λ t. f y ++ t) (flat_push f ys x) ∙ sym (append_assoc (f y) (flat_map f ys) (f x))

-- a line more
more : (ls : List (List ℕ)) (done l m : List ℕ) → done ≡ text_of ls → l ≡ m → done ++ ended l ≡ text_of (ls ++ m ∷ [])
more ls done l m is same =
    ap (λ t. t ++ ended l) is ∙ ap (λ x. text_of ls ++ ended x) same ∙ ap (λ t. text_of ls ++ t) (sym (append-nil (ended m))) ∙ sym (text_append ls (m ∷ []))

-- the lines of a log's events
abbrev pub so_far : Bool → LogValue → List (List ℕ)
so_far full log = head_lines full log.budget ++ flat_map (event_lines log.protocol) log.events

abbrev pub item_lines : LogValue → Option ℕ → List Added → List (List ℕ)
item_lines log node added = expand_lines node ++ map (item_text log.protocol node) added

-- an event more
lines_after : (P : PieceRelation) (full : Bool) (log : LogValue) (event : LogEvent) (next : LogValue) → Leads P log event next → so_far full next ≡ so_far full log ++ event_lines log.protocol event
lines_after P full log event next leads =
    ap (λ b. head_lines full b ++ flat_map (event_lines next.protocol) next.events) leads.budget
    ∙ ap (λ p. head_lines full log.budget ++ flat_map (event_lines p) next.events) leads.protocol
    ∙ ap (λ es. head_lines full log.budget ++ flat_map (event_lines log.protocol) es) leads.events
    ∙ ap (λ ls. head_lines full log.budget ++ ls) (flat_push (event_lines log.protocol) log.events event)
    ∙ sym (append_assoc (head_lines full log.budget) (flat_map (event_lines log.protocol) log.events) (event_lines log.protocol event))

-- an event that fills the log needs something, so it has no lines
pub full_some : (P : PieceRelation) (log : LogValue) (node : Option ℕ) (needed : ℕ) (last : LogValue) → length log.nodes ≤ log.budget.cubes → Leads P log (full_event node needed) last → last.mark ≡ Mark.Full node needed → needed ≡ 0 → ⊥
full_some P log node needed last few leads mark none = by leads.effect
  where
    by : Fills log (full_event node needed) leads.list last ⊎ Grows log (full_event node needed) leads.list last → ⊥
    by (inl fills) = omega (arith, fills.above, fills.needed, none, few)
    by (inr grows) = grows_not_full log (full_event node needed) leads.list last node needed grows mark

pub record IsBefore (P : PieceRelation) (p : Protocol) (full : Bool) (log : LogValue) (node : Option ℕ) (added : List Added) (done : List ℕ) : Type 0 where
  pub of_p : log.protocol ≡ p
  pub few : length log.nodes ≤ log.budget.cubes
  pub text : done ≡ text_of (so_far full log ++ item_lines log node added)

pub record IsClosed (P : PieceRelation) (p : Protocol) (log : LogValue) : Type 0 where
  pub of_p : log.protocol ≡ p
  pub legal : IsLegalLog P log
  pub unknown : IsUnknown log

abbrev closed_lines : LogValue → List (List ℕ)
closed_lines log = so_far (is_full log.mark) log ++ closing_lines log.mark log.budget log.nodes

abbrev Before : PieceRelation → Protocol → Place → List ℕ → Type 0
Before P p Heading done = done ≡ []
Before P p (Version full) done = done ≡ text_of (heading_text full ∷ [])
Before P p (BudgetLine full) done = done ≡ text_of (heading_text full ∷ version_text ∷ [])
Before P p (Adding full log node added) done = IsBefore P p full log node added done
Before P p (Ending log) done = IsClosed P p log × (done ≡ text_of (closed_lines log))
Before P p (Done log) done = IsClosed P p log × (done ≡ text_of_log log)

going_width : (mark : Mark) (b : Budget) (nodes : List Node) → verdict_by mark b nodes ≡ Some UnknownWidth → mark ≡ Mark.Going
going_width Mark.Going b nodes h = refl
going_width (Mark.Bad n) b nodes h = cc
going_width (Mark.Full node needed) b nodes h = cc

module _ (P : PieceRelation) (p : Protocol) where
  -- a closing line of a full log, behind these lines
  full_closed : (full : Bool) (log : LogValue) (node : Option ℕ) (needed : ℕ) (last : LogValue) (l : List ℕ) → log.protocol ≡ p → length log.nodes ≤ log.budget.cubes → TakesFull P full log node needed last l
      → (done : List ℕ) → done ≡ text_of (so_far full log) → IsClosed P p last × (done ++ ended l ≡ text_of (closed_lines last))
  full_closed full log node needed last l of_p few t done is = (
    record {
      of_p = t.makes.leads.protocol ∙ of_p;
      legal = t.makes.legal;
      unknown = inl (ap (λ m. verdict_by m last.budget last.nodes) t.mark);
    },
    more (so_far full log) done l (full_text node needed) is t.text
        ∙ ap (λ ls. text_of (ls ++ full_text node needed ∷ [])) (lines ∙ ap (λ b. so_far b last) heading)
        ∙ ap (λ ls. text_of (so_far (is_full last.mark) last ++ ls)) (sym (ap (λ m. closing_lines m last.budget last.nodes) t.mark)),
  )
    where
      none : event_lines log.protocol (full_event node needed) ≡ []
      none = cond-false (needed == 0) _ [] (ne_eqb needed 0 (full_some P log node needed last few t.makes.leads t.mark))

      lines : so_far full log ≡ so_far full last
      lines = sym (lines_after P full log (full_event node needed) last t.makes.leads ∙ ap (λ ls. so_far full log ++ ls) none ∙ append-nil (so_far full log))

      heading : full ≡ is_full last.mark
      heading = t.heading ∙ sym (ap is_full t.mark)

  wide_closed : (full : Bool) (log : LogValue) (l : List ℕ) → log.protocol ≡ p → IsLegalLog P log → TakesWide full log l
      → (done : List ℕ) → done ≡ text_of (so_far full log) → IsClosed P p log × (done ++ ended l ≡ text_of (closed_lines log))
  wide_closed full log l of_p legal t done is =
      let going = going_width log.mark log.budget log.nodes t.verdict in (
        record { of_p = of_p; legal = legal; unknown = inr t.verdict },
        more (so_far full log) done l (wide_text (least_wide log.budget log.nodes)) is t.text
            ∙ ap (λ b. text_of (so_far b log ++ wide_text (least_wide log.budget log.nodes) ∷ [])) (t.heading ∙ sym (ap is_full going))
            ∙ ap (λ ls. text_of (so_far (is_full log.mark) log ++ ls)) (sym (ap (λ m. closing_lines m log.budget log.nodes) going)),
      )

  closes : (full : Bool) (log last : LogValue) (l : List ℕ) → log.protocol ≡ p → IsLegalLog P log → Closes P full log l last
      → (done : List ℕ) → done ≡ text_of (so_far full log) → IsClosed P p last × (done ++ ended l ≡ text_of (closed_lines last))
  closes full log last l of_p legal (inl (node, needed, t)) done is =
      full_closed full log (Some node) needed last l of_p (legal_woven P log legal).few t done is
  closes full log last l of_p legal (inr (t, same)) done is =
      subst (λ (x : LogValue). IsClosed P p x × (done ++ ended l ≡ text_of (closed_lines x))) (sym same) (wide_closed full log l of_p legal t done is)

  items_step : (full : Bool) (log : LogValue) (node : Option ℕ) (added : List Added) (q : Place) (l done : List ℕ) → takes P p (Adding full log node added) l q → IsBefore P p full log node added done → Before P p q (done ++ ended l)
  items_step full log node added q l done (inl (a, t, to)) i =
      subst (λ (z : Place). Before P p z (done ++ ended l)) (sym to) (record {
        of_p = i.of_p;
        few = i.few;
        text =
            more (so_far full log ++ item_lines log node added) done l (item_text log.protocol node a) i.text t.text
            ∙ ap text_of (append_assoc (so_far full log) (item_lines log node added) (item_text log.protocol node a ∷ [])
            ∙ ap (λ ls. so_far full log ++ ls) (append_assoc (expand_lines node) (map (item_text log.protocol node) added) (item_text log.protocol node a ∷ [])
            ∙ ap (λ ls. expand_lines node ++ ls) (sym (map_push (item_text log.protocol node) added a))));
      })
  items_step full log node added q l done (inr (inl (next, makes, h))) i = by h
    where
      of_p : next.protocol ≡ p
      of_p = makes.leads.protocol ∙ i.of_p

      so : done ≡ text_of (so_far full next)
      so = i.text ∙ ap text_of (sym (lines_after P full log (event_of node added) next makes.leads))

      by : TakesNext P full next l q → Before P p q (done ++ ended l)
      by (inl (n, t, to)) =
          subst (λ (z : Place). Before P p z (done ++ ended l)) (sym to) (record {
            of_p = of_p;
            few = (legal_woven P next makes.legal).few;
            text = more (so_far full next) done l (expand_text n) so t.text;
          })
      by (inr (last, t, to)) = subst (λ (z : Place). Before P p z (done ++ ended l)) (sym to) (closes full next last l of_p makes.legal t done so)
  items_step full log node added q l done (inr (inr h)) i = by node added h i
    where
      by : (node : Option ℕ) (added : List Added) → TakesRoots P full log node added l q → IsBefore P p full log node added done → Before P p q (done ++ ended l)
      by (Some n) added h i = absurd h
      by None (a ∷ added) h i = absurd h
      by None [] (needed, last, t, to) i =
          subst (λ (z : Place). Before P p z (done ++ ended l)) (sym to)
          (full_closed full log None needed last l i.of_p i.few t done (i.text ∙ ap text_of (append-nil (so_far full log))))

  steps : (place q : Place) (l done : List ℕ) → takes P p place l q → Before P p place done → Before P p q (done ++ ended l)
  steps Heading q l done (full, is, to) i = subst (λ (z : Place). Before P p z (done ++ ended l)) (sym to) (more [] done l (heading_text full) i is)
  steps (Version full) q l done (is, to) i =
      subst (λ (z : Place). Before P p z (done ++ ended l)) (sym to) (more (heading_text full ∷ []) done l version_text i is)
  steps (BudgetLine full) q l done (b, is, to) i =
      subst (λ (z : Place). Before P p z (done ++ ended l)) (sym to) (record {
        of_p = refl;
        few = omega arith;
        text = more (heading_text full ∷ version_text ∷ []) done l (budget_text b) i is;
      })
  steps (Adding full log node added) q l done h i = items_step full log node added q l done h i
  steps (Ending log) q l done (is, to) i =
      subst (λ (z : Place). Before P p z (done ++ ended l)) (sym to) (i.0, more (closed_lines log) done l (codes "end") i.1 is)
  steps (Done log) q l done h i = absurd h

  whole : (q : Place) (log : LogValue) (text : List ℕ) → log_at q ≡ Some log → Before P p q text → IsClosed P p log × (text ≡ text_of_log log)
  whole Heading log text h i = cc
  whole (Version full) log text h i = cc
  whole (BudgetLine full) log text h i = cc
  whole (Adding full old node added) log text h i = cc
  whole (Ending old) log text h i = cc
  whole (Done old) log text h i = let same : old ≡ log = cc in subst (λ (x : LogValue). IsClosed P p x × (text ≡ text_of_log x)) same i

  -- a text that reads as the journal of a log is that, and the log is legal and UNKNOWN
  pub read_whole : (n : ℕ) (text : List ℕ) (log : LogValue) → JournalReads P p Heading n text (Ok log) → IsClosed P p log × (text ≡ text_of_log log)
  read_whole n text log r =
      let end = kept (takes P p) log_at stop_at (Before P p) steps log [] r refl refl in
      whole end.0 log text end.1 end.2
