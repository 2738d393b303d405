-- The journal of a legal log whose verdict is UNKNOWN is read back as that log.
use Rattle.std.proofs.Common.{◌≡◌, ◌≢◌, ◌⊎◌, ℕ, zero, suc, ◌+◌, ◌^◌, ◌<◌, ◌≤◌, ◌==◌, Bool, true, false, not, List, [], ◌∷◌, ◌++◌, length, length-append, map, flat_map, get_or, Option, Some, None, Ok, refl, ap, sym, subst, ◌∙◌, arith, codes, inl, inr, append_assoc, append-nil}
use Rattle.std.specs.Prelude.{All}
use Rattle.std.proofs.lemmas.Bool.{cond-false, ne_eqb}
use Rattle.std.proofs.lemmas.List.Elements.{All-head, All-tail, All-nil, All-from_get_or}
use Rattle.cub_proto.specs.declared.protocol.Protocol.{Protocol}
use Rattle.cub_proto.specs.declared.budget.Budget.{Budget}
use Rattle.log_form.specs.declared.node.Node.{Node}
use Rattle.log_form.specs.declared.event.Mark.{Mark}
use Rattle.log_form.specs.declared.event.Added.{Added}
use Rattle.log_form.specs.declared.event.LogEvent.{LogEvent}
use Rattle.log_form.specs.declared.numbered.Numbered.{Numbered}
use Rattle.log_form.specs.declared.verdicts.LogVerdict.TheVariants.{UnknownCubes, UnknownWidth}
use Rattle.log_form.specs.Pieces.{PieceRelation, ArePossible, StayFit, IsFit, greatest_expanded}
use Rattle.log_form.specs.Log.{LogValue, no_log, cubes_of}
use Rattle.log_form.specs.Legal.{Treats, Fills, Grows, Leads, LeadAll, IsLegalLog}
use Rattle.log_form.specs.Verdict.{is_open, is_live_wide, verdict_going, verdict_by}
use Rattle.cub_cube.specs.declared.cube.Cube.{Cube}
use Rattle.std.specs.Prelude.{if◌then◌else◌}
use Rattle.std.specs.List.{list_any}
use Rattle.log_form.specs.declared.verdicts.LogVerdict.TheVariants.{Safe}
use Rattle.log_form.proofs.Depths.{askable_at}
use Rattle.log_form.proofs.Growth.{no_added, added_cube, new_cube}
use Rattle.log_form.proofs.Weave.{legal_woven}
use Rattle.log_form.proofs.Prefixes.{legal_more, legal_first}
use Rattle.log_steps.specs.Admitted.{AddsSome}
use Rattle.text_lines.specs.Line.{text_of, line_at}
use Rattle.text_lines.specs.Reading.{ends, line}
use Rattle.text_lines.proofs.LineLaws.{IsOneLine, line_written}
use Rattle.cube_text.specs.Reading.{IsLawful}
use Rattle.journal_text.specs.Text.{heading_text, version_text, budget_text, item_text, expand_text, full_text, wide_text, expand_lines, event_lines, least_wide, is_full, closing_lines, head_lines, journal_lines, text_of_log}
use Rattle.journal_text.specs.Lawful.{IsUnknown}
use Rattle.journal_text.specs.Form.{widest}
use Rattle.journal_text.specs.Laws.{AreEarly, HasEarly}
use Rattle.journal_text.specs.Place.{Place, Heading, Version, BudgetLine, Adding, Ending, Done, event_of, full_event, Makes, TakesItem, TakesFull, takes, JournalReads}
use Rattle.journal_text.proofs.AddsLaws.{some_front}
use Rattle.journal_text.proofs.EventLaws.{whole_adds}
use Rattle.journal_text.proofs.ItemLaws.{item_line}
use Rattle.journal_text.proofs.Apart.{node_number}
use Rattle.journal_text.proofs.MarkLaws.{grows_not_full}
use Rattle.journal_text.proofs.Takes.{full_node}
use Rattle.journal_text.proofs.OneLines.{one_heading, one_version, one_end, one_budget, one_item, one_expand, one_full, one_wide}

-- from this place on, whatever the number of the line is, these lines read as the journal of the log
abbrev AnyLine : PieceRelation → Protocol → Place → List (List ℕ) → LogValue → Type 0
AnyLine P p place ls log = (n : ℕ) → JournalReads P p place n (text_of ls) (Ok log)

-- the least wide node of a log is one of its nodes, if there is one
few_before : (b : Budget) (nodes : List Node) → least_wide b nodes ≤ length nodes
few_before b [] = omega arith
few_before b (n ∷ nodes) = by (is_live_wide b n) (few_before b nodes)
  where
    by : (x : Bool) → least_wide b nodes ≤ length nodes → (if not x then 1 + least_wide b nodes else 0) ≤ length (n ∷ nodes)
    by true h = omega arith
    by false h = omega (arith, h)

-- a mark by the verdict
going_width : (mark : Mark) (b : Budget) (nodes : List Node) → verdict_by mark b nodes ≡ Some UnknownWidth → mark ≡ Mark.Going
going_width Mark.Going b nodes h = refl
going_width (Mark.Bad n) b nodes h = cc
going_width (Mark.Full node needed) b nodes h = cc

no_cubes : (b : Budget) (nodes : List Node) → verdict_going b nodes ≡ Some UnknownCubes → ⊥
no_cubes b nodes h = by (list_any (is_open b) nodes) (list_any (is_live_wide b) nodes) h
  where
    by : (x y : Bool) → (if x then None else (if y then Some UnknownWidth else Some Safe)) ≡ Some UnknownCubes → ⊥
    by true y k = cc
    by false true k = cc
    by false false k = cc

full_cubes : (mark : Mark) (b : Budget) (nodes : List Node) → verdict_by mark b nodes ≡ Some UnknownCubes → (node : Option ℕ) × (needed : ℕ) × (mark ≡ Mark.Full node needed)
full_cubes Mark.Going b nodes h = absurd (no_cubes b nodes h)
full_cubes (Mark.Bad n) b nodes h = cc
full_cubes (Mark.Full node needed) b nodes h = (node, needed, refl)

module _ (P : PieceRelation) (p : Protocol) (f : LogValue) where
  step : (place q : Place) (l : List ℕ) (ls : List (List ℕ)) → takes P p place l q → IsOneLine l → AnyLine P p q ls f → AnyLine P p place (l ∷ ls) f
  step place q l ls tk one next = λ n. line l (text_of ls) at tk (next (n + 1))
    where
      at : ◌≡◌ {A = Option (List ℕ × List ℕ)} (line_at (text_of (l ∷ ls))) (Some (l, text_of ls))
      at = ap line_at (append_assoc l (10 ∷ []) (text_of ls)) ∙ line_written l (text_of ls) one

  -- added cubes of an event
  module _ (full : Bool) (log : LogValue) (node : Option ℕ) (list : List Numbered) (treats : Treats P log node list) (ls : List (List ℕ)) where
    items_back : (items done : List Added) → AddsSome log.protocol (cubes_of log.nodes) list (done ++ items) → length log.nodes + length (done ++ items) ≤ log.budget.cubes
        → All (λ a. IsLawful log.protocol widest a.cube) items → AreEarly items
        → AnyLine P p (Adding full log node (done ++ items)) ls f → AnyLine P p (Adding full log node done) (map (item_text log.protocol node) items ++ ls) f
    items_back [] done adds room lawful early next = subst (λ (xs : List Added). AnyLine P p (Adding full log node xs) ls f) (append-nil done) next
    items_back (a ∷ items) done adds room lawful early next =
        let whole : (done ++ a ∷ []) ++ items ≡ done ++ a ∷ items = append_assoc done (a ∷ []) items in
        let adds' : AddsSome log.protocol (cubes_of log.nodes) list ((done ++ a ∷ []) ++ items) = subst (AddsSome log.protocol (cubes_of log.nodes) list) (sym whole) adds in
        let taken : TakesItem P log node done (item_text log.protocol node a) a = record {
          text = refl;
          lawful = All-head (λ (b : Added). IsLawful log.protocol widest b.cube) a items lawful;
          early = All-head (λ (b : Added). b.piece < 2 ^ 64) a items early;
          list = list;
          treats = treats;
          adds = some_front log.protocol (cubes_of log.nodes) list (done ++ a ∷ []) items adds';
          room = omega (arith, room, ap length whole, length-append (done ++ a ∷ []) items);
        } in
        step (Adding full log node done) (Adding full log node (done ++ a ∷ [])) (item_text log.protocol node a) (map (item_text log.protocol node) items ++ ls)
        (inl (a, taken, refl)) (one_item log.protocol node (item_text log.protocol node a) a (item_line P log node done (item_text log.protocol node a) a taken))
        (items_back items (done ++ a ∷ []) adds' (omega (arith, room, ap length whole))
        (All-tail (λ (b : Added). IsLawful log.protocol widest b.cube) a items lawful) (All-tail (λ (b : Added). b.piece < 2 ^ 64) a items early)
        (subst (λ (xs : List Added). AnyLine P p (Adding full log node xs) ls f) (sym whole) next))

  last_line : AnyLine P p (Done f) [] f
  last_line = λ n. ends f refl refl

  ending : AnyLine P p (Ending f) (codes "end" ∷ []) f
  ending = step (Ending f) (Done f) (codes "end") [] (refl, refl) one_end last_line

  abbrev tail : List (List ℕ)
  tail = closing_lines f.mark f.budget f.nodes ++ codes "end" ∷ []

  module _ (possible : ArePossible P) (stay : StayFit P) (legal : IsLegalLog P f) (unknown : IsUnknown f) where
    -- the cubes of an event may be written
    lawful_added : (log : LogValue) (event : LogEvent) (next : LogValue) → Leads P log event next → IsLegalLog P next → All (λ a. IsLawful log.protocol widest a.cube) event.added
    lawful_added log event next leads whole = by leads.effect
      where
        by : Fills log event leads.list next ⊎ Grows log event leads.list next → All (λ a. IsLawful log.protocol widest a.cube) event.added
        by (inl fills) = subst (All (λ (a : Added). IsLawful log.protocol widest a.cube)) (sym fills.nothing) (All-nil (λ (a : Added). IsLawful log.protocol widest a.cube))
        by (inr grows) =
            subst (All (λ (a : Added). IsLawful log.protocol widest a.cube)) (sym grows.added)
            (All-from_get_or (λ (a : Added). IsLawful log.protocol widest a.cube) leads.list no_added (λ k below.
            let count = grows.count in
            let here = new_cube log event leads.list next grows (length log.nodes + k) k refl below ∙ added_cube leads.list k below in
            let fit = askable_at P possible stay next (legal_woven P next whole) (length log.nodes + k) (omega (arith, count, below)) in
            lawful (subst (λ (q : Protocol). IsFit q widest greatest_expanded (get_or leads.list k no_added).cube) leads.protocol
            (subst (IsFit next.protocol widest greatest_expanded) here fit))))
          where
            lawful : {c : Cube} → IsFit log.protocol widest greatest_expanded c → IsLawful log.protocol widest c
            lawful fit = record { narrow = fit.narrow; fits = fit.fits; bounded = fit.bounded; normal = fit.normal }

    abbrev full : Bool
    full = is_full f.mark

    -- the closing line of a log that its last event did not fill
    closing_back : (old : LogValue) (node : Option ℕ) (added : List Added) → length old.nodes ≤ old.budget.cubes → Makes P old (event_of node added) f → AnyLine P p (Adding full old node added) tail f
    closing_back old node added few makes = by unknown
      where
        no_full : (of : Option ℕ) (needed : ℕ) → f.mark ≡ Mark.Full of needed → ⊥
        no_full of needed is = by makes.leads.effect
          where
            by : Fills old (event_of node added) makes.leads.list f ⊎ Grows old (event_of node added) makes.leads.list f → ⊥
            by (inl fills) = omega (arith, fills.above, fills.needed, few)
            by (inr grows) = grows_not_full old (event_of node added) makes.leads.list f of needed grows is

        by : IsUnknown f → AnyLine P p (Adding full old node added) tail f
        by (inl cubes) = let m = full_cubes f.mark f.budget f.nodes cubes in absurd (no_full m.0 m.1 m.2)
        by (inr width) =
            let going = going_width f.mark f.budget f.nodes width in
            let heading : full ≡ false = ap is_full going in
            let lines : wide_text (least_wide f.budget f.nodes) ∷ codes "end" ∷ [] ≡ tail = ap (λ m. closing_lines m f.budget f.nodes ++ codes "end" ∷ []) (sym going) in
            let few_nodes = (legal_woven P f legal).few in
            let most = f.budget.few_cubes in
            let least = few_before f.budget f.nodes in
            subst (λ (ls : List (List ℕ)). AnyLine P p (Adding full old node added) ls f) lines
            (step (Adding full old node added) (Ending f) (wide_text (least_wide f.budget f.nodes)) (codes "end" ∷ [])
            (inr (inl (f, makes, inr (f, inr (record { heading = heading; verdict = width; text = refl }, refl), refl)))) (one_wide (least_wide f.budget f.nodes) (omega arith)) ending)

    -- that of a log that the last event filled
    module _ (log : LogValue) (node : Option ℕ) (e : LogEvent) (leads : Leads P log e f) (its : e.node ≡ node) (some : e.needed ≡ 0 → ⊥) (early : e.needed < 2 ^ 64) where
      filled : Fills log e leads.list f
      filled = by leads.effect
        where
          by : Fills log e leads.list f ⊎ Grows log e leads.list f → Fills log e leads.list f
          by (inl fills) = fills
          by (inr grows) = absurd (some grows.needed)

      is_event : e ≡ full_event node e.needed
      is_event = λ i. record { node = its i; added = filled.nothing i; needed = e.needed }

      marked : f.mark ≡ Mark.Full node e.needed
      marked = filled.mark ∙ ap (λ o. Mark.Full o (length leads.list)) its ∙ ap (λ m. Mark.Full node m) (sym filled.needed)

      fills_taken : TakesFull P full log node e.needed f (full_text node e.needed)
      fills_taken = record {
        heading = ap is_full marked;
        text = refl;
        early = early;
        makes = record { leads = subst (λ (x : LogEvent). Leads P log x f) is_event leads; legal = legal };
        mark = marked;
      }

      full_lines : full_text node e.needed ∷ codes "end" ∷ [] ≡ tail
      full_lines = ap (λ m. closing_lines m f.budget f.nodes ++ codes "end" ∷ []) (sym marked)

      full_back : (place : Place) → takes P p place (full_text node e.needed) (Ending f) → AnyLine P p place tail f
      full_back place taken =
          subst (λ (ls : List (List ℕ)). AnyLine P p place ls f) full_lines
          (step place (Ending f) (full_text node e.needed) (codes "end" ∷ []) taken
          (one_full node e.needed (full_node P full log node e.needed f (full_text node e.needed) fills_taken) early) ending)

    -- an event that did not fill the log
    module _ (log : LogValue) (node : Option ℕ) (e : LogEvent) (next : LogValue) (leads : Leads P log e next) (its : e.node ≡ node) (none : e.needed ≡ 0) where
      is_whole : e ≡ event_of node e.added
      is_whole = λ i. record { node = its i; added = e.added; needed = none i }

      whole_leads : Leads P log (event_of node e.added) next
      whole_leads = subst (λ (x : LogEvent). Leads P log x next) is_whole leads

      whole_lines : (q : Protocol) → event_lines q e ≡ expand_lines node ++ map (item_text q node) e.added
      whole_lines q = ap (event_lines q) is_whole

    -- where an event filled the log, none comes behind it
    none_behind : (log : LogValue) (e : LogEvent) (next : LogValue) (rest : List LogEvent) → Leads P log e next → (e.needed ≡ 0 → ⊥) → LeadAll P next rest f → (rest ≡ []) × (next ≡ f)
    none_behind log e next [] leads some same = (refl, same)
    none_behind log e next (d ∷ rest) leads some (after, more, all) = absurd (by leads.effect)
      where
        by : Fills log e leads.list next ⊎ Grows log e leads.list next → ⊥
        by (inl fills) = let wrong = sym fills.mark ∙ more.going in cc
        by (inr grows) = some grows.needed

    -- behind a whole event
    events_back : (es : List LogEvent) (cur : LogValue) → LeadAll P cur es f → IsLegalLog P cur → cur.protocol ≡ f.protocol → All HasEarly es
        → (old : LogValue) (node : Option ℕ) (added : List Added) → length old.nodes ≤ old.budget.cubes → Makes P old (event_of node added) cur
        → AnyLine P p (Adding full old node added) (flat_map (event_lines f.protocol) es ++ tail) f
    events_back [] cur same whole of_f early old node added few makes =
        closing_back old node added few (subst (λ (x : LogValue). Makes P old (event_of node added) x) same makes)
    events_back (e ∷ es) cur (next, leads, all) whole of_f early old node added few makes = by e.node refl e.needed refl (λ of. events_back es next all (legal_more P cur e next whole leads) (leads.protocol ∙ of_f) (All-tail HasEarly e es early) cur of)
      where
        first : HasEarly e
        first = All-head HasEarly e es early

        few_cur : length cur.nodes ≤ cur.budget.cubes
        few_cur = (legal_woven P cur whole).few

        no_first : e.node ≡ None → ⊥
        no_first is = whole.begun (subst (λ (o : Option ℕ). Treats P cur o leads.pieces) is leads.treats).0

        by : (o : Option ℕ) → e.node ≡ o → (m : ℕ) → e.needed ≡ m
            → ((of : Option ℕ) (items : List Added) → length cur.nodes ≤ cur.budget.cubes → Makes P cur (event_of of items) next → AnyLine P p (Adding full cur of items) (flat_map (event_lines f.protocol) es ++ tail) f)
            → AnyLine P p (Adding full old node added) (flat_map (event_lines f.protocol) (e ∷ es) ++ tail) f
        by None its m is later = absurd (no_first its)
        by (Some n) its zero is later =
            let l = whole_leads cur (Some n) e next leads its is in
            let w = whole_adds P cur (Some n) e.added next few_cur l in
            let legal_next = legal_more P cur e next whole leads in
            let rest = flat_map (event_lines f.protocol) es ++ tail in
            let below = later (Some n) e.added few_cur (record { leads = l; legal = legal_next }) in
            let items = items_back full cur (Some n) w.list w.treats rest e.added [] w.adds w.room (lawful_added cur e next leads legal_next) first.1 below in
            let lines : expand_text n ∷ (map (item_text cur.protocol (Some n)) e.added ++ rest) ≡ flat_map (event_lines f.protocol) (e ∷ es) ++ tail =
            ap (λ q. expand_text n ∷ (map (item_text q (Some n)) e.added ++ rest)) of_f
            ∙ ap (λ ls. ls ++ rest) (sym (whole_lines cur (Some n) e next leads its is f.protocol))
            ∙ sym (append_assoc (event_lines f.protocol e) (flat_map (event_lines f.protocol) es) tail) in
            subst (λ (ls : List (List ℕ)). AnyLine P p (Adding full old node added) ls f) lines
            (step (Adding full old node added) (Adding full cur (Some n) []) (expand_text n) (map (item_text cur.protocol (Some n)) e.added ++ rest)
            (inr (inl (cur, makes, inl (n, record { text = refl; going = leads.going; list = w.list; treats = w.treats }, refl))))
            (one_expand n (node_number P cur n w.list whole w.treats)) items)
        by (Some n) its (suc m) is later =
            let some : e.needed ≡ 0 → ⊥ = λ zero_needed. omega (arith, is, zero_needed) in
            let end = none_behind cur e next es leads some all in
            let final : Leads P cur e f = subst (λ (x : LogValue). Leads P cur e x) end.1 leads in
            let nothing : event_lines f.protocol e ≡ [] = cond-false (e.needed == 0) (expand_lines e.node ++ map (item_text f.protocol e.node) e.added) [] (ne_eqb e.needed 0 some) in
            let lines : tail ≡ flat_map (event_lines f.protocol) (e ∷ es) ++ tail =
            ap (λ ls. ls ++ tail) (sym (ap (λ ls. ls ++ flat_map (event_lines f.protocol) es) nothing ∙ ap (flat_map (event_lines f.protocol)) end.0)) in
            subst (λ (ls : List (List ℕ)). AnyLine P p (Adding full old node added) ls f) lines
            (full_back cur (Some n) e final its some first.0 (Adding full old node added)
            (inr (inl (cur, makes, inr (f, inl (n, e.needed, fills_taken cur (Some n) e final its some first.0), refl)))))

    -- from the first event on
    first_back : (es : List LogEvent) → es ≢ [] → LeadAll P (no_log f.protocol f.budget) es f → All HasEarly es
        → AnyLine P p (Adding full (no_log f.protocol f.budget) None []) (flat_map (event_lines f.protocol) es ++ tail) f
    first_back [] begun all early = absurd (begun refl)
    first_back (e ∷ es) begun (next, leads, all) early = by e.node refl e.needed refl
      where
        start : LogValue
        start = no_log f.protocol f.budget

        first : HasEarly e
        first = All-head HasEarly e es early

        no_node : (n : ℕ) → e.node ≡ Some n → ⊥
        no_node n is = (subst (λ (o : Option ℕ). Treats P (no_log f.protocol f.budget) o leads.pieces) is leads.treats).begun refl

        by : (o : Option ℕ) → e.node ≡ o → (m : ℕ) → e.needed ≡ m → AnyLine P p (Adding full (no_log f.protocol f.budget) None []) (flat_map (event_lines f.protocol) (e ∷ es) ++ tail) f
        by (Some n) its m is = absurd (no_node n its)
        by None its zero is =
            let l = whole_leads (no_log f.protocol f.budget) None e next leads its is in
            let w = whole_adds P (no_log f.protocol f.budget) None e.added next (omega arith) l in
            let legal_next = legal_first P f.protocol f.budget e next leads in
            let rest = flat_map (event_lines f.protocol) es ++ tail in
            let below = events_back es next all legal_next leads.protocol (All-tail HasEarly e es early) (no_log f.protocol f.budget) None e.added (omega arith) (record { leads = l; legal = legal_next }) in
            let items = items_back full (no_log f.protocol f.budget) None w.list w.treats rest e.added [] w.adds w.room (lawful_added (no_log f.protocol f.budget) e next leads legal_next) first.1 below in
            let lines : map (item_text f.protocol None) e.added ++ rest ≡ flat_map (event_lines f.protocol) (e ∷ es) ++ tail =
            ap (λ ls. ls ++ rest) (sym (whole_lines (no_log f.protocol f.budget) None e next leads its is f.protocol))
            ∙ sym (append_assoc (event_lines f.protocol e) (flat_map (event_lines f.protocol) es) tail) in
            subst (λ (ls : List (List ℕ)). AnyLine P p (Adding full (no_log f.protocol f.budget) None []) ls f) lines items
        by None its (suc m) is =
            let some : e.needed ≡ 0 → ⊥ = λ zero_needed. omega (arith, is, zero_needed) in
            let end = none_behind (no_log f.protocol f.budget) e next es leads some all in
            let final : Leads P (no_log f.protocol f.budget) e f = subst (λ (x : LogValue). Leads P (no_log f.protocol f.budget) e x) end.1 leads in
            let nothing : event_lines f.protocol e ≡ [] = cond-false (e.needed == 0) (expand_lines e.node ++ map (item_text f.protocol e.node) e.added) [] (ne_eqb e.needed 0 some) in
            let lines : tail ≡ flat_map (event_lines f.protocol) (e ∷ es) ++ tail =
            ap (λ ls. ls ++ tail) (sym (ap (λ ls. ls ++ flat_map (event_lines f.protocol) es) nothing ∙ ap (flat_map (event_lines f.protocol)) end.0)) in
            subst (λ (ls : List (List ℕ)). AnyLine P p (Adding full (no_log f.protocol f.budget) None []) ls f) lines
            (full_back (no_log f.protocol f.budget) None e final its some first.0 (Adding full (no_log f.protocol f.budget) None [])
            (inr (inr (e.needed, f, fills_taken (no_log f.protocol f.budget) None e final its some first.0, refl))))

    pub reads_back : f.protocol ≡ p → All HasEarly f.events → (n : ℕ) → JournalReads P p Heading n (text_of_log f) (Ok f)
    reads_back of_p early =
        let b = f.budget in
        let body = flat_map (event_lines f.protocol) f.events ++ tail in
        let items : AnyLine P p (Adding full (no_log p b) None []) body f =
        subst (λ (q : Protocol). AnyLine P p (Adding full (no_log q b) None []) body f) of_p (first_back f.events legal.begun legal.made early) in
        let budgeted = step (BudgetLine full) (Adding full (no_log p b) None []) (budget_text b) body (b, refl, refl) (one_budget b) items in
        let versioned = step (Version full) (BudgetLine full) version_text (budget_text b ∷ body) (refl, refl) one_version budgeted in
        let headed = step Heading (Version full) (heading_text full) (version_text ∷ budget_text b ∷ body) (full, refl, refl) (one_heading full) versioned in
        let same : heading_text full ∷ version_text ∷ budget_text b ∷ body ≡ journal_lines f =
        sym (append_assoc (head_lines full b ++ flat_map (event_lines f.protocol) f.events) (closing_lines f.mark f.budget f.nodes) (codes "end" ∷ [])) in
        subst (λ (ls : List (List ℕ)). AnyLine P p Heading ls f) same headed
