-- Readings behind whole events: where they go on, and where they stop.
use Rattle.std.proofs.Common.{◌≡◌, ℕ, ◌+◌, ◌^◌, ◌<◌, ◌≤◌, Bool, true, false, nat_lt, List, [], ◌∷◌, length, Option, Some, None, refl, sym, ap, subst, ◌∙◌, arith, inl, inr}
use Rattle.std.proofs.lemmas.Bool.{ltb-true, ltb-false}
use Rattle.cub_proto.specs.declared.protocol.Protocol.{Protocol}
use Rattle.cub_proto.specs.declared.budget.Budget.{Budget}
use Rattle.log_form.specs.declared.event.Added.{Added}
use Rattle.log_form.specs.declared.event.Mark.{Mark}
use Rattle.log_form.specs.declared.numbered.Numbered.{Numbered}
use Rattle.log_form.specs.Pieces.{PieceRelation, AreOne}
use Rattle.log_form.specs.Log.{LogValue, no_log}
use Rattle.log_form.specs.Legal.{Treats, Leads}
use Rattle.log_form.proofs.Weave.{legal_woven}
use Rattle.log_form.proofs.Prefixes.{legal_more, legal_first}
use Rattle.cube_core.specs.Admits.{IsIllegal, RefusesAll, RefusesItem}
use Rattle.text_lines.specs.Line.{line_at}
use Rattle.journal_text.specs.declared.look.Look.{Look}
use Rattle.journal_text.specs.declared.look.Look.TheVariants.{Item}
use Rattle.journal_text.specs.declared.fault.JournalFault.{JournalFault}
use Rattle.journal_text.specs.declared.fault.JournalFault.TheVariants as faults
use Rattle.journal_text.specs.Text.{expand_text}
use Rattle.journal_text.specs.Form.{look_of, look_cut}
use Rattle.cube_text.specs.Form.{is_empty}
use Rattle.journal_text.specs.Items.{AreItemLines, IsNoItem}
use Rattle.journal_text.specs.Ready.{HasNoRoots, IsReady, IsClosed, IsNoClosing, IsFilled, whole_kind, is_nothing, lacking_kind}
use Rattle.journal_text.specs.Place.{Place, Adding, Ending, event_of, TakesExpand, Closes, GoesOn, IsLookKind, StopsAt, IsFaultOf, IsAt}
use Rattle.journal_text.proofs.Steps.{same_line, goes_on, goes_through, stuck_here, bad_line, stops_from}
use Rattle.journal_text.proofs.FormLaws.{item_look}
use Rattle.journal_text.proofs.Apart.{expand_no_full, expand_no_wide, same_expand, node_number}
use Rattle.journal_text.proofs.StuckLaws.{whole_stops, lacking_stops, item_stops, whole_look_kind, lacking_look_kind}
use Rattle.journal_text.proofs.EventLaws.{whole_adds, go_lines, early_stop, late_stop}

module _ (P : PieceRelation) (p : Protocol) where
  -- a fault that is at a line, of a kind, is that of a text that stops there
  pub fault_at : (place : Place) (n : ℕ) (text : List ℕ) (f : JournalFault) (line kind : ℕ) → IsAt f line kind → StopsAt P p place n text line kind → IsFaultOf P p place n text f
  fault_at place n text f line kind (inl is) s = subst (IsFaultOf P p place n text) (sym is) tt
  fault_at place n text f line kind (inr is) s = subst (IsFaultOf P p place n text) (sym is) s

  pub no_memory : (place : Place) (n : ℕ) (text : List ℕ) (f : JournalFault) → f ≡ faults.Memory → IsFaultOf P p place n text f
  no_memory place n text f is = subst (IsFaultOf P p place n text) (sym is) tt

  -- behind a whole event neither an expansion nor a closing line may stand
  pub ready_stops : (place : Place) (n : ℕ) (text : List ℕ) (full : Bool) (node : Option ℕ) (log : LogValue) (line : ℕ) (rest : List ℕ) → IsReady P p place n text full node log line rest
      → ((bytes behind : List ℕ) (m : ℕ) → line_at rest ≡ Some (bytes, behind) → TakesExpand P log bytes m → ⊥) → IsNoClosing P full log rest
      → StopsAt P p place n text line (whole_kind (look_of p node rest))
  ready_stops place n text full node log line rest r no_expand no_close =
      let kind = whole_kind (look_of p node rest) in
      stops_from P p (Adding full r.old node r.added) line rest place n text line kind r.goes
      (stuck_here P p (Adding full r.old node r.added) line rest refl kind
      (subst (λ (x : Protocol). IsLookKind P r.old node r.added (look_of x node rest) kind) (sym r.protocol) (whole_look_kind P r.old node r.added log r.makes.leads (look_of p node rest)))
      (whole_stops P p full r.old node r.added log rest r.protocol r.no_item r.makes r.no_roots no_expand
      (λ bytes behind last at closes. no_close last behind (record { line = bytes; at = at; closes = closes }))))

  -- a closing line
  pub closed_goes : (place : Place) (n : ℕ) (text : List ℕ) (full : Bool) (node : Option ℕ) (log : LogValue) (line : ℕ) (here : List ℕ) (last : LogValue) (rest : List ℕ)
      → IsReady P p place n text full node log line here → IsClosed P full log here last rest → GoesOn P p (Ending last) (line + 1) rest place n text
  closed_goes place n text full node log line here last rest r c =
      goes_through P p (Ending last) (line + 1) rest (Adding full r.old node r.added) line here place n text
      (goes_on P p (Adding full r.old node r.added) line here c.line rest (Ending last) c.at (inr (inl (log, r.makes, inr (last, c.closes, refl))))) r.goes

  pub filled_goes : (full : Bool) (budget : Budget) (text : List ℕ) (last : LogValue) (rest : List ℕ) → IsFilled P full (no_log p budget) text last rest
      → GoesOn P p (Ending last) 5 rest (Adding full (no_log p budget) None []) 4 text
  filled_goes full budget text last rest f =
      goes_on P p (Adding full (no_log p budget) None []) 4 text f.line rest (Ending last) f.at (inr (inr (f.needed, last, f.takes, refl)))

  -- the expansion of a node, whose line stands next, and the lines of its cubes
  module _ (before : Option ℕ) (log : LogValue) (of_p : log.protocol ≡ p) (line : ℕ) (here behind rest : List ℕ) (node : ℕ) (small : node < 2 ^ 32) (items : List Added)
      (at : line_at here ≡ Some (expand_text node, behind)) (lines : AreItemLines p (Some node) items behind rest) (no_item : IsNoItem p (Some node) rest)
      (place : Place) (n : ℕ) (text : List ℕ) (full : Bool) (r : IsReady P p place n text full before log line here) where
    goes_expand : log.mark ≡ Mark.Going → (list : List Numbered) → Treats P log (Some node) list → GoesOn P p (Adding full log (Some node) []) (line + 1) behind place n text
    goes_expand going list treats =
        goes_through P p (Adding full log (Some node) []) (line + 1) behind (Adding full r.old before r.added) line here place n text
        (goes_on P p (Adding full r.old before r.added) line here (expand_text node) behind (Adding full log (Some node) []) at
        (inr (inl (log, r.makes, inl (node, record { text = refl; going = going; list = list; treats = treats }, refl))))) r.goes

    few : length log.nodes ≤ log.budget.cubes
    few = (legal_woven P log r.makes.legal).few

    pub expand_ready : (next : LogValue) → Leads P log (event_of (Some node) items) next → IsReady P p place n text full (Some node) next (line + 1 + length items) rest
    expand_ready next leads =
        let w = whole_adds P log (Some node) items next few leads in
        record {
          old = log;
          added = items;
          protocol = of_p;
          makes = record { leads = leads; legal = legal_more P log (event_of (Some node) items) next r.makes.legal leads };
          goes = goes_through P p (Adding full log (Some node) items) (line + 1 + length items) rest (Adding full log (Some node) []) (line + 1) behind place n text
              (go_lines P p full log of_p (Some node) w.list w.treats items (line + 1) behind rest lines w.adds w.room) (goes_expand leads.going w.list w.treats);
          no_item = no_item;
          no_roots = λ bytes left q there h. h;
        }

    -- no list of the node
    pub expand_refused : RefusesAll P log (event_of (Some node) items) → StopsAt P p place n text line (whole_kind (look_of p before here))
    expand_refused refuses = ready_stops place n text full before log line here r no_expand no_close
      where
        by : (m : ℕ) → m ≡ node → log.mark ≡ Mark.Going → (list : List Numbered) → Treats P log (Some m) list
            → RefusesAll P log (event_of (Some node) items) → ⊥
        by m same going list treats (inl stopped) = stopped going
        by m same going list treats (inr (inl none)) = none list (subst (λ (i : ℕ). Treats P log (Some i) list) same treats)
        by m same going list treats (inr (inr needed)) = needed refl

        no_expand : (bytes left : List ℕ) (m : ℕ) → line_at here ≡ Some (bytes, left) → TakesExpand P log bytes m → ⊥
        no_expand bytes left m there t =
            let is : bytes ≡ expand_text node = same_line here bytes left (expand_text node) behind there at in
            by m (same_expand m node (node_number P log m t.list r.makes.legal t.treats) small (sym t.text ∙ is)) t.going t.list t.treats refuses

        no_close : IsNoClosing P full log here
        no_close last left c = closes (same_line here c.line left (expand_text node) behind c.at at) c.closes
          where
            closes : c.line ≡ expand_text node → Closes P full log c.line last → ⊥
            closes is (inl (m, needed, t)) = expand_no_full c.line node (Some m) needed is t.text
            closes is (inr (t, same)) = expand_no_wide c.line node _ is t.text

    -- a cube that may not be added, or a piece that is lacking
    pub expand_early : AreOne P → (k : ℕ) → RefusesItem P log (event_of (Some node) items) k → k < length items → StopsAt P p place n text (line + 1 + k) 4
    expand_early one k refuses inside =
        stops_from P p (Adding full log (Some node) []) (line + 1) behind place n text (line + 1 + k) 4 (goes_expand refuses.going refuses.list refuses.treats)
        (early_stop P p full log of_p (Some node) items (line + 1) behind rest lines one few k refuses inside)

    pub expand_late : (k : ℕ) → RefusesItem P log (event_of (Some node) items) k → IsIllegal P log (event_of (Some node) items) → length items ≤ k
        → StopsAt P p place n text (line + 1 + length items) (lacking_kind (is_nothing (Some node) (length items)) (look_of p (Some node) rest))
    expand_late k refuses illegal past =
        let kind = lacking_kind (is_nothing (Some node) (length items)) (look_of p (Some node) rest) in
        stops_from P p (Adding full log (Some node) []) (line + 1) behind place n text (line + 1 + length items) kind (goes_expand refuses.going refuses.list refuses.treats)
        (late_stop P p full log of_p (Some node) items (line + 1) behind rest lines few k refuses illegal past no_item (λ bytes left q there h. h))

    -- the fault of the expansion, by the first cube that may not be added
    pub expand_unfit : AreOne P → (k : ℕ) → IsIllegal P log (event_of (Some node) items) → RefusesItem P log (event_of (Some node) items) k → (f : JournalFault)
        → (k < length items → IsAt f (line + 1 + k) 4) → (length items ≤ k → IsAt f (line + 1 + length items) (lacking_kind (is_nothing (Some node) (length items)) (look_of p (Some node) rest)))
        → IsFaultOf P p place n text f
    expand_unfit one k illegal refuses f early late = by (nat_lt k (length items)) refl
      where
        by : (b : Bool) → nat_lt k (length items) ≡ b → IsFaultOf P p place n text f
        by true is =
            let inside = ltb-true k (length items) is in
            fault_at place n text f (line + 1 + k) 4 (early inside) (expand_early one k refuses inside)
        by false is =
            let past = ltb-false k (length items) is in
            fault_at place n text f (line + 1 + length items) (lacking_kind (is_nothing (Some node) (length items)) (look_of p (Some node) rest)) (late past)
            (expand_late k refuses illegal past)

  -- the roots
  module _ (budget : Budget) (full : Bool) (text : List ℕ) (no_roots : HasNoRoots P full (no_log p budget) None [] text) where
    start : LogValue
    start = no_log p budget

    roots_behind : (items : List Added) (rest : List ℕ) → AreItemLines p None items text rest → HasNoRoots P full (no_log p budget) None items rest
    roots_behind [] rest h = subst (HasNoRoots P full (no_log p budget) None []) h no_roots
    roots_behind (a ∷ items) rest h = λ bytes left q there k. k

    module _ (items : List Added) (rest : List ℕ) (lines : AreItemLines p None items text rest) (no_item : IsNoItem p None rest) where
      pub roots_ready : (next : LogValue) → Leads P (no_log p budget) (event_of None items) next
          → IsReady P p (Adding full (no_log p budget) None []) 4 text full None next (4 + length items) rest
      roots_ready next leads =
          let w = whole_adds P (no_log p budget) None items next (omega arith) leads in
          record {
            old = no_log p budget;
            added = items;
            protocol = refl;
            makes = record { leads = leads; legal = legal_first P p budget (event_of None items) next leads };
            goes = go_lines P p full (no_log p budget) refl None w.list w.treats items 4 text rest lines w.adds w.room;
            no_item = no_item;
            no_roots = roots_behind items rest lines;
          }

      pub roots_early : AreOne P → (k : ℕ) → RefusesItem P (no_log p budget) (event_of None items) k → k < length items
          → StopsAt P p (Adding full (no_log p budget) None []) 4 text (4 + k) 4
      roots_early one k refuses inside = early_stop P p full (no_log p budget) refl None items 4 text rest lines one (omega arith) k refuses inside

      pub roots_late : (k : ℕ) → RefusesItem P (no_log p budget) (event_of None items) k → IsIllegal P (no_log p budget) (event_of None items) → length items ≤ k
          → StopsAt P p (Adding full (no_log p budget) None []) 4 text (4 + length items) (lacking_kind (is_nothing None (length items)) (look_of p None rest))
      roots_late k refuses illegal past = late_stop P p full (no_log p budget) refl None items 4 text rest lines (omega arith) k refuses illegal past no_item (roots_behind items rest lines)

    -- the fault of the roots, by the first cube that may not be added
    pub roots_unfit : (items : List Added) (rest : List ℕ) → AreItemLines p None items text rest → IsNoItem p None rest → AreOne P → (k : ℕ) → IsIllegal P (no_log p budget) (event_of None items)
        → RefusesItem P (no_log p budget) (event_of None items) k → (f : JournalFault) → (k < length items → IsAt f (4 + k) 4)
        → (length items ≤ k → IsAt f (4 + length items) (lacking_kind (is_nothing None (length items)) (look_of p None rest))) → IsFaultOf P p (Adding full (no_log p budget) None []) 4 text f
    roots_unfit items rest lines no_item one k illegal refuses f early late = by (nat_lt k (length items)) refl
      where
        by : (b : Bool) → nat_lt k (length items) ≡ b → IsFaultOf P p (Adding full (no_log p budget) None []) 4 text f
        by true is =
            let inside = ltb-true k (length items) is in
            fault_at (Adding full (no_log p budget) None []) 4 text f (4 + k) 4 (early inside) (roots_early items rest lines no_item one k refuses inside)
        by false is =
            let past = ltb-false k (length items) is in
            fault_at (Adding full (no_log p budget) None []) 4 text f (4 + length items) (lacking_kind (is_nothing None (length items)) (look_of p None rest)) (late past)
            (roots_late items rest lines no_item k refuses illegal past)

    -- no list of the roots
    no_lists : (items : List Added) → RefusesAll P (no_log p budget) (event_of None items) → (list : List Numbered) → Treats P (no_log p budget) None list → ⊥
    no_lists items (inl stopped) list treats = stopped refl
    no_lists items (inr (inl none)) list treats = none list treats
    no_lists items (inr (inr needed)) list treats = needed refl

    pub roots_none : (items : List Added) (rest : List ℕ) → AreItemLines p None items text rest → IsNoItem p None rest → IsIllegal P (no_log p budget) (event_of None items) → RefusesAll P (no_log p budget) (event_of None items)
        → (f : JournalFault) → (0 < length items → IsAt f (4 + 0) 4) → (length items ≤ 0 → IsAt f (4 + length items) (lacking_kind (is_nothing None (length items)) (look_of p None rest)))
        → IsFaultOf P p (Adding full (no_log p budget) None []) 4 text f
    roots_none [] rest same no_item illegal refuses f early late =
        let kind = lacking_kind true (look_of p None text) in
        fault_at (Adding full (no_log p budget) None []) 4 text f 4 kind
        (subst (λ (t : List ℕ). IsAt f 4 (lacking_kind true (look_of p None t))) (sym same) (late (omega arith)))
        (stuck_here P p (Adding full (no_log p budget) None []) 4 text refl kind (lacking_look_kind P (no_log p budget) None [] illegal (look_of p None text))
        (lacking_stops P p full (no_log p budget) None [] text refl (subst (IsNoItem p None) (sym same) no_item) illegal no_roots))
    roots_none (a ∷ items) rest (bytes, left, there, t, later) no_item illegal refuses f early late =
        let here : look_of p None text ≡ Item = ap (look_cut p None (is_empty text)) there ∙ item_look p None bytes a t in
        fault_at (Adding full (no_log p budget) None []) 4 text f 4 4 (early (omega arith))
        (bad_line P p (Adding full (no_log p budget) None []) 4 text refl 4 (subst (λ (l : Look). IsLookKind P (no_log p budget) None [] l 4) (sym here) refl) bytes left there
        (item_stops P p full (no_log p budget) None [] a bytes refl t (λ list treats adds room. no_lists (a ∷ items) refuses list treats)))

-- what is said of the number that was counted holds of the number of the cubes
pub counted_early : (count many : ℕ) → count ≡ many → (k : ℕ) (f : JournalFault) (line : ℕ) → (k < count → IsAt f (line + k) 4) → k < many → IsAt f (line + k) 4
counted_early count many same k f line early = subst (λ (n : ℕ). k < n → IsAt f (line + k) 4) same early

pub counted_late : (count many : ℕ) → count ≡ many → (node : Option ℕ) (k : ℕ) (f : JournalFault) (line : ℕ) (look : Look)
    → (count ≤ k → IsAt f (line + count) (lacking_kind (is_nothing node count) look)) → many ≤ k → IsAt f (line + many) (lacking_kind (is_nothing node many) look)
counted_late count many same node k f line look late = subst (λ (n : ℕ). n ≤ k → IsAt f (line + n) (lacking_kind (is_nothing node n) look)) same late
