-- Lines that say that a log is full.
use Rattle.std.proofs.Common.{◌≡◌, ◌⊎◌, ℕ, ◌^◌, ◌<◌, Bool, true, false, List, [], Option, Some, None, refl, sym, ap, subst, ◌∙◌, arith, inl, inr, bytes_eq, codes}
use Rattle.std.specs.Prelude.{if◌then◌else◌, is_some, not}
use Rattle.cub_proto.specs.declared.protocol.Protocol.{Protocol}
use Rattle.cub_proto.specs.declared.budget.Budget.{Budget}
use Rattle.log_form.specs.declared.event.Added.{Added}
use Rattle.log_form.specs.declared.event.LogEvent.{LogEvent}
use Rattle.log_form.specs.Pieces.{PieceRelation}
use Rattle.log_form.specs.Log.{LogValue, no_log}
use Rattle.log_form.specs.Legal.{Leads, IsLegalLog}
use Rattle.log_form.proofs.Prefixes.{legal_more, legal_first}
use Rattle.log_form.proofs.Weave.{legal_woven}
use Rattle.cube_core.specs.Admits.{IsIllegal, NamesFault}
use Rattle.cube_core.specs.declared.fault.AdmitFault.{AdmitFault}
use Rattle.text_lines.specs.Line.{line_at}
use Rattle.text_lines.specs.Number.{counted}
use Rattle.journal_text.specs.Text.{full_text}
use Rattle.journal_text.specs.Told.{word_told, node_told}
use Rattle.journal_text.specs.Items.{IsNode}
use Rattle.journal_text.specs.Ready.{HasNoRoots, IsFilled, FillsBy}
use Rattle.journal_text.specs.Place.{full_event, TakesFull, Closes}
use Rattle.journal_text.proofs.Steps.{same_line}
use Rattle.journal_text.proofs.Refused.{full_same, full_mark, full_needs}
use Rattle.journal_text.proofs.Takes.{full_node}

-- the event that fills, with a list that is empty
pub event_empty : (node : Option ℕ) (added : List Added) (needed : ℕ) → added ≡ [] → ◌≡◌ {A = LogEvent} (record { node = node; added = added; needed = needed }) (full_event node needed)
event_empty node added needed is = ap (λ xs. record { node = node; added = xs; needed = needed }) is

module _ (P : PieceRelation) where
  -- the line of the log that the roots fill
  pub filled : (p : Protocol) (budget : Budget) (text line rest : List ℕ) (needed : ℕ) (last : LogValue) → line_at text ≡ Some (line, rest) → line ≡ full_text None needed → (needed ≡ 0 → ⊥) → needed < 2 ^ 64
      → Leads P (no_log p budget) (full_event None needed) last → IsFilled P true (no_log p budget) text last rest
  filled p budget text line rest needed last at is some early leads = record {
    line = line;
    needed = needed;
    at = at;
    takes = record {
      heading = refl;
      text = is;
      early = early;
      makes = record { leads = leads; legal = legal_first P p budget (full_event None needed) last leads };
      mark = full_mark P (no_log p budget) last None needed leads some;
    };
  }

  module _ (full : Bool) (log : LogValue) (text : List ℕ) where
    pub roots_not_full : full ≡ false → HasNoRoots P full log None [] text
    roots_not_full is = λ bytes behind q there k. let wrong = sym k.2.heading ∙ is in absurd cc

    pub roots_no_line : line_at text ≡ None → HasNoRoots P full log None [] text
    roots_no_line none = λ bytes behind q there k. absurd cc

    module _ (line rest : List ℕ) (at : line_at text ≡ Some (line, rest)) where
      pub roots_no_text : ((node : Option ℕ) (needed : ℕ) → IsNode node → needed < 2 ^ 64 → line ≡ full_text node needed → ⊥) → HasNoRoots P full log None [] text
      roots_no_text none = λ bytes behind q there k.
          none None k.0 tt k.2.early (sym (same_line text bytes behind line rest there at) ∙ k.2.text)

      -- what the line says is all that it can say
      pub roots_only : (told : Option ℕ) (much : ℕ) → line ≡ full_text told much → IsNode told → much < 2 ^ 64 → (told ≡ None → (last : LogValue) → TakesFull P full log None much last line → ⊥)
          → HasNoRoots P full log None [] text
      roots_only told much is h early refuse = λ bytes behind q there k.
          let same : bytes ≡ line = same_line text bytes behind line rest there at in
          let both = full_same told None much k.0 h early tt k.2.early (sym is ∙ sym same ∙ k.2.text) in
          refuse both.0 k.1 (subst (λ (m : ℕ). TakesFull P full log None m k.1 line) (sym both.1) (subst (TakesFull P full log None k.0 k.1) same k.2))

  -- the line of the log that a node fills
  pub fills : (log : LogValue) (line : List ℕ) (node needed : ℕ) (last : LogValue) → IsLegalLog P log → line ≡ full_text (Some node) needed → (needed ≡ 0 → ⊥) → needed < 2 ^ 64
      → Leads P log (full_event (Some node) needed) last → FillsBy P true log line last
  fills log line node needed last legal is some early leads = (
    node,
    needed,
    record {
      heading = refl;
      text = is;
      early = early;
      makes = record { leads = leads; legal = legal_more P log (full_event (Some node) needed) last legal leads };
      mark = full_mark P log last (Some node) needed leads some;
    },
  )

  pub fills_only : (full : Bool) (log : LogValue) (line : List ℕ) (told : Option ℕ) (much : ℕ) → line ≡ full_text told much → IsNode told → much < 2 ^ 64
      → ((node : ℕ) → told ≡ Some node → (last : LogValue) → TakesFull P full log (Some node) much last line → ⊥) → (last : LogValue) → FillsBy P full log line last → ⊥
  fills_only full log line told much is h early refuse last k =
      let both = full_same told (Some k.0) much k.1 h early (full_node P full log (Some k.0) k.1 last line k.2) k.2.early (sym is ∙ k.2.text) in
      refuse k.0 both.0 last (subst (λ (m : ℕ). TakesFull P full log (Some k.0) m last line) (sym both.1) k.2)

  -- an event that needs nothing fills no legal log
  pub fills_none : (full : Bool) (log : LogValue) (node : Option ℕ) (needed : ℕ) (last : LogValue) (line : List ℕ) → IsLegalLog P log → needed ≡ 0 → TakesFull P full log node needed last line → ⊥
  fills_none full log node needed last line legal none t = full_needs P full log node needed last line (legal_woven P log legal).few t none

-- the node of a line has a number
pub told_small : (line : List ℕ) → IsNode (node_told line)
told_small line = by (bytes_eq (word_told 1 line) (codes "roots"))
  where
    by : (b : Bool) → IsNode (if b then None else Some (counted (word_told 1 line)))
    by true = tt
    by false = omega arith

-- an event that was refused for a reason is illegal
pub named_illegal : (P : PieceRelation) (log : LogValue) (event : LogEvent) (fault : AdmitFault) (added : Option ℕ) → fault ≡ AdmitFault.Not added → NamesFault P log event fault → IsIllegal P log event
named_illegal P log event fault None is named = (subst (NamesFault P log event) is named).0
named_illegal P log event fault (Some k) is named = (subst (NamesFault P log event) is named).0

pub refused_by : (P : PieceRelation) (log : LogValue) (told : Option ℕ) (added : List Added) (needed : ℕ) (fault : AdmitFault) (which : Option ℕ) → fault ≡ AdmitFault.Not which → added ≡ []
    → NamesFault P log (record { node = told; added = added; needed = needed }) fault → (full : Bool) (node : Option ℕ) (last : LogValue) (line : List ℕ) → told ≡ node
    → TakesFull P full log node needed last line → ⊥
refused_by P log told added needed fault which is none named full node last line same t =
    named_illegal P log (record { node = told; added = added; needed = needed }) fault which is named last
    (subst (λ (xs : List Added). Leads P log (record { node = told; added = xs; needed = needed }) last) (sym none)
    (subst (λ (o : Option ℕ). Leads P log (record { node = o; added = []; needed = needed }) last) (sym same) t.makes.leads))

-- the test of what a line tells, for the roots and for a node
pub no_roots_told : (P : PieceRelation) (full : Bool) (p : Protocol) (budget : Budget) (line : List ℕ) (told : Option ℕ) (much : ℕ) (b : Bool) → b ≡ is_some told
    → (b ≡ true) ⊎ ((b ≡ false) × (much ≡ 0)) → told ≡ None → (last : LogValue) → TakesFull P full (no_log p budget) None much last line → ⊥
no_roots_told P full p budget line (Some n) much b is some none last t = absurd cc
no_roots_told P full p budget line None much b is (inl some) none last t = let wrong = sym is ∙ some in absurd cc
no_roots_told P full p budget line None much b is (inr (empty, zero)) none last t = full_needs P full (no_log p budget) None much last line (omega arith) t zero

pub no_node_told : (P : PieceRelation) (full : Bool) (log : LogValue) (line : List ℕ) (told : Option ℕ) (much : ℕ) (b : Bool) → is_some told ≡ not b
    → (b ≡ true) ⊎ ((b ≡ false) × (much ≡ 0)) → IsLegalLog P log → (node : ℕ) → told ≡ Some node → (last : LogValue) → TakesFull P full log (Some node) much last line → ⊥
no_node_told P full log line None much b is some legal node its last t = absurd cc
no_node_told P full log line (Some n) much b is (inl none) legal node its last t = let wrong = is ∙ ap not none in absurd cc
no_node_told P full log line (Some n) much b is (inr (some, zero)) legal node its last t = fills_none P full log (Some node) much last line legal zero t

pub fills_told : (P : PieceRelation) (log : LogValue) (line : List ℕ) (told : Option ℕ) (added : List Added) (needed : ℕ) (last : LogValue) → IsLegalLog P log → line ≡ full_text told needed
    → (b : Bool) → is_some told ≡ not b → b ≡ false → (needed ≡ 0 → ⊥) → needed < 2 ^ 64 → added ≡ [] → Leads P log (record { node = told; added = added; needed = needed }) last → FillsBy P true log line last
fills_told P log line None added needed last legal text b is no_match some early none leads = let wrong = is ∙ ap not no_match in absurd cc
fills_told P log line (Some n) added needed last legal text b is no_match some early none leads =
    fills P log line n needed last legal text some early (subst (λ (xs : List Added). Leads P log (record { node = Some n; added = xs; needed = needed }) last) none leads)

-- with the heading of a full log only a node that fills it closes it
pub closes_full : (P : PieceRelation) (full : Bool) (log : LogValue) (line : List ℕ) → full ≡ true → ((last : LogValue) → FillsBy P true log line last → ⊥) → (last : LogValue) → Closes P full log line last → ⊥
closes_full P full log line is none last (inl k) = none last (subst (λ (b : Bool). FillsBy P b log line last) is k)
closes_full P full log line is none last (inr (wide, same)) = let wrong = sym is ∙ wide.heading in absurd cc
