-- Lines that may not stand behind cubes of an event.
use Rattle.std.proofs.Common.{◌≡◌, ℕ, ◌+◌, ◌≤◌, Bool, true, false, List, [], ◌∷◌, ◌++◌, length, Option, Some, None, refl, sym, subst, ◌∙◌, arith, inl, inr}
use Rattle.std.specs.Prelude.{if◌then◌else◌}
use Rattle.std.proofs.lemmas.Bool.{eqb-true}
use Rattle.cub_proto.specs.declared.protocol.Protocol.{Protocol}
use Rattle.log_form.specs.declared.event.Added.{Added}
use Rattle.log_form.specs.declared.event.LogEvent.{LogEvent}
use Rattle.log_form.specs.declared.numbered.Numbered.{Numbered}
use Rattle.log_form.specs.Pieces.{PieceRelation}
use Rattle.log_form.specs.Log.{LogValue, cubes_of}
use Rattle.log_form.specs.Legal.{Treats, Leads}
use Rattle.log_form.proofs.Unique.{one_log}
use Rattle.log_steps.specs.Admitted.{AddsSome}
use Rattle.cube_core.specs.Admits.{IsIllegal}
use Rattle.text_lines.specs.Line.{line_at}
use Rattle.journal_text.specs.declared.look.Look.{Look}
use Rattle.journal_text.specs.declared.look.Look.TheVariants.{Formless, Faulty, Item, Expand, Roots, Closing}
use Rattle.journal_text.specs.Items.{IsItemLine, IsNoItem}
use Rattle.journal_text.specs.Ready.{HasNoRoots, whole_kind, is_nothing, lacking_kind}
use Rattle.journal_text.specs.Place.{Place, Adding, event_of, Makes, TakesExpand, Closes, TakesRoots, takes, IsRootsKind, IsLookKind}
use Rattle.journal_text.proofs.ItemLaws.{item_line, item_same}
use Rattle.journal_text.proofs.Apart.{item_no_expand, item_no_full, item_no_wide}

-- one legal log is made by one event
pub one_made : (P : PieceRelation) (log : LogValue) (event : LogEvent) (a b : LogValue) → Makes P log event a → Makes P log event b → a ≡ b
one_made P log event a b h k =
    one_log P a b h.legal k.legal (h.leads.protocol ∙ sym k.leads.protocol) (h.leads.budget ∙ sym k.leads.budget) (h.leads.events ∙ sym k.leads.events)

module _ (P : PieceRelation) (p : Protocol) (full : Bool) (log : LogValue) (node : Option ℕ) (added : List Added) where
  -- behind an event that lacks a piece
  pub lacking_stops : (rest : List ℕ) → log.protocol ≡ p → IsNoItem p node rest → IsIllegal P log (event_of node added) → HasNoRoots P full log node added rest
      → (line behind : List ℕ) (q : Place) → line_at rest ≡ Some (line, behind) → takes P p (Adding full log node added) line q → ⊥
  lacking_stops rest of_p no_item illegal no_roots line behind q at (inl (a, t, to)) =
      no_item line behind a at (subst (λ (x : Protocol). IsItemLine x node line a) of_p (item_line P log node added line a t))
  lacking_stops rest of_p no_item illegal no_roots line behind q at (inr (inl (next, makes, to))) = illegal next makes.leads
  lacking_stops rest of_p no_item illegal no_roots line behind q at (inr (inr h)) = no_roots line behind q at h

  -- behind a whole event
  pub whole_stops : (next : LogValue) (rest : List ℕ) → log.protocol ≡ p → IsNoItem p node rest → Makes P log (event_of node added) next → HasNoRoots P full log node added rest
      → ((line behind : List ℕ) (n : ℕ) → line_at rest ≡ Some (line, behind) → TakesExpand P next line n → ⊥)
      → ((line behind : List ℕ) (last : LogValue) → line_at rest ≡ Some (line, behind) → Closes P full next line last → ⊥)
      → (line behind : List ℕ) (q : Place) → line_at rest ≡ Some (line, behind) → takes P p (Adding full log node added) line q → ⊥
  whole_stops next rest of_p no_item makes no_roots no_expand no_close line behind q at (inl (a, t, to)) =
      no_item line behind a at (subst (λ (x : Protocol). IsItemLine x node line a) of_p (item_line P log node added line a t))
  whole_stops next rest of_p no_item makes no_roots no_expand no_close line behind q at (inr (inl (other, made, inl (n, t, to)))) =
      no_expand line behind n at (subst (λ (x : LogValue). TakesExpand P x line n) (one_made P log (event_of node added) other next made makes) t)
  whole_stops next rest of_p no_item makes no_roots no_expand no_close line behind q at (inr (inl (other, made, inr (last, t, to)))) =
      no_close line behind last at (subst (λ (x : LogValue). Closes P full x line last) (one_made P log (event_of node added) other next made makes) t)
  whole_stops next rest of_p no_item makes no_roots no_expand no_close line behind q at (inr (inr h)) = no_roots line behind q at h

  -- the line of an added cube that may not be added, or has no room
  pub item_stops : (a : Added) (line : List ℕ) → log.protocol ≡ p → IsItemLine p node line a
      → ((list : List Numbered) → Treats P log node list → AddsSome log.protocol (cubes_of log.nodes) list (added ++ a ∷ []) → length log.nodes + length (added ++ a ∷ []) ≤ log.budget.cubes → ⊥)
      → (q : Place) → takes P p (Adding full log node added) line q → ⊥
  item_stops a line of_p is unfit q (inl (b, t, to)) =
      let same : b ≡ a = item_same p node line b a (subst (λ (x : Protocol). IsItemLine x node line b) of_p (item_line P log node added line b t)) is in
      unfit t.list t.treats (subst (λ (x : Added). AddsSome log.protocol (cubes_of log.nodes) t.list (added ++ x ∷ [])) same t.adds)
      (subst (λ (x : Added). length log.nodes + length (added ++ x ∷ []) ≤ log.budget.cubes) same t.room)
  item_stops a line of_p is unfit q (inr (inl (next, made, inl (n, t, to)))) = item_no_expand p node a line is.text n t.text
  item_stops a line of_p is unfit q (inr (inl (next, made, inr (last, inl (n, needed, t), to)))) = item_no_full p node a line is.text (Some n) needed t.text
  item_stops a line of_p is unfit q (inr (inl (next, made, inr (last, inr (t, same), to)))) = item_no_wide p node a line is.text _ t.text
  item_stops a line of_p is unfit q (inr (inr h)) = by node added is h
    where
      by : (node : Option ℕ) (added : List Added) → IsItemLine p node line a → TakesRoots P full log node added line q → ⊥
      by (Some n) added is h = h
      by None (b ∷ added) is h = h
      by None [] is (needed, last, t, to) = item_no_full p None a line is.text None needed t.text

-- the kind of a fault by what stands there
pub whole_look_kind : (P : PieceRelation) (log : LogValue) (node : Option ℕ) (added : List Added) (next : LogValue) → Leads P log (event_of node added) next → (look : Look) → IsLookKind P log node added look (whole_kind look)
whole_look_kind P log node added next leads Formless = refl
whole_look_kind P log node added next leads Faulty = refl
whole_look_kind P log node added next leads Item = refl
whole_look_kind P log node added next leads Expand = refl
whole_look_kind P log (Some n) added next leads Roots = inr ((next, leads), refl)
whole_look_kind P log None (a ∷ added) next leads Roots = inr ((next, leads), refl)
whole_look_kind P log None [] next leads Roots = refl
whole_look_kind P log node added next leads Closing = inr ((next, leads), refl)

module _ (P : PieceRelation) (log : LogValue) where
  roots_lack : (node : Option ℕ) (added : List Added) → IsIllegal P log (event_of node added) → (b : Bool) → is_nothing node (length added) ≡ b → IsRootsKind P log node added (if b then 5 else 4)
  roots_lack (Some n) added illegal true is = absurd (let e : false ≡ true = is in cc)
  roots_lack (Some n) added illegal false is = inl (illegal, refl)
  roots_lack None (a ∷ added) illegal true is = absurd (let none = eqb-true (length (a ∷ added)) 0 is in omega (arith, none))
  roots_lack None (a ∷ added) illegal false is = inl (illegal, refl)
  roots_lack None [] illegal true is = refl
  roots_lack None [] illegal false is = absurd (let e : true ≡ false = is in cc)

  pub lacking_look_kind : (node : Option ℕ) (added : List Added) → IsIllegal P log (event_of node added) → (look : Look) → IsLookKind P log node added look (lacking_kind (is_nothing node (length added)) look)
  lacking_look_kind node added illegal Formless = refl
  lacking_look_kind node added illegal Faulty = refl
  lacking_look_kind node added illegal Item = refl
  lacking_look_kind node added illegal Expand = refl
  lacking_look_kind node added illegal Roots = roots_lack node added illegal (is_nothing node (length added)) refl
  lacking_look_kind node added illegal Closing = inl (illegal, refl)
