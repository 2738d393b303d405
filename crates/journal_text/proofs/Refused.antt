-- A line that is not written from what it tells is written from nothing; and lines of full logs.
use Rattle.std.proofs.Common.{◌≡◌, ◌⊎◌, ℕ, ◌^◌, ◌<◌, ◌≤◌, Bool, true, false, nat_lt, List, length, Option, Ok, sym, ap, ◌∙◌, arith, inl, inr, bytes_eq}
use Rattle.std.specs.List.{list_all}
use Rattle.cub_proto.specs.declared.protocol.Protocol.{Protocol}
use Rattle.cub_proto.specs.declared.budget.Budget.{Budget}
use Rattle.cub_cube.specs.declared.cube.Cube.{Cube}
use Rattle.log_form.specs.declared.event.Mark.{Mark}
use Rattle.log_form.specs.declared.event.Added.{Added}
use Rattle.log_form.specs.Pieces.{PieceRelation}
use Rattle.log_form.specs.Log.{LogValue}
use Rattle.log_form.specs.Legal.{Fills, Grows, Leads}
use Rattle.text_lines.specs.Number.{counted}
use Rattle.text_lines.proofs.NumberLaws.{same_bytes}
use Rattle.cube_text.specs.Reading.{reading}
use Rattle.journal_text.specs.Text.{budget_text, item_text, expand_text, full_text}
use Rattle.journal_text.specs.Told.{word_told, number_told, node_told, item_told}
use Rattle.journal_text.specs.Form.{widest, cube_part}
use Rattle.journal_text.specs.Items.{IsItemLine, IsNode}
use Rattle.journal_text.specs.Place.{full_event, TakesFull}
use Rattle.journal_text.proofs.BudgetLaws.{same_numbers}
use Rattle.journal_text.proofs.ToldLaws.{cubes_told, width_told, expand_is_told, needed_is_told, node_is_told}
use Rattle.journal_text.proofs.ItemLaws.{told_same}
use Rattle.journal_text.proofs.MarkLaws.{grows_not_full}

pub differs : (xs ys : List ℕ) → bytes_eq xs ys ≡ false → ys ≡ xs → ⊥
differs xs ys no_match same =
    let equal : bytes_eq xs ys ≡ true = ap (bytes_eq xs) same ∙ same_bytes xs in
    cc

-- a budget
pub no_budget : (line : List ℕ) (told : Budget) → told.cubes ≡ number_told 1 line → told.width ≡ number_told 2 line → bytes_eq (budget_text told) line ≡ false
    → (b : Budget) → line ≡ budget_text b → ⊥
no_budget line told cubes width unlike b is =
    let same : told ≡ b =
    same_numbers told.cubes told.width (told.some_cubes, told.few_cubes, told.some_width, told.narrow) b.cubes b.width (b.some_cubes, b.few_cubes, b.some_width, b.narrow)
    (cubes ∙ ap (number_told 1) is ∙ cubes_told b) (width ∙ ap (number_told 2) is ∙ width_told b) in
    differs (budget_text told) line unlike (is ∙ ap budget_text (sym same))

pub budget_numbers : (line : List ℕ) (b : Budget) → line ≡ budget_text b → (number_told 1 line ≡ b.cubes) × (number_told 2 line ≡ b.width)
budget_numbers line b is = (ap (number_told 1) is ∙ cubes_told b, ap (number_told 2) is ∙ width_told b)

-- an added cube
pub no_item_written : (p : Protocol) (node : Option ℕ) (line : List ℕ) (c : Cube) (told : Added) → reading p widest (cube_part line) ≡ Ok c → told ≡ item_told c line
    → bytes_eq (item_text p node told) line ≡ false → (a : Added) → IsItemLine p node line a → ⊥
no_item_written p node line c told read is unlike a t =
    differs (item_text p node told) line unlike (t.text ∙ ap (item_text p node) (sym (told_same p node line c told a read is t)))

pub no_item_small : (p : Protocol) (node : Option ℕ) (line : List ℕ) (c : Cube) (told : Added) → reading p widest (cube_part line) ≡ Ok c → told ≡ item_told c line
    → list_all (λ i. nat_lt i 11) told.places ≡ false → (a : Added) → IsItemLine p node line a → ⊥
no_item_small p node line c told read is large a t =
    let small : list_all (λ i. nat_lt i 11) told.places ≡ true =
    ap (λ (x : Added). list_all (λ i. nat_lt i 11) x.places) (told_same p node line c told a read is t) ∙ t.small in
    absurd cc

-- an expansion
pub no_expand_written : (line : List ℕ) (told : ℕ) → told ≡ counted (word_told 1 line) → bytes_eq (expand_text told) line ≡ false
    → (n : ℕ) → n < 2 ^ 32 → line ≡ expand_text n → ⊥
no_expand_written line told is unlike n few text =
    let same : told ≡ n = is ∙ ap (λ t. counted (word_told 1 t)) text ∙ expand_is_told n few in
    differs (expand_text told) line unlike (text ∙ ap expand_text (sym same))

-- a full log
pub no_full_written : (line : List ℕ) (told : Option ℕ) (much : ℕ) → told ≡ node_told line → much ≡ number_told 3 line → bytes_eq (full_text told much) line ≡ false
    → (node : Option ℕ) (needed : ℕ) → IsNode node → needed < 2 ^ 64 → line ≡ full_text node needed → ⊥
no_full_written line told much is also unlike node needed h early text =
    let same : told ≡ node = is ∙ ap node_told text ∙ node_is_told needed early node h in
    let many : much ≡ needed = also ∙ ap (number_told 3) text ∙ needed_is_told needed early node h in
    differs (full_text told much) line unlike (text ∙ ap (λ o. full_text o needed) (sym same) ∙ ap (full_text told) (sym many))

-- what a line of a full log says is what it is written from
pub full_same : (node other : Option ℕ) (needed more : ℕ) → IsNode node → needed < 2 ^ 64 → IsNode other → more < 2 ^ 64 → full_text node needed ≡ full_text other more
    → (node ≡ other) × (needed ≡ more)
full_same node other needed more h early k late is = (
  sym (node_is_told needed early node h) ∙ ap node_told is ∙ node_is_told more late other k,
  sym (needed_is_told needed early node h) ∙ ap (number_told 3) is ∙ needed_is_told more late other k,
)

-- the log is full by what needs something
pub full_mark : (P : PieceRelation) (log last : LogValue) (node : Option ℕ) (needed : ℕ) → Leads P log (full_event node needed) last → (needed ≡ 0 → ⊥) → last.mark ≡ Mark.Full node needed
full_mark P log last node needed leads some = by leads.effect
  where
    by : Fills log (full_event node needed) leads.list last ⊎ Grows log (full_event node needed) leads.list last → last.mark ≡ Mark.Full node needed
    by (inl fills) = fills.mark ∙ ap (Mark.Full node) (sym fills.needed)
    by (inr grows) = absurd (some grows.needed)

pub full_needs : (P : PieceRelation) (full : Bool) (log : LogValue) (node : Option ℕ) (needed : ℕ) (last : LogValue) (line : List ℕ) → length log.nodes ≤ log.budget.cubes → TakesFull P full log node needed last line → needed ≡ 0 → ⊥
full_needs P full log node needed last line few t none = by t.makes.leads.effect
  where
    by : Fills log (full_event node needed) t.makes.leads.list last ⊎ Grows log (full_event node needed) t.makes.leads.list last → ⊥
    by (inl fills) = omega (arith, fills.above, fills.needed, few, none)
    by (inr grows) = grows_not_full log (full_event node needed) t.makes.leads.list last node needed grows t.mark

-- numbers within limits
pub within_limits : (low high n : ℕ) → low ≤ n → n ≤ high → (n < low) ⊎ (low ≤ n × high < n) → ⊥
within_limits low high n a b (inl less) = omega (arith, a, less)
within_limits low high n a b (inr (some, more)) = omega (arith, b, more)
