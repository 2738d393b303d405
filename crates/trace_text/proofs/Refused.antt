-- A line that does not tell what it should tells nothing: whatever it told, it would be written otherwise.
use Rattle.std.proofs.Common.{◌≡◌, ℕ, ◌+◌, true, false, List, Some, None, sym, subst, ◌∙◌, ap, bytes_eq}
use Rattle.cub_proto.specs.declared.protocol.Protocol.{Protocol}
use Rattle.cub_proto.specs.declared.state.Slot.{Slot}
use Rattle.cub_proto.specs.declared.state.Val.{Val}
use Rattle.cub_proto.specs.declared.event.Event.{Event}
use Rattle.cub_proto.specs.declared.event.Plain.{Plain}
use Rattle.text_lines.specs.Word.{word, behind}
use Rattle.text_lines.specs.Number.{counted}
use Rattle.text_lines.specs.Loose.{entry_value}
use Rattle.text_lines.proofs.NumberLaws.{same_bytes}
use Rattle.trace_text.specs.Told.{event_told, goal_told, goal_places, plain_told}
use Rattle.trace_text.specs.Place.{TakesValue, TakesCount, TakesEvent, TakesGoal, TakesPlain}
use Rattle.trace_text.proofs.Takes.{value_unique, count_unique, event_unique, goal_unique, plain_unique}

pub differs : (xs ys : List ℕ) → bytes_eq xs ys ≡ false → ys ≡ xs → ⊥
differs xs ys no_match same =
    let equal : bytes_eq xs ys ≡ true = ap (bytes_eq xs) same ∙ same_bytes xs in
    cc

pub no_value : (p : Protocol) (n : ℕ) (slot : Slot) (line : List ℕ) (told : Val) → told ≡ entry_value p slot line → (TakesValue p n slot line told → ⊥)
    → (v : Val) → TakesValue p n slot line v → ⊥
no_value p n slot line told is bad v t = bad (subst (λ x. TakesValue p n slot line x) (sym (is ∙ value_unique p n slot line v t)) t)

pub no_count : (line : List ℕ) (less : ℕ) → less ≡ counted (word (behind line)) → (TakesCount line (less + 1) → ⊥) → (n : ℕ) → TakesCount line n → ⊥
no_count line less is bad n t =
    bad (subst (λ x. TakesCount line x) (sym (ap (λ k. k + 1) is ∙ count_unique line n t)) t)

pub no_event : (p : Protocol) (n : ℕ) (line : List ℕ) (told : Event) → Some told ≡ event_told p line → (TakesEvent p n line told → ⊥)
    → (e : Event) → TakesEvent p n line e → ⊥
no_event p n line told is bad e t =
    let same : told ≡ e = some_same told e (is ∙ event_unique p n line e t) in
    bad (subst (λ x. TakesEvent p n line x) (sym same) t)
  where
    some_same : (x y : Event) → Some x ≡ Some y → x ≡ y
    some_same x y h = cc

pub nothing_told : (p : Protocol) (n : ℕ) (line : List ℕ) → event_told p line ≡ None → (e : Event) → TakesEvent p n line e → ⊥
nothing_told p n line none e t = let some = event_unique p n line e t in cc

pub no_goal : (p : Protocol) (n : ℕ) (line : List ℕ) (goal : ℕ) (places : List ℕ) → goal ≡ goal_told line → places ≡ goal_places p line
    → (TakesGoal p n line goal places → ⊥) → (g : ℕ) (ps : List ℕ) → TakesGoal p n line g ps → ⊥
no_goal p n line goal places is js bad g ps t =
    let told = goal_unique p n line g ps t in
    bad (subst (λ x. TakesGoal p n line x places) (sym (is ∙ told.0)) (subst (λ x. TakesGoal p n line g x) (sym (js ∙ told.1)) t))

pub no_plain : (n : ℕ) (es : List Event) (line : List ℕ) (told : Plain) → told ≡ plain_told line → (TakesPlain n es line told → ⊥)
    → (at : Plain) → TakesPlain n es line at → ⊥
no_plain n es line told is bad at t = bad (subst (λ x. TakesPlain n es line x) (sym (is ∙ plain_unique n es line at t)) t)
