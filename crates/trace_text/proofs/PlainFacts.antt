-- A plain line is one exactly where its step and its process are there.
use Rattle.std.proofs.Common.{◌≡◌, ℕ, ◌<◌, ◌≤◌, true, List, length, sym, arith, nat_lt, lt-ltb, bytes_eq, ◌⊎◌, inl, inr}
use Rattle.std.proofs.lemmas.Bool.{and_parts, and_from, ltb-true}
use Rattle.cub_proto.specs.declared.event.Event.{Event}
use Rattle.cub_proto.specs.declared.event.Plain.{Plain}
use Rattle.text_lines.proofs.NumberLaws.{bytes_same}
use Rattle.trace_text.specs.Text.{plain_text}
use Rattle.trace_text.specs.Lawful.{steps_in}
use Rattle.trace_text.specs.Place.{TakesPlain}
use Rattle.trace_text.proofs.OneLines.{steps_few}

module _ (n : ℕ) (es : List Event) (at : Plain) (line : List ℕ) (k : ℕ) (is : k ≡ steps_in es) where
  pub plain_outside : (k ≤ at.step) ⊎ ((at.step < k) × (n ≤ at.process)) → TakesPlain n es line at → ⊥
  plain_outside why t = by why
    where
      parts : (nat_lt at.step (steps_in es) ≡ true) × (nat_lt at.process n ≡ true)
      parts = and_parts (nat_lt at.step (steps_in es)) (nat_lt at.process n) t.lawful

      by : (k ≤ at.step) ⊎ ((at.step < k) × (n ≤ at.process)) → ⊥
      by (inl late) = let inside = ltb-true at.step (steps_in es) parts.0 in omega (arith, is)
      by (inr far) = let inside = ltb-true at.process n parts.1 in let out = far.1 in omega arith

  pub plain_inside : n ≤ 128 → length es ≤ 131072 → at.step < k → at.process < n → bytes_eq (plain_text at) line ≡ true → TakesPlain n es line at
  plain_inside few few_events early inside same = record {
    few = few;
    early = (let steps = steps_few es in omega (arith, is));
    lawful = and_from (nat_lt at.step (steps_in es)) (nat_lt at.process n) (lt-ltb at.step (steps_in es) (omega (arith, is))) (lt-ltb at.process n inside);
    text = sym (bytes_same (plain_text at) line same);
  }
