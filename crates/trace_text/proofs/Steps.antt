-- One line of the text of a trace.
use Rattle.std.proofs.Common.{◌≡◌, ℕ, ◌+◌, ◌<◌, List, [], ◌∷◌, ◌++◌, length, length-append, arith, Option, Some, None, Err, ap, sym, subst, ◌∙◌}
use Rattle.cub_proto.specs.declared.protocol.Protocol.{Protocol}
use Rattle.text_lines.specs.Line.{line_at}
use Rattle.text_lines.proofs.LineLaws.{line_split}
use Rattle.text_lines.specs.Reading.{line, stops, IsStuck}
use Rattle.trace_text.specs.declared.fault.TraceFault.{TraceFault}
use Rattle.trace_text.specs.declared.fault.TraceFault.TheVariants as faults
use Rattle.trace_text.specs.Place.{Place, takes, trace_at, kind_at, TraceReads, GoesOn, IsFaultOf}

abbrev bytes_of : Option (List ℕ × List ℕ) → List ℕ
bytes_of None = []
bytes_of (Some x) = x.0

module _ (p : Protocol) (place : Place) (n : ℕ) (text : List ℕ) where
  -- a line that may stand there
  pub goes_on : (bytes rest : List ℕ) (q : Place) → line_at text ≡ Some (bytes, rest) → takes p place bytes q → GoesOn p q (n + 1) rest place n text
  goes_on bytes rest q at t = λ o r. line bytes rest at t r

  module _ (open_place : trace_at place ≡ None) (kind : ℕ) (is_kind : kind_at place text ≡ kind) where
    at_kind : IsStuck (takes p) trace_at place text → TraceReads p place n text (Err (n, kind))
    at_kind stuck = subst (λ (k : ℕ). TraceReads p place n text (Err (n, k))) is_kind (stops stuck)

    -- no line
    pub no_line : line_at text ≡ None → TraceReads p place n text (Err (n, kind))
    no_line none = at_kind (record { no_end = λ e. open_place; no_line = λ bytes rest q at t. absurd cc })

    -- a line that may not stand there
    pub bad_line : (bytes rest : List ℕ) → line_at text ≡ Some (bytes, rest) → ((q : Place) → takes p place bytes q → ⊥) → TraceReads p place n text (Err (n, kind))
    bad_line bytes rest at refused = at_kind (record {
      no_end = λ e. open_place;
      no_line = λ b r q there t. refused q (subst (λ (x : List ℕ). takes p place x q) (same b bytes r rest (sym there ∙ at)) t);
    })
      where
        same : (a b c d : List ℕ) → ◌≡◌ {A = Option (List ℕ × List ℕ)} (Some (a, c)) (Some (b, d)) → a ≡ b
        same a b c d h = ap bytes_of h

-- what stands behind a line is shorter
pub behind_shorter : (text bytes rest : List ℕ) → line_at text ≡ Some (bytes, rest) → length rest < length text
behind_shorter text bytes rest at =
    let whole : length text ≡ length (bytes ++ 10 ∷ rest) = ap length (line_split text bytes rest at) in
    omega (arith, whole, length-append bytes (10 ∷ rest))

-- a fault behind is a fault from here
pub fault_from : (p : Protocol) (q : Place) (m : ℕ) (rest : List ℕ) (place : Place) (n : ℕ) (text : List ℕ) (f : TraceFault)
    → GoesOn p q m rest place n text → IsFaultOf p q m rest f → IsFaultOf p place n text f
fault_from p q m rest place n text (faults.Fault l k) c h = c (Err (l, k)) h
fault_from p q m rest place n text faults.Memory c h = tt

pub goes_through : (p : Protocol) (z : Place) (k : ℕ) (left : List ℕ) (q : Place) (m : ℕ) (rest : List ℕ) (place : Place) (n : ℕ) (text : List ℕ)
    → GoesOn p z k left q m rest → GoesOn p q m rest place n text → GoesOn p z k left place n text
goes_through p z k left q m rest place n text c d = λ o r. d o (c o r)
