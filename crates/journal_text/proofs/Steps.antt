-- Readings made line by line: a line that may stand somewhere, a reading that stops, faults further on.
use Rattle.std.proofs.Common.{◌≡◌, ℕ, ◌+◌, ◌<◌, List, [], ◌∷◌, ◌++◌, length, length-append, arith, Option, Some, None, Err, ap, sym, subst, ◌∙◌}
use Rattle.cub_proto.specs.declared.protocol.Protocol.{Protocol}
use Rattle.log_form.specs.Pieces.{PieceRelation}
use Rattle.text_lines.specs.Line.{line_at}
use Rattle.text_lines.proofs.LineLaws.{line_split}
use Rattle.text_lines.specs.Reading.{line, stops}
use Rattle.journal_text.specs.declared.fault.JournalFault.{JournalFault}
use Rattle.journal_text.specs.declared.fault.JournalFault.TheVariants as faults
use Rattle.journal_text.specs.Place.{Place, takes, log_at, GoesOn, IsKindAt, StopsAt, IsFaultOf}

abbrev bytes_of : Option (List ℕ × List ℕ) → List ℕ
bytes_of None = []
bytes_of (Some x) = x.0

abbrev rest_of : Option (List ℕ × List ℕ) → List ℕ
rest_of None = []
rest_of (Some x) = x.1

pub same_line : (text a b c d : List ℕ) → line_at text ≡ Some (a, b) → line_at text ≡ Some (c, d) → a ≡ c
same_line text a b c d h k = ap bytes_of (sym h ∙ k)

pub same_rest : (text a b c d : List ℕ) → line_at text ≡ Some (a, b) → line_at text ≡ Some (c, d) → b ≡ d
same_rest text a b c d h k = ap rest_of (sym h ∙ k)

-- what stands behind a line is shorter
pub behind_shorter : (text bytes rest : List ℕ) → line_at text ≡ Some (bytes, rest) → length rest < length text
behind_shorter text bytes rest at =
    let whole : length text ≡ length (bytes ++ 10 ∷ rest) = ap length (line_split text bytes rest at) in
    omega (arith, whole, length-append bytes (10 ∷ rest))

module _ (P : PieceRelation) (p : Protocol) where
  module _ (place : Place) (n : ℕ) (text : List ℕ) where
    -- a line that may stand there
    pub goes_on : (bytes rest : List ℕ) (q : Place) → line_at text ≡ Some (bytes, rest) → takes P p place bytes q → GoesOn P p q (n + 1) rest place n text
    goes_on bytes rest q at t = λ o r. line bytes rest at t r

    pub goes_itself : GoesOn P p place n text place n text
    goes_itself = λ o r. r

    module _ (open_place : log_at place ≡ None) (kind : ℕ) (is_kind : IsKindAt P place text kind) where
      -- no line that stands next may stand there
      pub stuck_here : ((bytes rest : List ℕ) (q : Place) → line_at text ≡ Some (bytes, rest) → takes P p place bytes q → ⊥) → StopsAt P p place n text n kind
      stuck_here none = record { at = place; rest = text; reads = stops (record { no_end = λ e. open_place; no_line = none }); its = is_kind }

      pub no_line : line_at text ≡ None → StopsAt P p place n text n kind
      no_line empty = stuck_here (λ bytes rest q at t. absurd cc)

      pub bad_line : (bytes rest : List ℕ) → line_at text ≡ Some (bytes, rest) → ((q : Place) → takes P p place bytes q → ⊥) → StopsAt P p place n text n kind
      bad_line bytes rest at refused = stuck_here (λ b r q there t. refused q (subst (λ (x : List ℕ). takes P p place x q) (same_line text b r bytes rest there at) t))

  -- where the reading stops from further on, it stops
  pub stops_from : (q : Place) (m : ℕ) (rest : List ℕ) (place : Place) (n : ℕ) (text : List ℕ) (l k : ℕ) → GoesOn P p q m rest place n text → StopsAt P p q m rest l k → StopsAt P p place n text l k
  stops_from q m rest place n text l k c s = record { at = s.at; rest = s.rest; reads = c (Err (l, (s.at, s.rest))) s.reads; its = s.its }

  -- a fault further on is a fault from here
  pub fault_from : (q : Place) (m : ℕ) (rest : List ℕ) (place : Place) (n : ℕ) (text : List ℕ) (f : JournalFault) → GoesOn P p q m rest place n text → IsFaultOf P p q m rest f → IsFaultOf P p place n text f
  fault_from q m rest place n text (faults.Fault l k) c s = stops_from q m rest place n text l k c s
  fault_from q m rest place n text faults.Memory c s = tt

  pub goes_through : (z : Place) (k : ℕ) (left : List ℕ) (q : Place) (m : ℕ) (rest : List ℕ) (place : Place) (n : ℕ) (text : List ℕ)
      → GoesOn P p z k left q m rest → GoesOn P p q m rest place n text → GoesOn P p z k left place n text
  goes_through z k left q m rest place n text c d = λ o r. d o (c o r)
