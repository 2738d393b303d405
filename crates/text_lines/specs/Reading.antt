-- The reading of a text line by line. At each place of a text certain lines may stand, and each leads to another place;
-- at some places the text may end. The first line that may not stand where it stands is the faulty one.
use Rattle.std.specs.Prelude.{◌≡◌, ℕ, ◌+◌, List, [], Option, Some, None, Result, Ok, Err}
use Rattle.text_lines.specs.Line.{line_at}

-- no line may stand here: the text ends where it may not end, has a line that may not stand here, or bytes that are no line
pub record IsStuck {P V : Type 0} (takes : P → List ℕ → P → Type 0) (value : P → Option V) (p : P) (text : List ℕ) : Type 0 where
  pub no_end : text ≡ [] → value p ≡ None
  pub no_line : (line rest : List ℕ) (q : P) → line_at text ≡ Some (line, rest) → takes p line q → ⊥

-- from place p and line n on the text reads as a value, or has its first fault at a line, whose kind the place tells
pub data Reads {P V K : Type 0} (takes : P → List ℕ → P → Type 0) (value : P → Option V) (kind : P → List ℕ → K) : P → ℕ → List ℕ → Result V (ℕ × K) → Type 0 where
  ends : {p : P} {n : ℕ} {text : List ℕ} (v : V) → text ≡ [] → value p ≡ Some v → Reads takes value kind p n text (Ok v)
  line : {p q : P} {n : ℕ} {text : List ℕ} {o : Result V (ℕ × K)} (bytes rest : List ℕ) → line_at text ≡ Some (bytes, rest) → takes p bytes q
      → Reads takes value kind q (n + 1) rest o → Reads takes value kind p n text o
  stops : {p : P} {n : ℕ} {text : List ℕ} → IsStuck takes value p text → Reads takes value kind p n text (Err (n, kind p text))

-- what the reading from q on gives, the reading from p on gives
abbrev pub Continues : {P V K : Type 0} (takes : P → List ℕ → P → Type 0) (value : P → Option V) (kind : P → List ℕ → K) → P → ℕ → List ℕ → P → ℕ → List ℕ → Type 0
Continues {P} {V} {K} takes value kind q m rest p n text = (o : Result V (ℕ × K)) → Reads takes value kind q m rest o → Reads takes value kind p n text o
