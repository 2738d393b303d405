-- What `replay` answers to the bytes of a trace, and to the trace that `check` prints.
use Rattle.std.specs.Prelude.{◌≡◌, ◌≢◌, ◌⊎◌, ℕ, List, Ok, Err}
use Rattle.cub_proto.specs.declared.event.Trace.{Trace}
use Rattle.cub_proto.specs.declared.protocol.Protocol.{Protocol}
use Rattle.trace_text.specs.Place.{Heading, TraceReads}
use Rattle.trace_judge.specs.declared.judge.Refusal.{Refusal}
use Rattle.trace_judge.specs.Judge.{IsAccepted, IsRefused}
use Rattle.answer_lines.specs.Codes.{trace_code}
use Rattle.answer_lines.specs.Lines.{form_line, refusal_line, replays_line}
use Rattle.check_answers.specs.Checked.{unsafe_status}

-- status 9: the bytes are the text of no trace, and this is the first faulty line, with the kind of its fault
pub record IsUnread (p : Protocol) (bytes : List ℕ) (status : ℕ) (line : List ℕ) : Type 0 where
  pub at : ℕ
  pub kind : ℕ
  pub first : TraceReads p Heading 1 bytes (Err (at, kind))
  pub status_is : status ≡ 9
  pub line_is : line ≡ form_line (trace_code kind) at

-- status 9: the trace is refused, and this is the first reason
pub record Refuses (p : Protocol) (t : Trace) (status : ℕ) (line : List ℕ) : Type 0 where
  pub refusal : Refusal
  pub refused : IsRefused p t.start t.events t.goal t.places t.plain refusal
  pub known : refusal ≢ Refusal.Memory
  pub status_is : status ≡ 9
  pub line_is : line ≡ refusal_line p refusal

-- status 0: the trace is a run to an unsafe state, with what it says of its crashes
pub record Accepts (p : Protocol) (t : Trace) (status : ℕ) (line : List ℕ) : Type 0 where
  pub accepted : IsAccepted p t.start t.events t.goal t.places t.plain
  pub status_is : status ≡ 0
  pub line_is : line ≡ replays_line t.events

-- the bytes are the text of a trace, which is accepted or refused
pub record IsJudged (p : Protocol) (bytes : List ℕ) (status : ℕ) (line : List ℕ) : Type 0 where
  pub trace : Trace
  pub read : TraceReads p Heading 1 bytes (Ok trace)
  pub answer : Accepts p trace status line ⊎ Refuses p trace status line

-- the answer of `replay` to a protocol and the bytes of a trace
abbrev pub AnswersTrace : Protocol → List ℕ → ℕ → List ℕ → Type 0
AnswersTrace p bytes status line = IsUnread p bytes status line ⊎ IsJudged p bytes status line

-- The bytes are read as a trace, with a plain line where the status is 2 and none where it is 1. The answer to them is status 0
-- with its numbers of steps and crashes, and no other.
pub record ReplayAccepts (p : Protocol) (status : ℕ) (bytes : List ℕ) : Type 0 where
  pub trace : Trace
  pub told : status ≡ unsafe_status trace.plain
  pub read : TraceReads p Heading 1 bytes (Ok trace)
  pub accepted : AnswersTrace p bytes 0 (replays_line trace.events)
  pub alone : (other : ℕ) (line : List ℕ) → AnswersTrace p bytes other line → (other ≡ 0) × (line ≡ replays_line trace.events)
