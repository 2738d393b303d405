-- What holds of all texts of traces.
use Rattle.std.specs.Prelude.{◌≡◌, ℕ, ◌<◌, List, length, take, Result, Ok}
use Rattle.cub_proto.specs.declared.protocol.Protocol.{Protocol}
use Rattle.cub_proto.specs.declared.event.Trace.{Trace}
use Rattle.trace_text.specs.Text.{trace_text}
use Rattle.trace_text.specs.Lawful.{IsLawful}
use Rattle.trace_text.specs.Place.{Heading, TraceReads}

-- a text has one reading: one trace, or one fault
abbrev pub OneReading : Protocol → Type 0
OneReading p = (text : List ℕ) (o u : Result Trace (ℕ × ℕ)) → TraceReads p Heading 1 text o → TraceReads p Heading 1 text u → o ≡ u

-- a text that reads as a trace is the text of that trace
abbrev pub ReadsItsText : Protocol → Type 0
ReadsItsText p = (text : List ℕ) (t : Trace) → TraceReads p Heading 1 text (Ok t) → text ≡ trace_text p t

-- what was written is read back
abbrev pub ReadsBack : Protocol → Type 0
ReadsBack p = (t : Trace) → IsLawful p t → TraceReads p Heading 1 (trace_text p t) (Ok t)

-- no front of an accepted text is accepted
abbrev pub HasNoAcceptedFront : Protocol → Type 0
HasNoAcceptedFront p = (text : List ℕ) (t u : Trace) (n : ℕ) → TraceReads p Heading 1 text (Ok t) → n < length text → TraceReads p Heading 1 (take n text) (Ok u) → ⊥
