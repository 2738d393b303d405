-- What holds of all texts of journals.
use Rattle.std.specs.Prelude.{◌≡◌, ℕ, ◌<◌, ◌^◌, List, length, take, Result, Ok, All}
use Rattle.cub_proto.specs.declared.protocol.Protocol.{Protocol}
use Rattle.log_form.specs.declared.event.Added.{Added}
use Rattle.log_form.specs.declared.event.LogEvent.{LogEvent}
use Rattle.log_form.specs.Pieces.{PieceRelation}
use Rattle.log_form.specs.Log.{LogValue}
use Rattle.log_form.specs.Legal.{IsLegalLog}
use Rattle.journal_text.specs.Text.{text_of_log}
use Rattle.journal_text.specs.Lawful.{IsUnknown}
use Rattle.journal_text.specs.Place.{Heading, Stop, JournalReads, StopsAt}

-- a text has one reading: one log, or one place where it stops
abbrev pub OneReading : PieceRelation → Protocol → Type 0
OneReading P p = (text : List ℕ) (o u : Result LogValue (ℕ × Stop)) → JournalReads P p Heading 1 text o → JournalReads P p Heading 1 text u → o ≡ u

-- so it has one fault
abbrev pub OneFault : PieceRelation → Protocol → Type 0
OneFault P p = (text : List ℕ) (line kind other more : ℕ) → StopsAt P p Heading 1 text line kind → StopsAt P p Heading 1 text other more → (line ≡ other) × (kind ≡ more)

-- a text that reads as the journal of a log is that, and the log is legal and UNKNOWN
abbrev pub ReadsItsText : PieceRelation → Protocol → Type 0
ReadsItsText P p = (text : List ℕ) (log : LogValue) → JournalReads P p Heading 1 text (Ok log) → (text ≡ text_of_log log) × IsLegalLog P log × IsUnknown log × (log.protocol ≡ p)

-- the numbers of the log are those of its type
abbrev pub AreEarly : List Added → Type 0
AreEarly added = All (λ a. a.piece < 2 ^ 64) added

abbrev pub HasEarly : LogEvent → Type 0
HasEarly event = (event.needed < 2 ^ 64) × AreEarly event.added

-- what was written of a legal log whose verdict is UNKNOWN is read back
abbrev pub ReadsBack : PieceRelation → Protocol → Type 0
ReadsBack P p = (log : LogValue) → IsLegalLog P log → IsUnknown log → log.protocol ≡ p → All HasEarly log.events → JournalReads P p Heading 1 (text_of_log log) (Ok log)

-- no front of an accepted text is accepted
abbrev pub HasNoAcceptedFront : PieceRelation → Protocol → Type 0
HasNoAcceptedFront P p = (text : List ℕ) (log other : LogValue) (n : ℕ) → JournalReads P p Heading 1 text (Ok log) → n < length text → JournalReads P p Heading 1 (take n text) (Ok other) → ⊥
