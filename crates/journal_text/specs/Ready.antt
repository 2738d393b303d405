-- The state of a reading behind a whole event, and what a fault there is.
use Rattle.std.specs.Prelude.{◌≡◌, ℕ, Bool, false, ◌==◌, if◌then◌else◌, List, Option, Some, None}
use Rattle.cub_proto.specs.declared.protocol.Protocol.{Protocol}
use Rattle.log_form.specs.declared.event.Added.{Added}
use Rattle.log_form.specs.Pieces.{PieceRelation}
use Rattle.log_form.specs.Log.{LogValue}
use Rattle.text_lines.specs.Line.{line_at}
use Rattle.journal_text.specs.declared.look.Look.{Look}
use Rattle.journal_text.specs.declared.look.Look.TheVariants.{Formless, Faulty, Item, Expand, Roots, Closing}
use Rattle.journal_text.specs.declared.fault.JournalFault.{JournalFault}
use Rattle.journal_text.specs.Items.{IsNoItem}
use Rattle.journal_text.specs.Place.{Place, Adding, event_of, Makes, TakesFull, Closes, TakesRoots, GoesOn, IsFaultOf}

-- no line that says that the roots fill the log may stand next
abbrev pub HasNoRoots : PieceRelation → Bool → LogValue → Option ℕ → List Added → List ℕ → Type 0
HasNoRoots P full log node added rest = (line behind : List ℕ) (q : Place) → line_at rest ≡ Some (line, behind) → TakesRoots P full log node added line q → ⊥

-- the log is made by the event whose lines were read last, and none of its added cubes stands next
pub record IsReady (P : PieceRelation) (p : Protocol) (place : Place) (n : ℕ) (text : List ℕ) (full : Bool) (node : Option ℕ) (log : LogValue) (line : ℕ) (rest : List ℕ) : Type 0 where
  pub old : LogValue
  pub added : List Added
  pub protocol : old.protocol ≡ p
  pub makes : Makes P old (event_of node added) log
  pub goes : GoesOn P p (Adding full old node added) line rest place n text
  pub no_item : IsNoItem p node rest
  pub no_roots : HasNoRoots P full old node added rest

-- the kind of a fault behind a whole event
abbrev pub whole_kind : Look → ℕ
whole_kind Formless = 2
whole_kind Faulty = 3
whole_kind Item = 4
whole_kind Expand = 4
whole_kind Roots = 5
whole_kind Closing = 5

-- nothing was read of the roots
abbrev pub is_nothing : Option ℕ → ℕ → Bool
is_nothing None count = count == 0
is_nothing (Some n) count = false

-- that behind an event that lacks a piece, where perhaps nothing was read of the roots
abbrev pub lacking_kind : Bool → Look → ℕ
lacking_kind nothing Formless = 2
lacking_kind nothing Faulty = 3
lacking_kind nothing Item = 4
lacking_kind nothing Expand = 4
lacking_kind nothing Roots = if nothing then 5 else 4
lacking_kind nothing Closing = 4

-- behind lines more the log is made by the event whose lines were read last there, wherever it was so before them
abbrev pub KeepsReady : PieceRelation → Protocol → Option ℕ → LogValue → ℕ → List ℕ → Option ℕ → LogValue → ℕ → List ℕ → Type 0
KeepsReady P p before old line text after new later rest =
    (place : Place) (n : ℕ) (whole : List ℕ) (full : Bool) → IsReady P p place n whole full before old line text → IsReady P p place n whole full after new later rest

-- or the fault is that of the text
abbrev pub FailsReady : PieceRelation → Protocol → Option ℕ → LogValue → ℕ → List ℕ → JournalFault → Type 0
FailsReady P p node log line text fault =
    (place : Place) (n : ℕ) (whole : List ℕ) (full : Bool) → IsReady P p place n whole full node log line text → IsFaultOf P p place n whole fault

-- the text goes on with a line that closes the log
pub record IsClosed (P : PieceRelation) (full : Bool) (log : LogValue) (text : List ℕ) (last : LogValue) (rest : List ℕ) : Type 0 where
  pub line : List ℕ
  pub at : line_at text ≡ Some (line, rest)
  pub closes : Closes P full log line last

-- the text does not go on with such a line
abbrev pub IsNoClosing : PieceRelation → Bool → LogValue → List ℕ → Type 0
IsNoClosing P full log text = (last : LogValue) (rest : List ℕ) → IsClosed P full log text last rest → ⊥

-- the text goes on with the line that says that the roots fill the log
pub record IsFilled (P : PieceRelation) (full : Bool) (log : LogValue) (text : List ℕ) (last : LogValue) (rest : List ℕ) : Type 0 where
  pub line : List ℕ
  pub needed : ℕ
  pub at : line_at text ≡ Some (line, rest)
  pub takes : TakesFull P full log None needed last line

-- the log is full, by that node, and the line says so
abbrev pub FillsBy : PieceRelation → Bool → LogValue → List ℕ → LogValue → Type 0
FillsBy P full log line last = (node needed : ℕ) × TakesFull P full log (Some node) needed last line
