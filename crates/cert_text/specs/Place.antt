-- The places of the text of a certificate: what was read before, and which lines may stand next.
use Rattle.std.specs.Prelude.{◌≡◌, ℕ, ◌<◌, ◌^◌, Bool, false, ◌&&◌, ◌==◌, if◌then◌else◌, ◌⊎◌, List, [], ◌∷◌, ◌++◌, length, Option, Some, None, Result, Ok, Err, codes, IsTrue}
use Rattle.cub_proto.specs.declared.protocol.Protocol.{Protocol}
use Rattle.cub_proto.specs.declared.cover.CoverLine.{CoverLine}
use Rattle.cub_cube.specs.declared.cube.Cube.{Cube}
use Rattle.text_lines.specs.Line.{line_at}
use Rattle.text_lines.specs.Reading.{Reads, Continues}
use Rattle.cube_text.specs.declared.fault.CubeFault.{CubeFault}
use Rattle.cube_text.specs.declared.fault.CubeFault.TheVariants as cube_faults
use Rattle.cube_text.specs.Form.{is_number}
use Rattle.cube_text.specs.Reading.{reading}
use Rattle.cert_text.specs.declared.fault.CertFault.{CertFault}
use Rattle.cert_text.specs.declared.fault.CertFault.TheVariants as faults
use Rattle.cert_text.specs.declared.certificate.Certificate.{Certificate}
use Rattle.cert_text.specs.Text.{version_text, count_text, cover_text}
use Rattle.cert_text.specs.Lawful.{widest, is_lawful_line, comes_after}
use Rattle.cert_text.specs.Numbers.{number_of}
use Rattle.cert_text.specs.Cover.{begins_cover, begins_cube, front_words, has_cover_form, rises_after}

-- with what was read before: the heading, the version, the number of cubes, the cubes up to it, in version 1 the line `end`,
-- in version 2 the cover lines up to it, and nothing
pub data Place : Type 0 where
  Heading : Place
  Version : Place
  Count : (two : Bool) → Place
  Cubes : (two : Bool) (wanted : Option ℕ) (read : List Cube) → Place
  Ending : (cubes : List Cube) → Place
  Covers : (cubes : List Cube) (read : List CoverLine) → Place
  Done : (certificate : Certificate) → Place

-- as many as wanted; a number that can't be read is never reached
abbrev pub is_reached : ℕ → Option ℕ → Bool
is_reached n None = false
is_reached n (Some wanted) = n == wanted

-- the place behind the last cube
abbrev pub at_tail : Bool → List Cube → Place
at_tail two cubes = if two then Covers cubes [] else Ending cubes

-- the place behind cubes
abbrev pub behind_cubes : Bool → Option ℕ → List Cube → Place
behind_cubes two wanted read =
    if is_reached (length read) wanted then at_tail two read else Cubes two wanted read

-- the last of the lines that were read
abbrev pub last_of : List CoverLine → Option CoverLine
last_of [] = None
last_of (line ∷ []) = Some line
last_of (line ∷ next ∷ lines) = last_of (next ∷ lines)

abbrev pub certificate_of : List Cube → Option (List CoverLine) → Certificate
certificate_of its_cubes its_lines = record { cubes = its_cubes; lines = its_lines }

-- a cover line behind those that were read
pub record TakesCover (p : Protocol) (cubes : List Cube) (read : List CoverLine) (line : List ℕ) (l : CoverLine) : Type 0 where
  pub few : length cubes < 2 ^ 32
  pub lawful : IsTrue (is_lawful_line p cubes l)
  pub rises : IsTrue (comes_after (last_of read) l)
  pub text : line ≡ cover_text l

-- the line may stand at the place, and leads to another place
abbrev pub takes : Protocol → Place → List ℕ → Place → Type 0
takes p Heading line q = (line ≡ codes "SAFE") × (q ≡ Version)
takes p Version line q = (two : Bool) × (line ≡ version_text two) × (q ≡ Count two)
takes p (Count two) line q = (digits : List ℕ) × IsTrue (is_number digits) × (line ≡ count_text digits) × (q ≡ behind_cubes two (number_of digits) [])
takes p (Cubes two wanted read) line q = (c : Cube) × (reading p widest line ≡ Ok c) × (q ≡ behind_cubes two wanted (read ++ c ∷ []))
takes p (Ending cubes) line q = (line ≡ codes "end") × (q ≡ Done (certificate_of cubes None))
takes p (Covers cubes read) line q =
    ((l : CoverLine) × TakesCover p cubes read line l × (q ≡ Covers cubes (read ++ l ∷ [])))
    ⊎ ((line ≡ codes "end") × (q ≡ Done (certificate_of cubes (Some read))))
takes p (Done certificate) line q = ⊥

-- the certificate that was read where the text may end
abbrev pub certificate_at : Place → Option Certificate
certificate_at Heading = None
certificate_at Version = None
certificate_at (Count two) = None
certificate_at (Cubes two wanted read) = None
certificate_at (Ending cubes) = None
certificate_at (Covers cubes read) = None
certificate_at (Done certificate) = Some certificate

-- the kind of the fault of a cube
abbrev pub cube_kind : Result Cube CubeFault → ℕ
cube_kind (Ok c) = 6
cube_kind (Err cube_faults.Form) = 3
cube_kind (Err cube_faults.Unknown) = 4
cube_kind (Err cube_faults.Order) = 5
cube_kind (Err cube_faults.Memory) = 6

-- the fault of a line that begins as a cube
abbrev pub cube_fault : ℕ → CubeFault → CertFault
cube_fault line cube_faults.Form = faults.Fault line 3
cube_fault line cube_faults.Unknown = faults.Fault line 4
cube_fault line cube_faults.Order = faults.Fault line 5
cube_fault line cube_faults.Memory = faults.Memory

-- that of a line that may begin so
abbrev pub line_fault : ℕ → Bool → CubeFault → CertFault
line_fault line begins fault = if begins then cube_fault line fault else faults.Fault line 6

-- the kind of the fault of a line that begins as a cube: without its end it has no form
abbrev pub cube_line_kind : Protocol → Option (List ℕ × List ℕ) → ℕ
cube_line_kind p None = 3
cube_line_kind p (Some cut) = cube_kind (reading p widest cut.0)

-- that of a text where a cube or the line `end` of version 1 belongs. A cube too many has its own fault first.
abbrev pub line_kind : Protocol → List ℕ → ℕ
line_kind p text = if begins_cube text then cube_line_kind p (line_at text) else 6

-- that of a line that begins as a cover line: C7 where it has no form or doesn't rise, C8 where it names what is not there
abbrev pub cover_line_kind : List CoverLine → Option (List ℕ × List ℕ) → ℕ
cover_line_kind read None = 7
cover_line_kind read (Some cut) = if has_cover_form cut.0 && rises_after (last_of read) (front_words cut.0) then 8 else 7

-- the kind of a fault at a place: C1 the heading and the version, C2 the number of cubes, C3 to C5 a cube, C6 a line that is
-- missing or stands where it may not, C7 and C8 a cover line
abbrev pub kind_at : Protocol → Place → List ℕ → ℕ
kind_at p Heading text = 1
kind_at p Version text = 1
kind_at p (Count two) text = 2
kind_at p (Cubes two wanted read) text = line_kind p text
kind_at p (Ending cubes) text = line_kind p text
kind_at p (Covers cubes read) text = if begins_cover text then cover_line_kind read (line_at text) else 6
kind_at p (Done certificate) text = 6

-- from a place and a line on the text is the text of a certificate, or has its first fault
abbrev pub CertificateReads : Protocol → Place → ℕ → List ℕ → Result Certificate (ℕ × ℕ) → Type 0
CertificateReads p place n text o = Reads (takes p) certificate_at (kind_at p) place n text o

-- the reading that goes on from q is that from `place`
abbrev pub GoesOn : Protocol → Place → ℕ → List ℕ → Place → ℕ → List ℕ → Type 0
GoesOn p q m rest place n text = Continues (takes p) certificate_at (kind_at p) q m rest place n text

-- what was answered is the fault of the text, unless memory ran out
abbrev pub IsFaultOf : Protocol → Place → ℕ → List ℕ → CertFault → Type 0
IsFaultOf p place n text (faults.Fault line kind) = CertificateReads p place n text (Err (line, kind))
IsFaultOf p place n text faults.Memory = Unit {0}
