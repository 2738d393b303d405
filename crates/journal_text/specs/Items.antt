-- Lines of added cubes, one after another.
use Rattle.std.specs.Prelude.{◌≡◌, ℕ, ◌<◌, ◌^◌, nat_lt, List, [], ◌∷◌, length, Option, Some, None, IsTrue}
use Rattle.std.specs.List.{list_all}
use Rattle.cub_proto.specs.declared.protocol.Protocol.{Protocol}
use Rattle.log_form.specs.declared.event.Added.{Added}
use Rattle.text_lines.specs.Line.{line_at}
use Rattle.cube_text.specs.Reading.{IsLawful}
use Rattle.journal_text.specs.Text.{item_text, expand_text}
use Rattle.journal_text.specs.Form.{widest}

-- the line of an added cube that may be written, with as many places as the cube has
pub record IsItemLine (p : Protocol) (node : Option ℕ) (line : List ℕ) (a : Added) : Type 0 where
  pub text : line ≡ item_text p node a
  pub lawful : IsLawful p widest a.cube
  pub early : a.piece < 2 ^ 64
  pub count : length a.places ≡ a.cube.width
  pub small : IsTrue (list_all (λ i. nat_lt i 11) a.places)

-- the text begins with the lines of these, and goes on with the rest
abbrev pub AreItemLines : Protocol → Option ℕ → List Added → List ℕ → List ℕ → Type 0
AreItemLines p from [] text rest = text ≡ rest
AreItemLines p from (a ∷ items) text rest =
    (line behind : List ℕ) × (line_at text ≡ Some (line, behind)) × IsItemLine p from line a × AreItemLines p from items behind rest

-- the text does not begin with such a line
abbrev pub IsNoItem : Protocol → Option ℕ → List ℕ → Type 0
IsNoItem p node text = (line behind : List ℕ) (a : Added) → line_at text ≡ Some (line, behind) → IsItemLine p node line a → ⊥

-- nor with the expansion of a node
abbrev pub IsNoExpand : List ℕ → Type 0
IsNoExpand text = (line behind : List ℕ) (node : ℕ) → line_at text ≡ Some (line, behind) → node < 2 ^ 32 → line ≡ expand_text node → ⊥

-- none, or a number below 2^32
abbrev pub IsNode : Option ℕ → Type 0
IsNode None = Unit {0}
IsNode (Some n) = n < 2 ^ 32
