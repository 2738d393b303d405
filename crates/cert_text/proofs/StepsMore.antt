-- A line that may not stand where a cube may.
use Rattle.std.proofs.Common.{◌≡◌, ℕ, Bool, true, false, List, ◌∷◌, ◌++◌, Option, Some, None, Ok, Err, refl, ap, sym, subst, ◌∙◌, inl, inr}
use Rattle.std.specs.Prelude.{◌⊎◌, Result}
use Rattle.std.proofs.lemmas.Bool.{cond-true, cond-false}
use Rattle.cub_proto.specs.declared.protocol.Protocol.{Protocol}
use Rattle.cub_cube.specs.declared.cube.Cube.{Cube}
use Rattle.text_lines.specs.Line.{line_at}
use Rattle.cube_text.specs.declared.fault.CubeFault.{CubeFault}
use Rattle.cube_text.specs.declared.fault.CubeFault.TheVariants.{Form, Unknown, Order, Memory}
use Rattle.cube_text.specs.Text.{cube_text}
use Rattle.cube_text.proofs.OneSpelling.{one_spelling}
use Rattle.text_lines.proofs.LineLaws.{line_split}
use Rattle.cube_text.specs.Reading.{reading}
use Rattle.cert_text.specs.Lawful.{widest}
use Rattle.cert_text.specs.Cover.{begins_cube}
use Rattle.cert_text.specs.Place.{Place, Cubes, takes, certificate_at, kind_at, cube_kind, cube_line_kind, line_kind, line_fault, IsFaultOf}
use Rattle.cert_text.proofs.Steps.{no_line, bad_line}

abbrev refused : CubeFault → Result Cube CubeFault
refused f = Err f

-- no line, where a cube or the line `end` of version 1 belongs
module _ (p : Protocol) (place : Place) (n : ℕ) (text : List ℕ) (open_place : certificate_at place ≡ None)
    (kinds : kind_at p place text ≡ line_kind p text) (none : line_at text ≡ None) where
  pub cut_off : (b : Bool) → begins_cube text ≡ b → IsFaultOf p place n text (line_fault n b Form)
  cut_off true begins =
      no_line p place n text open_place 3
      (kinds ∙ cond-true (begins_cube text) (cube_line_kind p (line_at text)) 6 begins ∙ ap (cube_line_kind p) none) none
  cut_off false begins = no_line p place n text open_place 6 (kinds ∙ cond-false (begins_cube text) (cube_line_kind p (line_at text)) 6 begins) none

module _ (p : Protocol) (place : Place) (n : ℕ) (text bytes rest : List ℕ) (open_place : certificate_at place ≡ None)
    (kinds : kind_at p place text ≡ line_kind p text) (at : line_at text ≡ Some (bytes, rest)) where
  of_kind : (f : CubeFault) → reading p widest bytes ≡ Err f → begins_cube text ≡ true → kind_at p place text ≡ cube_kind (Err f)
  of_kind f is begins = kinds ∙ cond-true (begins_cube text) (cube_line_kind p (line_at text)) 6 begins ∙ ap (cube_line_kind p) at ∙ ap cube_kind is

  module _ (refuses : (q : Place) → takes p place bytes q → ⊥) where
    pub not_cube : begins_cube text ≡ false → IsFaultOf p place n text (line_fault n false Form)
    not_cube begins = bad_line p place n text open_place 6 (kinds ∙ cond-false (begins_cube text) (cube_line_kind p (line_at text)) 6 begins) bytes rest at refuses

    pub no_cube_here : (c : Cube) → reading p widest bytes ≡ Ok c → IsFaultOf p place n text (line_fault n false Form)
    no_cube_here c is = by (begins_cube text) refl
      where
        by : (b : Bool) → begins_cube text ≡ b → IsFaultOf p place n text (line_fault n false Form)
        by true begins =
            bad_line p place n text open_place 6
            (kinds ∙ cond-true (begins_cube text) (cube_line_kind p (line_at text)) 6 begins ∙ ap (cube_line_kind p) at ∙ ap cube_kind is) bytes rest at refuses
        by false begins = not_cube begins

    faulty_cube : (f : CubeFault) → reading p widest bytes ≡ Err f → begins_cube text ≡ true → IsFaultOf p place n text (line_fault n true f)
    faulty_cube Form is begins = bad_line p place n text open_place 3 (of_kind Form is begins) bytes rest at refuses
    faulty_cube Unknown is begins = bad_line p place n text open_place 4 (of_kind Unknown is begins) bytes rest at refuses
    faulty_cube Order is begins = bad_line p place n text open_place 5 (of_kind Order is begins) bytes rest at refuses
    faulty_cube Memory is begins = tt

    pub line_stops : (f : CubeFault) → (f ≡ Memory) ⊎ (reading p widest bytes ≡ Err f) → (b : Bool) → begins_cube text ≡ b → IsFaultOf p place n text (line_fault n b f)
    line_stops f answer true begins = by answer
      where
        by : (f ≡ Memory) ⊎ (reading p widest bytes ≡ Err f) → IsFaultOf p place n text (line_fault n true f)
        by (inl e) = subst (λ g. IsFaultOf p place n text (line_fault n true g)) (sym e) tt
        by (inr is) = faulty_cube f is begins
    line_stops f answer false begins = not_cube begins

-- what reads as a cube begins as one
cube_begins : (p : Protocol) (c : Cube) (more : List ℕ) → begins_cube (cube_text p c ++ more) ≡ true
cube_begins p c more = refl

-- where a cube stands, a line that reads as none may not stand
pub cube_stops : (p : Protocol) (two : Bool) (wanted : Option ℕ) (read : List Cube) (n : ℕ) (text bytes rest : List ℕ) → line_at text ≡ Some (bytes, rest)
    → (f : CubeFault) → (f ≡ Memory) ⊎ (reading p widest bytes ≡ Err f) → (b : Bool) → begins_cube text ≡ b → IsFaultOf p (Cubes two wanted read) n text (line_fault n b f)
cube_stops p two wanted read n text bytes rest at f answer false begins =
    not_cube p (Cubes two wanted read) n text bytes rest refl refl at (λ q t. otherwise t.0 t.1) begins
  where
    otherwise : (c : Cube) → reading p widest bytes ≡ Ok c → ⊥
    otherwise c is =
        let yes : begins_cube text ≡ true =
        ap begins_cube (line_split text bytes rest at ∙ ap (λ b. b ++ 10 ∷ rest) (one_spelling p widest bytes c is)) ∙ cube_begins p c (10 ∷ rest) in
        cc
cube_stops p two wanted read n text bytes rest at f (inl e) true begins =
    subst (λ g. IsFaultOf p (Cubes two wanted read) n text (line_fault n true g)) (sym e) tt
cube_stops p two wanted read n text bytes rest at f (inr is) true begins =
    line_stops p (Cubes two wanted read) n text bytes rest refl refl at (λ q t. apart t.0 f (sym t.1 ∙ is)) f (inr is) true begins
  where
    apart : (c : Cube) (g : CubeFault) → ◌≡◌ {A = Result Cube CubeFault} (Ok c) (Err g) → ⊥
    apart c g h = cc
