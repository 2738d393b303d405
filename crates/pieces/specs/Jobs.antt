-- What a search for the pieces by one transition has fixed, and what holds of each draft on the way.
use Rattle.std.specs.Prelude.{◌≡◌, ℕ, ◌+◌, ◌<◌, ◌≤◌, Bool, true, false, nat_lt, if◌then◌else◌, List, [], ◌∷◌, ◌++◌, length, map, Some, slice_get, slice_index_or, IsTrue, Contains}
use Rattle.std.specs.List.{list_all}
use Rattle.std.specs.Option.{option_map_or}
use Rattle.cub_proto.specs.declared.literal.Term.{Term}
use Rattle.cub_proto.specs.declared.literal.Lit.{Lit}
use Rattle.cub_proto.specs.declared.transition.Update.{Update}
use Rattle.cub_proto.specs.declared.transition.Transition.{Transition}
use Rattle.cub_proto.specs.declared.protocol.Protocol.{Protocol}
use Rattle.cub_proto.specs.Signature.{Signature}
use Rattle.cub_proto.specs.StateOf.{signature_of}
use Rattle.cub_proto.specs.Fits.{literal_fits, is_bounded, picks_process, update_fits}
use Rattle.cub_proto.specs.Effect.{update_of}
use Rattle.cub_cube.specs.declared.cube.Cube.{Cube}
use Rattle.cub_cube.specs.Mentions.{terms_in}
use Rattle.cub_cube.specs.Normal.{normal_form}
use Rattle.cub_cube.specs.Rename.{is_within}
use Rattle.cub_cube.specs.Replace.{can_replace_all}
use Rattle.cub_cube.specs.Step.{target_of}
use Rattle.theory_laws.specs.Fitting.{greatest_size}
use Rattle.updates.specs.Chosen.{values_by}
use Rattle.updates.specs.Sides.{most_bound}
use Rattle.updates.specs.Through.{literal_before}
use Rattle.piece_choices.specs.declared.piece.Piece.{Piece}
use Rattle.piece_choices.specs.Pieces.{candidates_by, candidates}
use Rattle.piece_steps.specs.Steps.{Draft, Step, Param, Guard, Other, Branch, Fail, Choose, Late, run}
use Rattle.piece_steps.specs.DraftFits.{DraftFits}
use Rattle.pieces.specs.declared.step.Step.{Step as CodeStep}

-- a step as the code has it
abbrev pub as_step : CodeStep → Step
as_step CodeStep.Param = Param
as_step CodeStep.Guard = Guard
as_step (CodeStep.Other q) = Other q
as_step (CodeStep.Branch i) = Branch i
as_step (CodeStep.Fail i b) = Fail i b
as_step (CodeStep.Choose i) = Choose i
as_step (CodeStep.Late j) = Late j

-- the number of the term that a step is about, or 0
abbrev pub term_number : Step → ℕ
term_number Param = 0
term_number Guard = 0
term_number (Other q) = 0
term_number (Branch i) = i
term_number (Fail i b) = i
term_number (Choose i) = i
term_number (Late j) = 0

-- a protocol, a cube, one of the transitions with its number, the terms of the cube, and the steps for both
pub record Search : Type 0 where
  pub protocol : Protocol
  pub cube : Cube
  pub number : ℕ
  pub transition : Transition
  pub terms : List Term
  pub steps : List Step

-- the terms that the steps speak of are there
abbrev pub is_step_within : ℕ → Step → Bool
is_step_within n Param = true
is_step_within n Guard = true
is_step_within n (Other q) = nat_lt q 256
is_step_within n (Branch i) = nat_lt i n
is_step_within n (Fail i b) = nat_lt i n
is_step_within n (Choose i) = nat_lt i n
is_step_within n (Late j) = true

-- the term's update can give any process
abbrev pub can_pick : Signature → List Update → Term → Bool
can_pick sig updates u = option_map_or (picks_process sig) (update_of updates (target_of u)) false

-- the number of new places that the steps can still bring
abbrev pub new_in : Signature → List Update → List Term → List Step → ℕ
new_in sig updates terms [] = 0
new_in sig updates terms (Param ∷ steps) = 1 + new_in sig updates terms steps
new_in sig updates terms (Guard ∷ steps) = new_in sig updates terms steps
new_in sig updates terms (Other q ∷ steps) = new_in sig updates terms steps
new_in sig updates terms (Branch i ∷ steps) = new_in sig updates terms steps
new_in sig updates terms (Fail i b ∷ steps) = new_in sig updates terms steps
new_in sig updates terms (Choose i ∷ steps) = (if can_pick sig updates (slice_index_or terms i (Term.Global 0)) then 1 else 0) + new_in sig updates terms steps
new_in sig updates terms (Late j ∷ steps) = new_in sig updates terms steps

-- what is behind a draft with these steps to go
abbrev pub behind : Search → List Step → Draft → List Piece
behind j steps d = run (signature_of j.protocol) j.number j.transition j.cube.width j.cube.lits steps d

-- the greatest size of a bound in a cube that is expanded
abbrev pub greatest_expanded : ℕ
greatest_expanded = 140000000000000

-- the cube fits the protocol, has at most 8 places, and bounds that can move with one step
pub record IsExpandable (p : Protocol) (c : Cube) : Type 0 where
  pub narrow : c.width ≤ 8
  pub fits : IsTrue (list_all (literal_fits (signature_of p) c.width) c.lits)
  pub bounded : IsTrue (list_all (is_bounded greatest_expanded) c.lits)

-- the job is one of a transition of the protocol
pub record IsJob (j : Search) : Type 0 where
  pub its : slice_get j.protocol.transitions j.number ≡ Some j.transition
  pub cube : IsExpandable j.protocol j.cube
  pub terms_are : j.terms ≡ terms_in j.cube.lits

-- a draft with these steps to go: it fits, has room for what may come, and leads only to what choices give
pub record Stands (j : Search) (steps : List Step) (d : Draft) : Type 0 where
  pub job : IsJob j
  pub fits : DraftFits j.protocol j.cube j.transition steps d
  pub narrow : d.width + new_in (signature_of j.protocol) j.transition.updates (terms_in j.cube.lits) steps ≤ 11
  pub bounded : IsTrue (list_all (is_bounded greatest_size) d.lits)
  pub terms : map (λ c. c.term) d.choices ≡ terms_in j.cube.lits
  pub within : IsTrue (list_all (is_step_within (length (terms_in j.cube.lits))) steps)
  pub leaves : (x : Piece) → Contains (behind j steps d) x → Contains (candidates j.protocol j.cube) x

-- the step with that number
abbrev pub step_at : Search → ℕ → Step
step_at j n = slice_index_or j.steps n Guard

-- what a step needs of a draft: room for a place and, after the parameters, that the literals of the transition are over the
-- places where they are read
abbrev pub IsReady : Protocol → Transition → Step → Draft → Type 0
IsReady p t Param d = (length d.params < 12) × (d.inner < 255)
IsReady p t Guard d = (length t.guard ≤ 64) × IsTrue (list_all (list_all (is_within (length d.params))) t.guard)
IsReady p t (Other q) d = (length d.params < 12) × (length t.others ≤ 64) × IsTrue (list_all (list_all (is_within (length d.params + 1))) t.others)
IsReady p t (Branch i) d = (i < length d.choices) × (length d.params < 12) × IsTrue (list_all (update_fits (signature_of p) (length d.params)) t.updates)
IsReady p t (Fail i b) d = (i < length d.choices) × (length d.params < 12) × IsTrue (list_all (update_fits (signature_of p) (length d.params)) t.updates)
IsReady p t (Choose i) d = (i < length d.choices) × (length d.params < 12) × IsTrue (list_all (update_fits (signature_of p) (length d.params)) t.updates) × (d.width < 255)
IsReady p t (Late j) d = (length d.params < 12) × (length t.others ≤ 64) × IsTrue (list_all (list_all (is_within (length d.params + 1))) t.others) × (d.inner ≤ d.width) × (d.width < 255)

-- what is asked of a whole draft: each term of the cube has a value that can stand for it
pub record IsWhole (p : Protocol) (t : Transition) (terms : List Term) (lits : List Lit) (d : Draft) : Type 0 where
  pub few : length d.params < 12
  pub fit : IsTrue (list_all (update_fits (signature_of p) (length d.params)) t.updates)
  pub terms_are : terms ≡ map (λ c. c.term) d.choices
  pub fits : IsTrue (list_all (literal_fits (signature_of p) d.width) lits)
  pub can : IsTrue (list_all (can_replace_all (signature_of p) d.width (values_by t.updates d.params d.choices)) lits)
  pub bounded : IsTrue (list_all (is_bounded most_bound) lits)

-- the literals of a whole draft, and those of the cube as they are before the step
abbrev pub whole_lits : Signature → Transition → List Lit → Draft → List Lit
whole_lits sig t lits d = d.lits ++ map (literal_before sig t.updates d.params d.choices) lits

-- the cube of a whole draft
abbrev pub cube_of : Signature → Transition → List Lit → Draft → Cube
cube_of sig t lits d = record { width = d.width; lits = normal_form sig (whole_lits sig t lits d) }

-- what the choices for the transition with that number give
abbrev pub by_number : Protocol → Cube → ℕ → List Piece
by_number p c n = option_map_or (candidates_by p c n) (slice_get p.transitions n) []
