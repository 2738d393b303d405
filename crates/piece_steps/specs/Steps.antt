-- The choices of a piece, one step at a time, over a draft of the piece.
use Rattle.std.specs.Prelude.{ℕ, ◌+◌, true, ◌&&◌, not, nat_lt, if◌then◌else◌, List, [], ◌∷◌, ◌++◌, length, map, Option, None, Some, slice_index_or, slice_set, replicate}
use Rattle.std.specs.List.{flat_map, range_with_len}
use Rattle.std.specs.Option.{option_map_or}
use Rattle.cub_base.specs.Numbered.{map_from}
use Rattle.cub_proto.specs.declared.literal.Term.{Term}
use Rattle.cub_proto.specs.declared.literal.Lit.{Lit}
use Rattle.cub_proto.specs.declared.transition.Update.{Update}
use Rattle.cub_proto.specs.declared.transition.Transition.{Transition}
use Rattle.cub_proto.specs.declared.protocol.Protocol.{Protocol}
use Rattle.cub_proto.specs.Signature.{Signature, sort_of}
use Rattle.cub_proto.specs.StateOf.{signature_of}
use Rattle.cub_proto.specs.Fits.{is_any}
use Rattle.cub_proto.specs.Effect.{update_of}
use Rattle.cub_proto.specs.Negation.{negated}
use Rattle.cub_cube.specs.declared.cube.Cube.{Cube}
use Rattle.cub_cube.specs.Mentions.{terms_in}
use Rattle.cub_cube.specs.Normal.{normal_form}
use Rattle.cub_cube.specs.Rename.{renamed, renamed_all}
use Rattle.cub_cube.specs.Replace.{constant}
use Rattle.cub_cube.specs.Step.{target_of}
use Rattle.updates.specs.declared.choice.Choice.{Choice}
use Rattle.updates.specs.Ways.{numbers, way, condition}
use Rattle.updates.specs.Chosen.{reading_places, choice, chosen_value, with_pick}
use Rattle.updates.specs.Through.{literal_before}
use Rattle.piece_choices.specs.declared.piece.Piece.{Piece}
use Rattle.piece_choices.specs.Placings.{is_among}
use Rattle.piece_choices.specs.Picks.{Pick, values_for}
use Rattle.piece_choices.specs.Conjunction.{guard_lits}

-- what the choices so far give: the label's parts, the width with the parameters and with the picks, the literals. There is
-- a choice for each term from the start, and steps change it in place
pub record Draft : Type 0 where
  pub params : List ℕ
  pub inner : ℕ
  pub width : ℕ
  pub guard : ℕ
  pub others : List ℕ
  pub choices : List Choice
  pub lits : List Lit

-- one choice: a parameter's place, the guard, the universal guard at a place, the branch that counts for a term, the literal
-- that fails of its branch b, the pick of a term, the universal guard at the j-th new place of picks
pub data Step : Type 0 where
  Param : Step
  Guard : Step
  Other : (q : ℕ) → Step
  Branch : (i : ℕ) → Step
  Fail : (i b : ℕ) → Step
  Choose : (i : ℕ) → Step
  Late : (j : ℕ) → Step

abbrev pub choice_at : Draft → ℕ → Choice
choice_at d i = slice_index_or d.choices i (choice (Term.Global 0) (way 0 []))

abbrev pub at_place : Draft → ℕ → Draft
at_place d q = record d { params = d.params ++ q ∷ [] }

abbrev pub at_new_place : Draft → Draft
at_new_place d = record d { params = d.params ++ d.inner ∷ []; inner = d.inner + 1; width = d.inner + 1 }

abbrev pub guarded : Transition → Draft → ℕ → Draft
guarded t d n = record d { guard = n; lits = d.lits ++ guard_lits t d.params n }

abbrev pub permitted : Transition → Draft → ℕ → ℕ → Draft
permitted t d q n = record d { others = d.others ++ n ∷ []; lits = d.lits ++ renamed_all (d.params ++ q ∷ []) (slice_index_or t.others n []) }

abbrev pub branched : Draft → ℕ → Choice → Update → ℕ → Draft
branched d i c u n = record d {
  choices = slice_set d.choices i (record c { branch = n });
  lits = d.lits ++ renamed_all (reading_places d.params c.term) (condition u.branches n);
}

abbrev pub failed : Signature → Draft → ℕ → Choice → List Lit → ℕ → Draft
failed sig d i c cond f = record d {
  choices = slice_set d.choices i (record c { fails = c.fails ++ f ∷ [] });
  lits = d.lits ++ renamed (reading_places d.params c.term) (negated sig (slice_index_or cond f (constant true))) ∷ [];
}

abbrev pub picked : Draft → ℕ → Choice → Pick → Draft
picked d i c v = record d { choices = slice_set d.choices i (with_pick c v.value); width = v.width }

abbrev pub branches_by : Option Update → Draft → ℕ → Choice → List Draft
branches_by None d i c = d ∷ []
branches_by (Some u) d i c = map (branched d i c u) (range_with_len 0 (length u.branches + 1))

abbrev pub fails_by : Signature → Option Update → Draft → ℕ → ℕ → Choice → List Draft
fails_by sig None d i b c = d ∷ []
fails_by sig (Some u) d i b c = if nat_lt b c.branch then map (failed sig d i c (condition u.branches b)) (numbers (condition u.branches b)) else d ∷ []

abbrev pub picks_by : Signature → List Update → Draft → ℕ → Choice → List Draft
picks_by sig updates d i c = if is_any (chosen_value updates d.params c) then map (picked d i c) (values_for sig d.width c.term (sort_of sig c.term)) else d ∷ []

-- the drafts that a step gives, in order; a step without a choice gives the draft itself
abbrev pub extend : Signature → Transition → ℕ → Step → Draft → List Draft
extend sig t width Param d = flat_map (λ q. if is_among d.params q then [] else at_place d q ∷ []) (range_with_len 0 width) ++ at_new_place d ∷ []
extend sig t width Guard d = map (guarded t d) (numbers t.guard)
extend sig t width (Other q) d = if nat_lt q d.inner && not (is_among d.params q) then map (permitted t d q) (numbers t.others) else d ∷ []
extend sig t width (Branch i) d = branches_by (update_of t.updates (target_of (choice_at d i).term)) d i (choice_at d i)
extend sig t width (Fail i b) d = fails_by sig (update_of t.updates (target_of (choice_at d i).term)) d i b (choice_at d i)
extend sig t width (Choose i) d = picks_by sig t.updates d i (choice_at d i)
extend sig t width (Late j) d = if nat_lt (d.inner + j) d.width then map (permitted t d (d.inner + j)) (numbers t.others) else d ∷ []

-- the piece of a whole draft
abbrev pub leaf : Signature → ℕ → Transition → List Lit → Draft → Piece
leaf sig number t lits d = record {
  label = record { transition = number; params = d.params; guard = d.guard; others = d.others; choices = d.choices };
  cube = record { width = d.width; lits = normal_form sig (d.lits ++ map (literal_before sig t.updates d.params d.choices) lits) };
}

-- what all steps give from a draft on
abbrev pub run : Signature → ℕ → Transition → ℕ → List Lit → List Step → Draft → List Piece
run sig number t width lits [] d = leaf sig number t lits d ∷ []
run sig number t width lits (step ∷ steps) d = flat_map (run sig number t width lits steps) (extend sig t width step d)

-- the branch of a term, and a failing literal of each of its update's branches
abbrev pub way_steps : Transition → ℕ → Term → List Step
way_steps t i u = Branch i ∷ map (Fail i) (range_with_len 0 (option_map_or (λ v. length v.branches) (update_of t.updates (target_of u)) 0))

abbrev pub steps_of : Transition → ℕ → List Term → List Step
steps_of t width terms =
    replicate t.params Param
    ++ (Guard ∷ (map (λ q. Other q) (range_with_len 0 (width + t.params))
    ++ (flat_map (λ xs. xs) (map_from (way_steps t) 0 terms)
    ++ (map (λ i. Choose i) (range_with_len 0 (length terms)) ++ map (λ j. Late j) (range_with_len 0 (length terms))))))

abbrev pub first_draft : ℕ → List Term → Draft
first_draft width terms = record { params = []; inner = width; width = width; guard = 0; others = []; choices = map (λ u. choice u (way 0 [])) terms; lits = [] }

-- what the steps of a transition give for a cube
abbrev pub by_steps : Protocol → Cube → ℕ → Transition → List Piece
by_steps p c number t = run (signature_of p) number t c.width c.lits (steps_of t c.width (terms_in c.lits)) (first_draft c.width (terms_in c.lits))
