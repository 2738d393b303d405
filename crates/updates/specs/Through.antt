-- One literal after a step, as literals before it.
use Rattle.std.specs.Prelude.{◌≡◌, ℕ, Bool, true, false, if◌then◌else◌, List, [], ◌∷◌, ◌++◌, filter, Option, unwrap_or, slice_get}
use Rattle.std.specs.List.{flat_map, list_any}
use Rattle.std.specs.Option.{option_map_or}
use Rattle.cub_proto.specs.declared.protocol.Protocol.{Protocol}
use Rattle.cub_proto.specs.declared.literal.Term.{Term}
use Rattle.cub_proto.specs.declared.literal.Lit.{Lit}
use Rattle.cub_proto.specs.declared.transition.Update.{Update}
use Rattle.cub_proto.specs.Signature.{Signature}
use Rattle.cub_proto.specs.Negation.{negated}
use Rattle.cub_proto.specs.declared.state.Slot.{Slot}
use Rattle.cub_proto.specs.declared.state.Val.{Val}
use Rattle.cub_proto.specs.Configuration.{Configuration}
use Rattle.cub_proto.specs.Truth.{slot_of, term_value, all_true}
use Rattle.cub_proto.specs.Fits.{is_any}
use Rattle.cub_proto.specs.Effect.{meaning_of}
use Rattle.cub_cube.specs.Normal.{is_true_alone}
use Rattle.cub_cube.specs.Mentions.{terms_of}
use Rattle.cub_cube.specs.Replace.{replaced}
use Rattle.updates.specs.declared.choice.Choice.{Choice}
use Rattle.updates.specs.declared.answer.Through.{Through}
use Rattle.updates.specs.Chosen.{same_term, choice_lits, chosen_value, taken_value, values_by}

-- the literal is false by itself: its negation is true by itself
abbrev pub is_false_alone : Signature → Lit → Bool
is_false_alone sig l = is_true_alone sig (negated sig l)

abbrev pub mentions : Lit → Term → Bool
mentions l t = list_any (λ u. same_term u t) (terms_of l)

-- the literals of the ways that are chosen for the terms of a literal
abbrev pub branch_lits : Signature → List Update → List ℕ → List Choice → Lit → List Lit
branch_lits sig updates params choices l = flat_map (choice_lits sig updates params) (filter (λ c. mentions l c.term) choices)

-- the literal with each term replaced by the value that it takes
abbrev pub literal_before : Signature → List Update → List ℕ → List Choice → Lit → Lit
literal_before sig updates params choices l = replaced sig (values_by updates params choices) l

-- nothing for a literal that is true by itself
abbrev pub saying : Signature → Lit → List Lit
saying sig l = if is_true_alone sig l then [] else l ∷ []

-- the literals of the chosen ways and the literal before the step, unless that is false by itself
abbrev pub through_answer : Signature → List Update → List ℕ → List Choice → Lit → Through
through_answer sig updates params choices l =
    if is_false_alone sig (literal_before sig updates params choices l) then Through.Never
    else Through.Lits (branch_lits sig updates params choices l ++ saying sig (literal_before sig updates params choices l))

-- where the chosen value is `?`, the term takes the step's pick, or keeps its value, just as the choice's pick says
abbrev pub PickAgrees : Configuration → List ℕ → List Update → List ℕ → (Slot → Option Val) → Choice → Type 0
PickAgrees s places updates params pick c =
    is_any (chosen_value updates params c) ≡ true
    → unwrap_or (pick (slot_of places c.term)) (term_value s places c.term) ≡ meaning_of s places (taken_value updates params c) (term_value s places c.term)

-- some choice is one for the term
abbrev pub has_choice : List Choice → Term → Bool
has_choice choices t = list_any (λ c. same_term c.term t) choices

-- an answer at a state: all its literals are true
abbrev pub answer_true : Configuration → List ℕ → Through → Bool
answer_true s places (Through.Lits lits) = all_true s places lits
answer_true s places Through.Never = false

-- the updates of a transition of the protocol, and the number of its parameters
abbrev pub updates_of : Protocol → ℕ → List Update
updates_of p n = option_map_or (λ t. t.updates) (slice_get p.transitions n) []

abbrev pub params_of : Protocol → ℕ → ℕ
params_of p n = option_map_or (λ t. t.params) (slice_get p.transitions n) 0
