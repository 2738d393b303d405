-- What a choice for a term says: the literals of its way, and the value that the term takes.
use Rattle.std.specs.Prelude.{ℕ, Bool, if◌then◌else◌, List, [], ◌∷◌, ◌++◌, map, Option, Some, None, unwrap_or}
use Rattle.std.specs.Ordering.{is_eq}
use Rattle.cub_proto.specs.declared.literal.Term.{Term}
use Rattle.cub_proto.specs.declared.literal.Lit.{Lit}
use Rattle.cub_proto.specs.declared.literal.Value.{Value}
use Rattle.cub_proto.specs.declared.transition.Update.{Update}
use Rattle.cub_proto.specs.Signature.{Signature}
use Rattle.cub_proto.specs.Order.{term_cmp}
use Rattle.cub_proto.specs.Effect.{update_of}
use Rattle.cub_cube.specs.Rename.{renamed_all, renamed_value}
use Rattle.cub_cube.specs.Step.{target_of}
use Rattle.updates.specs.declared.choice.Choice.{Choice}
use Rattle.updates.specs.Ways.{Way, way, ways, way_lits, way_value}

-- the places at which a term's update is read: those of the parameters, and for a cell its own place behind them
abbrev pub reading_places : List ℕ → Term → List ℕ
reading_places params (Term.Global g) = params
reading_places params (Term.Cell a p) = params ++ p ∷ []

-- a choice of a way, without a pick
abbrev pub choice : Term → Way → Choice
choice t w = record { term = t; branch = w.branch; fails = w.fails; pick = None }

-- the choices of a way for a term, in order; a term without an update has one
abbrev pub ways_of : Option Update → Term → List Choice
ways_of None t = choice t (way 0 []) ∷ []
ways_of (Some u) t = map (choice t) (ways u.branches)

-- the choice with a pick
abbrev pub with_pick : Choice → Value → Choice
with_pick c v = record c { pick = Some v }

-- the literals of the chosen way, at the places where the update is read
abbrev pub lits_by : Signature → Option Update → List ℕ → Choice → List Lit
lits_by sig None params c = []
lits_by sig (Some u) params c = renamed_all (reading_places params c.term) (way_lits sig u.branches (way c.branch c.fails))

abbrev pub choice_lits : Signature → List Update → List ℕ → Choice → List Lit
choice_lits sig updates params c = lits_by sig (update_of updates (target_of c.term)) params c

-- the value of the chosen branch, perhaps `?`; a term without an update keeps its value
abbrev pub value_by : Option Update → List ℕ → Choice → Value
value_by None params c = Value.Read c.term
value_by (Some u) params c = renamed_value (reading_places params c.term) (way_value u c.branch)

abbrev pub chosen_value : List Update → List ℕ → Choice → Value
chosen_value updates params c = value_by (update_of updates (target_of c.term)) params c

-- the value that the term takes: for `?` the pick
abbrev pub taken : Option Value → Value → Value
taken pick (Value.Con c) = Value.Con c
taken pick (Value.Read t) = Value.Read t
taken pick (Value.Proc side) = Value.Proc side
taken pick (Value.Sum base add) = Value.Sum base add
taken pick Value.Any = unwrap_or pick Value.Any

abbrev pub taken_value : List Update → List ℕ → Choice → Value
taken_value updates params c = taken c.pick (chosen_value updates params c)

abbrev pub same_term : Term → Term → Bool
same_term t u = is_eq (term_cmp t u)

-- the value that stands beside a term; a term that is not there keeps its value
abbrev pub value_in : List Term → List Value → Term → Value
value_in [] values t = Value.Read t
value_in (u ∷ us) [] t = Value.Read t
value_in (u ∷ us) (v ∷ vs) t = if same_term u t then v else value_in us vs t

-- the value that each term takes by the choices
abbrev pub values_by : List Update → List ℕ → List Choice → Term → Value
values_by updates params choices = value_in (map (λ c. c.term) choices) (map (taken_value updates params) choices)
