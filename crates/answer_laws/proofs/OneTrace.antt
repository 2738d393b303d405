-- A node has one trace.
use Rattle.std.proofs.Common.{◌≡◌, ℕ, Bool, true, false, not, ◌==◌, List, [], ◌∷◌, Option, Some, None, slice_get, take, refl, sym, ap, ◌∙◌, subst}
use Rattle.std.specs.Prelude.{IfSome, filter}
use Rattle.std.specs.List.{list_any}
use Rattle.cub_base.proofs.Bools.{and_left, and_right, same_is}
use Rattle.cub_proto.specs.declared.event.Event.{Event}
use Rattle.cub_proto.specs.declared.event.Plain.{Plain}
use Rattle.cub_proto.specs.declared.event.Trace.{Trace}
use Rattle.cub_proto.specs.declared.protocol.Protocol.{Protocol}
use Rattle.cub_proto.specs.Configuration.{Configuration}
use Rattle.cub_cube.specs.declared.cube.Cube.{Cube}
use Rattle.cub_cube.proofs.KeptLemmas.{kept_unique}
use Rattle.theory_laws.specs.Start.{start_width, with_start_literals}
use Rattle.piece_choices.specs.declared.piece.Piece.{Piece}
use Rattle.piece_choices.specs.Pieces.{candidates, IsPossible}
use Rattle.log_form.specs.declared.node.Origin.{Origin}
use Rattle.log_form.specs.declared.node.Node.{Node}
use Rattle.log_form.specs.Log.{node_at}
use Rattle.replay.specs.declared.fault.Refused.{Refused}
use Rattle.replay.specs.declared.fault.StepFault.{StepFault}
use Rattle.replay.specs.declared.fault.StepFault.TheVariants.{Other}
use Rattle.trace_judge.specs.Plain.{is_step, first_fault, heading_fits, is_other, is_told, fails_plainly}
use Rattle.trace_laws.specs.declared.chain.Link.{Link}
use Rattle.trace_laws.specs.Standing.{standing, step_by}
use Rattle.trace_laws.specs.Blocked.{with_crashes}
use Rattle.trace_laws.specs.Along.{IsStepBy, EndsAt, StepsAlong}
use Rattle.trace_build.specs.First.{IsChosenFirst, first_places}
use Rattle.trace_build.specs.Trace.{IsTraceOf}
use Rattle.trace_build.specs.Origins.{OriginsFrom, IsTraceOfNode}
use Rattle.answer_laws.proofs.ChosenOnce.{one_chosen}
use Rattle.answer_laws.proofs.Plains.{is_other_at}

-- ---- a node has one chain of origins
origins_same : (nodes : List Node) (o : Origin) (chain other : List Link) → OriginsFrom nodes o chain → OriginsFrom nodes o other → chain ≡ other
origins_same nodes (Origin.Root goal) [] [] h k = refl
origins_same nodes (Origin.Root goal) [] (m ∷ ms) h k = absurd k
origins_same nodes (Origin.Root goal) (l ∷ ls) other h k = absurd h
origins_same nodes (Origin.Piece from piece) [] other h k = absurd h
origins_same nodes (Origin.Piece from piece) (l ∷ ls) [] h k = absurd k
origins_same nodes (Origin.Piece from piece) (l ∷ ls) (m ∷ ms) h k =
    ap (λ (x : Link). x ∷ ls) (h.0 ∙ sym k.0) ∙ ap (λ (xs : List Link). m ∷ xs) (origins_same nodes (node_at nodes from).origin ls ms h.1 k.1)

-- ---- a chain names one step for each link but the last
step_same : (p : Protocol) (s : Configuration) (next : Cube) (o : Origin) (processes : List ℕ) (step other : Event) → IsStepBy p s next o processes step → IsStepBy p s next o processes other → step ≡ other
step_same p s next (Origin.Root goal) processes step other a b = absurd a
step_same p s next (Origin.Piece node number) processes step other a b =
    let lists : a.pieces ≡ b.pieces = kept_unique (IsPossible p) (candidates p next) a.pieces b.pieces a.its b.its in
    let same : a.piece ≡ b.piece = (let there : Some a.piece ≡ Some b.piece = sym a.is_there ∙ ap (λ xs. slice_get xs number) lists ∙ b.is_there in cc) in
    a.is ∙ ap (λ (x : Piece). step_by s x.label processes) same ∙ sym b.is

record AreSame (steps others : List Event) (goal goal' : ℕ) (places places' : List ℕ) : Type 0 where
  steps_same : steps ≡ others
  goal_same : goal ≡ goal'
  places_same : places ≡ places'

ends_same : (p : Protocol) (s : Configuration) (link : Link) (processes : List ℕ) (goal goal' : ℕ) (places places' : List ℕ) → StepsAlong p s (link ∷ []) processes [] goal places → StepsAlong p s (link ∷ []) processes [] goal' places'
    → AreSame [] [] goal goal' places places'
ends_same p s link processes goal goal' places places' a b = by link.origin a b
  where
    by : (o : Origin) → EndsAt o (standing link.places processes) goal places → EndsAt o (standing link.places processes) goal' places' → AreSame [] [] goal goal' places places'
    by (Origin.Root number) h k = record { steps_same = refl; goal_same = h.0 ∙ sym k.0; places_same = h.1 ∙ sym k.1 }
    by (Origin.Piece node number) h k = absurd h

along_same : (p : Protocol) (s : Configuration) (chain : List Link) (processes : List ℕ) (steps others : List Event) (goal goal' : ℕ) (places places' : List ℕ)
    → StepsAlong p s chain processes steps goal places → StepsAlong p s chain processes others goal' places' → AreSame steps others goal goal' places places'
along_same p s [] processes steps others goal goal' places places' a b = absurd a
along_same p s (link ∷ []) processes [] [] goal goal' places places' a b = ends_same p s link processes goal goal' places places' a b
along_same p s (link ∷ []) processes [] (e ∷ es) goal goal' places places' a b = absurd b
along_same p s (link ∷ []) processes (e ∷ es) others goal goal' places places' a b = absurd a
along_same p s (link ∷ next ∷ chain) processes [] others goal goal' places places' a b = absurd a
along_same p s (link ∷ next ∷ chain) processes (e ∷ es) [] goal goal' places places' a b = absurd b
along_same p s (link ∷ next ∷ chain) processes (e ∷ es) (f ∷ fs) goal goal' places places' a b =
    let here : e ≡ f = step_same p s next.cube link.origin (standing link.places processes) e f a.0 b.0 in
    let rest = along_same p s (next ∷ chain) (take next.cube.width (standing link.places processes)) es fs goal goal' places places' a.1 b.1 in
    record { steps_same = ap (λ x. x ∷ es) here ∙ ap (λ xs. f ∷ xs) rest.steps_same; goal_same = rest.goal_same; places_same = rest.places_same }

-- ---- an accepted trace has one plain line
told_same : (o : Option Refused) (a b : Plain) → is_told o a ≡ true → is_told o b ≡ true → a ≡ b
told_same None a b h k = absurd (let no : false ≡ true = h in cc)
told_same (Some refused) a b h k =
    let n = refused.number in
    let f : StepFault = refused.fault in
    let step : a.step ≡ b.step = sym (same_is n a.step (and_left (n == a.step) (is_other f a.process) h)) ∙ same_is n b.step (and_left (n == b.step) (is_other f b.process) k) in
    let at : f ≡ Other a.process = is_other_at f a.process (and_right (n == a.step) (is_other f a.process) h) in
    let also : f ≡ Other b.process = is_other_at f b.process (and_right (n == b.step) (is_other f b.process) k) in
    let process : a.process ≡ b.process = (let both : Other a.process ≡ Other b.process = sym at ∙ also in cc) in
    λ i. record { step = step i; process = process i }

clash : (b : Bool) → not b ≡ true → b ≡ true → ⊥
clash b denied holds = let is : not b ≡ false = ap not holds in cc

plain_same : (p : Protocol) (s : Configuration) (events : List Event) (a b : Option Plain) → heading_fits a events ≡ true → heading_fits b events ≡ true
    → IfSome a (λ told. fails_plainly p s events told ≡ true) → IfSome b (λ told. fails_plainly p s events told ≡ true) → a ≡ b
plain_same p s events None None heading other fails fail = refl
plain_same p s events None (Some b) heading other fails fail = absurd (clash (list_any (λ (e : Event). not (is_step e)) events) heading other)
plain_same p s events (Some a) None heading other fails fail = absurd (clash (list_any (λ (e : Event). not (is_step e)) events) other heading)
plain_same p s events (Some a) (Some b) heading other fails fail = ap Some (told_same (first_fault p s (filter is_step events) 0) a b fails fail)

-- ---- a chain has one trace
start_same : (p : Protocol) (chain : List Link) (s t : Configuration) → IsChosenFirst p chain s → IsChosenFirst p chain t → s ≡ t
start_same p [] s t a b = absurd a
start_same p (link ∷ chain) s t a b = one_chosen p (start_width link.cube.width) (with_start_literals p link.cube.width link.cube.lits) s t a b

chain_trace : (p : Protocol) (chain : List Link) (t u : Trace) → IsTraceOf p chain t → IsTraceOf p chain u → t ≡ u
chain_trace p chain t u a b =
    let starts : t.start ≡ u.start = start_same p chain t.start u.start a.starts b.starts in
    let its = along_same p u.start chain (first_places chain) a.steps b.steps t.goal u.goal t.places u.places (subst (λ s. StepsAlong p s chain (first_places chain) a.steps t.goal t.places) starts a.along) b.along in
    let all : t.events ≡ u.events = a.is ∙ ap (λ s. with_crashes p s a.steps) starts ∙ ap (with_crashes p u.start) its.steps_same ∙ sym b.is in
    let plains : t.plain ≡ u.plain =
    plain_same p u.start u.events t.plain u.plain (subst (λ es. heading_fits t.plain es ≡ true) all a.accepted.heading) b.accepted.heading
    (subst (λ es. IfSome t.plain (λ told. fails_plainly p u.start es told ≡ true)) all (subst (λ s. IfSome t.plain (λ told. fails_plainly p s t.events told ≡ true)) starts a.accepted.fails)) b.accepted.fails in
    λ i. record { start = starts i; events = all i; goal = its.goal_same i; places = its.places_same i; plain = plains i }

pub one_trace : (p : Protocol) (nodes : List Node) (number : ℕ) (t u : Trace) → IsTraceOfNode p nodes number t → IsTraceOfNode p nodes number u → t ≡ u
one_trace p nodes number t u (chain, origins, of) (other, also, of') =
    let same : other ≡ chain = origins_same nodes (Origin.Piece number 0) other chain also origins in
    chain_trace p chain t u of (subst (λ links. IsTraceOf p links u) same of')
