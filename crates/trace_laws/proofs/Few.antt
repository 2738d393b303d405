-- Each process crashes at most once, so few events stand beside the steps.
use Rattle.std.proofs.Common.{◌≡◌, ℕ, zero, suc, ◌+◌, ◌≤◌, Bool, true, false, List, [], ◌∷◌, ◌++◌, length, get_or, set, Option, Some, None, refl, ap, ◌∙◌, arith, slice_get}
use Rattle.std.specs.Prelude.{IsTrue}
use Rattle.std.specs.List.{list_all}
use Rattle.std.proofs.lemmas.List.{length-append, length-map}
use Rattle.cub_base.proofs.Bools.{and_left, and_right}
use Rattle.cub_proto.specs.declared.transition.Transition.{Transition}
use Rattle.cub_proto.specs.declared.event.Chosen.{Chosen}
use Rattle.cub_proto.specs.declared.event.Event.{Event}
use Rattle.cub_proto.specs.declared.event.Event.TheVariants.{Crash, Fire}
use Rattle.cub_proto.specs.declared.protocol.Protocol.{Protocol}
use Rattle.cub_proto.specs.Configuration.{Configuration, process_count, killed}
use Rattle.cub_proto.specs.Legal.{AreLegal, after, after_all, fired_by}
use Rattle.cub_cube.specs.Crashes.{crashes, killed_all}
use Rattle.cub_cube.proofs.CrashLemmas.{after_crashes}
use Rattle.trace_judge.specs.Plain.{is_step}
use Rattle.trace_laws.specs.Blocked.{blocked, freed, with_crashes}
use Rattle.trace_laws.specs.Leads.{AreFree}
use Rattle.trace_laws.proofs.Killing.{after_append, legal_front}

-- how many of them are true
alive_in : List Bool → ℕ
alive_in [] = 0
alive_in (true ∷ bs) = suc (alive_in bs)
alive_in (false ∷ bs) = alive_in bs

at_most_all : (bs : List Bool) → alive_in bs ≤ length bs
unfolding alive_in
at_most_all [] = omega arith
at_most_all (true ∷ bs) = omega (arith, at_most_all bs)
at_most_all (false ∷ bs) = omega (arith, at_most_all bs)

one_less : (bs : List Bool) (i : ℕ) → get_or bs i false ≡ true → suc (alive_in (set bs i false)) ≡ alive_in bs
unfolding alive_in
one_less [] i h = cc
one_less (true ∷ bs) zero h = refl
one_less (false ∷ bs) zero h = cc
one_less (true ∷ bs) (suc i) h = ap suc (one_less bs i h)
one_less (false ∷ bs) (suc i) h = one_less bs i h

killed_less : (p : Protocol) (s : Configuration) (xs : List ℕ) → AreLegal p s (crashes xs) → length xs + alive_in (killed_all s xs).living ≡ alive_in s.living
killed_less p s [] legal = omega arith
killed_less p s (i ∷ xs) legal =
    let one = one_less s.living i legal.0 in
    let rest = killed_less p (killed s i) xs legal.1 in omega arith

same_living : (o : Option Transition) (s : Configuration) (params : List ℕ) (picks : List Chosen) → (fired_by o s params picks).living ≡ s.living
same_living None s params picks = refl
same_living (Some t) s params picks = refl

step_living : (p : Protocol) (s : Configuration) (e : Event) → is_step e ≡ true → (after p s e).living ≡ s.living
step_living p s (Crash i) h = cc
step_living p s (Fire number params picks) h = same_living (slice_get p.transitions number) s params picks

freed_less : (p : Protocol) (s : Configuration) (e : Event) → is_step e ≡ true → AreLegal p s (freed p s e) → length (blocked p s e) + alive_in (after_all p s (freed p s e)).living ≡ alive_in s.living
freed_less p s e is legal =
    let xs = blocked p s e in
    let lives : (after_all p s (crashes xs ++ e ∷ [])).living ≡ (killed_all s xs).living =
    ap (λ z. z.living) (after_append p s (crashes xs) (e ∷ []) ∙ ap (λ z. after p z e) (after_crashes p s xs)) ∙ step_living p (killed_all s xs) e is in
    ap (λ bs. length xs + alive_in bs) lives ∙ killed_less p s xs (legal_front p s (crashes xs) (e ∷ []) legal)

room : (p : Protocol) (s : Configuration) (steps : List Event) → IsTrue (list_all is_step steps) → AreFree p s steps → length (with_crashes p s steps) ≤ length steps + alive_in s.living
room p s [] firings free = omega arith
room p s (e ∷ es) firings free =
    let rest = room p (after_all p s (freed p s e)) es (and_right (is_step e) (list_all is_step es) firings) free.2 in
    let less = freed_less p s e (and_left (is_step e) (list_all is_step es) firings) free.0 in
    let joined = length-append (freed p s e) (with_crashes p (after_all p s (freed p s e)) es) in
    let first = length-append (crashes (blocked p s e)) (e ∷ []) in
    let many = length-map (blocked p s e) (λ i. Crash i) in
    omega arith

pub few_events : (p : Protocol) (s : Configuration) (steps : List Event) → IsTrue (list_all is_step steps) → AreFree p s steps → length (with_crashes p s steps) ≤ length steps + process_count s
few_events p s steps firings free = omega (arith, room p s steps firings free, at_most_all s.living)
