-- One more event of a run.
use Rattle.std.proofs.Common.{◌≡◌, ℕ, ◌+◌, ◌<◌, List, [], ◌∷◌, ◌++◌, Option, Some, None, length, get_or, take, refl, sym, ap, subst, ◌∙◌, arith, slice_get}
use Rattle.std.proofs.lemmas.List.{take_more, length-set}
use Rattle.cub_proto.specs.declared.transition.Transition.{Transition}
use Rattle.cub_proto.specs.declared.event.Chosen.{Chosen}
use Rattle.cub_proto.specs.declared.event.Event.{Event}
use Rattle.cub_proto.specs.declared.event.Event.TheVariants.{Crash, Fire}
use Rattle.cub_proto.specs.declared.protocol.Protocol.{Protocol}
use Rattle.std.proofs.Common.{false}
use Rattle.cub_proto.specs.Configuration.{Configuration, process_count}
use Rattle.cub_proto.specs.Legal.{IsLegal, AreLegal, after, after_all, fired_by}
use Rattle.replay.specs.Machine.{Replay, after_events}

after_all_append : (p : Protocol) (s : Configuration) (xs ys : List Event) → after_all p s (xs ++ ys) ≡ after_all p (after_all p s xs) ys
after_all_append p s [] ys = refl
after_all_append p s (x ∷ xs) ys = after_all_append p (after p s x) xs ys

legal_push : (p : Protocol) (s : Configuration) (xs : List Event) (e : Event) → AreLegal p s xs → IsLegal p (after_all p s xs) e → AreLegal p s (xs ++ e ∷ [])
legal_push p s [] e legal last = (last, tt)
legal_push p s (x ∷ xs) e legal last = (legal.0, legal_push p (after p s x) xs e legal.1 last)

one_more : (es : List Event) (n : ℕ) (e : Event) → n < length es → e ≡ get_or es n e → take (n + 1) es ≡ take n es ++ e ∷ []
one_more es n e within is = take_more es n e within ∙ ap (λ x. take n es ++ x ∷ []) (sym is)

pub legal_more : (p : Protocol) (s : Configuration) (es : List Event) (n : ℕ) (e : Event) → n < length es → e ≡ get_or es n e → AreLegal p s (take n es) → IsLegal p (after_all p s (take n es)) e → AreLegal p s (take (n + 1) es)
legal_more p s es n e within is legal last =
    subst (AreLegal p s) (sym (one_more es n e within is)) (legal_push p s (take n es) e legal last)

-- the machine after one more event
pub after_events_more : (m : Replay) (es : List Event) (n : ℕ) (e : Event) → n < length es → e ≡ get_or es n e → record (after_events m es n) { state = after m.protocol (after_all m.protocol m.state (take n es)) e; accepted = (m.accepted + n) + 1 } ≡ after_events m es (n + 1)
after_events_more m es n e within is =
    ap (λ s. record m { state = s; accepted = (m.accepted + n) + 1 })
    (sym (ap (after_all m.protocol m.state) (one_more es n e within is) ∙ after_all_append m.protocol m.state (take n es) (e ∷ [])))
    ∙ (let sum : (m.accepted + n) + 1 ≡ m.accepted + (n + 1) = omega arith in
    ap (λ k. record m { state = after_all m.protocol m.state (take (n + 1) es); accepted = k }) sum)

fired_count : (o : Option Transition) (s : Configuration) (params : List ℕ) (picks : List Chosen) → process_count (fired_by o s params picks) ≡ process_count s
fired_count None s params picks = refl
fired_count (Some t) s params picks = refl

-- no event changes the number of processes
pub count_after : (p : Protocol) (s : Configuration) (e : Event) → process_count (after p s e) ≡ process_count s
count_after p s (Crash i) = length-set s.living i false
count_after p s (Fire number params picks) = fired_count (slice_get p.transitions number) s params picks
