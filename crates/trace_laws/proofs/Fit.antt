-- Legal events speak of what the protocol and its processes have.
use Rattle.std.proofs.Common.{◌≡◌, ℕ, true, ◌&&◌, ◌==◌, nat_lt, List, [], ◌∷◌, length, get_or, Option, refl, ap, ◌∙◌, subst, All}
use Rattle.std.specs.Prelude.{IsTrue}
use Rattle.std.specs.List.{list_all}
use Rattle.std.proofs.lemmas.Bool.{and_from, eq-eqb}
use Rattle.std.proofs.lemmas.List.Elements.{All-weaker, All-cons, All-nil}
use Rattle.cub_base.proofs.Bools.{is_less}
use Rattle.cub_base.proofs.Elements.{from_all}
use Rattle.cub_proto.specs.declared.literal.Sort.{Sort}
use Rattle.cub_proto.specs.declared.transition.Update.{Update}
use Rattle.cub_proto.specs.declared.state.Slot.{Slot}
use Rattle.cub_proto.specs.declared.state.Val.{Val}
use Rattle.cub_proto.specs.declared.state.Val.TheVariants.{Con, Proc, Int}
use Rattle.cub_proto.specs.declared.event.Chosen.{Chosen}
use Rattle.cub_proto.specs.declared.event.Event.{Event}
use Rattle.cub_proto.specs.declared.event.Event.TheVariants.{Crash, Fire}
use Rattle.cub_proto.specs.declared.protocol.Protocol.{Protocol}
use Rattle.cub_proto.specs.Configuration.{Configuration, process_count, IsAlive}
use Rattle.cub_proto.specs.Signature.{Signature, declared_sort, constructors_of}
use Rattle.cub_proto.specs.StateOf.{IsOfSort, signature_of}
use Rattle.cub_proto.specs.Legal.{TakesPick, MayPick, IsLegal, AreLegal, after, picks_rise}
use Rattle.cub_proto.proofs.StateValues.{alive_within}
use Rattle.replay.specs.FitsEvent.{is_of_sort, is_declared, slot_takes, fits_transition, FitsEvent}
use Rattle.replay.proofs.LegalFault.{picked_own}
use Rattle.trace_laws.proofs.Chains.{count_after}

has_sort : (sig : Signature) (n : ℕ) (sort : Sort) (v : Val) → IsOfSort sig n sort v → is_of_sort sig n sort v ≡ true
has_sort sig n (Sort.Fin k) (Con c) h = is_less c (constructors_of sig (Sort.Fin k)) h
has_sort sig n (Sort.Fin k) (Proc i) h = absurd h
has_sort sig n (Sort.Fin k) (Int m) h = absurd h
has_sort sig n Sort.Proc (Con c) h = absurd h
has_sort sig n Sort.Proc (Proc i) h = is_less i n h
has_sort sig n Sort.Proc (Int m) h = absurd h
has_sort sig n Sort.Int (Con c) h = absurd h
has_sort sig n Sort.Int (Proc i) h = absurd h
has_sort sig n Sort.Int (Int m) h = refl

declared : (p : Protocol) (s : Configuration) (places : List ℕ) (update : Option Update) (sort : Option Sort) (v : Val) → TakesPick p s places update sort v → is_declared (signature_of p) (process_count s) sort v ≡ true
declared p s places update sort v takes =
    ap (λ o. is_declared (signature_of p) (process_count s) o v) takes.is_sort ∙ has_sort (signature_of p) (process_count s) takes.its_sort v takes.pickable.of_sort

takes_slot : (p : Protocol) (s : Configuration) (updates : List Update) (params : List ℕ) (slot : Slot) (v : Val) → MayPick p s updates params slot v → slot_takes p (process_count s) slot v ≡ true
takes_slot p s updates params (Slot.Global g) v may = declared p s _ _ _ v may
takes_slot p s updates params (Slot.Cell a i) v may =
    and_from (nat_lt i (process_count s)) (is_declared (signature_of p) (process_count s) (declared_sort p.arrays a) v) (is_less i (process_count s) (alive_within s i may.0)) (declared p s _ _ _ v may.1)

pub legal_fits : (p : Protocol) (s : Configuration) (e : Event) → IsLegal p s e → FitsEvent p (process_count s) e
legal_fits p s (Crash i) legal = is_less i (process_count s) (alive_within s i legal)
legal_fits p s (Fire number params picks) legal =
    let t = legal.transition in
    let n = process_count s in
    let count = length params == t.params in
    let inside = list_all (λ i. nat_lt i n) params in
    let slots = list_all (λ (c : Chosen). slot_takes p n c.slot c.val) picks in
    let own = picked_own picks legal.rising in
    let all_slots : slots ≡ true =
    from_all (λ (c : Chosen). slot_takes p n c.slot c.val) picks
    (λ k d within. takes_slot p s t.updates params (get_or picks k d).slot (get_or picks k d).val (legal.fires.picks (get_or picks k d).slot (get_or picks k d).val (own k d within))) in
    let all_inside : inside ≡ true =
    from_all (λ i. nat_lt i n) params (All-weaker (IsAlive s) (λ i. IsTrue (nat_lt i n)) (λ i h. is_less i n (alive_within s i h)) params legal.fires.parameters.alive) in
    ap (λ o. fits_transition p n o params picks) legal.is_there
    ∙ and_from (count && inside && picks_rise picks) slots
    (and_from (count && inside) (picks_rise picks) (and_from count inside (eq-eqb (length params) t.params legal.fires.one_each) all_inside) legal.rising) all_slots

pub legal_fit : (p : Protocol) (s : Configuration) (events : List Event) → AreLegal p s events → All (FitsEvent p (process_count s)) events
legal_fit p s [] legal = All-nil (FitsEvent p (process_count s))
legal_fit p s (e ∷ es) legal =
    All-cons (FitsEvent p (process_count s)) e es (legal_fits p s e legal.0)
    (subst (λ n. All (FitsEvent p n) es) (count_after p s e) (legal_fit p (after p s e) es legal.1))
