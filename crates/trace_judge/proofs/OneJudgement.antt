-- A trace has one judgement: what comes first in the order of the tests excludes the rest.
use Rattle.std.proofs.Common.{◌≡◌, ◌≢◌, ℕ, zero, suc, ◌+◌, ◌<◌, ◌≤◌, Bool, true, false, not, List, [], ◌∷◌, length, take, Option, Some, None, refl, ap, sym, subst, ◌∙◌, arith, slice_get, nat_lt}
use Rattle.std.proofs.lemmas.Bool.{ltb-true, ltb-false}
use Rattle.cub_proto.specs.declared.protocol.Protocol.{Protocol}
use Rattle.cub_proto.specs.declared.event.Event.{Event}
use Rattle.cub_proto.specs.declared.event.Plain.{Plain}
use Rattle.cub_proto.specs.Configuration.{Configuration, process_count}
use Rattle.cub_proto.specs.Truth.{any_true}
use Rattle.cub_proto.specs.Legal.{IsStart, IsRun, IsLegal, AreLegal, after, after_all}
use Rattle.replay.specs.declared.fault.Refused.{Refused}
use Rattle.replay.specs.declared.fault.StepFault.{StepFault}
use Rattle.replay.specs.Fault.{fault_at}
use Rattle.replay.specs.Start.{first_unstarted}
use Rattle.replay.specs.Machine.{Replay, IsFirstRefused}
use Rattle.replay.proofs.LegalFault.{no_fault_where_legal, none_range}
use Rattle.trace_judge.specs.declared.judge.Refusal.{Refusal}
use Rattle.trace_judge.specs.declared.judge.Refusal.TheVariants.{NoStart, NoStep, NoGoal, NoHeading, NoPlain, Memory}
use Rattle.trace_judge.specs.Judge.{IsAccepted, IsRefused, IsNoStep}
use Rattle.trace_judge.specs.Laws.{OneReason, NoReason}

some_same : {A : Type 0} (x y : A) → Some x ≡ Some y → x ≡ y
some_same x y h = cc

-- an event before the end of legal ones is legal where it stands
legal_before : (p : Protocol) (s : Configuration) (es : List Event) (count n : ℕ) (e : Event) → n < count → AreLegal p s (take count es) → slice_get es n ≡ Some e
    → IsLegal p (after_all p s (take n es)) e
legal_before p s [] count n e inside legal is = absurd (let none : None ≡ Some e = is in cc)
legal_before p s (x ∷ xs) zero n e inside legal is = absurd (omega arith)
legal_before p s (x ∷ xs) (suc count) zero e inside legal is = subst (IsLegal p s) (some_same x e is) legal.0
legal_before p s (x ∷ xs) (suc count) (suc n) e inside legal is = legal_before p (after p s x) xs count n e (omega arith) legal.1 is

legal_among : (p : Protocol) (s : Configuration) (es : List Event) (n : ℕ) (e : Event) → AreLegal p s es → slice_get es n ≡ Some e → IsLegal p (after_all p s (take n es)) e
legal_among p s [] n e legal is = absurd (let none : None ≡ Some e = is in cc)
legal_among p s (x ∷ xs) zero e legal is = subst (IsLegal p s) (some_same x e is) legal.0
legal_among p s (x ∷ xs) (suc n) e legal is = legal_among p (after p s x) xs n e legal.1 is

module _ (p : Protocol) (s : Configuration) (es : List Event) where
  abbrev begun : Replay
  begun = record { protocol = p; state = s; accepted = 0 }

  -- the fault of a refused event, where it stands
  module _ (last : Replay) (refused : Refused) (first : IsFirstRefused begun last es refused) where
    fault_there : fault_at p (after_all p s (take refused.number es)) first.event ≡ Some refused.fault
    fault_there = subst (λ t. fault_at p t first.event ≡ Some refused.fault) (ap (λ (m : Replay). m.state) first.left) first.fault

    not_legal : IsLegal p (after_all p s (take refused.number es)) first.event → ⊥
    not_legal legal =
        let none = no_fault_where_legal p (after_all p s (take refused.number es)) first.event legal in
        let some = fault_there in
        cc

  no_run : (refused : Refused) → IsNoStep p s es refused → AreLegal p s es → ⊥
  no_run refused stops legal =
      not_legal stops.last refused stops.first (legal_among p s es refused.number stops.first.event legal stops.first.is_there)

  -- no event is refused before another
  not_before : (one other : Refused) → IsNoStep p s es one → IsNoStep p s es other → one.number < other.number → ⊥
  not_before one other a b less =
      not_legal a.last one a.first (legal_before p s es other.number one.number a.first.event less b.first.legal a.first.is_there)

  same_fault : (n : ℕ) (e f : Event) (a b : StepFault) → slice_get es n ≡ Some e → slice_get es n ≡ Some f
      → fault_at p (after_all p s (take n es)) e ≡ Some a → fault_at p (after_all p s (take n es)) f ≡ Some b → a ≡ b
  same_fault n e f a b is js one other =
      let same : e ≡ f = some_same e f (sym is ∙ js) in
      some_same a b (sym one ∙ ap (fault_at p (after_all p s (take n es))) same ∙ other)

  same_step : (one other : Refused) → IsNoStep p s es one → IsNoStep p s es other → one ≡ other
  same_step one other a b = by (nat_lt one.number other.number) refl (nat_lt other.number one.number) refl
    where
      by : (x : Bool) → nat_lt one.number other.number ≡ x → (y : Bool) → nat_lt other.number one.number ≡ y → one ≡ other
      by true is y also = absurd (not_before one other a b (ltb-true one.number other.number is))
      by false is true also = absurd (not_before other one b a (ltb-true other.number one.number also))
      by false is false also =
          let low = ltb-false one.number other.number is in
          let high = ltb-false other.number one.number also in
          let number : other.number ≡ one.number = omega arith in
          let fault : one.fault ≡ other.fault =
          same_fault one.number a.first.event b.first.event one.fault other.fault a.first.is_there
          (subst (λ n. slice_get es n ≡ Some b.first.event) number b.first.is_there) (fault_there a.last one a.first)
          (subst (λ n. fault_at p (after_all p s (take n es)) b.first.event ≡ Some other.fault) number (fault_there b.last other b.first)) in
          ap (λ n. record { number = n; fault = one.fault }) (sym number) ∙ ap (λ f. record { number = other.number; fault = f }) fault

  -- a start state has no process at which the start formula is false
  no_start : (i : ℕ) → first_unstarted p s ≡ Some i → IsStart p s → ⊥
  no_start i found start =
      let none : first_unstarted p s ≡ None = none_range (λ k. not (any_true s (k ∷ []) p.start)) (process_count s) (λ k inside. ap not (start.begins k inside)) in
      cc

  same_start : (i j : ℕ) → first_unstarted p s ≡ Some i → first_unstarted p s ≡ Some j → NoStart i ≡ NoStart j
  same_start i j is js = ap NoStart (some_same i j (sym is ∙ js))

one_told : (plain : Option Plain) (a b : Plain) → plain ≡ Some a → plain ≡ Some b → a ≡ b
one_told plain a b is js = some_same a b (sym is ∙ js)

pub one_reason : (p : Protocol) → OneReason p
one_reason p s es goal places plain (NoStart i) (NoStart j) m n a b = same_start p s es i j a b
one_reason p s es goal places plain (NoStart i) (NoStep r) m n a b = absurd (no_start p s es i a b.start)
one_reason p s es goal places plain (NoStart i) NoGoal m n a b = absurd (no_start p s es i a b.run.start)
one_reason p s es goal places plain (NoStart i) NoHeading m n a b = absurd (no_start p s es i a b.0.run.start)
one_reason p s es goal places plain (NoStart i) NoPlain m n a b = absurd (no_start p s es i a b.unsafe_run.run.start)
one_reason p s es goal places plain (NoStep r) (NoStart j) m n a b = absurd (no_start p s es j b a.start)
one_reason p s es goal places plain (NoStep r) (NoStep q) m n a b = ap NoStep (same_step p s es r q a b)
one_reason p s es goal places plain (NoStep r) NoGoal m n a b = absurd (no_run p s es r a b.run.legal)
one_reason p s es goal places plain (NoStep r) NoHeading m n a b = absurd (no_run p s es r a b.0.run.legal)
one_reason p s es goal places plain (NoStep r) NoPlain m n a b = absurd (no_run p s es r a b.unsafe_run.run.legal)
one_reason p s es goal places plain NoGoal (NoStart j) m n a b = absurd (no_start p s es j b a.run.start)
one_reason p s es goal places plain NoGoal (NoStep q) m n a b = absurd (no_run p s es q b a.run.legal)
one_reason p s es goal places plain NoGoal NoGoal m n a b = refl
one_reason p s es goal places plain NoGoal NoHeading m n a b = absurd (a.ends b.0.ends)
one_reason p s es goal places plain NoGoal NoPlain m n a b = absurd (a.ends b.unsafe_run.ends)
one_reason p s es goal places plain NoHeading (NoStart j) m n a b = absurd (no_start p s es j b a.0.run.start)
one_reason p s es goal places plain NoHeading (NoStep q) m n a b = absurd (no_run p s es q b a.0.run.legal)
one_reason p s es goal places plain NoHeading NoGoal m n a b = absurd (b.ends a.0.ends)
one_reason p s es goal places plain NoHeading NoHeading m n a b = refl
one_reason p s es goal places plain NoHeading NoPlain m n a b = absurd (let no = a.1 in let yes = b.heading in cc)
one_reason p s es goal places plain NoPlain (NoStart j) m n a b = absurd (no_start p s es j b a.unsafe_run.run.start)
one_reason p s es goal places plain NoPlain (NoStep q) m n a b = absurd (no_run p s es q b a.unsafe_run.run.legal)
one_reason p s es goal places plain NoPlain NoGoal m n a b = absurd (b.ends a.unsafe_run.ends)
one_reason p s es goal places plain NoPlain NoHeading m n a b = absurd (let no = b.1 in let yes = a.heading in cc)
one_reason p s es goal places plain NoPlain NoPlain m n a b = refl
one_reason p s es goal places plain Memory other m n a b = absurd (m refl)
one_reason p s es goal places plain one Memory m n a b = absurd (n refl)

pub no_reason : (p : Protocol) → NoReason p
no_reason p s es goal places plain (NoStart i) m good bad = no_start p s es i bad good.unsafe_run.run.start
no_reason p s es goal places plain (NoStep r) m good bad = no_run p s es r bad good.unsafe_run.run.legal
no_reason p s es goal places plain NoGoal m good bad = bad.ends good.unsafe_run.ends
no_reason p s es goal places plain NoHeading m good bad = let no = bad.1 in let yes = good.heading in cc
no_reason p s es goal places (Some told) NoPlain m good bad =
    let same : told ≡ bad.told = some_same told bad.told bad.is_told in
    let no = bad.fails in
    let yes = good.fails in
    cc
no_reason p s es goal places None NoPlain m good bad = let none = bad.is_told in cc
no_reason p s es goal places plain Memory m good bad = m refl
