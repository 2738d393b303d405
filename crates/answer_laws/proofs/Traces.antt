-- `replay` accepts the trace that `check` prints.
use Rattle.std.proofs.Common.{◌≡◌, ◌⊎◌, nat_lt, true, ℕ, List, length, Option, Some, None, Result, Ok, Err, slice_get, refl, sym, ap, subst, ◌∙◌, arith, inl, inr}
use Rattle.std.specs.Prelude.{IsTrue, IfSome}
use Rattle.std.specs.List.{list_all}
use Rattle.std.proofs.lemmas.Bool.{eq-eqb}
use Rattle.std.proofs.lemmas.List.Elements.{All-weaker}
use Rattle.cub_base.proofs.Bools.{and_both, is_less}
use Rattle.cub_base.proofs.Elements.{from_all}
use Rattle.cub_proto.specs.declared.budget.Budget.{Budget}
use Rattle.cub_proto.specs.declared.event.Event.{Event}
use Rattle.cub_proto.specs.declared.event.Plain.{Plain}
use Rattle.cub_proto.specs.declared.event.Trace.{Trace}
use Rattle.cub_proto.specs.declared.protocol.Goal.{Goal}
use Rattle.cub_proto.specs.declared.protocol.Protocol.{Protocol}
use Rattle.cub_proto.specs.Configuration.{Configuration, process_count, IsAlive}
use Rattle.cub_proto.specs.Legal.{after_all}
use Rattle.cub_proto.proofs.StateValues.{alive_within}
use Rattle.log_form.specs.Log.{LogValue}
use Rattle.replay.specs.Machine.{MakesUnsafe}
use Rattle.text_lines.proofs.ReadingLaws.{one_reading}
use Rattle.trace_judge.specs.Plain.{fails_plainly}
use Rattle.trace_judge.specs.Judge.{IsAccepted, IsRefused}
use Rattle.trace_judge.proofs.OneJudgement.{no_reason}
use Rattle.trace_text.specs.Lawful.{has_places, is_lawful_goal, steps_in, is_lawful_end, IsLawful}
use Rattle.trace_text.specs.Place.{Heading, TraceReads, takes, trace_at, kind_at}
use Rattle.trace_text.proofs.Takes.{one}
use Rattle.trace_text.proofs.Again.{reads_back}
use Rattle.trace_laws.proofs.Chains.{count_all}
use Rattle.trace_laws.specs.declared.chain.Link.{Link}
use Rattle.trace_build.specs.Trace.{IsTraceOf}
use Rattle.answer_lines.specs.Lines.{replays_line}
use Rattle.check_answers.specs.Checked.{IsUnsafe, AnswersCheck, TellsLog}
use Rattle.answer_laws.specs.Replays.{Accepts, Refuses, AnswersTrace, ReplayAccepts}
use Rattle.answer_laws.proofs.Picks.{run_picks}
use Rattle.answer_laws.proofs.Plains.{plain_inside}

-- ---- the trace of a chain may be written and read
goal_there : (p : Protocol) (n : ℕ) (s : Configuration) (goal : ℕ) (places : List ℕ) → process_count s ≡ n → MakesUnsafe p s goal places → IsTrue (is_lawful_goal p n goal places)
goal_there p n s goal places count makes =
    let g : Goal = makes.goal in
    let named : IsTrue (has_places (slice_get p.goals goal) places) = ap (λ o. has_places o places) makes.is_there ∙ eq-eqb (length places) g.width makes.satisfied.one_each in
    and_both (has_places (slice_get p.goals goal) places) (list_all (λ i. nat_lt i n) places) named
    (from_all (λ i. nat_lt i n) places
    (All-weaker (IsAlive s) (λ i. IsTrue (nat_lt i n)) (λ i h. let inside = alive_within s i h in is_less i n (omega arith)) places makes.satisfied.processes.alive))

end_there : (p : Protocol) (s : Configuration) (events : List Event) (plain : Option Plain) → IfSome plain (λ told. fails_plainly p s events told ≡ true) → IsTrue (is_lawful_end (process_count s) events plain)
end_there p s events None fails = refl
end_there p s events (Some told) fails =
    let inside = plain_inside p s events told fails in
    and_both (nat_lt told.step (steps_in events)) (nat_lt told.process (process_count s)) (is_less told.step (steps_in events) inside.0) (is_less told.process (process_count s) inside.1)

trace_lawful : (p : Protocol) (chain : List Link) (t : Trace) → IsTraceOf p chain t → IsLawful p t
trace_lawful p chain t of =
    let s : Configuration = t.start in
    let accepted = of.accepted in
    let run = accepted.unsafe_run.run in
    let few = of.few in
    let fit = of.replayed.follows.fit in
    let picks = run_picks p s t.events run.legal in
    record {
      few = omega arith;
      start = of.replayed.starts;
      few_events = of.replayed.follows.few;
      events = λ k d below. and_both _ _ (fit k d below) (picks k d below);
      goal = goal_there p (process_count s) (after_all p s t.events) t.goal t.places (count_all p s t.events) accepted.unsafe_run.ends;
      plain = end_there p s t.events t.plain accepted.fails;
    }

-- ---- bytes that read as an accepted trace have one answer
ok_same : {A B : Type 0} (x y : A) → ◌≡◌ {A = Result A B} (Ok x) (Ok y) → x ≡ y
ok_same x y h = cc

apart : {A B : Type 0} (x : A) (y : B) → ◌≡◌ {A = Result A B} (Ok x) (Err y) → ⊥
apart x y h = cc

module _ (p : Protocol) (bytes : List ℕ) (t : Trace) (read : TraceReads p Heading 1 bytes (Ok t)) (accepted : IsAccepted p t.start t.events t.goal t.places t.plain) where
  once_read : (o : Result Trace (ℕ × ℕ)) → TraceReads p Heading 1 bytes o → Ok t ≡ o
  once_read o r = one_reading (takes p) trace_at kind_at (one p) read r

  judged : (u : Trace) (status : ℕ) (line : List ℕ) → u ≡ t → Accepts p u status line ⊎ Refuses p u status line → (status ≡ 0) × (line ≡ replays_line t.events)
  judged u status line same (inl a) = (a.status_is, a.line_is ∙ ap (λ (x : Trace). replays_line x.events) same)
  judged u status line same (inr r) =
      absurd (no_reason p t.start t.events t.goal t.places t.plain r.refusal r.known accepted (subst (λ (x : Trace). IsRefused p x.start x.events x.goal x.places x.plain r.refusal) same r.refused))

  alone : (status : ℕ) (line : List ℕ) → AnswersTrace p bytes status line → (status ≡ 0) × (line ≡ replays_line t.events)
  alone status line (inl unread) = absurd (apart t (unread.at, unread.kind) (once_read (Err (unread.at, unread.kind)) unread.first))
  alone status line (inr answer) = judged answer.trace status line (sym (ok_same t answer.trace (once_read (Ok answer.trace) answer.read))) answer.answer

-- ---- the trace that is told
unsafe_replays : (log : LogValue) (status : ℕ) (text : List ℕ) → IsUnsafe log status text → ReplayAccepts log.protocol status text
unsafe_replays log status text bad =
    let p : Protocol = log.protocol in
    let t : Trace = bad.trace in
    let read : TraceReads p Heading 1 text (Ok t) =
    subst (λ bytes. TraceReads p Heading 1 bytes (Ok t)) (sym bad.text_is) (reads_back p t (trace_lawful p bad.of_node.0 t bad.of_node.2) 1) in
    record {
      trace = t;
      told = bad.status_is;
      read = read;
      accepted = inr (record { trace = t; read = read; answer = inl (record { accepted = bad.run; status_is = refl; line_is = refl }) });
      alone = alone p text t read bad.run;
    }

told_unsafe : (format : ℕ) (log : LogValue) (status : ℕ) (text : List ℕ) → (status ≡ 1) ⊎ (status ≡ 2) → TellsLog format log status text → IsUnsafe log status text
told_unsafe format log status text (inl is) (inl safe) = absurd (let no = safe.status_is in omega (arith, is, no))
told_unsafe format log status text (inr is) (inl safe) = absurd (let no = safe.status_is in omega (arith, is, no))
told_unsafe format log status text either (inr (inl bad)) = bad
told_unsafe format log status text (inl is) (inr (inr open_log)) = absurd (let no = open_log.status_is in omega (arith, is, no))
told_unsafe format log status text (inr is) (inr (inr open_log)) = absurd (let no = open_log.status_is in omega (arith, is, no))

pub replay_accepts : (p : Protocol) (budget : Budget) (format status : ℕ) (text : List ℕ) → (status ≡ 1) ⊎ (status ≡ 2) → AnswersCheck budget format p status text → ReplayAccepts p status text
replay_accepts p budget format status text either answer =
    subst (λ q. ReplayAccepts q status text) answer.protocol (unsafe_replays answer.log status text (told_unsafe format answer.log status text either answer.tells))
