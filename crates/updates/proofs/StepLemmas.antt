-- The literal before a step is true exactly where the literal is true after it.
use Rattle.std.proofs.Common.{◌≡◌, ℕ, ◌<◌, ◌≤◌, Bool, true, false, List, [], ◌∷◌, ◌++◌, length, Option, Some, refl, sym, ap, ◌∙◌, subst, inl, inr}
use Rattle.std.specs.Prelude.{All, IsTrue, not, ◌&&◌, ◌||◌, if◌then◌else◌, filter, ◌↔◌}
use Rattle.std.specs.List.{flat_map, list_all, list_any}
use Rattle.std.specs.Option.{option_map_or}
use Rattle.std.specs.Ordering.{is_eq}
use Rattle.cub_proto.specs.declared.literal.Term.{Term}
use Rattle.cub_proto.specs.declared.literal.Lit.{Lit}
use Rattle.cub_proto.specs.declared.transition.Update.{Update}
use Rattle.cub_proto.specs.declared.state.Val.{Val}
use Rattle.cub_proto.specs.declared.state.Slot.{Slot}
use Rattle.cub_proto.specs.declared.protocol.Protocol.{Protocol}
use Rattle.cub_proto.specs.Configuration.{Configuration}
use Rattle.cub_proto.specs.Signature.{sort_of}
use Rattle.cub_proto.specs.StateOf.{IsStateOf, signature_of}
use Rattle.cub_proto.specs.Fits.{literal_fits, place_fits, update_fits}
use Rattle.cub_proto.specs.Truth.{term_value, is_true, all_true}
use Rattle.cub_proto.specs.Negation.{negated}
use Rattle.cub_proto.specs.Effect.{meaning_of, update_of, fired}
use Rattle.cub_proto.specs.Legal.{AreDistinctAlive}
use Rattle.cub_proto.proofs.Opposite.{negated_is}
use Rattle.cub_cube.specs.Normal.{is_true_alone}
use Rattle.cub_cube.specs.Mentions.{terms_of}
use Rattle.cub_cube.specs.Rename.{along, Agree}
use Rattle.cub_cube.specs.Replace.{can_replace, can_replace_all}
use Rattle.cub_cube.specs.Step.{target_of, value_after}
use Rattle.cub_base.proofs.Bools.{and_left, and_right, and_both}
use Rattle.cub_base.proofs.Members.{Has, has_all}
use Rattle.std.proofs.lemmas.Cmp.{tied_itself}
use Rattle.cub_cube.proofs.Orders.{term_cmp_total}
use Rattle.cub_cube.proofs.States.{processes_within}
use Rattle.cub_cube.proofs.Alone.{alone_true}
use Rattle.cub_cube.proofs.Negations.{negated_fits}
use Rattle.cub_cube.proofs.Agreeing.{agree_term}
use Rattle.cub_cube.proofs.Steps.{term_after}
use Rattle.cub_cube.proofs.Replaced.{replaced_true, replaced_fits_all}
use Rattle.updates.specs.declared.choice.Choice.{Choice}
use Rattle.updates.specs.declared.answer.Through.{Through}
use Rattle.updates.specs.Chosen.{choice_lits, taken_value, same_term, values_by}
use Rattle.updates.specs.Allowed.{way_fits, pick_fits, choice_fits}
use Rattle.updates.specs.Through.{is_false_alone, mentions, branch_lits, literal_before, saying, through_answer, PickAgrees, has_choice, answer_true}
use Rattle.updates.proofs.WayLemmas.{true_left, true_right, true_both}
use Rattle.updates.proofs.ChoiceLemmas.{TakesWay, way_taken, taken_can, settles, choice_found}
use Rattle.updates.proofs.Present.{has_term, term_of}

-- what a test of all says of a member
pub all_member : {A : Type 0} (test : A → Bool) (xs : List A) (x : A) → IsTrue (list_all test xs) → Has xs x → IsTrue (test x)
all_member test [] x h none = absurd none
all_member test (y ∷ ys) x h (inl same) = subst (λ z. IsTrue (test z)) same (and_left (test y) (list_all test ys) h)
all_member test (y ∷ ys) x h (inr later) = all_member test ys x (and_right (test y) (list_all test ys) h) later

pub member_all : {A : Type 0} (test : A → Bool) (xs : List A) → ((x : A) → Has xs x → IsTrue (test x)) → IsTrue (list_all test xs)
member_all test [] each = refl
member_all test (y ∷ ys) each = and_both (test y) (list_all test ys) (each y (inl refl)) (member_all test ys (λ x h. each x (inr h)))

-- a choice fits: its parts
pub record ChoiceParts (p : Protocol) (width : ℕ) (updates : List Update) (params : List ℕ) (c : Choice) : Type 0 where
  pub place : IsTrue (place_fits width c.term)
  pub way : TakesWay (update_of updates (target_of c.term)) c
  pub pick : IsTrue (pick_fits (signature_of p) width updates params c)

pub choice_parts : (p : Protocol) (width : ℕ) (updates : List Update) (params : List ℕ) (c : Choice) → IsTrue (choice_fits (signature_of p) width updates params c) → ChoiceParts p width updates params c
choice_parts p width updates params c h =
    let front = and_left (place_fits width c.term && way_fits (update_of updates (target_of c.term)) c) (pick_fits (signature_of p) width updates params c) h in
    record {
      place = and_left (place_fits width c.term) (way_fits (update_of updates (target_of c.term)) c) front;
      way = way_taken (update_of updates (target_of c.term)) c (and_right (place_fits width c.term) (way_fits (update_of updates (target_of c.term)) c) front);
      pick = and_right (place_fits width c.term && way_fits (update_of updates (target_of c.term)) c) (pick_fits (signature_of p) width updates params c) h;
    }

module _ (p : Protocol) (updates : List Update) (params : List ℕ) (fit : IsTrue (list_all (update_fits (signature_of p) (length params)) updates)) (width wide : ℕ) (narrow : width ≤ wide)
    (inside : All (λ q. q < wide) params) (choices : List Choice) (l : Lit) (fits : IsTrue (literal_fits (signature_of p) width l))
    (each : (c : Choice) → Has choices c → ChoiceParts p wide updates params c) (has : IsTrue (list_all (has_choice choices) (terms_of l))) where
  -- the value of each term can stand for it
  pub values_can : IsTrue (can_replace_all (signature_of p) wide (values_by updates params choices) l)
  values_can = member_all (λ t. option_map_or (λ sort. can_replace (signature_of p) wide sort (values_by updates params choices t)) (sort_of (signature_of p) t) false) (terms_of l) one
    where
      one : (t : Term) → Has (terms_of l) t → IsTrue (option_map_or (λ sort. can_replace (signature_of p) wide sort (values_by updates params choices t)) (sort_of (signature_of p) t) false)
      one t at =
          let term = term_of (signature_of p) width l t fits at in
          let found = choice_found updates params choices t (all_member (has_choice choices) (terms_of l) t has at) in
          let parts = each found.its found.inside in
          let sorted : sort_of (signature_of p) found.its.term ≡ Some term.sort = ap (sort_of (signature_of p)) found.term ∙ term.is_sort in
          subst (λ o. IsTrue (option_map_or (λ sort. can_replace (signature_of p) wide sort (values_by updates params choices t)) o false)) (sym term.is_sort)
          (subst (λ v. IsTrue (can_replace (signature_of p) wide term.sort v)) (sym found.value)
          (taken_can p updates params fit wide inside found.its term.sort sorted parts.place parts.pick))

mentioned : (l : Lit) (t u : Term) → Has (terms_of l) t → u ≡ t → IsTrue (mentions l u)
mentioned l t u at same = from (terms_of l) at
  where
    itself : (t : Term) → same_term t t ≡ true
    itself t = ap is_eq (tied_itself term_cmp_total t)

    from : (ts : List Term) → Has ts t → IsTrue (list_any (λ v. same_term v u) ts)
    from [] none = absurd none
    from (v ∷ vs) (inl here) = subst (λ w. IsTrue (same_term v w || list_any (λ x. same_term x u) vs)) (here ∙ sym same) (ap (λ b. b || list_any (λ x. same_term x u) vs) (itself v))
    from (v ∷ vs) (inr later) = by (same_term v u) (from vs later)
      where
        by : (b : Bool) → IsTrue (list_any (λ x. same_term x u) vs) → IsTrue (b || list_any (λ x. same_term x u) vs)
        by true h = refl
        by false h = h

module _ (p : Protocol) (updates : List Update) (params : List ℕ) (fit : IsTrue (list_all (update_fits (signature_of p) (length params)) updates))
    (s : Configuration) (places : List ℕ) (state : IsStateOf p s) (distinct : AreDistinctAlive s places) (inside : All (λ q. q < length places) params)
    (pick : Slot → Option Val) (choices : List Choice) (width : ℕ) (narrow : width ≤ length places) (l : Lit) (fits : IsTrue (literal_fits (signature_of p) width l))
    (each : (c : Choice) → Has choices c → ChoiceParts p (length places) updates params c) (has : IsTrue (list_all (has_choice choices) (terms_of l)))
    (agrees : (c : Choice) → Has choices c → PickAgrees s places updates params pick c) where
  pub before_fits : IsTrue (literal_fits (signature_of p) (length places) (literal_before (signature_of p) updates params choices l))
  before_fits = replaced_fits_all p s places (values_by updates params choices) width l narrow fits (values_can p updates params fit width (length places) narrow inside choices l fits each has)

  pub before_is_after : ((c : Choice) → Has choices c → IsTrue (mentions l c.term) → IsTrue (all_true s places (choice_lits (signature_of p) updates params c)))
      → (others : List ℕ) → Agree width others places
      → is_true s places (literal_before (signature_of p) updates params choices l) ≡ is_true (fired s (along params places) updates pick) others l
  before_is_after holds others agree =
      replaced_true p s places (values_by updates params choices) (fired s (along params places) updates pick) others state distinct width l fits
      (values_can p updates params fit width (length places) narrow inside choices l fits each has) agree
      (has_all (λ t. term_value (fired s (along params places) updates pick) others t ≡ meaning_of s places (values_by updates params choices t) (term_value s places t)) (terms_of l) one)
    where
      one : (t : Term) → Has (terms_of l) t → term_value (fired s (along params places) updates pick) others t ≡ meaning_of s places (values_by updates params choices t) (term_value s places t)
      one t at =
          let term = term_of (signature_of p) width l t fits at in
          let found = choice_found updates params choices t (all_member (has_choice choices) (terms_of l) t has at) in
          let parts = each found.its found.inside in
          let place : IsTrue (place_fits (length places) t) = subst (λ u. IsTrue (place_fits (length places) u)) found.term parts.place in
          let after = agree_term (fired s (along params places) updates pick) width others places agree t term.place in
          let there = has_term p s places state distinct t term.sort term.is_sort place in
          let settled = settles p updates params fit s places state distinct inside pick found.its parts.place parts.way (holds found.its found.inside (mentioned l t found.its.term at found.term)) (agrees found.its found.inside) in
          after ∙ term_after s (along params places) updates pick places t there distinct
          ∙ subst (λ u. value_after s (along params places) updates pick places u ≡ meaning_of s places (taken_value updates params found.its) (term_value s places u)) found.term settled
          ∙ ap (λ v. meaning_of s places v (term_value s places t)) (sym found.value)

-- ---- the answer
false_alone_is : (p : Protocol) (s : Configuration) (places : List ℕ) → IsStateOf p s → AreDistinctAlive s places → (l : Lit) → IsTrue (literal_fits (signature_of p) (length places) l) → IsTrue (is_false_alone (signature_of p) l) → is_true s places l ≡ false
false_alone_is p s places state distinct l fits alone =
    by (is_true s places l) (sym (negated_is p s places state (processes_within s places distinct) l fits)
    ∙ alone_true p s places state distinct (negated (signature_of p) l) (negated_fits (signature_of p) (length places) l fits) alone)
  where
    by : (b : Bool) → not b ≡ true → b ≡ false
    by true h = cc
    by false h = refl

saying_true : (p : Protocol) (s : Configuration) (places : List ℕ) → IsStateOf p s → AreDistinctAlive s places → (l : Lit) → IsTrue (literal_fits (signature_of p) (length places) l) → all_true s places (saying (signature_of p) l) ≡ is_true s places l
saying_true p s places state distinct l fits = by (is_true_alone (signature_of p) l) refl
  where
    and_true : (b : Bool) → (b && true) ≡ b
    and_true true = refl
    and_true false = refl

    by : (b : Bool) → is_true_alone (signature_of p) l ≡ b → all_true s places (if b then [] else l ∷ []) ≡ is_true s places l
    by true e = sym (alone_true p s places state distinct l fits e)
    by false e = and_true (is_true s places l)

branches_true : (p : Protocol) (s : Configuration) (places : List ℕ) (updates : List Update) (params : List ℕ) (choices : List Choice) (l : Lit) → IsTrue (all_true s places (branch_lits (signature_of p) updates params choices l))
    → (c : Choice) → Has choices c → IsTrue (mentions l c.term) → IsTrue (all_true s places (choice_lits (signature_of p) updates params c))
branches_true p s places updates params [] l h c none m = absurd none
branches_true p s places updates params (x ∷ xs) l h c at m = by (mentions l x.term) refl h at (branches_true p s places updates params xs l)
  where
    by : (b : Bool) → mentions l x.term ≡ b → IsTrue (all_true s places (flat_map (choice_lits (signature_of p) updates params) (if b then x ∷ filter (λ d. mentions l d.term) xs else filter (λ d. mentions l d.term) xs)))
        → Has (x ∷ xs) c → (IsTrue (all_true s places (branch_lits (signature_of p) updates params xs l)) → (d : Choice) → Has xs d → IsTrue (mentions l d.term) → IsTrue (all_true s places (choice_lits (signature_of p) updates params d)))
        → IsTrue (all_true s places (choice_lits (signature_of p) updates params c))
    by true e h (inl same) rest = subst (λ d. IsTrue (all_true s places (choice_lits (signature_of p) updates params d))) same (true_left s places (choice_lits (signature_of p) updates params x) (branch_lits (signature_of p) updates params xs l) h)
    by true e h (inr later) rest = rest (true_right s places (choice_lits (signature_of p) updates params x) (branch_lits (signature_of p) updates params xs l) h) c later m
    by false e h (inl same) rest = absurd (let no : mentions l c.term ≡ false = ap (λ d. mentions l d.term) (sym same) ∙ e in cc)
    by false e h (inr later) rest = rest h c later m

module _ (p : Protocol) (updates : List Update) (params : List ℕ) (fit : IsTrue (list_all (update_fits (signature_of p) (length params)) updates))
    (s : Configuration) (places : List ℕ) (state : IsStateOf p s) (distinct : AreDistinctAlive s places) (inside : All (λ q. q < length places) params)
    (pick : Slot → Option Val) (choices : List Choice) (width : ℕ) (narrow : width ≤ length places) (l : Lit) (fits : IsTrue (literal_fits (signature_of p) width l))
    (each : (c : Choice) → Has choices c → ChoiceParts p (length places) updates params c) (has : IsTrue (list_all (has_choice choices) (terms_of l)))
    (agrees : (c : Choice) → Has choices c → PickAgrees s places updates params pick c) (others : List ℕ) (agree : Agree width others places) where
  before : Lit
  before = literal_before (signature_of p) updates params choices l

  its_lits : List Lit
  its_lits = branch_lits (signature_of p) updates params choices l

  same_after : IsTrue (all_true s places (branch_lits (signature_of p) updates params choices l)) → is_true s places (literal_before (signature_of p) updates params choices l) ≡ is_true (fired s (along params places) updates pick) others l
  same_after h = before_is_after p updates params fit s places state distinct inside pick choices width narrow l fits each has agrees (branches_true p s places updates params choices l h) others agree

  fitting : IsTrue (literal_fits (signature_of p) (length places) (literal_before (signature_of p) updates params choices l))
  fitting = before_fits p updates params fit s places state distinct inside pick choices width narrow l fits each has agrees

  pub answer_is : IsTrue (answer_true s places (through_answer (signature_of p) updates params choices l))
      ↔ (IsTrue (all_true s places (branch_lits (signature_of p) updates params choices l)) × IsTrue (is_true (fired s (along params places) updates pick) others l))
  answer_is = by (is_false_alone (signature_of p) (literal_before (signature_of p) updates params choices l)) refl
    where
      Both : Type 0
      Both = IsTrue (all_true s places (branch_lits (signature_of p) updates params choices l)) × IsTrue (is_true (fired s (along params places) updates pick) others l)

      by : (b : Bool) → is_false_alone (signature_of p) (literal_before (signature_of p) updates params choices l) ≡ b
          → IsTrue (answer_true s places (if b then Through.Never else Through.Lits (branch_lits (signature_of p) updates params choices l ++ saying (signature_of p) (literal_before (signature_of p) updates params choices l)))) ↔ (IsTrue (all_true s places (branch_lits (signature_of p) updates params choices l)) × IsTrue (is_true (fired s (along params places) updates pick) others l))
      by true e = (λ h. absurd (let x : false ≡ true = h in cc), λ both. absurd (let x = same_after both.0 in let y = both.1 in let z = false_alone_is p s places state distinct (literal_before (signature_of p) updates params choices l) fitting e in cc))
      by false e = (
        λ h.
            let ways = true_left s places (branch_lits (signature_of p) updates params choices l) (saying (signature_of p) (literal_before (signature_of p) updates params choices l)) h in
            let said = true_right s places (branch_lits (signature_of p) updates params choices l) (saying (signature_of p) (literal_before (signature_of p) updates params choices l)) h in
            (ways, sym (same_after ways) ∙ sym (saying_true p s places state distinct (literal_before (signature_of p) updates params choices l) fitting) ∙ said),
        λ both.
            true_both s places (branch_lits (signature_of p) updates params choices l) (saying (signature_of p) (literal_before (signature_of p) updates params choices l)) both.0
            (saying_true p s places state distinct (literal_before (signature_of p) updates params choices l) fitting ∙ same_after both.0 ∙ both.1),
      )
