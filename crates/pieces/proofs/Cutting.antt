-- What a step did is undone by cutting back.
use Rattle.std.proofs.Common.{◌≡◌, ℕ, zero, suc, ◌+◌, Bool, true, false, List, [], ◌∷◌, ◌++◌, length, take, Option, Some, None, refl, ap, ◌∙◌, subst}
use Rattle.std.specs.Prelude.{slice_index_or, slice_set, nat_lt, if◌then◌else◌, not, ◌&&◌}
use Rattle.cub_proto.specs.declared.literal.Term.{Term}
use Rattle.cub_proto.specs.declared.literal.Lit.{Lit}
use Rattle.cub_proto.specs.declared.transition.Update.{Update}
use Rattle.cub_proto.specs.declared.transition.Transition.{Transition}
use Rattle.cub_proto.specs.Signature.{Signature, sort_of}
use Rattle.cub_proto.specs.Fits.{is_any}
use Rattle.updates.specs.declared.choice.Choice.{Choice}
use Rattle.updates.specs.Ways.{way, condition}
use Rattle.updates.specs.Chosen.{choice, chosen_value}
use Rattle.piece_choices.specs.Placings.{is_among}
use Rattle.piece_choices.specs.Picks.{Pick}
use Rattle.piece_steps.specs.Steps.{Draft, Step, Param, Guard, Other, Branch, Fail, Choose, Late, choice_at, at_place, at_new_place, guarded, permitted, branched, failed, picked}
use Rattle.pieces.specs.Marks.{choice_back, cut_back, mark_of}
use Rattle.pieces.specs.Options.{update_at, place_option, permit_option, branch_option, fail_option, value_at, value_option, option_at}
use Rattle.pieces.specs.Jobs.{term_number}

take_all : {A : Type 0} (xs : List A) → take (length xs) xs ≡ xs
take_all [] = refl
take_all (x ∷ xs) = ap (λ ys. x ∷ ys) (take_all xs)

take_front : {A : Type 0} (xs ys : List A) → take (length xs) (xs ++ ys) ≡ xs
take_front [] [] = refl
take_front [] (y ∷ ys) = refl
take_front (x ∷ xs) ys = ap (λ zs. x ∷ zs) (take_front xs ys)

-- the choice at a place
abbrev at_number : List Choice → ℕ → Choice
at_number cs i = slice_index_or cs i (choice (Term.Global 0) (way 0 []))

set_same : (cs : List Choice) (i : ℕ) (c : Choice) → c ≡ slice_index_or cs i (choice (Term.Global 0) (way 0 [])) → slice_set cs i c ≡ cs
set_same [] i c same = refl
set_same (d ∷ ds) zero c same = ap (λ e. e ∷ ds) same
set_same (d ∷ ds) (suc i) c same = ap (λ es. d ∷ es) (set_same ds i c same)

-- set and set again; the second item is made from the first
set_back : (f : Choice → Choice) (cs : List Choice) (i : ℕ) (c : Choice) → f c ≡ slice_index_or cs i (choice (Term.Global 0) (way 0 []))
    → slice_set (slice_set cs i c) i (f (slice_index_or (slice_set cs i c) i (choice (Term.Global 0) (way 0 [])))) ≡ cs
set_back f [] i c same = refl
set_back f (d ∷ ds) zero c same = ap (λ e. e ∷ ds) same
set_back f (d ∷ ds) (suc i) c same = ap (λ es. d ∷ es) (set_back f ds i c same)

-- field by field
fields : (i : ℕ) (d e : Draft) → take (length d.params) e.params ≡ d.params → take (length d.others) e.others ≡ d.others
    → slice_set e.choices i (choice_back (mark_of i d) (choice_at e i)) ≡ d.choices → take (length d.lits) e.lits ≡ d.lits → cut_back (mark_of i d) e ≡ d
fields i d e params others choices lits =
    let first : List ℕ → Draft = λ x. record {
      params = x;
      inner = d.inner;
      width = d.width;
      guard = d.guard;
      others = take (length d.others) e.others;
      choices = slice_set e.choices i (choice_back (mark_of i d) (choice_at e i));
      lits = take (length d.lits) e.lits;
    } in
    let second : List ℕ → Draft = λ x. record d { others = x; choices = slice_set e.choices i (choice_back (mark_of i d) (choice_at e i)); lits = take (length d.lits) e.lits } in
    let third : List Choice → Draft = λ x. record d { choices = x; lits = take (length d.lits) e.lits } in
    let fourth : List Lit → Draft = λ x. record d { lits = x } in
    ap first params ∙ ap second others ∙ ap third choices ∙ ap fourth lits

-- a choice as it was
same_choice : (d : Draft) (i : ℕ) → choice_back (mark_of i d) (choice_at d i) ≡ choice_at d i
same_choice d i = let f : List ℕ → Choice = λ x. record (choice_at d i) { fails = x } in ap f (take_all (choice_at d i).fails)

same_choices : (d : Draft) (i : ℕ) → slice_set d.choices i (choice_back (mark_of i d) (choice_at d i)) ≡ d.choices
same_choices d i = set_same d.choices i (choice_back (mark_of i d) (choice_at d i)) (same_choice d i)

-- nothing was done
pub cut_same : (i : ℕ) (d : Draft) → cut_back (mark_of i d) d ≡ d
cut_same i d = fields i d d (take_all d.params) (take_all d.others) (same_choices d i) (take_all d.lits)

cut_place : (i : ℕ) (d : Draft) (q : ℕ) → cut_back (mark_of i d) (at_place d q) ≡ d
cut_place i d q = fields i d (at_place d q) (take_front d.params (q ∷ [])) (take_all d.others) (same_choices d i) (take_all d.lits)

cut_new : (i : ℕ) (d : Draft) → cut_back (mark_of i d) (at_new_place d) ≡ d
cut_new i d = fields i d (at_new_place d) (take_front d.params (d.inner ∷ [])) (take_all d.others) (same_choices d i) (take_all d.lits)

cut_permit : (i : ℕ) (t : Transition) (d : Draft) (q n : ℕ) → cut_back (mark_of i d) (permitted t d q n) ≡ d
cut_permit i t d q n = fields i d (permitted t d q n) (take_all d.params) (take_front d.others (n ∷ [])) (same_choices d i) (take_front d.lits _)

cut_guard : (i : ℕ) (t : Transition) (d : Draft) (n : ℕ) → cut_back (mark_of i d) (guarded t d n) ≡ d
cut_guard i t d n = fields i d (guarded t d n) (take_all d.params) (take_all d.others) (same_choices d i) (take_front d.lits _)

cut_branch : (i : ℕ) (d : Draft) (u : Update) (n : ℕ) → cut_back (mark_of i d) (branched d i (choice_at d i) u n) ≡ d
cut_branch i d u n =
    fields i d (branched d i (choice_at d i) u n) (take_all d.params) (take_all d.others)
    (set_back (choice_back (mark_of i d)) d.choices i (record (choice_at d i) { branch = n }) (same_choice d i)) (take_front d.lits _)

cut_fail : (sig : Signature) (i : ℕ) (d : Draft) (cond : List Lit) (f : ℕ) → cut_back (mark_of i d) (failed sig d i (choice_at d i) cond f) ≡ d
cut_fail sig i d cond f =
    let own : List ℕ → Choice = λ x. record (choice_at d i) { fails = x } in
    fields i d (failed sig d i (choice_at d i) cond f) (take_all d.params) (take_all d.others)
    (set_back (choice_back (mark_of i d)) d.choices i (record (choice_at d i) { fails = (choice_at d i).fails ++ f ∷ [] }) (ap own (take_front (choice_at d i).fails (f ∷ [])))) (take_front d.lits _)

cut_pick : (i : ℕ) (d : Draft) (v : Pick) → cut_back (mark_of i d) (picked d i (choice_at d i) v) ≡ d
cut_pick i d v =
    fields i d (picked d i (choice_at d i) v) (take_all d.params) (take_all d.others)
    (set_back (choice_back (mark_of i d)) d.choices i (record (choice_at d i) { pick = Some v.value }) (same_choice d i)) (take_all d.lits)

-- one option of any step is undone
one : (i : ℕ) (d e f : Draft) → (f ∷ []) ≡ (e ∷ []) → cut_back (mark_of i d) f ≡ d → cut_back (mark_of i d) e ≡ d
one i d e f is h = let same : f ≡ e = cc in subst (λ x. cut_back (mark_of i d) x ≡ d) same h

permit_back : (i : ℕ) (t : Transition) (d e : Draft) (q k : ℕ) (b : Bool) → permit_option b t d q k ≡ e ∷ [] → cut_back (mark_of i d) e ≡ d
permit_back i t d e q k true is = one i d e (permitted t d q k) is (cut_permit i t d q k)
permit_back i t d e q k false is = one i d e d is (cut_same i d)

place_back : (i width : ℕ) (d e : Draft) (k : ℕ) → place_option width d k ≡ e ∷ [] → cut_back (mark_of i d) e ≡ d
place_back i width d e k = by (nat_lt k width) (is_among d.params k)
  where
    by : (x y : Bool) → (if x then (if y then [] else at_place d k ∷ []) else at_new_place d ∷ []) ≡ e ∷ [] → cut_back (mark_of i d) e ≡ d
    by true true is = cc
    by true false is = one i d e (at_place d k) is (cut_place i d k)
    by false y is = one i d e (at_new_place d) is (cut_new i d)

branch_back : (i : ℕ) (d e : Draft) (k : ℕ) (o : Option Update) → branch_option o d i k ≡ e ∷ [] → cut_back (mark_of i d) e ≡ d
branch_back i d e k None is = one i d e d is (cut_same i d)
branch_back i d e k (Some u) is = one i d e (branched d i (choice_at d i) u k) is (cut_branch i d u k)

fail_back : (sig : Signature) (i b : ℕ) (d e : Draft) (k : ℕ) (o : Option Update) → fail_option sig o d i b k ≡ e ∷ [] → cut_back (mark_of i d) e ≡ d
fail_back sig i b d e k None is = one i d e d is (cut_same i d)
fail_back sig i b d e k (Some u) is = by (nat_lt b (choice_at d i).branch) is
  where
    by : (x : Bool) → (if x then failed sig d i (choice_at d i) (condition u.branches b) k ∷ [] else d ∷ []) ≡ e ∷ [] → cut_back (mark_of i d) e ≡ d
    by true is = one i d e (failed sig d i (choice_at d i) (condition u.branches b) k) is (cut_fail sig i d (condition u.branches b) k)
    by false is = one i d e d is (cut_same i d)

value_back : (sig : Signature) (t : Transition) (i : ℕ) (d e : Draft) (k : ℕ) → value_option sig t d i k ≡ e ∷ [] → cut_back (mark_of i d) e ≡ d
value_back sig t i d e k = by (is_any (chosen_value t.updates d.params (choice_at d i)))
  where
    by : (x : Bool) → (if x then picked d i (choice_at d i) (value_at d.width (choice_at d i).term (sort_of sig (choice_at d i).term) k) ∷ [] else d ∷ []) ≡ e ∷ [] → cut_back (mark_of i d) e ≡ d
    by true is = one i d e (picked d i (choice_at d i) (value_at d.width (choice_at d i).term (sort_of sig (choice_at d i).term) k)) is (cut_pick i d (value_at d.width (choice_at d i).term (sort_of sig (choice_at d i).term) k))
    by false is = one i d e d is (cut_same i d)

pub option_back : (sig : Signature) (t : Transition) (width : ℕ) (step : Step) (d e : Draft) (k : ℕ) → option_at sig t width step d k ≡ e ∷ [] → cut_back (mark_of (term_number step) d) e ≡ d
option_back sig t width Param d e k is = place_back 0 width d e k is
option_back sig t width Guard d e k is = one 0 d e (guarded t d k) is (cut_guard 0 t d k)
option_back sig t width (Other q) d e k is = permit_back 0 t d e q k (nat_lt q d.inner && not (is_among d.params q)) is
option_back sig t width (Branch i) d e k is = branch_back i d e k (update_at t d i) is
option_back sig t width (Fail i b) d e k is = fail_back sig i b d e k (update_at t d i) is
option_back sig t width (Choose i) d e k is = value_back sig t i d e k is
option_back sig t width (Late j) d e k is = permit_back 0 t d e (d.inner + j) k (nat_lt (d.inner + j) d.width) is
