-- A draft that stands has what its next step needs.
use Rattle.std.proofs.Common.{◌≡◌, ℕ, zero, suc, ◌+◌, ◌<◌, ◌≤◌, List, [], ◌∷◌, ◌++◌, length, drop, Some, refl, sym, ap, ◌∙◌, subst, arith}
use Rattle.std.specs.Prelude.{map, ◌&&◌, nat_le, IsTrue, All, count_by, slice_get, slice_index_or}
use Rattle.std.specs.List.{list_all}
use Rattle.std.proofs.lemmas.List.{length_push, length-map}
use Rattle.cub_base.specs.Name.{is_declarable}
use Rattle.cub_base.proofs.Bools.{and_left, and_right, and_both, le_is, less_is, same_is}
use Rattle.cub_proto.specs.declared.literal.Lit.{Lit}
use Rattle.cub_proto.specs.declared.transition.Transition.{Transition}
use Rattle.cub_proto.specs.declared.protocol.Protocol.{Protocol}
use Rattle.cub_proto.specs.Signature.{Signature}
use Rattle.cub_proto.specs.StateOf.{signature_of}
use Rattle.cub_proto.specs.Fits.{conjunction_fits, formula_fits, update_fits, transition_fits, targets_rise, picks_process}
use Rattle.cub_cube.specs.Mentions.{terms_in}
use Rattle.cub_cube.specs.Rename.{is_within}
use Rattle.cub_cube.proofs.RenamedFits.{all_fits_within}
use Rattle.updates.proofs.Fitting.{conjunction_literals}
use Rattle.updates.proofs.WayLemmas.{all_at}
use Rattle.piece_choices.proofs.Fitting.{its_transition}
use Rattle.piece_choices.proofs.Widths.{transition_few}
use Rattle.piece_steps.specs.Steps.{Draft, Step, Param, Guard, Other, Branch, Fail, Choose, Late}
use Rattle.piece_steps.specs.DraftFits.{params_in}
use Rattle.pieces.specs.declared.step.Step.{Step as CodeStep}
use Rattle.pieces.specs.Jobs.{Search, as_step, step_at, is_step_within, Stands, IsReady}

-- ---- the steps to go
pub drop_step : (steps : List Step) (n : ℕ) → n < length steps → drop n steps ≡ slice_index_or steps n Guard ∷ drop (n + 1) steps
drop_step [] n h = absurd (omega arith)
drop_step (s ∷ ss) zero h = refl
drop_step (s ∷ ss) (suc n) h = let one : suc n + 1 ≡ suc (n + 1) = omega arith in drop_step ss n (omega arith) ∙ ap (λ m. slice_index_or ss n Guard ∷ drop m (s ∷ ss)) (sym one)

pub code_step : (codes : List CodeStep) (n : ℕ) → n < length codes → slice_index_or (map as_step codes) n Guard ≡ as_step (slice_index_or codes n CodeStep.Param)
code_step [] n h = absurd (omega arith)
code_step (s ∷ ss) zero h = refl
code_step (s ∷ ss) (suc n) h = code_step ss n (omega arith)

-- ---- what the type of protocols keeps of a transition
pub record IsSmall (t : Transition) : Type 0 where
  pub guard : length t.guard ≤ 64
  pub others : length t.others ≤ 64

pub transition_small : (p : Protocol) (number : ℕ) (t : Transition) → slice_get p.transitions number ≡ Some t → IsSmall t
transition_small p number t at = of_fit (found p.transitions number at p.transitions_fit)
  where
    found : (ts : List Transition) (n : ℕ) → slice_get ts n ≡ Some t → All (λ x. IsTrue (transition_fits (signature_of p) x)) ts → IsTrue (transition_fits (signature_of p) t)
    found [] n e all = cc
    found (x ∷ xs) zero e all = let same : x ≡ t = cc in subst (λ y. IsTrue (transition_fits (signature_of p) y)) same (all 0 x (omega arith))
    found (x ∷ xs) (suc n) e all = found xs n e (λ k d below. all (suc k) d (omega arith))

    of_fit : IsTrue (transition_fits (signature_of p) t) → IsSmall t
    of_fit h =
        let sig = signature_of p in
        let a = is_declarable t.name in
        let b = nat_le (t.params + count_by (picks_process sig) t.updates) 3 in
        let g = formula_fits sig t.params t.guard in
        let o = formula_fits sig (t.params + 1) t.others in
        let u = list_all (update_fits sig t.params) t.updates in
        let four = and_left (a && b && g && o) u (and_left (a && b && g && o && u) (targets_rise t.updates) h) in
        let three = and_left (a && b && g) o four in
        record {
          guard = le_is (length t.guard) 64 (and_left (nat_le (length t.guard) 64) (list_all (conjunction_fits sig t.params) t.guard) (and_right (a && b) g three));
          others = le_is (length t.others) 64 (and_left (nat_le (length t.others) 64) (list_all (conjunction_fits sig (t.params + 1)) t.others) (and_right (a && b && g) o four));
        }

alternatives_within : (sig : Signature) (width : ℕ) (conjs : List (List Lit)) → IsTrue (list_all (conjunction_fits sig width) conjs) → IsTrue (list_all (list_all (is_within width)) conjs)
alternatives_within sig width [] h = refl
alternatives_within sig width (c ∷ cs) h =
    and_both (list_all (is_within width) c) (list_all (list_all (is_within width)) cs)
    (all_fits_within sig width c (conjunction_literals sig width c (and_left (conjunction_fits sig width c) (list_all (conjunction_fits sig width) cs) h)))
    (alternatives_within sig width cs (and_right (conjunction_fits sig width c) (list_all (conjunction_fits sig width) cs) h))

-- one alternative is over the places
pub alternative_within : (width : ℕ) (params : List ℕ) (q : ℕ) (conjs : List (List Lit)) (k : ℕ) → width ≡ length params + 1 → IsTrue (list_all (list_all (is_within width)) conjs) → k < length conjs → IsTrue (list_all (is_within (length (params ++ q ∷ []))) (slice_index_or conjs k []))
alternative_within width params q conjs k size h below =
    subst (λ n. IsTrue (list_all (is_within n) (slice_index_or conjs k []))) (size ∙ sym (length_push params q)) (all_at (list_all (is_within width)) conjs k [] h below)

-- ---- the next step
module _ (j : Search) (step : Step) (rest : List Step) (d : Draft) (stands : Stands j (step ∷ rest) d) where
  few_params : length d.params < 12
  few_params = let n = stands.fits.count in let few = transition_few j.protocol j.number j.transition stands.job.its in omega (arith, n, few)

  narrow_inner : d.inner ≤ d.width
  narrow_inner = stands.fits.within

  narrow_width : d.width ≤ 11
  narrow_width = let n = stands.narrow in omega (arith, n)

  count_terms : length d.choices ≡ length (terms_in j.cube.lits)
  count_terms = sym (length-map d.choices (λ c. c.term)) ∙ ap length stands.terms

  own_within : IsTrue (is_step_within (length (terms_in j.cube.lits)) step)
  own_within = and_left (is_step_within (length (terms_in j.cube.lits)) step) (list_all (is_step_within (length (terms_in j.cube.lits))) rest) stands.within

  all_params : params_in (step ∷ rest) ≡ 0 → length d.params ≡ j.transition.params
  all_params none = let n = stands.fits.count in omega (arith, n)

  guard_ready : params_in (step ∷ rest) ≡ 0 → IsReady j.protocol j.transition Guard d
  guard_ready none =
      let fit = its_transition j.protocol j.number j.transition stands.job.its in (
        (transition_small j.protocol j.number j.transition stands.job.its).guard,
        subst (λ n. IsTrue (list_all (list_all (is_within n)) j.transition.guard)) (sym (all_params none)) (alternatives_within (signature_of j.protocol) j.transition.params j.transition.guard fit.guard),
      )

  others_within : params_in (step ∷ rest) ≡ 0 → IsTrue (list_all (list_all (is_within (length d.params + 1))) j.transition.others)
  others_within none =
      let fit = its_transition j.protocol j.number j.transition stands.job.its in
      subst (λ n. IsTrue (list_all (list_all (is_within (n + 1))) j.transition.others)) (sym (all_params none)) (alternatives_within (signature_of j.protocol) (j.transition.params + 1) j.transition.others fit.others)

  others_small : length j.transition.others ≤ 64
  others_small = (transition_small j.protocol j.number j.transition stands.job.its).others

  updates_ready : params_in (step ∷ rest) ≡ 0 → IsTrue (list_all (update_fits (signature_of j.protocol) (length d.params)) j.transition.updates)
  updates_ready none =
      let fit = its_transition j.protocol j.number j.transition stands.job.its in
      subst (λ n. IsTrue (list_all (update_fits (signature_of j.protocol) n) j.transition.updates)) (sym (all_params none)) fit.updates

  index_below : (i : ℕ) → is_step_within (length (terms_in j.cube.lits)) step ≡ is_step_within (length (terms_in j.cube.lits)) (Branch i) → i < length d.choices
  index_below i same = let below = less_is i (length (terms_in j.cube.lits)) (sym same ∙ own_within) in omega (arith, below, count_terms)

ready : (j : Search) (step : Step) (rest : List Step) (d : Draft) → Stands j (step ∷ rest) d → IsReady j.protocol j.transition step d
ready j Param rest d s = let narrow = narrow_width j Param rest d s in let inner = narrow_inner j Param rest d s in (few_params j Param rest d s, omega (arith, narrow, inner))
ready j Guard rest d s = guard_ready j Guard rest d s (same_is (params_in rest) 0 s.fits.first)
ready j (Other q) rest d s = (few_params j (Other q) rest d s, others_small j (Other q) rest d s, others_within j (Other q) rest d s (same_is (params_in rest) 0 s.fits.first))
ready j (Branch i) rest d s = (index_below j (Branch i) rest d s i refl, few_params j (Branch i) rest d s, updates_ready j (Branch i) rest d s (same_is (params_in rest) 0 s.fits.first))
ready j (Fail i b) rest d s = (index_below j (Fail i b) rest d s i refl, few_params j (Fail i b) rest d s, updates_ready j (Fail i b) rest d s (same_is (params_in rest) 0 s.fits.first))
ready j (Choose i) rest d s = (
  index_below j (Choose i) rest d s i refl,
  few_params j (Choose i) rest d s,
  updates_ready j (Choose i) rest d s (same_is (params_in rest) 0 s.fits.first),
  (let narrow = narrow_width j (Choose i) rest d s in omega (arith, narrow)),
)
ready j (Late m) rest d s = (
  few_params j (Late m) rest d s,
  others_small j (Late m) rest d s,
  others_within j (Late m) rest d s (same_is (params_in rest) 0 s.fits.first),
  narrow_inner j (Late m) rest d s,
  (let narrow = narrow_width j (Late m) rest d s in omega (arith, narrow)),
)

pub ready_at : (j : Search) (codes : List CodeStep) (d : Draft) (at : ℕ) → j.steps ≡ map as_step codes → at < length j.steps → Stands j (drop at j.steps) d → IsReady j.protocol j.transition (as_step (slice_index_or codes at CodeStep.Param)) d
ready_at j codes d at are below stands =
    let count : length j.steps ≡ length codes = ap length are ∙ length-map codes as_step in
    let same : step_at j at ≡ as_step (slice_index_or codes at CodeStep.Param) = ap (λ ss. slice_index_or ss at Guard) are ∙ code_step codes at (omega (arith, below, count)) in
    subst (λ s. IsReady j.protocol j.transition s d) same (ready j (step_at j at) (drop (at + 1) j.steps) d (subst (λ ss. Stands j ss d) (drop_step j.steps at below) stands))
