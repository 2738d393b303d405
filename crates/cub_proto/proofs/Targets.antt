-- The update of a target, where the targets of the updates rise.
use Rattle.std.proofs.Common.{◌≡◌, Bool, true, false, cond, List, [], ◌∷◌, ◌++◌, Some, None, refl, ap, ◌∙◌, arith, All}
use Rattle.std.specs.List.{list_all}
use Rattle.std.specs.Option.{option_or}
use Rattle.std.proofs.lemmas.Bool.{and_parts, eqb-true, eq-eqb, ltb-true, ne_eqb}
use Rattle.std.proofs.lemmas.List.Folds.{find-append}
use Rattle.cub_base.proofs.Searches.{found_fits, or_none}
use Rattle.cub_proto.specs.declared.transition.Target.{Target}
use Rattle.cub_proto.specs.declared.transition.Update.{Update}
use Rattle.cub_proto.specs.Effect.{same_target, update_of}
use Rattle.cub_proto.specs.Fits.{target_before, targets_rise}

-- the test of targets is equality
pub target_is : (a b : Target) → same_target a b ≡ true → a ≡ b
target_is (Target.Global g) (Target.Global h) e = ap (λ n. Target.Global n) (eqb-true g h e)
target_is (Target.Global g) (Target.Array b) e = absurd (let f : false ≡ true = e in cc)
target_is (Target.Array a) (Target.Global h) e = absurd (let f : false ≡ true = e in cc)
target_is (Target.Array a) (Target.Array b) e = ap (λ n. Target.Array n) (eqb-true a b e)

pub target_same : (a : Target) → same_target a a ≡ true
target_same (Target.Global g) = eq-eqb g g refl
target_same (Target.Array a) = eq-eqb a a refl

before_differs : (a b : Target) → target_before a b ≡ true → same_target a b ≡ false
before_differs (Target.Global g) (Target.Global h) x = ne_eqb g h (let l = ltb-true g h x in λ e. omega arith)
before_differs (Target.Global g) (Target.Array b) x = refl
before_differs (Target.Array a) (Target.Global h) x = refl
before_differs (Target.Array a) (Target.Array b) x = ne_eqb a b (let l = ltb-true a b x in λ e. omega arith)

-- the update of a target is one of the updates, with that target
pub update_found : (P : Update → Type 0) (us : List Update) (target : Target) (u : Update) → All P us → update_of us target ≡ Some u → P u × (u.target ≡ target)
update_found P us target u each h =
    let found = found_fits P (λ v. same_target v.target target) us u each h in
    (found.0, target_is u.target target found.1)

all_before : (test : Update → Bool) (done us : List Update) (u : Update) → list_all test (done ++ u ∷ us) ≡ true → test u ≡ true
all_before test [] us u h = (and_parts (test u) (list_all test us) h).0
all_before test (d ∷ ds) us u h =
    all_before test ds us u (and_parts (test d) (list_all test (ds ++ u ∷ us)) h).1

-- where targets rise, no earlier update has the target
pub fresh_target : (done us : List Update) (u : Update) → targets_rise (done ++ u ∷ us) ≡ true → update_of done u.target ≡ None
fresh_target [] us u h = refl
fresh_target (d ∷ ds) us u h =
    let parts = and_parts (list_all (λ v. target_before d.target v.target) (ds ++ u ∷ us)) (targets_rise (ds ++ u ∷ us)) h in
    let differs = before_differs d.target u.target (all_before (λ v. target_before d.target v.target) ds us u parts.0) in
    ap (λ t. cond t (Some d) (update_of ds u.target)) differs ∙ fresh_target ds us u parts.1

-- one more update leaves the other targets as they were
pub update_of_more : (done : List Update) (u : Update) (target : Target) → update_of (done ++ u ∷ []) target ≡ option_or (update_of done target) (cond (same_target u.target target) (Some u) None)
update_of_more done u target = find-append (λ v. same_target v.target target) done (u ∷ [])

pub update_of_whole : (done us : List Update) (u : Update) (target : Target) → update_of (done ++ u ∷ us) target ≡ option_or (update_of done target) (cond (same_target u.target target) (Some u) (update_of us target))
update_of_whole done us u target = find-append (λ v. same_target v.target target) done (u ∷ us)

-- elsewhere nothing changes
pub update_elsewhere : (done : List Update) (u : Update) (target : Target) → same_target u.target target ≡ false → update_of (done ++ u ∷ []) target ≡ update_of done target
update_elsewhere done u target differs =
    update_of_more done u target
    ∙ ap (λ t. option_or (update_of done target) (cond t (Some u) None)) differs ∙ or_none (update_of done target)

-- the new one is found
pub update_here : (done us : List Update) (u : Update) → update_of done u.target ≡ None → update_of (done ++ u ∷ us) u.target ≡ Some u
update_here done us u fresh =
    update_of_whole done us u u.target
    ∙ ap (λ o. option_or o (cond (same_target u.target u.target) (Some u) (update_of us u.target))) fresh
    ∙ ap (λ t. cond t (Some u) (update_of us u.target)) (target_same u.target)
