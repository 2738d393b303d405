-- Steps of the list of consistent goals.
use Rattle.std.proofs.Common.{◌≡◌, ℕ, ◌+◌, ◌<◌, ◌≤◌, List, [], ◌∷◌, ◌++◌, map, length, get_or, take, refl, sym, ap, ◌∙◌, subst, arith, inl, inr}
use Rattle.std.specs.Prelude.{Contains}
use Rattle.std.proofs.lemmas.List.{take_more, take_all, map_push, length-map, length-take-le}
use Rattle.std.proofs.lemmas.List.Elements.{Contains-get_or}
use Rattle.cub_proto.specs.declared.protocol.Goal.{Goal}
use Rattle.cub_proto.specs.declared.protocol.Protocol.{Protocol}
use Rattle.cub_proto.specs.declared.literal.Lit.{Lit}
use Rattle.cub_proto.specs.StateOf.{signature_of}
use Rattle.cub_cube.specs.declared.cube.Cube.{Cube}
use Rattle.cub_cube.specs.Normal.{normal_form}
use Rattle.cub_cube.specs.Goals.{goal_cube}
use Rattle.cub_cube.specs.Kept.{Keeps}
use Rattle.cub_cube.specs.Meaning.{IsConsistent}
use Rattle.log_form.specs.declared.numbered.Numbered.{Numbered}
use Rattle.log_form.specs.Numbering.{with_number, numbered, AreRoots}
use Rattle.log_form.specs.Pieces.{IsFit, widest, greatest_asked}
use Rattle.log_form.specs.Depth.{bound_at}
use Rattle.log_form.proofs.Depths.{goal_fit}
use Rattle.log_form.proofs.FormFits.{fit_more}
use Rattle.log_steps.proofs.JudgeLemmas.{numbered_more}

pub goal_asks : (p : Protocol) (i : ℕ) (g : Goal) → i < length p.goals → g ≡ get_or p.goals i g → IsFit p widest greatest_asked (goal_cube p g)
goal_asks p i g below is =
    fit_more p widest (bound_at 0) greatest_asked (goal_cube p g) (omega arith)
    (goal_fit p g (subst (Contains p.goals) (sym is) (Contains-get_or p.goals i g below)))

-- one more item, kept or dropped
keeps_one : {A : Type 0} (P : A → Type 0) (xs ys : List A) (x : A) → P x → Keeps P xs ys → Keeps P (xs ++ x ∷ []) (ys ++ x ∷ [])
keeps_one P [] ys x here h = inl (here, ([], ap (λ zs. zs ++ x ∷ []) h, refl))
keeps_one {A} P (z ∷ xs) ys x here (inl (p, (zs, is, rest))) = inl (p, (zs ++ x ∷ [], ap (λ us. us ++ x ∷ []) is, keeps_one P xs zs x here rest))
keeps_one P (z ∷ xs) ys x here (inr (out, rest)) = inr (out, keeps_one P xs ys x here rest)

keeps_none : {A : Type 0} (P : A → Type 0) (xs ys : List A) (x : A) → (P x → ⊥) → Keeps P xs ys → Keeps P (xs ++ x ∷ []) ys
keeps_none P [] ys x here h = inr (here, h)
keeps_none {A} P (z ∷ xs) ys x here (inl (p, (zs, is, rest))) = inl (p, (zs, is, keeps_none P xs zs x here rest))
keeps_none P (z ∷ xs) ys x here (inr (out, rest)) = inr (out, keeps_none P xs ys x here rest)

-- the consistent ones of the first goals
abbrev pub AreRootsOf : Protocol → List Goal → List Numbered → Type 0
AreRootsOf p goals roots = Keeps (λ (r : Numbered). IsConsistent p r.cube.width r.cube.lits) (numbered (map (goal_cube p) goals)) roots

-- the numbered goals with one more
more_goals : (p : Protocol) (i n : ℕ) (g : Goal) → i < length p.goals → g ≡ get_or p.goals i g → n ≡ i
    → numbered (map (goal_cube p) (take i p.goals)) ++ with_number n (goal_cube p g) ∷ [] ≡ numbered (map (goal_cube p) (take (i + 1) p.goals))
more_goals p i n g below is count =
    let taken : length (map (goal_cube p) (take i p.goals)) ≡ i = length-map (take i p.goals) (goal_cube p) ∙ length-take-le i p.goals (omega arith) in
    numbered_more (map (goal_cube p) (take i p.goals)) (goal_cube p g) n (count ∙ sym taken)
    ∙ ap numbered (sym (map_push (goal_cube p) (take i p.goals) g) ∙ ap (map (goal_cube p)) (ap (λ h. take i p.goals ++ h ∷ []) is ∙ sym (take_more p.goals i g below)))

pub root_kept : (p : Protocol) (i n : ℕ) (g : Goal) (c : Cube) (list new : List Numbered) → i < length p.goals → g ≡ get_or p.goals i g → n ≡ i → c ≡ goal_cube p g → IsConsistent p c.width c.lits
    → new ≡ list ++ with_number n c ∷ [] → AreRootsOf p (take i p.goals) list → AreRootsOf p (take (i + 1) p.goals) new
root_kept p i n g c list new below is count same possible pushed are =
    subst (λ ys. Keeps (λ (r : Numbered). IsConsistent p r.cube.width r.cube.lits) ys new) (ap (λ d. numbered (map (goal_cube p) (take i p.goals)) ++ with_number n d ∷ []) same ∙ more_goals p i n g below is count)
    (subst (Keeps (λ (r : Numbered). IsConsistent p r.cube.width r.cube.lits) (numbered (map (goal_cube p) (take i p.goals)) ++ with_number n c ∷ [])) (sym pushed)
    (keeps_one (λ (r : Numbered). IsConsistent p r.cube.width r.cube.lits) (numbered (map (goal_cube p) (take i p.goals))) list (with_number n c) possible are))

pub root_dropped : (p : Protocol) (i n : ℕ) (g : Goal) (c : Cube) (list : List Numbered) → i < length p.goals → g ≡ get_or p.goals i g → n ≡ i → c ≡ goal_cube p g → (IsConsistent p c.width c.lits → ⊥)
    → AreRootsOf p (take i p.goals) list → AreRootsOf p (take (i + 1) p.goals) list
root_dropped p i n g c list below is count same impossible are =
    subst (λ ys. Keeps (λ (r : Numbered). IsConsistent p r.cube.width r.cube.lits) ys list) (ap (λ d. numbered (map (goal_cube p) (take i p.goals)) ++ with_number n d ∷ []) same ∙ more_goals p i n g below is count)
    (keeps_none (λ (r : Numbered). IsConsistent p r.cube.width r.cube.lits) (numbered (map (goal_cube p) (take i p.goals))) list (with_number n c) impossible are)

pub roots_all : (p : Protocol) (i : ℕ) (list : List Numbered) → length p.goals ≤ i → AreRootsOf p (take i p.goals) list → AreRoots p list
roots_all p i list past are = subst (λ gs. AreRootsOf p gs list) (take_all i p.goals past) are

pub at_goal : (p : Protocol) (i : ℕ) (g : Goal) (slice : List Goal) → slice ≡ p.goals → i < length slice → g ≡ get_or slice i g → (i < length p.goals) × (g ≡ get_or p.goals i g)
at_goal p i g slice same below is = (subst (λ gs. i < length gs) same below, subst (λ gs. g ≡ get_or gs i g) same is)

pub is_goal_cube : (p : Protocol) (g : Goal) (c : Cube) (slice : List Lit) → slice ≡ g.lits → c ≡ record { width = g.width; lits = normal_form (signature_of p) slice } → c ≡ goal_cube p g
is_goal_cube p g c slice same is = is ∙ ap (λ ls. record { width = g.width; lits = normal_form (signature_of p) ls }) same
