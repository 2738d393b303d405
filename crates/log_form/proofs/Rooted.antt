-- Numbered cubes, and the roots: each is a consistent goal with its number.
use Rattle.std.proofs.Common.{◌≡◌, ℕ, zero, suc, ◌+◌, List, [], ◌∷◌, map, length, refl, sym, ap, ◌∙◌, subst, arith}
use Rattle.std.specs.Prelude.{Contains, Some, slice_get, IsTrue, ◌&&◌, nat_le}
use Rattle.std.specs.List.{list_all}
use Rattle.std.proofs.lemmas.List.Elements.{All-contains}
use Rattle.cub_base.proofs.Bools.{and_left, and_right}
use Rattle.cub_base.specs.Numbered.{map_from}
use Rattle.cub_proto.specs.StateOf.{signature_of}
use Rattle.cub_proto.specs.Fits.{literal_fits, is_bounded, greatest_bound, conjunction_fits, goal_fits}
use Rattle.cub_proto.specs.declared.protocol.Goal.{Goal}
use Rattle.cub_proto.specs.declared.protocol.Protocol.{Protocol}
use Rattle.cub_cube.specs.declared.cube.Cube.{Cube}
use Rattle.cub_proto.specs.declared.literal.Lit.{Lit}
use Rattle.cub_cube.specs.Normal.{normal_form}
use Rattle.cub_cube.specs.Meaning.{IsConsistent, SameMeaning}
use Rattle.cub_cube.proofs.KeptLemmas.{kept_from, kept_has, kept_unique}
use Rattle.cub_cube.proofs.Form.{fold_true}
use Rattle.cub_cube.proofs.Bounds.{same_back, same_meets}
use Rattle.log_form.specs.declared.numbered.Numbered.{Numbered}
use Rattle.log_form.specs.Numbering.{with_number, numbered, AreRoots}
use Rattle.cub_cube.specs.Goals.{goal_cube}

-- a numbered cube of a list is the cube at that place
pub number_at : (n : ℕ) (cubes : List Cube) (x : Numbered) → Contains (map_from with_number n cubes) x → (k : ℕ) × (x.number ≡ n + k) × (slice_get cubes k ≡ Some x.cube)
number_at n [] x (k, below, is) = absurd (omega arith)
number_at n (c ∷ cubes) x (zero, below, is) = (0, ap (λ (y : Numbered). y.number) (sym is) ∙ omega arith, ap (λ (y : Numbered). Some y.cube) is)
number_at n (c ∷ cubes) x (suc k, below, is) =
    let (j, number, found) = number_at (n + 1) cubes x (k, omega arith, is) in (suc j, number ∙ omega arith, found)

pub has_number : (n : ℕ) (cubes : List Cube) (c : Cube) → Contains cubes c → (k : ℕ) × Contains (map_from with_number n cubes) (with_number k c)
has_number n [] c (k, below, is) = absurd (omega arith)
has_number n (d ∷ cubes) c (zero, below, is) = (n, (0, omega arith, ap (with_number n) is))
has_number n (d ∷ cubes) c (suc k, below, is) =
    let (m, (j, within, found)) = has_number (n + 1) cubes c (k, omega arith, is) in (m, (suc j, omega arith, found))

-- an element of a list of goals as cubes
goal_at : (p : Protocol) (goals : List Goal) (k : ℕ) (c : Cube) → slice_get (map (goal_cube p) goals) k ≡ Some c → (g : Goal) × (slice_get goals k ≡ Some g) × (c ≡ goal_cube p g)
goal_at p [] k c h = cc
goal_at p (g ∷ goals) zero c h = (g, refl, cc)
goal_at p (g ∷ goals) (suc k) c h = goal_at p goals k c h

pub record IsRoot (p : Protocol) (x : Numbered) : Type 0 where
  pub goal : Goal
  pub is_there : slice_get p.goals x.number ≡ Some goal
  pub is : x.cube ≡ goal_cube p goal
  pub possible : IsConsistent p x.cube.width x.cube.lits

pub root_is : (p : Protocol) (roots : List Numbered) (x : Numbered) → AreRoots p roots → Contains roots x → IsRoot p x
root_is p roots x are inside = by (kept_from (λ (r : Numbered). IsConsistent p r.cube.width r.cube.lits) (numbered (map (goal_cube p) p.goals)) roots x are inside)
  where
    by : Contains (numbered (map (goal_cube p) p.goals)) x × IsConsistent p x.cube.width x.cube.lits → IsRoot p x
    by (among, possible) =
        let (k, number, found) = number_at 0 (map (goal_cube p) p.goals) x among in
        let (g, there, is) = goal_at p p.goals k x.cube found in
        record { goal = g; is_there = ap (slice_get p.goals) (let e : x.number ≡ k = number ∙ omega arith in e) ∙ there; is = is; possible = possible }

pub one_roots : (p : Protocol) (xs ys : List Numbered) → AreRoots p xs → AreRoots p ys → xs ≡ ys
one_roots p xs ys h k = kept_unique (λ (r : Numbered). IsConsistent p r.cube.width r.cube.lits) (numbered (map (goal_cube p) p.goals)) xs ys h k

-- each consistent goal is a root
goal_has : (p : Protocol) (goals : List Goal) (g : Goal) → Contains goals g → Contains (map (goal_cube p) goals) (goal_cube p g)
goal_has p [] g (k, below, is) = absurd (omega arith)
goal_has p (h ∷ goals) g (zero, below, is) = (0, omega arith, ap (goal_cube p) is)
goal_has p (h ∷ goals) g (suc k, below, is) = let (j, within, same) = goal_has p goals g (k, omega arith, is) in (suc j, omega arith, same)

pub goal_literals : (p : Protocol) (g : Goal) → Contains p.goals g → IsTrue (list_all (literal_fits (signature_of p) g.width) g.lits)
goal_literals p g inside =
    let fits = All-contains (λ h. IsTrue (goal_fits (signature_of p) h)) p.goals g p.goals_fit inside in
    let conj : IsTrue (conjunction_fits (signature_of p) g.width g.lits) = and_right (nat_le g.width 4) (conjunction_fits (signature_of p) g.width g.lits) fits in
    and_right (nat_le (length g.lits) 64) (list_all (literal_fits (signature_of p) g.width) g.lits)
    (and_left (nat_le (length g.lits) 64 && list_all (literal_fits (signature_of p) g.width) g.lits) (list_all (is_bounded greatest_bound) g.lits) conj)

pub goal_bounds : (p : Protocol) (g : Goal) → Contains p.goals g → IsTrue (list_all (is_bounded greatest_bound) g.lits)
goal_bounds p g inside =
    let fits = All-contains (λ h. IsTrue (goal_fits (signature_of p) h)) p.goals g p.goals_fit inside in
    let conj : IsTrue (conjunction_fits (signature_of p) g.width g.lits) = and_right (nat_le g.width 4) (conjunction_fits (signature_of p) g.width g.lits) fits in
    and_right (nat_le (length g.lits) 64 && list_all (literal_fits (signature_of p) g.width) g.lits) (list_all (is_bounded greatest_bound) g.lits) conj

form_same : (p : Protocol) (width : ℕ) (lits : List Lit) → IsTrue (list_all (literal_fits (signature_of p) width) lits) → SameMeaning p width (normal_form (signature_of p) lits) lits
form_same p width lits fits s places at =
    fold_true p s places at.state at.processes [] lits (subst (λ w. IsTrue (list_all (literal_fits (signature_of p) w) lits)) (sym at.one_each) fits)

pub root_has : (p : Protocol) (roots : List Numbered) (g : Goal) → AreRoots p roots → Contains p.goals g → IsConsistent p g.width g.lits
    → (x : Numbered) × Contains roots x × (x.cube ≡ goal_cube p g)
root_has p roots g are inside (s, state, meets) =
    let (k, among) = has_number 0 (map (goal_cube p) p.goals) (goal_cube p g) (goal_has p p.goals g inside) in
    let same = form_same p g.width g.lits (goal_literals p g inside) in
    let possible : IsConsistent p g.width (goal_cube p g).lits = (s, state, same_meets p g.width g.lits (goal_cube p g).lits (same_back p g.width (goal_cube p g).lits g.lits same) s state meets) in
    (with_number k (goal_cube p g), kept_has (λ (r : Numbered). IsConsistent p r.cube.width r.cube.lits) (numbered (map (goal_cube p) p.goals)) roots (with_number k (goal_cube p g)) are among possible, refl)
