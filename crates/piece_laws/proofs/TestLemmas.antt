-- A list of cubes that passes the test of a certificate is inductive, and the test with cover lines implies the one without.
use Rattle.std.proofs.Common.{◌≡◌, ℕ, suc, zero, List, [], ◌∷◌, Some, refl, sym, ap, subst, inl, inr}
use Rattle.std.specs.Prelude.{nat_le, IsTrue, Contains, slice_get}
use Rattle.std.specs.List.{list_all, AllZip}
use Rattle.cub_proto.specs.declared.protocol.Goal.{Goal}
use Rattle.cub_proto.specs.declared.protocol.Protocol.{Protocol}
use Rattle.cub_proto.specs.declared.event.Event.{Event}
use Rattle.cub_proto.specs.declared.event.Event.TheVariants.{Crash, Fire}
use Rattle.cub_proto.specs.declared.cover.CoverLine.{CoverLine}
use Rattle.cub_proto.specs.Configuration.{Configuration}
use Rattle.cub_proto.specs.StateOf.{IsStateOf, signature_of}
use Rattle.cub_proto.specs.Fits.{literal_fits, conjunction_fits, goal_fits}
use Rattle.cub_proto.specs.Legal.{IsLegal, after}
use Rattle.cub_proto.specs.Meets.{Meets}
use Rattle.cub_cube.specs.declared.cube.Cube.{Cube}
use Rattle.cub_cube.specs.Cover.{IsCovered}
use Rattle.cub_cube.specs.Inductive.{MeetsSome, IsInductive}
use Rattle.cub_base.proofs.Bools.{and_right}
use Rattle.cub_base.proofs.Members.{Has, has_Contains, contains_Has, all_has}
use Rattle.cub_cube.proofs.Covering.{covering_meets}
use Rattle.cub_cube.proofs.CrashLemmas.{killed_crashed, crashed_satisfies}
use Rattle.cub_cube.proofs.KeptLemmas.{kept_has}
use Rattle.cub_cube.proofs.Bounds.{same_meets}
use Rattle.cub_cube.proofs.Form.{fold_true}
use Rattle.updates.proofs.Fitting.{conjunction_literals}
use Rattle.piece_choices.specs.Pieces.{candidates, IsPossible, ArePieces}
use Rattle.cub_cube.specs.Goals.{goal_cube}
use Rattle.piece_laws.specs.Test.{PassesTest, CoversAt, PassesLines}
use Rattle.piece_laws.proofs.Predecessors.{found}

-- a state that meets what is covered meets a cube of the list
covered_meets : (p : Protocol) (cubes : List Cube) (c : Cube) (s : Configuration) → IsStateOf p s → IsCovered p cubes c → Meets s c.width c.lits → MeetsSome s cubes
covered_meets p cubes c s state covered meets = (covered.0, covered.1, covering_meets p covered.0 c covered.2.0 covered.2.1 s state meets)

goal_lits_fit : (p : Protocol) (g : Goal) → Contains p.goals g → IsTrue (list_all (literal_fits (signature_of p) g.width) g.lits)
goal_lits_fit p g inside =
    conjunction_literals (signature_of p) g.width g.lits
    (and_right (nat_le g.width 4) (conjunction_fits (signature_of p) g.width g.lits) (all_has (λ x. IsTrue (goal_fits (signature_of p) x)) p.goals g p.goals_fit (contains_Has p.goals g inside)))

-- a goal as a cube says what the goal says
goal_meets : (p : Protocol) (g : Goal) (s : Configuration) → Contains p.goals g → IsStateOf p s → Meets s g.width g.lits → Meets s (goal_cube p g).width (goal_cube p g).lits
goal_meets p g s inside state meets =
    same_meets p g.width g.lits (goal_cube p g).lits
    (λ z places at. sym (fold_true p z places at.state at.processes [] g.lits (subst (λ n. IsTrue (list_all (literal_fits (signature_of p) n) g.lits)) (sym at.one_each) (goal_lits_fit p g inside)))) s state meets

pub test_inductive : (p : Protocol) (cubes : List Cube) → ((c : Cube) → Contains cubes c → IsTrue (list_all (literal_fits (signature_of p) c.width) c.lits)) → PassesTest p cubes → IsInductive p cubes
test_inductive p cubes fits passes = record {
  start = λ s start meets. passes.start meets.0 meets.1 (s, start, meets.2);
  goals = λ s state unsafe.
      covered_meets p cubes (goal_cube p unsafe.0) s state (passes.goals unsafe.0 unsafe.1 (s, state, unsafe.2)) (goal_meets p unsafe.0 s unsafe.1 state unsafe.2);
  step = step;
}
  where
    step : (s : Configuration) (e : Event) → IsStateOf p s → IsLegal p s e → MeetsSome (after p s e) cubes → MeetsSome s cubes
    step s (Crash i) state legal (c, inside, (places, sat)) = (c, inside, (places, crashed_satisfies s (after p s (Crash i)) places c.width c.lits (killed_crashed s i) sat))
    step s (Fire number params picks) state legal (c, inside, meets) =
        let back = found p c (fits c inside) number s state (record { dead = []; params = params; picks = picks; legal = (legal, tt); meets = meets }) in
        covered_meets p cubes back.0.cube s state (passes.pieces c inside back.0 (has_Contains (candidates p c) back.0 back.1) (s, state, back.3)) back.3

-- ---- cover lines
there : {A : Type 0} (xs : List A) (n : ℕ) (x : A) → slice_get xs n ≡ Some x → Contains xs x
there {A} xs n x e = has_Contains xs x (at xs n e)
  where
    at : (ys : List A) (k : ℕ) → slice_get ys k ≡ Some x → Has ys x
    at [] k e = cc
    at (y ∷ ys) zero e = let same : y ≡ x = cc in inl same
    at (y ∷ ys) (suc k) e = inr (at ys k e)

number_of : {A : Type 0} (xs : List A) (x : A) → Has xs x → (n : ℕ) × (slice_get xs n ≡ Some x)
number_of [] x none = absurd none
number_of (y ∷ ys) x (inl same) = (0, ap (λ z. Some z) same)
number_of (y ∷ ys) x (inr later) = let found = number_of ys x later in (suc found.0, found.1)

zip_number : {A B : Type 0} (R : A → B → Type 0) (xs : List A) (ys : List B) (n : ℕ) (x : A) → AllZip R xs ys → slice_get xs n ≡ Some x → (y : B) × (slice_get ys n ≡ Some y) × R x y
zip_number R [] ys n x zip e = cc
zip_number R (z ∷ zs) [] n x zip e = absurd zip
zip_number R (z ∷ zs) (y ∷ ys) zero x zip e = let same : z ≡ x = cc in (y, refl, subst (λ w. R w y) same zip.0)
zip_number R (z ∷ zs) (y ∷ ys) (suc n) x zip e = zip_number R zs ys n x zip.1 e

covered_at : (p : Protocol) (cubes : List Cube) (by : ℕ) (c : Cube) (places : List ℕ) → CoversAt p cubes by c places → IsCovered p cubes c
covered_at p cubes by c places covers = (covers.0, there cubes by covers.0 covers.1, (places, covers.2))

pub lines_test : (p : Protocol) (cubes : List Cube) (lines : List CoverLine) → PassesLines p cubes lines → PassesTest p cubes
lines_test p cubes lines passes = record {
  start = passes.start;
  goals = λ g inside consistent.
      (let at = number_of p.goals g (contains_Has p.goals g inside) in
      let line = passes.goals at.0 g (at.1, consistent) in covered_at p cubes line.0 (goal_cube p g) line.1 line.3);
  pieces = λ c inside x candidate possible.
      (let at = number_of cubes c (contains_Has cubes c inside) in
      let its = zip_number (ArePieces p) cubes passes.pieces at.0 c passes.are_pieces at.1 in
      let kept = kept_has (IsPossible p) (candidates p c) its.0 x its.2 candidate possible in
      let number = number_of its.0 x (contains_Has its.0 x kept) in
      let line = passes.covered at.0 number.0 x (its.0, its.1, number.1) in covered_at p cubes line.0 x.cube line.1 line.3);
}
