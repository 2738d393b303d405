-- A log with the verdict SAFE: the cubes of its live nodes pass the test of a certificate.
use Rattle.std.proofs.Common.{◌≡◌, ◌⊎◌, ℕ, zero, suc, ◌<◌, ◌≤◌, Bool, true, false, List, [], ◌∷◌, length, get_or, refl, sym, ap, ◌∙◌, subst, arith, inl, inr}
use Rattle.std.specs.Prelude.{Some, None, IsTrue, nat_lt, nat_le, if◌then◌else◌}
use Rattle.std.specs.List.{list_any}
use Rattle.std.proofs.lemmas.Bool.{cases_lt}
use Rattle.cub_base.proofs.Bools.{and_both, or_left, or_right, is_less, is_le}
use Rattle.cub_cube.specs.declared.cube.Cube.{Cube}
use Rattle.cub_cube.specs.Cover.{IsCovered}
use Rattle.log_form.specs.declared.node.Fate.{Fate}
use Rattle.log_form.specs.declared.node.Fate.TheVariants.{Waiting, Done, Covered}
use Rattle.log_form.specs.declared.event.Mark.{Mark}
use Rattle.log_form.specs.declared.verdicts.LogVerdict.TheVariants.{UnknownWidth, Safe}
use Rattle.cub_cube.specs.Goals.{goal_cube}
use Rattle.log_form.specs.Pieces.{PieceRelation}
use Rattle.cub_cube.specs.Starts.{IsStartCube}
use Rattle.log_form.specs.Fates.{is_live, is_waiting}
use Rattle.log_form.specs.Log.{LogValue, node_at, cubes_of, live_cubes}
use Rattle.log_form.specs.Legal.{IsLegalLog}
use Rattle.log_form.specs.Verdict.{is_open, is_live_wide, verdict_by, verdict_of}
use Rattle.log_form.specs.Test.{AreCovered, PassesTest}
use Rattle.log_form.proofs.Rooted.{root_has}
use Rattle.log_form.proofs.Weave.{IsWoven, legal_woven}
use Rattle.log_form.proofs.Lives.{IsLiveCube, live_has, covered_live}

pub none_any : {X : Type 0} (f : X → Bool) (xs : List X) (i : ℕ) (d : X) → list_any f xs ≡ false → i < length xs → f (get_or xs i d) ≡ false
none_any f [] i d h below = absurd (omega arith)
none_any f (x ∷ xs) zero d h below = or_left (f x) (list_any f xs) h
none_any f (x ∷ xs) (suc i) d h below = none_any f xs i d (or_right (f x) (list_any f xs) h) (omega arith)

-- what the verdict SAFE says
pub record IsSafeLog (log : LogValue) : Type 0 where
  pub going : log.mark ≡ Mark.Going
  pub closed : list_any (is_open log.budget) log.nodes ≡ false
  pub narrow : list_any (is_live_wide log.budget) log.nodes ≡ false

pub safe_is : (log : LogValue) → verdict_of log ≡ Some Safe → IsSafeLog log
safe_is log h = by_mark log.mark refl h
  where
    by_tests : (some wide : Bool) → list_any (is_open log.budget) log.nodes ≡ some → list_any (is_live_wide log.budget) log.nodes ≡ wide
        → (if some then None else (if wide then Some UnknownWidth else Some Safe)) ≡ Some Safe → log.mark ≡ Mark.Going → IsSafeLog log
    by_tests true wide a b says going = cc
    by_tests false true a b says going = cc
    by_tests false false a b says going = record { going = going; closed = a; narrow = b }

    by_mark : (mark : Mark) → log.mark ≡ mark → verdict_by mark log.budget log.nodes ≡ Some Safe → IsSafeLog log
    by_mark (Mark.Bad number) is says = cc
    by_mark (Mark.Full number needed) is says = cc
    by_mark Mark.Going is says = by_tests (list_any (is_open log.budget) log.nodes) (list_any (is_live_wide log.budget) log.nodes) refl refl says is

-- a live node of such a log is done, and within the width
pub live_narrow : (log : LogValue) → IsSafeLog log → (i : ℕ) → i < length log.nodes → IsTrue (is_live (node_at log.nodes i).fate) → (node_at log.nodes i).cube.width ≤ log.budget.width
live_narrow log safe i below live = by (cases_lt log.budget.width (node_at log.nodes i).cube.width)
  where
    by : (log.budget.width < (node_at log.nodes i).cube.width) ⊎ ((node_at log.nodes i).cube.width ≤ log.budget.width) → (node_at log.nodes i).cube.width ≤ log.budget.width
    by (inr le) = le
    by (inl wide) =
        let wrong : false ≡ true = sym (none_any (is_live_wide log.budget) log.nodes i (node_at [] 0) safe.narrow below)
        ∙ and_both (is_live (node_at log.nodes i).fate) (nat_lt log.budget.width (node_at log.nodes i).cube.width) live (is_less log.budget.width (node_at log.nodes i).cube.width wide) in
        cc

pub live_done : (log : LogValue) → IsSafeLog log → (i : ℕ) → i < length log.nodes → IsTrue (is_live (node_at log.nodes i).fate) → (node_at log.nodes i).fate ≡ Done
live_done log safe i below live = by (node_at log.nodes i).fate refl live
  where
    by : (fate : Fate) → (node_at log.nodes i).fate ≡ fate → IsTrue (is_live fate) → fate ≡ Done
    by Done is l = refl
    by (Covered j places) is l = cc
    by Waiting is l =
        let wrong : false ≡ true = sym (none_any (is_open log.budget) log.nodes i (node_at [] 0) safe.closed below)
        ∙ and_both (is_waiting (node_at log.nodes i).fate) (nat_le (node_at log.nodes i).cube.width log.budget.width) (ap is_waiting is)
        (is_le (node_at log.nodes i).cube.width log.budget.width (live_narrow log safe i below live)) in
        cc

pub passes : (P : PieceRelation) (log : LogValue) → IsLegalLog P log → verdict_of log ≡ Some Safe → PassesTest P log.protocol (live_cubes log.nodes)
passes P log legal says = record {
  start = λ c inside meets. not_started c (live_has log.nodes c inside) meets;
  goals = λ g inside possible.
      let roots = woven.rooted safe.going legal.begun in
      let (x, among, is) = root_has log.protocol roots.roots g roots.are inside possible in
      covered_live P log woven (goal_cube log.protocol g) (subst (IsCovered log.protocol (cubes_of log.nodes)) is (roots.covered x among));
  pieces = λ c inside. treated c (live_has log.nodes c inside);
}
  where
    woven : IsWoven P log
    woven = legal_woven P log legal

    safe : IsSafeLog log
    safe = safe_is log says

    not_started : (c : Cube) → IsLiveCube log.nodes c → IsStartCube log.protocol c → ⊥
    not_started c l meets =
        let going = safe.going in
        let wrong = woven.start l.number l.inside (subst (IsStartCube log.protocol) (sym l.is) meets) in cc

    treated : (c : Cube) → IsLiveCube log.nodes c → AreCovered P log.protocol (live_cubes log.nodes) c
    treated c l =
        let t = woven.treated l.number l.inside (live_done log safe l.number l.inside l.live) in
        record {
          pieces = t.pieces;
          its = subst (λ d. P log.protocol d t.pieces) l.is t.its;
          covered = λ x inside. covered_live P log woven x (t.covered x inside);
        }
