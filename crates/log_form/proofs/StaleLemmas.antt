-- A list judged on the first nodes of a log becomes the list on the log as it stands where the picks are dropped that a
-- node since covers.
use Rattle.std.proofs.Common.{◌≡◌, ◌⊎◌, ℕ, zero, suc, List, [], ◌∷◌, ◌++◌, take, drop, refl, sym, subst, arith, inl, inr, take-append-drop}
use Rattle.cub_proto.specs.declared.protocol.Protocol.{Protocol}
use Rattle.cub_cube.specs.declared.cube.Cube.{Cube}
use Rattle.cub_cube.specs.Cover.{DoesCover, IsCovered}
use Rattle.log_form.specs.declared.event.Mark.{Mark}
use Rattle.log_form.specs.declared.event.Added.{Added}
use Rattle.log_form.specs.declared.numbered.Numbered.{Numbered}
use Rattle.log_form.specs.Pieces.{PieceRelation}
use Rattle.cub_cube.specs.Starts.{IsStartCube}
use Rattle.log_form.specs.Log.{LogValue, cubes_of}
use Rattle.log_form.specs.Legal.{IsAdded, Adds, IsLegalLog}
use Rattle.log_form.specs.Stale.{KeepsUncovered}
use Rattle.log_form.proofs.Covered.{further, start_up, form_covers, form_covered, covered_left, covered_right, covered_cases, at_covered, cube_at-cubes_of, length-cubes_of}
use Rattle.log_form.proofs.Weave.{IsWoven, legal_woven}

-- what the cubes as they are cover, the earlier ones or those gained since cover
pub record IsLater (p : Protocol) (old since now : List Cube) : Type 0 where
  pub stays : (c : Cube) → IsCovered p old c → IsCovered p now c
  pub gained : (c : Cube) → IsCovered p since c → IsCovered p now c
  pub cases : (c : Cube) → IsCovered p now c → IsCovered p old c ⊎ IsCovered p since c

by_one : (p : Protocol) (xs : List Cube) (d c : Cube) → IsCovered p (xs ++ d ∷ []) c → IsCovered p xs c ⊎ DoesCover p d c
by_one p xs d c h = by (covered_cases p xs (d ∷ []) c h)
  where
    by : IsCovered p xs c ⊎ IsCovered p (d ∷ []) c → IsCovered p xs c ⊎ DoesCover p d c
    by (inl old) = inl old
    by (inr (e, (zero, below, is), covers)) = inr (subst (λ f. DoesCover p f c) (sym is) covers)
    by (inr (e, (suc k, below, is), covers)) = absurd (omega arith)

the_last : (p : Protocol) (xs : List Cube) (d c : Cube) → DoesCover p d c → IsCovered p (xs ++ d ∷ []) c
the_last p xs d c covers = covered_right p xs (d ∷ []) c (d, (0, omega arith, refl), covers)

-- a kept pick is added to both lists
later_kept : (p : Protocol) (old since now : List Cube) (d : Cube) → IsLater p old since now → IsLater p (old ++ d ∷ []) since (now ++ d ∷ [])
later_kept p old since now d later = record {
  stays = λ c h. stays c (by_one p old d c h);
  gained = λ c h. covered_left p now (d ∷ []) c (later.gained c h);
  cases = λ c h. cases c (by_one p now d c h);
}
  where
    stays : (c : Cube) → IsCovered p old c ⊎ DoesCover p d c → IsCovered p (now ++ d ∷ []) c
    stays c (inl h) = covered_left p now (d ∷ []) c (later.stays c h)
    stays c (inr covers) = the_last p now d c covers

    split : (c : Cube) → IsCovered p old c ⊎ IsCovered p since c → IsCovered p (old ++ d ∷ []) c ⊎ IsCovered p since c
    split c (inl h) = inl (covered_left p old (d ∷ []) c h)
    split c (inr h) = inr h

    cases : (c : Cube) → IsCovered p now c ⊎ DoesCover p d c → IsCovered p (old ++ d ∷ []) c ⊎ IsCovered p since c
    cases c (inl h) = split c (later.cases c h)
    cases c (inr covers) = inl (the_last p old d c covers)

-- a dropped pick only to the earlier one: what it covers, a gained cube covers
later_dropped : (p : Protocol) (old since now : List Cube) (d : Cube) → IsCovered p since d → IsLater p old since now → IsLater p (old ++ d ∷ []) since now
later_dropped p old since now d (e, inside, up) later = record {
  stays = λ c h. stays c (by_one p old d c h);
  gained = later.gained;
  cases = λ c h. cases c (later.cases c h);
}
  where
    stays : (c : Cube) → IsCovered p old c ⊎ DoesCover p d c → IsCovered p now c
    stays c (inl h) = later.stays c h
    stays c (inr covers) = later.gained c (e, inside, further p e d c up covers)

    cases : (c : Cube) → IsCovered p old c ⊎ IsCovered p since c → IsCovered p (old ++ d ∷ []) c ⊎ IsCovered p since c
    cases c (inl h) = inl (covered_left p old (d ∷ []) c h)
    cases c (inr h) = inr h

pass_over : (p : Protocol) (cubes : List Cube) (piece : Numbered) (pieces : List Numbered) (kept : List Added) → IsCovered p cubes piece.cube → Adds p cubes pieces kept → Adds p cubes (piece ∷ pieces) kept
pass_over p cubes piece pieces [] covered rest = (covered, rest)
pass_over p cubes piece pieces (a ∷ kept) covered rest = inl (covered, rest)

module _ (p : Protocol) (since : List Cube) (unstarted : (d : Cube) → IsCovered p since d → IsStartCube p d → ⊥) where
  -- a pick that no gained cube covers is still added
  still_added : (old now : List Cube) (piece : Numbered) (a : Added) → IsLater p old since now → IsAdded p old piece a → (IsCovered p since a.cube → ⊥) → IsAdded p now piece a
  still_added old now piece a later added free = record {
    uncovered = λ h. by (later.cases piece.cube h);
    numbered = added.numbered;
    form = added.form;
  }
    where
      by : IsCovered p old piece.cube ⊎ IsCovered p since piece.cube → ⊥
      by (inl h) = added.uncovered h
      by (inr (d, inside, covers)) = free (d, inside, form_covered p piece.cube a.places a.cube d added.form covers)

  pub stale : (old now : List Cube) (pieces : List Numbered) (picks kept : List Added) → IsLater p old since now → Adds p old pieces picks → KeepsUncovered p since picks kept → Adds p now pieces kept
  stale old now [] picks kept later h keeps = subst (λ (xs : List Added). KeepsUncovered p since xs kept) h keeps
  stale old now (piece ∷ pieces) [] kept later (passed, rest) keeps =
      pass_over p now piece pieces kept (later.stays piece.cube passed) (stale old now pieces [] kept later rest keeps)
  stale old now (piece ∷ pieces) (a ∷ picks) kept later (inl (passed, rest)) keeps =
      pass_over p now piece pieces kept (later.stays piece.cube passed) (stale old now pieces (a ∷ picks) kept later rest keeps)
  stale old now (piece ∷ pieces) (a ∷ picks) kept later (inr (added, inl (starts, last))) (inl (dropped, keeps)) = absurd (unstarted a.cube dropped starts)
  stale old now (piece ∷ pieces) (a ∷ picks) kept later (inr (added, inr (free, rest))) (inl ((d, inside, covers), keeps)) =
      pass_over p now piece pieces kept (later.gained piece.cube (d, inside, form_covers p piece.cube a.places a.cube d added.form covers))
      (stale (old ++ a.cube ∷ []) now pieces picks kept (later_dropped p old since now a.cube (d, inside, covers) later) rest keeps)
  stale old now (piece ∷ pieces) (a ∷ picks) kept later (inr (added, inl (starts, last))) (inr (free, (others, is, keeps))) =
      subst (Adds p now (piece ∷ pieces)) (sym is)
      (inr (still_added old now piece a later added free, inl (starts, subst (λ (xs : List Added). KeepsUncovered p since xs others) last keeps)))
  stale old now (piece ∷ pieces) (a ∷ picks) kept later (inr (added, inr (unmet, rest))) (inr (free, (others, is, keeps))) =
      subst (Adds p now (piece ∷ pieces)) (sym is)
      (inr (still_added old now piece a later added free, inr (unmet, stale (old ++ a.cube ∷ []) (now ++ a.cube ∷ []) pieces picks others (later_kept p old since now a.cube later) rest keeps)))

-- ---- on a legal log
parts_later : (p : Protocol) (cubes : List Cube) (n : ℕ) → IsLater p (take n cubes) (drop n cubes) cubes
parts_later p cubes n = record {
  stays = λ c h. subst (λ xs. IsCovered p xs c) (take-append-drop n cubes) (covered_left p (take n cubes) (drop n cubes) c h);
  gained = λ c h. subst (λ xs. IsCovered p xs c) (take-append-drop n cubes) (covered_right p (take n cubes) (drop n cubes) c h);
  cases = λ c h. covered_cases p (take n cubes) (drop n cubes) c (subst (λ xs. IsCovered p xs c) (sym (take-append-drop n cubes)) h);
}

pub stale_legal : (P : PieceRelation) (log : LogValue) → IsLegalLog P log → log.mark ≡ Mark.Going → (seen : ℕ) (pieces : List Numbered) (picks kept : List Added)
    → Adds log.protocol (take seen (cubes_of log.nodes)) pieces picks → KeepsUncovered log.protocol (drop seen (cubes_of log.nodes)) picks kept
    → Adds log.protocol (cubes_of log.nodes) pieces kept
stale_legal P log legal going seen pieces picks kept h keeps =
    stale log.protocol (drop seen (cubes_of log.nodes)) unstarted (take seen (cubes_of log.nodes)) (cubes_of log.nodes) pieces picks kept (parts_later log.protocol (cubes_of log.nodes) seen) h keeps
  where
    woven : IsWoven P log
    woven = legal_woven P log legal

    at_log : (d : Cube) → IsCovered log.protocol (cubes_of log.nodes) d → IsStartCube log.protocol d → ⊥
    at_log d covered meets =
        let (i, below, covers) = at_covered log.protocol (cubes_of log.nodes) d covered in
        let n = length-cubes_of log.nodes in
        let wrong = woven.start i (omega arith) (subst (IsStartCube log.protocol) (cube_at-cubes_of log.nodes i) (start_up log.protocol _ d covers meets)) in
        cc

    unstarted : (d : Cube) → IsCovered log.protocol (drop seen (cubes_of log.nodes)) d → IsStartCube log.protocol d → ⊥
    unstarted d covered = at_log d ((parts_later log.protocol (cubes_of log.nodes) seen).gained d covered)
