-- What holds of every legal log, kept by each event.
use Rattle.std.proofs.Common.{◌≡◌, ◌≢◌, ◌⊎◌, ℕ, suc, ◌+◌, ◌-◌, ◌<◌, ◌≤◌, max, true, ◌&&◌, List, [], ◌∷◌, ◌++◌, length, get_or, take, refl, sym, ap, ◌∙◌, subst, arith, inl, inr}
use Rattle.std.specs.Prelude.{Option, Some, None, Contains, slice_get}
use Rattle.std.proofs.Math.Nat.{max-eq_left, max-eq_right}
use Rattle.std.proofs.Math.Seq.{take-append-add}
use Rattle.std.proofs.lemmas.Bool.{cases_lt}
use Rattle.std.proofs.lemmas.List.{length-take-le, get_or-take}
use Rattle.cub_base.proofs.Bools.{and_left, and_right, same_is}
use Rattle.cub_proto.specs.declared.protocol.Protocol.{Protocol}
use Rattle.cub_proto.specs.declared.budget.Budget.{Budget}
use Rattle.cub_cube.specs.declared.cube.Cube.{Cube}
use Rattle.cub_cube.specs.Meaning.{IsConsistent}
use Rattle.cub_cube.specs.Cover.{DoesCover, IsCovered}
use Rattle.log_form.specs.declared.node.Node.{Node}
use Rattle.log_form.specs.declared.node.Origin.{Origin}
use Rattle.log_form.specs.declared.node.Fate.{Fate}
use Rattle.log_form.specs.declared.event.Mark.{Mark}
use Rattle.log_form.specs.declared.event.Added.{Added}
use Rattle.log_form.specs.declared.event.LogEvent.{LogEvent}
use Rattle.log_form.specs.declared.numbered.Numbered.{Numbered}
use Rattle.log_form.specs.Numbering.{with_number, AreRoots}
use Rattle.cub_cube.specs.Goals.{goal_cube}
use Rattle.log_form.specs.Pieces.{PieceRelation}
use Rattle.log_form.specs.Forms.{IsForm}
use Rattle.cub_cube.specs.Starts.{IsStartCube}
use Rattle.log_form.specs.Links.{cube_at, IsFirstCover}
use Rattle.log_form.specs.Fates.{link_of, fate_after}
use Rattle.log_form.specs.Log.{LogValue, no_log, node_at, cubes_of, added_cubes, new_node, origin_of}
use Rattle.log_form.specs.Legal.{Adds, EndsBad, Treats, Fills, is_number, is_going, grown, Grows, Leads, LeadAll, IsLegalLog}
use Rattle.log_form.specs.Test.{AreCovered}
use Rattle.log_form.specs.Origins.{ComesFrom}
use Rattle.log_form.proofs.Covered.{covered_at, covered_left, cube_at-cubes_of, length-cubes_of}
use Rattle.log_form.proofs.Additions.{adds_fresh, bad_last, adds_start, adds_all, IsFormOfPiece, adds_forms}
use Rattle.log_form.proofs.FirstCovers.{joined_ranges, in_front, link_after, done_after}
use Rattle.log_form.proofs.Growth.{no_added, count_grown, old_node, added_node, same_cube, same_origin, same_places, cubes_same, cubes_after, old_cube, new_cube}
use Rattle.log_form.proofs.Rooted.{number_at, has_number, root_is}

-- the roots are covered
pub record AreRootsCovered (p : Protocol) (cubes : List Cube) : Type 0 where
  pub roots : List Numbered
  pub are : AreRoots p roots
  pub covered : (x : Numbered) → Contains roots x → IsCovered p cubes x.cube

pub record IsWoven (P : PieceRelation) (log : LogValue) : Type 0 where
  pub few : length log.nodes ≤ log.budget.cubes
  pub links : (i : ℕ) → i < length log.nodes
      → IsFirstCover log.protocol (cubes_of log.nodes) (i + 1) (length log.nodes) (node_at log.nodes i).cube (link_of (node_at log.nodes i).fate)
  pub fresh : (i j : ℕ) → i < j → j < length log.nodes → DoesCover log.protocol (node_at log.nodes i).cube (node_at log.nodes j).cube → ⊥
  pub start : (i : ℕ) → i < length log.nodes → IsStartCube log.protocol (node_at log.nodes i).cube → log.mark ≡ Mark.Bad i
  pub bad : (n : ℕ) → log.mark ≡ Mark.Bad n → (n < length log.nodes) × IsStartCube log.protocol (node_at log.nodes n).cube
  pub full : (from : Option ℕ) (needed : ℕ) → log.mark ≡ Mark.Full from needed → log.budget.cubes < length log.nodes + needed
  pub treated : (i : ℕ) → i < length log.nodes → (node_at log.nodes i).fate ≡ Fate.Done
      → AreCovered P log.protocol (cubes_of log.nodes) (node_at log.nodes i).cube
  pub rooted : log.mark ≡ Mark.Going → log.events ≢ [] → AreRootsCovered log.protocol (cubes_of log.nodes)
  pub origins : (i : ℕ) → i < length log.nodes → ComesFrom P log i (node_at log.nodes i) (node_at log.nodes i).origin

-- ---- the log without nodes and events
pub woven_none : (P : PieceRelation) (p : Protocol) (budget : Budget) → IsWoven P (no_log p budget)
woven_none P p budget = record {
  few = omega arith;
  links = λ i below. absurd (omega arith);
  fresh = λ i j before below covers. absurd (omega arith);
  start = λ i below meets. absurd (omega arith);
  bad = λ n is. cc;
  full = λ from needed is. cc;
  treated = λ i below done. absurd (omega arith);
  rooted = λ going begun. absurd (begun refl);
  origins = λ i below. absurd (omega arith);
}

-- ---- an event that fills the log
module _ (P : PieceRelation) (log : LogValue) (woven : IsWoven P log) (going : log.mark ≡ Mark.Going) where
  filled_origin : (events : List LogEvent) (mark : Mark) (i : ℕ) (node : Node) (origin : Origin) → ComesFrom P log i node origin
      → ComesFrom P (record log { events = events; mark = mark }) i node origin
  filled_origin events mark i node (Origin.Root goal) h = h
  filled_origin events mark i node (Origin.Piece from piece) h =
      record { earlier = h.earlier; narrow = h.narrow; cubes = h.cubes; its = h.its; cube = h.cube; is_there = h.is_there; form = h.form }

  pub woven_filled : (events : List LogEvent) (from : Option ℕ) (needed : ℕ) → log.budget.cubes < length log.nodes + needed
      → IsWoven P (record log { events = events; mark = Mark.Full from needed })
  woven_filled events from needed above = record {
    few = woven.few;
    links = woven.links;
    fresh = woven.fresh;
    start = λ i below meets. let wrong = woven.start i below meets in cc;
    bad = λ n is. cc;
    full = λ other more is. let same : needed ≡ more = cc in subst (λ m. log.budget.cubes < length log.nodes + m) same above;
    treated = woven.treated;
    rooted = λ is begun. cc;
    origins = λ i below. filled_origin events (Mark.Full from needed) i (node_at log.nodes i) (node_at log.nodes i).origin (woven.origins i below);
  }

-- ---- an event that adds
module _ (P : PieceRelation) (log : LogValue) (event : LogEvent) (list : List Added) (after : LogValue) (woven : IsWoven P log) (going : log.mark ≡ Mark.Going)
    (pieces : List Numbered) (treats : Treats P log event.node pieces) (adds : Adds log.protocol (cubes_of log.nodes) pieces list) (grows : Grows log event list after) where
  all_cubes : List Cube
  all_cubes = cubes_of log.nodes ++ added_cubes list

  -- a node is an old one or an added one
  place : (i : ℕ) → i < length after.nodes → (i < length log.nodes) ⊎ ((k : ℕ) × (i ≡ length log.nodes + k) × (k < length list))
  place i below = by (cases_lt i (length log.nodes))
    where
      by : (i < length log.nodes) ⊎ (length log.nodes ≤ i) → (i < length log.nodes) ⊎ ((k : ℕ) × (i ≡ length log.nodes + k) × (k < length list))
      by (inl old) = inl old
      by (inr new) = let n = grows.count in inr (i - length log.nodes, omega arith, omega arith)

  count : length (cubes_of (grown log event list)) ≡ length after.nodes
  count = length-cubes_of (grown log event list) ∙ (count_grown log event list ∙ sym grows.count)

  old_within : (i : ℕ) → i < length log.nodes → i < length after.nodes
  old_within i below = let n = grows.count in omega arith

  -- the link of a node, over the cubes as they are afterwards
  found_after : (i : ℕ) (below : i < length after.nodes)
      → IsFirstCover log.protocol (cubes_of after.nodes) (max (length log.nodes) (i + 1)) (length after.nodes) (node_at after.nodes i).cube (grows.nodes i below).link
  found_after i below =
      subst (λ cs. IsFirstCover log.protocol cs (max (length log.nodes) (i + 1)) (length after.nodes) (node_at after.nodes i).cube (grows.nodes i below).link) (sym (cubes_same log event list after grows))
      (subst (λ n. IsFirstCover log.protocol (cubes_of (grown log event list)) (max (length log.nodes) (i + 1)) n (node_at after.nodes i).cube (grows.nodes i below).link) count
      (subst (λ c. IsFirstCover log.protocol (cubes_of (grown log event list)) (max (length log.nodes) (i + 1)) (length (cubes_of (grown log event list))) c (grows.nodes i below).link) (sym (same_cube log event list after grows i below))
      (grows.nodes i below).found))

  fate_is : (i : ℕ) (below : i < length after.nodes) (old : Node) → node_at (grown log event list) i ≡ old
      → (node_at after.nodes i).fate ≡ fate_after old.fate (grows.nodes i below).link (is_number event.node i && is_going after.mark)
  fate_is i below old is =
      ap (λ (n : Node). n.fate) (grows.nodes i below).is
      ∙ ap (λ (n : Node). fate_after n.fate (grows.nodes i below).link (is_number event.node i && is_going after.mark)) is

  old_at : (i : ℕ) → i < length log.nodes → cube_at (cubes_of log.nodes) i ≡ cube_at (cubes_of after.nodes) i
  old_at i below = cube_at-cubes_of log.nodes i ∙ (sym (old_cube log event list after grows i below) ∙ sym (cube_at-cubes_of after.nodes i))

  grown_links : (i : ℕ) → i < length after.nodes
      → IsFirstCover log.protocol (cubes_of after.nodes) (i + 1) (length after.nodes) (node_at after.nodes i).cube (link_of (node_at after.nodes i).fate)
  grown_links i below = by (place i below)
    where
      by : (i < length log.nodes) ⊎ ((k : ℕ) × (i ≡ length log.nodes + k) × (k < length list))
          → IsFirstCover log.protocol (cubes_of after.nodes) (i + 1) (length after.nodes) (node_at after.nodes i).cube (link_of (node_at after.nodes i).fate)
      by (inl old) =
          let c = (node_at after.nodes i).cube in
          let link = (grows.nodes i below).link in
          let before : IsFirstCover log.protocol (cubes_of after.nodes) (i + 1) (length log.nodes) c (link_of (node_at log.nodes i).fate)
          = in_front log.protocol (cubes_of log.nodes) (cubes_of after.nodes) (i + 1) (length log.nodes) c (link_of (node_at log.nodes i).fate) old_at
          (subst (λ d. IsFirstCover log.protocol (cubes_of log.nodes) (i + 1) (length log.nodes) d (link_of (node_at log.nodes i).fate)) (sym (old_cube log event list after grows i old)) (woven.links i old)) in
          let later : IsFirstCover log.protocol (cubes_of after.nodes) (length log.nodes) (length after.nodes) c link
          = subst (λ n. IsFirstCover log.protocol (cubes_of after.nodes) n (length after.nodes) c link) (max-eq_left (let h : i + 1 ≤ length log.nodes = omega arith in h)) (found_after i below) in
          let n = grows.count in
          subst (λ l. IsFirstCover log.protocol (cubes_of after.nodes) (i + 1) (length after.nodes) c l)
          (sym (ap link_of (fate_is i below (node_at log.nodes i) (old_node log event list i old)) ∙ link_after (node_at log.nodes i).fate link (is_number event.node i && is_going after.mark)))
          (joined_ranges log.protocol (cubes_of after.nodes) (i + 1) (length log.nodes) (length after.nodes) c (link_of (node_at log.nodes i).fate) link (omega arith) (omega arith) before later)
      by (inr (k, is, within)) =
          let c = (node_at after.nodes i).cube in
          let link = (grows.nodes i below).link in
          let new = new_node event.node (get_or list k no_added) in
          let later : IsFirstCover log.protocol (cubes_of after.nodes) (i + 1) (length after.nodes) c link
          = subst (λ n. IsFirstCover log.protocol (cubes_of after.nodes) n (length after.nodes) c link) (max-eq_right (let h : length log.nodes ≤ i + 1 = omega arith in h)) (found_after i below) in
          subst (λ l. IsFirstCover log.protocol (cubes_of after.nodes) (i + 1) (length after.nodes) c l)
          (sym (ap link_of (fate_is i below new (added_node log event list i k is within)) ∙ link_after Fate.Waiting link (is_number event.node i && is_going after.mark)))
          later

  -- the cube of a node before another one is among those before an added cube
  grown_fresh : (i j : ℕ) → i < j → j < length after.nodes → DoesCover log.protocol (node_at after.nodes i).cube (node_at after.nodes j).cube → ⊥
  grown_fresh i j before below covers = by (place j below)
    where
      by : (j < length log.nodes) ⊎ ((k : ℕ) × (j ≡ length log.nodes + k) × (k < length list)) → ⊥
      by (inl old) =
          woven.fresh i j before old
          (subst (λ c. DoesCover log.protocol c (node_at log.nodes j).cube) (old_cube log event list after grows i (omega arith))
          (subst (λ c. DoesCover log.protocol (node_at after.nodes i).cube c) (old_cube log event list after grows j old) covers))
      by (inr (k, is, within)) =
          let front = cubes_of log.nodes ++ take k (added_cubes list) in
          let n = length-cubes_of log.nodes in
          let is_front : take j (cubes_of after.nodes) ≡ front
          = ap (take j) (cubes_after log event list after grows)
          ∙ (ap (λ m. take m (cubes_of log.nodes ++ added_cubes list)) (let e : j ≡ length (cubes_of log.nodes) + k = omega arith in e)
          ∙ take-append-add (cubes_of log.nodes) (added_cubes list) k) in
          let m = length-cubes_of after.nodes in
          let size : length (take j (cubes_of after.nodes)) ≡ j = length-take-le j (cubes_of after.nodes) (omega arith) in
          let at : cube_at (take j (cubes_of after.nodes)) i ≡ (node_at after.nodes i).cube = get_or-take j (cubes_of after.nodes) i _ before ∙ cube_at-cubes_of after.nodes i in
          let covered : IsCovered log.protocol (take j (cubes_of after.nodes)) (node_at after.nodes j).cube
          = covered_at log.protocol (take j (cubes_of after.nodes)) (node_at after.nodes j).cube i (omega arith) (subst (λ d. DoesCover log.protocol d (node_at after.nodes j).cube) (sym at) covers) in
          adds_fresh log.protocol (cubes_of log.nodes) pieces list adds k within
          (subst (λ c. IsCovered log.protocol front c) (new_cube log event list after grows j k is within) (subst (λ cs. IsCovered log.protocol cs (node_at after.nodes j).cube) is_front covered))

  grown_start : (i : ℕ) → i < length after.nodes → IsStartCube log.protocol (node_at after.nodes i).cube → after.mark ≡ Mark.Bad i
  grown_start i below meets = by (place i below)
    where
      by : (i < length log.nodes) ⊎ ((k : ℕ) × (i ≡ length log.nodes + k) × (k < length list)) → after.mark ≡ Mark.Bad i
      by (inl old) = let wrong = woven.start i old (subst (IsStartCube log.protocol) (old_cube log event list after grows i old) meets) in cc
      by (inr (k, is, within)) =
          by_mark (adds_start log.protocol (cubes_of log.nodes) pieces list adds k within (subst (IsStartCube log.protocol) (new_cube log event list after grows i k is within) meets)) grows.mark
        where
          by_mark : (length list ≡ suc k) × EndsBad log.protocol list
              → (EndsBad log.protocol list × (after.mark ≡ Mark.Bad (length log.nodes + length list - 1))) ⊎ ((EndsBad log.protocol list → ⊥) × (after.mark ≡ Mark.Going)) → after.mark ≡ Mark.Bad i
          by_mark (size, ends) (inl (bad, mark)) = mark ∙ ap Mark.Bad (omega arith)
          by_mark (size, ends) (inr (good, mark)) = absurd (good ends)

  grown_bad : (n : ℕ) → after.mark ≡ Mark.Bad n → (n < length after.nodes) × IsStartCube log.protocol (node_at after.nodes n).cube
  grown_bad n is = by grows.mark
    where
      by : (EndsBad log.protocol list × (after.mark ≡ Mark.Bad (length log.nodes + length list - 1))) ⊎ ((EndsBad log.protocol list → ⊥) × (after.mark ≡ Mark.Going))
          → (n < length after.nodes) × IsStartCube log.protocol (node_at after.nodes n).cube
      by (inl (ends, mark)) =
          let (k, size, meets) = bad_last log.protocol list ends in
          let same : n ≡ length log.nodes + length list - 1 = cc in
          let m = grows.count in
          (omega arith, subst (IsStartCube log.protocol) (sym (new_cube log event list after grows n k (omega arith) (omega arith))) meets)
      by (inr (good, mark)) = cc

  ends_good : after.mark ≡ Mark.Going → EndsBad log.protocol list → ⊥
  ends_good is ends = by grows.mark
    where
      by : (EndsBad log.protocol list × (after.mark ≡ Mark.Bad (length log.nodes + length list - 1))) ⊎ ((EndsBad log.protocol list → ⊥) × (after.mark ≡ Mark.Going)) → ⊥
      by (inl (bad, mark)) = cc
      by (inr (good, mark)) = good ends

  -- all that was treated is covered afterwards
  pieces_covered : after.mark ≡ Mark.Going → (x : Numbered) → Contains pieces x → IsCovered log.protocol (cubes_of after.nodes) x.cube
  pieces_covered is x inside =
      subst (λ cs. IsCovered log.protocol cs x.cube) (sym (cubes_after log event list after grows)) (adds_all log.protocol (cubes_of log.nodes) pieces list adds (ends_good is) x inside)

  stays_covered : (c : Cube) → IsCovered log.protocol (cubes_of log.nodes) c → IsCovered log.protocol (cubes_of after.nodes) c
  stays_covered c covered = subst (λ cs. IsCovered log.protocol cs c) (sym (cubes_after log event list after grows)) (covered_left log.protocol (cubes_of log.nodes) (added_cubes list) c covered)

  going_is : (m : Mark) → is_going m ≡ true → m ≡ Mark.Going
  going_is Mark.Going h = refl
  going_is (Mark.Bad number) h = cc
  going_is (Mark.Full number needed) h = cc

  number_is : (from : Option ℕ) (i : ℕ) → is_number from i ≡ true → from ≡ Some i
  number_is None i h = cc
  number_is (Some n) i h = ap Some (same_is n i h)

  grown_treated : (i : ℕ) → i < length after.nodes → (node_at after.nodes i).fate ≡ Fate.Done → AreCovered P log.protocol (cubes_of after.nodes) (node_at after.nodes i).cube
  grown_treated i below done = by (place i below)
    where
      by_expanded : (from : Option ℕ) → event.node ≡ from → is_number from i ≡ true → after.mark ≡ Mark.Going → Treats P log from pieces
          → i < length log.nodes → AreCovered P log.protocol (cubes_of after.nodes) (node_at after.nodes i).cube
      by_expanded None is h mark its old = cc
      by_expanded (Some n) is h mark its old =
          let same : n ≡ i = same_is n i h in
          record {
            pieces = its.cubes;
            its = subst (λ c. P log.protocol c its.cubes) (ap (λ m. (node_at log.nodes m).cube) same ∙ sym (old_cube log event list after grows i old)) its.its;
            covered = λ x inside.
                let (k, among) = has_number 0 its.cubes x inside in
                pieces_covered mark (with_number k x) (subst (λ xs. Contains xs (with_number k x)) (sym its.is) among);
          }

      by_old : i < length log.nodes → ((node_at log.nodes i).fate ≡ Fate.Done) ⊎ ((is_number event.node i && is_going after.mark) ≡ true)
          → AreCovered P log.protocol (cubes_of after.nodes) (node_at after.nodes i).cube
      by_old old (inl was) =
          let before = woven.treated i old was in
          record {
            pieces = before.pieces;
            its = subst (λ c. P log.protocol c before.pieces) (sym (old_cube log event list after grows i old)) before.its;
            covered = λ x inside. stays_covered x (before.covered x inside);
          }
      by_old old (inr expanded) =
          by_expanded event.node refl (and_left (is_number event.node i) (is_going after.mark) expanded)
          (going_is after.mark (and_right (is_number event.node i) (is_going after.mark) expanded)) treats old

      by_new : (k : ℕ) → i ≡ length log.nodes + k → ((Fate.Waiting ≡ Fate.Done) ⊎ ((is_number event.node i && is_going after.mark) ≡ true))
          → AreCovered P log.protocol (cubes_of after.nodes) (node_at after.nodes i).cube
      by_new k is (inl wrong) = cc
      by_new k is (inr expanded) = not_new event.node (and_left (is_number event.node i) (is_going after.mark) expanded) treats
        where
          not_new : (from : Option ℕ) → is_number from i ≡ true → Treats P log from pieces → AreCovered P log.protocol (cubes_of after.nodes) (node_at after.nodes i).cube
          not_new None h its = cc
          not_new (Some n) h its = let same : n ≡ i = same_is n i h in let inside = its.inside in absurd (omega arith)

      by : (i < length log.nodes) ⊎ ((k : ℕ) × (i ≡ length log.nodes + k) × (k < length list)) → AreCovered P log.protocol (cubes_of after.nodes) (node_at after.nodes i).cube
      by (inl old) =
          by_old old (done_after (node_at log.nodes i).fate (grows.nodes i below).link (is_number event.node i && is_going after.mark)
          (sym (fate_is i below (node_at log.nodes i) (old_node log event list i old)) ∙ done))
      by (inr (k, is, within)) =
          by_new k is (done_after Fate.Waiting (grows.nodes i below).link (is_number event.node i && is_going after.mark)
          (sym (fate_is i below (new_node event.node (get_or list k no_added)) (added_node log event list i k is within)) ∙ done))

  grown_rooted : after.mark ≡ Mark.Going → AreRootsCovered log.protocol (cubes_of after.nodes)
  grown_rooted is = by event.node treats
    where
      by : (from : Option ℕ) → Treats P log from pieces → AreRootsCovered log.protocol (cubes_of after.nodes)
      by None (first, are) = record { roots = pieces; are = are; covered = pieces_covered is }
      by (Some n) its =
          let before = woven.rooted going its.begun in
          record { roots = before.roots; are = before.are; covered = λ x inside. stays_covered x.cube (before.covered x inside) }

  -- origins: an old node keeps its own, an added one is a form of what was treated
  abbrev with_events : List LogEvent → LogValue
  with_events events = record { protocol = log.protocol; budget = log.budget; nodes = after.nodes; events = events; mark = after.mark }

  old_form : (i : ℕ) → i < length log.nodes → (c : Cube) → IsForm log.protocol c (node_at log.nodes i).places (node_at log.nodes i).cube
      → IsForm log.protocol c (node_at after.nodes i).places (node_at after.nodes i).cube
  old_form i old c form =
      subst (λ d. IsForm log.protocol c (node_at after.nodes i).places d) (sym (old_cube log event list after grows i old))
      (subst (λ places. IsForm log.protocol c places (node_at log.nodes i).cube)
      (sym (same_places log event list after grows i (old_within i old) ∙ ap (λ (n : Node). n.places) (old_node log event list i old))) form)

  old_origin : (events : List LogEvent) (i : ℕ) (origin : Origin) → i < length log.nodes → ComesFrom P log i (node_at log.nodes i) origin
      → ComesFrom P (with_events events) i (node_at after.nodes i) origin
  old_origin events i (Origin.Root goal) old h =
      record { goal = h.goal; is_there = h.is_there; possible = h.possible; form = old_form i old (goal_cube log.protocol h.goal) h.form }
  old_origin events i (Origin.Piece from piece) old h =
      let earlier = h.earlier in
      let same : (node_at log.nodes from).cube ≡ (node_at after.nodes from).cube = sym (old_cube log event list after grows from (omega arith)) in
      record {
        earlier = h.earlier;
        narrow = subst (λ (c : Cube). c.width ≤ log.budget.width) same h.narrow;
        cubes = h.cubes;
        its = subst (λ c. P log.protocol c h.cubes) same h.its;
        cube = h.cube;
        is_there = h.is_there;
        form = old_form i old h.cube h.form;
      }

  new_form : (i k : ℕ) → i < length after.nodes → i ≡ length log.nodes + k → k < length list → (c : Cube)
      → IsForm log.protocol c (get_or list k no_added).places (get_or list k no_added).cube → IsForm log.protocol c (node_at after.nodes i).places (node_at after.nodes i).cube
  new_form i k below is within c form =
      subst (λ d. IsForm log.protocol c (node_at after.nodes i).places d)
      (sym (same_cube log event list after grows i below ∙ ap (λ (n : Node). n.cube) (added_node log event list i k is within)))
      (subst (λ places. IsForm log.protocol c places (get_or list k no_added).cube)
      (sym (same_places log event list after grows i below ∙ ap (λ (n : Node). n.places) (added_node log event list i k is within))) form)

  new_origin : (events : List LogEvent) (i k : ℕ) → i < length after.nodes → i ≡ length log.nodes + k → k < length list
      → (from : Option ℕ) → Treats P log from pieces → IsFormOfPiece log.protocol pieces (get_or list k no_added)
      → ComesFrom P (with_events events) i (node_at after.nodes i) (origin_of from (get_or list k no_added).piece)
  new_origin events i k below is within None (first, are) made =
      let root = root_is log.protocol pieces made.piece are made.inside in
      record {
        goal = root.goal;
        is_there = subst (λ n. slice_get log.protocol.goals n ≡ Some root.goal) (sym made.numbered) root.is_there;
        possible = subst (λ (c : Cube). IsConsistent log.protocol c.width c.lits) root.is root.possible;
        form = new_form i k below is within (goal_cube log.protocol root.goal)
            (subst (λ c. IsForm log.protocol c (get_or list k no_added).places (get_or list k no_added).cube) root.is made.form);
      }
  new_origin events i k below is within (Some n) its made =
      let inside = its.inside in
      let same : (node_at log.nodes n).cube ≡ (node_at after.nodes n).cube = sym (old_cube log event list after grows n inside) in
      let (j, number, found) = number_at 0 its.cubes made.piece (subst (λ xs. Contains xs made.piece) its.is made.inside) in
      record {
        earlier = omega arith;
        narrow = subst (λ (c : Cube). c.width ≤ log.budget.width) same its.narrow;
        cubes = its.cubes;
        its = subst (λ c. P log.protocol c its.cubes) same its.its;
        cube = made.piece.cube;
        is_there = subst (λ m. slice_get its.cubes m ≡ Some made.piece.cube) (let e : j ≡ (get_or list k no_added).piece = sym (made.numbered ∙ (number ∙ omega arith)) in e) found;
        form = new_form i k below is within made.piece.cube made.form;
      }

  grown_origins : (events : List LogEvent) (i : ℕ) → i < length after.nodes → ComesFrom P (with_events events) i (node_at after.nodes i) (node_at after.nodes i).origin
  grown_origins events i below = by (place i below)
    where
      by : (i < length log.nodes) ⊎ ((k : ℕ) × (i ≡ length log.nodes + k) × (k < length list)) → ComesFrom P (with_events events) i (node_at after.nodes i) (node_at after.nodes i).origin
      by (inl old) =
          subst (ComesFrom P (with_events events) i (node_at after.nodes i)) (sym (same_origin log event list after grows i below ∙ ap (λ (n : Node). n.origin) (old_node log event list i old)))
          (old_origin events i (node_at log.nodes i).origin old (woven.origins i old))
      by (inr (k, is, within)) =
          subst (ComesFrom P (with_events events) i (node_at after.nodes i)) (sym (same_origin log event list after grows i below ∙ ap (λ (n : Node). n.origin) (added_node log event list i k is within)))
          (new_origin events i k below is within event.node treats (adds_forms log.protocol (cubes_of log.nodes) pieces list adds k no_added within))

  pub woven_grown : (events : List LogEvent) → IsWoven P (with_events events)
  woven_grown events = record {
    few = let n = grows.count in let m = grows.within in omega arith;
    links = grown_links;
    fresh = grown_fresh;
    start = grown_start;
    bad = grown_bad;
    full = λ from needed is. by_mark from needed is grows.mark;
    treated = grown_treated;
    rooted = λ is begun. grown_rooted is;
    origins = grown_origins events;
  }
    where
      by_mark : (from : Option ℕ) (needed : ℕ) → after.mark ≡ Mark.Full from needed
          → (EndsBad log.protocol list × (after.mark ≡ Mark.Bad (length log.nodes + length list - 1))) ⊎ ((EndsBad log.protocol list → ⊥) × (after.mark ≡ Mark.Going))
          → log.budget.cubes < length after.nodes + needed
      by_mark from needed is (inl (bad, mark)) = cc
      by_mark from needed is (inr (good, mark)) = cc

-- ---- one event, and all events
pub woven_step : (P : PieceRelation) (log : LogValue) (event : LogEvent) (after : LogValue) → IsWoven P log → Leads P log event after → IsWoven P after
woven_step P log event after woven leads = by leads.effect
  where
    by : Fills log event leads.list after ⊎ Grows log event leads.list after → IsWoven P after
    by (inl fills) =
        let is : after ≡ record log { events = after.events; mark = Mark.Full event.node (length leads.list) } =
        (λ i. record { protocol = leads.protocol i; budget = leads.budget i; nodes = fills.nodes i; events = after.events; mark = fills.mark i }) in
        subst (IsWoven P) (sym is) (woven_filled P log woven leads.going after.events event.node (length leads.list) fills.above)
    by (inr grows) =
        let is : after ≡ record { protocol = log.protocol; budget = log.budget; nodes = after.nodes; events = after.events; mark = after.mark } =
        (λ i. record { protocol = leads.protocol i; budget = leads.budget i; nodes = after.nodes; events = after.events; mark = after.mark }) in
        subst (IsWoven P) (sym is) (woven_grown P log event leads.list after woven leads.going leads.pieces leads.treats leads.adds grows after.events)

pub woven_all : (P : PieceRelation) (log : LogValue) (events : List LogEvent) (after : LogValue) → IsWoven P log → LeadAll P log events after → IsWoven P after
woven_all P log [] after woven same = subst (IsWoven P) same woven
woven_all P log (event ∷ events) after woven (next, leads, rest) = woven_all P next events after (woven_step P log event next woven leads) rest

pub legal_woven : (P : PieceRelation) (log : LogValue) → IsLegalLog P log → IsWoven P log
legal_woven P log legal = woven_all P (no_log log.protocol log.budget) log.events log (woven_none P log.protocol log.budget) legal.made
