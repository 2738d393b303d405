-- Steps of a commit.
use Rattle.std.proofs.Common.{◌≡◌, ◌≢◌, ◌⊎◌, ◌↔◌, ℕ, zero, suc, ◌+◌, ◌-◌, ◌<◌, ◌≤◌, ◌&&◌, Bool, true, false, cond, List, [], ◌∷◌, ◌++◌, map, length, get_or, set, max, take, drop, append-nil, eqb, add-one, refl, sym, ap, ◌∙◌, subst, arith, inl, inr}
use Rattle.std.specs.Prelude.{Option, Some, None, All, IsTrue}
use Rattle.std.proofs.Math.Bool.{and-false}
use Rattle.std.proofs.lemmas.Bool.Decides.{eqb_tells}
use Rattle.std.proofs.lemmas.List.{get_or-set_same, get_or-set_other, get_or-map, get_or_default, length-map, length-set, length-append, map-append, get_or-append_right, drop_all, take_all}
use Rattle.std.proofs.lemmas.List.Sums.{sum_by-set, sum_by-append, sum_by-cons}
use Rattle.std.proofs.Math.Seq.{map-set_same}
use Rattle.cub_proto.specs.declared.protocol.Protocol.{Protocol}
use Rattle.cub_proto.specs.declared.budget.Budget.{Budget}
use Rattle.cub_cube.specs.declared.cube.Cube.{Cube}
use Rattle.cub_cube.specs.Starts.{IsStartCube}
use Rattle.log_form.specs.declared.node.Fate.{Fate}
use Rattle.log_form.specs.declared.node.Fate.TheVariants.{Waiting, Done, Covered}
use Rattle.log_form.specs.declared.node.Node.{Node}
use Rattle.log_form.specs.declared.event.Mark.{Mark}
use Rattle.log_form.specs.declared.event.Added.{Added}
use Rattle.log_form.specs.Links.{Link, IsFirstCover}
use Rattle.log_form.specs.Fates.{is_live, fate_after}
use Rattle.log_form.specs.declared.event.LogEvent.{LogEvent}
use Rattle.log_form.specs.Log.{LogValue, node_at, no_node, cubes_of, added_cubes, new_node, new_nodes}
use Rattle.log_form.specs.Legal.{EndsBad, is_number, IsNodeAfter, Grows}
use Rattle.log_form.specs.Stale.{KeepsUncovered}
use Rattle.log_form.proofs.Covered.{length-cubes_of}
use Rattle.log_form.proofs.Growth.{no_added, new_cubes}
use Rattle.log_steps.proofs.LinkLemmas.{number_of}
use Rattle.log_steps.specs.declared.judgement.Pick.{Pick}
use Rattle.log_steps.specs.Judged.{added_of, IsExact}
use Rattle.log_steps.specs.Commits.{no_pick, kept_of, settled, live_count, AreMade, StandAt, TellStarts, IsLinkedUpTo, IsLinkedUp, going_log, AreCommitted}

-- ---- the last of the list
ends_at : (p : Protocol) (added : List Added) (n : ℕ) → length added ≡ suc n → EndsBad p added ↔ IsStartCube p (get_or added n no_added).cube
ends_at p [] n h = absurd (omega arith)
ends_at p (a ∷ []) zero h = (λ s. s, λ s. s)
ends_at p (a ∷ []) (suc n) h = absurd (omega arith)
ends_at p (a ∷ b ∷ added) zero h = absurd (omega arith)
ends_at p (a ∷ b ∷ added) (suc n) h = ends_at p (b ∷ added) n (omega arith)

pub ends_none : (p : Protocol) (picks : List Pick) (which : List ℕ) → length which ≡ 0 → EndsBad p (kept_of picks which) → ⊥
ends_none p picks [] h bad = bad
ends_none p picks (k ∷ which) h bad = absurd (omega arith)

pub ends_last : (p : Protocol) (picks : List Pick) (which : List ℕ) (n : ℕ) (x : Pick) → length which ≡ n + 1 → x ≡ get_or picks (get_or which n 0) x → All (λ k. k < length picks) which
    → TellStarts p picks → IsTrue x.starts ↔ EndsBad p (kept_of picks which)
ends_last p picks which n x count is numbers tell = (λ t. ends.1 (subst (IsStartCube p) (sym cube) (says.0 t)), λ bad. says.1 (subst (IsStartCube p) cube (ends.0 bad)))
  where
    kept_count : length (kept_of picks which) ≡ suc n
    kept_count = length-map which (λ k. added_of (get_or picks k no_pick)) ∙ (count ∙ add-one n)

    ends : EndsBad p (kept_of picks which) ↔ IsStartCube p (get_or (kept_of picks which) n no_added).cube
    ends = ends_at p (kept_of picks which) n kept_count

    says : IsTrue x.starts ↔ IsStartCube p x.cube
    says = subst (λ (k : Pick). IsTrue k.starts ↔ IsStartCube p k.cube) (sym is) (tell (get_or which n 0) x (numbers n 0 (omega arith)))

    cube : (get_or (kept_of picks which) n no_added).cube ≡ x.cube
    cube = ap (λ (a : Added). a.cube) (get_or-map (λ k. added_of (get_or picks k no_pick)) which n 0 no_added (omega arith))
        ∙ ap (λ (k : Pick). k.cube) (sym (is ∙ get_or_default picks (get_or which n 0) x no_pick (numbers n 0 (omega arith))))

-- ---- fates when the list is added
fate_settled : (f : Fate) (link : Option Link) → fate_after (fate_after f link false) None true ≡ fate_after f link true
fate_settled Waiting None = refl
fate_settled Waiting (Some l) = refl
fate_settled Done None = refl
fate_settled Done (Some l) = refl
fate_settled (Covered by places) None = refl
fate_settled (Covered by places) (Some l) = refl

live_settled : (f : Fate) → is_live (fate_after f None true) ≡ is_live f
live_settled Waiting = refl
live_settled Done = refl
live_settled (Covered by places) = refl

-- ---- the list is linked
node_linked : (p : Protocol) (cubes : List Cube) (first upto number : ℕ) (expanded : Bool) (old new : Node) → upto ≡ length cubes → expanded ≡ false → IsLinkedUpTo p cubes first upto number old new
    → IsNodeAfter p first cubes number expanded old new
node_linked p cubes first upto number expanded old new count is h = record {
  link = h.link;
  found = subst (λ n. IsFirstCover p cubes (max first (number + 1)) n old.cube h.link) count h.found;
  is = h.is ∙ ap (λ b. record old { fate = fate_after old.fate h.link b }) (sym is);
}

node_settled : (p : Protocol) (cubes : List Cube) (first upto number : ℕ) (expanded : Bool) (old mid new : Node) → upto ≡ length cubes → expanded ≡ true → new ≡ settled mid → IsLinkedUpTo p cubes first upto number old mid
    → IsNodeAfter p first cubes number expanded old new
node_settled p cubes first upto number expanded old mid new count is done h = record {
  link = h.link;
  found = subst (λ n. IsFirstCover p cubes (max first (number + 1)) n old.cube h.link) count h.found;
  is = done ∙ (ap settled h.is ∙ (ap (λ f. record old { fate = f }) (fate_settled old.fate h.link) ∙ ap (λ b. record old { fate = fate_after old.fate h.link b }) (sym is)));
}

module _ (p : Protocol) (first : ℕ) (list : List Added) (old new : List Node) (links : ℕ) (same : length new ≡ length old)
    (linked : (i : ℕ) → i < length old → IsLinkedUpTo p (cubes_of old) first (length old) i (node_at old i) (node_at new i)) (made : AreMade old new links) where
  counted : length old ≡ length (cubes_of old)
  counted = sym (length-cubes_of old)

  pub up_bad : (node : Option ℕ) → EndsBad p list → IsLinkedUp p first node list old new (Mark.Bad (length old - 1)) links
  up_bad node bad = record {
    count = same;
    nodes = λ i inside. node_linked p (cubes_of old) first (length old) i (is_number node i && false) (node_at old i) (node_at new i) counted (and-false (is_number node i)) (linked i inside);
    marked = inl (bad, refl);
    made = made;
  }

  pub up_none : (EndsBad p list → ⊥) → IsLinkedUp p first None list old new Mark.Going links
  up_none good = record {
    count = same;
    nodes = λ i inside. node_linked p (cubes_of old) first (length old) i (false && true) (node_at old i) (node_at new i) counted refl (linked i inside);
    marked = inr (good, refl);
    made = made;
  }

  -- the expanded node is settled
  module _ (number : ℕ) (inside : number < length old) (after : List Node) (set_to : after ≡ set new number (settled (node_at new number))) where
    settled_count : live_count after ≡ live_count new
    settled_count =
        let changed = ap live_count set_to in
        let sum : live_count (set new number (settled (node_at new number))) + number_of (is_live (node_at new number).fate) ≡ live_count new + number_of (is_live (settled (node_at new number)).fate) =
        sum_by-set (λ (n : Node). cond (is_live n.fate) 1 0) new number (settled (node_at new number)) no_node (omega arith) in
        let live = ap number_of (live_settled (node_at new number).fate) in
        omega (arith, changed, sum, live)

    settled_cubes : cubes_of after ≡ cubes_of new
    settled_cubes = ap cubes_of set_to ∙ map-set_same (λ (n : Node). n.cube) new number (settled (node_at new number)) no_node refl

    settled_same : length after ≡ length old
    settled_same = ap length set_to ∙ (length-set new number (settled (node_at new number)) ∙ same)

    by_number : (i : ℕ) → i < length old → ((eqb number i ≡ true) × (number ≡ i)) ⊎ ((eqb number i ≡ false) × (number ≢ i))
        → IsNodeAfter p first (cubes_of old) i (is_number (Some number) i && true) (node_at old i) (node_at after i)
    by_number i within (inl (is, e)) =
        node_settled p (cubes_of old) first (length old) i (is_number (Some number) i && true) (node_at old i) (node_at new i) (node_at after i) counted (ap (λ b. b && true) is) at (linked i within)
      where
        at : node_at after i ≡ settled (node_at new i)
        at = subst (λ j. node_at after j ≡ settled (node_at new j)) e
            (ap (λ ns. node_at ns number) set_to ∙ get_or-set_same new number (settled (node_at new number)) no_node (omega arith))
    by_number i within (inr (is, apart)) =
        node_linked p (cubes_of old) first (length old) i (is_number (Some number) i && true) (node_at old i) (node_at after i) counted (ap (λ b. b && true) is)
        (subst (IsLinkedUpTo p (cubes_of old) first (length old) i (node_at old i)) (sym at) (linked i within))
      where
        at : node_at after i ≡ node_at new i
        at = ap (λ ns. node_at ns i) set_to ∙ get_or-set_other new number i (settled (node_at new number)) no_node (λ e. apart (sym e))

    pub up_some : (EndsBad p list → ⊥) → IsLinkedUp p first (Some number) list old after Mark.Going links
    up_some good = record {
      count = settled_same;
      nodes = λ i within. by_number i within (eqb_tells number i);
      marked = inr (good, refl);
      made = record { count = omega (arith, settled_count, made.count); cubes = settled_cubes ∙ made.cubes };
    }

pub bad_some : (p : Protocol) (picks : List Pick) (which : List ℕ) → EndsBad p (kept_of picks which) → 1 ≤ length which
bad_some p picks [] bad = absurd bad
bad_some p picks (k ∷ which) bad = omega arith

pub tells_all : (p : Protocol) (cubes : List Cube) (picks : List Pick) → All (IsExact p cubes) picks → TellStarts p picks
tells_all p cubes picks exact = λ k d below. (exact k d below).starts

-- ---- the kept picks as nodes
pub kept_count : (picks : List Pick) (which : List ℕ) → length (kept_of picks which) ≡ length which
kept_count picks which = length-map which (λ k. added_of (get_or picks k no_pick))

pub kept_at : (picks : List Pick) (which : List ℕ) (j : ℕ) (d : Added) → j < length which → get_or (kept_of picks which) j d ≡ added_of (get_or picks (get_or which j 0) no_pick)
kept_at picks which j d below = get_or-map (λ k. added_of (get_or picks k no_pick)) which j 0 d below

pub kept_each : (P : Added → Type 0) (picks : List Pick) (which : List ℕ) → All (λ k. P (added_of k)) picks → All (λ k. k < length picks) which → All P (kept_of picks which)
kept_each P picks which all numbers = λ j d below.
    let within : j < length which = omega (arith, kept_count picks which, below) in
    subst P (sym (kept_at picks which j d within)) (all (get_or which j 0) no_pick (numbers j 0 within))

pub grown_cubes : (nodes : List Node) (node : Option ℕ) (list : List Added) → cubes_of (nodes ++ new_nodes node list) ≡ cubes_of nodes ++ added_cubes list
grown_cubes nodes node list = map-append (λ (n : Node). n.cube) nodes (new_nodes node list) ∙ ap (λ cs. cubes_of nodes ++ cs) (new_cubes node list)

pub picks_stand : (nodes : List Node) (node : Option ℕ) (picks : List Pick) (which : List ℕ) (first : ℕ) → first ≡ length nodes → StandAt first picks which (nodes ++ new_nodes node (kept_of picks which))
picks_stand nodes node picks which first is = λ j below.
    let kept = kept_of picks which in
    let within : j < length kept = omega (arith, kept_count picks which, below) in
    ap (λ (n : Node). n.cube)
    (get_or-append_right nodes (new_nodes node kept) (length nodes) (first + j) no_node refl (omega (arith, is))
    ∙ (ap (λ n. get_or (new_nodes node kept) n no_node) (omega (arith, is)) ∙ get_or-map (new_node node) kept j no_added no_node within))
    ∙ ap (λ (a : Added). a.cube) (kept_at picks which j no_added below)

pub grown_count : (nodes : List Node) (node : Option ℕ) (picks : List Pick) (which : List ℕ) → length (nodes ++ new_nodes node (kept_of picks which)) ≡ length nodes + length which
grown_count nodes node picks which =
    length-append nodes (new_nodes node (kept_of picks which)) ∙ ap (λ n. length nodes + n) (length-map (kept_of picks which) (new_node node) ∙ kept_count picks which)

-- a whole vector written through its slice
pub whole_written : {X : Type 0} (n : ℕ) (xs ys : List X) → n ≡ length ys → length xs ≡ length ys → take n (xs ++ drop (length xs) ys) ≡ xs
whole_written n xs ys count same =
    ap (λ zs. take n (xs ++ zs)) (drop_all (length xs) ys (omega arith)) ∙ (ap (take n) (append-nil xs) ∙ take_all n xs (omega arith))

pub finder_count : (cubes : List Cube) (nodes : List Node) (n : ℕ) → n ≡ length cubes → cubes ≡ cubes_of nodes → n ≡ length nodes
finder_count cubes nodes n is same = is ∙ (ap length same ∙ length-cubes_of nodes)

-- ---- the commit
new_live : (from : Option ℕ) (list : List Added) → live_count (new_nodes from list) ≡ length list
new_live from [] = refl
new_live from (a ∷ list) = sum_by-cons (λ (n : Node). cond (is_live n.fate) 1 0) (new_node from a) (new_nodes from list) ∙ (ap (λ n. 1 + n) (new_live from list) ∙ one_more (length list))
  where
    one_more : (n : ℕ) → 1 + n ≡ suc n
    one_more n = omega arith

grown_live : (nodes : List Node) (node : Option ℕ) (list : List Added) → live_count (nodes ++ new_nodes node list) ≡ live_count nodes + length list
grown_live nodes node list = sum_by-append (λ (n : Node). cond (is_live n.fate) 1 0) nodes (new_nodes node list) ∙ ap (λ n. live_count nodes + n) (new_live node list)

abbrev pub event_of : Option ℕ → List Added → LogEvent
event_of node list = record { node = node; added = list; needed = 0 }

abbrev pub after_log : Protocol → Budget → List Node → List LogEvent → Mark → LogValue
after_log p budget nodes events mark = record { protocol = p; budget = budget; nodes = nodes; events = events; mark = mark }

module _ (p : Protocol) (budget : Budget) (nodes : List Node) (events : List LogEvent) (node : Option ℕ) (picks : List Pick) (which : List ℕ) (seen links : ℕ) (mark : Mark) (new : List Node) (more : List LogEvent)
    (room : length nodes + length which ≤ budget.cubes) (keeps : KeepsUncovered p (drop seen (cubes_of nodes)) (map added_of picks) (kept_of picks which))
    (pushed : more ≡ events ++ event_of node (kept_of picks which) ∷ [])
    (up : IsLinkedUp p (length nodes) node (kept_of picks which) (nodes ++ new_nodes node (kept_of picks which)) new mark links) where
  all_counted : length (nodes ++ new_nodes node (kept_of picks which)) ≡ length nodes + length (kept_of picks which)
  all_counted = grown_count nodes node picks which ∙ ap (λ n. length nodes + n) (sym (kept_count picks which))

  pub grows_so : Grows (going_log p budget nodes events) (event_of node (kept_of picks which)) (kept_of picks which) (after_log p budget new more mark)
  grows_so = record {
    within = omega (arith, room, kept_count picks which);
    added = refl;
    needed = refl;
    count = up.count ∙ all_counted;
    nodes = λ i below. up.nodes i (subst (λ n. i < n) up.count below);
    mark = subst (λ n. (EndsBad p (kept_of picks which) × (mark ≡ Mark.Bad (n - 1))) ⊎ ((EndsBad p (kept_of picks which) → ⊥) × (mark ≡ Mark.Going))) all_counted up.marked;
  }

  pub committed_grown : AreCommitted (going_log p budget nodes events) seen node picks links (after_log p budget new more mark)
  committed_grown = record {
    kept = kept_of picks which;
    keeps = keeps;
    is = record { event = event_of node (kept_of picks which); its = refl; effect = inr grows_so; protocol = refl; budget = refl; events = pushed };
    linked = λ going. up.made.count ∙ grown_live nodes node (kept_of picks which);
  }
