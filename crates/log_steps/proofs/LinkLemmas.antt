-- Steps of linking.
use Rattle.std.proofs.Common.{◌≡◌, ◌≢◌, ◌⊎◌, ℕ, ◌+◌, ◌<◌, ◌≤◌, ◌^◌, max, Bool, true, false, cond, List, ◌∷◌, length, get_or, set, take, drop, refl, sym, ap, ◌∙◌, subst, arith, inl, inr, le_trans}
use Rattle.std.specs.Prelude.{Option, Some, None, All}
use Rattle.std.proofs.Math.Nat.{max-le, le-max_left, le-max_right}
use Rattle.std.proofs.Math.Seq.{map-set_same}
use Rattle.std.proofs.lemmas.Bool.{cases_lt}
use Rattle.std.proofs.lemmas.List.{get_or-set_same, get_or-set_other, get_or-take, length-take-le, drop_more, drop_all, get_or_default}
use Rattle.std.proofs.lemmas.List.Sums.{sum_by-set, count_by-le-length}
use Rattle.cub_proto.specs.declared.protocol.Protocol.{Protocol}
use Rattle.cub_cube.specs.declared.cube.Cube.{Cube}
use Rattle.cub_cube.specs.Cover.{DoesCover, CoversLeast}
use Rattle.log_form.specs.declared.node.Fate.{Fate}
use Rattle.log_form.specs.declared.node.Fate.TheVariants.{Waiting, Done, Covered}
use Rattle.log_form.specs.declared.node.Node.{Node}
use Rattle.log_form.specs.Links.{Link, cube_at, no_cube, IsFirstCover, IsFirstUnder}
use Rattle.log_form.specs.Fates.{is_live, fate_after}
use Rattle.log_form.specs.Log.{node_at, no_node, cubes_of}
use Rattle.log_form.proofs.Covered.{cube_at-cubes_of, length-cubes_of}
use Rattle.log_steps.specs.declared.judgement.Under.{Under}
use Rattle.log_steps.specs.declared.judgement.Pick.{Pick}
use Rattle.log_steps.specs.Judged.{AreUnder}
use Rattle.log_steps.specs.Commits.{no_pick, linked_to, live_count, AreMade, AreLinked, IsLinkedBy, IsLinkedUpTo, StandAt}

-- ---- one link
pub fate_kept : (f : Fate) (l : Link) → is_live f ≡ false → fate_after f (Some l) false ≡ f
fate_kept Waiting l h = cc
fate_kept Done l h = cc
fate_kept (Covered by places) l h = refl

pub fate_taken : (f : Fate) (l : Link) → is_live f ≡ true → fate_after f (Some l) false ≡ Covered l.0 l.1
fate_taken Waiting l h = refl
fate_taken Done l h = refl
fate_taken (Covered by places) l h = cc

not_live : (f : Fate) (l : Link) → is_live (fate_after f (Some l) false) ≡ false
not_live Waiting l = refl
not_live Done l = refl
not_live (Covered by places) l = refl

-- the cubes stay where a node is linked
set_cubes : (nodes : List Node) (number by : ℕ) (places : List ℕ) → cubes_of (set nodes number (linked_to by places (node_at nodes number))) ≡ cubes_of nodes
set_cubes nodes number by places = map-set_same (λ (n : Node). n.cube) nodes number (linked_to by places (node_at nodes number)) no_node refl

abbrev pub number_of : Bool → ℕ
number_of b = cond b 1 0

pub one_made : (nodes new : List Node) (number by : ℕ) (places : List ℕ) (live : Bool) → number < length nodes → live ≡ is_live (node_at nodes number).fate
    → new ≡ set nodes number (linked_to by places (node_at nodes number)) → AreMade nodes new (cond live 1 0)
one_made nodes new number by places live below is set_to = record {
  count = count;
  cubes = ap cubes_of set_to ∙ set_cubes nodes number by places;
}
  where
    to : Node
    to = linked_to by places (node_at nodes number)

    none : number_of (is_live to.fate) ≡ 0
    none = ap number_of (not_live (node_at nodes number).fate (by, places))

    was : number_of live ≡ number_of (is_live (node_at nodes number).fate)
    was = ap number_of is

    count : live_count new + number_of live ≡ live_count nodes
    count =
        let changed = ap live_count set_to in
        let sum : live_count (set nodes number to) + number_of (is_live (node_at nodes number).fate) ≡ live_count nodes + number_of (is_live to.fate) = sum_by-set (λ (n : Node). cond (is_live n.fate) 1 0) nodes number to no_node below in
        omega (arith, changed, sum, none, was)

pub made_none : (nodes : List Node) → AreMade nodes nodes 0
made_none nodes = record { count = omega arith; cubes = refl }

pub made_more : (old now new : List Node) (links more : ℕ) → AreMade old now links → AreMade now new more → AreMade old new (links + more)
made_more old now new links more a b = record { count = omega (arith, a.count, b.count); cubes = b.cubes ∙ a.cubes }

pub made_few : (old now new : List Node) (links more : ℕ) → AreMade old now links → AreMade now new more → length old < 2 ^ 32 → links + more < 2 ^ 32
made_few old now new links more a b few = omega (arith, a.count, b.count, count_by-le-length (λ (n : Node). is_live n.fate) old, few)

-- ---- the nodes that one cube covers
pub linked_none : (p : Protocol) (cube : Cube) (by from : ℕ) (nodes : List Node) → AreLinked p cube by from from nodes nodes
linked_none p cube by from nodes = record { done = λ i low below inside. absurd (omega arith); left = λ i out. refl }

-- nodes from one number up to another that the cube doesn't cover stay
pub skipped : (p : Protocol) (cube : Cube) (by from at upto : ℕ) (old now : List Node) → ((i : ℕ) → at ≤ i → i < upto → i < by → i < length old → DoesCover p cube (node_at old i).cube → ⊥)
    → from ≤ at → at ≤ upto → AreLinked p cube by from at old now → AreLinked p cube by from upto old now
skipped p cube by from at upto old now none low le h = record {
  done = λ i begun below inside. one i begun below inside (cases_lt i at);
  left = λ i out. h.left i (still i out);
}
  where
    one : (i : ℕ) → from ≤ i → i < upto → i < length old → (i < at) ⊎ (at ≤ i) → IsLinkedBy p cube by i (node_at old i) (node_at now i)
    one i begun below inside (inl less) = h.done i begun less inside
    one i begun below inside (inr past) = inr (λ before covers. none i past below before inside covers, h.left i (inr past))

    still : (i : ℕ) → (i < from) ⊎ (upto ≤ i) → (i < from) ⊎ (at ≤ i)
    still i (inl less) = inl less
    still i (inr past) = inr (omega arith)

-- the node found is linked
pub linked_one : (p : Protocol) (cube : Cube) (by from number : ℕ) (places : List ℕ) (old now new : List Node) → number < by → from ≤ number → number < length old → length now ≡ length old
    → CoversLeast p cube (node_at old number).cube places → AreLinked p cube by from number old now → new ≡ set now number (linked_to by places (node_at now number))
    → AreLinked p cube by from (number + 1) old new
linked_one p cube by from number places old now new before low inside same least h set_to = record {
  done = λ i begun below within. one i begun below within (cases_lt i number);
  left = λ i out. others i (differ i out) ∙ h.left i (still i out);
}
  where
    others : (i : ℕ) → i ≢ number → node_at new i ≡ node_at now i
    others i apart = ap (λ ns. node_at ns i) set_to ∙ get_or-set_other now number i (linked_to by places (node_at now number)) no_node apart

    linked : node_at new number ≡ linked_to by places (node_at now number)
    linked = ap (λ ns. node_at ns number) set_to ∙ get_or-set_same now number (linked_to by places (node_at now number)) no_node (omega arith)

    differ : (i : ℕ) → (i < from) ⊎ (number + 1 ≤ i) → i ≢ number
    differ i (inl less) = λ e. absurd (omega arith)
    differ i (inr past) = λ e. absurd (omega arith)

    still : (i : ℕ) → (i < from) ⊎ (number + 1 ≤ i) → (i < from) ⊎ (number ≤ i)
    still i (inl less) = inl less
    still i (inr past) = inr (omega arith)

    here : IsLinkedBy p cube by number (node_at old number) (node_at new number)
    here = inl (before, (places, least, linked ∙ ap (linked_to by places) (h.left number (inr (omega arith)))))

    one : (i : ℕ) → from ≤ i → i < number + 1 → i < length old → (i < number) ⊎ (number ≤ i) → IsLinkedBy p cube by i (node_at old i) (node_at new i)
    one i begun below within (inl less) = subst (IsLinkedBy p cube by i (node_at old i)) (sym (others i (λ e. absurd (omega arith)))) (h.done i begun less within)
    one i begun below within (inr past) =
        let e : number ≡ i = omega arith in subst (λ j. IsLinkedBy p cube by j (node_at old j) (node_at new j)) e here

-- ---- what a search found, by the nodes
pub record IsFound (p : Protocol) (nodes : List Node) (at upto : ℕ) (cube : Cube) (link : Link) : Type 0 where
  pub from : at ≤ link.0
  pub below : link.0 < upto
  pub least : CoversLeast p cube (node_at nodes link.0).cube link.1
  pub none : (i : ℕ) → at ≤ i → i < link.0 → DoesCover p cube (node_at nodes i).cube → ⊥

at_node : (cubes : List Cube) (nodes : List Node) → cubes ≡ cubes_of nodes → (i : ℕ) → cube_at cubes i ≡ (node_at nodes i).cube
at_node cubes nodes same i = ap (λ cs. cube_at cs i) same ∙ cube_at-cubes_of nodes i

pub count_of : (cubes : List Cube) (nodes : List Node) → cubes ≡ cubes_of nodes → length cubes ≡ length nodes
count_of cubes nodes same = ap length same ∙ length-cubes_of nodes

pub under_found : (p : Protocol) (cubes : List Cube) (nodes : List Node) (at : ℕ) (cube : Cube) (link : Link) → cubes ≡ cubes_of nodes → IsFirstUnder p cubes at (length cubes) cube (Some link)
    → IsFound p nodes at (length nodes) cube link
under_found p cubes nodes at cube link same (low, high, least, none) =
    let n = count_of cubes nodes same in
    record {
      from = low;
      below = omega (arith, n, high);
      least = subst (λ d. CoversLeast p cube d link.1) (at_node cubes nodes same link.0) least;
      none = λ i from below covers. none i from below (subst (DoesCover p cube) (sym (at_node cubes nodes same i)) covers);
    }

pub under_none : (p : Protocol) (cubes : List Cube) (nodes : List Node) (at : ℕ) (cube : Cube) → cubes ≡ cubes_of nodes → IsFirstUnder p cubes at (length cubes) cube None
    → (i : ℕ) → at ≤ i → i < length nodes → DoesCover p cube (node_at nodes i).cube → ⊥
under_none p cubes nodes at cube same none i from below covers =
    let n = count_of cubes nodes same in
    none i from (omega (arith, n, below)) (subst (DoesCover p cube) (sym (at_node cubes nodes same i)) covers)

-- of the first cubes
at_front : (cubes : List Cube) (nodes : List Node) (seen i : ℕ) → cubes ≡ cubes_of nodes → i < seen → cube_at (take seen cubes) i ≡ (node_at nodes i).cube
at_front cubes nodes seen i same below = get_or-take seen cubes i no_cube below ∙ at_node cubes nodes same i

front_found : (p : Protocol) (cubes : List Cube) (nodes : List Node) (seen at : ℕ) (cube : Cube) (link : Link) → cubes ≡ cubes_of nodes → seen ≤ length nodes
    → IsFirstUnder p (take seen cubes) at (length (take seen cubes)) cube (Some link) → IsFound p nodes at seen cube link
front_found p cubes nodes seen at cube link same few (low, high, least, none) =
    let n = count_of cubes nodes same in
    let taken = length-take-le seen cubes (omega (arith, n, few)) in
    let below : link.0 < seen = omega (arith, taken, high) in
    record {
      from = low;
      below = below;
      least = subst (λ d. CoversLeast p cube d link.1) (at_front cubes nodes seen link.0 same below) least;
      none = λ i from less covers. none i from less (subst (DoesCover p cube) (sym (at_front cubes nodes seen i same (omega (arith, less, below)))) covers);
    }

front_none : (p : Protocol) (cubes : List Cube) (nodes : List Node) (seen at : ℕ) (cube : Cube) → cubes ≡ cubes_of nodes → seen ≤ length nodes
    → IsFirstUnder p (take seen cubes) at (length (take seen cubes)) cube None → (i : ℕ) → at ≤ i → i < seen → DoesCover p cube (node_at nodes i).cube → ⊥
front_none p cubes nodes seen at cube same few none i from below covers =
    let n = count_of cubes nodes same in
    let taken = length-take-le seen cubes (omega (arith, n, few)) in
    none i from (omega (arith, taken, below)) (subst (DoesCover p cube) (sym (at_front cubes nodes seen i same below)) covers)

-- in the list of a finder
pub covers_in_list : (p : Protocol) (list now : List Cube) (nodes : List Node) (by number : ℕ) (cube : Cube) (places : List ℕ) → now ≡ list → list ≡ cubes_of nodes → cube ≡ (node_at nodes by).cube
    → CoversLeast p cube (node_at nodes number).cube places → DoesCover p (cube_at now by) (cube_at now number)
covers_in_list p list now nodes by number cube places same cubes is least =
    let at : (i : ℕ) → cube_at now i ≡ (node_at nodes i).cube = at_node now nodes (same ∙ cubes) in
    subst (λ d. DoesCover p d (cube_at now number)) (is ∙ sym (at by)) (subst (DoesCover p cube) (sym (at number)) (places, least.covers))

pub inside_list : (list : List Cube) (nodes : List Node) (by : ℕ) → list ≡ cubes_of nodes → by < length nodes → by < length list
inside_list list nodes by same below = omega (arith, count_of list nodes same, below)

-- ---- the links that a pick lists
-- what is left of them from one number on
pub record AreLeft (p : Protocol) (cubes : List Cube) (cube : Cube) (by seen : ℕ) (rest : List Under) (old now : List Node) : Type 0 where
  pub at : ℕ
  pub few : at ≤ seen
  pub under : AreUnder p (take seen cubes) at cube rest
  pub linked : AreLinked p cube by 0 at old now

pub left_all : (p : Protocol) (cubes : List Cube) (cube : Cube) (by seen : ℕ) (under : List Under) (nodes : List Node) → AreUnder p (take seen cubes) 0 cube under → AreLeft p cubes cube by seen under nodes nodes
left_all p cubes cube by seen under nodes are = record { at = 0; few = omega arith; under = are; linked = linked_none p cube by 0 nodes }

pub record IsNextLink (p : Protocol) (cube : Cube) (by seen : ℕ) (u : Under) (nodes : List Node) : Type 0 where
  pub below : u.node < seen
  pub least : CoversLeast p cube (node_at nodes u.node).cube u.places

first_left : (p : Protocol) (cubes : List Cube) (cube : Cube) (seen at : ℕ) (under : List Under) (i : ℕ) (u : Under) → i < length under → u ≡ get_or under i u
    → AreUnder p (take seen cubes) at cube (drop i under) → AreUnder p (take seen cubes) at cube (u ∷ drop (i + 1) under)
first_left p cubes cube seen at under i u below is =
    subst (AreUnder p (take seen cubes) at cube) (drop_more under i u below ∙ ap (λ v. v ∷ drop (i + 1) under) (sym is))

pub next_link : (p : Protocol) (cubes : List Cube) (cube : Cube) (by seen : ℕ) (under : List Under) (i : ℕ) (u : Under) (old now : List Node) → cubes ≡ cubes_of old → seen ≤ length old → i < length under → u ≡ get_or under i u
    → AreLeft p cubes cube by seen (drop i under) old now → IsNextLink p cube by seen u old
next_link p cubes cube by seen under i u old now same few below is h =
    let first = first_left p cubes cube seen h.at under i u below is h.under in
    let found = front_found p cubes old seen h.at cube (u.node, u.places) same few first.0 in
    record { below = found.below; least = found.least }

pub left_more : (p : Protocol) (cubes : List Cube) (cube : Cube) (by seen : ℕ) (under : List Under) (i : ℕ) (u : Under) (old now new : List Node) → cubes ≡ cubes_of old → seen ≤ length old → seen ≤ by
    → length now ≡ length old → i < length under → u ≡ get_or under i u → new ≡ set now u.node (linked_to by u.places (node_at now u.node))
    → AreLeft p cubes cube by seen (drop i under) old now → AreLeft p cubes cube by seen (drop (i + 1) under) old new
left_more p cubes cube by seen under i u old now new same few before len below is set_to h =
    let first = first_left p cubes cube seen h.at under i u below is h.under in
    let found = front_found p cubes old seen h.at cube (u.node, u.places) same few first.0 in
    let inside = found.below in
    let low = found.from in
    record {
      at = u.node + 1;
      few = omega arith;
      under = first.1;
      linked = linked_one p cube by 0 u.node u.places old now new (omega arith) (omega arith) (omega arith) len found.least
          (skipped p cube by 0 h.at u.node old now (λ j from less earlier within covers. found.none j from less covers) (omega arith) low h.linked) set_to;
    }

pub left_none : (p : Protocol) (cubes : List Cube) (cube : Cube) (by seen : ℕ) (under : List Under) (i : ℕ) (old now : List Node) → cubes ≡ cubes_of old → seen ≤ length old → length under ≤ i
    → AreLeft p cubes cube by seen (drop i under) old now → AreLinked p cube by 0 seen old now
left_none p cubes cube by seen under i old now same few past h =
    let none = front_none p cubes old seen h.at cube same few (subst (AreUnder p (take seen cubes) h.at cube) (drop_all i under past) h.under) in
    skipped p cube by 0 h.at seen old now (λ j from below earlier within covers. none j from below covers) (omega arith) h.few h.linked

-- first those that the pick lists, then the others
pub linked_both : (p : Protocol) (cube : Cube) (by seen : ℕ) (old mid new : List Node) → length mid ≡ length old → AreLinked p cube by 0 seen old mid → AreLinked p cube by seen (length mid) mid new
    → (i : ℕ) → i < length old → IsLinkedBy p cube by i (node_at old i) (node_at new i)
linked_both p cube by seen old mid new same known found i inside = one (cases_lt i seen)
  where
    one : (i < seen) ⊎ (seen ≤ i) → IsLinkedBy p cube by i (node_at old i) (node_at new i)
    one (inl less) = subst (IsLinkedBy p cube by i (node_at old i)) (sym (found.left i (inl less))) (known.done i (omega arith) less inside)
    one (inr past) = subst (λ (n : Node). IsLinkedBy p cube by i n (node_at new i)) (known.left i (inr past)) (found.done i past (omega arith) (omega arith))

-- ---- one added cube after another
fate_twice : (f : Fate) (l m : Link) → fate_after (fate_after f (Some l) false) (Some m) false ≡ fate_after f (Some l) false
fate_twice Waiting l m = refl
fate_twice Done l m = refl
fate_twice (Covered by places) l m = refl

fate_none : (f : Fate) → fate_after f None false ≡ f
fate_none Waiting = refl
fate_none Done = refl
fate_none (Covered by places) = refl

pub linked_first : (p : Protocol) (cubes : List Cube) (first number : ℕ) (n : Node) → IsLinkedUpTo p cubes first first number n n
linked_first p cubes first number n = record {
  link = None;
  found = λ i low below covers. absurd (omega (arith, le_trans (le-max_left first (number + 1)) low, below));
  is = ap (λ f. record n { fate = f }) (sym (fate_none n.fate));
}

pub linked_step : (p : Protocol) (cubes : List Cube) (first by number : ℕ) (old now new : Node) → first ≤ by → IsLinkedUpTo p cubes first by number old now
    → IsLinkedBy p (cube_at cubes by) by number now new → IsLinkedUpTo p cubes first (by + 1) number old new
linked_step p cubes first by number old now new le h step = go h.link h.found h.is step
  where
    go : (link : Option Link) → IsFirstCover p cubes (max first (number + 1)) by old.cube link → now ≡ record old { fate = fate_after old.fate link false }
        → IsLinkedBy p (cube_at cubes by) by number now new → IsLinkedUpTo p cubes first (by + 1) number old new
    go (Some l) (low, high, least, none) is (inl (before, (places, covers, linked))) = record {
      link = Some l;
      found = (low, omega arith, least, none);
      is = linked ∙ (ap (λ (n : Node). record n { fate = fate_after n.fate (Some (by, places)) false }) is ∙ ap (λ f. record old { fate = f }) (fate_twice old.fate l (by, places)));
    }
    go (Some l) (low, high, least, none) is (inr (free, same)) = record { link = Some l; found = (low, omega arith, least, none); is = same ∙ is }
    go None none is (inl (before, (places, covers, linked))) = record {
      link = Some (by, places);
      found = (max-le le (let e : number + 1 ≤ by = omega arith in e), omega arith, subst (λ (n : Node). CoversLeast p (cube_at cubes by) n.cube places) is covers, none);
      is = linked ∙ (ap (λ (n : Node). record n { fate = fate_after n.fate (Some (by, places)) false }) is ∙ ap (λ f. record old { fate = fate_after f (Some (by, places)) false }) (fate_none old.fate));
    }
    go None none is (inr (free, same)) = record {
      link = None;
      found = λ i low below covers. last i low below covers (cases_lt i by);
      is = same ∙ is;
    }
      where
        last : (i : ℕ) → max first (number + 1) ≤ i → i < by + 1 → DoesCover p (cube_at cubes i) old.cube → (i < by) ⊎ (by ≤ i) → ⊥
        last i low below covers (inl less) = none i low less covers
        last i low below covers (inr past) =
            let e : i ≡ by = omega arith in
            let from : number + 1 ≤ by = le_trans (le-max_right first (number + 1)) (subst (λ j. max first (number + 1) ≤ j) e low) in
            free (omega arith)
            (subst (λ (n : Node). DoesCover p (cube_at cubes by) n.cube) (sym is) (subst (λ j. DoesCover p (cube_at cubes j) old.cube) e covers))

pub at_item : (under slice : List Under) (i : ℕ) (u : Under) → slice ≡ under → i < length slice → u ≡ get_or slice i u → (i < length under) × (u ≡ get_or under i u)
at_item under slice i u same below is = (subst (λ us. i < length us) same below, subst (λ us. u ≡ get_or us i u) same is)

-- the pick at hand is the cube of its node
pub pick_stands : (first by j : ℕ) (picks : List Pick) (which : List ℕ) (nodes : List Node) (x : Pick) → StandAt first picks which nodes → All (λ k. k < length picks) which → j < length which → by ≡ first + j
    → x ≡ get_or picks (get_or which j 0) x → x.cube ≡ (node_at nodes by).cube
pick_stands first by j picks which nodes x stand numbers below count is =
    ap (λ (k : Pick). k.cube) (is ∙ get_or_default picks (get_or which j 0) x no_pick (numbers j 0 below))
    ∙ (sym (stand j below) ∙ ap (λ i. (node_at nodes i).cube) (sym count))

pub cube_stands : (cubes : List Cube) (nodes : List Node) (by : ℕ) (c : Cube) → cubes ≡ cubes_of nodes → c ≡ (node_at nodes by).cube → c ≡ cube_at cubes by
cube_stands cubes nodes by c same is = is ∙ sym (at_node cubes nodes same by)
