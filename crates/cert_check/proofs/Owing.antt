-- What is owed at a key, between keys, and beyond the last; what a goal or a piece asks for.
use Rattle.std.proofs.Common.{◌≡◌, ℕ, zero, suc, ◌+◌, ◌*◌, ◌<◌, ◌≤◌, false, List, [], ◌∷◌, length, get_or, Option, Some, None, refl, sym, ap, ◌∙◌, subst, arith, inl, inr, ◌⊎◌}
use Rattle.std.specs.Prelude.{IsTrue, MatchOption, slice_get, Contains, ◌&&◌, All, nat_le, unsigned_abs}
use Rattle.std.specs.List.{list_all}
use Rattle.std.proofs.lemmas.Bool.{cases_lt, false≢true, true≢false}
use Rattle.cub_proto.specs.declared.literal.Lit.{Lit}
use Rattle.cub_proto.specs.declared.literal.Lit.TheVariants.{FinIn, FinEq, FinNe, ProcEq, ProcNe, Diff}
use Rattle.cub_proto.specs.declared.protocol.Goal.{Goal}
use Rattle.cub_proto.specs.declared.protocol.Protocol.{Protocol}
use Rattle.cub_proto.specs.declared.cover.CoverLine.{CoverLine}
use Rattle.cub_proto.specs.StateOf.{signature_of}
use Rattle.cub_proto.specs.Fits.{literal_fits, is_bounded, conjunction_fits, goal_fits, greatest_bound, greatest_constant}
use Rattle.cub_cube.specs.declared.cube.Cube.{Cube}
use Rattle.cub_cube.specs.Goals.{goal_cube}
use Rattle.cub_cube.specs.Meaning.{SameMeaning, IsConsistent}
use Rattle.cub_cube.specs.Cover.{Covers, IsCovered}
use Rattle.cub_cube.proofs.Bounds.{same_back}
use Rattle.cub_cube.proofs.Form.{fold_true}
use Rattle.cub_cube.proofs.KeptLemmas.{kept_unique, kept_from}
use Rattle.cub_base.proofs.Bools.{and_left, and_right, and_both, le_is, is_le, less_is}
use Rattle.cub_base.proofs.Members.{Has, has_Contains, contains_Has, all_has, has_all}
use Rattle.theory_laws.specs.Fitting.{AreFitting, greatest_size}
use Rattle.piece_choices.specs.declared.piece.Piece.{Piece}
use Rattle.piece_choices.specs.Pieces.{candidates, IsPossible, ArePieces}
use Rattle.piece_laws.specs.Test.{CoversAt, HasGoal}
use Rattle.cert_check.specs.declared.keys.Key.{Key}
use Rattle.cert_check.specs.Keys.{key_of, is_before, lines_rise}
use Rattle.cert_check.specs.First.{IsFirstWithout}
use Rattle.cert_check.specs.Injections.{cube_of}
use Rattle.cert_check.specs.Obligations.{IsPiece, GoalCovered, PieceCovered, GoalNamed, PieceNamed, IsOwed}
use Rattle.cert_check.specs.Listed.{IsAskable, CoveredIn, NamedIn}
use Rattle.piece_choices.proofs.Limits.{piece_fits, piece_bounded}
use Rattle.piece_choices.proofs.Widths.{piece_wide}
use Rattle.cert_check.specs.Named.{line_by, line_places, IsNamed}
use Rattle.pieces.specs.Jobs.{IsExpandable, greatest_expanded}
use Rattle.cert_check.proofs.Order.{one_about, less_not, piece_before, before_piece, three}
use Rattle.cert_check.proofs.Walking.{get_inside}

-- ---- items by number
pub get_contains : {A : Type 0} (xs : List A) (n : ℕ) (x : A) → slice_get xs n ≡ Some x → Contains xs x
get_contains {A} xs n x e = has_Contains xs x (at xs n e)
  where
    at : (ys : List A) (k : ℕ) → slice_get ys k ≡ Some x → Has ys x
    at [] k e = cc
    at (y ∷ ys) zero e = let same : y ≡ x = cc in inl same
    at (y ∷ ys) (suc k) e = inr (at ys k e)

pub contains_get : {A : Type 0} (xs : List A) (x : A) → Contains xs x → (n : ℕ) × (slice_get xs n ≡ Some x)
contains_get {A} xs x inside = at xs (contains_Has xs x inside)
  where
    at : (ys : List A) → Has ys x → (n : ℕ) × (slice_get ys n ≡ Some x)
    at [] none = absurd none
    at (y ∷ ys) (inl same) = (0, ap (λ z. Some z) same)
    at (y ∷ ys) (inr later) = let found = at ys later in (suc found.0, found.1)

-- the item at a number below the length
pub get_at : {A : Type 0} (xs : List A) (n : ℕ) (d x : A) → n < length xs → get_or xs n d ≡ x → slice_get xs n ≡ Some x
get_at [] n d x below e = absurd (omega arith)
get_at (y ∷ ys) zero d x below e = ap (λ z. Some z) e
get_at (y ∷ ys) (suc n) d x below e = get_at ys n d x (omega arith) e

pub one_item : {A : Type 0} (xs : List A) (n : ℕ) (x y : A) → slice_get xs n ≡ Some x → slice_get xs n ≡ Some y → x ≡ y
one_item xs n x y e f = cc

-- one number more has a property
pub hold_more : (Holds : ℕ → Type 0) (k : ℕ) → ((j : ℕ) → j < k → Holds j) → Holds k → (j : ℕ) → j < k + 1 → Holds j
hold_more Holds k all here j h = by (cases_lt j k)
  where
    by : (j < k) ⊎ (k ≤ j) → Holds j
    by (inl less) = all j less
    by (inr more) = let same : k ≡ j = omega arith in subst Holds same here

-- beyond the last number nothing is asked
pub hold_all : {A : Type 0} (xs : List A) (P : ℕ → A → Type 0) → ((n : ℕ) → n < length xs → (x : A) → slice_get xs n ≡ Some x → P n x) → (n : ℕ) (x : A) → slice_get xs n ≡ Some x → P n x
hold_all xs P all n x e = all n (get_inside xs n x e) x e

-- ---- goals
bounded_more : (small great : ℕ) (l : Lit) → small ≤ great → IsTrue (is_bounded small l) → IsTrue (is_bounded great l)
bounded_more small great (FinIn t mask) h b = refl
bounded_more small great (FinEq a b) h c = refl
bounded_more small great (FinNe a b) h c = refl
bounded_more small great (ProcEq a b) h c = refl
bounded_more small great (ProcNe a b) h c = refl
bounded_more small great (Diff a b bound) h c = is_le (unsigned_abs bound) great (let low : unsigned_abs bound ≤ small = le_is (unsigned_abs bound) small c in omega arith)

pub all_bounded : (small great : ℕ) (lits : List Lit) → small ≤ great → IsTrue (list_all (is_bounded small) lits) → IsTrue (list_all (is_bounded great) lits)
all_bounded small great [] h b = refl
all_bounded small great (l ∷ lits) h b =
    and_both (is_bounded great l) (list_all (is_bounded great) lits) (bounded_more small great l h (and_left (is_bounded small l) (list_all (is_bounded small) lits) b))
    (all_bounded small great lits h (and_right (is_bounded small l) (list_all (is_bounded small) lits) b))

-- what covers one of two conjunctions of the same meaning covers the other
covers_same : (p : Protocol) (width : ℕ) (lits others : List Lit) → SameMeaning p width lits others → (d : Cube) (r : List ℕ) → Covers p d (cube_of width others) r → Covers p d (cube_of width lits) r
covers_same p width lits others same d r covers = record {
  injection = covers.injection;
  follows = λ s places state sat.
      covers.follows s places state
      (record { one_each = sat.one_each; processes = sat.processes; holds = sym (same s places (record { state = state; one_each = sat.one_each; processes = sat.processes })) ∙ sat.holds });
}

module _ (p : Protocol) (g : Goal) (inside : Contains p.goals g) where
  goal_ok : IsTrue (goal_fits (signature_of p) g)
  goal_ok = all_has (λ x. IsTrue (goal_fits (signature_of p) x)) p.goals g p.goals_fit (contains_Has p.goals g inside)

  conj_ok : IsTrue (conjunction_fits (signature_of p) g.width g.lits)
  conj_ok = and_right (nat_le g.width 4) (conjunction_fits (signature_of p) g.width g.lits) goal_ok

  pub goal_lits_fit : IsTrue (list_all (literal_fits (signature_of p) g.width) g.lits)
  goal_lits_fit =
      and_right (nat_le (length g.lits) 64) (list_all (literal_fits (signature_of p) g.width) g.lits)
      (and_left (nat_le (length g.lits) 64 && list_all (literal_fits (signature_of p) g.width) g.lits) (list_all (is_bounded greatest_bound) g.lits) conj_ok)

  pub goal_fitting : AreFitting p g.width g.lits
  goal_fitting = record {
    narrow = let few : g.width ≤ 4 = le_is g.width 4 (and_left (nat_le g.width 4) (conjunction_fits (signature_of p) g.width g.lits) goal_ok) in omega arith;
    fit = goal_lits_fit;
    bounded = all_bounded greatest_bound greatest_size g.lits (omega arith)
        (and_right (nat_le (length g.lits) 64 && list_all (literal_fits (signature_of p) g.width) g.lits) (list_all (is_bounded greatest_bound) g.lits) conj_ok);
  }

  -- a goal as a cube says what the goal says
  goal_same : SameMeaning p g.width g.lits (goal_cube p g).lits
  goal_same z places at = sym (fold_true p z places at.state at.processes [] g.lits (subst (λ n. IsTrue (list_all (literal_fits (signature_of p) n) g.lits)) (sym at.one_each) goal_lits_fit))

  pub goal_covers : (d : Cube) (r : List ℕ) → Covers p d (cube_of g.width g.lits) r → Covers p d (goal_cube p g) r
  goal_covers d r covers = covers_same p g.width (goal_cube p g).lits g.lits (same_back p g.width g.lits (goal_cube p g).lits goal_same) d r covers

  pub covers_goal : (d : Cube) (r : List ℕ) → Covers p d (goal_cube p g) r → Covers p d (cube_of g.width g.lits) r
  covers_goal d r covers = covers_same p g.width g.lits (goal_cube p g).lits goal_same d r covers

-- ---- between keys
module _ (p : Protocol) (cubes : List Cube) where
  pub goal_gap : (n : ℕ) (x : Key) → IsTrue (is_before (Key.Goal n) x) → IsTrue (is_before x (Key.Goal (n + 1))) → IsOwed p cubes x → ⊥
  goal_gap n (Key.Goal m) low high owed = let a : n < m = less_is n m low in let b : m < n + 1 = less_is m (n + 1) high in omega arith
  goal_gap n (Key.Piece k m) low high owed = false≢true high

  -- a goal that no state meets is not owed
  pub goal_skip : (n : ℕ) (g : Goal) → slice_get p.goals n ≡ Some g → (IsConsistent p g.width g.lits → ⊥) → (x : Key) → is_before x (Key.Goal n) ≡ false → IsTrue (is_before x (Key.Goal (n + 1))) → IsOwed p cubes x → ⊥
  goal_skip n g its none (Key.Goal m) low high owed =
      let a : n ≤ m = less_not m n low in
      let b : m < n + 1 = less_is m (n + 1) high in
      let same : m ≡ n = omega arith in
      let is : g ≡ owed.0 = one_item p.goals n g owed.0 its (subst (λ i. slice_get p.goals i ≡ Some owed.0) same owed.1.0) in
      none (subst (λ z. IsConsistent p z.width z.lits) (sym is) owed.1.1)
  goal_skip n g its none (Key.Piece k m) low high owed = false≢true high

  pub goals_end : (n : ℕ) → length p.goals ≤ n → (x : Key) → is_before x (Key.Goal n) ≡ false → IsTrue (is_before x (Key.Piece 0 0)) → IsOwed p cubes x → ⊥
  goals_end n end (Key.Goal m) low high owed =
      let a : n ≤ m = less_not m n low in
      let b : m < length p.goals = get_inside p.goals m owed.0 owed.1.0 in omega arith
  goals_end n end (Key.Piece k m) low high owed = by (piece_before k m 0 0 high)
    where
      by : (k < 0) ⊎ ((k ≡ 0) × (m < 0)) → ⊥
      by (inl less) = omega arith
      by (inr less) = omega (arith, less.1)

  pub piece_gap : (k n : ℕ) (x : Key) → IsTrue (is_before (Key.Piece k n) x) → IsTrue (is_before x (Key.Piece k (n + 1))) → IsOwed p cubes x → ⊥
  piece_gap k n (Key.Goal m) low high owed = false≢true low
  piece_gap k n (Key.Piece j m) low high owed = by (piece_before k n j m low) (piece_before j m k (n + 1) high)
    where
      by : (k < j) ⊎ ((k ≡ j) × (n < m)) → (j < k) ⊎ ((j ≡ k) × (m < n + 1)) → ⊥
      by (inl a) (inl b) = omega arith
      by (inl a) (inr b) = omega (arith, b.0)
      by (inr a) (inl b) = omega (arith, a.0)
      by (inr a) (inr b) = omega (arith, a.1, b.1)

  -- there is one list of pieces of a cube
  pub same_piece : (k n : ℕ) (cube : Cube) (list : List Piece) (x : Piece) → slice_get cubes k ≡ Some cube → ArePieces p cube list → IsPiece p cubes k n x → slice_get list n ≡ Some x
  same_piece k n cube list x its are piece =
      let same : cube ≡ piece.cube = one_item cubes k cube piece.cube its piece.its in
      let lists : piece.pieces ≡ list = kept_unique (IsPossible p) (candidates p cube) piece.pieces list (subst (λ c. ArePieces p c piece.pieces) (sym same) piece.all) are in
      subst (λ ys. slice_get ys n ≡ Some x) lists piece.there

  pub pieces_end : (k n : ℕ) (cube : Cube) (list : List Piece) → slice_get cubes k ≡ Some cube → ArePieces p cube list → length list ≤ n
      → (x : Key) → is_before x (Key.Piece k n) ≡ false → IsTrue (is_before x (Key.Piece (k + 1) 0)) → IsOwed p cubes x → ⊥
  pieces_end k n cube list its are end (Key.Goal m) low high owed = true≢false low
  pieces_end k n cube list its are end (Key.Piece j m) low high owed = by (three j k) (piece_before j m (k + 1) 0 high) (cases_lt m n)
    where
      by : (j < k) ⊎ ((j ≡ k) ⊎ (k < j)) → (j < k + 1) ⊎ ((j ≡ k + 1) × (m < 0)) → (m < n) ⊎ (n ≤ m) → ⊥
      by (inl less) b c = true≢false (sym (before_piece j m k n (inl less)) ∙ low)
      by (inr (inr more)) (inl b) c = omega arith
      by (inr (inr more)) (inr b) c = omega (arith, b.1)
      by (inr (inl same)) b (inl less) = true≢false (sym (before_piece j m k n (inr (same, less))) ∙ low)
      by (inr (inl same)) b (inr late) =
          let inside : m < length list = get_inside list m owed.0 (same_piece k m cube list owed.0 its are (subst (λ i. IsPiece p cubes i m owed.0) same owed.1)) in omega arith

  pub cubes_end : (k : ℕ) → length cubes ≤ k → (x : Key) → is_before x (Key.Piece k 0) ≡ false → IsOwed p cubes x → ⊥
  cubes_end k end (Key.Goal m) low owed = true≢false low
  cubes_end k end (Key.Piece j m) low owed = by (cases_lt j k)
    where
      by : (j < k) ⊎ (k ≤ j) → ⊥
      by (inl less) = true≢false (sym (before_piece j m k 0 (inl less)) ∙ low)
      by (inr late) = let inside : j < length cubes = get_inside cubes j owed.1.cube owed.1.its in omega arith

  pub none_first : (x : Key) → IsTrue (is_before x (Key.Goal 0)) → IsOwed p cubes x → ⊥
  none_first (Key.Goal m) low owed = let a : m < 0 = less_is m 0 low in omega arith
  none_first (Key.Piece k m) low owed = false≢true low

-- ---- what a goal asks for
module _ (p : Protocol) (cubes : List Cube) (n : ℕ) (g : Goal) (its : slice_get p.goals n ≡ Some g) where
  inside : Contains p.goals g
  inside = get_contains p.goals n g its

  its_goal : (h : Goal) → HasGoal p n h → g ≡ h
  its_goal h has = one_item p.goals n g h its has.0

  pub covered_goal : (IsConsistent p g.width g.lits → IsCovered p cubes (cube_of g.width g.lits)) → GoalCovered p cubes n
  covered_goal covered h has =
      let same : g ≡ h = its_goal h has in
      subst (λ z. IsCovered p cubes (goal_cube p z)) same (given (covered (subst (λ z. IsConsistent p z.width z.lits) (sym same) has.1)))
    where
      given : IsCovered p cubes (cube_of g.width g.lits) → IsCovered p cubes (goal_cube p g)
      given found = (found.0, found.1, (found.2.0, goal_covers p g inside found.0 found.2.0 found.2.1))

  pub goal_covered : GoalCovered p cubes n → IsConsistent p g.width g.lits → IsCovered p cubes (cube_of g.width g.lits)
  goal_covered covered consistent =
      let found = covered g (its, consistent) in
      (found.0, found.1, (found.2.0, covers_goal p g inside found.0 found.2.0 found.2.1))

  pub named_goal : (lines : List CoverLine) → IsNamed p cubes lines (Key.Goal n) (cube_of g.width g.lits) → GoalNamed p cubes lines n
  named_goal lines named h has = by named.line named.there named.about named.covers
    where
      same : g ≡ h
      same = its_goal h has

      by : (line : CoverLine) → Contains lines line → key_of line ≡ Key.Goal n → CoversAt p cubes (line_by line) (cube_of g.width g.lits) (line_places line)
          → (by : ℕ) × (places : List ℕ) × Contains lines (CoverLine.Unsafe n by places) × CoversAt p cubes by (goal_cube p h) places
      by (CoverLine.Unsafe goal number places) there about at =
          let is : goal ≡ n = cc in
          (number, places, subst (λ m. Contains lines (CoverLine.Unsafe m number places)) is there, (at.0, at.1, subst (λ z. Covers p at.0 (goal_cube p z) places) same (goal_covers p g inside at.0 places at.2)))
      by (CoverLine.Piece cube piece number places) there about at = cc

  pub goal_named : (lines : List CoverLine) → IsConsistent p g.width g.lits → GoalNamed p cubes lines n → IsNamed p cubes lines (Key.Goal n) (cube_of g.width g.lits)
  goal_named lines consistent named =
      let found = named g (its, consistent) in
      record { line = CoverLine.Unsafe n found.0 found.1; there = found.2; about = refl; covers = (found.3.0, found.3.1, covers_goal p g inside found.3.0 found.1 found.3.2) }

-- a goal that no state meets asks for nothing
pub idle_goal_covered : (p : Protocol) (cubes : List Cube) (n : ℕ) (g : Goal) → slice_get p.goals n ≡ Some g → (IsConsistent p g.width g.lits → ⊥) → (h : Goal) → HasGoal p n h → ⊥
idle_goal_covered p cubes n g its none h has = none (subst (λ z. IsConsistent p z.width z.lits) (sym (one_item p.goals n g h its has.0)) has.1)

-- ---- what a piece asks for
module _ (p : Protocol) (cubes : List Cube) (k : ℕ) (cube : Cube) (list : List Piece) (its : slice_get cubes k ≡ Some cube) (are : ArePieces p cube list) where
  pub is_piece : (n : ℕ) (x : Piece) → slice_get list n ≡ Some x → IsPiece p cubes k n x
  is_piece n x there = record { cube = cube; its = its; pieces = list; all = are; there = there }

  pub covered_piece : (n : ℕ) → CoveredIn p cubes list n → PieceCovered p cubes k n
  covered_piece n covered x piece = covered x (same_piece p cubes k n cube list x its are piece)

  pub piece_covered : (n : ℕ) → PieceCovered p cubes k n → CoveredIn p cubes list n
  piece_covered n covered x there = covered x (is_piece n x there)

  pub named_piece : (lines : List CoverLine) (n : ℕ) → NamedIn p cubes lines k list n → PieceNamed p cubes lines k n
  named_piece lines n named x piece = by (named x (same_piece p cubes k n cube list x its are piece))
    where
      from : (line : CoverLine) → Contains lines line → key_of line ≡ Key.Piece k n → CoversAt p cubes (line_by line) x.cube (line_places line)
          → (by : ℕ) × (places : List ℕ) × Contains lines (CoverLine.Piece k n by places) × CoversAt p cubes by x.cube places
      from (CoverLine.Unsafe goal number places) there about at = cc
      from (CoverLine.Piece j m number places) there about at =
          let first : j ≡ k = cc in
          let second : m ≡ n = cc in
          (number, places, subst (λ i. Contains lines (CoverLine.Piece k i number places)) second (subst (λ i. Contains lines (CoverLine.Piece i m number places)) first there), at)

      by : IsNamed p cubes lines (Key.Piece k n) x.cube → (by : ℕ) × (places : List ℕ) × Contains lines (CoverLine.Piece k n by places) × CoversAt p cubes by x.cube places
      by found = from found.line found.there found.about found.covers

  pub piece_named : (lines : List CoverLine) (n : ℕ) → PieceNamed p cubes lines k n → NamedIn p cubes lines k list n
  piece_named lines n named x there =
      let found = named x (is_piece n x there) in
      record { line = CoverLine.Piece k n found.0 found.1; there = found.2; about = refl; covers = found.3 }

-- ---- a first one, in other words
pub first_same : (P Q : ℕ → Type 0) (n : ℕ) → ((m : ℕ) → P m → Q m) → ((m : ℕ) → Q m → P m) → IsFirstWithout P n → IsFirstWithout Q n
first_same P Q n to back first = record { before = λ k h. to k (first.before k h); fails = λ q. first.fails (back n q) }

-- ---- the line about a key
module _ (p : Protocol) (cubes : List Cube) (lines : List CoverLine) (rise : IsTrue (lines_rise lines)) (key : Key) (c : Cube) where
  pub none_named : ((l : ℕ) (line : CoverLine) → slice_get lines l ≡ Some line → key_of line ≡ key → ⊥) → IsNamed p cubes lines key c → ⊥
  none_named none named = let at = contains_get lines named.line named.there in none at.0 named.line at.1 named.about

  module _ (at : ℕ) (line it : CoverLine) (e : slice_get lines at ≡ Some line) (about : key_of line ≡ key) (is : it ≡ get_or lines at it) where
    same_line : line ≡ it
    same_line = let f : slice_get lines at ≡ Some it = get_at lines at it it (get_inside lines at line e) (sym is) in one_item lines at line it e f

    pub named_at : CoversAt p cubes (line_by it) c (line_places it) → IsNamed p cubes lines key c
    named_at covers = record {
      line = line;
      there = get_contains lines at line e;
      about = about;
      covers = subst (λ z. CoversAt p cubes (line_by z) c (line_places z)) (sym same_line) covers;
    }

    pub at_named : IsNamed p cubes lines key c → CoversAt p cubes (line_by it) c (line_places it)
    at_named named =
        let found = contains_get lines named.line named.there in
        let same : named.line ≡ line = one_about lines rise found.0 at named.line line found.1 e (named.about ∙ sym about) in
        subst (λ z. CoversAt p cubes (line_by z) c (line_places z)) (same ∙ same_line) named.covers

-- ---- cubes that can be asked
pub expandable_fitting : (p : Protocol) (c : Cube) → IsExpandable p c → AreFitting p c.width c.lits
expandable_fitting p c fit = record {
  narrow = let few = fit.narrow in omega arith;
  fit = fit.fits;
  bounded = all_bounded greatest_expanded greatest_size c.lits (omega arith) fit.bounded;
}

-- the cube at a number
pub cube_at : (p : Protocol) (cubes : List Cube) (k : ℕ) (c : Cube) → All (IsExpandable p) cubes → k < length cubes → c ≡ get_or cubes k c → IsExpandable p c
cube_at p cubes k c all below is = subst (IsExpandable p) (sym is) (all k c below)

-- ---- pieces that can be asked
pub item_at : {A : Type 0} (P : A → Type 0) (xs : List A) (k : ℕ) (x : A) → All P xs → k < length xs → x ≡ get_or xs k x → P x
item_at P xs k x all below is = subst P (sym is) (all k x below)

pub pieces_askable : (p : Protocol) (c : Cube) (list : List Piece) → IsExpandable p c → ArePieces p c list → All (IsAskable p) list
pieces_askable p c list fit are = has_all (IsAskable p) list each
  where
    each : (x : Piece) → Has list x → IsAskable p x
    each x inside =
        let kept = kept_from (IsPossible p) (candidates p c) list x are (has_Contains list x inside) in
        let member : Has (candidates p c) x = contains_Has (candidates p c) x kept.0 in
        let wide = piece_wide p c x fit.fits member in
        let few = fit.narrow in
        record {
          possible = kept.1;
          fitting = record {
            narrow = omega (arith, wide.1);
            fit = piece_fits p c x fit.fits member;
            bounded = all_bounded (greatest_expanded + 2 * greatest_constant) greatest_size x.cube.lits (omega arith) (piece_bounded p c x greatest_expanded fit.fits fit.bounded (omega arith) member);
          };
        }

-- the same of a first one that an option names
pub match_same : (o : Option ℕ) (P Q : ℕ → Type 0) → ((m : ℕ) → P m → Q m) → ((m : ℕ) → Q m → P m) → MatchOption o ((n : ℕ) → P n) (λ n. IsFirstWithout P n) → MatchOption o ((n : ℕ) → Q n) (λ n. IsFirstWithout Q n)
match_same None P Q to back all = λ n. to n (all n)
match_same (Some n) P Q to back first = first_same P Q n to back first
