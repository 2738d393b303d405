-- Steps of judging: what the rest adds completes the list.
use Rattle.std.proofs.Common.{◌≡◌, ◌⊎◌, ◌↔◌, ℕ, zero, suc, ◌+◌, ◌<◌, ◌≤◌, Bool, true, false, List, [], ◌∷◌, ◌++◌, map, length, get_or, take, refl, sym, ap, ◌∙◌, subst, arith, inl, inr, append_assoc, append-nil, zero-add, add-zero}
use Rattle.std.specs.Prelude.{IsTrue, Some, All}
use Rattle.std.proofs.lemmas.List.{map_more, take_more, take_all, map_push}
use Rattle.std.proofs.lemmas.List.Elements.{All-push, Contains-append_left, Contains-append_right}
use Rattle.cub_base.specs.Numbered.{map_from}
use Rattle.cub_proto.specs.declared.protocol.Protocol.{Protocol}
use Rattle.cub_cube.specs.declared.cube.Cube.{Cube}
use Rattle.cub_cube.specs.Cover.{DoesCover, IsCovered}
use Rattle.log_form.specs.declared.event.Added.{Added}
use Rattle.log_form.specs.declared.numbered.Numbered.{Numbered}
use Rattle.log_form.specs.Pieces.{IsFit, widest, greatest_asked}
use Rattle.log_form.specs.Numbering.{with_number, numbered}
use Rattle.log_form.specs.Forms.{IsForm}
use Rattle.cub_cube.specs.Starts.{IsStartCube}
use Rattle.log_form.specs.Links.{IsFirstUnder}
use Rattle.log_form.specs.Legal.{IsAdded, Adds}
use Rattle.log_form.proofs.Covered.{covered_right, covered_cases}
use Rattle.log_steps.specs.declared.judgement.Under.{Under}
use Rattle.log_steps.specs.declared.judgement.Pick.{Pick}
use Rattle.log_steps.specs.Chosen.{FormRelation, IsChosen}
use Rattle.log_steps.specs.Judged.{added_of, pick_cubes, AreUnder, IsExact, AddsSoFar, ArePicks, ArePicksSoFar}

-- what is covered is passed over
pass_over : (p : Protocol) (cubes : List Cube) (piece : Numbered) (pieces : List Numbered) (added : List Added) → IsCovered p cubes piece.cube → Adds p cubes pieces added → Adds p cubes (piece ∷ pieces) added
pass_over p cubes piece pieces [] covered rest = (covered, rest)
pass_over p cubes piece pieces (a ∷ added) covered rest = inl (covered, rest)

-- ---- is it covered
pub by_last : (p : Protocol) (xs : List Cube) (d c : Cube) → (IsCovered p xs c → ⊥) → (DoesCover p d c → ⊥) → IsCovered p (xs ++ d ∷ []) c → ⊥
by_last p xs d c none free h = by (covered_cases p xs (d ∷ []) c h)
  where
    by : IsCovered p xs c ⊎ IsCovered p (d ∷ []) c → ⊥
    by (inl old) = none old
    by (inr (e, (zero, below, is), covers)) = free (subst (λ f. DoesCover p f c) (sym is) covers)
    by (inr (e, (suc k, below, is), covers)) = absurd (omega arith)

pub none_more : (p : Protocol) (picks : List Pick) (i : ℕ) (x : Pick) (c : Cube) → i < length picks → x ≡ get_or picks i x → (IsCovered p (pick_cubes (take i picks)) c → ⊥)
    → (DoesCover p x.cube c → ⊥) → IsCovered p (pick_cubes (take (i + 1) picks)) c → ⊥
none_more p picks i x c below is none free h =
    by_last p (pick_cubes (take i picks)) x.cube c none free
    (subst (λ (k : Pick). IsCovered p (pick_cubes (take i picks) ++ k.cube ∷ []) c) (sym is) (subst (λ cs. IsCovered p cs c) (map_more (λ (k : Pick). k.cube) picks i x below) h))

pub joined : (p : Protocol) (xs ys : List Cube) (c : Cube) (b : Bool) → (IsCovered p xs c → ⊥) → (IsTrue b ↔ IsCovered p ys c) → IsTrue b ↔ IsCovered p (xs ++ ys) c
joined p xs ys c b none is = (λ h. covered_right p xs ys c (is.0 h), λ h. by (covered_cases p xs ys c h))
  where
    by : IsCovered p xs c ⊎ IsCovered p ys c → IsTrue b
    by (inl old) = absurd (none old)
    by (inr new) = is.1 new

-- ---- links
pub under_more : (p : Protocol) (cubes : List Cube) (at : ℕ) (c : Cube) (under new : List Under) (u : Under) → ((rest : List Under) → AreUnder p cubes at c rest → AreUnder p cubes 0 c (under ++ rest))
    → IsFirstUnder p cubes at (length cubes) c (Some (u.node, u.places)) → new ≡ under ++ u ∷ [] → (rest : List Under) → AreUnder p cubes (u.node + 1) c rest → AreUnder p cubes 0 c (new ++ rest)
under_more p cubes at c under new u so first is rest h =
    subst (AreUnder p cubes 0 c) (sym (ap (λ us. us ++ rest) is ∙ append_assoc under (u ∷ []) rest)) (so (u ∷ rest) (first, h))

-- ---- the picks of the first pieces
pub begins : (C : FormRelation) (p : Protocol) (cubes : List Cube) → ArePicksSoFar C p cubes [] [] false
begins C p cubes = record {
  adds = inr (refl, λ more rest h. subst (λ cs. Adds p cs more rest) (append-nil cubes) h);
  exact = λ k d below. absurd (omega arith);
  fit = λ k d below. absurd (omega arith);
  chosen = λ k d below. absurd (omega arith);
}

pub one_more : (done more : List Numbered) (x : Numbered) → (done ++ x ∷ []) ++ more ≡ done ++ x ∷ more
one_more done more x = append_assoc done (x ∷ []) more

more_chosen : (C : FormRelation) (p : Protocol) (done : List Numbered) (x : Numbered) (picks : List Pick) → All (λ (k : Pick). IsChosen C p done (added_of k)) picks
    → All (λ (k : Pick). IsChosen C p (done ++ x ∷ []) (added_of k)) picks
more_chosen C p done x picks all = λ k d below. more (added_of (get_or picks k d)) (all k d below)
  where
    more : (a : Added) → IsChosen C p done a → IsChosen C p (done ++ x ∷ []) a
    more a of = record { piece = of.piece; inside = Contains-append_left done (x ∷ []) of.piece of.inside; numbered = of.numbered; chosen = of.chosen }

pub adds_past : (p : Protocol) (cubes : List Cube) (done : List Numbered) (x : Numbered) (picks : List Pick) → AddsSoFar p cubes done picks true → AddsSoFar p cubes (done ++ x ∷ []) picks true
adds_past p cubes done x picks (inl (t, all)) = inl (t, λ more. subst (λ ys. Adds p cubes ys (map added_of picks)) (sym (one_more done more x)) (all (x ∷ more)))
adds_past p cubes done x picks (inr (f, so)) = cc

pub adds_over : (p : Protocol) (cubes : List Cube) (done : List Numbered) (x : Numbered) (picks : List Pick) → IsCovered p (cubes ++ pick_cubes picks) x.cube → AddsSoFar p cubes done picks false
    → AddsSoFar p cubes (done ++ x ∷ []) picks false
adds_over p cubes done x picks covered (inl (t, all)) = cc
adds_over p cubes done x picks covered (inr (f, so)) = inr (
  f,
  λ more rest h.
      subst (λ ys. Adds p cubes ys (map added_of picks ++ rest)) (sym (one_more done more x)) (so (x ∷ more) rest (pass_over p (cubes ++ pick_cubes picks) x more rest covered h)),
)

pub more_picks : (picks new : List Pick) (k : Pick) (rest : List Added) → new ≡ picks ++ k ∷ [] → map added_of picks ++ added_of k ∷ rest ≡ map added_of new ++ rest
more_picks picks new k rest is = sym (ap (λ ks. map added_of ks ++ rest) is ∙ (ap (λ xs. xs ++ rest) (map_push added_of picks k) ∙ append_assoc (map added_of picks) (added_of k ∷ []) rest))

pub more_cubes : (cubes : List Cube) (picks new : List Pick) (k : Pick) → new ≡ picks ++ k ∷ [] → cubes ++ pick_cubes new ≡ (cubes ++ pick_cubes picks) ++ k.cube ∷ []
more_cubes cubes picks new k is = ap (λ ks. cubes ++ pick_cubes ks) is ∙ (ap (λ cs. cubes ++ cs) (map_push (λ (j : Pick). j.cube) picks k) ∙ sym (append_assoc cubes (pick_cubes picks) (k.cube ∷ [])))

pub adds_one : (p : Protocol) (cubes : List Cube) (done : List Numbered) (x : Numbered) (picks new : List Pick) (k : Pick) → IsAdded p (cubes ++ pick_cubes picks) x (added_of k) → new ≡ picks ++ k ∷ []
    → (IsTrue k.starts ↔ IsStartCube p k.cube) → AddsSoFar p cubes done picks false → AddsSoFar p cubes (done ++ x ∷ []) new k.starts
adds_one p cubes done x picks new k added pushed starts so = by k.starts refl so
  where
    by : (b : Bool) → k.starts ≡ b → AddsSoFar p cubes done picks false → AddsSoFar p cubes (done ++ x ∷ []) new b
    by b is (inl (t, all)) = cc
    by true is (inr (f, so)) = inl (
      refl,
      λ more.
          subst (λ ys. Adds p cubes ys (map added_of new)) (sym (one_more done more x))
          (subst (Adds p cubes (done ++ x ∷ more)) (more_picks picks new k [] pushed ∙ append-nil (map added_of new))
          (so (x ∷ more) (added_of k ∷ []) (inr (added, inl (starts.0 is, refl))))),
    )
    by false is (inr (f, so)) = inr (
      refl,
      λ more rest h.
          subst (λ ys. Adds p cubes ys (map added_of new ++ rest)) (sym (one_more done more x))
          (subst (Adds p cubes (done ++ x ∷ more)) (more_picks picks new k rest pushed)
          (so (x ∷ more) (added_of k ∷ rest) (inr (added, inr (λ t. let u = starts.1 t in cc, subst (λ cs. Adds p cs more rest) (more_cubes cubes picks new k pushed) h))))),
    )

-- at the end of the pieces
pub adds_all : (p : Protocol) (cubes : List Cube) (done : List Numbered) (picks : List Pick) (ended : Bool) → AddsSoFar p cubes done picks ended → Adds p cubes done (map added_of picks)
adds_all p cubes done picks ended (inl (t, all)) = subst (λ ys. Adds p cubes ys (map added_of picks)) (append-nil done) (all [])
adds_all p cubes done picks ended (inr (f, so)) =
    subst (Adds p cubes done) (append-nil (map added_of picks)) (subst (λ ys. Adds p cubes ys (map added_of picks ++ [])) (append-nil done) (so [] [] refl))

-- ---- the same with what the picks tell
pub judged_past : (C : FormRelation) (p : Protocol) (cubes : List Cube) (done : List Numbered) (x : Numbered) (picks : List Pick) → ArePicksSoFar C p cubes done picks true
    → ArePicksSoFar C p cubes (done ++ x ∷ []) picks true
judged_past C p cubes done x picks are = record { adds = adds_past p cubes done x picks are.adds; exact = are.exact; fit = are.fit; chosen = more_chosen C p done x picks are.chosen }

pub judged_over : (C : FormRelation) (p : Protocol) (cubes : List Cube) (done : List Numbered) (x : Numbered) (picks : List Pick) → IsCovered p (cubes ++ pick_cubes picks) x.cube
    → ArePicksSoFar C p cubes done picks false → ArePicksSoFar C p cubes (done ++ x ∷ []) picks false
judged_over C p cubes done x picks covered are =
    record { adds = adds_over p cubes done x picks covered are.adds; exact = are.exact; fit = are.fit; chosen = more_chosen C p done x picks are.chosen }

-- a pick of a piece
pub record IsPickOf (C : FormRelation) (p : Protocol) (cubes : List Cube) (x : Numbered) (k : Pick) : Type 0 where
  pub number : k.piece ≡ x.number
  pub form : IsForm p x.cube k.places k.cube
  pub chosen : C p x.cube k.places k.cube
  pub exact : IsExact p cubes k
  pub fit : IsFit p widest greatest_asked k.cube

pub pushed_all : (P : Pick → Type 0) (picks new : List Pick) (k : Pick) → new ≡ picks ++ k ∷ [] → All P picks → P k → All P new
pushed_all P picks new k is all here = subst (All P) (sym is) (All-push P picks k all here)

pub judged_one : (C : FormRelation) (p : Protocol) (cubes : List Cube) (done : List Numbered) (x : Numbered) (picks new : List Pick) (k : Pick)
    → (IsCovered p (cubes ++ pick_cubes picks) x.cube → ⊥) → new ≡ picks ++ k ∷ [] → IsPickOf C p cubes x k
    → ArePicksSoFar C p cubes done picks false → ArePicksSoFar C p cubes (done ++ x ∷ []) new k.starts
judged_one C p cubes done x picks new k free pushed of are = record {
  adds = adds_one p cubes done x picks new k (record { uncovered = free; numbered = of.number; form = of.form }) pushed of.exact.starts are.adds;
  exact = pushed_all (IsExact p cubes) picks new k pushed are.exact of.exact;
  fit = pushed_all (λ (j : Pick). IsFit p widest greatest_asked j.cube) picks new k pushed are.fit of.fit;
  chosen = pushed_all (λ (j : Pick). IsChosen C p (done ++ x ∷ []) (added_of j)) picks new k pushed (more_chosen C p done x picks are.chosen)
      (record { piece = x; inside = Contains-append_right done (x ∷ []) x (0, omega arith, refl); numbered = of.number; chosen = of.chosen });
}

pub judged_all : (C : FormRelation) (p : Protocol) (cubes : List Cube) (done : List Numbered) (picks : List Pick) (ended : Bool) → ArePicksSoFar C p cubes done picks ended → ArePicks p cubes done picks
judged_all C p cubes done picks ended are = record { adds = adds_all p cubes done picks ended are.adds; exact = are.exact; fit = are.fit }

-- one more piece of a list
pub taken_more : (C : FormRelation) (p : Protocol) (cubes : List Cube) (list : List Numbered) (i : ℕ) (x copy : Numbered) (picks : List Pick) (ended : Bool) → i < length list → x ≡ get_or list i x
    → copy ≡ x → ArePicksSoFar C p cubes (take i list ++ copy ∷ []) picks ended → ArePicksSoFar C p cubes (take (i + 1) list) picks ended
taken_more C p cubes list i x copy picks ended below is same =
    subst (λ ys. ArePicksSoFar C p cubes ys picks ended) (sym (take_more list i x below ∙ ap (λ y. take i list ++ y ∷ []) (sym (same ∙ is))))

-- one more piece of a cube
pub numbered_more : (done : List Cube) (x : Cube) (n : ℕ) → n ≡ length done → numbered done ++ with_number n x ∷ [] ≡ numbered (done ++ x ∷ [])
numbered_more done x n is = by 0 done n (is ∙ sym (zero-add (length done)))
  where
    by : (from : ℕ) (xs : List Cube) (m : ℕ) → m ≡ from + length xs → map_from with_number from xs ++ with_number m x ∷ [] ≡ map_from with_number from (xs ++ x ∷ [])
    by from [] m e = ap (λ k. with_number k x ∷ []) (e ∙ add-zero from)
    by from (y ∷ ys) m e = ap (λ zs. with_number from y ∷ zs) (by (from + 1) ys m (omega arith))

-- ---- what a call answered of equal lists
pub free_of : (p : Protocol) (old cubes : List Cube) (slice picks : List Pick) (c : Cube) (b : Bool) → old ≡ cubes → slice ≡ picks → (IsCovered p (old ++ pick_cubes slice) c → IsTrue b) → b ≡ false
    → IsCovered p (cubes ++ pick_cubes picks) c → ⊥
free_of p old cubes slice picks c b same equal says is h =
    let t = says (subst (λ cs. IsCovered p (cs ++ pick_cubes slice) c) (sym same) (subst (λ ks. IsCovered p (cubes ++ pick_cubes ks) c) (sym equal) h)) in cc

pub covered_of : (p : Protocol) (old cubes : List Cube) (slice picks : List Pick) (c : Cube) (b : Bool) → old ≡ cubes → slice ≡ picks → (IsTrue b → IsCovered p (old ++ pick_cubes slice) c) → b ≡ true
    → IsCovered p (cubes ++ pick_cubes picks) c
covered_of p old cubes slice picks c b same equal says is =
    subst (λ cs. IsCovered p (cs ++ pick_cubes picks) c) same (subst (λ ks. IsCovered p (old ++ pick_cubes ks) c) equal (says is))

pub went_on : (C : FormRelation) (p : Protocol) (old cubes : List Cube) (done : List Numbered) (x : Numbered) (picks new : List Pick) (before after : Bool) → old ≡ cubes
    → ((ds : List Numbered) → ArePicksSoFar C p old ds picks before → ArePicksSoFar C p old (ds ++ x ∷ []) new after)
    → ArePicksSoFar C p cubes done picks before → ArePicksSoFar C p cubes (done ++ x ∷ []) new after
went_on C p old cubes done x picks new before after same more are =
    subst (λ cs. ArePicksSoFar C p cs (done ++ x ∷ []) new after) same (more done (subst (λ cs. ArePicksSoFar C p cs done picks before) (sym same) are))

-- the whole list
pub taken_all : (C : FormRelation) (p : Protocol) (cubes : List Cube) (list : List Numbered) (i : ℕ) (picks : List Pick) (ended : Bool) → length list ≤ i
    → ArePicksSoFar C p cubes (take i list) picks ended → ArePicksSoFar C p cubes list picks ended
taken_all C p cubes list i picks ended past = subst (λ ys. ArePicksSoFar C p cubes ys picks ended) (take_all i list past)
