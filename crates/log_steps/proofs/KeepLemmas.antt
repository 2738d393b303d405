-- Steps of mending a judgement.
use Rattle.std.proofs.Common.{◌≡◌, ℕ, ◌+◌, ◌-◌, ◌<◌, ◌≤◌, List, [], ◌∷◌, ◌++◌, map, length, get_or, take, drop, refl, sym, ap, ◌∙◌, subst, arith, inl, inr, length-drop}
use Rattle.std.specs.Prelude.{All, Some, None}
use Rattle.std.proofs.lemmas.List.{map_more, take_all, map_push, get_or-drop, get_or_default}
use Rattle.std.proofs.lemmas.List.Elements.{All-push}
use Rattle.cub_proto.specs.declared.protocol.Protocol.{Protocol}
use Rattle.cub_cube.specs.declared.cube.Cube.{Cube}
use Rattle.cub_cube.specs.Cover.{DoesCover, IsCovered}
use Rattle.log_form.specs.declared.event.Added.{Added}
use Rattle.log_form.specs.Links.{Link, cube_at, no_cube, IsFirstCover}
use Rattle.log_form.specs.Stale.{KeepsUncovered}
use Rattle.log_form.proofs.Covered.{covered_at, at_covered}
use Rattle.log_steps.specs.declared.judgement.Pick.{Pick}
use Rattle.log_steps.specs.Judged.{added_of}
use Rattle.log_steps.specs.Commits.{no_pick, kept_of}

-- ---- covered since
pub none_since : (p : Protocol) (cubes : List Cube) (seen : ℕ) (c : Cube) → IsFirstCover p cubes seen (length cubes) c None → IsCovered p (drop seen cubes) c → ⊥
none_since p cubes seen c none h =
    let (i, below, covers) = at_covered p (drop seen cubes) c h in
    let left = length-drop seen cubes in
    none (seen + i) (omega arith) (omega arith) (subst (λ d. DoesCover p d c) (get_or-drop seen cubes i no_cube) covers)

pub some_since : (p : Protocol) (cubes : List Cube) (seen : ℕ) (c : Cube) (link : Link) → IsFirstCover p cubes seen (length cubes) c (Some link) → IsCovered p (drop seen cubes) c
some_since p cubes seen c link (low, high, least, none) =
    let left = length-drop seen cubes in
    let at : seen + (link.0 - seen) ≡ link.0 = omega arith in
    covered_at p (drop seen cubes) c (link.0 - seen) (omega arith)
    (subst (λ d. DoesCover p d c) (sym (get_or-drop seen cubes (link.0 - seen) no_cube ∙ ap (cube_at cubes) at)) (link.1, least.covers))

-- ---- one more pick
keeps_free : (p : Protocol) (cubes : List Cube) (picks kept : List Added) (a : Added) → (IsCovered p cubes a.cube → ⊥) → KeepsUncovered p cubes picks kept → KeepsUncovered p cubes (picks ++ a ∷ []) (kept ++ a ∷ [])
keeps_free p cubes [] kept a free h = inr (free, ([], ap (λ xs. xs ++ a ∷ []) h, refl))
keeps_free p cubes (b ∷ picks) kept a free (inl (covered, rest)) = inl (covered, keeps_free p cubes picks kept a free rest)
keeps_free p cubes (b ∷ picks) kept a free (inr (out, (left, is, rest))) = inr (out, (left ++ a ∷ [], ap (λ xs. xs ++ a ∷ []) is, keeps_free p cubes picks left a free rest))

keeps_covered : (p : Protocol) (cubes : List Cube) (picks kept : List Added) (a : Added) → IsCovered p cubes a.cube → KeepsUncovered p cubes picks kept → KeepsUncovered p cubes (picks ++ a ∷ []) kept
keeps_covered p cubes [] kept a covered h = inl (covered, h)
keeps_covered p cubes (b ∷ picks) kept a covered (inl (up, rest)) = inl (up, keeps_covered p cubes picks kept a covered rest)
keeps_covered p cubes (b ∷ picks) kept a covered (inr (out, (left, is, rest))) = inr (out, (left, is, keeps_covered p cubes picks left a covered rest))

-- what is kept of the first picks
pub record AreKeptOf (p : Protocol) (since : List Cube) (picks : List Pick) (i : ℕ) (which : List ℕ) : Type 0 where
  pub keeps : KeepsUncovered p since (map added_of (take i picks)) (kept_of picks which)
  pub inside : All (λ k. k < length picks) which

pub none_kept : (p : Protocol) (since : List Cube) (picks : List Pick) → AreKeptOf p since picks 0 []
none_kept p since picks = record { keeps = refl; inside = λ k d below. absurd (omega arith) }

one_taken : (picks : List Pick) (i : ℕ) (x : Pick) → i < length picks → x ≡ get_or picks i x → map added_of (take i picks) ++ added_of x ∷ [] ≡ map added_of (take (i + 1) picks)
one_taken picks i x below is = sym (map_more added_of picks i x below ∙ ap (λ (k : Pick). map added_of (take i picks) ++ added_of k ∷ []) (sym is))

pub kept_free : (p : Protocol) (since : List Cube) (picks : List Pick) (i n : ℕ) (x : Pick) (which new : List ℕ) → i < length picks → x ≡ get_or picks i x → n ≡ i → new ≡ which ++ n ∷ []
    → (IsCovered p since x.cube → ⊥) → AreKeptOf p since picks i which → AreKeptOf p since picks (i + 1) new
kept_free p since picks i n x which new below is count pushed free kept = record {
  keeps = subst (λ ys. KeepsUncovered p since ys (kept_of picks new)) (one_taken picks i x below is)
      (subst (KeepsUncovered p since (map added_of (take i picks) ++ added_of x ∷ [])) same (keeps_free p since (map added_of (take i picks)) (kept_of picks which) (added_of x) free kept.keeps));
  inside = subst (All (λ k. k < length picks)) (sym pushed) (All-push (λ k. k < length picks) which n kept.inside (omega arith));
}
  where
    here : x ≡ get_or picks n no_pick
    here = is ∙ (get_or_default picks i x no_pick below ∙ ap (λ k. get_or picks k no_pick) (sym count))

    same : kept_of picks which ++ added_of x ∷ [] ≡ kept_of picks new
    same = sym (ap (kept_of picks) pushed ∙ (map_push (λ k. added_of (get_or picks k no_pick)) which n ∙ ap (λ (k : Pick). kept_of picks which ++ added_of k ∷ []) (sym here)))

pub kept_covered : (p : Protocol) (since : List Cube) (picks : List Pick) (i : ℕ) (x : Pick) (which : List ℕ) → i < length picks → x ≡ get_or picks i x
    → IsCovered p since x.cube → AreKeptOf p since picks i which → AreKeptOf p since picks (i + 1) which
kept_covered p since picks i x which below is covered kept = record {
  keeps = subst (λ ys. KeepsUncovered p since ys (kept_of picks which)) (one_taken picks i x below is) (keeps_covered p since (map added_of (take i picks)) (kept_of picks which) (added_of x) covered kept.keeps);
  inside = kept.inside;
}

pub kept_all : (p : Protocol) (since : List Cube) (picks : List Pick) (i : ℕ) (which : List ℕ) → length picks ≤ i → AreKeptOf p since picks i which → KeepsUncovered p since (map added_of picks) (kept_of picks which)
kept_all p since picks i which past kept = subst (λ ks. KeepsUncovered p since (map added_of ks) (kept_of picks which)) (take_all i picks past) kept.keeps
