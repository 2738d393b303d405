-- Failing literals one by one.
use Rattle.std.proofs.Common.{◌≡◌, ℕ, suc, zero, ◌+◌, ◌<◌, List, [], ◌∷◌, ◌++◌, length, get_or, drop, refl, sym, ap, ◌∙◌, subst, arith}
use Rattle.std.specs.Prelude.{true, IsTrue, nat_lt, slice_index_or}
use Rattle.cub_proto.specs.declared.literal.Lit.{Lit}
use Rattle.cub_proto.specs.declared.transition.Branch.{Branch}
use Rattle.cub_proto.specs.Signature.{Signature}
use Rattle.cub_proto.specs.Negation.{negated}
use Rattle.cub_base.proofs.Bools.{and_left, and_right, less_is}
use Rattle.cub_cube.specs.Rename.{renamed, renamed_all}
use Rattle.cub_cube.specs.Replace.{constant}
use Rattle.std.specs.Prelude.{if◌then◌else◌}
use Rattle.cub_proto.specs.declared.literal.Term.{Term}
use Rattle.cub_proto.specs.declared.literal.Value.{Value}
use Rattle.updates.specs.Ways.{failing}
use Rattle.updates.specs.Chosen.{same_term, value_in}
use Rattle.updates.specs.Allowed.{are_failures}

pub record Fails (sig : Signature) (branches : List Branch) (fails : List ℕ) (i : ℕ) (d : Branch) : Type 0 where
  pub there : i < length fails
  pub below : get_or fails i 0 < length (get_or branches i d).cond
  pub rest : IsTrue (are_failures (drop (i + 1) branches) (drop (i + 1) fails))
  pub is : failing sig (drop i branches) (drop i fails)
      ≡ negated sig (slice_index_or (get_or branches i d).cond (get_or fails i 0) (constant true)) ∷ failing sig (drop (i + 1) branches) (drop (i + 1) fails)

pub fails_at : (sig : Signature) (branches : List Branch) (fails : List ℕ) (i : ℕ) (d : Branch) → i < length branches → IsTrue (are_failures (drop i branches) (drop i fails)) → Fails sig branches fails i d
fails_at sig [] fails i d below h = absurd (omega arith)
fails_at sig (b ∷ bs) [] zero d below h = cc
fails_at sig (b ∷ bs) (f ∷ fs) zero d below h = record {
  there = omega arith;
  below = less_is f (length b.cond) (and_left (nat_lt f (length b.cond)) (are_failures bs fs) h);
  rest = and_right (nat_lt f (length b.cond)) (are_failures bs fs) h;
  is = refl;
}
fails_at sig (b ∷ bs) [] (suc i) d below h = absurd (none i bs (omega arith) h)
  where
    none : (i : ℕ) (bs : List Branch) → i < length bs → IsTrue (are_failures (drop i bs) []) → ⊥
    none i [] below h = omega arith
    none zero (c ∷ cs) below h = cc
    none (suc i) (c ∷ cs) below h = none i cs (omega arith) h
fails_at sig (b ∷ bs) (f ∷ fs) (suc i) d below h =
    let rest = fails_at sig bs fs i d (omega arith) h in
    let next : suc i + 1 ≡ suc (i + 1) = omega arith in
    record {
      there = omega (arith, rest.there);
      below = rest.below;
      rest = subst (λ n. IsTrue (are_failures (drop n (b ∷ bs)) (drop n (f ∷ fs)))) (sym next) rest.rest;
      is = rest.is ∙ sym (ap (λ n. negated sig (slice_index_or (get_or bs i d).cond (get_or fs i 0) (constant true)) ∷ failing sig (drop n (b ∷ bs)) (drop n (f ∷ fs))) next);
    }

-- one literal more
pub push_more : (r : List ℕ) (lits : List Lit) (l : Lit) (now rest whole : List Lit) → now ≡ l ∷ rest → lits ++ renamed_all r now ≡ whole → (lits ++ renamed r l ∷ []) ++ renamed_all r rest ≡ whole
push_more r lits l now rest whole e h = append_one lits (renamed r l) (renamed_all r rest) ∙ sym (ap (λ ls. lits ++ renamed_all r ls) e) ∙ h
  where
    append_one : (xs : List Lit) (x : Lit) (ys : List Lit) → (xs ++ x ∷ []) ++ ys ≡ xs ++ x ∷ ys
    append_one [] x ys = refl
    append_one (z ∷ xs) x ys = ap (λ zs. z ∷ zs) (append_one xs x ys)

-- ---- the value beside a term, at one item
pub value_step : (terms : List Term) (values : List Value) (t : Term) (i : ℕ) (d : Term) (e : Value) → i < length terms → length values ≡ length terms
    → value_in (drop i terms) (drop i values) t ≡ (if same_term (get_or terms i d) t then get_or values i e else value_in (drop (i + 1) terms) (drop (i + 1) values) t)
value_step [] values t i d e below size = absurd (omega arith)
value_step (u ∷ us) [] t i d e below size = absurd (omega arith)
value_step (u ∷ us) (v ∷ vs) t zero d e below size = refl
value_step (u ∷ us) (v ∷ vs) t (suc i) d e below size =
    let next : suc i + 1 ≡ suc (i + 1) = omega arith in
    value_step us vs t i d e (omega arith) (omega arith)
    ∙ ap (λ n. if same_term (get_or us i d) t then get_or vs i e else value_in (drop n (u ∷ us)) (drop n (v ∷ vs)) t) (sym next)
