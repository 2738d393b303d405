-- The truth of the lists of a formula.
use Rattle.std.proofs.Common.{◌≡◌, ℕ, ◌<◌, ℤ, pos, ◌-ℤ◌, List, [], ◌∷◌, ◌++◌, length, map, Bool, true, false, not, ◌&&◌, ◌||◌, refl, sym, ap, ap₂, ◌∙◌, arith}
use Rattle.std.specs.Prelude.{All, IsTrue, int_le, nat_le, unsigned_abs}
use Rattle.std.specs.List.{list_all, list_any}
use Rattle.std.specs.Ordering.{int_eq}
use Rattle.std.proofs.lemmas.List.Folds.{list_any-append, list_all-append, list_all-map}
use Rattle.std.proofs.lemmas.Int.{ints}
use Rattle.cub_proto.specs.declared.literal.Lit.{Lit}
use Rattle.cub_proto.specs.declared.literal.ISide.{ISide}
use Rattle.cub_proto.specs.declared.protocol.Protocol.{Protocol}
use Rattle.cub_proto.specs.Configuration.{Configuration, process_count}
use Rattle.cub_proto.specs.Signature.{Signature}
use Rattle.cub_proto.specs.StateOf.{IsStateOf, signature_of}
use Rattle.cub_proto.specs.Truth.{is_true, any_true, integer_at}
use Rattle.cub_proto.specs.Negation.{negated}
use Rattle.cub_proto.specs.Fits.{literal_fits, is_bounded}
use Rattle.cub_base.proofs.Bools.{and_left, and_right, and_true}
use Rattle.cub_proto.proofs.Opposite.{negated_is}
use Rattle.cub_dnf.specs.declared.formula.Formula.{Formula}
use Rattle.cub_dnf.specs.declared.formula.Formula.TheVariants as f
use Rattle.cub_dnf.specs.Lists.{joins, all_joins, chained, lists, lists_step, list_of}
use Rattle.cub_dnf.specs.Fits.{fits, fits_step, greatest_formula_bound}
use Rattle.cub_dnf.specs.Meaning.{formula_is_true, truth_step}
use Rattle.cub_dnf.proofs.Folding.{at_const, at_one, at_equation, at_negation, at_all, at_any}
use Rattle.cub_dnf.proofs.Parting.{list_of_not, list_of_all_true, list_of_all_false, list_of_any_true, list_of_any_false, fits_all, fits_any}
use Rattle.cub_dnf.proofs.Induct.{Each, induct}

and_or : (a b c : Bool) → ((a && b) || (a && c)) ≡ (a && (b || c))
and_or true b c = refl
and_or false b c = refl

or_and : (a b c : Bool) → ((a && c) || (b && c)) ≡ ((a || b) && c)
or_and true true true = refl
or_and true true false = refl
or_and true false true = refl
or_and true false false = refl
or_and false b c = refl

or_false : (a : Bool) → (a || false) ≡ a
or_false true = refl
or_false false = refl

and_false : (a : Bool) → (a && false) ≡ false
and_false true = refl
and_false false = refl

not_not : (a : Bool) → not (not a) ≡ a
not_not true = refl
not_not false = refl

not_and : (a b : Bool) → (not a || not b) ≡ not (a && b)
not_and true b = refl
not_and false b = refl

not_or : (a b : Bool) → (not a && not b) ≡ not (a || b)
not_or true b = refl
not_or false b = refl

two_of : (a b : Bool) → ((a && (b && true)) || false) ≡ (a && b)
two_of true true = refl
two_of true false = refl
two_of false b = refl

one_of_two : (a b : Bool) → ((a && true) || ((b && true) || false)) ≡ (a || b)
one_of_two true b = refl
one_of_two false true = refl
one_of_two false false = refl

-- lists over any truth of single literals
module _ (value : Lit → Bool) where
  abbrev any : List (List Lit) → Bool
  any conjs = list_any (list_all value) conjs

  any_map : (c : List Lit) (right : List (List Lit)) → any (map (λ d. c ++ d) right) ≡ (list_all value c && any right)
  any_map c [] = sym (and_false (list_all value c))
  any_map c (d ∷ ds) =
      ap₂ (λ x y. x || y) (list_all-append value c d) (any_map c ds) ∙ and_or (list_all value c) (list_all value d) (any ds)

  any-joins : (left right : List (List Lit)) → any (joins left right) ≡ (any left && any right)
  any-joins [] right = refl
  any-joins (c ∷ cs) right =
      list_any-append (list_all value) (map (λ d. c ++ d) right) (joins cs right)
      ∙ ap₂ (λ x y. x || y) (any_map c right) (any-joins cs right)
      ∙ or_and (list_all value c) (any cs) (any right)

  any-all_joins : (list : Formula → List (List Lit)) (parts : List Formula) → any (all_joins (map list parts)) ≡ list_all (λ p. any (list p)) parts
  any-all_joins list [] = refl
  any-all_joins list (p ∷ ps) = any-joins (list p) (all_joins (map list ps)) ∙ ap (λ x. any (list p) && x) (any-all_joins list ps)

  any-chained : (list : Formula → List (List Lit)) (parts : List Formula) → any (chained (map list parts)) ≡ list_any (λ p. any (list p)) parts
  any-chained list [] = refl
  any-chained list (p ∷ ps) =
      list_any-append (list_all value) (list p) (chained (map list ps)) ∙ ap (λ x. any (list p) || x) (any-chained list ps)

  any_one : (lit : Lit) → any ((lit ∷ []) ∷ []) ≡ value lit
  any_one lit = or_false (value lit && true) ∙ and_true (value lit)

equal_both : (x y c : ℤ) → (int_le (x -ℤ y) c && int_le (y -ℤ x) (pos 0 -ℤ c)) ≡ int_eq (x -ℤ y) c
equal_both x y c = grind (arith, ints)

differ_either : (x y c : ℤ) → (int_le (x -ℤ y) (c -ℤ pos 1) || int_le (y -ℤ x) ((pos 0 -ℤ c) -ℤ pos 1)) ≡ not (int_eq (x -ℤ y) c)
differ_either x y c = grind (arith, ints)

any_of_map : (g : Formula → Bool) (parts : List Formula) → list_any (λ b. b) (map g parts) ≡ list_any g parts
any_of_map g [] = refl
any_of_map g (p ∷ ps) = ap (λ x. g p || x) (any_of_map g ps)

module _ (p : Protocol) (s : Configuration) (places : List ℕ) (state : IsStateOf p s) (processes : All (λ i. i < process_count s) places) where
  abbrev sig : Signature
  sig = signature_of p

  abbrev width : ℕ
  width = length places

  abbrev truth : Formula → Bool
  truth = formula_is_true s places

  abbrev meets : Bool → Formula → Bool
  meets holds formula = any_true s places (list_of sig holds formula)

  abbrev Means : Formula → Type 0
  Means formula = IsTrue (fits sig width formula) → (meets true formula ≡ truth formula) × (meets false formula ≡ not (truth formula))

  truth_all : (parts : List Formula) → truth (f.All parts) ≡ list_all truth parts
  truth_all parts = at_all (truth_step s places) parts ∙ list_all-map (λ b. b) truth parts

  truth_any : (parts : List Formula) → truth (f.Any parts) ≡ list_any truth parts
  truth_any parts = at_any (truth_step s places) parts ∙ any_of_map truth parts

  -- the parts of a list, one after another
  first_ready : (q : Formula) (qs : List Formula) → list_all (fits sig width) (q ∷ qs) ≡ true → fits sig width q ≡ true
  first_ready q qs ready = and_left (fits sig width q) (list_all (fits sig width) qs) ready

  rest_ready : (q : Formula) (qs : List Formula) → list_all (fits sig width) (q ∷ qs) ≡ true → list_all (fits sig width) qs ≡ true
  rest_ready q qs ready = and_right (fits sig width q) (list_all (fits sig width) qs) ready

  all_own : (parts : List Formula) → Each Means parts → list_all (fits sig width) parts ≡ true → list_all (meets true) parts ≡ list_all truth parts
  all_own [] known ready = refl
  all_own (q ∷ qs) known ready = ap₂ (λ x y. x && y) (known.0 (first_ready q qs ready)).0 (all_own qs known.1 (rest_ready q qs ready))

  any_own : (parts : List Formula) → Each Means parts → list_all (fits sig width) parts ≡ true → list_any (meets true) parts ≡ list_any truth parts
  any_own [] known ready = refl
  any_own (q ∷ qs) known ready = ap₂ (λ x y. x || y) (known.0 (first_ready q qs ready)).0 (any_own qs known.1 (rest_ready q qs ready))

  any_opposite : (parts : List Formula) → Each Means parts → list_all (fits sig width) parts ≡ true → list_any (meets false) parts ≡ not (list_all truth parts)
  any_opposite [] known ready = refl
  any_opposite (q ∷ qs) known ready =
      ap₂ (λ x y. x || y) (known.0 (first_ready q qs ready)).1 (any_opposite qs known.1 (rest_ready q qs ready)) ∙ not_and (truth q) (list_all truth qs)

  all_opposite : (parts : List Formula) → Each Means parts → list_all (fits sig width) parts ≡ true → list_all (meets false) parts ≡ not (list_any truth parts)
  all_opposite [] known ready = refl
  all_opposite (q ∷ qs) known ready =
      ap₂ (λ x y. x && y) (known.0 (first_ready q qs ready)).1 (all_opposite qs known.1 (rest_ready q qs ready)) ∙ not_or (truth q) (list_any truth qs)

  -- each form of formula
  means_const : (v : Bool) → Means (f.Const v)
  means_const true = λ ready. (
    ap (λ both. any_true s places both.own) (at_const (lists_step sig) true) ∙ sym (at_const (truth_step s places) true),
    ap (λ both. any_true s places both.opposite) (at_const (lists_step sig) true) ∙ ap not (sym (at_const (truth_step s places) true)),
  )
  means_const false = λ ready. (
    ap (λ both. any_true s places both.own) (at_const (lists_step sig) false) ∙ sym (at_const (truth_step s places) false),
    ap (λ both. any_true s places both.opposite) (at_const (lists_step sig) false) ∙ ap not (sym (at_const (truth_step s places) false)),
  )

  means_one : (lit : Lit) → Means (f.One lit)
  means_one lit = λ ready.
      let fitting = and_left (literal_fits sig width lit) (is_bounded greatest_formula_bound lit) (sym (at_one (fits_step sig width) lit) ∙ ready) in (
        ap (λ both. any_true s places both.own) (at_one (lists_step sig) lit) ∙ any_one (is_true s places) lit ∙ sym (at_one (truth_step s places) lit),
        ap (λ both. any_true s places both.opposite) (at_one (lists_step sig) lit) ∙ any_one (is_true s places) (negated sig lit)
            ∙ negated_is p s places state processes lit fitting ∙ ap not (sym (at_one (truth_step s places) lit)),
      )

  means_equation : (a b : ISide) (bound : ℤ) → Means (f.IntEq a b bound)
  means_equation a b bound = λ ready. (
    ap (λ both. any_true s places both.own) (at_equation (lists_step sig) a b bound) ∙ two_of _ _
        ∙ equal_both (integer_at s places a) (integer_at s places b) bound ∙ sym (at_equation (truth_step s places) a b bound),
    ap (λ both. any_true s places both.opposite) (at_equation (lists_step sig) a b bound) ∙ one_of_two _ _
        ∙ differ_either (integer_at s places a) (integer_at s places b) bound ∙ ap not (sym (at_equation (truth_step s places) a b bound)),
  )

  means_not : (part : Formula) → Means part → Means (f.Not part)
  means_not part known = λ ready.
      let h = known (sym (at_negation (fits_step sig width) part) ∙ ready) in (
        ap (any_true s places) (list_of_not sig true part) ∙ h.1 ∙ sym (at_negation (truth_step s places) part),
        ap (any_true s places) (list_of_not sig false part) ∙ h.0 ∙ sym (not_not (truth part)) ∙ ap not (sym (at_negation (truth_step s places) part)),
      )

  means_all : (parts : List Formula) → Each Means parts → Means (f.All parts)
  means_all parts known = λ ready.
      let each = sym (fits_all sig width parts) ∙ ready in (
        ap (any_true s places) (list_of_all_true sig parts) ∙ any-all_joins (is_true s places) (list_of sig true) parts ∙ all_own parts known each ∙ sym (truth_all parts),
        ap (any_true s places) (list_of_all_false sig parts) ∙ any-chained (is_true s places) (list_of sig false) parts ∙ any_opposite parts known each ∙ ap not (sym (truth_all parts)),
      )

  means_any : (parts : List Formula) → Each Means parts → Means (f.Any parts)
  means_any parts known = λ ready.
      let each = sym (fits_any sig width parts) ∙ ready in (
        ap (any_true s places) (list_of_any_true sig parts) ∙ any-chained (is_true s places) (list_of sig true) parts ∙ any_own parts known each ∙ sym (truth_any parts),
        ap (any_true s places) (list_of_any_false sig parts) ∙ any-all_joins (is_true s places) (list_of sig false) parts ∙ all_opposite parts known each ∙ ap not (sym (truth_any parts)),
      )

  pub same_truth : (formula : Formula) → Means formula
  same_truth = induct Means means_const means_one means_equation means_not means_all means_any
