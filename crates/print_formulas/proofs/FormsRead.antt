-- The formulas of a printed protocol are read as what they were printed from.
use Rattle.std.proofs.Common.{◌≡◌, ℕ, ◌-◌, ◌^◌, ◌<◌, ◌≤◌, Bool, true, false, List, [], ◌∷◌, ◌++◌, length, map, Option, Some, None, ℤ, pos, negsuc, ◌-ℤ◌, refl, sym, ap, subst, ◌∙◌, arith}
use Rattle.std.specs.Prelude.{◌==◌, IsTrue, ◌&&◌, ◌||◌, not, codes, unsigned_abs, count_ones, nat_le, nat_lt, int_lt, if◌then◌else◌, flat_map}
use Rattle.std.specs.List.{AllZip, list_all}
use Rattle.std.specs.Option.{option_map_or}
use Rattle.std.specs.Int.{w64, trailing_zeros, trailing_ones}
use Rattle.std.proofs.lemmas.Int.{ints}
use Rattle.cub_base.proofs.Bools.{and_left, and_right, same_is, same_refl, less_is}
use Rattle.cub_lexer.specs.declared.token.TokenKind.{TokenKind}
use Rattle.cub_lexer.specs.declared.token.TokenKind.TheVariants as k
use Rattle.cub_parse.specs.declared.tree.Leaf.{Leaf}
use Rattle.cub_parse.specs.declared.tree.SumNode.{SumNode}
use Rattle.cub_parse.specs.declared.tree.FormNode.{FormNode}
use Rattle.cub_parse.specs.declared.tree.FormNode.TheVariants as n
use Rattle.cub_dnf.specs.declared.formula.Formula.{Formula}
use Rattle.cub_dnf.specs.declared.formula.Formula.TheVariants as f
use Rattle.cub_dnf.specs.Lists.{Lists, list_of, lists_step, all_joins, chained}
use Rattle.cub_dnf.proofs.Folding.{at_const, at_one}
use Rattle.cub_dnf.proofs.Parting.{list_of_not, list_of_all_true, list_of_any_true}
use Rattle.cub_names.specs.declared.scope.Local.{Local}
use Rattle.cub_names.specs.declared.sides.Side.{Side}
use Rattle.cub_names.specs.Checked.{sound, both, each, made, ◌>>=◌}
use Rattle.cub_names.specs.Meaning.{Frame}
use Rattle.cub_names.specs.Sides as sides_of
use Rattle.cub_names.specs.Sides.{sort_of_side}
use Rattle.cub_types.specs.Formulas.{is_greater, same_terms, same_processes, equal, within, at_most, mixes, compared, first_token, form, form_step}
use Rattle.cub_types.specs.Formulas as typing
use Rattle.cub_types.proofs.FormFolds.{at_or, at_and, at_side, at_rel}
use Rattle.cub_proto.specs.declared.literal.Sort.{Sort}
use Rattle.cub_proto.specs.declared.literal.Term.{Term}
use Rattle.cub_proto.specs.declared.literal.PSide.{PSide}
use Rattle.cub_proto.specs.declared.literal.ISide.{ISide}
use Rattle.cub_proto.specs.declared.literal.ISide.TheVariants.{Zero, At}
use Rattle.cub_proto.specs.declared.literal.Lit.{Lit}
use Rattle.cub_proto.specs.declared.literal.Lit.TheVariants.{FinIn, FinEq, FinNe, ProcEq, ProcNe, Diff}
use Rattle.std.proofs.lemmas.Slice.Eq.{bytes_eq-Decides}
use Rattle.std.specs.Prelude.{bytes_eq, slice_get}
use Rattle.cub_proto.specs.declared.protocol.SortDecl.{SortDecl}
use Rattle.cub_proto.specs.declared.protocol.Protocol.{Protocol}
use Rattle.cub_proto.specs.Fits.{place_fits, process_side_fits, integer_side_fits, literal_fits, is_bounded, greatest_bound, is_finite, compares_no_place, sides_alike, sorts_fit, sort_decl_fits, is_bool, constructors_are_false_true}
use Rattle.cub_proto.specs.Negation.{negated}
use Rattle.cub_proto.specs.Order.{term_cmp, process_side_cmp}
use Rattle.cub_proto.specs.Signature.{sort_of, same_sort, same_finite, constructors_of, constructors_at}
use Rattle.cub_proto.specs.StateOf.{signature_of}
use Rattle.cub_print.specs.Mark.{Mark, blank, name}
use Rattle.cub_print.specs.Mark.Mark.{word}
use Rattle.cub_print.specs.Terms.{constructor_in, constructor_name, term_marks, process_marks, integer_marks, compared_marks, mask_marks, difference_marks, literal_marks}
use Rattle.cub_print.specs.Printed.{and_marks, or_marks, conjunction_marks, formula_marks}
use Rattle.print_laws.specs.Spot.{Spot, past, leaf, in_row}
use Rattle.print_laws.specs.TermTree.{name_tree, alone, term_tree, process_tree, integer_tree, compared_tree, mask_tree, sums_tree, difference_tree, terms_tree, processes_tree, literal_tree, conjunction_tree, formula_tree}
use Rattle.print_words.specs.Writable.{is_writable_literal}
use Rattle.print_words.proofs.NameFacts.{lowest_below, above_small, below_small, else_small}
use Rattle.print_words.proofs.Seams.{Every}
use Rattle.print_names.specs.Plain.{declares_plain_names}
use Rattle.print_names.proofs.Positions as positions
use Rattle.print_names.proofs.Positions.{at_left, at_right}
use Rattle.print_names.proofs.Fresh.{false_of}
use Rattle.print_names.proofs.Rows.{row_zip}
use Rattle.print_formulas.specs.Normal.{is_zero, is_normal_literal}
use Rattle.print_formulas.proofs.SidesRead.{IsScope, IsCellSort, sort_is, frame, term_read, constructor_read, process_read, integer_read}

-- ---- sorts of terms
record IsFinite (o : Option Sort) : Type 0 where
  number : ℕ
  is : o ≡ Some (Sort.Fin number)

finite_is : (o : Option Sort) → IsTrue (is_finite o) → IsFinite o
finite_is None h = absurd cc
finite_is (Some (Sort.Fin j)) h = record { number = j; is = refl }
finite_is (Some Sort.Proc) h = absurd cc
finite_is (Some Sort.Int) h = absurd cc

same_is_finite : (a b : Option Sort) → IsTrue (same_finite a b) → (j : ℕ) × (a ≡ Some (Sort.Fin j)) × (b ≡ Some (Sort.Fin j))
same_is_finite None b h = absurd cc
same_is_finite (Some (Sort.Fin j)) b h = (j, refl, sort_is b (Sort.Fin j) h)
same_is_finite (Some Sort.Proc) b h = absurd cc
same_is_finite (Some Sort.Int) b h = absurd cc

finite_cell : (j : ℕ) (t : Term) → IsCellSort (Sort.Fin j) t
finite_cell j (Term.Global g) = tt
finite_cell j (Term.Cell a place) = tt

and_false : (b : Bool) → (b && false) ≡ false
and_false true = refl
and_false false = refl

within_is : (a b : ISide) (bound : ℤ) → IsTrue (not (is_zero a && is_zero b)) → within a b bound ≡ f.One (Diff a b bound)
within_is Zero Zero bound h = absurd cc
within_is Zero (At u) bound h = refl
within_is (At t) Zero bound h = refl
within_is (At t) (At u) bound h = refl

above_is : (bound : ℤ) → pos 1000000000 -ℤ (pos 1000000000 -ℤ bound) ≡ bound
above_is bound = omega (arith, ints)

below_is : (bound : ℤ) → (negsuc 999999999 -ℤ (negsuc 1000000000 -ℤ bound)) -ℤ pos 1 ≡ bound
below_is bound = omega (arith, ints)

else_is : (bound : ℤ) → bound -ℤ pos 0 ≡ bound
else_is bound = omega (arith, ints)

-- ---- the constructors of `bool`
record HasTruth (first second : List ℕ) (count : ℕ) : Type 0 where
  no_is : first ≡ codes "False"
  yes_is : second ≡ codes "True"
  two : 1 < count

truth_of : (cs : List (List ℕ)) → IsTrue (constructors_are_false_true cs) → HasTruth (option_map_or (λ m. m) (slice_get cs 0) []) (option_map_or (λ m. m) (slice_get cs 1) []) (length cs)
truth_of [] h = absurd cc
truth_of (c ∷ []) h = absurd cc
truth_of (c ∷ d ∷ []) h = record {
  no_is = (bytes_eq-Decides c (codes "False")).0 (and_left (bytes_eq c (codes "False")) (bytes_eq d (codes "True")) h);
  yes_is = (bytes_eq-Decides d (codes "True")).0 (and_right (bytes_eq c (codes "False")) (bytes_eq d (codes "True")) h);
  two = omega arith;
}
truth_of (c ∷ d ∷ e ∷ cs) h = absurd cc

truth_in : (ds : List SortDecl) → IsTrue (sorts_fit ds) → HasTruth (constructor_in ds (Sort.Fin 0) 0) (constructor_in ds (Sort.Fin 0) 1) (option_map_or (λ d. length d.cons) (slice_get ds 0) 0)
truth_in [] h = absurd cc
truth_in (d ∷ ds) h = truth_of d.cons (and_right (bytes_eq d.name (codes "bool")) (constructors_are_false_true d.cons) (and_left (is_bool d) (list_all sort_decl_fits ds) h))

-- ---- lists
pub all_joins_single : (lits : List Lit) → all_joins (map (λ l. (l ∷ []) ∷ []) lits) ≡ lits ∷ []
all_joins_single [] = refl
all_joins_single (l ∷ ls) = rw (all_joins_single ls) refl

chained_single : (conjs : List (List Lit)) → chained (map (λ c. c ∷ []) conjs) ≡ conjs
chained_single [] = refl
chained_single (c ∷ cs) = ap (λ xs. c ∷ xs) (chained_single cs)

zip_mapped : {A B T : Type 0} (R : T → B → Type 0) (g : A → B) (ts : List T) (xs : List A) → AllZip (λ t x. R t (g x)) ts xs → AllZip R ts (map g xs)
zip_mapped R g [] [] z = tt
zip_mapped R g [] (x ∷ xs) z = absurd z
zip_mapped R g (t ∷ ts) [] z = absurd z
zip_mapped R g (t ∷ ts) (x ∷ xs) z = (z.0, zip_mapped R g ts xs z.1)

pub every_true : {A : Type 0} (test : A → Bool) (xs : List A) → list_all test xs ≡ true → Every (λ x. IsTrue (test x)) xs
every_true test [] h = tt
every_true test (x ∷ xs) h = (and_left (test x) (list_all test xs) h, every_true test xs (and_right (test x) (list_all test xs) h))

-- ---- what a literal must be to be read back
abbrev pub is_read : Protocol → ℕ → Bool → Lit → Bool
is_read p width init l =
    literal_fits (signature_of p) width l && is_bounded greatest_bound l && is_writable_literal p l && is_normal_literal p l && not (init && not (compares_no_place l))

module _ (p : Protocol) (plain : IsTrue (declares_plain_names p)) (text : List ℕ) (scope : List Local) (params width : ℕ) (is_scope : IsScope text scope params width) (init : Bool) where
  abbrev its : Frame
  its = frame p plain text scope params width is_scope

  -- the node is a formula with these conjunctions
  pub record IsFormOf (node : FormNode) (conjs : List (List Lit)) : Type 0 where
    pub formula : Formula
    pub is : form init its scope node ≡ sound formula
    pub list : list_of (signature_of p) true formula ≡ conjs

  one_form : (node : FormNode) (l : Lit) → form init its scope node ≡ sound (f.One l) → IsFormOf node ((l ∷ []) ∷ [])
  one_form node l h = record { formula = f.One l; is = h; list = ap (λ (both_ : Lists). both_.own) (at_one (lists_step (signature_of p)) l) }

  not_form : (node : FormNode) (l : Lit) → form init its scope node ≡ sound (f.Not (f.One l)) → IsFormOf node ((negated (signature_of p) l ∷ []) ∷ [])
  not_form node l h = record {
    formula = f.Not (f.One l);
    is = h;
    list = list_of_not (signature_of p) true (f.One l) ∙ ap (λ (both_ : Lists). both_.opposite) (at_one (lists_step (signature_of p)) l);
  }

  related_read : (a : SumNode) (sign : Leaf) (b : SumNode) (x y : Side) (formula : Formula) → sides_of.side its scope a ≡ sound x → sides_of.side its scope b ≡ sound y
      → compared init sign.number sign.token.kind x y ≡ sound formula → form init its scope (n.Rel a sign b) ≡ sound formula
  related_read a sign b x y formula ea eb ec =
      at_rel (form_step init its scope) a sign b
      ∙ ap (λ c. both c (sides_of.side its scope b) >>= λ (q : Side × Side). compared init sign.number sign.token.kind q.0 q.1) ea
      ∙ ap (λ c. both (sound x) c >>= λ (q : Side × Side). compared init sign.number sign.token.kind q.0 q.1) eb ∙ ec

  side_read : (sum : SumNode) (x : Side) (formula : Formula) → sides_of.side its scope sum ≡ sound x → typing.alone (first_token sum) x ≡ sound formula → form init its scope (n.Side sum) ≡ sound formula
  side_read sum x formula e ec = at_side (form_step init its scope) sum ∙ ap (λ c. c >>= typing.alone (first_token sum)) e ∙ ec

  compared_read : (a : List Mark) (left : Spot → SumNode) (kind : TokenKind) (sign : List ℕ) (b : List Mark) (right : Spot → SumNode) (x y : Side) (formula : Formula)
      → ((r : Spot) → positions.At text r a → sides_of.side its scope (left r) ≡ sound x) → ((r : Spot) → positions.At text r b → sides_of.side its scope (right r) ≡ sound y)
      → ((token : ℕ) → compared init token kind x y ≡ sound formula) → (s : Spot) → positions.At text s (compared_marks a kind sign b)
      → form init its scope (compared_tree a left kind sign right s) ≡ sound formula
  compared_read a left kind sign b right x y formula ea eb ec s at =
      let front = blank ∷ word kind sign ∷ blank ∷ [] in
      let here = past s a in
      let there = past here front in
      let sign_leaf = leaf kind sign (past here (blank ∷ [])) in
      related_read (left s) sign_leaf (right there) x y formula (ea s (at_left text s a (front ++ b) at)) (eb there (at_right text here front b (at_right text s a (front ++ b) at)))
      (ec sign_leaf.number)

  equal_is : (x y : Side) → same_sort (sort_of_side x) (sort_of_side y) ≡ true → (init && mixes x y) ≡ false → (token : ℕ) → compared init token k.Equal x y ≡ sound (equal x y)
  equal_is x y same mixed token = rw (same, mixed) refl

  unequal_is : (x y : Side) → same_sort (sort_of_side x) (sort_of_side y) ≡ true → (init && mixes x y) ≡ false → (token : ℕ) → compared init token k.NotEqual x y ≡ sound (f.Not (equal x y))
  unequal_is x y same mixed token = rw (same, mixed) refl

  -- ---- literals
  finite_term : (t : Term) (j : ℕ) → sort_of (signature_of p) t ≡ Some (Sort.Fin j) → IsTrue (place_fits width t) → (r : Spot) → positions.At text r (term_marks p params t)
      → sides_of.side its scope (alone (term_tree p params t r)) ≡ sound (Side.Fin j t)
  finite_term t j is fits r at = term_read p plain text scope params width is_scope t (Sort.Fin j) r is fits (finite_cell j t) at

  constructor_side : (t : Term) (j c : ℕ) → sort_of (signature_of p) t ≡ Some (Sort.Fin j) → c < constructors_of (signature_of p) (Sort.Fin j)
      → (r : Spot) → positions.At text r (name (constructor_name p t c) ∷ []) → sides_of.side its scope (alone (name_tree (constructor_name p t c) r)) ≡ sound (Side.Con j c)
  constructor_side t j c is below r =
      let named : constructor_name p t c ≡ constructor_in p.sorts (Sort.Fin j) c = ap (λ o. option_map_or (λ sort. constructor_in p.sorts sort c) o []) is in
      subst (λ bytes. positions.At text r (name bytes ∷ []) → sides_of.side its scope (alone (name_tree bytes r)) ≡ sound (Side.Con j c)) (sym named)
      (constructor_read p plain text scope params width is_scope j c r below)

  mask_read : (t : Term) (mask : ℕ) → IsTrue (literal_fits (signature_of p) width (FinIn t mask)) → IsTrue (is_writable_literal p (FinIn t mask)) → IsTrue (is_normal_literal p (FinIn t mask))
      → (s : Spot) → positions.At text s (mask_marks p params t mask) → IsFormOf (mask_tree p params t mask s) ((FinIn t mask ∷ []) ∷ [])
  mask_read t mask fits writable normal s at = by (count_ones mask == 1) refl writable normal at
    where
      finite : IsTrue (is_finite (sort_of (signature_of p) t) && place_fits width t)
      finite = and_left (is_finite (sort_of (signature_of p) t) && place_fits width t) (nat_lt mask (2 ^ constructors_at (signature_of p) t)) fits

      place : IsTrue (place_fits width t)
      place = and_right (is_finite (sort_of (signature_of p) t)) (place_fits width t) finite

      sorted : IsFinite (sort_of (signature_of p) t)
      sorted = finite_is (sort_of (signature_of p) t) (and_left (is_finite (sort_of (signature_of p) t)) (place_fits width t) finite)

      small : mask < 2 ^ constructors_at (signature_of p) t
      small = less_is mask (2 ^ constructors_at (signature_of p) t)
          (and_right (is_finite (sort_of (signature_of p) t) && place_fits width t) (nat_lt mask (2 ^ constructors_at (signature_of p) t)) fits)

      inside : (c : ℕ) → c < constructors_at (signature_of p) t → c < constructors_of (signature_of p) (Sort.Fin sorted.number)
      inside c below = subst (λ o. c < option_map_or (constructors_of (signature_of p)) o 0) sorted.is below

      term : (r : Spot) → positions.At text r (term_marks p params t) → sides_of.side its scope (alone (term_tree p params t r)) ≡ sound (Side.Fin sorted.number t)
      term = finite_term t sorted.number sorted.is place

      by : (one : Bool) → (count_ones mask == 1) ≡ one → IsTrue (one || nat_lt (trailing_ones w64 mask) (constructors_at (signature_of p) t))
          → IsTrue (if one then mask == 2 ^ trailing_zeros w64 mask else mask == 2 ^ constructors_at (signature_of p) t - 1 - 2 ^ trailing_ones w64 mask)
          → positions.At text s (if one
          then compared_marks (term_marks p params t) k.Equal (codes "=") (name (constructor_name p t (trailing_zeros w64 mask)) ∷ [])
          else compared_marks (term_marks p params t) k.NotEqual (codes "<>") (name (constructor_name p t (trailing_ones w64 mask)) ∷ []))
          → IsFormOf (if one
          then compared_tree (term_marks p params t) (λ x. alone (term_tree p params t x)) k.Equal (codes "=") (λ x. alone (name_tree (constructor_name p t (trailing_zeros w64 mask)) x)) s
          else compared_tree (term_marks p params t) (λ x. alone (term_tree p params t x)) k.NotEqual (codes "<>") (λ x. alone (name_tree (constructor_name p t (trailing_ones w64 mask)) x)) s)
          ((FinIn t mask ∷ []) ∷ [])
      by true e w is here =
          let c = trailing_zeros w64 mask in
          let below = inside c (lowest_below p t mask small (same_is (count_ones mask) 1 e)) in
          let node = compared_tree (term_marks p params t) (λ x. alone (term_tree p params t x)) k.Equal (codes "=") (λ x. alone (name_tree (constructor_name p t c) x)) s in
          subst (λ m. IsFormOf node ((FinIn t m ∷ []) ∷ [])) (sym (same_is mask (2 ^ c) is))
          (one_form node (FinIn t (2 ^ c))
          (compared_read (term_marks p params t) (λ x. alone (term_tree p params t x)) k.Equal (codes "=") (name (constructor_name p t c) ∷ []) (λ x. alone (name_tree (constructor_name p t c) x))
          (Side.Fin sorted.number t) (Side.Con sorted.number c) (f.One (FinIn t (2 ^ c))) term (constructor_side t sorted.number c sorted.is below)
          (equal_is (Side.Fin sorted.number t) (Side.Con sorted.number c) (same_refl sorted.number) (and_false init)) s here))
      by false e w is here =
          let c = trailing_ones w64 mask in
          let below = inside c (less_is c (constructors_at (signature_of p) t) w) in
          let node = compared_tree (term_marks p params t) (λ x. alone (term_tree p params t x)) k.NotEqual (codes "<>") (λ x. alone (name_tree (constructor_name p t c) x)) s in
          subst (λ m. IsFormOf node ((FinIn t m ∷ []) ∷ [])) (sym (same_is mask (2 ^ constructors_at (signature_of p) t - 1 - 2 ^ c) is))
          (not_form node (FinIn t (2 ^ c))
          (compared_read (term_marks p params t) (λ x. alone (term_tree p params t x)) k.NotEqual (codes "<>") (name (constructor_name p t c) ∷ []) (λ x. alone (name_tree (constructor_name p t c) x))
          (Side.Fin sorted.number t) (Side.Con sorted.number c) (f.Not (f.One (FinIn t (2 ^ c)))) term (constructor_side t sorted.number c sorted.is below)
          (unequal_is (Side.Fin sorted.number t) (Side.Con sorted.number c) (same_refl sorted.number) (and_false init)) s here))

  equal_terms_read : (a b : Term) (holds : Bool) → IsTrue (same_finite (sort_of (signature_of p) a) (sort_of (signature_of p) b) && place_fits width a && place_fits width b)
      → is_greater (term_cmp a b) ≡ false → (s : Spot)
      → positions.At text s (if holds then compared_marks (term_marks p params a) k.Equal (codes "=") (term_marks p params b) else compared_marks (term_marks p params a) k.NotEqual (codes "<>") (term_marks p params b))
      → IsFormOf (if holds then terms_tree p params a k.Equal (codes "=") b s else terms_tree p params a k.NotEqual (codes "<>") b s) (((if holds then FinEq a b else FinNe a b) ∷ []) ∷ [])
  equal_terms_read a b holds fits order s at = by holds at
    where
      sorted : (j : ℕ) × (sort_of (signature_of p) a ≡ Some (Sort.Fin j)) × (sort_of (signature_of p) b ≡ Some (Sort.Fin j))
      sorted = same_is_finite (sort_of (signature_of p) a) (sort_of (signature_of p) b)
          (and_left (same_finite (sort_of (signature_of p) a) (sort_of (signature_of p) b)) (place_fits width a)
          (and_left (same_finite (sort_of (signature_of p) a) (sort_of (signature_of p) b) && place_fits width a) (place_fits width b) fits))

      first_place : IsTrue (place_fits width a)
      first_place = and_right (same_finite (sort_of (signature_of p) a) (sort_of (signature_of p) b)) (place_fits width a)
          (and_left (same_finite (sort_of (signature_of p) a) (sort_of (signature_of p) b) && place_fits width a) (place_fits width b) fits)

      second_place : IsTrue (place_fits width b)
      second_place = and_right (same_finite (sort_of (signature_of p) a) (sort_of (signature_of p) b) && place_fits width a) (place_fits width b) fits

      in_order : equal (Side.Fin sorted.0 a) (Side.Fin sorted.0 b) ≡ f.One (FinEq a b)
      in_order = ap (λ g. f.One (if g then FinEq b a else FinEq a b)) order

      sides : (kind : TokenKind) (sign : List ℕ) (formula : Formula) → ((token : ℕ) → compared init token kind (Side.Fin sorted.0 a) (Side.Fin sorted.0 b) ≡ sound formula)
          → positions.At text s (compared_marks (term_marks p params a) kind sign (term_marks p params b)) → form init its scope (terms_tree p params a kind sign b s) ≡ sound formula
      sides kind sign formula is here =
          compared_read (term_marks p params a) (λ x. alone (term_tree p params a x)) kind sign (term_marks p params b) (λ x. alone (term_tree p params b x))
          (Side.Fin sorted.0 a) (Side.Fin sorted.0 b) formula (finite_term a sorted.0 sorted.1 first_place) (finite_term b sorted.0 sorted.2 second_place) is s here

      by : (other : Bool)
          → positions.At text s (if other then compared_marks (term_marks p params a) k.Equal (codes "=") (term_marks p params b) else compared_marks (term_marks p params a) k.NotEqual (codes "<>") (term_marks p params b))
          → IsFormOf (if other then terms_tree p params a k.Equal (codes "=") b s else terms_tree p params a k.NotEqual (codes "<>") b s) (((if other then FinEq a b else FinNe a b) ∷ []) ∷ [])
      by true here = one_form (terms_tree p params a k.Equal (codes "=") b s) (FinEq a b)
          (sides k.Equal (codes "=") (f.One (FinEq a b)) (λ token. equal_is (Side.Fin sorted.0 a) (Side.Fin sorted.0 b) (same_refl sorted.0) (and_false init) token ∙ ap (λ g. sound g) in_order) here)
      by false here = not_form (terms_tree p params a k.NotEqual (codes "<>") b s) (FinEq a b)
          (sides k.NotEqual (codes "<>") (f.Not (f.One (FinEq a b))) (λ token. unequal_is (Side.Fin sorted.0 a) (Side.Fin sorted.0 b) (same_refl sorted.0) (and_false init) token ∙ ap (λ g. sound (f.Not g)) in_order) here)

  equal_processes_read : (a b : PSide) (holds : Bool) → IsTrue (process_side_fits (signature_of p) width a && process_side_fits (signature_of p) width b)
      → is_greater (process_side_cmp a b) ≡ false → (init && not (sides_alike a b)) ≡ false → (s : Spot)
      → positions.At text s (if holds then compared_marks (process_marks p params a) k.Equal (codes "=") (process_marks p params b) else compared_marks (process_marks p params a) k.NotEqual (codes "<>") (process_marks p params b))
      → IsFormOf (if holds then processes_tree p params a k.Equal (codes "=") b s else processes_tree p params a k.NotEqual (codes "<>") b s) (((if holds then ProcEq a b else ProcNe a b) ∷ []) ∷ [])
  equal_processes_read a b holds fits order alike s at = by holds at
    where
      in_order : equal (Side.Proc a) (Side.Proc b) ≡ f.One (ProcEq a b)
      in_order = ap (λ g. f.One (if g then ProcEq b a else ProcEq a b)) order

      sides : (kind : TokenKind) (sign : List ℕ) (formula : Formula) → ((token : ℕ) → compared init token kind (Side.Proc a) (Side.Proc b) ≡ sound formula)
          → positions.At text s (compared_marks (process_marks p params a) kind sign (process_marks p params b)) → form init its scope (processes_tree p params a kind sign b s) ≡ sound formula
      sides kind sign formula is here =
          compared_read (process_marks p params a) (λ x. alone (process_tree p params a x)) kind sign (process_marks p params b) (λ x. alone (process_tree p params b x))
          (Side.Proc a) (Side.Proc b) formula
          (λ r. process_read p plain text scope params width is_scope a r (and_left (process_side_fits (signature_of p) width a) (process_side_fits (signature_of p) width b) fits))
          (λ r. process_read p plain text scope params width is_scope b r (and_right (process_side_fits (signature_of p) width a) (process_side_fits (signature_of p) width b) fits)) is s here

      by : (other : Bool)
          → positions.At text s (if other then compared_marks (process_marks p params a) k.Equal (codes "=") (process_marks p params b) else compared_marks (process_marks p params a) k.NotEqual (codes "<>") (process_marks p params b))
          → IsFormOf (if other then processes_tree p params a k.Equal (codes "=") b s else processes_tree p params a k.NotEqual (codes "<>") b s) (((if other then ProcEq a b else ProcNe a b) ∷ []) ∷ [])
      by true here = one_form (processes_tree p params a k.Equal (codes "=") b s) (ProcEq a b)
          (sides k.Equal (codes "=") (f.One (ProcEq a b)) (λ token. equal_is (Side.Proc a) (Side.Proc b) refl alike token ∙ ap (λ g. sound g) in_order) here)
      by false here = not_form (processes_tree p params a k.NotEqual (codes "<>") b s) (ProcEq a b)
          (sides k.NotEqual (codes "<>") (f.Not (f.One (ProcEq a b))) (λ token. unequal_is (Side.Proc a) (Side.Proc b) refl alike token ∙ ap (λ g. sound (f.Not g)) in_order) here)

  difference_read : (a b : ISide) (bound : ℤ) → IsTrue (integer_side_fits (signature_of p) width a && integer_side_fits (signature_of p) width b)
      → IsTrue (nat_le (unsigned_abs bound) 2000000001) → IsTrue (not (int_lt (pos 2000000000) bound)) → IsTrue (not (is_zero a && is_zero b)) → (s : Spot)
      → positions.At text s (difference_marks p params a b bound) → IsFormOf (difference_tree p params a b bound s) ((Diff a b bound ∷ []) ∷ [])
  difference_read a b bound fits size writable term s at = by (int_lt (pos 1000000000) bound) refl (int_lt bound (negsuc 999999999)) refl at
    where
      first_fits : IsTrue (integer_side_fits (signature_of p) width a)
      first_fits = and_left (integer_side_fits (signature_of p) width a) (integer_side_fits (signature_of p) width b) fits

      second_fits : IsTrue (integer_side_fits (signature_of p) width b)
      second_fits = and_right (integer_side_fits (signature_of p) width a) (integer_side_fits (signature_of p) width b) fits

      sums : (x : ℤ) (kind : TokenKind) (sign : List ℕ) (y : ℤ) → unsigned_abs x ≤ 1000000000 → unsigned_abs y ≤ 1000000000
          → ((token : ℕ) → compared init token kind (Side.Int a x) (Side.Int b y) ≡ sound (f.One (Diff a b bound)))
          → positions.At text s (compared_marks (integer_marks p params a x) kind sign (integer_marks p params b y)) → IsFormOf (sums_tree p params a x kind sign b y s) ((Diff a b bound ∷ []) ∷ [])
      sums x kind sign y small other is here =
          one_form (sums_tree p params a x kind sign b y s) (Diff a b bound)
          (compared_read (integer_marks p params a x) (integer_tree p params a x) kind sign (integer_marks p params b y) (integer_tree p params b y) (Side.Int a x) (Side.Int b y) (f.One (Diff a b bound))
          (λ r. integer_read p plain text scope params width is_scope a x r first_fits small) (λ r. integer_read p plain text scope params width is_scope b y r second_fits other) is s here)

      by : (above : Bool) → int_lt (pos 1000000000) bound ≡ above → (below : Bool) → int_lt bound (negsuc 999999999) ≡ below
          → positions.At text s (if above
          then compared_marks (integer_marks p params a (pos 1000000000 -ℤ bound)) k.LessOrEqual (codes "<=") (integer_marks p params b (pos 1000000000))
          else (if below
          then compared_marks (integer_marks p params a (negsuc 1000000000 -ℤ bound)) k.Less (codes "<") (integer_marks p params b (negsuc 999999999))
          else compared_marks (integer_marks p params a (pos 0)) k.LessOrEqual (codes "<=") (integer_marks p params b bound)))
          → IsFormOf (if above
          then sums_tree p params a (pos 1000000000 -ℤ bound) k.LessOrEqual (codes "<=") b (pos 1000000000) s
          else (if below
          then sums_tree p params a (negsuc 1000000000 -ℤ bound) k.Less (codes "<") b (negsuc 999999999) s
          else sums_tree p params a (pos 0) k.LessOrEqual (codes "<=") b bound s)) ((Diff a b bound ∷ []) ∷ [])
      by true e below g here = sums (pos 1000000000 -ℤ bound) k.LessOrEqual (codes "<=") (pos 1000000000) (above_small bound e writable) (omega arith)
          (λ token. ap (λ z. sound (within a b z)) (above_is bound) ∙ ap (λ g. sound g) (within_is a b bound term)) here
      by false e true g here = sums (negsuc 1000000000 -ℤ bound) k.Less (codes "<") (negsuc 999999999) (below_small bound g size) (omega arith)
          (λ token. ap (λ z. sound (within a b z)) (below_is bound) ∙ ap (λ g. sound g) (within_is a b bound term)) here
      by false e false g here = sums (pos 0) k.LessOrEqual (codes "<=") bound (omega arith) (else_small bound e g)
          (λ token. ap (λ z. sound (within a b z)) (else_is bound) ∙ ap (λ g. sound g) (within_is a b bound term)) here

  pub literal_read : (l : Lit) → IsTrue (is_read p width init l) → (s : Spot) → positions.At text s (literal_marks p params l) → IsFormOf (literal_tree p params l s) ((l ∷ []) ∷ [])
  literal_read l h = of l (and_left (fits l && bounded l && writable l) (normal l) normal_front) (and_right (fits l && bounded l && writable l) (normal l) normal_front)
      (false_of (init && not (compares_no_place l)) (and_right (fits l && bounded l && writable l && normal l) (not (init && not (compares_no_place l))) h))
    where
      fits : Lit → Bool
      fits x = literal_fits (signature_of p) width x

      bounded : Lit → Bool
      bounded x = is_bounded greatest_bound x

      writable : Lit → Bool
      writable x = is_writable_literal p x

      normal : Lit → Bool
      normal x = is_normal_literal p x

      normal_front : IsTrue (fits l && bounded l && writable l && normal l)
      normal_front = and_left (fits l && bounded l && writable l && normal l) (not (init && not (compares_no_place l))) h

      of : (x : Lit) → IsTrue (literal_fits (signature_of p) width x && is_bounded greatest_bound x && is_writable_literal p x) → IsTrue (is_normal_literal p x) → (init && not (compares_no_place x)) ≡ false
          → (s : Spot) → positions.At text s (literal_marks p params x) → IsFormOf (literal_tree p params x s) ((x ∷ []) ∷ [])
      of (FinIn t mask) front order alone_ s at =
          let fit = literal_fits (signature_of p) width (FinIn t mask) in
          let write = is_writable_literal p (FinIn t mask) in
          mask_read t mask (and_left fit true (and_left (fit && true) write front)) (and_right (fit && true) write front) order s at
      of (FinEq a b) front order alone_ s at =
          let fit = literal_fits (signature_of p) width (FinEq a b) in
          equal_terms_read a b true (and_left fit true (and_left (fit && true) true front)) (false_of (is_greater (term_cmp a b)) order) s at
      of (FinNe a b) front order alone_ s at =
          let fit = literal_fits (signature_of p) width (FinNe a b) in
          equal_terms_read a b false (and_left fit true (and_left (fit && true) true front)) (false_of (is_greater (term_cmp a b)) order) s at
      of (ProcEq a b) front order alone_ s at =
          let fit = literal_fits (signature_of p) width (ProcEq a b) in
          equal_processes_read a b true (and_left fit true (and_left (fit && true) true front)) (false_of (is_greater (process_side_cmp a b)) order) alone_ s at
      of (ProcNe a b) front order alone_ s at =
          let fit = literal_fits (signature_of p) width (ProcNe a b) in
          equal_processes_read a b false (and_left fit true (and_left (fit && true) true front)) (false_of (is_greater (process_side_cmp a b)) order) alone_ s at
      of (Diff a b bound) front order alone_ s at =
          let fit = literal_fits (signature_of p) width (Diff a b bound) in
          let size = is_bounded greatest_bound (Diff a b bound) in
          let write = is_writable_literal p (Diff a b bound) in
          let inner : IsTrue (fit && size) = and_left (fit && size) write front in
          difference_read a b bound (and_left fit size inner) (and_right fit size inner) (and_right (fit && size) write front) order s at

  -- ---- `True` and `False`
  truth : HasTruth (constructor_in p.sorts (Sort.Fin 0) 0) (constructor_in p.sorts (Sort.Fin 0) 1) (option_map_or (λ d. length d.cons) (slice_get p.sorts 0) 0)
  truth = truth_in p.sorts p.sorts_fit

  truth_side : (c : ℕ) (bytes : List ℕ) → c < constructors_of (signature_of p) (Sort.Fin 0) → constructor_in p.sorts (Sort.Fin 0) c ≡ bytes → (s : Spot) → positions.At text s (name bytes ∷ [])
      → form init its scope (n.Side (alone (name_tree bytes s))) ≡ sound (f.Const (c == 1))
  truth_side c bytes below is s at =
      let side_is : sides_of.side its scope (alone (name_tree bytes s)) ≡ sound (Side.Con 0 c) =
      subst (λ x. positions.At text s (name x ∷ []) → sides_of.side its scope (alone (name_tree x s)) ≡ sound (Side.Con 0 c)) is
      (constructor_read p plain text scope params width is_scope 0 c s below) at in
      side_read (alone (name_tree bytes s)) (Side.Con 0 c) (f.Const (c == 1)) side_is refl

  pub true_read : (s : Spot) → positions.At text s (name (codes "True") ∷ []) → IsFormOf (n.Side (alone (name_tree (codes "True") s))) ([] ∷ [])
  true_read s at = record {
    formula = f.Const true;
    is = truth_side 1 (codes "True") truth.two truth.yes_is s at;
    list = ap (λ (both_ : Lists). both_.own) (at_const (lists_step (signature_of p)) true);
  }

  pub false_read : (s : Spot) → positions.At text s (name (codes "False") ∷ []) → IsFormOf (n.Side (alone (name_tree (codes "False") s))) []
  false_read s at = record {
    formula = f.Const false;
    is = truth_side 0 (codes "False") (omega (arith, truth.two)) truth.no_is s at;
    list = ap (λ (both_ : Lists). both_.own) (at_const (lists_step (signature_of p)) false);
  }

  -- ---- conjunctions and formulas
  pub record AreForms (nodes : List FormNode) (lists : List (List (List Lit))) : Type 0 where
    pub formulas : List Formula
    pub are : each (map (form init its scope) nodes) ≡ sound formulas
    pub lists_are : map (list_of (signature_of p) true) formulas ≡ lists

  pub all_forms : (nodes : List FormNode) (lists : List (List (List Lit))) → AllZip IsFormOf nodes lists → AreForms nodes lists
  all_forms [] [] z = record { formulas = []; are = refl; lists_are = refl }
  all_forms [] (l ∷ ls) z = absurd z
  all_forms (x ∷ xs) [] z = absurd z
  all_forms (x ∷ xs) (l ∷ ls) z =
      let others = all_forms xs ls z.1 in
      record { formulas = z.0.formula ∷ others.formulas; are = rw (z.0.is, others.are) refl; lists_are = rw (z.0.list, others.lists_are) refl }

  and_form : (nodes : List FormNode) (lits : List Lit) → AllZip (λ t l. IsFormOf t ((l ∷ []) ∷ [])) nodes lits → IsFormOf (n.And nodes) (lits ∷ [])
  and_form nodes lits z =
      let all = all_forms nodes (map (λ l. (l ∷ []) ∷ []) lits) (zip_mapped IsFormOf (λ l. (l ∷ []) ∷ []) nodes lits z) in
      record {
        formula = f.All all.formulas;
        is = at_and (form_step init its scope) nodes ∙ ap (made f.All) all.are;
        list = list_of_all_true (signature_of p) all.formulas ∙ ap all_joins all.lists_are ∙ all_joins_single lits;
      }

  or_form : (nodes : List FormNode) (conjs : List (List Lit)) → AllZip (λ t c. IsFormOf t (c ∷ [])) nodes conjs → IsFormOf (n.Or nodes) conjs
  or_form nodes conjs z =
      let all = all_forms nodes (map (λ c. c ∷ []) conjs) (zip_mapped IsFormOf (λ c. c ∷ []) nodes conjs z) in
      record {
        formula = f.Any all.formulas;
        is = at_or (form_step init its scope) nodes ∙ ap (made f.Any) all.are;
        list = list_of_any_true (signature_of p) all.formulas ∙ ap chained all.lists_are ∙ chained_single conjs;
      }

  -- each of the parts behind the first
  pub further : {A : Type 0} (sign : Mark) (P : A → Type 0) (g : A → List (List Lit)) (marks : A → List Mark) (tree : A → Spot → FormNode)
      → ((x : A) → P x → (s : Spot) → positions.At text s (marks x) → IsFormOf (tree x s) (g x)) → (xs : List A) → Every P xs → (s : Spot)
      → positions.At text s (flat_map (λ y. (blank ∷ sign ∷ blank ∷ []) ++ marks y) xs)
      → AllZip (λ t x. IsFormOf t (g x)) (in_row (λ y. (blank ∷ sign ∷ blank ∷ []) ++ marks y) (λ y r. tree y (past r (blank ∷ sign ∷ blank ∷ []))) xs s) xs
  further sign P g marks tree one xs all s at =
      let separator = blank ∷ sign ∷ blank ∷ [] in
      row_zip text P (λ t x. IsFormOf t (g x)) (λ y. separator ++ marks y) (λ y r. tree y (past r separator))
      (λ y r is here. one y is (past r separator) (at_right text r separator (marks y) here)) xs all s at

  pub conjunction_read : (lits : List Lit) → list_all (is_read p width init) lits ≡ true → (s : Spot) → positions.At text s (conjunction_marks p params lits)
      → IsFormOf (conjunction_tree p params lits s) (lits ∷ [])
  conjunction_read [] h s at = true_read s at
  conjunction_read (l ∷ []) h s at = literal_read l (and_left (is_read p width init l) true h) s (at_left text s (literal_marks p params l) [] at)
  conjunction_read (l ∷ m ∷ ls) h s at =
      let marks = literal_marks p params l in
      let others = flat_map (λ y. and_marks ++ literal_marks p params y) (m ∷ ls) in
      let nodes = in_row (λ y. and_marks ++ literal_marks p params y) (λ y r. literal_tree p params y (past r and_marks)) (m ∷ ls) (past s marks) in
      let all = every_true (is_read p width init) (l ∷ m ∷ ls) h in
      and_form (literal_tree p params l s ∷ nodes) (l ∷ m ∷ ls) (
        literal_read l all.0 s (at_left text s marks others at),
        further (word k.And (codes "&&")) (λ x. IsTrue (is_read p width init x)) (λ x. (x ∷ []) ∷ []) (literal_marks p params) (literal_tree p params) literal_read (m ∷ ls) all.1 (past s marks)
            (at_right text s marks others at),
      )

  pub formula_read : (conjs : List (List Lit)) → list_all (list_all (is_read p width init)) conjs ≡ true → (s : Spot) → positions.At text s (formula_marks p params conjs)
      → IsFormOf (formula_tree p params conjs s) conjs
  formula_read [] h s at = false_read s at
  formula_read (c ∷ []) h s at = conjunction_read c (and_left (list_all (is_read p width init) c) true h) s (at_left text s (conjunction_marks p params c) [] at)
  formula_read (c ∷ d ∷ cs) h s at =
      let marks = conjunction_marks p params c in
      let others = flat_map (λ y. or_marks ++ conjunction_marks p params y) (d ∷ cs) in
      let nodes = in_row (λ y. or_marks ++ conjunction_marks p params y) (λ y r. conjunction_tree p params y (past r or_marks)) (d ∷ cs) (past s marks) in
      let all = every_true (list_all (is_read p width init)) (c ∷ d ∷ cs) h in
      or_form (conjunction_tree p params c s ∷ nodes) (c ∷ d ∷ cs) (
        conjunction_read c all.0 s (at_left text s marks others at),
        further (word k.Or (codes "||")) (λ x. IsTrue (list_all (is_read p width init) x)) (λ x. x ∷ []) (conjunction_marks p params) (conjunction_tree p params) conjunction_read (d ∷ cs) all.1 (past s marks)
            (at_right text s marks others at),
      )
