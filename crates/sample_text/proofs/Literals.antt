-- The literals of the sample protocol are those of texts: masks of one level, or of all but one.
use Rattle.std.proofs.Common.{◌≡◌, ℕ, ◌+◌, ◌-◌, ◌^◌, ◌<◌, ◌≤◌, true, [], ◌∷◌, refl, sym, ap, ◌∙◌, arith}
use Rattle.std.specs.List.{list_all}
use Rattle.std.proofs.lemmas.List.FromFn.{length-map-range_with_len}
use Rattle.cub_base.proofs.Bools.{and_left, and_right}
use Rattle.cub_proto.specs.declared.literal.Term.{Term}
use Rattle.cub_proto.specs.declared.literal.Lit.{Lit}
use Rattle.cub_proto.specs.declared.protocol.Protocol.{Protocol}
use Rattle.cub_proto.specs.Signature.{signature, constructors_at}
use Rattle.cub_proto.specs.StateOf.{signature_of}
use Rattle.cub_proto.specs.Negation.{negated}
use Rattle.print_premises.proofs.Literals.{is_textual, are_textual, mask_closed}
use Rattle.sample_gen.specs.Sample.{IsSample, level_name, sorts, arrays, is_on, is_not_on}

module _ (top : ℕ) (p : Protocol) (sample : IsSample top p) where
  declares : signature_of p ≡ signature (sorts top) [] arrays
  declares =
      ap (λ s. signature s p.globals p.arrays) sample.sorts ∙ ap (λ g. signature (sorts top) g p.arrays) sample.globals
      ∙ ap (λ a. signature (sorts top) [] a) sample.arrays

  -- a cell of the array has so many constructors
  levels : (place : ℕ) → constructors_at (signature_of p) (Term.Cell 0 place) ≡ top + 1
  levels place = ap (λ sig. constructors_at sig (Term.Cell 0 place)) declares ∙ length-map-range_with_len level_name 0 (top + 1)

  module _ (place level : ℕ) (h : level ≤ top) where
    abbrev cell : Term
    cell = Term.Cell 0 place

    below : level < constructors_at (signature_of p) (Term.Cell 0 place)
    below = omega (arith, h, levels place)

    pub on_textual : is_textual p (is_on place level) ≡ true
    on_textual = and_left (is_textual p (is_on place level)) (is_textual p (negated (signature_of p) (is_on place level))) (mask_closed p cell level below)

    pub not_on_textual : is_textual p (is_not_on top place level) ≡ true
    not_on_textual =
        ap (λ (n : ℕ). is_textual p (Lit.FinIn cell (2 ^ n - 1 - 2 ^ level))) (sym (levels place))
        ∙ and_right (is_textual p (is_on place level)) (is_textual p (negated (signature_of p) (is_on place level))) (mask_closed p cell level below)

    -- the formula of one literal about a level
    pub one_textual : list_all (are_textual p) ((is_on place level ∷ []) ∷ []) ≡ true
    one_textual = rw on_textual refl

    pub other_textual : list_all (are_textual p) ((is_not_on top place level ∷ []) ∷ []) ≡ true
    other_textual = rw not_on_textual refl
