-- What the laws of printing ask of literals holds of literals of texts.
use Rattle.std.proofs.Common.{◌≡◌, true, List}
use Rattle.std.specs.List.{list_all}
use Rattle.cub_base.proofs.Bools.{and_left, and_right}
use Rattle.cub_base.proofs.Conjunctions.{list_all_weaker}
use Rattle.cub_proto.specs.declared.literal.Lit.{Lit}
use Rattle.cub_proto.specs.declared.protocol.Protocol.{Protocol}
use Rattle.print_words.specs.Writable.{is_writable_literal, is_writable_conjunction, is_writable_formula}
use Rattle.print_formulas.specs.Normal.{is_normal_literal, is_normal_conjunction, is_normal_formula}
use Rattle.print_premises.proofs.Literals.{is_textual, are_textual}

module _ (p : Protocol) where
  writable_literal : (l : Lit) → is_textual p l ≡ true → is_writable_literal p l ≡ true
  writable_literal l h = and_left (is_writable_literal p l) (is_normal_literal p l) h

  normal_literal : (l : Lit) → is_textual p l ≡ true → is_normal_literal p l ≡ true
  normal_literal l h = and_right (is_writable_literal p l) (is_normal_literal p l) h

  pub writable_conjunction : (lits : List Lit) → are_textual p lits ≡ true → is_writable_conjunction p lits ≡ true
  writable_conjunction lits h = list_all_weaker (is_textual p) (is_writable_literal p) writable_literal lits h

  pub normal_conjunction : (lits : List Lit) → are_textual p lits ≡ true → is_normal_conjunction p lits ≡ true
  normal_conjunction lits h = list_all_weaker (is_textual p) (is_normal_literal p) normal_literal lits h

  pub writable_formula : (conjs : List (List Lit)) → list_all (are_textual p) conjs ≡ true → is_writable_formula p conjs ≡ true
  writable_formula conjs h = list_all_weaker (are_textual p) (is_writable_conjunction p) writable_conjunction conjs h

  pub normal_formula : (conjs : List (List Lit)) → list_all (are_textual p) conjs ≡ true → is_normal_formula p conjs ≡ true
  normal_formula conjs h = list_all_weaker (are_textual p) (is_normal_conjunction p) normal_conjunction conjs h
