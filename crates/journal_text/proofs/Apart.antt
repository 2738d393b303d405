-- Lines of different kinds differ in their first byte; lines of one kind tell what they are written from.
use Rattle.std.proofs.Common.{◌≡◌, ◌⊎◌, inl, inr, ℕ, ◌^◌, ◌<◌, List, [], ◌∷◌, Option, Some, None, refl, sym, ap, ◌∙◌, arith}
use Rattle.cub_proto.specs.declared.protocol.Protocol.{Protocol}
use Rattle.log_form.specs.declared.event.Added.{Added}
use Rattle.log_form.specs.declared.numbered.Numbered.{Numbered}
use Rattle.log_form.specs.Pieces.{PieceRelation}
use Rattle.log_form.specs.Log.{LogValue}
use Rattle.log_form.specs.Legal.{Treats, IsLegalLog}
use Rattle.log_form.proofs.Weave.{legal_woven}
use Rattle.text_lines.specs.Number.{counted}
use Rattle.journal_text.specs.Text.{item_text, expand_text, full_text, wide_text}
use Rattle.journal_text.specs.Told.{word_told}
use Rattle.journal_text.proofs.ToldLaws.{expand_is_told}

abbrev first_byte : List ℕ → ℕ
first_byte [] = 0
first_byte (b ∷ bs) = b

-- the byte that the line of an added cube begins with
abbrev item_byte : Option ℕ → ℕ
item_byte None = 114
item_byte (Some n) = 110

item_begins : (p : Protocol) (node : Option ℕ) (a : Added) → first_byte (item_text p node a) ≡ item_byte node
item_begins p None a = refl
item_begins p (Some n) a = refl

module _ (p : Protocol) (node : Option ℕ) (a : Added) (line : List ℕ) (is : line ≡ item_text p node a) where
  begun : first_byte line ≡ item_byte node
  begun = ap first_byte is ∙ item_begins p node a

  no_byte : (node : Option ℕ) (b : ℕ) → (b < 110) ⊎ (114 < b) → b ≡ item_byte node → ⊥
  no_byte None b (inl low) h = omega (arith, low, h)
  no_byte None b (inr high) h = omega (arith, high, h)
  no_byte (Some n) b (inl low) h = omega (arith, low, h)
  no_byte (Some n) b (inr high) h = omega (arith, high, h)

  pub item_no_expand : (n : ℕ) → line ≡ expand_text n → ⊥
  item_no_expand n other = no_byte node 101 (inl (omega arith)) (sym (ap first_byte other) ∙ begun)

  pub item_no_full : (of : Option ℕ) (needed : ℕ) → line ≡ full_text of needed → ⊥
  item_no_full of needed other = no_byte node 102 (inl (omega arith)) (sym (ap first_byte other) ∙ begun)

  pub item_no_wide : (n : ℕ) → line ≡ wide_text n → ⊥
  item_no_wide n other = no_byte node 119 (inr (omega arith)) (sym (ap first_byte other) ∙ begun)

pub expand_no_full : (line : List ℕ) (n : ℕ) (node : Option ℕ) (needed : ℕ) → line ≡ expand_text n → line ≡ full_text node needed → ⊥
expand_no_full line n node needed h k = let e : 101 ≡ 102 = sym (ap first_byte h) ∙ ap first_byte k in omega (arith, e)

pub expand_no_wide : (line : List ℕ) (n m : ℕ) → line ≡ expand_text n → line ≡ wide_text m → ⊥
expand_no_wide line n m h k = let e : 101 ≡ 119 = sym (ap first_byte h) ∙ ap first_byte k in omega (arith, e)

pub same_expand : (n m : ℕ) → n < 2 ^ 32 → m < 2 ^ 32 → expand_text n ≡ expand_text m → n ≡ m
same_expand n m few less h = sym (expand_is_told n few) ∙ ap (λ t. counted (word_told 1 t)) h ∙ expand_is_told m less

-- the numbers of nodes of a legal log are below 2^32
pub node_number : (P : PieceRelation) (log : LogValue) (n : ℕ) (list : List Numbered) → IsLegalLog P log → Treats P log (Some n) list → n < 2 ^ 32
node_number P log n list legal treats =
    let few = (legal_woven P log legal).few in
    let most = log.budget.few_cubes in
    let inside = treats.inside in
    omega arith
