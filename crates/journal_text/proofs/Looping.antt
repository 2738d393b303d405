-- What the loops of the reader keep.
use Rattle.std.proofs.Common.{◌≡◌, ℕ, suc, ◌+◌, ◌-◌, ◌<◌, ◌≤◌, List, [], ◌∷◌, ◌++◌, length, min, Option, ap, sym, subst, ◌∙◌, arith, append_assoc}
use Rattle.cub_proto.specs.declared.protocol.Protocol.{Protocol}
use Rattle.log_form.specs.declared.event.Added.{Added}
use Rattle.text_lines.specs.Number.{counted}
use Rattle.text_lines.specs.Word.{word, behind}
use Rattle.journal_text.specs.Told.{places_told}
use Rattle.journal_text.specs.Items.{AreItemLines}
use Rattle.journal_text.proofs.ItemLaws.{lines_push}

pub record IsToldPlaces (count : ℕ) (bytes : List ℕ) (counter : ℕ) (rest : List ℕ) (places : List ℕ) : Type 0 where
  pub counts : length places ≡ counter
  pub told : places ++ places_told (count - counter) rest ≡ places_told count bytes

pub places_step : (count i : ℕ) (t found : List ℕ) → i < count
    → (found ++ min (counted (word t)) 255 ∷ []) ++ places_told (count - (i + 1)) (behind t) ≡ found ++ places_told (count - i) t
places_step count i t found h =
    let e : count - i ≡ suc (count - (i + 1)) = omega arith in
    append_assoc found (min (counted (word t)) 255 ∷ []) (places_told (count - (i + 1)) (behind t)) ∙ ap (λ n. found ++ places_told n t) (sym e)

-- the lines of the cubes that were read
pub record IsReadItems (p : Protocol) (node : Option ℕ) (items : List Added) (at : ℕ) (rest : List ℕ) (line : ℕ) (text : List ℕ) : Type 0 where
  pub lines : AreItemLines p node items text rest
  pub counts : at ≡ line + length items
  pub room : at + length rest ≤ line + length text

pub lines_more : (p : Protocol) (node : Option ℕ) (items : List Added) (a : Added) (text rest behind : List ℕ) → AreItemLines p node items text rest → AreItemLines p node (a ∷ []) rest behind
    → AreItemLines p node (items ++ a ∷ []) text behind
lines_more p node items a text rest behind h (line, left, at, t, same) =
    subst (AreItemLines p node (items ++ a ∷ []) text) same (lines_push p node items a text rest line left h at t)
