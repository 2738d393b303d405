-- What the loop over picks keeps: those read, and those that the rest tells.
use Rattle.std.proofs.Common.{◌≡◌, ℕ, suc, ◌+◌, ◌-◌, ◌<◌, false, List, [], ◌∷◌, ◌++◌, ap, sym, ◌∙◌, arith, append_assoc, bytes_eq}
use Rattle.std.proofs.lemmas.Bool.{cond-false}
use Rattle.cub_proto.specs.declared.protocol.Protocol.{Protocol}
use Rattle.cub_proto.specs.declared.event.Chosen.{Chosen}
use Rattle.text_lines.specs.Word.{word, behind}
use Rattle.trace_text.specs.Told.{pick_told, behind_pick, picks_told}

pick_more : (p : Protocol) (most i : ℕ) (rest : List ℕ) → i < most → bytes_eq (word rest) [] ≡ false
    → picks_told p (most - i) rest ≡ pick_told p rest ∷ picks_told p (most - (i + 1)) (behind (behind_pick p rest))
pick_more p most i rest inside some =
    let next : most - i ≡ suc (most - (i + 1)) = omega arith in
    ap (λ n. picks_told p n rest) next
    ∙ cond-false (bytes_eq (word rest) []) [] (pick_told p rest ∷ picks_told p (most - (i + 1)) (behind (behind_pick p rest))) some

pub pick_kept : (p : Protocol) (most i : ℕ) (rest after : List ℕ) (found more all : List Chosen) (pick : Chosen) → i < most
    → bytes_eq (word rest) [] ≡ false → pick ≡ pick_told p rest → after ≡ behind (behind_pick p rest) → more ≡ found ++ pick ∷ []
    → found ++ picks_told p (most - i) rest ≡ all → more ++ picks_told p (most - (i + 1)) after ≡ all
pick_kept p most i rest after found more all pick inside some told left pushed kept =
    let tail = picks_told p (most - (i + 1)) (behind (behind_pick p rest)) in
    ap (λ cs. cs ++ picks_told p (most - (i + 1)) after) (pushed ∙ ap (λ c. found ++ c ∷ []) told)
    ∙ ap (λ bytes. (found ++ pick_told p rest ∷ []) ++ picks_told p (most - (i + 1)) bytes) left
    ∙ append_assoc found (pick_told p rest ∷ []) tail ∙ ap (λ cs. found ++ cs) (sym (pick_more p most i rest inside some)) ∙ kept
