-- The text of lines that stand one after another.
use Rattle.std.proofs.Common.{◌≡◌, ℕ, List, [], ◌∷◌, ◌++◌, refl, ap, sym, ◌∙◌, append_assoc, codes}
use Rattle.text_lines.specs.Line.{ended, text_of}

pub text_append : (xs ys : List (List ℕ)) → text_of (xs ++ ys) ≡ text_of xs ++ text_of ys
text_append [] ys = refl
text_append (x ∷ xs) ys = ap (λ t. ended x ++ t) (text_append xs ys) ∙ sym (append_assoc (ended x) (text_of xs) (text_of ys))

-- what was appended line by line, and the line `end`
pub joined : (heads events closing : List (List ℕ)) (none first second third whole : List ℕ) → none ≡ [] → first ≡ none ++ text_of heads → second ≡ first ++ text_of events
    → third ≡ second ++ text_of closing → whole ≡ third ++ text_of (codes "end" ∷ []) → whole ≡ text_of (heads ++ events ++ closing ++ codes "end" ∷ [])
joined heads events closing none first second third whole e0 e1 e2 e3 e4 =
    let parts : text_of (heads ++ events ++ closing ++ codes "end" ∷ []) ≡ text_of heads ++ text_of events ++ text_of closing ++ text_of (codes "end" ∷ []) =
    text_append (heads ++ events ++ closing) (codes "end" ∷ [])
    ∙ ap (λ t. t ++ text_of (codes "end" ∷ [])) (text_append (heads ++ events) closing ∙ ap (λ t. t ++ text_of closing) (text_append heads events)) in
    e4 ∙ ap (λ t. t ++ text_of (codes "end" ∷ []))
    (e3 ∙ ap (λ t. t ++ text_of closing) (e2 ∙ ap (λ t. t ++ text_of events) (e1 ∙ ap (λ t. t ++ text_of heads) e0)))
    ∙ sym parts
