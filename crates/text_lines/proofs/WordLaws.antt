-- Words at the front of a text.
use Rattle.std.proofs.Common.{◌≡◌, ℕ, zero, suc, ◌+◌, ◌-◌, ◌<◌, ◌≤◌, Bool, true, false, not, cond, List, [], ◌∷◌, ◌++◌, length, take, drop, refl, ap, sym, ◌∙◌, arith, append_assoc}
use Rattle.std.specs.List.{prefix_len, list_all}
use Rattle.text_lines.specs.Word.{is_separator, is_word_byte, skip, front, back, word, behind}
use Rattle.text_lines.specs.Number.{counted}
use Rattle.text_lines.specs.Loose.{processes_in, behind_words}

one_more : (n : ℕ) → 1 + n ≡ suc n
one_more n = omega arith

-- words by how many bytes they have
pub skip_is_drop : (t : List ℕ) → skip t ≡ drop (prefix_len is_separator t) t
skip_is_drop [] = refl
skip_is_drop (b ∷ bs) = by (is_separator b) (skip_is_drop bs)
  where
    by : (x : Bool) → skip bs ≡ drop (prefix_len is_separator bs) bs → cond x (skip bs) (b ∷ bs) ≡ drop (cond x (1 + prefix_len is_separator bs) 0) (b ∷ bs)
    by true same = same ∙ ap (λ n. drop n (b ∷ bs)) (sym (one_more (prefix_len is_separator bs)))
    by false same = refl

pub front_is_take : (t : List ℕ) → front t ≡ take (prefix_len is_word_byte t) t
front_is_take [] = refl
front_is_take (b ∷ bs) = by (is_separator b) (front_is_take bs)
  where
    by : (x : Bool) → front bs ≡ take (prefix_len is_word_byte bs) bs → cond x [] (b ∷ front bs) ≡ take (cond (not x) (1 + prefix_len is_word_byte bs) 0) (b ∷ bs)
    by true same = refl
    by false same = ap (λ xs. b ∷ xs) same ∙ ap (λ n. take n (b ∷ bs)) (sym (one_more (prefix_len is_word_byte bs)))

pub back_is_drop : (t : List ℕ) → back t ≡ drop (prefix_len is_word_byte t) t
back_is_drop [] = refl
back_is_drop (b ∷ bs) = by (is_separator b) (back_is_drop bs)
  where
    by : (x : Bool) → back bs ≡ drop (prefix_len is_word_byte bs) bs → cond x (b ∷ bs) (back bs) ≡ drop (cond (not x) (1 + prefix_len is_word_byte bs) 0) (b ∷ bs)
    by true same = refl
    by false same = same ∙ ap (λ n. drop n (b ∷ bs)) (sym (one_more (prefix_len is_word_byte bs)))

-- one word more
pub behind_step : (count i : ℕ) (t : List ℕ) → i < count → behind_words (count - i) t ≡ behind_words (count - (i + 1)) (behind t)
behind_step count i t h =
    let e : count - i ≡ suc (count - (i + 1)) = omega arith in
    ap (λ n. behind_words n t) e

pub processes_step : (count i : ℕ) (t found : List ℕ) → i < count
    → (found ++ counted (word t) ∷ []) ++ processes_in (count - (i + 1)) (behind t) ≡ found ++ processes_in (count - i) t
processes_step count i t found h =
    let e : count - i ≡ suc (count - (i + 1)) = omega arith in
    append_assoc found (counted (word t) ∷ []) (processes_in (count - (i + 1)) (behind t)) ∙ ap (λ n. found ++ processes_in n t) (sym e)

-- the text ends here, or a separator stands here
abbrev pub Stops : List ℕ → Type 0
Stops [] = Unit {0}
Stops (b ∷ bs) = is_separator b ≡ true

front_stop : (t : List ℕ) → Stops t → front t ≡ []
front_stop [] h = refl
front_stop (b ∷ bs) h = rw h refl

back_stop : (t : List ℕ) → Stops t → back t ≡ t
back_stop [] h = refl
back_stop (b ∷ bs) h = rw h refl

-- a word, and what stands behind it
abbrev pub AreWordBytes : List ℕ → Type 0
AreWordBytes [] = Unit {0}
AreWordBytes (b ∷ bs) = (is_separator b ≡ false) × AreWordBytes bs

pub front_word : (w rest : List ℕ) → AreWordBytes w → Stops rest → front (w ++ rest) ≡ w
front_word [] rest all stop = front_stop rest stop
front_word (b ∷ bs) rest all stop = rw (all.0) (ap (λ xs. b ∷ xs) (front_word bs rest all.1 stop))

pub back_word : (w rest : List ℕ) → AreWordBytes w → Stops rest → back (w ++ rest) ≡ rest
back_word [] rest all stop = back_stop rest stop
back_word (b ∷ bs) rest all stop = rw (all.0) (back_word bs rest all.1 stop)

pub skip_word : (w rest : List ℕ) → AreWordBytes w → 0 < length w → skip (w ++ rest) ≡ w ++ rest
skip_word [] rest all some = absurd (omega arith)
skip_word (b ∷ bs) rest all some = rw (all.0) refl

-- a word at the front, and what is behind it
pub first_word : (w rest : List ℕ) → AreWordBytes w → 0 < length w → Stops rest → word (w ++ rest) ≡ w
first_word w rest all some stop = ap front (skip_word w rest all some) ∙ front_word w rest all stop

pub behind_first : (w rest : List ℕ) → AreWordBytes w → 0 < length w → Stops rest → behind (w ++ rest) ≡ rest
behind_first w rest all some stop = ap back (skip_word w rest all some) ∙ back_word w rest all stop
