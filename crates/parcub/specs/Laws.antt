-- What holds of the answers to all words.
use Rattle.std.specs.Prelude.{◌≡◌, ℕ, List, All, IsTrue, is_some}
use Rattle.parcub.specs.Files.{Told}
use Rattle.parcub.specs.Answer.{IsAnswer, files_of}

-- the bytes of these names are told
abbrev pub AreTold : Told → List (List ℕ) → Type 0
AreTold told names = All (λ name. IsTrue (is_some (told name))) names

-- where the bytes of the files are told, words have one answer at most: one status with one text
abbrev pub OneAnswer : Type 0
OneAnswer =
    (told : Told) (words : List (List ℕ)) → AreTold told (files_of words) → (taken more status other : ℕ) (text another : List ℕ)
    → IsAnswer told taken words status text → IsAnswer told more words other another → (status ≡ other) × (text ≡ another)
