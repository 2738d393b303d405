-- Marks whose words are a phrase: from whatever spot they are written, and before whatever tokens.
use Rattle.std.proofs.Common.{◌≡◌, ◌+◌, List, [], ◌∷◌, ◌++◌, length, Option, Some, refl, sym, ap, subst, append_assoc, append-nil, inl, inr}
use Rattle.std.specs.Prelude.{flat_map}
use Rattle.cub_parse.specs.declared.tree.Leaf.{Leaf}
use Rattle.cub_parse.specs.Phrase.{Phrase, Maybe, Until, Each}
use Rattle.cub_parse.specs.Sentence.{numbered}
use Rattle.cub_print.specs.Mark.{Mark, gap, word}
use Rattle.cub_print.specs.Tokens.{tokens_from}
use Rattle.print_laws.specs.Spot.{Spot, past, leaf, leaves, in_row}
use Rattle.print_words.proofs.Seams.{Every}

-- leaves are the tokens of marks with their numbers
pub leaves_are : (ms : List Mark) (s : Spot) → leaves s ms ≡ numbered s.number (tokens_from s.at ms)
leaves_are [] s = refl
leaves_are (gap b ∷ ms) s = leaves_are ms (record { number = s.number; at = s.at + 1 })
leaves_are (word kind bytes ∷ ms) s = ap (λ xs. leaf kind bytes s ∷ xs) (leaves_are ms (record { number = s.number + 1; at = s.at + length bytes }))

pub past_on : (a b : List Mark) (s : Spot) → past s (a ++ b) ≡ past (past s a) b
past_on [] b s = refl
past_on (gap byte ∷ a) b s = past_on a b (record { number = s.number; at = s.at + 1 })
past_on (word kind bytes ∷ a) b s = past_on a b (record { number = s.number + 1; at = s.at + length bytes })

pub leaves_on : (a b : List Mark) (s : Spot) (rest : List Leaf) → leaves s (a ++ b) ++ rest ≡ leaves s a ++ (leaves (past s a) b ++ rest)
leaves_on [] b s rest = refl
leaves_on (gap byte ∷ a) b s rest = leaves_on a b (record { number = s.number; at = s.at + 1 }) rest
leaves_on (word kind bytes ∷ a) b s rest = ap (λ xs. leaf kind bytes s ∷ xs) (leaves_on a b (record { number = s.number + 1; at = s.at + length bytes }) rest)

-- the words of the marks are a phrase with this tree
abbrev pub Spells : {A : Type 0} → Phrase A → List Mark → (Spot → A) → Type 0
Spells R ms tree = (s : Spot) (rest : List Leaf) → R (leaves s ms ++ rest) (tree s) rest

-- a phrase that begins with the words of the front of longer marks
pub at_front : {A : Type 0} (R : Phrase A) (a b : List Mark) (x : A) (s : Spot) (rest end : List Leaf)
    → R (leaves s a ++ (leaves (past s a) b ++ rest)) x end → R (leaves s (a ++ b) ++ rest) x end
at_front R a b x s rest end h = subst (λ ts. R ts x end) (sym (leaves_on a b s rest)) h

-- marks whose words are a phrase, with marks behind them
pub front_spells : {A : Type 0} (R : Phrase A) (a b : List Mark) (tree : Spot → A) → Spells R a tree → (s : Spot) (rest : List Leaf)
    → R (leaves s (a ++ b) ++ rest) (tree s) (leaves (past s a) b ++ rest)
front_spells R a b tree h s rest = at_front R a b (tree s) s rest (leaves (past s a) b ++ rest) (h s (leaves (past s a) b ++ rest))

-- marks behind marks behind marks
pub regrouped : {A : Type 0} (R : Phrase A) (a b c : List Mark) (x : A) (s : Spot) (rest end : List Leaf)
    → R (leaves s (a ++ (b ++ c)) ++ rest) x end → R (leaves s (a ++ b ++ c) ++ rest) x end
regrouped R a b c x s rest end h = subst (λ ms. R (leaves s ms ++ rest) x end) (sym (append_assoc a b c)) h

-- items in a row, up to what follows
pub row : {A T : Type 0} (P : A → Type 0) (R : Phrase (Option T)) (marks : A → List Mark) (tree : A → Spot → T)
    → ((x : A) → P x → (s : Spot) (rest : List Leaf) → R (leaves s (marks x) ++ rest) (Some (tree x s)) rest)
    → (xs : List A) → Every P xs → (s : Spot) (ts : List Leaf) (ys : List T) (rest : List Leaf) → Until R ts ys rest
    → Until R (leaves s (flat_map marks xs) ++ ts) (in_row marks tree xs s ++ ys) rest
row P R marks tree each [] all s ts ys rest h = h
row P R marks tree each (x ∷ xs) all s ts ys rest h =
    let mid = leaves (past s (marks x)) (flat_map marks xs) ++ ts in (
      mid,
      at_front R (marks x) (flat_map marks xs) (Some (tree x s)) s ts mid (each x all.0 s mid),
      row P R marks tree each xs all.1 (past s (marks x)) ts ys rest h,
    )

-- nothing more
pub ended : {A : Type 0} (R : Phrase A) (ts : List Leaf) → Each R ts [] ts
ended R ts = inr (refl, refl)

-- one, where there may be one
pub given : {A : Type 0} (R : Phrase A) (ts : List Leaf) (x : A) (rest : List Leaf) → R ts x rest → Maybe R ts (Some x) rest
given R ts x rest h = inl (x, rest, h, (refl, refl))

abbrev pub Any : {A : Type 0} → A → Type 0
Any x = Unit {0}

pub any : {A : Type 0} (xs : List A) → Every Any xs
any [] = tt
any (x ∷ xs) = (tt, any xs)

pub rows : {A T : Type 0} (P : A → Type 0) (R : Phrase T) (marks : A → List Mark) (tree : A → Spot → T) → ((x : A) → P x → Spells R (marks x) (tree x))
    → (xs : List A) → Every P xs → (s : Spot) (ts : List Leaf) (ys : List T) (rest : List Leaf) → Each R ts ys rest
    → Each R (leaves s (flat_map marks xs) ++ ts) (in_row marks tree xs s ++ ys) rest
rows P R marks tree each =
    row P (Maybe R) marks tree (λ x is s rest. given R (leaves s (marks x) ++ rest) (tree x s) rest (each x is s rest))

pub rows_alone : {A T : Type 0} (R : Phrase T) (marks : A → List Mark) (tree : A → Spot → T) → ((x : A) → Spells R (marks x) (tree x))
    → (xs : List A) → Spells (Each R) (flat_map marks xs) (in_row marks tree xs)
rows_alone R marks tree each xs s rest =
    subst (λ ys. Each R (leaves s (flat_map marks xs) ++ rest) ys rest) (append-nil (in_row marks tree xs s))
    (rows Any R marks tree (λ x is. each x) xs (any xs) s rest [] rest (ended R rest))
