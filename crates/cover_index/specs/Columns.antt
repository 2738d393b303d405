-- Words of up to 64 cubes, turned round: word b has a bit for each cube whose own word has bit b. One operation on two such
-- words then looks at one bit of all the cubes.
use Rattle.std.specs.Prelude.{◌≡◌, ℕ, ◌<◌, Bool, not, List, length, slice_index_or, IsTrue}
use Rattle.cub_proto.specs.Truth.{has_bit}
use Rattle.subsume.specs.declared.summary.Summary.{Summary}
use Rattle.cover_index.specs.Asked.{summary_at, needs_key, offers_key}

-- one of the words, and one without bits past their end
abbrev pub column : List ℕ → ℕ → ℕ
column words b = slice_index_or words b 0

-- bit i of word b is what the test says of i and b, for so many i
abbrev pub AreColumns : List ℕ → ℕ → (ℕ → ℕ → Bool) → Type 0
AreColumns words count test = (i : ℕ) → i < count → (b : ℕ) → b < 64 → has_bit (column words b) i ≡ test i b

-- a cube of the list needs the mark; and doesn't offer it
abbrev pub needs_mark : List Summary → ℕ → ℕ → Bool
needs_mark summaries i b = has_bit (needs_key (summary_at summaries i)) b

abbrev pub lacks_mark : List Summary → ℕ → ℕ → Bool
lacks_mark summaries i b = not (has_bit (offers_key (summary_at summaries i)) b)

-- a word for each mark, which is filled only where the test holds of the mark
pub record AreFilled (words : List ℕ) (test : ℕ → Bool) : Type 0 where
  pub all : length words ≡ 64
  pub only : (b : ℕ) → b < 64 → (i : ℕ) → IsTrue (has_bit (column words b) i) → IsTrue (test b)

-- the marks that a cube doesn't offer, and those that it needs
abbrev pub lacks : Summary → ℕ → Bool
lacks own b = not (has_bit (offers_key own) b)

abbrev pub needs : Summary → ℕ → Bool
needs own b = has_bit (needs_key own) b

-- the bit stands in some word of both lists
abbrev pub Meet : List ℕ → List ℕ → ℕ → Type 0
Meet columns filled i = (b : ℕ) × (b < length columns) × IsTrue (has_bit (column columns b) i) × IsTrue (has_bit (column filled b) i)

-- a cube of the list needs a mark that the given one doesn't offer; and offers not a mark that the given one needs
abbrev pub NeedsMore : List Summary → ℕ → Summary → Type 0
NeedsMore summaries i own = (b : ℕ) × (b < 64) × IsTrue (needs_mark summaries i b) × IsTrue (lacks own b)

abbrev pub OffersLess : List Summary → ℕ → Summary → Type 0
OffersLess summaries i own = (b : ℕ) × (b < 64) × IsTrue (lacks_mark summaries i b) × IsTrue (needs own b)
