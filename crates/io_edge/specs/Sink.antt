-- What a sink holds after more bytes.
use Rattle.std.specs.Prelude.{◌≡◌, ℕ, ◌<◌, List, ◌++◌, length, take, Option, option_map}

-- the bytes written and these, where they are told
abbrev pub with_bytes : Option (List ℕ) → List ℕ → Option (List ℕ)
with_bytes written bytes = option_map (λ front. front ++ bytes) written

-- some of the bytes, and not all, were written: a prefix
abbrev pub WritesPart : Option (List ℕ) → Option (List ℕ) → List ℕ → Type 0
WritesPart before now bytes = (count : ℕ) × (count < length bytes) × (now ≡ with_bytes before (take count bytes))
