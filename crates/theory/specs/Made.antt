-- For which protocol a scratch was made, and what every call but `tick` leaves as it was.
use Rattle.std.specs.Prelude.{◌≡◌, ℕ, List, [], ◌∷◌, length}
use Rattle.cub_proto.specs.declared.literal.Lit.{Lit}
use Rattle.cub_proto.specs.declared.protocol.Protocol.{Protocol}
use Rattle.theory_laws.specs.Fitting.{term_numbers}
use Rattle.theory_laws.specs.Start.{has_start as has_conjunction, start_at}
use Rattle.theory.specs.Theory.{Theory}

-- the number of literals of the start conjunction
abbrev pub start_size : List (List Lit) → ℕ
start_size [] = 0
start_size (conj ∷ more) = length conj

-- the scratch was made for the protocol: it has its start literals at the places 0 to 10, and tables of its sizes
pub record IsFor (p : Protocol) (t : Theory) : Type 0 where
  pub has_one : t.has_start ≡ has_conjunction p.start
  pub size : t.each ≡ start_size p.start
  pub literals : t.start ≡ start_at p 11
  pub domain_count : length t.domains ≡ term_numbers p
  pub mask_count : length t.masks ≡ term_numbers p
  pub room : t.integers.room ≡ 104

-- a scratch stays made for what it was made for, and its count stays
pub record IsKept (old new : Theory) : Type 0 where
  pub has_one : new.has_start ≡ old.has_start
  pub size : new.each ≡ old.each
  pub literals : new.start ≡ old.start
  pub count : new.tests ≡ old.tests
  pub domain_count : length new.domains ≡ length old.domains
  pub mask_count : length new.masks ≡ length old.masks
  pub room : new.integers.room ≡ old.integers.room
