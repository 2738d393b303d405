-- Summaries of cubes, and which pairs of cubes are passed over by them.
use Rattle.std.specs.Prelude.{◌≡◌, ◌⊎◌, ◌-◌, ◌^◌, ℕ, List, bit_and, bit_or}
use Rattle.cub_proto.specs.declared.literal.Lit.{Lit}
use Rattle.cub_proto.specs.declared.literal.Term.{Term}
use Rattle.cub_proto.specs.declared.protocol.Protocol.{Protocol}
use Rattle.cub_proto.specs.Signature.{constructors_at}
use Rattle.cub_proto.specs.StateOf.{signature_of}
use Rattle.cub_cube.specs.declared.cube.Cube.{Cube}
use Rattle.cub_cube.specs.Mentions.{Mentions}
use Rattle.cub_cube.specs.Meaning.{IsConsistent}
use Rattle.subsume.specs.declared.marks.Marks.{Marks}
use Rattle.subsume.specs.declared.summary.Summary.{Summary}
use Rattle.subsume.specs.Marks.{HasMarks, HasOffers, AreMarksOf, HaveOffersOf, AreAmong}

-- the summary of one cube
pub record IsSummary (p : Protocol) (c : Cube) (s : Summary) : Type 0 where
  pub needs : HasMarks (signature_of p) c.lits s.needs
  pub offers : HasOffers (signature_of p) c.lits s.offers

-- the cube is one of those that the summary is of: it needs all that the summary needs, and offers no more
pub record IsOf (p : Protocol) (c : Cube) (s : Summary) : Type 0 where
  pub needs : AreMarksOf (signature_of p) c.lits s.needs
  pub offers : HaveOffersOf (signature_of p) c.lits s.offers

abbrev pub common : Marks → Marks → Marks
common m n = record {
  globals = bit_and m.globals n.globals;
  arrays = bit_and m.arrays n.arrays;
  members = bit_and m.members n.members;
  constructors = bit_and m.constructors n.constructors;
  pairs = bit_and m.pairs n.pairs;
  joint = bit_and m.joint n.joint;
  values = bit_and m.values n.values;
}

abbrev pub either : Marks → Marks → Marks
either m n = record {
  globals = bit_or m.globals n.globals;
  arrays = bit_or m.arrays n.arrays;
  members = bit_or m.members n.members;
  constructors = bit_or m.constructors n.constructors;
  pairs = bit_or m.pairs n.pairs;
  joint = bit_or m.joint n.joint;
  values = bit_or m.values n.values;
}

-- the summary of the cubes of both: what all need, and what some offer
abbrev pub joined : Summary → Summary → Summary
joined s t = record { needs = common s.needs t.needs; offers = either s.offers t.offers }

abbrev pub filled : ℕ → Marks
filled word = record { globals = word; arrays = word; members = word; constructors = word; pairs = word; joint = word; values = word }

-- the summary of no cubes
abbrev pub nothing : Summary
nothing = record { needs = filled (2 ^ 64 - 1); offers = filled 0 }

-- a cube of the first summary may cover one of the second
abbrev pub MayCover : Summary → Summary → Type 0
MayCover big small = AreAmong big.needs small.offers

-- a literal of the list mentions the global, or some cell of the array
abbrev pub MentionsLike : List Lit → Term → Type 0
MentionsLike lits (Term.Global g) = Mentions lits (Term.Global g)
MentionsLike lits (Term.Cell a p) = (q : ℕ) × Mentions lits (Term.Cell a q)

-- the first cube is a candidate for covering the second: no state meets the second, or it mentions each global and each
-- array that the first mentions; those with one constructor are not looked at
abbrev pub IsCandidate : Protocol → Cube → Cube → Type 0
IsCandidate p d c =
    (IsConsistent p c.width c.lits → ⊥)
    ⊎ ((t : Term) → Mentions d.lits t → (constructors_at (signature_of p) t ≡ 1 → ⊥) → MentionsLike c.lits t)
