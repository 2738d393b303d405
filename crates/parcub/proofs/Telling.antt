-- Answers to a trace or a certificate depend on what is told of its name alone.
use Rattle.std.proofs.Common.{◌≡◌, ℕ, List, inl, inr, subst}
use Rattle.io_edge.specs.Shelf.{IsOver}
use Rattle.cub_proto.specs.declared.protocol.Protocol.{Protocol}
use Rattle.std.specs.Prelude.{IfSome}
use Rattle.parcub.specs.Files.{Told, result_limit}
use Rattle.parcub.specs.Replays.{AnswersTrace}
use Rattle.parcub.specs.Verifies.{AnswersNamed}

pub answers_same : (told other : Told) (taken : ℕ) (name : List ℕ) (p : Protocol) (status : ℕ) (text : List ℕ)
    → told name ≡ other name → AnswersTrace told taken name p status text → AnswersTrace other taken name p status text
answers_same told other taken name p status text same (inl long) = inl (subst (λ known. IsOver known taken result_limit) same long.0, long.1, long.2)
answers_same told other taken name p status text same (inr read) = inr (record {
  bytes = read.bytes;
  gave = (read.gave.0, subst (λ known. IfSome known (λ these. read.bytes ≡ these)) same read.gave.1);
  answer = read.answer;
})

pub named_same : (told other : Told) (taken : ℕ) (name : List ℕ) (p : Protocol) (status : ℕ) (text : List ℕ)
    → told name ≡ other name → AnswersNamed told taken name p status text → AnswersNamed other taken name p status text
named_same told other taken name p status text same (inl long) = inl (subst (λ known. IsOver known taken result_limit) same long.0, long.1, long.2)
named_same told other taken name p status text same (inr read) = inr (record {
  bytes = read.bytes;
  gave = (read.gave.0, subst (λ known. IfSome known (λ these. read.bytes ≡ these)) same read.gave.1);
  answer = read.answer;
})
