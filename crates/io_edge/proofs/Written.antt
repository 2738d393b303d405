-- Bytes that are written in pieces.
use Rattle.std.proofs.Common.{◌≡◌, ℕ, ◌+◌, List, ◌++◌, take, drop, Option, Some, None, refl, ap, sym, ◌∙◌, append_assoc, length, ◌-◌}
use Rattle.std.proofs.lemmas.List.{take_rest}
use Rattle.std.proofs.Math.Seq.{take-add}
use Rattle.io_edge.specs.Sink.{with_bytes}

-- one piece and then another
pub with_bytes-with_bytes : (written : Option (List ℕ)) (front back : List ℕ) →
    with_bytes (with_bytes written front) back ≡ with_bytes written (front ++ back)
with_bytes-with_bytes None front back = refl
with_bytes-with_bytes (Some bytes) front back = ap Some (append_assoc bytes front back)

-- the first bytes and then some of those that follow, which the code takes as the slice `&bytes[done..]`
pub writes_more : (before mid now : Option (List ℕ)) (bytes : List ℕ) (done count : ℕ) →
    mid ≡ with_bytes before (take done bytes) →
    now ≡ with_bytes mid (take count (take (length bytes - done) (drop done bytes))) →
    now ≡ with_bytes before (take (done + count) bytes)
writes_more before mid now bytes done count first next =
    next
    ∙ ap (λ (w : Option (List ℕ)). with_bytes w (take count (take (length bytes - done) (drop done bytes)))) first
    ∙ ap (λ (rest : List ℕ). with_bytes (with_bytes before (take done bytes)) (take count rest)) (take_rest bytes done)
    ∙ with_bytes-with_bytes before (take done bytes) (take count (drop done bytes))
    ∙ ap (with_bytes before) (sym (take-add done count bytes))
