-- What is written in a line of a journal has no line feed.
use Rattle.std.proofs.Common.{◌≡◌, ℕ, ◌+◌, ◌^◌, ◌<◌, Bool, true, false, not, ◌==◌, List, [], ◌∷◌, ◌++◌, Option, Some, None, refl, arith, codes, decimal, flat_map}
use Rattle.std.specs.List.{list_all, join_by}
use Rattle.std.proofs.lemmas.Bool.{and_parts, not-true}
use Rattle.cub_proto.specs.declared.protocol.Protocol.{Protocol}
use Rattle.cub_proto.specs.declared.budget.Budget.{Budget}
use Rattle.log_form.specs.declared.event.Added.{Added}
use Rattle.text_lines.specs.Spelling.{process_text, processes_text}
use Rattle.text_lines.proofs.LineLaws.{IsOneLine}
use Rattle.text_lines.proofs.LooseLaws.{AreSmall}
use Rattle.text_lines.proofs.OneLineLaws.{one_append, one_words, one_decimal, one_process}
use Rattle.cube_text.specs.Text.{cube_text}
use Rattle.cube_text.proofs.ReadBack.{read_back}
use Rattle.cert_text.proofs.OneLines.{one_cube}
use Rattle.journal_text.specs.Text.{heading_text, version_text, budget_text, item_word, item_text, expand_text, node_text, full_text, wide_text}
use Rattle.journal_text.specs.Form.{widest}
use Rattle.journal_text.specs.Items.{IsItemLine, IsNode}
use Rattle.journal_text.proofs.WideNumbers.{wide_words}
use Rattle.journal_text.proofs.ToldLaws.{small_places}

one_test : (xs : List ℕ) → list_all (λ b. not (b == 10)) xs ≡ true → IsOneLine xs
one_test [] h = tt
one_test (x ∷ xs) h =
    let parts = and_parts (not (x == 10)) (list_all (λ b. not (b == 10)) xs) h in
    (not-true (x == 10) parts.0, one_test xs parts.1)

pub one_heading : (full : Bool) → IsOneLine (heading_text full)
one_heading true = one_test (heading_text true) refl
one_heading false = one_test (heading_text false) refl

pub one_version : IsOneLine version_text
one_version = one_test version_text refl

pub one_end : IsOneLine (codes "end")
one_end = one_test (codes "end") refl

pub one_budget : (b : Budget) → IsOneLine (budget_text b)
one_budget b =
    let few = b.few_cubes in
    let narrow = b.narrow in
    one_append (codes "budget " ++ decimal b.cubes ++ codes " ") (decimal b.width)
    (one_append (codes "budget " ++ decimal b.cubes) (codes " ") (one_append (codes "budget ") (decimal b.cubes) (one_test (codes "budget ") refl) (one_decimal b.cubes (omega arith))) (refl, tt))
    (one_decimal b.width (omega arith))

others_one : (is : List ℕ) → AreSmall is → IsOneLine (flat_map (λ i. (32 ∷ []) ++ process_text i) is)
others_one [] small = tt
others_one (i ∷ is) small =
    one_append ((32 ∷ []) ++ process_text i) (flat_map (λ j. (32 ∷ []) ++ process_text j) is) (refl, one_process i small.0) (others_one is small.1)

one_processes : (is : List ℕ) → AreSmall is → IsOneLine (processes_text is)
one_processes [] small = (refl, (refl, tt))
one_processes (i ∷ is) small = (
  refl,
  one_append (join_by process_text (32 ∷ []) (i ∷ is)) (41 ∷ [])
      (one_append (process_text i) (flat_map (λ j. (32 ∷ []) ++ process_text j) is) (one_process i small.0) (others_one is small.1)) (refl, tt),
)

one_word : (node : Option ℕ) → IsOneLine (item_word node)
one_word None = one_test (item_word None) refl
one_word (Some n) = one_test (codes "new ") refl

pub one_item : (p : Protocol) (node : Option ℕ) (line : List ℕ) (a : Added) → IsItemLine p node line a → IsOneLine (item_text p node a)
one_item p node line a t =
    let early = t.early in
    one_append (item_word node ++ decimal (a.piece + 1) ++ codes " " ++ processes_text a.places ++ codes ": ") (cube_text p a.cube)
    (one_append (item_word node ++ decimal (a.piece + 1) ++ codes " " ++ processes_text a.places) (codes ": ")
    (one_append (item_word node ++ decimal (a.piece + 1) ++ codes " ") (processes_text a.places)
    (one_append (item_word node ++ decimal (a.piece + 1)) (codes " ")
    (one_append (item_word node) (decimal (a.piece + 1)) (one_word node) (one_words (decimal (a.piece + 1)) (wide_words (a.piece + 1) (omega arith)))) (refl, tt))
    (one_processes a.places (small_places a.places t.small)))
    (refl, (refl, tt)))
    (one_cube p widest (cube_text p a.cube) a.cube (read_back p widest a.cube (omega arith) t.lawful))

pub one_expand : (n : ℕ) → n < 2 ^ 32 → IsOneLine (expand_text n)
one_expand n few = one_append (codes "expand ") (decimal (n + 1)) (one_test (codes "expand ") refl) (one_decimal (n + 1) (omega arith))

one_node : (node : Option ℕ) → IsNode node → IsOneLine (node_text node)
one_node None h = one_test (codes "roots") refl
one_node (Some n) h = one_decimal (n + 1) (omega arith)

pub one_full : (node : Option ℕ) (needed : ℕ) → IsNode node → needed < 2 ^ 64 → IsOneLine (full_text node needed)
one_full node needed h early =
    one_append (codes "full " ++ node_text node ++ codes " needs ") (decimal needed)
    (one_append (codes "full " ++ node_text node) (codes " needs ") (one_append (codes "full ") (node_text node) (one_test (codes "full ") refl) (one_node node h)) (one_test (codes " needs ") refl))
    (one_decimal needed early)

pub one_wide : (n : ℕ) → n < 2 ^ 32 → IsOneLine (wide_text n)
one_wide n few = one_append (codes "wide ") (decimal (n + 1)) (one_test (codes "wide ") refl) (one_decimal (n + 1) (omega arith))
