-- The log of a search is legal, and its text is in bounds where the text is.
use Rattle.std.proofs.Common.{◌≡◌, ℕ, suc, ◌+◌, ◌<◌, ◌≤◌, ◌^◌, List, [], ◌∷◌, ◌++◌, length, map, flat_map, Some, All, arith, codes, length-append}
use Rattle.std.proofs.lemmas.List.{length-map}
use Rattle.std.proofs.lemmas.List.Elements.{All-nil, All-cons, All-weaker}
use Rattle.cub_base.specs.Numbered.{map_from}
use Rattle.cub_base.proofs.Numbered.{length-map_from}
use Rattle.cub_proto.specs.declared.budget.Budget.{Budget}
use Rattle.cub_proto.specs.declared.cover.CoverLine.{CoverLine}
use Rattle.cub_proto.specs.declared.protocol.Protocol.{Protocol}
use Rattle.cub_cube.specs.declared.cube.Cube.{Cube}
use Rattle.piece_choices.specs.declared.piece.Piece.{Piece}
use Rattle.log_form.specs.Log.{LogValue}
use Rattle.log_form.specs.Legal.{IsLegalLog}
use Rattle.predecessors.specs.Predecessors.{ArePieceCubes}
use Rattle.cube_core.proofs.KeepLemmas.{first_legal}
use Rattle.text_lines.specs.Line.{text_of}
use Rattle.cube_text.specs.Text.{cube_text}
use Rattle.cert_text.specs.Text.{cover_text, certificate_lines, certificate_text}
use Rattle.cover_lines.specs.Obligations.{piece_obligation, piece_obligations, all_piece_obligations, goal_obligation, obligations}
use Rattle.cover_lines.specs.Lines.{IsLineOf, AreCoverLines}
use Rattle.cover_lines.proofs.ZipLemmas.{zip_length}
use Rattle.crew.specs.Search.{IsSearch}
use Rattle.crew.proofs.OneLog.{legal_times}

pub search_legal : (p : Protocol) (budget : Budget) (log : LogValue) → IsSearch p budget log → IsLegalLog ArePieceCubes log
search_legal p budget log search = legal_times search.first search.later.0 log (first_legal ArePieceCubes p budget search.first search.roots) search.later.1

-- a text has as many bytes as lines at least
text_long : (ls : List (List ℕ)) → length ls ≤ length (text_of ls)
text_long [] = omega arith
text_long (l ∷ ls) =
    let more = text_long ls in
    let all : length ((l ++ 10 ∷ []) ++ text_of ls) ≡ length (l ++ 10 ∷ []) + length (text_of ls) = length-append (l ++ 10 ∷ []) (text_of ls) in
    let here : length (l ++ 10 ∷ []) ≡ length l + 1 = length-append l (10 ∷ []) in
    let whole : suc (length ls) ≤ length ((l ++ 10 ∷ []) ++ text_of ls) = omega arith in
    whole

-- so a certificate has no more cover lines than bytes
pub covers_few : (p : Protocol) (cubes : List Cube) (lines : List CoverLine) → length lines ≤ length (certificate_text p cubes (Some lines))
covers_few p cubes lines =
    let texts = map cover_text lines in
    let whole : suc (suc (suc (length ((map (cube_text p) cubes ++ texts) ++ codes "end" ∷ [])))) ≤ length (certificate_text p cubes (Some lines)) = text_long (certificate_lines p cubes (Some lines)) in
    let count : length texts ≡ length lines = length-map lines cover_text in
    let first : length ((map (cube_text p) cubes ++ texts) ++ codes "end" ∷ []) ≡ length (map (cube_text p) cubes ++ texts) + 1 =
    length-append (map (cube_text p) cubes ++ texts) (codes "end" ∷ []) in
    let second : length (map (cube_text p) cubes ++ texts) ≡ length (map (cube_text p) cubes) + length texts = length-append (map (cube_text p) cubes) texts in
    omega arith

-- no cube has more pieces than there are obligations
pieces_within : (of : ℕ) (pieces : List (List Piece)) (most : ℕ) → length (flat_map (λ xs. xs) (map_from piece_obligations of pieces)) ≤ most → All (λ xs. length xs ≤ most) pieces
pieces_within of [] most h = All-nil (λ (xs : List Piece). length xs ≤ most)
pieces_within of (xs ∷ pieces) most h =
    let rest = flat_map (λ ys. ys) (map_from piece_obligations (of + 1) pieces) in
    let here : length (piece_obligations of xs) ≡ length xs = length-map_from (piece_obligation of) 0 xs in
    let both : length (piece_obligations of xs ++ rest) ≡ length (piece_obligations of xs) + length rest = length-append (piece_obligations of xs) rest in
    let whole : length (piece_obligations of xs ++ rest) ≤ most = h in
    All-cons (λ (ys : List Piece). length ys ≤ most) xs pieces (omega arith) (pieces_within (of + 1) pieces most (omega arith))

pub pieces_few : (p : Protocol) (cubes : List Cube) (lines : List CoverLine) (are : AreCoverLines p cubes lines) → length lines ≤ 268435456 → All (λ xs. length xs < 2 ^ 64) are.pieces
pieces_few p cubes lines are few =
    let same : length (obligations are.roots are.pieces) ≡ length lines = zip_length (IsLineOf p cubes) (obligations are.roots are.pieces) lines are.one_each in
    let both : length (obligations are.roots are.pieces) ≡ length (map goal_obligation are.roots) + length (all_piece_obligations are.pieces) =
    length-append (map goal_obligation are.roots) (all_piece_obligations are.pieces) in
    let all : length (all_piece_obligations are.pieces) ≤ 268435456 = omega arith in
    All-weaker (λ (xs : List Piece). length xs ≤ 268435456) (λ (xs : List Piece). length xs < 2 ^ 64) (λ xs h. omega arith) are.pieces
    (pieces_within 0 are.pieces 268435456 all)
