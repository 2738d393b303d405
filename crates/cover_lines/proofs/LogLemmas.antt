-- What a log with the verdict SAFE gives for its lines.
use Rattle.std.proofs.Common.{take, ◌-◌, ◌≡◌, ℕ, ◌+◌, ◌<◌, ◌≤◌, ◌^◌, List, length, refl, sym, ap, subst, arith, All}
use Rattle.std.specs.Prelude.{Some, None, Contains, slice_get}
use Rattle.std.specs.List.{AllZip}
use Rattle.std.proofs.lemmas.List.{get_or_default, length-take-le}
use Rattle.cub_base.proofs.Members.{has_Contains, contains_Has, has_all, all_has, has_map}
use Rattle.cub_proto.specs.declared.cover.CoverLine.{CoverLine}
use Rattle.cub_proto.specs.declared.protocol.Goal.{Goal}
use Rattle.cub_proto.specs.declared.protocol.Protocol.{Protocol}
use Rattle.cub_cube.specs.declared.cube.Cube.{Cube}
use Rattle.cub_cube.specs.Goals.{goal_cube}
use Rattle.theory_laws.specs.Fitting.{AreFitting}
use Rattle.cub_cube.proofs.KeptLemmas.{kept_from}
use Rattle.piece_choices.specs.declared.piece.Piece.{Piece}
use Rattle.piece_choices.specs.Pieces.{candidates, IsPossible, ArePieces}
use Rattle.piece_choices.proofs.Widths.{piece_wide}
use Rattle.piece_laws.specs.Test.{PassesTest}
use Rattle.pieces.specs.Jobs as jobs
use Rattle.predecessors.specs.Predecessors.{cubes_of, ArePieceCubes}
use Rattle.predecessors.specs.Facts.{are_possible, stay_fit}
use Rattle.log_form.specs.Links.{cube_at, no_cube}
use Rattle.log_form.specs.Pieces.{PieceRelation, IsAskable, IsExpandable, widest, greatest_expanded, greatest_asked, step_bound}
use Rattle.log_form.proofs.FormFits.{fit_more}
use Rattle.log_form.specs.Depth.{bound_at}
use Rattle.log_form.proofs.Depths.{askable_at, goal_fit}
use Rattle.log_form.proofs.Weave.{legal_woven}
use Rattle.log_form.specs.declared.node.Node.{Node}
use Rattle.log_form.specs.declared.verdicts.LogVerdict.TheVariants.{Safe}
use Rattle.log_form.specs.Log.{LogValue, no_node, node_at, live_cubes}
use Rattle.log_form.specs.Legal.{IsLegalLog}
use Rattle.log_form.specs.Verdict.{verdict_of}
use Rattle.core_laws.proofs.LiveLemmas.{live_length, live_expandable}
use Rattle.cert_text.specs.Lawful.{IsLawfulCertificate}
use Rattle.cover_lines.specs.Lines.{AreCoverLines}
use Rattle.cover_lines.specs.Added.{MayCover, AreGoalsCovered}
use Rattle.cover_lines.proofs.ZipLemmas.{zip_get_left, get_has}
use Rattle.cover_lines.proofs.ObligationLemmas.{goal_possible}
use Rattle.cover_lines.proofs.LawfulLemmas.{lawful_lines}

pub as_job : (p : Protocol) (c : Cube) → IsExpandable p c → jobs.IsExpandable p c
as_job p c fit = record { narrow = fit.narrow; fits = fit.fits; bounded = fit.bounded }

pub goals_covered : (p : Protocol) (cubes : List Cube) → PassesTest p cubes → AreGoalsCovered p cubes
goals_covered p cubes passes g inside possible = passes.goals g inside (goal_possible p g inside possible)

-- each piece of a cube may be asked about, and is covered
pub pieces_may : (p : Protocol) (cubes : List Cube) (of : ℕ) (list : List Piece) → of < length cubes → All (IsExpandable p) cubes → PassesTest p cubes → ArePieces p (cube_at cubes of) list
    → All (λ x. MayCover p cubes x.cube) list
pieces_may p cubes of list below fit passes are = has_all (λ (x : Piece). MayCover p cubes x.cube) list (λ x h.
    let c = cube_at cubes of in
    let inside = has_Contains list x h in
    let kept = kept_from (IsPossible p) (candidates p c) list x are inside in
    let among : Contains (cubes_of list) x.cube = has_Contains (cubes_of list) x.cube (has_map (λ (y : Piece). y.cube) list x h) in
    record {
      fit = fit_more p widest (greatest_expanded + step_bound) greatest_asked x.cube (omega arith) (stay_fit p greatest_expanded c (cubes_of list) x.cube (omega arith) (fit of no_cube below) (list, are, refl) among);
      covered = passes.pieces c (of, below, get_or_default cubes of (cube_at cubes of) no_cube below) x kept.0 kept.1;
    })

-- no piece is wider than eleven places
pieces_narrow : (p : Protocol) (cubes : List Cube) (pieces : List (List Piece)) → All (IsExpandable p) cubes → AllZip (ArePieces p) cubes pieces
    → (k : ℕ) (xs : List Piece) (n : ℕ) (x : Piece) → slice_get pieces k ≡ Some xs → slice_get xs n ≡ Some x → x.cube.width ≤ 11
pieces_narrow p cubes pieces fit are k xs n x its at =
    let (c, its_cube, list) = zip_get_left (ArePieces p) cubes pieces k xs are its in
    let kept = kept_from (IsPossible p) (candidates p c) xs x list (has_Contains xs x (get_has xs n x at)) in
    let good : IsExpandable p c = all_has (IsExpandable p) cubes c fit (get_has cubes k c its_cube) in
    let narrow = good.narrow in
    let wide = piece_wide p c x good.fits (contains_Has (candidates p c) x kept.0) in
    omega (arith, wide.1)

pub lawful_certificate : (p : Protocol) (cubes : List Cube) (lines : List CoverLine) → length cubes < 2 ^ 32 → All (IsExpandable p) cubes
    → (cover : AreCoverLines p cubes lines) → All (λ xs. length xs < 2 ^ 64) cover.pieces → IsLawfulCertificate p cubes (Some lines)
lawful_certificate p cubes lines few fit cover short = record {
  few = few;
  fit = λ k d below. let good = fit k d below in record { narrow = good.narrow; fits = good.fits; bounded = good.bounded; normal = good.normal };
  covers = lawful_lines p cubes lines cover short (pieces_narrow p cubes cover.pieces fit cover.are_pieces);
}

-- ---- what the log gives
pub log_few : (P : PieceRelation) (log : LogValue) → IsLegalLog P log → length log.nodes < 2 ^ 32
log_few P log legal =
    let woven = legal_woven P log legal in
    let few = woven.few in
    let most = log.budget.few_cubes in omega arith

pub live_count : (P : PieceRelation) (log : LogValue) → IsLegalLog P log → length (live_cubes log.nodes) < 2 ^ 32
live_count P log legal = let few = log_few P log legal in let less = live_length log.nodes in omega arith

pub nodes_askable : (log : LogValue) → IsLegalLog ArePieceCubes log → All (λ n. IsAskable log.protocol n.cube) log.nodes
nodes_askable log legal i d below =
    subst (λ (n : Node). IsAskable log.protocol n.cube) (get_or_default log.nodes i no_node d below)
    (fit_more log.protocol widest greatest_expanded greatest_asked (node_at log.nodes i).cube (omega arith)
    (askable_at ArePieceCubes are_possible stay_fit log (legal_woven ArePieceCubes log legal) i below))

pub safe_expandable : (log : LogValue) → IsLegalLog ArePieceCubes log → verdict_of log ≡ Some Safe → All (IsExpandable log.protocol) (live_cubes log.nodes)
safe_expandable log legal says = live_expandable ArePieceCubes are_possible stay_fit log legal says

pub safe_lawful : (log : LogValue) → IsLegalLog ArePieceCubes log → verdict_of log ≡ Some Safe → IsLawfulCertificate log.protocol (live_cubes log.nodes) None
safe_lawful log legal says = record {
  few = live_count ArePieceCubes log legal;
  fit = λ k d below. let good = safe_expandable log legal says k d below in record { narrow = good.narrow; fits = good.fits; bounded = good.bounded; normal = good.normal };
  covers = refl;
}

pub room_left : (nodes : List Node) (list : List Cube) (i : ℕ) → i < length nodes → length nodes < 2 ^ 32 → list ≡ live_cubes (take i nodes) → length list < 2 ^ 32 - 1
room_left nodes list i below few is =
    let less = live_length (take i nodes) in
    let taken : length (take i nodes) ≡ i = length-take-le i nodes (omega arith) in
    let same : length list ≡ length (live_cubes (take i nodes)) = ap length is in
    omega arith

-- ---- a goal as a cube
pub goal_askable : (p : Protocol) (n : ℕ) (g : Goal) (c : Cube) → slice_get p.goals n ≡ Some g → c ≡ goal_cube p g → IsAskable p c
goal_askable p n g c its same =
    subst (IsAskable p) (sym same) (fit_more p widest (bound_at 0) greatest_asked (goal_cube p g) (omega arith) (goal_fit p g (has_Contains p.goals g (get_has p.goals n g its))))

pub askable_fitting : (p : Protocol) (c : Cube) → IsAskable p c → AreFitting p c.width c.lits
askable_fitting p c fit = record { narrow = fit.narrow; fit = fit.fits; bounded = fit.bounded }
