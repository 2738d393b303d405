-- Lines of added cubes: what a reading takes of them, and how it goes on through them.
use Rattle.std.proofs.Common.{◌≡◌, ℕ, zero, suc, ◌+◌, ◌^◌, ◌<◌, ◌≤◌, true, nat_lt, Bool, List, [], ◌∷◌, ◌++◌, length, length-append, Result, Ok, Option, Some, refl, sym, ap, subst, ◌∙◌, arith, inl, append_assoc, append-nil}
use Rattle.std.specs.Prelude.{All}
use Rattle.std.specs.List.{list_all}
use Rattle.cub_proto.specs.declared.protocol.Protocol.{Protocol}
use Rattle.cub_cube.specs.declared.cube.Cube.{Cube}
use Rattle.log_form.specs.declared.event.Added.{Added}
use Rattle.log_form.specs.declared.numbered.Numbered.{Numbered}
use Rattle.log_form.specs.Pieces.{PieceRelation}
use Rattle.log_form.specs.Log.{LogValue, cubes_of}
use Rattle.log_form.specs.Legal.{Treats}
use Rattle.log_form.proofs.FormFits.{fit_more}
use Rattle.std.proofs.lemmas.List.Elements.{All-nil, All-cons}
use Rattle.log_steps.specs.Admitted.{AddsSome}
use Rattle.log_steps.specs.Readable.{IsReadable}
use Rattle.text_lines.specs.Line.{line_at}
use Rattle.cube_text.specs.declared.fault.CubeFault.{CubeFault}
use Rattle.cube_text.specs.Text.{cube_text}
use Rattle.cube_text.specs.Reading.{reading, IsLawful}
use Rattle.cube_text.proofs.ReadBack.{read_back}
use Rattle.cube_text.proofs.OneSpelling.{read_lawful}
use Rattle.text_lines.specs.Loose.{behind_words}
use Rattle.journal_text.specs.Text.{item_text}
use Rattle.journal_text.specs.Told.{places_told, item_told}
use Rattle.journal_text.proofs.ToldLaws.{item_unique}
use Rattle.journal_text.proofs.FormLaws.{cube_part_is}
use Rattle.journal_text.specs.Form.{widest, cube_part}
use Rattle.journal_text.specs.Items.{IsItemLine, AreItemLines}
use Rattle.journal_text.specs.Place.{Adding, TakesItem, GoesOn}
use Rattle.journal_text.proofs.AddsLaws.{some_front, last_form, places_small}
use Rattle.journal_text.proofs.Steps.{goes_on, goes_itself, goes_through}

abbrev accepted : Cube → Result Cube CubeFault
accepted c = Ok c

same_cube : (c d : Cube) → accepted c ≡ accepted d → c ≡ d
same_cube c d h = cc

-- a cube that a reading takes is told by its line
pub item_line : (P : PieceRelation) (log : LogValue) (node : Option ℕ) (added : List Added) (line : List ℕ) (a : Added) → TakesItem P log node added line a → IsItemLine log.protocol node line a
item_line P log node added line a t =
    let form = last_form log.protocol (cubes_of log.nodes) t.list added a t.adds in
    let width = form.1.width in
    let narrow = t.lawful.narrow in
    record {
      text = t.text;
      lawful = t.lawful;
      early = t.early;
      count = form.1.onto.one_each ∙ sym width;
      small = places_small form.0.width a.places (omega (arith, width, narrow)) form.1.onto.within;
    }

-- a line tells one added cube
pub item_same : (p : Protocol) (node : Option ℕ) (line : List ℕ) (a b : Added) → IsItemLine p node line a → IsItemLine p node line b → a ≡ b
item_same p node line a b h k =
    let part : cube_text p a.cube ≡ cube_text p b.cube =
    sym (cube_part_is p a h.early h.small node) ∙ ap cube_part (sym h.text ∙ k.text) ∙ cube_part_is p b k.early k.small node in
    let read : accepted a.cube ≡ accepted b.cube =
    sym (read_back p widest a.cube (omega arith) h.lawful) ∙ ap (reading p widest) part ∙ read_back p widest b.cube (omega arith) k.lawful in
    let cubes : a.cube ≡ b.cube = same_cube a.cube b.cube read in
    sym (item_unique p node line a h) ∙ ap (λ c. item_told c line) cubes ∙ item_unique p node line b k

-- the lines of two lists one after another
pub lines_split : (p : Protocol) (node : Option ℕ) (xs ys : List Added) (text rest : List ℕ) → AreItemLines p node (xs ++ ys) text rest
    → (mid : List ℕ) × AreItemLines p node xs text mid × AreItemLines p node ys mid rest
lines_split p node [] ys text rest h = (text, refl, h)
lines_split p node (a ∷ xs) ys text rest (line, behind, at, t, h) =
    let later = lines_split p node xs ys behind rest h in
    (later.0, (line, behind, at, t, later.1), later.2)

pub lines_push : (p : Protocol) (node : Option ℕ) (xs : List Added) (a : Added) (text rest line behind : List ℕ) → AreItemLines p node xs text rest → line_at rest ≡ Some (line, behind) → IsItemLine p node line a
    → AreItemLines p node (xs ++ a ∷ []) text behind
lines_push p node [] a text rest line behind h at t = (line, behind, ap line_at h ∙ at, t, refl)
lines_push p node (x ∷ xs) a text rest line behind (l, b, there, s, h) at t = (l, b, there, s, lines_push p node xs a b rest line behind h at t)

-- their cubes may be read
readable : (p : Protocol) (c : Cube) → IsLawful p widest c → IsReadable p c
readable p c lawful =
    let fit = fit_more p widest 140000000000000 281474976710655 c (omega arith) (record { narrow = lawful.narrow; fits = lawful.fits; normal = lawful.normal; bounded = lawful.bounded }) in
    record { narrow = fit.narrow; fits = fit.fits; bounded = fit.bounded }

pub lines_readable : (p : Protocol) (node : Option ℕ) (xs : List Added) (text rest : List ℕ) → AreItemLines p node xs text rest → All (λ a. IsReadable p a.cube) xs
lines_readable p node [] text rest h = All-nil (λ (a : Added). IsReadable p a.cube)
lines_readable p node (a ∷ xs) text rest (line, behind, at, t, h) =
    All-cons (λ (b : Added). IsReadable p b.cube) a xs (readable p a.cube t.lawful) (lines_readable p node xs behind rest h)

-- through lines whose cubes may be added
module _ (P : PieceRelation) (log : LogValue) (full : Bool) (node : Option ℕ) (list : List Numbered) (treats : Treats P log node list) where
  pub go_items : (items done : List Added) (n : ℕ) (text rest : List ℕ) → AreItemLines log.protocol node items text rest
      → AddsSome log.protocol (cubes_of log.nodes) list (done ++ items) → length log.nodes + length (done ++ items) ≤ log.budget.cubes
      → GoesOn P log.protocol (Adding full log node (done ++ items)) (n + length items) rest (Adding full log node done) n text
  go_items [] done n text rest h adds room =
      let same : done ++ [] ≡ done = append-nil done in
      let here : n + 0 ≡ n = omega arith in
      subst (λ (xs : List Added). GoesOn P log.protocol (Adding full log node xs) (n + 0) rest (Adding full log node done) n text) (sym same)
      (subst (λ (m : ℕ). GoesOn P log.protocol (Adding full log node done) m rest (Adding full log node done) n text) (sym here)
      (subst (λ (t : List ℕ). GoesOn P log.protocol (Adding full log node done) n t (Adding full log node done) n text) h (goes_itself P log.protocol (Adding full log node done) n text)))
  go_items (a ∷ items) done n text rest (line, behind, at, t, h) adds room =
      let whole : (done ++ a ∷ []) ++ items ≡ done ++ a ∷ items = append_assoc done (a ∷ []) items in
      let adds' : AddsSome log.protocol (cubes_of log.nodes) list ((done ++ a ∷ []) ++ items) = subst (AddsSome log.protocol (cubes_of log.nodes) list) (sym whole) adds in
      let taken : TakesItem P log node done line a = record {
        text = t.text;
        lawful = t.lawful;
        early = t.early;
        list = list;
        treats = treats;
        adds = some_front log.protocol (cubes_of log.nodes) list (done ++ a ∷ []) items adds';
        room = omega (arith, room, ap length whole, length-append (done ++ a ∷ []) items);
      } in
      let first : GoesOn P log.protocol (Adding full log node (done ++ a ∷ [])) (n + 1) behind (Adding full log node done) n text =
      goes_on P log.protocol (Adding full log node done) n text line behind (Adding full log node (done ++ a ∷ [])) at (inl (a, taken, refl)) in
      let later = go_items items (done ++ a ∷ []) (n + 1) behind rest h adds' (omega (arith, room, ap length whole)) in
      let count : n + 1 + length items ≡ n + length (a ∷ items) = omega arith in
      subst (λ (xs : List Added). GoesOn P log.protocol (Adding full log node xs) (n + length (a ∷ items)) rest (Adding full log node done) n text) whole
      (subst (λ (m : ℕ). GoesOn P log.protocol (Adding full log node ((done ++ a ∷ []) ++ items)) m rest (Adding full log node done) n text) count
      (goes_through P log.protocol (Adding full log node ((done ++ a ∷ []) ++ items)) (n + 1 + length items) rest (Adding full log node (done ++ a ∷ [])) (n + 1) behind (Adding full log node done) n text later first))

-- what stands behind the brackets reads as the cube
pub item_cube : (p : Protocol) (node : Option ℕ) (line : List ℕ) (a : Added) → IsItemLine p node line a → reading p widest (cube_part line) ≡ Ok a.cube
item_cube p node line a t =
    ap (λ l. reading p widest (cube_part l)) t.text ∙ ap (reading p widest) (cube_part_is p a t.early t.small node) ∙ read_back p widest a.cube (omega arith) t.lawful

-- what the line tells is the one cube that it can be the line of
pub told_same : (p : Protocol) (node : Option ℕ) (line : List ℕ) (c : Cube) (told a : Added) → reading p widest (cube_part line) ≡ Ok c → told ≡ item_told c line → IsItemLine p node line a → told ≡ a
told_same p node line c told a read is t =
    let cubes : c ≡ a.cube = same_cube c a.cube (sym read ∙ item_cube p node line a t) in
    is ∙ ap (λ d. item_told d line) cubes ∙ item_unique p node line a t

-- as many places as the cube has
told_length : (n : ℕ) (t : List ℕ) → length (places_told n t) ≡ n
told_length zero t = refl
told_length (suc n) t = ap suc (told_length n _)

-- and the line is that of what it tells, where it is so written
pub told_line : (p : Protocol) (node : Option ℕ) (line : List ℕ) (c : Cube) (told : Added) → reading p widest (cube_part line) ≡ Ok c → told ≡ item_told c line → told.piece < 2 ^ 64
    → list_all (λ i. nat_lt i 11) told.places ≡ true → item_text p node told ≡ line → IsItemLine p node line told
told_line p node line c told read is early small written =
    let lawful : IsLawful p widest told.cube = subst (λ (a : Added). IsLawful p widest a.cube) (sym is) (read_lawful p widest (cube_part line) c read) in
    let count : length told.places ≡ told.cube.width = subst (λ (a : Added). length a.places ≡ a.cube.width) (sym is) (told_length c.width (behind_words 2 line)) in
    record { text = sym written; lawful = lawful; early = early; count = count; small = small }
