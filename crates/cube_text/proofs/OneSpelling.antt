-- What reads as a cube is its text, and fits.
use Rattle.std.proofs.Common.{◌≡◌, ℕ, ◌≤◌, Bool, true, false, cond, nat_le, List, [], ◌∷◌, ◌++◌, Option, Some, None, Result, Ok, Err, refl, ap, sym, subst, ◌∙◌, bytes_eq}
use Rattle.std.specs.Prelude.{◌&&◌, option_and_then, option_map, if◌then◌else◌}
use Rattle.std.specs.List.{list_all}
use Rattle.std.proofs.lemmas.Bool.{and_parts, and_from, leb-true}
use Rattle.std.proofs.lemmas.List.Folds.{list_all-append}
use Rattle.std.proofs.lemmas.Slice.Eq.{bytes_eq-Decides}
use Rattle.cub_proto.specs.declared.literal.Lit.{Lit}
use Rattle.cub_proto.specs.declared.protocol.Protocol.{Protocol}
use Rattle.cub_proto.specs.StateOf.{signature_of}
use Rattle.cub_proto.specs.Fits.{literal_fits, is_bounded}
use Rattle.cub_cube.specs.declared.cube.Cube.{Cube}
use Rattle.cub_cube.specs.Normal.{is_normal}
use Rattle.text_lines.specs.Number.{natural_of}
use Rattle.cube_text.specs.declared.fault.CubeFault.{CubeFault}
use Rattle.cube_text.specs.declared.fault.CubeFault.TheVariants.{Form, Unknown, Order}
use Rattle.cube_text.specs.Text.{cube_text}
use Rattle.cube_text.specs.Form.{parted, words_of, is_and, before, has_form, is_true_word}
use Rattle.cube_text.specs.Meaning.{greatest_bound, literal_in, literals_from, literals_in, width_in, cube_of_width, cube_in}
use Rattle.cube_text.specs.Reading.{IsLawful, spelled, reading}
use Rattle.cube_text.proofs.Lawful.{no_some, some_same, literal_lawful, IsLawfulLit}

record IsRead (p : Protocol) (widest : ℕ) (text : List ℕ) (c : Cube) : Type 0 where
  named : cube_in p widest (words_of text) ≡ Some c
  normal : is_normal (signature_of p) c.lits ≡ true
  spelling : cube_text p c ≡ text

abbrev accepted : Cube → Result Cube CubeFault
accepted c = Ok c

abbrev refused : CubeFault → Result Cube CubeFault
refused f = Err f

ok_same : (c d : Cube) → accepted c ≡ accepted d → c ≡ d
ok_same c d h = cc

ok_err : {ℓ : Type 0} (c : Cube) (f : CubeFault) → refused f ≡ accepted c → ℓ
ok_err c f h = absurd (let e : refused f ≡ accepted c = h in cc)

module _ (p : Protocol) (widest : ℕ) (text : List ℕ) (c : Cube) where
  spelled_is : (o : Option Cube) → cube_in p widest (words_of text) ≡ o → spelled p text o ≡ Ok c → IsRead p widest text c
  spelled_is None is h = ok_err c Unknown h
  spelled_is (Some d) is h = by (is_normal (signature_of p) d.lits && bytes_eq (cube_text p d) text) refl h
    where
      by : (b : Bool) → (is_normal (signature_of p) d.lits && bytes_eq (cube_text p d) text) ≡ b → cond b (Ok d) (Err Order) ≡ Ok c → IsRead p widest text c
      by true test h =
          let parts = and_parts (is_normal (signature_of p) d.lits) (bytes_eq (cube_text p d) text) test in
          let same = ok_same d c h in
          record {
            named = is ∙ ap Some same;
            normal = subst (λ x. is_normal (signature_of p) x.lits ≡ true) same parts.0;
            spelling = subst (λ x. cube_text p x ≡ text) same ((bytes_eq-Decides (cube_text p d) text).0 parts.1);
          }
      by false test h = ok_err c Order h

  read_is : reading p widest text ≡ Ok c → IsRead p widest text c
  read_is h = by (has_form text) h
    where
      by : (b : Bool) → cond b (spelled p text (cube_in p widest (words_of text))) (Err Form) ≡ Ok c → IsRead p widest text c
      by true h = spelled_is (cube_in p widest (words_of text)) refl h
      by false h = ok_err c Form h

-- all literals fit, with bounds within the limit
record AreLawfulLits (p : Protocol) (width : ℕ) (lits : List Lit) : Type 0 where
  fit : list_all (literal_fits (signature_of p) width) lits ≡ true
  bounded : list_all (is_bounded greatest_bound) lits ≡ true

test_more : (test : Lit → Bool) (lits : List Lit) (l : Lit) → list_all test lits ≡ true → test l ≡ true → list_all test (lits ++ l ∷ []) ≡ true
test_more test lits l h k = list_all-append test lits (l ∷ []) ∙ and_from (list_all test lits) (test l && true) h (and_from (test l) true k refl)

module _ (p : Protocol) (width : ℕ) where
  lits_more : (lits : List Lit) (l : Lit) → AreLawfulLits p width lits → IsLawfulLit p width l → AreLawfulLits p width (lits ++ l ∷ [])
  lits_more lits l h k = record {
    fit = test_more (literal_fits (signature_of p) width) lits l h.fit k.0;
    bounded = test_more (is_bounded greatest_bound) lits l h.bounded k.1;
  }

  lits_lawful : (lits : List Lit) (groups : List (List (List ℕ))) (all : List Lit) → AreLawfulLits p width lits → literals_from p width lits groups ≡ Some all → AreLawfulLits p width all
  lits_lawful lits [] all lawful h = subst (AreLawfulLits p width) (some_same lits all h) lawful
  lits_lawful lits (group ∷ groups) all lawful h = by (literal_in p width group) refl h (λ l is. lits_lawful (lits ++ l ∷ []) groups all (lits_more lits l lawful (literal_lawful p width group l is)))
    where
      by : (o : Option Lit) → literal_in p width group ≡ o → option_and_then (λ l. literals_from p width (lits ++ l ∷ []) groups) o ≡ Some all
          → ((l : Lit) → literal_in p width group ≡ Some l → literals_from p width (lits ++ l ∷ []) groups ≡ Some all → AreLawfulLits p width all) → AreLawfulLits p width all
      by None is h later = no_some all h
      by (Some l) is h later = later l is h

  words_lawful : (words : List (List ℕ)) (all : List Lit) → literals_in p width words ≡ Some all → AreLawfulLits p width all
  words_lawful words all h = by (is_true_word words) h
    where
      by : (b : Bool) → cond b (Some []) (literals_from p width [] (parted is_and words)) ≡ Some all → AreLawfulLits p width all
      by true h = subst (AreLawfulLits p width) (some_same [] all h) (record { fit = refl; bounded = refl })
      by false h = lits_lawful [] (parted is_and words) all (record { fit = refl; bounded = refl }) h

record IsNarrow (p : Protocol) (widest : ℕ) (c : Cube) : Type 0 where
  narrow : c.width ≤ widest
  lits : AreLawfulLits p c.width c.lits

width_small : (widest : ℕ) (word : List ℕ) (w : ℕ) → width_in widest word ≡ Some w → w ≤ widest
width_small widest word w h = by (natural_of (before 58 word)) h
  where
    by : (o : Option ℕ) → option_and_then (λ n. if nat_le n widest then Some n else None) o ≡ Some w → w ≤ widest
    by None h = no_some w h
    by (Some n) h = test (nat_le n widest) refl h
      where
        test : (b : Bool) → nat_le n widest ≡ b → cond b (Some n) None ≡ Some w → w ≤ widest
        test true is h = subst (λ k. k ≤ widest) (some_same n w h) (leb-true n widest is)
        test false is h = no_some w h

cube_lawful : (p : Protocol) (widest : ℕ) (words : List (List ℕ)) (c : Cube) → cube_in p widest words ≡ Some c → IsNarrow p widest c
cube_lawful p widest [] c h = no_some c h
cube_lawful p widest (x ∷ []) c h = no_some c h
cube_lawful p widest (x ∷ width ∷ words) c h = by (width_in widest width) refl h
  where
    of_lits : (w : ℕ) → w ≤ widest → (o : Option (List Lit)) → literals_in p w words ≡ o → option_map (λ lits. record { width = w; lits = lits }) o ≡ Some c → IsNarrow p widest c
    of_lits w small None is h = no_some c h
    of_lits w small (Some lits) is h =
        subst (IsNarrow p widest) (some_same (record { width = w; lits = lits }) c h) (record { narrow = small; lits = words_lawful p w words lits is })

    by : (o : Option ℕ) → width_in widest width ≡ o → option_and_then (cube_of_width p words) o ≡ Some c → IsNarrow p widest c
    by None is h = no_some c h
    by (Some w) is h = of_lits w (width_small widest width w is) (literals_in p w words) refl h

pub one_spelling : (p : Protocol) (widest : ℕ) (text : List ℕ) (c : Cube) → reading p widest text ≡ Ok c → text ≡ cube_text p c
one_spelling p widest text c h = sym (read_is p widest text c h).spelling

pub read_lawful : (p : Protocol) (widest : ℕ) (text : List ℕ) (c : Cube) → reading p widest text ≡ Ok c → IsLawful p widest c
read_lawful p widest text c h =
    let r = read_is p widest text c h in
    let n = cube_lawful p widest (words_of text) c r.named in
    record { narrow = n.narrow; fits = n.lits.fit; bounded = n.lits.bounded; normal = r.normal }
