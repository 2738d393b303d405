-- What the reading of some words tells of the words and of what is found in them.
use Rattle.std.proofs.Common.{◌≡◌, true, List, Ok, Err, Result, refl, sym, subst}
use Rattle.std.specs.Prelude.{is_ok}
use Rattle.clap.specs.Simple.{matches_of}
use Rattle.clap.specs.Takes.{takes}
use Rattle.clap.specs.Walk.{Row, Text}
use Rattle.cub_words.specs.declared.request.WordsFault.{WordsFault}
use Rattle.cub_words.specs.Reading.{Request, reading}
use Rattle.word_parser.specs.Line.{line}
use Rattle.word_parser.specs.Found.{IsFound}
use Rattle.word_parser.proofs.Accepted.{accepted}

-- words of which the reading makes something
pub record IsRead (words : List Text) (rows : List Row) : Type 0 where
  pub request : Request
  pub is : reading words ≡ Ok request
  pub found : IsFound rows request

pub read_ok : (words : List Text) (rows : List Row) → is_ok (reading words) ≡ true → rows ≡ matches_of line words → IsRead words rows
read_ok words rows ok rows_are = go (reading words) refl ok
  where
    go : (r : Result Request WordsFault) → reading words ≡ r → is_ok r ≡ true → IsRead words rows
    go (Ok request) is held =
        record { request = request; is = is; found = subst (λ (x : List Row). IsFound x request) (sym rows_are) (accepted words request is).found }
    go (Err e) is held = cc

pub taken_ok : (words : List Text) → is_ok (reading words) ≡ true → takes line words ≡ true
taken_ok words ok = go (reading words) refl ok
  where
    go : (r : Result Request WordsFault) → reading words ≡ r → is_ok r ≡ true → takes line words ≡ true
    go (Ok request) is held = (accepted words request is).taken
    go (Err e) is held = cc
