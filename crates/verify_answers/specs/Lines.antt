-- The lines that are answered to the text of a certificate.
use Rattle.std.specs.Prelude.{ℕ, ◌+◌, List, [], ◌++◌, length, codes}
use Rattle.std.specs.Fmt.{decimal}
use Rattle.cub_cube.specs.declared.cube.Cube.{Cube}
use Rattle.cert_check.specs.declared.refused.Refused.{Refused}
use Rattle.cert_check.specs.declared.refused.Refused.TheVariants.{Start, Unsafe, Piece, Extra, Memory}

-- faults of the text: 0 is a text above its limit, 1 to 8 are faulty lines
abbrev pub cert_code : ℕ → List ℕ
cert_code kind = codes "C" ++ decimal kind

-- the obligation that fails, or the line that is about none; numbers count from 1
abbrev pub refused_words : Refused → List ℕ
refused_words (Start k) = codes "start " ++ decimal (k + 1)
refused_words (Unsafe n) = codes "unsafe " ++ decimal (n + 1)
refused_words (Piece k n) = codes "piece " ++ decimal (n + 1) ++ codes " of cube " ++ decimal (k + 1)
refused_words (Extra l) = codes "extra " ++ decimal (l + 1)
refused_words Memory = []

abbrev pub refused_line : Refused → List ℕ
refused_line refused = codes "REFUSED " ++ refused_words refused ++ codes "\n"

-- an accepted certificate: how many cubes it has
abbrev pub accepted_line : List Cube → List ℕ
accepted_line cubes = codes "ACCEPTED cubes " ++ decimal (length cubes) ++ codes "\n"
