-- Files with distinct names, and one more.
use Rattle.std.proofs.Common.{◌≡◌, ℕ, true, false, ◌||◌, List, [], ◌∷◌, ◌++◌, refl, arith}
use Rattle.std.specs.Prelude.{bytes_eq}
use Rattle.std.proofs.lemmas.Bool.Decides.{nat_tests}
use Rattle.io_edge.specs.declared.files.File.{File}
use Rattle.io_edge.specs.Files.{has_file, are_distinct}

pub bytes_eq-comm : (xs ys : List ℕ) → bytes_eq xs ys ≡ bytes_eq ys xs
bytes_eq-comm [] [] = refl
bytes_eq-comm [] (y ∷ ys) = refl
bytes_eq-comm (x ∷ xs) [] = refl
bytes_eq-comm (x ∷ xs) (y ∷ ys) = let rest = bytes_eq-comm xs ys in grind (arith, nat_tests)

-- a file that is not among several files is none of them, and not among the rest
pub has_file-append : (files : List File) (file : File) (name : List ℕ) →
    has_file (files ++ file ∷ []) name ≡ (has_file files name || bytes_eq file.name name)
has_file-append [] file name = grind arith
has_file-append (first ∷ files) file name = let rest = has_file-append files file name in grind arith

pub distinct_more : (files : List File) (file : File) →
    has_file files file.name ≡ false → are_distinct files ≡ true → are_distinct (files ++ file ∷ []) ≡ true
distinct_more [] file new distinct = refl
distinct_more (first ∷ files) file new distinct =
    let rest = distinct_more files file in
    let tail = has_file-append files file first.name in
    let other = bytes_eq-comm file.name first.name in
    grind arith
