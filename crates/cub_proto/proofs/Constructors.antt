-- Each sort of a protocol has 1 to 64 constructors.
use Rattle.std.proofs.Common.{◌≡◌, ℕ, zero, suc, ◌<◌, ◌≤◌, true, List, [], ◌∷◌, length, Option, Some, None, refl, subst, arith}
use Rattle.std.specs.Prelude.{slice_get, ◌&&◌, nat_lt, nat_le, codes, bytes_eq}
use Rattle.std.specs.List.{list_all}
use Rattle.std.specs.Option.{option_map_or}
use Rattle.std.proofs.lemmas.Bool.{ltb-true, leb-true}
use Rattle.cub_base.specs.Name.{is_declarable}
use Rattle.cub_proto.specs.declared.literal.Sort.{Sort}
use Rattle.cub_proto.specs.declared.literal.Term.{Term}
use Rattle.cub_proto.specs.declared.protocol.SortDecl.{SortDecl}
use Rattle.cub_proto.specs.declared.protocol.Protocol.{Protocol}
use Rattle.cub_proto.specs.Signature.{sort_of, constructors_of, constructors_at}
use Rattle.cub_proto.specs.StateOf.{signature_of}
use Rattle.cub_proto.specs.Fits.{sort_decl_fits, constructors_are_false_true, is_bool, sorts_fit}
use Rattle.cub_base.proofs.Bools.{and_left, and_right}

-- from 1 to 64
pub record IsSize (n : ℕ) : Type 0 where
  pub some : 0 < n
  pub few : n ≤ 64

two_size : (cons : List (List ℕ)) → constructors_are_false_true cons ≡ true → IsSize (length cons)
two_size [] h = cc
two_size (c ∷ []) h = cc
two_size (c ∷ d ∷ []) h = record { some = omega arith; few = omega arith }
two_size (c ∷ d ∷ e ∷ ds) h = cc

decl_size : (d : SortDecl) → sort_decl_fits d ≡ true → IsSize (length d.cons)
decl_size d h =
    let named = is_declarable d.name in
    let some = nat_lt 0 (length d.cons) in
    let few = nat_le (length d.cons) 64 in
    let names = list_all is_declarable d.cons in
    let front = and_left (named && some && few) names h in
    record {
      some = ltb-true 0 (length d.cons) (and_right named some (and_left (named && some) few front));
      few = leb-true (length d.cons) 64 (and_right (named && some) few front);
    }

rest_size : (sorts : List SortDecl) (k : ℕ) (d : SortDecl) → list_all sort_decl_fits sorts ≡ true → slice_get sorts k ≡ Some d → IsSize (length d.cons)
rest_size [] k d h is = cc
rest_size (e ∷ es) zero d h is =
    let same : e ≡ d = cc in
    subst (λ x. IsSize (length x.cons)) same (decl_size e (and_left (sort_decl_fits e) (list_all sort_decl_fits es) h))
rest_size (e ∷ es) (suc k) d h is = rest_size es k d (and_right (sort_decl_fits e) (list_all sort_decl_fits es) h) is

sort_size : (sorts : List SortDecl) (k : ℕ) (d : SortDecl) → sorts_fit sorts ≡ true → slice_get sorts k ≡ Some d → IsSize (length d.cons)
sort_size [] k d h is = cc
sort_size (e ∷ es) zero d h is =
    let same : e ≡ d = cc in
    subst (λ x. IsSize (length x.cons)) same
    (two_size e.cons (and_right (bytes_eq e.name (codes "bool")) (constructors_are_false_true e.cons) (and_left (is_bool e) (list_all sort_decl_fits es) h)))
sort_size (e ∷ es) (suc k) d h is = rest_size es k d (and_right (is_bool e) (list_all sort_decl_fits es) h) is

module _ (p : Protocol) where
  -- the sort that is declared with a number
  pub declared_size : (k : ℕ) (d : SortDecl) → slice_get p.sorts k ≡ Some d → IsSize (length d.cons)
  declared_size k d is = sort_size p.sorts k d p.sorts_fit is

  few_of : (sort : Sort) → constructors_of (signature_of p) sort ≤ 64
  few_of (Sort.Fin k) = by (slice_get p.sorts k) refl
    where
      by : (o : Option SortDecl) → slice_get p.sorts k ≡ o → option_map_or (λ d. length d.cons) o 0 ≤ 64
      by None is = omega arith
      by (Some d) is = (declared_size k d is).few
  few_of Sort.Proc = omega arith
  few_of Sort.Int = omega arith

  -- a term has at most 64 constructors
  pub few_constructors : (t : Term) → constructors_at (signature_of p) t ≤ 64
  few_constructors t = by (sort_of (signature_of p) t)
    where
      by : (o : Option Sort) → option_map_or (constructors_of (signature_of p)) o 0 ≤ 64
      by None = omega arith
      by (Some sort) = few_of sort
