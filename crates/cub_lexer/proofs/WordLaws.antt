-- A word is a name exactly where it is no reserved word and not the underscore alone.
use Rattle.std.specs.Prelude.{◌≡◌, ◌≢◌, ◌↔◌, ℕ, Bool, true, false, ◌&&◌, ◌||◌, not, if◌then◌else◌, List, [], ◌∷◌, IsTrue, bytes_eq, codes, refl}
use Rattle.cub_base.specs.Name.{is_reserved}
use Rattle.cub_lexer.specs.Lexeme.{word_kind}
use Rattle.cub_lexer.specs.declared.token.TokenKind.{TokenKind}
use Rattle.cub_lexer.specs.declared.token.TokenKind.TheVariants.{Name, TypeWord, VarWord, ArrayWord, InitWord, UnsafeWord, InvariantWord, TransitionWord, RequiresWord, ForallOtherWord, CaseWord, NotWord, ProcWord, BoolWord, IntWord, Underscore}

-- a chain of tests, each with the kind where it is the first that is true, and the kind behind all
abbrev kind_in : List (Bool × TokenKind) → TokenKind → TokenKind
kind_in [] kind = kind
kind_in (test ∷ tests) kind = if test.0 then test.1 else kind_in tests kind

-- whether one is true, from the left
abbrev any_in : Bool → List (Bool × TokenKind) → Bool
any_in found [] = found
any_in found (test ∷ tests) = any_in (found || test.0) tests

abbrev AreNoNames : List (Bool × TokenKind) → Type 0
AreNoNames [] = Unit {0}
AreNoNames (test ∷ tests) = (test.1 ≢ Name) × AreNoNames tests

stays : (tests : List (Bool × TokenKind)) → any_in true tests ≡ true
stays [] = refl
stays (test ∷ tests) = stays tests

chain : (tests : List (Bool × TokenKind)) (alone : Bool) → AreNoNames tests
    → (kind_in tests (if alone then Underscore else Name) ≡ Name) ↔ IsTrue (not (any_in false tests) && not alone)
chain [] true others = (λ e. absurd cc, λ e. absurd cc)
chain [] false others = (λ e. refl, λ e. refl)
chain ((true, kind) ∷ tests) alone others =
    let found : any_in true tests ≡ true = stays tests in
    (λ e. absurd (others.0 e), λ e. absurd cc)
chain ((false, kind) ∷ tests) alone others = chain tests alone others.1

abbrev tests_of : List ℕ → List (Bool × TokenKind)
tests_of w =
    (bytes_eq w (codes "type"), TypeWord) ∷
    (bytes_eq w (codes "var"), VarWord) ∷
    (bytes_eq w (codes "array"), ArrayWord) ∷
    (bytes_eq w (codes "init"), InitWord) ∷
    (bytes_eq w (codes "unsafe"), UnsafeWord) ∷
    (bytes_eq w (codes "invariant"), InvariantWord) ∷
    (bytes_eq w (codes "transition"), TransitionWord) ∷
    (bytes_eq w (codes "requires"), RequiresWord) ∷
    (bytes_eq w (codes "forall_other"), ForallOtherWord) ∷
    (bytes_eq w (codes "case"), CaseWord) ∷
    (bytes_eq w (codes "not"), NotWord) ∷
    (bytes_eq w (codes "proc"), ProcWord) ∷
    (bytes_eq w (codes "bool"), BoolWord) ∷
    (bytes_eq w (codes "int"), IntWord) ∷ []

no_names : (w : List ℕ) → AreNoNames (tests_of w)
no_names w = ((λ e. cc), ((λ e. cc), ((λ e. cc), ((λ e. cc), ((λ e. cc), ((λ e. cc), ((λ e. cc), ((λ e. cc), ((λ e. cc), ((λ e. cc), ((λ e. cc), ((λ e. cc), ((λ e. cc), ((λ e. cc), tt))))))))))))))

pub reserved : (w : List ℕ) → (word_kind w ≡ Name) ↔ IsTrue (not (is_reserved w) && not (bytes_eq w (codes "_")))
unfolding word_kind
reserved w = chain (tests_of w) (bytes_eq w (codes "_")) (no_names w)
