-- One line more of a list of lines.
use Rattle.std.proofs.Common.{◌≡◌, ℕ, suc, ◌+◌, ◌<◌, List, [], ◌∷◌, ◌++◌, length, get_or, take, refl, ap, sym, ◌∙◌, arith, append_assoc, append-nil, map, codes, is_some}
use Rattle.cub_base.specs.Numbered.{map_from}
use Rattle.cub_proto.specs.declared.protocol.Protocol.{Protocol}
use Rattle.cub_proto.specs.declared.state.Val.{Val}
use Rattle.text_lines.specs.Line.{ended, text_of}
use Rattle.std.proofs.lemmas.List.{length-take-le, take_more}
use Rattle.cub_proto.specs.declared.state.Slot.TheVariants as Slot
use Rattle.text_lines.specs.Spelling.{entry_text}
use Rattle.cub_proto.specs.declared.event.Trace.{Trace}
use Rattle.cub_proto.specs.Configuration.{process_count}
use Rattle.trace_text.specs.Text.{has_any, heading_text, version_text, count_text, global_lines, cell_lines, array_lines, start_lines, event_text, goal_text, plain_lines, trace_text}

pub text_append : (xs ys : List (List ℕ)) → text_of (xs ++ ys) ≡ text_of xs ++ text_of ys
text_append [] ys = refl
text_append (x ∷ xs) ys = ap (λ t. ended x ++ t) (text_append xs ys) ∙ sym (append_assoc (ended x) (text_of xs) (text_of ys))

pub map_from_push : {A B : Type 0} (f : ℕ → A → B) (n : ℕ) (xs : List A) (x : A) → map_from f n (xs ++ x ∷ []) ≡ map_from f n xs ++ f (n + length xs) x ∷ []
map_from_push f n [] x = let e : n ≡ n + 0 = omega arith in ap (λ m. f m x ∷ []) e
map_from_push f n (y ∷ ys) x =
    let e : (n + 1) + length ys ≡ n + suc (length ys) = omega arith in
    ap (λ t. f n y ∷ t) (map_from_push f (n + 1) ys x ∙ ap (λ m. map_from f (n + 1) ys ++ f m x ∷ []) e)

pub array_lines_push : (p : Protocol) (a : ℕ) (arrays : List (List Val)) (cells : List Val) → array_lines p a (arrays ++ cells ∷ []) ≡ array_lines p a arrays ++ cell_lines p (a + length arrays) cells
array_lines_push p a [] cells = let e : a ≡ a + 0 = omega arith in append-nil (cell_lines p a cells) ∙ ap (λ b. cell_lines p b cells) e
array_lines_push p a (x ∷ xs) cells =
    let e : (a + 1) + length xs ≡ a + suc (length xs) = omega arith in
    ap (λ t. cell_lines p a x ++ t) (array_lines_push p (a + 1) xs cells ∙ ap (λ b. array_lines p (a + 1) xs ++ cell_lines p b cells) e)
    ∙ sym (append_assoc (cell_lines p a x) (array_lines p (a + 1) xs) (cell_lines p (a + suc (length xs)) cells))

lines_taken : {A : Type 0} (f : ℕ → A → List ℕ) (xs : List A) (i : ℕ) (d : A) → i < length xs
    → text_of (map_from f 0 (take (i + 1) xs)) ≡ text_of (map_from f 0 (take i xs)) ++ ended (f i (get_or xs i d))
lines_taken f xs i d h =
    let own = length-take-le i xs (omega arith) in
    let len : 0 + length (take i xs) ≡ i = omega (arith, own) in
    ap (λ ys. text_of (map_from f 0 ys)) (take_more xs i d h) ∙ ap text_of (map_from_push f 0 (take i xs) (get_or xs i d))
    ∙ text_append (map_from f 0 (take i xs)) (f (0 + length (take i xs)) (get_or xs i d) ∷ [])
    ∙ ap (λ k. text_of (map_from f 0 (take i xs)) ++ (ended (f k (get_or xs i d)) ++ [])) len
    ∙ ap (λ t. text_of (map_from f 0 (take i xs)) ++ t) (append-nil (ended (f i (get_or xs i d))))

pub global_taken : (p : Protocol) (xs : List Val) (i : ℕ) (d : Val) → i < length xs
    → text_of (global_lines p (take (i + 1) xs)) ≡ text_of (global_lines p (take i xs)) ++ ended (entry_text p (Slot.Global i) (get_or xs i d))
global_taken p xs i d h = lines_taken (λ g v. entry_text p (Slot.Global g) v) xs i d h

pub cell_taken : (p : Protocol) (a : ℕ) (xs : List Val) (i : ℕ) (d : Val) → i < length xs
    → text_of (cell_lines p a (take (i + 1) xs)) ≡ text_of (cell_lines p a (take i xs)) ++ ended (entry_text p (Slot.Cell a i) (get_or xs i d))
cell_taken p a xs i d h = lines_taken (λ k v. entry_text p (Slot.Cell a k) v) xs i d h

pub array_taken : (p : Protocol) (xs : List (List Val)) (a : ℕ) → a < length xs
    → text_of (array_lines p 0 (take (a + 1) xs)) ≡ text_of (array_lines p 0 (take a xs)) ++ text_of (cell_lines p a (get_or xs a []))
array_taken p xs a h =
    let own = length-take-le a xs (omega arith) in
    let len : 0 + length (take a xs) ≡ a = omega (arith, own) in
    ap (λ ys. text_of (array_lines p 0 ys)) (take_more xs a [] h) ∙ ap text_of (array_lines_push p 0 (take a xs) (get_or xs a []))
    ∙ text_append (array_lines p 0 (take a xs)) (cell_lines p (0 + length (take a xs)) (get_or xs a []))
    ∙ ap (λ k. text_of (array_lines p 0 (take a xs)) ++ text_of (cell_lines p k (get_or xs a []))) len

-- what is pushed, at the end of all
pub pushed : (front text entry : List ℕ) → ((front ++ text) ++ entry) ++ 10 ∷ [] ≡ front ++ (text ++ ended entry)
pushed front text entry = append_assoc (front ++ text) entry (10 ∷ []) ∙ append_assoc front text (entry ++ 10 ∷ [])

-- the four parts of the text
pub whole : (p : Protocol) (t : Trace) (head starts events all : List ℕ)
    → head ≡ text_of (heading_text (is_some t.plain) ∷ version_text (has_any p) ∷ count_text (process_count t.start) ∷ [])
    → starts ≡ head ++ text_of (start_lines p t.start) → events ≡ starts ++ text_of (map (event_text p) t.events)
    → all ≡ events ++ text_of (goal_text t.goal t.places ∷ [] ++ plain_lines t.plain ++ codes "end" ∷ []) → all ≡ trace_text p t
whole p t head starts events all is_head is_starts is_events is_all =
    let h = heading_text (is_some t.plain) ∷ version_text (has_any p) ∷ count_text (process_count t.start) ∷ [] in
    let s = start_lines p t.start in
    let m = map (event_text p) t.events in
    let g = goal_text t.goal t.places ∷ [] in
    let q = plain_lines t.plain in
    let e = codes "end" ∷ [] in
    let tail = text_of (g ++ q ++ e) in
    let lines : (s ++ m) ++ (g ++ q ++ e) ≡ s ++ m ++ g ++ q ++ e =
    ap (λ xs. (s ++ m) ++ xs) (append_assoc g q e) ∙ sym (append_assoc (s ++ m) g (q ++ e)) ∙ sym (append_assoc (s ++ m ++ g) q e) in
    is_all ∙ ap (λ xs. xs ++ tail) (is_events ∙ ap (λ xs. xs ++ text_of m) (is_starts ∙ ap (λ xs. xs ++ text_of s) is_head))
    ∙ append_assoc (text_of h ++ text_of s) (text_of m) tail ∙ append_assoc (text_of h) (text_of s) (text_of m ++ tail)
    ∙ ap (λ xs. text_of h ++ xs) (sym (append_assoc (text_of s) (text_of m) tail))
    ∙ ap (λ xs. text_of h ++ (xs ++ tail)) (sym (text_append s m)) ∙ ap (λ xs. text_of h ++ xs) (sym (text_append (s ++ m) (g ++ q ++ e)))
    ∙ ap (λ xs. text_of h ++ text_of xs) lines ∙ sym (text_append h (s ++ m ++ g ++ q ++ e))
