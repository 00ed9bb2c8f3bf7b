-- Bytes that are put into a page, piece after piece.
use Rattle.std.proofs.Common.{◌≡◌, ℕ, ◌+◌, ◌<◌, ◌≤◌, cond, List, [], ◌∷◌, ◌++◌, length, get_or, take, drop, set, sym, refl, ap, ◌∙◌, subst, append_assoc, add-zero, zero-add, arith, length-append}
use Rattle.std.specs.List.{flat_map}
use Rattle.std.proofs.lemmas.Bool.{lt-ltb}
use Rattle.std.proofs.lemmas.List.{set_at, take_more, take_all, flat_map_more}
use Rattle.tables.specs.declared.page.Page.{Page}
use Rattle.tables.specs.Pages.{Filling, with_byte, with_bytes, filling, Put}
use Rattle.tables.specs.Writes.{Wrote}

-- one piece after another
with_bytes_append : (f : Filling) (xs ys : List ℕ) → with_bytes f (xs ++ ys) ≡ with_bytes (with_bytes f xs) ys
with_bytes_append f [] ys = refl
with_bytes_append f (x ∷ xs) ys = with_bytes_append (with_byte f x) xs ys

-- a byte that has a place
with_byte_there : (buffer : List ℕ) (at b : ℕ) → at < length buffer → with_byte (buffer, at) b ≡ (set buffer at b, at + 1)
with_byte_there buffer at b h = ap (λ t. cond t (set buffer at b, at + 1) (buffer, at)) (lt-ltb at (length buffer) h)

-- what fits goes after the front, and leaves what is past it
filled_after : (front under : List ℕ) (at : ℕ) (xs : List ℕ) → length front ≡ at → length xs ≤ length under → with_bytes (front ++ under, at) xs ≡ (front ++ (xs ++ drop (length xs) under), at + length xs)
filled_after front under at [] e h = ap (λ k. (front ++ under, k)) (sym (add-zero at))
filled_after front [] at (x ∷ xs) e h = absurd (omega arith)
filled_after front (y ∷ ys) at (x ∷ xs) e h =
    let here : at < length (front ++ (y ∷ ys)) = simp length-append (omega arith) in
    let longer : length (front ++ (x ∷ [])) ≡ at + 1 = simp length-append (omega arith) in
    let next : at + 1 + length xs ≡ at + length (x ∷ xs) = omega arith in
    ap (λ f. with_bytes f xs) (with_byte_there (front ++ (y ∷ ys)) at x here ∙ ap (λ l. (l, at + 1)) (set_at front y ys x at e ∙ sym (append_assoc front (x ∷ []) ys)))
    ∙ filled_after (front ++ (x ∷ [])) ys (at + 1) xs longer (omega arith)
    ∙ ap (λ l. (l, at + 1 + length xs)) (append_assoc front (x ∷ []) (xs ++ drop (length xs) ys))
    ∙ ap (λ k. (front ++ (x ∷ (xs ++ drop (length xs) ys)), k)) next

-- a text that fits stands at the front of an empty page
pub filled_front : (buffer text : List ℕ) → length text ≤ length buffer → with_bytes (buffer, 0) text ≡ (text ++ drop (length text) buffer, length text)
filled_front buffer text h = filled_after [] buffer 0 text refl h ∙ ap (λ k. (text ++ drop (length text) buffer, k)) (zero-add (length text))

-- nothing was put
pub put_none : (p : Page) → Put [] p p
put_none p = record { same = refl; filled = refl }

-- a piece, spelled in another way
pub put_same : {xs ys : List ℕ} {p q : Page} → xs ≡ ys → Put xs p q → Put ys p q
put_same {p = p} {q = q} e put = subst (λ bytes. Put bytes p q) e put

-- two pieces
pub put_then : {xs ys : List ℕ} {p q r : Page} → Put xs p q → Put ys q r → Put (xs ++ ys) p r
put_then {xs} {ys} {p} a b = record { same = b.same ∙ a.same; filled = b.filled ∙ ap (λ f. with_bytes f ys) a.filled ∙ sym (with_bytes_append _ xs ys) }

-- in a loop over a list: the piece of one element more
pub put_more : {X : Type 0} (piece : X → List ℕ) (xs : List X) (i : ℕ) (d : X) {p q r : Page} → i < length xs → Put (flat_map piece (take i xs)) p q → Put (piece (get_or xs i d)) q r → Put (flat_map piece (take (i + 1) xs)) p r
put_more piece xs i d h a b = put_same (flat_map_more piece [] (take i xs) (get_or xs i d) ∙ ap (flat_map piece) (sym (take_more xs i d h))) (put_then a b)

-- after the loop: the pieces of all elements
pub put_all : {X : Type 0} (piece : X → List ℕ) (xs : List X) (i : ℕ) {p q : Page} → length xs ≤ i → Put (flat_map piece (take i xs)) p q → Put (flat_map piece xs) p q
put_all piece xs i h a = put_same (ap (flat_map piece) (take_all i xs h)) a

-- a page over a whole buffer, when a text that fits is put into it
pub page_wrote : (text old : List ℕ) (first last : Page) (n : ℕ) → first.out.now ≡ old → first.at ≡ 0 → Put text first last → n ≡ length text → n ≤ length old → Wrote text old last.out.now n
page_wrote text old first last n blank empty put e h =
    let fits : length text ≤ length old = omega arith in
    let start : filling first ≡ (old, 0) = ap (λ b. (b, first.at)) blank ∙ ap (λ k. (old, k)) empty in
    let all = put.filled ∙ ap (λ f. with_bytes f text) start ∙ filled_front old text fits in
    record { fits = fits; count = e; is = ap (λ f. f.0) all ∙ ap (λ k. text ++ drop k old) (sym e) }
