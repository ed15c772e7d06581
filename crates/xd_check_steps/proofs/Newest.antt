-- Lists that are kept with the newest last, and seen with the newest first.
use Rattle.std.proofs.Common.{◌≡◌, ℕ, ◌+◌, ◌-◌, ◌<◌, ◌≤◌, arith, List, [], ◌∷◌, ◌++◌, get_or, take, drop, length, ap, sym, ◌∙◌}
use Rattle.std.specs.Prelude.{reverse}
use Rattle.std.proofs.lemmas.List.{drop_at, length-drop, length-reverse, reverse-append, take-append-drop, take_more}
use Rattle.xd_doc.proofs.Lists.{reverse_push}

-- the newest of the first n
pub reverse_take : {A : Type 0} (xs : List A) (n : ℕ) (x : A) → 0 < n → n ≤ length xs → x ≡ get_or xs (n - 1) x → reverse (take n xs) ≡ x ∷ reverse (take (n - 1) xs)
reverse_take xs n x p h e =
    let l : n - 1 < length xs = omega arith in
    let m : n - 1 + 1 ≡ n = omega arith in
    ap (λ k. reverse (take k xs)) (sym m) ∙ ap reverse (take_more xs (n - 1) x l) ∙ ap (λ y. reverse (take (n - 1) xs ++ y ∷ [])) (sym e) ∙ reverse_push (take (n - 1) xs) x

pub reverse_front : {A : Type 0} (xs : List A) (n : ℕ) → reverse (take n xs) ≡ drop (length (reverse xs) - n) (reverse xs)
reverse_front xs n =
    let e : reverse xs ≡ reverse (drop n xs) ++ reverse (take n xs) = ap reverse (sym (take-append-drop n xs)) ∙ reverse-append (take n xs) (drop n xs) in
    let l : length (reverse (drop n xs)) ≡ length (reverse xs) - n = length-reverse (drop n xs) ∙ length-drop n xs ∙ ap (λ k. k - n) (sym (length-reverse xs)) in
    sym (ap (drop (length (reverse xs) - n)) e ∙ drop_at (reverse (drop n xs)) (reverse (take n xs)) (length (reverse xs) - n) l)
