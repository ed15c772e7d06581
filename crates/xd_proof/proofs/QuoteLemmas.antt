-- Escaped characters, one after the other.
use Rattle.std.proofs.Common.{◌≡◌, ℕ, true, false, List, [], ◌∷◌, ◌++◌, get_or, append_assoc, append-nil, refl, ap, sym, subst, ◌∙◌}
use Rattle.std.specs.Str.{is_utf8}
use Rattle.std.proofs.lemmas.List.{append_cancel_left}
use Rattle.xd_doc.specs.Document.{escaped, escaped_all}
use Rattle.xd_lex.specs.Spelled.{characters}
use Rattle.xd_lex.proofs.Escapes.{characters-escaped}

-- one escaped character in front of something
pub escaped_one : (c d : ℕ) (xs ys : List ℕ) → escaped c ++ xs ≡ escaped d ++ ys → (c ≡ d) × (xs ≡ ys)
escaped_one c d xs ys e =
    let f : c ∷ characters false xs ≡ d ∷ characters false ys = sym (characters-escaped c xs) ∙ ap (characters false) e ∙ characters-escaped d ys in
    let g : c ≡ d = ap (λ l. get_or l 0 0) f in
    (g, append_cancel_left (escaped d) xs ys (ap (λ k. escaped k ++ xs) (sym g) ∙ e))

-- it does not begin with a quote
pub escaped_no_quote : (c : ℕ) (xs ys : List ℕ) → escaped c ++ xs ≡ 34 ∷ ys → ⊥
escaped_no_quote c xs ys e =
    let f : c ∷ characters false xs ≡ [] = sym (characters-escaped c xs) ∙ ap (characters false) e in cc

pub escaped_more : (s : List ℕ) (c : ℕ) → escaped_all (s ++ c ∷ []) ≡ escaped_all s ++ escaped c
escaped_more [] c = append-nil (escaped c)
escaped_more (d ∷ ds) c = ap (λ l. escaped d ++ l) (escaped_more ds c) ∙ sym (append_assoc (escaped d) (escaped_all ds) (escaped c))

-- what was read is the front of the text
pub record IsFrontOf (made s left r : List ℕ) : Type 0 where
  pub more : List ℕ
  pub whole : s ≡ made ++ more
  pub left_is : left ≡ escaped_all more ++ 34 ∷ r

pub front_read : (made s left r : List ℕ) → escaped_all made ++ left ≡ escaped_all s ++ 34 ∷ r → IsFrontOf made s left r
front_read [] s left r e = record { more = s; whole = refl; left_is = e }
front_read (c ∷ cs) [] left r e = absurd (escaped_no_quote c (escaped_all cs ++ left) r (sym (append_assoc (escaped c) (escaped_all cs) left) ∙ e))
front_read (c ∷ cs) (d ∷ ds) left r e =
    let a = escaped_one c d (escaped_all cs ++ left) (escaped_all ds ++ 34 ∷ r) (sym (append_assoc (escaped c) (escaped_all cs) left) ∙ e ∙ append_assoc (escaped d) (escaped_all ds) (34 ∷ r)) in
    let b = front_read cs ds left r a.1 in
    record { more = b.more; whole = ap (λ x. x ∷ ds) (sym a.0) ∙ ap (λ l. c ∷ l) b.whole; left_is = b.left_is }

-- neither a character nor the quote stands next
next_is : (more left r : List ℕ) → left ≡ escaped_all more ++ 34 ∷ r → ((c : ℕ) (rest : List ℕ) → left ≡ escaped c ++ rest → ⊥) × ((rest : List ℕ) → left ≡ 34 ∷ rest → ⊥) → ⊥
next_is [] left r e never = never.1 r e
next_is (c ∷ cs) left r e never = never.0 c (escaped_all cs ++ 34 ∷ r) (e ∙ append_assoc (escaped c) (escaped_all cs) (34 ∷ r))

pub none_next : (bytes made left : List ℕ) → bytes ≡ escaped_all made ++ left → ((c : ℕ) (rest : List ℕ) → left ≡ escaped c ++ rest → ⊥) × ((rest : List ℕ) → left ≡ 34 ∷ rest → ⊥) →
    (s r : List ℕ) → is_utf8 s ≡ true → bytes ≡ escaped_all s ++ 34 ∷ r → ⊥
none_next bytes made left e never s r u f = let a = front_read made s left r (sym e ∙ f) in next_is a.more left r a.left_is never

done_is : (made more s rest r : List ℕ) → s ≡ made ++ more → 34 ∷ rest ≡ escaped_all more ++ 34 ∷ r → s ≡ made
done_is made [] s rest r e f = e ∙ append-nil made
done_is made (c ∷ cs) s rest r e f = absurd (escaped_no_quote c (escaped_all cs ++ 34 ∷ r) rest (sym (f ∙ append_assoc (escaped c) (escaped_all cs) (34 ∷ r))))

-- the closing quote stands next, and the characters are no UTF-8
pub not_text : (bytes made left rest : List ℕ) → bytes ≡ escaped_all made ++ left → left ≡ 34 ∷ rest → (is_utf8 made ≡ true → ⊥) → (s r : List ℕ) → is_utf8 s ≡ true → bytes ≡ escaped_all s ++ 34 ∷ r → ⊥
not_text bytes made left rest e q never s r u f =
    let a = front_read made s left r (sym e ∙ f) in
    let g : s ≡ made = done_is made a.more s rest r a.whole (sym q ∙ a.left_is) in
    never (subst (λ x. is_utf8 x ≡ true) g u)

pub one_character : (bytes made left new rest : List ℕ) (c : ℕ) → bytes ≡ escaped_all made ++ left → left ≡ escaped c ++ rest → new ≡ made ++ c ∷ [] → bytes ≡ escaped_all new ++ rest
one_character bytes made left new rest c e f g =
    e ∙ ap (λ l. escaped_all made ++ l) f ∙ sym (append_assoc (escaped_all made) (escaped c) rest) ∙ ap (λ l. l ++ rest) (sym (escaped_more made c) ∙ ap escaped_all (sym g))
