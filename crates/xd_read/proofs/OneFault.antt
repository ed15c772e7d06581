-- Bytes are malformed at one place at most.
use Rattle.std.proofs.Common.{◌≡◌, ℕ, ◌⊎◌, inl, inr, List, [], ◌∷◌, ◌++◌, sym, ap, subst, ◌∙◌, append_assoc}
use Rattle.std.proofs.lemmas.List.{map-append}
use Rattle.xd_base.specs.declared.Place.{Place}
use Rattle.xd_lex.specs.Tokens.{Lexeme, tokens_of}
use Rattle.xd_read.specs.Grammar.{Terminal, Spells, Begins}
use Rattle.xd_read.specs.Reading.{terminal_of, terminals_of, IsFirstFault, IsMalformedAt}
use Rattle.xd_doc.proofs.Lists.{same_first, same_rest}

-- of two fronts of one list, each with the token after it, one lies within the other
fronts : (b c : List Lexeme) (f g : Lexeme) (xs ys : List Lexeme) → b ++ f ∷ xs ≡ c ++ g ∷ ys → (f ≡ g) ⊎ (((rest : List Lexeme) × (c ≡ (b ++ f ∷ []) ++ rest)) ⊎ ((rest : List Lexeme) × (b ≡ (c ++ g ∷ []) ++ rest)))
fronts [] [] f g xs ys e = inl (same_first _ _ _ _ e)
fronts [] (y ∷ c) f g xs ys e = inr (inl (c, ap (λ (x : Lexeme). x ∷ c) (sym (same_first _ _ _ _ e))))
fronts (x ∷ b) [] f g xs ys e = inr (inr (b, ap (λ (y : Lexeme). y ∷ b) (same_first _ _ _ _ e)))
fronts (x ∷ b) (y ∷ c) f g xs ys e =
    elim (fronts b c f g xs ys (same_rest _ _ _ _ e)) [
      | inl h ↦ inl h
      | inr (inl (rest, h)) ↦ inr (inl (rest, ap (λ (z : Lexeme). z ∷ c) (sym (same_first _ _ _ _ e)) ∙ ap (λ (zs : List Lexeme). x ∷ zs) h))
      | inr (inr (rest, h)) ↦ inr (inr (rest, ap (λ (z : Lexeme). z ∷ b) (same_first _ _ _ _ e) ∙ ap (λ (zs : List Lexeme). y ∷ zs) h))
    ]

-- the front of tokens that begin a document begins one
front_begins : (xs ys : List Lexeme) → Begins (terminals_of (xs ++ ys)) → Begins (terminals_of xs)
front_begins xs ys (more, d, s) =
    (terminals_of ys ++ more, d, subst (λ (ts : List Terminal). Spells ts d) (ap (λ (ts : List Terminal). ts ++ more) (map-append terminal_of xs ys) ∙ append_assoc (terminals_of xs) (terminals_of ys) more) s)

one_fault : (all : List Lexeme) (p q : Place) → IsFirstFault all p → IsFirstFault all q → p ≡ q
one_fault all p q a b =
    elim (fronts a.before b.before a.fault b.fault a.after b.after (sym a.split ∙ b.split)) [
      | inl h ↦ a.here ∙ ap (λ (x : Lexeme). x.place) h ∙ sym b.here
      | inr (inl (rest, h)) ↦ absurd (a.stops (front_begins (a.before ++ a.fault ∷ []) rest (subst (λ (xs : List Lexeme). Begins (terminals_of xs)) h b.goes)))
      | inr (inr (rest, h)) ↦ absurd (b.stops (front_begins (b.before ++ b.fault ∷ []) rest (subst (λ (xs : List Lexeme). Begins (terminals_of xs)) h a.goes)))
    ]

pub malformed_at_one_place : (bytes : List ℕ) (p q : Place) → IsMalformedAt bytes p → IsMalformedAt bytes q → p ≡ q
malformed_at_one_place bytes p q (inl a) (inl b) = a.place ∙ sym b.place
malformed_at_one_place bytes p q (inl a) (inr (u, b)) = absurd (a.refused u)
malformed_at_one_place bytes p q (inr (u, a)) (inl b) = absurd (b.refused u)
malformed_at_one_place bytes p q (inr (u, a)) (inr (v, b)) = one_fault (tokens_of bytes) p q a b
