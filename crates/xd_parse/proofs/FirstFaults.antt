-- A text has one first fault at most, and with one it is no text.
use Rattle.std.proofs.Common.{◌≡◌, ℕ, ◌+◌, ◌<◌, inl, inr, List, ◌++◌, Some, take, drop, sym, ap, subst, ◌∙◌, arith}
use Rattle.std.proofs.lemmas.List.{take-take, take-append-drop}
use Rattle.std.proofs.lemmas.Bool.{cases_order}
use Rattle.xd_base.specs.declared.Place.{Place}
use Rattle.xd_lex.specs.Tokens.{Lexeme, tokens_of}
use Rattle.xd_syntax.specs.Shallow.{nesting_limit}
use Rattle.xd_grammar.specs.declared.grammar.Nonterminal.{Nonterminal}
use Rattle.xd_grammar.specs.declared.grammar.Terminal.{Terminal}
use Rattle.xd_grammar.specs.declared.text.TextFault.{TextFault}
use Rattle.xd_grammar.specs.declared.text.TextFault.TheVariants as faults
use Rattle.xd_grammar.specs.Grammar.{BeginsNonterminal}
use Rattle.xd_grammar.specs.FirstFault.{Refusal, no_text, too_deep, IsRefusedAt, IsFirstRefusal}
use Rattle.xd_grammar.specs.Text.{terminals_at, lexeme_at, IsPlaceAt, IsFaultAt, IsTextFault}
use Rattle.xd_grammar.proofs.Ends.{front_of}
use Rattle.xd_grammar.proofs.TextLemmas.{refused_text}
use Rattle.xd_parse.specs.Faults.{reported}
use Rattle.xd_parse.specs.Laws.{FirstFaultsAreOne}

not_begun : (part : Nonterminal) (ts : List Terminal) (n : ℕ) (r : Refusal) → IsRefusedAt part ts n r → BeginsNonterminal nesting_limit part (take (n + 1) ts) → ⊥
not_begun part ts n no_text h b = h nesting_limit b
not_begun part ts n too_deep h b = h.0 b

-- what begins a text does so with fewer tokens
fewer_begin : (part : Nonterminal) (ts : List Terminal) (n m : ℕ) → n < m → BeginsNonterminal nesting_limit part (take m ts) → BeginsNonterminal nesting_limit part (take (n + 1) ts)
fewer_begin part ts n m h b =
    front_of b (take (n + 1) ts) (drop (n + 1) (take m ts))
    (sym (take-append-drop (n + 1) (take m ts)) ∙ ap (λ xs. xs ++ drop (n + 1) (take m ts)) (take-take (n + 1) m ts (omega (arith, h))))

none_earlier : (part : Nonterminal) (ts : List Terminal) (n m : ℕ) (r q : Refusal) → IsFirstRefusal part ts n r → IsFirstRefusal part ts m q → n < m → ⊥
none_earlier part ts n m r q a b h = not_begun part ts n r a.there (fewer_begin part ts n m h b.before)

same_token : (part : Nonterminal) (ts : List Terminal) (n m : ℕ) (r q : Refusal) → IsFirstRefusal part ts n r → IsFirstRefusal part ts m q → n ≡ m
same_token part ts n m r q a b =
    elim (cases_order n m) [
      | inl e ↦ e
      | inr (inl h) ↦ absurd (none_earlier part ts n m r q a b h)
      | inr (inr h) ↦ absurd (none_earlier part ts m n q r b a h)
    ]

same_place : (ls : List Lexeme) (n m : ℕ) (p q : Place) → n ≡ m → IsPlaceAt ls n p → IsPlaceAt ls m q → p ≡ q
same_place ls n m p q e a b =
    let f : Some a.lexeme ≡ Some b.lexeme = sym a.stands ∙ ap (lexeme_at ls) e ∙ b.stands in
    let g : a.lexeme ≡ b.lexeme = cc in
    sym a.at ∙ ap (λ (l : Lexeme). l.place) g ∙ b.at

placed_same : (part : Nonterminal) (ls : List Lexeme) (r q : Refusal) (o p : Place) → IsFaultAt part ls r o → IsFaultAt part ls q p → o ≡ p
placed_same part ls r q o p a b = same_place ls a.index b.index o p (same_token part (terminals_at ls) a.index b.index r q a.first b.first) a.placed b.placed

-- a token that no text goes on with, nested deep or not, is not one that nests too deep
never_both : (part : Nonterminal) (ls : List Lexeme) (o p : Place) → IsFaultAt part ls no_text o → IsFaultAt part ls too_deep p → ⊥
never_both part ls o p a b =
    let ts = terminals_at ls in
    let e = same_token part ts a.index b.index no_text too_deep a.first b.first in
    let deep = (b.first).there.1 in
    (a.first).there deep.0 (subst (λ k. BeginsNonterminal deep.0 part (take (k + 1) ts)) (sym e) deep.1)

one_fault : (part : Nonterminal) (bytes : List ℕ) (f g : TextFault) → IsTextFault part bytes f → IsTextFault part bytes g → f ≡ g
one_fault part bytes (faults.NotUtf8 p) (faults.NotUtf8 q) a b = ap faults.NotUtf8 (a.place ∙ sym b.place)
one_fault part bytes (faults.NotUtf8 p) (faults.Syntax q) a b = absurd (a.refused b.0)
one_fault part bytes (faults.NotUtf8 p) (faults.TooDeep q) a b = absurd (a.refused b.0)
one_fault part bytes (faults.Syntax p) (faults.NotUtf8 q) a b = absurd (b.refused a.0)
one_fault part bytes (faults.Syntax p) (faults.Syntax q) a b = ap faults.Syntax (placed_same part (tokens_of bytes) no_text no_text p q a.1 b.1)
one_fault part bytes (faults.Syntax p) (faults.TooDeep q) a b = absurd (never_both part (tokens_of bytes) p q a.1 b.1)
one_fault part bytes (faults.TooDeep p) (faults.NotUtf8 q) a b = absurd (b.refused a.0)
one_fault part bytes (faults.TooDeep p) (faults.Syntax q) a b = absurd (never_both part (tokens_of bytes) q p b.1 a.1)
one_fault part bytes (faults.TooDeep p) (faults.TooDeep q) a b = ap faults.TooDeep (placed_same part (tokens_of bytes) too_deep too_deep p q a.1 b.1)

pub first_faults_are_one : FirstFaultsAreOne
first_faults_are_one = record {
  nothing = λ part bytes f h. (refused_text part bytes h.0 h.1).1;
  one = λ part bytes f g a b. a.2 ∙ ap reported (one_fault part bytes a.0 b.0 a.1 b.1) ∙ sym b.2;
}
