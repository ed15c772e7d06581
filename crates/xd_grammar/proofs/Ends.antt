-- A front that ends where a text ends is a whole text; a whole text begins with each of its fronts.
use Rattle.std.proofs.Common.{◌≡◌, ℕ, ◌++◌, ◌⊎◌, Bool, true, false, cond, List, [], ◌∷◌, refl, sym, subst, ◌∙◌, inl, inr}
use Rattle.std.proofs.lemmas.Bool.{false≢true}
use Rattle.xd_doc.proofs.Lists.{same_first, same_rest}
use Rattle.xd_grammar.specs.declared.grammar.Nonterminal.{Nonterminal}
use Rattle.xd_grammar.specs.declared.grammar.Nonterminal.TheVariants as n
use Rattle.xd_grammar.specs.declared.grammar.Sort.TheVariants as sorts
use Rattle.xd_grammar.specs.declared.grammar.Symbol.TheVariants.{Token, Opening, Closed, Unless, Part}
use Rattle.xd_grammar.specs.declared.grammar.Terminal.{Terminal}
use Rattle.xd_grammar.specs.declared.grammar.Terminal.TheVariants as t
use Rattle.xd_doc.specs.Members.{IsOneOf}
use Rattle.xd_grammar.specs.Grammar.{Row, rules, Extent, Entire, Partial, MayEnd, Derives, end, token, opening, closed, unless, by}
use Rattle.xd_grammar.specs.TextErrors.{ends_text}
use Rattle.xd_grammar.proofs.Derive.{view, all_rows, all_of, left_true, right_true}

abbrev is_nil : Row → Bool
is_nil [] = true
is_nil (x ∷ row) = false

-- where `End` stands, nothing stands after it; and `Broken` stands nowhere
abbrev seal_token : Terminal → Bool → Bool → Bool
seal_token t.End nil rest = nil
seal_token t.Broken nil rest = false
seal_token k nil rest = rest

abbrev seal_part : Nonterminal → Bool → Bool → Bool
seal_part n.Definitions nil rest = nil
seal_part n.TypeText nil rest = nil
seal_part part nil rest = rest

abbrev pub sealed : Row → Bool
sealed [] = false
sealed (Token k ∷ row) = seal_token k (is_nil row) (sealed row)
sealed (Opening k ∷ row) = seal_token k false (sealed row)
sealed (Closed ∷ row) = sealed row
sealed (Unless k ∷ row) = sealed row
sealed (Part part ∷ row) = seal_part part (is_nil row) (sealed row)

-- rows without the end of a text
abbrev plain_token : Terminal → Bool
plain_token t.End = false
plain_token t.Broken = false
plain_token k = true

abbrev plain_part : Nonterminal → Bool
plain_part n.Definitions = false
plain_part n.TypeText = false
plain_part part = true

abbrev plain : Row → Bool
plain [] = true
plain (Token k ∷ row) = cond (plain_token k) (plain row) false
plain (Opening k ∷ row) = cond (plain_token k) (plain row) false
plain (Closed ∷ row) = plain row
plain (Unless k ∷ row) = plain row
plain (Part part ∷ row) = cond (plain_part part) (plain row) false

plain_token_seals : (k : Terminal) (nil rest : Bool) → plain_token k ≡ true → seal_token k nil rest ≡ rest
plain_token_seals t.End nil rest h = cc
plain_token_seals t.Broken nil rest h = cc
plain_token_seals k nil rest h = refl

plain_part_seals : (part : Nonterminal) (nil rest : Bool) → plain_part part ≡ true → seal_part part nil rest ≡ rest
plain_part_seals n.Definitions nil rest h = cc
plain_part_seals n.TypeText nil rest h = cc
plain_part_seals part nil rest h = refl

plain_seals : (made row : Row) → plain made ≡ true → sealed (made ++ row) ≡ sealed row
plain_seals [] row h = refl
plain_seals (Token k ∷ made) row h =
    plain_token_seals k (is_nil (made ++ row)) (sealed (made ++ row)) (left_true (plain_token k) (plain made) h) ∙ plain_seals made row (right_true (plain_token k) (plain made) h)
plain_seals (Opening k ∷ made) row h = plain_token_seals k false (sealed (made ++ row)) (left_true (plain_token k) (plain made) h) ∙ plain_seals made row (right_true (plain_token k) (plain made) h)
plain_seals (Closed ∷ made) row h = plain_seals made row h
plain_seals (Unless k ∷ made) row h = plain_seals made row h
plain_seals (Part part ∷ made) row h =
    plain_part_seals part (is_nil (made ++ row)) (sealed (made ++ row)) (left_true (plain_part part) (plain made) h) ∙ plain_seals made row (right_true (plain_part part) (plain made) h)

all_plain : (part : Nonterminal) → plain_part part ≡ true → all_rows plain (rules part) ≡ true
all_plain n.Definitions h = cc
all_plain n.TypeText h = cc
all_plain (n.Post sorts.Type) h = refl
all_plain (n.Post sorts.Pattern) h = refl
all_plain part h = refl

plain_made : (part : Nonterminal) (made row : Row) → plain_part part ≡ true → IsOneOf made (rules part) → sealed (Part part ∷ row) ≡ true → sealed (made ++ row) ≡ true
plain_made part made row p one h = plain_seals made row (all_of plain (rules part) made one (all_plain part p)) ∙ sym (plain_part_seals part (is_nil row) (sealed row) p) ∙ h

sealed_made : (part : Nonterminal) (made row : Row) → IsOneOf made (rules part) → sealed (Part part ∷ row) ≡ true → sealed (made ++ row) ≡ true
sealed_made n.Definitions made [] (inl e) h = subst (λ (x : Row). sealed (x ++ []) ≡ true) e refl
sealed_made n.Definitions made [] (inr (inl e)) h = subst (λ (x : Row). sealed (x ++ []) ≡ true) e refl
sealed_made n.Definitions made [] (inr (inr (inl e))) h = subst (λ (x : Row). sealed (x ++ []) ≡ true) e refl
sealed_made n.Definitions made [] (inr (inr (inr (none)))) h = absurd none
sealed_made n.Definitions made (x ∷ row) one h = cc
sealed_made n.TypeText made [] (inl e) h = subst (λ (x : Row). sealed (x ++ []) ≡ true) e refl
sealed_made n.TypeText made [] (inr (none)) h = absurd none
sealed_made n.TypeText made (x ∷ row) one h = cc
sealed_made part made row one h = plain_made part made row refl one h

after_token : (k : Terminal) (nil rest : Bool) → seal_token k nil rest ≡ true → (nil ≡ true) ⊎ (rest ≡ true)
after_token t.End nil rest h = inl h
after_token t.Broken nil rest h = cc
after_token k nil rest h = inr h

after_opening : (k : Terminal) (rest : Bool) → seal_token k false rest ≡ true → rest ≡ true
after_opening t.End rest h = cc
after_opening t.Broken rest h = cc
after_opening k rest h = h

at_last : (k : Terminal) (nil rest : Bool) → ends_text k ≡ true → seal_token k nil rest ≡ true → nil ≡ true
at_last t.End nil rest e h = h
at_last t.Broken nil rest e h = cc
at_last k nil rest e h = cc

nil_row : (e : Extent) (l d : ℕ) (row : Row) → is_nil row ≡ true → MayEnd Entire row
nil_row e l d [] h = tt
nil_row e l d (x ∷ row) h = cc

nil_dead : (e : Extent) (l d : ℕ) (row : Row) (k : Terminal) (ts : List Terminal) → is_nil row ≡ true → Derives e l d row (k ∷ ts) → ⊥
nil_dead e l d [] k ts h g = view g k ts refl
nil_dead e l d (x ∷ row) k ts h g = cc

no_end : (us : List Terminal) (k : Terminal) → [] ≡ us ++ k ∷ [] → ⊥
no_end [] k e = cc
no_end (u ∷ us) k e = cc

first_of_more : (us : List Terminal) (k : Terminal) → (j : Terminal) × ((vs : List Terminal) × (us ++ k ∷ [] ≡ j ∷ vs))
first_of_more [] k = (k, ([], refl))
first_of_more (u ∷ us) k = (u, (us ++ k ∷ [], refl))

-- a row with its token taken, where more tokens come
more_sealed : (l d : ℕ) (k : Terminal) (row : Row) (ts us : List Terminal) (last : Terminal) → seal_token k (is_nil row) (sealed row) ≡ true → Derives Partial l d row ts → ts ≡ us ++ last ∷ [] → sealed row ≡ true
more_sealed l d k row ts us last s g e = elim (after_token k (is_nil row) (sealed row) s) [
  | inl nil ↦ absurd (nil_dead Partial l d row (first_of_more us last).0 (first_of_more us last).1.0 nil (subst (Derives Partial l d row) (e ∙ (first_of_more us last).1.1) g))
  | inr rest ↦ rest
]

whole_nil : (l d : ℕ) (row : Row) (ts : List Terminal) → MayEnd Entire row → ts ≡ [] → Derives Entire l d row ts
whole_nil l d row ts h e = subst (Derives Entire l d row) (sym e) (end h)

-- a front with the last token of a text is the whole text
pub ended : {l d : ℕ} {row : Row} {ts : List Terminal} → Derives Partial l d row ts → (us : List Terminal) (last : Terminal) → ts ≡ us ++ last ∷ [] → ends_text last ≡ true → sealed row ≡ true → Derives Entire l d row ts
ended (end h) us last e q s = absurd (no_end us last e)
ended {l = l} (token {depth = d} {k = k} {row = row} {ts = ts} g) [] last e q s = token (whole_nil l d row ts (nil_row Partial l d row (at_last k (is_nil row) (sealed row) (subst (λ (x : Terminal). ends_text x ≡ true) (sym (same_first k last ts [] e)) q) s)) (same_rest k last ts [] e))
ended {l = l} (token {depth = d} {k = k} {row = row} {ts = ts} g) (u ∷ us) last e q s = token (ended g us last (same_rest k u ts (us ++ last ∷ []) e) q (more_sealed l d k row ts us last s g (same_rest k u ts (us ++ last ∷ []) e)))
ended {l = l} (opening {depth = d} {k = k} {row = row} {ts = ts} h g) [] last e q s = absurd (false≢true (at_last k false (sealed row) (subst (λ (x : Terminal). ends_text x ≡ true) (sym (same_first k last ts [] e)) q) s))
ended {l = l} (opening {depth = d} {k = k} {row = row} {ts = ts} h g) (u ∷ us) last e q s = opening h (ended g us last (same_rest k u ts (us ++ last ∷ []) e) q (after_opening k (sealed row) s))
ended (closed g) us last e q s = closed (ended g us last e q s)
ended (unless ne g) us last e q s = unless ne (ended g us last e q s)
ended (by {part = part} made {row = row} one g) us last e q s = by made one (ended g us last e q (sealed_made part made row one s))

-- a text, or a front of one, begins with each of its fronts
pub front_of : {extent : Extent} {l d : ℕ} {row : Row} {ts : List Terminal} → Derives extent l d row ts → (us vs : List Terminal) → ts ≡ us ++ vs → Derives Partial l d row us
front_of g [] vs e = end tt
front_of (end h) (u ∷ us) vs e = cc
front_of {l = l} (token {depth = d} {k = k} {row = row} {ts = ts} g) (u ∷ us) vs e = subst (λ (x : Terminal). Derives Partial l d (Token k ∷ row) (x ∷ us)) (same_first k u ts (us ++ vs) e) (token (front_of g us vs (same_rest k u ts (us ++ vs) e)))
front_of {l = l} (opening {depth = d} {k = k} {row = row} {ts = ts} h g) (u ∷ us) vs e = subst (λ (x : Terminal). Derives Partial l d (Opening k ∷ row) (x ∷ us)) (same_first k u ts (us ++ vs) e) (opening h (front_of g us vs (same_rest k u ts (us ++ vs) e)))
front_of (closed g) (u ∷ us) vs e = closed (front_of g (u ∷ us) vs e)
front_of {l = l} (unless {depth = d} {j = j} {k = k} {row = row} {ts = ts} ne g) (u ∷ us) vs e = unless (λ q. ne (q ∙ sym (same_first k u ts (us ++ vs) e))) (front_of g (u ∷ us) vs e)
front_of (by made one g) (u ∷ us) vs e = by made one (front_of g (u ∷ us) vs e)
