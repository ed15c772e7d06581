-- A text has one syntax tree at most.
use Rattle.std.proofs.Common.{◌≡◌, Bool, true, false, ◌⊎◌, inl, inr, List, [], ◌∷◌, Option, Some, None, refl, sym, subst, ◌∙◌}
use Rattle.xd_lex.specs.Tokens.{Lexeme}
use Rattle.xd_syntax.specs.Placed.{PlacedTree}
use Rattle.xd_syntax.specs.Program.{ProgramTree}
use Rattle.xd_grammar.specs.declared.grammar.Nonterminal.{Nonterminal}
use Rattle.xd_grammar.specs.declared.grammar.Nonterminal.TheVariants as n
use Rattle.xd_grammar.specs.declared.grammar.Symbol.TheVariants.{Token, Part}
use Rattle.xd_grammar.specs.declared.grammar.Terminal.{Terminal}
use Rattle.xd_grammar.specs.declared.grammar.Terminal.TheVariants as t
use Rattle.xd_grammar.specs.declared.grammar.Sort.{Sort}
use Rattle.xd_grammar.specs.declared.machine.Reading.{Reading}
use Rattle.xd_grammar.specs.declared.machine.Reading.TheVariants.{Opened}
use Rattle.xd_grammar.specs.declared.machine.Course.{Course}
use Rattle.xd_grammar.specs.declared.machine.Course.TheVariants.{Both, Main, Listed}
use Rattle.xd_doc.specs.Members.{IsOneOf}
use Rattle.xd_grammar.specs.Grammar.{Row, rules}
use Rattle.xd_grammar.specs.Fits.{same, fits, first_fit}
use Rattle.xd_grammar.specs.Machine.{course}
use Rattle.xd_parse_trees.specs.Values.{Value, a_tree, definitions, value_of}
use Rattle.xd_parse_trees.specs.Means.{Means, MeansAll, ends, a_token, an_opening, a_closing, a_bar, a_part}
use Rattle.xd_parse.specs.Laws.{TextsMeanOneThing}
use Rattle.xd_parse_trees.specs.Reading.{Reads, front_terminal, group_row, element_row, SpellNo}
use Rattle.xd_grammar.proofs.Derive.{same-true, is_group, rules_decided, chosen_none, chosen_only}
use Rattle.xd_grammar.specs.Text.{terminal_at}
use Rattle.xd_parse_trees.proofs.Ahead.{both_at_end, BothReadings, readings_begin, readings_go, main_alone, listed_alone}
use Rattle.xd_parse_trees.proofs.Rows.{ReadsRow, row_end, row_token, row_opening, row_closed, row_unless, row_part, by_row, means_fits, means_may, empty_means}

-- ---- at a parenthesis one of the two rows spells nothing
both_or_one : (sort : Sort) (reading : Reading) (from now : List Lexeme) → BothReadings sort reading from now → SpellNo (element_row sort) from ⊎ SpellNo (group_row sort) from
both_or_one sort reading from [] b = at_end (course reading t.Broken) refl
  where
    at_end : (c : Course) → course reading (front_terminal []) ≡ c → SpellNo (element_row sort) from ⊎ SpellNo (group_row sort) from
    at_end Main e = inl (main_alone sort reading from [] b e)
    at_end Listed e = inr (listed_alone sort reading from [] b e)
    at_end (Both next) e = absurd (both_at_end reading next b.double e)
both_or_one sort reading from (l ∷ ls) b = go (course reading (terminal_at l)) refl (λ next c. both_or_one sort next from ls c)
  where
    go : (c : Course) → course reading (terminal_at l) ≡ c → ((next : Reading) → BothReadings sort next from ls → SpellNo (element_row sort) from ⊎ SpellNo (group_row sort) from) → SpellNo (element_row sort) from ⊎ SpellNo (group_row sort) from
    go Main e more = inl (main_alone sort reading from (l ∷ ls) b e)
    go Listed e more = inr (listed_alone sort reading from (l ∷ ls) b e)
    go (Both next) e more = more next (readings_go sort reading next from (l ∷ ls) b e)

one_row_dead : (sort : Sort) (from : List Lexeme) → front_terminal from ≡ t.ParenL → SpellNo (element_row sort) from ⊎ SpellNo (group_row sort) from
one_row_dead s from e = both_or_one s (Opened s) from _ (readings_begin s from e)

abbrev prim_rows : Sort → List Row
prim_rows sort = (Token t.Word ∷ []) ∷ group_row sort ∷ (Token t.Text ∷ []) ∷ (Token t.Caret ∷ Part (n.Excepted sort) ∷ []) ∷ element_row sort ∷ []

no_token : (k : Terminal) (row : Row) (l : Lexeme) (ls rest : List Lexeme) (ws : List Value) (made : Row) → same k t.ParenL ≡ false → terminal_at l ≡ t.ParenL → made ≡ Token k ∷ row → Means made (l ∷ ls) rest ws → ⊥
no_token k row l ls rest ws made h e q m =
    let f : fits (Token k ∷ row) t.ParenL ≡ true = means_fits (Token k ∷ row) l ls rest ws t.ParenL e (subst (λ (r : Row). Means r (l ∷ ls) rest ws) q m) in cc

group_alive : (sort : Sort) (l : Lexeme) (ls rest : List Lexeme) (ws : List Value) (made : Row) → terminal_at l ≡ t.ParenL → SpellNo (element_row sort) (l ∷ ls) → IsOneOf made (prim_rows sort) → Means made (l ∷ ls) rest ws → made ≡ group_row sort
group_alive sort l ls rest ws made e dead (inl q) m = absurd (no_token t.Word _ l ls rest ws made refl e (sym q) m)
group_alive sort l ls rest ws made e dead (inr (inl q)) m = sym q
group_alive sort l ls rest ws made e dead (inr (inr (inl q))) m = absurd (no_token t.Text _ l ls rest ws made refl e (sym q) m)
group_alive sort l ls rest ws made e dead (inr (inr (inr (inl q)))) m = absurd (no_token t.Caret _ l ls rest ws made refl e (sym q) m)
group_alive sort l ls rest ws made e dead (inr (inr (inr (inr (inl q))))) m = absurd (dead rest ws (subst (λ (r : Row). Means r (l ∷ ls) rest ws) (sym q) m))
group_alive sort l ls rest ws made e dead (inr (inr (inr (inr (inr h))))) m = absurd h

element_alive : (sort : Sort) (l : Lexeme) (ls rest : List Lexeme) (ws : List Value) (made : Row) → terminal_at l ≡ t.ParenL → SpellNo (group_row sort) (l ∷ ls) → IsOneOf made (prim_rows sort) → Means made (l ∷ ls) rest ws → made ≡ element_row sort
element_alive sort l ls rest ws made e dead (inl q) m = absurd (no_token t.Word _ l ls rest ws made refl e (sym q) m)
element_alive sort l ls rest ws made e dead (inr (inl q)) m = absurd (dead rest ws (subst (λ (r : Row). Means r (l ∷ ls) rest ws) (sym q) m))
element_alive sort l ls rest ws made e dead (inr (inr (inl q))) m = absurd (no_token t.Text _ l ls rest ws made refl e (sym q) m)
element_alive sort l ls rest ws made e dead (inr (inr (inr (inl q)))) m = absurd (no_token t.Caret _ l ls rest ws made refl e (sym q) m)
element_alive sort l ls rest ws made e dead (inr (inr (inr (inr (inl q))))) m = sym q
element_alive sort l ls rest ws made e dead (inr (inr (inr (inr (inr h))))) m = absurd h

prim_only : (sort : Sort) (l : Lexeme) (ls : List Lexeme) (made other : Row) (rest rest2 : List Lexeme) (ws ws2 : List Value) → terminal_at l ≡ t.ParenL → IsOneOf made (prim_rows sort) → IsOneOf other (prim_rows sort) → Means made (l ∷ ls) rest ws → Means other (l ∷ ls) rest2 ws2 → other ≡ made
prim_only sort l ls made other rest rest2 ws ws2 e one two m k =
    elim (one_row_dead sort (l ∷ ls) e) [
      | inl dead ↦ group_alive sort l ls rest2 ws2 other e dead two k ∙ sym (group_alive sort l ls rest ws made e dead one m)
      | inr dead ↦ element_alive sort l ls rest2 ws2 other e dead two k ∙ sym (element_alive sort l ls rest ws made e dead one m)
    ]

-- ---- elsewhere the next token decides
plain_only : (part : Nonterminal) (l : Lexeme) (ls : List Lexeme) (made other : Row) (rest rest2 : List Lexeme) (ws ws2 : List Value) → is_group part (terminal_at l) ≡ false → IsOneOf made (rules part) → IsOneOf other (rules part) → Means made (l ∷ ls) rest ws → Means other (l ∷ ls) rest2 ws2 → other ≡ made
plain_only part l ls made other rest rest2 ws ws2 g one two m k = go (first_fit (rules part) (terminal_at l)) refl
  where
    go : (o : Option Row) → first_fit (rules part) (terminal_at l) ≡ o → other ≡ made
    go None e = absurd (chosen_none (rules part) (terminal_at l) e made one (means_fits made l ls rest ws (terminal_at l) refl m))
    go (Some chosen) e =
        chosen_only (rules part) (terminal_at l) (rules_decided part (terminal_at l) g) chosen e other two (means_fits other l ls rest2 ws2 (terminal_at l) refl k) (means_may 8 other l ls rest2 ws2 (terminal_at l) refl k)
        ∙ sym (chosen_only (rules part) (terminal_at l) (rules_decided part (terminal_at l) g) chosen e made one (means_fits made l ls rest ws (terminal_at l) refl m) (means_may 8 made l ls rest ws (terminal_at l) refl m))

prim_at : (sort : Sort) (part : Nonterminal) (b : Bool) (l : Lexeme) (ls : List Lexeme) (made other : Row) (rest rest2 : List Lexeme) (ws ws2 : List Value) → same t.ParenL (terminal_at l) ≡ b → is_group part (terminal_at l) ≡ b → rules part ≡ prim_rows sort → IsOneOf made (rules part) → IsOneOf other (rules part) → Means made (l ∷ ls) rest ws → Means other (l ∷ ls) rest2 ws2 → other ≡ made
prim_at sort part true l ls made other rest rest2 ws ws2 e g q one two m k =
    prim_only sort l ls made other rest rest2 ws ws2 (sym (same-true t.ParenL (terminal_at l) e)) (subst (λ (rs : List Row). IsOneOf made rs) q one) (subst (λ (rs : List Row). IsOneOf other rs) q two) m k
prim_at sort part false l ls made other rest rest2 ws ws2 e g q one two m k = plain_only part l ls made other rest rest2 ws ws2 g one two m k

only : (part : Nonterminal) (l : Lexeme) (ls : List Lexeme) (made other : Row) (rest rest2 : List Lexeme) (ws ws2 : List Value) → IsOneOf made (rules part) → IsOneOf other (rules part) → Means made (l ∷ ls) rest ws → Means other (l ∷ ls) rest2 ws2 → other ≡ made
only (n.Prim s) l ls made other rest rest2 ws ws2 one two m k = prim_at s (n.Prim s) (same t.ParenL (terminal_at l)) l ls made other rest rest2 ws ws2 refl refl refl one two m k
only part l ls made other rest rest2 ws ws2 one two m k = plain_only part l ls made other rest rest2 ws ws2 refl one two m k

part_sure : (part : Nonterminal) (made : Row) (from middle : List Lexeme) (parts : List Value) → IsOneOf made (rules part) → Means made from middle parts → ReadsRow made from middle parts → Reads part from middle (value_of part parts)
part_sure part made [] middle parts one m r = absurd (empty_means part middle (value_of part parts ∷ []) (a_part made one m ends))
part_sure part made (l ∷ ls) middle parts one m r = by_row part made (l ∷ ls) middle parts (λ other rest ws two k. only part l ls made other middle rest parts ws one two m k) r

-- what tokens stand for, they alone stand for
pub sure : {row : Row} {from to : List Lexeme} {vs : List Value} → Means row from to vs → ReadsRow row from to vs
sure (ends {ls = ls}) = row_end ls
sure (a_token {l = l} {row = row} {ls = ls} {rest = rest} {vs = vs} m) = row_token (terminal_at l) row (l ∷ ls) rest vs (sure m)
sure (an_opening {l = l} {row = row} {ls = ls} {rest = rest} {vs = vs} m) = row_opening (terminal_at l) row (l ∷ ls) rest vs (sure m)
sure (a_closing {row = row} {ls = ls} {rest = rest} {vs = vs} m) = row_closed row ls rest vs (sure m)
sure (a_bar {j = j} {l = l} {row = row} {ls = ls} {rest = rest} {vs = vs} ne m) = row_unless j row (l ∷ ls) rest vs (sure m)
sure (a_part {part = part} made {row = row} {ls = ls} {middle = middle} {rest = rest} {parts = parts} {vs = vs} one o p) =
    row_part part row ls middle rest (value_of part parts) vs (part_sure part made ls middle parts one o (sure o)) (sure p)

same_program : (P Q : ProgramTree) → definitions Q ∷ [] ≡ definitions P ∷ [] → P ≡ Q
same_program P Q e = cc

same_type : (T U : PlacedTree) → a_tree U ∷ [] ≡ a_tree T ∷ [] → T ≡ U
same_type T U e = cc

-- so do the tokens of a type, however deep it nests
pub type_sure : (ls : List Lexeme) (T U : PlacedTree) → MeansAll n.TypeText ls (a_tree T) → MeansAll n.TypeText ls (a_tree U) → T ≡ U
type_sure ls T U p q = same_type T U (sure p [] (a_tree U ∷ []) q).1

pub texts_mean_one_thing : TextsMeanOneThing
texts_mean_one_thing = record {
  programs = λ bytes P Q p q. same_program P Q (sure p.means [] (definitions Q ∷ []) q.means).1;
  types = λ bytes T U p q. same_type T U (sure p.means [] (a_tree U ∷ []) q.means).1;
}
