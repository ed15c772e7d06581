-- The canonical text of a type reads back, by induction on the type at all levels at once.
use Rattle.std.proofs.Common.{◌≡◌, ℕ, ◌+◌, ◌≤◌, true, false, cond, List, [], ◌∷◌, ◌++◌, refl, ap, sym, subst, ◌∙◌, inl, arith, append_assoc, append-nil}
use Rattle.std.specs.Prelude.{codes}
use Rattle.std.specs.List.{AllByRecursion}
use Rattle.xd_lex.specs.declared.Kind.TheVariants as kinds
use Rattle.xd_lex.specs.Tokens.{Lexeme, start, past, tokens_from, tokens_of}
use Rattle.xd_syntax.specs.Tree.{Tree, Empty, Text, Words, Name, Elem, Seq, Alt, Star, Plus, Opt, Val, seq_of, is_empty}
use Rattle.xd_syntax.specs.TreeForms.{alt_of}
use Rattle.xd_syntax.specs.Proper.{IsProperTree}
use Rattle.xd_syntax.specs.Placed.{PlacedTree, unplaced}
use Rattle.xd_syntax.specs.TypeText.{any_type_level, sequence_level, postfix_level, primary_level, text_at_level, type_text}
use Rattle.xd_syntax.specs.TypeDepth.{depth, depth_at_level}
use Rattle.xd_syntax.specs.Shallow.{nesting_limit}
use Rattle.xd_grammar.specs.declared.grammar.Nonterminal.TheVariants as n
use Rattle.xd_grammar.specs.declared.grammar.Sort.TheVariants as sorts
use Rattle.xd_grammar.specs.declared.grammar.Symbol.TheVariants.{Token, Part}
use Rattle.xd_grammar.specs.declared.grammar.Terminal.TheVariants as t
use Rattle.xd_grammar.specs.Grammar.{end}
use Rattle.xd_grammar.specs.Text.{SpellsText}
use Rattle.xd_parse_trees.specs.Means.{MeansAll}
use Rattle.xd_parse_trees.specs.Values.{mark, a_tree}
use Rattle.xd_parse.proofs.Sure.{type_sure}
use Rattle.xd_parse.proofs.Spelled.{MeansAt, ends_at, token_at, part_at, levels_aside}
use Rattle.xd_type_laws.specs.ReadBackLaws.{IsMerged, TypesReadBack}
use Rattle.xd_type_laws.proofs.RowsReadLemmas.{rows_joined, derived}
use Rattle.xd_type_laws.proofs.Levels.{Spells, SpellsList, Follows, prim, post, seq, alt, behind_prim, behind_post, behind_sequence, behind_any, IsSeqPart, IsAltPart, in_parentheses, nothing, no_operator, with_star, with_plus, with_query, one_part, more_part, one_branch, more_branch, as_sequence, as_alternative, one_sequence, one_alternative}
use Rattle.xd_type_laws.proofs.Classes.{a_name, all_texts_read, words_spelled, same_class, same_labels, SpellsContent, no_content, a_content, element}
use Rattle.xd_type_laws.proofs.Utf8.{text_utf8}

abbrev seq_parts : Tree → List Tree
seq_parts (Seq T U) = T ∷ seq_parts U
seq_parts T = T ∷ []

abbrev alt_parts : Tree → List Tree
alt_parts (Alt T U) = T ∷ alt_parts U
alt_parts T = T ∷ []

abbrev AreParts : List ℕ → List Tree → ℕ → Type 0
AreParts = SpellsList post (n.MoreParts sorts.Type) behind_sequence

abbrev AreBranches : List ℕ → List Tree → ℕ → Type 0
AreBranches = SpellsList seq (n.MoreBranches sorts.Type) behind_any

pub record Written (T : Tree) : Type 0 where
  as_prim : Spells prim behind_prim (text_at_level primary_level T) T (depth_at_level primary_level T)
  as_post : Spells post behind_post (text_at_level postfix_level T) T (depth_at_level postfix_level T)
  as_seq : Spells seq behind_sequence (text_at_level sequence_level T) T (depth_at_level sequence_level T)
  pub as_any : Spells alt behind_any (text_at_level any_type_level T) T (depth_at_level any_type_level T)
  parts : AreParts (text_at_level sequence_level T) (seq_parts T) (depth_at_level sequence_level T)
  branches : AreBranches (text_at_level any_type_level T) (alt_parts T) (depth_at_level any_type_level T)

record FromPost (s : List ℕ) (T : Tree) (k : ℕ) : Type 0 where
  as_seq : Spells seq behind_sequence s T k
  as_any : Spells alt behind_any s T k
  parts : AreParts s (T ∷ []) k
  branches : AreBranches s (T ∷ []) k

from_post : (s : List ℕ) (T : Tree) (k : ℕ) → Spells post behind_post s T k → FromPost s T k
from_post s T k a =
    let b = one_sequence s T k a in
    record { as_seq = b; as_any = one_alternative s T k b; parts = one_part s T k a; branches = one_branch s T k b }

content_of : (T : Tree) → Spells alt behind_any (text_at_level any_type_level T) T (depth_at_level any_type_level T) →
    SpellsContent (cond (is_empty T) [] (text_at_level any_type_level T)) T (cond (is_empty T) 0 (depth_at_level any_type_level T) + 1)
content_of Empty a = no_content
content_of T a = a_content _ T _ a

-- ---- lists of parts are the type again
first_part : (T U : Tree) → seq_of (T ∷ seq_parts U) ≡ Seq T (seq_of (seq_parts U))
first_part T (Seq A B) = refl
first_part T U = refl

seq_again : (T : Tree) → seq_of (seq_parts T) ≡ T
seq_again (Seq A B) = first_part A B ∙ ap (Seq A) (seq_again B)
seq_again T = refl

first_branch : (T U : Tree) → alt_of (T ∷ alt_parts U) ≡ Alt T (alt_of (alt_parts U))
first_branch T (Alt A B) = refl
first_branch T U = refl

alt_again : (T : Tree) → alt_of (alt_parts T) ≡ T
alt_again (Alt A B) = first_branch A B ∙ ap (Alt A) (alt_again B)
alt_again T = refl

parts_fit : (T : Tree) → IsMerged T → is_empty T ≡ false → AllByRecursion IsSeqPart (seq_parts T)
parts_fit (Seq A B) m e = ((m.0, m.1), parts_fit B m.4 m.2)
parts_fit Empty m e = absurd (let z : true ≡ false = e in cc)
parts_fit T m e = ((refl, refl), tt)

branches_fit : (T : Tree) → IsMerged T → AllByRecursion IsAltPart (alt_parts T)
branches_fit (Alt A B) m = (m.0, branches_fit B m.2)
branches_fit T m = (refl, tt)

from_prim : (s : List ℕ) (T : Tree) (k : ℕ) → Spells prim behind_prim s T k → FromPost s T k
from_prim s T k a = from_post s T k (no_operator s T k a)

comma_split : (s r : List ℕ) (Ts : List Tree) (k : ℕ) → AreParts (s ++ 44 ∷ r) Ts k → AreParts (s ++ codes "," ++ r) Ts k
comma_split s r Ts k a = subst (λ x. AreParts x Ts k) (sym (append_assoc s (44 ∷ []) r)) a

bar_split : (s r : List ℕ) (Ts : List Tree) (k : ℕ) → AreBranches (s ++ 124 ∷ r) Ts k → AreBranches (s ++ codes "|" ++ r) Ts k
bar_split s r Ts k a = subst (λ x. AreBranches x Ts k) (sym (append_assoc s (124 ∷ []) r)) a

pub written : (T : Tree) → IsMerged T → IsProperTree false T → Written T
written Empty m p = let f = from_prim _ Empty 1 nothing in record { as_prim = nothing; as_post = no_operator _ Empty 1 nothing; as_seq = f.as_seq; as_any = f.as_any; parts = f.parts; branches = f.branches }
written Text m p = let f = from_prim _ Text 0 all_texts_read in record { as_prim = all_texts_read; as_post = no_operator _ Text 0 all_texts_read; as_seq = f.as_seq; as_any = f.as_any; parts = f.parts; branches = f.branches }
written (Words w) m p =
    let a = words_spelled w.except w.names w (same_class w p) m in
    let f = from_prim _ (Words w) _ a in
    record { as_prim = a; as_post = no_operator _ (Words w) _ a; as_seq = f.as_seq; as_any = f.as_any; parts = f.parts; branches = f.branches }
written (Name x) m p =
    let a = a_name x p m in
    let f = from_prim _ (Name x) _ a in
    record { as_prim = a; as_post = no_operator _ (Name x) _ a; as_seq = f.as_seq; as_any = f.as_any; parts = f.parts; branches = f.branches }
written (Elem c T) m p =
    let w = written T m p.1 in
    let a = element c.except c.names _ c T _ (same_labels c p.0) (p.0).words (p.0).filled (content_of T w.as_any) (omega arith) in
    let f = from_prim _ (Elem c T) _ a in
    record { as_prim = a; as_post = no_operator _ (Elem c T) _ a; as_seq = f.as_seq; as_any = f.as_any; parts = f.parts; branches = f.branches }
written (Seq T U) m p =
    let v = written T m.3 p.0 in
    let w = written U m.4 p.1 in
    let ps = comma_split _ _ _ _ (more_part _ _ T (seq_parts U) _ _ v.as_post w.parts) in
    let s = as_sequence _ (Seq T U) (T ∷ seq_parts U) _ ps (seq_again (Seq T U)) (parts_fit (Seq T U) m refl) in
    let a = one_alternative _ (Seq T U) _ s in
    let q = in_parentheses _ (Seq T U) _ a in
    record { as_prim = q; as_post = no_operator _ (Seq T U) _ q; as_seq = s; as_any = a; parts = ps; branches = one_branch _ (Seq T U) _ s }
written (Alt T U) m p =
    let v = written T m.1 p.0 in
    let w = written U m.2 p.1 in
    let bs = bar_split _ _ _ _ (more_branch _ _ T (alt_parts U) _ _ v.as_seq w.branches) in
    let a = as_alternative _ (Alt T U) (T ∷ alt_parts U) _ bs (alt_again (Alt T U)) (branches_fit (Alt T U) m) in
    let q = in_parentheses _ (Alt T U) _ a in
    let f = from_prim _ (Alt T U) _ q in
    record { as_prim = q; as_post = no_operator _ (Alt T U) _ q; as_seq = f.as_seq; as_any = a; parts = f.parts; branches = bs }
written (Star T) m p =
    let o = with_star _ T _ (written T m p).as_prim in
    let f = from_post _ (Star T) _ o in
    record { as_prim = in_parentheses _ (Star T) _ f.as_any; as_post = o; as_seq = f.as_seq; as_any = f.as_any; parts = f.parts; branches = f.branches }
written (Plus T) m p =
    let o = with_plus _ T _ (written T m p).as_prim in
    let f = from_post _ (Plus T) _ o in
    record { as_prim = in_parentheses _ (Plus T) _ f.as_any; as_post = o; as_seq = f.as_seq; as_any = f.as_any; parts = f.parts; branches = f.branches }
written (Opt T) m p =
    let o = with_query _ T _ (written T m p).as_prim in
    let f = from_post _ (Opt T) _ o in
    record { as_prim = in_parentheses _ (Opt T) _ f.as_any; as_post = o; as_seq = f.as_seq; as_any = f.as_any; parts = f.parts; branches = f.branches }
written (Val x T) m p = absurd m

-- ---- whole texts
abbrev the_end : List ℕ → Lexeme
the_end s = record { kind = kinds.End; text = []; place = past start s }

at_end : Follows behind_any []
at_end = record { terminal = t.End; starts = record { at = λ p. (record { kind = kinds.End; text = []; place = p }, [], refl, refl) }; may = refl; ends = record { no_part = refl; no_bracket = refl } }

whole : (l : ℕ) (s : List ℕ) (U : PlacedTree) → MeansAt l 0 (Part alt ∷ []) (tokens_from 0 start (s ++ [])) (the_end s ∷ []) 0 (a_tree U ∷ []) → MeansAt l 0 (Part n.TypeText ∷ []) (tokens_of s) [] 0 (a_tree U ∷ [])
whole l s U m =
    let e : MeansAt l 0 (Token t.End ∷ []) (the_end s ∷ []) [] 0 (mark t.End (past start s) ∷ []) = token_at ends_at in
    let a = subst (λ x. MeansAt l 0 (Part alt ∷ []) (tokens_from 0 start x) (the_end s ∷ []) 0 (a_tree U ∷ [])) (append-nil s) m in
    part_at (Part alt ∷ Token t.End ∷ []) (inl refl) (rows_joined a e) ends_at

-- the tokens of the text stand for the type, however deep it nests
pub text_means : (T : Tree) → IsMerged T → IsProperTree false T → (U : PlacedTree) × MeansAll n.TypeText (tokens_of (type_text T)) (a_tree U) × (unplaced U ≡ T)
text_means T m p =
    let l = depth_at_level any_type_level T in
    let r = (written T m p).as_any.read l 0 start [] (omega arith) at_end in
    (r.0, levels_aside (whole l (type_text T) r.0 r.2), r.1)

-- no deeper than a text may be nested, it spells a type within the limit
within : (T : Tree) → IsMerged T → IsProperTree false T → depth T ≤ nesting_limit → SpellsText n.TypeText (type_text T)
within T m p h =
    let r = (written T m p).as_any.read nesting_limit 0 start [] (omega (arith, h)) at_end in
    record { utf8 = text_utf8 any_type_level T p; spells = derived (whole nesting_limit (type_text T) r.0 r.2) [] (end tt) }

pub types_read_back : TypesReadBack
types_read_back T m p =
    let r = text_means T m p in
    record { placed = r.0; spelled = record { utf8 = text_utf8 any_type_level T p; means = r.1 }; same = r.2; within = within T m p }

-- types of one text are equal
pub one_type : (T U : Tree) → IsMerged T → IsProperTree false T → IsMerged U → IsProperTree false U → type_text T ≡ type_text U → T ≡ U
one_type T U m p k q e =
    let a = text_means T m p in
    let b = text_means U k q in
    let c = subst (λ s. MeansAll n.TypeText (tokens_of s) (a_tree b.0)) (sym e) b.1 in
    sym a.2 ∙ ap unplaced (type_sure (tokens_of (type_text T)) a.0 b.0 a.1 c) ∙ b.2
