-- The text of definitions reads back, by induction on the definitions.
use Rattle.std.proofs.Common.{◌≡◌, ℕ, ◌+◌, ◌≤◌, ltb, ltb-true, true, false, List, [], ◌∷◌, ◌++◌, map, refl, ap, sym, subst, ◌∙◌, inl, inr, arith, append_assoc, IsUtf8}
use Rattle.std.specs.Prelude.{codes}
use Rattle.std.specs.List.{AllByRecursion}
use Rattle.std.proofs.lemmas.Str.{IsUtf8-append, IsUtf8-nil}
use Rattle.xd_base.specs.declared.Place.{Place}
use Rattle.xd_lex.specs.declared.Kind.TheVariants as kinds
use Rattle.xd_lex.specs.Scan.{front_of, symbol}
use Rattle.xd_lex.specs.Tokens.{start, after, past, tokens_from}
use Rattle.xd_lex.proofs.Canonical.{token_front}
use Rattle.xd_lex.proofs.Symbols.{IsToken, EndsWord, a_word}
use Rattle.xd_read.proofs.CanonicalLemmas.{cons_ascii, word_utf8}
use Rattle.xd_doc.specs.Word.{is_word}
use Rattle.xd_syntax.specs.Words.{has_word}
use Rattle.xd_syntax.specs.Keywords.{keywords}
use Rattle.xd_syntax.specs.Tree.{Tree, Definitions}
use Rattle.xd_syntax.specs.Table.{Row as TreeRow}
use Rattle.xd_syntax.specs.declared.types.TypeDef.{TypeDef}
use Rattle.xd_syntax.specs.Proper.{IsProperTree}
use Rattle.xd_syntax.proofs.PlacedTrees.{unplaced_at}
use Rattle.xd_syntax.specs.Placed.{PlacedTree, unplaced}
use Rattle.xd_syntax.specs.PlacedTable.{placed_at}
use Rattle.xd_syntax.specs.Program.{TypeDefinition, ProgramTree}
use Rattle.xd_syntax.specs.Kept.{TypeDefStands, type_definition, program_tree}
use Rattle.xd_syntax.specs.ProperTables.{IsTable}
use Rattle.xd_syntax.specs.TypeText.{any_type_level, type_text}
use Rattle.xd_syntax.specs.TypeDepth.{depth}
use Rattle.xd_type_laws.specs.DefinitionsText.{type_definitions, definition_line, definitions_text}
use Rattle.xd_syntax.specs.Shallow.{nesting_limit}
use Rattle.xd_grammar.specs.declared.grammar.Nonterminal.TheVariants as n
use Rattle.xd_grammar.specs.declared.grammar.Symbol.TheVariants.{Token, Part}
use Rattle.xd_grammar.specs.declared.grammar.Terminal.TheVariants as t
use Rattle.xd_grammar.specs.Grammar.{Row, end}
use Rattle.xd_parse_trees.specs.Values.{Value, mark, word, a_tree, definitions, with_type}
use Rattle.xd_parse.proofs.Spelled.{MeansAt, ends_at, token_at, part_at, levels_aside}
use Rattle.xd_type_laws.specs.ReadBackLaws.{IsMerged, IsDefinition, DefinitionsReadBack, KeptDefinitionsReadBack}
use Rattle.xd_type_laws.proofs.RowsReadLemmas.{Reads, rows_joined, read_token, derived, Starts}
use Rattle.xd_type_laws.proofs.Levels.{alt, behind_any, Follows}
use Rattle.xd_type_laws.proofs.Classes.{plain_word}
use Rattle.xd_type_laws.proofs.Utf8.{text_utf8}
use Rattle.xd_type_laws.proofs.TheLaw.{written}
use Rattle.xd_type_laws.proofs.Tables.{merged_node, proper_node}

-- ---- blanks and `=`
blank : (p : Place) (rest : List ℕ) → tokens_from 0 p (32 ∷ rest) ≡ tokens_from 0 (after p 32) rest
unfolding front_of
blank p rest = refl

line_end : (p : Place) (rest : List ℕ) → tokens_from 0 p (10 ∷ rest) ≡ tokens_from 0 (after p 10) rest
unfolding front_of
line_end p rest = refl

equals : (rest : List ℕ) → IsToken kinds.Equals (61 ∷ []) rest
unfolding front_of symbol
equals rest p = token_front (61 ∷ []) rest p kinds.Equals 1 (omega arith) refl refl

blank_first : (l d e : ℕ) (row : Row) (p : Place) (s rest : List ℕ) (vs : List Value) → Reads l d row e (after p 32) s rest vs → Reads l d row e p (32 ∷ s) rest vs
blank_first l d e row p s rest vs m = subst (λ ls. MeansAt l d row ls (tokens_from 0 (past (after p 32) s) rest) e vs) (sym (blank p (s ++ rest))) m

-- ---- a definition, up to the end of its line
abbrev the_word : List ℕ
the_word = codes "type"

-- a line without its end
abbrev line : List ℕ → List ℕ → List ℕ
line x s = the_word ++ 32 ∷ (x ++ 32 ∷ (61 ∷ 32 ∷ s))

space_ends : (rest : List ℕ) → EndsWord (32 ∷ rest)
space_ends rest = record { no_part = refl; no_bracket = refl }

line_is : (d : List ℕ × Tree) (rest : List ℕ) → definition_line d ++ rest ≡ line d.0 (type_text d.1) ++ 10 ∷ rest
line_is d rest =
    let s = type_text d.1 in
    append_assoc (codes "type " ++ d.0 ++ codes " = " ++ s) (codes "\n") rest
    ∙ ap (λ z. z ++ 10 ∷ rest) (append_assoc (codes "type " ++ d.0) (codes " = ") s ∙ append_assoc (codes "type ") d.0 (codes " = " ++ s))

type_first : (rest : List ℕ) → IsToken kinds.Word the_word (32 ∷ rest)
type_first rest = a_word the_word (32 ∷ rest) refl (space_ends rest)

-- `type`, a name, `=` and a type
abbrev definition_row : Row
definition_row = Token t.Type ∷ Token t.Word ∷ Token t.Equals ∷ Part alt ∷ []

-- where the name stands, and where the type
abbrev name_place : Place → Place
name_place p = after (past p the_word) 32

abbrev body_place : Place → List ℕ → Place
body_place p x = after (past (after (past (name_place p) x) 32) (61 ∷ [])) 32

definition_read : (l : ℕ) (p : Place) (x s rest : List ℕ) (U : PlacedTree) → is_word x ≡ true → has_word keywords x ≡ false → Reads l 0 (Part alt ∷ []) 0 (body_place p x) s rest (a_tree U ∷ []) →
    Reads l 0 definition_row 0 p (line x s) rest (mark t.Type p ∷ (word x (name_place p) ∷ (mark t.Equals (after (past (name_place p) x) 32) ∷ (a_tree U ∷ []))))
definition_read l p x s rest U w k m =
    let a = blank_first l 0 0 (Part alt ∷ []) (past (after (past (name_place p) x) 32) (61 ∷ [])) s rest _ m in
    let b = read_token l 0 0 (Part alt ∷ []) (after (past (name_place p) x) 32) kinds.Equals t.Equals (61 ∷ []) (32 ∷ s) rest _ (equals ((32 ∷ s) ++ rest)) refl a in
    let c = blank_first l 0 0 (Token t.Equals ∷ Part alt ∷ []) (past (name_place p) x) (61 ∷ 32 ∷ s) rest _ b in
    let e = read_token l 0 0 (Token t.Equals ∷ Part alt ∷ []) (name_place p) kinds.Word t.Word x (32 ∷ (61 ∷ 32 ∷ s)) rest _ (a_word x (32 ∷ ((61 ∷ 32 ∷ s) ++ rest)) w (space_ends ((61 ∷ 32 ∷ s) ++ rest))) (plain_word x k) c in
    let f = blank_first l 0 0 (Token t.Word ∷ Token t.Equals ∷ Part alt ∷ []) (past p the_word) (x ++ 32 ∷ (61 ∷ 32 ∷ s)) rest _ e in
    read_token l 0 0 (Token t.Word ∷ Token t.Equals ∷ Part alt ∷ []) p kinds.Word t.Type the_word (32 ∷ (x ++ 32 ∷ (61 ∷ 32 ∷ s))) rest _ (type_first ((x ++ 32 ∷ (61 ∷ 32 ∷ s)) ++ rest)) refl f

-- ---- after a line stands another, or the end
starts_line : (d : List ℕ × Tree) (rest : List ℕ) → Starts (10 ∷ (definition_line d ++ rest)) t.Type
starts_line d rest =
    let more = d.0 ++ 32 ∷ (61 ∷ 32 ∷ type_text d.1) in
    record {
      at = λ p. (
        record { kind = kinds.Word; text = the_word; place = after p 10 },
        tokens_from 0 (past (after p 10) the_word) (32 ∷ (more ++ 10 ∷ rest)),
        line_end p (definition_line d ++ rest) ∙ ap (tokens_from 0 (after p 10)) (line_is d rest) ∙ type_first (more ++ 10 ∷ rest) (after p 10),
        refl,
      );
    }

starts_end : Starts (10 ∷ []) t.End
starts_end = record { at = λ p. (record { kind = kinds.End; text = []; place = after p 10 }, [], line_end p [], refl) }

behind_line : (ds : Definitions) → Follows behind_any (10 ∷ definitions_text ds)
behind_line [] = record { terminal = t.End; starts = starts_end; may = refl; ends = record { no_part = refl; no_bracket = refl } }
behind_line (d ∷ ds) = record { terminal = t.Type; starts = starts_line d (definitions_text ds); may = refl; ends = record { no_part = refl; no_bracket = refl } }

-- ---- all definitions, where at most l levels are open
record AllRead (l : ℕ) (ds : Definitions) (p : Place) : Type 0 where
  program : ProgramTree
  types : type_definitions program ≡ ds
  functions : program.functions ≡ []
  means : MeansAt l 0 (Part n.Definitions ∷ []) (tokens_from 0 p (definitions_text ds)) [] 0 (definitions program ∷ [])

abbrev AreWithin : ℕ → Definitions → Type 0
AreWithin l ds = AllByRecursion (λ d. depth d.1 ≤ l) ds

first_same : (x : List ℕ) (T V : Tree) (ds es : Definitions) → V ≡ T → es ≡ ds → (x, V) ∷ es ≡ (x, T) ∷ ds
first_same x T V ds es e f = ap (λ z. (x, z) ∷ es) e ∙ ap (λ z. (x, T) ∷ z) f

all_read : (l : ℕ) (ds : Definitions) → AllByRecursion IsDefinition ds → AreWithin l ds → (p : Place) → AllRead l ds p
all_read l [] a w p = record { program = record { types = []; functions = [] }; types = refl; functions = refl; means = part_at (Token t.End ∷ []) (inr (inr (inl refl))) (token_at ends_at) ends_at }
all_read l (d ∷ ds) a w p =
    let x = d.0 in
    let s = type_text d.1 in
    let h : IsDefinition d = a.0 in
    let rest = 10 ∷ definitions_text ds in
    let r = (written d.1 h.merged h.proper).as_any.read l 0 (body_place p x) rest (omega (arith, w.0)) (behind_line ds) in
    let f = definition_read l p x s rest r.0 h.word h.plain r.2 in
    let q = past p (line x s) in
    let g = all_read l ds a.1 w.1 (after q 10) in
    let m = subst (λ ls. MeansAt l 0 (Part n.Definitions ∷ []) ls [] 0 (definitions g.program ∷ [])) (sym (line_end q (definitions_text ds))) g.means in
    let o = part_at (definition_row ++ Part n.Definitions ∷ []) (inl refl) (rows_joined f m) ends_at in
    record {
      program = with_type x (name_place p) r.0 g.program;
      types = first_same x d.1 (unplaced r.0) ds (type_definitions g.program) r.1 g.types;
      functions = g.functions;
      means = subst (λ z. MeansAt l 0 (Part n.Definitions ∷ []) (tokens_from 0 p z) [] 0 (definitions (with_type x (name_place p) r.0 g.program) ∷ [])) (sym (line_is d (definitions_text ds))) o;
    }

-- a limit that is enough
abbrev deepest : Definitions → ℕ
deepest [] = 0
deepest (d ∷ ds) = depth d.1 + deepest ds

wider : (k l : ℕ) (ds : Definitions) → k ≤ l → AreWithin k ds → AreWithin l ds
wider k l [] h w = tt
wider k l (d ∷ ds) h w = (omega (arith, h, w.0), wider k l ds h w.1)

enough : (ds : Definitions) → AreWithin (deepest ds) ds
enough [] = tt
enough (d ∷ ds) = (omega arith, wider (deepest ds) (depth d.1 + deepest ds) ds (omega arith) (enough ds))

-- ---- the text is UTF-8
ascii : (c : ℕ) (cs : List ℕ) → ltb c 128 ≡ true → IsUtf8 cs → IsUtf8 (c ∷ cs)
ascii c cs h u = cons_ascii c cs (ltb-true c 128 h) u

blank_utf8 : IsUtf8 (codes " ")
blank_utf8 = ascii 32 [] refl IsUtf8-nil

type_utf8 : IsUtf8 (codes "type ")
type_utf8 = IsUtf8-append the_word (codes " ") (word_utf8 the_word refl) blank_utf8

equals_utf8 : IsUtf8 (codes " = ")
equals_utf8 = ascii 32 (61 ∷ 32 ∷ []) refl (ascii 61 (32 ∷ []) refl blank_utf8)

line_utf8 : (d : List ℕ × Tree) → IsDefinition d → IsUtf8 (definition_line d)
line_utf8 d h =
    let a = IsUtf8-append (codes "type ") d.0 type_utf8 (word_utf8 d.0 h.word) in
    let b = IsUtf8-append (codes "type " ++ d.0) (codes " = ") a equals_utf8 in
    let c = IsUtf8-append (codes "type " ++ d.0 ++ codes " = ") (type_text d.1) b (text_utf8 any_type_level d.1 h.proper) in
    IsUtf8-append (codes "type " ++ d.0 ++ codes " = " ++ type_text d.1) (codes "\n") c (ascii 10 [] refl IsUtf8-nil)

all_utf8 : (ds : Definitions) → AllByRecursion IsDefinition ds → IsUtf8 (definitions_text ds)
all_utf8 [] a = IsUtf8-nil
all_utf8 (d ∷ ds) a = IsUtf8-append (definition_line d) (definitions_text ds) (line_utf8 d a.0) (all_utf8 ds a.1)

pub definitions_read_back : DefinitionsReadBack
definitions_read_back ds a =
    let r = all_read (deepest ds) ds a (enough ds) start in (
      record {
        program = r.program;
        spelled = record { utf8 = all_utf8 ds a; means = levels_aside r.means };
        types = r.types;
        functions = r.functions;
      },
      λ w. record { utf8 = all_utf8 ds a; spells = derived (all_read nesting_limit ds a w start).means [] (end tt) },
    )

-- ---- the definitions of a program's tables
module _ (types : List TreeRow) (table : IsTable false types) where
  a_definition : (d : TypeDef) → is_word d.name ≡ true → TypeDefStands types d → IsDefinition (d.name, unplaced (placed_at types d.body.at))
  a_definition d w s =
      let e = unplaced_at types d.body.at in
      record {
        word = w;
        plain = s.name;
        merged = subst IsMerged (sym e) (merged_node types table d.body.at s.body);
        proper = subst (IsProperTree false) (sym e) (proper_node types table d.body.at s.body);
      }

  all_definitions : (ds : List TypeDef) → AllByRecursion (λ (d : TypeDef). is_word d.name ≡ true) ds → AllByRecursion (TypeDefStands types) ds →
      AllByRecursion IsDefinition (map (λ (t : TypeDefinition). (t.name, unplaced t.body)) (map (type_definition types) ds))
  all_definitions [] a b = tt
  all_definitions (d ∷ ds) a b = (a_definition d a.0 b.0, all_definitions ds a.1 b.1)

pub kept_definitions_read_back : KeptDefinitionsReadBack
kept_definitions_read_back p k =
    definitions_read_back (type_definitions (program_tree p)) (all_definitions p.types k.proper.types p.type_defs k.proper.type_defs k.stands.type_defs)
