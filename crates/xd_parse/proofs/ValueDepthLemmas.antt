-- The types that a text stands for are no deeper than its nesting.
use Rattle.std.proofs.Common.{◌≡◌, ◌<◌, ◌≤◌, ◌+◌, ℕ, zero, suc, ◌⊎◌, Bool, true, false, cond, List, [], ◌∷◌, refl, sym, ap, subst, ◌∙◌, inl, inr, arith}
use Rattle.std.specs.List.{AllByRecursion}
use Rattle.xd_base.specs.declared.Place.{Place}
use Rattle.xd_doc.specs.Classes.{LabelClass}
use Rattle.xd_lex.specs.Tokens.{Lexeme}
use Rattle.xd_syntax.specs.Tree.{is_empty}
use Rattle.xd_syntax.specs.Placed.{PlacedTree, Empty_at, Text_at, Words_at, Name_at, Elem_at, Seq_at, Alt_at, Star_at, Plus_at, Opt_at, Val_at, unplaced}
use Rattle.xd_syntax.specs.Program.{TypeDefinition, Parameter, FunctionDefinition, ProgramTree}
use Rattle.xd_grammar.specs.declared.grammar.Nonterminal.{Nonterminal}
use Rattle.xd_grammar.specs.declared.grammar.Nonterminal.TheVariants as n
use Rattle.xd_grammar.specs.declared.grammar.Sort.TheVariants as sorts
use Rattle.xd_grammar.specs.declared.grammar.Symbol.TheVariants.{Token, Opening, Closed, Unless, Part}
use Rattle.xd_grammar.specs.declared.grammar.Terminal.{Terminal}
use Rattle.xd_grammar.specs.declared.grammar.Terminal.TheVariants as t
use Rattle.xd_doc.specs.Members.{IsOneOf}
use Rattle.xd_grammar.specs.Grammar.{Row, rules}
use Rattle.xd_grammar.specs.Text.{terminal_at}
use Rattle.xd_syntax.specs.TypeDepth.{list_depth}
use Rattle.xd_doc.specs.ByteOrder.{in_byte_order}
use Rattle.xd_parse_trees.specs.Merged.{class_of}
use Rattle.xd_parse_trees.specs.Values.{Value, mark, word, label, a_text, absent, a_tree, trees, class, names, texts, labelled, token_of, an_expression, a_parameter, parameters, definitions, token_value, value_of}
use Rattle.xd_parse_trees.proofs.Depth.{plain, any_depth, AnyWithin, SeqWithin, PostWithin, PrimWithin, prim_post, any_prim, sequence_within, alternative_within, repeated_within, named_within}
use Rattle.xd_parse.proofs.Spelled.{MeansAt, ends_at, token_at, opening_at, closing_at, bar_at, part_at, MeansWithin}

-- ---- levels after a row
abbrev before_one : ℕ → ℕ
before_one zero = zero
before_one (suc d) = d

abbrev after : Nonterminal → ℕ → ℕ
after n.Class d = suc d
after n.Labels d = suc d
after (n.Group s) d = before_one d
after (n.ExceptedList s) d = before_one d
after (n.Content s) d = before_one d
after n.ExprContent d = before_one d
after n.ParenContent d = before_one d
after part d = d

abbrev out : Row → ℕ → ℕ
out [] d = d
out (Token k ∷ row) d = out row d
out (Opening k ∷ row) d = out row (suc d)
out (Closed ∷ row) d = out row (before_one d)
out (Unless j ∷ row) d = out row d
out (Part part ∷ row) d = out row (after part d)

abbrev AllOut : Nonterminal → List Row → Type 0
AllOut part [] = Unit {0}
AllOut part (r ∷ rs) = ((d : ℕ) → out r d ≡ after part d) × AllOut part rs

all_out : (part : Nonterminal) → AllOut part (rules part)
all_out n.Definitions = (λ d. refl, (λ d. refl, (λ d. refl, tt)))
all_out n.Param = (λ d. refl, tt)
all_out n.MoreParams = (λ d. refl, (λ d. refl, tt))
all_out n.TypeText = (λ d. refl, tt)
all_out (n.Alternative s) = (λ d. refl, tt)
all_out (n.MoreBranches s) = (λ d. refl, (λ d. refl, tt))
all_out (n.Sequence s) = (λ d. refl, tt)
all_out (n.MoreParts s) = (λ d. refl, (λ d. refl, tt))
all_out (n.Post sorts.Type) = (λ d. refl, tt)
all_out (n.Prim s) = (λ d. refl, (λ d. refl, (λ d. refl, (λ d. refl, (λ d. refl, tt)))))
all_out (n.Excepted s) = (λ d. refl, (λ d. refl, (λ d. refl, tt)))
all_out (n.ExceptedList s) = (λ d. refl, (λ d. refl, tt))
all_out (n.Group s) = (λ d. refl, (λ d. refl, tt))
all_out (n.Content s) = (λ d. refl, (λ d. refl, tt))
all_out (n.Post sorts.Pattern) = (λ d. refl, (λ d. refl, tt))
all_out n.Bound = (λ d. refl, (λ d. refl, tt))
all_out n.Operator = (λ d. refl, (λ d. refl, (λ d. refl, (λ d. refl, tt))))
all_out n.Class = (λ d. refl, (λ d. refl, tt))
all_out n.Labels = (λ d. refl, (λ d. refl, tt))
all_out n.Names = (λ d. refl, tt)
all_out n.MoreNames = (λ d. refl, (λ d. refl, tt))
all_out n.MoreTexts = (λ d. refl, (λ d. refl, tt))
all_out n.AnyWord = (λ d. refl, (λ d. refl, (λ d. refl, (λ d. refl, (λ d. refl, (λ d. refl, (λ d. refl, tt)))))))
all_out n.Expr = (λ d. refl, tt)
all_out n.MoreItems = (λ d. refl, (λ d. refl, tt))
all_out n.Item = (λ d. refl, (λ d. refl, (λ d. refl, (λ d. refl, (λ d. refl, tt)))))
all_out n.ExprContent = (λ d. refl, (λ d. refl, tt))
all_out n.Paren = (λ d. refl, tt)
all_out n.ParenContent = (λ d. refl, (λ d. refl, tt))
all_out n.MoreParens = (λ d. refl, (λ d. refl, tt))
all_out n.Clause = (λ d. refl, tt)
all_out n.MoreClauses = (λ d. refl, (λ d. refl, tt))

out_of : (part : Nonterminal) (rs : List Row) (made : Row) → AllOut part rs → IsOneOf made rs → (d : ℕ) → out made d ≡ after part d
out_of part [] made a one d = absurd one
out_of part (r ∷ rs) made a (inl e) d = ap (λ (x : Row). out x d) (sym e) ∙ a.0 d
out_of part (r ∷ rs) made a (inr one) d = out_of part rs made a.1 one d

levels : {limit d e : ℕ} {row : Row} {from to : List Lexeme} {vs : List Value} → MeansAt limit d row from to e vs → out row d ≡ e
levels ends_at = refl
levels (token_at m) = levels m
levels (opening_at h m) = levels m
levels (closing_at m) = levels m
levels (bar_at ne m) = levels m
levels (part_at {d = d} {m = m} {part = part} made {row = row} one o p) = ap (λ (x : ℕ). out row x) (sym (out_of part (rules part) made (all_out part) one d) ∙ levels o) ∙ levels p

-- ---- what is known of the types in a value
abbrev pub TypeDefWithin : (l d : ℕ) → TypeDefinition → Type 0
TypeDefWithin l d t = AnyWithin l d t.body

abbrev pub ParamWithin : (l d : ℕ) → Parameter → Type 0
ParamWithin l d q = AnyWithin l d q.declared

abbrev pub FunctionWithin : (l d : ℕ) → FunctionDefinition → Type 0
FunctionWithin l d f = AllByRecursion (ParamWithin l d) f.parameters × AnyWithin l d f.declared

abbrev pub ProgramWithin : (l d : ℕ) → ProgramTree → Type 0
ProgramWithin l d P = AllByRecursion (TypeDefWithin l d) P.types × AllByRecursion (FunctionWithin l d) P.functions

-- the content of an element is at most so deep, unless it is empty
abbrev ContentWithin : (l d : ℕ) → PlacedTree → Type 0
ContentWithin l d T = (is_empty (unplaced T) ≡ true) ⊎ AnyWithin l d T

abbrev pub Within : (l : ℕ) → Nonterminal → (d : ℕ) → Value → Type 0
Within l n.Definitions d (definitions P) = ProgramWithin l d P
Within l n.Param d (a_parameter q) = ParamWithin l d q
Within l n.MoreParams d (parameters qs) = AllByRecursion (ParamWithin l d) qs
Within l n.TypeText d (a_tree T) = AnyWithin l d T
Within l (n.Alternative sorts.Type) d (a_tree T) = AnyWithin l d T
Within l (n.MoreBranches sorts.Type) d (trees Ts) = AllByRecursion (SeqWithin l d) Ts
Within l (n.Sequence sorts.Type) d (a_tree T) = SeqWithin l d T
Within l (n.MoreParts sorts.Type) d (trees Ts) = AllByRecursion (PostWithin l d) Ts
Within l (n.Post sorts.Type) d (a_tree T) = PostWithin l d T
Within l (n.Prim sorts.Type) d (a_tree T) = PrimWithin l d T
Within l (n.Group sorts.Type) d (a_tree T) = AnyWithin l d T
Within l (n.Group sorts.Type) d (labelled ws T) = ContentWithin l (suc (before_one d)) T
Within l (n.Excepted sorts.Type) d (texts ss) = d + list_depth (in_byte_order ss) ≤ l
Within l (n.Excepted sorts.Type) d (labelled ws T) = (d < l) × ContentWithin l (suc d) T
Within l (n.Excepted sorts.Type) d absent = d < l
Within l (n.Excepted sorts.Type) d (a_tree T) = ⊥
Within l (n.ExceptedList sorts.Type) d (labelled ws T) = ContentWithin l (suc (before_one d)) T
Within l (n.ExceptedList sorts.Type) d (a_tree T) = ContentWithin l d T
Within l (n.Content sorts.Type) d (labelled ws T) = ContentWithin l (suc (before_one d)) T
Within l (n.Content sorts.Type) d (a_tree T) = ContentWithin l d T
Within l n.Class d v = d < l
Within l n.Labels d v = d < l
Within l part d v = Unit {0}

-- what a token may stand for
abbrev IsOf : Terminal → Value → Type 0
IsOf t.Text (a_text s p) = Unit {0}
IsOf t.Text v = ⊥
IsOf k v = Unit {0}

is_of : (k : Terminal) (s : List ℕ) (p : Place) → IsOf k (token_of k s p)
is_of t.Text s p = tt
is_of k s p = tt

abbrev RowWithin : (l : ℕ) → Row → (d : ℕ) → List Value → Type 0
RowWithin l [] d vs = (vs ≡ []) × (d ≤ l)
RowWithin l (Token k ∷ row) d vs = (v : Value) × (us : List Value) × (vs ≡ v ∷ us) × ((d ≤ l) × IsOf k v) × RowWithin l row d us
RowWithin l (Opening k ∷ row) d vs = (v : Value) × (us : List Value) × (vs ≡ v ∷ us) × (d < l) × RowWithin l row (suc d) us
RowWithin l (Closed ∷ row) d vs = RowWithin l row (before_one d) vs
RowWithin l (Unless j ∷ row) d vs = RowWithin l row d vs
RowWithin l (Part part ∷ row) d vs = (v : Value) × (us : List Value) × (vs ≡ v ∷ us) × Within l part d v × RowWithin l row (after part d) us

-- ---- the values of a row, one after the other
one_value : (vs us : List Value) (v : Value) → vs ≡ v ∷ us → us ≡ [] → vs ≡ v ∷ []
one_value vs us v e f = e ∙ ap (λ xs. v ∷ xs) f

then_values : (vs us ws : List Value) (v : Value) → vs ≡ v ∷ us → us ≡ ws → vs ≡ v ∷ ws
then_values vs us ws v e f = e ∙ ap (λ xs. v ∷ xs) f

empty_plain : (T : PlacedTree) → is_empty (unplaced T) ≡ true → plain T
empty_plain (Empty_at p) e = tt
empty_plain (Text_at p) e = cc
empty_plain (Words_at p w) e = cc
empty_plain (Name_at p x) e = cc
empty_plain (Elem_at p c T) e = cc
empty_plain (Seq_at p T U) e = cc
empty_plain (Alt_at p T U) e = cc
empty_plain (Star_at p T) e = cc
empty_plain (Plus_at p T) e = cc
empty_plain (Opt_at p T) e = cc
empty_plain (Val_at p x q T) e = cc

empty_within : (l d : ℕ) (T : PlacedTree) → d < l → is_empty (unplaced T) ≡ true → PrimWithin l d T
empty_within l d (Empty_at p) h e = (tt, omega arith)
empty_within l d (Text_at p) h e = cc
empty_within l d (Words_at p w) h e = cc
empty_within l d (Name_at p x) h e = cc
empty_within l d (Elem_at p c T) h e = cc
empty_within l d (Seq_at p T U) h e = cc
empty_within l d (Alt_at p T U) h e = cc
empty_within l d (Star_at p T) h e = cc
empty_within l d (Plus_at p T) h e = cc
empty_within l d (Opt_at p T) h e = cc
empty_within l d (Val_at p x q T) h e = cc

element_within : (b : Bool) (a d l : ℕ) → suc d + a ≤ l → d + (cond b 0 a + 1) ≤ l
element_within true a d l h = omega arith
element_within false a d l h = omega arith

-- ---- each row
type_two : (l d : ℕ) (v w : Value) → Within l (n.Sequence sorts.Type) d v → Within l (n.MoreBranches sorts.Type) d w → Within l (n.Alternative sorts.Type) d (value_of (n.Alternative sorts.Type) (v ∷ (w ∷ [])))
type_two l d (a_tree T) (trees Ts) a b = alternative_within l d T Ts a b
type_two l d v w a b = tt

type_row : (l d : ℕ) (ps : List Value) → RowWithin l (Part (n.Sequence sorts.Type) ∷ Part (n.MoreBranches sorts.Type) ∷ []) d ps → Within l (n.Alternative sorts.Type) d (value_of (n.Alternative sorts.Type) ps)
type_row l d ps r =
    let s = r.4 in let q : ps ≡ r.0 ∷ (s.0 ∷ []) = then_values ps r.1 (s.0 ∷ []) r.0 r.2 (one_value r.1 s.1 s.0 s.2 s.4.0) in
    subst (λ (x : List Value). Within l (n.Alternative sorts.Type) d (value_of (n.Alternative sorts.Type) x)) (sym q) (type_two l d r.0 s.0 r.3 s.3)

seq_two : (l d : ℕ) (v w : Value) → Within l (n.Post sorts.Type) d v → Within l (n.MoreParts sorts.Type) d w → Within l (n.Sequence sorts.Type) d (value_of (n.Sequence sorts.Type) (v ∷ (w ∷ [])))
seq_two l d (a_tree T) (trees Ts) a b = sequence_within l d T Ts a b
seq_two l d v w a b = tt

seq_row : (l d : ℕ) (ps : List Value) → RowWithin l (Part (n.Post sorts.Type) ∷ Part (n.MoreParts sorts.Type) ∷ []) d ps → Within l (n.Sequence sorts.Type) d (value_of (n.Sequence sorts.Type) ps)
seq_row l d ps r =
    let s = r.4 in let q : ps ≡ r.0 ∷ (s.0 ∷ []) = then_values ps r.1 (s.0 ∷ []) r.0 r.2 (one_value r.1 s.1 s.0 s.2 s.4.0) in
    subst (λ (x : List Value). Within l (n.Sequence sorts.Type) d (value_of (n.Sequence sorts.Type) x)) (sym q) (seq_two l d r.0 s.0 r.3 s.3)

more_two : (l d : ℕ) (u v w : Value) → Within l (n.Sequence sorts.Type) d v → Within l (n.MoreBranches sorts.Type) d w → Within l (n.MoreBranches sorts.Type) d (value_of (n.MoreBranches sorts.Type) (u ∷ (v ∷ (w ∷ []))))
more_two l d (mark k p) (a_tree T) (trees Ts) a b = (a, b)
more_two l d u v w a b = tt

more_row : (l d : ℕ) (ps : List Value) → RowWithin l (Token t.Bar ∷ Part (n.Sequence sorts.Type) ∷ Part (n.MoreBranches sorts.Type) ∷ []) d ps → Within l (n.MoreBranches sorts.Type) d (value_of (n.MoreBranches sorts.Type) ps)
more_row l d ps r =
    let s = r.4 in let m = s.4 in
    let q : ps ≡ r.0 ∷ (s.0 ∷ (m.0 ∷ [])) = then_values ps r.1 (s.0 ∷ (m.0 ∷ [])) r.0 r.2 (then_values r.1 s.1 (m.0 ∷ []) s.0 s.2 (one_value s.1 m.1 m.0 m.2 m.4.0)) in
    subst (λ (x : List Value). Within l (n.MoreBranches sorts.Type) d (value_of (n.MoreBranches sorts.Type) x)) (sym q) (more_two l d r.0 s.0 m.0 s.3 m.3)

none_row : (l d : ℕ) (ps : List Value) → ps ≡ [] → Within l (n.MoreBranches sorts.Type) d (value_of (n.MoreBranches sorts.Type) ps)
none_row l d ps e = subst (λ (x : List Value). Within l (n.MoreBranches sorts.Type) d (value_of (n.MoreBranches sorts.Type) x)) (sym e) tt

parts_two : (l d : ℕ) (u v w : Value) → Within l (n.Post sorts.Type) d v → Within l (n.MoreParts sorts.Type) d w → Within l (n.MoreParts sorts.Type) d (value_of (n.MoreParts sorts.Type) (u ∷ (v ∷ (w ∷ []))))
parts_two l d (mark k p) (a_tree T) (trees Ts) a b = (a, b)
parts_two l d u v w a b = tt

parts_row : (l d : ℕ) (ps : List Value) → RowWithin l (Token t.Comma ∷ Part (n.Post sorts.Type) ∷ Part (n.MoreParts sorts.Type) ∷ []) d ps → Within l (n.MoreParts sorts.Type) d (value_of (n.MoreParts sorts.Type) ps)
parts_row l d ps r =
    let s = r.4 in let m = s.4 in
    let q : ps ≡ r.0 ∷ (s.0 ∷ (m.0 ∷ [])) = then_values ps r.1 (s.0 ∷ (m.0 ∷ [])) r.0 r.2 (then_values r.1 s.1 (m.0 ∷ []) s.0 s.2 (one_value s.1 m.1 m.0 m.2 m.4.0)) in
    subst (λ (x : List Value). Within l (n.MoreParts sorts.Type) d (value_of (n.MoreParts sorts.Type) x)) (sym q) (parts_two l d r.0 s.0 m.0 s.3 m.3)

no_parts_row : (l d : ℕ) (ps : List Value) → ps ≡ [] → Within l (n.MoreParts sorts.Type) d (value_of (n.MoreParts sorts.Type) ps)
no_parts_row l d ps e = subst (λ (x : List Value). Within l (n.MoreParts sorts.Type) d (value_of (n.MoreParts sorts.Type) x)) (sym e) tt

marked : (l d : ℕ) (k : Terminal) (p : Place) (w : Value) → Within l (n.Post sorts.Type) d (value_of (n.Post sorts.Type) (mark k p ∷ (w ∷ [])))
marked l d k p (word x q) = tt
marked l d k p w = tt

post_two : (l d : ℕ) (v w : Value) → Within l (n.Prim sorts.Type) d v → Within l (n.Post sorts.Type) d (value_of (n.Post sorts.Type) (v ∷ (w ∷ [])))
post_two l d (a_tree T) absent a = prim_post l d T a
post_two l d (a_tree T) (mark k p) a = repeated_within l d k T a
post_two l d (mark k p) w a = marked l d k p w
post_two l d v w a = tt

post_row : (l d : ℕ) (ps : List Value) → RowWithin l (Part (n.Prim sorts.Type) ∷ Part n.Operator ∷ []) d ps → Within l (n.Post sorts.Type) d (value_of (n.Post sorts.Type) ps)
post_row l d ps r =
    let s = r.4 in let q : ps ≡ r.0 ∷ (s.0 ∷ []) = then_values ps r.1 (s.0 ∷ []) r.0 r.2 (one_value r.1 s.1 s.0 s.2 s.4.0) in
    subst (λ (x : List Value). Within l (n.Post sorts.Type) d (value_of (n.Post sorts.Type) x)) (sym q) (post_two l d r.0 s.0 r.3)

prim_one : (l d : ℕ) (v : Value) → d ≤ l → Within l (n.Prim sorts.Type) d (value_of (n.Prim sorts.Type) (v ∷ []))
prim_one l d (word x p) h = named_within l d x p h
prim_one l d (a_text s p) h = (tt, omega arith)
prim_one l d v h = tt

word_row : (l d : ℕ) (ps : List Value) → RowWithin l (Token t.Word ∷ []) d ps → Within l (n.Prim sorts.Type) d (value_of (n.Prim sorts.Type) ps)
word_row l d ps r = subst (λ (x : List Value). Within l (n.Prim sorts.Type) d (value_of (n.Prim sorts.Type) x)) (sym (one_value ps r.1 r.0 r.2 r.4.0)) (prim_one l d r.0 r.3.0)

quoted_row : (l d : ℕ) (ps : List Value) → RowWithin l (Token t.Text ∷ []) d ps → Within l (n.Prim sorts.Type) d (value_of (n.Prim sorts.Type) ps)
quoted_row l d ps r = subst (λ (x : List Value). Within l (n.Prim sorts.Type) d (value_of (n.Prim sorts.Type) x)) (sym (one_value ps r.1 r.0 r.2 r.4.0)) (prim_one l d r.0 r.3.0)

in_parentheses : (l d : ℕ) (T : PlacedTree) → d < l → ContentWithin l (suc d) T → PrimWithin l d T
in_parentheses l d T h (inl e) = empty_within l d T h e
in_parentheses l d T h (inr a) = any_prim l d T a

in_element : (l d : ℕ) (p : Place) (c : LabelClass) (T : PlacedTree) → d < l → ContentWithin l (suc d) T → PrimWithin l d (Elem_at p c T)
in_element l d p c T h (inl e) = (empty_plain T e, rw e (omega arith))
in_element l d p c T h (inr a) = (a.0, element_within (is_empty (unplaced T)) (any_depth T) d l a.1)

listed : (l d : ℕ) (ss : List (List ℕ)) → d < l → d + list_depth ss ≤ l
listed l d [] h = omega arith
listed l d (s ∷ []) h = omega arith
listed l d (s ∷ (t ∷ ts)) h = omega arith

prim_two : (l d : ℕ) (v w : Value) → d < l → Within l (n.Content sorts.Type) (suc d) w → Within l (n.Prim sorts.Type) d (value_of (n.Prim sorts.Type) (v ∷ (w ∷ [])))
prim_two l d (mark k p) absent h a = (tt, omega arith)
prim_two l d (mark k p) (a_tree T) h a = in_parentheses l d T h a
prim_two l d (mark k p) (texts ss) h a = (tt, listed l d (in_byte_order ss) h)
prim_two l d (mark k p) (labelled ws T) h a = in_element l d p (class_of true ws) T h a
prim_two l d (class p c) (a_tree T) h a = in_element l d p c T h a
prim_two l d v w h a = tt

as_content : (l d : ℕ) (w : Value) → Within l (n.Group sorts.Type) d w → Within l (n.Content sorts.Type) d w
as_content l d (a_tree T) a = inr a
as_content l d (labelled ws T) a = a
as_content l d w a = tt

group_of_row : (l d : ℕ) (ps : List Value) → RowWithin l (Opening t.ParenL ∷ Part (n.Group sorts.Type) ∷ []) d ps → Within l (n.Prim sorts.Type) d (value_of (n.Prim sorts.Type) ps)
group_of_row l d ps r =
    let s = r.4 in let q : ps ≡ r.0 ∷ (s.0 ∷ []) = then_values ps r.1 (s.0 ∷ []) r.0 r.2 (one_value r.1 s.1 s.0 s.2 s.4.0) in
    subst (λ (x : List Value). Within l (n.Prim sorts.Type) d (value_of (n.Prim sorts.Type) x)) (sym q) (prim_two l d r.0 s.0 r.3 (as_content l (suc d) s.0 s.3))

element_of_row : (l d : ℕ) (ps : List Value) → RowWithin l (Part n.Class ∷ Part (n.Content sorts.Type) ∷ []) d ps → Within l (n.Prim sorts.Type) d (value_of (n.Prim sorts.Type) ps)
element_of_row l d ps r =
    let s = r.4 in let q : ps ≡ r.0 ∷ (s.0 ∷ []) = then_values ps r.1 (s.0 ∷ []) r.0 r.2 (one_value r.1 s.1 s.0 s.2 s.4.0) in
    subst (λ (x : List Value). Within l (n.Prim sorts.Type) d (value_of (n.Prim sorts.Type) x)) (sym q) (prim_two l d r.0 s.0 r.3 s.3)

-- after a `^`
prim_except : (l d : ℕ) (v w : Value) → Within l (n.Excepted sorts.Type) d w → Within l (n.Prim sorts.Type) d (value_of (n.Prim sorts.Type) (v ∷ (w ∷ [])))
prim_except l d (mark k p) (texts ss) a = (tt, a)
prim_except l d (mark k p) (labelled ws T) a = in_element l d p (class_of true ws) T a.0 a.1
prim_except l d (mark k p) absent a = (tt, omega arith)
prim_except l d (mark k p) (a_tree T) a = absurd a
prim_except l d (class p c) (a_tree T) a = absurd a
prim_except l d v w a = tt

except_row : (l d : ℕ) (ps : List Value) → RowWithin l (Token t.Caret ∷ Part (n.Excepted sorts.Type) ∷ []) d ps → Within l (n.Prim sorts.Type) d (value_of (n.Prim sorts.Type) ps)
except_row l d ps r =
    let s = r.4 in let q : ps ≡ r.0 ∷ (s.0 ∷ []) = then_values ps r.1 (s.0 ∷ []) r.0 r.2 (one_value r.1 s.1 s.0 s.2 s.4.0) in
    subst (λ (x : List Value). Within l (n.Prim sorts.Type) d (value_of (n.Prim sorts.Type) x)) (sym q) (prim_except l d r.0 s.0 s.3)

excepted_one : (l d : ℕ) (v : Value) → d ≤ l → IsOf t.Text v → Within l (n.Excepted sorts.Type) d (value_of (n.Excepted sorts.Type) (v ∷ []))
excepted_one l d (a_text s p) h i = omega arith
excepted_one l d v h i = absurd i

excepted_text_row : (l d : ℕ) (ps : List Value) → RowWithin l (Token t.Text ∷ []) d ps → Within l (n.Excepted sorts.Type) d (value_of (n.Excepted sorts.Type) ps)
excepted_text_row l d ps r = subst (λ (x : List Value). Within l (n.Excepted sorts.Type) d (value_of (n.Excepted sorts.Type) x)) (sym (one_value ps r.1 r.0 r.2 r.4.0)) (excepted_one l d r.0 r.3.0 r.3.1)

excepted_two : (l d : ℕ) (v w : Value) → d < l → Within l (n.Content sorts.Type) (suc d) w → Within l (n.Excepted sorts.Type) d (value_of (n.Excepted sorts.Type) (v ∷ (w ∷ [])))
excepted_two l d (label x p) (a_tree T) h a = (h, a)
excepted_two l d (mark k p) (texts ss) h a = listed l d (in_byte_order ss) h
excepted_two l d (mark k p) (labelled ws T) h a = (h, a)
excepted_two l d v w h a = h

as_listed : (l d : ℕ) (w : Value) → Within l (n.ExceptedList sorts.Type) d w → Within l (n.Content sorts.Type) d w
as_listed l d (a_tree T) a = a
as_listed l d (labelled ws T) a = a
as_listed l d w a = tt

excepted_label_row : (l d : ℕ) (ps : List Value) → RowWithin l (Opening t.Label ∷ Part (n.Content sorts.Type) ∷ []) d ps → Within l (n.Excepted sorts.Type) d (value_of (n.Excepted sorts.Type) ps)
excepted_label_row l d ps r =
    let s = r.4 in let q : ps ≡ r.0 ∷ (s.0 ∷ []) = then_values ps r.1 (s.0 ∷ []) r.0 r.2 (one_value r.1 s.1 s.0 s.2 s.4.0) in
    subst (λ (x : List Value). Within l (n.Excepted sorts.Type) d (value_of (n.Excepted sorts.Type) x)) (sym q) (excepted_two l d r.0 s.0 r.3 s.3)

excepted_list_row : (l d : ℕ) (ps : List Value) → RowWithin l (Opening t.ParenL ∷ Part (n.ExceptedList sorts.Type) ∷ []) d ps → Within l (n.Excepted sorts.Type) d (value_of (n.Excepted sorts.Type) ps)
excepted_list_row l d ps r =
    let s = r.4 in let q : ps ≡ r.0 ∷ (s.0 ∷ []) = then_values ps r.1 (s.0 ∷ []) r.0 r.2 (one_value r.1 s.1 s.0 s.2 s.4.0) in
    subst (λ (x : List Value). Within l (n.Excepted sorts.Type) d (value_of (n.Excepted sorts.Type) x)) (sym q) (excepted_two l d r.0 s.0 r.3 (as_listed l (suc d) s.0 s.3))

listed_three : (l d : ℕ) (a b c : Value) → Within l (n.ExceptedList sorts.Type) d (value_of (n.ExceptedList sorts.Type) (a ∷ (b ∷ (c ∷ []))))
listed_three l d (a_text s p) (texts ss) (mark k q) = tt
listed_three l d (names vs) (names ws) (mark j p) = tt
listed_three l d a b c = tt

listed_texts_row : (l d : ℕ) (ps : List Value) → RowWithin l (Token t.Text ∷ Part n.MoreTexts ∷ Token t.ParenR ∷ Closed ∷ []) d ps → Within l (n.ExceptedList sorts.Type) d (value_of (n.ExceptedList sorts.Type) ps)
listed_texts_row l d ps r =
    let s = r.4 in let m = s.4 in
    let q : ps ≡ r.0 ∷ (s.0 ∷ (m.0 ∷ [])) = then_values ps r.1 (s.0 ∷ (m.0 ∷ [])) r.0 r.2 (then_values r.1 s.1 (m.0 ∷ []) s.0 s.2 (one_value s.1 m.1 m.0 m.2 m.4.0)) in
    subst (λ (x : List Value). Within l (n.ExceptedList sorts.Type) d (value_of (n.ExceptedList sorts.Type) x)) (sym q) (listed_three l d r.0 s.0 m.0)

listed_five : (l d : ℕ) (a b c e f : Value) → Within l (n.Content sorts.Type) (suc (before_one d)) f → Within l (n.ExceptedList sorts.Type) d (value_of (n.ExceptedList sorts.Type) (a ∷ (b ∷ (c ∷ (e ∷ (f ∷ []))))))
listed_five l d (names vs) (names ws) (mark j p) (mark k q) (a_tree T) h = h
listed_five l d (a_text s p) (texts ss) (mark k q) e f h = tt
listed_five l d a b c e f h = tt

listed_labels_row : (l d : ℕ) (ps : List Value) → RowWithin l (Part n.AnyWord ∷ Part n.MoreNames ∷ Token t.ParenR ∷ Closed ∷ Opening t.BracketL ∷ Part (n.Content sorts.Type) ∷ []) d ps → Within l (n.ExceptedList sorts.Type) d (value_of (n.ExceptedList sorts.Type) ps)
listed_labels_row l d ps r =
    let b = r.4 in let c = b.4 in let e = c.4 in let f = e.4 in
    let q : ps ≡ r.0 ∷ (b.0 ∷ (c.0 ∷ (e.0 ∷ (f.0 ∷ [])))) =
    then_values ps r.1 _ r.0 r.2 (then_values r.1 b.1 _ b.0 b.2 (then_values b.1 c.1 _ c.0 c.2 (then_values c.1 e.1 _ e.0 e.2 (one_value e.1 f.1 f.0 f.2 f.4.0)))) in
    subst (λ (x : List Value). Within l (n.ExceptedList sorts.Type) d (value_of (n.ExceptedList sorts.Type) x)) (sym q) (listed_five l d r.0 b.0 c.0 e.0 f.0 f.3)

no_group : (l d : ℕ) (v : Value) → Within l (n.Group sorts.Type) d (value_of (n.Group sorts.Type) (v ∷ []))
no_group l d (a_tree T) = tt
no_group l d v = tt

no_group_row : (l d : ℕ) (ps : List Value) → RowWithin l (Token t.ParenR ∷ Closed ∷ Unless t.BracketL ∷ []) d ps → Within l (n.Group sorts.Type) d (value_of (n.Group sorts.Type) ps)
no_group_row l d ps r = subst (λ (x : List Value). Within l (n.Group sorts.Type) d (value_of (n.Group sorts.Type) x)) (sym (one_value ps r.1 r.0 r.2 r.4.0)) (no_group l d r.0)

group_two : (l d : ℕ) (v w : Value) → Within l (n.Alternative sorts.Type) d v → Within l (n.Group sorts.Type) d (value_of (n.Group sorts.Type) (v ∷ (w ∷ [])))
group_two l d (a_tree T) (mark k p) a = a
group_two l d v w a = tt

group_row : (l d : ℕ) (ps : List Value) → RowWithin l (Part (n.Alternative sorts.Type) ∷ Token t.ParenR ∷ Closed ∷ Unless t.BracketL ∷ []) d ps → Within l (n.Group sorts.Type) d (value_of (n.Group sorts.Type) ps)
group_row l d ps r =
    let s = r.4 in let q : ps ≡ r.0 ∷ (s.0 ∷ []) = then_values ps r.1 (s.0 ∷ []) r.0 r.2 (one_value r.1 s.1 s.0 s.2 s.4.0) in
    subst (λ (x : List Value). Within l (n.Group sorts.Type) d (value_of (n.Group sorts.Type) x)) (sym q) (group_two l d r.0 s.0 r.3)

no_content : (l d : ℕ) (v : Value) → Within l (n.Content sorts.Type) d (value_of (n.Content sorts.Type) (v ∷ []))
no_content l d (mark k p) = inl refl
no_content l d v = tt

no_content_row : (l d : ℕ) (ps : List Value) → RowWithin l (Token t.BracketR ∷ Closed ∷ []) d ps → Within l (n.Content sorts.Type) d (value_of (n.Content sorts.Type) ps)
no_content_row l d ps r = subst (λ (x : List Value). Within l (n.Content sorts.Type) d (value_of (n.Content sorts.Type) x)) (sym (one_value ps r.1 r.0 r.2 r.4.0)) (no_content l d r.0)

content_two : (l d : ℕ) (v w : Value) → Within l (n.Alternative sorts.Type) d v → Within l (n.Content sorts.Type) d (value_of (n.Content sorts.Type) (v ∷ (w ∷ [])))
content_two l d (a_tree T) (mark k p) a = inr a
content_two l d v w a = tt

content_row : (l d : ℕ) (ps : List Value) → RowWithin l (Part (n.Alternative sorts.Type) ∷ Token t.BracketR ∷ Closed ∷ []) d ps → Within l (n.Content sorts.Type) d (value_of (n.Content sorts.Type) ps)
content_row l d ps r =
    let s = r.4 in let q : ps ≡ r.0 ∷ (s.0 ∷ []) = then_values ps r.1 (s.0 ∷ []) r.0 r.2 (one_value r.1 s.1 s.0 s.2 s.4.0) in
    subst (λ (x : List Value). Within l (n.Content sorts.Type) d (value_of (n.Content sorts.Type) x)) (sym q) (content_two l d r.0 s.0 r.3)

text_two : (l d : ℕ) (v w : Value) → Within l (n.Alternative sorts.Type) d v → Within l n.TypeText d (value_of n.TypeText (v ∷ (w ∷ [])))
text_two l d (a_tree T) (mark k p) a = a
text_two l d v w a = tt

text_row : (l d : ℕ) (ps : List Value) → RowWithin l (Part (n.Alternative sorts.Type) ∷ Token t.End ∷ []) d ps → Within l n.TypeText d (value_of n.TypeText ps)
text_row l d ps r =
    let s = r.4 in let q : ps ≡ r.0 ∷ (s.0 ∷ []) = then_values ps r.1 (s.0 ∷ []) r.0 r.2 (one_value r.1 s.1 s.0 s.2 s.4.0) in
    subst (λ (x : List Value). Within l n.TypeText d (value_of n.TypeText x)) (sym q) (text_two l d r.0 s.0 r.3)

param_six : (l d : ℕ) (a b c e f g : Value) → Within l (n.Alternative sorts.Type) (suc d) f → Within l n.Param d (value_of n.Param (a ∷ (b ∷ (c ∷ (e ∷ (f ∷ (g ∷ [])))))))
param_six l d (mark i o) (mark j p) (word x q) (mark k r) (a_tree T) (mark m s) h = let u = h.1 in (h.0, omega arith)
param_six l d a b c e f g h = tt

param_row : (l d : ℕ) (ps : List Value) → RowWithin l (Opening t.ParenL ∷ Token t.Val ∷ Token t.Word ∷ Token t.As ∷ Part (n.Alternative sorts.Type) ∷ Token t.ParenR ∷ Closed ∷ []) d ps → Within l n.Param d (value_of n.Param ps)
param_row l d ps r =
    let b = r.4 in let c = b.4 in let e = c.4 in let f = e.4 in let g = f.4 in
    let q : ps ≡ r.0 ∷ (b.0 ∷ (c.0 ∷ (e.0 ∷ (f.0 ∷ (g.0 ∷ []))))) =
    then_values ps r.1 _ r.0 r.2 (then_values r.1 b.1 _ b.0 b.2 (then_values b.1 c.1 _ c.0 c.2 (then_values c.1 e.1 _ e.0 e.2 (then_values e.1 f.1 _ f.0 f.2 (one_value f.1 g.1 g.0 g.2 g.4.0))))) in
    subst (λ (x : List Value). Within l n.Param d (value_of n.Param x)) (sym q) (param_six l d r.0 b.0 c.0 e.0 f.0 g.0 f.3)

params_two : (l d : ℕ) (v w : Value) → Within l n.Param d v → Within l n.MoreParams d w → Within l n.MoreParams d (value_of n.MoreParams (v ∷ (w ∷ [])))
params_two l d (a_parameter q) (parameters qs) a b = (a, b)
params_two l d v w a b = tt

params_row : (l d : ℕ) (ps : List Value) → RowWithin l (Part n.Param ∷ Part n.MoreParams ∷ []) d ps → Within l n.MoreParams d (value_of n.MoreParams ps)
params_row l d ps r =
    let s = r.4 in let q : ps ≡ r.0 ∷ (s.0 ∷ []) = then_values ps r.1 (s.0 ∷ []) r.0 r.2 (one_value r.1 s.1 s.0 s.2 s.4.0) in
    subst (λ (x : List Value). Within l n.MoreParams d (value_of n.MoreParams x)) (sym q) (params_two l d r.0 s.0 r.3 s.3)

no_params_row : (l d : ℕ) (ps : List Value) → ps ≡ [] → Within l n.MoreParams d (value_of n.MoreParams ps)
no_params_row l d ps e = subst (λ (x : List Value). Within l n.MoreParams d (value_of n.MoreParams x)) (sym e) tt

-- too few values for a function, and too many for a type
five_of_function : (l d : ℕ) (i : Terminal) (p : Place) (x : List ℕ) (q : Place) (y : Parameter) (e f : Value) → Within l n.Definitions d (value_of n.Definitions (mark i p ∷ (word x q ∷ (a_parameter y ∷ (e ∷ (f ∷ []))))))
five_of_function l d i p x q y (parameters ys) (mark j r) = tt
five_of_function l d i p x q y (parameters ys) f = tt
five_of_function l d i p x q y e f = tt

nine_of_type : (l d : ℕ) (i : Terminal) (p : Place) (x : List ℕ) (q : Place) (j : Terminal) (r : Place) (e f g h u w : Value) → Within l n.Definitions d (value_of n.Definitions (mark i p ∷ (word x q ∷ (mark j r ∷ (e ∷ (f ∷ (g ∷ (h ∷ (u ∷ (w ∷ []))))))))))
nine_of_type l d i p x q j r (a_tree T) (definitions P) g h u w = tt
nine_of_type l d i p x q j r (a_tree T) f g h u w = tt
nine_of_type l d i p x q j r e f g h u w = tt

type_five : (l d : ℕ) (a b c e f : Value) → Within l (n.Alternative sorts.Type) d e → Within l n.Definitions d f → Within l n.Definitions d (value_of n.Definitions (a ∷ (b ∷ (c ∷ (e ∷ (f ∷ []))))))
type_five l d (mark i p) (word x q) (mark j r) (a_tree T) (definitions P) h g = ((h, g.0), g.1)
type_five l d (mark i p) (word x q) (a_parameter y) e f h g = five_of_function l d i p x q y e f
type_five l d a b c e f h g = tt

typedef_row : (l d : ℕ) (ps : List Value) → RowWithin l (Token t.Type ∷ Token t.Word ∷ Token t.Equals ∷ Part (n.Alternative sorts.Type) ∷ Part n.Definitions ∷ []) d ps → Within l n.Definitions d (value_of n.Definitions ps)
typedef_row l d ps r =
    let b = r.4 in let c = b.4 in let e = c.4 in let f = e.4 in
    let q : ps ≡ r.0 ∷ (b.0 ∷ (c.0 ∷ (e.0 ∷ (f.0 ∷ [])))) =
    then_values ps r.1 _ r.0 r.2 (then_values r.1 b.1 _ b.0 b.2 (then_values b.1 c.1 _ c.0 c.2 (then_values c.1 e.1 _ e.0 e.2 (one_value e.1 f.1 f.0 f.2 f.4.0)))) in
    subst (λ (x : List Value). Within l n.Definitions d (value_of n.Definitions x)) (sym q) (type_five l d r.0 b.0 c.0 e.0 f.0 e.3 f.3)

function_nine : (l d : ℕ) (a b c e f g h i j : Value) → Within l n.Param d c → Within l n.MoreParams d e → Within l (n.Alternative sorts.Type) d g → Within l n.Definitions d j → Within l n.Definitions d (value_of n.Definitions (a ∷ (b ∷ (c ∷ (e ∷ (f ∷ (g ∷ (h ∷ (i ∷ (j ∷ []))))))))))
function_nine l d (mark i p) (word x q) (a_parameter y) (parameters ys) (mark j r) (a_tree T) (mark k s) (an_expression e) (definitions P) u v w z = (z.0, (((u, v), w), z.1))
function_nine l d (mark i p) (word x q) (mark j r) e f g h k m u v w z = nine_of_type l d i p x q j r e f g h k m
function_nine l d a b c e f g h i j u v w z = tt

fundef_row : (l d : ℕ) (ps : List Value) → RowWithin l (Token t.Fun ∷ Token t.Word ∷ Part n.Param ∷ Part n.MoreParams ∷ Token t.Colon ∷ Part (n.Alternative sorts.Type) ∷ Token t.Equals ∷ Part n.Expr ∷ Part n.Definitions ∷ []) d ps → Within l n.Definitions d (value_of n.Definitions ps)
fundef_row l d ps r =
    let b = r.4 in let c = b.4 in let e = c.4 in let f = e.4 in let g = f.4 in let h = g.4 in let i = h.4 in let j = i.4 in
    let q : ps ≡ r.0 ∷ (b.0 ∷ (c.0 ∷ (e.0 ∷ (f.0 ∷ (g.0 ∷ (h.0 ∷ (i.0 ∷ (j.0 ∷ [])))))))) =
    then_values ps r.1 _ r.0 r.2 (then_values r.1 b.1 _ b.0 b.2 (then_values b.1 c.1 _ c.0 c.2 (then_values c.1 e.1 _ e.0 e.2 (then_values e.1 f.1 _ f.0 f.2 (then_values f.1 g.1 _ g.0 g.2 (then_values g.1 h.1 _ h.0 h.2 (then_values h.1 i.1 _ i.0 i.2 (one_value i.1 j.1 j.0 j.2 j.4.0)))))))) in
    subst (λ (x : List Value). Within l n.Definitions d (value_of n.Definitions x)) (sym q) (function_nine l d r.0 b.0 c.0 e.0 f.0 g.0 h.0 i.0 j.0 c.3 e.3 g.3 j.3)

no_definitions : (l d : ℕ) (v : Value) → Within l n.Definitions d (value_of n.Definitions (v ∷ []))
no_definitions l d (mark k p) = (tt, tt)
no_definitions l d v = tt

end_row : (l d : ℕ) (ps : List Value) → RowWithin l (Token t.End ∷ []) d ps → Within l n.Definitions d (value_of n.Definitions ps)
end_row l d ps r = subst (λ (x : List Value). Within l n.Definitions d (value_of n.Definitions x)) (sym (one_value ps r.1 r.0 r.2 r.4.0)) (no_definitions l d r.0)

-- ---- each nonterminal
at_row : (l d : ℕ) (ps : List Value) (made row : Row) → row ≡ made → RowWithin l made d ps → RowWithin l row d ps
at_row l d ps made row e w = subst (λ (x : Row). RowWithin l x d ps) (sym e) w

part_within : (l d : ℕ) (part : Nonterminal) (made : Row) → IsOneOf made (rules part) → (ps : List Value) → RowWithin l made d ps → Within l part d (value_of part ps)
part_within l d n.Definitions made (inl e) ps w = typedef_row l d ps (at_row l d ps made _ e w)
part_within l d n.Definitions made (inr (inl e)) ps w = fundef_row l d ps (at_row l d ps made _ e w)
part_within l d n.Definitions made (inr (inr (inl e))) ps w = end_row l d ps (at_row l d ps made _ e w)
part_within l d n.Definitions made (inr (inr (inr h))) ps w = absurd h
part_within l d n.Param made (inl e) ps w = param_row l d ps (at_row l d ps made _ e w)
part_within l d n.Param made (inr h) ps w = absurd h
part_within l d n.MoreParams made (inl e) ps w = no_params_row l d ps (at_row l d ps made (Unless t.ParenL ∷ []) e w).0
part_within l d n.MoreParams made (inr (inl e)) ps w = params_row l d ps (at_row l d ps made _ e w)
part_within l d n.MoreParams made (inr (inr h)) ps w = absurd h
part_within l d n.TypeText made (inl e) ps w = text_row l d ps (at_row l d ps made _ e w)
part_within l d n.TypeText made (inr h) ps w = absurd h
part_within l d (n.Alternative sorts.Type) made (inl e) ps w = type_row l d ps (at_row l d ps made _ e w)
part_within l d (n.Alternative sorts.Type) made (inr h) ps w = absurd h
part_within l d (n.MoreBranches sorts.Type) made (inl e) ps w = more_row l d ps (at_row l d ps made _ e w)
part_within l d (n.MoreBranches sorts.Type) made (inr (inl e)) ps w = none_row l d ps (at_row l d ps made (Unless t.Bar ∷ []) e w).0
part_within l d (n.MoreBranches sorts.Type) made (inr (inr h)) ps w = absurd h
part_within l d (n.Sequence sorts.Type) made (inl e) ps w = seq_row l d ps (at_row l d ps made _ e w)
part_within l d (n.Sequence sorts.Type) made (inr h) ps w = absurd h
part_within l d (n.MoreParts sorts.Type) made (inl e) ps w = parts_row l d ps (at_row l d ps made _ e w)
part_within l d (n.MoreParts sorts.Type) made (inr (inl e)) ps w = no_parts_row l d ps (at_row l d ps made (Unless t.Comma ∷ []) e w).0
part_within l d (n.MoreParts sorts.Type) made (inr (inr h)) ps w = absurd h
part_within l d (n.Post sorts.Type) made (inl e) ps w = post_row l d ps (at_row l d ps made _ e w)
part_within l d (n.Post sorts.Type) made (inr h) ps w = absurd h
part_within l d (n.Prim sorts.Type) made (inl e) ps w = word_row l d ps (at_row l d ps made _ e w)
part_within l d (n.Prim sorts.Type) made (inr (inl e)) ps w = group_of_row l d ps (at_row l d ps made _ e w)
part_within l d (n.Prim sorts.Type) made (inr (inr (inl e))) ps w = quoted_row l d ps (at_row l d ps made _ e w)
part_within l d (n.Prim sorts.Type) made (inr (inr (inr (inl e)))) ps w = except_row l d ps (at_row l d ps made _ e w)
part_within l d (n.Prim sorts.Type) made (inr (inr (inr (inr (inl e))))) ps w = element_of_row l d ps (at_row l d ps made _ e w)
part_within l d (n.Prim sorts.Type) made (inr (inr (inr (inr (inr h))))) ps w = absurd h
part_within l d (n.Excepted sorts.Type) made (inl e) ps w = excepted_text_row l d ps (at_row l d ps made _ e w)
part_within l d (n.Excepted sorts.Type) made (inr (inl e)) ps w = excepted_label_row l d ps (at_row l d ps made _ e w)
part_within l d (n.Excepted sorts.Type) made (inr (inr (inl e))) ps w = excepted_list_row l d ps (at_row l d ps made _ e w)
part_within l d (n.Excepted sorts.Type) made (inr (inr (inr h))) ps w = absurd h
part_within l d (n.ExceptedList sorts.Type) made (inl e) ps w = listed_texts_row l d ps (at_row l d ps made _ e w)
part_within l d (n.ExceptedList sorts.Type) made (inr (inl e)) ps w = listed_labels_row l d ps (at_row l d ps made _ e w)
part_within l d (n.ExceptedList sorts.Type) made (inr (inr h)) ps w = absurd h
part_within l d (n.Group sorts.Type) made (inl e) ps w = no_group_row l d ps (at_row l d ps made _ e w)
part_within l d (n.Group sorts.Type) made (inr (inl e)) ps w = group_row l d ps (at_row l d ps made _ e w)
part_within l d (n.Group sorts.Type) made (inr (inr h)) ps w = absurd h
part_within l d (n.Content sorts.Type) made (inl e) ps w = no_content_row l d ps (at_row l d ps made _ e w)
part_within l d (n.Content sorts.Type) made (inr (inl e)) ps w = content_row l d ps (at_row l d ps made _ e w)
part_within l d (n.Content sorts.Type) made (inr (inr h)) ps w = absurd h
part_within l d n.Class made (inl e) ps w = (at_row l d ps made (Token t.Tilde ∷ Opening t.BracketL ∷ []) e w).4.3
part_within l d n.Class made (inr (inl e)) ps w = (at_row l d ps made (Part n.Labels ∷ []) e w).3
part_within l d n.Class made (inr (inr h)) ps w = absurd h
part_within l d n.Labels made (inl e) ps w = (at_row l d ps made (Opening t.Label ∷ []) e w).3
part_within l d n.Labels made (inr (inl e)) ps w = (at_row l d ps made (Part n.Names ∷ Opening t.BracketL ∷ []) e w).4.3
part_within l d n.Labels made (inr (inr h)) ps w = absurd h
part_within l d part made one ps w = tt

-- ---- a whole text
still_within : {l d e : ℕ} {row : Row} {from to : List Lexeme} {vs : List Value} → d ≤ l → MeansAt l d row from to e vs → e ≤ l
still_within h ends_at = h
still_within h (token_at m) = still_within h m
still_within h (opening_at g m) = still_within g m
still_within h (closing_at m) = still_within (omega arith) m
still_within h (bar_at ne m) = still_within h m
still_within h (part_at made one o p) = still_within (still_within h o) p

within : {l d e : ℕ} {row : Row} {from to : List Lexeme} {vs : List Value} → d ≤ l → MeansAt l d row from to e vs → RowWithin l row d vs
within h ends_at = (refl, h)
within h (token_at {l = x} {vs = vs} m) = (token_value x, vs, refl, (h, is_of (terminal_at x) x.text x.place), within h m)
within h (opening_at {l = x} {vs = vs} g m) = (token_value x, vs, refl, g, within g m)
within h (closing_at m) = within (omega arith) m
within h (bar_at ne m) = within h m
within {l = l} h (part_at {d = d} {m = m} {part = part} made {row = row} {parts = parts} {vs = vs} one o p) =
    (value_of part parts, vs, refl, part_within l d part made one parts (within h o), subst (λ (x : ℕ). RowWithin l row x vs) (sym (levels o) ∙ out_of part (rules part) made (all_out part) one d) (within (still_within h o) p))

-- what all the tokens stand for is within the limit
pub all_within : (l : ℕ) (part : Nonterminal) (ls : List Lexeme) (v : Value) → MeansWithin l part ls v → Within l part 0 v
all_within l part ls v m = subst (λ (w : Value). Within l part 0 w) (sym m.is) (part_within l 0 part m.made m.one m.parts (within (omega arith) m.within))
