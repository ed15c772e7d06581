-- Whether a parenthesis opens the labels of a class.
use Rattle.std.proofs.Common.{◌≡◌, ◌<◌, ℕ, zero, suc, ◌++◌, Bool, true, false, List, [], ◌∷◌, Option, Some, None, length, refl, sym, ap, subst, arith}
use Rattle.xd_doc.proofs.Lists.{same_rest}
use Rattle.xd_lex.specs.Tokens.{Lexeme}
use Rattle.xd_grammar.specs.declared.grammar.Nonterminal.{Nonterminal}
use Rattle.xd_grammar.specs.declared.grammar.Nonterminal.TheVariants as n
use Rattle.xd_grammar.specs.declared.grammar.Symbol.TheVariants.{Token, Opening, Closed, Unless, Part}
use Rattle.xd_grammar.specs.declared.grammar.Terminal.{Terminal}
use Rattle.xd_grammar.specs.declared.grammar.Terminal.TheVariants as t
use Rattle.xd_grammar.specs.declared.grammar.Sort.{Sort}
use Rattle.xd_grammar.specs.declared.grammar.Sort.TheVariants as sorts
use Rattle.xd_grammar.specs.declared.machine.Reading.{Reading}
use Rattle.xd_grammar.specs.declared.machine.Reading.TheVariants.{Plain, Opened, Named, Barred, AfterVal, Shut}
use Rattle.xd_grammar.specs.declared.machine.Course.{Course}
use Rattle.xd_grammar.specs.declared.machine.Course.TheVariants.{Both, Main, Listed}
use Rattle.xd_grammar.specs.Grammar.{Row, rules}
use Rattle.xd_grammar.specs.Fits.{first_fit}
use Rattle.xd_grammar.specs.Machine.{main_row, listed_row, course}
use Rattle.xd_parse_trees.specs.Values.{Value}
use Rattle.xd_parse_trees.specs.Means.{Means}
use Rattle.xd_parse_trees.specs.Reading.{front_terminal, behind, group_row, element_row, SpellNo}
use Rattle.xd_grammar.proofs.Derive.{is_group, rules_decided, chosen_none, chosen_only}
use Rattle.xd_grammar.proofs.Courses.{Out, Dead, Behind, Unknown, dead_too, if_plain, out_of, go, IsDouble, IsRight, course_right, main_both}
use Rattle.xd_grammar.specs.Text.{terminal_at}
use Rattle.xd_parse_trees.proofs.Rows.{MeansView, means_view, append_means, means_fits, means_may, needs, needs_token, same_at, other_at}

-- something that the row stands for
abbrev pub Some_means : Row → (from to : List Lexeme) → Type 0
Some_means row from to = (ws : List Value) × Means row from to ws

-- a nonterminal at the front stands for its row
pub turned : (part : Nonterminal) (made row : Row) (l : Lexeme) (ls rest : List Lexeme) (ws : List Value) → is_group part (terminal_at l) ≡ false → first_fit (rules part) (terminal_at l) ≡ Some made → Means (Part part ∷ row) (l ∷ ls) rest ws → Some_means (made ++ row) (l ∷ ls) rest
turned part made row l ls rest ws g f m =
    let v : MeansView (Part part ∷ row) (l ∷ ls) rest ws = means_view m in
    let e : v.0 ≡ made = chosen_only (rules part) (terminal_at l) (rules_decided part (terminal_at l) g) made f v.0 v.4 (means_fits v.0 l ls v.1 v.2 (terminal_at l) refl v.5) (means_may 8 v.0 l ls v.1 v.2 (terminal_at l) refl v.5) in
    (v.2 ++ v.3, append_means (subst (λ (r : Row). Means r (l ∷ ls) v.1 v.2) e v.5) row rest v.3 v.6)

-- what is left of a row after its first token, as far as it computes
abbrev After : Out → (ls rest : List Lexeme) → Type 0
After Dead ls rest = ⊥
After (Behind row) ls rest = Some_means row ls rest
After Unknown ls rest = Unit {0}

after_dead_too : (o : Out) (ls rest : List Lexeme) → After o ls rest → After (dead_too o) ls rest
after_dead_too Dead ls rest a = a
after_dead_too (Behind r) ls rest a = tt
after_dead_too Unknown ls rest a = tt

after_part : (f : ℕ) (part : Nonterminal) (row : Row) (l : Lexeme) (ls rest : List Lexeme) (ws : List Value) (o : Option Row) → first_fit (rules part) (terminal_at l) ≡ o → is_group part (terminal_at l) ≡ false → Means (Part part ∷ row) (l ∷ ls) rest ws → ((made : Row) → Some_means (made ++ row) (l ∷ ls) rest → After (go f (made ++ row) (terminal_at l)) ls rest) → After (out_of o (λ (made : Row). go f (made ++ row) (terminal_at l))) ls rest
after_part f part row l ls rest ws None is g m more = let v : MeansView (Part part ∷ row) (l ∷ ls) rest ws = means_view m in chosen_none (rules part) (terminal_at l) is v.0 v.4 (means_fits v.0 l ls v.1 v.2 (terminal_at l) refl v.5)
after_part f part row l ls rest ws (Some made) is g m more = more made (turned part made row l ls rest ws g is m)

after_plain : (b : Bool) (o : Out) (ls rest : List Lexeme) → (b ≡ false → After o ls rest) → After (if_plain b o) ls rest
after_plain true o ls rest h = tt
after_plain false o ls rest h = h refl

after_go : (f : ℕ) (row : Row) (l : Lexeme) (ls rest : List Lexeme) (ws : List Value) → Means row (l ∷ ls) rest ws → After (go f row (terminal_at l)) ls rest
after_go zero row l ls rest ws m = tt
after_go (suc f) [] l ls rest ws m = tt
after_go (suc f) (Token j ∷ row) l ls rest ws m =
    let v : MeansView (Token j ∷ row) (l ∷ ls) rest ws = means_view m in
    rw (same_at j (terminal_at l) l v.0 ls v.1 v.3 v.4 refl) (v.2, subst (λ (x : List Lexeme). Means row x rest v.2) (sym (same_rest l v.0 ls v.1 v.3)) v.6)
after_go (suc f) (Opening j ∷ row) l ls rest ws m =
    let v : MeansView (Opening j ∷ row) (l ∷ ls) rest ws = means_view m in
    rw (same_at j (terminal_at l) l v.0 ls v.1 v.3 v.4 refl) tt
after_go (suc f) (Closed ∷ row) l ls rest ws m = let v : MeansView (Closed ∷ row) (l ∷ ls) rest ws = means_view m in after_dead_too (go f row (terminal_at l)) ls rest (after_go f row l ls rest ws v)
after_go (suc f) (Unless j ∷ row) l ls rest ws m =
    let v : MeansView (Unless j ∷ row) (l ∷ ls) rest ws = means_view m in
    rw (other_at j (terminal_at l) l v.0 ls v.1 v.2 v.3 refl) (after_go f row l ls rest ws v.4)
after_go (suc f) (Part part ∷ row) l ls rest ws m =
    after_plain (is_group part (terminal_at l)) (out_of (first_fit (rules part) (terminal_at l)) (λ (made : Row). go f (made ++ row) (terminal_at l))) ls rest
    (λ g. after_part f part row l ls rest ws (first_fit (rules part) (terminal_at l)) refl g m (λ made s. after_go f (made ++ row) l ls rest s.0 s.1))

-- ---- the two readings of the tokens after the parenthesis

-- What either reading of the parenthesis has left.
pub record BothReadings (sort : Sort) (reading : Reading) (from now : List Lexeme) : Type 0 where
  pub double : IsDouble reading
  pub group : (rest : List Lexeme) (ws : List Value) → Means (group_row sort) from rest ws → Some_means (main_row reading ++ []) now rest
  pub listed : (rest : List Lexeme) (ws : List Value) → Means (element_row sort) from rest ws → Some_means (listed_row reading ++ []) now rest

group_begins : (part : Nonterminal) (from rest : List Lexeme) (ws : List Value) → Means (Opening t.ParenL ∷ Part part ∷ []) from rest ws → Some_means (Part part ∷ []) (behind from) rest
group_begins part from rest ws m =
    let v : MeansView (Opening t.ParenL ∷ Part part ∷ []) from rest ws = means_view m in
    (v.2, subst (λ (x : List Lexeme). Means (Part part ∷ []) x rest v.2) (sym (ap behind v.3)) v.6)

opening_means : (k : Terminal) (row : Row) (l : Lexeme) (ls rest : List Lexeme) (ws : List Value) → Means (Opening k ∷ row) (l ∷ ls) rest ws → Some_means row ls rest
opening_means k row l ls rest ws m = let v : MeansView (Opening k ∷ row) (l ∷ ls) rest ws = means_view m in (v.2, subst (λ (x : List Lexeme). Means row x rest v.2) (sym (same_rest l v.0 ls v.1 v.3)) v.6)

listed_begins : (content : Nonterminal) (l : Lexeme) (ls rest : List Lexeme) (ws : List Value) → terminal_at l ≡ t.ParenL → Means (Part n.Class ∷ Part content ∷ []) (l ∷ ls) rest ws → Some_means (Part n.AnyWord ∷ Part n.MoreNames ∷ Token t.ParenR ∷ Closed ∷ Opening t.BracketL ∷ Part content ∷ []) ls rest
listed_begins content l ls rest ws e m =
    let a : Some_means (Part n.Labels ∷ Part content ∷ []) (l ∷ ls) rest = turned n.Class (Part n.Labels ∷ []) (Part content ∷ []) l ls rest ws refl (rw e refl) m in
    let b : Some_means (Part n.Names ∷ Opening t.BracketL ∷ Part content ∷ []) (l ∷ ls) rest = turned n.Labels (Part n.Names ∷ Opening t.BracketL ∷ []) (Part content ∷ []) l ls rest a.0 refl (rw e refl) a.1 in
    let c : Some_means (Opening t.ParenL ∷ Part n.AnyWord ∷ Part n.MoreNames ∷ Token t.ParenR ∷ Closed ∷ Opening t.BracketL ∷ Part content ∷ []) (l ∷ ls) rest = turned n.Names (Opening t.ParenL ∷ Part n.AnyWord ∷ Part n.MoreNames ∷ Token t.ParenR ∷ Closed ∷ []) (Opening t.BracketL ∷ Part content ∷ []) l ls rest b.0 refl (rw e refl) b.1 in
    opening_means t.ParenL (Part n.AnyWord ∷ Part n.MoreNames ∷ Token t.ParenR ∷ Closed ∷ Opening t.BracketL ∷ Part content ∷ []) l ls rest c.0 c.1

broken_paren : t.Broken ≡ t.ParenL → ⊥
broken_paren e = cc

element_begins : (content : Nonterminal) (from rest : List Lexeme) (ws : List Value) → front_terminal from ≡ t.ParenL → Means (Part n.Class ∷ Part content ∷ []) from rest ws → Some_means (Part n.AnyWord ∷ Part n.MoreNames ∷ Token t.ParenR ∷ Closed ∷ Opening t.BracketL ∷ Part content ∷ []) (behind from) rest
element_begins content [] rest ws e m = absurd (broken_paren e)
element_begins content (l ∷ ls) rest ws e m = listed_begins content l ls rest ws e m

pub readings_begin : (sort : Sort) (from : List Lexeme) → front_terminal from ≡ t.ParenL → BothReadings sort (Opened sort) from (behind from)
readings_begin s from e = record { double = tt; group = λ rest ws m. group_begins (n.Group s) from rest ws m; listed = λ rest ws m. element_begins (n.Content s) from rest ws e m }

-- at the end of the tokens not both go on
pub both_at_end : (reading next : Reading) → IsDouble reading → course reading t.Broken ≡ Both next → ⊥
both_at_end Plain next two e = two
both_at_end (Opened s) next two e = main_both next e
both_at_end (Barred s) next two e = main_both next e
both_at_end (Named sort) next two e = main_both next e
both_at_end (Shut sort) next two e = main_both next e
both_at_end AfterVal next two e = main_both next e

after_behind : (row rest_row : Row) (l : Lexeme) (ls rest : List Lexeme) (ws : List Value) → go 9 row (terminal_at l) ≡ Behind rest_row → Means row (l ∷ ls) rest ws → Some_means rest_row ls rest
after_behind row rest_row l ls rest ws is m = subst (λ (o : Out). After o ls rest) is (after_go 9 row l ls rest ws m)

after_dead : (row : Row) (l : Lexeme) (ls rest : List Lexeme) (ws : List Value) → go 9 row (terminal_at l) ≡ Dead → Means row (l ∷ ls) rest ws → ⊥
after_dead row l ls rest ws is m = subst (λ (o : Out). After o ls rest) is (after_go 9 row l ls rest ws m)

pub readings_go : (sort : Sort) (reading next : Reading) (from now : List Lexeme) → BothReadings sort reading from now → course reading (front_terminal now) ≡ Both next → BothReadings sort next from (behind now)
readings_go sort reading next from [] b e = absurd (both_at_end reading next b.double e)
readings_go sort reading next from (l ∷ ls) b e =
    let r : IsRight (Both next) reading (terminal_at l) [] = subst (λ (c : Course). IsRight c reading (terminal_at l) []) e (course_right reading (terminal_at l) []) in
    record {
      double = r.2;
      group = λ rest ws m. let s = b.group rest ws m in after_behind (main_row reading ++ []) (main_row next ++ []) l ls rest s.0 r.0 s.1;
      listed = λ rest ws m. let s = b.listed rest ws m in after_behind (listed_row reading ++ []) (listed_row next ++ []) l ls rest s.0 r.1 s.1;
    }

pub both_shorter : (sort : Sort) (reading next : Reading) (from now : List Lexeme) → BothReadings sort reading from now → course reading (front_terminal now) ≡ Both next → length (behind now) < length now
both_shorter sort reading next from [] b e = absurd (both_at_end reading next b.double e)
both_shorter sort reading next from (l ∷ ls) b e = omega arith

main_needs : (reading : Reading) → IsDouble reading → needs 12 (main_row reading ++ []) ≡ true
main_needs Plain two = absurd two
main_needs (Opened sorts.Type) two = refl
main_needs (Opened sorts.Pattern) two = refl
main_needs (Named s) two = refl
main_needs (Barred sorts.Type) two = refl
main_needs (Barred sorts.Pattern) two = refl
main_needs AfterVal two = refl
main_needs (Shut sort) two = refl

listed_needs : (reading : Reading) → IsDouble reading → needs 12 (listed_row reading ++ []) ≡ true
listed_needs Plain two = absurd two
listed_needs (Opened sort) two = refl
listed_needs (Named sort) two = refl
listed_needs (Barred sort) two = refl
listed_needs AfterVal two = refl
listed_needs (Shut sort) two = refl

main_right : (reading : Reading) (k : Terminal) → IsDouble reading → IsRight Main reading k [] → go 9 (listed_row reading ++ []) k ≡ Dead
main_right Plain k two r = absurd two
main_right (Opened sort) k two r = r
main_right (Named sort) k two r = r
main_right (Barred sort) k two r = r
main_right AfterVal k two r = r
main_right (Shut sort) k two r = r

-- the parenthesis holds a type or a pattern
pub main_alone : (sort : Sort) (reading : Reading) (from now : List Lexeme) → BothReadings sort reading from now → course reading (front_terminal now) ≡ Main → SpellNo (element_row sort) from
main_alone sort reading from [] b e rest ws m = let s = b.listed rest ws m in needs_token 12 (listed_row reading ++ []) rest s.0 (listed_needs reading b.double) s.1
main_alone sort reading from (l ∷ ls) b e rest ws m =
    let r : IsRight Main reading (terminal_at l) [] = subst (λ (c : Course). IsRight c reading (terminal_at l) []) e (course_right reading (terminal_at l) []) in
    let s = b.listed rest ws m in
    after_dead (listed_row reading ++ []) l ls rest s.0 (main_right reading (terminal_at l) b.double r) s.1

-- the parenthesis holds labels
pub listed_alone : (sort : Sort) (reading : Reading) (from now : List Lexeme) → BothReadings sort reading from now → course reading (front_terminal now) ≡ Listed → SpellNo (group_row sort) from
listed_alone sort reading from [] b e rest ws m = let s = b.group rest ws m in needs_token 12 (main_row reading ++ []) rest s.0 (main_needs reading b.double) s.1
listed_alone sort reading from (l ∷ ls) b e rest ws m =
    let r : IsRight Listed reading (terminal_at l) [] = subst (λ (c : Course). IsRight c reading (terminal_at l) []) e (course_right reading (terminal_at l) []) in
    let s = b.group rest ws m in
    after_dead (main_row reading ++ []) l ls rest s.0 r.0 s.1
