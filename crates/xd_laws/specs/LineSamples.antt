-- Programs with all their faults of matches, arguments and results, and all their warnings.
use Rattle.std.specs.Prelude.{◌≡◌, ℕ, ◌+◌, false, List, [], ◌∷◌, Some, None, codes}
use Rattle.xd_base.specs.declared.Place.{Place}
use Rattle.xd_doc.specs.Document.{Document, empty, text, element}
use Rattle.xd_doc.specs.Classes.{LabelClass}
use Rattle.xd_syntax.specs.Words.{any_word, main_word}
use Rattle.xd_syntax.specs.Placed.{PlacedTree, Empty_at, Text_at, Name_at, Elem_at, Seq_at, Opt_at, Star_at, Plus_at, Val_at}
use Rattle.xd_syntax.specs.Expression.{Expression, Nothing, Variable, Tagged, Joined, Called, Matched, Clauses, no_argument, argument, no_clause, clause}
use Rattle.xd_syntax.specs.Program.{TypeDefinition, Parameter, FunctionDefinition, ProgramTree}
use Rattle.xd_syntax.specs.CheckFaults.{Line, LineKind, not_exhaustive, wrong_argument, wrong_result, dead_clause, AreLines}

abbrev pub at_place : ℕ → ℕ → Place
at_place l c = record { line = l; column = c }

-- the class of one label
abbrev pub one : List ℕ → LabelClass
one l = record { names = l ∷ []; except = false }

abbrev pub fault_line : Place → LineKind → Document → Line
fault_line p k d = record { place = p; kind = k; document = Some d }

abbrev pub warning_line : Place → Line
warning_line p = record { place = p; kind = dead_clause; document = None }

-- the program has lines, and all lists of its lines are so
pub record HasLines (P : ProgramTree) (expected : List Line → Type 0) : Type 0 where
  pub lines : List Line
  pub are_lines : AreLines P lines
  pub only : (ls : List Line) → AreLines P ls → expected ls

-- an element of this label, which has one letter, without content, at this place
abbrev pub leaf_at : Place → List ℕ → PlacedTree
leaf_at p l = Elem_at p (one l) (Empty_at (record p { column = p.column + 2 }))

abbrev pub x_variable : List ℕ
x_variable = codes "x"

-- `fun main (val x as a[]*) : a[]+ = x`
abbrev pub some_from_any : ProgramTree
some_from_any = record {
  types = [];
  functions =
      record {
        name = main_word;
        place = at_place 1 5;
        parameters = record { name = x_variable; place = at_place 1 15; declared = Star_at (at_place 1 20) (leaf_at (at_place 1 20) (codes "a")) } ∷ [];
        declared = Plus_at (at_place 1 28) (leaf_at (at_place 1 28) (codes "a"));
        body = Variable (at_place 1 35) x_variable;
      } ∷ [];
}

-- `type N = n[N]`, and then `fun f (val x as N) : a[] = match x with () -> b[]`
abbrev pub endless_type : ProgramTree
endless_type = record {
  types = record { name = codes "N"; place = at_place 1 6; body = Elem_at (at_place 1 10) (one (codes "n")) (Name_at (at_place 1 12) (codes "N")) } ∷ [];
  functions =
      record {
        name = codes "f";
        place = at_place 2 5;
        parameters = record { name = x_variable; place = at_place 2 12; declared = Name_at (at_place 2 17) (codes "N") } ∷ [];
        declared = leaf_at (at_place 2 22) (codes "a");
        body =
            Matched (at_place 2 28) (Variable (at_place 2 34) x_variable)
            (clause (Empty_at (at_place 2 41)) (Tagged (at_place 2 47) (codes "b") (Nothing (at_place 2 49))) no_clause);
      } ∷ [];
}

-- The telephone program:
--   type Name = name[String]
--   type Addr = addr[String]
--   type Tel = tel[String]
--   fun main (val x as (Name,Addr,Tel?)*) : (Name,Tel)* =
--     match x with
--       val n as Name, Addr, val t as Tel, val rest -> n, t, main(rest)
--     | Name, Addr, val rest -> main(rest)
--     | () -> ()

abbrev pub name_label : List ℕ
name_label = codes "name"

abbrev pub addr_label : List ℕ
addr_label = codes "addr"

abbrev pub tel_label : List ℕ
tel_label = codes "tel"

abbrev pub n_variable : List ℕ
n_variable = codes "n"

abbrev pub t_variable : List ℕ
t_variable = codes "t"

abbrev pub rest_variable : List ℕ
rest_variable = codes "rest"

-- `val n as Name, Addr, val t as Tel, val rest` in a line
abbrev pub with_tel_at : ℕ → PlacedTree
with_tel_at l =
    Seq_at (at_place l 5) (Val_at (at_place l 5) n_variable (at_place l 9) (Name_at (at_place l 14) (codes "Name")))
    (Seq_at (at_place l 20) (Name_at (at_place l 20) (codes "Addr"))
    (Seq_at (at_place l 26) (Val_at (at_place l 26) t_variable (at_place l 30) (Name_at (at_place l 35) (codes "Tel")))
    (Val_at (at_place l 40) rest_variable (at_place l 44) (Name_at (at_place l 44) any_word))))

-- `Name, Addr, val rest`
abbrev pub without_tel_at : ℕ → PlacedTree
without_tel_at l =
    Seq_at (at_place l 5) (Name_at (at_place l 5) (codes "Name"))
    (Seq_at (at_place l 11) (Name_at (at_place l 11) (codes "Addr")) (Val_at (at_place l 17) rest_variable (at_place l 21) (Name_at (at_place l 21) any_word)))

-- `main(rest)` in a line, from a column on
abbrev pub again : ℕ → ℕ → Expression
again l c = Called (at_place l c) main_word (argument (Variable (at_place l (c + 5)) rest_variable) no_argument)

-- `n, t, main(rest)`
abbrev pub listed : ℕ → Expression
listed l = Joined (at_place l 52) (Variable (at_place l 52) n_variable) (Joined (at_place l 55) (Variable (at_place l 55) t_variable) (again l 58))

abbrev pub with_tel : ℕ → Clauses → Clauses
with_tel l cs = clause (with_tel_at l) (listed l) cs

abbrev pub without_tel : ℕ → Clauses → Clauses
without_tel l cs = clause (without_tel_at l) (again l 29) cs

-- `() -> ()`
abbrev pub at_end : Clauses
at_end = clause (Empty_at (at_place 8 5)) (Nothing (at_place 8 11)) no_clause

-- a type of the name, an element of the label around a text
abbrev pub labelled : List ℕ → Place → List ℕ → Place → Place → TypeDefinition
labelled w p l q r = record { name = w; place = p; body = Elem_at q (one l) (Text_at r) }

abbrev pub scrutinee : Expression
scrutinee = Variable (at_place 5 9) x_variable

abbrev pub persons_at : PlacedTree
persons_at =
    Star_at (at_place 4 21) (Seq_at (at_place 4 21) (Name_at (at_place 4 21) (codes "Name"))
    (Seq_at (at_place 4 26) (Name_at (at_place 4 26) (codes "Addr")) (Opt_at (at_place 4 31) (Name_at (at_place 4 31) (codes "Tel")))))

abbrev pub listed_at : PlacedTree
listed_at = Star_at (at_place 4 42) (Seq_at (at_place 4 42) (Name_at (at_place 4 42) (codes "Name")) (Name_at (at_place 4 47) (codes "Tel")))

abbrev pub input : Parameter
input = record { name = x_variable; place = at_place 4 15; declared = persons_at }

abbrev pub main_with : Clauses → FunctionDefinition
main_with cs = record { name = main_word; place = at_place 4 5; parameters = input ∷ []; declared = listed_at; body = Matched (at_place 5 3) scrutinee cs }

-- the program with these clauses
abbrev pub telephones : Clauses → ProgramTree
telephones cs = record {
  types =
      labelled (codes "Name") (at_place 1 6) name_label (at_place 1 13) (at_place 1 18) ∷
      labelled (codes "Addr") (at_place 2 6) addr_label (at_place 2 13) (at_place 2 18) ∷
      labelled (codes "Tel") (at_place 3 6) tel_label (at_place 3 12) (at_place 3 16) ∷ [];
  functions = main_with cs ∷ [];
}

abbrev pub all_clauses : Clauses
all_clauses = with_tel 6 (without_tel 7 at_end)

abbrev pub without_last : Clauses
without_last = with_tel 6 (without_tel 7 no_clause)

-- the first two clauses the other way round
abbrev pub exchanged : Clauses
exchanged = without_tel 6 (with_tel 7 at_end)

-- a fault that carries a telephone number alone, and a warning
abbrev pub IsNumberThenDead : List Line → Type 0
IsNumberThenDead ls =
    (number : List ℕ) × (ls ≡ fault_line (at_place 6 34) wrong_argument (element tel_label (text number empty) empty) ∷ warning_line (at_place 7 5) ∷ [])

pub record SampleLines : Type 0 where
  pub result : HasLines some_from_any (λ ls. ls ≡ fault_line (at_place 1 35) wrong_result empty ∷ [])
  pub endless : HasLines endless_type (λ ls. ls ≡ warning_line (at_place 2 41) ∷ [])
  pub whole : HasLines (telephones all_clauses) (λ ls. ls ≡ [])
  pub not_all : HasLines (telephones without_last) (λ ls. ls ≡ fault_line (at_place 5 3) not_exhaustive empty ∷ [])
  pub argument_and_clause : HasLines (telephones exchanged) IsNumberThenDead
