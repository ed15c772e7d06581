-- Programs and documents on which the definitions compute what they should.
use Rattle.std.proofs.Common.{◌≡◌, ℕ, true, false, List, [], ◌∷◌, Some, None, refl}
use Rattle.std.specs.Prelude.{codes}
use Rattle.xd_base.specs.declared.Place.{Place}
use Rattle.xd_doc.specs.Document.{Document, empty, text, element}
use Rattle.xd_doc.specs.Classes.{LabelClass}
use Rattle.xd_syntax.specs.Words.{any_word, main_word}
use Rattle.xd_syntax.specs.Tree.{Tree, Empty, Text, Words, Name, Elem, Seq, Alt, Star, Plus, Opt, Val, Definitions, environment}
use Rattle.xd_syntax.specs.Placed.{PlacedTree, Empty_at, Text_at, Name_at, Elem_at, Seq_at, Alt_at, Star_at, Opt_at, Val_at}
use Rattle.xd_syntax.specs.Expression.{Expression, Nothing, Variable, Tagged, Joined, Called, Matched, no_argument, argument, no_clause, clause}
use Rattle.xd_syntax.specs.Program.{TypeDefinition, Parameter, FunctionDefinition, ProgramTree, names_of}
use Rattle.xd_syntax.specs.Fits as F
use Rattle.xd_syntax.specs.Fits.{Fits}
use Rattle.xd_meaning.specs.FirstMatch.{first}
use Rattle.xd_meaning.specs.Bindings.{first_bindings}
use Rattle.xd_meaning.specs.CanBeEmpty.{can_be_empty}
use Rattle.xd_rules.specs.Heads.{Head, element_in, text_in}
use Rattle.xd_meaning.specs.Heads.{heads, all_texts}
use Rattle.xd_syntax.specs.TypeText.{type_text}
use Rattle.xd_syntax.specs.TypeDepth.{depth}
use Rattle.xd_meaning.specs.Meaning.{Done, Spent, Stuck, meaning}
use Rattle.xd_syntax.specs.NameFaults.{fault_at, name_faults, linearity_faults}
use Rattle.xd_syntax.specs.RecursionFaults.{arrived, kept, left_out, all_seen, AreRecursionFaults, IsSound}
use Rattle.xd_syntax.specs.CheckFaults.{IsAccepted}
use Rattle.xd_syntax.specs.declared.fault.FaultKind.TheVariants.{DuplicateName, UnknownType, UnknownFunction, UnknownVariable, Arity, NotLinear, NotTail, Unguarded}

abbrev at_place : ℕ → ℕ → Place
at_place l c = record { line = l; column = c }

abbrev p : Place
p = at_place 1 1

-- the class of one label
abbrev one : List ℕ → LabelClass
one l = record { names = l ∷ []; except = false }

abbrev tag : List ℕ → Tree → Tree
tag l T = Elem (one l) T

abbrev no_names : Definitions
no_names = environment []

abbrev a : List ℕ
a = codes "a"

abbrev b : List ℕ
b = codes "b"

abbrev c : List ℕ
c = codes "c"

abbrev x : List ℕ
x = codes "x"

abbrev y : List ℕ
y = codes "y"

abbrev leaf : List ℕ → Document
leaf l = element l empty empty

-- Fits.

fits_one_text : Fits no_names (tag a Text) (element a (text x empty) empty)
fits_one_text = F.fits_elem refl F.fits_text

star_has_none : Fits no_names (Star (tag a Empty)) empty
star_has_none = F.fits_no_turn

plus_wants_one : first no_names (Plus (tag a Empty)) empty ≡ None
plus_wants_one = refl

-- a keyword is a label like others
keyword_label : Fits no_names (tag (codes "type") (tag (codes "val") Empty)) (element (codes "type") (leaf (codes "val")) empty)
keyword_label = F.fits_elem refl (F.fits_elem refl F.fits_empty)

two_texts : first no_names Text (text a (text b empty)) ≡ None
two_texts = refl

-- a class of texts takes its texts alone
named_text : first no_names (Words (record { names = a ∷ []; except = false })) (text a empty) ≡ Some []
named_text = refl

other_text : first no_names (Words (record { names = a ∷ []; except = true })) (text a empty) ≡ None
other_text = refl

words_heads : heads no_names (Alt (Words (record { names = a ∷ []; except = false })) Text)
    ≡ record { kind = text_in (record { names = a ∷ []; except = false }); content = Empty; rest = Empty } ∷ record { kind = text_in all_texts; content = Empty; rest = Empty } ∷ []
unfolding heads
words_heads = refl

empty_text : first no_names Text (text [] empty) ≡ Some []
empty_text = refl

any_deep : first no_names (Name any_word) (element a (element a (element a empty empty) empty) empty) ≡ Some []
any_deep = refl

-- First matches.

greedy : first no_names (Seq (Val x (Star (tag a Empty))) (Val y (Star (tag a Empty)))) (element a empty (leaf a))
    ≡ Some ((x, element a empty (leaf a)) ∷ (y, empty) ∷ [])
greedy = refl

-- variables in order of first occurrence, whichever branch takes the document
abbrev exchanged : Tree
exchanged = Alt (Seq (Val x (tag a Empty)) (Val y (tag b Empty))) (Seq (Val y (tag c Empty)) (Val x (tag (codes "d") Empty)))

in_order_of_occurrence : first_bindings no_names exchanged (element c empty (leaf (codes "d"))) ≡ Some ((x, leaf (codes "d")) ∷ (y, leaf c) ∷ [])
in_order_of_occurrence = refl

in_order_of_the_way : first no_names exchanged (element c empty (leaf (codes "d"))) ≡ Some ((y, leaf c) ∷ (x, leaf (codes "d")) ∷ [])
in_order_of_the_way = refl

-- the first branch that lets the whole succeed counts, though it takes less
empty_branch_first : first no_names (Seq (Val x (Alt Empty (tag a Empty))) (Val y (Star (tag a Empty)))) (leaf a)
    ≡ Some ((x, empty) ∷ (y, leaf a) ∷ [])
empty_branch_first = refl

-- a repetition of a repetition, and one whose part can be empty, end
star_of_star : first no_names (Star (Star (tag a Empty))) (element a empty (leaf a)) ≡ Some []
star_of_star = refl

star_of_empty : first no_names (Star (Opt (tag a Empty))) empty ≡ Some []
star_of_empty = refl

-- Heads.

abbrev the_head : List ℕ → Tree → Tree → Head Tree
the_head l T R = record { kind = element_in (one l); content = T; rest = R }

sequence_heads : heads no_names (Seq (Star (tag a Empty)) (tag b Text))
    ≡ the_head a Empty (Seq (Star (tag a Empty)) (tag b Text)) ∷ the_head b Text Empty ∷ []
unfolding heads can_be_empty
sequence_heads = refl

text_head : heads no_names Text ≡ record { kind = text_in all_texts; content = Empty; rest = Empty } ∷ []
unfolding heads
text_head = refl

empty_heads : heads no_names Empty ≡ []
unfolding heads
empty_heads = refl

element_heads : heads no_names (tag a Text) ≡ the_head a Text Empty ∷ []
unfolding heads
element_heads = refl

star_heads : heads no_names (Star (tag a Text)) ≡ the_head a Text (Star (tag a Text)) ∷ []
unfolding heads
star_heads = refl

plus_heads : heads no_names (Plus (tag a Text)) ≡ the_head a Text (Star (tag a Text)) ∷ []
unfolding heads
plus_heads = refl

option_heads : heads no_names (Opt (tag a Text)) ≡ the_head a Text Empty ∷ []
unfolding heads
option_heads = refl

-- repeated heads stay
alternative_heads : heads no_names (Alt (tag a Empty) (Alt (tag b Text) (tag a Empty)))
    ≡ the_head a Empty Empty ∷ the_head b Text Empty ∷ the_head a Empty Empty ∷ []
unfolding heads
alternative_heads = refl

-- the second part begins only where the first can be empty
first_alone : heads no_names (Seq (tag a Empty) (tag b Text)) ≡ the_head a Empty (tag b Text) ∷ []
unfolding heads can_be_empty
first_alone = refl

abbrev deep_a : Definitions
deep_a = environment ((x, tag a (Name x)) ∷ [])

name_heads : heads deep_a (Name x) ≡ the_head a (Name x) Empty ∷ []
unfolding heads
name_heads = refl

-- Canonical texts and depths.

text_of_star : type_text (Seq (Star (tag a Empty)) (tag a Empty)) ≡ codes "a[]*,a[]"
text_of_star = refl

text_of_group : type_text (Star (Alt (tag b Empty) (tag (codes "c") Empty))) ≡ codes "(b[]|c[])*"
text_of_group = refl

text_of_option : type_text (Opt (Star (tag a Empty))) ≡ codes "(a[]*)?"
text_of_option = refl

text_of_class : type_text (Elem (record { names = a ∷ b ∷ []; except = true }) (Name any_word)) ≡ codes "^(a|b)[Any]"
text_of_class = refl

text_of_text : type_text (Words (record { names = codes "a\"" ∷ []; except = false })) ≡ codes "\"a\\\"\""
text_of_text = refl

text_of_texts : type_text (Star (Words (record { names = a ∷ b ∷ []; except = true }))) ≡ codes "^(\"a\"|\"b\")*"
text_of_texts = refl

depth_of_texts : depth (Star (Words (record { names = a ∷ b ∷ []; except = true }))) ≡ 1
depth_of_texts = refl

text_of_empty : type_text Empty ≡ codes "()"
text_of_empty = refl

depth_of_option : depth (Opt (Star (tag a Empty))) ≡ 2
depth_of_option = refl

-- Faults of names.

abbrev type_def : List ℕ → Place → PlacedTree → TypeDefinition
type_def n q T = record { name = n; place = q; body = T }

abbrev fun : List ℕ → Place → List Parameter → PlacedTree → Expression → FunctionDefinition
fun n q ps T e = record { name = n; place = q; parameters = ps; declared = T; body = e }

abbrev param : List ℕ → Place → PlacedTree → Parameter
param n q T = record { name = n; place = q; declared = T }

abbrev unknown_names : ProgramTree
unknown_names = record {
  types =
      type_def (codes "A") (at_place 1 6) (Elem_at (at_place 1 10) (one a) (Name_at (at_place 1 12) (codes "B"))) ∷
      type_def (codes "A") (at_place 2 6) (Elem_at (at_place 2 10) (one (codes "c")) (Empty_at (at_place 2 12))) ∷ [];
  functions =
      fun (codes "f") (at_place 3 5) (param x (at_place 3 12) (Name_at (at_place 3 17) (codes "A")) ∷ []) (Name_at (at_place 3 22) (codes "A"))
      (Called (at_place 3 26) (codes "g") (argument (Variable (at_place 3 28) y) no_argument)) ∷ [];
}

unknown_names_found : name_faults unknown_names
    ≡ fault_at (at_place 1 12) (UnknownType (codes "B")) ∷ fault_at (at_place 2 6) (DuplicateName (codes "A"))
    ∷ fault_at (at_place 3 26) (UnknownFunction (codes "g")) ∷ fault_at (at_place 3 28) (UnknownVariable y) ∷ []
unknown_names_found = refl

abbrev any_at : PlacedTree
any_at = Name_at p any_word

abbrev two_arguments : ProgramTree
two_arguments = record {
  types = [];
  functions =
      fun (codes "f") (at_place 1 5) (param x (at_place 1 12) any_at ∷ []) any_at
      (Called (at_place 1 30) (codes "f") (argument (Variable p x) (argument (Variable p x) no_argument))) ∷ [];
}

two_arguments_found : name_faults two_arguments ≡ fault_at (at_place 1 30) (Arity (codes "f") 2 1) ∷ []
two_arguments_found = refl

-- a variable twice in a sequence of one clause's pattern
abbrev twice_bound : ProgramTree
twice_bound = record {
  types = [];
  functions =
      fun (codes "f") (at_place 1 5) (param x (at_place 1 12) any_at ∷ []) any_at
      (Matched (at_place 1 30) (Variable (at_place 1 36) x)
      (clause (Seq_at (at_place 1 43) (Val_at (at_place 1 43) y (at_place 1 47) any_at) (Val_at (at_place 1 50) y (at_place 1 54) any_at))
      (Variable (at_place 1 59) y) no_clause)) ∷ [];
}

twice_bound_found : name_faults twice_bound ≡ fault_at (at_place 1 54) (NotLinear y) ∷ []
twice_bound_found = refl

-- a second occurrence in a sequence
twice_in_a_row : linearity_faults (Seq_at p (Val_at p y (at_place 1 47) any_at) (Val_at p y (at_place 1 54) any_at))
    ≡ fault_at (at_place 1 54) (NotLinear y) ∷ []
twice_in_a_row = refl

-- a variable in each branch is linear, and one that a branch lacks is not, at its first occurrence
in_both_branches : linearity_faults (Alt_at p (Val_at p y (at_place 1 1) any_at) (Val_at p y (at_place 1 2) any_at)) ≡ []
in_both_branches = refl

in_two_of_three : linearity_faults (Alt_at p (Val_at p y (at_place 1 1) any_at) (Alt_at p (Val_at p y (at_place 1 2) any_at) (Empty_at p)))
    ≡ fault_at (at_place 1 1) (NotLinear y) ∷ []
in_two_of_three = refl

-- a variable within what it is bound to
within_itself : linearity_faults (Val_at p y (at_place 1 1) (Val_at p y (at_place 1 2) any_at)) ≡ fault_at (at_place 1 2) (NotLinear y) ∷ []
within_itself = refl

repeated_variable : linearity_faults (Star_at p (Val_at p y (at_place 1 1) (Elem_at p (one a) (Empty_at p)))) ≡ fault_at (at_place 1 1) (NotLinear y) ∷ []
repeated_variable = refl

-- Faults of recursion.

abbrev name_x : List ℕ
name_x = codes "X"

abbrev leaf_at : List ℕ → PlacedTree
leaf_at l = Elem_at p (one l) (Empty_at p)

abbrev one_type : PlacedTree → ProgramTree
one_type T = record { types = type_def name_x (at_place 1 6) T ∷ []; functions = [] }

-- a[],X,b[] | ()
abbrev in_the_middle : ProgramTree
in_the_middle = one_type (Alt_at p (Seq_at p (leaf_at a) (Seq_at p (Name_at (at_place 1 14) name_x) (leaf_at b))) (Empty_at p))

in_the_middle_found : AreRecursionFaults in_the_middle (fault_at (at_place 1 14) (NotTail name_x) ∷ [])
in_the_middle_found = record {
  outside = record { owner = name_x; use_there = record { name = name_x; place = at_place 1 14; is_tail = false; before = tag a Empty ∷ [] } } ∷ [];
  unguarded = [];
  outside_all = kept (refl, arrived) all_seen;
  unguarded_all = left_out (λ h. not_empty (h.0).0) all_seen;
  listed = refl;
}
  where
    not_empty : Fits (names_of in_the_middle) (tag a Empty) empty → ⊥
    not_empty f = elim f [ ]

-- X | a[]
abbrev in_front : ProgramTree
in_front = one_type (Alt_at p (Name_at (at_place 1 10) name_x) (leaf_at a))

in_front_found : AreRecursionFaults in_front (fault_at (at_place 1 10) (Unguarded name_x) ∷ [])
in_front_found = record {
  outside = [];
  unguarded = record { owner = name_x; use_there = record { name = name_x; place = at_place 1 10; is_tail = true; before = [] } } ∷ [];
  outside_all = left_out (λ h. let e : true ≡ false = h.0 in cc) all_seen;
  unguarded_all = kept (tt, arrived) all_seen;
  listed = refl;
}

-- X,b[]
abbrev in_front_and_middle : ProgramTree
in_front_and_middle = one_type (Seq_at p (Name_at (at_place 1 10) name_x) (leaf_at b))

in_front_and_middle_found : AreRecursionFaults in_front_and_middle
    (fault_at (at_place 1 10) (NotTail name_x) ∷ fault_at (at_place 1 10) (Unguarded name_x) ∷ [])
in_front_and_middle_found = record {
  outside = record { owner = name_x; use_there = record { name = name_x; place = at_place 1 10; is_tail = false; before = [] } } ∷ [];
  unguarded = record { owner = name_x; use_there = record { name = name_x; place = at_place 1 10; is_tail = false; before = [] } } ∷ [];
  outside_all = kept (refl, arrived) all_seen;
  unguarded_all = kept (tt, arrived) all_seen;
  listed = refl;
}

-- a[],X | ()
abbrev tail_recursive : ProgramTree
tail_recursive = one_type (Alt_at p (Seq_at p (leaf_at a) (Name_at (at_place 1 14) name_x)) (Empty_at p))

tail_recursive_sound : IsSound tail_recursive
tail_recursive_sound = record {
  names = refl;
  recursion = record {
    outside = [];
    unguarded = [];
    outside_all = left_out (λ h. let e : true ≡ false = h.0 in cc) all_seen;
    unguarded_all = left_out (λ h. not_empty (h.0).0) all_seen;
    listed = refl;
  };
}
  where
    not_empty : Fits (names_of tail_recursive) (tag a Empty) empty → ⊥
    not_empty f = elim f [ ]

tail_recursive_accepted : IsAccepted tail_recursive
tail_recursive_accepted = ([], record { found = []; all = refl; ordered = refl }, refl)

-- Meanings: the telephone program.

abbrev named_type : List ℕ → List ℕ → TypeDefinition
named_type n l = type_def n p (Elem_at p (one l) (Text_at p))

abbrev name : List ℕ
name = codes "name"

abbrev addr : List ℕ
addr = codes "addr"

abbrev tel : List ℕ
tel = codes "tel"

abbrev name_type : PlacedTree
name_type = Name_at p (codes "Name")

abbrev addr_type : PlacedTree
addr_type = Name_at p (codes "Addr")

abbrev tel_type : PlacedTree
tel_type = Name_at p (codes "Tel")

abbrev rest : List ℕ
rest = codes "rest"

abbrev again : Expression
again = Called p main_word (argument (Variable p rest) no_argument)

abbrev telephones : ProgramTree
telephones = record {
  types = named_type (codes "Name") name ∷ named_type (codes "Addr") addr ∷ named_type (codes "Tel") tel ∷ [];
  functions =
      fun main_word p (param x p (Star_at p (Seq_at p name_type (Seq_at p addr_type (Opt_at p tel_type)))) ∷ []) (Star_at p (Seq_at p name_type tel_type))
      (Matched p (Variable p x)
      (clause (Seq_at p (Val_at p (codes "n") p name_type) (Seq_at p addr_type (Seq_at p (Val_at p (codes "t") p tel_type) (Val_at p rest p any_at))))
      (Joined p (Variable p (codes "n")) (Joined p (Variable p (codes "t")) again))
      (clause (Seq_at p name_type (Seq_at p addr_type (Val_at p rest p any_at))) again
      (clause (Empty_at p) (Nothing p) no_clause)))) ∷ [];
}

abbrev entry : List ℕ → List ℕ → Document → Document
entry l s d = element l (text s empty) d

abbrev two_persons : Document
two_persons = entry name (codes "A") (entry addr (codes "B") (entry tel (codes "1") (entry name (codes "C") (entry addr (codes "D") empty))))

telephones_sound : name_faults telephones ≡ []
telephones_sound = refl

three_calls : meaning telephones 3 two_persons ≡ Done (entry name (codes "A") (entry tel (codes "1") empty)) 0
three_calls = refl

calls_left : meaning telephones 10 two_persons ≡ Done (entry name (codes "A") (entry tel (codes "1") empty)) 7
calls_left = refl

too_few_calls : meaning telephones 2 two_persons ≡ Spent
too_few_calls = refl

no_call : meaning telephones 0 empty ≡ Spent
no_call = refl

outside_the_type : meaning telephones 3 (entry tel (codes "1") empty) ≡ Stuck
outside_the_type = refl

abbrev endless : ProgramTree
endless = record {
  types = [];
  functions = fun main_word p (param x p any_at ∷ []) any_at (Called p main_word (argument (Variable p x) no_argument)) ∷ [];
}

endless_spent : meaning endless 10 empty ≡ Spent
endless_spent = refl

-- an inner variable hides an outer one, and an argument is evaluated before its call is counted
abbrev pub hiding : ProgramTree
hiding = record {
  types = [];
  functions =
      fun main_word p (param x p any_at ∷ []) any_at
      (Matched p (Called p (codes "f") (argument (Called p (codes "f") (argument (Variable p x) no_argument)) no_argument))
      (clause (Elem_at p (one a) (Val_at p x p any_at)) (Variable p x) no_clause)) ∷
      fun (codes "f") p (param y p any_at ∷ []) any_at (Tagged p a (Variable p y)) ∷ [];
}

hidden : meaning hiding 3 (leaf b) ≡ Done (element a (leaf b) empty) 0
hidden = refl
