-- The lines of reports. Each ends with a line feed.
use Rattle.std.specs.Prelude.{ℕ, List, [], ◌++◌, Option, Some, None, codes, decimal}
use Rattle.xd_base.specs.declared.Place.{Place}
use Rattle.xd_doc.specs.Document.{Document, canonical_text}
use Rattle.xd_doc.specs.Stored.{document_at}
use Rattle.xd_syntax.specs.Order.{number_of}
use Rattle.xd_syntax.specs.declared.fault.Fault.{Fault}
use Rattle.xd_syntax.specs.declared.fault.FaultKind.{FaultKind}
use Rattle.xd_syntax.specs.declared.fault.FaultKind.TheVariants.{NotUtf8, Syntax, TooDeep, DuplicateName, UnknownType, UnknownFunction, UnknownVariable, Arity, NotLinear, NotTail, Unguarded, NotExhaustive, Argument, Result, NoSuchName, NoMain}

-- what stands in front of a line with a place
abbrev pub place_front : Place → List ℕ
place_front p = decimal p.line ++ codes ":" ++ decimal p.column ++ codes ": "

-- a fault may have no place
abbrev pub fault_front : Option Place → List ℕ
fault_front None = []
fault_front (Some p) = place_front p

-- what is said of a match before the document that shows it
abbrev pub match_words : List ℕ
match_words = codes "match is not exhaustive: "

-- the same of an argument
abbrev pub argument_words : List ℕ
argument_words = codes "argument does not fit: "

-- the same of a result
abbrev pub result_words : List ℕ
result_words = codes "result does not fit: "

-- what a warning says after its place; there is one kind
abbrev pub warning_words : List ℕ
warning_words = codes "warning 1: clause is never reached\n"

-- what is wrong; the documents are those of the store that the fault is handed with
abbrev pub kind_text : List Document → FaultKind → List ℕ
kind_text ds NotUtf8 = codes "text is not UTF-8"
kind_text ds Syntax = codes "syntax"
kind_text ds TooDeep = codes "nested too deep"
kind_text ds (DuplicateName w) = codes "name " ++ w ++ codes " is defined twice"
kind_text ds (UnknownType w) = codes "type " ++ w ++ codes " is not defined"
kind_text ds (UnknownFunction w) = codes "function " ++ w ++ codes " is not defined"
kind_text ds (UnknownVariable w) = codes "variable " ++ w ++ codes " is not defined"
kind_text ds (Arity w given wanted) =
    codes "function " ++ w ++ codes " has arguments " ++ decimal given ++ codes ", wants " ++ decimal wanted
kind_text ds (NotLinear w) = codes "variable " ++ w ++ codes " is not linear"
kind_text ds (NotTail w) = codes "type " ++ w ++ codes " recurs outside tail position"
kind_text ds (Unguarded w) = codes "type " ++ w ++ codes " recurs unguarded"
kind_text ds (NotExhaustive d) = match_words ++ canonical_text (document_at ds d)
kind_text ds (Argument d) = argument_words ++ canonical_text (document_at ds d)
kind_text ds (Result d) = result_words ++ canonical_text (document_at ds d)
kind_text ds (NoSuchName w) = codes "type " ++ w ++ codes " is not defined"
kind_text ds NoMain = codes "no function main with one parameter"

-- the line of a fault
abbrev pub fault_text : List Document → Fault → List ℕ
fault_text ds f =
    fault_front f.place ++ codes "fault " ++ decimal (number_of f.kind) ++ codes ": " ++ kind_text ds f.kind
    ++ codes "\n"
