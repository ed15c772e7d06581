-- The loop over the functions of a program.
use Rattle.std.proofs.Common.{◌≡◌, ℕ, zero, suc, ◌+◌, ◌<◌, List, [], ◌∷◌, map, length, get_or, drop, arith, refl, ap, sym, subst, ◌∙◌}
use Rattle.std.proofs.lemmas.List.{drop_more, get_or_default}
use Rattle.xd_doc.specs.Document.{Document}
use Rattle.xd_doc.specs.StoreNodes.{Keeps}
use Rattle.xd_doc.proofs.StoredLemmas.{Keeps-same, Keeps-trans}
use Rattle.xd_auto.specs.Automaton.{Automaton}
use Rattle.xd_syntax.specs.Kept.{ProgramTable, function_definition, program_tree}
use Rattle.xd_syntax.specs.FunctionRow.{FunctionRow}
use Rattle.xd_check_steps.specs.Found.{AddsFound, Found, Seen, followed}
use Rattle.xd_syntax.specs.Program.{FunctionDefinition, ProgramTree, names_of}
use Rattle.xd_meaning.specs.KeptFaults.{AllPaired}
use Rattle.xd_check_steps.specs.declared.signatures.Signature.{Signature}
use Rattle.xd_check_steps.specs.Signed.{IsSignature}
use Rattle.xd_check.specs.Ready.{AddsFoundOfFunction}
use Rattle.xd_check.specs.Walked.{SeenInFunction, SeenInFunctions}
use Rattle.xd_check_steps.specs.States.{Grows}
use Rattle.xd_check_steps.proofs.AddsFoundLemmas.{Goes, goes_all, goes_begin, goes_more}
use Rattle.xd_check_steps.proofs.GrowsLemmas.{grows_none, grows_then}

-- the functions from the n-th on are still to be walked
pub record FunctionsLoop (p : ProgramTable) (a b : Automaton) (ds es : List Document) (old new : Found) (n : ℕ) : Type 0 where
  pub grows : Grows a b
  pub keeps : Keeps ds es
  pub found : AddsFound p b es (Goes (SeenInFunctions (program_tree p) (map (function_definition p) (drop n p.functions))) (SeenInFunctions (program_tree p) (map (function_definition p) p.functions))) old new

pub functions_begin : (p : ProgramTable) (a : Automaton) (ds : List Document) (f : Found) → FunctionsLoop p a a ds ds f f 0
functions_begin p a ds f = record { grows = grows_none a; keeps = Keeps-same ds; found = goes_begin (SeenInFunctions (program_tree p) (map (function_definition p) p.functions)) f }

function_seen : (P : ProgramTree) (f : FunctionDefinition) (fs : List FunctionDefinition) (s t : Seen) → SeenInFunction P f s → SeenInFunctions P fs t → SeenInFunctions P (f ∷ fs) (followed s t)
function_seen P f fs s t x y = ((s.lines, t.lines, x.0, y.0, refl), (s.matches, t.matches, x.1, y.1, refl))

pub functions_more : (p : ProgramTable) (a b c : Automaton) (ds es fs : List Document) (old mid new : Found) (n : ℕ) (f : FunctionRow) → FunctionsLoop p a b ds es old mid n → n < length p.functions → f ≡ get_or p.functions n f →
    AddsFoundOfFunction p n c fs mid new → Grows b c → Keeps es fs → FunctionsLoop p a c ds fs old new (n + 1)
functions_more p a b c ds es fs old mid new n f h l e x g k =
    let P : ProgramTree = program_tree p in
    let d : drop n p.functions ≡ f ∷ drop (n + 1) p.functions = drop_more p.functions n f l ∙ ap (λ y. y ∷ drop (n + 1) p.functions) (sym e) in
    let whole : Seen → Type 0 = SeenInFunctions P (map (function_definition p) p.functions) in
    let left : List FunctionDefinition = map (function_definition p) (drop (n + 1) p.functions) in
    let y : AddsFound p b es (Goes (SeenInFunctions P (function_definition p f ∷ left)) whole) old mid
    = subst (λ (rs : List FunctionRow). AddsFound p b es (Goes (SeenInFunctions P (map (function_definition p) rs)) whole) old mid) d h.found in
    record {
      grows = grows_then a b c h.grows g;
      keeps = Keeps-trans ds es fs h.keeps k;
      found = goes_more g k (SeenInFunctions P (function_definition p f ∷ left)) (SeenInFunction P (function_definition p f)) (SeenInFunctions P left) whole (function_seen P (function_definition p f) left) y (x f e);
    }

pub functions_end : (p : ProgramTable) (a b : Automaton) (ds es : List Document) (old new : Found) (n : ℕ) → drop n p.functions ≡ [] → FunctionsLoop p a b ds es old new n →
    AddsFound p b es (SeenInFunctions (program_tree p) (map (function_definition p) p.functions)) old new
functions_end p a b ds es old new n d h =
    let P : ProgramTree = program_tree p in
    let whole : Seen → Type 0 = SeenInFunctions P (map (function_definition p) p.functions) in
    let y : AddsFound p b es (Goes (SeenInFunctions P []) whole) old new
    = subst (λ (rs : List FunctionRow). AddsFound p b es (Goes (SeenInFunctions P (map (function_definition p) rs)) whole) old new) d h.found in
    goes_all (SeenInFunctions P []) whole (refl, refl) y

pub function_at : (fs : List FunctionRow) (n : ℕ) → n < length fs → FunctionRow
function_at [] n l = absurd (omega arith)
function_at (f ∷ fs) n l = get_or (f ∷ fs) n f

pub function_at_is : (fs : List FunctionRow) (n : ℕ) (l : n < length fs) → function_at fs n l ≡ get_or fs n (function_at fs n l)
unfolding function_at
function_at_is [] n l = absurd (omega arith)
function_at_is (f ∷ fs) n l = get_or_default (f ∷ fs) n f (get_or (f ∷ fs) n f) l

-- the signature of a function, by its number
pub signature_at_row : (p : ProgramTable) (a : Automaton) (fs : List FunctionRow) (gs : List Signature) (n : ℕ) (f : FunctionRow) (g : Signature) → n < length fs → f ≡ get_or fs n f → g ≡ get_or gs n g →
    AllPaired (IsSignature (names_of (program_tree p)) a) (map (function_definition p) fs) gs → IsSignature (names_of (program_tree p)) a (function_definition p f) g
signature_at_row p a [] gs n f g l e i h = absurd (omega arith)
signature_at_row p a (x ∷ xs) [] n f g l e i h = absurd h
signature_at_row p a (x ∷ xs) (y ∷ ys) zero f g l e i h = subst (λ z. IsSignature (names_of (program_tree p)) a (function_definition p z) g) (sym e) (subst (IsSignature (names_of (program_tree p)) a (function_definition p x)) (sym i) h.0)
signature_at_row p a (x ∷ xs) (y ∷ ys) (suc n) f g l e i h = signature_at_row p a xs ys n f g (omega arith) e i h.1

pub rows_count : (p : ProgramTable) (a : Automaton) (fs : List FunctionRow) (gs : List Signature) → AllPaired (IsSignature (names_of (program_tree p)) a) (map (function_definition p) fs) gs → length fs ≡ length gs
rows_count p a [] [] h = refl
rows_count p a [] (y ∷ ys) h = absurd h
rows_count p a (x ∷ xs) [] h = absurd h
rows_count p a (x ∷ xs) (y ∷ ys) h = ap suc (rows_count p a xs ys h.1)
