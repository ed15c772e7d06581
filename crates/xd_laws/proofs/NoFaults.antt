-- Where a program has no fault, no part of it has one.
use Rattle.std.proofs.Common.{◌≡◌, ℕ, Bool, true, false, cond, inl, inr, List, [], ◌∷◌, ◌++◌, map, flat_map, Some, refl, ap, sym, subst, ◌∙◌}
use Rattle.std.specs.Str.{bytes_eq}
use Rattle.xd_base.specs.declared.Place.{Place}
use Rattle.xd_doc.specs.Document.{Document, is_proper, size}
use Rattle.xd_doc.specs.Members.{IsOneOf}
use Rattle.xd_doc.proofs.Lists.{append_none_parts}
use Rattle.xd_syntax.specs.Program.{TypeDefinition, Parameter, FunctionDefinition, ProgramTree, function_of}
use Rattle.xd_syntax.specs.NameFaults.{duplicate_names, unknown_types, known_types, expression_faults, function_faults, name_faults}
use Rattle.xd_syntax.specs.Order.{put_in, ordered_after}
use Rattle.xd_syntax.specs.CheckFaults.{Line, LineKind, line_precedes, LineWhere, LinesOfFunction, LinesOfFunctions, is_warning, faults_among, IsAccepted}
use Rattle.xd_syntax.specs.declared.fault.Fault.{Fault}
use Rattle.xd_laws.proofs.SoundGuarded.{in_order_none}
use Rattle.xd_laws.proofs.WordLists.{nothing_each}

-- Lines that are warnings.

abbrev AreWarnings : List Line → Type 0
AreWarnings [] = Unit {0}
AreWarnings (l ∷ ls) = (is_warning l.kind ≡ true) × AreWarnings ls

warnings_alone : (ls : List Line) → faults_among ls ≡ [] → AreWarnings ls
warnings_alone [] e = tt
warnings_alone (l ∷ ls) e = go (is_warning l.kind) refl e (λ k. warnings_alone ls k)
  where
    go : (b : Bool) → is_warning l.kind ≡ b → cond b (faults_among ls) (l ∷ faults_among ls) ≡ [] → (faults_among ls ≡ [] → AreWarnings ls) → AreWarnings (l ∷ ls)
    go true q k rec = (q, rec k)
    go false q k rec = absurd (cc)

no_fault_among : (ls : List Line) → AreWarnings ls → faults_among ls ≡ []
no_fault_among [] a = refl
no_fault_among (l ∷ ls) a = ap (λ b. cond b (faults_among ls) (l ∷ faults_among ls)) a.0 ∙ no_fault_among ls a.1

warnings_both : (xs ys : List Line) → AreWarnings (xs ++ ys) → AreWarnings xs × AreWarnings ys
warnings_both [] ys a = (tt, a)
warnings_both (x ∷ xs) ys a = let r = warnings_both xs ys a.1 in ((a.0, r.0), r.1)

warnings_put : (l : Line) (ms : List Line) → AreWarnings (put_in line_precedes l ms) → AreWarnings (l ∷ ms)
warnings_put l [] a = a
warnings_put l (m ∷ ms) a = go (line_precedes l m) a (λ k. warnings_put l ms k)
  where
    go : (b : Bool) → AreWarnings (cond b (l ∷ (m ∷ ms)) (m ∷ put_in line_precedes l ms)) → (AreWarnings (put_in line_precedes l ms) → AreWarnings (l ∷ ms)) → AreWarnings (l ∷ (m ∷ ms))
    go true a rec = a
    go false a rec = let r = rec a.1 in (r.0, (a.0, r.1))

warnings_after : (done ls : List Line) → AreWarnings (ordered_after line_precedes done ls) → AreWarnings done × AreWarnings ls
warnings_after done [] a = (a, tt)
warnings_after done (l ∷ ls) a =
    let r = warnings_after (put_in line_precedes l done) ls a in let k = warnings_put l done r.0 in (k.1, (k.0, r.1))

-- the lines of two parts
pub no_faults_of : (ls xs ys : List Line) → ls ≡ xs ++ ys → faults_among ls ≡ [] → (faults_among xs ≡ []) × (faults_among ys ≡ [])
no_faults_of ls xs ys e q =
    let r = warnings_both xs ys (warnings_alone (xs ++ ys) (ap faults_among (sym e) ∙ q)) in (no_fault_among xs r.0, no_fault_among ys r.1)

-- where a fault would stand there is no such document
pub no_line : (p : Place) (k : LineKind) (A : Document → Type 0) (ls : List Line) → is_warning k ≡ false → LineWhere size p k A ls → faults_among ls ≡ [] →
    (d : Document) → is_proper d ≡ true → A d → ⊥
no_line p k A ls w (inl h) q d i j =
    let l : Line = record { place = p; kind = k; document = Some h.0 } in
    let a : AreWarnings (l ∷ []) = warnings_alone (l ∷ []) (ap faults_among (sym h.2) ∙ q) in
    let f : true ≡ false = sym a.0 ∙ w in absurd (cc)
no_line p k A ls w (inr h) q d i j = h.0 d i j

-- Functions.

pub function_among : (fs : List FunctionDefinition) (x : List ℕ) (f : FunctionDefinition) → function_of fs x ≡ Some f → IsOneOf f fs
function_among [] x f e = absurd (cc)
function_among (g ∷ gs) x f e = go (bytes_eq g.name x) e (λ k. function_among gs x f k)
  where
    go : (b : Bool) → cond b (Some g) (function_of gs x) ≡ Some f → (function_of gs x ≡ Some f → IsOneOf f gs) → IsOneOf f (g ∷ gs)
    go true k rec = inl (cc)
    go false k rec = inr (rec k)

lines_of_one : (P : ProgramTree) (fs : List FunctionDefinition) (ls : List Line) → LinesOfFunctions size P fs ls → faults_among ls ≡ [] →
    (f : FunctionDefinition) → IsOneOf f fs → (ms : List Line) × LinesOfFunction size P f ms × (faults_among ms ≡ [])
lines_of_one P [] ls l q f m = absurd m
lines_of_one P (g ∷ gs) ls l q f (inl e) =
    let r = no_faults_of ls l.0 l.1 l.4 q in (l.0, subst (λ h. LinesOfFunction size P h l.0) e l.2, r.0)
lines_of_one P (g ∷ gs) ls l q f (inr m) =
    let r = no_faults_of ls l.0 l.1 l.4 q in lines_of_one P gs l.1 l.3 r.1 f m

pub function_lines : (P : ProgramTree) → IsAccepted P → (f : FunctionDefinition) → IsOneOf f P.functions → (ms : List Line) × LinesOfFunction size P f ms × (faults_among ms ≡ [])
function_lines P a f m =
    let found = (a.1).found in
    let q : faults_among (ordered_after line_precedes [] found) ≡ [] = ap faults_among (sym (a.1).ordered) ∙ a.2 in
    let r = warnings_after [] found (warnings_alone (ordered_after line_precedes [] found) q) in
    lines_of_one P P.functions found (a.1).all (no_fault_among found r.1) f m

pub body_names : (P : ProgramTree) → name_faults P ≡ [] → (f : FunctionDefinition) → IsOneOf f P.functions →
    expression_faults P (map (λ (q : Parameter). q.name) f.parameters) f.body ≡ []
body_names P e f m =
    let types : List Fault = flat_map (λ (t : TypeDefinition). unknown_types (known_types P) t.body) P.types in
    let all : List Fault = flat_map (function_faults P) P.functions in
    let a = in_order_none (duplicate_names P ++ types ++ all) e in
    let b = nothing_each (function_faults P) P.functions (append_none_parts (duplicate_names P ++ types) all a).1 f m in
    let declared : List Fault = flat_map (λ (q : Parameter). unknown_types (known_types P) q.declared) f.parameters in
    let body : List Fault = expression_faults P (map (λ (q : Parameter). q.name) f.parameters) f.body in
    (append_none_parts (declared ++ unknown_types (known_types P) f.declared) body b).1
