-- The lines of a program as an outcome.
use Rattle.std.proofs.Common.{◌≡◌, Bool, true, false, cond, List, [], ◌∷◌, ◌++◌, refl, ap, sym, subst, ◌∙◌}
use Rattle.xd_doc.specs.Document.{Document}
use Rattle.xd_syntax.specs.Order.{ordered, ordered_after, put_in}
use Rattle.xd_syntax.specs.CheckFaults.{AreLinesBy, Line, LinesOfFunctions, faults_among}
use Rattle.xd_syntax.specs.Program.{ProgramTree}
use Rattle.xd_syntax.specs.declared.fault.Fault.{Fault}
use Rattle.xd_meaning.specs.KeptFaults.{AllPaired, AreFaultsOf}
use Rattle.xd_meaning.specs.KeptLines.{IsFaultOf}
use Rattle.xd_check_steps.specs.declared.lines.FoundLine.{FoundLine}
use Rattle.xd_check_steps.specs.FoundLines.{AddsLines, FindingBelongs, LinesBelong, found_precedes, lines_of, told_size}
use Rattle.xd_check_steps.proofs.Ranks.{found_in_order}

put_belongs : (ds : List Document) (l : FoundLine) (ms : List FoundLine) → FindingBelongs ds l.finding → LinesBelong ds ms → LinesBelong ds (put_in found_precedes l ms)
put_belongs ds l [] b h = (b, tt)
put_belongs ds l (m ∷ ms) b h = go (found_precedes l m) (put_belongs ds l ms b h.1)
  where
    go : (t : Bool) → LinesBelong ds (put_in found_precedes l ms) → LinesBelong ds (cond t (l ∷ (m ∷ ms)) (m ∷ put_in found_precedes l ms))
    go true r = (b, h)
    go false r = (h.0, r)

ordered_belongs : (ds : List Document) (done ls : List FoundLine) → LinesBelong ds done → LinesBelong ds ls → LinesBelong ds (ordered_after found_precedes done ls)
ordered_belongs ds done [] d h = d
ordered_belongs ds done (l ∷ ls) d h = ordered_belongs ds (put_in found_precedes l done) ls (put_belongs ds l done h.0 d) h.1

-- the lines of a program, sorted
pub record AreSorted (P : ProgramTree) (ds : List Document) (sorted : List FoundLine) : Type 0 where
  pub lines : AreLinesBy told_size P (lines_of ds sorted)
  pub belong : LinesBelong ds sorted

pub lines_sorted : (P : ProgramTree) (ds : List Document) (none found sorted : List FoundLine) → none ≡ [] → AddsLines ds (LinesOfFunctions told_size P P.functions) none found → sorted ≡ ordered found_precedes found → AreSorted P ds sorted
lines_sorted P ds none found sorted z h e =
    let f : found ≡ h.more = h.grown ∙ ap (λ ls. ls ++ h.more) z in
    let s : sorted ≡ ordered found_precedes h.more = e ∙ ap (ordered found_precedes) f in
    record {
      lines = record { found = lines_of ds h.more; all = h.meet; ordered = ap (lines_of ds) s ∙ found_in_order ds h.more };
      belong = subst (LinesBelong ds) (sym s) (ordered_belongs ds [] h.more tt h.belong);
    }

pub no_fault : (ds : List Document) (ls : List Line) (fs : List Fault) → AreFaultsOf ds ls fs → fs ≡ [] → faults_among ls ≡ []
no_fault ds ls fs h e = go (faults_among ls) (subst (AllPaired (IsFaultOf ds) (faults_among ls)) e h)
  where
    go : (ms : List Line) → AllPaired (IsFaultOf ds) ms [] → ms ≡ []
    go [] k = refl
    go (m ∷ ms) k = absurd k

pub some_fault : (ds : List Document) (ls : List Line) (fs : List Fault) → AreFaultsOf ds ls fs → (fs ≡ [] → ⊥) → faults_among ls ≡ [] → ⊥
some_fault ds ls fs h n e = go fs n (subst (λ ms. AllPaired (IsFaultOf ds) ms fs) e h)
  where
    go : (gs : List Fault) → (gs ≡ [] → ⊥) → AllPaired (IsFaultOf ds) [] gs → ⊥
    go [] m k = m refl
    go (g ∷ gs) m k = k
