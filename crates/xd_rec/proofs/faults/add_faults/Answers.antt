use Rattle.std.proofs.Common.{◌≡◌, arith, Bool, true, false, cond, List, [], ◌∷◌, ◌++◌, take, ap, sym, ◌∙◌}
use Rattle.std.proofs.lemmas.List.{append-nil, take_more}
use Rattle.xd_syntax.specs.declared.fault.Fault.{Fault}
use Rattle.xd_rec.specs.Faults.{faults_of, recurs, recursion_fault}
use Rattle.xd_rec.specs.declared.uses.TopUse.{TopUse}
use Rattle.xd_rec.proofs.FaultLemmas.{faults_found, owned_at}
use Rattle.xd_rec.proofs.faults.add_faults.Goals as goal
use Rattle.xd_rec.proofs.faults.add_faults.Goals.{then-recurs+in_ok-recursion_fault+in_ok-push, else-recurs}

pub recurs-requires-clause-owner : goal.recurs-requires-clause-owner
recurs-requires-clause-owner c =
    let u = c.top_use-item.result in
    let o = owned_at c.args.defs.now c.args.uses.now c.requires.owned c.loop-top_use.top_use-index u c.loop-top_use-test.true in
    let e = ap (λ (x : TopUse). x.owner) c.top_use-item.is in
    omega arith

pub loop-top_use-preserved : goal.loop-top_use-preserved
loop-top_use-preserved c =
    let us = c.args.uses.now in
    let k = c.loop-top_use.top_use-index in
    let u = c.top_use-item.result in
    let test = recurs c.args.recursion c.args.defs.now c.args.standing.now in
    let fault = recursion_fault c.args.recursion in
    let t = ap (λ xs. c.args.faults.now.items ++ faults_of test fault xs) (take_more us k u c.loop-top_use-test.true ∙ ap (λ x. take k us ++ x ∷ []) (sym c.top_use-item.is)) in
    let step : (b : Bool) → test u ≡ b → (now : List Fault) → now ≡ c.loop-top_use.faults.items ++ cond b (fault u ∷ []) [] → now ≡ c.args.faults.now.items ++ faults_of test fault (take k us ++ u ∷ []) =
    λ b e now n. faults_found test fault (take k us) u b e c.args.faults.now.items c.loop-top_use.faults.items now c.loop-top_use.invariant.found n in
    elim c.if-recurs.branch [
      | then-recurs+in_ok-recursion_fault+in_ok-push w ↦ record { found = step true (sym c.recurs.ensures ∙ w.if-recurs.true) c.if-recurs.faults.items (rw w.faults-is (w.in_ok-push.ensures.items ∙ ap (λ (f : Fault). c.loop-top_use.faults.items ++ f ∷ []) w.in_ok-recursion_fault.ensures)) ∙ sym t }
      | else-recurs w ↦ record { found = step false (sym c.recurs.ensures ∙ w.if-recurs.false) c.if-recurs.faults.items (rw w.faults-is (sym (append-nil c.loop-top_use.faults.items))) ∙ sym t }
    ]
