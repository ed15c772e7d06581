use Rattle.std.proofs.Common.{◌≡◌, ℕ, ◌<◌, ◌≤◌, ◌+◌, arith, Bool, true, false, not, ◌&&◌, ◌||◌, List, [], ◌∷◌, ◌++◌, map, flat_map, length, take, drop, get_or, ap, sym, subst, ◌∙◌, append_assoc, append-nil}
use Rattle.std.specs.List.{AllByRecursion, list_all}
use Rattle.xd_doc.proofs.Lists.{take_front, drop_past}
use Rattle.xd_syntax.specs.Words.{has_word}
use Rattle.xd_syntax.specs.Table.{CanFollow}
use Rattle.xd_syntax.specs.Patterns.{pattern_numbers}
use Rattle.xd_syntax.specs.Nodes.{view_form}
use Rattle.xd_syntax.specs.Placed.{PlacedTree, variables}
use Rattle.xd_syntax.specs.PlacedTable.{placed_at}
use Rattle.xd_syntax.specs.NameFaults.{fault_if}
use Rattle.xd_syntax.specs.NotLinear.{not_linear}
use Rattle.xd_syntax.specs.declared.patterns.PatternId.{PatternId}
use Rattle.xd_syntax.specs.declared.fault.Fault.{Fault}
use Rattle.xd_syntax.specs.declared.fault.FaultKind.TheVariants.{NotLinear}
use Rattle.xd_syntax.proofs.NodeParts.{viewed_tree}
use Rattle.xd_names.proofs.WordLemmas.{drop_at}
use Rattle.xd_names.proofs.TreeLemmas.{parts_step, variables_seq, variables_alt, parts_done}
use Rattle.xd_names.proofs.LinearLemmas.{no_alts, not_linear-seq, seq_faults, alt_faults, seq_more, alt_more, alt_all, partial_more, partial_val, partial_alt, val_faults}
use Rattle.xd_names.proofs.linear.+not_linear.Goals as goal

pub returns-in_ok-not_linear-in-Val-clause-partial : goal.returns-in_ok-not_linear-in-Val-clause-partial
returns-in_ok-not_linear-in-Val-clause-partial t c w =
    let P : ℕ → PlacedTree = placed_at c.args.patterns.now in
    let e = viewed_tree (λ (id : PatternId). id.at) _ c.args.patterns.now _ _ _ _ c.view.ensures.node c.in-Val.is in
    partial_val c.in-Val.word.now (variables (P c.in-Val.part.at)) c.args.partial.now c.occur.new.partial c.not_linear-in-Val.new.partial w
    (c.in_ok-occur-in-Val.ensures.partial w) (c.in_ok-not_linear-in-Val.ensures.partial w)
    ∙ ap (λ T. not (has_word (variables T) w) && has_word c.args.partial.now w) (sym e)

pub returns-in_ok-not_linear-in-Val-clause-faults : goal.returns-in_ok-not_linear-in-Val-clause-faults
returns-in_ok-not_linear-in-Val-clause-faults t c =
    let P : ℕ → PlacedTree = placed_at c.args.patterns.now in
    let x : List ℕ = c.in-Val.word.now in
    let T : PlacedTree = P c.in-Val.part.at in
    let old : List Fault = c.args.faults.now.items in
    let own : List Fault = fault_if (c.args.repeated || (has_word c.args.earlier.now x || has_word c.args.partial.now x)) c.in-Val.place (NotLinear x) in
    let e = viewed_tree (λ (id : PatternId). id.at) _ c.args.patterns.now _ _ _ _ c.view.ensures.node c.in-Val.is in
    c.in_ok-not_linear-in-Val.ensures.faults
    ∙ ap (λ fs. fs ++ not_linear c.args.repeated c.occur.new.earlier c.occur.new.partial false T) c.in_ok-occur-in-Val.ensures.faults
    ∙ append_assoc old own (not_linear c.args.repeated c.occur.new.earlier c.occur.new.partial false T)
    ∙ ap (λ fs. old ++ (own ++ fs))
    (ap (λ es. not_linear c.args.repeated es c.occur.new.partial false T) c.in_ok-occur-in-Val.ensures.earlier
    ∙ val_faults c.args.repeated c.args.earlier.now c.args.partial.now c.occur.new.partial x T c.in_ok-occur-in-Val.ensures.partial)
    ∙ ap (λ U. old ++ not_linear c.args.repeated c.args.earlier.now c.args.partial.now false U) (sym e)

pub loop-part-preserved : goal.loop-part-preserved
loop-part-preserved t c =
    let P : ℕ → PlacedTree = placed_at c.args.patterns.now in
    let V : ℕ → List (List ℕ) = λ i. variables (P i) in
    let i = c.loop-part.invariant in
    let xs = c.in-Seq.parts.now in
    let n : ℕ = c.loop-part.part-index in
    let rest : List ℕ = pattern_numbers (drop (n + 1) xs) in
    let first : PatternId = record { at = 0 } in
    let d = drop_at xs n first c.loop-part-test.true in
    let T : PlacedTree = P (get_or xs n first).at in
    let k = c.in_ok-not_linear-in-Seq.ensures in
    let q : List (List ℕ) = c.not_linear-in-loop-part.new.partial in
    record {
      earlier = ap (λ es. es ++ flat_map V rest) k.earlier ∙ append_assoc c.loop-part.earlier (variables T) (flat_map V rest)
          ∙ ap (λ ys. c.loop-part.earlier ++ flat_map V (pattern_numbers ys)) (sym d) ∙ i.earlier;
      partial = λ w. partial_more (variables T) (flat_map V rest) c.loop-part.partial q w (k.partial w)
          ∙ ap (λ ys. not (has_word (flat_map V (pattern_numbers ys)) w) && has_word c.loop-part.partial w) (sym d) ∙ i.partial w;
      faults = ap (λ es. c.not_linear-in-loop-part.new.faults.items ++ seq_faults c.args.repeated es q (map P rest)) k.earlier
          ∙ ap (λ fs. fs ++ seq_faults c.args.repeated (c.loop-part.earlier ++ variables T) q (map P rest)) k.faults
          ∙ seq_more c.args.repeated c.loop-part.earlier c.loop-part.partial q T (map P rest) c.loop-part.faults.items k.partial
          ∙ ap (λ ys. c.loop-part.faults.items ++ seq_faults c.args.repeated c.loop-part.earlier c.loop-part.partial (map P (pattern_numbers ys))) (sym d) ∙ i.faults;
      older = (subst (λ ys. AllByRecursion (λ j. j < c.args.id.at) (pattern_numbers ys)) d i.older).1;
    }

pub loop-branch-preserved : goal.loop-branch-preserved
loop-branch-preserved t c =
    let P : ℕ → PlacedTree = placed_at c.args.patterns.now in
    let V : ℕ → List (List ℕ) = λ i. variables (P i) in
    let i = c.loop-branch.invariant in
    let xs = c.in-Alt.branches.now in
    let n : ℕ = c.loop-branch.branch-index in
    let rest : List ℕ = pattern_numbers (drop (n + 1) xs) in
    let first : PatternId = record { at = 0 } in
    let d = drop_at xs n first c.loop-branch-test.true in
    let T : PlacedTree = P (get_or xs n first).at in
    let k = c.in_ok-not_linear-in-Alt.ensures in
    let q : List (List ℕ) = c.not_linear-in-loop-branch.new.partial in
    let same : c.truncate.new.self ≡ c.loop-branch.earlier
    = c.truncate.ensures ∙ ap (take c.len-before.result) k.earlier ∙ ap (λ m. take m (c.loop-branch.earlier ++ variables T)) (c.len-before.ensures ∙ ap length (sym i.earlier)) ∙ take_front c.loop-branch.earlier (variables T) in
    record {
      earlier = same ∙ i.earlier;
      partial = λ w. partial_more (variables T) (flat_map V rest) c.loop-branch.partial q w (k.partial w)
          ∙ ap (λ ys. not (has_word (flat_map V (pattern_numbers ys)) w) && has_word c.loop-branch.partial w) (sym d) ∙ i.partial w;
      faults = ap (λ es. c.not_linear-in-loop-branch.new.faults.items ++ alt_faults c.args.repeated es q (map P rest)) same
          ∙ ap (λ fs. fs ++ alt_faults c.args.repeated c.loop-branch.earlier q (map P rest)) k.faults
          ∙ alt_more c.args.repeated c.loop-branch.earlier c.loop-branch.partial q T (map P rest) c.loop-branch.faults.items k.partial
          ∙ ap (λ ys. c.loop-branch.faults.items ++ alt_faults c.args.repeated c.loop-branch.earlier c.loop-branch.partial (map P (pattern_numbers ys))) (sym d) ∙ i.faults;
      older = (subst (λ ys. AllByRecursion (λ j. j < c.args.id.at) (pattern_numbers ys)) d i.older).1;
    }

pub returns-after-loop-part-clause-earlier : goal.returns-after-loop-part-clause-earlier
returns-after-loop-part-clause-earlier t c =
    let P : ℕ → PlacedTree = placed_at c.args.patterns.now in
    let V : ℕ → List (List ℕ) = λ i. variables (P i) in
    let tree = viewed_tree (λ (id : PatternId). id.at) _ c.args.patterns.now _ _ _ _ c.view.ensures.node c.in-Seq.is in
    parts_done (λ (id : PatternId). id.at) V c.loop-part.earlier c.args.earlier.now c.in-Seq.parts.now c.loop-part.part-index c.loop-part-test.false c.loop-part.invariant.earlier
    ∙ ap (λ xs. c.args.earlier.now ++ xs) (sym (ap variables tree ∙ variables_seq P c.view.result.place (pattern_numbers c.in-Seq.parts.now)))

pub returns-after-loop-part-clause-partial : goal.returns-after-loop-part-clause-partial
returns-after-loop-part-clause-partial t c w =
    let P : ℕ → PlacedTree = placed_at c.args.patterns.now in
    let V : ℕ → List (List ℕ) = λ i. variables (P i) in
    let tree = viewed_tree (λ (id : PatternId). id.at) _ c.args.patterns.now _ _ _ _ c.view.ensures.node c.in-Seq.is in
    let d = drop_past c.in-Seq.parts.now c.loop-part.part-index c.loop-part-test.false in
    ap (λ ys. not (has_word (flat_map V (pattern_numbers ys)) w) && has_word c.loop-part.partial w) (sym d)
    ∙ c.loop-part.invariant.partial w
    ∙ ap (λ vs. not (has_word vs w) && has_word c.args.partial.now w) (sym (ap variables tree ∙ variables_seq P c.view.result.place (pattern_numbers c.in-Seq.parts.now)))

pub returns-after-loop-part-clause-faults : goal.returns-after-loop-part-clause-faults
returns-after-loop-part-clause-faults t c =
    let P : ℕ → PlacedTree = placed_at c.args.patterns.now in
    let r : Bool = c.args.repeated in
    let e : List (List ℕ) = c.args.earlier.now in
    let p : List (List ℕ) = c.args.partial.now in
    let d = drop_past c.in-Seq.parts.now c.loop-part.part-index c.loop-part-test.false in
    let tree = viewed_tree (λ (id : PatternId). id.at) _ c.args.patterns.now _ _ _ _ c.view.ensures.node c.in-Seq.is in
    sym (append-nil c.loop-part.faults.items)
    ∙ ap (λ ys. c.loop-part.faults.items ++ seq_faults r c.loop-part.earlier c.loop-part.partial (map P (pattern_numbers ys))) (sym d)
    ∙ c.loop-part.invariant.faults
    ∙ ap (λ fs. c.args.faults.now.items ++ fs) (sym (ap (not_linear r e p false) tree ∙ not_linear-seq r e p c.view.result.place (map P (pattern_numbers c.in-Seq.parts.now))))

pub returns-in_ok-push_all-in-Alt-clause-earlier : goal.returns-in_ok-push_all-in-Alt-clause-earlier
returns-in_ok-push_all-in-Alt-clause-earlier t c =
    let P : ℕ → PlacedTree = placed_at c.args.patterns.now in
    let V : ℕ → List (List ℕ) = λ i. variables (P i) in
    let tree = viewed_tree (λ (id : PatternId). id.at) _ c.args.patterns.now _ _ _ _ c.view.ensures.node c.in-Alt.is in
    let all = ap variables tree ∙ variables_alt P c.view.result.place (pattern_numbers c.in-Alt.branches.now) in
    c.in_ok-push_all-in-Alt.ensures
    ∙ ap (λ es. es ++ c.deref.result.now) c.loop-branch.invariant.earlier
    ∙ ap (λ xs. c.args.earlier.now ++ xs)
    (c.deref.ensures.value ∙ c.in_ok-words-in-Alt.ensures.variables ∙ sym all)

pub returns-in_ok-push_all-in-Alt-clause-partial : goal.returns-in_ok-push_all-in-Alt-clause-partial
returns-in_ok-push_all-in-Alt-clause-partial t c w =
    let P : ℕ → PlacedTree = placed_at c.args.patterns.now in
    let V : ℕ → List (List ℕ) = λ i. variables (P i) in
    let tree = viewed_tree (λ (id : PatternId). id.at) _ c.args.patterns.now _ _ _ _ c.view.ensures.node c.in-Alt.is in
    let o : Bool = has_word c.loop-branch.partial w in
    let q : Bool = has_word c.enter.new.partial w in
    let d = drop_past c.in-Alt.branches.now c.loop-branch.branch-index c.loop-branch-test.false in
    let all = ap variables tree ∙ variables_alt P c.view.result.place (pattern_numbers c.in-Alt.branches.now) in
    let turned = ap (λ ys. not (has_word (flat_map V (pattern_numbers ys)) w) && o) (sym d)
    ∙ c.loop-branch.invariant.partial w in
    partial_alt (list_all (λ i. has_word (V i) w) (pattern_numbers c.in-Alt.branches.now)) (has_word (flat_map V (pattern_numbers c.in-Alt.branches.now)) w) (has_word c.args.partial.now w) q o
    (c.in_ok-words-in-Alt.ensures.partial w) turned
    ∙ ap (λ vs. not (has_word vs w) && has_word c.args.partial.now w) (sym all)

pub returns-in_ok-push_all-in-Alt-clause-faults : goal.returns-in_ok-push_all-in-Alt-clause-faults
returns-in_ok-push_all-in-Alt-clause-faults t c =
    let P : ℕ → PlacedTree = placed_at c.args.patterns.now in
    let V : ℕ → List (List ℕ) = λ i. variables (P i) in
    let pl = c.view.result.place in
    let r : Bool = c.args.repeated in
    let e : List (List ℕ) = c.args.earlier.now in
    let p : List (List ℕ) = c.args.partial.now in
    let q : List (List ℕ) = c.enter.new.partial in
    let ids : List ℕ = pattern_numbers c.in-Alt.branches.now in
    let old : List Fault = c.args.faults.now.items in
    let d = drop_past c.in-Alt.branches.now c.loop-branch.branch-index c.loop-branch-test.false in
    let is = c.in-Alt.is in
    let merged = subst (λ f. CanFollow true (take c.args.id.at c.args.patterns.now) (view_form (λ (id : PatternId). id.at) f)) is c.view.ensures.node.merged in
    let within : c.args.id.at ≤ length c.args.patterns.now = omega arith in
    let added : (w : List ℕ) → has_word q w ≡ (has_word p w || (not (list_all (λ i. has_word (V i) w) ids) && has_word (flat_map V ids) w))
    = λ w. c.in_ok-words-in-Alt.ensures.partial w in
    sym (append-nil c.loop-branch.faults.items)
    ∙ ap (λ ys. c.loop-branch.faults.items ++ alt_faults r c.loop-branch.earlier c.loop-branch.partial (map P (pattern_numbers ys))) (sym d)
    ∙ c.loop-branch.invariant.faults
    ∙ ap (λ fs. old ++ fs) (alt_all r e p q P pl ids merged.0 (no_alts c.args.patterns.now c.args.id.at ids within merged) added)
    ∙ ap (λ U. old ++ not_linear r e p false U) (sym (viewed_tree (λ (id : PatternId). id.at) _ c.args.patterns.now _ _ _ _ c.view.ensures.node is))

pub not_linear-requires-in-loop-part : goal.not_linear-requires-in-loop-part
not_linear-requires-in-loop-part t c =
    let first : PatternId = record { at = 0 } in
    let older : (get_or c.in-Seq.parts.now c.loop-part.part-index first).at < c.args.id.at
    = (parts_step (λ j. j < c.args.id.at) (λ (id : PatternId). id.at) c.in-Seq.parts.now c.loop-part.part-index first c.loop-part-test.true c.loop-part.invariant.older).0 in
    (omega arith, omega arith)

pub not_linear-requires-in-loop-branch : goal.not_linear-requires-in-loop-branch
not_linear-requires-in-loop-branch t c =
    let first : PatternId = record { at = 0 } in
    let older : (get_or c.in-Alt.branches.now c.loop-branch.branch-index first).at < c.args.id.at
    = (parts_step (λ j. j < c.args.id.at) (λ (id : PatternId). id.at) c.in-Alt.branches.now c.loop-branch.branch-index first c.loop-branch-test.true c.loop-branch.invariant.older).0 in
    (omega arith, omega arith)

pub returns-in_ok-not_linear-in-Val-clause-earlier : goal.returns-in_ok-not_linear-in-Val-clause-earlier
returns-in_ok-not_linear-in-Val-clause-earlier t c =
    let own : List (List ℕ) = variables (placed_at c.args.patterns.now c.in-Val.part.at) in
    let e = viewed_tree (λ (id : PatternId). id.at) _ c.args.patterns.now _ _ _ _ c.view.ensures.node c.in-Val.is in
    c.in_ok-not_linear-in-Val.ensures.earlier
    ∙ ap (λ es. es ++ own) c.in_ok-occur-in-Val.ensures.earlier
    ∙ append_assoc c.args.earlier.now (c.in-Val.word.now ∷ []) own
    ∙ ap (λ T. c.args.earlier.now ++ variables T) (sym e)
