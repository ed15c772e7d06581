use Rattle.std.proofs.Common.{◌≡◌, ℕ, suc, ◌+◌, ◌<◌, arith, cond, nat_lt, List, [], ◌++◌, map, drop, IfOk, refl, ap, sym, ◌∙◌, subst, append-nil}
use Rattle.std.proofs.lemmas.List.{map-append}
use Rattle.xd_doc.specs.Document.{Document}
use Rattle.xd_syntax.specs.Tree.{Tree, Seq, Alt, Plus, Opt, Val, Definitions}
use Rattle.xd_syntax.specs.Ways.{Way, then_way, turns, repetition, item_count}
use Rattle.xd_syntax.specs.Ways.{ways_within as the_ways_within}
use Rattle.xd_plain.specs.PlainDocuments.{document_of}
use Rattle.xd_plain.specs.PlainTrees.{tree_of, definitions_of}
use Rattle.xd_plain.specs.PlainWays.{way_of, ways_of}
use Rattle.xd_plain.proofs.SplitsLemmas.{if_ok}
use Rattle.xd_plain.proofs.PlainCost.{cost, then_ways, then_turns, turn_ways, then_cost, then_turns_cost, repetition_cost, ways_step, cost_step, cost_here, ways_done}
use Rattle.xd_plain.proofs.ways.+ways.Goals as goal
use Rattle.xd_plain.proofs.ways.+ways.Goals.{each_turned-then-is_shorter+in_ok-push_turns, each_turned-else-is_shorter}

pub ways_within-returns-in-Seq : goal.ways_within-returns-in-Seq
ways_within-returns-in-Seq t c =
    let E : Definitions = definitions_of c.args.definitions.now in
    let n : ℕ = c.args.unfoldings in
    let d : Document = document_of c.args.document.now in
    let pattern : Seq (tree_of c.deref-in-Seq.result.now) (tree_of c.deref-in-Seq-2.result.now) ≡ tree_of c.args.pattern.now = rw (c.deref-in-Seq.ensures, c.deref-in-Seq-2.ensures, c.in-Seq.is) refl in
    subst (λ (P : Tree). IfOk c.in_sequence.result (λ ways. ways_of ways.items ≡ the_ways_within E n P d)) pattern c.in_sequence.ensures

pub ways_within-returns-in-Alt : goal.ways_within-returns-in-Alt
ways_within-returns-in-Alt t c =
    let E : Definitions = definitions_of c.args.definitions.now in
    let n : ℕ = c.args.unfoldings in
    let d : Document = document_of c.args.document.now in
    let pattern : Alt (tree_of c.deref-in-Alt.result.now) (tree_of c.deref-in-Alt-2.result.now) ≡ tree_of c.args.pattern.now = rw (c.deref-in-Alt.ensures, c.deref-in-Alt-2.ensures, c.in-Alt.is) refl in
    subst (λ (P : Tree). IfOk c.by_either.result (λ ways. ways_of ways.items ≡ the_ways_within E n P d)) pattern c.by_either.ensures

pub ways_within-returns-in-Plus : goal.ways_within-returns-in-Plus
ways_within-returns-in-Plus t c =
    let E : Definitions = definitions_of c.args.definitions.now in
    let n : ℕ = c.args.unfoldings in
    let d : Document = document_of c.args.document.now in
    let pattern : Plus (tree_of c.deref-in-Plus.result.now) ≡ tree_of c.args.pattern.now = rw (c.deref-in-Plus.ensures, c.in-Plus.is) refl in
    subst (λ (P : Tree). IfOk c.one_turn_or_more.result (λ ways. ways_of ways.items ≡ the_ways_within E n P d)) pattern c.one_turn_or_more.ensures

pub ways_within-returns-in-Opt : goal.ways_within-returns-in-Opt
ways_within-returns-in-Opt t c =
    let E : Definitions = definitions_of c.args.definitions.now in
    let n : ℕ = c.args.unfoldings in
    let d : Document = document_of c.args.document.now in
    let pattern : Opt (tree_of c.deref-in-Opt.result.now) ≡ tree_of c.args.pattern.now = rw (c.deref-in-Opt.ensures, c.in-Opt.is) refl in
    subst (λ (P : Tree). IfOk c.one_or_none.result (λ ways. ways_of ways.items ≡ the_ways_within E n P d)) pattern c.one_or_none.ensures

pub ways_within-returns-in-Val : goal.ways_within-returns-in-Val
ways_within-returns-in-Val t c =
    let E : Definitions = definitions_of c.args.definitions.now in
    let n : ℕ = c.args.unfoldings in
    let d : Document = document_of c.args.document.now in
    let pattern : Val c.in-Val.variable (tree_of c.deref-in-Val.result.now) ≡ tree_of c.args.pattern.now = rw (c.deref-in-Val.ensures, c.in-Val.is) refl in
    subst (λ (P : Tree). IfOk c.with_bound.result (λ ways. ways_of ways.items ≡ the_ways_within E n P d)) pattern c.with_bound.ensures

pub ways_within-in_sequence-requires : goal.ways_within-in_sequence-requires
ways_within-in_sequence-requires t c =
    let E : Definitions = definitions_of c.args.definitions.now in
    let n : ℕ = c.args.unfoldings in
    let d : Document = document_of c.args.document.now in
    let T : Tree = tree_of c.deref-in-Seq.result.now in
    let U : Tree = tree_of c.deref-in-Seq-2.result.now in
    let pattern : Seq T U ≡ tree_of c.args.pattern.now = rw (c.deref-in-Seq.ensures, c.deref-in-Seq-2.ensures, c.in-Seq.is) refl in
    let falls : cost E n T d + then_cost E n U (the_ways_within E n T d) + 2 < cost E n (tree_of c.args.pattern.now) d
    = subst (λ (P : Tree). cost E n T d + then_cost E n U (the_ways_within E n T d) + 2 < cost E n P d) pattern (omega arith) in
    (omega arith, tt)

pub ways_within-one_turn_or_more-requires : goal.ways_within-one_turn_or_more-requires
ways_within-one_turn_or_more-requires t c =
    let E : Definitions = definitions_of c.args.definitions.now in
    let n : ℕ = c.args.unfoldings in
    let d : Document = document_of c.args.document.now in
    let T : Tree = tree_of c.deref-in-Plus.result.now in
    let pattern : Plus T ≡ tree_of c.args.pattern.now = rw (c.deref-in-Plus.ensures, c.in-Plus.is) refl in
    let falls : cost E n T d + then_turns_cost E n T (the_ways_within E n T d) + 3 < cost E n (tree_of c.args.pattern.now) d
    = subst (λ (P : Tree). cost E n T d + then_turns_cost E n T (the_ways_within E n T d) + 3 < cost E n P d) pattern (omega arith) in
    (omega arith, tt)

pub in_sequence-returns : goal.in_sequence-returns
in_sequence-returns t c =
    let E : Definitions = definitions_of c.args.definitions.now in
    let n : ℕ = c.args.unfoldings in
    let d : Document = document_of c.args.document.now in
    let T : Tree = tree_of c.args.first.now in
    let U : Tree = tree_of c.args.second.now in
    let firsts : ways_of c.deref.result.now ≡ the_ways_within E n T d = ap ways_of c.deref.ensures.value ∙ c.in_ok-firsts.ensures in
    subst (λ ws. IfOk c.each_then.result (λ ways. ways_of ways.items ≡ ws)) (ap (then_ways E n U) firsts) c.each_then.ensures

pub in_sequence-each_then-requires : goal.in_sequence-each_then-requires
in_sequence-each_then-requires t c =
    let E : Definitions = definitions_of c.args.definitions.now in
    let n : ℕ = c.args.unfoldings in
    let d : Document = document_of c.args.document.now in
    let T : Tree = tree_of c.args.first.now in
    let U : Tree = tree_of c.args.second.now in
    let firsts : ways_of c.deref.result.now ≡ the_ways_within E n T d = ap ways_of c.deref.ensures.value ∙ c.in_ok-firsts.ensures in
    let same = ap (then_cost E n U) firsts in
    (omega (arith, same), tt)

pub by_either-returns : goal.by_either-returns
by_either-returns t c =
    let E : Definitions = definitions_of c.args.definitions.now in
    let n : ℕ = c.args.unfoldings in
    let d : Document = document_of c.args.document.now in
    let T : Tree = tree_of c.args.left.now in
    let U : Tree = tree_of c.args.right.now in
    let left = c.in_ok-of_left.of_left.items in
    let right = c.in_ok-of_right.of_right.items in
    if_ok (λ made. made.items ≡ left ++ right) (λ ways. ways_of ways.items ≡ the_ways_within E n (Alt T U) d)
    (λ made h. ap ways_of h ∙ map-append way_of left right ∙ ap (λ ws. ws ++ ways_of right) c.in_ok-of_left.ensures ∙ ap (λ ws. the_ways_within E n T d ++ ws) c.in_ok-of_right.ensures)
    c.both.result c.both.ensures

pub one_turn_or_more-returns : goal.one_turn_or_more-returns
one_turn_or_more-returns t c =
    let E : Definitions = definitions_of c.args.definitions.now in
    let n : ℕ = c.args.unfoldings in
    let d : Document = document_of c.args.document.now in
    let T : Tree = tree_of c.args.part.now in
    let firsts : ways_of c.deref.result.now ≡ the_ways_within E n T d = ap ways_of c.deref.ensures.value ∙ c.in_ok-firsts.ensures in
    subst (λ ws. IfOk c.each_then_turns.result (λ ways. ways_of ways.items ≡ ws)) (ap (then_turns E n T) firsts) c.each_then_turns.ensures

pub one_turn_or_more-each_then_turns-requires : goal.one_turn_or_more-each_then_turns-requires
one_turn_or_more-each_then_turns-requires t c =
    let E : Definitions = definitions_of c.args.definitions.now in
    let n : ℕ = c.args.unfoldings in
    let d : Document = document_of c.args.document.now in
    let T : Tree = tree_of c.args.part.now in
    let firsts : ways_of c.deref.result.now ≡ the_ways_within E n T d = ap ways_of c.deref.ensures.value ∙ c.in_ok-firsts.ensures in
    let same = ap (then_turns_cost E n T) firsts in
    (omega (arith, same), tt)

pub one_or_none-returns : goal.one_or_none-returns
one_or_none-returns t c =
    let E : Definitions = definitions_of c.args.definitions.now in
    let n : ℕ = c.args.unfoldings in
    let d : Document = document_of c.args.document.now in
    let T : Tree = tree_of c.args.part.now in
    let present = c.in_ok-present.present.items in
    let absent = c.in_ok-absent.absent.items in
    if_ok (λ made. made.items ≡ present ++ absent) (λ ways. ways_of ways.items ≡ the_ways_within E n (Opt T) d)
    (λ made h. ap ways_of h ∙ map-append way_of present absent ∙ ap (λ ws. ws ++ ways_of absent) c.in_ok-present.ensures ∙ ap (λ ws. the_ways_within E n T d ++ ws) c.in_ok-absent.ensures)
    c.both.result c.both.ensures

pub each_then-loop-first-preserved : goal.each_then-loop-first-preserved
each_then-loop-first-preserved t c =
    let E : Definitions = definitions_of c.args.definitions.now in
    let n : ℕ = c.args.unfoldings in
    let U : Tree = tree_of c.args.second.now in
    let F : Way → List Way = λ v. map (then_way v) (the_ways_within E n U v.rest) in
    let C : Way → ℕ = λ v. cost E n U v.rest in
    let xs = c.args.firsts.now in
    let i : ℕ = c.loop-first.first-index in
    let e : ways_of c.push_joined.new.made.items ≡ ways_of c.loop-first.made.items ++ F (way_of c.first-item.result)
    = c.in_ok-push_joined.ensures ∙ ap (λ ws. ways_of c.loop-first.made.items ++ map (then_way (way_of c.first-item.result)) ws) (ap ways_of c.deref.ensures.value ∙ c.in_ok-seconds.ensures) in (
      ap (λ ws. ws ++ then_ways E n U (ways_of (drop (i + 1) xs))) e ∙ ways_step F xs i c.first-item.result _ _ c.loop-first-test.true c.first-item.is c.loop-first.invariant.0,
      cost_step C xs i c.first-item.result _ c.loop-first-test.true c.loop-first.invariant.1,
    )

pub each_then-ways_within-requires : goal.each_then-ways_within-requires
each_then-ways_within-requires t c =
    let C : Way → ℕ = λ v. cost (definitions_of c.args.definitions.now) c.args.unfoldings (tree_of c.args.second.now) v.rest in
    let h = cost_here C c.args.firsts.now c.loop-first.first-index c.first-item.result c.loop-first-test.true c.first-item.is in
    (omega arith, tt)

pub each_then-returns : goal.each_then-returns
each_then-returns t c =
    ways_done (λ v. map (then_way v) (the_ways_within (definitions_of c.args.definitions.now) c.args.unfoldings (tree_of c.args.second.now) v.rest)) c.args.firsts.now c.loop-first.first-index _ _ c.loop-first-test.false c.loop-first.invariant.0

pub each_then_turns-loop-first-preserved : goal.each_then_turns-loop-first-preserved
each_then_turns-loop-first-preserved t c =
    let E : Definitions = definitions_of c.args.definitions.now in
    let n : ℕ = c.args.unfoldings in
    let T : Tree = tree_of c.args.part.now in
    let F : Way → List Way = λ v. map (then_way v) (repetition (the_ways_within E n T) v.rest) in
    let C : Way → ℕ = λ v. repetition_cost E n T (item_count v.rest) v.rest in
    let xs = c.args.firsts.now in
    let i : ℕ = c.loop-first.first-index in (
      ap (λ ws. ws ++ then_turns E n T (ways_of (drop (i + 1) xs))) c.in_ok-push_turns.ensures ∙ ways_step F xs i c.first-item.result _ _ c.loop-first-test.true c.first-item.is c.loop-first.invariant.0,
      cost_step C xs i c.first-item.result _ c.loop-first-test.true c.loop-first.invariant.1,
    )

pub each_then_turns-push_turns-requires : goal.each_then_turns-push_turns-requires
each_then_turns-push_turns-requires t c =
    let C : Way → ℕ = λ v. repetition_cost (definitions_of c.args.definitions.now) c.args.unfoldings (tree_of c.args.part.now) (item_count v.rest) v.rest in
    let h = cost_here C c.args.firsts.now c.loop-first.first-index c.first-item.result c.loop-first-test.true c.first-item.is in
    (omega arith, tt)

pub each_then_turns-returns : goal.each_then_turns-returns
each_then_turns-returns t c =
    ways_done (λ v. map (then_way v) (repetition (the_ways_within (definitions_of c.args.definitions.now) c.args.unfoldings (tree_of c.args.part.now)) v.rest)) c.args.firsts.now c.loop-first.first-index _ _ c.loop-first-test.false c.loop-first.invariant.0

pub each_turned-push_turns-requires : goal.each_turned-push_turns-requires
each_turned-push_turns-requires t c =
    let d : Document = document_of c.args.document.now in
    let R : Document → ℕ = repetition_cost (definitions_of c.args.definitions.now) c.args.unfoldings (tree_of c.args.part.now) (item_count (document_of c.args.counter.now)) in
    let C : Way → ℕ = λ v. cond (nat_lt (item_count v.rest) (item_count d)) (R v.rest) 0 in
    let rest : Document = document_of c.first-item.result.rest in
    let here : R rest ≡ C (way_of c.first-item.result) = sym (ap (λ b. cond b (R rest) 0) (sym c.is_shorter.ensures ∙ c.if-is_shorter.true)) in
    let h = cost_here C c.args.firsts.now c.loop-first.first-index c.first-item.result c.loop-first-test.true c.first-item.is in
    (omega arith, tt)

pub each_turned-loop-first-preserved : goal.each_turned-loop-first-preserved
each_turned-loop-first-preserved t c =
    let E : Definitions = definitions_of c.args.definitions.now in
    let n : ℕ = c.args.unfoldings in
    let T : Tree = tree_of c.args.part.now in
    let k : ℕ = item_count (document_of c.args.counter.now) in
    let d : Document = document_of c.args.document.now in
    let F : Way → List Way = λ v. cond (nat_lt (item_count v.rest) (item_count d)) (map (then_way v) (turns (the_ways_within E n T) k v.rest)) [] in
    let C : Way → ℕ = λ v. cond (nat_lt (item_count v.rest) (item_count d)) (repetition_cost E n T k v.rest) 0 in
    let xs = c.args.firsts.now in
    let i : ℕ = c.loop-first.first-index in
    let old : List Way = ways_of c.loop-first.made.items in
    let own : List Way = map (then_way (way_of c.first-item.result)) (turns (the_ways_within E n T) k (document_of c.first-item.result.rest)) in
    let e : ways_of c.if-is_shorter.made.items ≡ old ++ F (way_of c.first-item.result)
    = elim c.if-is_shorter.branch [
      | each_turned-then-is_shorter+in_ok-push_turns w ↦ ap (λ m. ways_of m.items) w.made-is ∙ w.in_ok-push_turns.ensures ∙ sym (ap (λ b. old ++ cond b own []) (sym c.is_shorter.ensures ∙ w.if-is_shorter.true))
      | each_turned-else-is_shorter w ↦ ap (λ m. ways_of m.items) w.made-is ∙ sym (append-nil old) ∙ sym (ap (λ b. old ++ cond b own []) (sym c.is_shorter.ensures ∙ w.if-is_shorter.false))
    ] in (
      ap (λ ws. ws ++ turn_ways E n T k d (ways_of (drop (i + 1) xs))) e ∙ ways_step F xs i c.first-item.result _ _ c.loop-first-test.true c.first-item.is c.loop-first.invariant.0,
      cost_step C xs i c.first-item.result _ c.loop-first-test.true c.loop-first.invariant.1,
    )

pub each_turned-returns : goal.each_turned-returns
each_turned-returns t c =
    let d : Document = document_of c.args.document.now in
    ways_done (λ v. cond (nat_lt (item_count v.rest) (item_count d)) (map (then_way v) (turns (the_ways_within (definitions_of c.args.definitions.now) c.args.unfoldings (tree_of c.args.part.now)) (item_count (document_of c.args.counter.now)) v.rest)) []) c.args.firsts.now c.loop-first.first-index _ _ c.loop-first-test.false c.loop-first.invariant.0

pub one_more_turn-returns : goal.one_more_turn-returns
one_more_turn-returns t c =
    let E : Definitions = definitions_of c.args.definitions.now in
    let n : ℕ = c.args.unfoldings in
    let T : Tree = tree_of c.args.part.now in
    let k : ℕ = item_count (document_of c.args.counter.now) in
    let d : Document = document_of c.args.document.now in
    let turned = c.in_ok-turned.turned.items in
    let stop = c.in_ok-stop.stop.items in
    let firsts : ways_of c.deref.result.now ≡ the_ways_within E n T d = ap ways_of c.deref.ensures.value ∙ c.in_ok-firsts.ensures in
    if_ok (λ made. made.items ≡ turned ++ stop) (λ ways. ways_of ways.items ≡ turns (the_ways_within E n T) (suc k) d)
    (λ made h. ap ways_of h ∙ map-append way_of turned stop
    ∙ ap (λ ws. ws ++ ways_of stop) (c.in_ok-turned.ensures ∙ ap (turn_ways E n T k d) firsts)
    ∙ ap (λ ws. turn_ways E n T k d (the_ways_within E n T d) ++ ws) c.in_ok-stop.ensures)
    c.both.result c.both.ensures
