use Rattle.std.proofs.Common.{◌≡◌, ◌+◌, Bool, ◌&&◌, ◌||◌, ℕ, List, drop, ap, sym, ◌∙◌, subst}
use Rattle.xd_syntax.specs.Words.{has_word}
use Rattle.xd_names.proofs.WordLemmas.{drop_item, kept_yes, kept_no}
use Rattle.xd_names.proofs.linear.kept.Goals as goal
use Rattle.xd_names.proofs.linear.kept.Goals.{then-has+in_ok-add, else-has}

pub loop-word-preserved : goal.loop-word-preserved
loop-word-preserved c w =
    let v : List ℕ = c.word-item.result in
    let g : List ℕ → Bool = has_word c.args.among.now in
    let d = drop_item c.args.words.now c.loop-word.word-index v c.loop-word-test.true c.word-item.is in
    let m : Bool = has_word c.loop-word.made w in
    let r : Bool = has_word (drop (c.loop-word.word-index + 1) c.args.words.now) w in
    let x : Bool = g w && has_word c.args.words.now w in
    let i = subst (λ ys. (m || (g w && has_word ys w)) ≡ x) d (c.loop-word.invariant w) in
    elim c.if-has.branch [
      | then-has+in_ok-add u ↦ kept_yes g v w m (has_word c.if-has.made w) r x (sym u.if-has.ensures) (ap (λ s. has_word s w) u.made-is ∙ u.in_ok-add.ensures.words w) i
      | else-has u ↦ kept_no g v w m (has_word c.if-has.made w) r x (sym u.if-has.ensures) (ap (λ s. has_word s w) u.made-is) i
    ]
