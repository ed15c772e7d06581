use Rattle.std.proofs.Common.{ℕ, ◌≡◌, ◌<◌, List, length, true, false, arith, ap, sym, subst, ◌∙◌, Vec, Global}
use Rattle.xd_doc.specs.Document.{Document}
use Rattle.xd_doc.specs.Stored.{document_at}
use Rattle.xd_auto.specs.declared.auto.State.{State}
use Rattle.xd_auto.specs.Automaton.{IsState, accepts}
use Rattle.xd_patterns.specs.Held.{marking_of, variables_in}
use Rattle.xd_match.specs.declared.binding.Piece.{Piece}
use Rattle.xd_match.specs.First.{AreHeld, first_run}
use Rattle.xd_match.proofs.Firsts.{first_none, first_some}
use Rattle.xd_match.proofs.Taken.{some_of}
use Rattle.xd_match.proofs.front.first_items.Goals as goal

pub returns-then-not-branch-clause-found : goal.returns-then-not-branch-clause-found
returns-then-not-branch-clause-found c =
    let a = c.args.compiled.now.auto in
    let k = marking_of c.args.compiled.now.marked in
    let d : Document = document_at c.args.store.now c.args.seq in
    let no : accepts a d c.start-start.result ≡ false = sym c.in_ok-accepts_kept.ensures.answer ∙ c.if-not-branch.true in
    ap (λ (s : State). first_run a k d s) (sym c.start-start.ensures) ∙ first_none a k d c.start-start.result no

pub returns-in_err-bound-clause-right : goal.returns-in_err-bound-clause-right
returns-in_err-bound-clause-right c = c.stay_right.ensures.store c.args.compiled.now.auto c.args.store.now _ c.bind_each.ensures.keeps c.in_ok-items.ensures.right

pub returns-clause-right : goal.returns-clause-right
returns-clause-right c = c.stay_right.ensures.store c.args.compiled.now.auto c.args.store.now _ c.bind_each.ensures.keeps c.in_ok-items.ensures.right

pub returns-clause-found : goal.returns-clause-found
returns-clause-found c =
    let a = c.args.compiled.now.auto in
    let k = marking_of c.args.compiled.now.marked in
    let vs = variables_in c.args.compiled.now.marked in
    let d : Document = document_at c.args.store.now c.args.seq in
    let yes : accepts a d c.start-start.result ≡ true = sym c.in_ok-accepts_kept.ensures.answer ∙ c.if-not-branch.false in
    let taken = c.in_ok-items.ensures.taken in
    let n = taken.count in
    let bound = c.in_ok-bound.ensures in
    let rows : List (Vec Piece Global) = c.in_ok-items.items.items in
    let below : (x : ℕ) → x < length vs → x < length rows = λ x lt. omega (arith, n) in
    subst (λ (s : State). AreHeld a k d s vs c.bind_each.new.store c.in_ok-bound.bound.items) c.start-start.ensures (record {
      run = first_some a k d c.start-start.result yes;
      count = bound.count ∙ n;
      belong = λ x e lt. bound.belong x e (below x lt);
      bindings = λ x e lt. (let f : Vec Piece Global = some_of rows x (below x lt) in bound.bindings x e f (below x lt) ∙ taken.held_is x f lt);
    })

pub take_items-requires-clause-start : goal.take_items-requires-clause-start
take_items-requires-clause-start c = record {
  state = subst (λ (s : State). IsState c.args.compiled.now.auto s) (sym c.start-start.ensures) c.requires.compiled.start;
  seq = c.requires.seq;
  accepted = sym c.in_ok-accepts_kept.ensures.answer ∙ c.if-not-branch.false;
}
