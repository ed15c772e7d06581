use Rattle.std.proofs.Common.{◌≡◌, ◌∙◌, ◌∷◌, [], arith, below_more, length, refl, subst, sym}
use Rattle.xd_auto.specs.Automaton.{moves_at}
use Rattle.xd_empty.specs.declared.uses.Use.{Use}
use Rattle.xd_empty.specs.declared.uses.Use.TheVariants.{Element}
use Rattle.xd_empty.specs.Uses.{IsNewUse, Lists, lists_by_state, parts_of}
use Rattle.xd_empty.proofs.UsesLemmas.{adds_same, adds_then, lists_kept, parts-element}
use Rattle.xd_empty.proofs.uses.Uses.add_elements.Goals as goal

pub loop-number-preserved : goal.loop-number-preserved
loop-number-preserved c =
    let a = c.args.auto.now in
    let first = c.args.self.now.first in
    let now = c.loop-number.self in
    let new = c.add.new.self in
    let before = c.loop-number.invariant in
    let u : Use = Element c.args.state c.loop-number.number in
    let m = c.index-moves-number.result in
    let is : IsNewUse a first u = ((c.requires.state, rw c.label_moves-moves.ensures.value at c.loop-number-test.true), c.requires.from) in
    let parts : parts_of a u ≡ m.content ∷ m.rest ∷ [] = parts-element a c.args.state c.loop-number.number m c.label_moves-moves.result.now c.label_moves-moves.ensures.value c.loop-number-test.true c.index-moves-number.is in
    let more = adds_then (IsNewUse a first) (λ v. u ≡ v) (lists_by_state now) (lists_by_state now) (lists_by_state new) now.waiting.items now.waiting.items new.waiting.items (λ v e. subst (IsNewUse a first) e is)
    (adds_same (IsNewUse a first) (lists_by_state now) now.waiting.items) c.in_ok-add.ensures.adds in
    record {
      first = c.add.ensures.first ∙ before.first;
      count = c.add.ensures.count ∙ before.count;
      adds = adds_then (IsNewUse a first) (IsNewUse a first) (lists_by_state c.args.self.now) (lists_by_state now) (lists_by_state new) c.args.self.now.waiting.items now.waiting.items new.waiting.items (λ v e. e) before.adds more;
      listed = below_more _ _ (λ n lt. lists_kept (IsNewUse a first) (lists_by_state now) (lists_by_state new) now.waiting.items new.waiting.items first (parts_of a (Element c.args.state n)) (Element c.args.state n) more (before.listed n lt))
          (subst (λ f. Lists f (parts_of a u) (lists_by_state new) new.waiting.items u) before.first (subst (λ ts. Lists now.first ts (lists_by_state new) new.waiting.items u) (sym parts) c.in_ok-add.ensures.listed));
      end_is = refl;
    }

pub returns-clause-listed : goal.returns-clause-listed
returns-clause-listed c = λ n lt. c.loop-number.invariant.listed n (let all : length (moves_at c.args.auto.now c.args.state).labels ≡ length c.label_moves-moves.result.now = rw c.label_moves-moves.ensures.value refl in omega arith)
