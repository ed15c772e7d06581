use Rattle.std.proofs.Common.{rules, arith, ◌≡◌, ◌+◌, ◌∙◌, length, subst, sym, take, vec_len}
use Rattle.xd_doc.proofs.StoredLemmas.{Keeps-trans}
use Rattle.xd_empty.specs.Inhabited.{Searching}
use Rattle.xd_empty.specs.Uses.{lists_by_state}
use Rattle.xd_empty.proofs.SearchLemmas.{searching_ends, searching_starts}
use Rattle.xd_empty.proofs.UsesLemmas.{length-lists}
use Rattle.xd_empty.proofs.finding.search.Goals as goal

pub loop-done-init : goal.loop-done-init
loop-done-init c =
    let a = c.args.auto.now in
    let ds = c.args.store.now in
    let uses = c.in_ok-uses.uses in
    let found = c.find_empty.new.uses in
    let is = c.in_ok-uses.ensures.first in
    let start = searching_starts a ds c.args.first c.args.found.now (lists_by_state uses) uses.waiting.items c.requires c.in_ok-uses.ensures.uses in
    record {
      first = c.find_empty.ensures.first ∙ is;
      searching = subst (λ f. Searching a ds f (length a) c.find_empty.new.found (lists_by_state found) found.waiting.items 0) is
          (c.in_ok-find_empty.ensures.searching ds (subst (λ f. Searching a ds f f c.args.found.now (lists_by_state uses) uses.waiting.items 0) (sym is) start));
      older = subst (λ f. take f c.find_empty.new.found ≡ take f c.args.found.now) is c.find_empty.ensures.older;
      keeps = search rules;
    }

pub returns-clause-inhabitants : goal.returns-clause-inhabitants
returns-clause-inhabitants c =
    let v : vec_len c.loop-done.uses.waiting ≡ length c.loop-done.uses.waiting.items = search rules in
    searching_ends c.args.auto.now c.loop-done.store c.args.first (length c.args.auto.now) c.loop-done.found (lists_by_state c.loop-done.uses) c.loop-done.uses.waiting.items c.loop-done.done
    c.loop-done.invariant.searching (omega arith) (omega (arith, c.len.ensures, c.loop-done-test.false))

pub find_empty-requires-clause-lists : goal.find_empty-requires-clause-lists
find_empty-requires-clause-lists c = sym (length-lists c.in_ok-uses.uses.first c.in_ok-uses.uses.lists.items) ∙ c.in_ok-uses.ensures.uses.sized

pub look_at-requires-clause-searching : goal.look_at-requires-clause-searching
look_at-requires-clause-searching c =
    let a = c.args.auto.now in
    let uses = c.loop-done.uses in
    subst (λ f. Searching a c.loop-done.store f (length a) c.loop-done.found (lists_by_state uses) uses.waiting.items c.loop-done.done) (sym c.loop-done.invariant.first) c.loop-done.invariant.searching

pub loop-done-preserved : goal.loop-done-preserved
loop-done-preserved c =
    let a = c.args.auto.now in
    let uses = c.look_at.new.uses in
    let is = c.loop-done.invariant.first in
    record {
      first = c.look_at.ensures.first ∙ is;
      searching = subst (λ f. Searching a c.look_at.new.store f (length a) c.look_at.new.found (lists_by_state uses) uses.waiting.items (c.loop-done.done + 1)) is c.in_ok-look_at.ensures.searching;
      older = subst (λ f. take f c.look_at.new.found ≡ take f c.loop-done.found) is c.look_at.ensures.older ∙ c.loop-done.invariant.older;
      keeps = Keeps-trans _ _ _ c.loop-done.invariant.keeps c.look_at.ensures.keeps;
    }
