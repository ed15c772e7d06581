use Rattle.std.proofs.Common.{◌<◌, Some, subst, sym, ap, ◌∙◌}
use Rattle.xd_moves.specs.Lists.{AddsList, KeepsLists, lists_of}
use Rattle.xd_moves.proofs.ListLemmas.{adds_inserted, get_items, has_inserted, length_items, same_items}
use Rattle.xd_moves.proofs.lists.Lists.number.Goals as goal

pub returns-clause-number : goal.returns-clause-number
returns-clause-number c =
    let s = c.in_ok-at.ensures.stored in
    get_items c.insert_full.new.self.keys c.in_ok-at.at s.0 s.1 ∙ ap Some (same_items c.args.list.items s.0.items s.2)

pub returns-clause-within : goal.returns-clause-within
returns-clause-within c =
    subst (λ n. c.in_ok-at.at < n) (sym (length_items c.insert_full.new.self.keys)) c.in_ok-at.ensures.within

pub returns-clause-keeps : goal.returns-clause-keeps
returns-clause-keeps c =
    let r = has_inserted c.args.list c.self.inside.lists.keys c.insert_full.new.self.keys c.in_ok-at.ensures.keys in
    subst (λ ls. KeepsLists ls (lists_of c.insert_full.new.self.keys)) c.self.view_is r.0

pub invariant_of-self-2 : goal.invariant_of-self-2
invariant_of-self-2 c =
    (has_inserted c.args.list c.self.inside.lists.keys c.insert_full.new.self.keys c.in_ok-at.ensures.keys).1 c.self.invariant

pub returns-clause-adds : goal.returns-clause-adds
returns-clause-adds c =
    let s = c.in_ok-at.ensures.stored in
    subst (λ ls. AddsList ls (lists_of c.insert_full.new.self.keys) c.in_ok-at.at) c.self.view_is
    (adds_inserted c.args.list c.self.inside.lists.keys c.insert_full.new.self.keys c.in_ok-at.at s.0 c.in_ok-at.ensures.keys c.in_ok-at.ensures.within s.1 s.2)
