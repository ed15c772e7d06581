use Rattle.std.proofs.Common.{rules, ◌≡◌, ◌∙◌, sym, refl, length, None}
use Rattle.xd_auto.specs.Copying.{copies_in, copy_of}
use Rattle.xd_auto.proofs.FindsMoreLemmas.{placed_visit, finds_visit, has_visit, steps_visit, none_from, some_from, FindsMore-same}
use Rattle.xd_auto.proofs.auto.copying.Reach.visit.Goals as goal

pub returns-in_ok-insert : goal.returns-in_ok-insert
returns-in_ok-insert c =
    let none : copy_of (copies_in c.args.self.now.copies) c.args.state ≡ None = none_from _ (sym c.contains_key.ensures ∙ c.if-not-contains_key.true) in
    let len : c.len.result ≡ length c.args.self.now.order.items = search rules in
    let adds = rw len at c.in_ok-insert.ensures.updates.0 in
    let own = rw len at c.in_ok-insert.ensures.updates.1 in
    rw c.in_ok-push.ensures.items
    (record {
      ok = record {
        placed = placed_visit c.args.base c.args.self.now.order.items (copies_in c.args.self.now.copies) c.args.state none c.requires.placed (copies_in c.insert.new.self) adds own;
        more = finds_visit c.args.base c.args.self.now.order.items (copies_in c.args.self.now.copies) c.args.state none c.requires.placed (copies_in c.insert.new.self) adds own;
      };
      copied = has_visit c.args.base c.args.self.now.order.items (copies_in c.args.self.now.copies) c.args.state none c.requires.placed (copies_in c.insert.new.self) adds own;
      steps = steps_visit c.args.base c.args.self.now.order.items (copies_in c.args.self.now.copies) c.args.state none c.requires.placed (copies_in c.insert.new.self) adds own;
    })

pub returns-else-not-contains_key : goal.returns-else-not-contains_key
returns-else-not-contains_key c =
    let some = some_from _ (sym c.contains_key.ensures ∙ c.if-not-contains_key.false) in
    record {
      ok = record { placed = c.requires.placed; more = FindsMore-same (λ t. t ≡ c.args.state) c.args.self.now.order.items (copies_in c.args.self.now.copies) };
      copied = some;
      steps = λ n lt. refl;
    }
