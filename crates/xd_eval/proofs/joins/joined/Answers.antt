use Rattle.std.proofs.Common.{◌≡◌, List, length, get_or, vec_len, rules, ap, sym, subst, ◌∙◌}
use Rattle.xd_doc.specs.Document.{empty, join}
use Rattle.xd_doc.proofs.Joins.{join_empty-right}
use Rattle.xd_eval.specs.Values.{Stands, World, joined_after, value_at, world}
use Rattle.xd_eval.specs.declared.joins.Join.{Join}
use Rattle.xd_eval.specs.declared.joins.Value.{Value}
use Rattle.xd_eval.specs.declared.joins.Value.TheVariants.{Joined}
use Rattle.xd_eval.proofs.ValueLemmas.{IsPushed, joins_kept, pushed, world_kept}
use Rattle.xd_eval.proofs.joins.joined.Goals as goal

pub returns-then-is_empty-clause-joins : goal.returns-then-is_empty-clause-joins
returns-then-is_empty-clause-joins c = joins_kept c.args.store.now c.first_before.new.self c.in_ok-made-in-Stored-Stored.ensures.keeps c.args.joins.now.items c.requires.joins

pub returns-then-is_empty-clause-same : goal.returns-then-is_empty-clause-same
returns-then-is_empty-clause-same c = world_kept c.args.store.now c.first_before.new.self c.in_ok-made-in-Stored-Stored.ensures.keeps c.args.joins.now.items c.requires.joins

-- nothing follows
alone : (w : World) (front back : Value) → value_at w back ≡ empty → value_at w front ≡ join (value_at w front) (value_at w back)
alone w front back e = sym (ap (join (value_at w front)) e ∙ join_empty-right (value_at w front))

pub returns-in_default-Empty-clause-value : goal.returns-in_default-Empty-clause-value
returns-in_default-Empty-clause-value c =
    let w : World = world c.args.store.now c.args.joins.now.items in alone w c.args.front c.args.back (ap (value_at w) c.in_default-Empty.is-1)

pub returns-in_default-Empty-2-clause-value : goal.returns-in_default-Empty-2-clause-value
returns-in_default-Empty-2-clause-value c =
    let w : World = world c.args.store.now c.args.joins.now.items in alone w c.args.front c.args.back (ap (value_at w) c.in_default-Empty.is-1)

pub returns-clause-value : goal.returns-clause-value
returns-clause-value c =
    let js : List Join = c.args.joins.now.items in
    let j : Join = record { front = c.args.front; back = c.args.back } in
    let p : IsPushed c.args.store.now js c.push.new.self.items j = pushed c.args.store.now js c.push.new.self.items j c.in_ok-push.ensures.items c.requires.joins c.requires.front c.requires.back in
    let l : vec_len c.args.joins.now ≡ length js = search rules in
    ap (λ n. get_or (joined_after c.args.store.now _ c.push.new.self.items) n empty) (c.len-number.ensures ∙ l) ∙ p.value

pub returns-clause-stands : goal.returns-clause-stands
returns-clause-stands c =
    let js : List Join = c.args.joins.now.items in
    let j : Join = record { front = c.args.front; back = c.args.back } in
    let p : IsPushed c.args.store.now js c.push.new.self.items j = pushed c.args.store.now js c.push.new.self.items j c.in_ok-push.ensures.items c.requires.joins c.requires.front c.requires.back in
    let l : vec_len c.args.joins.now ≡ length js = search rules in
    subst (λ n. Stands (world c.args.store.now c.push.new.self.items) (Joined n)) (sym (c.len-number.ensures ∙ l)) p.stands

pub returns-clause-joins : goal.returns-clause-joins
returns-clause-joins c =
    let j : Join = record { front = c.args.front; back = c.args.back } in
    (pushed c.args.store.now c.args.joins.now.items c.push.new.self.items j c.in_ok-push.ensures.items c.requires.joins c.requires.front c.requires.back).joins

pub returns-clause-same : goal.returns-clause-same
returns-clause-same c =
    let j : Join = record { front = c.args.front; back = c.args.back } in
    (pushed c.args.store.now c.args.joins.now.items c.push.new.self.items j c.in_ok-push.ensures.items c.requires.joins c.requires.front c.requires.back).kept
