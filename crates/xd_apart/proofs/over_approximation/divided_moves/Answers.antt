use Rattle.std.proofs.Common.{◌≡◌, ◌∙◌, ◌⊎◌, List, ap, get_or, subst, sym}
use Rattle.std.specs.List.{Contains, remove}
use Rattle.xd_apart.specs.OverApproximation.{AreBelow, Divides, EndsBelow}
use Rattle.xd_apart.proofs.DivideLemmas.{All-at, All-remove, divides, removed_cases, same_at}
use Rattle.xd_apart.proofs.over_approximation.divided_moves.Goals as goal

pub returns-clause-divides : goal.returns-clause-divides
returns-clause-divides g c = λ w at.
    let has = g.M.Move.has in
    let ends_of = g.M.Leads.ends_of in
    let xs = c.args.moves.now in
    let x = c.remove-divided.result in
    let here : x ≡ get_or xs c.args.number x = c.remove-divided.ensures.value ∙ ap (λ (ys : List g.row.M.Denot). get_or ys c.args.number x) c.in_ok-made.ensures in
    let others = c.remove-divided.ensures.items ∙ ap (λ (ys : List g.row.M.Denot). remove ys c.args.number) c.in_ok-made.ensures in
    subst (λ (v : g.row.M.Denot). Divides has ends_of v c.args.taken.now c.args.by xs c.add_outside.new.made.items) (same_at xs c.args.number x w c.requires here at)
    (divides has ends_of x c.args.taken.now c.args.by xs c.remove-divided.new.self.items c.add_shared.new.made.items c.add_outside.new.made.items
    (λ v k. subst (λ (ys : List g.row.M.Denot). Contains ys v ⊎ (v ≡ x)) (sym {A = List g.row.M.Denot} others) (removed_cases xs c.args.number x v c.requires here k)) c.in_ok-add_shared.ensures.keeps c.in_ok-add_shared.ensures.inside c.in_ok-add_shared.ensures.behind c.in_ok-add_outside.ensures)

pub returns-clause-below : goal.returns-clause-below
returns-clause-below g c = λ n all by.
    let Below : g.row.M.Denot → Type 0 = λ m. EndsBelow n (g.M.Leads.ends_of m) in
    let xs = c.args.moves.now in
    let x = c.remove-divided.result in
    let here : x ≡ get_or xs c.args.number x = c.remove-divided.ensures.value ∙ ap (λ (ys : List g.row.M.Denot). get_or ys c.args.number x) c.in_ok-made.ensures in
    let others = c.remove-divided.ensures.items ∙ ap (λ (ys : List g.row.M.Denot). remove ys c.args.number) c.in_ok-made.ensures in
    let below = All-at Below xs c.args.number x c.requires here all in
    c.in_ok-add_outside.ensures.below n
    (c.in_ok-add_shared.ensures.below n (subst (AreBelow g.M.Leads.ends_of n) (sym {A = List g.row.M.Denot} others) (All-remove Below xs c.args.number all)) below by) below
