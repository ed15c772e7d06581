use Rattle.std.proofs.Common.{◌≡◌, ◌∷◌, [], ℕ, List, get_or, refl, sym, subst, ◌∙◌}
use Rattle.xd_syntax.specs.Table.{Row}
use Rattle.xd_syntax.specs.Words.{any_word}
use Rattle.xd_same_types.specs.Grown.{NamesAmong}
use Rattle.xd_shown.specs.Bodies.{AreBodies}
use Rattle.xd_shown.proofs.AreMeantLemmas.{none_bodies, one_word, own_known}
use Rattle.xd_calls_tables.proofs.shown.shown_of.Goals as goal

pub new-requires-clause-bodies : goal.new-requires-clause-bodies
new-requires-clause-bodies c =
    let w = c.in_ok-start.start in
    let found = subst (λ ws. c.index.result.now ≡ get_or ws 0 c.index.result.now) (sym c.deref.ensures.value) c.index.ensures in
    let one : c.deref.result.now ≡ w ∷ [] = one_word c.deref.result.now c.index.result.now w (c.deref.ensures.len ∙ c.in_ok-words.ensures.count) found c.in_ok-start.ensures in
    let names = c.none_around.ensures.names (any_word ∷ (w ∷ [])) refl (own_known w) (subst (λ (rows : List Row). NamesAmong (any_word ∷ (w ∷ [])) rows) (sym c.new-pool.ensures) tt) in
    subst (λ (ws : List (List ℕ)). AreBodies c.into_types-types.result ws (c.in_ok-body.body ∷ [])) (sym one)
    (none_bodies c.into_types-types.result c.none_around.new.pool.types w c.in_ok-body.body c.into_types-types.ensures c.in_ok-body.ensures.tree c.in_ok-body.ensures.belongs names)
