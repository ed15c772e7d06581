use Rattle.std.proofs.Common.{◌≡◌, ◌∷◌, [], ℕ, List, get_or, refl, ap, sym, subst, ◌∙◌}
use Rattle.xd_syntax.specs.Program.{ProgramTree}
use Rattle.xd_syntax.specs.Table.{Row}
use Rattle.xd_syntax.specs.Types.{tree}
use Rattle.xd_syntax.specs.Words.{any_word}
use Rattle.xd_same_types.specs.Grown.{NamesAmong}
use Rattle.xd_shown.specs.Bodies.{AreBodies, defining}
use Rattle.xd_shown.specs.FreeNames.{AreNewNames}
use Rattle.xd_shown.specs.Shown.{AreNamedFrom, IsShown, none_type}
use Rattle.xd_shown.proofs.AreMeantLemmas.{none_bodies, one_word, own_known, shows_nothing}
use Rattle.xd_shown.proofs.definitions.Shown.nothing.Goals as goal

pub sound_program-requires-clause-bodies : goal.sound_program-requires-clause-bodies
sound_program-requires-clause-bodies c =
    let w = c.in_ok-start.start in
    let found = subst (λ ws. c.index.result.now ≡ get_or ws 0 c.index.result.now) (sym c.deref.ensures.value) c.index.ensures in
    let one : c.deref.result.now ≡ w ∷ [] = one_word c.deref.result.now c.index.result.now w (c.deref.ensures.len ∙ c.in_ok-words.ensures.count) found c.in_ok-start.ensures in
    let names = c.none_around.ensures.names (any_word ∷ (w ∷ [])) refl (own_known w) (subst (λ (rows : List Row). NamesAmong (any_word ∷ (w ∷ [])) rows) (sym c.new-pool.ensures) tt) in
    subst (λ (ws : List (List ℕ)). AreBodies c.into_types-types.result ws (c.in_ok-body.body ∷ [])) (sym one)
    (none_bodies c.into_types-types.result c.none_around.new.pool.types w c.in_ok-body.body c.into_types-types.ensures c.in_ok-body.ensures.tree c.in_ok-body.ensures.belongs names)

pub returns : goal.returns
returns c =
    let w = c.in_ok-start.start in
    let id = c.in_ok-body.body in
    let types = c.into_types-types.result in
    let found = subst (λ ws. c.index.result.now ≡ get_or ws 0 c.index.result.now) (sym c.deref.ensures.value) c.index.ensures in
    let one : c.deref.result.now ≡ w ∷ [] = one_word c.deref.result.now c.index.result.now w (c.deref.ensures.len ∙ c.in_ok-words.ensures.count) found c.in_ok-start.ensures in
    let names = c.none_around.ensures.names (any_word ∷ (w ∷ [])) refl (own_known w) (subst (λ (rows : List Row). NamesAmong (any_word ∷ (w ∷ [])) rows) (sym c.new-pool.ensures) tt) in
    let bodies = none_bodies types c.none_around.new.pool.types w id c.into_types-types.ensures c.in_ok-body.ensures.tree c.in_ok-body.ensures.belongs names in
    let items = sym c.deref.ensures.value ∙ one in
    let body : tree types id ≡ none_type w = subst (λ (rows : List Row). tree rows id ≡ none_type w) (sym c.into_types-types.ensures) c.in_ok-body.ensures.tree in
    subst (λ (P : ProgramTree). IsShown (λ d. ⊥) c.args.taken.now P w) (sym (c.in_ok-sound.ensures ∙ ap (λ ws. defining types ws (id ∷ [])) one))
    (shows_nothing types w id c.see_table.ensures (subst AreNewNames items c.in_ok-words.ensures.new) bodies body c.args.taken.now (subst (AreNamedFrom c.args.taken.now 1) items c.in_ok-words.ensures.named))
