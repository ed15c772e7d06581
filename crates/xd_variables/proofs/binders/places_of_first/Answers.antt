use Rattle.std.proofs.Common.{◌≡◌, ℕ, Global, Vec, ◌+◌, ◌++◌, not, cond, List, [], ◌∷◌, map, drop, ap, sym, subst, ◌∙◌}
use Rattle.std.proofs.lemmas.List.{drop_more}
use Rattle.xd_base.specs.declared.Place.{Place}
use Rattle.xd_syntax.specs.Matches.{first_spots}
use Rattle.xd_syntax.specs.NameFaults.{Spot}
use Rattle.xd_syntax.specs.Words.{has_word}
use Rattle.xd_variables.specs.Binders.{spot_of, spots_of, place_of_spot}
use Rattle.xd_variables.specs.declared.binders.Binder.{Binder}
use Rattle.xd_patterns.proofs.VariableLemmas.{any_is}
use Rattle.xd_variables.proofs.BinderLemmas.{first_begin, first_more, still_first}
use Rattle.xd_variables.proofs.binders.places_of_first.Goals as goal
use Rattle.xd_variables.proofs.binders.places_of_first.Goals.{then-is_new+in_ok-push, else-is_new}

pub loop-binder-init : goal.loop-binder-init
loop-binder-init c =
    let os : List Spot = spots_of c.args.binders.now in
    ap (λ (ps : List Place). ps ++ map place_of_spot (still_first c.new-seen.result.keys os)) c.new-places.ensures.items
    ∙ ap (λ ks. map place_of_spot (still_first ks os)) c.new-seen.ensures.empty ∙ ap (map place_of_spot) (first_begin os)

pub loop-binder-preserved : goal.loop-binder-preserved
loop-binder-preserved c =
    let bs : List Binder = c.args.binders.now in
    let n : ℕ = c.loop-binder.binder-index in
    let b : Binder = c.binder-item.result in
    let ks : List (List ℕ) = c.loop-binder.seen.keys in
    let ps : List Place = c.loop-binder.places.items in
    let front : drop n bs ≡ b ∷ drop (n + 1) bs = drop_more bs n b c.loop-binder-test.true ∙ ap (λ x. x ∷ drop (n + 1) bs) (sym c.binder-item.is) in
    let all : List Place = map place_of_spot (first_spots (spots_of bs)) in
    let word : c.in_ok-share.field-0 ≡ b.variable = c.in_ok-share.ensures in
    let here : ps ++ map place_of_spot (still_first ks (spot_of b ∷ spots_of (drop (n + 1) bs))) ≡ all
    = subst (λ (xs : List Binder). ps ++ map place_of_spot (still_first ks (spots_of xs)) ≡ all) front c.loop-binder.invariant in
    let added : c.in_ok-is_new.is_new ≡ not (has_word ks b.variable) = c.in_ok-is_new.ensures.added ∙ ap not (any_is c.in_ok-share.field-0 ks) ∙ ap (λ w. not (has_word ks w)) word in
    let keys : c.insert.new.self.keys ≡ cond (has_word ks b.variable) ks (ks ++ b.variable ∷ [])
    = c.in_ok-is_new.ensures.keys ∙ ap (λ t. cond t ks (ks ++ c.in_ok-share.field-0 ∷ [])) (any_is c.in_ok-share.field-0 ks) ∙ ap (λ w. cond (has_word ks w) ks (ks ++ w ∷ [])) word in
    let places : c.if-is_new.places.items ≡ cond c.in_ok-is_new.is_new (ps ++ b.place ∷ []) ps = elim c.if-is_new.branch [
      | then-is_new+in_ok-push w ↦ ap (λ (v : Vec Place Global). v.items) w.places-is ∙ w.in_ok-push.ensures.items ∙ ap (λ t. cond t (ps ++ b.place ∷ []) ps) (sym w.if-is_new.true)
      | else-is_new w ↦ ap (λ (v : Vec Place Global). v.items) w.places-is ∙ ap (λ t. cond t (ps ++ b.place ∷ []) ps) (sym w.if-is_new.false)
    ] in
    first_more place_of_spot ks c.insert.new.self.keys ps c.if-is_new.places.items all (spot_of b) (spots_of (drop (n + 1) bs)) c.in_ok-is_new.is_new added keys places here
