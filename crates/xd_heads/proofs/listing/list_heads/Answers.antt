use Rattle.std.proofs.Common.{◌∷◌, ◌++◌, [], get_or, take, sym, subst}
use Rattle.std.proofs.lemmas.List.{take_more}
use Rattle.xd_heads.specs.HeadList.{IsHeadFound}
use Rattle.xd_moves.specs.declared.expansion.Found.{Found}
use Rattle.xd_heads.proofs.GrowsTypesLemmas.{grows_then}
use Rattle.xd_heads.proofs.HeadLists.{IsListing, listing_more, found_stays, each_found}
use Rattle.xd_heads.proofs.listing.list_heads.Goals as goal

no_move : Found
no_move = record { node = 0; rest = 0 }

pub head_of-requires-clause-found : goal.head_of-requires-clause-found
unfolding no_move
head_of-requires-clause-found c =
    let p = c.args.sound.now in
    let fs = c.args.found.now in
    found_stays p c.loop-one.sound c.loop-one.invariant.listing.grows c.args.cells.now c.requires.nodes (get_or fs c.loop-one.one-index no_move)
    (each_found (IsHeadFound p c.args.cells.now) fs c.loop-one.one-index no_move c.requires.found c.loop-one-test.true)

pub returns-in_err-head_of-clause-grows : goal.returns-in_err-head_of-clause-grows
returns-in_err-head_of-clause-grows c = grows_then c.args.sound.now c.loop-one.sound c.head_of.new.sound c.loop-one.invariant.listing.grows c.head_of.ensures.grows

pub returns-in_err-push-clause-grows : goal.returns-in_err-push-clause-grows
returns-in_err-push-clause-grows c = grows_then c.args.sound.now c.loop-one.sound c.head_of.new.sound c.loop-one.invariant.listing.grows c.head_of.ensures.grows

pub loop-one-preserved : goal.loop-one-preserved
unfolding no_move
loop-one-preserved c =
    let p = c.args.sound.now in
    let q = c.loop-one.sound in
    let r = c.head_of.new.sound in
    let cells = c.args.cells.now in
    let fs = c.args.found.now in
    let i = c.loop-one.one-index in
    let listing =
    subst (λ xs. IsListing p r cells xs c.push.new.self.items) (sym (take_more fs i no_move c.loop-one-test.true))
    (subst (IsListing p r cells (take i fs ++ get_or fs i no_move ∷ [])) (sym c.in_ok-push.ensures.items)
    (listing_more p q r cells c.requires.nodes (take i fs) c.loop-one.made.items c.loop-one.invariant.listing (get_or fs i no_move)
    (each_found (IsHeadFound p cells) fs i no_move c.requires.found c.loop-one-test.true) c.in_ok-head_of.field-0 c.in_ok-head_of.ensures.ok c.head_of.ensures.grows)) in
    record { listing = listing; rests = c.in_ok-head_of.ensures.rests }
