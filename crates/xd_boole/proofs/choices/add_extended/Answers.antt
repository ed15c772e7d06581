use Rattle.std.proofs.Common.{◌∙◌, sym}
use Rattle.xd_boole.proofs.ChoiceLemmas.{content_alone, content_copied, content_marked, rest_marked, side_refused, side_added}
use Rattle.xd_boole.proofs.choices.add_extended.Goals as goal

pub returns-then-refuses : goal.returns-then-refuses
returns-then-refuses c =
    side_refused c.args.universal.now c.args.side c.args.choice c.args.choices.items c.in_ok-choices.choices.items (sym c.refuses.ensures ∙ c.if-refuses.true) c.in_ok-choices.ensures

pub returns-then-is_marked : goal.returns-then-is_marked
returns-then-is_marked c =
    let universal = c.args.universal.now in
    side_added universal c.args.side c.args.choice c.args.choices.items c.args.choices.items c.in_ok-choices-2.choices.items
    (content_marked universal c.args.side c.args.choice c.args.choices.items (sym c.is_marked.ensures ∙ c.if-is_marked.true)) c.in_ok-choices-2.ensures

pub returns-then-is_marked-2 : goal.returns-then-is_marked-2
returns-then-is_marked-2 c =
    let universal = c.args.universal.now in
    let made = c.in_ok-choices-3.choices.items in
    side_added universal c.args.side c.args.choice c.args.choices.items made made (c.in_ok-choices-3.ensures universal)
    (rest_marked universal c.args.side c.args.choice made (sym c.is_marked-2.ensures ∙ c.if-is_marked-2.true))

pub returns-then-has_content_alone : goal.returns-then-has_content_alone
returns-then-has_content_alone c =
    let universal = c.args.universal.now in
    side_added universal c.args.side c.args.choice c.args.choices.items c.args.choices.items c.in_ok-choices-4.choices.items
    (content_alone universal c.args.side c.args.choice c.args.choices.items (rw c.deref.ensures.value at (sym c.has_content_alone.ensures ∙ c.if-has_content_alone.true))) c.in_ok-choices-4.ensures

pub returns : goal.returns
returns c =
    let universal = c.args.universal.now in
    side_added universal c.args.side c.args.choice c.args.choices.items c.in_ok-choices-5.choices.items c.in_ok-choices-6.choices.items
    (content_copied universal c.args.side c.args.choice c.in_ok-copy.copy c.args.choices.items c.in_ok-choices-5.choices.items c.in_ok-copy.ensures.contents c.in_ok-copy.ensures.rests (c.in_ok-choices-5.ensures universal)) c.in_ok-choices-6.ensures
