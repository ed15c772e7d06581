-- What the moves of both kinds lead to.
use Rattle.std.specs.Prelude.{Some, None}
use Rattle.std.specs.Option.{IfSome}
use Rattle.xd_doc.specs.ClassForms.{HasLabel, HasText}
use Rattle.xd_auto.specs.declared.auto.State.{State}
use Rattle.xd_auto.specs.declared.auto.LabelMove.{LabelMove}
use Rattle.xd_auto.specs.declared.auto.TextMove.{TextMove}
use Rattle.xd_auto.specs.declared.leading.Ends.{Ends}

-- an element leads inside and behind it
abbrev pub label_ends : LabelMove → Ends
label_ends m = record { inside = Some m.content; behind = m.rest }

-- a text leads behind it alone
abbrev pub text_ends : TextMove → Ends
text_ends m = record { inside = None; behind = m.rest }

-- what holds of each state that a move leads to
abbrev pub EndsAre : (State → Type 0) → Ends → Type 0
EndsAre R e = R e.behind × IfSome e.inside R

-- the move has a name
abbrev pub LabelFilled : LabelMove → Type 0
LabelFilled m = HasLabel m.class

abbrev pub TextFilled : TextMove → Type 0
TextFilled m = HasText m.words
