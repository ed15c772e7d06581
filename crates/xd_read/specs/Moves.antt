-- What the reader does at a token.
use Rattle.xd_lex.specs.declared.Kind.{Kind}
use Rattle.xd_lex.specs.declared.Kind.TheVariants as kinds
use Rattle.xd_read.specs.declared.moves.Expect.{Expect}
use Rattle.xd_read.specs.declared.moves.Expect.TheVariants as expects
use Rattle.xd_read.specs.declared.moves.Move.{Move}
use Rattle.xd_read.specs.declared.moves.Move.TheVariants as moves

-- an item, or another move
abbrev pub item_move : Kind → Move → Move
item_move kinds.Text other = moves.Text
item_move kinds.Label other = moves.Open
item_move k other = other

-- `()`, or another move
abbrev pub empty_move : Kind → Move → Move
empty_move kinds.ParenL other = moves.Go expects.Closing
empty_move k other = other

-- the end of a content or of the document
abbrev pub end_move : Kind → Move
end_move kinds.BracketR = moves.Close
end_move kinds.End = moves.End
end_move k = moves.Refuse

abbrev pub comma_move : Kind → Move
comma_move kinds.Comma = moves.Go expects.Item
comma_move k = end_move k

abbrev pub closing_move : Kind → Move
closing_move kinds.ParenR = moves.Go expects.Closed
closing_move k = moves.Refuse

abbrev pub move_for : Expect → Kind → Move
move_for expects.Document k = item_move k (empty_move k moves.Refuse)
move_for expects.Content k = item_move k (empty_move k (end_move k))
move_for expects.More k = comma_move k
move_for expects.Item k = item_move k moves.Refuse
move_for expects.Closing k = closing_move k
move_for expects.Closed k = end_move k
