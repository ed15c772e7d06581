-- Positions in the grammar of documents.
use Rattle.std.specs.Prelude.{Bool, true, false}
use Rattle.xd_read.specs.declared.moves.Expect.{Expect}
use Rattle.xd_read.specs.declared.moves.Expect.TheVariants as expects
use Rattle.xd_stream.specs.declared.position.Position.{Position}
use Rattle.xd_stream.specs.declared.position.Position.TheVariants.{Document, Content, More, Item, Closing, Closed}

abbrev pub takes_item : Position → Bool
takes_item Document = true
takes_item Content = true
takes_item Item = true
takes_item More = false
takes_item Closing = false
takes_item Closed = false

abbrev pub takes_close : Position → Bool
takes_close Content = true
takes_close More = true
takes_close Closed = true
takes_close Document = false
takes_close Item = false
takes_close Closing = false

abbrev pub takes_parens : Position → Bool
takes_parens Document = true
takes_parens Content = true
takes_parens More = false
takes_parens Item = false
takes_parens Closing = false
takes_parens Closed = false

abbrev pub takes_comma : Position → Bool
takes_comma More = true
takes_comma Document = false
takes_comma Content = false
takes_comma Item = false
takes_comma Closing = false
takes_comma Closed = false

abbrev pub takes_paren_r : Position → Bool
takes_paren_r Closing = true
takes_paren_r Document = false
takes_paren_r Content = false
takes_paren_r More = false
takes_paren_r Item = false
takes_paren_r Closed = false

-- the same position of a reader
abbrev pub expected : Position → Expect
expected Document = expects.Document
expected Content = expects.Content
expected More = expects.More
expected Item = expects.Item
expected Closing = expects.Closing
expected Closed = expects.Closed
