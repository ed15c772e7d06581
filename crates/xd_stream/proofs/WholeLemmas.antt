-- Terminals that spell what is left of a document, and the document that they spell.
use Rattle.std.proofs.Common.{◌≡◌, suc, true, List, [], ◌∷◌, length, refl, ap, inl, arith}
use Rattle.xd_doc.specs.Document.{Document, empty, text, element, join}
use Rattle.xd_read.specs.Grammar.{Terminal, QuotedText, Label, ParenL, ParenR, BracketR, Comma, End, Context, Whole, Content, Behind, Lead, Items}
use Rattle.xd_read.specs.Completes.{Frame, Rest, Up}
use Rattle.xd_stream.specs.Positions.{expected}
use Rattle.xd_stream.specs.Standing.{whole, may_be_left}
use Rattle.xd_stream.specs.declared.position.Position.{Position}
use Rattle.xd_stream.specs.declared.position.Position.TheVariants as positions

lead : (m : Context) (item : List Terminal) → (ts : List Terminal) × Lead m ts item
lead Whole item = (item, refl)
lead Content item = (item, refl)
lead Behind item = (Comma ∷ item, refl)

-- each document can be spelled where items stand, before any terminals
pub spell_items : (m : Context) (r : Document) (us : List Terminal) → (ts : List Terminal) × Items m r ts us
spell_items Whole empty us = (ParenL ∷ ParenR ∷ us, refl)
spell_items Content empty us = (us, inl refl)
spell_items Behind empty us = (us, refl)
spell_items m (text s r) us =
    let rest = spell_items Behind r us in
    let all = lead m (QuotedText s ∷ rest.0) in
    (all.0, (rest.0, all.1, rest.1))
spell_items m (element l c r) us =
    let rest = spell_items Behind r us in
    let inner = spell_items Content c (BracketR ∷ rest.0) in
    let all = lead m (Label l ∷ inner.0) in
    (all.0, (inner.0, rest.0, all.1, inner.1, rest.1))

pub spell_rest : (e : Position) (r : Document) (us : List Terminal) → may_be_left e r ≡ true → (ts : List Terminal) × Rest (expected e) r ts us
spell_rest positions.Document r us h = spell_items Whole r us
spell_rest positions.Content r us h = spell_items Content r us
spell_rest positions.More r us h = spell_items Behind r us
spell_rest positions.Item empty us h = absurd (cc)
spell_rest positions.Item (text s r) us h = spell_items Content (text s r) us
spell_rest positions.Item (element l c r) us h = spell_items Content (element l c r) us
spell_rest positions.Closing empty us h = (ParenR ∷ us, refl)
spell_rest positions.Closing (text s r) us h = absurd (cc)
spell_rest positions.Closing (element l c r) us h = absurd (cc)
spell_rest positions.Closed empty us h = (us, refl)
spell_rest positions.Closed (text s r) us h = absurd (cc)
spell_rest positions.Closed (element l c r) us h = absurd (cc)

-- what is left may be left
pub left_may : (e : Position) (r : Document) (ts us : List Terminal) → Rest (expected e) r ts us → may_be_left e r ≡ true
left_may positions.Document r ts us h = refl
left_may positions.Content r ts us h = refl
left_may positions.More r ts us h = refl
left_may positions.Item empty ts us h = absurd h
left_may positions.Item (text s r) ts us h = refl
left_may positions.Item (element l c r) ts us h = refl
left_may positions.Closing empty ts us h = refl
left_may positions.Closing (text s r) ts us h = absurd h
left_may positions.Closing (element l c r) ts us h = absurd h
left_may positions.Closed empty ts us h = refl
left_may positions.Closed (text s r) ts us h = absurd h
left_may positions.Closed (element l c r) ts us h = absurd h

-- the terminals after the innermost items, for each choice of what follows the open elements
pub up_of : (fs : List Frame) (inner : Document) (rests : List Document) → length rests ≡ length fs → (us : List Terminal) × Up fs inner us (whole fs inner rests)
up_of [] inner [] e = (End ∷ [], (refl, refl))
up_of [] inner (r ∷ rests) e = absurd (omega arith)
up_of (f ∷ fs) inner [] e = absurd (omega arith)
up_of (f ∷ fs) inner (r ∷ rests) e =
    let up = up_of fs (join (join f.before (element f.label inner empty)) r) rests (omega arith) in
    let items = spell_items Behind r up.0 in
    (BracketR ∷ items.0, (items.0, r, up.0, refl, items.1, up.1))

-- and what follows them, from such terminals
pub record AreRests (fs : List Frame) (inner d : Document) : Type 0 where
  pub rests : List Document
  pub count : length rests ≡ length fs
  pub is : whole fs inner rests ≡ d

pub rests_of : (fs : List Frame) (inner : Document) (us : List Terminal) (d : Document) → Up fs inner us d → AreRests fs inner d
rests_of [] inner us d u = record { rests = []; count = refl; is = u.1 }
rests_of (f ∷ fs) inner us d (vs, r, ws, e, items, up) =
    let m : AreRests fs (join (join f.before (element f.label inner empty)) r) d = rests_of fs (join (join f.before (element f.label inner empty)) r) ws d up in
    record { rests = r ∷ m.rests; count = ap suc m.count; is = m.is }
