-- A machine with a stack that reads the terminals of a document one by one, and its agreement with
-- the grammar.
use Rattle.std.proofs.Common.{◌≡◌, ℕ, List, [], ◌∷◌, ◌++◌, Option, Some, None, refl, sym, ap, subst, ◌∙◌, inl, inr}
use Rattle.std.proofs.lemmas.List.{append-nil}
use Rattle.xd_doc.specs.Document.{Document, empty, text, element, join}
use Rattle.xd_read.specs.Grammar.{Terminal, QuotedText, Label, ParenL, ParenR, BracketR, Comma, End, Other, Context, Whole, Content, Behind, Lead, Items, Spells}
use Rattle.xd_read.specs.Completes.{Frame, Rest, Up, Completes}
use Rattle.xd_read.specs.declared.moves.Expect.{Expect}
use Rattle.xd_read.specs.declared.moves.Expect.TheVariants as expects
use Rattle.xd_doc.proofs.Joins.{join_empty-right, join_assoc}
use Rattle.xd_doc.proofs.Lists.{not_nil, same_first, same_rest}

pub data State : Type 0 where
  At : Expect → Document → List Frame → State
  Done : Document → State

-- from this state, the terminals ts complete the document d
abbrev pub CompletesFrom : State → List Terminal → Document → Type 0
CompletesFrom (At m front fs) ts d = Completes m front fs ts d
CompletesFrom (Done e) ts d = (ts ≡ []) × (e ≡ d)

abbrev pub close : List Frame → Document → Terminal → Option State
close [] inner End = Some (Done inner)
close (f ∷ fs) inner BracketR = Some (At expects.More (join f.before (element f.label inner empty)) fs)
close fs inner t = None

-- an item, or other
abbrev pub item : Document → List Frame → Terminal → Option State → Option State
item front fs (QuotedText s) other = Some (At expects.More (join front (text s empty)) fs)
item front fs (Label l) other = Some (At expects.Content empty (record { label = l; before = front } ∷ fs))
item front fs t other = other

-- `(`, or other
abbrev pub parens : Document → List Frame → Terminal → Option State → Option State
parens front fs ParenL other = Some (At expects.Closing front fs)
parens front fs t other = other

abbrev pub step : State → Terminal → Option State
step (At expects.Document front fs) t = item front fs t (parens front fs t None)
step (At expects.Content front fs) t = item front fs t (parens front fs t (close fs front t))
step (At expects.More front fs) Comma = Some (At expects.Item front fs)
step (At expects.More front fs) t = close fs front t
step (At expects.Item front fs) t = item front fs t None
step (At expects.Closing front fs) ParenR = Some (At expects.Closed front fs)
step (At expects.Closing front fs) t = None
step (At expects.Closed front fs) t = close fs front t
step (Done d) t = None

abbrev pub run : Option State → List Terminal → Option State
run None ts = None
run (Some s) [] = Some s
run (Some s) (t ∷ ts) = run (step s t) ts

-- the machine goes on from a state, and the rest completes d from there
abbrev pub Goes : Option State → List Terminal → Document → Type 0
Goes (Some s) ts d = CompletesFrom s ts d
Goes None ts d = ⊥

-- what closes
close_forward : (fs : List Frame) (inner : Document) (t : Terminal) (ts : List Terminal) (d : Document) → Up fs inner (t ∷ ts) d → Goes (close fs inner t) ts d
close_forward [] inner t ts d u = rw (same_first _ _ _ _ u.0) (same_rest _ _ _ _ u.0, u.1)
close_forward (f ∷ fs) inner t ts d u =
    rw (same_first _ _ _ _ u.3) (u.1, u.2, rw (same_rest _ _ _ _ u.3) u.4, u.5)

close_backward : (fs : List Frame) (inner : Document) (t : Terminal) (ts : List Terminal) (d : Document) → Goes (close fs inner t) ts d → Up fs inner (t ∷ ts) d
close_backward [] inner End ts d g = (ap (λ (us : List Terminal). End ∷ us) g.0, g.1)
close_backward (f ∷ fs) inner BracketR ts d g = (ts, g.0, g.1, refl, g.2, g.3)
close_backward fs inner t ts d g = absurd g

-- the items that are left begin with one, which is pushed
pushed_text : (front : Document) (s : List ℕ) (r : Document) → join front (text s r) ≡ join (join front (text s empty)) r
pushed_text front s r = sym (join_assoc front (text s empty) r)

pushed_elem : (front : Document) (l : List ℕ) (c r : Document) → join front (element l c r) ≡ join (join front (element l c empty)) r
pushed_elem front l c r = sym (join_assoc front (element l c empty) r)

-- a text is left
text_forward : (front : Document) (fs : List Frame) (t : Terminal) (ts : List Terminal) (d : Document) (other : Option State) (s : List ℕ) (r : Document) (us vs : List Terminal) → t ∷ ts ≡ QuotedText s ∷ vs → Items Behind r vs us → Up fs (join front (text s r)) us d → Goes (item front fs t other) ts d
text_forward front fs t ts d other s r us vs e rest up =
    rw (same_first _ _ _ _ e) (r, us, rw (same_rest _ _ _ _ e) rest, subst (λ (x : Document). Up fs x us d) (pushed_text front s r) up)

elem_forward : (front : Document) (fs : List Frame) (t : Terminal) (ts : List Terminal) (d : Document) (other : Option State) (l : List ℕ) (c r : Document) (us vs ws : List Terminal) → t ∷ ts ≡ Label l ∷ vs → Items Content c vs (BracketR ∷ ws) → Items Behind r ws us → Up fs (join front (element l c r)) us d → Goes (item front fs t other) ts d
elem_forward front fs t ts d other l c r us vs ws e inner rest up =
    rw (same_first _ _ _ _ e) (c, BracketR ∷ ws, rw (same_rest _ _ _ _ e) inner, (ws, r, us, refl, rest, subst (λ (x : Document). Up fs x us d) (pushed_elem front l c r) up))

-- what closes is neither an item nor `(`
close_item : (front : Document) (fs : List Frame) (t : Terminal) (ts : List Terminal) (d : Document) (inner : Document) → Goes (close fs inner t) ts d → Goes (item front fs t (parens front fs t (close fs inner t))) ts d
close_item front [] End ts d inner g = g
close_item front (f ∷ fs) BracketR ts d inner g = g
close_item front fs t ts d inner g = absurd g

close_more : (front : Document) (fs : List Frame) (t : Terminal) (ts : List Terminal) (d : Document) → Goes (close fs front t) ts d → Goes (step (At expects.More front fs) t) ts d
close_more front [] End ts d g = g
close_more front (f ∷ fs) BracketR ts d g = g
close_more front fs t ts d g = absurd g

nothing_left : (front : Document) (fs : List Frame) (us : List Terminal) (d : Document) → Up fs (join front empty) us d → Up fs front us d
nothing_left front fs us d up = subst (λ (x : Document). Up fs x us d) (join_empty-right front) up

-- the step keeps what completes
pub forward : (s : State) (t : Terminal) (ts : List Terminal) (d : Document) → CompletesFrom s (t ∷ ts) d → Goes (step s t) ts d
forward (At expects.Document front fs) t ts d (empty, us, rest, up) = rw (same_first _ _ _ _ rest) (empty, us, same_rest _ _ _ _ rest, up)
forward (At expects.Document front fs) t ts d (text s r, us, (vs, e, rest), up) = text_forward front fs t ts d _ s r us vs e rest up
forward (At expects.Document front fs) t ts d (element l c r, us, (vs, ws, e, inner, rest), up) = elem_forward front fs t ts d _ l c r us vs ws e inner rest up
forward (At expects.Content front fs) t ts d (empty, us, inl e, up) = close_item front fs t ts d front (close_forward fs front t ts d (rw e (nothing_left front fs us d up)))
forward (At expects.Content front fs) t ts d (empty, us, inr e, up) = rw (same_first _ _ _ _ e) (empty, us, same_rest _ _ _ _ e, up)
forward (At expects.Content front fs) t ts d (text s r, us, (vs, e, rest), up) = text_forward front fs t ts d _ s r us vs e rest up
forward (At expects.Content front fs) t ts d (element l c r, us, (vs, ws, e, inner, rest), up) = elem_forward front fs t ts d _ l c r us vs ws e inner rest up
forward (At expects.More front fs) t ts d (empty, us, e, up) = close_more front fs t ts d (close_forward fs front t ts d (rw e (nothing_left front fs us d up)))
forward (At expects.More front fs) t ts d (text s r, us, (vs, e, rest), up) = rw (same_first _ _ _ _ e) (text s r, us, (vs, same_rest _ _ _ _ e, rest), up)
forward (At expects.More front fs) t ts d (element l c r, us, (vs, ws, e, inner, rest), up) = rw (same_first _ _ _ _ e) (element l c r, us, (vs, ws, same_rest _ _ _ _ e, inner, rest), up)
forward (At expects.Item front fs) t ts d (empty, us, rest, up) = absurd rest
forward (At expects.Item front fs) t ts d (text s r, us, (vs, e, rest), up) = text_forward front fs t ts d _ s r us vs e rest up
forward (At expects.Item front fs) t ts d (element l c r, us, (vs, ws, e, inner, rest), up) = elem_forward front fs t ts d _ l c r us vs ws e inner rest up
forward (At expects.Closing front fs) t ts d (empty, us, e, up) = rw (same_first _ _ _ _ e) (empty, us, same_rest _ _ _ _ e, up)
forward (At expects.Closing front fs) t ts d (text s r, us, rest, up) = absurd rest
forward (At expects.Closing front fs) t ts d (element l c r, us, rest, up) = absurd rest
forward (At expects.Closed front fs) t ts d (empty, us, e, up) = close_forward fs front t ts d (rw e (nothing_left front fs us d up))
forward (At expects.Closed front fs) t ts d (text s r, us, rest, up) = absurd rest
forward (At expects.Closed front fs) t ts d (element l c r, us, rest, up) = absurd rest
forward (Done e) t ts d (nothing, is) = absurd (cc nothing)

-- and what completes after it completes with it
text_backward : (m : Context) (front : Document) (fs : List Frame) (s : List ℕ) (ts : List Terminal) (d : Document) → Lead m (QuotedText s ∷ ts) (QuotedText s ∷ ts) → CompletesFrom (At expects.More (join front (text s empty)) fs) ts d → (r : Document) × (us : List Terminal) × Items m r (QuotedText s ∷ ts) us × Up fs (join front r) us d
text_backward m front fs s ts d lead (r, us, rest, up) = (text s r, us, (ts, lead, rest), subst (λ (x : Document). Up fs x us d) (sym (pushed_text front s r)) up)

elem_backward : (m : Context) (front : Document) (fs : List Frame) (l : List ℕ) (ts : List Terminal) (d : Document) → Lead m (Label l ∷ ts) (Label l ∷ ts) → CompletesFrom (At expects.Content empty (record { label = l; before = front } ∷ fs)) ts d → (r : Document) × (us : List Terminal) × Items m r (Label l ∷ ts) us × Up fs (join front r) us d
elem_backward m front fs l ts d lead (c, us, inner, (vs, r, ws, e, rest, up)) =
    (element l c r, ws, (ts, vs, lead, subst (Items Content c ts) e inner, rest), subst (λ (x : Document). Up fs x ws d) (sym (pushed_elem front l c r)) up)

close_to : (front : Document) (fs : List Frame) (us : List Terminal) (d : Document) → Up fs front us d → Up fs (join front empty) us d
close_to front fs us d up = subst (λ (x : Document). Up fs x us d) (sym (join_empty-right front)) up

pub backward : (s : State) (t : Terminal) (ts : List Terminal) (d : Document) → Goes (step s t) ts d → CompletesFrom s (t ∷ ts) d
backward (At expects.Document front fs) (QuotedText s) ts d g = text_backward Whole front fs s ts d refl g
backward (At expects.Document front fs) (Label l) ts d g = elem_backward Whole front fs l ts d refl g
backward (At expects.Document front fs) ParenL ts d (empty, us, e, up) = (empty, us, ap (λ (x : List Terminal). ParenL ∷ x) e, up)
backward (At expects.Content front fs) (QuotedText s) ts d g = text_backward Content front fs s ts d refl g
backward (At expects.Content front fs) (Label l) ts d g = elem_backward Content front fs l ts d refl g
backward (At expects.Content front fs) ParenL ts d (empty, us, e, up) = (empty, us, inr (ap (λ (x : List Terminal). ParenL ∷ x) e), up)
backward (At expects.Content front fs) BracketR ts d g = (empty, BracketR ∷ ts, inl refl, close_to front fs _ d (close_backward fs front BracketR ts d g))
backward (At expects.Content front fs) End ts d g = (empty, End ∷ ts, inl refl, close_to front fs _ d (close_backward fs front End ts d g))
backward (At expects.More front fs) Comma ts d (text s r, us, (vs, e, rest), up) = (text s r, us, (vs, ap (λ (x : List Terminal). Comma ∷ x) e, rest), up)
backward (At expects.More front fs) Comma ts d (element l c r, us, (vs, ws, e, inner, rest), up) = (element l c r, us, (vs, ws, ap (λ (x : List Terminal). Comma ∷ x) e, inner, rest), up)
backward (At expects.More front fs) BracketR ts d g = (empty, BracketR ∷ ts, refl, close_to front fs _ d (close_backward fs front BracketR ts d g))
backward (At expects.More front fs) End ts d g = (empty, End ∷ ts, refl, close_to front fs _ d (close_backward fs front End ts d g))
backward (At expects.Item front fs) (QuotedText s) ts d (r, us, rest, up) = (text s r, us, (ts, refl, rest), subst (λ (x : Document). Up fs x us d) (sym (pushed_text front s r)) up)
backward (At expects.Item front fs) (Label l) ts d (c, us, inner, (vs, r, ws, e, rest, up)) =
    (element l c r, ws, (ts, vs, refl, subst (Items Content c ts) e inner, rest), subst (λ (x : Document). Up fs x ws d) (sym (pushed_elem front l c r)) up)
backward (At expects.Closing front fs) ParenR ts d (empty, us, e, up) = (empty, us, ap (λ (x : List Terminal). ParenR ∷ x) e, up)
backward (At expects.Closed front fs) t ts d g = (empty, t ∷ ts, refl, close_to front fs _ d (close_backward fs front t ts d g))
backward (At expects.Document front fs) ParenL ts d (text s r, us, rest, up) = absurd rest
backward (At expects.Document front fs) ParenL ts d (element l c r, us, rest, up) = absurd rest
backward (At expects.Content front fs) ParenL ts d (text s r, us, rest, up) = absurd rest
backward (At expects.Content front fs) ParenL ts d (element l c r, us, rest, up) = absurd rest
backward (At expects.More front fs) Comma ts d (empty, us, rest, up) = absurd rest
backward (At expects.Closing front fs) ParenR ts d (text s r, us, rest, up) = absurd rest
backward (At expects.Closing front fs) ParenR ts d (element l c r, us, rest, up) = absurd rest
backward (At expects.Content front fs) ParenR ts d g = (empty, ParenR ∷ ts, inl refl, close_to front fs _ d (close_backward fs front ParenR ts d g))
backward (At expects.Content front fs) Comma ts d g = (empty, Comma ∷ ts, inl refl, close_to front fs _ d (close_backward fs front Comma ts d g))
backward (At expects.Content front fs) Other ts d g = (empty, Other ∷ ts, inl refl, close_to front fs _ d (close_backward fs front Other ts d g))
backward (At expects.More front fs) (QuotedText s) ts d g = (empty, QuotedText s ∷ ts, refl, close_to front fs _ d (close_backward fs front (QuotedText s) ts d g))
backward (At expects.More front fs) (Label l) ts d g = (empty, Label l ∷ ts, refl, close_to front fs _ d (close_backward fs front (Label l) ts d g))
backward (At expects.More front fs) ParenL ts d g = (empty, ParenL ∷ ts, refl, close_to front fs _ d (close_backward fs front ParenL ts d g))
backward (At expects.More front fs) ParenR ts d g = (empty, ParenR ∷ ts, refl, close_to front fs _ d (close_backward fs front ParenR ts d g))
backward (At expects.More front fs) Other ts d g = (empty, Other ∷ ts, refl, close_to front fs _ d (close_backward fs front Other ts d g))
backward s t ts d g = absurd g

-- ---- runs

up_nil : (fs : List Frame) (inner d : Document) → Up fs inner [] d → ⊥
up_nil [] inner d u = absurd (not_nil End [] u.0)
up_nil (f ∷ fs) inner d u = absurd (not_nil BracketR u.0 u.3)

rest_nil : (m : Expect) (r : Document) (us : List Terminal) → Rest m r [] us → [] ≡ us
rest_nil expects.Document empty us e = cc
rest_nil expects.Document (text s r) us (vs, e, rest) = cc
rest_nil expects.Document (element l c r) us (vs, ws, e, inner, rest) = cc
rest_nil expects.Content empty us (inl e) = e
rest_nil expects.Content empty us (inr e) = cc
rest_nil expects.Content (text s r) us (vs, e, rest) = cc
rest_nil expects.Content (element l c r) us (vs, ws, e, inner, rest) = cc
rest_nil expects.More empty us e = e
rest_nil expects.More (text s r) us (vs, e, rest) = cc
rest_nil expects.More (element l c r) us (vs, ws, e, inner, rest) = cc
rest_nil expects.Item empty us rest = absurd rest
rest_nil expects.Item (text s r) us (vs, e, rest) = cc
rest_nil expects.Item (element l c r) us (vs, ws, e, inner, rest) = cc
rest_nil expects.Closing empty us e = cc
rest_nil expects.Closing (text s r) us rest = absurd rest
rest_nil expects.Closing (element l c r) us rest = absurd rest
rest_nil expects.Closed empty us e = e
rest_nil expects.Closed (text s r) us rest = absurd rest
rest_nil expects.Closed (element l c r) us rest = absurd rest

ends : (s : Option State) (d : Document) → Goes s [] d → s ≡ Some (Done d)
ends None d g = absurd g
ends (Some (Done e)) d g = ap (λ (x : Document). Some (Done x)) g.1
ends (Some (At m front fs)) d (r, us, rest, up) = absurd (up_nil fs (join front r) d (subst (λ (x : List Terminal). Up fs (join front r) x d) (sym (rest_nil m r us rest)) up))

-- a run keeps what completes
pub goes_on : (ts more : List Terminal) (s : Option State) (d : Document) → Goes s (ts ++ more) d → Goes (run s ts) more d
goes_on [] more None d g = absurd g
goes_on (t ∷ ts) more None d g = absurd g
goes_on [] more (Some s) d g = g
goes_on (t ∷ ts) more (Some s) d g = goes_on ts more (step s t) d (forward s t (ts ++ more) d g)

-- every state has terminals that complete some document
abbrev closers : List Frame → List Terminal
closers [] = End ∷ []
closers (f ∷ fs) = BracketR ∷ closers fs

up_closers : (fs : List Frame) (inner : Document) → (d : Document) × Up fs inner (closers fs) d
up_closers [] inner = (inner, (refl, refl))
up_closers (f ∷ fs) inner =
    let up = up_closers fs (join (join f.before (element f.label inner empty)) empty) in
    (up.0, (closers fs, empty, closers fs, refl, refl, up.1))

pub completion : (s : State) → (more : List Terminal) × (d : Document) × CompletesFrom s more d
completion (At expects.Document front fs) = let up = up_closers fs (join front empty) in (ParenL ∷ ParenR ∷ closers fs, up.0, (empty, closers fs, refl, up.1))
completion (At expects.Content front fs) = let up = up_closers fs (join front empty) in (closers fs, up.0, (empty, closers fs, inl refl, up.1))
completion (At expects.More front fs) = let up = up_closers fs (join front empty) in (closers fs, up.0, (empty, closers fs, refl, up.1))
completion (At expects.Item front fs) = let up = up_closers fs (join front (text [] empty)) in (QuotedText [] ∷ closers fs, up.0, (text [] empty, closers fs, (closers fs, refl, refl), up.1))
completion (At expects.Closing front fs) = let up = up_closers fs (join front empty) in (ParenR ∷ closers fs, up.0, (empty, closers fs, refl, up.1))
completion (At expects.Closed front fs) = let up = up_closers fs (join front empty) in (closers fs, up.0, (empty, closers fs, refl, up.1))
completion (Done e) = ([], e, (refl, refl))

abbrev pub begin : State
begin = At expects.Document empty []

pub spelled_completes : (ts : List Terminal) (d : Document) → Spells ts d → CompletesFrom begin ts d
spelled_completes ts d s = (d, End ∷ [], s, (refl, refl))

pub completes_spelled : (ts : List Terminal) (d : Document) → CompletesFrom begin ts d → Spells ts d
completes_spelled ts d (r, us, rest, (e, f)) = subst (λ (x : Document). Items Whole x ts (End ∷ [])) f (subst (Items Whole r ts) e rest)

done_is : (d e : Document) → Some (Done d) ≡ Some (Done e) → d ≡ e
done_is d e h = cc

-- terminals that spell d leave the machine done with d
pub done : (ts : List Terminal) (d : Document) → Spells ts d → run (Some begin) ts ≡ Some (Done d)
done ts d s = ends (run (Some begin) ts) d (goes_on ts [] (Some begin) d (subst (λ (x : List Terminal). CompletesFrom begin x d) (sym (append-nil ts)) (spelled_completes ts d s)))

-- the terminals spell at most one document
pub one_document : (ts : List Terminal) (d e : Document) → Spells ts d → Spells ts e → d ≡ e
one_document ts d e p q = done_is d e (sym (done ts d p) ∙ done ts e q)
