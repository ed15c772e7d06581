-- A stop is one, and there is none where the bytes spell a document of the set.
use Rattle.std.proofs.Common.{◌≡◌, ℕ, ◌⊎◌, inl, inr, ⊎_elim, List, [], ◌∷◌, ◌++◌, length, sym, ap, subst, ◌∙◌, arith, append_assoc, length-append}
use Rattle.std.proofs.lemmas.List.{append-nil, map-append, append_cancel_left}
use Rattle.xd_base.specs.declared.Place.{Place}
use Rattle.xd_lex.specs.Tokens.{Lexeme, start, tokens_of}
use Rattle.xd_read.specs.Grammar.{Begins, Spells, Terminal}
use Rattle.xd_read.specs.Reading.{terminal_of, terminals_of}
use Rattle.xd_doc.specs.Document.{Document}
use Rattle.xd_auto.specs.declared.auto.State.{State}
use Rattle.xd_auto.specs.Automaton.{Automaton}
use Rattle.xd_stream.specs.Stop.{BeginsOneOf, IsFirstStop, SpellsOneOf, StopsMalformed, StopsOutside, stream_tokens, told}
use Rattle.xd_stream.specs.StopByState.{IsAccepted, SpellsAccepted}
use Rattle.xd_stream.specs.Fed.{IsStop, StopsAs}
use Rattle.xd_stream.specs.declared.error.StreamError.{StreamError}
use Rattle.xd_stream.specs.declared.error.StreamError.TheVariants.{Malformed, Outside, NoMemory}
use Rattle.xd_stream.proofs.Latest.{fronts, head_same}
use Rattle.xd_stream.proofs.TokensAtLemmas.{at_end}

module _ (In : Document → Type 0) where
  -- what begins a document of the set has fronts that do
  shorter_begins : (ts us : List Lexeme) → BeginsOneOf In (terminals_of (ts ++ us)) → BeginsOneOf In (terminals_of ts)
  shorter_begins ts us b = record {
    more = terminals_of us ++ b.more;
    document = b.document;
    spells = subst (λ (xs : List Terminal). Spells xs b.document) (ap (λ (xs : List Terminal). xs ++ b.more) (map-append terminal_of ts us) ∙ append_assoc (terminals_of ts) (terminals_of us) b.more) b.spells;
    within = b.within;
  }

  -- no stop stands in front of another
  not_before : (tokens before others : List Lexeme) (x y : Lexeme) (p q : Place) → IsFirstStop In tokens before x p → IsFirstStop In tokens others y q → (token : Lexeme) (rest : List Lexeme) → others ≡ before ++ token ∷ rest → ⊥
  not_before tokens before others x y p q f g token rest is = go g.goes
    where
      same : x ≡ token
      same = head_same x token f.after (rest ++ y ∷ g.after)
          (append_cancel_left before (x ∷ f.after) (token ∷ rest ++ y ∷ g.after)
          (sym f.split ∙ g.split ∙ ap (λ (xs : List Lexeme). xs ++ y ∷ g.after) is ∙ append_assoc before (token ∷ rest) (y ∷ g.after)))

      front : others ≡ (before ++ x ∷ []) ++ rest
      front = is ∙ ap (λ z. before ++ z ∷ rest) (sym same) ∙ sym (append_assoc before (x ∷ []) rest)

      go : (others ≡ []) ⊎ BeginsOneOf In (terminals_of others) → ⊥
      go (inl e) = let l : length others ≡ 0 = ap length e in omega (arith, l, ap length is, length-append before (token ∷ rest))
      go (inr b) = f.stops (shorter_begins (before ++ x ∷ []) rest (subst (λ (xs : List Lexeme). BeginsOneOf In (terminals_of xs)) front b))

  record AreOne (before others : List Lexeme) (x y : Lexeme) (p q : Place) : Type 0 where
    tokens_too : others ≡ before
    stop_too : y ≡ x
    place_too : q ≡ p

  one_first : (tokens before others : List Lexeme) (x y : Lexeme) (p q : Place) → IsFirstStop In tokens before x p → IsFirstStop In tokens others y q → AreOne before others x y p q
  one_first tokens before others x y p q f g = ⊎_elim (λ r. first r) (λ o. absurd (not_before tokens others before y x q p g f o.token o.rest o.is)) (fronts before others (x ∷ f.after) (y ∷ g.after) (sym f.split ∙ g.split))
    where
      first : ((rest : List Lexeme) × (others ≡ before ++ rest)) → AreOne before others x y p q
      first ([], e) =
          let same : others ≡ before = e ∙ append-nil before in
          let one : y ≡ x = head_same y x g.after f.after (append_cancel_left before (y ∷ g.after) (x ∷ f.after) (ap (λ (xs : List Lexeme). xs ++ y ∷ g.after) (sym same) ∙ sym g.split ∙ f.split)) in
          record { tokens_too = same; stop_too = one; place_too = g.here ∙ ap (λ z. told z.place) one ∙ sym f.here }
      first (t ∷ rest, e) = absurd (not_before tokens before others x y p q f g t rest e)

  never_stops : (bytes : List ℕ) → SpellsOneOf In bytes → (before : List Lexeme) (x : Lexeme) (p : Place) → IsFirstStop In (stream_tokens bytes) before x p → ⊥
  never_stops bytes d before x p f =
      let tokens : tokens_of bytes ≡ (before ++ x ∷ []) ++ f.after = sym (at_end start bytes d.spells.utf8) ∙ f.split ∙ sym (append_assoc before (x ∷ []) f.after) in
      f.stops (record {
        more = terminals_of f.after;
        document = d.document;
        spells = subst (λ (ts : List Terminal). Spells ts d.document) (ap terminals_of tokens ∙ map-append terminal_of (before ++ x ∷ []) f.after) d.spells.spells;
        within = d.within;
      })

  -- ---- of the whole bytes
  pub one_malformed : (bytes : List ℕ) (p q : Place) → StopsMalformed In bytes p → StopsMalformed In bytes q → p ≡ q
  one_malformed bytes p q x y = sym (one_first (stream_tokens bytes) x.before y.before x.stop y.stop p q x.first y.first).place_too

  pub one_outside : (bytes : List ℕ) (p q : Place) → StopsOutside In bytes p → StopsOutside In bytes q → p ≡ q
  one_outside bytes p q x y = sym (one_first (stream_tokens bytes) x.before y.before x.stop y.stop p q x.first y.first).place_too

  pub one_reason : (bytes : List ℕ) (p q : Place) → StopsMalformed In bytes p → StopsOutside In bytes q → ⊥
  one_reason bytes p q x y =
      let o = one_first (stream_tokens bytes) x.before y.before x.stop y.stop p q x.first y.first in
      x.none (subst (λ (ts : List Lexeme). Begins (terminals_of ts)) (ap (λ (ts : List Lexeme). ts ++ y.stop ∷ []) o.tokens_too ∙ ap (λ z. x.before ++ z ∷ []) o.stop_too) y.some)

  pub never_malformed : (bytes : List ℕ) (p : Place) → SpellsOneOf In bytes → StopsMalformed In bytes p → ⊥
  never_malformed bytes p d x = never_stops bytes d x.before x.stop p x.first

  pub never_outside : (bytes : List ℕ) (p : Place) → SpellsOneOf In bytes → StopsOutside In bytes p → ⊥
  never_outside bytes p d x = never_stops bytes d x.before x.stop p x.first

module _ (a : Automaton) (s : State) where
  pub one_stop : (bytes : List ℕ) (e f : StreamError) → IsStop e → IsStop f → StopsAs a s bytes e → StopsAs a s bytes f → e ≡ f
  one_stop bytes NoMemory f i j x y = absurd i
  one_stop bytes e NoMemory i j x y = absurd j
  one_stop bytes (Malformed p) (Malformed q) i j x y = ap Malformed (one_malformed (IsAccepted a s) bytes p q x y)
  one_stop bytes (Outside p) (Outside q) i j x y = ap Outside (one_outside (IsAccepted a s) bytes p q x y)
  one_stop bytes (Malformed p) (Outside q) i j x y = absurd (one_reason (IsAccepted a s) bytes p q x y)
  one_stop bytes (Outside p) (Malformed q) i j x y = absurd (one_reason (IsAccepted a s) bytes q p y x)

  pub accepted_never_stops : (bytes : List ℕ) (e : StreamError) → IsStop e → SpellsAccepted a s bytes → StopsAs a s bytes e → ⊥
  accepted_never_stops bytes (Malformed p) i d x = never_malformed (IsAccepted a s) bytes p d x
  accepted_never_stops bytes (Outside p) i d x = never_outside (IsAccepted a s) bytes p d x
  accepted_never_stops bytes NoMemory i d x = absurd i
