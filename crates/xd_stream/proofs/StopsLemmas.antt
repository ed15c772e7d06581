-- What a machine does where the bytes end.
use Rattle.std.proofs.Common.{◌≡◌, ℕ, ◌<◌, ◌⊎◌, inl, inr, ⊎_elim, Bool, true, false, cond, List, [], ◌∷◌, ◌++◌, length, take, map, Some, None, refl, sym, ap, subst, ◌∙◌, arith, IsUtf8, append_assoc}
use Rattle.std.specs.Prelude.{◌==◌}
use Rattle.std.specs.Str.Lossy.{utf8_valid_len}
use Rattle.std.proofs.lemmas.Bool.{eqb-true}
use Rattle.std.proofs.lemmas.List.{append-nil, map-append}
use Rattle.std.proofs.lemmas.Str.{IsUtf8-nil}
use Rattle.std.proofs.Math.Seq.{take-length}
use Rattle.xd_base.specs.declared.Place.{Place}
use Rattle.xd_doc.specs.Document.{Document}
use Rattle.xd_doc.specs.Word.{is_word}
use Rattle.xd_lex.specs.declared.Kind.TheVariants as kinds
use Rattle.xd_lex.specs.declared.LexFault.TheVariants.{BadCharacter, OpenText, OpenComment}
use Rattle.xd_lex.specs.Tokens.{Lexeme, past, start, tokens_from, tokens_of}
use Rattle.xd_lex.proofs.Symbols.{a_word, paren_l}
use Rattle.xd_read.specs.Grammar.{Terminal, End, ParenL, Spells}
use Rattle.xd_read.specs.Reading.{terminal_of, terminals_of}
use Rattle.xd_stream.specs.StopByState.{SpellsAccepted}
use Rattle.xd_stream.specs.Stop.{cut_off, cut_off_unless, is_open, stream_tokens, text_front, told, tokens_at}
use Rattle.xd_stream.specs.Characters.{IsPartial, none, one, one_of_three, one_of_four, two_of_three, two_of_four, three_of_four}
use Rattle.xd_stream.specs.declared.characters.Awaited.{Awaited}
use Rattle.xd_stream.specs.Validating.{Ends, Passes, Refuses}
use Rattle.xd_stream.specs.Errors.{error_at}
use Rattle.xd_stream.specs.Pending.{HasBegun, HasShape, IsOpenMode, IsRefusal, StandsBehind, Stops, scan_text, scan_comment}
use Rattle.xd_stream.specs.declared.machine.Mode.{Mode}
use Rattle.xd_stream.specs.declared.machine.Mode.TheVariants as modes
use Rattle.xd_stream.specs.declared.machine.Machine.{Machine}
use Rattle.xd_stream.specs.declared.error.StreamError.{StreamError}
use Rattle.xd_stream.specs.declared.error.StreamError.TheVariants as errors
use Rattle.xd_stream.specs.declared.validator.Refusal.{Refusal}
use Rattle.xd_stream.specs.declared.validator.Refusal.TheVariants as refusals
use Rattle.xd_stream.specs.declared.position.Position.{Position}
use Rattle.xd_stream.specs.declared.position.Position.TheVariants as positions
use Rattle.xd_read.specs.Completes.{Frame}
use Rattle.xd_read.proofs.Machine.{At, step}
use Rattle.xd_stream.specs.Positions.{expected}
use Rattle.xd_stream.proofs.Grammar.{end_none}
use Rattle.xd_stream.proofs.Behind.{end_refused, more_gone, stops_at}
use Rattle.xd_stream.proofs.Fronts.{longest}
use Rattle.xd_stream.proofs.StandsAfterLemmas.{refuses_none, refuses_other}
use Rattle.xd_stream.proofs.InFront.{ascii_utf8, broken_comment_at, broken_text_at}
use Rattle.xd_stream.proofs.TokensAtLemmas.{at_end}
use Rattle.xd_stream.proofs.TextFrontLemmas.{tokens-open_text, tokens-open_comment}
use Rattle.xd_stream.proofs.WideBytes.{nothing_partial, partial_none}
use Rattle.xd_stream.proofs.Inside.{only_front}

-- nothing is left
pub nothing_left : (p : Place) → tokens_at p [] ≡ record { kind = kinds.End; text = []; place = p } ∷ []
nothing_left p = at_end p [] IsUtf8-nil

-- ---- the bytes of a stream whose tokens end

-- no token that is cut off is the end
no_end : (p : Place) (x : Lexeme) → is_open (cut_off p x).kind ≡ true → ⊥
no_end p x e = go (is_open x.kind) refl e
  where
    go : (t : Bool) → is_open x.kind ≡ t → is_open (cond t (record { kind = kinds.Broken BadCharacter; text = []; place = p }) x).kind ≡ true → ⊥
    go true o f = let g : false ≡ true = f in cc
    go false o f = let g : false ≡ true = sym o ∙ f in cc

never_ends : (p q : Place) (xs ts : List Lexeme) → map (cut_off p) xs ≡ ts ++ record { kind = kinds.End; text = []; place = q } ∷ [] → ⊥
never_ends p q [] [] e = absurd (cc)
never_ends p q [] (t ∷ ts) e = absurd (cc)
never_ends p q (x ∷ xs) [] e = no_end p x (ap is_open (first e))
  where
    first : cut_off p x ∷ map (cut_off p) xs ≡ record { kind = kinds.End; text = []; place = q } ∷ [] → (cut_off p x).kind ≡ kinds.End
    first f = ap (λ (y : Lexeme). y.kind) (head_same (cut_off p x) (record { kind = kinds.End; text = []; place = q }) (map (cut_off p) xs) [] f)
      where
        head_same : (a b : Lexeme) (xs ys : List Lexeme) → a ∷ xs ≡ b ∷ ys → a ≡ b
        head_same a b xs ys g = cc
never_ends p q (x ∷ xs) (t ∷ ts) e = never_ends p q xs ts (tail_same (cut_off p x) t (map (cut_off p) xs) (ts ++ record { kind = kinds.End; text = []; place = q } ∷ []) e)
  where
    tail_same : (a b : Lexeme) (xs ys : List Lexeme) → a ∷ xs ≡ b ∷ ys → xs ≡ ys
    tail_same a b xs ys g = cc

-- then the bytes are UTF-8, and their tokens are those of the text
record AreAll (bytes : List ℕ) (tokens : List Lexeme) : Type 0 where
  utf8 : IsUtf8 bytes
  are : tokens_of bytes ≡ tokens

are_all : (bytes : List ℕ) (tokens ts : List Lexeme) (q : Place) → tokens ≡ ts ++ record { kind = kinds.End; text = []; place = q } ∷ [] → stream_tokens bytes ≡ tokens → AreAll bytes tokens
are_all bytes tokens ts q ends is = go (utf8_valid_len bytes == length bytes) refl
  where
    go : (t : Bool) → (utf8_valid_len bytes == length bytes) ≡ t → AreAll bytes tokens
    go true e =
        let n : utf8_valid_len bytes ≡ length bytes = eqb-true (utf8_valid_len bytes) (length bytes) e in
        let f : text_front bytes ≡ bytes = ap (λ k. take k bytes) n ∙ take-length bytes in
        record {
          utf8 = subst IsUtf8 f (longest bytes).utf8;
          are =
              ap (tokens_from 0 start) (sym f)
              ∙ sym (ap (λ t. cut_off_unless t (past start (text_front bytes)) (tokens_from 0 start (text_front bytes))) e)
              ∙ is;
        }
    go false e = absurd (never_ends (past start (text_front bytes)) q (tokens_from 0 start (text_front bytes)) ts
        (sym (ap (λ t. cut_off_unless t (past start (text_front bytes)) (tokens_from 0 start (text_front bytes))) e) ∙ is ∙ ends))

-- ---- nothing is pending

module _ (m : Machine) (mode : m.mode ≡ modes.Between) where
  no_shape : (bytes : List ℕ) (h : StandsBehind m bytes) → (h.pends.front ≡ []) × (h.pends.partial ≡ []) × (m.held.items ≡ [])
  no_shape bytes h = subst (λ k. HasShape k m.held.items h.pends.front h.pends.partial) mode h.pends.shape

  no_pending : (bytes : List ℕ) (h : StandsBehind m bytes) → h.pending ≡ []
  no_pending bytes h = let s = no_shape bytes h in h.pends.parts ∙ rw (s.0, s.1) refl

  end_tokens : (bytes : List ℕ) (h : StandsBehind m bytes) → tokens_at h.from h.pending ≡ record { kind = kinds.End; text = []; place = h.from } ∷ []
  end_tokens bytes h = ap (tokens_at h.from) (no_pending bytes h) ∙ nothing_left h.from

  pub ends_accepted : Ends m.validator → (bytes : List ℕ) → StandsBehind m bytes → SpellsAccepted m.validator.automaton m.validator.start bytes
  ends_accepted ends bytes h =
      let e = ends (terminals_of h.tokens) h.gone.stands in
      let is : stream_tokens bytes ≡ h.tokens ++ record { kind = kinds.End; text = []; place = h.from } ∷ [] =
      ap stream_tokens (sym (append-nil bytes)) ∙ h.lexed [] ∙ ap (λ (xs : List ℕ). h.tokens ++ tokens_at h.from xs) (append-nil h.pending)
      ∙ ap (λ (ts : List Lexeme). h.tokens ++ ts) (end_tokens bytes h) in
      let all : AreAll bytes (h.tokens ++ record { kind = kinds.End; text = []; place = h.from } ∷ []) = are_all bytes (h.tokens ++ record { kind = kinds.End; text = []; place = h.from } ∷ []) h.tokens h.from refl is in
      record {
        document = e.0;
        spells = record {
          utf8 = all.utf8;
          spells = subst (λ (ts : List Terminal). Spells ts e.0) (sym (ap terminals_of all.are ∙ map-append terminal_of h.tokens (record { kind = kinds.End; text = []; place = h.from } ∷ []))) e.1;
        };
        within = record { proper = e.2; accepted = e.3 };
      }

  pub ends_refused : (r : Refusal) → Refuses m.validator End r → (bytes : List ℕ) → StandsBehind m bytes → Stops m bytes (error_at r m.place)
  ends_refused r refuses bytes h =
      end_refused m bytes h r m.place (record {
        token = record { kind = kinds.End; text = []; place = h.from };
        after = [];
        split = end_tokens bytes h;
        refuses = refuses;
        here = h.pends.place ∙ ap (λ (xs : List ℕ). told (past h.from xs)) (no_shape bytes h).0;
      })

-- ---- a word

pub word_ends : (m : Machine) → m.mode ≡ modes.Word → (bytes : List ℕ) → StandsBehind m bytes → Stops m bytes (errors.Malformed m.begun)
word_ends m mode bytes h =
    let s : (is_word h.pends.front ≡ true) × (m.held.items ≡ h.pends.front) × (h.pends.partial ≡ []) = subst (λ k. HasShape k m.held.items h.pends.front h.pends.partial) mode h.pends.shape in
    let p : h.pending ≡ h.pends.front = h.pends.parts ∙ ap (λ (xs : List ℕ). h.pends.front ++ xs) s.2 ∙ append-nil h.pends.front in
    end_refused m bytes h refusals.Malformed m.begun (record {
      token = record { kind = kinds.Word; text = h.pends.front; place = h.from };
      after = tokens_from 0 (past h.from h.pends.front) [];
      split =
          ap (tokens_at h.from) p ∙ at_end h.from h.pends.front h.pends.utf8 ∙ ap (tokens_from 0 h.from) (sym (append-nil h.pends.front))
          ∙ a_word h.pends.front [] s.0 (record { no_part = refl; no_bracket = refl }) h.from;
      refuses = refuses_other m.validator;
      here = subst (λ k. HasBegun k m.begun h.from) mode h.pends.begun;
    })

-- ---- a parenthesis

closed_end : (e : Position) → e ≡ positions.Closing → (front : Document) (fs : List Frame) → step (At (expected e) front fs) End ≡ None
closed_end e h front fs = subst (λ x. step (At (expected x) front fs) End ≡ None) (sym h) (end_none front fs positions.Closing refl)

pub paren_ends : (m n : Machine) → m.mode ≡ modes.Paren → Passes m.validator ParenL n.validator → n.validator.position ≡ positions.Closing → (bytes : List ℕ) → StandsBehind m bytes → Stops m bytes (errors.Malformed m.place)
paren_ends m n mode passes closing bytes h =
    let s : (h.pends.front ≡ 40 ∷ []) × (h.pends.partial ≡ []) × (m.held.items ≡ []) = subst (λ k. HasShape k m.held.items h.pends.front h.pends.partial) mode h.pends.shape in
    let p : h.pending ≡ 40 ∷ [] = h.pends.parts ∙ rw (s.0, s.1) refl in
    let two : tokens_at h.from h.pending ≡ record { kind = kinds.ParenL; text = 40 ∷ []; place = h.from } ∷ record { kind = kinds.End; text = []; place = past h.from (40 ∷ []) } ∷ [] =
    ap (tokens_at h.from) p ∙ at_end h.from (40 ∷ []) (ascii_utf8 40 (omega arith)) ∙ paren_l [] refl h.from in
    let is : stream_tokens bytes ≡ (h.tokens ++ record { kind = kinds.ParenL; text = 40 ∷ []; place = h.from } ∷ []) ++ record { kind = kinds.End; text = []; place = past h.from (40 ∷ []) } ∷ [] =
    ap stream_tokens (sym (append-nil bytes)) ∙ h.lexed [] ∙ ap (λ (xs : List ℕ). h.tokens ++ tokens_at h.from xs) (append-nil h.pending)
    ∙ ap (λ (ts : List Lexeme). h.tokens ++ ts) two
    ∙ sym (append_assoc h.tokens (record { kind = kinds.ParenL; text = 40 ∷ []; place = h.from } ∷ []) (record { kind = kinds.End; text = []; place = past h.from (40 ∷ []) } ∷ [])) in
    let stops : Stops n bytes (errors.Malformed m.place) =
    stops_at n bytes (h.tokens ++ record { kind = kinds.ParenL; text = 40 ∷ []; place = h.from } ∷ []) (record { kind = kinds.End; text = []; place = past h.from (40 ∷ []) } ∷ []) refusals.Malformed m.place is
    (more_gone m n h.tokens (record { kind = kinds.ParenL; text = 40 ∷ []; place = h.from }) passes h.gone)
    (record {
      token = record { kind = kinds.End; text = []; place = past h.from (40 ∷ []) };
      after = [];
      split = refl;
      refuses = refuses_none n.validator End (λ front fs. closed_end n.validator.position closing front fs);
      here = h.pends.place ∙ ap (λ (xs : List ℕ). told (past h.from xs)) s.0;
    }) in
    rw (sym passes.same.automaton, sym passes.same.start) stops

pub paren_ends_refused : (m : Machine) → m.mode ≡ modes.Paren → (e : StreamError) → IsRefusal m ParenL m.begun e → (bytes : List ℕ) → StandsBehind m bytes → Stops m bytes e
paren_ends_refused m mode e r bytes h =
    let s : (h.pends.front ≡ 40 ∷ []) × (h.pends.partial ≡ []) × (m.held.items ≡ []) = subst (λ k. HasShape k m.held.items h.pends.front h.pends.partial) mode h.pends.shape in
    let p : h.pending ≡ 40 ∷ [] = h.pends.parts ∙ rw (s.0, s.1) refl in
    subst (Stops m bytes) (sym r.is)
    (end_refused m bytes h r.refusal m.begun (record {
      token = record { kind = kinds.ParenL; text = 40 ∷ []; place = h.from };
      after = record { kind = kinds.End; text = []; place = past h.from (40 ∷ []) } ∷ [];
      split = ap (tokens_at h.from) p ∙ at_end h.from (40 ∷ []) (ascii_utf8 40 (omega arith)) ∙ paren_l [] refl h.from;
      refuses = r.refuses;
      here = subst (λ k. HasBegun k m.begun h.from) mode h.pends.begun;
    }))

-- ---- a text or a comment

pub some_partial : (w : Awaited) (bytes : List ℕ) → 0 < w.left → IsPartial w bytes → 0 < length bytes
some_partial w bytes left (none z e) = absurd (omega arith)
some_partial w bytes left (one x a low high z lt e) = rw e (omega arith)
some_partial w bytes left (one_of_three x a low high z e) = rw e (omega arith)
some_partial w bytes left (one_of_four x a low high z e) = rw e (omega arith)
some_partial w bytes left (two_of_three x y a k low high z e) = rw e (omega arith)
some_partial w bytes left (two_of_four x y a k low high z e) = rw e (omega arith)
some_partial w bytes left (three_of_four x y v a k j low high z e) = rw e (omega arith)

pub text_ends_within : (m : Machine) (e : Bool) → m.mode ≡ modes.Text e → 0 < m.awaited.left → (bytes : List ℕ) → StandsBehind m bytes → Stops m bytes (errors.Malformed m.place)
text_ends_within m e mode left bytes h =
    let s : (pieces : List ℕ) × (h.pends.front ≡ 34 ∷ pieces) × (scan_text false pieces ≡ Some e) × (m.held.items ≡ h.pends.front ++ h.pends.partial) = subst (λ k. HasShape k m.held.items h.pends.front h.pends.partial) mode h.pends.shape in
    end_refused m bytes h refusals.Malformed m.place (record {
      token = record { kind = kinds.Broken BadCharacter; text = []; place = past h.from (34 ∷ s.0) };
      after = [];
      split =
          ap (tokens_at h.from) (h.pends.parts ∙ ap (λ (xs : List ℕ). xs ++ h.pends.partial) s.1)
          ∙ broken_text_at h.from s.0 h.pends.partial e (subst IsUtf8 s.1 h.pends.utf8) s.2 (some_partial m.awaited h.pends.partial left h.pends.awaits) (partial_none m.awaited h.pends.partial left h.pends.awaits);
      refuses = refuses_other m.validator;
      here = h.pends.place ∙ ap (λ (xs : List ℕ). told (past h.from xs)) s.1;
    })

pub text_ends : (m : Machine) (e : Bool) → m.mode ≡ modes.Text e → m.awaited.left ≡ 0 → (bytes : List ℕ) → StandsBehind m bytes → Stops m bytes (errors.Malformed m.begun)
text_ends m e mode left bytes h =
    let s : (pieces : List ℕ) × (h.pends.front ≡ 34 ∷ pieces) × (scan_text false pieces ≡ Some e) × (m.held.items ≡ h.pends.front ++ h.pends.partial) = subst (λ k. HasShape k m.held.items h.pends.front h.pends.partial) mode h.pends.shape in
    let p : h.pending ≡ 34 ∷ s.0 = only_front h.pending h.pends.front h.pends.partial (34 ∷ s.0) h.pends.parts s.1 (nothing_partial m.awaited h.pends.partial left h.pends.awaits) in
    end_refused m bytes h refusals.Malformed m.begun (record {
      token = record { kind = kinds.Broken OpenText; text = []; place = h.from };
      after = [];
      split = ap (tokens_at h.from) p ∙ at_end h.from (34 ∷ s.0) (subst IsUtf8 s.1 h.pends.utf8) ∙ tokens-open_text h.from s.0 e s.2;
      refuses = refuses_other m.validator;
      here = subst (λ k. HasBegun k m.begun h.from) mode h.pends.begun;
    })

pub comment_ends_within : (m : Machine) (e : Bool) → m.mode ≡ modes.Comment e → 0 < m.awaited.left → (bytes : List ℕ) → StandsBehind m bytes → Stops m bytes (errors.Malformed m.place)
comment_ends_within m e mode left bytes h =
    let s : (inside : List ℕ) × (h.pends.front ≡ 40 ∷ 42 ∷ inside) × (scan_comment false inside ≡ Some e) × (m.held.items ≡ []) = subst (λ k. HasShape k m.held.items h.pends.front h.pends.partial) mode h.pends.shape in
    end_refused m bytes h refusals.Malformed m.place (record {
      token = record { kind = kinds.Broken BadCharacter; text = []; place = past h.from (40 ∷ 42 ∷ s.0) };
      after = [];
      split =
          ap (tokens_at h.from) (h.pends.parts ∙ ap (λ (xs : List ℕ). xs ++ h.pends.partial) s.1)
          ∙ broken_comment_at h.from s.0 h.pends.partial e (subst IsUtf8 s.1 h.pends.utf8) s.2 (some_partial m.awaited h.pends.partial left h.pends.awaits) (partial_none m.awaited h.pends.partial left h.pends.awaits);
      refuses = refuses_other m.validator;
      here = h.pends.place ∙ ap (λ (xs : List ℕ). told (past h.from xs)) s.1;
    })

pub comment_ends_open : (m : Machine) (e : Bool) → m.mode ≡ modes.Comment e → m.awaited.left ≡ 0 → (bytes : List ℕ) → StandsBehind m bytes → Stops m bytes (errors.Malformed m.begun)
comment_ends_open m e mode left bytes h =
    let s : (inside : List ℕ) × (h.pends.front ≡ 40 ∷ 42 ∷ inside) × (scan_comment false inside ≡ Some e) × (m.held.items ≡ []) = subst (λ k. HasShape k m.held.items h.pends.front h.pends.partial) mode h.pends.shape in
    let p : h.pending ≡ 40 ∷ 42 ∷ s.0 = only_front h.pending h.pends.front h.pends.partial (40 ∷ 42 ∷ s.0) h.pends.parts s.1 (nothing_partial m.awaited h.pends.partial left h.pends.awaits) in
    end_refused m bytes h refusals.Malformed m.begun (record {
      token = record { kind = kinds.Broken OpenComment; text = []; place = h.from };
      after = [];
      split = ap (tokens_at h.from) p ∙ at_end h.from (40 ∷ 42 ∷ s.0) (subst IsUtf8 s.1 h.pends.utf8) ∙ tokens-open_comment h.from s.0 e s.2;
      refuses = refuses_other m.validator;
      here = subst (λ k. HasBegun k m.begun h.from) mode h.pends.begun;
    })

open_mode : (m : Machine) (mode : Mode) → m.mode ≡ mode → IsOpenMode mode → ((e : Bool) × (m.mode ≡ modes.Text e)) ⊎ ((e : Bool) × (m.mode ≡ modes.Comment e))
open_mode m (modes.Text e) is h = inl (e, is)
open_mode m (modes.Comment e) is h = inr (e, is)
open_mode m modes.Between is h = absurd h
open_mode m modes.Paren is h = absurd h
open_mode m modes.Word is h = absurd h

pub not_closed_within : (m : Machine) → IsOpenMode m.mode → 0 < m.awaited.left → (bytes : List ℕ) → StandsBehind m bytes → Stops m bytes (errors.Malformed m.place)
not_closed_within m mode left bytes h = ⊎_elim (λ t. text_ends_within m t.0 t.1 left bytes h) (λ k. comment_ends_within m k.0 k.1 left bytes h) (open_mode m m.mode refl mode)

pub not_closed_open : (m : Machine) → IsOpenMode m.mode → m.awaited.left ≡ 0 → (bytes : List ℕ) → StandsBehind m bytes → Stops m bytes (errors.Malformed m.begun)
not_closed_open m mode left bytes h = ⊎_elim (λ t. text_ends m t.0 t.1 left bytes h) (λ k. comment_ends_open m k.0 k.1 left bytes h) (open_mode m m.mode refl mode)
