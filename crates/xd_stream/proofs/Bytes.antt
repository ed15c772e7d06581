-- What a machine does at a byte.
use Rattle.std.proofs.Common.{◌≡◌, ◌≢◌, ℕ, ◌+◌, ◌-◌, ◌<◌, true, false, List, [], ◌∷◌, ◌++◌, refl, sym, ap, subst, ◌∙◌, arith, IsUtf8, append_assoc}
use Rattle.std.specs.Prelude.{◌==◌, ◌&&◌, nat_le, nat_lt}
use Rattle.std.proofs.lemmas.Bool.{ne_eqb, and_parts, and_from}
use Rattle.xd_lex.proofs.Fronts.{word_ascii, blank_ascii}
use Rattle.std.proofs.lemmas.Bool.Decides.{nat_tests}
use Rattle.std.proofs.lemmas.List.{append-nil}
use Rattle.std.proofs.lemmas.Str.{IsUtf8-append}
use Rattle.xd_base.specs.declared.Place.{Place}
use Rattle.xd_doc.specs.Word.{is_word, is_word_start, is_word_part, are_word_parts}
use Rattle.xd_lex.specs.declared.Kind.{Kind}
use Rattle.xd_lex.specs.declared.Kind.TheVariants as kinds
use Rattle.xd_lex.specs.Scan.{is_blank}
use Rattle.xd_lex.specs.Tokens.{after, past}
use Rattle.xd_lex.proofs.Skipped.{past-append}
use Rattle.xd_read.specs.Grammar.{Label, ParenL}
use Rattle.xd_read.specs.Reading.{terminal}
use Rattle.xd_read.proofs.CanonicalSpells.{word_of-label}
use Rattle.xd_stream.specs.StopByState.{IsAccepted}
use Rattle.xd_stream.specs.Stop.{StopsMalformed, StopsOutside, told, tokens_at}
use Rattle.xd_stream.specs.Characters.{IsPartial, none}
use Rattle.xd_stream.specs.Validating.{IsSameFor, Passes, Refuses}
use Rattle.xd_stream.specs.Errors.{error_at}
use Rattle.xd_stream.specs.Pending.{AreRefused, HasBegun, HasShape, IsNextColumn, IsPlaceAfter, IsRefusal, IsStanding, RefusesByte, RefusesNext, StandsBefore, StandsBehind, Takes, TakesAll, TakesNext}
use Rattle.xd_stream.specs.declared.machine.Mode.{Mode}
use Rattle.xd_stream.specs.declared.machine.Mode.TheVariants as modes
use Rattle.xd_stream.specs.declared.machine.Machine.{Machine}
use Rattle.xd_stream.specs.declared.error.StreamError.{StreamError}
use Rattle.xd_stream.specs.declared.error.StreamError.TheVariants as errors
use Rattle.xd_stream.specs.declared.validator.Refusal.{Refusal}
use Rattle.xd_stream.specs.declared.validator.Refusal.TheVariants as refusals
use Rattle.xd_stream.proofs.Behind.{before_refused, behind_refused, next_gap, next_pending, next_token, none_left, stands_before, stands_more, stands_on, stands_token}
use Rattle.xd_stream.proofs.StandsAfterLemmas.{refuses_other}
use Rattle.xd_stream.proofs.PlainBytes.{parts_join}
use Rattle.xd_stream.proofs.InFront.{IsOtherFirst, IsStrange, IsTokenAt, ascii_utf8, blank_at, label_at, paren_l_at, strange_at, word_at}

-- ---- places

pub column_after : (p : Place) (b : ℕ) → b ≢ 10 → b < 128 → after p b ≡ record { line = p.line; column = p.column + 1 }
column_after p b n lt = rw (ne_eqb b 10 n, low) refl
  where
    low : (nat_le 128 b && nat_lt b 192) ≡ false
    low = grind (arith, nat_tests)

-- the place of a byte after others
pub place_more : (b : ℕ) (old new from : Place) (front : List ℕ) → IsPlaceAfter b old new → old ≡ told (past from front) → new ≡ told (past from (front ++ b ∷ []))
place_more b old new from front h e = h (past from front) e ∙ ap told (sym (past-append from front (b ∷ [])))

pub column_more : (b : ℕ) (old new from : Place) (front : List ℕ) → b ≢ 10 → b < 128 → IsNextColumn old new → old ≡ told (past from front) → new ≡ told (past from (front ++ b ∷ []))
column_more b old new from front n lt h e = h (past from front) e ∙ ap told (sym (column_after (past from front) b n lt) ∙ sym (past-append from front (b ∷ [])))

-- ---- a byte that comes next

pub blank_next : (m n : Machine) (b : ℕ) → n.validator ≡ m.validator → n.mode ≡ m.mode → n.awaited ≡ m.awaited → n.held.items ≡ m.held.items → is_blank b ≡ true → IsPlaceAfter b m.place n.place → TakesNext m b n
blank_next m n b v mode w held blank place bytes h =
    next_gap m n bytes b h v (λ more. blank_at h.from b blank (blank_ascii b blank) more) (mode ∙ h.mode) (ap (λ x. x.left) w ∙ h.none) (held ∙ h.held) (place h.from h.place)

begun_at : (mode : Mode) (begun from : Place) → begun ≡ told from → HasBegun mode begun from
begun_at modes.Between begun from e = tt
begun_at modes.Paren begun from e = e
begun_at modes.Word begun from e = e
begun_at (modes.Text x) begun from e = e
begun_at (modes.Comment x) begun from e = e

pub begin_next : (m n : Machine) (mode : Mode) (b : ℕ) → HasShape mode n.held.items (b ∷ []) [] → b ≢ 10 → b < 128
    → n.validator ≡ m.validator → n.mode ≡ mode → n.awaited ≡ m.awaited → n.begun ≡ m.place → IsNextColumn m.place n.place → TakesNext m b n
begin_next m n mode b shape line lt v is w begun place bytes h =
    next_pending m n bytes b h v (record {
      front = b ∷ [];
      partial = [];
      parts = refl;
      utf8 = ascii_utf8 b lt;
      awaits = none (ap (λ x. x.left) w ∙ h.none) refl;
      shape = rw is shape;
      begun = begun_at n.mode n.begun h.from (begun ∙ h.place);
      place = column_more b m.place n.place h.from [] line lt place h.place;
    })

pub token_next : (m n : Machine) (b : ℕ) (k : Kind) → ((p : Place) → IsTokenAt p (b ∷ []) k) → b ≢ 10 → b < 128 → Passes m.validator (terminal k (b ∷ [])) n.validator
    → n.mode ≡ m.mode → n.awaited ≡ m.awaited → n.held.items ≡ m.held.items → IsNextColumn m.place n.place → TakesNext m b n
token_next m n b k token line lt passes mode w held place bytes h =
    next_token m n bytes b h (record { kind = k; text = b ∷ []; place = h.from }) passes (λ more. token h.from more) (mode ∙ h.mode) (ap (λ x. x.left) w ∙ h.none) (held ∙ h.held)
    (column_more b m.place n.place h.from [] line lt place h.place)

pub token_refused : (m : Machine) (b : ℕ) (k : Kind) (r : Refusal) → ((p : Place) → IsTokenAt p (b ∷ []) k) → Refuses m.validator (terminal k (b ∷ [])) r → RefusesNext m b (error_at r m.place)
token_refused m b k r token refuses bytes h =
    before_refused m bytes b h r m.place (λ more. record { token = record { kind = k; text = b ∷ []; place = h.from }; after = tokens_at (past h.from (b ∷ [])) more; split = token h.from more; refuses = refuses; here = h.place })

pub strange_refused : (m : Machine) (b : ℕ) → IsStrange b → RefusesNext m b (errors.Malformed m.place)
strange_refused m b s bytes h =
    before_refused m bytes b h refusals.Malformed m.place (λ more.
    let o : IsOtherFirst h.from (tokens_at h.from (b ∷ more)) = strange_at b s h.from more in
    record {
      token = o.token;
      after = o.after;
      split = o.split;
      refuses = subst (λ t. Refuses m.validator t refusals.Malformed) (sym o.other) (refuses_other m.validator);
      here = h.place ∙ ap told (sym o.here);
    })

-- ---- a parenthesis

module _ (m : Machine) (mode : m.mode ≡ modes.Paren) where
  paren_shape : (bytes : List ℕ) (h : StandsBehind m bytes) → (h.pends.front ≡ 40 ∷ []) × (h.pends.partial ≡ []) × (m.held.items ≡ [])
  paren_shape bytes h = subst (λ k. HasShape k m.held.items h.pends.front h.pends.partial) mode h.pends.shape

  paren_pending : (bytes : List ℕ) (h : StandsBehind m bytes) → h.pending ≡ 40 ∷ []
  paren_pending bytes h = let s = paren_shape bytes h in h.pends.parts ∙ rw (s.0, s.1) refl

  paren_begun : (bytes : List ℕ) (h : StandsBehind m bytes) → m.begun ≡ told h.from
  paren_begun bytes h = subst (λ k. HasBegun k m.begun h.from) mode h.pends.begun

  pub star_takes : (n : Machine) → n.validator ≡ m.validator → n.mode ≡ modes.Comment false → n.awaited ≡ m.awaited → n.begun ≡ m.begun → n.held.items ≡ m.held.items → IsNextColumn m.place n.place → Takes m 42 n
  star_takes n v is w begun held place bytes h =
      let s = paren_shape bytes h in
      stands_more m n bytes 42 h v (record {
        front = 40 ∷ 42 ∷ [];
        partial = [];
        parts = rw (paren_pending bytes h) refl;
        utf8 = IsUtf8-append (40 ∷ []) (42 ∷ []) (ascii_utf8 40 (omega arith)) (ascii_utf8 42 (omega arith));
        awaits = rw w (subst (IsPartial m.awaited) s.1 h.pends.awaits);
        shape = rw is ([], refl, refl, held ∙ s.2);
        begun = rw is (begun ∙ paren_begun bytes h);
        place = column_more 42 m.place n.place h.from (40 ∷ []) (λ e. omega arith) (omega arith) place (h.pends.place ∙ ap (λ (xs : List ℕ). told (past h.from xs)) s.0);
      })

  pub paren_before : (n : Machine) (b : ℕ) → (b == 42) ≡ false → Passes m.validator ParenL n.validator → n.mode ≡ modes.Between → n.awaited ≡ m.awaited → n.held.items ≡ m.held.items → n.place ≡ m.place
      → (bytes : List ℕ) → StandsBehind m bytes → StandsBefore n bytes b
  paren_before n b other passes is w held place bytes h =
      let s = paren_shape bytes h in
      stands_before m n bytes b h (record { kind = kinds.ParenL; text = 40 ∷ []; place = h.from }) passes
      (λ more. rw (paren_pending bytes h) (paren_l_at h.from b more other)) is (ap (λ x. x.left) w ∙ none_left m.awaited h.pends.partial s.1 h.pends.awaits) (held ∙ s.2)
      (place ∙ h.pends.place ∙ ap (λ (xs : List ℕ). told (past h.from xs)) (s.0 ∙ sym (paren_pending bytes h)))

  pub paren_refused : (b : ℕ) (e : StreamError) → (b == 42) ≡ false → IsRefusal m ParenL m.begun e → RefusesByte m b e
  paren_refused b e other r bytes h =
      subst (AreRefused m (bytes ++ b ∷ [])) (sym r.is)
      (behind_refused m bytes b h r.refusal m.begun (λ more. record {
        token = record { kind = kinds.ParenL; text = 40 ∷ []; place = h.from };
        after = tokens_at (past h.from (40 ∷ [])) (b ∷ more);
        split = rw (paren_pending bytes h) (paren_l_at h.from b more other);
        refuses = r.refuses;
        here = paren_begun bytes h;
      }))

-- where it stops is the same for a machine that is for the same
pub refused_same : (m n : Machine) (bytes : List ℕ) (e : StreamError) → IsSameFor m.validator n.validator → AreRefused n bytes e → AreRefused m bytes e
refused_same m n bytes (errors.Malformed p) s r = λ more. subst (λ a. StopsMalformed (IsAccepted a m.validator.start) (bytes ++ more) p) s.automaton (subst (λ x. StopsMalformed (IsAccepted n.validator.automaton x) (bytes ++ more) p) s.start (r more))
refused_same m n bytes (errors.Outside p) s r = λ more. subst (λ a. StopsOutside (IsAccepted a m.validator.start) (bytes ++ more) p) s.automaton (subst (λ x. StopsOutside (IsAccepted n.validator.automaton x) (bytes ++ more) p) s.start (r more))
refused_same m n bytes errors.NoMemory s r = λ more. tt

-- ---- words and labels

word_more : (w xs : List ℕ) → is_word w ≡ true → are_word_parts xs ≡ true → is_word (w ++ xs) ≡ true
word_more [] xs h k = absurd (cc)
word_more (c ∷ cs) xs h k = let p = and_parts (is_word_start c) (are_word_parts cs) h in and_from (is_word_start c) (are_word_parts (cs ++ xs)) p.0 (parts_join cs xs p.1 k)

pub part_line : (b : ℕ) → is_word_part b ≡ true → b ≢ 10
part_line b h e = let t : is_word_part 10 ≡ true = subst (λ n. is_word_part n ≡ true) e h in cc

module _ (m : Machine) (mode : m.mode ≡ modes.Word) where
  word_shape : (bytes : List ℕ) (h : StandsBehind m bytes) → (is_word h.pends.front ≡ true) × (m.held.items ≡ h.pends.front) × (h.pends.partial ≡ [])
  word_shape bytes h = subst (λ k. HasShape k m.held.items h.pends.front h.pends.partial) mode h.pends.shape

  word_pending : (bytes : List ℕ) (h : StandsBehind m bytes) → h.pending ≡ m.held.items
  word_pending bytes h = let s = word_shape bytes h in h.pends.parts ∙ ap (λ (xs : List ℕ). h.pends.front ++ xs) s.2 ∙ append-nil h.pends.front ∙ sym s.1

  word_begun : (bytes : List ℕ) (h : StandsBehind m bytes) → m.begun ≡ told h.from
  word_begun bytes h = subst (λ k. HasBegun k m.begun h.from) mode h.pends.begun

  word_place : (bytes : List ℕ) (h : StandsBehind m bytes) → m.place ≡ told (past h.from m.held.items)
  word_place bytes h = h.pends.place ∙ ap (λ (xs : List ℕ). told (past h.from xs)) (sym (word_shape bytes h).1)

  pub held_word : IsStanding m → (is_word m.held.items ≡ true) × IsUtf8 m.held.items
  held_word (bytes, h) = let s = word_shape bytes h in (ap is_word s.1 ∙ s.0, subst IsUtf8 (sym s.1) h.pends.utf8)

  word_utf8 : (bytes : List ℕ) (h : StandsBehind m bytes) → IsUtf8 m.held.items
  word_utf8 bytes h = (held_word (bytes, h)).1

  pub word_goes_on : (n : Machine) (xs : List ℕ) → are_word_parts xs ≡ true → IsUtf8 xs → n.validator ≡ m.validator → n.mode ≡ m.mode → n.awaited ≡ m.awaited → n.begun ≡ m.begun → n.held.items ≡ m.held.items ++ xs
      → ((p : Place) → m.place ≡ told p → n.place ≡ told (past p xs)) → TakesAll m xs n
  word_goes_on n xs parts utf8 v is w begun held place bytes h =
      let s = word_shape bytes h in
      stands_on m n bytes xs h v (record {
        front = m.held.items ++ xs;
        partial = [];
        parts = ap (λ (ys : List ℕ). ys ++ xs) (word_pending bytes h) ∙ sym (append-nil (m.held.items ++ xs));
        utf8 = IsUtf8-append m.held.items xs (word_utf8 bytes h) utf8;
        awaits = rw w (subst (IsPartial m.awaited) s.2 h.pends.awaits);
        shape = rw (is, mode) (word_more m.held.items xs (ap is_word s.1 ∙ s.0) parts, held, refl);
        begun = rw (is, mode) (begun ∙ word_begun bytes h);
        place = place (past h.from m.held.items) (word_place bytes h) ∙ ap told (sym (past-append h.from m.held.items xs));
      })

  pub word_takes : (n : Machine) (b : ℕ) → is_word_part b ≡ true → n.validator ≡ m.validator → n.mode ≡ m.mode → n.awaited ≡ m.awaited → n.begun ≡ m.begun → n.held.items ≡ m.held.items ++ b ∷ [] → IsNextColumn m.place n.place → Takes m b n
  word_takes n b part v is w begun held place =
      word_goes_on n (b ∷ []) (and_from (is_word_part b) true part refl) (ascii_utf8 b (word_ascii b part)) v is w begun held
      (λ p e. place p e ∙ ap told (sym (column_after p b (part_line b part) (word_ascii b part))))

  pub word_refused : (b : ℕ) → is_word_part b ≡ false → (b == 91) ≡ false → RefusesByte m b (errors.Malformed m.begun)
  word_refused b part bracket bytes h =
      behind_refused m bytes b h refusals.Malformed m.begun (λ more. record {
        token = record { kind = kinds.Word; text = m.held.items; place = h.from };
        after = tokens_at (past h.from m.held.items) (b ∷ more);
        split = rw (word_pending bytes h) (word_at h.from m.held.items b more (word_utf8 bytes h) (held_word (bytes, h)).0 part bracket);
        refuses = refuses_other m.validator;
        here = word_begun bytes h;
      })

  label_at_all : (bytes : List ℕ) (h : StandsBehind m bytes) → (more : List ℕ) → tokens_at h.from ((h.pending ++ 91 ∷ []) ++ more) ≡ record { kind = kinds.Label; text = m.held.items ++ 91 ∷ []; place = h.from } ∷ tokens_at (past h.from (h.pending ++ 91 ∷ [])) more
  label_at_all bytes h more = rw (word_pending bytes h) (label_at h.from m.held.items (IsUtf8-append m.held.items (91 ∷ []) (word_utf8 bytes h) (ascii_utf8 91 (omega arith))) (held_word (bytes, h)).0 more)

  pub label_takes : (n : Machine) → Passes m.validator (Label m.held.items) n.validator → n.mode ≡ modes.Between → n.awaited ≡ m.awaited → n.held.items ≡ [] → IsNextColumn m.place n.place → Takes m 91 n
  label_takes n passes is w held place bytes h =
      let s = word_shape bytes h in
      stands_token m n bytes 91 h (record { kind = kinds.Label; text = m.held.items ++ 91 ∷ []; place = h.from })
      (subst (λ (l : List ℕ). Passes m.validator (Label l) n.validator) (sym (word_of-label m.held.items)) passes)
      (label_at_all bytes h) is (ap (λ x. x.left) w ∙ none_left m.awaited h.pends.partial s.2 h.pends.awaits) held
      (rw (word_pending bytes h) (column_more 91 m.place n.place h.from m.held.items (λ e. omega arith) (omega arith) place (word_place bytes h)))

  pub label_refused : (r : Refusal) → Refuses m.validator (Label m.held.items) r → RefusesByte m 91 (error_at r m.begun)
  label_refused r refuses bytes h =
      behind_refused m bytes 91 h r m.begun (λ more. record {
        token = record { kind = kinds.Label; text = m.held.items ++ 91 ∷ []; place = h.from };
        after = tokens_at (past h.from (h.pending ++ 91 ∷ [])) more;
        split = ap (tokens_at h.from) (sym (append_assoc h.pending (91 ∷ []) more)) ∙ label_at_all bytes h more;
        refuses = subst (λ (l : List ℕ). Refuses m.validator (Label l) r) (sym (word_of-label m.held.items)) refuses;
        here = word_begun bytes h;
      })
