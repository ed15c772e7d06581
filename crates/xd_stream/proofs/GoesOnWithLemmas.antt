-- With which terminals accepted documents go on from where a validator stands.
use Rattle.std.proofs.Common.{◌≡◌, ◌↔◌, ℕ, zero, suc, ◌<◌, Bool, true, false, not, cond, ◌&&◌, ◌||◌, ◌==◌, List, [], ◌∷◌, ◌++◌, length, map, reverse, drop, take, refl, sym, ap, subst, ◌∙◌, arith}
use Rattle.std.specs.Prelude.{flat_map}
use Rattle.std.specs.List.{list_any}
use Rattle.std.specs.Str.{is_utf8}
use Rattle.std.proofs.lemmas.Bool.{and_parts, eqb-true}
use Rattle.std.proofs.lemmas.List.{append-nil, length-reverse, nil_from_length}
use Rattle.std.proofs.lemmas.List.Folds.{list_any-append}
use Rattle.xd_doc.specs.Classes.{class_has}
use Rattle.xd_doc.specs.Word.{is_word}
use Rattle.xd_doc.proofs.Bools.{and_true, and_assoc}
use Rattle.xd_read.specs.Grammar.{Terminal, QuotedText, Label, ParenL, ParenR, BracketR, Comma, End, Spells}
use Rattle.xd_auto.specs.declared.auto.LabelMove.{LabelMove}
use Rattle.xd_auto.specs.declared.auto.TextMove.{TextMove}
use Rattle.xd_auto.specs.Automaton.{Automaton, moves_at}
use Rattle.xd_empty.specs.Parts.{is_marked, leads_on, text_leads_on}
use Rattle.xd_stream.specs.Expecting.{GoesOnWith, pair_goes_by_label, pair_goes_by_text}
use Rattle.xd_stream.specs.Pairs.{ends_in, leads_behind, leads_label, leads_over_label, leads_over_text, leads_text, same_state}
use Rattle.xd_stream.specs.Positions.{takes_close, takes_comma, takes_item, takes_paren_r, takes_parens}
use Rattle.xd_stream.specs.Standing.{AllPass, Keeps, groups, is_alive_at, is_first, is_sound}
use Rattle.xd_stream.specs.Validating.{Goes, Refuses, StandsAfter, is_outermost, may_be_empty, may_close, may_close_parens, may_finish, may_go_on, may_open, may_take_text, some_last}
use Rattle.xd_stream.specs.declared.pairs.Pair.{Pair}
use Rattle.xd_stream.specs.declared.pairs.Waiting.{Waiting}
use Rattle.xd_stream.specs.declared.position.Position.{Position}
use Rattle.xd_stream.specs.declared.position.Position.TheVariants as positions
use Rattle.xd_stream.specs.declared.validator.Validator.{Validator}
use Rattle.xd_stream.specs.declared.validator.Refusal.TheVariants as refusals
use Rattle.xd_stream.proofs.Alive.{alive_begins, dead_begins_none}
use Rattle.xd_stream.proofs.StandsAfterLemmas.{begins_alive, begins_dead, ends, goes_comma, goes_paren_l, goes_paren_r, refuses_close, refuses_comma, refuses_end, refuses_none, refuses_outside, refuses_paren_l, refuses_paren_r}
use Rattle.xd_stream.proofs.Grammar.{close_none, end_none, label_none, text_none}
use Rattle.xd_stream.proofs.ValidatorKeepsLemmas.{behind_of, close_taken, label_taken, text_taken}
use Rattle.xd_stream.proofs.AllPassLemmas.{any_same, pass_same}

-- ---- tests, and what some document does

-- a test that tells a fact
pub told_by : {P : Type 0} (b : Bool) → (b ≡ true → P) → (b ≡ false → P → ⊥) → (b ≡ true) ↔ P
told_by {P} b there not_there = (there, λ p. back b refl p)
  where
    back : (c : Bool) → b ≡ c → P → b ≡ true
    back true e p = e
    back false e p = absurd (not_there e p)

-- what begins no document at all, begins no accepted one
not_begun : (v : Validator) (ts : List Terminal) (t : Terminal) → StandsAfter v ts → Refuses v t refusals.Malformed → GoesOnWith v.automaton v.start ts t → ⊥
not_begun v ts t h r b = r ts h (b.more, b.document, b.spells)

module _ {X Y : Type 0} where
  -- a test of what each of a list gives
  pub any-flat_map : (f : Y → Bool) (g : X → List Y) (xs : List X) → list_any f (flat_map g xs) ≡ list_any (λ x. list_any f (g x)) xs
  any-flat_map f g [] = refl
  any-flat_map f g (x ∷ xs) = list_any-append f (g x) (flat_map g xs) ∙ ap (λ b. list_any f (g x) || b) (any-flat_map f g xs)

  pub any-map : (f : Y → Bool) (g : X → Y) (xs : List X) → list_any f (map g xs) ≡ list_any (λ x. f (g x)) xs
  any-map f g [] = refl
  any-map f g (x ∷ xs) = ap (λ b. f (g x) || b) (any-map f g xs)

-- one where the test says so
any_one_if : {X : Type 0} (f : X → Bool) (b : Bool) (x : X) → list_any f (cond b (x ∷ []) []) ≡ (b && f x)
any_one_if f true x = or_none (f x)
  where
    or_none : (c : Bool) → (c || false) ≡ c
    or_none true = refl
    or_none false = refl
any_one_if f false x = refl

-- ---- the pairs after a text, and the moves that an element would wait with

abbrev pairs_over : Automaton → List Bool → List ℕ → List Pair → List Pair
pairs_over a marks t now = flat_map (λ p. flat_map (λ m. cond (class_has m.words t && is_marked marks m.rest) (record { first = p.first; present = m.rest } ∷ []) []) (moves_at a p.present).texts) now

pairs_over-same : (a : Automaton) (marks : List Bool) (t : List ℕ) (now : List Pair) (f : Pair → Bool) → list_any f (pairs_over a marks t now) ≡ leads_over_text a marks t f now
pairs_over-same a marks t now f =
    any-flat_map f (λ p. flat_map (step p) (moves_at a p.present).texts) now
    ∙ any_same (λ p. list_any f (flat_map (step p) (moves_at a p.present).texts)) (λ p. list_any (leads_text marks t f p.first) (moves_at a p.present).texts) each now
  where
    step : Pair → TextMove → List Pair
    step p m = cond (class_has m.words t && is_marked marks m.rest) (record { first = p.first; present = m.rest } ∷ []) []

    each : (p : Pair) → list_any f (flat_map (step p) (moves_at a p.present).texts) ≡ list_any (leads_text marks t f p.first) (moves_at a p.present).texts
    each p =
        any-flat_map f (step p) (moves_at a p.present).texts
        ∙ any_same (λ m. list_any f (step p m)) (leads_text marks t f p.first)
        (λ m. any_one_if f (class_has m.words t && is_marked marks m.rest) (record { first = p.first; present = m.rest }) ∙ and_assoc (class_has m.words t) (is_marked marks m.rest) (f (record { first = p.first; present = m.rest })))
        (moves_at a p.present).texts

abbrev waits_over : Automaton → List Bool → List ℕ → List Pair → List Waiting
waits_over a marks l now = flat_map (λ p. flat_map (λ m. cond (class_has m.class l && leads_on marks m) (record { first = p.first; content = m.content; rest = m.rest } ∷ []) []) (moves_at a p.present).labels) now

waits_over-same : (a : Automaton) (marks : List Bool) (l : List ℕ) (now : List Pair) (f : Waiting → Bool) → list_any f (waits_over a marks l now) ≡ leads_over_label a marks l f now
waits_over-same a marks l now f =
    any-flat_map f (λ p. flat_map (step p) (moves_at a p.present).labels) now
    ∙ any_same (λ p. list_any f (flat_map (step p) (moves_at a p.present).labels)) (λ p. list_any (leads_label marks l f p.first) (moves_at a p.present).labels) each now
  where
    step : Pair → LabelMove → List Waiting
    step p m = cond (class_has m.class l && leads_on marks m) (record { first = p.first; content = m.content; rest = m.rest } ∷ []) []

    each : (p : Pair) → list_any f (flat_map (step p) (moves_at a p.present).labels) ≡ list_any (leads_label marks l f p.first) (moves_at a p.present).labels
    each p =
        any-flat_map f (step p) (moves_at a p.present).labels
        ∙ any_same (λ m. list_any f (step p m)) (leads_label marks l f p.first)
        (λ m. any_one_if f (class_has m.class l && leads_on marks m) (record { first = p.first; content = m.content; rest = m.rest }) ∙ and_assoc (class_has m.class l) (leads_on marks m) (f (record { first = p.first; content = m.content; rest = m.rest })))
        (moves_at a p.present).labels

abbrev begun : List Waiting → List Pair
begun ws = map (λ w. record { first = w.content; present = w.content }) ws

-- the tests of the moves alone
text_moves_are : (a : Automaton) (marks : List Bool) (t : List ℕ) (now : List Pair) → leads_over_text a marks t (λ p. true) now ≡ list_any (pair_goes_by_text a marks t) now
text_moves_are a marks t now =
    any_same (λ p. list_any (leads_text marks t (λ q. true) p.first) (moves_at a p.present).texts) (pair_goes_by_text a marks t)
    (λ p. any_same (leads_text marks t (λ q. true) p.first) (λ m. class_has m.words t && text_leads_on marks m) (λ m. ap (λ b. class_has m.words t && b) (and_true (is_marked marks m.rest))) (moves_at a p.present).texts)
    now

label_moves_are : (a : Automaton) (marks : List Bool) (l : List ℕ) (now : List Pair) → leads_over_label a marks l (λ w. true) now ≡ list_any (pair_goes_by_label a marks l) now
label_moves_are a marks l now =
    any_same (λ p. list_any (leads_label marks l (λ q. true) p.first) (moves_at a p.present).labels) (pair_goes_by_label a marks l)
    (λ p. any_same (leads_label marks l (λ q. true) p.first) (λ m. class_has m.class l && leads_on marks m) (λ m. ap (λ b. class_has m.class l && b) (and_true (leads_on marks m))) (moves_at a p.present).labels)
    now

module _ (v : Validator) (ts : List Terminal) (h : StandsAfter v ts) where
  wss : List (List Waiting)
  wss = groups v.waiting.items (reverse v.places.items)

  -- where something is kept, it is alive exactly where some pair passes
  kept_told : (t : Terminal) (e : Position) (next : List Pair) (others : List (List Waiting)) → Keeps v.automaton v.start v.marks.items e next others (ts ++ t ∷ [])
      → (list_any (is_alive_at v.automaton v.with_items.items e) next ≡ true) ↔ GoesOnWith v.automaton v.start ts t
  kept_told t e next others k =
      told_by (list_any (is_alive_at v.automaton v.with_items.items e) next)
      (alive_begins v.automaton v.start v.marks.items v.with_items.items e next others (ts ++ t ∷ []) k h.marks h.items)
      (dead_begins_none v.automaton v.start v.marks.items v.with_items.items e next others (ts ++ t ∷ []) k h.items)

  pub text_told : (t : List ℕ) → is_utf8 t ≡ true → (may_take_text v t ≡ true) ↔ GoesOnWith v.automaton v.start ts (QuotedText t)
  text_told t proper = go (takes_item v.position) refl
    where
      next : List Pair
      next = pairs_over v.automaton v.marks.items t v.pairs.items

      go : (b : Bool) → takes_item v.position ≡ b → ((b && list_any (pair_goes_by_text v.automaton v.marks.items t) v.pairs.items) ≡ true) ↔ GoesOnWith v.automaton v.start ts (QuotedText t)
      go true e =
          subst (λ x. (x ≡ true) ↔ GoesOnWith v.automaton v.start ts (QuotedText t))
          (pairs_over-same v.automaton v.marks.items t v.pairs.items (λ p. true) ∙ text_moves_are v.automaton v.marks.items t v.pairs.items)
          (kept_told (QuotedText t) positions.More next _
          (text_taken v.automaton v.start v.marks.items h.marks v.position v.pairs.items next _ ts t e proper (pairs_over-same v.automaton v.marks.items t v.pairs.items) h.keeps))
      go false e = told_by false (λ x. absurd (cc)) (λ x p. not_begun v ts (QuotedText t) h (refuses_none v (QuotedText t) (λ front fs. text_none front fs v.position t e)) p)

  pub label_told : (l : List ℕ) → is_word l ≡ true → (may_open v l ≡ true) ↔ GoesOnWith v.automaton v.start ts (Label l)
  label_told l proper = go (takes_item v.position) refl
    where
      ws : List Waiting
      ws = waits_over v.automaton v.marks.items l v.pairs.items

      go : (b : Bool) → takes_item v.position ≡ b → ((b && list_any (pair_goes_by_label v.automaton v.marks.items l) v.pairs.items) ≡ true) ↔ GoesOnWith v.automaton v.start ts (Label l)
      go true e =
          subst (λ x. (x ≡ true) ↔ GoesOnWith v.automaton v.start ts (Label l))
          (any-map (λ p. true) (λ (w : Waiting). let p : Pair = record { first = w.content; present = w.content } in p) ws
          ∙ waits_over-same v.automaton v.marks.items l v.pairs.items (λ w. true) ∙ label_moves_are v.automaton v.marks.items l v.pairs.items)
          (kept_told (Label l) positions.Content (begun ws) _
          (label_taken v.automaton v.start v.marks.items h.marks v.position v.pairs.items (begun ws) ws _ ts l e proper (waits_over-same v.automaton v.marks.items l v.pairs.items) (λ f. any-map f (λ (w : Waiting). record { first = w.content; present = w.content }) ws) h.keeps))
      go false e = told_by false (λ x. absurd (cc)) (λ x p. not_begun v ts (Label l) h (refuses_none v (Label l) (λ front fs. label_none front fs v.position l e)) p)

  -- ---- commas and parentheses

  moved_told : (t : Terminal) (e : Position) → Goes v t (record v { position = e }) → (list_any (is_alive_at v.automaton v.with_items.items e) v.pairs.items ≡ true) ↔ GoesOnWith v.automaton v.start ts t
  moved_told t e g =
      let w : Validator = record v { position = e } in
      told_by (list_any (is_alive_at v.automaton v.with_items.items e) v.pairs.items) (begins_alive w (ts ++ t ∷ []) (g.stands ts h)) (begins_dead w (ts ++ t ∷ []) (g.stands ts h))

  -- where the position takes a terminal, some pair is alive after it; where it doesn't, no
  -- document goes on
  at_position : (t : Terminal) (takes : Bool) (alive : Bool) → (takes ≡ true → (alive ≡ true) ↔ GoesOnWith v.automaton v.start ts t) → (takes ≡ false → Refuses v t refusals.Malformed) → ((takes && alive) ≡ true) ↔ GoesOnWith v.automaton v.start ts t
  at_position t true alive told refuses = told refl
  at_position t false alive told refuses = told_by false (λ x. absurd (cc)) (λ x p. not_begun v ts t h (refuses refl) p)

  is_position : (e : Position) → takes_comma e ≡ true → e ≡ positions.More
  is_position positions.More x = refl
  is_position positions.Document x = absurd (cc)
  is_position positions.Content x = absurd (cc)
  is_position positions.Item x = absurd (cc)
  is_position positions.Closing x = absurd (cc)
  is_position positions.Closed x = absurd (cc)

  not_position : (e : Position) → takes_comma e ≡ false → e ≡ positions.More → ⊥
  not_position e x y = let t : true ≡ false = sym (ap takes_comma y) ∙ x in cc

  is_closing_position : (e : Position) → takes_paren_r e ≡ true → e ≡ positions.Closing
  is_closing_position positions.Closing x = refl
  is_closing_position positions.Document x = absurd (cc)
  is_closing_position positions.Content x = absurd (cc)
  is_closing_position positions.Item x = absurd (cc)
  is_closing_position positions.More x = absurd (cc)
  is_closing_position positions.Closed x = absurd (cc)

  pub comma_told : (may_go_on v ≡ true) ↔ GoesOnWith v.automaton v.start ts Comma
  comma_told =
      at_position Comma (takes_comma v.position) (list_any (λ p. is_marked v.with_items.items p.present) v.pairs.items)
      (λ x. moved_told Comma positions.Item (goes_comma v (is_position v.position x)))
      (λ x. refuses_comma v (not_position v.position x))

  pub paren_l_told : (may_be_empty v ≡ true) ↔ GoesOnWith v.automaton v.start ts ParenL
  paren_l_told =
      at_position ParenL (takes_parens v.position) (some_last v)
      (λ x. moved_told ParenL positions.Closing (goes_paren_l v x))
      (λ x. refuses_paren_l v x)

  pub paren_r_told : (may_close_parens v ≡ true) ↔ GoesOnWith v.automaton v.start ts ParenR
  paren_r_told =
      at_position ParenR (takes_paren_r v.position) (some_last v)
      (λ x. moved_told ParenR positions.Closed (goes_paren_r v (is_closing_position v.position x)))
      (λ x. refuses_paren_r v (λ y. let t : true ≡ false = sym (ap takes_paren_r y) ∙ x in cc))

  -- ---- the end

  nothing_open : is_outermost v ≡ true → v.places.items ≡ []
  nothing_open x = nil_from_length v.places.items (eqb-true (length v.places.items) 0 x)

  pub end_told : (may_finish v ≡ true) ↔ GoesOnWith v.automaton v.start ts End
  end_told = go (is_outermost v) refl
    where
      ended : (x : is_outermost v ≡ true) → takes_close v.position ≡ true → (some_last v ≡ true) ↔ GoesOnWith v.automaton v.start ts End
      ended x takes =
          told_by (some_last v)
          (λ s. let e = ends v takes (nothing_open x) s ts h in
          record { more = []; document = e.0; spells = subst (λ (us : List Terminal). Spells us e.0) (sym (append-nil (ts ++ End ∷ []))) e.1; within = record { proper = e.2; accepted = e.3 } })
          (λ s b. (refuses_outside v takes (nothing_open x) s ts h).1 b)

      go : (b : Bool) → is_outermost v ≡ b → ((b && (takes_close v.position && some_last v)) ≡ true) ↔ GoesOnWith v.automaton v.start ts End
      go true x = at_position End (takes_close v.position) (some_last v) (ended x) (λ y. refuses_none v End (λ front fs. end_none front fs v.position y))
      go false x = told_by false (λ y. absurd (cc)) (λ y p. not_begun v ts End h (refuses_end v (some_open (length v.places.items) x)) p)
        where
          some_open : (n : ℕ) → (n == 0) ≡ false → 0 < n
          some_open zero e = absurd (cc)
          some_open (suc n) e = omega arith

  -- ---- the end of an element

  -- the pairs after it
  behind : List Waiting → List Pair
  behind ws = flat_map (λ (w : Waiting). cond (list_any (ends_in v.automaton w.content) v.pairs.items) (record { first = w.first; present = w.rest } ∷ []) []) ws

  behind-same : (ws : List Waiting) (f : Pair → Bool) → list_any f (behind ws) ≡ list_any (leads_behind v.automaton v.pairs.items f) ws
  unfolding behind
  behind-same ws f =
      any-flat_map f (λ (w : Waiting). cond (list_any (ends_in v.automaton w.content) v.pairs.items) (record { first = w.first; present = w.rest } ∷ []) []) ws
      ∙ any_same (λ (w : Waiting). list_any f (cond (list_any (ends_in v.automaton w.content) v.pairs.items) (record { first = w.first; present = w.rest } ∷ []) [])) (leads_behind v.automaton v.pairs.items f)
      (λ w. any_one_if f (list_any (ends_in v.automaton w.content) v.pairs.items) (record { first = w.first; present = w.rest })) ws

  -- a content that may end began as some move that waits for it
  ends_behind : (ws : List Waiting) (others : List (List Waiting)) → AllPass (is_sound v.marks.items (ws ∷ others)) v.pairs.items → list_any (leads_behind v.automaton v.pairs.items (λ p. true)) ws ≡ some_last v
  ends_behind ws others sound =
      sym (behind_of v.automaton v.start v.marks.items h.marks v.pairs.items (λ w. true) ws)
      ∙ pass_same (is_sound v.marks.items (ws ∷ others)) (λ p. (moves_at v.automaton p.present).last && list_any (λ w. same_state w.content p.first && true) ws) (λ p. (moves_at v.automaton p.present).last) v.pairs.items sound
      (λ p s. each p (and_parts (is_marked v.marks.items p.present) (is_first (ws ∷ others) p.first) s).1)
    where
      each : (p : Pair) → list_any (λ w. same_state w.content p.first) ws ≡ true → ((moves_at v.automaton p.present).last && list_any (λ w. same_state w.content p.first && true) ws) ≡ (moves_at v.automaton p.present).last
      each p e =
          ap (λ b. (moves_at v.automaton p.present).last && b) (any_same (λ w. same_state w.content p.first && true) (λ w. same_state w.content p.first) (λ w. and_true (same_state w.content p.first)) ws ∙ e)
          ∙ and_true (moves_at v.automaton p.present).last

  pub close_told : (may_close v ≡ true) ↔ GoesOnWith v.automaton v.start ts BracketR
  close_told = go (is_outermost v) refl
    where
      none_open : is_outermost v ≡ true → (false ≡ true) ↔ GoesOnWith v.automaton v.start ts BracketR
      none_open x = told_by false (λ y. absurd (cc)) (λ y p. not_begun v ts BracketR h (refuses_close v (nothing_open x)) p)

      closed : (ns : List ℕ) → groups v.waiting.items (reverse v.places.items) ≡ groups v.waiting.items ns → 0 < length ns → takes_close v.position ≡ true → (some_last v ≡ true) ↔ GoesOnWith v.automaton v.start ts BracketR
      closed [] e lt takes = absurd (omega arith)
      closed (n ∷ ns) e lt takes =
          let ws : List Waiting = drop n v.waiting.items in
          let others : List (List Waiting) = groups (take n v.waiting.items) ns in
          let k : Keeps v.automaton v.start v.marks.items v.position v.pairs.items (ws ∷ others) ts = subst (λ (x : List (List Waiting)). Keeps v.automaton v.start v.marks.items v.position v.pairs.items x ts) e h.keeps in
          subst (λ x. (x ≡ true) ↔ GoesOnWith v.automaton v.start ts BracketR)
          (behind-same ws (λ p. true) ∙ ends_behind ws others k.sound)
          (kept_told BracketR positions.More (behind ws) others (close_taken v.automaton v.start v.marks.items h.marks v.position v.pairs.items (behind ws) ws others ts takes (behind-same ws) k))

      go : (b : Bool) → is_outermost v ≡ b → ((not b && (takes_close v.position && some_last v)) ≡ true) ↔ GoesOnWith v.automaton v.start ts BracketR
      go true x = none_open x
      go false x =
          at_position BracketR (takes_close v.position) (some_last v)
          (closed (reverse v.places.items) refl (subst (λ n. 0 < n) (sym (length-reverse v.places.items)) (some_open (length v.places.items) x)))
          (λ y. refuses_none v BracketR (λ front fs. close_none front fs v.position y))
        where
          some_open : (n : ℕ) → (n == 0) ≡ false → 0 < n
          some_open zero e = absurd (cc)
          some_open (suc n) e = omega arith
