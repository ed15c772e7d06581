-- Nodes and pieces have one number exactly where their trees are equal.
use Rattle.std.proofs.Common.{◌≡◌, ℕ, zero, suc, ◌+◌, ◌<◌, ◌≤◌, ◌⊎◌, inl, inr, arith, Bool, true, false, cond, Some, List, [], ◌∷◌, ◌++◌, length, get_or, refl, ap, sym, subst, ◌∙◌, length-append}
use Rattle.std.specs.List.{slice_get}
use Rattle.std.proofs.lemmas.List.{get_or_push}
use Rattle.std.proofs.Math.ListN.{get_or-append}
use Rattle.std.proofs.lemmas.Option.{slice_get-get_or}
use Rattle.xd_doc.proofs.Numbers.{less_cases}
use Rattle.xd_syntax.specs.Tree.{Tree}
use Rattle.xd_syntax.specs.Table.{Row, Form, empty_form, text_form, words_form, name_form, elem_form, seq_form, alt_form, star_form, plus_form, opt_form, val_form, form_tree, tree_at, AreBuilt, PartsBelow}
use Rattle.xd_syntax.specs.Nodes.{row_at}
use Rattle.xd_syntax.proofs.Trees.{tree_is, follows_at, parts_at}
use Rattle.xd_moves.specs.Lists.{HasNumber, KeepsLists, StandOnce}
use Rattle.xd_moves.specs.Codes.{number_at, form_code, turn_form}
use Rattle.xd_moves.specs.Numbered.{AddsFirst, AreNumbered, AreNumberedBy, HaveNumbers, piece_form}
use Rattle.xd_moves.specs.Pieces.{AreFirst, first_piece, piece_number, piece_tree, turns_of}
use Rattle.xd_moves.specs.declared.firsts.FirstPieces.{FirstPieces}
use Rattle.xd_moves.specs.declared.piece.Piece.{Piece}
use Rattle.xd_moves.proofs.CodeLemmas.{AreMerged, coded, encoded, merged, same_code}
use Rattle.xd_moves.proofs.ListLemmas.{one_list, one_number, number_kept}

abbrev no_row : Row
no_row = row_at [] 0

-- ---- nodes

module _ (rows : List Row) (built : AreBuilt false rows) (lists : List (List ℕ)) (num : ℕ → ℕ)
    (codes : (j : ℕ) → j < length rows → HasNumber lists (form_code num (row_at rows j).form) (num j)) where
  to_tree : (n i j : ℕ) → i < n → i < length rows → j < length rows → num i ≡ num j → tree_at rows i ≡ tree_at rows j
  to_tree zero i j h k l e = absurd (omega arith)
  to_tree (suc n) i j h k l e =
      let c = one_list lists (form_code num (row_at rows i).form) (form_code num (row_at rows j).form) (num j) (subst (HasNumber lists (form_code num (row_at rows i).form)) e (codes i k)) (codes j l) in
      tree_is false rows i no_row built k
      ∙ coded num (tree_at rows) i j (λ x y p q f. to_tree n x y (omega arith) (omega arith) (omega arith) f) (row_at rows i).form (row_at rows j).form
      (parts_at false rows i no_row built k) (parts_at false rows j no_row built l) c
      ∙ sym (tree_is false rows j no_row built l)

  to_number : StandOnce lists → (n i j : ℕ) → i < n → i < length rows → j < length rows → tree_at rows i ≡ tree_at rows j → num i ≡ num j
  to_number once zero i j h k l e = absurd (omega arith)
  to_number once (suc n) i j h k l e =
      let F = (row_at rows i).form in
      let G = (row_at rows j).form in
      let c = encoded num (tree_at rows) i j (λ x y p q f. to_number once n x y (omega arith) (omega arith) (omega arith) f) F G
      (parts_at false rows i no_row built k) (parts_at false rows j no_row built l)
      (merged rows i F (follows_at false rows i no_row built k)) (merged rows j G (follows_at false rows j no_row built l))
      (sym (tree_is false rows i no_row built k) ∙ e ∙ tree_is false rows j no_row built l) in
      one_number lists once (form_code num G) (num i) (num j) (subst (λ xs. HasNumber lists xs (num i)) c (codes i k)) (codes j l)

-- ---- pieces

turn_parts : (n : ℕ) (F : Form) → PartsBelow n F → PartsBelow n (turn_form F)
turn_parts n empty_form p = p
turn_parts n text_form p = p
turn_parts n (words_form w) p = p
turn_parts n (name_form x) p = p
turn_parts n (elem_form c i) p = p
turn_parts n (seq_form is) p = p
turn_parts n (alt_form is) p = p
turn_parts n (star_form i) p = p
turn_parts n (plus_form i) p = p
turn_parts n (opt_form i) p = p
turn_parts n (val_form x q i) p = p

turn_merged : (t : ℕ → Tree) (F : Form) → AreMerged t F → AreMerged t (turn_form F)
turn_merged t empty_form a = a
turn_merged t text_form a = a
turn_merged t (words_form w) a = a
turn_merged t (name_form x) a = a
turn_merged t (elem_form c i) a = a
turn_merged t (seq_form is) a = a
turn_merged t (alt_form is) a = a
turn_merged t (star_form i) a = a
turn_merged t (plus_form i) a = tt
turn_merged t (opt_form i) a = a
turn_merged t (val_form x q i) a = a

turn_tree : (t : ℕ → Tree) (F : Form) → AreMerged t F → turns_of (form_tree t F) ≡ form_tree t (turn_form F)
turn_tree t empty_form a = refl
turn_tree t text_form a = refl
turn_tree t (words_form w) a = refl
turn_tree t (name_form x) a = refl
turn_tree t (elem_form c i) a = refl
turn_tree t (seq_form []) a = absurd (let h = a.0 in omega arith)
turn_tree t (seq_form (i ∷ [])) a = absurd (let h = a.0 in omega arith)
turn_tree t (seq_form (i ∷ (j ∷ is))) a = refl
turn_tree t (alt_form []) a = absurd (let h = a.0 in omega arith)
turn_tree t (alt_form (i ∷ [])) a = absurd (let h = a.0 in omega arith)
turn_tree t (alt_form (i ∷ (j ∷ is))) a = refl
turn_tree t (star_form i) a = refl
turn_tree t (plus_form i) a = refl
turn_tree t (opt_form i) a = refl
turn_tree t (val_form x q i) a = refl

module _ (rows : List Row) (built : AreBuilt false rows) where
  node_merged : (j : ℕ) → j < length rows → AreMerged (tree_at rows) (row_at rows j).form
  node_merged j h = merged rows j (row_at rows j).form (follows_at false rows j no_row built h)

  pub piece_parts : (p : Piece) → p.node < length rows → PartsBelow p.node (piece_form rows p)
  piece_parts p h = go p.is_turns
    where
      go : (b : Bool) → PartsBelow p.node (cond b (turn_form (row_at rows p.node).form) (row_at rows p.node).form)
      go true = turn_parts p.node (row_at rows p.node).form (parts_at false rows p.node no_row built h)
      go false = parts_at false rows p.node no_row built h

  piece_merged : (p : Piece) → p.node < length rows → AreMerged (tree_at rows) (piece_form rows p)
  piece_merged p h = go p.is_turns
    where
      go : (b : Bool) → AreMerged (tree_at rows) (cond b (turn_form (row_at rows p.node).form) (row_at rows p.node).form)
      go true = turn_merged (tree_at rows) (row_at rows p.node).form (node_merged p.node h)
      go false = node_merged p.node h

  piece_is : (p : Piece) → p.node < length rows → piece_tree rows p ≡ form_tree (tree_at rows) (piece_form rows p)
  piece_is p h = go p.is_turns
    where
      go : (b : Bool) → cond b (turns_of (tree_at rows p.node)) (tree_at rows p.node) ≡ form_tree (tree_at rows) (cond b (turn_form (row_at rows p.node).form) (row_at rows p.node).form)
      go true = ap turns_of (tree_is false rows p.node no_row built h) ∙ turn_tree (tree_at rows) (row_at rows p.node).form (node_merged p.node h)
      go false = tree_is false rows p.node no_row built h

-- ---- the first pieces

within_lists : (ls : List (List ℕ)) (xs : List ℕ) (n : ℕ) → HasNumber ls xs n → n < length ls
within_lists [] xs n h = cc
within_lists (l ∷ ls) xs zero h = omega arith
within_lists (l ∷ ls) xs (suc n) h = let i = within_lists ls xs n h in omega arith

module _ (rows : List Row) (built : AreBuilt false rows) (lists : List (List ℕ)) (once : StandOnce lists) (f : FirstPieces) (a : AreNumberedBy rows (length rows) lists f) where
  num : ℕ → ℕ
  num = number_at f.numbers.items

  has_number : (p : Piece) → p.node < length rows → HasNumber lists (form_code num (piece_form rows p)) (piece_number f p)
  unfolding num
  has_number p h = go p.is_turns
    where
      go : (b : Bool) → HasNumber lists (form_code (number_at f.numbers.items) (cond b (turn_form (row_at rows p.node).form) (row_at rows p.node).form))
          (cond b (number_at f.turns.items p.node) (number_at f.numbers.items p.node))
      go true = a.turn_codes p.node h
      go false = a.codes p.node h

  node_codes : (j : ℕ) → j < length rows → HasNumber lists (form_code num (row_at rows j).form) (num j)
  unfolding num
  node_codes = a.codes

  same_tree : (p q : Piece) → p.node < length rows → q.node < length rows → (k : ℕ) → HasNumber lists (form_code num (piece_form rows p)) k → HasNumber lists (form_code num (piece_form rows q)) k →
      piece_tree rows p ≡ piece_tree rows q
  same_tree p q h i k x y =
      piece_is rows built p h
      ∙ coded num (tree_at rows) p.node q.node (λ x y l m e. to_tree rows built lists num node_codes (x + 1) x y (omega arith) (omega arith) (omega arith) e) (piece_form rows p) (piece_form rows q)
      (piece_parts rows built p h) (piece_parts rows built q i) (one_list lists (form_code num (piece_form rows p)) (form_code num (piece_form rows q)) k x y)
      ∙ sym (piece_is rows built q i)

  same_piece_number : (p q : Piece) → p.node < length rows → q.node < length rows → piece_tree rows p ≡ piece_tree rows q → piece_number f p ≡ piece_number f q
  same_piece_number p q h i e =
      let c = encoded num (tree_at rows) p.node q.node (λ x y l m t. to_number rows built lists num node_codes once (x + 1) x y (omega arith) (omega arith) (omega arith) t) (piece_form rows p) (piece_form rows q)
      (piece_parts rows built p h) (piece_parts rows built q i) (piece_merged rows built p h) (piece_merged rows built q i)
      (sym (piece_is rows built p h) ∙ e ∙ piece_is rows built q i) in
      one_number lists once (form_code num (piece_form rows q)) (piece_number f p) (piece_number f q)
      (subst (λ xs. HasNumber lists xs (piece_number f p)) c (has_number p h)) (has_number q i)

  number_within : (p : Piece) → p.node < length rows → piece_number f p < length f.firsts.items
  number_within p h =
      let w = within_lists lists (form_code num (piece_form rows p)) (piece_number f p) (has_number p h) in
      let c = a.count in
      omega arith

  first_has : (p : Piece) (d : Piece) → p.node < length rows →
      ((get_or f.firsts.items (piece_number f p) d).node < length rows) × HasNumber lists (form_code num (piece_form rows (get_or f.firsts.items (piece_number f p) d))) (piece_number f p)
  unfolding num
  first_has p d h = a.first (piece_number f p) (get_or f.firsts.items (piece_number f p) d) (slice_get-get_or f.firsts.items (piece_number f p) d (number_within p h))

  any_first : (xs : List Piece) (k : ℕ) (d e : Piece) → k < length xs → get_or xs k d ≡ get_or xs k e
  any_first [] k d e h = absurd (omega arith)
  any_first (x ∷ xs) zero d e h = refl
  any_first (x ∷ xs) (suc k) d e h = any_first xs k d e (omega arith)

  pub are_first : AreFirst rows f
  are_first = record {
    numbers = a.each;
    turns = a.turned;
    within = number_within;
    there = λ p h. (first_has p p h).0;
    same = λ p h. same_tree (first_piece f p) p (first_has p p h).0 h (piece_number f p) (first_has p p h).1 (has_number p h);
    one = λ p q h i e. any_first f.firsts.items (piece_number f p) p q (number_within p h) ∙ ap (λ k. get_or f.firsts.items k q) (same_piece_number p q h i e);
  }

-- ---- one more node

-- a piece that may be the first of its number
pub firsts_more : (rows : List Row) (numbers : List ℕ) (m n : ℕ) (lists new : List (List ℕ)) (firsts firsts' : List Piece) (piece : Piece) (number : ℕ) →
    HaveNumbers rows numbers m lists firsts → KeepsLists lists new → AddsFirst firsts firsts' (length new) piece number → m ≤ n → piece.node < n →
    HasNumber new (form_code (number_at numbers) (piece_form rows piece)) number → HaveNumbers rows numbers n new firsts'
firsts_more rows numbers m n lists new firsts firsts' piece number a k f l w h i p s = go f.added
  where
    old : slice_get firsts i ≡ Some p → (p.node < n) × HasNumber new (form_code (number_at numbers) (piece_form rows p)) i
    old t = let r = a i p t in (let q = r.0 in omega arith, number_kept lists new (form_code (number_at numbers) (piece_form rows p)) i k r.1)

    last : (xs : List Piece) (j : ℕ) → slice_get (xs ++ piece ∷ []) j ≡ Some p → (slice_get xs j ≡ Some p) ⊎ ((piece ≡ p) × (j ≡ length xs))
    last [] zero t = inr (cc, refl)
    last [] (suc j) t = cc
    last (x ∷ xs) zero t = inl t
    last (x ∷ xs) (suc j) t = elim (last xs j t) [ inl q ↦ inl q | inr q ↦ inr (q.0, ap suc q.1) ]

    new_one : (firsts' ≡ firsts ++ piece ∷ []) × (number ≡ length firsts) → (piece ≡ p) × (i ≡ length firsts) → (p.node < n) × HasNumber new (form_code (number_at numbers) (piece_form rows p)) i
    new_one e q =
        let j : number ≡ i = e.1 ∙ sym q.1 in (
          subst (λ (r : Piece). r.node < n) q.0 w,
          subst (λ (r : Piece). HasNumber new (form_code (number_at numbers) (piece_form rows r)) i) q.0
              (subst (HasNumber new (form_code (number_at numbers) (piece_form rows piece))) j h),
        )

    go : (firsts' ≡ firsts) ⊎ ((firsts' ≡ firsts ++ piece ∷ []) × (number ≡ length firsts)) → (p.node < n) × HasNumber new (form_code (number_at numbers) (piece_form rows p)) i
    go (inl e) = old (ap (λ xs. slice_get xs i) (sym e) ∙ s)
    go (inr e) = elim (last firsts i (ap (λ xs. slice_get xs i) (sym e.0) ∙ s)) [ inl q ↦ old q | inr q ↦ new_one e q ]

-- lists of numbers are kept while one more number is put after
module _ (rows : List Row) (built : AreBuilt false rows) (numbers : List ℕ) (n k : ℕ) (l : length numbers ≡ n) (h : n < length rows) where
  abbrev more : List ℕ
  more = numbers ++ k ∷ []

  same_before : (i : ℕ) → i < n → number_at numbers i ≡ number_at more i
  same_before i q = sym (get_or-append numbers (k ∷ []) 0 i (omega arith))

  piece_code : (p : Piece) → p.node < n + 1 → form_code (number_at numbers) (piece_form rows p) ≡ form_code (number_at more) (piece_form rows p)
  piece_code p i =
      same_code (number_at numbers) (number_at more) p.node (λ j r. same_before j (omega arith)) (piece_form rows p) (piece_parts rows built p (omega arith))

  abbrev code_at : Bool → ℕ → List ℕ → List ℕ
  code_at t j ns = form_code (number_at ns) (piece_form rows (record { node = j; is_turns = t }))

  number_more : (t : Bool) (turns : List ℕ) (m : ℕ) (lists new : List (List ℕ)) → length turns ≡ n → ((j : ℕ) → j < n → HasNumber lists (code_at t j numbers) (number_at turns j)) →
      KeepsLists lists new → HasNumber new (code_at t n numbers) m → (j : ℕ) → j < n + 1 → HasNumber new (code_at t j more) (number_at (turns ++ m ∷ []) j)
  number_more t turns m lists new tl a keeps c j i = go (less_cases j n i)
    where
      go : (j < n) ⊎ (j ≡ n) → HasNumber new (code_at t j more) (number_at (turns ++ m ∷ []) j)
      go (inl q) =
          subst (HasNumber new (code_at t j more)) (sym (get_or-append turns (m ∷ []) 0 j (omega arith)))
          (subst (λ xs. HasNumber new xs (number_at turns j)) (piece_code (record { node = j; is_turns = t }) i) (number_kept lists new (code_at t j numbers) (number_at turns j) keeps (a j q)))
      go (inr e) =
          subst (λ j. HasNumber new (code_at t j more) (number_at (turns ++ m ∷ []) j)) (sym e)
          (subst (HasNumber new (code_at t n more)) (sym (get_or_push turns m 0 n tl))
          (subst (λ xs. HasNumber new xs m) (piece_code (record { node = n; is_turns = t }) (omega arith)) c))

  pub numbered_more : (turns : List ℕ) (star : ℕ) (lists new : List (List ℕ)) (firsts firsts' : List Piece) → AreNumbered rows n lists numbers turns firsts → KeepsLists lists new →
      HasNumber new (form_code (number_at numbers) (row_at rows n).form) k → HasNumber new (form_code (number_at numbers) (turn_form (row_at rows n).form)) star →
      HaveNumbers rows numbers (n + 1) new firsts' → length firsts' ≡ length new → AreNumbered rows (n + 1) new more (turns ++ star ∷ []) firsts'
  numbered_more turns star lists new firsts firsts' a keeps c s f e = record {
    each = length-append numbers (k ∷ []) ∙ ap (λ m. m + 1) l;
    turned = length-append turns (star ∷ []) ∙ ap (λ m. m + 1) a.turned;
    count = e;
    codes = number_more false numbers k lists new l a.codes keeps c;
    turn_codes = number_more true turns star lists new a.turned a.turn_codes keeps s;
    first = λ i p t. (let r = f i p t in (r.0, subst (λ xs. HasNumber new xs i) (piece_code p r.0) r.1));
  }

-- the first node of all
pub none_numbered : (rows : List Row) → AreNumbered rows 0 [] [] [] []
none_numbered rows = record { each = refl; turned = refl; count = refl; codes = λ j h. absurd (omega arith); turn_codes = λ j h. absurd (omega arith); first = λ k p s. cc }
