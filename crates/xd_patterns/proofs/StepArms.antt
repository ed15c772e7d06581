-- The step of each form of a piece.
use Rattle.std.proofs.Common.{◌≡◌, ℕ, ◌<◌, ◌≤◌, arith, Bool, true, false, List, [], ◌∷◌, ◌++◌, map, length, append-nil, Option, Some, None, option_map, refl, ap, sym, subst, ◌∙◌, inr}
use Rattle.std.specs.List.{AllByRecursion}
use Rattle.xd_doc.specs.Classes.{LabelClass, TextClass}
use Rattle.xd_doc.proofs.Lists.{map_append, all_front, all_back}
use Rattle.xd_syntax.specs.Tree.{Tree, Empty, Text, Words, Name, Elem, Seq, Alt, Star, Plus, Opt, Val, Definitions, body}
use Rattle.xd_pattern_runs.specs.Runs.{Continuation}
use Rattle.xd_pattern_runs.specs.Steps.{ahead, marked, behind_turn, part_choice, part_steps, body_steps}
use Rattle.xd_continuations.specs.Bodies.{tree_of_body}
use Rattle.xd_continuations.specs.Chains.{list_at, KeepsLinks}
use Rattle.xd_patterns.specs.Pieces.{Sees, form_at, part_of, variable_of, IsLike, IsPieceOf, IsBinder}
use Rattle.xd_patterns.specs.Tasks.{Tables, rows_of, words_at, piece_part, piece_at, pieces_at, continuation, IsPiece, ArePieces, or_none, IsTurn, StandsFor, PutsTasks, item_choice, is_item, Collects, Adds, PushesPart, PushesRow, PushesBody, IsBound, HasFound, IsStep}
use Rattle.xd_continuations.specs.declared.links.Link.{Link}
use Rattle.xd_patterns.specs.declared.chains.Piece.{Piece}
use Rattle.xd_patterns.specs.declared.pieces.View.TheVariants as V
use Rattle.xd_patterns.specs.declared.expand.Task.{Task}
use Rattle.xd_patterns.specs.declared.expand.Found.{Found}
use Rattle.xd_continuations.proofs.ChainLemmas.{kept_list, kept_length}
use Rattle.xd_patterns.proofs.TablesLemmas.{list_pieces, same_pieces, same_turn, turn_kept, adds_none, adds_then, adds_link, adds_mark, stands_kept, stands_behind, puts_none, puts_one, puts_two, collects_none, collects_one}

pub like_piece : (t : Tables) (m : List (Link ℕ)) (b : Bool) (k : ℕ) (q : Piece) → k ≤ length m → IsLike (rows_of t b) b k q → IsPiece t m q
like_piece t m b k q h l =
    record { piece = subst (λ s. IsPieceOf (rows_of t s) q) (sym l.source) l.piece; marked = subst (λ n. n ≤ length m) (sym l.marked) h }

pub like_part : (t : Tables) (b : Bool) (k : ℕ) (q : Piece) → IsLike (rows_of t b) b k q → part_of (rows_of t b) q ≡ piece_part t q
like_part t b k q l = ap (λ s. part_of (rows_of t s) q) (sym l.source)

-- a part as a piece, where its marks are these
pub part_is : (t : Tables) (m : List (Link ℕ)) (q : Piece) (k : ℕ) → q.marks ≡ k → piece_at t m q ≡ marked (words_at t m k) (piece_part t q)
part_is t m q k e = ap (λ n. marked (words_at t m n) (piece_part t q)) e

abbrev pub task_at : ℕ → Option ℕ → Task
task_at n o = record { cell = n; turn = o }

module _ (t : Tables) (E : Definitions) (m : List (Link ℕ)) (c : List (Link Piece)) (q : Piece) (iq : IsPiece t m q) (behind : ℕ) (hb : behind ≤ length c) (o : Option ℕ) where
  -- a part of the piece
  abbrev IsPart : Piece → Type 0
  IsPart r = IsLike (rows_of t q.of_pattern) q.of_pattern q.marks r

  part_piece : (r : Piece) → IsPart r → IsPiece t m r
  part_piece r l = like_piece t m q.of_pattern q.marks r iq.marked l

  part_same : (r : Piece) → IsPart r → part_of (rows_of t q.of_pattern) r ≡ piece_part t r
  part_same r l = like_part t q.of_pattern q.marks r l

  -- where the part is known
  step_with : (m' : List (Link ℕ)) (c' : List (Link Piece)) (xs ys : List Task) (fs gs : List Found) (T : Tree) → piece_part t q ≡ T → Adds t m m' c c' →
      ((F : List Piece) (u : Option (List Piece)) → list_at c behind ≡ F ++ or_none u → IsTurn c o u → ArePieces t m c → PutsTasks t m' c' xs ys (part_steps E (words_at t m q.marks) T (pieces_at t m F) (option_map (pieces_at t m) u))) →
      ((F : List Piece) (u : Option (List Piece)) → list_at c behind ≡ F ++ or_none u → IsTurn c o u → ArePieces t m c → Collects t m' c' fs gs (part_choice (words_at t m q.marks) T (pieces_at t m F) (option_map (pieces_at t m) u))) →
      IsStep t E m m' c c' xs ys fs gs q behind o
  step_with m' c' xs ys fs gs T e a f g = record {
    adds = a;
    tasks = λ F u l i p. subst (λ U. PutsTasks t m' c' xs ys (part_steps E (words_at t m q.marks) U (pieces_at t m F) (option_map (pieces_at t m) u))) (sym e) (f F u l i p);
    items = λ F u l i p. subst (λ U. Collects t m' c' fs gs (part_choice (words_at t m q.marks) U (pieces_at t m F) (option_map (pieces_at t m) u))) (sym e) (g F u l i p);
  }

  -- a piece that was put before what stands after
  put_stands : (d : List (Link Piece)) → KeepsLinks c d → (r : Piece) (n : ℕ) → n ≤ length d → list_at d n ≡ r ∷ list_at c behind → (F : List Piece) (u : Option (List Piece)) → list_at c behind ≡ F ++ or_none u → IsTurn c o u →
      StandsFor t m d (task_at n o) (ahead (piece_at t m r ∷ pieces_at t m F) (option_map (pieces_at t m) u))
  put_stands d k r n w e F u l i = record { within = w; front = r ∷ F; turn = u; list = e ∙ ap (λ z. r ∷ z) l; turned = turn_kept c d k o u i; is = refl }

  pub empty_arm : (xs ys : List Task) (fs : List Found) → piece_part t q ≡ Empty → ys ≡ xs ++ task_at behind o ∷ [] → IsStep t E m m c c xs ys fs fs q behind o
  empty_arm xs ys fs e h =
      step_with m c xs ys fs fs Empty e (adds_none t m c) (λ F u l i p. puts_one t m c xs ys (task_at behind o) (ahead (pieces_at t m F) (option_map (pieces_at t m) u)) h (stands_behind t m c behind o F u hb l i))
      (λ F u l i p. collects_none t m c fs)

  pieces_behind : (F : List Piece) (u : Option (List Piece)) → list_at c behind ≡ F ++ or_none u → continuation t m c behind ≡ pieces_at t m F ++ behind_turn (option_map (pieces_at t m) u)
  pieces_behind F None l = ap (pieces_at t m) l ∙ map_append (piece_at t m) F []
  pieces_behind F (Some K) l = ap (pieces_at t m) l ∙ map_append (piece_at t m) F K

  item_arm : (xs : List Task) (fs gs : List Found) (T : Tree) → is_item T ≡ true → piece_part t q ≡ T → HasFound fs (record { is_stop = false; piece = q; rest = behind }) gs →
      ((F : Continuation) (u : Option Continuation) → item_choice (words_at t m q.marks) T (F ++ behind_turn u) ∷ [] ≡ part_choice (words_at t m q.marks) T F u) →
      ((F : Continuation) (u : Option Continuation) → part_steps E (words_at t m q.marks) T F u ≡ []) → IsStep t E m m c c xs xs fs gs q behind o
  item_arm xs fs gs T it e h item none =
      step_with m c xs xs fs gs T e (adds_none t m c)
      (λ F u l i p. subst (PutsTasks t m c xs xs) (sym (none (pieces_at t m F) (option_map (pieces_at t m) u))) (puts_none t m c xs xs refl))
      (λ F u l i p.
      subst (Collects t m c fs gs)
      (ap (λ z. item_choice (words_at t m q.marks) z (continuation t m c behind) ∷ []) e ∙ ap (λ z. item_choice (words_at t m q.marks) T z ∷ []) (pieces_behind F u l)
      ∙ item (pieces_at t m F) (option_map (pieces_at t m) u))
      (collects_one t m c fs gs (record { is_stop = false; piece = q; rest = behind }) h (inr (record { piece = iq; item = ap is_item e ∙ it; rest = hb }))))

  pub text_arm : (xs : List Task) (fs gs : List Found) → piece_part t q ≡ Text → HasFound fs (record { is_stop = false; piece = q; rest = behind }) gs → IsStep t E m m c c xs xs fs gs q behind o
  text_arm xs fs gs e h = item_arm xs fs gs Text refl e h (λ F u. go F u) (λ F u. refl)
    where
      go : (F : Continuation) (u : Option Continuation) → item_choice (words_at t m q.marks) Text (F ++ behind_turn u) ∷ [] ≡ part_choice (words_at t m q.marks) Text F u
      go F None = ap (λ z. item_choice (words_at t m q.marks) Text z ∷ []) (append-nil F)
      go F (Some K) = refl

  pub words_arm : (xs : List Task) (fs gs : List Found) (w : TextClass) → piece_part t q ≡ Words w → HasFound fs (record { is_stop = false; piece = q; rest = behind }) gs → IsStep t E m m c c xs xs fs gs q behind o
  words_arm xs fs gs w e h = item_arm xs fs gs (Words w) refl e h (λ F u. go F u) (λ F u. refl)
    where
      go : (F : Continuation) (u : Option Continuation) → item_choice (words_at t m q.marks) (Words w) (F ++ behind_turn u) ∷ [] ≡ part_choice (words_at t m q.marks) (Words w) F u
      go F None = ap (λ z. item_choice (words_at t m q.marks) (Words w) z ∷ []) (append-nil F)
      go F (Some K) = refl

  pub elem_arm : (xs : List Task) (fs gs : List Found) (k : LabelClass) (T : Tree) → piece_part t q ≡ Elem k T → HasFound fs (record { is_stop = false; piece = q; rest = behind }) gs → IsStep t E m m c c xs xs fs gs q behind o
  elem_arm xs fs gs k T e h = item_arm xs fs gs (Elem k T) refl e h (λ F u. go F u) (λ F u. refl)
    where
      go : (F : Continuation) (u : Option Continuation) → item_choice (words_at t m q.marks) (Elem k T) (F ++ behind_turn u) ∷ [] ≡ part_choice (words_at t m q.marks) (Elem k T) F u
      go F None = ap (λ z. item_choice (words_at t m q.marks) (Elem k T) z ∷ []) (append-nil F)
      go F (Some K) = refl

  pub name_arm : (c' : List (Link Piece)) (xs ys : List Task) (fs : List Found) (y : List ℕ) (n : Option ℕ) → tree_of_body t.types n ≡ body E y → ((i : ℕ) → n ≡ Some i → i < length t.types) → piece_part t q ≡ Name y →
      PushesBody n c c' xs ys q.marks behind o → IsStep t E m m c c' xs ys fs fs q behind o
  name_arm c' xs ys fs y None right within e h =
      step_with m c' xs ys fs fs (Name y) e (subst (Adds t m m c) (sym h.0) (adds_none t m c))
      (λ F u l i p. subst (λ r. PutsTasks t m c' xs ys (body_steps (words_at t m q.marks) r (pieces_at t m F) (option_map (pieces_at t m) u))) right (puts_none t m c' xs ys h.1))
      (λ F u l i p. collects_none t m c' fs)
  name_arm c' xs ys fs y (Some n) right within e h =
      let r : Piece = record { of_pattern = false; node = n; from = 0; is_turns = false; marks = q.marks } in
      let ir : IsPiece t m r = record { piece = record { there = within n refl; part = tt }; marked = iq.marked } in
      let a = adds_link t m c c' (record { item = r; behind = behind }) ir h.link in
      step_with m c' xs ys fs fs (Name y) e a
      (λ F u l i p.
      subst (λ s. PutsTasks t m c' xs ys (body_steps (words_at t m q.marks) s (pieces_at t m F) (option_map (pieces_at t m) u))) right
      (puts_one t m c' xs ys (record { cell = h.number; turn = o }) _ h.pushed (put_stands c' a.cells r h.number h.within h.list F u l i)))
      (λ F u l i p. collects_none t m c' fs)

  -- two pieces before what stands after
  two_stand : (d d' : List (Link Piece)) → KeepsLinks c d' → (r s : Piece) (n k : ℕ) → k ≤ length d' → list_at d n ≡ s ∷ list_at c behind → list_at d' k ≡ r ∷ list_at d n → (F : List Piece) (u : Option (List Piece)) →
      list_at c behind ≡ F ++ or_none u → IsTurn c o u → StandsFor t m d' (task_at k o) (ahead (piece_at t m r ∷ (piece_at t m s ∷ pieces_at t m F)) (option_map (pieces_at t m) u))
  two_stand d d' kept r s n k w e f F u l i =
      record { within = w; front = r ∷ (s ∷ F); turn = u; list = f ∙ ap (λ z. r ∷ z) e ∙ ap (λ z. r ∷ (s ∷ z)) l; turned = turn_kept c d' kept o u i; is = refl }

  -- a part before others
  row_arm : (d : List (Link Piece)) (xs ys : List Task) (fs : List Found) (T : Tree) (r s : Piece) → IsPart r → IsPart s → PushesRow c d xs ys r s behind o → piece_part t q ≡ T →
      ((F : Continuation) (u : Option Continuation) → ahead (marked (words_at t m q.marks) (piece_part t r) ∷ (marked (words_at t m q.marks) (piece_part t s) ∷ F)) u ∷ [] ≡ part_steps E (words_at t m q.marks) T F u) →
      ((F : Continuation) (u : Option Continuation) → part_choice (words_at t m q.marks) T F u ≡ []) → IsStep t E m m c d xs ys fs fs q behind o
  row_arm d xs ys fs T r s lr ls h e steps none =
      let a = adds_link t m c h.between (record { item = s; behind = behind }) (part_piece s ls) h.link in
      let b = adds_then t m m m c h.between d a (adds_link t m h.between d (record { item = r; behind = h.number }) (part_piece r lr) h.pushed.link) in
      let both = λ (F : Continuation) (u : Option Continuation).
      ap (λ x. ahead (x ∷ (piece_at t m s ∷ F)) u ∷ []) (part_is t m r q.marks lr.marked) ∙ ap (λ x. ahead (marked (words_at t m q.marks) (piece_part t r) ∷ (x ∷ F)) u ∷ []) (part_is t m s q.marks ls.marked) in
      step_with m d xs ys fs fs T e b
      (λ F u l i p.
      subst (PutsTasks t m d xs ys) (both (pieces_at t m F) (option_map (pieces_at t m) u) ∙ steps (pieces_at t m F) (option_map (pieces_at t m) u))
      (puts_one t m d xs ys (record { cell = h.pushed.number; turn = o }) _ h.pushed.pushed (two_stand h.between d b.cells r s h.number h.pushed.number h.pushed.within h.list h.pushed.list F u l i)))
      (λ F u l i p. subst (Collects t m d fs fs) (sym (none (pieces_at t m F) (option_map (pieces_at t m) u))) (collects_none t m d fs))

  pub seq_arm : (d : List (Link Piece)) (xs ys : List Task) (fs : List Found) (r s : Piece) → Sees (rows_of t q.of_pattern) q (V.Seq r s) → PushesRow c d xs ys r s behind o → IsStep t E m m c d xs ys fs fs q behind o
  seq_arm d xs ys fs r s sees h =
      row_arm d xs ys fs (Seq (piece_part t r) (piece_part t s)) r s sees.1 sees.2 h
      (sees.0 ∙ ap (λ T. Seq T (part_of (rows_of t q.of_pattern) s)) (part_same r sees.1) ∙ ap (Seq (piece_part t r)) (part_same s sees.2)) (λ F u. refl) (λ F u. refl)

  pub plus_arm : (d : List (Link Piece)) (xs ys : List Task) (fs : List Found) (r s : Piece) → Sees (rows_of t q.of_pattern) q (V.Plus r s) → PushesRow c d xs ys r s behind o → IsStep t E m m c d xs ys fs fs q behind o
  plus_arm d xs ys fs r s sees h =
      let e : piece_part t s ≡ Star (piece_part t r) = sym (part_same s sees.3) ∙ sees.1 ∙ ap Star (part_same r sees.2) in
      row_arm d xs ys fs (Plus (piece_part t r)) r s sees.2 sees.3 h (sees.0 ∙ ap Plus (part_same r sees.2))
      (λ F u. ap (λ U. ahead (marked (words_at t m q.marks) (piece_part t r) ∷ (marked (words_at t m q.marks) U ∷ F)) u ∷ []) e) (λ F u. refl)

  pub alt_arm : (d d' : List (Link Piece)) (xs ys zs : List Task) (fs : List Found) (r s : Piece) → Sees (rows_of t q.of_pattern) q (V.Alt r s) → PushesPart c d xs ys s behind o → PushesPart d d' ys zs r behind o →
      IsStep t E m m c d' xs zs fs fs q behind o
  alt_arm d d' xs ys zs fs r s sees h g =
      let lr : IsPart r = sees.1 in
      let ls : IsPart s = sees.2 in
      let e : piece_part t q ≡ Alt (piece_part t r) (piece_part t s) = sees.0 ∙ ap (λ T. Alt T (part_of (rows_of t q.of_pattern) s)) (part_same r lr) ∙ ap (Alt (piece_part t r)) (part_same s ls) in
      let a = adds_link t m c d (record { item = s; behind = behind }) (part_piece s ls) h.link in
      let b = adds_link t m d d' (record { item = r; behind = behind }) (part_piece r lr) g.link in
      let ab = adds_then t m m m c d d' a b in
      step_with m d' xs zs fs fs (Alt (piece_part t r) (piece_part t s)) e ab
      (λ F u l i p.
      let one = put_stands d' ab.cells r g.number g.within (g.list ∙ ap (λ z. r ∷ z) (kept_list c d a.cells behind hb)) F u l i in
      let two = stands_kept t m m d d' b (a.pieces p) (task_at h.number o) _ (put_stands d a.cells s h.number h.within h.list F u l i) in
      puts_two t m d' xs ys zs (record { cell = g.number; turn = o }) (record { cell = h.number; turn = o }) _ _ h.pushed g.pushed
      (subst (λ x. StandsFor t m d' (task_at g.number o) (ahead (x ∷ pieces_at t m F) (option_map (pieces_at t m) u))) (part_is t m r q.marks lr.marked) one)
      (subst (λ x. StandsFor t m d' (task_at h.number o) (ahead (x ∷ pieces_at t m F) (option_map (pieces_at t m) u))) (part_is t m s q.marks ls.marked) two))
      (λ F u l i p. collects_none t m d' fs)

  pub opt_arm : (d : List (Link Piece)) (xs ys zs : List Task) (fs : List Found) (r : Piece) → Sees (rows_of t q.of_pattern) q (V.Opt r) → ys ≡ xs ++ record { cell = behind; turn = o } ∷ [] →
      PushesPart c d ys zs r behind o → IsStep t E m m c d xs zs fs fs q behind o
  opt_arm d xs ys zs fs r sees h g =
      let l : IsPart r = sees.1 in
      let a = adds_link t m c d (record { item = r; behind = behind }) (part_piece r l) g.link in
      step_with m d xs zs fs fs (Opt (piece_part t r)) (sees.0 ∙ ap Opt (part_same r l)) a
      (λ F u k i p.
      puts_two t m d xs ys zs (record { cell = g.number; turn = o }) (record { cell = behind; turn = o }) _ _ h g.pushed
      (subst (λ x. StandsFor t m d (task_at g.number o) (ahead (x ∷ pieces_at t m F) (option_map (pieces_at t m) u))) (part_is t m r q.marks l.marked) (put_stands d a.cells r g.number g.within g.list F u k i))
      (stands_kept t m m c d a p (task_at behind o) _ (stands_behind t m c behind o F u hb k i)))
      (λ F u l i p. collects_none t m d fs)

  pub star_arm : (d : List (Link Piece)) (xs ys zs : List Task) (fs : List Found) (r : Piece) (cell : ℕ) → cell ≤ length c → list_at c cell ≡ q ∷ list_at c behind → Sees (rows_of t q.of_pattern) q (V.Star r) → ys ≡ xs ++ record { cell = behind; turn = o } ∷ [] →
      PushesPart c d ys zs r cell (Some cell) → IsStep t E m m c d xs zs fs fs q behind o
  star_arm d xs ys zs fs r cell hc lc sees h g =
      let a = adds_link t m c d (record { item = r; behind = cell }) (part_piece r sees.1) g.link in
      step_with m d xs zs fs fs (Star (piece_part t r)) e a
      (λ F u l i p.
      puts_two t m d xs ys zs (record { cell = g.number; turn = Some cell }) (record { cell = behind; turn = o }) _ _ h g.pushed (inner a.cells g.number g.within g.list F u l)
      (stands_kept t m m c d a p (task_at behind o) _ (stands_behind t m c behind o F u hb l i)))
      (λ F u l i p. collects_none t m d fs)
    where
      e : piece_part t q ≡ Star (piece_part t r)
      e = sees.0 ∙ ap Star (part_same r sees.1)

      inner : KeepsLinks c d → (n : ℕ) → n ≤ length d → list_at d n ≡ r ∷ list_at c cell → (F : List Piece) (u : Option (List Piece)) → list_at c behind ≡ F ++ or_none u →
          StandsFor t m d (record { cell = n; turn = Some cell })
          (ahead (marked (words_at t m q.marks) (piece_part t r) ∷ []) (Some (marked (words_at t m q.marks) (Star (piece_part t r)) ∷ (pieces_at t m F ++ behind_turn (option_map (pieces_at t m) u)))))
      inner k n w f F u l = record {
        within = w;
        front = r ∷ [];
        turn = Some (list_at c cell);
        list = f;
        turned = ((let v = kept_length c d k in omega arith), kept_list c d k cell hc);
        is =
            ap (λ x. ahead (x ∷ []) (Some (marked (words_at t m q.marks) (Star (piece_part t r)) ∷ (pieces_at t m F ++ behind_turn (option_map (pieces_at t m) u))))) (sym (part_is t m r q.marks sees.1.marked))
            ∙ ap (λ K. ahead (piece_at t m r ∷ []) (Some K))
            (ap (λ K. marked (words_at t m q.marks) (Star (piece_part t r)) ∷ K) (sym (pieces_behind F u l))
            ∙ ap (λ T. marked (words_at t m q.marks) T ∷ continuation t m c behind) (sym e)
            ∙ sym (ap (pieces_at t m) lc));
      }

  pub val_arm : (m' : List (Link ℕ)) (d : List (Link Piece)) (xs ys : List Task) (fs : List Found) (part r : Piece) → Sees (rows_of t q.of_pattern) q (V.Val part) → IsBound m m' q part r → PushesPart c d xs ys r behind o →
      IsStep t E m m' c d xs ys fs fs q behind o
  val_arm m' d xs ys fs part r sees h g =
      let l : IsPart part = sees.1 in
      let i = part_piece part l in
      let a = adds_mark t m m' c (record { item = q.node; behind = q.marks }) (subst (λ s. IsBinder (rows_of t s) q.node) sees.2 sees.3) h.link in
      let ir : IsPiece t m' r = subst (IsPiece t m') (sym h.same) (record { piece = record { there = i.piece.there; part = i.piece.part }; marked = h.within }) in
      let b = adds_link t m' c d (record { item = r; behind = behind }) ir g.link in
      let ab = adds_then t m m' m' c c d a b in
      step_with m' d xs ys fs fs (Val (variable_of (form_at t.patterns q.node)) (piece_part t r))
      (sees.0 ∙ ap (λ s. Val (variable_of (form_at (rows_of t s) q.node)) (part_of (rows_of t q.of_pattern) part)) sees.2
      ∙ ap (Val (variable_of (form_at t.patterns q.node))) (part_same part l ∙ sym (ap (piece_part t) h.same)))
      ab
      (λ F u l i p. puts_one t m' d xs ys (record { cell = g.number; turn = o }) _ g.pushed (bound ab.marks ab.cells g.number g.within g.list F u l i p))
      (λ F u l i p. collects_none t m' d fs)
    where
      words : words_at t m' r.marks ≡ variable_of (form_at t.patterns q.node) ∷ words_at t m q.marks
      words = ap (map (λ i. variable_of (form_at t.patterns i))) h.list

      bound : KeepsLinks m m' → KeepsLinks c d → (n : ℕ) → n ≤ length d → list_at d n ≡ r ∷ list_at c behind → (F : List Piece) (u : Option (List Piece)) → list_at c behind ≡ F ++ or_none u → IsTurn c o u → ArePieces t m c →
          StandsFor t m' d (record { cell = n; turn = o })
          (ahead (marked (variable_of (form_at t.patterns q.node) ∷ words_at t m q.marks) (piece_part t r) ∷ pieces_at t m F) (option_map (pieces_at t m) u))
      bound km kc n w f F u l i p =
          let all = subst (AllByRecursion (IsPiece t m)) l (list_pieces t m c p behind) in record {
            within = w;
            front = r ∷ F;
            turn = u;
            list = f ∙ ap (λ z. r ∷ z) l;
            turned = turn_kept c d kc o u i;
            is =
                ap (λ (ws : List (List ℕ)). ahead (marked ws (piece_part t r) ∷ pieces_at t m F) (option_map (pieces_at t m) u)) (sym words)
                ∙ ap (λ (K : Continuation). ahead (piece_at t m' r ∷ K) (option_map (pieces_at t m) u)) (sym (same_pieces t m m' km F (all_front (IsPiece t m) F (or_none u) all)))
                ∙ ap (ahead (piece_at t m' r ∷ pieces_at t m' F)) (sym (same_turn t m m' km u (all_back (IsPiece t m) F (or_none u) all)));
          }
