-- Tasks that are put on others, and choices that are found.
use Rattle.std.proofs.Common.{◌≡◌, ℕ, ◌≤◌, ◌⊎◌, arith, true, List, [], ◌∷◌, ◌++◌, map, length, append_assoc, append-nil, Option, Some, None, option_map, refl, ap, sym, subst, ◌∙◌, inl, inr}
use Rattle.std.specs.List.{AllByRecursion, AllZip}
use Rattle.xd_doc.proofs.Lists.{zip_push, all_more, all_append, map_append, all_front, all_back}
use Rattle.xd_doc.specs.Members.{IsOneOf}
use Rattle.xd_syntax.proofs.Members.{map_mem}
use Rattle.xd_pattern_runs.specs.Alike.{Alike}
use Rattle.xd_pattern_runs.specs.Runs as Runs
use Rattle.xd_pattern_runs.specs.Runs.{Continuation, Choice, stop}
use Rattle.xd_pattern_runs.specs.Steps.{Ahead, ahead}
use Rattle.xd_pattern_runs.proofs.Alike.{alike_same, alike_sym, alike_known}
use Rattle.xd_continuations.specs.Chains.{list_at, lists_in, HasLink, KeepsLinks}
use Rattle.xd_patterns.specs.Pieces.{form_at, variable_of, IsBinder}
use Rattle.xd_patterns.specs.Tasks.{Tables, words_at, piece_part, piece_at, pieces_at, IsPiece, ArePieces, AreBinders, or_none, IsTurn, StandsFor, PutsTasks, choice_at, IsFound, StandFound, Collects, Adds, HasFound}
use Rattle.xd_continuations.specs.declared.links.Link.{Link}
use Rattle.xd_patterns.specs.declared.chains.Piece.{Piece}
use Rattle.xd_patterns.specs.declared.expand.Task.{Task}
use Rattle.xd_patterns.specs.declared.expand.Found.{Found}
use Rattle.xd_continuations.proofs.ChainLemmas.{get_all, lists_all, has_kept, kept_list, kept_length, kept_same, kept_then}

-- what lists have

pub list_pieces : (t : Tables) (m : List (Link ℕ)) (c : List (Link Piece)) → ArePieces t m c → (n : ℕ) → AllByRecursion (IsPiece t m) (list_at c n)
unfolding list_at
list_pieces t m c a n = get_all (IsPiece t m) (lists_in c) (lists_all (IsPiece t m) ([] ∷ []) c (tt, tt) a) n

-- marks stay

pub same_words : (t : Tables) (m m' : List (Link ℕ)) → KeepsLinks m m' → (n : ℕ) → n ≤ length m → words_at t m' n ≡ words_at t m n
same_words t m m' k n h = ap (map (λ i. variable_of (form_at t.patterns i))) (kept_list m m' k n h)

pub same_piece_at : (t : Tables) (m m' : List (Link ℕ)) → KeepsLinks m m' → (q : Piece) → IsPiece t m q → piece_at t m' q ≡ piece_at t m q
same_piece_at t m m' k q i = ap (λ (xs : List (List ℕ)). let r : Runs.Piece = record { marks = xs; part = piece_part t q } in r) (same_words t m m' k q.marks i.marked)

pub same_pieces : (t : Tables) (m m' : List (Link ℕ)) → KeepsLinks m m' → (qs : List Piece) → AllByRecursion (IsPiece t m) qs → pieces_at t m' qs ≡ pieces_at t m qs
same_pieces t m m' k [] a = refl
same_pieces t m m' k (q ∷ qs) a = ap (λ (x : Runs.Piece). x ∷ pieces_at t m' qs) (same_piece_at t m m' k q a.0) ∙ ap (λ (z : Continuation). piece_at t m q ∷ z) (same_pieces t m m' k qs a.1)

pub still_piece : (t : Tables) (m m' : List (Link ℕ)) → KeepsLinks m m' → (q : Piece) → IsPiece t m q → IsPiece t m' q
still_piece t m m' k q i = record { piece = i.piece; marked = (let l = kept_length m m' k in let h = i.marked in omega arith) }

-- lists that are added

pub adds_none : (t : Tables) (m : List (Link ℕ)) (c : List (Link Piece)) → Adds t m m c c
adds_none t m c = record { marks = kept_same m; cells = kept_same c; pieces = λ a. a; binders = λ a. a }

pub adds_then : (t : Tables) (m n o : List (Link ℕ)) (c d e : List (Link Piece)) → Adds t m n c d → Adds t n o d e → Adds t m o c e
adds_then t m n o c d e a b = record { marks = kept_then m n o a.marks b.marks; cells = kept_then c d e a.cells b.cells; pieces = λ p. b.pieces (a.pieces p); binders = λ p. b.binders (a.binders p) }

pub adds_link : (t : Tables) (m : List (Link ℕ)) (c d : List (Link Piece)) (l : Link Piece) → IsPiece t m l.item → HasLink c l d → Adds t m m c d
adds_link t m c d l i h = record { marks = kept_same m; cells = has_kept c l d h; pieces = go h; binders = λ a. a }
  where
    go : HasLink c l d → ArePieces t m c → ArePieces t m d
    go (inl r) a = subst (ArePieces t m) (sym r.1) a
    go (inr e) a = subst (ArePieces t m) (sym e) (all_append (λ (x : Link Piece). IsPiece t m x.item) c (l ∷ []) a (i, tt))

pub adds_mark : (t : Tables) (m n : List (Link ℕ)) (c : List (Link Piece)) (l : Link ℕ) → IsBinder t.patterns l.item → HasLink m l n → Adds t m n c c
adds_mark t m n c l b h =
    let k = has_kept m l n h in
    record { marks = k; cells = kept_same c; pieces = λ a. all_more (λ (x : Link Piece). IsPiece t m x.item) (λ (x : Link Piece). IsPiece t n x.item) c (λ x i. still_piece t m n k x.item i) a; binders = go h }
  where
    go : HasLink m l n → AreBinders t m → AreBinders t n
    go (inl r) a = subst (AreBinders t) (sym r.1) a
    go (inr e) a = subst (AreBinders t) (sym e) (all_append (λ (x : Link ℕ). IsBinder t.patterns x.item) m (l ∷ []) a (b, tt))

-- tasks stay

pub turn_kept : (c d : List (Link Piece)) → KeepsLinks c d → (o : Option ℕ) (u : Option (List Piece)) → IsTurn c o u → IsTurn d o u
turn_kept c d k None None h = tt
turn_kept c d k (Some n) (Some qs) h = ((let l = kept_length c d k in let i = h.0 in omega arith), kept_list c d k n h.0 ∙ h.1)
turn_kept c d k None (Some qs) h = absurd h
turn_kept c d k (Some n) None h = absurd h

pub same_turn : (t : Tables) (m m' : List (Link ℕ)) → KeepsLinks m m' → (u : Option (List Piece)) → AllByRecursion (IsPiece t m) (or_none u) → option_map (pieces_at t m') u ≡ option_map (pieces_at t m) u
same_turn t m m' k None a = refl
same_turn t m m' k (Some qs) a = ap (λ (z : Continuation). Some z) (same_pieces t m m' k qs a)

pub stands_kept : (t : Tables) (m m' : List (Link ℕ)) (c c' : List (Link Piece)) → Adds t m m' c c' → ArePieces t m c → (x : Task) (a : Ahead) → StandsFor t m c x a → StandsFor t m' c' x a
stands_kept t m m' c c' d p x a s =
    let all = subst (AllByRecursion (IsPiece t m)) s.list (list_pieces t m c p x.cell) in record {
      within = let l = kept_length c c' d.cells in let h = s.within in omega arith;
      front = s.front;
      turn = s.turn;
      list = kept_list c c' d.cells x.cell s.within ∙ s.list;
      turned = turn_kept c c' d.cells x.turn s.turn s.turned;
      is =
          s.is ∙ ap (λ (F : Continuation). ahead F (option_map (pieces_at t m) s.turn)) (sym (same_pieces t m m' d.marks s.front (all_front (IsPiece t m) s.front (or_none s.turn) all)))
          ∙ ap (ahead (pieces_at t m' s.front)) (sym (same_turn t m m' d.marks s.turn (all_back (IsPiece t m) s.front (or_none s.turn) all)));
    }

pub all_stand : (t : Tables) (m m' : List (Link ℕ)) (c c' : List (Link Piece)) → Adds t m m' c c' → ArePieces t m c → (xs : List Task) (ws : List Ahead) →
    AllZip (StandsFor t m c) xs ws → AllZip (StandsFor t m' c') xs ws
all_stand t m m' c c' d p [] [] z = z
all_stand t m m' c c' d p [] (a ∷ ws) z = absurd z
all_stand t m m' c c' d p (x ∷ xs) [] z = absurd z
all_stand t m m' c c' d p (x ∷ xs) (a ∷ ws) z = (stands_kept t m m' c c' d p x a z.0, all_stand t m m' c c' d p xs ws z.1)

-- tasks are put on

pub puts_none : (t : Tables) (m : List (Link ℕ)) (c : List (Link Piece)) (xs ys : List Task) → ys ≡ xs → PutsTasks t m c xs ys []
puts_none t m c xs ys e ws z = subst (AllZip (StandsFor t m c) ys) (sym (append-nil ws)) (subst (λ zs. AllZip (StandsFor t m c) zs ws) (sym e) z)

pub puts_one : (t : Tables) (m : List (Link ℕ)) (c : List (Link Piece)) (xs ys : List Task) (x : Task) (a : Ahead) → ys ≡ xs ++ x ∷ [] → StandsFor t m c x a → PutsTasks t m c xs ys (a ∷ [])
puts_one t m c xs ys x a e s ws z = subst (λ zs. AllZip (StandsFor t m c) zs (ws ++ a ∷ [])) (sym e) (zip_push (StandsFor t m c) xs ws x a z s)

-- the first of two is put on last
pub puts_two : (t : Tables) (m : List (Link ℕ)) (c : List (Link Piece)) (xs ys zs : List Task) (x y : Task) (a b : Ahead) → ys ≡ xs ++ y ∷ [] → zs ≡ ys ++ x ∷ [] →
    StandsFor t m c x a → StandsFor t m c y b → PutsTasks t m c xs zs (a ∷ (b ∷ []))
puts_two t m c xs ys zs x y a b e f s r ws z =
    subst (AllZip (StandsFor t m c) zs) (append_assoc ws (b ∷ []) (a ∷ []))
    (puts_one t m c ys zs x a f s (ws ++ b ∷ []) (puts_one t m c xs ys y b e r ws z))

-- what stands ahead of tasks

pub stands_behind : (t : Tables) (m : List (Link ℕ)) (c : List (Link Piece)) (n : ℕ) (o : Option ℕ) (F : List Piece) (u : Option (List Piece)) → n ≤ length c → list_at c n ≡ F ++ or_none u → IsTurn c o u →
    StandsFor t m c (record { cell = n; turn = o }) (ahead (pieces_at t m F) (option_map (pieces_at t m) u))
stands_behind t m c n o F u h l i = record { within = h; front = F; turn = u; list = l; turned = i; is = refl }

-- choices that are found

pub collects_none : (t : Tables) (m : List (Link ℕ)) (c : List (Link Piece)) (fs : List Found) → Collects t m c fs fs []
collects_none t m c fs = record { stand = λ s. s; alike = alike_same (sym (append-nil (map (choice_at t m c) fs))) }

pub collects_one : (t : Tables) (m : List (Link ℕ)) (c : List (Link Piece)) (old new : List Found) (f : Found) → HasFound old f new → (f.is_stop ≡ true) ⊎ IsFound t m c f →
    Collects t m c old new (choice_at t m c f ∷ [])
collects_one t m c old new f (inl h) i = record {
  stand = λ s. subst (StandFound t m c) (sym h.1) s;
  alike = subst (λ fs. Alike (map (choice_at t m c) fs) (map (choice_at t m c) old ++ choice_at t m c f ∷ [])) (sym h.1)
      (alike_sym (alike_known (map (choice_at t m c) old) (choice_at t m c f ∷ [])
      (λ x k. elim k [ inl e ↦ subst (λ y. IsOneOf y (map (choice_at t m c) old)) e (map_mem (choice_at t m c) f old h.0) | inr n ↦ absurd n ])));
}
collects_one t m c old new f (inr e) i = record {
  stand = λ s. subst (StandFound t m c) (sym e) (all_append (λ (g : Found). (g.is_stop ≡ true) ⊎ IsFound t m c g) old (f ∷ []) s (i, tt));
  alike = alike_same (ap (map (choice_at t m c)) e ∙ map_append (choice_at t m c) old (f ∷ []));
}
