-- Copies of moves, and what they accept.
use Rattle.std.proofs.Common.{ℕ, ◌≡◌, ◌+◌, ◌<◌, Bool, ◌&&◌, ◌||◌, List, [], ◌∷◌, ◌++◌, length, get_or, take, map, refl, sym, ap, subst, ◌∙◌, append_assoc}
use Rattle.std.specs.List.{All, AllZip, list_any}
use Rattle.std.proofs.lemmas.List.{take_more}
use Rattle.std.proofs.lemmas.List.Elements.{All-head, All-tail, all_zip_more}
use Rattle.std.proofs.lemmas.List.Folds.{list_any-append}
use Rattle.xd_doc.specs.Document.{Document}
use Rattle.xd_doc.specs.Classes.{class_has}
use Rattle.xd_doc.proofs.Lists.{zip_push, any_map}
use Rattle.xd_auto.specs.declared.auto.LabelMove.{LabelMove}
use Rattle.xd_auto.specs.declared.auto.TextMove.{TextMove}
use Rattle.xd_auto.specs.Automaton.{Automaton, StateMoves, accepts, takes_element}
use Rattle.xd_auto.specs.Copying.{IsCopy, AddsCopies, AddsMoves, Copies, moved, moved_text}

pub AddsCopies-more : (contents rests : Copies) (moves old new : List LabelMove) (i : ℕ) (m n : LabelMove) → i < length moves → m ≡ get_or moves i m
    → AddsCopies contents rests (take i moves) old new → IsCopy contents rests m n → AddsCopies contents rests (take (i + 1) moves) old (new ++ n ∷ [])
AddsCopies-more contents rests moves old new i m n below is adds copy = record {
  more = adds.more ++ n ∷ [];
  behind = ap (λ w. w ++ n ∷ []) adds.behind ∙ append_assoc old adds.more (n ∷ []);
  copies = all_zip_more (IsCopy contents rests) moves adds.more i m n below is adds.copies copy;
}

pub zip_more : {X Y : Type 0} (R : X → Y → Type 0) (xs : List X) (ys : List Y) (i : ℕ) (d : X) (y : Y) → i < length xs → AllZip R (take i xs) ys → R (get_or xs i d) y
    → AllZip R (take (i + 1) xs) (ys ++ y ∷ [])
zip_more R xs ys i d y below h r = subst (λ w. AllZip R w (ys ++ y ∷ [])) (sym (take_more xs i d below)) (zip_push R (take i xs) ys (get_or xs i d) y h r)

-- tests that agree on each pair find one in both lists, or in neither
pub zip_any : {X Y : Type 0} (R : X → Y → Type 0) (P : X → Type 0) (p : X → Bool) (q : Y → Bool) → ((x : X) (y : Y) → P x → R x y → q y ≡ p x)
    → (xs : List X) (ys : List Y) → AllZip R xs ys → All P xs → list_any q ys ≡ list_any p xs
zip_any R P p q same [] [] h all = refl
zip_any R P p q same [] (v ∷ ys) h all = absurd h
zip_any R P p q same (u ∷ xs) [] h all = absurd h
zip_any R P p q same (u ∷ xs) (v ∷ ys) h all = rw (same u v (All-head P u xs all) h.0, zip_any R P p q same xs ys h.1 (All-tail P u xs all)) refl

-- a text is accepted by the old moves, or by the moves that were copied
pub adds_text : (contents rests : Copies) (moves old new : StateMoves) (p : TextMove → Bool) → AddsMoves contents rests moves old new
    → list_any p new.texts ≡ (list_any p old.texts || list_any (λ m. p (moved_text rests m)) moves.texts)
adds_text contents rests moves old new p h =
    ap (λ w. list_any p w) h.texts ∙ list_any-append p old.texts (map (moved_text rests) moves.texts) ∙ ap (λ b. list_any p old.texts || b) (any_map p (moved_text rests) moves.texts)

-- the same for an element; what holds of the moves may serve
pub adds_element : (b : Automaton) (contents rests : Copies) (moves old new : StateMoves) (P : LabelMove → Type 0) (test : LabelMove → Bool) (l : List ℕ) (c r : Document)
    → ((m : LabelMove) → P m → (class_has m.class l && (accepts b c (moved contents m.content) && accepts b r (moved rests m.rest))) ≡ test m)
    → All P moves.labels → AddsMoves contents rests moves old new
    → list_any (takes_element b l c r) new.labels ≡ (list_any (takes_element b l c r) old.labels || list_any test moves.labels)
adds_element b contents rests moves old new P test l c r same all h =
    ap (λ w. list_any (takes_element b l c r) w) h.labels.behind ∙ list_any-append (takes_element b l c r) old.labels h.labels.more
    ∙ ap (λ w. list_any (takes_element b l c r) old.labels || w)
    (zip_any (IsCopy contents rests) P test (takes_element b l c r) (λ m n holds copy. one m n copy ∙ same m holds) moves.labels h.labels.more h.labels.copies all)
  where
    one : (m n : LabelMove) → IsCopy contents rests m n → takes_element b l c r n ≡ (class_has m.class l && (accepts b c (moved contents m.content) && accepts b r (moved rests m.rest)))
    one m n copy = rw (copy.class, copy.content, copy.rest) refl
