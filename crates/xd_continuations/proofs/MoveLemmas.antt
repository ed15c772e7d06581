-- The moves of a continuation are the heads of the type that it stands for.
use Rattle.std.proofs.Common.{◌≡◌, ℕ, zero, suc, Bool, true, false, cond, List, [], ◌∷◌, ◌++◌, map, length, Option, Some, None, refl, ap, sym, subst, ◌∙◌, append-nil}
use Rattle.std.specs.Str.{bytes_eq}
use Rattle.std.specs.List.{AllByRecursion}
use Rattle.xd_doc.proofs.Lists.{all_append, map_append}
use Rattle.xd_syntax.specs.Tree.{Tree, Empty, Text, Words, Name, Elem, Seq, Alt, Star, Plus, Opt, Val, Definitions, body, seq_of, is_empty}
use Rattle.xd_rules.specs.Heads.{Head, element_in}
use Rattle.xd_meaning.specs.Heads.{pieces, with_behind, heads_by, heads_of_name, heads_of_definition, heads}
use Rattle.xd_meaning.specs.CanBeEmpty.{can_be_empty}
use Rattle.xd_continuations.specs.Continuation.{Move, followed, moves_by, definition_within, name_within, moves_within, moves_along, moves, head_of, is_piece, IsMerged, AreMerged, IsPiece, IsContinuation}

-- ---- lists

pub all_map : {A B : Type 0} (P : A → Type 0) (Q : B → Type 0) (f : A → B) (xs : List A) → ((x : A) → P x → Q (f x)) → AllByRecursion P xs → AllByRecursion Q (map f xs)
all_map P Q f [] h a = tt
all_map P Q f (x ∷ xs) h a = (h x a.0, all_map P Q f xs h a.1)

pub all_cond : {A : Type 0} (P : A → Type 0) (b : Bool) (xs : List A) → AllByRecursion P xs → AllByRecursion P (cond b xs [])
all_cond P true xs a = a
all_cond P false xs a = tt

pub map_map : {A B C : Type 0} (f : A → B) (g : B → C) (xs : List A) → map g (map f xs) ≡ map (λ x. g (f x)) xs
map_map f g [] = refl
map_map f g (x ∷ xs) = ap (λ zs. g (f x) ∷ zs) (map_map f g xs)

pub map_cond : {A B : Type 0} (f : A → B) (b : Bool) (xs : List A) → map f (cond b xs []) ≡ cond b (map f xs) []
map_cond f true xs = refl
map_cond f false xs = refl

-- two maps that agree on what holds of the members
map_same : {A B : Type 0} (P : A → Type 0) (f g : A → B) (xs : List A) → ((x : A) → P x → f x ≡ g x) → AllByRecursion P xs → map f xs ≡ map g xs
map_same P f g [] h a = refl
map_same P f g (x ∷ xs) h a = let e = h x a.0 in let i = map_same P f g xs h a.1 in cc

-- ---- pieces

pub pieces_stand : (T : Tree) → IsMerged T → IsContinuation (pieces T)
pieces_stand Empty m = tt
pieces_stand Text m = ((refl, m), tt)
pieces_stand (Words w) m = ((refl, m), tt)
pieces_stand (Name x) m = ((refl, m), tt)
pieces_stand (Elem c T) m = ((refl, m), tt)
pieces_stand (Seq T U) m = ((m.0, m.2), pieces_stand U m.3)
pieces_stand (Alt T U) m = ((refl, m), tt)
pieces_stand (Star T) m = ((refl, m), tt)
pieces_stand (Plus T) m = ((refl, m), tt)
pieces_stand (Opt T) m = ((refl, m), tt)
pieces_stand (Val x T) m = absurd m

pub one_piece : (T : Tree) → is_piece T ≡ true → pieces T ≡ T ∷ []
one_piece Empty e = cc
one_piece Text e = refl
one_piece (Words w) e = refl
one_piece (Name x) e = refl
one_piece (Elem c T) e = refl
one_piece (Seq T U) e = cc
one_piece (Alt T U) e = refl
one_piece (Star T) e = refl
one_piece (Plus T) e = refl
one_piece (Opt T) e = refl
one_piece (Val x T) e = refl

-- the pieces of the type that a continuation stands for
pub pieces-seq_of : (K : List Tree) → IsContinuation K → pieces (seq_of K) ≡ K
pieces-seq_of [] a = refl
pieces-seq_of (T ∷ []) a = one_piece T (a.0).0
pieces-seq_of (T ∷ (U ∷ Us)) a = ap (λ K. T ∷ K) (pieces-seq_of (U ∷ Us) a.1)

no_pieces : (T : Tree) → pieces T ≡ [] → is_empty T ≡ true
no_pieces Empty e = refl
no_pieces Text e = cc
no_pieces (Words w) e = cc
no_pieces (Name x) e = cc
no_pieces (Elem c T) e = cc
no_pieces (Seq T U) e = cc
no_pieces (Alt T U) e = cc
no_pieces (Star T) e = cc
no_pieces (Plus T) e = cc
no_pieces (Opt T) e = cc
no_pieces (Val x T) e = cc

seq_of-filled : (T U : Tree) (K : List Tree) → seq_of K ≡ U → (K ≡ [] → ⊥) → seq_of (T ∷ K) ≡ Seq T U
seq_of-filled T U [] e n = absurd (n refl)
seq_of-filled T U (W ∷ Ws) e n = ap (Seq T) e

-- the sequence of the pieces of a merged type
pub seq_of-pieces : (T : Tree) → IsMerged T → seq_of (pieces T) ≡ T
seq_of-pieces Empty m = refl
seq_of-pieces Text m = refl
seq_of-pieces (Words w) m = refl
seq_of-pieces (Name x) m = refl
seq_of-pieces (Elem c T) m = refl
seq_of-pieces (Seq T U) m =
    seq_of-filled T U (pieces U) (seq_of-pieces U m.3) (λ e. let a = no_pieces U e in let b = m.1 in let c : true ≡ false = sym a ∙ b in cc)
seq_of-pieces (Alt T U) m = refl
seq_of-pieces (Star T) m = refl
seq_of-pieces (Plus T) m = refl
seq_of-pieces (Opt T) m = refl
seq_of-pieces (Val x T) m = absurd m

-- ---- moves

-- content and rest are lists of pieces
pub record IsMove (m : Move) : Type 0 where
  pub content : IsContinuation m.content
  pub rest : IsContinuation m.rest

followed_stands : (K : List Tree) → IsContinuation K → (m : Move) → IsMove m → IsMove (followed K m)
followed_stands K k m i = record { content = i.content; rest = all_append IsPiece m.rest K i.rest k }

pub all_followed : (K : List Tree) → IsContinuation K → (ms : List Move) → AllByRecursion IsMove ms → AllByRecursion IsMove (map (followed K) ms)
all_followed K k ms a = all_map IsMove IsMove (followed K) ms (followed_stands K k) a

-- what stands after a head, as what stands after a move
head_of-followed : (K : List Tree) (U : Tree) → pieces U ≡ K → (m : Move) → IsMove m → with_behind U (head_of m) ≡ head_of (followed K m)
head_of-followed K U e m i =
    let a = pieces-seq_of m.rest i.rest in
    let b : seq_of (pieces (seq_of m.rest) ++ pieces U) ≡ seq_of (m.rest ++ K) = rw (a, e) refl in
    ap (λ (T : Tree). let h : Head Tree = record { kind = m.kind; content = seq_of m.content; rest = T } in h) b

behind_all : (K : List Tree) (U : Tree) → pieces U ≡ K → (ms : List Move) → AllByRecursion IsMove ms → map (with_behind U) (map head_of ms) ≡ map head_of (map (followed K) ms)
behind_all K U e ms a =
    map_map head_of (with_behind U) ms
    ∙ map_same IsMove (λ m. with_behind U (head_of m)) (λ m. head_of (followed K m)) ms (head_of-followed K U e) a
    ∙ sym (map_map (followed K) head_of ms)

module _ (Z : Tree → Bool) (N : List ℕ → List Move) (stand : (x : List ℕ) → AllByRecursion IsMove (N x)) where
  pub moves_stand : (T : Tree) → IsMerged T → AllByRecursion IsMove (moves_by Z N T)
  moves_stand Empty m = tt
  moves_stand Text m = (record { content = tt; rest = tt }, tt)
  moves_stand (Words w) m = (record { content = tt; rest = tt }, tt)
  moves_stand (Name x) m = stand x
  moves_stand (Elem c T) m = (record { content = pieces_stand T m; rest = tt }, tt)
  moves_stand (Seq T U) m =
      all_append IsMove (map (followed (pieces U)) (moves_by Z N T)) (cond (Z T) (moves_by Z N U) [])
      (all_followed (pieces U) (pieces_stand U m.3) (moves_by Z N T) (moves_stand T m.2))
      (all_cond IsMove (Z T) (moves_by Z N U) (moves_stand U m.3))
  moves_stand (Alt T U) m = all_append IsMove (moves_by Z N T) (moves_by Z N U) (moves_stand T m.0) (moves_stand U m.1)
  moves_stand (Star T) m = all_followed (Star T ∷ []) ((refl, m), tt) (moves_by Z N T) (moves_stand T m)
  moves_stand (Plus T) m = all_followed (Star T ∷ []) ((refl, m), tt) (moves_by Z N T) (moves_stand T m)
  moves_stand (Opt T) m = moves_stand T m
  moves_stand (Val x T) m = absurd m

  module _ (H : List ℕ → List (Head Tree)) (same : (x : List ℕ) → H x ≡ map head_of (N x)) where
    pub same_heads : (T : Tree) → IsMerged T → heads_by Z H T ≡ map head_of (moves_by Z N T)
    same_heads Empty m = refl
    same_heads Text m = refl
    same_heads (Words w) m = refl
    same_heads (Name x) m = same x
    same_heads (Elem c T) m =
        ap (λ (U : Tree). let h : Head Tree = record { kind = element_in c; content = U; rest = Empty } in h ∷ []) (sym (seq_of-pieces T m))
    same_heads (Seq T U) m =
        let i = ap (map (with_behind U)) (same_heads T m.2) ∙ behind_all (pieces U) U refl (moves_by Z N T) (moves_stand T m.2) in
        let j = ap (λ hs. cond (Z T) hs []) (same_heads U m.3) ∙ sym (map_cond head_of (Z T) (moves_by Z N U)) in
        let k = map_append head_of (map (followed (pieces U)) (moves_by Z N T)) (cond (Z T) (moves_by Z N U) []) in
        ap (λ hs. hs ++ cond (Z T) (heads_by Z H U) []) i ∙ ap (λ hs. map head_of (map (followed (pieces U)) (moves_by Z N T)) ++ hs) j ∙ sym k
    same_heads (Alt T U) m =
        let i = same_heads T m.0 in let j = same_heads U m.1 in
        let k = map_append head_of (moves_by Z N T) (moves_by Z N U) in
        ap (λ hs. hs ++ heads_by Z H U) i ∙ ap (λ hs. map head_of (moves_by Z N T) ++ hs) j ∙ sym k
    same_heads (Star T) m =
        ap (map (with_behind (Star T))) (same_heads T m) ∙ behind_all (Star T ∷ []) (Star T) refl (moves_by Z N T) (moves_stand T m)
    same_heads (Plus T) m =
        ap (map (with_behind (Star T))) (same_heads T m) ∙ behind_all (Star T ∷ []) (Star T) refl (moves_by Z N T) (moves_stand T m)
    same_heads (Opt T) m = same_heads T m
    same_heads (Val x T) m = absurd m

    -- the same of a continuation
    pub same_along : (K : List Tree) → IsContinuation K → heads_by Z H (seq_of K) ≡ map head_of (moves_along Z (moves_by Z N) K)
    same_along [] k = refl
    same_along (T ∷ []) k = same_heads T (k.0).1 ∙ last (Z T) (moves_by Z N T)
      where
        unchanged : (m : Move) → head_of m ≡ head_of (followed [] m)
        unchanged m = ap (λ (K : List Tree). let h : Head Tree = record { kind = m.kind; content = seq_of m.content; rest = seq_of K } in h) (sym (append-nil m.rest))

        followed-none : (ms : List Move) → map head_of ms ≡ map head_of (map (followed []) ms ++ [])
        followed-none [] = refl
        followed-none (m ∷ ms) = let a = unchanged m in let b = followed-none ms in cc

        last : (b : Bool) (ms : List Move) → map head_of ms ≡ map head_of (map (followed []) ms ++ cond b [] [])
        last true ms = followed-none ms
        last false ms = followed-none ms
    same_along (T ∷ (U ∷ Us)) k =
        let i = ap (map (with_behind (seq_of (U ∷ Us)))) (same_heads T (k.0).1)
        ∙ behind_all (U ∷ Us) (seq_of (U ∷ Us)) (pieces-seq_of (U ∷ Us) k.1) (moves_by Z N T) (moves_stand T (k.0).1) in
        let j = ap (λ hs. cond (Z T) hs []) (same_along (U ∷ Us) k.1) ∙ sym (map_cond head_of (Z T) (moves_along Z (moves_by Z N) (U ∷ Us))) in
        let l = map_append head_of (map (followed (U ∷ Us)) (moves_by Z N T)) (cond (Z T) (moves_along Z (moves_by Z N) (U ∷ Us)) []) in
        ap (λ hs. hs ++ cond (Z T) (heads_by Z H (seq_of (U ∷ Us))) []) i
        ∙ ap (λ hs. map head_of (map (followed (U ∷ Us)) (moves_by Z N T)) ++ hs) j ∙ sym l

pub merged_body : (E : Definitions) → AreMerged E → (x : List ℕ) (T : Tree) → body E x ≡ Some T → IsMerged T
merged_body [] a x T e = cc
merged_body (p ∷ ps) a x T e = go (bytes_eq p.0 x) e (λ k. merged_body ps a.1 x T k)
  where
    go : (b : Bool) → cond b (Some p.1) (body ps x) ≡ Some T → (body ps x ≡ Some T → IsMerged T) → IsMerged T
    go true k rec = let q : p.1 ≡ T = cc in subst IsMerged q a.0
    go false k rec = rec k

module _ (E : Definitions) (merged : AreMerged E) (Z : Tree → Bool) where
  definition_stands : (F : Tree → List Move) → ((T : Tree) → IsMerged T → AllByRecursion IsMove (F T)) → (x : List ℕ) (o : Option Tree) → body E x ≡ o →
      AllByRecursion IsMove (definition_within [] F o)
  definition_stands F h x None e = tt
  definition_stands F h x (Some T) e = h T (merged_body E merged x T e)

  pub names_stand : (n : ℕ) (x : List ℕ) → AllByRecursion IsMove (name_within [] (moves_by Z) E n x)
  names_stand zero x = tt
  names_stand (suc n) x =
      definition_stands (moves_by Z (name_within [] (moves_by Z) E n)) (moves_stand Z (name_within [] (moves_by Z) E n) (names_stand n)) x (body E x) refl

  definition_same : (F : Tree → List Move) (G : Tree → List (Head Tree)) → ((T : Tree) → IsMerged T → G T ≡ map head_of (F T)) → (x : List ℕ) (o : Option Tree) → body E x ≡ o →
      heads_of_definition G o ≡ map head_of (definition_within [] F o)
  definition_same F G h x None e = refl
  definition_same F G h x (Some T) e = h T (merged_body E merged x T e)

  pub names_same : (n : ℕ) (x : List ℕ) → heads_of_name Z E n x ≡ map head_of (name_within [] (moves_by Z) E n x)
  names_same zero x = refl
  names_same (suc n) x =
      definition_same (moves_by Z (name_within [] (moves_by Z) E n)) (heads_by Z (heads_of_name Z E n))
      (same_heads Z (name_within [] (moves_by Z) E n) (names_stand n) (heads_of_name Z E n) (names_same n)) x (body E x) refl

-- the moves of a continuation are the heads of its type, in order
pub moves_are_heads : (E : Definitions) → AreMerged E → (K : List Tree) → IsContinuation K → heads E (seq_of K) ≡ map head_of (moves E K)
unfolding heads moves
moves_are_heads E merged K k =
    same_along (can_be_empty E) (name_within [] (moves_by (can_be_empty E)) E (length E)) (names_stand E merged (can_be_empty E) (length E))
    (heads_of_name (can_be_empty E) E (length E)) (names_same E merged (can_be_empty E) (length E)) K k

-- and content and rest of each are continuations
pub moves_continue : (E : Definitions) → AreMerged E → (K : List Tree) → IsContinuation K → AllByRecursion IsMove (moves E K)
unfolding moves
moves_continue E merged K k = go K k
  where
    go : (K : List Tree) → IsContinuation K → AllByRecursion IsMove (moves_along (can_be_empty E) (moves_within E (length E)) K)
    go [] k = tt
    go (T ∷ K) k =
        all_append IsMove (map (followed K) (moves_within E (length E) T)) (cond (can_be_empty E T) (moves_along (can_be_empty E) (moves_within E (length E)) K) [])
        (all_followed K k.1 (moves_within E (length E) T)
        (moves_stand (can_be_empty E) (name_within [] (moves_by (can_be_empty E)) E (length E)) (names_stand E merged (can_be_empty E) (length E)) T (k.0).1))
        (all_cond IsMove (can_be_empty E T) (moves_along (can_be_empty E) (moves_within E (length E)) K) (go K k.1))
