-- Where names mean what their types do, just what the first name means fits it.
use Rattle.std.proofs.Common.{◌≡◌, ◌↔◌, ℕ, Bool, true, false, cond, ◌&&◌, ◌||◌, inl, inr, List, [], ◌∷◌, map, Some, refl, subst}
use Rattle.std.specs.List.{AllByRecursion}
use Rattle.std.specs.Str.{bytes_eq}
use Rattle.std.proofs.lemmas.Bool.{and_parts, and_from}
use Rattle.std.proofs.lemmas.Slice.Eq.{bytes_eq-Decides}
use Rattle.xd_doc.specs.Document.{Document, empty, text, element}
use Rattle.xd_doc.proofs.Bools.{or_second}
use Rattle.xd_syntax.specs.Words.{any_word, has_word}
use Rattle.xd_syntax.specs.Tree.{Tree, Empty, Text, Words, Name, Elem, Seq, Alt, Star, Plus, Opt, Val, Definitions, body, any_type, environment, uses_only}
use Rattle.xd_syntax.specs.Fits.{Fits}
use Rattle.xd_meaning.specs.FitsWithin.{Repeats, no_turn, one_turn}
use Rattle.xd_same_types.specs.Names.{IsMeaning, AreGuarded, AreClosed}
use Rattle.xd_same_types.specs.Same.{Meaning, FitsAs, tops_only}
use Rattle.xd_same_types.proofs.IsMeaningLemmas.{names_settle}

-- ---- every document is one of `Any`
any_fits : (N : Meaning) → ((d : Document) → N any_word d ≡ true) → (d : Document) → FitsAs N any_type d
any_fits N a empty = no_turn
any_fits N a (text s r) = one_turn (text s empty) r refl refl (inr refl) (any_fits N a r)
any_fits N a (element l c r) = one_turn (element l c empty) r refl refl (inl (refl, refl, a c)) (any_fits N a r)

-- ---- only names that a type uses count
abbrev Follows : (N M : Meaning) → List (List ℕ) → Type 0
Follows N M known = (x : List ℕ) (d : Document) → has_word known x ≡ true → N x d ≡ true → M x d ≡ true

turns_follow : (N M : Meaning) (T : Tree) → ((d : Document) → FitsAs N T d → FitsAs M T d) → {d : Document} → Repeats (FitsAs N T) d → Repeats (FitsAs M T) d
turns_follow N M T h no_turn = no_turn
turns_follow N M T h (one_turn a b e s f r) = one_turn a b e s (h a f) (turns_follow N M T h r)

fits_follow : (N M : Meaning) (known : List (List ℕ)) → Follows N M known → (T : Tree) → uses_only known T ≡ true → (d : Document) → FitsAs N T d → FitsAs M T d
fits_follow N M known h Empty u d f = f
fits_follow N M known h Text u d f = f
fits_follow N M known h (Words w) u d f = f
fits_follow N M known h (Name x) u d f = h x d u f
fits_follow N M known h (Elem c T) u d f = inside d f (λ e g. fits_follow N M known h T u e g)
  where
    inside : (d : Document) → FitsAs N (Elem c T) d → ((e : Document) → FitsAs N T e → FitsAs M T e) → FitsAs M (Elem c T) d
    inside empty f g = absurd f
    inside (text s r) f g = absurd f
    inside (element l k r) f g = (f.0, f.1, g k f.2)
fits_follow N M known h (Seq T U) u d f =
    let b = and_parts (uses_only known T) (uses_only known U) u in (f.0, f.1, f.2, fits_follow N M known h T b.0 f.0 f.3, fits_follow N M known h U b.1 f.1 f.4)
fits_follow N M known h (Alt T U) u d (inl f) = inl (fits_follow N M known h T (and_parts (uses_only known T) (uses_only known U) u).0 d f)
fits_follow N M known h (Alt T U) u d (inr f) = inr (fits_follow N M known h U (and_parts (uses_only known T) (uses_only known U) u).1 d f)
fits_follow N M known h (Star T) u d f = turns_follow N M T (λ e g. fits_follow N M known h T u e g) f
fits_follow N M known h (Plus T) u d f = (f.0, f.1, f.2, fits_follow N M known h T u f.0 f.3, turns_follow N M T (λ e g. fits_follow N M known h T u e g) f.4)
fits_follow N M known h (Opt T) u d (inl e) = inl e
fits_follow N M known h (Opt T) u d (inr f) = inr (fits_follow N M known h T u d f)
fits_follow N M known h (Val x T) u d f = fits_follow N M known h T u d f

-- ---- definitions by name
-- what holds of each definition holds of that of a name
at_body : (Q : List ℕ × Tree → Type 0) (E : Definitions) → AllByRecursion Q E → (x : List ℕ) (T : Tree) → body E x ≡ Some T → Q (x, T)
at_body Q [] a x T e = absurd (cc)
at_body Q (p ∷ ps) a x T e = go (bytes_eq p.0 x) refl e (λ k. at_body Q ps a.1 x T k)
  where
    go : (b : Bool) → bytes_eq p.0 x ≡ b → cond b (Some p.1) (body ps x) ≡ Some T → (body ps x ≡ Some T → Q (x, T)) → Q (x, T)
    go true k f rec =
        let i : p.0 ≡ x = (bytes_eq-Decides p.0 x).0 k in
        let j : p.1 ≡ T = cc in
        subst (λ y. Q (y, T)) i (subst (λ U. Q (p.0, U)) j a.0)
    go false k f rec = rec f

abbrev firsts : Definitions → List (List ℕ)
firsts E = map (λ (p : List ℕ × Tree). p.0) E

body_there : (E : Definitions) (x : List ℕ) → has_word (firsts E) x ≡ true → (T : Tree) × (body E x ≡ Some T)
body_there [] x h = absurd (cc)
body_there (p ∷ ps) x h = go (bytes_eq p.0 x) h (λ k. body_there ps x k)
  where
    go : (b : Bool) → (b || has_word (firsts ps) x) ≡ true → (has_word (firsts ps) x ≡ true → (T : Tree) × (body ps x ≡ Some T)) → (T : Tree) × (cond b (Some p.1) (body ps x) ≡ Some T)
    go true k rec = (p.1, refl)
    go false k rec = rec k

-- ---- definitions whose names mean what they do
-- a definition that uses these names alone, whose own name is one of them
pub record IsMeant (N : Meaning) (known : List (List ℕ)) (p : List ℕ × Tree) : Type 0 where
  pub own : has_word known p.0 ≡ true
  pub uses : uses_only known p.1 ≡ true
  pub same : (d : Document) → (N p.0 d ≡ true) ↔ FitsAs N p.1 d

any_meant : (N : Meaning) (known : List (List ℕ)) → ((d : Document) → N any_word d ≡ true) → IsMeant N (any_word ∷ known) (any_word, any_type)
any_meant N known a = record { own = refl; uses = refl; same = λ d. (λ e. any_fits N a d, λ f. a d) }

-- the meanings of these names alone
abbrev own_meaning : Meaning → List (List ℕ) → Meaning
own_meaning N known x d = has_word known x && N x d

is_meaning : (N : Meaning) (E : Definitions) → AllByRecursion (IsMeant N (firsts E)) E → IsMeaning E (own_meaning N (firsts E))
is_meaning N E a =
    let known = firsts E in
    let M = own_meaning N known in
    record {
      least = λ x T d e f.
          (let m = at_body (IsMeant N known) E a x T e in
          and_from (has_word known x) (N x d) m.own ((m.same d).1 (fits_follow M N known (λ y k h g. (and_parts (has_word known y) (N y k) g).1) T m.uses d f)));
      most = λ x d e.
          (let b = and_parts (has_word known x) (N x d) e in
          let r = body_there E x b.0 in
          let m = at_body (IsMeant N known) E a x r.0 r.1 in
          (r.0, r.1, fits_follow N M known (λ y k h g. and_from (has_word known y) (N y k) h g) r.0 m.uses d ((m.same d).0 b.1)));
    }

closed : (ds : Definitions) → AreClosed (environment ds) (any_word ∷ [])
closed ds x h T e = go (bytes_eq any_word x) h e
  where
    go : (b : Bool) → (b || false) ≡ true → cond b (Some any_type) (body ds x) ≡ Some T → tops_only [] T ≡ true
    go true k f = let q : any_type ≡ T = cc in subst (λ U. tops_only [] U ≡ true) q refl
    go false k f = absurd (cc)

-- just what a defined name means fits it
pub fits_meaning : (N : Meaning) (ds : Definitions) → ((d : Document) → N any_word d ≡ true) → AllByRecursion (IsMeant N (any_word ∷ firsts ds)) ds →
    AllByRecursion (λ (p : List ℕ × Tree). tops_only (any_word ∷ []) p.1 ≡ true) ds → (x : List ℕ) → has_word (firsts ds) x ≡ true →
    (d : Document) → Fits (environment ds) (Name x) d ↔ (N x d ≡ true)
fits_meaning N ds any meant guarded x h d =
    let E : Definitions = environment ds in
    let M : Meaning = own_meaning N (firsts E) in
    let m : IsMeaning E M = is_meaning N E (any_meant N (firsts ds) any, meant) in
    let g : AreGuarded E (any_word ∷ []) = λ y T e. at_body (λ p. tops_only (any_word ∷ []) p.1 ≡ true) E (refl, guarded) y T e in
    let s = names_settle E M (any_word ∷ []) m g (closed ds) (Name x) d in
    let k : has_word (firsts E) x ≡ true = or_second (bytes_eq any_word x) h in
    (λ f. (and_parts (has_word (firsts E) x) (N x d) (s.0 f)).1, λ e. s.1 (and_from (has_word (firsts E) x) (N x d) k e))
