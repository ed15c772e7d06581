-- Laws of sums and equations.
use Rattle.std.proofs.Common.{◌≡◌, ◌⊎◌, ◌↔◌, inl, inr, ℕ, zero, suc, Bool, true, subst, List, [], ◌∷◌, ◌++◌, length, ◌<◌, ◌≤◌, get_or, set, arith}
use Rattle.std.specs.List.{AllByRecursion}
use Rattle.xd_doc.specs.Document.{Document, join}
use Rattle.xd_doc.proofs.Logic.{sum_map}
use Rattle.xd_syntax.specs.Tree.{Tree, Seq, Alt, Star}
use Rattle.xd_syntax.specs.Fits.{Split}
use Rattle.xd_same_types.specs.Same.{Meaning, FitsAs, MeansSame, TakesItem}
use Rattle.xd_show_solve.specs.Equations.{Product, Unknowns, ProductTakes, SomeTakes, IsFine}
use Rattle.xd_same_types.proofs.Facts.{or_left, or_right, or_swap, iff_back, none_or}
use Rattle.xd_same_types.proofs.Splits.{split_map, split_left, split_right}
use Rattle.xd_show_solve.proofs.Arden.{arden_in, arden_out}
use Rattle.xd_same_types.proofs.Laws.{takes_same, takes_alt, takes_seq_left, takes_seq_right}

-- sets in front of others
pub split_or : (P Q R : Document → Type 0) (d : Document) → Split P (λ e. Q e ⊎ R e) d ↔ (Split P Q d ⊎ Split P R d)
split_or P Q R d = (λ h. out h.0 h.1 h.2 h.3 h.4, back)
  where
    out : (a b : Document) → join a b ≡ d → P a → Q b ⊎ R b → Split P Q d ⊎ Split P R d
    out a b e p (inl q) = inl (a, b, e, p, q)
    out a b e p (inr r) = inr (a, b, e, p, r)

    back : Split P Q d ⊎ Split P R d → Split P (λ e. Q e ⊎ R e) d
    back (inl h) = (h.0, h.1, h.2, h.3, inl h.4)
    back (inr h) = (h.0, h.1, h.2, h.3, inr h.4)

pub or_split : (P Q R : Document → Type 0) (d : Document) → Split (λ e. P e ⊎ Q e) R d ↔ (Split P R d ⊎ Split Q R d)
or_split P Q R d = (λ h. out h.0 h.1 h.2 h.3 h.4, back)
  where
    out : (a b : Document) → join a b ≡ d → P a ⊎ Q a → R b → Split P R d ⊎ Split Q R d
    out a b e (inl p) r = inl (a, b, e, p, r)
    out a b e (inr q) r = inr (a, b, e, q, r)

    back : Split P R d ⊎ Split Q R d → Split (λ e. P e ⊎ Q e) R d
    back (inl h) = (h.0, h.1, h.2, inl h.3, h.4)
    back (inr h) = (h.0, h.1, h.2, inr h.3, h.4)

pub split_never : (P : Document → Type 0) (d : Document) → Split P (λ e. ⊥) d ↔ ⊥
split_never P d = (λ h. h.4, λ n. absurd n)

pub split_same : (P Q R S : Document → Type 0) → ((e : Document) → P e ↔ R e) → ((e : Document) → Q e ↔ S e) → (d : Document) → Split P Q d ↔ Split R S d
split_same P Q R S f g d =
    (split_map P Q R S (λ e. (f e).0) (λ e. (g e).0) d, split_map R S P Q (λ e. (f e).1) (λ e. (g e).1) d)

pub split_assoc : (P Q R : Document → Type 0) (d : Document) → Split (Split P Q) R d ↔ Split P (Split Q R) d
split_assoc P Q R d = (split_right P Q R d, split_left P Q R d)

-- products
pub product_same : (N : Meaning) (X : Unknowns) (d : Document) (T U : Tree) (i : ℕ) → MeansSame T U →
    ProductTakes N X d (record { by = T; to = i }) ↔ ProductTakes N X d (record { by = U; to = i })
product_same N X d T U i s = split_same (FitsAs N T) (λ e. X i e ≡ true) (FitsAs N U) (λ e. X i e ≡ true) (s.both N) (λ e. (λ x. x, λ x. x)) d

pub product_alt : (N : Meaning) (X : Unknowns) (d : Document) (T U : Tree) (i : ℕ) →
    ProductTakes N X d (record { by = Alt T U; to = i }) ↔ (ProductTakes N X d (record { by = T; to = i }) ⊎ ProductTakes N X d (record { by = U; to = i }))
product_alt N X d T U i = or_split (FitsAs N T) (FitsAs N U) (λ e. X i e ≡ true) d

pub product_seq : (N : Meaning) (X : Unknowns) (d : Document) (T U : Tree) (i : ℕ) →
    ProductTakes N X d (record { by = Seq T U; to = i }) ↔ Split (FitsAs N T) (λ e. ProductTakes N X e (record { by = U; to = i })) d
product_seq N X d T U i = split_assoc (FitsAs N T) (FitsAs N U) (λ e. X i e ≡ true) d

-- lists of products
pub some_append : (N : Meaning) (X : Unknowns) (d : Document) (ps qs : List Product) →
    SomeTakes N X d (ps ++ qs) ↔ (SomeTakes N X d ps ⊎ SomeTakes N X d qs)
some_append N X d [] qs = iff_back none_or
some_append N X d (p ∷ ps) qs =
    let i = some_append N X d ps qs in
    (λ h. or_left (sum_map (λ k. k) i.0 h), λ h. sum_map (λ k. k) i.1 (or_right h))

pub some_set : (N : Meaning) (X : Unknowns) (d : Document) (ps : List Product) (k : ℕ) (o q p : Product) → k < length ps → o ≡ get_or ps k o →
    ProductTakes N X d q ↔ (ProductTakes N X d o ⊎ ProductTakes N X d p) → SomeTakes N X d (set ps k q) ↔ (SomeTakes N X d ps ⊎ ProductTakes N X d p)
some_set N X d [] k o q p l e h = absurd (omega arith)
some_set N X d (r ∷ ps) zero o q p l e h =
    let g : ProductTakes N X d q ↔ (ProductTakes N X d r ⊎ ProductTakes N X d p) = subst (λ x. ProductTakes N X d q ↔ (ProductTakes N X d x ⊎ ProductTakes N X d p)) e h in
    (λ k. or_swap (sum_map g.0 (λ s. s) k), λ k. sum_map g.1 (λ s. s) (or_swap k))
some_set N X d (r ∷ ps) (suc k) o q p l e h =
    let l2 : k < length ps = omega arith in
    let i = some_set N X d ps k o q p l2 e h in
    (λ s. or_left (sum_map (λ x. x) i.0 s), λ s. sum_map (λ x. x) i.1 (or_right s))

-- what is fine
pub fine_same : (allowed : ℕ → Bool) (ranks : List ℕ) (bound : ℕ) (T U : Tree) (i : ℕ) → MeansSame T U →
    IsFine allowed ranks bound (record { by = U; to = i }) → IsFine allowed ranks bound (record { by = T; to = i })
fine_same allowed ranks bound T U i s f = record { use_allowed = f.use_allowed; guarded = sum_map (takes_same s) (λ l. l) f.guarded }

pub fine_alt : (allowed : ℕ → Bool) (ranks : List ℕ) (bound : ℕ) (T U : Tree) (i : ℕ) →
    IsFine allowed ranks bound (record { by = T; to = i }) → IsFine allowed ranks bound (record { by = U; to = i }) → IsFine allowed ranks bound (record { by = Alt T U; to = i })
fine_alt allowed ranks bound T U i f g = record { use_allowed = f.use_allowed; guarded = go f.guarded g.guarded }
  where
    go : TakesItem T ⊎ (get_or ranks i 0 < bound) → TakesItem U ⊎ (get_or ranks i 0 < bound) → TakesItem (Alt T U) ⊎ (get_or ranks i 0 < bound)
    go (inl t) (inl u) = inl (takes_alt T U t u)
    go (inr l) u = inr l
    go (inl t) (inr l) = inr l

pub fine_seq : (allowed : ℕ → Bool) (ranks : List ℕ) (bound : ℕ) (T U : Tree) (i : ℕ) →
    IsFine allowed ranks bound (record { by = U; to = i }) → IsFine allowed ranks bound (record { by = Seq T U; to = i })
fine_seq allowed ranks bound T U i f = record { use_allowed = f.use_allowed; guarded = sum_map (takes_seq_right T U) (λ l. l) f.guarded }

pub fine_guarded : (allowed : ℕ → Bool) (ranks : List ℕ) (bound : ℕ) (T U : Tree) (i : ℕ) → TakesItem T → allowed i ≡ true →
    IsFine allowed ranks bound (record { by = Seq T U; to = i })
fine_guarded allowed ranks bound T U i t a = record { use_allowed = a; guarded = inl (takes_seq_left T U t) }

pub fine_above : (allowed : ℕ → Bool) (ranks : List ℕ) (low high : ℕ) (ps : List Product) → low ≤ high →
    AllByRecursion (IsFine allowed ranks low) ps → AllByRecursion (IsFine allowed ranks high) ps
fine_above allowed ranks low high [] l h = tt
fine_above allowed ranks low high (p ∷ ps) l h =
    (record { use_allowed = h.0.use_allowed; guarded = up h.0.guarded }, fine_above allowed ranks low high ps l h.1)
  where
    up : TakesItem p.by ⊎ (get_or ranks p.to 0 < low) → TakesItem p.by ⊎ (get_or ranks p.to 0 < high)
    up (inl t) = inl t
    up (inr k) = inr (omega arith)

-- Arden's rule for one equation: where the unknown stands with `L` in front of it, and else there
-- is `R`
pub solves : (N : Meaning) (X : Unknowns) (i : ℕ) (L : Tree) (R : Document → Type 0) → TakesItem L →
    ((d : Document) → (X i d ≡ true) ↔ (ProductTakes N X d (record { by = L; to = i }) ⊎ R d)) →
    (d : Document) → (X i d ≡ true) ↔ Split (FitsAs N (Star L)) R d
solves N X i L R t eq d = (
  arden_out (FitsAs N L) R (λ e. X i e ≡ true) (λ e. (eq e).0) (t.item N) d,
  arden_in (FitsAs N L) R (λ e. X i e ≡ true) (λ e. (eq e).1) d,
)
