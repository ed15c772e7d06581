-- Marks that are put by their states and numbers.
use Rattle.std.proofs.Common.{◌≡◌, ℕ, zero, suc, Vec, ◌+◌, ◌<◌, Bool, true, false, ◌&&◌, ◌||◌, cond, nat_eq, List, [], ◌∷◌, ◌++◌, length, take, get_or, refl, sym, ap, ◌∙◌}
use Rattle.std.specs.HashMap.{HashMap}
use Rattle.std.specs.List.{slice_get}
use Rattle.std.proofs.lemmas.List.{take_more}
use Rattle.std.proofs.lemmas.List.Folds.{list_any-append}
use Rattle.xd_doc.proofs.SortedNames.{or_false}
use Rattle.xd_doc.proofs.Bools.{and_false}
use Rattle.xd_auto.specs.declared.auto.State.{State}
use Rattle.xd_auto.specs.declared.kind.MoveKind.{MoveKind}
use Rattle.xd_bind.specs.declared.tracks.Track.{Track}
use Rattle.xd_given.specs.Buckets.{bucket_at, tracks_in}
use Rattle.xd_bind.specs.Projection.{has_track, is_kind, is_track}

-- one more mark
pub has_more : (ts : List Track) (t : Track) (x : ℕ) (kind : MoveKind) (s : State) (n : ℕ) → has_track (ts ++ t ∷ []) x kind s n ≡ (has_track ts x kind s n || is_track x kind s n t)
has_more ts t x kind s n = list_any-append (is_track x kind s n) ts (t ∷ []) ∙ ap (λ b. has_track ts x kind s n || b) (or_false (is_track x kind s n t))

-- a mark of another state or number says nothing of the move
pub other_move : (t : Track) (x : ℕ) (kind : MoveKind) (s : State) (n : ℕ) → (nat_eq s.number t.state.number && nat_eq t.number n) ≡ false → is_track x kind s n t ≡ false
other_move t x kind s n e = ap (λ b. is_kind t.kind kind && b) (go (nat_eq s.number t.state.number) (nat_eq t.number n) (nat_eq t.variable x) e) ∙ and_false (is_kind t.kind kind)
  where
    go : (a b c : Bool) → (a && b) ≡ false → (a && (b && c)) ≡ false
    go true true c f = absurd (let no : true ≡ false = f in cc)
    go true false c f = refl
    go false b c f = refl

-- the bucket of a move has what the marks so far say of it, with one more mark too
pub bucket_more : (marks old new : List Track) (i : ℕ) (t : Track) (x : ℕ) (kind : MoveKind) (s : State) (n : ℕ) → i < length marks → t ≡ get_or marks i t
    → new ≡ cond (nat_eq s.number t.state.number && nat_eq t.number n) (old ++ t ∷ []) old → has_track old x kind s n ≡ has_track (take i marks) x kind s n
    → has_track new x kind s n ≡ has_track (take (i + 1) marks) x kind s n
bucket_more marks old new i t x kind s n lt is e h = go (nat_eq s.number t.state.number && nat_eq t.number n) refl
  where
    all : has_track (take (i + 1) marks) x kind s n ≡ (has_track (take i marks) x kind s n || is_track x kind s n t)
    all = ap (λ ts. has_track ts x kind s n) (take_more marks i t lt) ∙ ap (λ w. has_track (take i marks ++ w ∷ []) x kind s n) (sym is) ∙ has_more (take i marks) t x kind s n

    go : (b : Bool) → (nat_eq s.number t.state.number && nat_eq t.number n) ≡ b → has_track new x kind s n ≡ has_track (take (i + 1) marks) x kind s n
    go true f = ap (λ ts. has_track ts x kind s n) (e ∙ rw f refl) ∙ has_more old t x kind s n ∙ ap (λ b. b || is_track x kind s n t) h ∙ sym all
    go false f =
        ap (λ ts. has_track ts x kind s n) (e ∙ rw f refl) ∙ h ∙ sym (or_false (has_track (take i marks) x kind s n))
        ∙ ap (λ b. has_track (take i marks) x kind s n || b) (sym (other_move t x kind s n f)) ∙ sym all

none_at : {A S : Type 0} (rows : List (HashMap ℕ (Vec Track A) S)) (row : HashMap ℕ (Vec Track A) S) → row.entries ≡ [] → ((k n : ℕ) → tracks_in (slice_get rows k) n ≡ []) → (k n : ℕ)
    → tracks_in (slice_get (rows ++ row ∷ []) k) n ≡ []
none_at [] row empty none zero n = rw empty refl
none_at [] row empty none (suc k) n = refl
none_at (x ∷ rows) row empty none zero n = none zero n
none_at (x ∷ rows) row empty none (suc k) n = none_at rows row empty (λ i m. none (suc i) m) k n

-- one more row without marks
pub none_more : {A S : Type 0} (rows : List (HashMap ℕ (Vec Track A) S)) (row : HashMap ℕ (Vec Track A) S) → row.entries ≡ [] → ((s : State) (n : ℕ) → bucket_at rows s n ≡ []) → (s : State) (n : ℕ)
    → bucket_at (rows ++ row ∷ []) s n ≡ []
none_more rows row empty none s n = none_at rows row empty (λ k m. none (record { number = k }) m) s.number n
