-- What was read, and what was left.
use Rattle.std.proofs.Common.{◌≡◌, ℕ, List, [], ◌++◌, Option, Some, None, refl, sym, ap, subst, ◌∙◌, append_assoc}
use Rattle.std.proofs.lemmas.List.{append-nil}
use Rattle.std.specs.Io.KnownBytes.{Consumes, IsAtEnd}
use Rattle.xd_auto.specs.Automaton.{Automaton}
use Rattle.xd_auto.specs.declared.auto.State.{State}
use Rattle.xd_stream.specs.Fed.{AreStopped, StopsAs}
use Rattle.xd_stream.specs.declared.error.StreamError.{StreamError}
use Rattle.xd_validate.specs.Reading.{IsAllOf}

-- nothing was read so far
pub consumes-nothing : (left : Option (List ℕ)) → Consumes left left []
consumes-nothing None = tt
consumes-nothing (Some xs) = refl

-- one piece after the other
pub consumes-then : (a b c : Option (List ℕ)) (xs ys : List ℕ) → Consumes a b xs → Consumes b c ys → Consumes a c (xs ++ ys)
consumes-then None b c xs ys h k = tt
consumes-then (Some ws) None c xs ys h k = absurd h
consumes-then (Some ws) (Some bs) None xs ys h k = absurd k
consumes-then (Some ws) (Some bs) (Some cs) xs ys h k = h ∙ ap (λ (zs : List ℕ). xs ++ zs) k ∙ sym (append_assoc xs ys cs)

-- at the end all was read
pub all-read : (a b : Option (List ℕ)) (xs : List ℕ) → Consumes a b xs → IsAtEnd b → IsAllOf a xs
all-read None b xs h e = tt
all-read (Some ws) None xs h e = absurd h
all-read (Some ws) (Some bs) xs h e = h ∙ ap (λ (zs : List ℕ). xs ++ zs) e ∙ append-nil xs

-- what was read stops, and so does all
pub all-stops : (auto : Automaton) (s : State) (a b : Option (List ℕ)) (xs : List ℕ) (e : StreamError) → Consumes a b xs → AreStopped auto s xs e → (bytes : List ℕ) × IsAllOf a bytes × StopsAs auto s bytes e
all-stops auto s None b xs e h k = (xs ++ [], tt, k [])
all-stops auto s (Some ws) None xs e h k = absurd h
all-stops auto s (Some ws) (Some bs) xs e h k = (xs ++ bs, h, k bs)

-- what is left, if that is told
pub all-left : (a : Option (List ℕ)) → (bytes : List ℕ) × IsAllOf a bytes
all-left None = ([], tt)
all-left (Some ws) = (ws, refl)

-- the same automaton stops so
pub stops-for : (a b : Automaton) (s t : State) (left : Option (List ℕ)) (e : StreamError) → a ≡ b → s ≡ t → ((bytes : List ℕ) × IsAllOf left bytes × StopsAs a s bytes e) → (bytes : List ℕ) × IsAllOf left bytes × StopsAs b t bytes e
stops-for a b s t left e automaton start h = (h.0, h.1, subst (λ (x : Automaton). StopsAs x t h.0 e) automaton (subst (λ (x : State). StopsAs a x h.0 e) start h.2))
