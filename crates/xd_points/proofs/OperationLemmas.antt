-- A state that was added without moves.
use Rattle.std.proofs.Common.{◌≡◌, false, [], ◌∷◌, ◌++◌, length, get_or, refl, ap, ◌∙◌}
use Rattle.std.specs.List.{list_any}
use Rattle.xd_doc.specs.Document.{Document, empty, text, element}
use Rattle.xd_auto.specs.declared.auto.State.{State}
use Rattle.xd_auto.specs.Automaton.{Automaton, StateMoves, accepts, moves_at, no_moves, takes_element, takes_word}

pub newest : (a : Automaton) (m : StateMoves) → get_or (a ++ m ∷ []) (length a) (no_moves false) ≡ m
newest [] m = refl
newest (x ∷ a) m = newest a m

pub accepts_nothing : (a : Automaton) (s : State) → moves_at a s ≡ no_moves false → (d : Document) → accepts a d s ≡ false
accepts_nothing a s bare empty = ap (λ (m : StateMoves). m.last) bare
accepts_nothing a s bare (text t d) = ap (λ (m : StateMoves). list_any (takes_word a t d) m.texts) bare
accepts_nothing a s bare (element l c d) = ap (λ (m : StateMoves). list_any (takes_element a l c d) m.labels) bare

-- it accepts nothing
pub new_accepts_nothing : (old new : Automaton) (s : State) → s.number ≡ length old → new ≡ old ++ no_moves false ∷ [] → (d : Document) → accepts new d s ≡ false
new_accepts_nothing old new s at is d =
    accepts_nothing new s (ap (λ (w : Automaton). moves_at w s) is ∙ ap (λ n. get_or (old ++ no_moves false ∷ []) n (no_moves false)) at ∙ newest old (no_moves false)) d
