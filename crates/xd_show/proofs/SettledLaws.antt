-- What is made over what is settled.
use Rattle.std.proofs.Common.{◌≡◌, ℕ, true, refl, sym, subst, List, ◌∷◌, Option, Some}
use Rattle.std.specs.Prelude.{slice_get}
use Rattle.xd_auto.specs.declared.auto.State.{State}
use Rattle.xd_auto.specs.Automaton.{Automaton, accepts}
use Rattle.xd_empty.specs.Parts.{HasDocument}
use Rattle.xd_syntax.specs.Words.{any_word}
use Rattle.xd_syntax.specs.Program.{ProgramTree}
use Rattle.xd_syntax.specs.Table.{Row}
use Rattle.xd_syntax.specs.declared.types.TypeId.{TypeId}
use Rattle.xd_shown.specs.Bodies.{AreBodies, AreMeant}
use Rattle.xd_named_parts.specs.Shorter.{ShowsDefinitions}
use Rattle.xd_named_parts.specs.declared.parts.Definitions.{Definitions}
use Rattle.xd_shown.specs.Shown.{IsShown}
use Rattle.xd_show.specs.declared.states.Settled.{Settled}
use Rattle.xd_show.specs.Contents.{AreBodiesBy, GrowsNames}
use Rattle.xd_show.specs.Settled.{IsSettled}
use Rattle.xd_show.proofs.ContentLaws.{words_known}
use Rattle.xd_show.proofs.ShowLaws.{are_bodies, shown_law}

pub bodies_moved : (a : Automaton) (x y : List (List ℕ)) (u v : List State) (old new : List Row) (p q : List (Option TypeId)) (bodies : List TypeId) → x ≡ y → u ≡ v → p ≡ q → AreBodiesBy a x u old p new bodies → AreBodiesBy a y v old q new bodies
bodies_moved a x y u v old new p q bodies e f g h =
    subst (λ z. AreBodiesBy a z v old q new bodies) e (subst (λ z. AreBodiesBy a x z old q new bodies) f (subst (λ z. AreBodiesBy a x u old z new bodies) g h))

pub settled_bodies : (a : Automaton) (start : State) (taken : List (List ℕ)) (s : Settled) (new : List Row) (bodies : List TypeId) → IsSettled a start taken s → AreBodiesBy a s.names.items s.named.items s.pool.types s.written.items new bodies →
    GrowsNames (any_word ∷ s.names.items) s.pool.types new → AreBodies new s.names.items bodies
settled_bodies a start taken s new bodies h by grows =
    are_bodies a s.names.items s.named.items start s.pool.types new s.written.items bodies h.new h.count h.contents by h.some
    (grows.names (any_word ∷ s.names.items) (refl, words_known s.names.items) h.contents.names)

pub settled_shown : (a : Automaton) (start : State) (taken : List (List ℕ)) (s : Settled) (new : List Row) (bodies : List TypeId) → IsSettled a start taken s → AreBodiesBy a s.names.items s.named.items s.pool.types s.written.items new bodies → HasDocument a start →
    (P : ProgramTree) (w : List ℕ) (D : Definitions) → D.pool.types ≡ new → D.names.items ≡ s.names.items → D.bodies.items ≡ bodies → ShowsDefinitions taken D P w → IsShown (λ d. accepts a d start ≡ true) taken P w
settled_shown a start taken s new bodies h by has P w D e f g shows =
    shown_law a s.names.items s.named.items start s.pool.types new s.written.items bodies h.new h.count h.contents by taken P w h.some h.first has
    (λ N x m k proper. shows N x (subst (λ rows. AreMeant N rows D.names.items D.bodies.items) (sym e) (subst (λ ws. AreMeant N new ws D.bodies.items) (sym f) (subst (AreMeant N new s.names.items) (sym g) m)))
    (subst (λ ws. slice_get ws 0 ≡ Some x) (sym f) k) proper)
