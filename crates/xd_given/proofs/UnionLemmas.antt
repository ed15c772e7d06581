-- States that accept no more than another one.
use Rattle.std.proofs.Common.{ℕ, ◌<◌, ◌≡◌, true, List, [], length, get_or, sym, ap, ◌∙◌, arith}
use Rattle.std.specs.List.{list_any}
use Rattle.std.proofs.lemmas.Option.{slice_get-get_or, slice_get_within}
use Rattle.xd_doc.specs.Document.{Document, empty, text, element}
use Rattle.xd_auto.specs.declared.auto.State.{State}
use Rattle.xd_auto.specs.declared.auto.LabelMove.{LabelMove}
use Rattle.xd_auto.specs.declared.auto.TextMove.{TextMove}
use Rattle.xd_auto.specs.Automaton.{Automaton, accepts, moves_at, takes_element, takes_word}
use Rattle.xd_auto.proofs.Anys.{found}

-- a state without moves accepts no more than one that accepts the empty document where it does
pub bare_within : (a : Automaton) (s o : State) → ((moves_at a s).labels ≡ []) × ((moves_at a s).texts ≡ []) → ((moves_at a s).last ≡ true → (moves_at a o).last ≡ true) → (d : Document)
    → accepts a d s ≡ true → accepts a d o ≡ true
bare_within a s o bare last empty h = last h
bare_within a s o bare last (text t d) h =
    absurd (let none : list_any (takes_word a t d) [] ≡ true = ap (λ (ms : List TextMove). list_any (takes_word a t d) ms) (sym bare.1) ∙ h in cc)
bare_within a s o bare last (element l c d) h =
    absurd (let none : list_any (takes_element a l c d) [] ≡ true = ap (λ (ms : List LabelMove). list_any (takes_element a l c d) ms) (sym bare.0) ∙ h in cc)

-- what some of these accept the other one accepts
pub all_within : (a : Automaton) (states : List State) (o : State) (n : ℕ) → n ≡ length states → ((x : ℕ) (s : State) (d : Document) → x < n → accepts a d (get_or states x s) ≡ true → accepts a d o ≡ true)
    → (d : Document) → list_any (accepts a d) states ≡ true → accepts a d o ≡ true
all_within a states o n all each d h =
    let f = found (accepts a d) states h in
    let lt = slice_get_within states f.place f.item f.there in
    let same : get_or states f.place f.item ≡ f.item = let e = slice_get-get_or states f.place f.item lt in let both = sym e ∙ f.there in cc in
    each f.place f.item d (omega arith) (ap (accepts a d) same ∙ f.passes)
