-- What accepting runs give a variable on whatever they take.
use Rattle.std.proofs.Common.{◌≡◌, ℕ, Bool, true, false, ◌&&◌, List, [], length, get_or, refl, sym, ap, subst, ◌∙◌}
use Rattle.std.specs.List.{slice_get}
use Rattle.xd_doc.specs.Document.{Document}
use Rattle.xd_auto.specs.declared.auto.State.{State}
use Rattle.xd_auto.specs.Automaton.{Automaton, accepts}
use Rattle.xd_auto.proofs.RunLaw.{runs_law}
use Rattle.xd_auto.specs.Traces.{AcceptsGiven, IsGiven, Owned}
use Rattle.xd_bind.specs.declared.tracks.Given.{Given}
use Rattle.xd_bind.specs.Projection.{AreGivens}
use Rattle.xd_auto.proofs.SameMoves.{SameMoves, given_same}
use Rattle.xd_points.specs.declared.patterns.PatternStates.{PatternStates}
use Rattle.xd_points.specs.Tables.{takes_alone}
use Rattle.xd_given.specs.Given.{AcceptsGivenAlone, AreGivensAlone}

-- a state that accepts what some run takes
run_accepted : (a : Automaton) (b : Owned) (s : State) (e : Document) (g : IsGiven a b s e) → accepts a g.document s ≡ true
run_accepted a b s e g = (runs_law a s g.document).1 (g.run, g.accepting)

-- beside a left that accepts everything, with no rights, the pattern's state takes what it accepts
pub takes_whole : (a : Automaton) (p : PatternStates) (left pattern : State) → ((d : Document) → accepts a d left ≡ true) → (d : Document) → takes_alone a p left pattern [] d ≡ accepts p.auto d pattern
takes_whole a p left pattern all d = ap (λ v. v && (accepts p.auto d pattern && true)) (all d) ∙ and_true (accepts p.auto d pattern)
  where
    and_true : (v : Bool) → (v && true) ≡ v
    and_true true = refl
    and_true false = refl

given_whole : (a : Automaton) (p : PatternStates) (b : Owned) (left pattern : State) (made : Automaton) (state : State) → ((d : Document) → accepts a d left ≡ true)
    → AcceptsGivenAlone a p b left pattern [] made state → AcceptsGiven p.auto b pattern made state
given_whole a p b left pattern made state all h e =
    (λ y. ((h e).0 y).given, λ g. (h e).1 (record { given = g; alone = takes_whole a p left pattern all g.document ∙ run_accepted p.auto b pattern e g }))

-- of all variables
pub givens_whole : (a own : Automaton) (p : PatternStates) (one two : ℕ → Owned) (left start : State) (vs ws : List (List ℕ)) (made : Automaton) (givens : List Given) → ((d : Document) → accepts a d left ≡ true)
    → p.auto ≡ own → ((x : ℕ) → SameMoves (one x) (two x)) → vs ≡ ws → AreGivensAlone a p one left start [] vs made givens → AreGivens own two start ws made givens
givens_whole a own p one two left start vs ws made givens all is same f h = record {
  count = h.count ∙ ap length f;
  each = λ x d lt.
      let g = h.each x d lt in
      let given : Given = get_or givens x d in
      record {
        variable = ap (λ (v : List (List ℕ)). slice_get v x) (sym f) ∙ g.variable;
        belongs = g.belongs;
        given = given_same own (one x) (two x) (same x) start made given.state
            (subst (λ (c : Automaton). AcceptsGiven c (one x) start made given.state) is (given_whole a p (one x) left start made given.state all g.given));
      };
}

-- a state that accepts nothing accepts what runs from another such state give a variable
pub nothing_given : (a : Automaton) (b : Owned) (start : State) (made : Automaton) (s : State) → ((d : Document) → accepts a d start ≡ false) → ((d : Document) → accepts made d s ≡ false) → AcceptsGiven a b start made s
nothing_given a b start made s none nothing e =
    (λ y. absurd (let no : true ≡ false = sym y ∙ nothing e in cc), λ g. absurd (let no : true ≡ false = sym (run_accepted a b start e g) ∙ none g.document in cc))
