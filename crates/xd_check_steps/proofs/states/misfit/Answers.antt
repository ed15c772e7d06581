use Rattle.std.proofs.lemmas.Bool.{false_from_ne_true}
use Rattle.xd_doc.specs.Document.{Document}
use Rattle.xd_doc.specs.LeastUpTo.{IsLeastUpTo}
use Rattle.xd_doc.specs.Stored.{document_at}
use Rattle.xd_doc.proofs.StoredLemmas.{Keeps-trans}
use Rattle.xd_auto.specs.Automaton.{Automaton, accepts}
use Rattle.xd_auto.specs.declared.auto.State.{State}
use Rattle.std.specs.Result.{IsErr}
use Rattle.xd_rules.specs.Listed.{SomeOf}
use Rattle.xd_goals.specs.Verdicts.{IsVerdict}
use Rattle.std.proofs.Common.{[], ◌∷◌, inl, inr, refl, subst, ◌≡◌, ◌∙◌, Bool, Ok, Err, Some, None, Option, Result, true, false, sym}
use Rattle.std.proofs.lemmas.Result.{IfOk-from_err}
use Rattle.xd_least.specs.Least.{size_limit}
use Rattle.xd_apart.specs.Apart.{IsApart}
use Rattle.xd_apart.proofs.ApartLemmas.{up_to_equal}
use Rattle.xd_check_steps.specs.States.{IsMisfit}
use Rattle.xd_check_steps.proofs.GrowsLemmas.{grows_none}
use Rattle.xd_check_steps.proofs.IsKnownLemmas.{known_decided, known_kept}
use Rattle.xd_check_steps.proofs.states.misfit.Goals as goal

not_err : {A E : Type 0} (r : Result A E) (x : A) → IsErr r → r ≡ Ok x → ⊥
not_err (Ok y) x p q = absurd (cc)
not_err (Err y) x p q = absurd (cc)

not_some : {A E : Type 0} (r : Result (Option A) E) (x : A) → r ≡ Ok (Some x) → r ≡ Ok None → ⊥
not_some r x p q = absurd (cc)

one_only : (P : State → Type 0) (s : State) → SomeOf P (s ∷ []) → P s
one_only P s m = elim m.1 [ inl y ↦ subst P (sym y) m.2 | inr y ↦ absurd y ]

pub returns-in_err-decide : goal.returns-in_err-decide
returns-in_err-decide c =
    let e = c.from_residual.ensures.0 in
    let r = c.from_residual.result in
    record {
      least = IfOk-from_err r _ e;
      belongs = IfOk-from_err r _ e;
      none = λ q d h. absurd (not_err r _ e q);
      known = known_decided c.args.auto.now c.args.store.now c.decide.new.store c.args.known.now c.decide.new.table c.decide.ensures.keeps c.requires.known c.decide.ensures.stands;
      keeps = c.decide.ensures.keeps;
    }

pub returns-in-Included : goal.returns-in-Included
returns-in-Included c =
    let v = subst (IsVerdict c.args.auto.now c.decide.new.store c.decide.new.table c.args.state (c.args.wanted ∷ [])) c.in-Included.is c.in_ok-decide.ensures.verdict in
    record {
      least = tt;
      belongs = tt;
      none = λ q d h. one_only (λ s. accepts c.args.auto.now d s ≡ true) c.args.wanted (v.0 d h);
      known = known_decided c.args.auto.now c.args.store.now c.decide.new.store c.args.known.now c.decide.new.table c.decide.ensures.keeps c.requires.known c.decide.ensures.stands;
      keeps = c.decide.ensures.keeps;
    }

-- what separates the states, as the checker says it
misfit_least : (a : Automaton) (s t : State) (d : Document) → IsLeastUpTo size_limit (IsApart a s t) d → IsLeastUpTo size_limit (IsMisfit a s t) d
misfit_least a s t d h = up_to_equal size_limit (IsApart a s t) (IsMisfit a s t) d (λ e k. (k.accepted, λ y. not_both (accepts a e t) y k.refused)) (λ e m. record { accepted = m.0; refused = false_from_ne_true (accepts a e t) m.1 }) h
  where
    not_both : (b : Bool) → b ≡ true → b ≡ false → ⊥
    not_both b x y = (let no : true ≡ false = sym x ∙ y in cc)

pub least_apart-requires : goal.least_apart-requires
least_apart-requires c =
    let v = subst (IsVerdict c.args.auto.now c.decide.new.store c.decide.new.table c.args.state (c.args.wanted ∷ [])) c.in-Separated.is c.in_ok-decide.ensures.verdict in
    record {
      left = c.requires.state;
      right = c.requires.wanted;
      belongs = v.belongs;
      apart = record {
        accepted = v.separates.accepted;
        refused = false_from_ne_true (accepts c.args.auto.now (document_at c.decide.new.store c.in-Separated.found) c.args.wanted) (v.separates.refused c.args.wanted (inl refl));
      };
    }

pub returns-in_ok-document-in-Separated : goal.returns-in_ok-document-in-Separated
returns-in_ok-document-in-Separated c =
    let a : Automaton = c.args.auto.now in
    let k = c.in_ok-document-in-Separated.ensures in
    record {
      least = misfit_least a c.args.state c.args.wanted (document_at c.least_apart.new.store c.in_ok-document-in-Separated.document) k.least;
      belongs = k.belongs;
      none = λ q d h. absurd (not_some _ _ refl q);
      known =
          known_kept a a c.decide.new.store c.least_apart.new.store (record c.args.known.now { table = c.decide.new.table }) (grows_none a) k.keeps
          (known_decided a c.args.store.now c.decide.new.store c.args.known.now c.decide.new.table c.decide.ensures.keeps c.requires.known c.decide.ensures.stands);
      keeps = Keeps-trans c.args.store.now c.decide.new.store c.least_apart.new.store c.decide.ensures.keeps k.keeps;
    }

pub returns-in_err-document-in-Separated : goal.returns-in_err-document-in-Separated
returns-in_err-document-in-Separated c =
    let a : Automaton = c.args.auto.now in
    let e = c.from_residual-in_err-document-in-Separated.ensures.0 in
    let r = c.from_residual-in_err-document-in-Separated.result in
    record {
      least = IfOk-from_err r _ e;
      belongs = IfOk-from_err r _ e;
      none = λ q d h. absurd (not_err r _ e q);
      known =
          known_kept a a c.decide.new.store c.least_apart.new.store (record c.args.known.now { table = c.decide.new.table }) (grows_none a) c.least_apart.ensures.keeps
          (known_decided a c.args.store.now c.decide.new.store c.args.known.now c.decide.new.table c.decide.ensures.keeps c.requires.known c.decide.ensures.stands);
      keeps = Keeps-trans c.args.store.now c.decide.new.store c.least_apart.new.store c.decide.ensures.keeps c.least_apart.ensures.keeps;
    }

pub decide-requires : goal.decide-requires
decide-requires c =
    record {
      stands = c.requires.known.table;
      left = c.requires.state;
      rights = (c.requires.wanted, tt);
    }

pub returns-then-is_plainly_within : goal.returns-then-is_plainly_within
returns-then-is_plainly_within c = record {
  least = tt;
  belongs = tt;
  none = λ q d h. c.if-is_plainly_within.ensures refl d h;
  known = c.requires.known;
  keeps = record { belongs = λ s b. b; same = λ s b. refl };
}
