-- Inclusion of types, by states that accept what fits them, and its proofs.
use Rattle.std.proofs.Common.{◌≡◌, ℕ, true, inl, List, [], ◌∷◌, Option, Some, sym, ap, subst, ◌∙◌}
use Rattle.std.specs.List.{AllByRecursion}
use Rattle.std.proofs.lemmas.Bool.{false_from_ne_true}
use Rattle.xd_doc.specs.Document.{Document, is_proper}
use Rattle.xd_doc.proofs.Bools.{not_true_and_false}
use Rattle.xd_auto.specs.Automaton.{Automaton, accepts}
use Rattle.xd_auto.specs.declared.auto.State.{State}
use Rattle.xd_state_heads.specs.Moves.{Accepts, claim_with}
use Rattle.xd_rules.proofs.Members.{only_one}
use Rattle.xd_goals.specs.Rows.{TableView, claim_of, row_at}
use Rattle.xd_goals.specs.Truth.{IsIncluded}
use Rattle.xd_goals.specs.Verdicts.{IsProved}
use Rattle.xd_goals.proofs.GrowsByLemmas.{claim_within}
use Rattle.xd_heads.specs.CellsView.{CellsView}
use Rattle.xd_heads.specs.Mirrors.{IsTypeState, continuation_of}
use Rattle.xd_heads.proofs.Mirrored.{type_is}
use Rattle.xd_meaning.specs.Consistent.{IsConsistent}
use Rattle.xd_rules.specs.Rules.{numbered}
use Rattle.xd_doc.specs.LeastUpTo.{IsLeastUpTo}
use Rattle.xd_least.specs.Least.{size_limit}
use Rattle.xd_apart.specs.Apart.{IsApart}
use Rattle.xd_proof_make.specs.Made.{IsOfTypes, UsesDefined}
use Rattle.xd_proof_make.specs.Written.{AreTypes}
use Rattle.xd_proof_make.specs.ProofText.{IsOfKnownNames, ProvesRow, UsesKnownNames}
use Rattle.xd_meaning.specs.Included.{Included}
use Rattle.xd_syntax.specs.Kept.{ProgramTable, program_tree}
use Rattle.xd_syntax.specs.Program.{ProgramTree, names_of}
use Rattle.xd_syntax.specs.Tree.{Tree}
use Rattle.xd_inclusion.specs.Inclusion.{FitsAlone, ProvesInclusion}
use Rattle.xd_inclusion.specs.States.{IsStateOf}

module _ (p : ProgramTable) (c : CellsView) (a : Automaton) (L R : Tree) (one other : State) (left : IsStateOf p c a L one) (right : IsStateOf p c a R other) where
  abbrev P : ProgramTree
  P = program_tree p

  abbrev C : State → Option Tree
  C = continuation_of p.types c

  pub included : IsIncluded a one (other ∷ []) → Included (names_of P) L (R ∷ [])
  included h d proper f =
      let w = h d ((left.exact d).1 f) in
      inl ((right.exact d).0 (subst (λ s. Accepts a s d) (only_one w.0 other w.1) w.2))

  fits_alone : (d : Document) → is_proper d ≡ true → IsApart a one other d → FitsAlone (names_of P) L R d
  fits_alone d proper h = record { proper = proper; left = (left.exact d).0 h.accepted; right = λ f. not_true_and_false (sym h.refused ∙ (right.exact d).1 f) }

  is_apart : (d : Document) → FitsAlone (names_of P) L R d → IsApart a one other d
  is_apart d h = record { accepted = (left.exact d).1 h.left; refused = false_from_ne_true (accepts a d other) (λ e. h.right ((right.exact d).0 e)) }

  -- a least document that the states tell apart is one that the types tell apart
  pub least_alone : (d : Document) → is_proper d ≡ true → IsLeastUpTo size_limit (IsApart a one other) d → IsLeastUpTo size_limit (FitsAlone (names_of P) L R) d
  least_alone d proper w =
      let within = fits_alone d proper w.within in
      record {
        within = within;
        least = λ e h small. let l = w.least e (is_apart e h) small in record { within = within; least = λ f g. l.least f (is_apart f g) };
      }

  state_typed : (s : State) (T : Tree) → C s ≡ Some T → IsTypeState c s
  state_typed s T e = let i = type_is p.types c s T e in (i.0, i.1)

  state_known : (s : State) (T : Tree) → C s ≡ Some T → UsesDefined P T → IsOfKnownNames P C s
  state_known s T e k U q = let same : T ≡ U = cc in subst (UsesDefined P) same k

  rights_one : (Ts : List Tree) → AreTypes C (other ∷ []) Ts → Ts ≡ R ∷ []
  rights_one [] h = absurd h
  rights_one (T ∷ []) h = let e = right.continuation in let f = h.0 in let same : T ≡ R = cc in ap (λ x. x ∷ []) same
  rights_one (T ∷ (U ∷ Us)) h = absurd h.1

  module _ (t : TableView) (goal : ℕ) (proved : IsProved t one (other ∷ []) goal) where
    row_is : claim_of (row_at t.rows goal) ≡ claim_with one (other ∷ [])
    row_is = (claim_within t.rows goal (claim_with one (other ∷ [])) proved.claim).1

    left_is : (row_at t.rows goal).left ≡ one
    left_is = ap (λ x. x.left) row_is

    rights_are : (row_at t.rows goal).rights ≡ other ∷ []
    rights_are = ap (λ x. x.rights) row_is

    pub row_typed : IsOfTypes c (row_at t.rows goal)
    row_typed = record {
      left = subst (IsTypeState c) (sym left_is) (state_typed one L left.continuation);
      rights = subst (AllByRecursion (IsTypeState c)) (sym rights_are) (state_typed other R right.continuation, tt);
    }

    pub row_known : UsesDefined P L → UsesDefined P R → UsesKnownNames P C (row_at t.rows goal)
    row_known k l = record {
      left = subst (IsOfKnownNames P C) (sym left_is) (state_known one L left.continuation k);
      rights = subst (AllByRecursion (IsOfKnownNames P C)) (sym rights_are) (state_known other R right.continuation l, tt);
    }

    pub inclusion_proved : (text : List ℕ) → ProvesRow P C (row_at t.rows goal) text → ProvesInclusion P L R text
    inclusion_proved text r =
        let one_left : C one ≡ Some r.claim.left = ap C (sym left_is) ∙ r.between.left in
        let l = left.continuation in
        record {
          goals = r.spelled.lined;
          spelled = r.spelled.text;
          consistent = subst (IsConsistent (names_of P)) (sym r.spelled.same) r.consistent;
          claim = r.claim;
          first = ap (λ gs. numbered gs 1) r.spelled.same ∙ r.first;
          left = let same : r.claim.left ≡ L = cc in same;
          rights = rights_one r.claim.rights (subst (λ ss. AreTypes C ss r.claim.rights) rights_are r.between.rights);
        }
