-- A table that stands goes on to stand while the automaton and the store grow.
use Rattle.std.proofs.Common.{ℕ, zero, suc, ◌<◌, ◌≤◌, ◌≡◌, Bool, true, false, List, [], ◌∷◌, ◌++◌, map, length, inl, inr, ⊎_elim, refl, sym, ap, subst, ◌∙◌, arith}
use Rattle.std.specs.List.{flat_map, list_any}
use Rattle.std.proofs.lemmas.Bool.{cases_lt}
use Rattle.xd_doc.specs.Document.{Document}
use Rattle.xd_doc.specs.declared.store.Seq.{Seq}
use Rattle.xd_auto.specs.declared.auto.State.{State}
use Rattle.xd_auto.specs.Automaton.{Automaton, StateMoves, Extends, KeepsAccepting}
use Rattle.xd_rules.specs.declared.atom.Atom.{Atom}
use Rattle.xd_rules.specs.Heads.{Head}
use Rattle.xd_rules.specs.Meaning.{is_text_atom, right_heads}
use Rattle.xd_rules.specs.Rules.{Claim, ChoiceTree, settles_content, settles_rest, split_on, numbered, wanted}
use Rattle.xd_rules.proofs.Members.{one_of-all}
use Rattle.xd_state_heads.specs.Moves.{AreBelow, heads_of, is_last_in, label_head, text_head}
use Rattle.xd_goals.specs.Rows.{GoalRow, RowsBelow, TableView, row_at, claim_of, goal_case}
use Rattle.xd_goals.specs.Trees.{IsGrown, IsTextTree, IsTreeBySort}
use Rattle.xd_state_heads.specs.Wants.{matching_sides}
use Rattle.xd_goals.specs.Standing.{AreSeparated, HasChoices, IsBegun, IsCaseTree, IsChoiceOf, IsSeparatedBy, StandsOn, claim_sides, task_for}
use Rattle.xd_goals.specs.Facts.{ChoiceStands, FactsOn}
use Rattle.xd_state_heads.specs.declared.heads.Side.{Side}
use Rattle.xd_goals.specs.declared.grow.Task.{Task}
use Rattle.xd_goals.specs.declared.table.Choice.{Choice}
use Rattle.xd_goals.specs.declared.table.GoalCase.{GoalCase}
use Rattle.xd_rules.proofs.Lists.{none_at}
use Rattle.xd_goals.proofs.GrowsByLemmas.{past_is_new}

below_more : (n m : ℕ) → n ≤ m → (states : List State) → AreBelow n states → AreBelow m states
below_more n m le [] h = tt
below_more n m le (s ∷ ss) h = (let lt : s.number < n = h.0 in omega (arith, le, lt), below_more n m le ss h.1)

-- of a tree's task only the states count that the left head leads to
IsGrown-task : (rows : List GoalRow) (one two : Task) (sides : List Side) → one.content ≡ two.content → one.rest ≡ two.rest → (tree : ChoiceTree) (contents rests : List State)
    → IsGrown rows one sides tree contents rests → IsGrown rows two sides tree contents rests
IsGrown-task rows one two sides e f (settles_content g) contents rests h = rw (← e) h
IsGrown-task rows one two sides e f (settles_rest g) contents rests h = rw (← f) h
IsGrown-task rows one two sides e f (split_on j a b) contents rests h =
    (h.0, h.1, h.2, IsGrown-task rows one two sides e f a _ rests h.3, IsGrown-task rows one two sides e f b contents _ h.4)

IsTextTree-task : (rows : List GoalRow) (one two : Task) (sides : List Side) → one.rest ≡ two.rest → (tree : ChoiceTree) → IsTextTree rows one sides tree → IsTextTree rows two sides tree
IsTextTree-task rows one two sides f (settles_content g) h = h
IsTextTree-task rows one two sides f (settles_rest g) h = rw (← f) h
IsTextTree-task rows one two sides f (split_on j a b) h = h

-- a goal past the end has no choices
not_begun : (i : ℕ) (rows : List GoalRow) → length rows ≤ i → HasChoices (row_at rows i) → ⊥
not_begun i rows ge (inl e) = let w = (past_is_new rows i ge).standing in cc
not_begun i rows ge (inr n) = n (past_is_new rows i ge).choices

-- an automaton that extends another has no fewer states
pub longer : (a b : Automaton) → Extends a b → length a ≤ length b
longer a b x = go (length a) refl
  where
    go : (n : ℕ) → length a ≡ n → length a ≤ length b
    go zero e = omega arith
    go (suc n) e = let s : State = record { number = n } in let h = x.states s (omega arith) in omega arith

module _ (a b : Automaton) (more : Extends a b) (keep : KeepsAccepting a b) where
  heads-same : (s : State) → s.number < length a → heads_of b s ≡ heads_of a s
  heads-same s lt = ap (λ (m : StateMoves). map label_head m.labels ++ map text_head m.texts) (more.moves s lt)

  last-same : (s : State) → s.number < length a → is_last_in b s ≡ is_last_in a s
  last-same s lt = ap (λ (m : StateMoves). m.last) (more.moves s lt)

  all_heads-same : (states : List State) → AreBelow (length a) states → flat_map (heads_of b) states ≡ flat_map (heads_of a) states
  all_heads-same [] h = refl
  all_heads-same (s ∷ ss) h = rw (heads-same s h.0, all_heads-same ss h.1) refl

  any_last-same : (states : List State) → AreBelow (length a) states → list_any (is_last_in b) states ≡ list_any (is_last_in a) states
  any_last-same [] h = refl
  any_last-same (s ∷ ss) h = rw (last-same s h.0, any_last-same ss h.1) refl

  -- of a claim about old states
  module _ (c : Claim State) (left : c.left.number < length a) (rights : AreBelow (length a) c.rights) where
    left_heads-same : heads_of b c.left ≡ heads_of a c.left
    left_heads-same = heads-same c.left left

    right_heads-same : right_heads (heads_of b) c ≡ right_heads (heads_of a) c
    right_heads-same = all_heads-same c.rights rights

    separated-extends : (ds : List Document) (seq : Seq) → IsSeparatedBy a ds c seq → IsSeparatedBy b ds c seq
    separated-extends ds seq s = record {
      belongs = s.belongs;
      separates = record {
        accepted = keep _ c.left left ∙ s.separates.accepted;
        refused = λ r m p. s.separates.refused r m (sym (keep _ r (one_of-all (λ (x : State). x.number < length a) r c.rights rights m)) ∙ p);
      };
    }

    case_tree-extends : (rows : List GoalRow) (owner : GoalCase) (h : Head State) (atom : Atom) (tree : ChoiceTree) → IsCaseTree a rows owner c h atom tree → IsCaseTree b rows owner c h atom tree
    case_tree-extends rows owner h atom tree k = subst (λ (hs : List (Head State)). IsTreeBySort (is_text_atom atom) rows (task_for b owner h) (matching_sides atom 1 hs) tree) (sym right_heads-same) (go (is_text_atom atom) k)
      where
        go : (sort : Bool) → IsTreeBySort sort rows (task_for a owner h) (claim_sides a c atom) tree → IsTreeBySort sort rows (task_for b owner h) (claim_sides a c atom) tree
        go true x = IsTextTree-task rows (task_for a owner h) (task_for b owner h) (claim_sides a c atom) refl tree x
        go false x = IsGrown-task rows (task_for a owner h) (task_for b owner h) (claim_sides a c atom) refl refl tree [] [] x

    choice-extends : (t : TableView) (owner : GoalCase) (k : Choice) → ChoiceStands a t owner c k → ChoiceStands b t owner c k
    choice-extends t owner k h = record {
      head = h.head;
      found = ap (λ (hs : List (Head State)). numbered hs k.head) left_heads-same ∙ h.found;
      matched = h.matched;
      has = record {
        tree = h.has.tree;
        stands = h.has.stands;
        kind = case_tree-extends t.rows owner h.head k.atom h.has.tree h.has.kind;
        listed = h.has.listed;
      };
    }

    choice_of-extends : (t : TableView) (owner : GoalCase) (k : Choice) → IsChoiceOf a t owner c k → IsChoiceOf b t owner c k
    choice_of-extends t owner k h = record {
      head = h.head;
      found = ap (λ (hs : List (Head State)). numbered hs k.head) left_heads-same ∙ h.found;
      matched = h.matched;
      tree = h.tree;
      stands = h.stands;
      kind = case_tree-extends t.rows owner h.head k.atom h.tree h.kind;
    }

    begun-extends : (choices : List Choice) → IsBegun a c choices → IsBegun b c choices
    begun-extends choices h = record {
      last = λ e. any_last-same c.rights rights ∙ h.last (sym (last-same c.left left) ∙ e);
      complete = h.complete ∙ ap (λ (hs : List (Head State)). wanted hs (right_heads (heads_of a) c)) (sym left_heads-same)
          ∙ ap (λ (hs : List (Head State)). wanted (heads_of b c.left) hs) (sym right_heads-same);
    }

  states-extend : length a ≤ length b → (rows : List GoalRow) → RowsBelow (length a) rows → RowsBelow (length b) rows
  states-extend longer rows h = record { each = λ i lt. let r = h.each i lt in record { left = let l = r.left in omega (arith, longer, l); rights = below_more (length a) (length b) longer _ r.rights } }

  refuted-extends : (ds : List Document) (rows : List GoalRow) → RowsBelow (length a) rows → AreSeparated a ds rows → AreSeparated b ds rows
  refuted-extends ds rows h s i seq e = ⊎_elim
      (λ lt. let r = h.each i lt in separated-extends (claim_of (row_at rows i)) r.left r.rights ds seq (s i seq e))
      (λ ge. let w = (past_is_new rows i ge).standing in absurd (cc))
      (cases_lt i (length rows))

  pub stands-extends : length a ≤ length b → (ds : List Document) (t : TableView) → FactsOn a ds t → FactsOn b ds t
  stands-extends longer ds t h = record {
    facts = record {
      states = states-extend longer t.rows h.facts.states;
      unlike = h.facts.unlike;
      choices = λ i place k e. ⊎_elim
          (λ lt. let r = h.facts.states.each i lt in choice-extends (claim_of (row_at t.rows i)) r.left r.rights t (goal_case i place) k (h.facts.choices i place k e))
          (λ ge. absurd (none_at (row_at t.rows i).choices place k (past_is_new t.rows i ge).choices e))
          (cases_lt i (length t.rows));
      flags = h.facts.flags;
      unbroken = h.facts.unbroken;
      begun = λ i n. ⊎_elim
          (λ lt. let r = h.facts.states.each i lt in begun-extends (claim_of (row_at t.rows i)) r.left r.rights (row_at t.rows i).choices (h.facts.begun i n))
          (λ ge. absurd (n (past_is_new t.rows i ge).choices))
          (cases_lt i (length t.rows));
      holds = λ i e. ⊎_elim
          (λ lt. let r = h.facts.states.each i lt in let k = h.facts.holds i e in record {
            begun = begun-extends (claim_of (row_at t.rows i)) r.left r.rights (row_at t.rows i).choices k.begun;
            opens = k.opens;
          })
          (λ ge. let w = (past_is_new t.rows i ge).standing in absurd (cc))
          (cases_lt i (length t.rows));
      settled = h.facts.settled;
    };
    refuted = refuted-extends ds t.rows h.facts.states h.refuted;
  }

  -- so it is with what a table says of an automaton, whatever it keeps by itself
  pub stands_on-extends : length a ≤ length b → (ds : List Document) (t : TableView) → StandsOn a ds t → StandsOn b ds t
  stands_on-extends longer ds t h = record {
    facts = record {
      states = states-extend longer t.rows h.facts.states;
      begun = λ i w. ⊎_elim
          (λ lt. let r = h.facts.states.each i lt in begun-extends (claim_of (row_at t.rows i)) r.left r.rights (row_at t.rows i).choices (h.facts.begun i w))
          (λ ge. absurd (not_begun i t.rows ge w))
          (cases_lt i (length t.rows));
      choices = λ i place k e. ⊎_elim
          (λ lt. let r = h.facts.states.each i lt in choice_of-extends (claim_of (row_at t.rows i)) r.left r.rights t (goal_case i place) k (h.facts.choices i place k e))
          (λ ge. absurd (none_at (row_at t.rows i).choices place k (past_is_new t.rows i ge).choices e))
          (cases_lt i (length t.rows));
    };
    refuted = refuted-extends ds t.rows h.facts.states h.refuted;
  }
