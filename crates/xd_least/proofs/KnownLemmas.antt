-- On what is known of an automaton that grows.
use Rattle.std.proofs.Common.{◌≡◌, ℕ, ◌<◌, ◌≤◌, ◌+◌, ◌-◌, Option, Some, None, inl, inr, List, ◌++◌, length, replicate, get_or, take, ap, length-append, arith, refl, sym, subst, ◌∙◌}
use Rattle.std.proofs.lemmas.Bool.{cases_lt}
use Rattle.std.proofs.lemmas.List.{get_or-append_right, get_or_append_left, get_or_default, get_or_past, length-replicate, take_all}
use Rattle.xd_doc.specs.Document.{Document}
use Rattle.xd_doc.specs.Stored.{document_at}
use Rattle.xd_auto.specs.declared.auto.State.{State}
use Rattle.xd_auto.specs.Automaton.{Automaton, IsClosed, LeadsBelow, accepts, moves_at, state_number}
use Rattle.xd_auto.proofs.Closed.{moves_at-closed}
use Rattle.xd_empty.proofs.KnownLemmas.{first_same}
use Rattle.xd_empty.proofs.SearchLemmas.{outside_accepts}
use Rattle.xd_empty.proofs.UsesLemmas.{get_or-replicate_same}
use Rattle.xd_least.specs.declared.document.LeastDocument.{LeastDocument}
use Rattle.xd_least.specs.Least.{AreAllLeast, IsKnown, Knows, StaysKnown}
use Rattle.xd_least.specs.Finding.{Starts}
use Rattle.xd_least.proofs.FindingLemmas.{least_keeps}

-- a document that is known stands in the list
pub known_below : (fs : List (Option LeastDocument)) (s : State) (f : LeastDocument) → IsKnown fs s f → state_number s < length fs
known_below fs s f known = elim (cases_lt (state_number s) (length fs)) [
  | inl lt ↦ lt
  | inr past ↦ (let none : None ≡ Some f = sym (get_or_past fs (state_number s) None past) ∙ known in absurd (cc))
]

pub stays_known : (fs : List (Option LeastDocument)) → StaysKnown fs
stays_known fs old new ds es more kept k = record {
  within = within new (λ s lt. more.states s (below s lt));
  closed = λ s lt. subst (LeadsBelow (length fs)) (sym (more.moves s (below s lt))) (k.closed s lt);
  least = λ s f known.
      let w = least_keeps old ds es s f kept (k.least s f known) in
      let lt = known_below fs s f known in
      record {
        belongs = w.belongs;
        accepted = same (document_at es f.seq) s lt ∙ w.accepted;
        sized = w.sized;
        least = λ d accepted. w.least d (sym (same d s lt) ∙ accepted);
      };
  none = λ s lt unknown d. same d s lt ∙ k.none s lt unknown d;
}
  where
    below : (s : State) → state_number s < length fs → state_number s < length old
    below s lt = omega (arith, k.within)

    within : (b : Automaton) → ((s : State) → state_number s < length fs → state_number s < length b) → length fs ≤ length b
    within b h = elim (cases_lt (length b) (length fs)) [ inl lt ↦ absurd (omega (arith, h (record { number = length b }) lt)) | inr le ↦ le ]

    same : (d : Document) (s : State) → state_number s < length fs → accepts new d s ≡ accepts old d s
    same d s lt = first_same old new (length fs) k.within k.closed more d s lt

-- what is known when the search for documents of new states begins
pub starts_with : (a : Automaton) (ds : List Document) (known fs : List (Option LeastDocument)) → Knows a ds known → fs ≡ take (length a) known ++ replicate (length a - length known) None → Starts a ds (length known) fs
starts_with a ds known fs k is = record {
  within = k.within;
  count = ap length same ∙ length-append known (replicate (length a - length known) None) ∙ counted;
  least = λ s f e. k.least s f (sym (at (state_number s)) ∙ e);
  settled = λ s lt unknown. k.none s lt (sym (at (state_number s)) ∙ unknown);
  unknown = λ s from. at (state_number s) ∙ get_or_past known (state_number s) None from;
}
  where
    same : fs ≡ known ++ replicate (length a - length known) None
    same = is ∙ ap (λ w. w ++ replicate (length a - length known) None) (take_all (length a) known k.within)

    counted : length known + length (replicate {A = Option LeastDocument} (length a - length known) None) ≡ length a
    counted = omega (arith, length-replicate {A = Option LeastDocument} (length a - length known) None, k.within)

    at : (n : ℕ) → get_or fs n None ≡ get_or known n None
    at n = elim (cases_lt n (length known)) [
      | inl lt ↦ ap (λ w. get_or w n None) same ∙ get_or_append_left known (replicate (length a - length known) None) None n lt
      | inr past ↦
          ap (λ w. get_or w n None) same ∙ get_or-append_right known (replicate (length a - length known) None) (length known) n None refl past
          ∙ get_or-replicate_same (length a - length known) (n - length known) None ∙ sym (get_or_past known n None past)
    ]

pub all_known : (a : Automaton) (ds : List Document) (fs : List (Option LeastDocument)) → IsClosed a → AreAllLeast a ds fs → Knows a ds fs
all_known a ds fs closed h = record {
  within = omega (arith, h.count);
  closed = λ s lt. subst (λ n. LeadsBelow n (moves_at a s)) (sym h.count) (moves_at-closed a s closed (omega (arith, h.count)));
  least = h.least;
  none = λ s lt unknown d. h.none s unknown d;
}

pub known_all : (a : Automaton) (ds : List Document) (fs : List (Option LeastDocument)) → length fs ≡ length a → Knows a ds fs → AreAllLeast a ds fs
known_all a ds fs count k = record {
  count = count;
  least = k.least;
  none = λ s unknown d. elim (cases_lt (state_number s) (length fs)) [ inl lt ↦ k.none s lt unknown d | inr past ↦ outside_accepts a s (omega arith) d ];
}

pub known_at : (fs : List (Option LeastDocument)) (n : ℕ) (o : Option LeastDocument) (f : LeastDocument) → n < length fs → o ≡ get_or fs n o → o ≡ Some f → get_or fs n None ≡ Some f
known_at fs n o f l e is = get_or_default fs n None o l ∙ sym e ∙ is
