-- On what is known of an automaton that grows.
use Rattle.std.proofs.Common.{◌≡◌, ℕ, ◌<◌, ◌≤◌, ◌+◌, ◌-◌, false, Option, Some, None, inl, inr, List, ◌++◌, length, replicate, get_or, take, ap, length-append, arith, refl, sym, subst, ◌∙◌}
use Rattle.std.proofs.lemmas.Bool.{cases_lt}
use Rattle.std.proofs.lemmas.List.{get_or-append_right, get_or-take, get_or_append_left, get_or_default, get_or_past, length-replicate, length-take-le, take_all}
use Rattle.xd_doc.specs.Document.{Document}
use Rattle.xd_doc.specs.Stored.{document_at}
use Rattle.xd_doc.specs.declared.store.Seq.{Seq}
use Rattle.xd_auto.specs.declared.auto.State.{State}
use Rattle.xd_auto.specs.Automaton.{Automaton, Extends, IsClosed, KeepsAccepting, LeadsBelow, accepts, moves_at, no_moves, state_number}
use Rattle.xd_auto.proofs.Closed.{moves_at-closed}
use Rattle.xd_auto.proofs.ExtendsLemmas.{keeps}
use Rattle.xd_empty.specs.Inhabited.{AreInhabitants, IsFound, Starts}
use Rattle.xd_empty.specs.Known.{Knows, StaysKnown}
use Rattle.xd_empty.proofs.SearchLemmas.{outside_accepts, witness_keeps}
use Rattle.xd_empty.proofs.UsesLemmas.{get_or-replicate_same}

-- the first states of an automaton that lead to each other alone are an automaton that it extends
module _ (a : Automaton) (n : ℕ) (within : n ≤ length a) (closed : (s : State) → state_number s < n → LeadsBelow n (moves_at a s)) where
  first_count : length (take n a) ≡ n
  first_count = length-take-le n a within

  first_closed : IsClosed (take n a)
  first_closed = λ i d lt.
      let below : i < n = omega (arith, first_count) in
      let at : moves_at a (record { number = i }) ≡ get_or (take n a) i d = get_or_default a i (no_moves false) d (omega arith) ∙ sym (get_or-take n a i d below) in
      subst (λ k. LeadsBelow k (get_or (take n a) i d)) (sym first_count) (subst (LeadsBelow n) at (closed (record { number = i }) below))

  -- so each automaton that has these states with their moves accepts the same in them
  first_accepts : (b : Automaton) → ((s : State) → state_number s < n → state_number s < length b) → ((s : State) → state_number s < n → moves_at b s ≡ moves_at a s) → KeepsAccepting (take n a) b
  first_accepts b there same = keeps (take n a) b first_closed (record {
    states = λ s lt. there s (omega (arith, first_count));
    moves = λ s lt. (let below : state_number s < n = omega (arith, first_count) in same s below ∙ sym (get_or-take n a (state_number s) (no_moves false) below));
  })

-- a document that was found stands in the list
pub found_below : (fs : List (Option Seq)) (s : State) (seq : Seq) → IsFound fs s seq → state_number s < length fs
found_below fs s seq f = elim (cases_lt (state_number s) (length fs)) [
  | inl lt ↦ lt
  | inr past ↦ (let none : None ≡ Some seq = sym (get_or_past fs (state_number s) None past) ∙ f in absurd (cc))
]

-- the first states accept the same in an automaton that extends theirs
pub first_same : (old new : Automaton) (n : ℕ) → n ≤ length old → ((s : State) → state_number s < n → LeadsBelow n (moves_at old s)) → Extends old new → (d : Document) (s : State) → state_number s < n → accepts new d s ≡ accepts old d s
first_same old new n within closed more d s lt =
    let in_first : state_number s < length (take n old) = omega (arith, first_count old n within closed) in
    first_accepts old n within closed new (λ t l. more.states t (below t l)) (λ t l. more.moves t (below t l)) d s in_first
    ∙ sym (first_accepts old n within closed old below (λ t l. refl) d s in_first)
  where
    below : (t : State) → state_number t < n → state_number t < length old
    below t lt = omega arith

pub stays_known : (known : List (Option Seq)) → StaysKnown known
stays_known known old new ds es more kept k = record {
  within = within new (λ s lt. more.states s (below s lt));
  closed = λ s lt. subst (LeadsBelow (length known)) (sym (more.moves s (below s lt))) (k.closed s lt);
  witnesses = λ s seq f.
      let w = witness_keeps old ds es s seq kept (k.witnesses s seq f) in
      record { belongs = w.belongs; accepted = same (document_at es seq) s (found_below known s seq f) ∙ w.accepted };
  none = λ s lt u d. same d s lt ∙ k.none s lt u d;
}
  where
    below : (s : State) → state_number s < length known → state_number s < length old
    below s lt = omega (arith, k.within)

    within : (b : Automaton) → ((s : State) → state_number s < length known → state_number s < length b) → length known ≤ length b
    within b h = elim (cases_lt (length b) (length known)) [ inl lt ↦ absurd (omega (arith, h (record { number = length b }) lt)) | inr le ↦ le ]

    same : (d : Document) (s : State) → state_number s < length known → accepts new d s ≡ accepts old d s
    same d s lt = first_same old new (length known) k.within k.closed more d s lt

-- what is known when the search for documents of new states begins
pub starts_with : (a : Automaton) (ds : List Document) (known fs : List (Option Seq)) → Knows a ds known → fs ≡ take (length a) known ++ replicate (length a - length known) None → Starts a ds (length known) fs
starts_with a ds known fs k is = record {
  within = k.within;
  count = ap length same ∙ length-append known (replicate (length a - length known) None) ∙ counted;
  witnesses = λ s seq f. k.witnesses s seq (sym (at (state_number s)) ∙ f);
  settled = λ s lt u. k.none s lt (sym (at (state_number s)) ∙ u);
  unknown = λ s from. at (state_number s) ∙ get_or_past known (state_number s) None from;
}
  where
    same : fs ≡ known ++ replicate (length a - length known) None
    same = is ∙ ap (λ w. w ++ replicate (length a - length known) None) (take_all (length a) known k.within)

    counted : length known + length (replicate {A = Option Seq} (length a - length known) None) ≡ length a
    counted = omega (arith, length-replicate {A = Option Seq} (length a - length known) None, k.within)

    at : (n : ℕ) → get_or fs n None ≡ get_or known n None
    at n = elim (cases_lt n (length known)) [
      | inl lt ↦ ap (λ w. get_or w n None) same ∙ get_or_append_left known (replicate (length a - length known) None) None n lt
      | inr past ↦
          ap (λ w. get_or w n None) same ∙ get_or-append_right known (replicate (length a - length known) None) (length known) n None refl past
          ∙ get_or-replicate_same (length a - length known) (n - length known) None ∙ sym (get_or_past known n None past)
    ]

pub inhabitants_known : (a : Automaton) (ds : List Document) (fs : List (Option Seq)) → IsClosed a → AreInhabitants a ds fs → Knows a ds fs
inhabitants_known a ds fs closed h = record {
  within = omega (arith, h.count);
  closed = λ s lt. subst (λ n. LeadsBelow n (moves_at a s)) (sym h.count) (moves_at-closed a s closed (omega (arith, h.count)));
  witnesses = h.witnesses;
  none = λ s lt u d. h.none s u d;
}

pub known_inhabitants : (a : Automaton) (ds : List Document) (known : List (Option Seq)) → length known ≡ length a → Knows a ds known → AreInhabitants a ds known
known_inhabitants a ds known count k = record {
  count = count;
  witnesses = k.witnesses;
  none = λ s u d. elim (cases_lt (state_number s) (length known)) [ inl lt ↦ k.none s lt u d | inr past ↦ outside_accepts a s (omega arith) d ];
}
