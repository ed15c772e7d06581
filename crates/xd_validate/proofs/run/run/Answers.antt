use Rattle.std.proofs.Common.{◌≡◌, ℕ, zero, suc, ◌+◌, ◌≤◌, get_or, inr, List, [], ◌∷◌, ◌++◌, drop, map, refl, sym, ap, subst, ◌∙◌, arith, Global, Vec, ◌<◌, length}
use Rattle.std.proofs.lemmas.Grind.{common_steps}
use Rattle.std.proofs.lemmas.List.{append-nil, drop_more}
use Rattle.std.specs.String.{string_bytes}
use Rattle.xd_auto.specs.Automaton.{Automaton}
use Rattle.xd_auto.specs.declared.auto.State.{State}
use Rattle.xd_base.specs.Outside.{HasRisen}
use Rattle.xd_command_steps.specs.Texts.{Holding}
use Rattle.xd_command_steps.proofs.Growth.{HasGrown-then}
use Rattle.xd_stream.specs.StopByState.{IsAccepted}
use Rattle.xd_command_steps.specs.Output.{Output}
use Rattle.xd_validate.specs.Answers.{IsTold, joined, status_from}
use Rattle.xd_validate.proofs.Runs.{ends-early, ends-whole, grown-nothing, lines-then, split-then, status-then, told-then}
use Rattle.xd_validate.proofs.run.run.Goals as goal
use Rattle.xd_validate.proofs.run.run.Goals.{then-len-ge-HELD+else-not-put_all, else-len-ge-HELD}

pub documents-init : goal.documents-init
documents-init g c = record {
  done = [];
  lines = [];
  sent = [];
  split = refl;
  told = omega arith;
  text = sym c.new-held.ensures.items;
  grown = grown-nothing (g.S.Sink.written c.args.sink.now);
  status = refl;
  automaton = refl;
  same = refl;
  faults = omega arith;
}

pub returns-in_default : goal.returns-in_default
returns-in_default g c =
    let i = c.documents.invariant in
    ends-early (IsAccepted c.args.auto c.args.state) (g.D.Source.holds c.args.source.now) (g.D.Source.faults c.args.source.now) (g.D.Source.faults c.documents.source) (g.D.Source.faults c.tell.new.source) _ i.done _ i.lines i.split i.told c.in_default.ensures.never_falls
    c.end.result.code 5 _ _ _ _ _ _ i.sent c.documents.held.items refl i.faults i.text i.grown (rw c.deref.ensures.value at c.end.ensures.sent)

-- a document more is told, in the automaton's first words
told-here : (a b : Automaton) (s : State) (old new : Holding) (rose : Type 0) (name : List ℕ) (o : Output) → a ≡ b → new ≡ old → IsTold (IsAccepted a s) new rose name o → IsTold (IsAccepted b s) old rose name o
told-here a b s old new rose name o e h t = subst (λ (x : Automaton). IsTold (IsAccepted x s) old rose name o) e (subst (λ (x : Holding). IsTold (IsAccepted a s) x rose name o) h t)

-- the names that are left
names-left : {X : Type 0} (f : X → List ℕ) (names : List X) (i : ℕ) (x : X) (name : List ℕ) → i < length names → x ≡ get_or names i x → name ≡ f x → map f (drop i names) ≡ name ∷ map f (drop (i + 1) names)
names-left {X} f names i x name lt e n =
    ap (map f) (drop_more names i x lt) ∙ ap (λ (y : X). f y ∷ map f (drop (i + 1) names)) (sym e) ∙ ap (λ (y : List ℕ). y ∷ map f (drop (i + 1) names)) (sym n)

-- no name is left
no-names-left : {X : Type 0} (f : X → List ℕ) (names : List X) (i : ℕ) → length names ≤ i → map f (drop i names) ≡ []
no-names-left f [] zero le = refl
no-names-left f [] (suc i) le = refl
no-names-left f (x ∷ xs) zero le = absurd (omega (arith, le))
no-names-left f (x ∷ xs) (suc i) le = no-names-left f xs i (omega (arith, le))

pub returns-then-is_err : goal.returns-then-is_err
returns-then-is_err g c =
    let i = c.documents.invariant in
    let held : c.extend_from_slice.new.self.items ≡ c.documents.held.items = grind (arith, common_steps, c.extend_from_slice.ensures.items, c.is_err.ensures.value, c.if-is_err.true) in
    let sent = rw (c.deref-then-is_err.ensures.value, held) at c.end-then-is_err.ensures.sent in
    ends-early (IsAccepted c.args.auto c.args.state) (g.D.Source.holds c.args.source.now) (g.D.Source.faults c.args.source.now) (g.D.Source.faults c.documents.source) (g.D.Source.faults c.tell.new.source) _ i.done _ i.lines i.split i.told c.in-Ok.ensures.never_falls
    c.end-then-is_err.result.code 5 _ _ _ _ _ _ i.sent c.documents.held.items refl i.faults i.text i.grown sent

pub returns : goal.returns
returns g c =
    let i = c.documents.invariant in
    let last : g.D.Source.faults c.documents.source ≤ g.D.Source.faults c.documents.source = omega arith in
    let test = c.documents-test.false in
    ends-whole (IsAccepted c.args.auto c.args.state) (g.D.Source.holds c.args.source.now) (g.D.Source.faults c.args.source.now) (g.D.Source.faults c.documents.source) (g.D.Source.faults c.documents.source) _ i.done _ i.lines i.split i.told last
    c.end-2.result.code c.documents.status.code _ _ _ _ _ _ i.sent c.documents.held.items (no-names-left (string_bytes {Z = Global}) c.args.names.now c.documents.name-index test) i.status i.faults i.text i.grown (rw c.deref-2.ensures.value at c.end-2.ensures.sent)

pub returns-then-not-put_all : goal.returns-then-not-put_all
returns-then-not-put_all g c =
    let i = c.documents.invariant in
    let line : Output = c.in-Ok.line in
    let name = c.as_str.result.now in
    let names = c.args.names.now in
    let holds = g.D.Source.holds c.args.source.now in
    let from = g.D.Source.faults c.args.source.now in
    let mid = g.D.Source.faults c.documents.source in
    let till = g.D.Source.faults c.tell.new.source in
    let In = IsAccepted c.args.auto c.args.state in
    let text : line.text ≡ c.line.inside.text.items = ap (λ (o : Output). o.text) (sym c.line.view_is) in
    let taken : c.extend_from_slice.new.self.items ≡ c.documents.held.items ++ c.deref-in-documents.result.now = grind (arith, common_steps, c.extend_from_slice.ensures.items, c.is_err.ensures.value, c.if-is_err.false) in
    let held : c.extend_from_slice.new.self.items ≡ c.documents.held.items ++ line.text = taken ∙ ap (λ (t : List ℕ). c.documents.held.items ++ t) (c.deref-in-documents.ensures.value ∙ sym text) in
    let split = split-then (map (string_bytes {Z = Global}) names) i.done _ _ name i.split (names-left (string_bytes {Z = Global}) names c.documents.name-index c.name-item.result name c.documents-test.true c.name-item.is c.as_str.ensures.value) in
    let here = told-here c.documents.automaton c.args.auto c.args.state holds (g.D.Source.holds c.documents.source) (HasRisen mid till) name line i.automaton i.same c.in-Ok.ensures.told in
    let told = told-then In holds from mid till i.done i.lines name line i.told c.in-Ok.ensures.never_falls here in
    let same : till ≤ till = omega arith in
    let front = rw c.deref-then-len-ge-HELD.ensures.value at c.if-not-put_all.ensures.front in
    ends-early In holds from till till (map (string_bytes {Z = Global}) names) (i.done ++ name ∷ []) _ (i.lines ++ line ∷ []) split told same
    4 5 _ _ _ _ _ _ i.sent c.extend_from_slice.new.self.items refl i.faults (lines-then i.lines line i.sent c.documents.held.items c.extend_from_slice.new.self.items i.text held) i.grown (inr (refl, (c.if-not-put_all.ensures.failed, front)))

-- what is held back was written
cleared : (v w : Vec ℕ Global) → v ≡ w → w.items ≡ [] → v.items ≡ []
cleared v w e n = ap (λ (x : Vec ℕ Global). x.items) e ∙ n

pub documents-preserved : goal.documents-preserved
documents-preserved g c =
    let i = c.documents.invariant in
    let line : Output = c.in-Ok.line in
    let name = c.as_str.result.now in
    let names = c.args.names.now in
    let holds = g.D.Source.holds c.args.source.now in
    let from = g.D.Source.faults c.args.source.now in
    let mid = g.D.Source.faults c.documents.source in
    let till = g.D.Source.faults c.tell.new.source in
    let In = IsAccepted c.args.auto c.args.state in
    let text : line.text ≡ c.line.inside.text.items = ap (λ (o : Output). o.text) (sym c.line.view_is) in
    let taken : c.extend_from_slice.new.self.items ≡ c.documents.held.items ++ c.deref-in-documents.result.now = grind (arith, common_steps, c.extend_from_slice.ensures.items, c.is_err.ensures.value, c.if-is_err.false) in
    let held : c.extend_from_slice.new.self.items ≡ c.documents.held.items ++ line.text = taken ∙ ap (λ (t : List ℕ). c.documents.held.items ++ t) (c.deref-in-documents.ensures.value ∙ sym text) in
    let all = lines-then i.lines line i.sent c.documents.held.items c.extend_from_slice.new.self.items i.text held in
    let own : line.status ≡ c.line.inside.status.code = ap (λ (o : Output). o.status) (sym c.line.view_is) in
    let status : c.joined-status.result.code ≡ status_from 0 (i.lines ++ line ∷ []) =
    c.joined-status.ensures ∙ ap (λ (n : ℕ). joined n c.line.inside.status.code) i.status ∙ ap (λ (n : ℕ). joined (status_from 0 i.lines) n) (sym own) ∙ sym (status-then 0 i.lines line) in
    let split = split-then (map (string_bytes {Z = Global}) names) i.done _ _ name i.split (names-left (string_bytes {Z = Global}) names c.documents.name-index c.name-item.result name c.documents-test.true c.name-item.is c.as_str.ensures.value) in
    let here = told-here c.documents.automaton c.args.auto c.args.state holds (g.D.Source.holds c.documents.source) (HasRisen mid till) name line i.automaton i.same c.in-Ok.ensures.told in
    let told = told-then In holds from mid till i.done i.lines name line i.told c.in-Ok.ensures.never_falls here in
    elim c.if-len-ge-HELD.branch [
      | then-len-ge-HELD+else-not-put_all w ↦ record {
        done = i.done ++ name ∷ [];
        lines = i.lines ++ line ∷ [];
        sent = i.sent ++ c.extend_from_slice.new.self.items;
        split = split;
        told = told;
        text = all ∙ sym (append-nil (i.sent ++ c.extend_from_slice.new.self.items)) ∙ ap (λ (t : List ℕ). (i.sent ++ c.extend_from_slice.new.self.items) ++ t) (sym (cleared c.if-len-ge-HELD.held w.clear.new.self w.held-is w.clear.ensures.items));
        grown = rw w.sink-is (HasGrown-then (g.S.Sink.written c.args.sink.now) (g.S.Sink.written c.documents.sink) (g.S.Sink.written w.put_all.new.sink) i.sent c.extend_from_slice.new.self.items i.grown (rw w.deref-then-len-ge-HELD.ensures.value at w.if-not-put_all.ensures.whole));
        status = status;
        automaton = c.in-Ok.ensures.automaton ∙ i.automaton;
        same = c.in-Ok.ensures.same ∙ i.same;
        faults = rw w.sink-is (omega (arith, i.faults, w.put_all.ensures.never_falls));
      }
      | else-len-ge-HELD w ↦ record {
        done = i.done ++ name ∷ [];
        lines = i.lines ++ line ∷ [];
        sent = i.sent;
        split = split;
        told = told;
        text = rw w.held-is all;
        grown = rw w.sink-is i.grown;
        status = status;
        automaton = c.in-Ok.ensures.automaton ∙ i.automaton;
        same = c.in-Ok.ensures.same ∙ i.same;
        faults = rw w.sink-is i.faults;
      }
    ]
