use Rattle.std.proofs.Common.{◌≡◌, ◌-◌, ◌≤◌, ℕ, List, [], length, arith, ap, sym, ◌∙◌}
use Rattle.xd_auto.specs.declared.auto.State.{State}
use Rattle.xd_auto.specs.Automaton.{state_number}
use Rattle.xd_auto.specs.declared.kind.MoveKind.{MoveKind}
use Rattle.xd_auto.specs.declared.kind.MoveKind.TheVariants as M
use Rattle.xd_patterns.specs.Held.{lists_at}
use Rattle.xd_patterns.specs.Compiling.{rows_in, texts_at, labels_at}
use Rattle.xd_patterns.specs.declared.compile.StateMarks.{StateMarks}
use Rattle.xd_patterns.specs.declared.mark_table.MarkTable.{MarkTable}
use Rattle.xd_patterns.proofs.VariableLemmas.{row_got, no_row, new_state}
use Rattle.xd_patterns.proofs.mark_table.MarkTable.lists_of.Goals as goal

none_at : (m : MarkTable) (s : State) (kind : MoveKind) → m.base ≤ state_number s → length m.rows.items ≤ state_number s - m.base → [] ≡ lists_at m s kind
none_at m s M.Label h l = sym (new_state m.base (labels_at (rows_in m.rows.items) (state_number s - m.base)) (state_number s) h ∙ ap (λ (x : List ℕ × List ℕ). x.1) (no_row m.rows.items (state_number s - m.base) l))
none_at m s M.Text h l = sym (new_state m.base (texts_at (rows_in m.rows.items) (state_number s - m.base)) (state_number s) h ∙ ap (λ (x : List ℕ × List ℕ). x.0) (no_row m.rows.items (state_number s - m.base) l))

pub returns-then-at-len : goal.returns-then-at-len
returns-then-at-len c =
    let n = c.number-number.ensures in
    let f = c.if-number-self.false in
    let t = c.if-at-len.true in
    none_at c.args.self.now c.args.state c.args.kind (omega arith) (omega (arith, c.len.ensures, c.args.self.now.rows.ok.0))

pub returns-in-Label : goal.returns-in-Label
returns-in-Label c =
    let m = c.args.self.now in
    let i = state_number c.args.state - m.base in
    let n = c.number-number.ensures in
    let f = c.if-number-self.false in
    let t = c.if-at-len.false in
    let row = ap (λ (r : StateMarks). r.labels.items) (c.index-row.ensures) in
    c.as_slice.ensures.value ∙ row ∙ sym (ap (λ (x : List ℕ × List ℕ). x.1) (row_got m.rows.items (c.number-number.result - m.base) c.index-row.result.now (omega (arith, c.len.ensures, c.args.self.now.rows.ok.0))))
    ∙ ap (λ s. labels_at (rows_in m.rows.items) (s - m.base)) n
    ∙ sym (new_state m.base (labels_at (rows_in m.rows.items) i) (state_number c.args.state) (omega arith)) ∙ sym (ap (lists_at m c.args.state) c.in-Label.is)

pub returns-in-Text : goal.returns-in-Text
returns-in-Text c =
    let m = c.args.self.now in
    let i = state_number c.args.state - m.base in
    let n = c.number-number.ensures in
    let f = c.if-number-self.false in
    let t = c.if-at-len.false in
    let row = ap (λ (r : StateMarks). r.texts.items) (c.index-row.ensures) in
    c.as_slice-in-Text.ensures.value ∙ row ∙ sym (ap (λ (x : List ℕ × List ℕ). x.0) (row_got m.rows.items (c.number-number.result - m.base) c.index-row.result.now (omega (arith, c.len.ensures, c.args.self.now.rows.ok.0))))
    ∙ ap (λ s. texts_at (rows_in m.rows.items) (s - m.base)) n
    ∙ sym (new_state m.base (texts_at (rows_in m.rows.items) i) (state_number c.args.state) (omega arith)) ∙ sym (ap (lists_at m c.args.state) c.in-Text.is)
