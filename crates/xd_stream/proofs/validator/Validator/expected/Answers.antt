use Rattle.std.proofs.Common.{◌≡◌, ◌↔◌, Bool, true, sym, subst}
use Rattle.xd_stream.proofs.GoesOnWithLemmas.{close_told, comma_told, end_told, label_told, paren_l_told, paren_r_told, text_told}
use Rattle.xd_stream.proofs.validator.Validator.expected.Goals as goal

-- the same of an equal test
told_too : {P : Type 0} (b c : Bool) → c ≡ b → (b ≡ true) ↔ P → (c ≡ true) ↔ P
told_too {P} b c e h = subst (λ (x : Bool). (x ≡ true) ↔ P) (sym e) h

pub returns : goal.returns
returns c = λ ts h.
    let v = c.args.self.now in
    record {
      labels = λ l w. told_too _ _ (c.in_ok-labels.ensures l) (label_told v ts h l w);
      texts = λ t w. told_too _ _ (c.in_ok-texts.ensures t) (text_told v ts h t w);
      comma = told_too _ _ c.may_go_on.ensures (comma_told v ts h);
      bracket_r = told_too _ _ c.may_close.ensures (close_told v ts h);
      paren_l = told_too _ _ c.may_be_empty.ensures (paren_l_told v ts h);
      paren_r = told_too _ _ c.may_close_parens.ensures (paren_r_told v ts h);
      end = told_too _ _ c.may_finish.ensures (end_told v ts h);
    }
