use Rattle.xd_proof.proofs.CaseLemmas.{other_word, case_word_free, no_head, no_head_number, no_choice, case_is, result_made}
use Rattle.xd_proof.proofs.cases.read_case.Goals as goal

pub behind_word-requires : goal.behind_word-requires
behind_word-requires c = case_word_free _ c.as_slice.ensures

pub returns-in_default : goal.returns-in_default
returns-in_default c = other_word _ _ c.as_slice.ensures c.in_default.ensures

pub returns-in_default-before_mark : goal.returns-in_default-before_mark
returns-in_default-before_mark c = no_head _ _ _ c.in-Some.ensures (case_word_free _ c.as_slice.ensures) c.in_default-before_mark.ensures

pub returns-in_default-read_number : goal.returns-in_default-read_number
returns-in_default-read_number c = let m = c.in-Some-before_mark.ensures in no_head_number _ _ _ _ _ c.in-Some.ensures (case_word_free _ c.as_slice.ensures) m.0 m.1 c.in_default-read_number.ensures

pub returns : goal.returns
returns c =
    let m = c.in-Some-before_mark.ensures in
    result_made c.read_choice.result (λ never. no_choice _ _ _ _ _ c.in-Some.ensures (case_word_free _ c.as_slice.ensures) m.0 m.1 never) (λ x q. case_is _ _ _ _ _ _ x c.in-Some.ensures c.as_slice.ensures m.0 c.in-Some-read_number.ensures q) c.read_choice.ensures
