use Rattle.std.proofs.Common.{◌≡◌, ◌+◌, ◌++◌, map, ap, sym, ◌∙◌}
use Rattle.std.specs.Str.{bytes_eq}
use Rattle.xd_proof_write.specs.SecondText.{number_among}
use Rattle.xd_proof_write.specs.Written.{texts_in, with_text, text_at}
use Rattle.xd_proof_write.proofs.NumberLemmas.{put_text, put_number, position_mapped}
use Rattle.xd_proof_write.proofs.numbers.Numbers.put.Goals as goal

pub returns-clause-number : goal.returns-clause-number
returns-clause-number c = λ more.
    let old = texts_in c.args.self.now in
    let t = text_at c.args.types.now c.args.id in
    let text : (c.type_text.new.out).items ≡ t = c.in_ok-type_text.ensures.ok ∙ ap (λ s. s ++ text_at c.args.types.now c.args.id) c.new-text.ensures.items in
    let put = put_text (λ v. v.items) c.type_text.new.out (c.args.self.now.texts).keys (c.insert_full.new.self).keys c.in_ok-index.ensures.keys in
    ap (λ s. number_among bytes_eq (map (λ v. v.items) (c.insert_full.new.self).keys ++ more) s) (sym text)
    ∙ ap (λ ts. number_among bytes_eq (ts ++ more) (c.type_text.new.out).items) put
    ∙ put_number old (c.type_text.new.out).items more
    ∙ ap (λ n. n + 1) (sym (c.in_ok-index.ensures.index ∙ position_mapped (λ v. v.items) (c.type_text.new.out).items (c.args.self.now.texts).keys))

pub returns-clause-texts : goal.returns-clause-texts
returns-clause-texts c =
    let text : (c.type_text.new.out).items ≡ text_at c.args.types.now c.args.id = c.in_ok-type_text.ensures.ok ∙ ap (λ s. s ++ text_at c.args.types.now c.args.id) c.new-text.ensures.items in
    put_text (λ v. v.items) c.type_text.new.out (c.args.self.now.texts).keys (c.insert_full.new.self).keys c.in_ok-index.ensures.keys
    ∙ ap (with_text (texts_in c.args.self.now)) text
