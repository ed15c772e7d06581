use Rattle.std.proofs.Common.{ℕ, ◌≡◌, nat_eq, Bool, true, false, cond, List, [], ◌∷◌, ◌++◌, length, Some, vec_len, rules, refl, sym, subst, ◌∙◌}
use Rattle.std.specs.HashMap.{get}
use Rattle.xd_doc.proofs.Numbers.{number_same}
use Rattle.xd_syntax.specs.Kept.{program_tree}
use Rattle.xd_syntax.specs.Program.{names_of}
use Rattle.xd_syntax.specs.Table.{tree_at}
use Rattle.xd_match.specs.Matcher.{AllStand, HasMatcher}
use Rattle.xd_match.specs.declared.matcher.Matcher.{Matcher}
use Rattle.xd_match.proofs.PatternLaws.{all_stand_more, has_matcher_more, has_matcher_new}
use Rattle.xd_match.proofs.matchers.Matchers.number_of.Goals as goal

pub returns-in_err-push-clause-numbered : goal.returns-in_err-push-clause-numbered
returns-in_err-push-clause-numbered c n i e =
    let p = c.args.sound.now in
    subst (λ (ms : List Matcher). HasMatcher (names_of (program_tree p)) (tree_at p.patterns n) ms i) (sym c.in_err-push.ensures.items) (c.requires.numbered n i e)

pub returns-in_err-insert-clause-numbered : goal.returns-in_err-insert-clause-numbered
returns-in_err-insert-clause-numbered c n i e =
    let p = c.args.sound.now in
    let old : get nat_eq c.args.self.now.numbers n ≡ Some i = rw c.in_err-insert.ensures.err at e in
    subst (λ (ms : List Matcher). HasMatcher (names_of (program_tree p)) (tree_at p.patterns n) ms i) (sym c.in_ok-push.ensures.items)
    (has_matcher_more (names_of (program_tree p)) (tree_at p.patterns n) c.args.self.now.matchers.items c.in_ok-matcher.matcher i (c.requires.numbered n i old))

pub returns-in_err-insert-clause-stand : goal.returns-in_err-insert-clause-stand
returns-in_err-insert-clause-stand c ds h =
    subst (AllStand ds) (sym c.in_ok-push.ensures.items) (all_stand_more ds c.args.self.now.matchers.items c.in_ok-matcher.matcher h (c.in_ok-matcher.ensures.stands ds))

pub returns-clause-numbered : goal.returns-clause-numbered
returns-clause-numbered c n i e = go (nat_eq key n) refl (sym (c.in_ok-insert.ensures.updates.0 n) ∙ e)
  where
    key : ℕ
    key = c.at-at.result

    more : List Matcher
    more = c.args.self.now.matchers.items ++ c.in_ok-matcher.matcher ∷ []

    go : (b : Bool) → nat_eq key n ≡ b → cond b (Some c.len-number.result) (get nat_eq c.args.self.now.numbers n) ≡ Some i →
        HasMatcher (names_of (program_tree c.args.sound.now)) (tree_at c.args.sound.now.patterns n) c.push.new.self.items i
    go false q f =
        subst (λ (ms : List Matcher). HasMatcher (names_of (program_tree c.args.sound.now)) (tree_at c.args.sound.now.patterns n) ms i) (sym c.in_ok-push.ensures.items)
        (has_matcher_more (names_of (program_tree c.args.sound.now)) (tree_at c.args.sound.now.patterns n) c.args.self.now.matchers.items c.in_ok-matcher.matcher i (c.requires.numbered n i f))
    go true q f =
        let same : n ≡ c.args.pattern.at = number_same key n q ∙ c.at-at.ensures in
        let last : c.len-number.result ≡ i = cc in
        let v : vec_len c.args.self.now.matchers ≡ length c.args.self.now.matchers.items = search rules in
        let count : length c.args.self.now.matchers.items ≡ i = sym v ∙ sym c.len-number.ensures ∙ last in
        subst (λ (ms : List Matcher). HasMatcher (names_of (program_tree c.args.sound.now)) (tree_at c.args.sound.now.patterns n) ms i) (sym c.in_ok-push.ensures.items)
        (subst (λ (j : ℕ). HasMatcher (names_of (program_tree c.args.sound.now)) (tree_at c.args.sound.now.patterns n) more j) count
        (subst (λ (m : ℕ). HasMatcher (names_of (program_tree c.args.sound.now)) (tree_at c.args.sound.now.patterns m) more (length c.args.self.now.matchers.items)) (sym same)
        (has_matcher_new (names_of (program_tree c.args.sound.now)) (tree_at c.args.sound.now.patterns c.args.pattern.at) c.args.self.now.matchers.items c.in_ok-matcher.matcher c.in_ok-matcher.ensures.pattern)))

pub returns-clause-stand : goal.returns-clause-stand
returns-clause-stand c ds h =
    subst (AllStand ds) (sym c.in_ok-push.ensures.items) (all_stand_more ds c.args.self.now.matchers.items c.in_ok-matcher.matcher h (c.in_ok-matcher.ensures.stands ds))
