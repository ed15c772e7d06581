use Rattle.std.proofs.Common.{◌≡◌, ◌<◌, ◌∙◌, ◌-◌, length, sym, arith, refl, rules}
use Rattle.std.proofs.lemmas.List.{get_or_default}
use Rattle.xd_heads.specs.HeadList.{kind_at}
use Rattle.xd_proof_check.specs.Paths.{heads_split, turns_of}
use Rattle.xd_proof_check.specs.Walk.{setting_of}
use Rattle.xd_proof_check.proofs.LeafLemmas.{more_is, zero_not}
use Rattle.xd_proof_check.proofs.SettingLemmas.{fits_again, fits_new, fits_none, fits_other, kind_none, kind_some, length-kinds_of}
use Rattle.xd_proof_check.proofs.walk.head_to_split.Goals as goal

pub returns-in_default : goal.returns-in_default
returns-in_default c =
    let n = c.args.number in
    fits_none (setting_of c.args.setting.now) (turns_of c.args.path.now) n (kind_none c.args.setting.now.rights.now n c.in_default.ensures)

pub returns-then-not-matches : goal.returns-then-not-matches
returns-then-not-matches c =
    let n = c.args.number in
    let h = c.in-Some.head.now in
    let k = kind_some c.args.setting.now.rights.now n h c.in-Some.ensures in
    fits_other (setting_of c.args.setting.now) (turns_of c.args.path.now) n (kind_at h.kind) k.0 (sym c.matches.ensures ∙ c.if-not-matches.true)

pub index-requires : goal.index-requires
index-requires c =
    let rights = c.args.setting.now.rights.now in
    let k = kind_some rights c.args.number c.in-Some.head.now c.in-Some.ensures in
    let a = k.2 in
    let b = length-kinds_of rights in
    let d = c.requires.setting.heads in
    let e = c.requires.setting.room.split in
    let l : c.args.number - 1 < length c.args.path.now.split.items = omega arith in
    search rules

pub returns-then-index-gt0 : goal.returns-then-index-gt0
returns-then-index-gt0 c =
    let n = c.args.number in
    let p = c.args.path.now in
    let t = c.if-index-gt0.true in
    let rights = c.args.setting.now.rights.now in
    let k = kind_some rights n c.in-Some.head.now c.in-Some.ensures in
    let a = k.2 in
    let b = length-kinds_of rights in
    let d = c.requires.setting.heads in
    let e = c.requires.setting.room.split in
    let l : n - 1 < length p.split.items = omega arith in
    let r = c.index.ensures ∙ get_or_default p.split.items (n - 1) c.index.result.now 0 l in
    fits_again (setting_of c.args.setting.now) (turns_of p) n
    (more_is p.split.items (heads_split (turns_of p)) (n - 1) c.requires.path.marks.on_path (λ z. absurd (let q = r ∙ z in omega arith)))

pub returns : goal.returns
returns c =
    let n = c.args.number in
    let p = c.args.path.now in
    let h = c.in-Some.head.now in
    let rights = c.args.setting.now.rights.now in
    let k = kind_some rights n h c.in-Some.ensures in
    let t = c.if-index-gt0.false in
    let a = k.2 in
    let b = length-kinds_of rights in
    let d = c.requires.setting.heads in
    let e = c.requires.setting.room.split in
    let l : n - 1 < length p.split.items = omega arith in
    let r = c.index.ensures ∙ get_or_default p.split.items (n - 1) c.index.result.now 0 l in
    let z : c.index.result.now ≡ 0 = omega arith in (
      fits_new (setting_of c.args.setting.now) (turns_of p) n (kind_at h.kind) k.0 (sym c.matches.ensures ∙ c.if-not-matches.false)
          (zero_not p.split.items (heads_split (turns_of p)) (n - 1) c.requires.path.marks.on_path (sym r ∙ z)),
      refl,
      omega arith,
    )
