-- What a walk has found, part by part.
use Rattle.std.proofs.Common.{◌≡◌, List, [], ◌∷◌, ◌++◌, refl, ap, sym, subst, ◌∙◌, append-nil, append_assoc}
use Rattle.std.specs.List.{AllZip}
use Rattle.std.proofs.lemmas.List.{map-append}
use Rattle.xd_auto.specs.Automaton.{Automaton}
use Rattle.xd_doc.specs.Document.{Document}
use Rattle.xd_doc.specs.StoreNodes.{Keeps}
use Rattle.xd_syntax.specs.CheckFaults.{Line}
use Rattle.xd_syntax.specs.Kept.{ProgramTable, program_tree}
use Rattle.xd_syntax.specs.Matches.{SeenMatch}
use Rattle.xd_syntax.specs.May.{May}
use Rattle.xd_check_steps.specs.Found.{AddsFound, Found, InOrder, IsMet, JustLines, Seen, StandsFor, followed, none_seen}
use Rattle.xd_check_steps.specs.FoundLines.{AddsLines, line_of, lines_of}
use Rattle.xd_check_steps.specs.States.{Grows}
use Rattle.xd_check_steps.specs.declared.findings.MetMatch.{MetMatch}
use Rattle.xd_check_steps.specs.declared.lines.FoundLine.{FoundLine}
use Rattle.xd_check_steps.proofs.GrowsLemmas.{just_kept}
use Rattle.xd_check_steps.proofs.LineLists.{belong_joined, belong_kept, lines_kept}

pub met_kept : (p : ProgramTable) (a b : Automaton) → Grows a b → (ms : List SeenMatch) (xs : List MetMatch) → AllZip (IsMet p a) ms xs → AllZip (IsMet p b) ms xs
met_kept p a b g [] [] h = h
met_kept p a b g [] (x ∷ xs) h = absurd h
met_kept p a b g (m ∷ ms) [] h = absurd h
met_kept p a b g (m ∷ ms) (x ∷ xs) h = (
  record {
    match = (h.0).match;
    walkable = (h.0).walkable;
    place = (h.0).place;
    belongs = (g.extends).states x.state (h.0).belongs;
    exact = just_kept a b g x.state (May (program_tree p) m.scope m.scrutinee) (h.0).belongs (h.0).exact;
  },
  met_kept p a b g ms xs h.1,
)

met_joined : (p : ProgramTable) (a : Automaton) (ms ns : List SeenMatch) (xs ys : List MetMatch) → AllZip (IsMet p a) ms xs → AllZip (IsMet p a) ns ys → AllZip (IsMet p a) (ms ++ ns) (xs ++ ys)
met_joined p a [] ns [] ys h k = k
met_joined p a [] ns (x ∷ xs) ys h k = absurd h
met_joined p a (m ∷ ms) ns [] ys h k = absurd h
met_joined p a (m ∷ ms) ns (x ∷ xs) ys h k = (h.0, met_joined p a ms ns xs ys h.1 k)

stands_kept : (p : ProgramTable) (a b : Automaton) → Grows a b → (ds es : List Document) → Keeps ds es → (s : Seen) (f : Found) → StandsFor p a ds s f → StandsFor p b es s f
stands_kept p a b g ds es k s f h = record {
  lines = lines_kept ds es k f.lines h.belong ∙ h.lines;
  belong = belong_kept ds es k f.lines h.belong;
  met = met_kept p a b g s.matches f.met h.met;
}

pub followed_none : (s : Seen) → followed s none_seen ≡ s
followed_none s = ap (λ (ls : List Line). record { lines = ls; matches = s.matches ++ [] }) (append-nil s.lines) ∙ ap (λ (ms : List SeenMatch). record { lines = s.lines; matches = ms }) (append-nil s.matches)

followed_on : (s t u : Seen) → followed (followed s t) u ≡ followed s (followed t u)
followed_on s t u =
    ap (λ (ls : List Line). record { lines = ls; matches = (s.matches ++ t.matches) ++ u.matches }) (append_assoc s.lines t.lines u.lines)
    ∙ ap (λ (ms : List SeenMatch). record { lines = s.lines ++ (t.lines ++ u.lines); matches = ms }) (append_assoc s.matches t.matches u.matches)

pub adds_none : {p : ProgramTable} {a : Automaton} {ds : List Document} (A : Seen → Type 0) → A none_seen → (f : Found) → AddsFound p a ds A f f
adds_none A h f = record {
  more = record { lines = []; met = [] };
  lines = sym (append-nil f.lines);
  met = sym (append-nil f.met);
  seen = none_seen;
  stands = record { lines = refl; belong = tt; met = tt };
  meet = h;
}

pub adds_as : {p : ProgramTable} {a : Automaton} {ds : List Document} {old new : Found} (A B : Seen → Type 0) → ((s : Seen) → A s → B s) → AddsFound p a ds A old new → AddsFound p a ds B old new
adds_as A B f h = record { more = h.more; lines = h.lines; met = h.met; seen = h.seen; stands = h.stands; meet = f h.seen h.meet }

-- what was added stays, while the automaton and the store grow
pub adds_kept : {p : ProgramTable} {a b : Automaton} {ds es : List Document} {old new : Found} → Grows a b → Keeps ds es → (A : Seen → Type 0) → AddsFound p a ds A old new → AddsFound p b es A old new
adds_kept {p} {a} {b} {ds} {es} g k A h = record { more = h.more; lines = h.lines; met = h.met; seen = h.seen; stands = stands_kept p a b g ds es k h.seen h.more h.stands; meet = h.meet }

-- lines alone
pub adds_lines : {p : ProgramTable} {a : Automaton} {ds : List Document} (A : List Line → Type 0) (old new : Found) → AddsLines ds A old.lines new.lines → new.met ≡ old.met → AddsFound p a ds (JustLines A) old new
adds_lines {p} {a} {ds} A old new h e = record {
  more = record { lines = h.more; met = [] };
  lines = h.grown;
  met = e ∙ sym (append-nil old.met);
  seen = record { lines = lines_of ds h.more; matches = [] };
  stands = record { lines = refl; belong = h.belong; met = tt };
  meet = (h.meet, refl);
}

pub lines_added : {p : ProgramTable} {a : Automaton} {ds : List Document} {old new : Found} (A : Seen → Type 0) (B : List Line → Type 0) → ((s : Seen) → A s → B s.lines) → AddsFound p a ds A old new → AddsLines ds B old.lines new.lines
lines_added A B f h = record { more = (h.more).lines; grown = h.lines; belong = (h.stands).belong; meet = subst B (sym (h.stands).lines) (f h.seen h.meet) }

-- what two parts add, one after the other, while the automaton and the store grow
module _ {p : ProgramTable} {a b : Automaton} {ds es : List Document} {old mid new : Found} (g : Grows a b) (k : Keeps ds es) where
  pub adds_more : (A B C : Seen → Type 0) → ((s t : Seen) → A s → B t → C (followed s t)) → AddsFound p a ds A old mid → AddsFound p b es B mid new → AddsFound p b es C old new
  adds_more A B C f h i =
      let x = h.more in
      let y = i.more in
      let s = stands_kept p a b g ds es k h.seen h.more h.stands in
      let t = i.stands in
      record {
        more = record { lines = x.lines ++ y.lines; met = x.met ++ y.met };
        lines = i.lines ∙ ap (λ ls. ls ++ y.lines) h.lines ∙ append_assoc old.lines x.lines y.lines;
        met = i.met ∙ ap (λ ms. ms ++ y.met) h.met ∙ append_assoc old.met x.met y.met;
        seen = followed h.seen i.seen;
        stands = record {
          lines = map-append (line_of es) x.lines y.lines ∙ ap (λ ls. ls ++ lines_of es y.lines) s.lines ∙ ap (λ ls. (h.seen).lines ++ ls) t.lines;
          belong = belong_joined es x.lines y.lines s.belong t.belong;
          met = met_joined p b (h.seen).matches (i.seen).matches x.met y.met s.met t.met;
        };
        meet = f h.seen i.seen h.meet i.meet;
      }

  pub adds_both : (A B : Seen → Type 0) → AddsFound p a ds A old mid → AddsFound p b es B mid new → AddsFound p b es (InOrder A B) old new
  adds_both A B = adds_more A B (InOrder A B) (λ s t x y. (s, t, x, y, refl))

-- with what the rest has after them they are the whole's
abbrev pub Goes : (Seen → Type 0) → (Seen → Type 0) → Seen → Type 0
Goes R W s = (t : Seen) → R t → W (followed s t)

pub goes_begin : {p : ProgramTable} {a : Automaton} {ds : List Document} (W : Seen → Type 0) (f : Found) → AddsFound p a ds (Goes W W) f f
goes_begin W f = adds_none (Goes W W) (λ t h. h) f

-- one more part
pub goes_more : {p : ProgramTable} {a b : Automaton} {ds es : List Document} {old mid new : Found} → Grows a b → Keeps ds es → (R X Z W : Seen → Type 0) → ((s t : Seen) → X s → Z t → R (followed s t)) →
    AddsFound p a ds (Goes R W) old mid → AddsFound p b es X mid new → AddsFound p b es (Goes Z W) old new
goes_more g k R X Z W f h i = adds_more g k (Goes R W) X (Goes Z W) (λ s t r x u z. subst W (sym (followed_on s t u)) (r (followed t u) (f t u x z))) h i

-- all of the rest
pub goes_end : {p : ProgramTable} {a b : Automaton} {ds es : List Document} {old mid new : Found} → Grows a b → Keeps ds es → (R W : Seen → Type 0) → AddsFound p a ds (Goes R W) old mid → AddsFound p b es R mid new → AddsFound p b es W old new
goes_end g k R W h i = adds_more g k (Goes R W) R W (λ s t r x. r t x) h i

-- nothing is left
pub goes_all : {p : ProgramTable} {a : Automaton} {ds : List Document} {old new : Found} (R W : Seen → Type 0) → R none_seen → AddsFound p a ds (Goes R W) old new → AddsFound p a ds W old new
goes_all R W none h = adds_as (Goes R W) W (λ s r. subst W (followed_none s) (r none_seen none)) h

-- this match, and then what meets the fact
abbrev pub Begins : SeenMatch → (Seen → Type 0) → Seen → Type 0
Begins m A s = (ms : List SeenMatch) × A (record { lines = s.lines; matches = ms }) × (s.matches ≡ m ∷ ms)

-- a match was put before what was met since, which began with none
pub adds_before : {p : ProgramTable} {a : Automaton} {ds : List Document} (A : Seen → Type 0) (lines : List FoundLine) (none earlier after : List MetMatch) (mid : Found) (m : SeenMatch) (x : MetMatch) →
    none ≡ [] → IsMet p a m x → after ≡ earlier ++ x ∷ mid.met → AddsFound p a ds A (record { lines = lines; met = none }) mid →
    AddsFound p a ds (Begins m A) (record { lines = lines; met = earlier }) (record { lines = mid.lines; met = after })
adds_before A lines none earlier after mid m x z i e h = record {
  more = record { lines = (h.more).lines; met = x ∷ (h.more).met };
  lines = h.lines;
  met = e ∙ ap (λ xs. earlier ++ x ∷ xs) (h.met ∙ ap (λ xs. xs ++ (h.more).met) z);
  seen = record { lines = (h.seen).lines; matches = m ∷ (h.seen).matches };
  stands = record { lines = (h.stands).lines; belong = (h.stands).belong; met = (i, (h.stands).met) };
  meet = ((h.seen).matches, h.meet, refl);
}
