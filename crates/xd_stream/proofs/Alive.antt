-- Terminals begin an accepted document exactly where some pair is alive.
use Rattle.std.proofs.Common.{◌≡◌, suc, Bool, true, false, not, ◌&&◌, List, [], ◌∷◌, length, refl, sym, ap, ◌∙◌}
use Rattle.std.specs.List.{list_any}
use Rattle.std.proofs.lemmas.Bool.{and_parts, and_from}
use Rattle.std.proofs.lemmas.Map.Keys.{any_passes_from_place}
use Rattle.xd_doc.specs.Document.{Document, empty, text, element, join, has_item, is_proper}
use Rattle.xd_read.specs.Grammar.{Terminal}
use Rattle.xd_auto.specs.declared.auto.State.{State}
use Rattle.xd_auto.specs.Automaton.{Automaton, accepts, moves_at}
use Rattle.xd_auto.proofs.Anys.{Found, found}
use Rattle.xd_empty.specs.Parts.{AreMarks, HasDocument, is_marked}
use Rattle.xd_stream.specs.Pairs.{same_state}
use Rattle.xd_stream.specs.StopByState.{BeginsAccepted}
use Rattle.xd_stream.specs.Standing.{whole, finishes, completes_by, is_first, is_sound, is_sound_wait, AreWaiting, AreItemMarks, HasItemDocument, AreProper, may_be_left, is_alive_at, Keeps}
use Rattle.xd_stream.specs.declared.pairs.Pair.{Pair}
use Rattle.xd_stream.specs.declared.pairs.Waiting.{Waiting}
use Rattle.xd_stream.specs.declared.position.Position.{Position}
use Rattle.xd_stream.specs.declared.position.Position.TheVariants as positions
use Rattle.xd_stream.proofs.AllPassLemmas.{pass_at}
use Rattle.xd_stream.proofs.WholeLemmas.{spell_rest, left_may, up_of, AreRests, rests_of}

-- documents for what follows the open elements, where the innermost content began with this state
pub record HasRests (a : Automaton) (wss : List (List Waiting)) (c : State) : Type 0 where
  pub rests : List Document
  pub count : length rests ≡ length wss
  pub proper : AreProper rests
  pub finish : finishes a wss c rests ≡ true

pub has_rests : (a : Automaton) (marks : List Bool) (wss : List (List Waiting)) (c : State) → AreMarks a marks → AreWaiting marks wss → is_first wss c ≡ true → HasRests a wss c
has_rests a marks [] c m w h = record { rests = []; count = refl; proper = tt; finish = refl }
has_rests a marks (ws ∷ wss) c m w h =
    let f : Found (λ (v : Waiting). same_state v.content c) ws = found (λ v. same_state v.content c) ws h in
    let sound = and_parts (is_marked marks f.item.rest) (is_first wss f.item.first) (pass_at (is_sound_wait marks wss) ws f.place f.item w.0 f.there) in
    let d : HasDocument a f.item.rest = m.some f.item.rest sound.0 in
    let more : HasRests a wss f.item.first = has_rests a marks wss f.item.first m w.1 sound.1 in
    record {
      rests = d.document ∷ more.rests;
      count = ap suc more.count;
      proper = (d.proper, more.proper);
      finish = any_passes_from_place (λ v. same_state v.content c && (accepts a d.document v.rest && finishes a wss v.first more.rests)) ws f.place f.item f.there
          (and_from (same_state f.item.content c) _ f.passes (and_from (accepts a d.document f.item.rest) _ d.accepted more.finish));
    }

-- a document for what is left of the innermost content
record HasLeft (a : Automaton) (e : Position) (s : State) : Type 0 where
  left : Document
  may : may_be_left e left ≡ true
  proper : is_proper left ≡ true
  accepted : accepts a left s ≡ true

any_left : (a : Automaton) (marks : List Bool) (e : Position) (s : State) → ((r : Document) → may_be_left e r ≡ true) → AreMarks a marks → is_marked marks s ≡ true → HasLeft a e s
any_left a marks e s may m h = let d : HasDocument a s = m.some s h in record { left = d.document; may = may d.document; proper = d.proper; accepted = d.accepted }

has_left : (a : Automaton) (marks items : List Bool) (e : Position) (p : Pair) → AreMarks a marks → AreItemMarks a items → is_marked marks p.present ≡ true → is_alive_at a items e p ≡ true → HasLeft a e p.present
has_left a marks items positions.Document p m i h alive = any_left a marks positions.Document p.present (λ r. refl) m h
has_left a marks items positions.Content p m i h alive = any_left a marks positions.Content p.present (λ r. refl) m h
has_left a marks items positions.More p m i h alive = any_left a marks positions.More p.present (λ r. refl) m h
has_left a marks items positions.Item p m i h alive = let d : HasItemDocument a p.present = i.some p.present alive in record { left = d.document; may = d.item; proper = d.proper; accepted = d.accepted }
has_left a marks items positions.Closing p m i h alive = record { left = empty; may = refl; proper = refl; accepted = alive }
has_left a marks items positions.Closed p m i h alive = record { left = empty; may = refl; proper = refl; accepted = alive }

module _ (a : Automaton) (s : State) (marks items : List Bool) (e : Position) (now : List Pair) (wss : List (List Waiting)) (ts : List Terminal) where
  pub alive_begins : Keeps a s marks e now wss ts → AreMarks a marks → AreItemMarks a items → list_any (is_alive_at a items e) now ≡ true → BeginsAccepted a s ts
  alive_begins k m i h =
      let f : Found (is_alive_at a items e) now = found (is_alive_at a items e) now h in
      let p : Pair = f.item in
      let sound = and_parts (is_marked marks p.present) (is_first wss p.first) (pass_at (is_sound marks wss) now f.place p k.sound f.there) in
      let l : HasLeft a e p.present = has_left a marks items e p m i sound.0 f.passes in
      let r : HasRests a wss p.first = has_rests a marks wss p.first m k.waiting sound.1 in
      let count : length r.rests ≡ length k.frames = r.count ∙ sym k.depth in
      let d : Document = whole k.frames (join k.front l.left) r.rests in
      let up = up_of k.frames (join k.front l.left) r.rests count in
      let rest = spell_rest e l.left up.0 l.may in
      record {
        more = rest.0;
        document = d;
        spells = (k.grammar rest.0 d).1 (l.left, up.0, rest.1, up.1);
        within = record {
          proper = k.proper l.left r.rests l.proper r.proper;
          accepted = k.accepted l.left r.rests count
              ∙ any_passes_from_place (completes_by a wss l.left r.rests) now f.place p f.there (and_from (accepts a l.left p.present) _ l.accepted r.finish);
        };
      }

  pub dead_begins_none : Keeps a s marks e now wss ts → AreItemMarks a items → list_any (is_alive_at a items e) now ≡ false → BeginsAccepted a s ts → ⊥
  dead_begins_none k i dead b =
      let c = (k.grammar b.more b.document).0 b.spells in
      let r : AreRests k.frames (join k.front c.0) b.document = rests_of k.frames (join k.front c.0) c.1 b.document c.3 in
      let some : list_any (completes_by a wss c.0 r.rests) now ≡ true = sym (k.accepted c.0 r.rests r.count) ∙ ap (λ d. accepts a d s) r.is ∙ b.within.accepted in
      let f : Found (completes_by a wss c.0 r.rests) now = found (completes_by a wss c.0 r.rests) now some in
      let taken : accepts a c.0 f.item.present ≡ true = (and_parts (accepts a c.0 f.item.present) (finishes a wss f.item.first r.rests) f.passes).0 in
      let alive : list_any (is_alive_at a items e) now ≡ true = any_passes_from_place (is_alive_at a items e) now f.place f.item f.there (lives e f.item c.0 (left_may e c.0 b.more c.1 c.2) taken) in
      let t : true ≡ false = sym alive ∙ dead in absurd (cc)
    where
      with_item : (q : State) (r : Document) → has_item r ≡ true → accepts a r q ≡ true → (b : Bool) → is_marked items q ≡ b → b ≡ true
      with_item q r h t true is = refl
      with_item q r h t false is = absurd (let x : true ≡ false = sym t ∙ i.none q is r h in cc)

      last_is : (q : State) (r : Document) → not (has_item r) ≡ true → accepts a r q ≡ true → (moves_at a q).last ≡ true
      last_is q empty h t = t
      last_is q (text u r) h t = absurd (cc)
      last_is q (element l c r) h t = absurd (cc)

      lives : (e : Position) (p : Pair) (r : Document) → may_be_left e r ≡ true → accepts a r p.present ≡ true → is_alive_at a items e p ≡ true
      lives positions.Document p r h t = refl
      lives positions.Content p r h t = refl
      lives positions.More p r h t = refl
      lives positions.Item p r h t = with_item p.present r h t (is_marked items p.present) refl
      lives positions.Closing p r h t = last_is p.present r h t
      lives positions.Closed p r h t = last_is p.present r h t
