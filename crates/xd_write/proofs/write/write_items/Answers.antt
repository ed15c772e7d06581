use Rattle.std.proofs.Common.{◌≡◌, ◌+◌, [], ◌∷◌, ◌++◌, ap, arith}
use Rattle.xd_doc.specs.Document.{items_text, size, comma_before, escaped_all}
use Rattle.xd_doc.specs.DocumentCode.{rest_of, content_of}
use Rattle.xd_doc.specs.Stored.{document_at}
use Rattle.xd_doc.proofs.StoredLemmas.{belong-push, belong-front}
use Rattle.xd_doc.proofs.Results.{on_err}
use Rattle.xd_write.proofs.WriteLemmas.{closing, is_text, is_element, is_empty, closing-push, weight-push, written_part, piece_part, piece_written, pieces_written, label_part, label_written}
use Rattle.xd_write.proofs.write.write_items.Goals as goal

pub loop-outers-smaller-in-Continue-branch-2 : goal.loop-outers-smaller-in-Continue-branch-2
loop-outers-smaller-in-Continue-branch-2 c =
    let e = is_empty _ c.in-None.ensures in
    let w = weight-push c.args.store.now c.pop.new.self.items c.in-Some.outer in
    rw c.in-Some.ensures.items (omega (arith, w))

pub loop-outers-preserved-in-Continue-branch-2 : goal.loop-outers-preserved-in-Continue-branch-2
loop-outers-preserved-in-Continue-branch-2 c =
    let i = c.loop-outers.invariant in
    let b = belong-front c.args.store.now c.pop.new.self.items c.in-Some.outer (rw c.in-Some.ensures.items at i.outers) in
    let h = rw (is_empty _ c.in-None.ensures, c.in-Some.ensures.items, closing-push) at i.written in
    record {
      here = b.1;
      outers = b.0;
      written = pieces_written _ _ _ _ _ (93 ∷ []) _ _ _ h c.in_ok-push-in-Some.ensures.items c.in_ok-write_comma-in-Some.ensures.ok;
    }

pub returns-in_err-write_comma-in-Some-clause-err : goal.returns-in_err-write_comma-in-Some-clause-err
returns-in_err-write_comma-in-Some-clause-err c =
    let i = c.loop-outers.invariant in
    let h = rw (is_empty _ c.in-None.ensures, c.in-Some.ensures.items, closing-push) at i.written in
    rw c.in_err-write_comma-in-Some.ensures.err (on_err _ (written_part _ _ _ _ (piece_written _ _ _ _ (93 ∷ []) (comma_before (document_at c.args.store.now c.in-Some.outer)) (items_text (document_at c.args.store.now c.in-Some.outer)) _ h c.in_ok-push-in-Some.ensures.items)))

pub returns-in_err-write_text-in-Some-Text-clause-err : goal.returns-in_err-write_text-in-Some-Text-clause-err
returns-in_err-write_text-in-Some-Text-clause-err c =
    let h = rw (is_text _ _ _ c.in-Some-Text.ensures c.in-Some-Text.field-0-is) at c.loop-outers.invariant.written in
    let t = rw c.as_str.ensures.bytes at c.in_err-write_text-in-Some-Text.ensures.err in
    let r = rest_of (document_at c.args.store.now c.loop-outers.rest) in
    on_err _ (piece_part _ _ _ _ (34 ∷ escaped_all c.in-Some-Text.text ++ 34 ∷ []) (comma_before r) (items_text r) _ h t)

pub loop-outers-preserved-in-Continue-branch-4 : goal.loop-outers-preserved-in-Continue-branch-4
loop-outers-preserved-in-Continue-branch-4 c =
    let i = c.loop-outers.invariant in
    let h = rw (is_text _ _ _ c.in-Some-Text.ensures c.in-Some-Text.field-0-is) at i.written in
    let n = c.next-rest.ensures.rest in
    let t = rw c.as_str.ensures.bytes at c.in_ok-write_text-in-Some-Text.ensures.ok in
    let m = rw n at c.in_ok-write_comma-in-Some-Text.ensures.ok in
    record {
      here = c.next-rest.ensures.belongs;
      outers = i.outers;
      written = rw n (pieces_written _ _ _ _ _ _ _ _ _ h t m);
    }

pub returns-in_err-write_comma-in-Some-Text-clause-err : goal.returns-in_err-write_comma-in-Some-Text-clause-err
returns-in_err-write_comma-in-Some-Text-clause-err c =
    let h = rw (is_text _ _ _ c.in-Some-Text.ensures c.in-Some-Text.field-0-is) at c.loop-outers.invariant.written in
    let t = rw c.as_str.ensures.bytes at c.in_ok-write_text-in-Some-Text.ensures.ok in
    let r = rest_of (document_at c.args.store.now c.loop-outers.rest) in
    rw c.in_err-write_comma-in-Some-Text.ensures.err (on_err _ (written_part _ _ _ _ (piece_written _ _ _ _ (34 ∷ escaped_all c.in-Some-Text.text ++ 34 ∷ []) (comma_before r) (items_text r) _ h t)))

pub returns-in_err-write_label-in-Some-Elem-clause-err : goal.returns-in_err-write_label-in-Some-Elem-clause-err
returns-in_err-write_label-in-Some-Elem-clause-err c =
    let d = document_at c.args.store.now c.loop-outers.rest in
    let h = rw (is_element _ _ _ c.in-Some-Elem.ensures c.in-Some-Elem.field-0-is) at c.loop-outers.invariant.written in
    let t = rw c.as_str-in-Some-Elem.ensures.bytes at c.in_err-write_label-in-Some-Elem.ensures.err in
    on_err _ (label_part _ _ _ _ c.in-Some-Elem.label (items_text (content_of d)) (comma_before (rest_of d)) (items_text (rest_of d)) _ h t)

pub returns-in_err-push-in-Some-Elem-clause-err : goal.returns-in_err-push-in-Some-Elem-clause-err
returns-in_err-push-in-Some-Elem-clause-err c =
    let d = document_at c.args.store.now c.loop-outers.rest in
    let h = rw (is_element _ _ _ c.in-Some-Elem.ensures c.in-Some-Elem.field-0-is) at c.loop-outers.invariant.written in
    let t = rw c.as_str-in-Some-Elem.ensures.bytes at c.in_ok-write_label-in-Some-Elem.ensures.ok in
    on_err _ (written_part _ _ _ _ (label_written _ _ _ _ c.in-Some-Elem.label (items_text (content_of d)) (comma_before (rest_of d)) (items_text (rest_of d)) (closing c.args.store.now c.loop-outers.outers.items) h t))

pub loop-outers-smaller : goal.loop-outers-smaller
loop-outers-smaller c =
    let d = is_element _ _ _ c.in-Some-Elem.ensures c.in-Some-Elem.field-0-is in
    let s : size (document_at c.args.store.now c.loop-outers.rest) ≡ size (content_of (document_at c.args.store.now c.loop-outers.rest)) + size (rest_of (document_at c.args.store.now c.loop-outers.rest)) + 1 = ap size d in
    let w = weight-push c.args.store.now c.loop-outers.outers.items c.next.result in
    rw (c.in_ok-push-in-Some-Elem.ensures.items, c.content-rest.ensures.inner) (omega (arith, w, ap size c.next.ensures.rest))

pub loop-outers-preserved : goal.loop-outers-preserved
loop-outers-preserved c =
    let i = c.loop-outers.invariant in
    let d = document_at c.args.store.now c.loop-outers.rest in
    let h = rw (is_element _ _ _ c.in-Some-Elem.ensures c.in-Some-Elem.field-0-is) at i.written in
    let t = rw c.as_str-in-Some-Elem.ensures.bytes at c.in_ok-write_label-in-Some-Elem.ensures.ok in
    record {
      here = c.content-rest.ensures.belongs;
      outers = rw c.in_ok-push-in-Some-Elem.ensures.items (belong-push _ _ _ i.outers c.next.ensures.belongs);
      written = rw (c.in_ok-push-in-Some-Elem.ensures.items, closing-push, c.content-rest.ensures.inner, c.next.ensures.rest)
          (label_written _ _ _ _ c.in-Some-Elem.label (items_text (content_of d)) (comma_before (rest_of d)) (items_text (rest_of d)) (closing c.args.store.now c.loop-outers.outers.items) h t);
    }
